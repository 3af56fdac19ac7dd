-- What a client does not take as a reply leaves it.
use Rattle.std.proofs.Common.{◌≡◌, refl, true, arith}
use Rattle.std.specs.Prelude.{not}
use Rattle.client_model.specs.Client.{ClientState}
use Rattle.client_model.specs.Hearing.{is_reply, Hearing, HearsReply, hearing, after_hearing}
use Rattle.client_laws.specs.JunkHeard.{Asked, ToHear, client_machine, is_junk_heard, LawOfJunkHeard}
use Rattle.lemmas.proofs.Machines.{junk_is_nothing}

-- bytes that are no reply to take leave the client
heard_stays : (s : ClientState) (heard : Hearing) → not (is_reply heard) ≡ true → after_hearing heard s ≡ s
heard_stays s (HearsReply flight reply) junk = grind arith
heard_stays s other junk = refl

-- and so does all that it answers with junk
asked_stays : (s : ClientState) (asked : Asked) → is_junk_heard (client_machine.answer s asked) ≡ true → client_machine.after s asked ≡ s
asked_stays s (ToHear bytes) junk = heard_stays s (hearing s bytes) junk
asked_stays s other junk = grind arith

pub law_of_junk_heard : LawOfJunkHeard
law_of_junk_heard s given = junk_is_nothing client_machine is_junk_heard asked_stays given s
