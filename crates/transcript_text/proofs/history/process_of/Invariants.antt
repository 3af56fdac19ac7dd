use Rattle.std.proofs.Common.{◌≡◌, ◌==◌, find, take, None}
use Rattle.transcript_text.proofs.history.process_of.Given as goal

abbrev pub invariant-loop-given : goal.invariant-loop-given
invariant-loop-given l = find (λ given. given.0.0 == l.client.0) (take l.given-index l.clients) ≡ None
