use Rattle.std.proofs.Common.{◌∙◌, ap}
use Rattle.std.specs.Prelude.{option_map}
use Rattle.client_core.specs.Held.{has_unsent}
use Rattle.client_core.proofs.Edits.{is_at, kept_sent, sent_so, some_held}
use Rattle.client_core.proofs.calls.Calls.note_sent.Goals as goal

pub note_sent-requires : goal.note_sent-requires
note_sent-requires c = ap (option_map has_unsent) c.place-at.ensures.there ∙ (rw (← c.self.view_is) at c.requires.unsent)

pub invariant_of-self : goal.invariant_of-self
invariant_of-self c =
    let held = some_held c.args.no.0 c.self.inside.rows (rw (← c.self.view_is) at c.requires.unsent) in
    let found = is_at c.self.inside.rows c.place-at.result c.args.no.0 held.0 c.place-at.ensures.there held.1 in
    kept_sent c.place-at.result held.0 c.self.invariant found.there (c.note_sent.ensures held.0 found.there)

pub returns-clause-held : goal.returns-clause-held
returns-clause-held c =
    let going = rw (← c.self.view_is) at c.requires.going in
    let held = some_held c.args.no.0 c.self.inside.rows (rw (← c.self.view_is) at c.requires.unsent) in
    let found = is_at c.self.inside.rows c.place-at.result c.args.no.0 held.0 c.place-at.ensures.there held.1 in
    rw (← c.self.view_is) (sent_so c.self.inside.rows c.note_sent.new.self c.place-at.result c.args.no.0 held.0 going.last going.rising found (c.note_sent.ensures held.0 found.there))
