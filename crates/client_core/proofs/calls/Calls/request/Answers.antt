use Rattle.std.proofs.Common.{◌∙◌, ap, sym}
use Rattle.std.specs.Prelude.{is_some}
use Rattle.client_core.specs.Held.{Holding, request_at}
use Rattle.client_core.proofs.Edits.{request_here, some_within}
use Rattle.client_core.proofs.calls.Calls.request.Goals as goal

pub part-requires : goal.part-requires
part-requires c =
    some_within _ c.args.part.part
    (ap is_some (sym (request_here c.self.inside.rows c.place-at.result c.args.part c.row.result.now c.place-at.ensures.there c.row.ensures)) ∙ ap (λ (z : Holding). is_some (request_at z.held c.args.part)) c.self.view_is ∙ c.requires)

pub returns : goal.returns
returns c = rw (← c.self.view_is) (request_here c.self.inside.rows c.place-at.result c.args.part c.row.result.now c.place-at.ensures.there c.row.ensures ∙ c.part.ensures)
