-- The buffer tells how the request is handled.
use Rattle.std.proofs.Common.{◌≡◌, true, refl, sym, ◌∙◌}
use Rattle.cl_types.specs.Requests.{is_changing}
use Rattle.frame_model.specs.Frames.{Item}
use Rattle.node_core.specs.Keeping.{item_of}
use Rattle.node_core.proofs.Recorded.{looked, repeated, shown, unrecorded_by_look}
use Rattle.node_core.proofs.keeper.Keeper.judge.Goals as goal

pub returns-in-Some-clause-handling : goal.returns-in-Some-clause-handling
returns-in-Some-clause-handling g c =
    let item : Item = item_of c.args.head.now c.args.request.now in
    let noted = c.self.inside.retry in
    let shows = shown _ _ noted c.self.inside.last c.args.self.now c.self.view_is in
    let changes : is_changing item.request ≡ true = sym c.changes.ensures ∙ c.if-not-changes.false in
    let found = looked noted item c.kind_of.result c.look.result c.kind_of.ensures c.look.ensures ∙ c.in-Some.is in
    (repeated c.args.self.now noted c.self.inside.last item c.in-Some.reply shows c.self.invariant changes found).handled

pub returns-in-Some-clause-spelled : goal.returns-in-Some-clause-spelled
returns-in-Some-clause-spelled g c =
    let item : Item = item_of c.args.head.now c.args.request.now in
    let noted = c.self.inside.retry in
    let shows = shown _ _ noted c.self.inside.last c.args.self.now c.self.view_is in
    let changes : is_changing item.request ≡ true = sym c.changes.ensures ∙ c.if-not-changes.false in
    let found = looked noted item c.kind_of.result c.look.result c.kind_of.ensures c.look.ensures ∙ c.in-Some.is in
    (repeated c.args.self.now noted c.self.inside.last item c.in-Some.reply shows c.self.invariant changes found).spelled

pub returns-in-Ok-clause-handling : goal.returns-in-Ok-clause-handling
returns-in-Ok-clause-handling g c =
    let item : Item = item_of c.args.head.now c.args.request.now in
    let noted = c.self.inside.retry in
    let shows = shown _ _ noted c.self.inside.last c.args.self.now c.self.view_is in
    let changes : is_changing item.request ≡ true = sym c.changes.ensures ∙ c.if-not-changes.false in
    let none = looked noted item c.kind_of.result c.look.result c.kind_of.ensures c.look.ensures ∙ c.in_default.is in
    sym (unrecorded_by_look c.args.self.now noted c.self.inside.last item shows changes none ∙ c.in-Ok.ensures.room.0 refl)

pub returns-in-Err-clause-handling : goal.returns-in-Err-clause-handling
returns-in-Err-clause-handling g c =
    let item : Item = item_of c.args.head.now c.args.request.now in
    let noted = c.self.inside.retry in
    let shows = shown _ _ noted c.self.inside.last c.args.self.now c.self.view_is in
    let changes : is_changing item.request ≡ true = sym c.changes.ensures ∙ c.if-not-changes.false in
    let none = looked noted item c.kind_of.result c.look.result c.kind_of.ensures c.look.ensures ∙ c.in_default.is in
    sym (unrecorded_by_look c.args.self.now noted c.self.inside.last item shows changes none ∙ c.in-Err.ensures.young.0)
