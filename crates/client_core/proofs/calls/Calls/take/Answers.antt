use Rattle.std.proofs.Common.{◌≡◌, ap, ◌∙◌, subst, sym, refl, None, Some, arith, length, map, ◌+◌, ◌≤◌}
use Rattle.std.specs.Prelude.{option_map, slice_get}
use Rattle.cl_types.specs.Requests.{reply_of}
use Rattle.client_model.specs.Cut.{Replied}
use Rattle.client_model.specs.Order.{is_fence}
use Rattle.call_cut.specs.Taking.{TakesFor}
use Rattle.std.proofs.lemmas.List.{length-set}
use Rattle.client_core.specs.Held.{Held, with_came}
use Rattle.client_core.specs.Rows.{finished_of}
use Rattle.client_core.specs.Valid.{AreRising}
use Rattle.client_core.proofs.Edits.{Goes, at_only, came_so, each_at, is_at, kept_came, numbers_set, others_set, set_there}
use Rattle.client_core.proofs.Naming.{numbers}
use Rattle.client_core.proofs.calls.Calls.take.Goals as goal

pub take-requires-clause-still : goal.take-requires-clause-still
take-requires-clause-still c =
    let found = is_at c.self.inside.rows c.place-at.result c.args.part.call.0 c.requires.awaited.h c.place-at.ensures.there (rw (← c.self.view_is) at c.requires.awaited.there) in
    at_only (λ h. slice_get h.came c.args.part.part ≡ Some None) c.self.inside.rows c.place-at.result c.requires.awaited.h found.there c.requires.awaited.still

pub take-requires-clause-fits : goal.take-requires-clause-fits
take-requires-clause-fits c =
    let found = is_at c.self.inside.rows c.place-at.result c.args.part.call.0 c.requires.awaited.h c.place-at.ensures.there (rw (← c.self.view_is) at c.requires.awaited.there) in
    at_only (λ h. TakesFor h.call c.args.part.part (reply_of c.args.reply.now)) c.self.inside.rows c.place-at.result c.requires.awaited.h found.there (c.requires.fits c.requires.awaited.h c.requires.awaited.there)

pub invariant_of-self : goal.invariant_of-self
invariant_of-self c =
    let found = is_at c.self.inside.rows c.place-at.result c.args.part.call.0 c.requires.awaited.h c.place-at.ensures.there (rw (← c.self.view_is) at c.requires.awaited.there) in
    kept_came c.place-at.result c.args.part.part (Replied (reply_of c.args.reply.now)) c.requires.awaited.h c.self.invariant found.there (c.take.ensures c.requires.awaited.h found.there)

pub end_where_over-requires-clause-few : goal.end_where_over-requires-clause-few
end_where_over-requires-clause-few c =
    let found = is_at c.self.inside.rows c.place-at.result c.args.part.call.0 c.requires.awaited.h c.place-at.ensures.there (rw (← c.self.view_is) at c.requires.awaited.there) in
    let going = rw (← c.self.view_is) at c.requires.going in
    let few : length c.self.inside.rows + length (map finished_of c.self.inside.ended.items) ≤ 256 = going.few in
    omega (arith, few, ap (length {A = Held}) (c.take.ensures c.requires.awaited.h found.there), length-set c.self.inside.rows c.place-at.result (with_came c.args.part.part (Replied (reply_of c.args.reply.now)) c.requires.awaited.h))

pub end_where_over-requires-clause-apart : goal.end_where_over-requires-clause-apart
end_where_over-requires-clause-apart c =
    let found = is_at c.self.inside.rows c.place-at.result c.args.part.call.0 c.requires.awaited.h c.place-at.ensures.there (rw (← c.self.view_is) at c.requires.awaited.there) in
    let going = rw (← c.self.view_is) at c.requires.going in
    (going.last, subst (AreRising 0 going.last) (sym (ap numbers (c.take.ensures c.requires.awaited.h found.there) ∙ numbers_set c.self.inside.rows c.place-at.result c.requires.awaited.h (with_came c.args.part.part (Replied (reply_of c.args.reply.now)) c.requires.awaited.h) found.there refl)) going.rising)

pub end_where_over-requires-clause-there : goal.end_where_over-requires-clause-there
end_where_over-requires-clause-there c =
    let found = is_at c.self.inside.rows c.place-at.result c.args.part.call.0 c.requires.awaited.h c.place-at.ensures.there (rw (← c.self.view_is) at c.requires.awaited.there) in
    ap (λ hs. option_map (λ (h : Held). is_fence h.call) (slice_get hs c.place-at.result)) (c.take.ensures c.requires.awaited.h found.there)
    ∙ ap (option_map (λ (h : Held). is_fence h.call)) (set_there c.self.inside.rows c.place-at.result (with_came c.args.part.part (Replied (reply_of c.args.reply.now)) c.requires.awaited.h) c.requires.awaited.h found.there)
    ∙ ap (λ b. Some b) c.requires.awaited.no_fence

pub end_where_over-requires-clause-others : goal.end_where_over-requires-clause-others
end_where_over-requires-clause-others c = λ i g e ne.
    let found = is_at c.self.inside.rows c.place-at.result c.args.part.call.0 c.requires.awaited.h c.place-at.ensures.there (rw (← c.self.view_is) at c.requires.awaited.there) in
    let going = rw (← c.self.view_is) at c.requires.going in
    each_at Goes c.self.inside.rows i g going.going
    (others_set c.self.inside.rows c.place-at.result i (with_came c.args.part.part (Replied (reply_of c.args.reply.now)) c.requires.awaited.h) g (ap (λ hs. slice_get hs i) (sym (c.take.ensures c.requires.awaited.h found.there)) ∙ e) ne)

pub returns-clause-calls : goal.returns-clause-calls
returns-clause-calls c =
    let found = is_at c.self.inside.rows c.place-at.result c.args.part.call.0 c.requires.awaited.h c.place-at.ensures.there (rw (← c.self.view_is) at c.requires.awaited.there) in
    let going = rw (← c.self.view_is) at c.requires.going in
    came_so c.args.self.now c.end_where_over.new.self c.self.inside.rows c.take.new.self c.self.inside.ended.items c.place-at.result c.requires.awaited.h c.args.part (Replied (reply_of c.args.reply.now)) going.last c.self.view_is going.rising found
    (c.take.ensures c.requires.awaited.h found.there) c.end_where_over.ensures.calls
