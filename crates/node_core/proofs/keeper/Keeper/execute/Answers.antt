-- The reply that was sent is recorded, and the machine is as the request left it.
use Rattle.std.proofs.Common.{◌≤◌, refl, ap, ◌∙◌, subst, arith, rules, length-take}
use Rattle.std.specs.Prelude.{IsTrue}
use Rattle.cl_types.specs.declared.reply.Reply.{Reply}
use Rattle.frame_model.specs.Frames.{Item, is_reply_of, kind_of, reply_frame}
use Rattle.node_model.specs.Handling.{item_outcome}
use Rattle.flat_model.specs.State.{FlatState}
use Rattle.node_core.specs.Keeping.{KeptNode, item_of}
use Rattle.node_core.proofs.Recorded.{MayNote, executed, may_note, named_apart, shown, sound_noted}
use Rattle.node_core.proofs.Smalls.{changing_is_small, executed_short, kept_of_executed}
use Rattle.node_core.proofs.keeper.Keeper.execute.Goals as goal

pub note-requires-clause-room : goal.note-requires-clause-room
note-requires-clause-room g c =
    let item : Item = item_of c.args.head.now c.args.request.now in
    let shows = shown _ _ c.self.inside.retry c.self.inside.last c.args.self.now c.self.view_is in
    (may_note c.args.self.now c.self.inside.retry c.self.inside.last item shows c.requires.executes).room

pub note-requires-clause-apart : goal.note-requires-clause-apart
note-requires-clause-apart g c =
    let item : Item = item_of c.args.head.now c.args.request.now in
    let shows = shown _ _ c.self.inside.retry c.self.inside.last c.args.self.now c.self.view_is in
    named_apart c.self.inside.retry item c.kind_of-kind.result c.kind_of-kind.ensures
    (may_note c.args.self.now c.self.inside.retry c.self.inside.last item shows c.requires.executes).apart

pub small_in-reply-requires-clause-short : goal.small_in-reply-requires-clause-short
small_in-reply-requires-clause-short g c =
    let item : Item = item_of c.args.head.now c.args.request.now in
    let shows = shown _ _ c.self.inside.retry c.self.inside.last c.args.self.now c.self.view_is in
    let may : MayNote c.self.inside.retry c.self.inside.last item =
    may_note c.args.self.now c.self.inside.retry c.self.inside.last item shows c.requires.executes in
    let flat = ap (λ (k : KeptNode). k.node.flat) c.self.view_is in
    let reply = c.execute-placed.ensures.reply ∙ ap (λ (s : FlatState). (item_outcome s item).reply) flat in
    let short : c.write_frame-len.result ≤ 43 = executed_short c.args.self.now.node.flat item c.kind_of-kind.result c.execute-placed.result c.execute-placed.new.out c.write_frame-len.new.out
    c.write_frame-len.result may.changes c.execute-placed.ensures.fits reply c.write_frame-len.ensures.written in
    omega (arith, length-take c.write_frame-len.result c.write_frame-len.new.out)

pub invariant_of-self : goal.invariant_of-self
invariant_of-self g c =
    let item : Item = item_of c.args.head.now c.args.request.now in
    let shows = shown _ _ c.self.inside.retry c.self.inside.last c.args.self.now c.self.view_is in
    let may : MayNote c.self.inside.retry c.self.inside.last item =
    may_note c.args.self.now c.self.inside.retry c.self.inside.last item shows c.requires.executes in
    let flat = ap (λ (k : KeptNode). k.node.flat) c.self.view_is in
    let reply = c.execute-placed.ensures.reply ∙ ap (λ (s : FlatState). (item_outcome s item).reply) flat in
    let kept = kept_of_executed c.args.self.now.node.flat item c.kind_of-kind.result c.execute-placed.result c.execute-placed.new.out c.write_frame-len.new.out
    c.write_frame-len.result c.small_in-reply.result c.requires.head c.kind_of-kind.ensures may.changes
    c.execute-placed.ensures.fits reply c.write_frame-len.ensures.written c.small_in-reply.ensures in
    sound_noted c.self.inside.retry c.note.new.self c.self.inside.last _ c.self.invariant c.note.ensures.noted c.note.ensures.valid refl kept.spelled

pub returns-clause-node : goal.returns-clause-node
returns-clause-node g c =
    let item : Item = item_of c.args.head.now c.args.request.now in
    let noted = c.self.inside.retry in
    let shows = shown _ _ noted c.self.inside.last c.args.self.now c.self.view_is in
    let may : MayNote noted c.self.inside.last item = may_note c.args.self.now noted c.self.inside.last item shows c.requires.executes in
    let flat = ap (λ (k : KeptNode). k.node.flat) c.self.view_is in
    let state = c.execute-placed.ensures.state ∙ ap (λ (s : FlatState). (item_outcome s item).state) flat in
    let reply = c.execute-placed.ensures.reply ∙ ap (λ (s : FlatState). (item_outcome s item).reply) flat in
    let kept = kept_of_executed c.args.self.now.node.flat item c.kind_of-kind.result c.execute-placed.result c.execute-placed.new.out
    c.write_frame-len.new.out c.write_frame-len.result c.small_in-reply.result c.requires.head c.kind_of-kind.ensures may.changes
    c.execute-placed.ensures.fits reply c.write_frame-len.ensures.written c.small_in-reply.ensures in
    executed c.args.self.now noted c.note.new.self c.self.inside.last item _ _ _ shows state c.note.ensures.noted
    (λ i. record {
      moment = c.self.inside.last;
      name = record { client = item.head.client; kind = c.kind_of-kind.ensures i; orig = item.head.orig };
      reply = kept.stands i;
    })

pub returns-clause-answer : goal.returns-clause-answer
returns-clause-answer g c =
    let item : Item = item_of c.args.head.now c.args.request.now in
    let shows = shown _ _ c.self.inside.retry c.self.inside.last c.args.self.now c.self.view_is in
    let may : MayNote c.self.inside.retry c.self.inside.last item =
    may_note c.args.self.now c.self.inside.retry c.self.inside.last item shows c.requires.executes in
    let flat = ap (λ (k : KeptNode). k.node.flat) c.self.view_is in
    let reply = c.execute-placed.ensures.reply ∙ ap (λ (s : FlatState). (item_outcome s item).reply) flat in
    let written = c.write_frame-len.ensures.written in (
      refl,
      search rules,
      c.write_frame-len.ensures.short,
      written.spelling ∙ (λ i. reply_frame c.args.head.now (c.kind_of-kind.ensures i) (reply i)),
      subst (λ (r : Reply). IsTrue (is_reply_of (kind_of item.request) r)) reply
          (changing_is_small c.args.self.now.node.flat item.head.pid item.request c.execute-placed.result c.execute-placed.new.out may.changes c.execute-placed.ensures.fits reply).carried,
    )
