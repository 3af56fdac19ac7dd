use Rattle.std.proofs.Common.{◌*◌, ◌∙◌, ℕ, Some, sym, ap, subst}
use Rattle.cl_types.specs.declared.reply.Reply.{Reply}
use Rattle.cl_types.specs.declared.reply.Reply.TheVariants.{At}
use Rattle.hash_buckets.specs.PageMap.{PageMap, IsValid}
use Rattle.range_alloc.specs.Ranges.{AreRanges, frame_at}
use Rattle.range_alloc.proofs.Entries.{sorted_table}
use Rattle.range_alloc.proofs.Fitting.{some_pages}
use Rattle.flat_model.specs.Step.{Transition}
use Rattle.data_path.specs.Store.{memory_of, spans_in, IsWhole}
use Rattle.data_path.proofs.Listing.{listed_joined, none_begins, room_joined}
use Rattle.data_path.proofs.Ranging.{alloc_is, memory_joined, fit_joined, spans_joined, start_new, whole_joined}
use Rattle.data_path.proofs.Spans.{sorted_spans}
use Rattle.data_path.proofs.store.PageStore.alloc_range.Goals as goal

pub add-requires-clause-room : goal.add-requires-clause-room
add-requires-clause-room c =
    let s = c.args.self.now in
    let some = some_pages c.args.pages c.requires.pages in
    let found = c.in-Some.ensures.start in
    let is = c.in-Some.ensures.some in
    room_joined s.ranges (spans_in s.table.entries) c.map_range.new.table s.table.buckets c.args.space.0 c.in-Some.start.0 c.args.pages c.requires.whole.listed
    (sorted_spans s.table.entries (sorted_table s.table c.requires.whole.fit.valid))
    (start_new s c.args.space.0 c.in-Some.start.0 c.args.pages c.args.perm c.requires.whole.fit some found)
    (ap (λ (t : PageMap). spans_in t.entries) is ∙ spans_joined s c.args.space.0 c.in-Some.start.0 c.args.pages c.args.perm c.requires.whole.fit some found)
    (ap (λ (t : PageMap). t.buckets) is) c.in-Some.ensures.valid

pub add-requires-clause-absent : goal.add-requires-clause-absent
add-requires-clause-absent c =
    let s = c.args.self.now in
    none_begins c.in-Some.start.0 _ (c.requires.whole.listed.named c.args.space.0 c.in-Some.start.0 c.requires.process
    ∙ start_new s c.args.space.0 c.in-Some.start.0 c.args.pages c.args.perm c.requires.whole.fit (some_pages c.args.pages c.requires.pages) c.in-Some.ensures.start)

pub returns-in-Some-clause-reply : goal.returns-in-Some-clause-reply
returns-in-Some-clause-reply c =
    ap (λ (n : ℕ). let reply : Reply = At (record { 0 = n * 4096 }) in reply) c.from.ensures
    ∙ sym (ap (λ (o : Transition). o.reply) (alloc_is c.args.self.now c.args.space.0 c.args.pages c.args.perm (Some c.in-Some.start.0) c.in-Some.ensures.start))

pub returns-in-Some-clause-memory : goal.returns-in-Some-clause-memory
returns-in-Some-clause-memory c =
    let s = c.args.self.now in
    ap (λ (t : PageMap). memory_of (record s { table = t })) c.in-Some.ensures.some
    ∙ memory_joined s c.args.space.0 c.in-Some.start.0 c.args.pages c.args.perm c.requires.whole.fit (some_pages c.args.pages c.requires.pages) c.in-Some.ensures.start
    ∙ sym (ap (λ (o : Transition). o.state) (alloc_is s c.args.space.0 c.args.pages c.args.perm (Some c.in-Some.start.0) c.in-Some.ensures.start))

pub returns-in-Some-clause-whole : goal.returns-in-Some-clause-whole
returns-in-Some-clause-whole c =
    let s = c.args.self.now in
    let is = c.in-Some.ensures.some in
    let some = some_pages c.args.pages c.requires.pages in
    let found = c.in-Some.ensures.start in
    let listed = listed_joined s.ranges c.add.new.self (spans_in s.table.entries) s.table.buckets c.args.space.0 c.in-Some.start.0 c.args.pages c.requires.whole.listed c.requires.process
    (sorted_spans s.table.entries (sorted_table s.table c.requires.whole.fit.valid)) c.add.ensures.others c.add.ensures.nodes c.add.ensures.last c.add.ensures.count c.requires.pages
    (start_new s c.args.space.0 c.in-Some.start.0 c.args.pages c.args.perm c.requires.whole.fit some found) in
    subst (λ (t : PageMap). IsWhole (record s { table = t; ranges = c.add.new.self })) (sym is)
    (whole_joined s c.args.space.0 c.in-Some.start.0 c.args.pages c.args.perm c.requires.whole some c.requires.process found
    (fit_joined s c.args.space.0 c.in-Some.start.0 c.args.pages c.args.perm c.requires.whole.fit some found
    (subst IsValid is c.in-Some.ensures.valid) (subst AreRanges is c.in-Some.ensures.ranges) (λ q. ap (λ (t : PageMap). frame_at t q) (sym is) ∙ c.in-Some.ensures.frames q)) c.add.new.self listed)

pub returns-in-None-clause-reply : goal.returns-in-None-clause-reply
returns-in-None-clause-reply c = sym (ap (λ (o : Transition). o.reply) (alloc_is c.args.self.now c.args.space.0 c.args.pages c.args.perm _ c.in-None.ensures.start))

pub returns-in-None-clause-memory : goal.returns-in-None-clause-memory
returns-in-None-clause-memory c =
    let s = c.args.self.now in
    ap (λ (t : PageMap). memory_of (record s { table = t })) c.in-None.ensures.none
    ∙ sym (ap (λ (o : Transition). o.state) (alloc_is s c.args.space.0 c.args.pages c.args.perm _ c.in-None.ensures.start))
