-- A page's entry tells its bytes.
use Rattle.std.proofs.Common.{◌≡◌, ℕ, ◌+◌, ◌≤◌, length, Some, None, option_map, sym, ap, ◌∙◌, arith}
use Rattle.cl_types.specs.Bytes.{bytes_at}
use Rattle.cl_types.specs.Pages.{offset_of, page_of}
use Rattle.flat_model.specs.State.{Page, bytes_of}
use Rattle.data_path.specs.Store.{page_in}
use Rattle.data_path.proofs.Framing.{frame_within}
use Rattle.node_core.specs.Keeping.{KeptMemory}
use Rattle.node_core.proofs.Memories.{page_seen, process_of}
use Rattle.node_core.proofs.memory.Memory.peek.Goals as goal

pub returns-in_default-clause-shown : goal.returns-in_default-clause-shown
returns-in_default-clause-shown c =
    let seen = page_seen c.self.inside.store c.self.inside.host c.args.self.now.flat c.args.pid c.number.result (page_of c.args.addr) c.page_of.result.0 None (ap (λ (m : KeptMemory). m.flat) c.self.view_is)
    (process_of c.args.pid c.number.result c.number.ensures.value c.number.ensures.range) c.number.ensures.value c.page_of.ensures (sym c.in_default.is ∙ c.peek.ensures) in
    sym (ap (option_map (λ (page : Page). bytes_at (offset_of c.args.addr) (length c.args.out.now) (bytes_of page))) seen)

pub show-requires-clause-within : goal.show-requires-clause-within
show-requires-clause-within c = omega (arith, c.requires.within, c.offset_of.ensures)

pub show-requires-clause-framed : goal.show-requires-clause-framed
show-requires-clause-framed c = frame_within c.self.inside.store c.self.invariant.store.whole.fit _ c.in-Some.pte (sym (sym c.in-Some.is ∙ c.peek.ensures))

pub returns-clause-shown : goal.returns-clause-shown
returns-clause-shown c =
    let s = c.self.inside.store in
    let n = length c.args.out.now in
    let at = offset_of c.args.addr in
    let seen = page_seen s c.self.inside.host c.args.self.now.flat c.args.pid c.number.result (page_of c.args.addr) c.page_of.result.0 (Some c.in-Some.pte) (ap (λ (m : KeptMemory). m.flat) c.self.view_is)
    (process_of c.args.pid c.number.result c.number.ensures.value c.number.ensures.range) c.number.ensures.value c.page_of.ensures (sym c.in-Some.is ∙ c.peek.ensures) in
    let bytes = c.show.ensures ∙ ap (λ (k : ℕ). bytes_at k n (bytes_of (page_in s.arena c.in-Some.pte))) c.offset_of.ensures in
    ap Some bytes ∙ sym (ap (option_map (λ (page : Page). bytes_at at n (bytes_of page))) seen)
