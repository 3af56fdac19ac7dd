use Rattle.std.proofs.Common.{◌+◌, ◌*◌, arith}
use Rattle.dep_order.specs.WaitLists.{number_list, offload_list, page_list}
use Rattle.index_lists.specs.NodeLists.{list_at}
use Rattle.dep_order.proofs.Joining.{grown_twice, grown_wider, free_node, still_free, stands_in_run, stands_on}
use Rattle.dep_order.proofs.wait_lists.join.Goals as goal

pub join_run-requires-clause-free : goal.join_run-requires-clause-free
join_run-requires-clause-free c = λ k below. free_node c.args.waits.now c.args.place (c.args.place * 20 + k) c.requires.apart (omega arith)

pub join_run-requires-2-clause-free : goal.join_run-requires-2-clause-free
join_run-requires-2-clause-free c = λ k below.
    let first = c.args.place * 20 in
    let node = first + 1 + k in
    let one = c.fence_lists.ensures.one in
    still_free c.args.waits.now c.join_run.new.waits first 1 node c.join_run.ensures.grown (omega arith) (free_node c.args.waits.now c.args.place node c.requires.apart (omega arith))

pub join_run-requires-3-clause-free : goal.join_run-requires-3-clause-free
join_run-requires-3-clause-free c = λ k below.
    let first = c.args.place * 20 in
    let node = first + 2 + k in
    let one = c.fence_lists.ensures.one in
    let one' = c.offload_lists.ensures.one in
    still_free c.join_run.new.waits c.join_run-2.new.waits (first + 1) c.fence_lists.result.count node c.join_run-2.ensures.grown (omega arith) (
    still_free c.args.waits.now c.join_run.new.waits first 1 node c.join_run.ensures.grown (omega arith) (free_node c.args.waits.now c.args.place node c.requires.apart (omega arith)))

pub join_run-requires-4-clause-free : goal.join_run-requires-4-clause-free
join_run-requires-4-clause-free c = λ k below.
    let first = c.args.place * 20 in
    let node = first + 3 + k in
    let one = c.fence_lists.ensures.one in
    let one' = c.offload_lists.ensures.one in
    let few = c.page_lists.ensures.few in
    still_free c.join_run-2.new.waits c.join_run-3.new.waits (first + 2) c.offload_lists.result.count node c.join_run-3.ensures.grown (omega arith) (
    still_free c.join_run.new.waits c.join_run-2.new.waits (first + 1) c.fence_lists.result.count node c.join_run-2.ensures.grown (omega arith) (
    still_free c.args.waits.now c.join_run.new.waits first 1 node c.join_run.ensures.grown (omega arith) (free_node c.args.waits.now c.args.place node c.requires.apart (omega arith))))

pub returns-clause-stands : goal.returns-clause-stands
returns-clause-stands c =
    let place = c.args.place in
    let first = c.args.place * 20 in
    let v1 = c.join_run.new.waits in
    let v2 = c.join_run-2.new.waits in
    let v3 = c.join_run-3.new.waits in
    let v4 = c.join_run-4.new.waits in
    let number = number_list c.args.row.now.no.0 in
    record {
      by_number =
          stands_on v3 v4 (first + 3) (first + 3 + c.page_lists.result.count) number place c.join_run-4.ensures.grown (stands_on v2 v3 (first + 2) (first + 2 + c.offload_lists.result.count) number place c.join_run-3.ensures.grown (stands_on v1 v2 (first + 1) (first + 1 + c.fence_lists.result.count) number place c.join_run-2.ensures.grown (
          stands_in_run v1 c.number_list.result first 1 place number c.join_run.ensures.put (omega (arith, c.number_list.ensures)) (omega (arith, c.number_list.ensures)) (λ j below. omega arith))));
      by_fence = λ fence.
          let one = c.fence_lists.ensures.there fence in
          let from = c.fence_lists.ensures.from in
          stands_on v3 v4 (first + 3) (first + 3 + c.page_lists.result.count) 1280 place c.join_run-4.ensures.grown (stands_on v2 v3 (first + 2) (first + 2 + c.offload_lists.result.count) 1280 place c.join_run-3.ensures.grown (
          stands_in_run v2 c.fence_lists.result.from (first + 1) c.fence_lists.result.count place 1280 c.join_run-2.ensures.put (omega arith) (omega arith) (λ j below. omega arith)));
      by_offload = λ n odd is.
          let there = c.offload_lists.ensures.there n odd is in
          stands_on v3 v4 (first + 3) (first + 3 + c.page_lists.result.count) (offload_list n) place c.join_run-4.ensures.grown (
          stands_in_run v3 c.offload_lists.result.from (first + 2) c.offload_lists.result.count place (offload_list n) c.join_run-3.ensures.put (omega (arith, there.0)) (omega (arith, there.0, there.1)) (λ j below. omega (arith, there.1)));
      by_page = λ page low high.
          let there = c.page_lists.ensures.there page low high in
          stands_in_run v4 c.page_lists.result.from (first + 3) c.page_lists.result.count place (page_list page) c.join_run-4.ensures.put there.0 there.1 (λ j below. omega (arith, c.page_lists.ensures.few));
    }

pub returns-clause-grown : goal.returns-clause-grown
returns-clause-grown c = λ list.
    let first = c.args.place * 20 in
    let fence = c.fence_lists.ensures.one in
    let offload = c.offload_lists.ensures.one in
    let few = c.page_lists.ensures.few in
    let l0 = list_at c.args.waits.now list in
    let l1 = list_at c.join_run.new.waits list in
    let l2 = list_at c.join_run-2.new.waits list in
    let l3 = list_at c.join_run-3.new.waits list in
    let l4 = list_at c.join_run-4.new.waits list in
    let two = grown_twice first (first + 1) (first + 1) (first + 1 + c.fence_lists.result.count) l0 l1 l2 (omega arith) (omega arith) (omega arith) (c.join_run.ensures.grown list) (c.join_run-2.ensures.grown list) in
    let three =
    grown_twice first (first + 1 + c.fence_lists.result.count) (first + 2) (first + 2 + c.offload_lists.result.count + 1) l0 l2 l3 (omega arith) (omega arith) (omega arith) two
    (grown_wider (first + 2) (first + 2 + c.offload_lists.result.count) (first + 2 + c.offload_lists.result.count + 1) l2 l3 (omega arith) (c.join_run-3.ensures.grown list)) in
    grown_twice first (first + 2 + c.offload_lists.result.count + 1) (first + 3) (first + 20) l0 l3 l4 (omega arith) (omega arith) (omega arith) three
    (grown_wider (first + 3) (first + 3 + c.page_lists.result.count) (first + 20) l3 l4 (omega arith) (c.join_run-4.ensures.grown list))
