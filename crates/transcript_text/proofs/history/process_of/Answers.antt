use Rattle.std.proofs.Common.{ℕ, ◌==◌, Option, refl, sym, ap, option_map}
use Rattle.std.proofs.lemmas.Option.{slice_get_read}
use Rattle.cl_types.specs.declared.numbers.ClientNo.{ClientNo}
use Rattle.transcript_text.proofs.HistoryLemmas.{found_at, none_at, other_test, same_test}
use Rattle.transcript_text.proofs.history.process_of.Goals as goal

pub returns-then-given-client : goal.returns-then-given-client
returns-then-given-client c =
    let i = c.loop-given.given-index in
    let there = slice_get_read c.args.clients.now _ i c.given-item.result refl c.loop-given-test.true c.given-item.is in
    sym (ap (λ (o : Option (ClientNo × ℕ)). option_map (λ (given : ClientNo × ℕ). given.1) o)
    (found_at (λ given. given.0.0 == c.args.client.0) c.args.clients.now i c.given-item.result c.loop-given.invariant there (same_test _ _ c.if-given-client.true)))

pub loop-given-preserved : goal.loop-given-preserved
loop-given-preserved c =
    let i = c.loop-given.given-index in
    let there = slice_get_read c.args.clients.now _ i c.given-item.result refl c.loop-given-test.true c.given-item.is in
    none_at (λ given. given.0.0 == c.args.client.0) c.args.clients.now i c.given-item.result c.loop-given.invariant there (other_test _ _ c.if-given-client.false)
