use Rattle.std.proofs.Common.{List, ℕ, sym, ap, ◌∙◌}
use Rattle.std.specs.FinMap.Entries.{put}
use Rattle.flat_model.specs.Objects.{key_cmp}
use Rattle.flat_model.proofs.KeyLemmas.{key_total, key_exact}
use Rattle.flat_model.proofs.PutLemmas.{sorted_put}
use Rattle.flat_model.proofs.EntryLemmas.{set_is_put}
use Rattle.flat_model.proofs.pairs.put.Goals as goal

pub returns-in-Some-clause-put : goal.returns-in-Some-clause-put
returns-in-Some-clause-put c =
    set_is_put key_cmp c.args.key.now key_exact key_total c.in_ok-value.value _ c.args.pairs.now.items c.deref.ensures.value c.in-Some.i _ c.requires
    (sym c.in-Some.ensures) c.index_mut.ensures.value
    ∙ ap (λ (value : List ℕ). put key_cmp c.args.key.now value c.args.pairs.now.items) c.in_ok-value.ensures

pub returns-in-Some-clause-order : goal.returns-in-Some-clause-order
returns-in-Some-clause-order c =
    sorted_put key_cmp key_total c.args.key.now c.args.value.now c.args.pairs.now.items _ c.requires (returns-in-Some-clause-put c)
