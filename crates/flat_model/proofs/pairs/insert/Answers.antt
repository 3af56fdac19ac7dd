use Rattle.std.proofs.Common.{◌≡◌, List, ℕ, if◌then◌else◌, not, refl, ap, subst, ◌∙◌}
use Rattle.std.specs.List.{insert}
use Rattle.std.specs.Result.{is_ok}
use Rattle.flat_model.specs.Objects.{key_cmp}
use Rattle.flat_model.proofs.KeyLemmas.{key_total, key_exact}
use Rattle.flat_model.proofs.PutLemmas.{sorted_put}
use Rattle.flat_model.proofs.EntryLemmas.{inserted_is_put}
use Rattle.flat_model.proofs.pairs.insert.Goals as goal

pub returns-clause-put : goal.returns-clause-put
returns-clause-put c =
    inserted_is_put key_cmp c.args.key.now key_exact key_total c.args.value c.args.pairs.now.items c.args.pairs.now.items refl
    _ c.deref.ensures.value _ _ _ c.requires.absent c.position_behind-i.ensures.position (c.is_err.ensures.negation ∙ ap not c.if-is_err.false)
    (subst (λ (key : List ℕ). c.insert.new.self.items ≡ (if is_ok c.insert.result then insert c.args.pairs.now.items c.position_behind-i.result (key, c.args.value) else c.args.pairs.now.items))
    c.in_ok-key.ensures c.insert.ensures.items)

pub returns-clause-order : goal.returns-clause-order
returns-clause-order c = sorted_put key_cmp key_total c.args.key.now c.args.value c.args.pairs.now.items _ c.requires.order (returns-clause-put c)
