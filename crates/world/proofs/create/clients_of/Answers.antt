-- A client more stands behind the others.
use Rattle.std.proofs.Common.{◌≡◌, ℕ, List, ◌∷◌, ◌++◌, [], ap, length, map, nat_eq, refl, subst, sym, ◌∙◌}
use Rattle.std.specs.Map.{keys_of, lookup, values_of}
use Rattle.std.proofs.lemmas.List.{take_all}
use Rattle.std.proofs.lemmas.Option.{slice_get_read}
use Rattle.client_model.specs.Client.{ClientState}
use Rattle.world.specs.Fields.{numbers_of}
use Rattle.world.proofs.Beginning.{entered_keys, entered_next, entered_values, entry_of, fresh}
use Rattle.world.proofs.create.clients_of.Goals as goal

pub put-requires : goal.put-requires
put-requires c =
    let given = c.args.given.now in
    let at = c.loop-no.no-index in
    let there = slice_get_read given (length given) at c.loop-no-item.result refl c.loop-no-test.true c.loop-no-item.is in
    (λ i. lookup (nat_eq (c.in_ok-client.ensures.new i).client.0) (c.loop-no.invariant i)) ∙ fresh given at c.loop-no-item.result there c.requires

pub loop-no-preserved : goal.loop-no-preserved
loop-no-preserved c =
    let given = c.args.given.now in
    let at = c.loop-no.no-index in
    let there = slice_get_read given (length given) at c.loop-no-item.result refl c.loop-no-test.true c.loop-no-item.is in
    c.in_ok-put.ensures
    ∙ (λ i. c.loop-no.invariant i ++ ((c.in_ok-client.ensures.new i).client.0, c.in_ok-client.ensures.new i) ∷ [])
    ∙ sym (entered_next given at c.loop-no-item.result there)

pub returns-clause-clients : goal.returns-clause-clients
returns-clause-clients c =
    let given = c.args.given.now in
    let all = c.loop-no.invariant ∙ ap (map entry_of) (take_all c.loop-no.no-index given c.loop-no-test.false) in
    ap values_of all ∙ entered_values given

pub returns-clause-keyed : goal.returns-clause-keyed
returns-clause-keyed c =
    let given = c.args.given.now in
    let all = c.loop-no.invariant ∙ ap (map entry_of) (take_all c.loop-no.no-index given c.loop-no-test.false) in
    subst (λ (es : List (ℕ × ClientState)). keys_of es ≡ numbers_of (values_of es)) (sym all) (entered_keys given)
