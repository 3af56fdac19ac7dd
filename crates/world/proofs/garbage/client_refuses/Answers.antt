use Rattle.std.proofs.Common.{◌≡◌, ap, sym, ◌∙◌}
use Rattle.cl_types.specs.declared.line.Did.TheVariants as did
use Rattle.client_core.specs.declared.answers.Heard.TheVariants as heard
use Rattle.world.specs.Worlds.{garbage}
use Rattle.world.proofs.ListenLemmas.{fault_answered}
use Rattle.world.proofs.garbage.client_refuses.Goals as goal

pub unreachable-requires : goal.unreachable-requires
unreachable-requires c =
    c.in_default.not-Bad c.in-Err.field-0
    (fault_answered c.args.client.now c.args.bytes.now c.in-Err.field-0 c.hear.result c.in-Err.ensures.fault c.hear.ensures.answer)

pub returns-in-Bad-clause-did : goal.returns-in-Bad-clause-did
returns-in-Bad-clause-did c =
    let answers : heard.Bad c.in-Bad.fault ≡ heard.Bad c.in-Err.field-0 =
    sym c.in-Bad.is
    ∙ fault_answered c.args.client.now c.args.bytes.now c.in-Err.field-0 c.hear.result c.in-Err.ensures.fault c.hear.ensures.answer in
    let fault_is : c.in-Bad.fault ≡ c.in-Err.field-0 = cc in
    ap (λ fault. did.Bad fault) fault_is ∙ ap garbage c.in-Err.ensures.fault
