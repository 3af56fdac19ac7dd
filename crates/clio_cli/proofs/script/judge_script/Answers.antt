use Rattle.std.proofs.Common.{refl}
use Rattle.texts.specs.Grammar.{script_of}
use Rattle.command_text.specs.Outputs.{Calls, no_fault}
use Rattle.command_text.proofs.InputLemmas.{unread_input}
use Rattle.clio_cli.proofs.script.judge_script.Goals as goal

pub returns-in-Ok : goal.returns-in-Ok
returns-in-Ok c = record { short = c.in-Ok.ensures.0; encoded = c.in-Ok.ensures.1; opens = refl }

pub returns-in_ok-refuse-in-Err : goal.returns-in_ok-refuse-in-Err
returns-in_ok-refuse-in-Err c =
    unread_input Calls script_of no_fault (λ calls o. ⊥) c.args.bytes.now c.in_ok-refuse-in-Err.field-0 c.in-Err.fault c.in-Err.ensures c.in_ok-refuse-in-Err.ensures
