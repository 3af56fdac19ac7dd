-- What a check answers to a history. No public clause cites this module.
use Rattle.std.specs.Prelude.{◌≡◌, ◌⊎◌, Some, None}
use Rattle.cl_types.specs.declared.open_fault.OpenFault.{OpenFault}
use Rattle.command_text.specs.Outputs.{AsksVerdict, History, bad_node_output, history_fault}
use Rattle.command_text.specs.declared.output.Output.{Output}

-- ---- a check
-- the output on a history, by whether its node opens
abbrev pub IsJudged : History → Output → Type 0
IsJudged h output = ((history_fault h ≡ None) × AsksVerdict h output)
    ⊎ ((fault : OpenFault) × (history_fault h ≡ Some fault) × (output ≡ bad_node_output fault))
