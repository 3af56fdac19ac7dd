-- Laws of verdicts, each proved by a function of src/verdict_laws.rt.
use Rattle.std.specs.Prelude.{◌≡◌, List}
use Rattle.cl_types.specs.declared.config.NodeConfig.{NodeConfig}
use Rattle.cl_types.specs.declared.line.Entry.{Entry}
use Rattle.history_check.specs.declared.history.Verdict.{Verdict}
use Rattle.history_check.specs.Verdicts.{IsVerdict}

-- two verdicts of one history are the same
abbrev pub VerdictIsFixed : Type 0
VerdictIsFixed =
    (c : NodeConfig) (entries : List Entry) (verdict other : Verdict)
    → IsVerdict c entries verdict → IsVerdict c entries other → verdict ≡ other
