-- An input that is refused.
use Rattle.std.proofs.Common.{◌≡◌, List, ℕ, Option, Some, None, Ok, Err}
use Rattle.std.specs.Prelude.{Result}
use Rattle.cl_types.specs.declared.open_fault.OpenFault.{OpenFault}
use Rattle.schedule_text.specs.Reading.{Reads, too_long_of}
use Rattle.schedule_text.specs.declared.fault.ScheduleFault.{ScheduleFault}
use Rattle.schedule_text.specs.declared.fault.ScheduleFault.TheVariants as long
use Rattle.texts.specs.Grammar.{Fault}
use Rattle.command_text.specs.Outputs.{AnswersInput, OnBadLine, OnBadNode, OnLong, bad_node_output}
use Rattle.command_text.specs.Serving.{IsRefusalOf}
use Rattle.command_text.specs.declared.output.Output.{Output}

-- ---- a refused input
module _ (A : Type 0) (read : List ℕ → Result A Fault) (fault_of : A → Option OpenFault) (Asked : A → Output → Type 0) (bytes : List ℕ) (output : Output) where
  -- an input that could not be read asks for the output on that
  pub unread_input : (fault : ScheduleFault) → Reads {A = A} bytes (read bytes) (Err fault) → IsRefusalOf fault output → AnswersInput A read fault_of Asked bytes output
  unread_input (long.Line number what) reads is = OnBadLine (record { short = reads.0; fault = (number, what); line = reads.1 }) is
  unread_input (long.TooLong of_bytes number) reads is = OnLong (long.TooLong of_bytes number, reads) is
  unread_input long.NoMemory reads is = absurd is

  pub on_bad_node : (value : A) (fault : OpenFault) → too_long_of bytes ≡ None → read bytes ≡ Ok value → fault_of value ≡ Some fault → output ≡ bad_node_output fault
      → AnswersInput A read fault_of Asked bytes output
  on_bad_node value fault short encoded closed is = OnBadNode (record { short = short; value = value; encoded = encoded; fault = fault; closed = closed }) is
