-- A call and a line that stop at the number of their words, or at the word in front.
use Rattle.std.proofs.Common.{◌≡◌, List, length, ap, Option, Some, None, Result, Err}
use Rattle.cl_types.specs.declared.schedule.CallText.{CallText}
use Rattle.cl_types.specs.declared.schedule.What.{What}
use Rattle.texts.specs.Text.{Text}
use Rattle.texts.specs.Words.{Argument, Value, arguments_in}
use Rattle.texts.specs.Grammar.{CallForm, called_by, said_by}
use Rattle.texts.specs.Grammar as grammar
use Rattle.schedule_text.specs.Arguments.{count_fault}
use Rattle.schedule_text.specs.Calls.{call_after}
use Rattle.schedule_text.specs.Lines.{said_of}
use Rattle.schedule_text.specs.Telling.{Tells, TellsBy}
use Rattle.schedule_text.specs.declared.fault.LineFault.{LineFault}
use Rattle.schedule_text.specs.declared.fault.LineFault.TheVariants.{Bad}
use Rattle.schedule_text.specs.declared.said.Statement.{Statement}
use Rattle.schedule_text.proofs.ArgumentLemmas.{arguments_fault}

-- a call
pub call_stops : (f : CallForm) (before : Option What) (texts : List Text) (what : What) (result : Result CallText LineFault)
    → result ≡ Err (Bad what)
    → count_fault (length f.arguments) before texts ≡ Some what
    → Tells result (call_after before f texts)
call_stops f before texts what result is fault =
    rw is (ap (called_by f.calls) (arguments_fault f.arguments before texts what fault))

-- a line
pub line_stops : (arguments : List Argument) (says : List Value → Option grammar.Statement) (texts : List Text) (what : What) (result : Result Statement LineFault)
    → result ≡ Err (Bad what)
    → count_fault (length arguments) None texts ≡ Some what
    → TellsBy said_of result (said_by says (arguments_in arguments texts))
line_stops arguments says texts what result is fault =
    rw is (ap (said_by says) (arguments_fault arguments None texts what fault))
