-- What a call tells of a line, where want of memory may come instead.
use Rattle.std.specs.Prelude.{◌≡◌, Result, Ok, Err}
use Rattle.cl_types.specs.declared.schedule.What.{What}
use Rattle.texts.specs.Words.{Value}
use Rattle.schedule_text.specs.declared.fault.LineFault.{LineFault}
use Rattle.schedule_text.specs.declared.fault.LineFault.TheVariants.{Bad, NoMemory}
use Rattle.schedule_text.specs.declared.fault.ScheduleFault.{ScheduleFault}
use Rattle.schedule_text.specs.declared.fault.ScheduleFault.TheVariants.{Line, TooLong}
use Rattle.schedule_text.specs.declared.fault.ScheduleFault.TheVariants as fault
use Rattle.texts.specs.Grammar.{Fault}

-- what was read is what the grammar gives, with f of what was read as its value
abbrev pub TellsBy : {X Y : Type 0} → (X → Y) → Result X LineFault → Result Y What → Type 0
TellsBy f (Ok x) given = given ≡ Ok (f x)
TellsBy f (Err (Bad what)) given = given ≡ Err what
TellsBy f (Err NoMemory) given = Unit {0}

-- the same of what stands for itself
abbrev pub Tells : {X : Type 0} → Result X LineFault → Result X What → Type 0
Tells result given = TellsBy (λ x. x) result given

-- an argument's value, or its fault
abbrev pub told : {X : Type 0} → (X → Value) → Result X What → Result Value What
told make (Ok x) = Ok (make x)
told make (Err what) = Err what

-- what one line leaves, or what is wrong with it
abbrev pub LeavesOf : {X Y : Type 0} → X → Result Y ScheduleFault → Result X Fault → Type 0
LeavesOf left (Ok y) given = given ≡ Ok left
LeavesOf left (Err (Line number what)) given = given ≡ Err (number, what)
LeavesOf left (Err fault.NoMemory) given = Unit {0}
-- one line is never too long
LeavesOf left (Err (TooLong of_bytes number)) given = ⊥
