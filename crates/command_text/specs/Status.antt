-- The statuses with which the program ends.
use Rattle.std.specs.Prelude.{ℕ}
use Rattle.command_text.specs.declared.status.Status.{Status}
use Rattle.command_text.specs.declared.status.Status.TheVariants as status

-- the number of a status
abbrev pub number_of : Status → ℕ
number_of status.Ok = 0
number_of status.BadWords = 1
number_of status.BadInput = 2
number_of status.ReadFault = 3
number_of status.WriteFault = 4
number_of status.NoMemory = 5
number_of status.WireFault = 6
number_of status.NotRun = 7
number_of status.TooLong = 8
number_of status.Stalled = 9
number_of status.BadNode = 10
