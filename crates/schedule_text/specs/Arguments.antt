-- Arguments behind a word that may be bad itself. No public clause cites this module.
use Rattle.std.specs.Prelude.{ℕ, nat_lt, List, length, if◌then◌else◌, Option, Some, None, Result, Err}
use Rattle.cl_types.specs.declared.schedule.What.{What}
use Rattle.cl_types.specs.declared.schedule.What.TheVariants.{MissingWord, ExtraWord}
use Rattle.texts.specs.Text.{Text}
use Rattle.texts.specs.Words.{Argument, Value, values_in}

-- what is wrong with the number of words, and else the fault of the word in front
abbrev pub count_fault : ℕ → Option What → List Text → Option What
count_fault n before texts =
    if nat_lt (length texts) n then Some MissingWord else if nat_lt n (length texts) then Some ExtraWord else before

-- the values of arguments, where nothing is wrong with the word in front
abbrev pub values_after : Option What → List Argument → List Text → Result (List Value) What
values_after None arguments texts = values_in arguments texts
values_after (Some what) arguments texts = Err what

-- the same, where there are as many words as arguments
abbrev pub arguments_after : Option What → List Argument → List Text → Result (List Value) What
arguments_after before arguments texts =
    if nat_lt (length texts) (length arguments) then Err MissingWord
    else if nat_lt (length arguments) (length texts) then Err ExtraWord
    else values_after before arguments texts
