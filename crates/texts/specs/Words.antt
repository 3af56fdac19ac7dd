-- The arguments of a line: numbers, addresses, permissions and bytes.
use Rattle.std.specs.Prelude.{ℕ, ◌+◌, ◌-◌, ◌*◌, ◌/◌, ◌%◌, ◌==◌, Bool, true, false, ◌&&◌, ◌||◌, not, leb, nat_lt, List, [], ◌∷◌, length, take, drop, if◌then◌else◌, Option, Some, None, Result, Ok, Err, codes}
use Rattle.std.specs.List.{list_all, fold, slice_split}
use Rattle.cl_types.specs.declared.numbers.Addr.{Addr}
use Rattle.cl_types.specs.declared.call.Perm.{Perm}
use Rattle.cl_types.specs.declared.call.Perm.TheVariants.{ReadOnly, WriteOnly, ReadWrite}
use Rattle.cl_types.specs.declared.schedule.Written.{Written}
use Rattle.cl_types.specs.declared.schedule.What.{What}
use Rattle.cl_types.specs.declared.schedule.What.TheVariants.{BadNumber, BadAddress, BadPermission, BadBytes, MissingWord, ExtraWord}
use Rattle.texts.specs.Text.{Text, is_text}

-- ---- numbers
-- the byte is a decimal digit
abbrev pub is_digit : ℕ → Bool
is_digit b = leb 48 b && leb b 57

-- digits with no leading zero, unless it is the only one
abbrev pub is_plain : Text → Bool
is_plain [] = false
is_plain (b ∷ []) = true
is_plain (b ∷ c ∷ bs) = not (b == 48)

-- the number that digits spell in a base, by the value of each digit
abbrev pub value_in : ℕ → (ℕ → ℕ) → Text → ℕ
value_in base digit text = fold (λ n b. n * base + digit b) 0 text

-- a decimal number from low to high
abbrev pub number_in : ℕ → ℕ → Text → Option ℕ
number_in low high text =
    let n : ℕ = value_in 10 (λ b. b - 48) text in
    if is_plain text && list_all is_digit text && leb low n && leb n high then Some n else None

-- the byte is a hexadecimal digit, in lower case
abbrev pub is_hex_digit : ℕ → Bool
is_hex_digit b = is_digit b || leb 97 b && leb b 102

-- the value of a hexadecimal digit
abbrev pub hex_value : ℕ → ℕ
hex_value b = if is_digit b then b - 48 else b - 87

-- one to eight hexadecimal digits with no leading zero
abbrev pub address_of_digits : Text → Option Addr
address_of_digits digits =
    if is_plain digits && list_all is_hex_digit digits && leb (length digits) 8 then Some (record { 0 = value_in 16 hex_value digits }) else None

-- the address that a word spells: 0x and its digits
abbrev pub address_in : Text → Option Addr
address_in text = if is_text (take 2 text) (codes "0x") then address_of_digits (drop 2 text) else None

-- the permission that a word spells: r, w or rw
abbrev pub perm_in : Text → Option Perm
perm_in text =
    if is_text text (codes "r") then Some ReadOnly
    else if is_text text (codes "w") then Some WriteOnly
    else if is_text text (codes "rw") then Some ReadWrite
    else None

-- ---- bytes: two digits for each, and then how many times, or a dash for none; at most so many in all
-- the most bytes that a word may stand for, repeats counted
abbrev pub most_written : ℕ
most_written = 70000

-- the bytes that hexadecimal digits spell, two digits for each
abbrev pub bytes_of_pairs : Text → List ℕ
bytes_of_pairs [] = []
bytes_of_pairs (a ∷ []) = []
bytes_of_pairs (a ∷ b ∷ text) = (hex_value a * 16 + hex_value b) ∷ bytes_of_pairs text

-- how often bytes are repeated: 1 where no number follows them
abbrev pub times_in : List Text → Option ℕ
times_in [] = Some 1
times_in (text ∷ []) = number_in 1 most_written text
times_in texts = None

-- the bytes of these digits, so many times, where their number is even and above 0 and all are few enough
abbrev pub written_of : Text → Option ℕ → Option Written
written_of digits None = None
written_of digits (Some times) =
    if leb 2 (length digits) && length digits % 2 == 0 && list_all is_hex_digit digits && leb (length digits / 2 * times) most_written
    then Some (record { bytes = bytes_of_pairs digits; times = times }) else None

-- the bytes that the pieces of a word spell, which an asterisk parts
abbrev pub written_in_parts : List Text → Option Written
written_in_parts [] = None
written_in_parts (digits ∷ rest) = written_of digits (times_in rest)

-- the bytes that a word spells, and how often they are repeated; a dash spells none
abbrev pub written_in : Text → Option Written
written_in text =
    if is_text text (codes "-") then Some (record { bytes = []; times = 1 }) else written_in_parts (slice_split (λ b. b == 42) text)

-- ---- the arguments of a line
-- what a word of a line may be: a number from low to high, an address, a permission, or bytes
pub data Argument : Type 0 where
  Number : (low high : ℕ) → Argument
  Address : Argument
  Permission : Argument
  BytesWord : Argument

-- the value of an argument
pub data Value : Type 0 where
  N : (n : ℕ) → Value
  A : (addr : Addr) → Value
  P : (perm : Perm) → Value
  B : (bytes : Written) → Value

-- the value, and where there is none the fault of its kind
abbrev pub or_fault : {X : Type 0} → What → (X → Value) → Option X → Result Value What
or_fault what make None = Err what
or_fault what make (Some x) = Ok (make x)

-- the value of an argument that a word spells, or what is wrong with it
abbrev pub argument_in : Argument → Text → Result Value What
argument_in (Number low high) text = or_fault BadNumber N (number_in low high text)
argument_in Address text = or_fault BadAddress A (address_in text)
argument_in Permission text = or_fault BadPermission P (perm_in text)
argument_in BytesWord text = or_fault BadBytes B (written_in text)

-- a value in front of others; of two faults the first is told
abbrev pub with_first : Result Value What → Result (List Value) What → Result (List Value) What
with_first (Err what) rest = Err what
with_first (Ok v) (Err what) = Err what
with_first (Ok v) (Ok vs) = Ok (v ∷ vs)

-- the values that words spell, or the first fault from the left, where there are as many words as arguments
abbrev pub values_in : List Argument → List Text → Result (List Value) What
values_in [] texts = Ok []
values_in (a ∷ rest) [] = Ok []
values_in (a ∷ rest) (t ∷ ts) = with_first (argument_in a t) (values_in rest ts)

-- the values of a line's arguments, or what is wrong: too few words, too many, or the first bad one
abbrev pub arguments_in : List Argument → List Text → Result (List Value) What
arguments_in arguments texts =
    if nat_lt (length texts) (length arguments) then Err MissingWord
    else if nat_lt (length arguments) (length texts) then Err ExtraWord
    else values_in arguments texts
