-- A schedule that was read has rising lines, numbers of their types, and clients of its configuration.
use Rattle.std.proofs.Common.{◌≡◌, ℕ, zero, suc, ◌+◌, ◌-◌, ◌*◌, ◌<◌, ◌≤◌, Bool, true, false, cond, List, [], ◌∷◌, ◌++◌, Option, Some, None, Ok, Err, refl, ap, ◌∙◌, subst, arith, length}
use Rattle.std.specs.Prelude.{Result, if◌then◌else◌, ◌&&◌, ◌||◌, ◌==◌, not, leb, nat_lt, drop, take, is_none, codes, option_map, ◌%◌, ◌/◌}
use Rattle.std.specs.List.{AllByRecursion as Each, fold, list_all, list_any, slice_split}
use Rattle.std.proofs.lemmas.Bool.Decides.{nat_tests}
use Rattle.cl_types.specs.declared.numbers.Addr.{Addr}
use Rattle.cl_types.specs.declared.numbers.ClientNo.{ClientNo}
use Rattle.cl_types.specs.declared.numbers.TheConstants.{LAST_PID}
use Rattle.cl_types.specs.declared.call.Perm.{Perm}
use Rattle.cl_types.specs.declared.config.NodeConfig.{NodeConfig}
use Rattle.cl_types.specs.declared.call.AtomicOp.TheVariants.{Lock, Unlock, Add, Cas}
use Rattle.cl_types.specs.declared.config.OffloadConfig.TheVariants.{Kv}
use Rattle.cl_types.specs.declared.limits.TheConstants.{PART_BYTES}
use Rattle.cl_types.specs.declared.schedule.CallText.{CallText}
use Rattle.cl_types.specs.declared.schedule.CallText.TheVariants as call
use Rattle.cl_types.specs.declared.schedule.Event.{Event}
use Rattle.cl_types.specs.declared.schedule.Event.TheVariants as event
use Rattle.cl_types.specs.declared.schedule.Schedule.{Schedule}
use Rattle.cl_types.specs.declared.schedule.What.{What}
use Rattle.cl_types.specs.declared.schedule.What.TheVariants.{ClientExpected, UnknownClient, UnknownWord, AFrame, BadNumber, BadAddress, BadPermission, BadBytes, MissingWord, ExtraWord}
use Rattle.cl_types.specs.declared.schedule.Written.{Written}
use Rattle.cl_types.specs.Written.{expanded}
use Rattle.frame_model.specs.Faults.{first_fault}
use Rattle.frame_model.specs.Frames.{reply_fault}
use Rattle.cl_types.specs.Ranges.{are_bytes, is_typed, is_typed_call}
use Rattle.texts.specs.Text.{Text, first_word, is_empty, is_skipped, is_text, lines_in, words_in}
use Rattle.texts.specs.Words.{is_digit, is_plain, value_in, number_in, is_hex_digit, hex_value, address_of_digits, address_in, perm_in, most_written, bytes_of_pairs, times_in, written_of, written_in_parts, written_in, Argument, Number, Address, Permission, BytesWord, Value, N, A, P, B, or_fault, argument_in, with_first, values_in, arguments_in}
use Rattle.texts.specs.Grammar.{alloc_call, free_call, read_call, write_call, lock_call, unlock_call, add_call, cas_call, offload_call, fence_call, u16, u32, u64, process_number, form, bare, of_number, node_says, kv_says, client_says, peek_says, garbage_node_says, garbage_client_says, Fault, Reading, Statement, Node, Offload, Client, Happens, Form, CallForm, Begun, by_word, call_forms, call_form, in_call, in_offload, in_deliver, in_garbage, line_forms, of_client, said_by, said_in_form, said_by_words, is_given, event_faults, at_end, judged_line, judged_said, line_read, nothing_read, place_faults, read_more, said_faults, schedule_from}
use Rattle.trace.specs.Schedules.{is_of_clients, IsClient, IsGood, IsRisingFrom, AreTyped}
use Rattle.trace_texts.specs.ReadSchedules.{SchedulesAreGood}
use Rattle.lemmas.proofs.Lists.{each_append, each_weaker}
use Rattle.lemmas.proofs.SameParts.{and_left, and_right}

-- ---- results and options
pub no_ok : {A E : Type 0} (e : E) (x : A) → ◌≡◌ {A = Result A E} (Err e) (Ok x) → ⊥
no_ok e x is = grind arith

pub ok_is : {A E : Type 0} (x y : A) → ◌≡◌ {A = Result A E} (Ok x) (Ok y) → x ≡ y
ok_is x y is = cc

some_is : {A : Type 0} (x y : A) → ◌≡◌ {A = Option A} (Some x) (Some y) → x ≡ y
some_is x y is = cc

no_some : {A : Type 0} (x : A) → ◌≡◌ {A = Option A} None (Some x) → ⊥
no_some x is = grind arith

-- ---- words
number_fits : (low high : ℕ) (text : Text) (n : ℕ) → number_in low high text ≡ Some n → (low ≤ n) × (n ≤ high)
number_fits low high text n is = go (is_plain text && list_all is_digit text && leb low m && leb m high) refl is where
  m : ℕ
  m = value_in 10 (λ b. b - 48) text

  go : (b : Bool) → (is_plain text && list_all is_digit text && leb low m && leb m high) ≡ b → ◌≡◌ {A = Option ℕ} (cond b (Some m) None) (Some n) → (low ≤ n) × (n ≤ high)
  go false all is = absurd (no_some n is)
  go true all is =
      let same : m ≡ n = some_is m n is in
      let high_is : leb m high ≡ true = and_right (is_plain text && list_all is_digit text && leb low m) (leb m high) all in
      let low_is : leb low m ≡ true = and_right (is_plain text && list_all is_digit text) (leb low m) (and_left (is_plain text && list_all is_digit text && leb low m) (leb m high) all) in
      subst (λ k. (low ≤ k) × (k ≤ high)) same (low_one low_is, high_one high_is)
    where
      low_one : leb low m ≡ true → low ≤ m
      low_one h = grind (arith, nat_tests)

      high_one : leb m high ≡ true → m ≤ high
      high_one h = grind (arith, nat_tests)

hex_is_small : (b : ℕ) → is_hex_digit b ≡ true → hex_value b ≤ 15
hex_is_small b hex = go (is_digit b) refl where
  go : (d : Bool) → is_digit b ≡ d → cond d (b - 48) (b - 87) ≤ 15
  go true is = let h : leb b 57 ≡ true = and_right (leb 48 b) (leb b 57) is in grind (arith, nat_tests)
  go false is =
      let other : (leb 97 b && leb b 102) ≡ true = subst (λ d. (d || leb 97 b && leb b 102) ≡ true) is hex in
      let h : leb b 102 ≡ true = and_right (leb 97 b) (leb b 102) other in grind (arith, nat_tests)

-- a bound that grows by one hexadecimal digit at a time
abbrev grown : ℕ → ℕ → ℕ
grown m zero = m
grown m (suc k) = grown (m * 16) k

grows : (m k : ℕ) → m ≤ grown m k
grows m zero = omega arith
grows m (suc k) = let more : m * 16 ≤ grown (m * 16) k = grows (m * 16) k in omega arith

all_hex : (b : ℕ) (text : Text) → list_all is_hex_digit (b ∷ text) ≡ true → (is_hex_digit b ≡ true) × (list_all is_hex_digit text ≡ true)
all_hex b text h = (and_left (is_hex_digit b) (list_all is_hex_digit text) h, and_right (is_hex_digit b) (list_all is_hex_digit text) h)

digits_below : (text : Text) (k m acc : ℕ) → list_all is_hex_digit text ≡ true → length text ≤ k → acc < m → fold (λ n b. n * 16 + hex_value b) acc text < grown m k
digits_below [] k m acc hex len low = let more : m ≤ grown m k = grows m k in omega arith
digits_below (b ∷ text) zero m acc hex len low = absurd (omega arith)
digits_below (b ∷ text) (suc k) m acc hex len low =
    let h = all_hex b text hex in
    let small : hex_value b ≤ 15 = hex_is_small b h.0 in
    digits_below text k (m * 16) (acc * 16 + hex_value b) h.1 (omega arith) (omega arith)

digits_are_address : (digits : Text) (addr : Addr) → address_of_digits digits ≡ Some addr → addr.0 < 4294967296
digits_are_address digits addr is = go (is_plain digits && list_all is_hex_digit digits && leb (length digits) 8) refl is where
  go : (b : Bool) → (is_plain digits && list_all is_hex_digit digits && leb (length digits) 8) ≡ b
      → ◌≡◌ {A = Option Addr} (cond b (Some (record { 0 = value_in 16 hex_value digits })) None) (Some addr) → addr.0 < 4294967296
  go false all is = absurd (no_some addr is)
  go true all is =
      let same = some_is _ addr is in
      let few : leb (length digits) 8 ≡ true = and_right (is_plain digits && list_all is_hex_digit digits) (leb (length digits) 8) all in
      let hex : list_all is_hex_digit digits ≡ true = and_right (is_plain digits) (list_all is_hex_digit digits) (and_left (is_plain digits && list_all is_hex_digit digits) (leb (length digits) 8) all) in
      subst (λ (a : Addr). a.0 < 4294967296) same (digits_below digits 8 1 0 hex (short few) (omega arith))
    where
      short : leb (length digits) 8 ≡ true → length digits ≤ 8
      short h = grind (arith, nat_tests)

address_fits : (text : Text) (addr : Addr) → address_in text ≡ Some addr → addr.0 < 4294967296
address_fits text addr is = go (is_text (take 2 text) (codes "0x")) is where
  go : (b : Bool) → ◌≡◌ {A = Option Addr} (cond b (address_of_digits (drop 2 text)) None) (Some addr) → addr.0 < 4294967296
  go true is = digits_are_address (drop 2 text) addr is
  go false is = absurd (no_some addr is)

pairs_are_bytes : (text : Text) → list_all is_hex_digit text ≡ true → are_bytes (bytes_of_pairs text) ≡ true
pairs_are_bytes [] hex = refl
pairs_are_bytes (a ∷ []) hex = refl
pairs_are_bytes (a ∷ b ∷ text) hex =
    let one = all_hex a (b ∷ text) hex in
    let two = all_hex b text one.1 in
    let high : hex_value a ≤ 15 = hex_is_small a one.0 in
    let low : hex_value b ≤ 15 = hex_is_small b two.0 in
    rw (byte (hex_value a) (hex_value b) high low, pairs_are_bytes text two.1) refl
  where
    byte : (x y : ℕ) → x ≤ 15 → y ≤ 15 → nat_lt (x * 16 + y) 256 ≡ true
    byte x y h k = grind (arith, nat_tests)

written_fits : (digits : Text) (times : Option ℕ) (w : Written) → written_of digits times ≡ Some w → are_bytes w.bytes ≡ true
written_fits digits None w is = absurd (no_some w is)
written_fits digits (Some times) w is = go (leb 2 (length digits) && length digits % 2 == 0 && list_all is_hex_digit digits && leb (length digits / 2 * times) most_written) refl is where
  go : (b : Bool) → (leb 2 (length digits) && length digits % 2 == 0 && list_all is_hex_digit digits && leb (length digits / 2 * times) most_written) ≡ b
      → ◌≡◌ {A = Option Written} (cond b (Some (record { bytes = bytes_of_pairs digits; times = times })) None) (Some w) → are_bytes w.bytes ≡ true
  go false all is = absurd (no_some w is)
  go true all is =
      let hex : list_all is_hex_digit digits ≡ true = and_right (leb 2 (length digits) && length digits % 2 == 0) (list_all is_hex_digit digits)
      (and_left (leb 2 (length digits) && length digits % 2 == 0 && list_all is_hex_digit digits) (leb (length digits / 2 * times) most_written) all) in
      subst (λ (x : Written). are_bytes x.bytes ≡ true) (some_is _ w is) (pairs_are_bytes digits hex)

bytes_fit : (text : Text) (w : Written) → written_in text ≡ Some w → are_bytes w.bytes ≡ true
bytes_fit text w is = go (is_text text (codes "-")) is where
  parts : (ts : List Text) → written_in_parts ts ≡ Some w → are_bytes w.bytes ≡ true
  parts [] is = absurd (no_some w is)
  parts (digits ∷ rest) is = written_fits digits (times_in rest) w is

  go : (b : Bool) → ◌≡◌ {A = Option Written} (cond b (Some (record { bytes = []; times = 1 })) (written_in_parts (slice_split (λ b. b == 42) text))) (Some w) → are_bytes w.bytes ≡ true
  go true is = subst (λ (x : Written). are_bytes x.bytes ≡ true) (some_is _ w is) refl
  go false is = parts (slice_split (λ b. b == 42) text) is

-- ---- arguments
-- the value is one of the argument
abbrev FitsArgument : Argument → Value → Type 0
FitsArgument (Number low high) (N n) = (low ≤ n) × (n ≤ high)
FitsArgument Address (A addr) = addr.0 < 4294967296
FitsArgument Permission (P perm) = Unit {0}
FitsArgument BytesWord (B w) = are_bytes w.bytes ≡ true
FitsArgument other value = ⊥

-- the values are those of the arguments, each of its own
abbrev FitAll : List Argument → List Value → Type 0
FitAll [] [] = Unit {0}
FitAll (a ∷ args) (v ∷ vs) = FitsArgument a v × FitAll args vs
FitAll other values = ⊥

argument_fits : (a : Argument) (text : Text) (v : Value) → argument_in a text ≡ Ok v → FitsArgument a v
argument_fits (Number low high) text v is = go (number_in low high text) refl is where
  go : (o : Option ℕ) → number_in low high text ≡ o → or_fault BadNumber N o ≡ Ok v → FitsArgument (Number low high) v
  go None found is = absurd (no_ok BadNumber v is)
  go (Some n) found is = subst (FitsArgument (Number low high)) (ok_is (N n) v is) (number_fits low high text n found)
argument_fits Address text v is = go (address_in text) refl is where
  go : (o : Option Addr) → address_in text ≡ o → or_fault BadAddress A o ≡ Ok v → FitsArgument Address v
  go None found is = absurd (no_ok BadAddress v is)
  go (Some addr) found is = subst (FitsArgument Address) (ok_is (A addr) v is) (address_fits text addr found)
argument_fits Permission text v is = go (perm_in text) is where
  go : (o : Option Perm) → or_fault BadPermission P o ≡ Ok v → FitsArgument Permission v
  go None is = absurd (no_ok BadPermission v is)
  go (Some perm) is = subst (FitsArgument Permission) (ok_is (P perm) v is) tt
argument_fits BytesWord text v is = go (written_in text) refl is where
  go : (o : Option Written) → written_in text ≡ o → or_fault BadBytes B o ≡ Ok v → FitsArgument BytesWord v
  go None found is = absurd (no_ok BadBytes v is)
  go (Some w) found is = subst (FitsArgument BytesWord) (ok_is (B w) v is) (bytes_fit text w found)

values_fit : (args : List Argument) (ts : List Text) (vs : List Value) → length args ≡ length ts → values_in args ts ≡ Ok vs → FitAll args vs
values_fit [] [] vs len is = subst (FitAll []) (ok_is [] vs is) tt
values_fit [] (t ∷ ts) vs len is = absurd (omega arith)
values_fit (a ∷ args) [] vs len is = absurd (omega arith)
values_fit (a ∷ args) (t ∷ ts) vs len is = go (argument_in a t) (values_in args ts) refl (λ ws. values_fit args ts ws (omega arith)) is where
  go : (o : Result Value What) (rest : Result (List Value) What) → argument_in a t ≡ o → ((ws : List Value) → rest ≡ Ok ws → FitAll args ws) → with_first o rest ≡ Ok vs → FitAll (a ∷ args) vs
  go (Err what) rest one more is = absurd (no_ok what vs is)
  go (Ok v) (Err what) one more is = absurd (no_ok what vs is)
  go (Ok v) (Ok ws) one more is = subst (FitAll (a ∷ args)) (ok_is (v ∷ ws) vs is) (argument_fits a t v one, more ws refl)

arguments_fit : (args : List Argument) (ts : List Text) (vs : List Value) → arguments_in args ts ≡ Ok vs → FitAll args vs
arguments_fit args ts vs is = go (nat_lt (length ts) (length args)) (nat_lt (length args) (length ts)) refl refl is where
  equal : nat_lt (length ts) (length args) ≡ false → nat_lt (length args) (length ts) ≡ false → length args ≡ length ts
  equal few many = grind (arith, nat_tests)

  go : (few many : Bool) → nat_lt (length ts) (length args) ≡ few → nat_lt (length args) (length ts) ≡ many
      → ◌≡◌ {A = Result (List Value) What} (cond few (Err MissingWord) (cond many (Err ExtraWord) (values_in args ts))) (Ok vs) → FitAll args vs
  go true many f m is = absurd (no_ok MissingWord vs is)
  go false true f m is = absurd (no_ok ExtraWord vs is)
  go false false f m is = values_fit args ts vs (equal f m) is

-- what holds of the values of some arguments, by the value of the first
by_number : (Q : List Value → Type 0) (low high : ℕ) (rest : List Argument) → ((n : ℕ) (vs : List Value) → low ≤ n → n ≤ high → FitAll rest vs → Q (N n ∷ vs)) → (vs : List Value) → FitAll (Number low high ∷ rest) vs → Q vs
by_number Q low high rest go [] fit = absurd fit
by_number Q low high rest go (N n ∷ vs) fit = go n vs fit.0.0 fit.0.1 fit.1
by_number Q low high rest go (A addr ∷ vs) fit = absurd fit.0
by_number Q low high rest go (P perm ∷ vs) fit = absurd fit.0
by_number Q low high rest go (B w ∷ vs) fit = absurd fit.0

by_address : (Q : List Value → Type 0) (rest : List Argument) → ((addr : Addr) (vs : List Value) → addr.0 < 4294967296 → FitAll rest vs → Q (A addr ∷ vs)) → (vs : List Value) → FitAll (Address ∷ rest) vs → Q vs
by_address Q rest go [] fit = absurd fit
by_address Q rest go (N n ∷ vs) fit = absurd fit.0
by_address Q rest go (A addr ∷ vs) fit = go addr vs fit.0 fit.1
by_address Q rest go (P perm ∷ vs) fit = absurd fit.0
by_address Q rest go (B w ∷ vs) fit = absurd fit.0

by_permission : (Q : List Value → Type 0) (rest : List Argument) → ((perm : Perm) (vs : List Value) → FitAll rest vs → Q (P perm ∷ vs)) → (vs : List Value) → FitAll (Permission ∷ rest) vs → Q vs
by_permission Q rest go [] fit = absurd fit
by_permission Q rest go (N n ∷ vs) fit = absurd fit.0
by_permission Q rest go (A addr ∷ vs) fit = absurd fit.0
by_permission Q rest go (P perm ∷ vs) fit = go perm vs fit.1
by_permission Q rest go (B w ∷ vs) fit = absurd fit.0

by_bytes : (Q : List Value → Type 0) (rest : List Argument) → ((w : Written) (vs : List Value) → are_bytes w.bytes ≡ true → FitAll rest vs → Q (B w ∷ vs)) → (vs : List Value) → FitAll (BytesWord ∷ rest) vs → Q vs
by_bytes Q rest go [] fit = absurd fit
by_bytes Q rest go (N n ∷ vs) fit = absurd fit.0
by_bytes Q rest go (A addr ∷ vs) fit = absurd fit.0
by_bytes Q rest go (P perm ∷ vs) fit = absurd fit.0
by_bytes Q rest go (B w ∷ vs) fit = go w vs fit.0 fit.1

by_none : (Q : List Value → Type 0) → Q [] → (vs : List Value) → FitAll [] vs → Q vs
by_none Q go [] fit = go
by_none Q go (v ∷ vs) fit = absurd fit

-- ---- calls
below : (n m : ℕ) → n < m → nat_lt n m ≡ true
below n m h = grind (arith, nat_tests)

-- a call that these values make has numbers of its types
abbrev Makes : (List Value → Option CallText) → List Value → Type 0
Makes calls values = (call : CallText) → calls values ≡ Some call → is_typed_call call ≡ true

made : (x : CallText) → is_typed_call x ≡ true → (call : CallText) → Some x ≡ Some call → is_typed_call call ≡ true
made x typed call is = subst (λ c. is_typed_call c ≡ true) (some_is x call is) typed

abbrev IsCallForm : Text × CallForm → Type 0
IsCallForm f = (values : List Value) → FitAll f.1.arguments values → Makes f.1.calls values

forms_of_calls : Each IsCallForm call_forms
forms_of_calls = (
  by_number (Makes alloc_call) 0 4294967295 (Permission ∷ []) (λ n vs low high. by_permission (λ vs. Makes alloc_call (N n ∷ vs)) [] (λ perm vs. by_none (λ vs. Makes alloc_call (N n ∷ P perm ∷ vs))
      (made (call.Alloc n perm) (below n 4294967296 (omega arith))) vs) vs),
  (
    by_address (Makes free_call) (u32 ∷ []) (λ addr vs low. by_number (λ vs. Makes free_call (A addr ∷ vs)) 0 4294967295 [] (λ n vs from to. by_none (λ vs. Makes free_call (A addr ∷ N n ∷ vs))
        (made (call.Free addr n) (rw (below addr.0 4294967296 low, below n 4294967296 (omega arith)) refl)) vs) vs),
    (
      by_address (Makes read_call) (Number 0 most_written ∷ []) (λ addr vs low. by_number (λ vs. Makes read_call (A addr ∷ vs)) 0 most_written [] (λ n vs from to. by_none (λ vs. Makes read_call (A addr ∷ N n ∷ vs))
          (made (call.Read addr n) (rw (below addr.0 4294967296 low, below n 4294967296 (omega arith)) refl)) vs) vs),
      (
        by_address (Makes write_call) (BytesWord ∷ []) (λ addr vs low. by_bytes (λ vs. Makes write_call (A addr ∷ vs)) [] (λ w vs bytes. by_none (λ vs. Makes write_call (A addr ∷ B w ∷ vs))
            (made (call.Write addr w) (rw (below addr.0 4294967296 low, bytes) refl)) vs) vs),
        (
          by_address (Makes lock_call) [] (λ addr vs low. by_none (λ vs. Makes lock_call (A addr ∷ vs)) (made (call.Atomic addr Lock) (rw (below addr.0 4294967296 low) refl)) vs),
          (
            by_address (Makes unlock_call) [] (λ addr vs low. by_none (λ vs. Makes unlock_call (A addr ∷ vs)) (made (call.Atomic addr Unlock) (rw (below addr.0 4294967296 low) refl)) vs),
            (
              by_address (Makes add_call) (u64 ∷ []) (λ addr vs low. by_number (λ vs. Makes add_call (A addr ∷ vs)) 0 18446744073709551615 [] (λ n vs from to. by_none (λ vs. Makes add_call (A addr ∷ N n ∷ vs))
                  (made (call.Atomic addr (Add n)) (rw (below addr.0 4294967296 low, below n 18446744073709551616 (omega arith)) refl)) vs) vs),
              (
                by_address (Makes cas_call) (u64 ∷ u64 ∷ []) (λ addr vs low. by_number (λ vs. Makes cas_call (A addr ∷ vs)) 0 18446744073709551615 (u64 ∷ []) (λ m vs from to.
                    by_number (λ vs. Makes cas_call (A addr ∷ N m ∷ vs)) 0 18446744073709551615 [] (λ n vs low_n high_n. by_none (λ vs. Makes cas_call (A addr ∷ N m ∷ N n ∷ vs))
                    (made (call.Atomic addr (Cas m n)) (rw (below addr.0 4294967296 low, below m 18446744073709551616 (omega arith), below n 18446744073709551616 (omega arith)) refl)) vs) vs) vs),
                (
                  by_number (Makes offload_call) 0 255 (Number 0 255 ∷ Number 0 most_written ∷ BytesWord ∷ []) (λ k vs low_k high_k. by_number (λ vs. Makes offload_call (N k ∷ vs)) 0 255 (Number 0 most_written ∷ BytesWord ∷ []) (λ op vs low_op high_op.
                      by_number (λ vs. Makes offload_call (N k ∷ N op ∷ vs)) 0 most_written (BytesWord ∷ []) (λ out vs low_out high_out. by_bytes (λ vs. Makes offload_call (N k ∷ N op ∷ N out ∷ vs)) [] (λ w vs bytes.
                      by_none (λ vs. Makes offload_call (N k ∷ N op ∷ N out ∷ B w ∷ vs))
                      (made (call.Offload k op out w) (rw (below k 256 (omega arith), below op 256 (omega arith), below out 4294967296 (omega arith), bytes) refl)) vs) vs) vs) vs),
                  (by_none (Makes fence_call) (made call.Fence refl), tt),
                ),
              ),
            ),
          ),
        ),
      ),
    ),
  ),
)

-- ---- what is found by its word is one of the list
by_word_is : {A : Type 0} (Q : A → Type 0) (fs : List (Text × A)) → Each (λ (f : Text × A). Q f.1) fs → (word : Text) (x : A) → by_word word fs ≡ Some x → Q x
by_word_is Q [] each word x is = absurd (no_some x is)
by_word_is {A} Q (f ∷ fs) each word x is = go (is_text word f.0) is (by_word_is Q fs each.1 word x) where
  go : (b : Bool) → ◌≡◌ {A = Option A} (cond b (Some f.1) (by_word word fs)) (Some x) → (by_word word fs ≡ Some x → Q x) → Q x
  go true is rest = subst Q (some_is f.1 x is) each.0
  go false is rest = rest is

-- ---- lines
-- time goes on by 1 to 1,000,000,000 ticks, and at least one byte is looked at
abbrev pub IsMeasured : Event → Type 0
IsMeasured (event.Tick by) = (1 ≤ by) × (by ≤ 1000000000)
IsMeasured (event.Peek pid addr len) = 1 ≤ len
IsMeasured other = Unit {0}

-- what a line may say: a client whose numbers a frame can carry, an event with numbers of its types
abbrev pub IsSaid : Statement → Type 0
IsSaid (Client number pid) = IsClient (number, pid)
IsSaid (Happens event) = (is_typed event ≡ true) × IsMeasured event
IsSaid other = Unit {0}

abbrev Says : (List Value → Option Statement) → List Value → Type 0
Says says values = (said : Statement) → says values ≡ Some said → IsSaid said

said_so : (x : Statement) → IsSaid x → (said : Statement) → Some x ≡ Some said → IsSaid said
said_so x good said is = subst IsSaid (some_is x said is) good

abbrev IsForm : Form → Type 0
IsForm f = (values : List Value) → FitAll f.arguments values → Says f.says values

abbrev IsBegun : Begun → Type 0
IsBegun begun = (f : Form) → begun.0 ≡ Ok f → IsForm f

begins : (args : List Argument) (says : List Value → Option Statement) (ws : List Text) → ((values : List Value) → FitAll args values → Says says values) → IsBegun (form args says, ws)
begins args says ws good f is = subst IsForm (ok_is (record { arguments = args; says = says }) f is) good

fails : (what : What) (ws : List Text) → IsBegun (Err what, ws)
fails what ws f is = absurd (no_ok what f is)

-- a line of one number
one_number : (low high : ℕ) (make : ℕ → Event) → ((n : ℕ) → low ≤ n → n ≤ high → IsSaid (Happens (make n))) → (values : List Value) → FitAll (Number low high ∷ []) values → Says (of_number make) values
one_number low high make good = by_number (Says (of_number make)) low high [] (λ n vs from to. by_none (λ vs. Says (of_number make) (N n ∷ vs)) (said_so (Happens (make n)) (good n from to)) vs)

no_argument : (e : Event) → IsSaid (Happens e) → (values : List Value) → FitAll [] values → Says (bare e) values
no_argument e good = by_none (Says (bare e)) (said_so (Happens e) good)

call_begins : (ws : List Text) → IsBegun (in_call ws)
call_begins [] = fails MissingWord []
call_begins (number ∷ []) = fails MissingWord []
call_begins (number ∷ word ∷ ws) = go (by_word word call_forms) refl where
  call_says : (f : CallForm) → ((values : List Value) → FitAll f.arguments values → Makes f.calls values) → (values : List Value) → FitAll (u16 ∷ f.arguments) values → Says (of_client f.calls) values
  call_says f good = by_number (Says (of_client f.calls)) 0 65535 f.arguments (λ n vs from to fit said is. so n vs fit said (f.calls vs) refl is) where
    so : (n : ℕ) (vs : List Value) → FitAll f.arguments vs → (said : Statement) → (o : Option CallText) → f.calls vs ≡ o
        → option_map (λ (c : CallText). Happens (event.Call (record { 0 = n }) c)) o ≡ Some said → IsSaid said
    so n vs fit said None found is = absurd (no_some said is)
    so n vs fit said (Some c) found is = said_so (Happens (event.Call (record { 0 = n }) c)) (good vs fit c found, tt) said is

  go : (o : Option CallForm) → by_word word call_forms ≡ o → IsBegun (call_form o, number ∷ ws)
  go None found = fails UnknownWord (number ∷ ws)
  go (Some f) found = begins (u16 ∷ f.arguments) (of_client f.calls) (number ∷ ws)
      (call_says f (by_word_is (λ (f : CallForm). (values : List Value) → FitAll f.arguments values → Makes f.calls values) call_forms forms_of_calls word f found))

offload_begins : (ws : List Text) → IsBegun (in_offload ws)
offload_begins [] = fails MissingWord []
offload_begins (word ∷ ws) = go (is_text word (codes "kv")) where
  go : (b : Bool) → IsBegun (cond b (form (u64 ∷ []) kv_says, ws) (Err UnknownWord, ws))
  go true = begins (u64 ∷ []) kv_says ws (by_number (Says kv_says) 0 18446744073709551615 [] (λ n vs from to. by_none (λ vs. Says kv_says (N n ∷ vs)) (said_so (Offload (Kv n)) tt) vs))
  go false = fails UnknownWord ws

deliver_begins : (ws : List Text) → IsBegun (in_deliver ws)
deliver_begins [] = fails MissingWord []
deliver_begins (word ∷ ws) = go (is_text word (codes "next")) where
  go : (b : Bool) → IsBegun (cond b (form [] (bare event.DeliverNext), ws) (form (Number 1 4294967295 ∷ []) (of_number event.Deliver), word ∷ ws))
  go true = begins [] (bare event.DeliverNext) ws (no_argument event.DeliverNext (refl, tt))
  go false = begins (Number 1 4294967295 ∷ []) (of_number event.Deliver) (word ∷ ws) (one_number 1 4294967295 event.Deliver (λ n from to. (refl, tt)))

garbage_begins : (ws : List Text) → IsBegun (in_garbage ws)
garbage_begins [] = fails MissingWord []
garbage_begins (word ∷ ws) = go (is_text word (codes "node")) where
  go : (b : Bool) → IsBegun (cond b (form (BytesWord ∷ []) garbage_node_says, ws) (form (u16 ∷ BytesWord ∷ []) garbage_client_says, word ∷ ws))
  go true = begins (BytesWord ∷ []) garbage_node_says ws (by_bytes (Says garbage_node_says) [] (λ w vs bytes. by_none (λ vs. Says garbage_node_says (B w ∷ vs)) (said_so (Happens (event.GarbageNode w)) (refl, tt)) vs))
  go false = begins (u16 ∷ BytesWord ∷ []) garbage_client_says (word ∷ ws) (by_number (Says garbage_client_says) 0 65535 (BytesWord ∷ []) (λ n vs from to. by_bytes (λ vs. Says garbage_client_says (N n ∷ vs)) [] (λ w vs bytes.
      by_none (λ vs. Says garbage_client_says (N n ∷ B w ∷ vs)) (said_so (Happens (event.GarbageClient (record { 0 = n }) w)) (refl, tt)) vs) vs))

forms_of_lines : (ws : List Text) → Each (λ (f : Text × Begun). IsBegun f.1) (line_forms ws)
forms_of_lines ws = (
  begins (u64 ∷ u64 ∷ u64 ∷ u64 ∷ []) node_says ws
      (by_number (Says node_says) 0 18446744073709551615 (u64 ∷ u64 ∷ u64 ∷ []) (λ a vs f1 t1. by_number (λ vs. Says node_says (N a ∷ vs)) 0 18446744073709551615 (u64 ∷ u64 ∷ []) (λ b vs f2 t2.
      by_number (λ vs. Says node_says (N a ∷ N b ∷ vs)) 0 18446744073709551615 (u64 ∷ []) (λ c vs f3 t3. by_number (λ vs. Says node_says (N a ∷ N b ∷ N c ∷ vs)) 0 18446744073709551615 [] (λ d vs f4 t4.
      by_none (λ vs. Says node_says (N a ∷ N b ∷ N c ∷ N d ∷ vs)) (said_so (Node a b c d) tt) vs) vs) vs) vs)),
  (
    offload_begins ws,
    (
      begins (u16 ∷ process_number ∷ []) client_says ws (by_number (Says client_says) 0 65535 (process_number ∷ []) (λ n vs from to. by_number (λ vs. Says client_says (N n ∷ vs)) 1 LAST_PID [] (λ pid vs low high.
          by_none (λ vs. Says client_says (N n ∷ N pid ∷ vs)) (said_so (Client (record { 0 = n }) pid) (record { number = omega arith; process = (low, high) })) vs) vs)),
      (
        call_begins ws,
        (
          begins (u16 ∷ []) (of_number (λ n. event.Poll (record { 0 = n }))) ws (one_number 0 65535 (λ n. event.Poll (record { 0 = n })) (λ n from to. (refl, tt))),
          (
            deliver_begins ws,
            (
              begins [] (bare event.Drop) ws (no_argument event.Drop (refl, tt)),
              (
                begins (Number 1 1000000000 ∷ []) (of_number event.Tick) ws (one_number 1 1000000000 event.Tick (λ n from to. (refl, (from, to)))),
                (
                  begins (process_number ∷ Address ∷ Number 1 PART_BYTES ∷ []) peek_says ws (by_number (Says peek_says) 1 LAST_PID (Address ∷ Number 1 PART_BYTES ∷ []) (λ pid vs from to. by_address (λ vs. Says peek_says (N pid ∷ vs)) (Number 1 PART_BYTES ∷ []) (λ addr vs low.
                      by_number (λ vs. Says peek_says (N pid ∷ A addr ∷ vs)) 1 PART_BYTES [] (λ len vs first last. by_none (λ vs. Says peek_says (N pid ∷ A addr ∷ N len ∷ vs)) (said_so (Happens (event.Peek pid addr len)) (refl, first)) vs) vs) vs)),
                  (
                    begins (Number 1 4294967295 ∷ []) (of_number event.Show) ws (one_number 1 4294967295 event.Show (λ n from to. (refl, tt))),
                    (
                      begins [] (bare event.Stat) ws (no_argument event.Stat (refl, tt)),
                      (garbage_begins ws, tt),
                    ),
                  ),
                ),
              ),
            ),
          ),
        ),
      ),
    ),
  ),
)

pub words_say : (texts : List Text) (said : Statement) → said_by_words texts ≡ Ok said → IsSaid said
words_say [] said is = absurd (no_ok UnknownWord said is)
words_say (word ∷ ws) said is = go (by_word word (line_forms ws)) refl is where
  in_form : (f : Form) (args : List Text) → IsForm f → (o : Result (List Value) What) → arguments_in f.arguments args ≡ o → said_by f.says o ≡ Ok said → IsSaid said
  in_form f args good (Err what) found is = absurd (no_ok what said is)
  in_form f args good (Ok values) found is = so (f.says values) refl is where
    so : (o : Option Statement) → f.says values ≡ o → ◌≡◌ {A = Result Statement What} (elim o [ None ↦ Err UnknownWord | Some said ↦ Ok said ]) (Ok said) → IsSaid said
    so None found2 is = absurd (no_ok UnknownWord said is)
    so (Some x) found2 is = good values (arguments_fit f.arguments args values found) said (found2 ∙ ap Some (ok_is x said is))

  begun : (b : Begun) → IsBegun b → said_in_form b ≡ Ok said → IsSaid said
  begun (Err what, args) good is = absurd (no_ok what said is)
  begun (Ok f, args) good is = in_form f args (good f refl) (arguments_in f.arguments args) refl is

  go : (o : Option Begun) → by_word word (line_forms ws) ≡ o → ◌≡◌ {A = Result Statement What} (elim o [ None ↦ Err UnknownWord | Some b ↦ said_in_form b ]) (Ok said) → IsSaid said
  go None found is = absurd (no_ok UnknownWord said is)
  go (Some b) found is = begun b (by_word_is IsBegun (line_forms ws) (forms_of_lines ws) word b found) is

-- ---- what was read
-- what was read before line n: its events stand on rising lines before n, and all is as a schedule's is to be
record Reads (n : ℕ) (r : Reading) : Type 0 where
  first : 1 ≤ n
  rising : IsRisingFrom 1 r.events
  before : Each (λ (e : ℕ × Event). e.0 < n) r.events
  typed : AreTyped r.events
  known : Each (λ (e : ℕ × Event). is_of_clients r.clients e.1 ≡ true) r.events
  clients : Each IsClient r.clients

push : (l n : ℕ) (e : Event) (es : List (ℕ × Event)) → l ≤ n → IsRisingFrom l es → Each (λ (e : ℕ × Event). e.0 < n) es → IsRisingFrom l (es ++ (n, e) ∷ [])
push l n e [] le rising low = (le, tt)
push l n e (x ∷ es) le rising low = (rising.0, push (x.0 + 1) n e es (let lt : x.0 < n = low.0 in omega arith) rising.1 low.1)

pub later : (n : ℕ) (es : List (ℕ × Event)) → Each (λ (e : ℕ × Event). e.0 < n) es → Each (λ (e : ℕ × Event). e.0 < n + 1) es
later n es low = each_weaker (λ (e : ℕ × Event). e.0 < n) (λ (e : ℕ × Event). e.0 < n + 1) (λ (e : ℕ × Event) (lt : e.0 < n). omega arith) es low

any_more : {X : Type 0} (test : X → Bool) (xs ys : List X) → list_any test xs ≡ true → list_any test (xs ++ ys) ≡ true
any_more test [] ys h = absurd (no_true h) where
  no_true : false ≡ true → ⊥
  no_true h = grind arith
any_more test (x ∷ xs) ys h = go (test x) h (any_more test xs ys) where
  go : (b : Bool) → (b || list_any test xs) ≡ true → (list_any test xs ≡ true → list_any test (xs ++ ys) ≡ true) → (b || list_any test (xs ++ ys)) ≡ true
  go true h rest = refl
  go false h rest = rest h

still_known : (clients more : List (ClientNo × ℕ)) (e : Event) → is_of_clients clients e ≡ true → is_of_clients (clients ++ more) e ≡ true
still_known clients more (event.Call client call) h = any_more (λ given. given.0.0 == client.0) clients more h
still_known clients more (event.Poll client) h = any_more (λ given. given.0.0 == client.0) clients more h
still_known clients more (event.GarbageClient client bytes) h = any_more (λ given. given.0.0 == client.0) clients more h
still_known clients more other h = refl

-- an event with no fault names a client that was given
names_given : (r : Reading) (e : Event) → first_fault (event_faults r e) ≡ None → is_of_clients r.clients e ≡ true
names_given r (event.Call client call) none = given (is_given r client) none where
  given : (b : Bool) → first_fault ((not b, UnknownClient) ∷ []) ≡ None → b ≡ true
  given true h = refl
  given false h = grind arith
names_given r (event.Poll client) none = given (is_given r client) none where
  given : (b : Bool) → first_fault ((not b, UnknownClient) ∷ []) ≡ None → b ≡ true
  given true h = refl
  given false h = grind arith
names_given r (event.GarbageClient client bytes) none = given (is_given r client) none where
  given : (b : Bool) → first_fault ((not b, UnknownClient) ∷ (is_none (reply_fault (expanded bytes)), AFrame) ∷ []) ≡ None → b ≡ true
  given true h = refl
  given false h = grind arith
names_given r other none = refl

reads_more : (n : ℕ) (r : Reading) (line : Text) (said : Statement) → IsSaid said → first_fault (said_faults r said) ≡ None → Reads n r → Reads (n + 1) (read_more r n line said)
reads_more n r line (Node pages buckets ring retry) good none k = record { first = let f : 1 ≤ n = k.first in omega arith; rising = k.rising; before = later n r.events k.before; typed = k.typed; known = k.known; clients = k.clients }
reads_more n r line (Offload o) good none k = record { first = let f : 1 ≤ n = k.first in omega arith; rising = k.rising; before = later n r.events k.before; typed = k.typed; known = k.known; clients = k.clients }
reads_more n r line (Client number pid) good none k = record {
  first = let f : 1 ≤ n = k.first in omega arith;
  rising = k.rising;
  before = later n r.events k.before;
  typed = k.typed;
  known = each_weaker (λ (e : ℕ × Event). is_of_clients r.clients e.1 ≡ true) (λ (e : ℕ × Event). is_of_clients (r.clients ++ (number, pid) ∷ []) e.1 ≡ true) (λ e. still_known r.clients ((number, pid) ∷ []) e.1) r.events k.known;
  clients = each_append IsClient r.clients ((number, pid) ∷ []) k.clients (good, tt);
}
reads_more n r line (Happens event) good none k = record {
  first = let f : 1 ≤ n = k.first in omega arith;
  rising = push 1 n event r.events k.first k.rising k.before;
  before = each_append (λ (e : ℕ × Event). e.0 < n + 1) r.events ((n, event) ∷ []) (later n r.events k.before) (omega arith, tt);
  typed = each_append (λ (e : ℕ × Event). is_typed e.1 ≡ true) r.events ((n, event) ∷ []) k.typed (good.0, tt);
  known = each_append (λ (e : ℕ × Event). is_of_clients r.clients e.1 ≡ true) r.events ((n, event) ∷ []) k.known (names_given r event none, tt);
  clients = k.clients;
}

skips : (n : ℕ) (r : Reading) → Reads n r → Reads (n + 1) r
skips n r k = record { first = let f : 1 ≤ n = k.first in omega arith; rising = k.rising; before = later n r.events k.before; typed = k.typed; known = k.known; clients = k.clients }

module _ (n : ℕ) (r : Reading) (line : Text) (k : Reads n r) where
  said_reads : (o : Result Statement What) (more : Reading) → ((said : Statement) → o ≡ Ok said → IsSaid said) → judged_said r n line o ≡ Ok more → Reads (n + 1) more
  said_reads (Err what) more good is = absurd (no_ok (n, what) more is)
  said_reads (Ok said) more good is = step (first_fault (said_faults r said)) refl is where
    step : (o : Option What) → first_fault (said_faults r said) ≡ o → ◌≡◌ {A = Result Reading Fault} (elim o [ Some what ↦ Err (n, what) | None ↦ Ok (read_more r n line said) ]) (Ok more) → Reads (n + 1) more
    step (Some what) none is = absurd (no_ok (n, what) more is)
    step None none is = subst (Reads (n + 1)) (ok_is _ more is) (reads_more n r line said (good said refl) none k)

  line_reads : (more : Reading) → judged_line r n line ≡ Ok more → Reads (n + 1) more
  line_reads more is = step (first_fault (place_faults r line (first_word (words_in line)))) is where
    step : (o : Option What) → ◌≡◌ {A = Result Reading Fault} (elim o [ Some what ↦ Err (n, what) | None ↦ judged_said r n line (said_by_words (words_in line)) ]) (Ok more) → Reads (n + 1) more
    step (Some what) is = absurd (no_ok (n, what) more is)
    step None is = said_reads (said_by_words (words_in line)) more (words_say (words_in line)) is

  read_reads : (more : Reading) → line_read r n line ≡ Ok more → Reads (n + 1) more
  read_reads more is = step (is_skipped line) is where
    step : (b : Bool) → ◌≡◌ {A = Result Reading Fault} (elim b [ true ↦ Ok r | false ↦ judged_line r n line ]) (Ok more) → Reads (n + 1) more
    step true is = subst (Reads (n + 1)) (ok_is r more is) (skips n r k)
    step false is = line_reads more is

end_reads : (n : ℕ) (r : Reading) (node : Option NodeConfig) (s : Schedule) → Reads n r → at_end n r node ≡ Ok s → IsGood s.config s.events
end_reads n r None s k is = absurd (no_ok _ s is)
end_reads n r (Some node) s k is = step (is_empty r.clients) is where
  step : (b : Bool) → ◌≡◌ {A = Result Schedule Fault} (if b then Err (n, ClientExpected) else Ok (record { header = r.header; config = record { node = node; clients = r.clients }; events = r.events })) (Ok s) → IsGood s.config s.events
  step true is = absurd (no_ok _ s is)
  step false is = subst (λ (t : Schedule). IsGood t.config t.events) (ok_is _ s is) (record { rising = k.rising; typed = k.typed; known = k.known; clients = k.clients })

from_reads : (lines : List Text) (n : ℕ) (r : Reading) (s : Schedule) → Reads n r → schedule_from r n lines ≡ Ok s → IsGood s.config s.events
from_reads [] n r s k is = end_reads n r r.node s k is
from_reads (line ∷ lines) n r s k is = step (line_read r n line) refl is (λ more. from_reads lines (n + 1) more s) where
  step : (o : Result Reading Fault) → line_read r n line ≡ o → ◌≡◌ {A = Result Schedule Fault} (elim o [ Err fault ↦ Err fault | Ok more ↦ schedule_from more (n + 1) lines ]) (Ok s)
      → ((more : Reading) → Reads (n + 1) more → schedule_from more (n + 1) lines ≡ Ok s → IsGood s.config s.events) → IsGood s.config s.events
  step (Err fault) read is rest = absurd (no_ok fault s is)
  step (Ok more) read is rest = rest more (read_reads n r line k more read) is

pub schedules_are_good : SchedulesAreGood
schedules_are_good bytes s is =
    from_reads (lines_in bytes) 1 nothing_read s (record { first = omega arith; rising = tt; before = tt; typed = tt; known = tt; clients = tt }) is
