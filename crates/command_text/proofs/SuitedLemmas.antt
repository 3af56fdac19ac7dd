-- A schedule that was read is suited to a world.
use Rattle.std.proofs.Common.{◌≡◌, ℕ, ◌+◌, ◌<◌, ◌≤◌, Bool, true, false, List, [], ◌∷◌, ◌++◌, Option, Some, None, Ok, Err, refl, ap, sym, subst, ◌∙◌, arith, length, length-append, map}
use Rattle.std.specs.Prelude.{Result, ◌^◌, ◌==◌, ◌||◌, if◌then◌else◌, leb, nat_lt, not}
use Rattle.std.specs.List.{AllByRecursion as Each, list_any}
use Rattle.std.proofs.lemmas.Bool.Decides.{nat_tests}
use Rattle.cl_types.specs.declared.config.NodeConfig.{NodeConfig}
use Rattle.cl_types.specs.declared.limits.TheConstants.{INPUT_BYTES, INPUT_LINES, MOST_CLIENTS, PAGE_BYTES}
use Rattle.cl_types.specs.declared.numbers.Addr.{Addr}
use Rattle.cl_types.specs.declared.numbers.ClientNo.{ClientNo}
use Rattle.cl_types.specs.declared.schedule.Event.{Event}
use Rattle.cl_types.specs.declared.schedule.Event.TheVariants as event
use Rattle.cl_types.specs.declared.schedule.Schedule.{Schedule}
use Rattle.cl_types.specs.declared.schedule.What.{What}
use Rattle.cl_types.specs.declared.schedule.What.TheVariants.{BadLength, ClientExpected, ClientRepeated, TooManyClients}
use Rattle.frame_model.specs.Faults.{first_fault}
use Rattle.texts.specs.Grammar.{Fault, Reading, Statement, Node, Offload, Client, Happens, at_end, event_faults, is_given, judged_line, judged_said, line_read, nothing_read, place_faults, read_more, said_by_words, said_faults, schedule_from}
use Rattle.cl_types.specs.Pages.{offset_of}
use Rattle.cl_types.specs.Ranges.{is_good_address}
use Rattle.texts.specs.Text.{Text, first_word, is_empty, is_skipped, lines_in, words_in}
use Rattle.schedule_text.specs.Reading.{too_long_of}
use Rattle.schedule_text.specs.declared.fault.ScheduleFault.{ScheduleFault}
use Rattle.schedule_text.specs.declared.fault.ScheduleFault.TheVariants.{TooLong}
use Rattle.lemmas.proofs.Lists.{each_append, each_weaker}
use Rattle.trace_texts.proofs.ReadSchedules.{IsMeasured, IsSaid, no_ok, ok_is, words_say, later}
use Rattle.client_model.specs.Apart.{AreApart}
use Rattle.world.specs.Running.{HaveNumbersApart, IsFair}
use Rattle.command_text.specs.Suited.{SchedulesAreSuited}
use Rattle.lemmas.proofs.SameParts.{eqb_turned as turned}
use Rattle.std.proofs.lemmas.Bool.{not-false as not_false}

abbrev number : ClientNo × ℕ → ℕ
number given = given.0.0

-- ---- numbers of clients
both_false : (a b : Bool) → (a || b) ≡ false → (a ≡ false) × (b ≡ false)
both_false false b h = (refl, h)
both_false true b h = grind arith

-- a number is still missing where another one joins
still_missing : (n : ℕ) (clients : List (ClientNo × ℕ)) (c : ClientNo × ℕ) → list_any (λ m. m == n) (map number clients) ≡ false → (c.0.0 == n) ≡ false → list_any (λ m. m == n) (map number (clients ++ c ∷ [])) ≡ false
still_missing n [] c missing new = ap (λ b. b || false) new
still_missing n (d ∷ clients) c missing new =
    let h = both_false (d.0.0 == n) (list_any (λ m. m == n) (map number clients)) missing in
    ap (λ b. b || list_any (λ m. m == n) (map number (clients ++ c ∷ []))) h.0 ∙ still_missing n clients c h.1 new

-- a number that none of them has stands behind them
apart_push : (clients : List (ClientNo × ℕ)) (c : ClientNo × ℕ) → AreApart (map number clients) → list_any (λ (given : ClientNo × ℕ). given.0.0 == c.0.0) clients ≡ false → AreApart (map number (clients ++ c ∷ []))
apart_push [] c apart new = (refl, tt)
apart_push (d ∷ clients) c apart new =
    let h = both_false (d.0.0 == c.0.0) (list_any (λ (given : ClientNo × ℕ). given.0.0 == c.0.0) clients) new in
    (still_missing d.0.0 clients c apart.0 (turned d.0.0 c.0.0 h.0), apart_push clients c apart.1 h.1)

-- ---- faults
-- where no fault holds, the first doesn't, and none of the others
no_first : (b : Bool) (what : What) (more : List (Bool × What)) → first_fault ((b, what) ∷ more) ≡ None → (b ≡ false) × (first_fault more ≡ None)
no_first false what more none = (refl, none)
no_first true what more none = absurd (let never : ◌≡◌ {A = Option What} (Some what) None = none in grind arith)

-- ---- events
fair_event : (r : Reading) (e : Event) → IsMeasured e → first_fault (event_faults r e) ≡ None → IsFair e
fair_event r (event.Tick by) measured none = measured.1
fair_event r (event.Peek pid addr len) measured none =
    let h = both_false (not (is_good_address addr)) (nat_lt PAGE_BYTES (offset_of addr + len)) (no_first _ BadLength [] none).0 in
    record { good = good addr (not_false (is_good_address addr) h.0); some = measured; within = within (offset_of addr + len) h.1 }
  where
    good : (a : Addr) → is_good_address a ≡ true → a.0 < 268435456
    good a h = grind (arith, nat_tests)

    within : (n : ℕ) → nat_lt PAGE_BYTES n ≡ false → n ≤ PAGE_BYTES
    within n h = grind (arith, nat_tests)
fair_event r other measured none = tt

-- ---- what was read
-- what was read before line n is suited to a world
record Suits (n : ℕ) (r : Reading) : Type 0 where
  most : length r.clients ≤ MOST_CLIENTS
  apart : AreApart (map number r.clients)
  before : Each (λ (e : ℕ × Event). e.0 < n) r.events
  fair : Each (λ (e : ℕ × Event). IsFair e.1) r.events

few : (n : ℕ) → leb MOST_CLIENTS n ≡ false → n + 1 ≤ MOST_CLIENTS
few n h = grind (arith, nat_tests)

suits_more : (n : ℕ) (r : Reading) (line : Text) (said : Statement) → IsSaid said → first_fault (said_faults r said) ≡ None → Suits n r → Suits (n + 1) (read_more r n line said)
suits_more n r line (Node pages buckets ring retry) good none k = record { most = k.most; apart = k.apart; before = later n r.events k.before; fair = k.fair }
suits_more n r line (Offload o) good none k = record { most = k.most; apart = k.apart; before = later n r.events k.before; fair = k.fair }
suits_more n r line (Client c pid) good none k =
    let new = no_first (is_given r c) ClientRepeated ((leb MOST_CLIENTS (length r.clients), TooManyClients) ∷ []) none in
    let room = no_first (leb MOST_CLIENTS (length r.clients)) TooManyClients [] new.1 in
    let long : length (r.clients ++ (c, pid) ∷ []) ≡ length r.clients + 1 = length-append r.clients ((c, pid) ∷ []) in
    let short = few (length r.clients) room.0 in
    record { most = subst (λ k. k ≤ MOST_CLIENTS) (sym long) short; apart = apart_push r.clients (c, pid) k.apart new.0; before = later n r.events k.before; fair = k.fair }
suits_more n r line (Happens e) good none k = record {
  most = k.most;
  apart = k.apart;
  before = each_append (λ (e : ℕ × Event). e.0 < n + 1) r.events ((n, e) ∷ []) (later n r.events k.before) (omega arith, tt);
  fair = each_append (λ (e : ℕ × Event). IsFair e.1) r.events ((n, e) ∷ []) k.fair (fair_event r e good.1 none, tt);
}

suits_skipped : (n : ℕ) (r : Reading) → Suits n r → Suits (n + 1) r
suits_skipped n r k = record { most = k.most; apart = k.apart; before = later n r.events k.before; fair = k.fair }

module _ (n : ℕ) (r : Reading) (line : Text) (k : Suits n r) where
  said_suits : (o : Result Statement What) (more : Reading) → ((said : Statement) → o ≡ Ok said → IsSaid said) → judged_said r n line o ≡ Ok more → Suits (n + 1) more
  said_suits (Err what) more good is = absurd (no_ok (n, what) more is)
  said_suits (Ok said) more good is = step (first_fault (said_faults r said)) refl is where
    step : (o : Option What) → first_fault (said_faults r said) ≡ o → ◌≡◌ {A = Result Reading Fault} (elim o [ Some what ↦ Err (n, what) | None ↦ Ok (read_more r n line said) ]) (Ok more) → Suits (n + 1) more
    step (Some what) none is = absurd (no_ok (n, what) more is)
    step None none is = subst (Suits (n + 1)) (ok_is _ more is) (suits_more n r line said (good said refl) none k)

  line_suits : (more : Reading) → judged_line r n line ≡ Ok more → Suits (n + 1) more
  line_suits more is = step (first_fault (place_faults r line (first_word (words_in line)))) is where
    step : (o : Option What) → ◌≡◌ {A = Result Reading Fault} (elim o [ Some what ↦ Err (n, what) | None ↦ judged_said r n line (said_by_words (words_in line)) ]) (Ok more) → Suits (n + 1) more
    step (Some what) is = absurd (no_ok (n, what) more is)
    step None is = said_suits (said_by_words (words_in line)) more (words_say (words_in line)) is

  read_suits : (more : Reading) → line_read r n line ≡ Ok more → Suits (n + 1) more
  read_suits more is = step (is_skipped line) is where
    step : (b : Bool) → ◌≡◌ {A = Result Reading Fault} (elim b [ true ↦ Ok r | false ↦ judged_line r n line ]) (Ok more) → Suits (n + 1) more
    step true is = subst (Suits (n + 1)) (ok_is r more is) (suits_skipped n r k)
    step false is = line_suits more is

-- what a schedule has whose lines end before line n
record Suited (n : ℕ) (s : Schedule) : Type 0 where
  some : 1 ≤ length s.config.clients
  most : length s.config.clients ≤ MOST_CLIENTS
  apart : HaveNumbersApart s.config
  before : Each (λ (e : ℕ × Event). e.0 < n) s.events
  fair : Each (λ (e : ℕ × Event). IsFair e.1) s.events

some_clients : (clients : List (ClientNo × ℕ)) → is_empty clients ≡ false → 1 ≤ length clients
some_clients [] h = grind arith
some_clients (c ∷ clients) h = omega arith

end_suits : (n : ℕ) (r : Reading) (node : Option NodeConfig) (s : Schedule) → Suits n r → at_end n r node ≡ Ok s → Suited n s
end_suits n r None s k is = absurd (no_ok _ s is)
end_suits n r (Some node) s k is = step (is_empty r.clients) refl is where
  step : (b : Bool) → is_empty r.clients ≡ b → ◌≡◌ {A = Result Schedule Fault} (if b then Err (n, ClientExpected) else Ok (record { header = r.header; config = record { node = node; clients = r.clients }; events = r.events })) (Ok s) → Suited n s
  step true empty is = absurd (no_ok _ s is)
  step false empty is = subst (Suited n) (ok_is _ s is) (record { some = some_clients r.clients empty; most = k.most; apart = k.apart; before = k.before; fair = k.fair })

from_suits : (lines : List Text) (n : ℕ) (r : Reading) (s : Schedule) → Suits n r → schedule_from r n lines ≡ Ok s → Suited (n + length lines) s
from_suits [] n r s k is = let same : n ≡ n + length {A = Text} [] = omega arith in subst (λ m. Suited m s) same (end_suits n r r.node s k is)
from_suits (line ∷ lines) n r s k is = step (line_read r n line) refl is (λ more. from_suits lines (n + 1) more s) where
  step : (o : Result Reading Fault) → line_read r n line ≡ o → ◌≡◌ {A = Result Schedule Fault} (elim o [ Err fault ↦ Err fault | Ok more ↦ schedule_from more (n + 1) lines ]) (Ok s)
      → ((more : Reading) → Suits (n + 1) more → schedule_from more (n + 1) lines ≡ Ok s → Suited (n + 1 + length lines) s) → Suited (n + length (line ∷ lines)) s
  step (Err fault) read is rest = absurd (no_ok fault s is)
  step (Ok more) read is rest =
      let same : n + 1 + length lines ≡ n + length (line ∷ lines) = omega arith in
      subst (λ m. Suited m s) same (rest more (read_suits n r line k more read) is)

-- ---- lines within the limits
pub few_lines : (bytes : List ℕ) → too_long_of bytes ≡ None → length (lines_in bytes) ≤ INPUT_LINES
few_lines bytes short = go (nat_lt INPUT_BYTES (length bytes)) (nat_lt INPUT_LINES (length (lines_in bytes))) refl short where
  go : (a b : Bool) → nat_lt INPUT_LINES (length (lines_in bytes)) ≡ b
      → ◌≡◌ {A = Option ScheduleFault} (if a then Some (TooLong true (INPUT_BYTES + 1)) else if b then Some (TooLong false (INPUT_LINES + 1)) else None) None → length (lines_in bytes) ≤ INPUT_LINES
  go true b is none = grind arith
  go false true is none = grind arith
  go false false is none = within (length (lines_in bytes)) is where
    within : (n : ℕ) → nat_lt INPUT_LINES n ≡ false → n ≤ INPUT_LINES
    within n h = grind (arith, nat_tests)

pub schedules_suited : SchedulesAreSuited
schedules_suited bytes s short is =
    let k : Suited (1 + length (lines_in bytes)) s = from_suits (lines_in bytes) 1 nothing_read s (record { most = omega arith; apart = tt; before = tt; fair = tt }) is in
    let lines = few_lines bytes short in
    record {
      some = k.some;
      most = k.most;
      apart = k.apart;
      bounded = each_weaker (λ (e : ℕ × Event). e.0 < 1 + length (lines_in bytes)) (λ (e : ℕ × Event). e.0 < 2 ^ 29) (λ (e : ℕ × Event) (lt : e.0 < 1 + length (lines_in bytes)). omega (arith, lines, lt)) s.events k.before;
      fair = k.fair;
    }
