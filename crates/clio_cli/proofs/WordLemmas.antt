-- What command lines ask for.
use Rattle.std.proofs.Common.{◌≡◌, ℕ, Bool, true, false, List, [], ◌∷◌, Option, Some, None, refl, sym, subst, ◌∙◌, length, arith}
use Rattle.std.specs.Option.{option_map}
use Rattle.std.specs.Prelude.{bytes_eq, codes, nat_lt, not, slice_index_or, if◌then◌else◌, ◌-◌, ◌^◌, ◌<◌, ◌≤◌}
use Rattle.std.proofs.lemmas.Bool.Decides.{nat_tests}
use Rattle.std.proofs.lemmas.Slice.Eq.{bytes_eq-Decides}
use Rattle.cl_types.specs.declared.numbers.TheConstants.{LAST_PID}
use Rattle.storm_gen.specs.declared.limits.TheConstants.{MOST_CALLS}
use Rattle.texts.specs.Commands.{Command, Replay, Check, client_command, command_in, counts, in_form, made, node_command, plain, storm_command}
use Rattle.texts.specs.Grammar.{u16, u64}
use Rattle.texts.specs.Text.{Text}
use Rattle.texts.specs.Words.{Argument, Number, Value, arguments_in, number_in}
use Rattle.clio_cli.specs.Words.{command_of, drive_of, serve_of, storm_of}

-- ---- the arguments of the commands
abbrev of_storm : List Argument
of_storm = u64 ∷ Number 0 100000 ∷ []

abbrev of_node : List Argument
of_node = u16 ∷ u64 ∷ u64 ∷ u64 ∷ u64 ∷ counts ∷ counts ∷ []

abbrev of_client : List Argument
of_client = Number 1 65535 ∷ u16 ∷ Number 1 65279 ∷ []

-- the command of words behind the first, by which word that is
abbrev chosen : (a b c d e : Bool) → List Text → Option Command
chosen a b c d e ws =
    in_form ws (
    if a then Some (record { arguments = []; makes = plain Replay })
    else if b then Some (record { arguments = []; makes = plain Check })
    else if c then Some (record { arguments = of_storm; makes = storm_command })
    else if d then Some (record { arguments = of_node; makes = node_command })
    else if e then Some (record { arguments = of_client; makes = client_command })
    else None
    )

-- ---- words that are no command
-- as many words as no form of so many arguments has
wrong_count : (makes : List Value → Option Command) (arguments : List Argument) (ws : List Text) → (length arguments ≡ length ws → ⊥) → made makes (arguments_in arguments ws) ≡ None
wrong_count makes arguments ws never = step (nat_lt (length ws) (length arguments)) (nat_lt (length arguments) (length ws)) refl refl where
  step : (few many : Bool) → nat_lt (length ws) (length arguments) ≡ few → nat_lt (length arguments) (length ws) ≡ many → made makes (arguments_in arguments ws) ≡ None
  step true many is_few is_many = rw is_few refl
  step false true is_few is_many = rw (is_few, is_many) refl
  step false false is_few is_many = absurd (never (grind (arith, nat_tests)))

no : {P : Type 0} (b : Bool) → b ≡ false → b ≡ true → P
no b other is = absurd (let never : false ≡ true = sym other ∙ is in grind arith)

module _ (w : Text) (ws : List Text) where
  -- each form has another first word, or wants other words behind it
  no_command : (bytes_eq w (codes "replay") ≡ true → made (plain Replay) (arguments_in [] ws) ≡ None)
      → (bytes_eq w (codes "check") ≡ true → made (plain Check) (arguments_in [] ws) ≡ None)
      → (bytes_eq w (codes "storm") ≡ true → made storm_command (arguments_in of_storm ws) ≡ None)
      → (bytes_eq w (codes "node") ≡ true → made node_command (arguments_in of_node ws) ≡ None)
      → (bytes_eq w (codes "client") ≡ true → made client_command (arguments_in of_client ws) ≡ None)
      → command_in (w ∷ ws) ≡ None
  no_command = step (bytes_eq w (codes "replay")) (bytes_eq w (codes "check")) (bytes_eq w (codes "storm")) (bytes_eq w (codes "node")) (bytes_eq w (codes "client")) where
    step : (a b c d e : Bool) → (a ≡ true → made (plain Replay) (arguments_in [] ws) ≡ None) → (b ≡ true → made (plain Check) (arguments_in [] ws) ≡ None)
        → (c ≡ true → made storm_command (arguments_in of_storm ws) ≡ None) → (d ≡ true → made node_command (arguments_in of_node ws) ≡ None)
        → (e ≡ true → made client_command (arguments_in of_client ws) ≡ None) → chosen a b c d e ws ≡ None
    step true b c d e replay check storm node client = replay refl
    step false true c d e replay check storm node client = check refl
    step false false true d e replay check storm node client = storm refl
    step false false false true e replay check storm node client = node refl
    step false false false false true replay check storm node client = client refl
    step false false false false false replay check storm node client = refl

  -- where the number of words is that of one form alone
  other_than_plain : (length ws ≡ 0 → ⊥) → (bytes_eq w (codes "storm") ≡ true → made storm_command (arguments_in of_storm ws) ≡ None)
      → (bytes_eq w (codes "node") ≡ true → made node_command (arguments_in of_node ws) ≡ None)
      → (bytes_eq w (codes "client") ≡ true → made client_command (arguments_in of_client ws) ≡ None) → command_in (w ∷ ws) ≡ None
  other_than_plain some = no_command (λ is. wrong_count (plain Replay) [] ws (λ same. some (sym same))) (λ is. wrong_count (plain Check) [] ws (λ same. some (sym same)))

  asks_none : (length ws ≡ 0 → ⊥) → (length ws ≡ 2 → ⊥) → (length ws ≡ 3 → ⊥) → (length ws ≡ 7 → ⊥) → command_in (w ∷ ws) ≡ None
  asks_none none two three seven =
      other_than_plain none (λ is. wrong_count storm_command of_storm ws (λ same. two (sym same))) (λ is. wrong_count node_command of_node ws (λ same. seven (sym same)))
      (λ is. wrong_count client_command of_client ws (λ same. three (sym same)))

pub asks_nothing : (w : Text) → bytes_eq w (codes "replay") ≡ false → bytes_eq w (codes "check") ≡ false → command_in (w ∷ []) ≡ None
asks_nothing w other another =
    no_command w [] (no _ other) (no _ another) (λ is. wrong_count storm_command of_storm [] (λ same. omega (arith, same))) (λ is. wrong_count node_command of_node [] (λ same. omega (arith, same)))
    (λ is. wrong_count client_command of_client [] (λ same. omega (arith, same)))

pub asks_no_storm : (w seed calls : Text) → bytes_eq w (codes "storm") ≡ false → command_in (w ∷ seed ∷ calls ∷ []) ≡ None
asks_no_storm w seed calls other =
    let ws : List Text = seed ∷ calls ∷ [] in
    other_than_plain w ws (λ same. omega (arith, same)) (no _ other) (λ is. wrong_count node_command of_node ws (λ same. omega (arith, same))) (λ is. wrong_count client_command of_client ws (λ same. omega (arith, same)))

pub asks_no_drive : (w port client pid : Text) → bytes_eq w (codes "client") ≡ false → command_in (w ∷ port ∷ client ∷ pid ∷ []) ≡ None
asks_no_drive w port client pid other =
    let ws : List Text = port ∷ client ∷ pid ∷ [] in
    other_than_plain w ws (λ same. omega (arith, same)) (λ is. wrong_count storm_command of_storm ws (λ same. omega (arith, same))) (λ is. wrong_count node_command of_node ws (λ same. omega (arith, same))) (no _ other)

pub asks_no_serve : (w port pages buckets ring retry frames idles : Text) → bytes_eq w (codes "node") ≡ false → command_in (w ∷ port ∷ pages ∷ buckets ∷ ring ∷ retry ∷ frames ∷ idles ∷ []) ≡ None
asks_no_serve w port pages buckets ring retry frames idles other =
    let ws : List Text = port ∷ pages ∷ buckets ∷ ring ∷ retry ∷ frames ∷ idles ∷ [] in
    other_than_plain w ws (λ same. omega (arith, same)) (λ is. wrong_count storm_command of_storm ws (λ same. omega (arith, same))) (no _ other) (λ is. wrong_count client_command of_client ws (λ same. omega (arith, same)))

-- as many words as no command has
pub other_words : (ws : List Text) → (length ws ≡ 1 → ⊥) → (length ws ≡ 3 → ⊥) → (length ws ≡ 4 → ⊥) → (length ws ≡ 8 → ⊥) → command_in ws ≡ None
other_words [] one three four eight = refl
other_words (w ∷ ws) one three four eight =
    asks_none w ws (λ same. one (omega (arith, same))) (λ same. three (omega (arith, same))) (λ same. four (omega (arith, same))) (λ same. eight (omega (arith, same)))

-- ---- words that are a command
pub asks_replay : (w : Text) → bytes_eq w (codes "replay") ≡ true → command_in (w ∷ []) ≡ Some Replay
asks_replay w is = step (bytes_eq w (codes "replay")) (bytes_eq w (codes "check")) (bytes_eq w (codes "storm")) (bytes_eq w (codes "node")) (bytes_eq w (codes "client")) is where
  step : (a b c d e : Bool) → a ≡ true → chosen a b c d e [] ≡ Some Replay
  step true b c d e is = refl
  step false b c d e is = grind arith

pub asks_check : (w : Text) → bytes_eq w (codes "replay") ≡ false → bytes_eq w (codes "check") ≡ true → command_in (w ∷ []) ≡ Some Check
asks_check w other is = step (bytes_eq w (codes "replay")) (bytes_eq w (codes "check")) (bytes_eq w (codes "storm")) (bytes_eq w (codes "node")) (bytes_eq w (codes "client")) other is where
  step : (a b c d e : Bool) → a ≡ false → b ≡ true → chosen a b c d e [] ≡ Some Check
  step false true c d e other is = refl
  step true b c d e other is = grind arith
  step false false c d e other is = grind arith

-- a storm, by its two numbers that were read
pub asks_storm_of : (w seed calls : Text) (s c : Option ℕ) → bytes_eq w (codes "storm") ≡ true → s ≡ number_in 0 (2 ^ 64 - 1) seed → c ≡ number_in 0 MOST_CALLS calls
    → command_in (w ∷ seed ∷ calls ∷ []) ≡ option_map command_of (storm_of s c)
asks_storm_of w seed calls s c is first second =
    subst (λ w. command_in (w ∷ seed ∷ calls ∷ []) ≡ option_map command_of (storm_of s c)) (sym ((bytes_eq-Decides w (codes "storm")).0 is)) (by s c first second) where
      by : (s c : Option ℕ) → s ≡ number_in 0 (2 ^ 64 - 1) seed → c ≡ number_in 0 MOST_CALLS calls → command_in (codes "storm" ∷ seed ∷ calls ∷ []) ≡ option_map command_of (storm_of s c)
      by (Some s) (Some c) first second = rw (sym first, sym second) refl
      by (Some s) None first second = rw (sym first, sym second) refl
      by None c first second = rw (sym first) refl

-- a client, by its three numbers that were read
pub asks_drive_of : (w port client pid : Text) (p c i : Option ℕ) → bytes_eq w (codes "client") ≡ true → p ≡ number_in 1 65535 port → c ≡ number_in 0 65535 client → i ≡ number_in 1 LAST_PID pid
    → command_in (w ∷ port ∷ client ∷ pid ∷ []) ≡ option_map command_of (drive_of p c i)
asks_drive_of w port client pid p c i is first second third =
    subst (λ w. command_in (w ∷ port ∷ client ∷ pid ∷ []) ≡ option_map command_of (drive_of p c i)) (sym ((bytes_eq-Decides w (codes "client")).0 is)) (by p c i first second third) where
      by : (p c i : Option ℕ) → p ≡ number_in 1 65535 port → c ≡ number_in 0 65535 client → i ≡ number_in 1 LAST_PID pid
          → command_in (codes "client" ∷ port ∷ client ∷ pid ∷ []) ≡ option_map command_of (drive_of p c i)
      by (Some p) (Some c) (Some i) first second third = rw (sym first, sym second, sym third) refl
      by (Some p) (Some c) None first second third = rw (sym first, sym second, sym third) refl
      by (Some p) None i first second third = rw (sym first, sym second) refl
      by None c i first second third = rw (sym first) refl

-- a node, by its seven numbers that were read
pub asks_serve_of : (w port pages buckets ring retry frames idles : Text) (p a b r k f i : Option ℕ) → bytes_eq w (codes "node") ≡ true
    → p ≡ number_in 0 65535 port → a ≡ number_in 0 (2 ^ 64 - 1) pages → b ≡ number_in 0 (2 ^ 64 - 1) buckets → r ≡ number_in 0 (2 ^ 64 - 1) ring → k ≡ number_in 0 (2 ^ 64 - 1) retry
    → f ≡ number_in 1 4294967295 frames → i ≡ number_in 1 4294967295 idles
    → command_in (w ∷ port ∷ pages ∷ buckets ∷ ring ∷ retry ∷ frames ∷ idles ∷ []) ≡ option_map command_of (serve_of p a b r k f i)
asks_serve_of w port pages buckets ring retry frames idles p a b r k f i is e1 e2 e3 e4 e5 e6 e7 =
    subst (λ w. command_in (w ∷ port ∷ pages ∷ buckets ∷ ring ∷ retry ∷ frames ∷ idles ∷ []) ≡ option_map command_of (serve_of p a b r k f i)) (sym ((bytes_eq-Decides w (codes "node")).0 is))
    (by p a b r k f i e1 e2 e3 e4 e5 e6 e7) where
      by : (p a b r k f i : Option ℕ) → p ≡ number_in 0 65535 port → a ≡ number_in 0 (2 ^ 64 - 1) pages → b ≡ number_in 0 (2 ^ 64 - 1) buckets → r ≡ number_in 0 (2 ^ 64 - 1) ring
          → k ≡ number_in 0 (2 ^ 64 - 1) retry → f ≡ number_in 1 4294967295 frames → i ≡ number_in 1 4294967295 idles
          → command_in (codes "node" ∷ port ∷ pages ∷ buckets ∷ ring ∷ retry ∷ frames ∷ idles ∷ []) ≡ option_map command_of (serve_of p a b r k f i)
      by (Some p) (Some a) (Some b) (Some r) (Some k) (Some f) (Some i) e1 e2 e3 e4 e5 e6 e7 = rw (sym e1, sym e2, sym e3, sym e4, sym e5, sym e6, sym e7) refl
      by (Some p) (Some a) (Some b) (Some r) (Some k) (Some f) None e1 e2 e3 e4 e5 e6 e7 = rw (sym e1, sym e2, sym e3, sym e4, sym e5, sym e6, sym e7) refl
      by (Some p) (Some a) (Some b) (Some r) (Some k) None i e1 e2 e3 e4 e5 e6 e7 = rw (sym e1, sym e2, sym e3, sym e4, sym e5, sym e6) refl
      by (Some p) (Some a) (Some b) (Some r) None f i e1 e2 e3 e4 e5 e6 e7 = rw (sym e1, sym e2, sym e3, sym e4, sym e5) refl
      by (Some p) (Some a) (Some b) None k f i e1 e2 e3 e4 e5 e6 e7 = rw (sym e1, sym e2, sym e3, sym e4) refl
      by (Some p) (Some a) None r k f i e1 e2 e3 e4 e5 e6 e7 = rw (sym e1, sym e2, sym e3) refl
      by (Some p) None b r k f i e1 e2 e3 e4 e5 e6 e7 = rw (sym e1, sym e2) refl
      by None a b r k f i e1 e2 e3 e4 e5 e6 e7 = rw (sym e1) refl

-- ---- words of a slice
-- a word that isn't another
pub word_is : (a b w : Text) → b ≡ w → false ≡ not (bytes_eq a b) → bytes_eq a w ≡ true
word_is a b w same is = subst (λ b. bytes_eq a b ≡ true) same (by (bytes_eq a b) is) where
  by : (b : Bool) → false ≡ not b → b ≡ true
  by true is = refl
  by false is = grind arith

-- the words of a slice of eight
pub eight_words : (ws : List Text) (a b c d e f g h : Text) (a' b' c' d' e' f' g' h' : Text) → 8 ≤ length ws → length ws < 9
    → a ≡ slice_index_or ws 0 a → b ≡ slice_index_or ws 1 b → c ≡ slice_index_or ws 2 c → d ≡ slice_index_or ws 3 d → e ≡ slice_index_or ws 4 e → f ≡ slice_index_or ws 5 f → g ≡ slice_index_or ws 6 g → h ≡ slice_index_or ws 7 h
    → a' ≡ a → b' ≡ b → c' ≡ c → d' ≡ d → e' ≡ e → f' ≡ f → g' ≡ g → h' ≡ h
    → ws ≡ a' ∷ b' ∷ c' ∷ d' ∷ e' ∷ f' ∷ g' ∷ h' ∷ []
eight_words [] a b c d e f g h a' b' c' d' e' f' g' h' low high i0 i1 i2 i3 i4 i5 i6 i7 e0 e1 e2 e3 e4 e5 e6 e7 = absurd (omega (arith, low))
eight_words (x0 ∷ []) a b c d e f g h a' b' c' d' e' f' g' h' low high i0 i1 i2 i3 i4 i5 i6 i7 e0 e1 e2 e3 e4 e5 e6 e7 = absurd (omega (arith, low))
eight_words (x0 ∷ x1 ∷ []) a b c d e f g h a' b' c' d' e' f' g' h' low high i0 i1 i2 i3 i4 i5 i6 i7 e0 e1 e2 e3 e4 e5 e6 e7 = absurd (omega (arith, low))
eight_words (x0 ∷ x1 ∷ x2 ∷ []) a b c d e f g h a' b' c' d' e' f' g' h' low high i0 i1 i2 i3 i4 i5 i6 i7 e0 e1 e2 e3 e4 e5 e6 e7 = absurd (omega (arith, low))
eight_words (x0 ∷ x1 ∷ x2 ∷ x3 ∷ []) a b c d e f g h a' b' c' d' e' f' g' h' low high i0 i1 i2 i3 i4 i5 i6 i7 e0 e1 e2 e3 e4 e5 e6 e7 = absurd (omega (arith, low))
eight_words (x0 ∷ x1 ∷ x2 ∷ x3 ∷ x4 ∷ []) a b c d e f g h a' b' c' d' e' f' g' h' low high i0 i1 i2 i3 i4 i5 i6 i7 e0 e1 e2 e3 e4 e5 e6 e7 = absurd (omega (arith, low))
eight_words (x0 ∷ x1 ∷ x2 ∷ x3 ∷ x4 ∷ x5 ∷ []) a b c d e f g h a' b' c' d' e' f' g' h' low high i0 i1 i2 i3 i4 i5 i6 i7 e0 e1 e2 e3 e4 e5 e6 e7 = absurd (omega (arith, low))
eight_words (x0 ∷ x1 ∷ x2 ∷ x3 ∷ x4 ∷ x5 ∷ x6 ∷ []) a b c d e f g h a' b' c' d' e' f' g' h' low high i0 i1 i2 i3 i4 i5 i6 i7 e0 e1 e2 e3 e4 e5 e6 e7 = absurd (omega (arith, low))
eight_words (x0 ∷ x1 ∷ x2 ∷ x3 ∷ x4 ∷ x5 ∷ x6 ∷ x7 ∷ []) a b c d e f g h a' b' c' d' e' f' g' h' low high i0 i1 i2 i3 i4 i5 i6 i7 e0 e1 e2 e3 e4 e5 e6 e7 =
    let s0 : x0 ≡ a' = sym (e0 ∙ i0) in
    let s1 : x1 ≡ b' = sym (e1 ∙ i1) in
    let s2 : x2 ≡ c' = sym (e2 ∙ i2) in
    let s3 : x3 ≡ d' = sym (e3 ∙ i3) in
    let s4 : x4 ≡ e' = sym (e4 ∙ i4) in
    let s5 : x5 ≡ f' = sym (e5 ∙ i5) in
    let s6 : x6 ≡ g' = sym (e6 ∙ i6) in
    let s7 : x7 ≡ h' = sym (e7 ∙ i7) in
    rw (s0, s1, s2, s3, s4, s5, s6, s7) refl
eight_words (x0 ∷ x1 ∷ x2 ∷ x3 ∷ x4 ∷ x5 ∷ x6 ∷ x7 ∷ x8 ∷ xs) a b c d e f g h a' b' c' d' e' f' g' h' low high i0 i1 i2 i3 i4 i5 i6 i7 e0 e1 e2 e3 e4 e5 e6 e7 = absurd (omega (arith, high))
