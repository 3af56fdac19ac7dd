-- The pieces of an entry's line.
use Rattle.std.proofs.Common.{◌≡◌, ℕ, ◌<◌, ◌≤◌, ◌↔◌, ◌==◌, List, [], ◌∷◌, length, refl, sym, ap, ◌∙◌, true, is_some, arith, Option, Some, None, IsSome, IfSome, Err, option_map}
use Rattle.std.specs.Borrow.{Bor}
use Rattle.std.specs.List.{slice_split}
use Rattle.cl_types.specs.Written.{expanded}
use Rattle.cl_types.specs.declared.schedule.What.{What}
use Rattle.cl_types.specs.declared.schedule.What.TheVariants.{BadBytes}
use Rattle.cl_types.specs.declared.schedule.Written.{Written}
use Rattle.schedule_text.proofs.ArgumentLemmas.{parts_some}
use Rattle.schedule_text.specs.Parts.{parts_left}
use Rattle.schedule_text.specs.Telling.{TellsBy}
use Rattle.schedule_text.specs.declared.fault.LineFault.{LineFault}
use Rattle.schedule_text.specs.declared.fault.LineFault.TheVariants.{Bad, NoMemory}
use Rattle.texts.specs.Text.{Text}
use Rattle.texts.specs.Words.{B, BytesWord, argument_in, or_fault, written_in}
use Rattle.transcript_text.specs.HistoryGrammar.{around_equals, bytes_in, part_in}

-- a name of four parts and more is none
pub part_in_four : (c n p : Text) (rest : Text) → part_in (c ∷ n ∷ p ∷ slice_split (λ b. b == 46) rest) ≡ None
part_in_four c n p rest = by (slice_split (λ b. b == 46) rest) (parts_some 46 rest)
  where
    by : (parts : List Text) → 0 < length parts → part_in (c ∷ n ∷ p ∷ parts) ≡ None
    by [] some = absurd (omega arith)
    by (q ∷ parts) some = refl

-- a line with two equals signs and more is none
pub around_three : (before behind : Text) (rest : Text) → around_equals (before ∷ behind ∷ slice_split (λ b. b == 61) rest) ≡ None
around_three before behind rest = by (slice_split (λ b. b == 61) rest) (parts_some 61 rest)
  where
    by : (parts : List Text) → 0 < length parts → around_equals (before ∷ behind ∷ parts) ≡ None
    by [] some = absurd (omega arith)
    by (q ∷ parts) some = refl

-- a name of which three parts were cut, and more is left
pub part_in_more : (name c n p : Text) (first second third : Option (Bor Text)) (rest more : Bor Text)
    → slice_split (λ b. b == 46) name ≡ c ∷ parts_left 46 first → first ≡ Some rest
    → slice_split (λ b. b == 46) rest.now ≡ n ∷ parts_left 46 second → second ≡ Some more
    → slice_split (λ b. b == 46) more.now ≡ p ∷ parts_left 46 third → is_some third ≡ true
    → None ≡ part_in (slice_split (λ b. b == 46) name)
part_in_more name c n p first second None rest more cut some cut' some' cut'' some'' = absurd cc
part_in_more name c n p first second (Some last) rest more cut some cut' some' cut'' some'' =
    let parts : slice_split (λ b. b == 46) name ≡ c ∷ n ∷ p ∷ slice_split (λ b. b == 46) last.now =
    cut ∙ ap (λ (o : Option (Bor Text)). c ∷ parts_left 46 o) some
    ∙ ap (λ (ps : List Text). c ∷ ps) (cut' ∙ ap (λ (o : Option (Bor Text)). n ∷ parts_left 46 o) some')
    ∙ ap (λ (ps : List Text). c ∷ n ∷ ps) cut'' in
    sym (ap (λ (ps : List Text). part_in ps) parts ∙ part_in_four c n p last.now)

-- a line of which two parts were cut, and more is left
pub around_more : (line before behind : Text) (first second : Option (Bor Text)) (rest : Bor Text)
    → slice_split (λ b. b == 61) line ≡ before ∷ parts_left 61 first → first ≡ Some rest
    → slice_split (λ b. b == 61) rest.now ≡ behind ∷ parts_left 61 second → is_some second ≡ true
    → None ≡ around_equals (slice_split (λ b. b == 61) line)
around_more line before behind first None rest cut some cut' some' = absurd cc
around_more line before behind first (Some last) rest cut some cut' some' =
    let parts : slice_split (λ b. b == 61) line ≡ before ∷ behind ∷ slice_split (λ b. b == 61) last.now =
    cut ∙ ap (λ (o : Option (Bor Text)). before ∷ parts_left 61 o) some ∙ ap (λ (ps : List Text). before ∷ ps) cut' in
    sym (ap (λ (ps : List Text). around_equals ps) parts ∙ around_three before behind last.now)

-- 1 is the number of a process
pub one_is_a_pid : (pid : Option ℕ) → IsSome pid ↔ ((0 < 1) × (1 ≤ 65279)) → IfSome pid (λ (n : ℕ). n ≡ 1) → pid ≡ Some 1
one_is_a_pid None some value = let there = some.1 (omega arith, omega arith) in absurd cc
one_is_a_pid (Some n) some value = ap (λ (m : ℕ). Some m) value

-- a word that encodes no bytes
pub no_bytes : (text : Text) (fault : LineFault) (what : What) → fault ≡ Bad what → TellsBy {X = Written} B (Err fault) (argument_in BytesWord text) → bytes_in text ≡ None
no_bytes text NoMemory what is told = absurd cc
no_bytes text (Bad other) what is told = by (written_in text) told
  where
    by : (bytes : Option Written) → or_fault BadBytes B bytes ≡ Err other → option_map expanded bytes ≡ None
    by None bad = refl
    by (Some bytes) bad = absurd cc
