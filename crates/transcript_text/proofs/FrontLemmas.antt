-- Printing that stops in the middle of a text leaves a front of it.
use Rattle.std.proofs.Common.{◌≡◌, ℕ, [], ◌∷◌, ◌++◌, refl, sym, ap, ◌∙◌, append_assoc, append-nil, subst, Result, Ok, Err}
use Rattle.std.specs.Result.{OnErr}
use Rattle.texts.specs.Text.{Text, line_of, words}
use Rattle.transcript_text.specs.Fronts.{IsFront}

-- nothing was printed
pub front_none : (old text : Text) → IsFront old text old
front_none old text = record { front = []; rest = text; written = sym (append-nil old); of_text = refl }

-- a front of the first text
pub front_first : (old a b new : Text) → IsFront old a new → IsFront old (a ++ b) new
front_first old a b new f = record {
  front = f.front;
  rest = f.rest ++ b;
  written = f.written;
  of_text = sym (append_assoc f.front f.rest b) ∙ ap (λ (text : Text). text ++ b) f.of_text;
}

-- the first text, and then a front of the second
pub front_next : (old a b mid new : Text) → mid ≡ old ++ a → IsFront mid b new → IsFront old (a ++ b) new
front_next old a b mid new first f = record {
  front = a ++ f.front;
  rest = f.rest;
  written = f.written ∙ ap (λ (text : Text). text ++ f.front) first ∙ append_assoc old a f.front;
  of_text = append_assoc a f.front f.rest ∙ ap (λ (text : Text). a ++ text) f.of_text;
}

-- two texts, and then a front of the third
pub front_third : (old a b c second third new : Text) → second ≡ old ++ a → third ≡ second ++ b → IsFront third c new → IsFront old (a ++ (b ++ c)) new
front_third old a b c second third new first next f =
    front_next old a (b ++ c) second new first (front_next second b c third new next f)

-- three texts, and then a front of the fourth
pub front_fourth : (old a b c d second third fourth new : Text) → second ≡ old ++ a → third ≡ second ++ b → fourth ≡ third ++ c → IsFront fourth d new → IsFront old (a ++ (b ++ (c ++ d))) new
front_fourth old a b c d second third fourth new first next after f =
    front_next old a (b ++ (c ++ d)) second new first (front_third second b c d third fourth new next after f)

-- one byte, and then a front of the rest
pub front_byte : (old rest second new : Text) (byte : ℕ) → second ≡ old ++ byte ∷ [] → IsFront second rest new → IsFront old (byte ∷ rest) new
front_byte old rest second new byte first f = front_next old (byte ∷ []) rest second new first f

-- what stands is a front, whatever the call returned
pub on_err_front : {T E : Type 0} (r : Result T E) (old text new : Text) → IsFront old text new → OnErr r (IsFront old text new)
on_err_front (Ok x) old text new f = tt
on_err_front (Err e) old text new f = f

-- the last call's own front, behind a text
pub on_err_next : {T E : Type 0} (r : Result T E) (old a b second new : Text) → second ≡ old ++ a → OnErr r (IsFront second b new) → OnErr r (IsFront old (a ++ b) new)
on_err_next (Ok x) old a b second new first f = tt
on_err_next (Err e) old a b second new first f = front_next old a b second new first f

-- four words, and then the rest of a line
four_words : (a b c d rest : Text) → words (a ∷ b ∷ c ∷ d ∷ []) ++ 32 ∷ rest ≡ a ++ 32 ∷ (b ++ 32 ∷ (c ++ 32 ∷ (d ++ 32 ∷ rest)))
four_words a b c d rest = simp append_assoc

pub front_after_four : (old a b c d rest new : Text) → IsFront old (words (a ∷ b ∷ c ∷ d ∷ []) ++ 32 ∷ rest) new → IsFront old (a ++ 32 ∷ (b ++ 32 ∷ (c ++ 32 ∷ (d ++ 32 ∷ rest)))) new
front_after_four old a b c d rest new f = subst (λ (text : Text). IsFront old text new) (four_words a b c d rest) f

pub on_err_after_four : {T E : Type 0} (r : Result T E) (old a b c d rest new : Text) → OnErr r (IsFront old (words (a ∷ b ∷ c ∷ d ∷ []) ++ 32 ∷ rest) new) → OnErr r (IsFront old (a ++ 32 ∷ (b ++ 32 ∷ (c ++ 32 ∷ (d ++ 32 ∷ rest)))) new)
on_err_after_four (Ok x) old a b c d rest new f = tt
on_err_after_four (Err e) old a b c d rest new f = front_after_four old a b c d rest new f

-- three words and the end of the line
pub three_words : (a b c : Text) → words (a ∷ b ∷ c ∷ []) ++ 10 ∷ [] ≡ line_of (a ∷ b ∷ c ∷ [])
three_words a b c = simp append_assoc

-- a front of three words is one of their line
pub front_in_line : (old a b c new : Text) → IsFront old (words (a ∷ b ∷ c ∷ [])) new → IsFront old (line_of (a ∷ b ∷ c ∷ [])) new
front_in_line old a b c new f =
    subst (λ (text : Text). IsFront old text new) (three_words a b c) (front_first old (words (a ∷ b ∷ c ∷ [])) (10 ∷ []) new f)

-- three words were printed, and the end of the line was not
pub on_err_line : {T E : Type 0} (r : Result T E) (old a b c second new : Text) → second ≡ old ++ words (a ∷ b ∷ c ∷ []) → OnErr r (new ≡ second) → OnErr r (IsFront old (line_of (a ∷ b ∷ c ∷ [])) new)
on_err_line (Ok x) old a b c second new first is = tt
on_err_line (Err e) old a b c second new first is =
    subst (λ (text : Text). IsFront old text new) (three_words a b c)
    (front_next old (words (a ∷ b ∷ c ∷ [])) (10 ∷ []) second new first (subst (λ (text : Text). IsFront second (10 ∷ []) text) (sym is) (front_none second (10 ∷ []))))

-- the lemmas that printing one text after another asks for
pub ruleset fronts = (front_none, front_first, front_next, front_byte)
