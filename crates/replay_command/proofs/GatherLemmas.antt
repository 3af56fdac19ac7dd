-- From text that is held to text that was written.
use Rattle.std.proofs.Common.{◌≡◌, ℕ, ◌+◌, ◌<◌, List, [], ◌∷◌, ◌++◌, Option, Some, None, refl, sym, ap, ◌∙◌, subst, arith, length, append-nil, append_assoc, length-append, take, drop, get_or, Ok, Err}
use Rattle.std.specs.Prelude.{OnErr, Result, flat_map, option_map}
use Rattle.std.proofs.lemmas.Grind.{flat_map-append}
use Rattle.std.proofs.lemmas.List.{take-append-drop, take-append-le, take_more}
use Rattle.std.proofs.Math.Seq.{take-append-add}
use Rattle.cl_outside.specs.Loops.{WroteFront}
use Rattle.cl_outside.specs.Told.{Added}
use Rattle.texts.specs.Text.{Text}
use Rattle.replay_command.specs.Gathered.{Gathered}
use Rattle.command_text.proofs.WorkLemmas.{added_none}

added_on : (a b : Text) (before mid after : Option (List ℕ)) → Added a before mid → Added b mid after → Added (a ++ b) before after
added_on a b before mid after h k = k ∙ ap (option_map (λ (old : List ℕ). old ++ b)) h ∙ twice before where
  twice : (before : Option (List ℕ)) → option_map (λ (old : List ℕ). old ++ b) (option_map (λ (old : List ℕ). old ++ a) before) ≡ option_map (λ (old : List ℕ). old ++ (a ++ b)) before
  twice None = refl
  twice (Some old) = ap Some (append_assoc old a b)

-- ---- what is gathered
-- all is held, and nothing was written
pub gathered_first : (text : Text) (before : Option (List ℕ)) → Gathered text text before before
gathered_first text before = record { gone = []; split = refl; written = added_none before }

-- all that was held was written
pub gathered_gone : (text : Text) (before now : Option (List ℕ)) → Added text before now → Gathered text [] before now
gathered_gone text before now added = record { gone = text; split = sym (append-nil text); written = added }

module _ (text held more : Text) (before mid now : Option (List ℕ)) (g : Gathered text held before mid) where
  whole : text ++ more ≡ g.gone ++ (held ++ more)
  whole = ap (λ (t : Text). t ++ more) g.split ∙ append_assoc g.gone held more

  -- more was gathered behind what was held
  pub gathered_on : (left : Text) → Gathered (held ++ more) left mid now → Gathered (text ++ more) left before now
  gathered_on left h = record {
    gone = g.gone ++ h.gone;
    split = whole ∙ ap (λ (t : Text). g.gone ++ t) h.split ∙ sym (append_assoc g.gone h.gone left);
    written = added_on g.gone h.gone before mid now g.written h.written;
  }

  -- all was written
  pub gathered_all : Added (held ++ more) mid now → Added (text ++ more) before now
  gathered_all h = subst (λ (t : Text). Added t before now) (sym whole) (added_on g.gone (held ++ more) before mid now g.written h)

  -- a front of it was written
  pub front_on : WroteFront (held ++ more) mid now → WroteFront (text ++ more) before now
  front_on (n, le, added) =
      let long : length (text ++ more) ≡ length g.gone + length (held ++ more) = ap length whole ∙ length-append g.gone (held ++ more) in
      let same : take (length g.gone + n) (text ++ more) ≡ g.gone ++ take n (held ++ more) = ap (take (length g.gone + n)) whole ∙ take-append-add g.gone (held ++ more) n in
      (length g.gone + n, omega (arith, le, long), subst (λ (t : Text). Added t before now) (sym same) (added_on g.gone (take n (held ++ more)) before mid now g.written added))

-- a front of a text is one of a longer text
pub front_wider : (text more : Text) (before now : Option (List ℕ)) → WroteFront text before now → WroteFront (text ++ more) before now
front_wider text more before now (n, le, added) =
    let long : length (text ++ more) ≡ length text + length more = length-append text more in
    (n, omega (arith, le, long), subst (λ (t : Text). Added t before now) (sym (take-append-le n text more le)) added)

pub front_of : (text all : Text) (before now : Option (List ℕ)) → text ≡ all → WroteFront text before now → WroteFront all before now
front_of text all before now same f = subst (λ (t : Text). WroteFront t before now) same f

-- ---- where a call failed
pub at_err : {A E : Type 0} {P : Type 0} (r : Result A E) → P → OnErr r P
at_err (Ok x) p = tt
at_err (Err e) p = p

-- ---- one text for each item
module _ {X : Type 0} (f : X → Text) (xs : List X) (i : ℕ) (x : X) (within : i < length xs) (is : x ≡ get_or xs i x) where
  next : flat_map f (take (i + 1) xs) ≡ flat_map f (take i xs) ++ f x
  next =
      ap (flat_map f) (take_more xs i x within ∙ ap (λ (y : X). take i xs ++ y ∷ []) (sym is))
      ∙ flat_map-append f (take i xs) (x ∷ []) ∙ ap (λ (t : Text). flat_map f (take i xs) ++ t) (append-nil (f x))

  module _ (old held : Text) (before mid now : Option (List ℕ)) (g : Gathered (old ++ flat_map f (take i xs)) held before mid) where
    longer : (old ++ flat_map f (take i xs)) ++ f x ≡ old ++ flat_map f (take (i + 1) xs)
    longer = append_assoc old (flat_map f (take i xs)) (f x) ∙ ap (λ (t : Text). old ++ t) (sym next)

    pub entries_front : WroteFront (held ++ f x) mid now → WroteFront (old ++ flat_map f xs) before now
    entries_front front =
        let rest : Text = flat_map f (drop (i + 1) xs) in
        let all : flat_map f xs ≡ flat_map f (take (i + 1) xs) ++ rest = ap (flat_map f) (sym (take-append-drop (i + 1) xs)) ∙ flat_map-append f (take (i + 1) xs) (drop (i + 1) xs) in
        let whole : ((old ++ flat_map f (take i xs)) ++ f x) ++ rest ≡ old ++ flat_map f xs
        = ap (λ (t : Text). t ++ rest) longer ∙ append_assoc old (flat_map f (take (i + 1) xs)) rest ∙ ap (λ (t : Text). old ++ t) (sym all) in
        front_of (((old ++ flat_map f (take i xs)) ++ f x) ++ rest) (old ++ flat_map f xs) before now whole
        (front_wider ((old ++ flat_map f (take i xs)) ++ f x) rest before now (front_on (old ++ flat_map f (take i xs)) held (f x) before mid now g front))

    pub entries_more : (left : Text) → Gathered (held ++ f x) left mid now → Gathered (old ++ flat_map f (take (i + 1) xs)) left before now
    entries_more left h = subst (λ (t : Text). Gathered t left before now) longer (gathered_on (old ++ flat_map f (take i xs)) held (f x) before mid now g left h)
