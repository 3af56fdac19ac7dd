-- The lists of a pool whose pages are all free.
use Rattle.std.proofs.Common.{◌≡◌, ℕ, zero, suc, ◌+◌, ◌-◌, ◌<◌, ◌≤◌, min, false, eqb, inl, inr, List, [], ◌∷◌, ◌++◌, length, refl, sym, ap, ◌∙◌, arith, append-nil}
use Rattle.std.specs.List.{AllByRecursion, IsDistinct, range_with_len}
use Rattle.std.proofs.lemmas.Bool.{cases_Bool, ne_eqb}
use Rattle.std.proofs.lemmas.List.{map-id}
use Rattle.std.proofs.lemmas.List.FromFn.{length-range_with_len, map-range_with_len_more}
use Rattle.circular_buffer.specs.Buffer.{Buffer, buffer, keep_last}
use Rattle.index_lists.specs.NodeLists.{NodeLists, has, list_at, IsFree, with_list}
use Rattle.page_pool.specs.Kept.{IsSound}
use Rattle.index_lists.proofs.Members.{has-range}

-- a range with one more number at its end
pub range_push : (a n : ℕ) → range_with_len a (n + 1) ≡ range_with_len a n ++ (a + n) ∷ []
range_push a n = sym (map-id _) ∙ map-range_with_len_more (λ x. x) a n (a + n) refl ∙ ap (λ (xs : List ℕ). xs ++ (a + n) ∷ []) (map-id _)

-- a range in two pieces
pub range_append : (a m n : ℕ) → range_with_len a m ++ range_with_len (a + m) n ≡ range_with_len a (m + n)
range_append a zero n = let e : a + 0 ≡ a = omega arith in let f : 0 + n ≡ n = omega arith in rw (e, f) refl
range_append a (suc m) n =
    let e : a + suc m ≡ a + 1 + m = omega arith in
    let f : suc m + n ≡ suc (m + n) = omega arith in
    rw (e, f) (ap (λ (xs : List ℕ). a ∷ xs) (range_append (a + 1) m n))

-- and no others
pub not_in_range : (a n p : ℕ) → a + n ≤ p → has (range_with_len a n) p ≡ false
not_in_range a n p le = elim (cases_Bool (has (range_with_len a n) p)) [ inl t ↦ absurd (omega (arith, (has-range a n p t).1)) | inr f ↦ f ]

-- none of them twice
IsDistinct-range : (a n : ℕ) → IsDistinct eqb (range_with_len a n)
unfolding IsDistinct
IsDistinct-range a zero = tt
IsDistinct-range a (suc n) = (apart a (a + 1) n (omega arith), IsDistinct-range (a + 1) n)
  where
    apart : (x a n : ℕ) → x < a → AllByRecursion (λ y. eqb x y ≡ false) (range_with_len a n)
    apart x a zero lt = tt
    apart x a (suc n) lt = (ne_eqb x a (λ e. omega arith), apart x (a + 1) n (omega arith))

module _ (count ring page : ℕ) where
  -- the ring when the pages below `page` are put in
  abbrev pub filled_at : Buffer ℕ
  filled_at = buffer (range_with_len 0 (min page ring)) ring

  -- the lists then
  abbrev pub lists_at : NodeLists
  lists_at = record { nodes = count; lists = range_with_len (min page ring) (page - ring) ∷ [] ∷ [] }

  -- the next page is in neither
  pub free_at : (lists : NodeLists) → lists ≡ lists_at → ring ≤ page → IsFree lists page
  free_at lists e le l = ap (λ (w : NodeLists). has (list_at w l) page) e ∙ at l
    where
      at : (l : ℕ) → has (list_at lists_at l) page ≡ false
      at zero = not_in_range (min page ring) (page - ring) page (omega arith)
      at (suc zero) = refl
      at (suc (suc l)) = refl

-- a page more in the ring
pub fill_ring : (count ring page : ℕ) (b b' : Buffer ℕ) → b ≡ filled_at count ring page → page < ring → b' ≡ buffer (keep_last b.capacity (b.items ++ page ∷ [])) b.capacity → b' ≡ filled_at count ring (page + 1)
fill_ring count ring page b b' e lt eb =
    let small : min page ring ≡ page = omega arith in
    let more : min (page + 1) ring ≡ page + 1 = omega arith in
    let pushed : range_with_len 0 page ++ page ∷ [] ≡ range_with_len 0 (page + 1) = (let z : 0 + page ≡ page = omega arith in rw (range_push 0 page, z) refl) in
    let none : length (range_with_len 0 (page + 1)) - ring ≡ 0 = omega (arith, length-range_with_len 0 (page + 1)) in
    rw (eb, e) (rw (small, more, pushed, none) refl)

-- a page more in the clean list
pub fill_clean : (count ring page : ℕ) (lists lists' : NodeLists) → lists ≡ lists_at count ring page → ring ≤ page → lists' ≡ with_list lists 0 (list_at lists 0 ++ page ∷ []) → lists' ≡ lists_at count ring (page + 1)
fill_clean count ring page lists lists' e le el =
    let small : min page ring ≡ ring = omega arith in
    let more : min (page + 1) ring ≡ ring = omega arith in
    let next : page + 1 - ring ≡ page - ring + 1 = omega arith in
    let last : ring + (page - ring) ≡ page = omega arith in
    rw (el, e) (rw (small, more, next, range_push ring (page - ring), last) refl)

-- the clean list stays while the ring fills
pub keep_clean : (count ring page : ℕ) (lists : NodeLists) → lists ≡ lists_at count ring page → page < ring → lists ≡ lists_at count ring (page + 1)
keep_clean count ring page lists e lt =
    let none : page - ring ≡ 0 = omega arith in
    let none' : page + 1 - ring ≡ 0 = omega arith in
    e ∙ rw (none, none') refl

-- the ring stays once it is full
pub keep_ring : (count ring page : ℕ) (b : Buffer ℕ) → b ≡ filled_at count ring page → ring ≤ page → b ≡ filled_at count ring (page + 1)
keep_ring count ring page b e le =
    let old : min page ring ≡ ring = omega arith in
    let new : min (page + 1) ring ≡ ring = omega arith in
    e ∙ rw (old, new) refl

-- the pool when all pages are put in
pub all_free : (count ring page : ℕ) (b : Buffer ℕ) (lists : NodeLists) → count ≤ 65536 → 1 ≤ ring → page ≡ count → b ≡ filled_at count ring page → lists ≡ lists_at count ring page → IsSound b lists count
all_free count ring page b lists few some end eb el =
    let m = min count ring in
    let whole : range_with_len 0 m ++ (range_with_len m (count - ring) ++ []) ≡ range_with_len 0 count =
    ap (λ (xs : List ℕ). range_with_len 0 m ++ xs) (append-nil (range_with_len m (count - ring)))
    ∙ (let z : 0 + m ≡ m = omega arith in let t : m + (count - ring) ≡ count = omega arith in
    let j = range_append 0 m (count - ring) in (rw (z, t) at j)) in
    rw (eb, el, end) (record {
      two = refl;
      few = few;
      fits = omega (arith, length-range_with_len 0 m);
      some = some;
      counted = omega (arith, length-range_with_len 0 m, length-range_with_len m (count - ring));
      parted = record {
        in_range = λ p h. (let k = rw whole at h in let r = has-range 0 count p k in omega (arith, r.1));
        once = rw whole (IsDistinct-range 0 count);
      };
    })
