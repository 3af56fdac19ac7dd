-- What a store's bytes say after a write.
use Rattle.std.proofs.Common.{◌≡◌, ◌≢◌, ℕ, ◌+◌, ◌*◌, ◌/◌, ◌%◌, ◌<◌, ◌≤◌, ◌^◌, inl, inr, List, [], ◌∷◌, length, take, get_or, refl, sym, ap, ◌∙◌, arith}
use Rattle.std.specs.Int.{from_be_bytes, to_be_bytes, w16}
use Rattle.std.proofs.lemmas.Bool.{cases_eq, eq-eqb, ne_eqb}
use Rattle.std.proofs.lemmas.Nat.{from_be_bytes-to_be_bytes_2}
use Rattle.cl_types.specs.Bytes.{bytes_at, with_bytes}
use Rattle.kv_offload.specs.declared.layout.TheConstants.{HEADS, KEY_AT, VALUE_AT}
use Rattle.kv_offload.specs.Layout.{View, Says, front_of, slot_place, link_place, link_of, count_of, key_size, value_size, key_of, value_of, but_at, with_link, with_slot, with_count}
use Rattle.lemmas.proofs.Pieces.{AreApart, Leaves, piece_put, piece_of, leaves_put, leaves_then, leaves_wider}
use Rattle.kv_offload.proofs.PlaceLemmas.{slots_apart, links_apart, record_apart, link_apart, count_apart, link_of_slot, slot_above}
use Rattle.cl_types.specs.declared.limits.TheConstants.{VALUE_BYTES}

module _ {A : Type 0} (f : ℕ → A) where
  pub but_here : (at : ℕ) (there : A) → but_at f at there at ≡ there
  but_here at there = rw (eq-eqb at at refl) refl

  pub but_other : (at n : ℕ) (there : A) → n ≢ at → but_at f at there n ≡ f n
  but_other at n there ne = rw (ne_eqb n at ne) refl

  -- what is so at the number and at all others
  pub but_is : (g : ℕ → A) (at n : ℕ) (there : A) → (n ≡ at → g at ≡ there) → (n ≢ at → g n ≡ f n) → g n ≡ but_at f at there n
  but_is g at n there here others = elim (cases_eq n at) [
    | inl e ↦ ap g e ∙ here e ∙ sym (ap (but_at f at there) e ∙ but_here at there)
    | inr ne ↦ others ne ∙ sym (but_other at n there ne)
  ]

-- ---- what stays
module _ {from size : ℕ} {old new : List ℕ} (leaves : Leaves from size old new) where
  pub link_left : (node : ℕ) → AreApart (link_place node) 2 from size → link_of new node ≡ link_of old node
  unfolding link_of
  link_left node apart = ap (from_be_bytes w16) (leaves.kept (link_place node) 2 apart)

  pub count_left : AreApart (2 * HEADS) 2 from size → count_of new ≡ count_of old
  unfolding count_of
  count_left apart = ap (from_be_bytes w16) (leaves.kept (2 * HEADS) 2 apart)

  part_apart : (slot off n : ℕ) → 2 ≤ off → off + n ≤ 293 → AreApart (slot_place slot + 2) 291 from size → AreApart (slot_place slot + off) n from size
  part_apart slot off n low high apart = elim apart [ inl before ↦ inl (omega arith) | inr behind ↦ inr (omega arith) ]

  pub size_left : (slot : ℕ) → AreApart (slot_place slot + 2) 291 from size → value_size new slot ≡ value_size old slot
  unfolding value_size
  size_left slot apart = ap (from_be_bytes w16) (leaves.kept (slot_place slot + 3) 2 (part_apart slot 3 2 (omega arith) (omega arith) apart))

  key_size_left : (slot : ℕ) → AreApart (slot_place slot + 2) 291 from size → key_size new slot ≡ key_size old slot
  unfolding key_size
  key_size_left slot apart = ap (λ bytes. get_or bytes 0 0) (leaves.kept (slot_place slot + 2) 1 (part_apart slot 2 1 (omega arith) (omega arith) apart))

  pub key_left : (slot : ℕ) → AreApart (slot_place slot + 2) 291 from size → key_of new slot ≡ key_of old slot
  unfolding key_of
  key_left slot apart =
      ap (λ n. take n (bytes_at (slot_place slot + KEY_AT) 255 new)) (key_size_left slot apart)
      ∙ ap (take (key_size old slot)) (leaves.kept (slot_place slot + KEY_AT) 255 (part_apart slot 5 255 (omega arith) (omega arith) apart))

  pub value_left : (slot : ℕ) → AreApart (slot_place slot + 2) 291 from size → value_of new slot ≡ value_of old slot
  unfolding value_of
  value_left slot apart =
      ap (λ n. take n (bytes_at (slot_place slot + VALUE_AT) VALUE_BYTES new)) (size_left slot apart)
      ∙ ap (take (value_size old slot)) (leaves.kept (slot_place slot + VALUE_AT) VALUE_BYTES (part_apart slot 37 256 (omega arith) (omega arith) apart))

-- ---- a number
pub number_put : (at n : ℕ) (old : List ℕ) → n < 2 ^ 16 → at + 2 ≤ length old
    → from_be_bytes w16 (bytes_at at 2 (with_bytes at (to_be_bytes w16 n) old)) ≡ n
number_put at n old small within =
    ap (from_be_bytes w16) (piece_put at (to_be_bytes w16 n) old (omega arith)) ∙ from_be_bytes-to_be_bytes_2 n small

pub says_linked : (records node to : ℕ) (old new : List ℕ) (view : View) → to < 2 ^ 16 → link_place node + 2 ≤ length old
    → new ≡ with_bytes (link_place node) (to_be_bytes w16 to) old → Says records old view → Says records new (with_link view node to)
unfolding link_of
says_linked records node to old new view small within is says =
    let leaves : Leaves (link_place node) 2 old new = rw is (leaves_put (link_place node) (to_be_bytes w16 to) old within) in
    let there : link_of new node ≡ to = rw is (number_put (link_place node) to old small within) in
    record {
      link = λ other less. but_is view.link (link_of new) node other to (λ e. there) (λ ne. link_left leaves other (links_apart other node ne) ∙ says.link other less);
      key = λ slot less. key_left leaves slot (record_apart slot node) ∙ says.key slot less;
      size = λ slot less. size_left leaves slot (record_apart slot node) ∙ says.size slot less;
      value = λ slot less. value_left leaves slot (record_apart slot node) ∙ says.value slot less;
      count = count_left leaves (count_apart node) ∙ says.count;
    }

pub says_counted : (records count : ℕ) (old new : List ℕ) (view : View) → count < 2 ^ 16 → 2 * HEADS + 2 ≤ length old
    → new ≡ with_bytes (2 * HEADS) (to_be_bytes w16 count) old → Says records old view → Says records new (with_count view count)
unfolding count_of
says_counted records count old new view small within is says =
    let leaves : Leaves (2 * HEADS) 2 old new = rw is (leaves_put (2 * HEADS) (to_be_bytes w16 count) old within) in
    let behind : (slot : ℕ) → AreApart (slot_place slot + 2) 291 (2 * HEADS) 2 = λ slot. let h = slot_above slot in inr (omega arith) in
    record {
      link = λ node less. link_left leaves node (elim (count_apart node) [ inl before ↦ inr before | inr after ↦ inl after ]) ∙ says.link node less;
      key = λ slot less. key_left leaves slot (behind slot) ∙ says.key slot less;
      size = λ slot less. size_left leaves slot (behind slot) ∙ says.size slot less;
      value = λ slot less. value_left leaves slot (behind slot) ∙ says.value slot less;
      count = rw is (number_put (2 * HEADS) count old small within);
    }

-- ---- a slot
-- the front of a slot, of five bytes
module _ (slot : ℕ) (new : List ℕ) (n0 n1 k v0 v1 : ℕ) (front : bytes_at (slot_place slot) 5 new ≡ n0 ∷ n1 ∷ k ∷ v0 ∷ v1 ∷ []) where
  part : (off n : ℕ) → off + n ≤ 5 → bytes_at (slot_place slot + off) n new ≡ bytes_at off n (n0 ∷ n1 ∷ k ∷ v0 ∷ v1 ∷ [])
  part off n fits = piece_of (slot_place slot) off n 5 new fits ∙ ap (bytes_at off n) front

  pub front_link : link_of new (HEADS + slot) ≡ from_be_bytes w16 (n0 ∷ n1 ∷ [])
  unfolding link_of
  front_link =
      ap (λ at. from_be_bytes w16 (bytes_at at 2 new)) (link_of_slot slot ∙ (let e : slot_place slot ≡ slot_place slot + 0 = omega arith in e))
      ∙ ap (from_be_bytes w16) (part 0 2 (omega arith))

  pub front_key_size : key_size new slot ≡ k
  unfolding key_size
  front_key_size = ap (λ bytes. get_or bytes 0 0) (part 2 1 (omega arith))

  pub front_size : value_size new slot ≡ from_be_bytes w16 (v0 ∷ v1 ∷ [])
  unfolding value_size
  front_size = ap (from_be_bytes w16) (part 3 2 (omega arith))

-- what a slot says, and what all the rest goes on saying
pub record FilledSlot (slot next : ℕ) (key value old new : List ℕ) : Type 0 where
  pub link : link_of new (HEADS + slot) ≡ next
  pub key_is : key_of new slot ≡ key
  pub size : value_size new slot ≡ length value
  pub value_is : value_of new slot ≡ value
  pub leaves : Leaves (slot_place slot) 293 old new

pub says_filled : {slot next : ℕ} {key value old new : List ℕ} → FilledSlot slot next key value old new → (records : ℕ) (view : View)
    → Says records old view → Says records new (with_slot view slot next key value)
says_filled {slot} {next} {key} {value} {old} {new} f records view says =
    let apart : (other : ℕ) → other ≢ slot → AreApart (slot_place other + 2) 291 (slot_place slot) 293 = λ other ne. elim (slots_apart other slot ne) [
      | inl before ↦ inl (omega arith)
      | inr behind ↦ inr (omega arith)
    ] in
    record {
      link = λ node less. but_is view.link (link_of new) (HEADS + slot) node next (λ e. f.link) (λ ne. link_left f.leaves node (link_apart node slot ne) ∙ says.link node less);
      key = λ other less. but_is view.key (key_of new) slot other key (λ e. f.key_is) (λ ne. key_left f.leaves other (apart other ne) ∙ says.key other less);
      size = λ other less. but_is view.size (value_size new) slot other (length value) (λ e. f.size) (λ ne. size_left f.leaves other (apart other ne) ∙ says.size other less);
      value = λ other less. but_is view.value (value_of new) slot other value (λ e. f.value_is) (λ ne. value_left f.leaves other (apart other ne) ∙ says.value other less);
      count = count_left f.leaves (let h = slot_above slot in inl (omega arith)) ∙ says.count;
    }

take_none : (n : ℕ) (xs : List ℕ) → n ≡ 0 → take n xs ≡ []
take_none n xs e = rw e refl

pub cleared : (slot next : ℕ) (old new : List ℕ) → slot_place slot + 293 ≤ length old → next < 2 ^ 16
    → new ≡ with_bytes (slot_place slot) (front_of next 0 0) old → FilledSlot slot next [] [] old new
unfolding key_of value_of
cleared slot next old new within small is =
    let n0 : ℕ = next / 256 % 256 in
    let n1 : ℕ = next % 256 in
    let front : bytes_at (slot_place slot) 5 new ≡ n0 ∷ n1 ∷ 0 ∷ 0 ∷ 0 ∷ [] = rw is (piece_put (slot_place slot) (front_of next 0 0) old (omega arith)) in
    let size : value_size new slot ≡ 0 = front_size slot new n0 n1 0 0 0 front in
    let put : Leaves (slot_place slot) 5 old new = rw is (leaves_put (slot_place slot) (front_of next 0 0) old (omega arith)) in
    record {
      link = front_link slot new n0 n1 0 0 0 front ∙ from_be_bytes-to_be_bytes_2 next small;
      key_is = take_none (key_size new slot) (bytes_at (slot_place slot + KEY_AT) 255 new) (front_key_size slot new n0 n1 0 0 0 front);
      size = size;
      value_is = take_none (value_size new slot) (bytes_at (slot_place slot + VALUE_AT) VALUE_BYTES new) size;
      leaves = leaves_wider (slot_place slot) 293 (omega arith) (omega arith) put;
    }

-- a front of a piece
pub piece_of_front : (contents : List ℕ) (at n m : ℕ) → n ≤ m → bytes_at at n contents ≡ take n (bytes_at at m contents)
piece_of_front contents at n m fits =
    let e : at ≡ at + 0 = omega arith in
    ap (λ k. bytes_at k n contents) e ∙ piece_of at 0 n m contents (omega arith)

pub filled : (slot next : ℕ) (key value old mid last new : List ℕ) → slot_place slot + 293 ≤ length old
    → next < 2 ^ 16 → length key ≤ 32 → length value ≤ 256
    → mid ≡ with_bytes (slot_place slot) (front_of next (length key) (length value)) old
    → last ≡ with_bytes (slot_place slot + KEY_AT) key mid
    → new ≡ with_bytes (slot_place slot + VALUE_AT) value last → FilledSlot slot next key value old new
unfolding key_of value_of
filled slot next key value old mid last new within small short low is_mid is_last is_new =
    let n0 : ℕ = next / 256 % 256 in
    let n1 : ℕ = next % 256 in
    let k : ℕ = length key in
    let v0 : ℕ = length value / 256 % 256 in
    let v1 : ℕ = length value % 256 in
    let first : Leaves (slot_place slot) 5 old mid = rw is_mid (leaves_put (slot_place slot) (front_of next (length key) (length value)) old (omega arith)) in
    let second : Leaves (slot_place slot + 5) (length key) mid last = rw is_last (leaves_put (slot_place slot + 5) key mid (omega (arith, first.long))) in
    let third : Leaves (slot_place slot + 37) (length value) last new = rw is_new (leaves_put (slot_place slot + 37) value last (omega (arith, first.long, second.long))) in
    let written : bytes_at (slot_place slot) 5 mid ≡ n0 ∷ n1 ∷ k ∷ v0 ∷ v1 ∷ [] = rw is_mid (piece_put (slot_place slot) (front_of next (length key) (length value)) old (omega arith)) in
    let front : bytes_at (slot_place slot) 5 new ≡ n0 ∷ n1 ∷ k ∷ v0 ∷ v1 ∷ [] =
    third.kept (slot_place slot) 5 (inl (omega arith)) ∙ second.kept (slot_place slot) 5 (inl (omega arith)) ∙ written in
    let size : value_size new slot ≡ length value = front_size slot new n0 n1 k v0 v1 front ∙ from_be_bytes-to_be_bytes_2 (length value) (omega arith) in
    let key_front : key_size new slot ≡ length key = front_key_size slot new n0 n1 k v0 v1 front in
    record {
      link = front_link slot new n0 n1 k v0 v1 front ∙ from_be_bytes-to_be_bytes_2 next small;
      key_is =
          sym (piece_of_front new (slot_place slot + 5) (key_size new slot) 255 (omega (arith, key_front)))
          ∙ third.kept (slot_place slot + 5) (key_size new slot) (inl (omega (arith, key_front)))
          ∙ ap (bytes_at (slot_place slot + 5) (key_size new slot)) is_last
          ∙ ap (λ n. bytes_at (slot_place slot + 5) n (with_bytes (slot_place slot + 5) key mid)) key_front
          ∙ piece_put (slot_place slot + 5) key mid (omega (arith, first.long));
      size = size;
      value_is =
          sym (piece_of_front new (slot_place slot + 37) (value_size new slot) 256 (omega (arith, size)))
          ∙ ap (bytes_at (slot_place slot + 37) (value_size new slot)) is_new
          ∙ ap (λ n. bytes_at (slot_place slot + 37) n (with_bytes (slot_place slot + 37) value last)) size
          ∙ piece_put (slot_place slot + 37) value last (omega (arith, first.long, second.long));
      leaves = leaves_then (leaves_wider (slot_place slot) 293 (omega arith) (omega arith) first)
          (leaves_then (leaves_wider (slot_place slot) 293 (omega arith) (omega arith) second)
          (leaves_wider (slot_place slot) 293 (omega arith) (omega arith) third));
    }
