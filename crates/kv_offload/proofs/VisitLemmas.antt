-- What is read at the front of a slot.
use Rattle.std.proofs.Common.{◌≡◌, ℕ, ◌+◌, ◌<◌, ◌≤◌, ◌↔◌, Bool, IsTrue, List, [], ◌∷◌, length, take, get_or, refl, sym, ap, subst, ◌∙◌, arith}
use Rattle.std.specs.Prelude.{slice_index}
use Rattle.std.specs.Int.{from_be_bytes, w16}
use Rattle.std.proofs.lemmas.List.{length-take, length-drop}
use Rattle.cl_types.specs.Bytes.{bytes_at, with_bytes}
use Rattle.cl_types.specs.Spaces.{IsInOnePage}
use Rattle.kv_offload.specs.declared.layout.TheConstants.{HEADS, KEY_AT, VALUE_AT}
use Rattle.kv_offload.specs.Layout.{number_at, slot_place, link_of, key_size, value_size, key_of, value_of}
use Rattle.kv_offload.specs.Stored.{HasPages}
use Rattle.kv_offload.proofs.PlaceLemmas.{slot_in, link_of_slot, pages_left}
use Rattle.kv_offload.proofs.SaysLemmas.{piece_of_front}
use Rattle.lemmas.proofs.Pieces.{Leaves, piece_of, leaves_put}

-- a piece from the start of a slot lies in one page
pub slot_start_in : (records slot place n : ℕ) (contents : List ℕ) → place ≡ slot_place slot → HasPages records contents → slot < records → n ≤ 315
    → IsInOnePage place n (length contents)
slot_start_in records slot place n contents is has less fits =
    let e : slot_place slot + 0 ≡ place = omega (arith, is) in
    subst (λ at. IsInOnePage at n (length contents)) e (slot_in records slot 0 n contents has less (omega arith) (omega arith))

pub slot_part_in : (records slot place off n : ℕ) (contents : List ℕ) → place ≡ slot_place slot → HasPages records contents → slot < records → off < 315 → off + n ≤ 315
    → IsInOnePage (place + off) n (length contents)
slot_part_in records slot place off n contents is has less start fits =
    subst (λ at. IsInOnePage (at + off) n (length contents)) (sym is) (slot_in records slot off n contents has less start fits)

-- the whole slot lies in the space
pub slot_whole : (records slot : ℕ) (contents : List ℕ) → HasPages records contents → slot < records → slot_place slot + 293 ≤ length contents
slot_whole records slot contents has less =
    let in_page = slot_in records slot 0 293 contents has less (omega arith) (omega arith) in
    omega (arith, in_page.3, in_page.4)

module _ (contents front : List ℕ) (place slot : ℕ) (is : place ≡ slot_place slot) (read : front ≡ bytes_at place 37 contents) where
  piece : (off n : ℕ) → off + n ≤ 37 → bytes_at (slot_place slot + off) n contents ≡ bytes_at off n front
  piece off n fits = piece_of (slot_place slot) off n 37 contents fits ∙ ap (bytes_at off n) (sym (read ∙ ap (λ at. bytes_at at 37 contents) is))

  pub next_is : number_at 0 front ≡ link_of contents (HEADS + slot)
  unfolding link_of
  next_is =
      ap (from_be_bytes w16) (sym (piece 0 2 (omega arith)))
      ∙ ap (λ at. from_be_bytes w16 (bytes_at at 2 contents)) (let e : slot_place slot + 0 ≡ slot_place slot = omega arith in e ∙ sym (link_of_slot slot))

  pub value_len_is : number_at 3 front ≡ value_size contents slot
  unfolding value_size
  value_len_is = ap (from_be_bytes w16) (sym (piece 3 2 (omega arith)))

  key_size_is : slice_index front 2 ≡ key_size contents slot
  unfolding key_size
  key_size_is = get_front front ∙ ap (λ bytes. get_or bytes 0 0) (sym (piece 2 1 (omega arith)))
    where
      get_front : (bytes : List ℕ) → get_or bytes 2 0 ≡ get_or (bytes_at 2 1 bytes) 0 0
      get_front [] = refl
      get_front (x ∷ []) = refl
      get_front (x ∷ y ∷ []) = refl
      get_front (x ∷ y ∷ z ∷ bytes) = refl

  -- what is said to begin with the key has it
  pub has_key : (key : List ℕ) → length key ≤ 32 → (slice_index front 2 ≡ length key) × (bytes_at KEY_AT (length key) front ≡ key) → key_of contents slot ≡ key
  unfolding key_of
  has_key key short (size, same) =
      let k : key_size contents slot ≡ length key = sym key_size_is ∙ size in
      sym (piece_of_front contents (slot_place slot + 5) (key_size contents slot) 255 (omega (arith, k)))
      ∙ ap (λ n. bytes_at (slot_place slot + 5) n contents) k
      ∙ piece 5 (length key) (omega arith) ∙ same

  -- and what has the key is said to begin with it
  pub begins : (key : List ℕ) → length key ≤ 32 → slice_index front 2 < 256 → slot_place slot + 293 ≤ length contents → key_of contents slot ≡ key
      → (slice_index front 2 ≡ length key) × (bytes_at KEY_AT (length key) front ≡ key)
  unfolding key_of
  begins key short byte within has =
      let small : key_size contents slot ≤ 255 = omega (arith, byte, key_size_is) in
      let long : length (bytes_at (slot_place slot + 5) (key_size contents slot) contents) ≡ key_size contents slot = long_at (slot_place slot + 5) (key_size contents slot) contents (omega (arith, small, within)) in
      let whole : bytes_at (slot_place slot + 5) (key_size contents slot) contents ≡ key = piece_of_front contents (slot_place slot + 5) (key_size contents slot) 255 (omega (arith, small)) ∙ has in
      let k : key_size contents slot ≡ length key = sym long ∙ ap length whole in
      (key_size_is ∙ k, sym (piece 5 (length key) (omega arith)) ∙ ap (λ n. bytes_at (slot_place slot + 5) n contents) (sym k) ∙ whole)
    where
      long_at : (at n : ℕ) (bytes : List ℕ) → at + n ≤ length bytes → length (bytes_at at n bytes) ≡ n
      long_at at n bytes fits = simp (length-take, length-drop) (omega arith)

  pub has_key_is : (b : Bool) (key : List ℕ) → length key ≤ 32 → slice_index front 2 < 256 → slot_place slot + 293 ≤ length contents
      → IsTrue b ↔ ((slice_index front 2 ≡ length key) × (bytes_at KEY_AT (length key) front ≡ key)) → IsTrue b ↔ (key_of contents slot ≡ key)
  has_key_is b key short byte within test = (λ h. has_key key short (test.0 h), λ e. test.1 (begins key short byte within e))

-- the value that is read
pub value_read : (contents : List ℕ) (place slot n : ℕ) → place ≡ slot_place slot → n ≡ value_size contents slot → n ≤ 256
    → bytes_at (place + VALUE_AT) n contents ≡ value_of contents slot
unfolding value_of
value_read contents place slot n is size short =
    ap (λ at. bytes_at (at + 37) n contents) is
    ∙ piece_of_front contents (slot_place slot + 37) n 256 short
    ∙ ap (λ m. take m (bytes_at (slot_place slot + 37) 256 contents)) size

-- a store has its pages after a write to a slot
pub written_pages : (records slot place off : ℕ) (bytes old new : List ℕ) → place ≡ slot_place slot + off → HasPages records old → slot < records
    → off + length bytes ≤ 293 → new ≡ with_bytes place bytes old → HasPages records new
written_pages records slot place off bytes old new is has less fits put =
    let whole = slot_whole records slot old has less in
    let leaves : Leaves place (length bytes) old new = rw put (leaves_put place bytes old (omega (arith, is, whole))) in
    pages_left leaves has
