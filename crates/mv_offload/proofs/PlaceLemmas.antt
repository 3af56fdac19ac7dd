-- Where the counts, heads and records are, and what a write leaves of them.
use Rattle.std.proofs.Common.{◌≡◌, ℕ, ◌+◌, ◌/◌, ◌<◌, ◌≤◌, ◌^◌, inl, inr, List, ◌++◌, length, take, sym, ap, subst, ◌∙◌, arith}
use Rattle.std.specs.Int.{from_be_bytes, to_be_bytes, w16}
use Rattle.std.proofs.Math.Seq.{take-append_seam}
use Rattle.std.proofs.lemmas.Nat.{from_be_bytes-to_be_bytes_2}
use Rattle.cl_types.specs.Bytes.{bytes_at, with_bytes}
use Rattle.cl_types.specs.Spaces.{IsInOnePage}
use Rattle.mv_offload.specs.Layout.{record_place, number_at, put_number, bytes_of, size_of}
use Rattle.mv_offload.specs.Stored.{HasPages}
use Rattle.lemmas.proofs.Pieces.{AreApart, Leaves, piece_put, leaves_put}

-- ---- places
-- a record is after the first page
pub record_above : (slot : ℕ) → 4096 ≤ record_place slot
unfolding record_place
record_above slot = omega arith

-- the records are one after the other
pub records_rise : (slot other : ℕ) → slot < other → record_place slot + 273 ≤ record_place other
unfolding record_place
records_rise slot other less =
    let below : slot / 15 ≤ other / 15 = omega arith in
    omega arith

-- and below the end of the numbers of four bytes
pub record_below : (slot : ℕ) → slot < 4096 → record_place slot + 273 < 2 ^ 32
unfolding record_place
record_below slot less = omega arith

-- a piece of a record lies in one page
pub record_in : {objects versions : ℕ} {contents : List ℕ} → HasPages objects versions contents → (slot off n : ℕ) → slot < versions → off < 273 → off + n ≤ 273
    → IsInOnePage (record_place slot + off) n (length contents)
unfolding record_place
record_in {objects} {versions} {contents} has slot off n less start fits =
    let page : ℕ = 1 + slot / 15 in
    let more : 1 + slot / 15 ≤ (versions + 14) / 15 = omega arith in
    (page, omega arith, omega arith, omega arith, omega (arith, has.pages))

-- a record begins in one page
pub record_start_in : {objects versions : ℕ} {contents : List ℕ} → HasPages objects versions contents → (slot n : ℕ) → slot < versions → n ≤ 273
    → IsInOnePage (record_place slot) n (length contents)
record_start_in {objects} {versions} {contents} has slot n less fits =
    let e : record_place slot + 0 ≡ record_place slot = omega arith in
    subst (λ at. IsInOnePage at n (length contents)) e (record_in has slot 0 n less (omega arith) (omega arith))

-- a piece of the first page lies there
pub first_in : {objects versions : ℕ} {contents : List ℕ} → HasPages objects versions contents → (at n : ℕ) → at < 4096 → at + n ≤ 4096 → IsInOnePage at n (length contents)
first_in has at n start fits = (0, omega arith, omega arith, omega arith, omega (arith, has.pages))

-- a record is within the pages
pub record_whole : {objects versions : ℕ} {contents : List ℕ} → HasPages objects versions contents → (slot : ℕ) → slot < versions → record_place slot + 260 ≤ length contents
record_whole has slot less =
    let in_page = record_start_in has slot 260 less (omega arith) in
    omega (arith, in_page.3, in_page.4)

-- the first page is there
pub first_whole : {objects versions : ℕ} {contents : List ℕ} → HasPages objects versions contents → 4096 ≤ length contents
first_whole has = omega (arith, has.pages)

-- ---- what a write leaves
-- a write leaves the pages there
pub pages_left : {from size objects versions : ℕ} {old new : List ℕ} → Leaves from size old new → HasPages objects versions old → HasPages objects versions new
pages_left leaves has = record {
  some_objects = has.some_objects;
  few_objects = has.few_objects;
  some_versions = has.some_versions;
  few_versions = has.few_versions;
  pages = omega (arith, has.pages, leaves.long);
}

-- ---- a number
-- the number that was put is there
pub number_put : (at n : ℕ) (old : List ℕ) → n < 2 ^ 16 → at + 2 ≤ length old → number_at at (put_number at n old) ≡ n
unfolding number_at
number_put at n old small within =
    ap (from_be_bytes w16) (piece_put at (to_be_bytes w16 n) old (omega arith)) ∙ from_be_bytes-to_be_bytes_2 n small

-- putting a number leaves all but two bytes
pub number_leaves : (at n : ℕ) (old : List ℕ) → at + 2 ≤ length old → Leaves at 2 old (put_number at n old)
number_leaves at n old within = leaves_put at (to_be_bytes w16 n) old within

module _ {from size : ℕ} {old new : List ℕ} (leaves : Leaves from size old new) where
  -- a number apart from the write stays
  pub number_left : (at : ℕ) → AreApart at 2 from size → number_at at new ≡ number_at at old
  unfolding number_at
  number_left at apart = ap (from_be_bytes w16) (leaves.kept at 2 apart)

  -- the version in a slot stays, where its record does
  pub bytes_left : (slot : ℕ) → size_of old slot ≤ 256 → AreApart (record_place slot) 260 from size → bytes_of new slot ≡ bytes_of old slot
  unfolding bytes_of
  bytes_left slot short apart =
      ap (λ n. bytes_at (record_place slot + 4) n new) (number_left (record_place slot + 2) (elim apart [ inl before ↦ inl (omega arith) | inr behind ↦ inr (omega arith) ]))
      ∙ leaves.kept (record_place slot + 4) (size_of old slot) (elim apart [ inl before ↦ inl (omega arith) | inr behind ↦ inr (omega arith) ])

-- a record lies apart from another, and from the first page
pub records_apart : (slot other : ℕ) → slot < other → AreApart (record_place slot) 260 (record_place other) 260
records_apart slot other less = let h = records_rise slot other less in inl (omega arith)

-- the pages are there after a write within one page
pub pages_put : {objects versions at : ℕ} {old new : List ℕ} (bytes : List ℕ) → HasPages objects versions old → IsInOnePage at (length bytes) (length old)
    → new ≡ with_bytes at bytes old → HasPages objects versions new
pages_put {objects} {versions} {at} {old} {new} bytes has in_page put =
    let leaves : Leaves at (length bytes) old new = rw put (leaves_put at bytes old (omega (arith, in_page.3, in_page.4))) in
    pages_left leaves has

-- a piece of a record, by its place
pub part_in : {objects versions : ℕ} {contents : List ℕ} → HasPages objects versions contents → (slot off n place : ℕ) → place ≡ record_place slot → slot < versions → off < 273 → off + n ≤ 273
    → IsInOnePage (place + off) n (length contents)
part_in {objects} {versions} {contents} has slot off n place is less start fits = subst (λ at. IsInOnePage (at + off) n (length contents)) (sym is) (record_in has slot off n less start fits)

-- the bytes that were read of a record
pub bytes_copied : (contents front behind : List ℕ) (slot place size : ℕ) → place ≡ record_place slot → size ≡ size_of contents slot → length front ≡ size
    → front ≡ bytes_at (place + 4) (length front) contents → take size (front ++ behind) ≡ bytes_of contents slot
unfolding bytes_of
bytes_copied contents front behind slot place size is is_size long read =
    ap (λ n. take n (front ++ behind)) (sym long) ∙ take-append_seam front behind ∙ read
    ∙ ap (λ at. bytes_at (at + 4) (length front) contents) is
    ∙ ap (λ n. bytes_at (record_place slot + 4) n contents) (long ∙ is_size)
