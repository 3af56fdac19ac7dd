-- Where the pieces of a store stand, and what a write leaves of them.
use Rattle.std.proofs.Common.{◌≡◌, ◌≢◌, ℕ, ◌+◌, ◌-◌, ◌*◌, ◌/◌, ◌<◌, ◌≤◌, ◌^◌, inl, inr, List, length, sym, ap, subst, ◌∙◌, arith}
use Rattle.std.proofs.lemmas.Bool.{cases_eq, cases_lt}
use Rattle.std.proofs.lemmas.Bool.Decides.{nat_tests}
use Rattle.cl_types.specs.Bytes.{with_bytes}
use Rattle.cl_types.specs.Spaces.{IsInOnePage}
use Rattle.kv_offload.specs.declared.layout.TheConstants.{HEADS}
use Rattle.kv_offload.specs.Layout.{slot_place, link_place}
use Rattle.kv_offload.specs.Stored.{HasPages}
use Rattle.lemmas.proofs.Pieces.{AreApart, Leaves, leaves_put}

-- ---- places
-- a slot lies behind the first page
pub slot_above : (slot : ℕ) → 4096 ≤ slot_place slot
unfolding slot_place
slot_above slot = omega arith

-- the slots lie one behind the other
pub slots_rise : (slot other : ℕ) → slot < other → slot_place slot + 315 ≤ slot_place other
unfolding slot_place
slots_rise slot other less =
    let below : slot / 13 ≤ other / 13 = omega arith in
    omega arith

pub slot_below : (slot : ℕ) → slot < 4096 → slot_place slot + 315 < 2 ^ 32
unfolding slot_place
slot_below slot less = omega arith

-- a piece of a slot lies in one page of the store
pub slot_in : (records slot off n : ℕ) (contents : List ℕ) → HasPages records contents → slot < records → off < 315 → off + n ≤ 315
    → IsInOnePage (slot_place slot + off) n (length contents)
unfolding slot_place
slot_in records slot off n contents has less start fits =
    let page : ℕ = 1 + slot / 13 in
    let more : 1 + slot / 13 ≤ (records + 12) / 13 = omega arith in
    (page, omega arith, omega arith, omega arith, omega (arith, has.pages))

-- a piece of the first page lies there
pub first_in : (records at n : ℕ) (contents : List ℕ) → HasPages records contents → at < 4096 → at + n ≤ 4096 → IsInOnePage at n (length contents)
first_in records at n contents has start fits = (0, omega arith, omega arith, omega arith, omega (arith, has.pages))

-- where the link of a node stands: a head's or a slot's
pub link_head : (node : ℕ) → node < HEADS → link_place node ≡ 2 * node
unfolding link_place
link_head node less = grind (arith, nat_tests)

pub link_slot : (node : ℕ) → HEADS ≤ node → link_place node ≡ slot_place (node - HEADS)
unfolding link_place
link_slot node more = grind (arith, nat_tests)

pub link_of_slot : (slot : ℕ) → link_place (HEADS + slot) ≡ slot_place slot
link_of_slot slot = link_slot (HEADS + slot) (omega arith) ∙ ap slot_place (let e : HEADS + slot - HEADS ≡ slot = omega arith in e)

pub link_in : (records node : ℕ) (contents : List ℕ) → HasPages records contents → node < HEADS + records → IsInOnePage (link_place node) 2 (length contents)
link_in records node contents has less = elim (cases_lt node HEADS) [
  | inl head ↦ rw (link_head node head) (first_in records (2 * node) 2 contents has (omega arith) (omega arith))
  | inr slot ↦ rw (link_slot node slot) (in_slot (slot_in records (node - HEADS) 0 2 contents has (omega arith) (omega arith) (omega arith)))
]
  where
    in_slot : IsInOnePage (slot_place (node - HEADS) + 0) 2 (length contents) → IsInOnePage (slot_place (node - HEADS)) 2 (length contents)
    in_slot h = let e : slot_place (node - HEADS) + 0 ≡ slot_place (node - HEADS) = omega arith in subst (λ at. IsInOnePage at 2 (length contents)) e h

pub link_whole : (records node : ℕ) (contents : List ℕ) → HasPages records contents → node < HEADS + records → link_place node + 2 ≤ length contents
link_whole records node contents has less = let in_page = link_in records node contents has less in omega (arith, in_page.3, in_page.4)

pub slots_apart : (slot other : ℕ) → slot ≢ other → AreApart (slot_place slot) 293 (slot_place other) 293
slots_apart slot other ne = elim (cases_lt slot other) [
  | inl less ↦ let h = slots_rise slot other less in inl (omega arith)
  | inr more ↦ let h = slots_rise other slot (omega (arith, ne)) in inr (omega arith)
]

pub links_apart : (node other : ℕ) → node ≢ other → AreApart (link_place node) 2 (link_place other) 2
links_apart node other ne = elim (cases_lt node HEADS) [
  | inl head ↦ elim (cases_lt other HEADS) [
    | inl head' ↦ rw (link_head node head, link_head other head') (elim (cases_lt node other) [ inl less ↦ inl (omega arith) | inr more ↦ inr (omega (arith, ne)) ])
    | inr slot' ↦ let h = slot_above (other - HEADS) in rw (link_head node head, link_slot other slot') (inl (omega arith))
  ]
  | inr slot ↦ elim (cases_lt other HEADS) [
    | inl head' ↦ let h = slot_above (node - HEADS) in rw (link_slot node slot, link_head other head') (inr (omega arith))
    | inr slot' ↦ rw (link_slot node slot, link_slot other slot') (elim (slots_apart (node - HEADS) (other - HEADS) (λ e. ne (omega arith))) [ inl h ↦ inl (omega arith) | inr h ↦ inr (omega arith) ])
  ]
]

-- a link and what stands behind the link in a slot
pub record_apart : (slot node : ℕ) → AreApart (slot_place slot + 2) 291 (link_place node) 2
record_apart slot node = elim (cases_lt node HEADS) [
  | inl head ↦ let h = slot_above slot in rw (link_head node head) (inr (omega arith))
  | inr there ↦ rw (link_slot node there) (elim (cases_lt slot (node - HEADS)) [
    | inl less ↦ let h = slots_rise slot (node - HEADS) less in inl (omega arith)
    | inr more ↦ elim (cases_eq slot (node - HEADS)) [
      | inl same ↦ let h : slot_place slot ≡ slot_place (node - HEADS) = ap slot_place same in inr (omega arith)
      | inr ne ↦ let h = slots_rise (node - HEADS) slot (omega (arith, ne)) in inr (omega arith)
    ]
  ])
]

-- a slot and the link of another node
pub link_apart : (node slot : ℕ) → node ≢ HEADS + slot → AreApart (link_place node) 2 (slot_place slot) 293
link_apart node slot ne = elim (cases_lt node HEADS) [
  | inl head ↦ let h = slot_above slot in rw (link_head node head) (inl (omega arith))
  | inr there ↦ rw (link_slot node there) (elim (slots_apart (node - HEADS) slot (λ e. ne (omega arith))) [ inl h ↦ inl (omega arith) | inr h ↦ inr (omega arith) ])
]

-- a link and the count
pub count_apart : (node : ℕ) → AreApart (2 * HEADS) 2 (link_place node) 2
count_apart node = elim (cases_lt node HEADS) [
  | inl head ↦ rw (link_head node head) (inr (omega arith))
  | inr there ↦ let h = slot_above (node - HEADS) in rw (link_slot node there) (inl (omega arith))
]

-- ---- pieces
-- the same write, spelled otherwise
pub put_same : (at at' : ℕ) (bytes bytes' old new : List ℕ) → at ≡ at' → bytes ≡ bytes' → new ≡ with_bytes at bytes old → new ≡ with_bytes at' bytes' old
put_same at at' bytes bytes' old new e f is = is ∙ ap (λ k. with_bytes k bytes old) e ∙ ap (λ b. with_bytes at' b old) f

pub page_same : (at at' n n' size : ℕ) → at ≡ at' → n ≡ n' → IsInOnePage at' n' size → IsInOnePage at n size
page_same at at' n n' size e f h = subst (λ k. IsInOnePage k n size) (sym e) (subst (λ m. IsInOnePage at' m size) (sym f) h)

pub pages_left : {from size records : ℕ} {old new : List ℕ} → Leaves from size old new → HasPages records old → HasPages records new
pages_left leaves has = record { some = has.some; few = has.few; pages = omega (arith, has.pages, leaves.long) }

-- a store has its pages after a write to the first page
pub front_pages : (records at : ℕ) (bytes old new : List ℕ) → HasPages records old → at + length bytes ≤ 4096 → new ≡ with_bytes at bytes old → HasPages records new
front_pages records at bytes old new has fits put =
    let leaves : Leaves at (length bytes) old new = rw put (leaves_put at bytes old (omega (arith, has.pages))) in
    pages_left leaves has
