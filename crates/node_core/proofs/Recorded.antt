-- The records of a node and those of its retry buffer.
use Rattle.std.proofs.Common.{◌≡◌, ℕ, zero, suc, ◌-◌, ◌≤◌, true, false, Bool, inl, inr, List, [], ◌∷◌, ◌++◌, length, drop, map, Option, Some, None, option_map, refl, sym, ap, ◌∙◌, subst, slice_get, arith}
use Rattle.std.specs.Prelude.{leb, find, if◌then◌else◌}
use Rattle.std.specs.List.{AllByRecursion}
use Rattle.std.proofs.lemmas.Bool.{cases_Bool}
use Rattle.std.proofs.lemmas.List.{length-map, drop-map, map-append}
use Rattle.std.proofs.lemmas.Option.{slice_get-map}
use Rattle.cl_types.specs.declared.reply.Reply.{Reply}
use Rattle.cl_types.specs.Times.{is_young}
use Rattle.node_model.specs.Handling.{Executes, if_young, Looks, Repeats, handling, item_outcome, on_oldest, latest, oldest_of}
use Rattle.frame_model.specs.Frames.{Item, kind_of}
use Rattle.node_model.specs.Nodes.{IsSetUp, Name, Record, name_of as name_in, record_named, same_name, handles}
use Rattle.flat_model.specs.State.{FlatState}
use Rattle.cl_types.specs.Requests.{is_changing}
use Rattle.cl_types.specs.declared.call.Kind.{Kind}
use Rattle.cl_types.specs.declared.small_reply.SmallReply.{SmallReply}
use Rattle.retry_buffer.specs.declared.noted.Noted.{Noted}
use Rattle.retry_buffer.specs.Kept.{Kept, AreNotedBy, HasRoom, name_of, noted_as, oldest_moment, with_noted, IsValid}
use Rattle.retry_buffer.proofs.Names.{same_name_is}
use Rattle.translate_cache.specs.Cached.{Cached}
use Rattle.node_core.specs.Fields.{IsSound, IsSpelled, handling_at, kept_node, record_of, reply_kept}
use Rattle.node_core.specs.Keeping.{KeptNode}

-- ---- what is found
-- the record of a name is the one that was noted under it
pub record_named-map : (name : Name) (rs : List Noted) → record_named name (map record_of rs) ≡ option_map record_of (noted_as name rs)
record_named-map name [] = refl
record_named-map name (r ∷ rs) = elim (cases_Bool (same_name name (name_of r))) [
  | inl same ↦ rw same refl
  | inr other ↦ rw other (record_named-map name rs)
]

oldest_if : (test : Bool) (rs : List Noted) (i : ℕ)
    → (if test then slice_get (map record_of rs) i else None) ≡ option_map record_of (if test then slice_get rs i else None)
oldest_if true rs i = slice_get-map record_of rs i
oldest_if false rs i = refl

-- the oldest record is the one that was noted first
pub oldest_of-map : (n : ℕ) (rs : List Noted) → oldest_of n (map record_of rs) ≡ option_map record_of (oldest_of n rs)
oldest_of-map zero rs = refl
oldest_of-map (suc n) rs = rw (length-map rs record_of) (oldest_if (leb (suc n) (length rs)) rs (length rs - suc n))

-- the latest records are those that were noted last
pub latest-map : (n : ℕ) (rs : List Noted) → latest n (map record_of rs) ≡ map record_of (latest n rs)
latest-map n rs = ap (λ m. drop (m - n) (map record_of rs)) (length-map rs record_of) ∙ drop-map record_of (length rs - n) rs

-- a further record of a node is one that was noted
pub latest-noted : (n : ℕ) (rs : List Noted) (r : Noted) → latest n (map record_of rs ++ record_of r ∷ []) ≡ map record_of (latest n (rs ++ r ∷ []))
latest-noted n rs r = ap (latest n) (sym (map-append record_of rs (r ∷ []))) ∙ latest-map n (rs ++ r ∷ [])

-- ---- what holds of all records
all_drop : {A : Type 0} (P : A → Type 0) (n : ℕ) (xs : List A) → AllByRecursion P xs → AllByRecursion P (drop n xs)
all_drop P zero xs all = all
all_drop P (suc n) [] all = tt
all_drop P (suc n) (x ∷ xs) all = all_drop P n xs all.1

all_push : {A : Type 0} (P : A → Type 0) (xs : List A) (x : A) → AllByRecursion P xs → P x → AllByRecursion P (xs ++ x ∷ [])
all_push P [] x all this = (this, tt)
all_push P (y ∷ xs) x all this = (all.0, all_push P xs x all.1 this)

-- what holds of the records and of a further one holds of the latest
pub all_latest : {A : Type 0} (P : A → Type 0) (n : ℕ) (xs : List A) (x : A) → AllByRecursion P xs → P x → AllByRecursion P (latest n (xs ++ x ∷ []))
all_latest P n xs x all this = all_drop P (length (xs ++ x ∷ []) - n) (xs ++ x ∷ []) (all_push P xs x all this)

-- what was noted by a moment was noted by a later one
pub noted_later : (now later : ℕ) (rs : List Noted) → now ≤ later → AreNotedBy now rs → AreNotedBy later rs
noted_later now later [] after noted = tt
noted_later now later (r ∷ rs) after noted = let head = noted.0 in (omega arith, noted_later now later rs after noted.1)

-- what holds of all holds of the one that is found
pub all_found : {A : Type 0} (P : A → Type 0) (test : A → Bool) (xs : List A) (x : A) → AllByRecursion P xs → find test xs ≡ Some x → P x
all_found P test [] x all found = absurd cc
all_found P test (y ∷ xs) x all found = elim (cases_Bool (test y)) [
  | inl passes ↦ (let here = rw passes at found in let same : y ≡ x = cc in subst P same all.0)
  | inr fails ↦ all_found P test xs x all.1 (rw fails at found)
]

-- the test of the one that is found holds of it
pub found_passes : {A : Type 0} (test : A → Bool) (xs : List A) (x : A) → find test xs ≡ Some x → test x ≡ true
found_passes test [] x found = absurd cc
found_passes test (y ∷ xs) x found = elim (cases_Bool (test y)) [
  | inl passes ↦ (let here = rw passes at found in let same : y ≡ x = cc in subst (λ z. test z ≡ true) same passes)
  | inr fails ↦ found_passes test xs x (rw fails at found)
]

-- ---- how an item is handled
-- what is executed changes the node, has no record, and is noted where there is room
pub executes : (changing : Bool) (recorded : Option Reply) (t : ℕ) (oldest : Option ℕ) → handling changing recorded t oldest ≡ Executes
    → (changing ≡ true) × (recorded ≡ None) × (on_oldest t oldest ≡ Executes)
executes false recorded t oldest is = absurd cc
executes true (Some reply) t oldest is = absurd cc
executes true None t oldest is = (refl, refl, is)

-- what is looked up doesn't change the node
pub looks : (changing : Bool) (recorded : Option Reply) (t : ℕ) (oldest : Option ℕ) → handling changing recorded t oldest ≡ Looks → changing ≡ false
looks false recorded t oldest is = refl
looks true (Some reply) t oldest is = absurd cc
looks true None t None is = absurd cc
looks true None t (Some moment) is = young (is_young t moment) is
  where
    young : (b : Bool) → if_young b moment ≡ Looks → true ≡ false
    young true told = absurd cc
    young false told = absurd cc

-- ---- a node and the buffer of its records
-- the node has the buffer's records, as many as it may have, and this latest moment
pub record Shows (kept : KeptNode) (noted : Kept) (last : ℕ) : Type 0 where
  pub records : kept.node.records ≡ map record_of noted.records
  pub retry : kept.node.retry ≡ noted.capacity
  pub moment : kept.last ≡ last

-- what contracts see of the fields shows them
pub shown : (flat : FlatState) (cache : Cached) (noted : Kept) (last : ℕ) (kept : KeptNode) → kept_node flat cache noted last ≡ kept → Shows kept noted last
shown flat cache noted last kept is = record {
  records = sym (ap (λ (k : KeptNode). k.node.records) is);
  retry = sym (ap (λ (k : KeptNode). k.node.retry) is);
  moment = sym (ap (λ (k : KeptNode). k.last) is);
}

recorded_reply : (o : Option Noted) → option_map (λ r. r.reply) (option_map record_of o) ≡ option_map (λ r. reply_kept r.kind r.reply) o
recorded_reply None = refl
recorded_reply (Some r) = refl

recorded_moment : (o : Option Noted) → option_map (λ r. r.moment) (option_map record_of o) ≡ option_map (λ r. r.moment) o
recorded_moment None = refl
recorded_moment (Some r) = refl

-- an item is handled as the buffer tells
pub handling_shown : (kept : KeptNode) (noted : Kept) (last : ℕ) (item : Item) → Shows kept noted last
    → handling_at kept item ≡ handling (is_changing item.request)
    (option_map (λ r. reply_kept r.kind r.reply) (noted_as (name_in item) noted.records)) last (oldest_moment noted)
handling_shown kept noted last item shows =
    let recorded : option_map (λ r. r.reply) (record_named (name_in item) kept.node.records)
    ≡ option_map (λ r. reply_kept r.kind r.reply) (noted_as (name_in item) noted.records) =
    ap (λ (rs : List Record). option_map (λ r. r.reply) (record_named (name_in item) rs)) shows.records
    ∙ ap (option_map (λ r. r.reply)) (record_named-map (name_in item) noted.records)
    ∙ recorded_reply (noted_as (name_in item) noted.records) in
    let oldest : option_map (λ r. r.moment) (oldest_of kept.node.retry kept.node.records) ≡ oldest_moment noted =
    (λ i. option_map (λ r. r.moment) (oldest_of (shows.retry i) (shows.records i)))
    ∙ ap (option_map (λ r. r.moment)) (oldest_of-map noted.capacity noted.records)
    ∙ recorded_moment (oldest_of noted.capacity noted.records) in
    λ i. handling (is_changing item.request) (recorded i) (shows.moment i) (oldest i)

-- ---- set up
-- what holds of the records that were noted holds of those of the node
all_recorded : (last : ℕ) (rs : List Noted) → AreNotedBy last rs → AllByRecursion (λ (r : Record). r.moment ≤ last) (map record_of rs)
all_recorded last [] all = tt
all_recorded last (r ∷ rs) all = (all.0, all_recorded last rs all.1)

-- a node whose records are sound is set up
pub set_up : (kept : KeptNode) (flat : FlatState) (cache : Cached) (noted : Kept) (last : ℕ) → kept_node flat cache noted last ≡ kept
    → IsSound noted last → IsSetUp kept.node kept.last
set_up kept flat cache noted last view sound =
    let few : length noted.records ≤ noted.capacity = sound.valid.few in
    let same : length (map record_of noted.records) ≡ length noted.records = length-map noted.records record_of in
    subst (λ (k : KeptNode). IsSetUp k.node k.last) view (record {
      some = sound.some;
      few = omega (arith, few, same);
      past = all_recorded last noted.records sound.noted;
    })

-- ---- judged
-- what is found under the item's name, where its kind was told
pub looked : (noted : Kept) (item : Item) (kind : Kind) (found : Option SmallReply) → kind ≡ kind_of item.request
    → found ≡ option_map (λ r. r.reply) (noted_as (record { client = item.head.client; kind = kind; orig = item.head.orig }) noted.records)
    → option_map (λ r. r.reply) (noted_as (name_in item) noted.records) ≡ found
looked noted item kind found same is =
    sym (is ∙ ap (λ (k : Kind). option_map (λ r. r.reply) (noted_as (record { client = item.head.client; kind = k; orig = item.head.orig }) noted.records)) same)

-- no reply is found under the item's name, where its kind was told
pub named_apart : (noted : Kept) (item : Item) (kind : Kind) → kind ≡ kind_of item.request → noted_as (name_in item) noted.records ≡ None
    → noted_as (record { client = item.head.client; kind = kind; orig = item.head.orig }) noted.records ≡ None
named_apart noted item kind same none =
    ap (λ (k : Kind). noted_as (record { client = item.head.client; kind = k; orig = item.head.orig }) noted.records) same ∙ none

-- a changing request without a record is busy or executed, by the oldest record
pub unrecorded : (kept : KeptNode) (noted : Kept) (last : ℕ) (item : Item) → Shows kept noted last → is_changing item.request ≡ true
    → noted_as (name_in item) noted.records ≡ None → handling_at kept item ≡ on_oldest last (oldest_moment noted)
unrecorded kept noted last item shows changes none =
    handling_shown kept noted last item shows
    ∙ (λ i. handling (changes i) (option_map (λ r. reply_kept r.kind r.reply) (none i)) last (oldest_moment noted))

no_reply : (o : Option Noted) → option_map (λ r. r.reply) o ≡ None → o ≡ None
no_reply None none = refl
no_reply (Some r) none = absurd cc

pub unrecorded_by_look : (kept : KeptNode) (noted : Kept) (last : ℕ) (item : Item) → Shows kept noted last → is_changing item.request ≡ true
    → option_map (λ r. r.reply) (noted_as (name_in item) noted.records) ≡ None → handling_at kept item ≡ on_oldest last (oldest_moment noted)
unrecorded_by_look kept noted last item shows changes none =
    unrecorded kept noted last item shows changes (no_reply (noted_as (name_in item) noted.records) none)

-- what is repeated is the kept reply, which is spelled by its bytes
pub record IsRepeated (kept : KeptNode) (item : Item) (small : SmallReply) : Type 0 where
  pub handled : Repeats (reply_kept (kind_of item.request) small) ≡ handling_at kept item
  pub spelled : IsSpelled (kind_of item.request) small

pub repeated : (kept : KeptNode) (noted : Kept) (last : ℕ) (item : Item) (small : SmallReply) → Shows kept noted last → IsSound noted last
    → is_changing item.request ≡ true → option_map (λ r. r.reply) (noted_as (name_in item) noted.records) ≡ Some small
    → IsRepeated kept item small
repeated kept noted last item small shows sound changes found = go (noted_as (name_in item) noted.records) refl found
  where
    go : (o : Option Noted) → noted_as (name_in item) noted.records ≡ o → option_map (λ r. r.reply) o ≡ Some small → IsRepeated kept item small
    go None is reply = absurd cc
    go (Some r) is reply =
        let named : name_of r ≡ name_in item =
        sym (same_name_is (name_in item) (name_of r) (found_passes (λ s. same_name (name_in item) (name_of s)) noted.records r is)) in
        let kind : r.kind ≡ kind_of item.request = ap (λ (n : Name). n.kind) named in
        let same : r.reply ≡ small = cc in
        let spelled : IsSpelled r.kind r.reply =
        all_found (λ s. IsSpelled s.kind s.reply) (λ s. same_name (name_in item) (name_of s)) noted.records r sound.spelled is in
        record {
          handled = sym (handling_shown kept noted last item shows
              ∙ (λ i. handling (changes i) (option_map (λ s. reply_kept s.kind s.reply) (is i)) last (oldest_moment noted))
              ∙ (λ i. Repeats (reply_kept (kind i) (same i))));
          spelled = subst (λ (s : SmallReply). IsSpelled (kind_of item.request) s) same (subst (λ k. IsSpelled k r.reply) kind spelled);
        }

-- ---- executed
-- what is executed changes the node, and a reply may be noted under its name
pub record MayNote (noted : Kept) (last : ℕ) (item : Item) : Type 0 where
  pub changes : is_changing item.request ≡ true
  pub apart : noted_as (name_in item) noted.records ≡ None
  pub room : HasRoom noted last

pub may_note : (kept : KeptNode) (noted : Kept) (last : ℕ) (item : Item) → Shows kept noted last → handling_at kept item ≡ Executes
    → MayNote noted last item
may_note kept noted last item shows is =
    let told = executes (is_changing item.request) (option_map (λ r. reply_kept r.kind r.reply) (noted_as (name_in item) noted.records)) last
    (oldest_moment noted) (sym (handling_shown kept noted last item shows) ∙ is) in
    record { changes = told.0; apart = none_kept (noted_as (name_in item) noted.records) told.1; room = told.2 }
  where
    none_kept : (o : Option Noted) → option_map (λ r. reply_kept r.kind r.reply) o ≡ None → o ≡ None
    none_kept None none = refl
    none_kept (Some r) none = absurd cc

pub looks_up : (kept : KeptNode) (noted : Kept) (last : ℕ) (item : Item) → Shows kept noted last → handling_at kept item ≡ Looks
    → is_changing item.request ≡ false
looks_up kept noted last item shows is =
    looks (is_changing item.request) (option_map (λ r. reply_kept r.kind r.reply) (noted_as (name_in item) noted.records)) last
    (oldest_moment noted) (sym (handling_shown kept noted last item shows) ∙ is)

-- the record of an executed item joins the latest
pub executed : (kept : KeptNode) (noted next : Kept) (last : ℕ) (item : Item) (flat : FlatState) (cache : Cached) (r : Noted) → Shows kept noted last
    → flat ≡ (item_outcome kept.node.flat item).state → next ≡ with_noted r noted
    → record_of r ≡ record { moment = last; name = name_in item; reply = (item_outcome kept.node.flat item).reply }
    → kept_node flat cache next last ≡ record kept { node = (handles latest kept.node kept.last item Executes).node; cache = cache }
executed kept noted next last item flat cache r shows state noting recorded =
    let records : map record_of next.records ≡ latest kept.node.retry (kept.node.records
    ++ record { moment = kept.last; name = name_in item; reply = (item_outcome kept.node.flat item).reply } ∷ []) =
    ap (λ (k : Kept). map record_of k.records) noting
    ∙ sym (latest-noted noted.capacity noted.records r)
    ∙ (λ i. latest (sym shows.retry i) (sym shows.records i ++ recorded i ∷ []))
    ∙ (λ i. latest kept.node.retry (kept.node.records
    ++ record { moment = sym shows.moment i; name = name_in item; reply = (item_outcome kept.node.flat item).reply } ∷ [])) in
    let retry : next.capacity ≡ kept.node.retry = ap (λ (k : Kept). k.capacity) noting ∙ sym shows.retry in
    λ i. record { node = record { flat = state i; records = records i; retry = retry i }; last = sym shows.moment i; cache = cache }

-- and the records stay sound
pub sound_noted : (noted next : Kept) (last : ℕ) (r : Noted) → IsSound noted last → next ≡ with_noted r noted → IsValid next
    → r.moment ≡ last → IsSpelled r.kind r.reply → IsSound next last
sound_noted noted next last r sound noting valid moment spelled =
    let now : r.moment ≤ last = omega arith in
    let records : with_noted r noted ≡ next = sym noting in
    record {
      some = let first : 1 ≤ noted.capacity = sound.some in subst (λ (k : Kept). 1 ≤ k.capacity) records first;
      valid = valid;
      noted = subst (λ (k : Kept). AreNotedBy last k.records) records
          (all_latest (λ s. s.moment ≤ last) noted.capacity noted.records r sound.noted now);
      spelled = subst (λ (k : Kept). AllByRecursion (λ s. IsSpelled s.kind s.reply) k.records) records
          (all_latest (λ s. IsSpelled s.kind s.reply) noted.capacity noted.records r sound.spelled spelled);
    }
