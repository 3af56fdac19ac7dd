-- The node read off an account is left by each line as its machine leaves it.
use Rattle.std.proofs.Common.{◌≡◌, ℕ, suc, zero, ◌+◌, ◌-◌, ◌<◌, ◌≤◌, List, [], ◌∷◌, ◌++◌, refl, sym, ap, ◌∙◌, subst, Bool, true, false, cond, arith, Some, None, Option, map, length, drop}
use Rattle.std.specs.Prelude.{find, option_map, ◌&&◌, ◌==◌, leb, slice_get}
use Rattle.std.specs.List.{AllByRecursion as Each}
use Rattle.std.proofs.lemmas.List.{drop-map}
use Rattle.std.proofs.lemmas.List.Elements.{filter-append}
use Rattle.cl_types.specs.Kinds.{kind_number}
use Rattle.cl_types.specs.Parts.{same_part}
use Rattle.cl_types.specs.Requests.{is_changing}
use Rattle.cl_types.specs.Times.{is_live}
use Rattle.cl_types.specs.declared.config.Config.{Config}
use Rattle.cl_types.specs.declared.frame.Head.{Head}
use Rattle.cl_types.specs.declared.reply.Reply.{Reply}
use Rattle.cl_types.specs.declared.request.Request.{Request}
use Rattle.cl_types.specs.declared.request.Request.TheVariants.{Alloc}
use Rattle.cl_types.specs.declared.line.Entry.{Entry}
use Rattle.cl_types.specs.declared.schedule.Event.{Event}
use Rattle.cl_types.specs.declared.schedule.Event.TheVariants as event
use Rattle.trace.specs.Account.{Account, Frame, Carried, Load, Asks, Answers, Effect, joined_by, extended, now, is_before, frame_at, taken_in_order, items_of, if_taken_of, memory_at, recorded, with_entry, with_entries}
use Rattle.client_model.specs.Client.{Sending, flight_under}
use Rattle.cl_types.specs.Parts.{same_client}
use Rattle.trace.specs.Clients.{client_at, first_sent, request_of_part}
use Rattle.trace.specs.Events.{record_of, entry_of, handled, item_handling, on_item, on_items, then_also, handed, if_live, on_frame, on_delivery, if_there, on_flight, on_next, effect, account, account_of_latest}
use Rattle.frame_model.specs.Frames.{kind_of}
use Rattle.node_model.specs.Handling.{Handling, Repeats, RefusesForNow, Executes, Looks, handling, item_outcome, latest, oldest_of}
use Rattle.node_model.specs.Nodes.{Record, name_of, same_name, record_named, handles, step_item, node_after, said_to}
use Rattle.trace.specs.Properties.{is_delivery}
use Rattle.flat_model.specs.Run.{after, after_entry, changing_of}
use Rattle.flat_model.specs.State.{FlatState, opening, least, places}
use Rattle.flat_model.specs.Step.{outcome, state_after, alloc_after, alloc_at, mapped}
use Rattle.flat_model.proofs.RunLemmas.{reading_keeps, after-append}
use Rattle.trace_laws.specs.NodeLines.{id_of, record_at, node_at, items_carried, on_said, on_all_said, node_after_load, node_after_delivered, node_after_frame, node_after_event, NodeFollows, NodesFollow}
use Rattle.trace.specs.Schedules.{IsRisingFrom}
use Rattle.lemmas.proofs.Lists.{each_weaker, each_filter_from, each_append}
use Rattle.client_laws.proofs.Entries.{each_with_entries}
use Rattle.lemmas.proofs.SameParts.{contrary, same_refl, same_is, same_clients, eqb_is, eqb_same, and_left, and_right}
use Rattle.trace_laws.proofs.PartsOnce.{ItemOwned, EntryOwned, Ids, PartsOnce}
use Rattle.trace_laws.proofs.Ran.{InRange, LookOf, Ran}
use Rattle.trace_laws.proofs.Places.{line_of_before}
use Rattle.trace_laws.proofs.Moments.{now_kept}
use Rattle.client_laws.proofs.Standings.{sent_kept}
use Rattle.trace_laws.proofs.TimesKept.{frame_at_each}
use Rattle.trace_laws.proofs.OnceKept.{Base, base_later, base_of_account, entry_owned}
use Rattle.trace_laws.proofs.Induction.{past}
use Rattle.trace_laws.proofs.WindowKept.{one_account}
use Rattle.client_laws.proofs.Items.{Tells, handling_tells}
use Rattle.trace_laws.proofs.Insert.{with_last, all_before, filter_with_entry}
use Rattle.node_laws.proofs.Window.{latest_more}
use Rattle.client_laws.proofs.Cases.{Cases, effect_by, peek_is_quiet}
use Rattle.node_laws.proofs.Replies.{page_of_start}
use Rattle.trace_laws.proofs.RunKept.{item_runs, joined_twice}

-- ---- lists
each_drop : {X : Type 0} (P : X → Type 0) (n : ℕ) (xs : List X) → Each P xs → Each P (drop n xs)
each_drop P zero xs h = h
each_drop P (suc n) [] h = tt
each_drop P (suc n) (x ∷ xs) h = each_drop P n xs h.1

map_same : {X Y : Type 0} (f g : X → Y) (xs : List X) → Each (λ (x : X). f x ≡ g x) xs → map f xs ≡ map g xs
map_same f g [] h = refl
map_same f g (x ∷ xs) h = ap (λ y. y ∷ map f xs) h.0 ∙ ap (λ ys. g x ∷ ys) (map_same f g xs h.1)

find-map : {X Y : Type 0} (test : Y → Bool) (f : X → Y) (own : X → Bool) (xs : List X) → Each (λ (x : X). test (f x) ≡ own x) xs
    → find test (map f xs) ≡ option_map f (find own xs)
find-map test f own [] h = refl
find-map {X} {Y} test f own (x ∷ xs) h = ap (λ b. cond b (Some (f x)) (find test (map f xs))) h.0 ∙ go (own x) (find-map test f own xs h.1) where
  go : (b : Bool) → find test (map f xs) ≡ option_map f (find own xs) → ◌≡◌ {A = Option Y} (cond b (Some (f x)) (find test (map f xs))) (option_map f (cond b (Some x) (find own xs)))
  go true rec = refl
  go false rec = rec

pub map-length : {X Y : Type 0} (f : X → Y) (xs : List X) → length (map f xs) ≡ length xs
map-length f [] = refl
map-length f (x ∷ xs) = ap suc (map-length f xs)

pub map-append : {X Y : Type 0} (f : X → Y) (xs ys : List X) → map f (xs ++ ys) ≡ map f xs ++ map f ys
map-append f [] ys = refl
map-append f (x ∷ xs) ys = ap (λ zs. f x ∷ zs) (map-append f xs ys)

latest-map : {X Y : Type 0} (f : X → Y) (n : ℕ) (xs : List X) → latest n (map f xs) ≡ map f (latest n xs)
latest-map f n xs = ap (λ k. drop (k - n) (map f xs)) (map-length f xs) ∙ drop-map f (length xs - n) xs

pub slice_get-map : {X Y : Type 0} (f : X → Y) (xs : List X) (i : ℕ) → slice_get (map f xs) i ≡ option_map f (slice_get xs i)
slice_get-map f [] i = refl
slice_get-map f (x ∷ xs) zero = refl
slice_get-map f (x ∷ xs) (suc i) = slice_get-map f xs i

oldest_of-map : {X Y : Type 0} (f : X → Y) (n : ℕ) (xs : List X) → oldest_of n (map f xs) ≡ option_map f (oldest_of n xs)
oldest_of-map f zero xs = refl
oldest_of-map {X} {Y} f (suc n) xs =
    ap (λ k. cond (leb (suc n) k) (slice_get (map f xs) (k - suc n)) None) (map-length f xs)
    ∙ go (leb (suc n) (length xs))
  where
    go : (b : Bool) → ◌≡◌ {A = Option Y} (cond b (slice_get (map f xs) (length xs - suc n)) None) (option_map f (cond b (slice_get xs (length xs - suc n)) None))
    go true = slice_get-map f xs (length xs - suc n)
    go false = refl

pub option_map-map : {X Y Z : Type 0} (g : Y → Z) (f : X → Y) (o : Option X) → option_map g (option_map f o) ≡ option_map (λ x. g (f x)) o
option_map-map g f None = refl
option_map-map g f (Some x) = refl

-- ---- names
-- of an entry whose part was sent, the name is the item's exactly where the part is
same_named : (config : Config) (a : Account) (i : Carried) (e : Entry) → Ids a → ItemOwned config a i → EntryOwned config a e
    → same_name (name_of i.item) (record_at a e).name ≡ (same_client i.item.head.client e.client && same_part i.part e.part)
same_named config a i e ids own k = go (same_client i.item.head.client e.client && same_part i.part e.part) refl where
  id : id_of (first_sent a e.client e.part) ≡ k.orig
  id = ap id_of k.owned.sent

  kinds : Bool
  kinds = kind_number (kind_of i.item.request) == kind_number (kind_of e.request)

  ids_same : Bool
  ids_same = i.item.head.orig == id_of (first_sent a e.client e.part)

  -- a name of one client and one id is of one part
  one_part : same_name (name_of i.item) (record_at a e).name ≡ true → (same_client i.item.head.client e.client && same_part i.part e.part) ≡ true
  one_part s =
      let client : i.item.head.client ≡ e.client = same_clients i.item.head.client e.client (and_left (same_client i.item.head.client e.client) kinds (and_left (same_client i.item.head.client e.client && kinds) ids_same s)) in
      let orig : i.item.head.orig ≡ id_of (first_sent a e.client e.part) =
      eqb_is i.item.head.orig (id_of (first_sent a e.client e.part)) (and_right (same_client i.item.head.client e.client && kinds) ids_same s) in
      let mine : first_sent a e.client i.part ≡ Some (k.orig, own.moment) =
      subst (λ n. first_sent a e.client i.part ≡ Some (n, own.moment)) (orig ∙ id) (subst (λ c. first_sent a c i.part ≡ Some (i.item.head.orig, own.moment)) client own.sent) in
      let part : i.part ≡ e.part = ids.one e.client i.part e.part k.orig own.moment k.owned.moment mine k.owned.sent in
      subst (λ c. (same_client i.item.head.client c && same_part i.part e.part) ≡ true) client
      (subst (λ p. (same_client i.item.head.client i.item.head.client && same_part i.part p) ≡ true) part (same_refl i.item.head.client i.part))

  -- and one part has one kind and one id
  one_name : (same_client i.item.head.client e.client && same_part i.part e.part) ≡ true → same_name (name_of i.item) (record_at a e).name ≡ true
  one_name is =
      let s = same_is i.item.head.client e.client i.part e.part is in
      let sent : first_sent a e.client e.part ≡ Some (i.item.head.orig, own.moment) =
      subst (λ c. first_sent a c e.part ≡ Some (i.item.head.orig, own.moment)) s.0 (subst (λ p. first_sent a i.item.head.client p ≡ Some (i.item.head.orig, own.moment)) s.1 own.sent) in
      let asked : request_of_part a e.client e.part ≡ Some i.item.request =
      subst (λ c. request_of_part a c e.part ≡ Some i.item.request) s.0 (subst (λ p. request_of_part a i.item.head.client p ≡ Some i.item.request) s.1 own.request) in
      let its : request_of_part a e.client e.part ≡ Some e.request = k.owned.request in
      let request : i.item.request ≡ e.request = cc in
      let client : (i.item.head.client.0 == e.client.0) ≡ true = and_left (same_client i.item.head.client e.client) (same_part i.part e.part) is in
      let kind : (kind_number (kind_of i.item.request) == kind_number (kind_of e.request)) ≡ true =
      subst (λ r. (kind_number (kind_of i.item.request) == kind_number (kind_of r)) ≡ true) request (eqb_same (kind_number (kind_of i.item.request))) in
      let orig : (i.item.head.orig == id_of (first_sent a e.client e.part)) ≡ true =
      subst (λ o. (i.item.head.orig == id_of o) ≡ true) (sym sent) (eqb_same i.item.head.orig) in
      rw (client, kind, orig) refl

  go : (b : Bool) → (same_client i.item.head.client e.client && same_part i.part e.part) ≡ b → same_name (name_of i.item) (record_at a e).name ≡ b
  go true is = one_name is
  go false is = no (same_name (name_of i.item) (record_at a e).name) refl where
    no : (x : Bool) → same_name (name_of i.item) (record_at a e).name ≡ x → x ≡ false
    no true s = absurd (contrary (same_client i.item.head.client e.client && same_part i.part e.part) (one_part s) is)
    no false s = refl

-- the record of the item's name is that of its part's entry
named_is : (config : Config) (a : Account) (i : Carried) (es : List Entry) → Ids a → ItemOwned config a i → Each (EntryOwned config a) es
    → record_named (name_of i.item) (map (record_at a) es) ≡ option_map (record_at a) (record_of es i.item.head.client i.part)
named_is config a i es ids own owned =
    find-map (λ (r : Record). same_name (name_of i.item) r.name) (record_at a) (λ (e : Entry). same_client i.item.head.client e.client && same_part i.part e.part) es
    (each_weaker (EntryOwned config a) (λ (e : Entry). same_name (name_of i.item) (record_at a e).name ≡ (same_client i.item.head.client e.client && same_part i.part e.part)) (λ e k. same_named config a i e ids own k) es owned)

-- ---- one item
-- what the items of a frame need of an account before them
record Before (config : Config) (a : Account) (l q : ℕ) : Type 0 where
  ran : Ran config a l q
  ids : Ids a
  owned : Each (EntryOwned config a) a.history

abbrev kept : Config → Account → List Entry
kept config a = latest config.node.retry (changing_of a.history)

kept_owned : (config : Config) (a : Account) → Each (EntryOwned config a) a.history → Each (EntryOwned config a) (kept config a)
kept_owned config a h = each_drop (EntryOwned config a) _ (changing_of a.history) (each_filter_from (EntryOwned config a) (λ (e : Entry). is_changing e.request) a.history h)

all_recorded : (config : Config) (a : Account) (l q : ℕ) → Ran config a l q → recorded a.history l q ≡ changing_of a.history
all_recorded config a l q r = ap changing_of (all_before (is_before l q) a.history r.before)

-- the node's machine handles it as the account does
same_handling : (config : Config) (a : Account) (l q : ℕ) (i : Carried) → Before config a l q → ItemOwned config a i
    → handling (is_changing i.item.request) (option_map (λ r. r.reply) (record_named (name_of i.item) (node_at config a).records)) (now a l) (option_map (λ r. r.moment) (oldest_of config.node.retry (node_at config a).records))
    ≡ item_handling (latest config.node.retry (recorded a.history l q)) config.node.retry a l i
same_handling config a l q i b own =
    let told : option_map (λ (r : Record). r.reply) (record_named (name_of i.item) (map (record_at a) (kept config a))) ≡ option_map (λ (e : Entry). e.reply) (record_of (kept config a) i.item.head.client i.part) =
    ap (option_map (λ (r : Record). r.reply)) (named_is config a i (kept config a) b.ids own (kept_owned config a b.owned))
    ∙ option_map-map (λ (r : Record). r.reply) (record_at a) (record_of (kept config a) i.item.head.client i.part) in
    let oldest : option_map (λ (r : Record). r.moment) (oldest_of config.node.retry (map (record_at a) (kept config a))) ≡ option_map (λ (e : Entry). now a e.line) (oldest_of config.node.retry (kept config a)) =
    ap (option_map (λ (r : Record). r.moment)) (oldest_of-map (record_at a) config.node.retry (kept config a))
    ∙ option_map-map (λ (r : Record). r.moment) (record_at a) (oldest_of config.node.retry (kept config a)) in
    (λ j. handling (is_changing i.item.request) (told j) (now a l) (oldest j))
    ∙ ap (λ es. item_handling (latest config.node.retry es) config.node.retry a l i) (sym (all_recorded config a l q b.ran))

-- what it says is what the account tells
same_said : (config : Config) (a : Account) (l k q : ℕ) (i : Carried) (s : FlatState) → s ≡ after (opening config.node) a.history → (h : Handling)
    → handled s a l k q i h ≡ on_said a l k q i (handles latest (node_at config a) (now a l) i.item h).said
same_said config a l k q i s is (Repeats reply) = refl
same_said config a l k q i s is (RefusesForNow oldest) = refl
same_said config a l k q i s is Executes = ap (λ z. handled z a l k q i Executes) is
same_said config a l k q i s is Looks = ap (λ z. handled z a l k q i Looks) is

-- an entry at the end of the changing ones
one_more : (e : Entry) (h : List Entry) → is_changing e.request ≡ true → changing_of (h ++ e ∷ []) ≡ changing_of h ++ e ∷ []
one_more e h changing = filter-append (λ (x : Entry). is_changing x.request) h (e ∷ []) ∙ ap (λ z. changing_of h ++ z) (one (is_changing e.request) changing)
  where
    one : (b : Bool) → b ≡ true → cond b (e ∷ []) [] ≡ e ∷ []
    one b is = rw is refl

-- the reply of the machine leads to its state
replied_state : (s : FlatState) (pid : ℕ) (r : Request) → state_after s pid r (outcome s pid r).reply ≡ (outcome s pid r).state
replied_state s pid (Alloc n perm) = go (least s.buckets (places s) pid n) where
  go : (o : Option ℕ) → alloc_after s pid n perm (alloc_at s pid n perm o).reply ≡ (alloc_at s pid n perm o).state
  go None = refl
  go (Some start) = ap (λ p. mapped s pid p n perm) (page_of_start start)
replied_state s pid other = refl

-- the history and the records after an item was executed, which joins them at their end
module _ (config : Config) (a : Account) (l q : ℕ) (i : Carried) (b : Before config a l q) (own : ItemOwned config a i) (changing : is_changing i.item.request ≡ true) (reply : Reply) where
  joins : with_entry (entry_of l q i reply) a.history ≡ a.history ++ entry_of l q i reply ∷ []
  joins = with_last (entry_of l q i reply) a.history b.ran.before

  recorded_so : record_at a (entry_of l q i reply) ≡ record { moment = now a l; name = name_of i.item; reply = reply }
  recorded_so = ap (λ (o : Option (ℕ × ℕ)). record { moment = now a l; name = record { client = i.item.head.client; kind = kind_of i.item.request; orig = id_of o }; reply = reply }) own.sent

  flat_joins : reply ≡ (item_outcome (after (opening config.node) a.history) i.item).reply
      → after (opening config.node) (with_entry (entry_of l q i reply) a.history) ≡ (item_outcome (after (opening config.node) a.history) i.item).state
  flat_joins is =
      ap (after (opening config.node)) joins
      ∙ after-append (opening config.node) a.history (entry_of l q i reply ∷ [])
      ∙ ap (state_after (after (opening config.node) a.history) i.item.head.pid i.item.request) is
      ∙ replied_state (after (opening config.node) a.history) i.item.head.pid i.item.request

  records_join : map (record_at a) (latest config.node.retry (changing_of (with_entry (entry_of l q i reply) a.history)))
      ≡ latest config.node.retry (map (record_at a) (kept config a) ++ record { moment = now a l; name = name_of i.item; reply = reply } ∷ [])
  records_join =
      ap (λ h. map (record_at a) (latest config.node.retry (changing_of h))) joins
      ∙ ap (λ es. map (record_at a) (latest config.node.retry es)) (one_more (entry_of l q i reply) a.history changing)
      ∙ ap (map (record_at a)) (sym (latest_more config.node.retry (changing_of a.history) (entry_of l q i reply)))
      ∙ sym (latest-map (record_at a) config.node.retry (kept config a ++ entry_of l q i reply ∷ []))
      ∙ ap (latest config.node.retry) (map-append (record_at a) (kept config a) (entry_of l q i reply ∷ []) ∙ ap (λ r. map (record_at a) (kept config a) ++ r ∷ []) recorded_so)

-- and it is left as its machine leaves it
same_node : (config : Config) (a : Account) (l k q : ℕ) (i : Carried) → Before config a l q → ItemOwned config a i
    → (h : Handling) (records : List Entry) → Tells records config.node.retry a l i h
    → node_at config (joined_by a (handled (after (opening config.node) a.history) a l k q i h)) ≡ (handles latest (node_at config a) (now a l) i.item h).node
same_node config a l k q i b own (Repeats reply) records tells = refl
same_node config a l k q i b own (RefusesForNow oldest) records tells = refl
same_node config a l k q i b own Looks records tells = refl
same_node config a l k q i b own Executes records tells =
    let reply : Reply = (item_outcome (after (opening config.node) a.history) i.item).reply in
    let flat = flat_joins config a l q i b own tells.0 (item_outcome (after (opening config.node) a.history) i.item).reply refl in
    let records_so = records_join config a l q i b own tells.0 (item_outcome (after (opening config.node) a.history) i.item).reply in
    λ j. record { flat = flat j; records = records_so j; retry = config.node.retry }

-- ---- the items of a frame
-- the account's word on an item is the node's
item_said : (config : Config) (a : Account) (l k q : ℕ) (i : Carried) → Before config a l q → ItemOwned config a i
    → on_item (latest config.node.retry) config a l k q i ≡ on_said a l k q i (step_item latest (node_at config a) (now a l) i.item).said
item_said config a l k q i b own =
    let whole : memory_at config a.history l q ≡ after (opening config.node) a.history = ap (after (opening config.node)) (all_before (is_before l q) a.history b.ran.before) in
    same_said config a l k q i (memory_at config a.history l q) whole (item_handling (latest config.node.retry (recorded a.history l q)) config.node.retry a l i)
    ∙ ap (λ h. on_said a l k q i (handles latest (node_at config a) (now a l) i.item h).said) (sym (same_handling config a l q i b own))

item_left : (config : Config) (a : Account) (l k q : ℕ) (i : Carried) → Before config a l q → ItemOwned config a i
    → node_at config (joined_by a (on_item (latest config.node.retry) config a l k q i)) ≡ (step_item latest (node_at config a) (now a l) i.item).node
item_left config a l k q i b own =
    let whole : memory_at config a.history l q ≡ after (opening config.node) a.history = ap (after (opening config.node)) (all_before (is_before l q) a.history b.ran.before) in
    ap (λ s. node_at config (joined_by a (handled s a l k q i (item_handling (latest config.node.retry (recorded a.history l q)) config.node.retry a l i)))) whole
    ∙ same_node config a l k q i b own (item_handling (latest config.node.retry (recorded a.history l q)) config.node.retry a l i) (latest config.node.retry (recorded a.history l q))
    (handling_tells (latest config.node.retry (recorded a.history l q)) config.node.retry a l i)
    ∙ ap (λ h. (handles latest (node_at config a) (now a l) i.item h).node) (sym (same_handling config a l q i b own))

handled_entries : (config : Config) (a b : Account) (l k q : ℕ) (i : Carried) (s : FlatState) → ItemOwned config a i → (h : Handling) → Each (EntryOwned config a) (handled s b l k q i h).entries
handled_entries config a b l k q i s own (Repeats reply) = tt
handled_entries config a b l k q i s own (RefusesForNow oldest) = tt
handled_entries config a b l k q i s own Executes = (entry_owned config a l q i (item_outcome s i.item).reply own, tt)
handled_entries config a b l k q i s own Looks = tt

-- what joins an account leaves what its lines say
owned_on : (config : Config) (a : Account) (e : Effect) (x : Entry) → EntryOwned config a x → EntryOwned config (joined_by a e) x
owned_on config a e x h = record { orig = h.orig; owned = record { moment = h.owned.moment; sent = h.owned.sent; request = h.owned.request; process = h.owned.process } }

item_on : (config : Config) (a : Account) (e : Effect) (i : Carried) → ItemOwned config a i → ItemOwned config (joined_by a e) i
item_on config a e i h = record { moment = h.moment; sent = h.sent; request = h.request; process = h.process }

before_next : (config : Config) (a : Account) (l k q : ℕ) (i : Carried) → InRange i.item.request → Before config a l q → ItemOwned config a i
    → Before config (joined_by a (on_item (latest config.node.retry) config a l k q i)) l (q + 1)
before_next config a l k q i in_range b own =
    let e : Effect = on_item (latest config.node.retry) config a l k q i in
    record {
      ran = item_runs (latest config.node.retry) config a l k q i b.ran in_range;
      ids = record { below = λ c p o m h. b.ids.below c p o m h; one = λ c p p2 o m n h j. b.ids.one c p p2 o m n h j };
      owned = each_weaker (EntryOwned config a) (EntryOwned config (joined_by a (on_item (latest config.node.retry) config a l k q i))) (owned_on config a (on_item (latest config.node.retry) config a l k q i))
          (joined_by a (on_item (latest config.node.retry) config a l k q i)).history
          (each_with_entries (EntryOwned config a) (on_item (latest config.node.retry) config a l k q i).entries a.history
          (handled_entries config a a l k q i (memory_at config a.history l q) own (item_handling (latest config.node.retry (recorded a.history l q)) config.node.retry a l i)) b.owned);
    }

-- what the items need
abbrev ItemsReady : Config → Account → List Carried → Type 0
ItemsReady config a items = Each (λ (i : Carried). ItemOwned config a i × InRange i.item.request) items

items_said : (config : Config) (l k : ℕ) (items : List Carried) (a : Account) (q : ℕ) → Before config a l q → ItemsReady config a items
    → on_items (latest config.node.retry) config a l k q items ≡ on_all_said a l k q items (said_to latest (node_at config a) (now a l) (items_carried items))
items_said config l k [] a q b ready = refl
items_said config l k (i ∷ is) a q b ready =
    let e : Effect = on_item (latest config.node.retry) config a l k q i in
    let rest : on_items (latest config.node.retry) config (joined_by a (on_item (latest config.node.retry) config a l k q i)) l k (q + 1) is
    ≡ on_all_said (joined_by a (on_item (latest config.node.retry) config a l k q i)) l k (q + 1) is (said_to latest (node_at config (joined_by a (on_item (latest config.node.retry) config a l k q i))) (now a l) (items_carried is)) =
    items_said config l k is (joined_by a (on_item (latest config.node.retry) config a l k q i)) (q + 1) (before_next config a l k q i ready.0.1 b ready.0.0)
    (each_weaker (λ (i : Carried). ItemOwned config a i × InRange i.item.request) (λ (j : Carried). ItemOwned config (joined_by a (on_item (latest config.node.retry) config a l k q i)) j × InRange j.item.request)
    (λ j h. (item_on config a (on_item (latest config.node.retry) config a l k q i) j h.0, h.1)) is ready.1) in
    ap (then_also (on_item (latest config.node.retry) config a l k q i)) (rest ∙ ap (λ n. on_all_said (joined_by a (on_item (latest config.node.retry) config a l k q i)) l k (q + 1) is (said_to latest n (now a l) (items_carried is))) (item_left config a l k q i b ready.0.0))
    ∙ ap (λ e. then_also e (on_all_said (joined_by a e) l k (q + 1) is (said_to latest (step_item latest (node_at config a) (now a l) i.item).node (now a l) (items_carried is)))) (item_said config a l k q i b ready.0.0)

items_left : (config : Config) (l k : ℕ) (items : List Carried) (a : Account) (q : ℕ) → Before config a l q → ItemsReady config a items
    → node_at config (joined_by a (on_items (latest config.node.retry) config a l k q items)) ≡ node_after latest (node_at config a) (now a l) (items_carried items)
items_left config l k [] a q b ready = refl
items_left config l k (i ∷ is) a q b ready =
    let e : Effect = on_item (latest config.node.retry) config a l k q i in
    ap (node_at config) (sym (joined_twice a (on_item (latest config.node.retry) config a l k q i) (on_items (latest config.node.retry) config (joined_by a (on_item (latest config.node.retry) config a l k q i)) l k (q + 1) is)))
    ∙ items_left config l k is (joined_by a (on_item (latest config.node.retry) config a l k q i)) (q + 1) (before_next config a l k q i ready.0.1 b ready.0.0)
    (each_weaker (λ (i : Carried). ItemOwned config a i × InRange i.item.request) (λ (j : Carried). ItemOwned config (joined_by a (on_item (latest config.node.retry) config a l k q i)) j × InRange j.item.request)
    (λ j h. (item_on config a (on_item (latest config.node.retry) config a l k q i) j h.0, h.1)) is ready.1)
    ∙ ap (λ n. node_after latest n (now a l) (items_carried is)) (item_left config a l k q i b ready.0.0)

-- ---- the line joins
-- an entry that is recorded before the line's end reads the same after it
record IsMade (config : Config) (a : Account) (l : ℕ) (e : Entry) : Type 0 where
  owned : EntryOwned config a e
  line : e.line ≤ l

record_kept : (config : Config) (a : Account) (l : ℕ) (event : Event) (x : Effect) (e : Entry) → IsMade config a l e → record_at (extended a l event x) e ≡ record_at a e
record_kept config a l event x e m =
    let moment : now (extended a l event x) e.line ≡ now a e.line = now_kept a l e.line event x m.line in
    let sent : first_sent (extended a l event x) e.client e.part ≡ first_sent a e.client e.part =
    sent_kept a l event x e.client e.part (m.owned.orig, m.owned.owned.moment) m.owned.owned.sent ∙ sym m.owned.owned.sent in
    λ j. record { moment = moment j; name = record { client = e.client; kind = kind_of e.request; orig = id_of (sent j) }; reply = e.reply }

line_joins : (config : Config) (a : Account) (l : ℕ) (event : Event) (e : Effect) → Each (IsMade config a l) (with_entries e.entries a.history)
    → node_at config (extended a l event e) ≡ node_at config (joined_by a e)
line_joins config a l event e made =
    let same : map (record_at (extended a l event e)) (latest config.node.retry (changing_of (with_entries e.entries a.history))) ≡ map (record_at a) (latest config.node.retry (changing_of (with_entries e.entries a.history))) =
    map_same (record_at (extended a l event e)) (record_at a) (latest config.node.retry (changing_of (with_entries e.entries a.history)))
    (each_drop (λ (x : Entry). record_at (extended a l event e) x ≡ record_at a x) _ (changing_of (with_entries e.entries a.history))
    (each_filter_from (λ (x : Entry). record_at (extended a l event e) x ≡ record_at a x) (λ (x : Entry). is_changing x.request) (with_entries e.entries a.history)
    (each_weaker (IsMade config a l) (λ (x : Entry). record_at (extended a l event e) x ≡ record_at a x) (λ x m. record_kept config a l event e x m) (with_entries e.entries a.history) made))) in
    λ j. record { flat = after (opening config.node) (with_entries e.entries a.history); records = same j; retry = config.node.retry }

-- ---- what each event brings
-- entries that were made by this line, or wait for their reply to be taken
abbrev MadeFit : Config → Account → ℕ → Event → Effect → Type 0
MadeFit config a l event e = Each (IsMade config a l) e.entries

-- the items' entries stand on the line
items_made : (config : Config) (l k : ℕ) (items : List Carried) (a b : Account) (q : ℕ) → Each (ItemOwned config a) items
    → Each (IsMade config a l) (on_items (latest config.node.retry) config b l k q items).entries
items_made config l k [] a b q own = tt
items_made config l k (i ∷ is) a b q own =
    each_append (IsMade config a l) (on_item (latest config.node.retry) config b l k q i).entries _
    (made (memory_at config b.history l q) (item_handling (latest config.node.retry (recorded b.history l q)) config.node.retry b l i))
    (items_made config l k is a (joined_by b (on_item (latest config.node.retry) config b l k q i)) (q + 1) own.1)
  where
    made : (s : FlatState) (h : Handling) → Each (IsMade config a l) (handled s b l k q i h).entries
    made s (Repeats reply) = tt
    made s (RefusesForNow oldest) = tt
    made s Executes = (record { owned = entry_owned config a l q i (item_outcome s i.item).reply own.0; line = omega arith }, tt)
    made s Looks = tt

-- a look's entry was made earlier
looks_made : (config : Config) (a : Account) (l : ℕ) (es : List Entry) → Each (EntryOwned config a) es → Each (LookOf config a.history l 0) es → Each (IsMade config a l) es
looks_made config a l [] o k = tt
looks_made config a l (e ∷ es) o k = (record { owned = o.0; line = let low : e.line < l = line_of_before l e k.0.before in omega arith }, looks_made config a l es o.1 k.1)

items_of_frame : (config : Config) (a : Account) (l k : ℕ) (frame : Frame) (items : List Carried) → PartsOnce config a → frame_at a k ≡ Some frame → frame.load ≡ Asks items → Each (ItemOwned config a) items
items_of_frame config a l k frame items once is carries =
    subst (λ (x : Load). Each (ItemOwned config a) (items_of x)) carries (frame_at_each (λ (f : Frame). Each (ItemOwned config a) (items_of f.load)) a k frame once.items is)

ranges_of_frame : (config : Config) (a : Account) (l k : ℕ) (frame : Frame) (items : List Carried) → Ran config a l 0 → frame_at a k ≡ Some frame → frame.load ≡ Asks items → Each (λ (i : Carried). InRange i.item.request) items
ranges_of_frame config a l k frame items ran is carries =
    subst (λ (x : Load). Each (λ (i : Carried). InRange i.item.request) (items_of x)) carries (frame_at_each (λ (f : Frame). Each (λ (i : Carried). InRange i.item.request) (items_of f.load)) a k frame ran.items is)

looks_of_frame : (config : Config) (a : Account) (l k : ℕ) (frame : Frame) (head : Head) (reply : Reply) (if_taken : List Entry) → Base config a l → frame_at a k ≡ Some frame → frame.load ≡ Answers head reply if_taken
    → Each (EntryOwned config a) if_taken × Each (LookOf config a.history l 0) if_taken
looks_of_frame config a l k frame head reply if_taken b is carries = (
  subst (λ (x : Load). Each (EntryOwned config a) (if_taken_of x)) carries (frame_at_each (λ (f : Frame). Each (EntryOwned config a) (if_taken_of f.load)) a k frame b.once.looks is),
  subst (λ (x : Load). Each (LookOf config a.history l 0) (if_taken_of x)) carries (frame_at_each (λ (f : Frame). Each (LookOf config a.history l 0) (if_taken_of f.load)) a k frame b.ran.looked is),
)

made_cases : (config : Config) (a : Account) (l : ℕ) → Base config a l → Cases (latest config.node.retry) config a l (MadeFit config a l)
made_cases config a l b = record {
  quiet = λ event d no_peek quiet. tt;
  peeks = λ pid addr n. peek_is_quiet (MadeFit config a l (event.Peek pid addr n)) (λ d quiet. tt) (memory_at config a.history l 0) pid addr n;
  issues = λ c text none. tt;
  gives_up = λ c f of old. tt;
  ends_fence = λ c k rest is fence. tt;
  sends_again = λ c f of due. tt;
  sends = λ c p of. tt;
  items = λ event k frame items delivers given. items_made config l k items a a 0 (items_of_frame config a l k frame items b.once given.is_frame given.carries);
  takes = λ event k frame head reply if_taken f delivers given of orig.
      let looks = looks_of_frame config a l k frame head reply if_taken b given.is_frame given.carries in looks_made config a l if_taken looks.0 looks.1;
}

-- ---- what a delivery leaves
-- a look's entry in its place leaves the state, and the changing entries
looks_leave : (config : Config) (a : Account) (l : ℕ) (es h : List Entry) → Each (LookOf config a.history l 0) es
    → (after (opening config.node) (with_entries es h) ≡ after (opening config.node) h) × (changing_of (with_entries es h) ≡ changing_of h)
looks_leave config a l [] h k = (refl, refl)
looks_leave config a l (e ∷ es) h k =
    let rest = looks_leave config a l es (with_entry e h) k.1 in (
      rest.0 ∙ reads_leave (opening config.node) e h k.0.reading,
      rest.1 ∙ filter_with_entry (λ (x : Entry). is_changing x.request) e h k.0.reading,
    )
  where
    reads_leave : (s : FlatState) (e : Entry) (h : List Entry) → is_changing e.request ≡ false → after s (with_entry e h) ≡ after s h
    reads_leave s e [] r = reading_keeps s e.pid e.request e.reply r
    reads_leave s e (x ∷ h) r = go (is_before e.line e.position x) (reads_leave (after_entry s x) e h r) where
      go : (b : Bool) → after (after_entry s x) (with_entry e h) ≡ after (after_entry s x) h → after s (elim b [ true ↦ x ∷ with_entry e h | false ↦ e ∷ x ∷ h ]) ≡ after s (x ∷ h)
      go true rec = rec
      go false rec = ap (λ z. after z (x ∷ h)) (reading_keeps s e.pid e.request e.reply r)

module _ (config : Config) (a : Account) (l : ℕ) (b : Base config a l) where
  before : Before config a l 0
  before = record { ran = b.ran; ids = b.once.ids; owned = b.once.entries }

  both : (items : List Carried) → Each (ItemOwned config a) items → Each (λ (i : Carried). InRange i.item.request) items → ItemsReady config a items
  both [] o g = tt
  both (i ∷ is) o g = ((o.0, g.0), both is o.1 g.1)

  ready : (k : ℕ) (frame : Frame) (items : List Carried) → frame_at a k ≡ Some frame → frame.load ≡ Asks items → ItemsReady config a items
  ready k frame items is carries = both items (items_of_frame config a l k frame items b.once is carries) (ranges_of_frame config a l k frame items b.ran is carries)

  load_left : (k : ℕ) (frame : Frame) (load : Load) → frame_at a k ≡ Some frame → frame.load ≡ load
      → node_at config (joined_by a (handed (latest config.node.retry) config a l k load)) ≡ node_after_load (now a l) load (node_at config a)
  load_left k frame (Asks items) is carries = items_left config l k items a 0 before (ready k frame items is carries)
  load_left k frame (Answers head reply if_taken) is carries = go (flight_under head.orig (client_at config a head.client)) where
    go : (o : Option Sending) → node_at config (joined_by a (on_flight (client_at config a head.client) k head reply if_taken o)) ≡ node_at config a
    go None = refl
    go (Some f) =
        let looks = looks_of_frame config a l k frame head reply if_taken b is carries in
        let left = looks_leave config a l if_taken a.history looks.1 in
        λ j. record { flat = left.0 j; records = map (record_at a) (latest config.node.retry (left.1 j)); retry = config.node.retry }

  live_left : (k : ℕ) (frame : Frame) → frame_at a k ≡ Some frame → (live : Bool)
      → node_at config (joined_by a (if_live (latest config.node.retry) config a l k frame live)) ≡ node_after_delivered (now a l) live frame (node_at config a)
  live_left k frame is true = load_left k frame frame.load is refl
  live_left k frame is false = refl

  delivery_left : (k : ℕ) → node_at config (joined_by a (on_delivery (latest config.node.retry) config a l k)) ≡ node_after_frame (now a l) (frame_at a k) (node_at config a)
  delivery_left k = go (frame_at a k) refl where
    go : (o : Option Frame) → frame_at a k ≡ o → node_at config (joined_by a (on_frame (latest config.node.retry) config a l k o)) ≡ node_after_frame (now a l) o (node_at config a)
    go None is = refl
    go (Some frame) is = live_left k frame is (is_live (now a l) frame.moment)

  next_left : node_at config (joined_by a (on_next (latest config.node.retry) config a (on_delivery (latest config.node.retry) config a l))) ≡ node_after_frame (now a l) (frame_at a (taken_in_order a + 1)) (node_at config a)
  next_left = go (frame_at a (taken_in_order a + 1)) refl where
    go : (o : Option Frame) → frame_at a (taken_in_order a + 1) ≡ o
        → node_at config (joined_by a (if_there (latest config.node.retry) config (on_delivery (latest config.node.retry) config a l) (taken_in_order a + 1) o)) ≡ node_after_frame (now a l) o (node_at config a)
    go None is = refl
    go (Some frame) is = delivery_left (taken_in_order a + 1) ∙ ap (λ o. node_after_frame (now a l) o (node_at config a)) is

  -- an event that is no delivery brings no entry
  abbrev NoEntry : Event → Effect → Type 0
  NoEntry event e = is_delivery event ≡ false → e.entries ≡ []

  no_entry : Cases (latest config.node.retry) config a l NoEntry
  no_entry = record {
    quiet = λ event d no_peek quiet none. refl;
    peeks = λ pid addr n. peek_is_quiet (NoEntry (event.Peek pid addr n)) (λ d quiet none. refl) (memory_at config a.history l 0) pid addr n;
    issues = λ c text fine none. refl;
    gives_up = λ c f of old none. refl;
    ends_fence = λ c k rest is fence none. refl;
    sends_again = λ c f of due none. refl;
    sends = λ c p of none. refl;
    items = λ event k frame items delivers given none. absurd (contrary (is_delivery event) delivers none);
    takes = λ event k frame head reply if_taken f delivers given of orig none. absurd (contrary (is_delivery event) delivers none);
  }

  others_left : (event : Event) → is_delivery event ≡ false → node_at config (joined_by a (effect (latest config.node.retry) config a l event)) ≡ node_at config a
  others_left event none =
      ap (λ es. node_at config (record a { history = with_entries es a.history })) (effect_by (latest config.node.retry) config a l NoEntry no_entry event none)

  event_left : (event : Event) → node_at config (joined_by a (effect (latest config.node.retry) config a l event)) ≡ node_after_event a l event (node_at config a)
  event_left (event.Deliver k) = delivery_left k
  event_left event.DeliverNext = next_left
  event_left (event.Call c text) = others_left (event.Call c text) refl
  event_left (event.Poll c) = others_left (event.Poll c) refl
  event_left event.Drop = others_left event.Drop refl
  event_left (event.Tick by) = others_left (event.Tick by) refl
  event_left (event.Peek pid addr len) = others_left (event.Peek pid addr len) refl
  event_left (event.Show k) = others_left (event.Show k) refl
  event_left event.Stat = others_left event.Stat refl
  event_left (event.GarbageNode bytes) = others_left (event.GarbageNode bytes) refl
  event_left (event.GarbageClient c bytes) = others_left (event.GarbageClient c bytes) refl

  pub node_follows : (event : Event) → NodeFollows config a l event
  node_follows event = record {
    node = line_joins config a l event (effect (latest config.node.retry) config a l event)
        (each_with_entries (IsMade config a l) (effect (latest config.node.retry) config a l event).entries a.history (effect_by (latest config.node.retry) config a l (MadeFit config a l) (made_cases config a l b) event)
        (each_both a.history b.once.entries b.ran.before))
        ∙ event_left event;
    says = λ k frame items is carries. items_said config l k items a 0 before (ready k frame items is carries);
  }
    where
      each_both : (h : List Entry) → Each (EntryOwned config a) h → Each (λ (e : Entry). is_before l 0 e ≡ true) h → Each (IsMade config a l) h
      each_both [] o k = tt
      each_both (e ∷ h) o k = (record { owned = o.0; line = let low : e.line < l = line_of_before l e k.0 in omega arith }, each_both h o.1 k.1)

-- ---- every schedule
pub rising_front : (events : List (ℕ × Event)) (m l : ℕ) (event : Event) → IsRisingFrom m (events ++ (l, event) ∷ []) → IsRisingFrom m events × (past m events ≤ l)
rising_front [] m l event r = (tt, r.0)
rising_front (e ∷ es) m l event r = let rest = rising_front es (e.0 + 1) l event r.1 in ((r.0, rest.0), rest.1)

pub nodes_follow : NodesFollow
nodes_follow config events l event some rising typed =
    let front = rising_front events 0 l event rising in
    let base : Base config (account config events) l = base_later config (account config events) (past 0 events) l front.1 (base_of_account config events front.0 typed) in
    node_follows config (account_of_latest config events) l (subst (λ a. Base config a l) (one_account config events some front.0 typed) base) event
