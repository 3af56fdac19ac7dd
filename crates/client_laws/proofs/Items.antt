-- What the items of a frame bring.
use Rattle.std.proofs.Common.{ℕ, ◌+◌, List, [], ◌∷◌}
use Rattle.std.specs.List.{AllByRecursion as Each}
use Rattle.cl_types.specs.declared.numbers.ClientNo.{ClientNo}
use Rattle.cl_types.specs.declared.config.Config.{Config}
use Rattle.cl_types.specs.declared.frame.How.{How}
use Rattle.cl_types.specs.Requests.{is_changing}
use Rattle.cl_types.specs.declared.reply.Part.{Part}
use Rattle.cl_types.specs.declared.line.Did.{Did}
use Rattle.cl_types.specs.declared.line.Did.TheVariants as did
use Rattle.cl_types.specs.declared.line.Entry.{Entry}
use Rattle.flat_model.specs.State.{FlatState}
use Rattle.trace.specs.Account.{Account, Carried, joined_by, memory_at, now}
use Rattle.node_model.specs.Handling.{Handling, Repeats, RefusesForNow, Executes, Looks, oldest_of}
use Rattle.trace.specs.Events.{on_item, on_items, handled, item_handling, record_of}
use Rattle.lemmas.proofs.Lists.{each_append}
use Rattle.node_model.proofs.Handled.{HandledBy, handled_by}

-- ---- texts of a delivery at the node
-- what holds of each text by which a node tells how it handled an item
abbrev pub OfHandling : (Did → Type 0) → Type 0
OfHandling P =
    ((frame : ℕ) (client : ClientNo) (part : Part) (how : How) (status reply : ℕ) → P (did.Handled frame client part how status reply))
    × ((frame : ℕ) (client : ClientNo) (part : Part) (oldest at : ℕ) → P (did.Busy frame client part oldest at))

handled_texts : (P : Did → Type 0) → OfHandling P → (s : FlatState) (b : Account) (l k q : ℕ) (i : Carried) (h : Handling) → Each P (handled s b l k q i h).texts
handled_texts P of s b l k q i (Repeats reply) = (of.0 _ _ _ _ _ _, tt)
handled_texts P of s b l k q i (RefusesForNow oldest) = (of.1 _ _ _ _ _, tt)
handled_texts P of s b l k q i Executes = (of.0 _ _ _ _ _ _, tt)
handled_texts P of s b l k q i Looks = (of.0 _ _ _ _ _ _, tt)

pub items_texts : (P : Did → Type 0) → OfHandling P → (keep : List Entry → List Entry) (config : Config) (l k : ℕ) (items : List Carried) (b : Account) (q : ℕ) → Each P (on_items keep config b l k q items).texts
items_texts P of keep config l k [] b q = tt
items_texts P of keep config l k (i ∷ is) b q =
    each_append P (on_item keep config b l k q i).texts _ (handled_texts P of (memory_at config b.history l q) b l k q i _) (items_texts P of keep config l k is (joined_by b (on_item keep config b l k q i)) (q + 1))

-- ---- how an item is handled
-- of an item in an account
abbrev pub Tells : (records : List Entry) → (retry : ℕ) → Account → ℕ → Carried → Handling → Type 0
Tells records retry b l i h =
    HandledBy {X = Entry} (λ e. e.reply) (λ e. now b e.line) (is_changing i.item.request) (record_of records i.item.head.client i.part) (now b l) (oldest_of retry records) h

pub handling_tells : (records : List Entry) (retry : ℕ) (b : Account) (l : ℕ) (i : Carried) → Tells records retry b l i (item_handling records retry b l i)
handling_tells records retry b l i =
    handled_by {X = Entry} (λ e. e.reply) (λ e. now b e.line) (is_changing i.item.request) (record_of records i.item.head.client i.part) (now b l) (oldest_of retry records)
