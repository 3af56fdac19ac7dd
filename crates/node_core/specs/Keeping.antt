-- What a contract sees of a keeping node, and of what it answers.
use Rattle.std.specs.Prelude.{ℕ, ◌≡◌, ◌≤◌, List, [], ◌∷◌, take, Option, Some, None, Result, Ok, Err, IfSome, IsSome, IsSomeAnd, IsTrue, slice_get}
use Rattle.cl_types.specs.declared.call.Kind.{Kind}
use Rattle.cl_types.specs.declared.frame.Head.{Head}
use Rattle.cl_types.specs.declared.frame.How.{How}
use Rattle.cl_types.specs.declared.frame.How.TheVariants.{Executed, Looked}
use Rattle.cl_types.specs.declared.reply.Refusal.{Refusal}
use Rattle.cl_types.specs.declared.reply.Reply.{Reply}
use Rattle.cl_types.specs.declared.request.Request.{Request}
use Rattle.cl_types.specs.declared.request.RequestRef.{RequestRef}
use Rattle.cl_types.specs.Requests.{request_of}
use Rattle.frame_model.specs.Frames.{Item, is_reply_of, items_in, reply_frame, kind_of, status_in}
use Rattle.data_path.specs.declared.store.PageStore.{PageStore}
use Rattle.data_path.specs.Spaces.{contents_of}
use Rattle.data_path.specs.Store.{IsLatest}
use Rattle.flat_model.specs.Objects.{Object}
use Rattle.flat_model.specs.Objects.Object.{KvObject}
use Rattle.kv_offload.specs.Stored.{pairs_in}
use Rattle.flat_model.specs.State.{FlatState}
use Rattle.translate_cache.specs.Cached.{Cached, entry_of}
use Rattle.node_model.specs.Nodes.{NodeState, ItemAnswer, Gives, IsBusy, NodeAnswer, Refuses, Says}
use Rattle.node_core.specs.Placed.{page_used}
use Rattle.node_core.specs.declared.outcome.Outcome.{Outcome}
use Rattle.node_core.specs.declared.outcome.Outcome.TheVariants.{Replied, Busy, Bad}
use Rattle.cl_types.specs.declared.limits.TheConstants.{REPLY_BYTES}

-- the keeping node, the latest moment that it was given, and the entries of its page table that were used of late
pub record KeptNode : Type 0 where
  pub node : NodeState
  pub last : ℕ
  pub cache : Cached

-- what a node's memory means, and the entries of its page table that were used of late
pub record KeptMemory : Type 0 where
  pub flat : FlatState
  pub cache : Cached

-- the reply to an execution is one that a frame of its kind can carry; a reader of the frame finds that very reply
abbrev pub IsCarried : Kind → How → Reply → Type 0
IsCarried kind Executed reply = IsTrue (is_reply_of kind reply)
IsCarried kind other reply = Unit {0}

-- the outcome tells of this reply, whose frame stands at the start of the buffer, and how the node came to it
abbrev pub TellsReply : Head → Kind → How → Reply → Outcome → List ℕ → Type 0
TellsReply head kind how reply (Replied len told status) out =
    (told ≡ how) × (status ≡ status_in reply) × (len ≤ REPLY_BYTES) × (take len out ≡ reply_frame head kind reply) × IsCarried kind how reply
TellsReply head kind how reply other out = ⊥

-- the outcome tells what is said to the item
abbrev pub TellsSaid : Item → ItemAnswer → Outcome → List ℕ → Type 0
TellsSaid item (Gives how reply) outcome out = TellsReply item.head (kind_of item.request) how reply outcome out
TellsSaid item (IsBusy oldest now) (Busy since at) out = (since ≡ oldest) × (at ≡ now)
-- nothing else is told
TellsSaid item said outcome out = ⊥

-- the outcome tells what is said to each of the items, which are one
abbrev pub TellsEach : List Item → List ItemAnswer → Outcome → List ℕ → Type 0
TellsEach (item ∷ []) (said ∷ []) outcome out = TellsSaid item said outcome out
TellsEach items said outcome out = ⊥

-- the outcome tells the answer to these bytes
abbrev pub Tells : List ℕ → NodeAnswer → Outcome → List ℕ → Type 0
Tells frame (Refuses fault) (Bad told) out = told ≡ fault
Tells frame (Says said) outcome out = TellsEach (items_in frame) said outcome out
-- nothing else is told
Tells frame answer outcome out = ⊥

-- these bytes hold the object
abbrev pub IsHeldIn : List ℕ → Object → Type 0
IsHeldIn bytes (KvObject records pairs) = pairs ≡ pairs_in records bytes

-- each object lies in the space of the offload of its number
abbrev pub LieIn : PageStore → List Object → Type 0
LieIn store objects = (number : ℕ) → IfSome (slice_get objects number) (IsHeldIn (contents_of number store))

-- the request accesses a page of which the cache has the entry
abbrev pub Hits : Cached → ℕ → Request → Type 0
Hits cache pid request = IsSomeAnd (page_used request) (λ vpn. IsSome (entry_of cache (pid, vpn)))

-- the entry of the page that the request accesses, where it accesses one, is the latest used one, or isn't there
abbrev pub IsUsed : Cached → ℕ → Request → Type 0
IsUsed cache pid request = IfSome (page_used request) (λ vpn. IsLatest cache (pid, vpn))

-- where the outcome tells that the request was executed anew, the entry of its page is the latest used one, or isn't there
abbrev pub Uses : Cached → ℕ → Request → Outcome → Type 0
Uses cache pid request (Replied len Executed status) = IsUsed cache pid request
Uses cache pid request (Replied len Looked status) = IsUsed cache pid request
-- nothing was executed
Uses cache pid request other = Unit {0}

-- where the outcome tells that nothing was executed anew, this holds
abbrev pub OnIdle : Outcome → Type 0 → Type 0
OnIdle (Replied len Executed status) P = Unit {0}
OnIdle (Replied len Looked status) P = Unit {0}
OnIdle other P = P

-- the item of a request that borrows its bytes
abbrev pub item_of : Head → RequestRef → Item
item_of head request = record { head = head; request = request_of request }

-- what a peek shows: the bytes that it filled in, or nothing where it was refused
abbrev pub shown_in : Result (Unit {0}) Refusal → List ℕ → Option (List ℕ)
shown_in (Ok done) bytes = Some bytes
shown_in (Err refusal) bytes = None
