-- Laws of frames, each proved by a function of src/frame_laws.rt.
use Rattle.std.specs.Prelude.{ℕ, ◌+◌, ◌≡◌, List, None, slice_index, IsTrue}
use Rattle.cl_types.specs.declared.call.Kind.{Kind}
use Rattle.cl_types.specs.declared.numbers.ClientNo.{ClientNo}
use Rattle.cl_types.specs.declared.frame.Head.{Head}
use Rattle.cl_types.specs.declared.request.Request.{Request}
use Rattle.cl_types.specs.declared.reply.Reply.{Reply}
use Rattle.cl_types.specs.Kinds.{kind_number}
use Rattle.cl_types.specs.Ranges.{are_bytes}
use Rattle.frame_model.specs.Frames.{Item, SpellsRequest, SpellsReply, SpellsFrame, request_fault, reply_fault, head_in, request_in, reply_in, items_in}

-- a node that reads the bytes finds no fault, this head and this body
pub record ReadsAsRequest (bytes : List ℕ) (head : Head) (body : Request) : Type 0 where
  pub faultless : request_fault bytes ≡ None
  pub same_head : head_in bytes ≡ head
  pub same_body : request_in bytes ≡ body

-- bytes that spell a request are read as that request
abbrev pub RequestsAreReadAgain : Type 0
RequestsAreReadAgain =
    (bytes : List ℕ) (head : Head) (body : Request)
    → SpellsRequest bytes head body → ReadsAsRequest bytes head body

-- bytes spell at most one request, under one head
abbrev pub BytesSpellOneRequest : Type 0
BytesSpellOneRequest =
    (bytes : List ℕ) (head other_head : Head) (body other_body : Request)
    → SpellsRequest bytes head body → SpellsRequest bytes other_head other_body
    → (head ≡ other_head) × (body ≡ other_body)

-- a request has one spelling under a head
abbrev pub ARequestHasOneSpelling : Type 0
ARequestHasOneSpelling =
    (bytes others : List ℕ) (head : Head) (body : Request)
    → SpellsRequest bytes head body → SpellsRequest others head body → bytes ≡ others

-- bytes with no fault for a node spell the request that it reads in them
abbrev pub FaultlessRequestsAreSpelled : Type 0
FaultlessRequestsAreSpelled =
    (bytes : List ℕ)
    → IsTrue (are_bytes bytes) → request_fault bytes ≡ None → SpellsRequest bytes (head_in bytes) (request_in bytes)

-- a client that reads the bytes finds no fault, this head, this kind and this body
pub record ReadsAsReply (bytes : List ℕ) (head : Head) (kind : Kind) (body : Reply) : Type 0 where
  pub faultless : reply_fault bytes ≡ None
  pub same_head : head_in bytes ≡ head
  pub same_kind : slice_index bytes 3 ≡ 128 + kind_number kind
  pub same_body : reply_in bytes ≡ body

-- bytes that spell a reply are read as that reply
abbrev pub RepliesAreReadAgain : Type 0
RepliesAreReadAgain =
    (bytes : List ℕ) (head : Head) (kind : Kind) (body : Reply)
    → SpellsReply bytes head kind body → ReadsAsReply bytes head kind body

-- bytes spell at most one reply, of one kind and under one head
abbrev pub BytesSpellOneReply : Type 0
BytesSpellOneReply =
    (bytes : List ℕ) (head other_head : Head) (kind other_kind : Kind) (body other_body : Reply)
    → SpellsReply bytes head kind body → SpellsReply bytes other_head other_kind other_body
    → (head ≡ other_head) × (kind ≡ other_kind) × (body ≡ other_body)

-- a reply of a kind has one spelling under a head
abbrev pub AReplyHasOneSpelling : Type 0
AReplyHasOneSpelling =
    (bytes others : List ℕ) (head : Head) (kind : Kind) (body : Reply)
    → SpellsReply bytes head kind body → SpellsReply others head kind body → bytes ≡ others

-- bytes with no fault for a client spell the reply that it reads in them, of some kind
abbrev pub FaultlessRepliesAreSpelled : Type 0
FaultlessRepliesAreSpelled =
    (bytes : List ℕ)
    → IsTrue (are_bytes bytes) → reply_fault bytes ≡ None → (kind : Kind) × SpellsReply bytes (head_in bytes) kind (reply_in bytes)

-- no bytes spell both a request and a reply
abbrev pub NoRequestIsAReply : Type 0
NoRequestIsAReply =
    (bytes : List ℕ) (head other_head : Head) (kind : Kind) (request : Request) (reply : Reply)
    → SpellsRequest bytes head request → SpellsReply bytes other_head kind reply → ⊥

-- ---- frames of items
-- bytes that spell a frame have no fault, and their items are those that it carries
abbrev pub FramesAreReadAgain : Type 0
FramesAreReadAgain =
    (bytes : List ℕ) (client : ClientNo) (pid : ℕ) (items : List Item)
    → SpellsFrame bytes client pid items → (request_fault bytes ≡ None) × (items_in bytes ≡ items)

-- bytes with no fault spell a frame of the items that are read in them
abbrev pub FaultlessFramesAreSpelled : Type 0
FaultlessFramesAreSpelled =
    (bytes : List ℕ) → IsTrue (are_bytes bytes) → request_fault bytes ≡ None
    → SpellsFrame bytes (head_in bytes).client (head_in bytes).pid (items_in bytes)
