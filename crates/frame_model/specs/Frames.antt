-- The bytes of frames: the one spelling of each value, and the first fault of bytes that spell none.
use Rattle.std.specs.Prelude.{ℕ, ◌+◌, ◌-◌, ◌/◌, ◌%◌, ◌^◌, ◌<◌, ◌≤◌, ◌≡◌, ◌==◌, Bool, true, false, ◌&&◌, ◌||◌, not, leb, nat_lt, List, [], ◌∷◌, ◌++◌, length, drop, if◌then◌else◌, Option, slice_index, IsTrue}
use Rattle.std.specs.Int.{to_be_bytes, from_be_bytes, w16, w32, w64}
use Rattle.cl_types.specs.declared.call.Kind.{Kind}
use Rattle.cl_types.specs.declared.call.Kind.TheVariants as kind
use Rattle.cl_types.specs.declared.call.Perm.{Perm}
use Rattle.cl_types.specs.declared.call.Perm.TheVariants.{ReadOnly, WriteOnly, ReadWrite}
use Rattle.cl_types.specs.declared.call.AtomicOp.{AtomicOp}
use Rattle.cl_types.specs.declared.call.AtomicOp.TheVariants.{Lock, Unlock, Add, Cas}
use Rattle.cl_types.specs.declared.numbers.ClientNo.{ClientNo}
use Rattle.cl_types.specs.declared.frame.Head.{Head}
use Rattle.cl_types.specs.declared.frame.BadFrame.{BadFrame}
use Rattle.cl_types.specs.declared.frame.BadFrame.TheVariants as bad
use Rattle.cl_types.specs.declared.frame.FieldName.{FieldName}
use Rattle.cl_types.specs.declared.frame.FieldName.TheVariants as name
use Rattle.cl_types.specs.declared.request.Request.{Request}
use Rattle.cl_types.specs.declared.request.Request.TheVariants as request
use Rattle.cl_types.specs.declared.reply.Refusal.{Refusal}
use Rattle.cl_types.specs.declared.reply.Refusal.TheVariants.{NoMapping, NoPermission, NoPage, NoRange, NoOffload, ObjectFull, NoKey, BadOp}
use Rattle.cl_types.specs.declared.reply.Reply.{Reply}
use Rattle.cl_types.specs.declared.reply.Reply.TheVariants as reply
use Rattle.cl_types.specs.Bytes.{bytes_at}
use Rattle.cl_types.specs.Config.{is_within}
use Rattle.cl_types.specs.Kinds.{kind_number}
use Rattle.cl_types.specs.declared.limits.TheConstants.{ADDRESS_END, PAGE_BYTES, PART_BYTES, RANGE_PAGES, SPACE_PAGES}
use Rattle.cl_types.specs.declared.numbers.TheConstants.{LAST_PID}
use Rattle.frame_model.specs.Faults.{first_fault}
use Rattle.cl_types.specs.Ranges.{is_in_range, is_word, are_bytes}

-- ---- the numbers of kinds, permissions, refusals and operations
-- the kind of frame that carries the request
abbrev pub kind_of : Request → Kind
kind_of (request.Alloc pages perm) = kind.Alloc
kind_of (request.Free addr pages) = kind.Free
kind_of (request.Read addr len) = kind.Read
kind_of (request.Write addr bytes) = kind.Write
kind_of (request.Atomic addr op) = kind.Atomic
kind_of (request.Offload number op out bytes) = kind.Offload

-- the byte of a permission in a frame, 1 to 3
abbrev pub perm_number : Perm → ℕ
perm_number ReadOnly = 1
perm_number WriteOnly = 2
perm_number ReadWrite = 3

-- the status byte of a refusal, 1 to 8
abbrev pub status_of : Refusal → ℕ
status_of NoMapping = 1
status_of NoPermission = 2
status_of NoPage = 3
status_of NoRange = 4
status_of NoOffload = 5
status_of ObjectFull = 6
status_of NoKey = 7
status_of BadOp = 8

-- the status of a reply: 0, or its refusal's number
abbrev pub status_in : Reply → ℕ
status_in (reply.Refused refusal) = status_of refusal
status_in other = 0

-- ---- the spelling of a value
-- an atomic's operation in a body: its number, 1 to 4, and then its words
abbrev pub op_spelling : AtomicOp → List ℕ
op_spelling Lock = 1 ∷ []
op_spelling Unlock = 2 ∷ []
op_spelling (Add n) = 3 ∷ to_be_bytes w64 n
op_spelling (Cas expect put) = 4 ∷ to_be_bytes w64 expect ++ to_be_bytes w64 put

-- the body of a request's frame; its numbers are big-endian
abbrev pub request_body : Request → List ℕ
request_body (request.Alloc pages perm) = to_be_bytes w16 pages ++ perm_number perm ∷ []
request_body (request.Free addr pages) = to_be_bytes w32 addr.0 ++ to_be_bytes w16 pages
request_body (request.Read addr len) = to_be_bytes w32 addr.0 ++ to_be_bytes w16 len
request_body (request.Write addr bytes) = to_be_bytes w32 addr.0 ++ bytes
request_body (request.Atomic addr op) = to_be_bytes w32 addr.0 ++ op_spelling op
request_body (request.Offload number op out bytes) = number ∷ op ∷ to_be_bytes w16 out ++ bytes

-- the bytes behind the status in the body of a reply's frame
abbrev pub reply_value : Reply → List ℕ
reply_value (reply.Refused refusal) = []
reply_value reply.Nothing = []
reply_value (reply.At addr) = to_be_bytes w32 addr.0
reply_value (reply.Word word) = to_be_bytes w64 word
reply_value (reply.Got bytes) = bytes

-- the two bytes of the magic, the version, the kind, the head, the length of the body, and the body
abbrev pub frame_of : ℕ → Head → List ℕ → List ℕ
frame_of kind head body =
    67 ∷ 76 ∷ 1 ∷ kind ∷ to_be_bytes w16 head.client.0 ++ to_be_bytes w16 head.pid ++ to_be_bytes w64 head.id ++ to_be_bytes w64 head.orig ++ to_be_bytes w16 (length body) ++ body

-- the bytes of a request with its head
abbrev pub request_frame : Head → Request → List ℕ
request_frame head request = frame_of (kind_number (kind_of request)) head (request_body request)

-- the bytes of a reply with its head: its kind is its request's plus 128, and its status stands before its value
abbrev pub reply_frame : Head → Kind → Reply → List ℕ
reply_frame head kind reply = frame_of (128 + kind_number kind) head (status_in reply ∷ reply_value reply)

-- ---- which bytes spell which value
-- the numbers of a head are in the ranges that a frame can carry
pub record IsHead (head : Head) : Type 0 where
  pub client : head.client.0 < 2 ^ 16
  pub pid : (1 ≤ head.pid) × (head.pid ≤ LAST_PID)
  pub id : head.id < 2 ^ 64
  pub orig : (1 ≤ head.orig) × (head.orig ≤ head.id)

-- the bytes are those of this request with this head, and both are in their ranges
pub record SpellsRequest (bytes : List ℕ) (head : Head) (body : Request) : Type 0 where
  pub good_head : IsHead head
  pub good_body : IsTrue (is_in_range body)
  pub spelling : bytes ≡ request_frame head body

-- the start of a range: the first address of a page from page 1 on
abbrev pub is_range_start : ℕ → Bool
is_range_start addr = leb PAGE_BYTES addr && nat_lt addr ADDRESS_END && addr % PAGE_BYTES == 0

-- the reply is one that a frame of this kind can carry
abbrev pub is_reply_of : Kind → Reply → Bool
is_reply_of k (reply.Refused refusal) = true
is_reply_of kind.Alloc (reply.At addr) = is_range_start addr.0
is_reply_of kind.Free reply.Nothing = true
is_reply_of kind.Write reply.Nothing = true
is_reply_of kind.Read (reply.Got bytes) = leb 1 (length bytes) && leb (length bytes) PART_BYTES && are_bytes bytes
is_reply_of kind.Offload (reply.Got bytes) = leb (length bytes) PART_BYTES && are_bytes bytes
is_reply_of kind.Atomic (reply.Word word) = is_word word
is_reply_of k other = false

-- the bytes are those of this reply of this kind with this head, and both are in their ranges
pub record SpellsReply (bytes : List ℕ) (head : Head) (kind : Kind) (body : Reply) : Type 0 where
  pub good_head : IsHead head
  pub good_body : IsTrue (is_reply_of kind body)
  pub spelling : bytes ≡ reply_frame head kind body

-- ---- what a reader finds at its places
-- the number of 2 bytes, big-endian, from a place on
abbrev pub number_16 : ℕ → List ℕ → ℕ
number_16 at bytes = from_be_bytes w16 (bytes_at at 2 bytes)

-- the number of 4 bytes, big-endian, from a place on
abbrev pub number_32 : ℕ → List ℕ → ℕ
number_32 at bytes = from_be_bytes w32 (bytes_at at 4 bytes)

-- the number of 8 bytes, big-endian, from a place on
abbrev pub number_64 : ℕ → List ℕ → ℕ
number_64 at bytes = from_be_bytes w64 (bytes_at at 8 bytes)

-- how many bytes the body has, as the header tells it
abbrev pub body_len : List ℕ → ℕ
body_len bytes = number_16 24 bytes

-- the head as it stands in the bytes of a frame
abbrev pub head_in : List ℕ → Head
head_in bytes = record { client = record { 0 = number_16 4 bytes }; pid = number_16 6 bytes; id = number_64 8 bytes; orig = number_64 16 bytes }

-- ---- the checks of a reader
-- checks in their order: of each whether it fails, and with what fault
abbrev pub Checks : Type 0
Checks = List (Bool × BadFrame)

-- the check of a field, which fails where it isn't good
abbrev pub field : Bool → FieldName → Bool × BadFrame
field good f = (not good, bad.Field f)

-- the checks of any frame's header, where these are the kinds that the reader takes
abbrev pub header_checks : (ℕ → Bool) → List ℕ → Checks
header_checks is_kind bytes =
    (nat_lt (length bytes) 26, bad.Short (length bytes) 26)
    ∷ (not (slice_index bytes 0 == 67 && slice_index bytes 1 == 76), bad.Magic)
    ∷ (not (slice_index bytes 2 == 1), bad.Version (slice_index bytes 2))
    ∷ (not (is_kind (slice_index bytes 3)), bad.Kind (slice_index bytes 3))
    ∷ (nat_lt (length bytes) (26 + body_len bytes), bad.Short (length bytes) (26 + body_len bytes))
    ∷ (nat_lt (26 + body_len bytes) (length bytes), bad.Long (length bytes) (26 + body_len bytes))
    ∷ field (is_within 1 LAST_PID (number_16 6 bytes)) name.Pid
    ∷ field (leb 1 (number_64 8 bytes)) name.Id
    ∷ field (is_within 1 (number_64 8 bytes) (number_64 16 bytes)) name.Orig
    ∷ []

-- the checks of an Alloc's body of n bytes
abbrev pub alloc_checks : ℕ → List ℕ → Checks
alloc_checks n body =
    field (n == 3) name.Body
    ∷ field (is_within 1 RANGE_PAGES (number_16 0 body)) name.Pages
    ∷ field (is_within 1 3 (slice_index body 2)) name.Perm
    ∷ []

-- the checks of a Free's body of n bytes
abbrev pub free_checks : ℕ → List ℕ → Checks
free_checks n body =
    field (n == 6) name.Body
    ∷ field (nat_lt (number_32 0 body) ADDRESS_END && number_32 0 body % PAGE_BYTES == 0) name.Addr
    ∷ field (is_within 1 RANGE_PAGES (number_16 4 body) && leb (number_32 0 body / PAGE_BYTES + number_16 4 body) SPACE_PAGES) name.Pages
    ∷ []

-- the checks of a Read's body of n bytes
abbrev pub read_checks : ℕ → List ℕ → Checks
read_checks n body =
    field (n == 6) name.Body
    ∷ field (nat_lt (number_32 0 body) ADDRESS_END) name.Addr
    ∷ field (is_within 1 PART_BYTES (number_16 4 body) && leb (number_32 0 body % PAGE_BYTES + number_16 4 body) PAGE_BYTES) name.Len
    ∷ []

-- the checks of a Write's body of n bytes
abbrev pub write_checks : ℕ → List ℕ → Checks
write_checks n body =
    field (is_within 5 (4 + PART_BYTES) n) name.Body
    ∷ field (nat_lt (number_32 0 body) ADDRESS_END) name.Addr
    ∷ field (leb (number_32 0 body % PAGE_BYTES + (n - 4)) PAGE_BYTES) name.Len
    ∷ []

-- an atomic's body of n bytes may have this operation: 1 or 2 in 5 bytes, 3 in 13, and 4 in 21
abbrev pub is_op : ℕ → ℕ → Bool
is_op n op = if n == 5 then is_within 1 2 op else if n == 13 then op == 3 else op == 4

-- the checks of an atomic's body of n bytes
abbrev pub atomic_checks : ℕ → List ℕ → Checks
atomic_checks n body =
    field (n == 5 || n == 13 || n == 21) name.Body
    ∷ field (nat_lt (number_32 0 body) ADDRESS_END && number_32 0 body % 8 == 0) name.Addr
    ∷ field (is_op n (slice_index body 4)) name.Op
    ∷ []

-- the checks of an Offload's body of n bytes
abbrev pub offload_checks : ℕ → List ℕ → Checks
offload_checks n body = field (is_within 4 (4 + PART_BYTES) n) name.Body ∷ field (leb (number_16 2 body) PART_BYTES) name.Len ∷ []

-- the checks of a request's body of n bytes, by its kind's byte
abbrev pub request_checks : ℕ → ℕ → List ℕ → Checks
request_checks kind n body =
    if kind == 1 then alloc_checks n body
    else if kind == 2 then free_checks n body
    else if kind == 3 then read_checks n body
    else if kind == 4 then write_checks n body
    else if kind == 5 then atomic_checks n body
    else offload_checks n body

-- the first fault of bytes that a node reads; none where they spell a request
abbrev pub request_fault : List ℕ → Option BadFrame
request_fault bytes =
    first_fault (header_checks (is_within 1 6) bytes ++ request_checks (slice_index bytes 3) (body_len bytes) (drop 26 bytes))

-- the checks of a reply's body of n bytes with status 0, by its kind's byte
abbrev pub ok_checks : ℕ → ℕ → List ℕ → Checks
ok_checks kind n body =
    if kind == 129 then field (n == 5) name.Body ∷ field (is_range_start (number_32 1 body)) name.Addr ∷ []
    else if kind == 131 then field (is_within 2 (1 + PART_BYTES) n) name.Body ∷ []
    else if kind == 133 then field (n == 9) name.Body ∷ []
    else if kind == 134 then field (is_within 1 (1 + PART_BYTES) n) name.Body ∷ []
    else field (n == 1) name.Body ∷ []

-- the checks of a reply's body of n bytes, by its kind's byte
abbrev pub reply_checks : ℕ → ℕ → List ℕ → Checks
reply_checks kind n body =
    field (leb 1 n) name.Body
    ∷ field (leb (slice_index body 0) 8) name.Status
    ∷ (if slice_index body 0 == 0 then ok_checks kind n body else field (n == 1) name.Body ∷ [])

-- the first fault of bytes that a client reads; none where they spell a reply
abbrev pub reply_fault : List ℕ → Option BadFrame
reply_fault bytes =
    first_fault (header_checks (is_within 129 134) bytes ++ reply_checks (slice_index bytes 3) (body_len bytes) (drop 26 bytes))

-- ---- what bytes with no fault spell
-- the permission of a byte that is 1 to 3
abbrev pub perm_in : ℕ → Perm
perm_in n = if n == 1 then ReadOnly else if n == 2 then WriteOnly else ReadWrite

-- the operation in an atomic's body
abbrev pub op_in : List ℕ → AtomicOp
op_in body =
    if slice_index body 4 == 1 then Lock
    else if slice_index body 4 == 2 then Unlock
    else if slice_index body 4 == 3 then Add (number_64 5 body)
    else Cas (number_64 5 body) (number_64 13 body)

-- the request in a good body, by its kind's byte
abbrev pub request_in_body : ℕ → List ℕ → Request
request_in_body kind body =
    if kind == 1 then request.Alloc (number_16 0 body) (perm_in (slice_index body 2))
    else if kind == 2 then request.Free (record { 0 = number_32 0 body }) (number_16 4 body)
    else if kind == 3 then request.Read (record { 0 = number_32 0 body }) (number_16 4 body)
    else if kind == 4 then request.Write (record { 0 = number_32 0 body }) (drop 4 body)
    else if kind == 5 then request.Atomic (record { 0 = number_32 0 body }) (op_in body)
    else request.Offload (slice_index body 0) (slice_index body 1) (number_16 2 body) (drop 4 body)

-- the request in a frame with no fault
abbrev pub request_in : List ℕ → Request
request_in bytes = request_in_body (slice_index bytes 3) (drop 26 bytes)

-- the refusal of a status byte that is 1 to 8
abbrev pub refusal_in : ℕ → Refusal
refusal_in n =
    if n == 1 then NoMapping else if n == 2 then NoPermission else if n == 3 then NoPage else if n == 4 then NoRange
    else if n == 5 then NoOffload else if n == 6 then ObjectFull else if n == 7 then NoKey else BadOp

-- the reply in a good body, by its kind's byte
abbrev pub reply_in_body : ℕ → List ℕ → Reply
reply_in_body kind body =
    if not (slice_index body 0 == 0) then reply.Refused (refusal_in (slice_index body 0))
    else if kind == 129 then reply.At (record { 0 = number_32 1 body })
    else if kind == 131 || kind == 134 then reply.Got (drop 1 body)
    else if kind == 133 then reply.Word (number_64 1 body)
    else reply.Nothing

-- the reply in a frame with no fault
abbrev pub reply_in : List ℕ → Reply
reply_in bytes = reply_in_body (slice_index bytes 3) (drop 26 bytes)

-- ---- frames for the node carry items
-- a request with its head
pub record Item : Type 0 where
  pub head : Head
  pub request : Request

-- the bytes spell a request of that client and process, and the items are that one
pub record SpellsFrame (bytes : List ℕ) (client : ClientNo) (pid : ℕ) (items : List Item) : Type 0 where
  pub item : Item
  pub spelled : SpellsRequest bytes item.head item.request
  pub of_client : item.head.client ≡ client
  pub of_process : item.head.pid ≡ pid
  pub only : items ≡ item ∷ []

-- the items of bytes with no fault
abbrev pub items_in : List ℕ → List Item
items_in bytes = record { head = head_in bytes; request = request_in bytes } ∷ []
