-- What is kept of a reply.
use Rattle.std.proofs.Common.{◌≡◌, ℕ, zero, suc, ◌+◌, ◌≤◌, ◌<◌, ◌%◌, ◌==◌, true, false, List, [], ◌∷◌, length, drop, take, Option, Some, None, Ok, Err, refl, sym, ap, ◌∙◌, subst, arith, slice_get, drop-cons, length-drop, ◌-◌}
use Rattle.std.specs.Prelude.{IsTrue, slice_index}
use Rattle.std.proofs.Math.Seq.{take-length}
use Rattle.std.proofs.lemmas.List.{get_or-take}
use Rattle.std.proofs.lemmas.Bool.Decides.{nat_tests}
use Rattle.cl_types.specs.declared.call.Kind.{Kind}
use Rattle.cl_types.specs.declared.call.Kind.TheVariants as kind
use Rattle.cl_types.specs.declared.frame.Head.{Head}
use Rattle.cl_types.specs.declared.reply.Reply.{Reply}
use Rattle.cl_types.specs.declared.reply.Reply.TheVariants as reply
use Rattle.cl_types.specs.declared.request.Request.{Request}
use Rattle.cl_types.specs.declared.request.Request.TheVariants as request
use Rattle.cl_types.specs.declared.small_reply.SmallReply.{SmallReply}
use Rattle.cl_types.specs.Requests.{is_changing}
use Rattle.frame_model.specs.FrameLaws.{ReadsAsReply}
use Rattle.cl_types.specs.Kinds.{kind_number}
use Rattle.frame_model.specs.Frames.{Item, IsHead, SpellsReply, is_reply_of, kind_of, reply_frame, reply_in_body, reply_value, status_in}
use Rattle.node_model.specs.Handling.{item_outcome}
use Rattle.flat_model.specs.Objects.{Object, KvObject, Pairs, Given, kv_step, object_step}
use Rattle.flat_model.specs.State.{FlatState}
use Rattle.flat_model.specs.Step.{given, on_object, outcome}
use Rattle.frame_model.proofs.FrameLemmas.{length-frame}
use Rattle.frame_model.proofs.ReplyFrameLemmas.{replies_are_read_again}
use Rattle.flat_model.proofs.RunLemmas.{reading_keeps}
use Rattle.frame_codec.specs.Writing.{IsWritten}
use Rattle.node_core.specs.declared.placed.PlacedReply.{PlacedReply}
use Rattle.node_core.specs.declared.placed.PlacedReply.TheVariants as placed
use Rattle.node_core.specs.Placed.{may_place, placed_in}
use Rattle.node_core.specs.Fields.{IsSpelled, reply_kept, small_body}

-- ---- the frame that was written
-- the status and the value stand behind the header
pub small_of_frame : (status : ℕ) (value frame : List ℕ) → 26 < length frame → status ≡ slice_index frame 26 → value ≡ take (length frame - 27) (drop 27 frame)
    → status ∷ value ≡ drop 26 frame
small_of_frame status value frame long is_status is_value =
    let whole : take (length frame - 27) (drop 27 frame) ≡ drop 27 frame = ap (λ n. take n (drop 27 frame)) (sym (length-drop 27 frame)) ∙ take-length (drop 27 frame) in
    (λ i. is_status i ∷ (is_value ∙ whole) i) ∙ sym (drop-cons frame 26 0 long)

-- the status stands behind the header
pub status_written : (head : Head) (k : Kind) (r : Reply) (n : ℕ) (old new : List ℕ) → IsWritten (reply_frame head k r) n old new → slice_index new 26 ≡ status_in r
status_written head k r n old new written =
    let long : 26 < n = omega (arith, written.len, length-frame (128 + kind_number k) head (status_in r ∷ reply_value r)) in
    sym (get_or-take n new 26 0 long) ∙ ap (λ frame. slice_index frame 26) written.spelling

-- what is kept of a frame stands for its reply
pub kept_of_frame : (head : Head) (k : Kind) (r : Reply) (small : SmallReply) → IsHead head → IsTrue (is_reply_of k r)
    → small_body small ≡ drop 26 (reply_frame head k r) → reply_kept k small ≡ r
kept_of_frame head k r small good_head good is =
    let spelled : SpellsReply (reply_frame head k r) head k r = record { good_head = good_head; good_body = good; spelling = refl } in
    let read : ReadsAsReply (reply_frame head k r) head k r = replies_are_read_again (reply_frame head k r) head k r spelled in
    ap (reply_in_body (128 + kind_number k)) is ∙ read.same_body

-- and is the spelling of it
pub spelled_of_frame : (head : Head) (k : Kind) (r : Reply) (small : SmallReply) → IsHead head → IsTrue (is_reply_of k r)
    → small_body small ≡ drop 26 (reply_frame head k r) → IsSpelled k small
spelled_of_frame head k r small good_head good is =
    let body : List ℕ = drop 26 (reply_frame head k r) in
    is ∙ ap (λ (one : Reply). status_in one ∷ reply_value one) (sym (kept_of_frame head k r small good_head good is))

-- ---- replies to changing requests
-- an odd operation of a store answers no bytes
odd_pairs : (records : ℕ) (pairs : Pairs) (op : ℕ) (bytes answer : List ℕ) (new : Object)
    → op % 2 == 1 ≡ true → kv_step records pairs op bytes ≡ Ok (answer, new) → answer ≡ []
odd_pairs records pairs op bytes answer new odd is = grind (arith, nat_tests)

odd_answer : (object new : Object) (op : ℕ) (bytes answer : List ℕ)
    → op % 2 == 1 ≡ true → object_step object op bytes ≡ Ok (answer, new) → answer ≡ []
odd_answer (KvObject records pairs) new op bytes answer odd is = odd_pairs records pairs op bytes answer new odd is

take_none : (n : ℕ) → take {A = ℕ} n [] ≡ []
take_none zero = refl
take_none (suc n) = refl

given_short : (s : FlatState) (number out : ℕ) (bytes : List ℕ) (g : Given) → reply.Got bytes ≡ (given s number out g).reply
    → ((answer : List ℕ) (new : Object) → g ≡ Ok (answer, new) → answer ≡ []) → bytes ≡ []
given_short s number out bytes (Err refusal) is short = absurd cc
given_short s number out bytes (Ok (answer, new)) is short =
    let got : bytes ≡ take out answer = cc in
    let empty : answer ≡ [] = short answer new refl in
    got ∙ ap (take out) empty ∙ take_none out

-- what an odd operation got is nothing
pub odd_got : (s : FlatState) (number op out : ℕ) (bytes answer : List ℕ) (found : Option Object) → op % 2 == 1 ≡ true
    → reply.Got answer ≡ (on_object s number op out bytes found).reply → answer ≡ []
odd_got s number op out bytes answer None odd is = absurd cc
odd_got s number op out bytes answer (Some object) odd is =
    given_short s number out answer (object_step object op bytes) is (λ a new it. odd_answer object new op bytes a odd it)

-- a changing request's reply is one of its frame, and has at most 16 bytes
pub record IsSmall (k : Kind) (r : Reply) : Type 0 where
  pub carried : IsTrue (is_reply_of k r)
  pub short : length (reply_value r) ≤ 16

pub changing_is_small : (s : FlatState) (pid : ℕ) (r : Request) (p : PlacedReply) (out : List ℕ) → is_changing r ≡ true
    → IsTrue (may_place (kind_of r) p) → placed_in p out ≡ (outcome s pid r).reply → IsSmall (kind_of r) (placed_in p out)
changing_is_small s pid r (placed.Refused refusal) out changing fits is = record { carried = refl; short = omega arith }
changing_is_small s pid r placed.Nothing out changing fits is = record { carried = fits; short = omega arith }
changing_is_small s pid r (placed.At addr) out changing fits is = record { carried = fits; short = omega arith }
changing_is_small s pid r (placed.Word word) out changing fits is = record { carried = fits; short = omega arith }
changing_is_small s pid (request.Alloc n perm) (placed.Got m) out changing fits is = absurd cc
changing_is_small s pid (request.Free addr n) (placed.Got m) out changing fits is = absurd cc
changing_is_small s pid (request.Read addr n) (placed.Got m) out changing fits is = absurd cc
changing_is_small s pid (request.Write addr bytes) (placed.Got m) out changing fits is = absurd cc
changing_is_small s pid (request.Atomic addr op) (placed.Got m) out changing fits is = absurd cc
changing_is_small s pid (request.Offload number op most bytes) (placed.Got m) out changing fits is =
    let empty = odd_got s number op most bytes _ (slice_get s.objects number) changing is in
    subst (λ (got : List ℕ). IsSmall kind.Offload (reply.Got got)) (sym empty) (record { carried = refl; short = omega arith })

-- what is kept of an item's reply stands for it, and is its spelling
pub record IsKeptOf (s : FlatState) (item : Item) (kind : Kind) (small : SmallReply) : Type 0 where
  pub stands : reply_kept kind small ≡ (item_outcome s item).reply
  pub spelled : IsSpelled kind small

pub kept_of_executed : (s : FlatState) (item : Item) (kind : Kind) (p : PlacedReply) (out new : List ℕ) (len : ℕ) (small : SmallReply)
    → IsHead item.head → kind ≡ kind_of item.request → is_changing item.request ≡ true → IsTrue (may_place (kind_of item.request) p)
    → placed_in p out ≡ (item_outcome s item).reply → IsWritten (reply_frame item.head kind (placed_in p out)) len out new
    → small_body small ≡ drop 26 (take len new) → IsKeptOf s item kind small
kept_of_executed s item kind p out new len small good same changes fits is written body =
    let tiny : IsSmall kind (placed_in p out) =
    subst (λ k. IsSmall k (placed_in p out)) (sym same) (changing_is_small s item.head.pid item.request p out changes fits is) in
    let whole : small_body small ≡ drop 26 (reply_frame item.head kind (placed_in p out)) = body ∙ ap (drop 26) written.spelling in
    record {
      stands = kept_of_frame item.head kind (placed_in p out) small good tiny.carried whole ∙ is;
      spelled = spelled_of_frame item.head kind (placed_in p out) small good tiny.carried whole;
    }

-- its frame is short
pub executed_short : (s : FlatState) (item : Item) (kind : Kind) (p : PlacedReply) (out new : List ℕ) (len : ℕ)
    → is_changing item.request ≡ true → IsTrue (may_place (kind_of item.request) p)
    → placed_in p out ≡ (item_outcome s item).reply → IsWritten (reply_frame item.head kind (placed_in p out)) len out new → len ≤ 43
executed_short s item kind p out new len changes fits is written =
    let tiny : IsSmall (kind_of item.request) (placed_in p out) = changing_is_small s item.head.pid item.request p out changes fits is in
    let frame : ℕ = length (reply_frame item.head kind (placed_in p out)) in
    let long : frame ≡ 26 + length (status_in (placed_in p out) ∷ reply_value (placed_in p out)) =
    length-frame (128 + kind_number kind) item.head (status_in (placed_in p out) ∷ reply_value (placed_in p out)) in
    omega (arith, written.len, tiny.short, long)

-- ---- what is looked up
-- a request that changes nothing leaves the state
pub looked_keeps : (s : FlatState) (pid : ℕ) (r : Request) → is_changing r ≡ false → (outcome s pid r).state ≡ s
looked_keeps s pid (request.Alloc n perm) reading = absurd cc
looked_keeps s pid (request.Free addr n) reading = absurd cc
looked_keeps s pid (request.Read addr n) reading = reading_keeps s pid (request.Read addr n) reply.Nothing reading
looked_keeps s pid (request.Write addr bytes) reading = absurd cc
looked_keeps s pid (request.Atomic addr op) reading = absurd cc
looked_keeps s pid (request.Offload number op out bytes) reading = reading_keeps s pid (request.Offload number op out bytes) reply.Nothing reading
