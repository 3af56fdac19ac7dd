-- What was spelled as a reply is read again.
use Rattle.std.proofs.Common.{◌≡◌, ℕ, ◌+◌, ◌<◌, ◌^◌, not, List, ◌∷◌, length, None, refl, sym, ap, ◌∙◌, subst, arith}
use Rattle.std.specs.Prelude.{IsTrue}
use Rattle.std.specs.Int.{to_be_bytes, w32}
use Rattle.std.proofs.lemmas.Bool.Decides.{nat_tests}
use Rattle.std.proofs.lemmas.Nat.{from_be_bytes-to_be_bytes_4}
use Rattle.cl_types.specs.declared.frame.Head.{Head}
use Rattle.cl_types.specs.declared.call.Kind.{Kind}
use Rattle.cl_types.specs.declared.call.Kind.TheVariants as kind
use Rattle.cl_types.specs.declared.numbers.Addr.{Addr}
use Rattle.cl_types.specs.declared.reply.Refusal.{Refusal}
use Rattle.cl_types.specs.declared.reply.Refusal.TheVariants.{NoMapping, NoPermission, NoPage, NoRange, NoOffload, ObjectFull, NoKey, BadOp}
use Rattle.cl_types.specs.declared.reply.Reply.{Reply}
use Rattle.cl_types.specs.declared.reply.Reply.TheVariants as reply
use Rattle.cl_types.specs.Config.{is_within}
use Rattle.cl_types.specs.Kinds.{kind_number}
use Rattle.frame_model.specs.Frames.{IsHead, reply_fault, reply_in_body, reply_value, status_in, reply_frame, reply_checks, number_32, is_reply_of, is_range_start}
use Rattle.frame_model.specs.FrameLaws.{ReadsAsReply, RepliesAreReadAgain, BytesSpellOneReply}
use Rattle.frame_model.proofs.FrameLemmas.{AllPassed, first_fault-frame, head_again, word_again, one_kind}

-- the bytes of a reply: its status, and then its value
abbrev reply_body : Reply → List ℕ
reply_body reply = status_in reply ∷ reply_value reply

-- ---- a body
start_again : (addr : Addr) → IsTrue (is_range_start addr.0) → number_32 0 (to_be_bytes w32 addr.0) ≡ addr.0
start_again addr good = from_be_bytes-to_be_bytes_4 addr.0 (grind (arith, nat_tests))

refusal_again : (k : Kind) (refusal : Refusal) → reply_in_body (128 + kind_number k) (reply_body (reply.Refused refusal)) ≡ reply.Refused refusal
refusal_again k NoMapping = refl
refusal_again k NoPermission = refl
refusal_again k NoPage = refl
refusal_again k NoRange = refl
refusal_again k NoOffload = refl
refusal_again k ObjectFull = refl
refusal_again k NoKey = refl
refusal_again k BadOp = refl

refusal_passed : (k : Kind) (refusal : Refusal) → AllPassed (reply_checks (128 + kind_number k) 1 (reply_body (reply.Refused refusal)))
refusal_passed k NoMapping = search
refusal_passed k NoPermission = search
refusal_passed k NoPage = search
refusal_passed k NoRange = search
refusal_passed k NoOffload = search
refusal_passed k ObjectFull = search
refusal_passed k NoKey = search
refusal_passed k BadOp = search

-- its reader finds the reply
reply_again : (k : Kind) (body : Reply) → IsTrue (is_reply_of k body) → reply_in_body (128 + kind_number k) (reply_body body) ≡ body
reply_again k (reply.Refused refusal) good = refusal_again k refusal
reply_again kind.Alloc (reply.At addr) good = rw (start_again addr good) refl
reply_again kind.Free reply.Nothing good = refl
reply_again kind.Write reply.Nothing good = refl
reply_again kind.Read (reply.Got bytes) good = refl
reply_again kind.Offload (reply.Got bytes) good = refl
reply_again kind.Atomic (reply.Word word) good = ap reply.Word (word_again word good)
reply_again k other good = absurd (cc)

-- and its checks pass
reply_passed : (k : Kind) (body : Reply) → IsTrue (is_reply_of k body) → AllPassed (reply_checks (128 + kind_number k) (length (reply_body body)) (reply_body body))
reply_passed k (reply.Refused refusal) good = refusal_passed k refusal
reply_passed kind.Alloc (reply.At addr) good = rw (start_again addr good) (refl, (refl, (refl, (ap not good, tt))))
reply_passed kind.Free reply.Nothing good = search
reply_passed kind.Write reply.Nothing good = search
reply_passed kind.Read (reply.Got bytes) good = (grind (arith, nat_tests), (refl, (grind (arith, nat_tests), tt)))
reply_passed kind.Offload (reply.Got bytes) good = (grind (arith, nat_tests), (refl, (grind (arith, nat_tests), tt)))
reply_passed kind.Atomic (reply.Word word) good = search
reply_passed k other good = absurd (cc)

-- a reply's body is short
reply_fits : (k : Kind) (body : Reply) → IsTrue (is_reply_of k body) → length (reply_body body) < 2 ^ 16
reply_fits k (reply.Refused refusal) good = omega arith
reply_fits k reply.Nothing good = omega arith
reply_fits k (reply.At addr) good = omega arith
reply_fits k (reply.Word word) good = omega arith
reply_fits kind.Read (reply.Got bytes) good = grind (arith, nat_tests)
reply_fits kind.Offload (reply.Got bytes) good = grind (arith, nat_tests)
reply_fits k other good = absurd (cc)

-- its kind is one of a reply
is_reply_kind : (k : Kind) → IsTrue (is_within 129 134 (128 + kind_number k))
is_reply_kind kind.Alloc = refl
is_reply_kind kind.Free = refl
is_reply_kind kind.Read = refl
is_reply_kind kind.Write = refl
is_reply_kind kind.Atomic = refl
is_reply_kind kind.Offload = refl

-- ---- a frame
reply_faultless : (head : Head) (k : Kind) (body : Reply) → IsHead head → IsTrue (is_reply_of k body) → reply_fault (reply_frame head k body) ≡ None
reply_faultless head k body good_head good =
    let number : ℕ = 128 + kind_number k in
    first_fault-frame (is_within 129 134) (reply_checks number) number head (reply_body body)
    good_head (is_reply_kind k) (reply_fits k body good) (reply_passed k body good)

frame_reads : (head : Head) (k : Kind) (body : Reply) → IsHead head → IsTrue (is_reply_of k body) → ReadsAsReply (reply_frame head k body) head k body
frame_reads head k body good_head good = record {
  faultless = reply_faultless head k body good_head good;
  same_head = head_again (128 + kind_number k) head (reply_body body) good_head;
  same_kind = refl;
  same_body = reply_again k body good;
}

pub replies_are_read_again : RepliesAreReadAgain
replies_are_read_again bytes head k body spelled =
    subst (λ read. ReadsAsReply read head k body) (sym spelled.spelling) (frame_reads head k body spelled.good_head spelled.good_body)

pub bytes_spell_one_reply : BytesSpellOneReply
bytes_spell_one_reply bytes head other_head k other_kind body other_body spelled other =
    let read = replies_are_read_again bytes head k body spelled in
    let again = replies_are_read_again bytes other_head other_kind other_body other in (
      sym read.same_head ∙ again.same_head,
      one_kind k other_kind (omega (arith, read.same_kind, again.same_kind)),
      sym read.same_body ∙ again.same_body,
    )
