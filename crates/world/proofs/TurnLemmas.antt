-- What a poll answers is told as what it did.
use Rattle.std.proofs.Common.{◌≡◌, ℕ, ◌+◌, ◌<◌, ◌≤◌, List, [], ◌∷◌, Bool, true, false, Option, refl, sym, ap, ◌∙◌, subst, length, take, drop, arith, length-append}
use Rattle.std.specs.Prelude.{is_some, option_map, slice_get}
use Rattle.std.proofs.lemmas.List.{take-append-le, take_all}
use Rattle.cl_types.specs.Bytes.{with_bytes}
use Rattle.cl_types.specs.declared.call.Call.{Call}
use Rattle.cl_types.specs.declared.numbers.CallNo.{CallNo}
use Rattle.cl_types.specs.declared.reply.Answer.{Answer}
use Rattle.cl_types.specs.declared.reply.Part.{Part}
use Rattle.client_core.specs.Answers.{done_answer, frame_bytes, poll_answer, poll_bytes}
use Rattle.client_core.specs.declared.answers.Poll.TheVariants as poll
use Rattle.client_model.specs.Client.{ClientState, Outgoing, Polled, GivesUp, EndsFence, Sends, Idles, Finished, after_done, after_poll, handed_out, head_of}
use Rattle.frame_model.specs.Frames.{request_frame}
use Rattle.world.specs.declared.turn.ClientTurn.TheVariants as turned
use Rattle.world.specs.Saying.{IsTurned}

-- a poll leaves a client its number
pub after_client : (t : ℕ) (p : Polled) (s : ClientState) → (after_poll t p s).client ≡ s.client
after_client t (GivesUp f) s = refl
after_client t (EndsFence n) s = refl
after_client t (Sends items) s = refl
after_client t Idles s = refl

-- ---- what is left to hand out
pub left_none : (s : ClientState) (r : Option (CallNo × Answer × Call)) → r ≡ option_map done_answer (slice_get s.ended 0) → is_some r ≡ false → after_done s ≡ handed_out s
left_none s r is none = go s.ended refl (ap is_some (sym is) ∙ none) where
  go : (ended : List Finished) → s.ended ≡ ended → is_some (option_map done_answer (slice_get ended 0)) ≡ false → after_done s ≡ handed_out s
  go [] same h = λ i. record s { ended = drop 1 (same i) }
  go (f ∷ ended) same h = absurd cc

pub left_some : (s : ClientState) (r : Option (CallNo × Answer × Call)) → r ≡ option_map done_answer (slice_get s.ended 0) → is_some r ≡ true
    → length (after_done s).ended < length s.ended
left_some s r is some = go s.ended (ap is_some (sym is) ∙ some) where
  go : (ended : List Finished) → is_some (option_map done_answer (slice_get ended 0)) ≡ true → length (drop 1 ended) < length ended
  go [] h = absurd cc
  go (f ∷ ended) h = omega arith

-- ---- what is told
module _ (s : ClientState) (t : ℕ) where
  pub record Sent (p : Polled) (len : ℕ) (part : Part) (id orig : ℕ) (again : Bool) (out : List ℕ) : Type 0 where
    pub told : IsTurned s t p (turned.Sends len part id orig again) out
    pub short : len ≤ 1200

  abbrev frame_of : Outgoing → List ℕ
  frame_of o = frame_bytes (head_of s.client s.pid o) o.request

  within : (bytes old new : List ℕ) → new ≡ with_bytes 0 bytes old → length old ≡ 1200 → length new ≡ 1200 → length bytes ≤ 1200
  within bytes old new is before after =
      let whole : length new ≡ length bytes + length (drop (0 + length bytes) old) = ap length is ∙ length-append bytes (drop (0 + length bytes) old) in
      omega (arith, whole, after)

  front : (bytes old new : List ℕ) (len : ℕ) → new ≡ with_bytes 0 bytes old → len ≡ length bytes → take len new ≡ bytes
  front bytes old new len is count =
      let enough : length bytes ≤ length bytes = omega arith in
      (λ i. take (count i) (is i)) ∙ take-append-le (length bytes) bytes (drop (0 + length bytes) old) enough ∙ take_all (length bytes) bytes enough

  same_bytes : (o : Outgoing) → frame_of o ≡ request_frame (head_of s.client s.pid o) o.request
  unfolding frame_bytes
  same_bytes o = refl

  sent_one : (o : Outgoing) (len : ℕ) (part : Part) (id orig : ℕ) (again : Bool) (old new : List ℕ)
      → poll.Sent len part id orig again ≡ poll.Sent (length (frame_of o)) o.part o.id o.orig o.again → new ≡ with_bytes 0 (frame_of o) old
      → length old ≡ 1200 → length new ≡ 1200 → Sent (Sends (o ∷ [])) len part id orig again new
  sent_one o len part id orig again old new answer bytes before after =
      let count : len ≡ length (frame_of o) = cc in
      let is_part : part ≡ o.part = cc in
      let is_id : id ≡ o.id = cc in
      let is_orig : orig ≡ o.orig = cc in
      let is_again : again ≡ o.again = cc in
      record {
        told = (is_part, is_id, is_orig, is_again, front (frame_of o) old new len bytes count ∙ same_bytes o);
        short = subst (λ n. n ≤ 1200) (sym count) (within (frame_of o) old new bytes before after);
      }

  pub sent : (p : Polled) (len : ℕ) (part : Part) (id orig : ℕ) (again : Bool) (old new : List ℕ)
      → poll.Sent len part id orig again ≡ poll_answer s p → new ≡ with_bytes 0 (poll_bytes s p) old
      → length old ≡ 1200 → length new ≡ 1200 → Sent p len part id orig again new
  sent (GivesUp f) len part id orig again old new answer bytes before after = absurd cc
  sent (EndsFence n) len part id orig again old new answer bytes before after = absurd cc
  sent (Sends []) len part id orig again old new answer bytes before after = absurd cc
  sent (Sends (o ∷ [])) len part id orig again old new answer bytes before after = sent_one o len part id orig again old new answer bytes before after
  sent (Sends (o ∷ u ∷ items)) len part id orig again old new answer bytes before after = absurd cc
  sent Idles len part id orig again old new answer bytes before after = absurd cc
