-- From the parts that a writer has written to the whole frame.
use Rattle.std.proofs.Common.{◌≡◌, ℕ, ◌+◌, ◌-◌, ◌≤◌, List, ◌∷◌, ◌++◌, length, take, drop, refl, sym, ap, ◌∙◌, arith, append_assoc, length-append, length-take, length-drop}
use Rattle.std.specs.Prelude.{IsTrue, slice_set}
use Rattle.std.proofs.lemmas.Bool.Decides.{nat_tests}
use Rattle.std.proofs.lemmas.List.{take_at, drop_at, drop-set, drop-drop, take-append-drop}
use Rattle.cl_types.specs.Bytes.{bytes_at, with_bytes}
use Rattle.cl_types.specs.declared.call.Kind.{Kind}
use Rattle.cl_types.specs.declared.call.Kind.TheVariants as kind
use Rattle.cl_types.specs.declared.frame.Head.{Head}
use Rattle.frame_model.specs.Frames.{SpellsRequest, SpellsReply, frame_of}
use Rattle.frame_model.proofs.FrameLemmas.{length-frame}
use Rattle.frame_model.proofs.RequestFrameLemmas.{requests_are_read_again}
use Rattle.frame_model.proofs.ReplyFrameLemmas.{replies_are_read_again}
use Rattle.frame_codec.specs.Laws.{WrittenRequestsAreReadAgain, WrittenRepliesAreReadAgain}
use Rattle.frame_codec.specs.Parts.{header_of}
use Rattle.frame_codec.specs.Writing.{IsWritten, may_carry}
use Rattle.frame_codec.proofs.PlaceLemmas.{behind_header, put_mid-with_bytes}
use borrow.Rule.Slice.PartMut.{put_mid}

-- the header of a frame, its body, and behind them what stood there
is_written : (number : ℕ) (head : Head) (n : ℕ) (body old now : List ℕ) → n ≡ length body
    → now ≡ header_of number head n ++ (body ++ drop (26 + n) old) → IsWritten (frame_of number head body) (26 + n) old now
is_written number head n body old now long is =
    let frame : List ℕ = frame_of number head body in
    let len : 26 + n ≡ length frame = rw long (sym (length-frame number head body)) in
    let whole : now ≡ frame ++ drop (26 + n) old =
    is
    ∙ ap (λ m. header_of number head m ++ (body ++ drop (26 + n) old)) long
    ∙ sym (append_assoc (header_of number head (length body)) body (drop (26 + n) old)) in
    record {
      len = len;
      spelling = rw whole (take_at frame (drop (26 + n) old) (26 + n) (sym len));
      rest = rw whole (drop_at frame (drop (26 + n) old) (26 + n) (sym len));
    }

-- ---- a body at its place, and then the header in front of it
-- from their place on stand the bytes that were written, and behind them what stood there
drop-with_bytes : (at : ℕ) (bytes old : List ℕ) → at ≤ length old
    → drop at (with_bytes at bytes old) ≡ bytes ++ drop (at + length bytes) old
drop-with_bytes at bytes old within =
    ap (drop at) (append_assoc (take at old) bytes (drop (at + length bytes) old))
    ∙ drop_at (take at old) (bytes ++ drop (at + length bytes) old) at (simp length-take (omega arith))

-- what was written at its place is no longer than that
fits : (n : ℕ) (body old part : List ℕ) → n ≡ length body → 26 ≤ length old
    → length part ≡ length (behind_header old) → part ≡ body ++ drop n (behind_header old) → 26 + n ≤ length old
fits n body old part long room kept is =
    let split : length part ≡ length body + length (drop n (behind_header old)) = rw is (length-append body (drop n (behind_header old))) in
    omega (arith, length-take (length old - 26) (drop 26 old), length-drop 26 old)

pub frame_written : (number : ℕ) (head : Head) (n : ℕ) (body old part now : List ℕ) → n ≡ length body → 26 ≤ length old
    → length part ≡ length (behind_header old) → part ≡ body ++ drop n (behind_header old)
    → now ≡ header_of number head n ++ drop 26 (put_mid 26 (length old - 26) old part)
    → IsWritten (frame_of number head body) (26 + n) old now
frame_written number head n body old part now long room kept part_is now_is =
    let within : 26 + n ≤ length old = fits n body old part long room kept part_is in
    let at_place = put_mid-with_bytes 26 body old part (omega arith) (rw long at part_is) in
    let behind : drop 26 (put_mid 26 (length old - 26) old part) ≡ body ++ drop (26 + n) old =
    rw (at_place, long) (drop-with_bytes 26 body old (omega arith)) in
    is_written number head n body old now long (rw (now_is, behind) refl)

-- ---- a status of 0 in front of bytes, and then the header in front of it
behind_status : (number : ℕ) (head : Head) (n : ℕ) (old now : List ℕ) → 27 ≤ length old
    → now ≡ header_of number head n ++ drop 26 (slice_set old 26 0) → now ≡ header_of number head n ++ (0 ∷ drop 27 old)
behind_status number head n old now room is =
    is ∙ ap (λ rest. header_of number head n ++ rest) (drop-set old 26 0 (omega arith))

pub got_kept : (number : ℕ) (head : Head) (n : ℕ) (old now : List ℕ) → 27 ≤ length old
    → now ≡ header_of number head n ++ drop 26 (slice_set old 26 0) → drop 27 now ≡ drop 27 old
got_kept number head n old now room is = ap (drop 27) (behind_status number head n old now room is)

pub got_written : (number : ℕ) (head : Head) (n : ℕ) (old now : List ℕ) → 27 + n ≤ length old
    → now ≡ header_of number head (1 + n) ++ drop 26 (slice_set old 26 0)
    → IsWritten (frame_of number head (0 ∷ bytes_at 27 n old)) (26 + (1 + n)) old now
got_written number head n old now room is =
    let got : List ℕ = bytes_at 27 n old in
    let long : 1 + n ≡ length (0 ∷ got) = omega (arith, length-take n (drop 27 old), length-drop 27 old) in
    let split : drop 27 old ≡ got ++ drop (27 + n) old =
    sym (take-append-drop n (drop 27 old)) ∙ ap (λ rest. got ++ rest) (drop-drop n 27 old) in
    let same : 27 + n ≡ 26 + (1 + n) = omega arith in
    let whole : now ≡ header_of number head (1 + n) ++ (0 ∷ got ++ drop (26 + (1 + n)) old) =
    behind_status number head (1 + n) old now (omega arith) is
    ∙ ap (λ rest. header_of number head (1 + n) ++ (0 ∷ rest)) (split ∙ ap (λ at. got ++ drop at old) same) in
    is_written number head (1 + n) (0 ∷ got) old now long whole

-- no reply carries more than 1,024 bytes
pub carried_len : (k : Kind) (n : ℕ) → IsTrue (may_carry k n) → n ≤ 1024
carried_len kind.Read n good = grind (arith, nat_tests)
carried_len kind.Offload n good = grind (arith, nat_tests)
carried_len kind.Alloc n good = absurd (cc)
carried_len kind.Free n good = absurd (cc)
carried_len kind.Write n good = absurd (cc)
carried_len kind.Atomic n good = absurd (cc)

-- ---- what was written is read again
pub written_requests_are_read_again : WrittenRequestsAreReadAgain
written_requests_are_read_again head body n old new good_head good_body written =
    let spelled : SpellsRequest (take n new) head body = record { good_head = good_head; good_body = good_body; spelling = written.spelling } in
    requests_are_read_again (take n new) head body spelled

pub written_replies_are_read_again : WrittenRepliesAreReadAgain
written_replies_are_read_again head kind body n old new good_head good_body written =
    let spelled : SpellsReply (take n new) head kind body = record { good_head = good_head; good_body = good_body; spelling = written.spelling } in
    replies_are_read_again (take n new) head kind body spelled
