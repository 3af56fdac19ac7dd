-- What C is told of a poll, and of a call that ended.
use Rattle.std.specs.Prelude.{◌≡◌, ℕ, Bool, true, false, List, max, Option, Some, None}
use Rattle.cl_types.specs.Bytes.{over, with_bytes}
use Rattle.cl_types.specs.declared.reply.Answer.{Answer}
use Rattle.cl_types.specs.declared.reply.Answer.TheVariants as answer
use Rattle.cl_types.specs.declared.reply.Value.TheVariants as value
use Rattle.client_core.specs.Answers.{poll_answer, poll_bytes}
use Rattle.client_core.specs.declared.answers.Poll.{Poll}
use Rattle.client_core.specs.declared.answers.Poll.TheVariants as poll
use Rattle.client_model.specs.Client.{ClientState, Finished, counted, poll as poll_of}
use Rattle.frame_model.specs.Frames.{status_of}
use Rattle.clio_c.specs.declared.turns.Ended.{Ended}
use Rattle.clio_c.specs.declared.turns.Polled.{Polled}

-- ---- a poll
-- what C is told of what a poll did
abbrev pub polled_as : Poll → Polled
polled_as poll.Idle = record { what = 0; len = 0 }
polled_as (poll.Sent len part id orig again) = record { what = 1; len = len }
polled_as (poll.GaveUp part) = record { what = 2; len = 0 }
polled_as (poll.Ended fence) = record { what = 3; len = 0 }

-- the moment of a poll: the one that C gives, or the client's latest one where that is later
abbrev pub moment_of : ClientState → ℕ → ℕ
moment_of client now = max now client.last

-- C is told what the client's poll at the moment did, and the frame lies at the start of the buffer
pub record Polls (client : ClientState) (now : ℕ) (before after : List ℕ) (told : Polled) : Type 0 where
  pub is_told : told ≡ polled_as (poll_answer client (poll_of client (moment_of client now)))
  pub bytes : after ≡ with_bytes 0 (poll_bytes client (poll_of client (moment_of client now))) before

-- there was no room for a frame, and nothing was done
pub record HadNoRoom (before after : List ℕ) (told : Polled) : Type 0 where
  pub is_told : told ≡ record { what = 4; len = 0 }
  pub bytes : after ≡ before

-- ---- a call that ended
-- what C is told of the answer of the call of this number
abbrev pub ended_as : ℕ → Answer → Ended
ended_as number (answer.Done value.Nothing) = record { call = number; what = 0; value = 0; len = 0 }
ended_as number (answer.Done (value.At addr)) = record { call = number; what = 0; value = addr.0; len = 0 }
ended_as number (answer.Done (value.Word word)) = record { call = number; what = 0; value = word; len = 0 }
ended_as number (answer.Done (value.Len len)) = record { call = number; what = 0; value = len; len = len }
ended_as number (answer.Refused refusal) = record { call = number; what = 1; value = status_of refusal; len = 0 }
ended_as number (answer.TimedOut first now) = record { call = number; what = 2; value = first; len = 0 }

-- the first call that ended, where one did, is told, and the bytes that came lie at the start of the buffer as far as they fit
abbrev pub HandsOut : Option Finished → Bool → (before after : List ℕ) → (told told' : Ended) → Type 0
HandsOut None there before after told told' = (there ≡ false) × (after ≡ before) × (told' ≡ told)
HandsOut (Some f) there before after told told' =
    (there ≡ true) × (after ≡ over before (counted f.answer f.call)) × (told' ≡ ended_as f.number f.answer)
