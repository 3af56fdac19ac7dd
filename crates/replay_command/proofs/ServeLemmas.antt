-- How serving a replay ends.
use Rattle.std.proofs.Common.{◌≡◌, inl, inr, ℕ, ◌+◌, ◌≤◌, Bool, true, false, List, ◌∷◌, Option, Some, None, refl, sym, subst, arith, length}
use Rattle.std.specs.Prelude.{if◌then◌else◌, leb}
use Rattle.std.proofs.lemmas.Bool.Decides.{nat_tests}
use Rattle.cl_outside.specs.Counts.{NoneFailed}
use Rattle.cl_types.specs.Config.{Judged, bad_number_of, first_bad, is_within, judged_offloads}
use Rattle.cl_types.specs.Places.{is_bucket_count}
use Rattle.cl_types.specs.declared.config.Field.{Field}
use Rattle.cl_types.specs.declared.config.Field.TheVariants as field
use Rattle.cl_types.specs.declared.config.NodeConfig.{NodeConfig}
use Rattle.cl_types.specs.declared.limits.TheConstants.{INPUT_BYTES}
use Rattle.cl_types.specs.declared.open_fault.OpenFault.{OpenFault}
use Rattle.cl_types.specs.declared.schedule.Schedule.{Schedule}
use Rattle.flat_model.specs.Opening.{if_none_bad, open_fault, room_fault}
use Rattle.lemmas.proofs.SameParts.{and_left}
use Rattle.schedule_text.specs.declared.fault.ScheduleFault.TheVariants as long
use Rattle.texts.specs.Commands.{Replay}
use Rattle.texts.specs.Grammar.{schedule_of}
use Rattle.trace_texts.proofs.ReadSchedules.{schedules_are_good}
use Rattle.trace_texts.specs.Transcripts.{transcript}
use Rattle.world.specs.Running.{Running}
use Rattle.command_text.specs.Outputs.{AsksTranscript, IsReplayable, OnBadLine, OnBadNode, OnLong, OnValue, schedule_fault, too_long_output}
use Rattle.command_text.specs.Working.{IsServed, Plays}
use Rattle.command_text.specs.Streams.{IsInput, IsTooMany, Streams}
use Rattle.replay_command.specs.Wanted.{IsWantedBy, IsWantedOf, RefusesReplay}
use Rattle.command_text.specs.Serving.{Says, ServesInText}
use Rattle.command_text.specs.declared.output.Output.{Output}
use Rattle.replay_command.specs.declared.judge.Wanted.{Wanted}
use Rattle.replay_command.specs.declared.judge.Wanted.TheVariants as wanted
use Rattle.command_text.specs.declared.left.Left.{Left}
use Rattle.command_text.specs.declared.left.Left.TheVariants as left
use Rattle.command_text.specs.declared.status.Status.{Status}
use Rattle.command_text.specs.declared.status.Status.TheVariants as status
use Rattle.command_text.proofs.OutputLemmas.{refused_answers, status_is}
use Rattle.command_text.proofs.SuitedLemmas.{schedules_suited}
use Rattle.command_text.proofs.ServeLemmas.{worked_of, says_ends, IsRefusal, says_keeps, refusal_final, plays_serve, long_of}

-- ---- what is replayed
-- a node that opens keeps at least one reply
opens_keeping : (c : NodeConfig) → open_fault c ≡ None → 1 ≤ c.retry
opens_keeping c opens =
    let retry : Judged = (field.Retry, c.retry, is_within 1 65536 c.retry) in
    let ring : Judged = (field.Ring, c.ring, is_within 1 1024 c.ring) in
    let buckets : Judged = (field.Buckets, c.buckets, is_bucket_count c.buckets) in
    let pages : Judged = (field.Pages, c.pages, is_within 1 65536 c.pages) in
    let rest : List Judged = (field.Offloads, length c.offloads, is_within 0 16 (length c.offloads)) ∷ judged_offloads c.offloads in
    let first = all_good pages (buckets ∷ ring ∷ retry ∷ rest) (none_bad (bad_number_of c) (room_fault c) opens) in
    let second = all_good buckets (ring ∷ retry ∷ rest) first.1 in
    let third = all_good ring (retry ∷ rest) second.1 in
    low c.retry (and_left (leb 1 c.retry) (leb c.retry 65536) (all_good retry rest third.1).0)
  where
    none_bad : (bad : Option (Field × ℕ)) (fault : Option OpenFault) → if_none_bad bad fault ≡ None → bad ≡ None
    none_bad None fault none = refl
    none_bad (Some bad) fault none = grind arith

    all_good : (number : Judged) (numbers : List Judged) → first_bad (number ∷ numbers) ≡ None → (number.2 ≡ true) × (first_bad numbers ≡ None)
    all_good number numbers none = go number.2 none where
      go : (b : Bool) → ◌≡◌ {A = Option (Field × ℕ)} (if b then first_bad numbers else Some (number.0, number.1)) None → (b ≡ true) × (first_bad numbers ≡ None)
      go true none = (refl, none)
      go false none = grind arith

    low : (n : ℕ) → leb 1 n ≡ true → 1 ≤ n
    low n h = grind (arith, nat_tests)

pub served_of : (bytes : List ℕ) (s : Schedule) → IsReplayable bytes s → IsServed s
served_of bytes s good = record {
  good = schedules_are_good bytes s good.encoded;
  suited = schedules_suited bytes s good.short good.encoded;
  keeps = opens_keeping s.config.node good.opens;
}

-- ---- a replay
-- a refusal of these bytes
replay_refusal : (bytes : List ℕ) (output : Output) → RefusesReplay bytes output → IsRefusal output.status
replay_refusal bytes output (OnLong long is) = subst IsRefusal (sym (status_is is)) tt
replay_refusal bytes output (OnBadLine refused is) = subst IsRefusal (sym (status_is is)) tt
replay_refusal bytes output (OnBadNode bad is) = subst IsRefusal (sym (status_is is)) tt
replay_refusal bytes output (OnValue value encoded asked) = absurd asked

pub refused_serves : (before after : Streams) (kept : Left) (output : Output) → IsWantedOf before.left after.left (wanted.Refused output)
    → NoneFailed before.read_faults after.read_faults → kept ≡ left.Nothing
    → (st : Status) → Says output before.written after.written before.write_faults after.write_faults st → ServesInText (Some Replay) before after kept st
refused_serves before after kept output (bytes, gave, refuses) reads nothing st says =
    let refusal = replay_refusal bytes output refuses in
    record {
      ends = says_ends (Some Replay) before after reads output (bytes, gave, refused_answers Schedule schedule_of schedule_fault AsksTranscript bytes output refuses) (refusal_final output.status refusal) st says;
      keeps = says_keeps (Some Replay) before after kept output refusal nothing st says;
    }

pub opened_serves : (before after : Streams) (kept : Left) (s : Schedule) (w : Running) → IsWantedOf before.left after.left (wanted.Opened s w)
    → NoneFailed before.read_faults after.read_faults
    → (st : Status) → Plays s (transcript s) before.written after.written before.write_faults after.write_faults kept st → ServesInText (Some Replay) before after kept st
opened_serves before after kept s w (bytes, input, replayable, opened) reads =
    plays_serve (Some Replay) before after s kept (record { text = transcript s; status = status.Ok }) (bytes, inl input, OnValue s replayable refl) refl reads
    (λ added v is stands. record {
      bytes = bytes;
      input = input;
      schedule = s;
      replayable = replayable;
      printed = added;
      worked = worked_of s (served_of bytes s replayable) kept v is stands;
    })

-- ---- what was taken off the source
module _ (before after : Option (List ℕ)) where
  pub whole_wanted : (bytes seen : List ℕ) (w : Wanted) → IsInput bytes before after → seen ≡ bytes → IsWantedBy seen w → IsWantedOf before after w
  whole_wanted bytes seen (wanted.Refused output) input same refuses = (bytes, inl input, subst (λ bytes. RefusesReplay bytes output) same refuses)
  whole_wanted bytes seen (wanted.Opened s world) input same (replayable, opens) = (bytes, input, subst (λ bytes. IsReplayable bytes s) same replayable, opens)

  pub many_wanted : (bytes : List ℕ) (output : Output) → IsTooMany bytes before after → output ≡ too_long_output (long.TooLong true (INPUT_BYTES + 1)) → IsWantedOf before after (wanted.Refused output)
  many_wanted bytes output many is = (bytes, inr many, OnLong (long.TooLong true (INPUT_BYTES + 1), long_of before after bytes many) is)
