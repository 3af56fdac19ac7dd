-- The text of a schedule's events, and the whole transcript.
use Rattle.std.proofs.Common.{◌≤◌, ◌≡◌, ℕ, ◌+◌, List, [], ◌∷◌, ◌++◌, Option, Some, refl, sym, ap, subst, ◌∙◌, length, append-nil, append_assoc}
use Rattle.std.specs.Prelude.{flat_map, slice_get}
use Rattle.std.proofs.lemmas.Grind.{flat_map-append}
use Rattle.cl_outside.specs.Loops.{WroteFront}
use Rattle.cl_outside.specs.Told.{Added}
use Rattle.cl_types.specs.declared.config.Config.{Config}
use Rattle.cl_types.specs.declared.line.Entry.{Entry}
use Rattle.cl_types.specs.declared.line.EventLine.{EventLine}
use Rattle.cl_types.specs.declared.schedule.Event.{Event}
use Rattle.cl_types.specs.declared.schedule.Schedule.{Schedule}
use Rattle.trace.specs.Account.{Account, Effect, Line, now, nothing_yet}
use Rattle.trace.specs.Events.{account_from, account_of_latest, effect, next_account}
use Rattle.node_model.specs.Handling.{latest}
use Rattle.texts.specs.Text.{Text}
use Rattle.trace_texts.specs.Transcripts.{account_text, line_text, transcript}
use Rattle.texts.specs.Texts.{entry_text, numbered_text}
use Rattle.trace_laws.proofs.Spelled.{rises_from_zero}
use Rattle.trace_laws.proofs.WindowKept.{one_account}
use Rattle.world.specs.Follows.{StandsFor, StandsOn, opened}
use Rattle.transcript_text.specs.Statuses.{HasGoodStatus}
use Rattle.world.specs.Running.{Running, stepped}
use Rattle.world.specs.Worlds.{Stepped, WorldState, step}
use Rattle.world.proofs.Standing.{stands_next}
use Rattle.replay_command.specs.Gathered.{Gathered, WroteAll}
use Rattle.replay_command.specs.Replay.{After, HasHappened, WroteLines, end_text, event_text, history_text, step_text, text_of_events}
use Rattle.command_text.specs.Working.{IsServed, Reached}
use Rattle.command_text.proofs.WorkLemmas.{added_none, next_event, rest_rises, events_split, stands_on, reached_next, reached_none, all_done, reached_last}
use Rattle.replay_command.proofs.GatherLemmas.{front_on, front_wider, gathered_all, gathered_on}
use Rattle.replay_command.proofs.StepLemmas.{good_step}

-- ---- accounts
module _ (keep : List Entry → List Entry) (config : Config) where
  from_append : (a : Account) (es fs : List (ℕ × Event)) → account_from keep config a (es ++ fs) ≡ account_from keep config (account_from keep config a es) fs
  from_append a [] fs = refl
  from_append a (e ∷ es) fs = from_append (next_account keep config a e) es fs

  -- events only add lines
  lines_from : (a : Account) (es : List (ℕ × Event)) → (tail : List Line) × ((account_from keep config a es).lines ≡ a.lines ++ tail)
  lines_from a [] = ([], sym (append-nil a.lines))
  lines_from a (e ∷ es) =
      let f : Effect = effect keep config a e.0 e.1 in
      let line : List Line = record { number = e.0; moment = now a e.0; event = e.1; texts = f.texts; ended = f.ended } ∷ [] in
      let rest = lines_from (next_account keep config a e) es in
      (line ++ rest.0, rest.1 ∙ append_assoc a.lines line rest.0)

-- the text of an account, the lines of its events and then those of its history
account_text_is : (a : Account) → account_text a ≡ flat_map line_text a.lines ++ history_text a.history
account_text_is a = append_assoc (flat_map line_text a.lines) (flat_map entry_text a.history) (end_text (length a.history))

-- the transcript by the account whose node keeps its latest records
pub transcript_by_latest : (s : Schedule) → IsServed s → transcript s ≡ s.header ++ account_text (account_of_latest s.config s.events)
transcript_by_latest s served =
    ap (λ (a : Account). s.header ++ account_text a) (one_account s.config s.events served.keeps (rises_from_zero s.events served.good.rising) served.good.typed)

-- the text of some events is a front of the transcript
text_begins : (s : Schedule) (done rest : List (ℕ × Event)) → IsServed s → s.events ≡ done ++ rest → (more : Text) × (transcript s ≡ text_of_events s done ++ more)
unfolding text_of_events
text_begins s done rest served split =
    let a : Account = account_of_latest s.config done in
    let b : Account = account_from (latest s.config.node.retry) s.config a rest in
    let lines = lines_from (latest s.config.node.retry) s.config a rest in
    let same : account_of_latest s.config s.events ≡ b = ap (account_of_latest s.config) split ∙ from_append (latest s.config.node.retry) s.config nothing_yet done rest in
    let texts : flat_map line_text b.lines ≡ flat_map line_text a.lines ++ flat_map line_text lines.0 = ap (flat_map line_text) lines.1 ∙ flat_map-append line_text a.lines lines.0 in (
      flat_map line_text lines.0 ++ history_text b.history,
      transcript_by_latest s served ∙ ap (λ (x : Account). s.header ++ account_text x) same
          ∙ ap (λ (t : Text). s.header ++ t) (account_text_is b)
          ∙ ap (λ (t : Text). s.header ++ (t ++ history_text b.history)) texts
          ∙ ap (λ (t : Text). s.header ++ t) (append_assoc (flat_map line_text a.lines) (flat_map line_text lines.0) (history_text b.history))
          ∙ sym (append_assoc s.header (flat_map line_text a.lines) (flat_map line_text lines.0 ++ history_text b.history)),
    )

-- the text of one event more
text_next : (s : Schedule) (done : List (ℕ × Event)) (l : ℕ) (e : Event) (w : WorldState) → StandsOn s.config done l e (step w l e)
    → text_of_events s (done ++ (l, e) ∷ []) ≡ text_of_events s done ++ event_text w l e
unfolding text_of_events event_text
text_next s done l e w on =
    let a : Account = account_of_latest s.config done in
    let f : Effect = effect (latest s.config.node.retry) s.config a l e in
    let line : Line = record { number = l; moment = now a l; event = e; texts = f.texts; ended = f.ended } in
    let same : account_of_latest s.config (done ++ (l, e) ∷ []) ≡ next_account (latest s.config.node.retry) s.config a (l, e) = from_append (latest s.config.node.retry) s.config nothing_yet done ((l, e) ∷ []) in
    let last : line_text line ≡ step_text l (step w l e) = (λ i. line_text (record { number = l; moment = now a l; event = e; texts = on.told i; ended = on.ended i })) in
    ap (λ (x : Account). s.header ++ flat_map line_text x.lines) same
    ∙ ap (λ (t : Text). s.header ++ t) (flat_map-append line_text a.lines (line ∷ []) ∙ ap (λ (t : Text). flat_map line_text a.lines ++ t) (append-nil (line_text line) ∙ last))
    ∙ sym (append_assoc s.header (flat_map line_text a.lines) (step_text l (step w l e)))

-- the line that an event told
module _ (w v : WorldState) (l : ℕ) (e : Event) (told : EventLine) (is : stepped told v ≡ step w l e) where
  pub told_good : HasGoodStatus told.did
  told_good = subst (λ (s : Stepped). HasGoodStatus s.did) (sym is) (good_step w l e)

  pub told_text : numbered_text l (told.did ∷ []) told.ended ≡ event_text w l e
  unfolding event_text
  told_text = ap (step_text l) is

  pub told_world : v ≡ (step w l e).world
  told_world = ap (λ (s : Stepped). s.world) is

-- ---- one event more
module _ (s : Schedule) (served : IsServed s) (i : ℕ) (w : Running) (reached : Reached s i w) (e : ℕ × Event) (at : slice_get s.events i ≡ Some e)
    (held : Text) (before mid : Option (List ℕ)) (gathered : Gathered (text_of_events s reached.done) held before mid) where
  pub after_next : (v : Running) (left : Text) (now : Option (List ℕ)) → HasHappened w v e.0 e.1 → Gathered (held ++ event_text w.world e.0 e.1) left mid now → After s (i + 1) v left before now
  after_next v left now h more = record {
    reached = reached_next s served i w reached e at v h.line (stands_next s.config reached.done e.0 e.1 w v reached.stands (stands_on s served i w reached e at) h.world h.summary h.line h.unspent);
    gathered = subst (λ (t : Text). Gathered t left before now) (sym (text_next s reached.done e.0 e.1 w.world (stands_on s served i w reached e at)))
        (gathered_on (text_of_events s reached.done) held (event_text w.world e.0 e.1) before mid now gathered left more);
  }

  -- where memory runs out in this event, the lines of those before it are written
  pub kept_next : (v : Running) (now : Option (List ℕ)) → v.line ≤ e.0 → WroteAll held mid now → WroteLines s v before now
  kept_next v now late (more, added) = record {
    done = reached.done;
    rest = e ∷ (next_event s served i w reached e at).0;
    split = reached.split ∙ ap (λ es. reached.done ++ es) (next_event s served i w reached e at).1;
    late = (late, (rest_rises s served i w reached e at).1);
    written = (more, gathered_all (text_of_events s reached.done) held more before mid now gathered added);
  }

  pub front_next : (now : Option (List ℕ)) → WroteFront (held ++ event_text w.world e.0 e.1) mid now → WroteFront (transcript s) before now
  front_next now front =
      let more = text_begins s (reached.done ++ e ∷ []) (next_event s served i w reached e at).0 served (events_split s served i w reached e at) in
      subst (λ (t : Text). WroteFront t before now) (sym more.1)
      (front_wider (text_of_events s (reached.done ++ e ∷ [])) more.0 before now (subst (λ (t : Text). WroteFront t before now) (sym (text_next s reached.done e.0 e.1 w.world (stands_on s served i w reached e at)))
      (front_on (text_of_events s reached.done) held (event_text w.world e.0 e.1) before mid now gathered front)))

pub after_none : (s : Schedule) (w : Running) (held : Text) (before : Option (List ℕ)) → IsServed s → w ≡ opened s.config → held ≡ s.header → After s 0 w held before before
unfolding text_of_events
after_none s w held before served first is = record {
  reached = reached_none s w served first;
  gathered = record { gone = []; split = append-nil s.header ∙ sym is; written = added_none before };
}

module _ (s : Schedule) (served : IsServed s) (w : Running) (held : Text) (before mid : Option (List ℕ)) (after : After s (length s.events) w held before mid) where
  abbrev done : List (ℕ × Event)
  done = after.reached.done

  done_is : s.events ≡ done
  done_is = after.reached.split ∙ all_done done after.reached.rest (after.reached.place ∙ ap length after.reached.split)

  pub stands_at_last : StandsFor s.config s.events w
  stands_at_last = reached_last s w after.reached

  -- the text of all events and the history are the transcript
  whole : text_of_events s done ++ history_text w.world.history ≡ transcript s
  unfolding text_of_events
  whole =
      let a : Account = account_of_latest s.config done in
      append_assoc s.header (flat_map line_text a.lines) (history_text w.world.history)
      ∙ ap (λ (h : List Entry). s.header ++ (flat_map line_text a.lines ++ history_text h)) after.reached.stands.stands.history
      ∙ ap (λ (t : Text). s.header ++ t) (sym (account_text_is a))
      ∙ ap (λ es. s.header ++ account_text (account_of_latest s.config es)) (sym done_is)
      ∙ sym (transcript_by_latest s served)

  pub all_written : (now : Option (List ℕ)) → Added (held ++ history_text w.world.history) mid now → Added (transcript s) before now
  all_written now added = subst (λ (t : Text). Added t before now) whole (gathered_all (text_of_events s done) held (history_text w.world.history) before mid now after.gathered added)

  pub front_written : (now : Option (List ℕ)) → WroteFront (held ++ history_text w.world.history) mid now → WroteFront (transcript s) before now
  front_written now front = subst (λ (t : Text). WroteFront t before now) whole (front_on (text_of_events s done) held (history_text w.world.history) before mid now after.gathered front)
