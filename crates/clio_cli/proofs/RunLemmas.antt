-- From how the program ends to when each status comes.
use Rattle.std.proofs.Common.{◌≡◌, ◌⊎◌, inl, inr, ℕ, true, false, List, length, Option, Some, None, refl, sym, ap, subst, ◌∙◌, arith}
use Rattle.std.specs.Prelude.{◌==◌, IfSome, IsTrue, if◌then◌else◌}
use Rattle.cl_outside.specs.Counts.{LastFailed, NoneFailed}
use Rattle.cl_outside.specs.declared.faults.Faults.{Faults}
use Rattle.cl_types.specs.declared.config.NodeConfig.{NodeConfig}
use Rattle.cl_types.specs.declared.numbers.ClientNo.{ClientNo}
use Rattle.cl_types.specs.declared.open_fault.OpenFault.{OpenFault}
use Rattle.cl_types.specs.declared.schedule.Schedule.{Schedule}
use Rattle.client_command.specs.Ends.{ClientEnds, task_of}
use Rattle.client_command.specs.declared.ends.ClientEnd.{ClientEnd}
use Rattle.client_command.specs.declared.ends.ClientEnd.TheVariants as client_end
use Rattle.flat_model.specs.Opening.{open_fault}
use Rattle.history_check.proofs.VerdictLemmas.{verdict_is_fixed}
use Rattle.history_check.specs.Verdicts.{IsVerdict}
use Rattle.history_check.specs.declared.history.Verdict.{Verdict}
use Rattle.history_check.specs.declared.history.Verdict.TheVariants as verdict
use Rattle.node_command.specs.Ends.{NodeEnds, NodeNumbers}
use Rattle.node_command.specs.declared.node_end.NodeEnd.{NodeEnd}
use Rattle.node_command.specs.declared.node_end.NodeEnd.TheVariants as node_end
use Rattle.node_core.specs.Keeping.{KeptNode}
use Rattle.schedule_text.specs.Reading.{too_long_of}
use Rattle.texts.specs.Commands.{Command, Replay, Check, Storm, Serve, Drive}
use Rattle.texts.specs.Grammar.{schedule_of, script_of}
use Rattle.transcript_text.specs.HistoryGrammar.{history_of}
use Rattle.command_text.specs.Outputs.{AnswersCheck, AnswersReplay, AsksTranscript, AsksVerdict, Calls, HasBadEntry, HasBadNode, History, IsCheckable, IsRefused, IsScript, RefusesScript, bad_words, history_fault, no_fault, schedule_fault, storm_output, verdict_output}
use Rattle.command_text.specs.TextEnds.{Asks, EndsInText}
use Rattle.clio_cli.specs.Run.{CompleteOf, Ends, EndsIn, Exactly, ExactlyClosed, FaultsEndTheRun, HasBadInput, HasClosedNode, HasLongInput, HasNoRun, HasStalled, InText, IsCutShort, LetsNetworkBe, Network, NoFault, OnNode, OnScript, Outside, TookScript, Writes, client_status, node_status, wired_of}
use Rattle.command_text.specs.Streams.{Streams}
use Rattle.command_text.specs.Status.{number_of}
use Rattle.command_text.specs.declared.output.Output.{Output}
use Rattle.command_text.specs.declared.status.Status.{Status}
use Rattle.command_text.specs.declared.status.Status.TheVariants as status
use Rattle.clio_cli.proofs.EndLemmas.{OfClient, OfNode, client_no_wire, client_no_write, client_wire, client_write, node_no_wire, node_no_write, node_wire, node_write, of_client, of_node, refused_node, served_opens}
use Rattle.command_text.proofs.OutputLemmas.{IsAnswer, IsFinal, answers_words, closed_status, differs, gave_answers, is_asked, is_closed, is_long, is_refused, long_status, none_some, ok_err, refused_status, status_is, value_asked, transcript_answer, history_answer}
use Rattle.command_text.proofs.TextEndLemmas.{Wrote, ends_wrote, calm_end, no_read_failed, no_write_failed, read_failed, write_failed}

-- ---- numbers of statuses
abbrev status_at : ℕ → Status
status_at n =
    if n == 0 then status.Ok
    else if n == 1 then status.BadWords
    else if n == 2 then status.BadInput
    else if n == 3 then status.ReadFault
    else if n == 4 then status.WriteFault
    else if n == 5 then status.NoMemory
    else if n == 6 then status.WireFault
    else if n == 7 then status.NotRun
    else if n == 8 then status.TooLong
    else if n == 9 then status.Stalled
    else status.BadNode

round : (st : Status) → status_at (number_of st) ≡ st
round status.Ok = refl
round status.BadWords = refl
round status.BadInput = refl
round status.ReadFault = refl
round status.WriteFault = refl
round status.NoMemory = refl
round status.WireFault = refl
round status.NotRun = refl
round status.Stalled = refl
round status.TooLong = refl
round status.BadNode = refl

pub one_status : (st other : Status) → number_of st ≡ number_of other → st ≡ other
one_status st other same = sym (round st) ∙ ap status_at same ∙ round other

-- ---- how the program ends
cut_short : (before after : Outside) (st : Status) (number : ℕ)
    → NoneFailed before.network.faults after.network.faults ⊎ (LastFailed before.network.faults after.network.faults × ((st ≡ status.WriteFault) ⊎ (st ≡ status.NoMemory)))
    → ((other : Status) → st ≡ other → number ≡ number_of other)
    → NoneFailed before.network.faults after.network.faults ⊎ (LastFailed before.network.faults after.network.faults × IsCutShort number)
cut_short before after st number (inl none) is = inl none
cut_short before after st number (inr (last, inl same)) is = inr (last, inl (is status.WriteFault same))
cut_short before after st number (inr (last, inr same)) is = inr (last, inr (is status.NoMemory same))

module _ (command : Option Command) (before after : Outside) where
  -- the first failure ends the run
  pub faults_end : (number : ℕ) (st : Status) → number ≡ number_of st → Ends command before after st → FaultsEndTheRun before after number
  faults_end number st is (InText network end) = record {
    read = λ same. read_failed command before.streams after.streams st (one_status st status.ReadFault (sym is ∙ same)) end;
    write = λ same. write_failed command before.streams after.streams st (one_status st status.WriteFault (sym is ∙ same)) end;
    wire = λ same. absurd (subst (EndsInText command before.streams after.streams) (one_status st status.WireFault (sym is ∙ same)) end);
    no_read = λ other. no_read_failed command before.streams after.streams st (λ same. other (is ∙ ap number_of same)) end;
    no_write = λ other. no_write_failed command before.streams after.streams st (λ same. other (is ∙ ap number_of same)) end;
    no_wire = λ other. inl (ap (λ (n : Network). n.faults.count) network);
  }
  faults_end number st is (OnNode n asked unread how st_is ends) = record {
    read = λ same. absurd (subst OfNode (sym st_is ∙ one_status st status.ReadFault (sym is ∙ same)) (of_node how));
    write = λ same. node_write n (wired_of before) (wired_of after) how (sym st_is ∙ one_status st status.WriteFault (sym is ∙ same)) ends;
    wire = λ same. node_wire n (wired_of before) (wired_of after) how (sym st_is ∙ one_status st status.WireFault (sym is ∙ same)) ends;
    no_read = λ other. ap (λ (f : Faults). f.count) unread.faults;
    no_write = λ other. node_no_write n (wired_of before) (wired_of after) how (λ same. other (is ∙ ap number_of (st_is ∙ same))) ends;
    no_wire = λ other. cut_short before after (node_status how) number (node_no_wire n (wired_of before) (wired_of after) how (λ same. other (is ∙ ap number_of (st_is ∙ same))) ends) (λ st same. is ∙ ap number_of (st_is ∙ same));
  }
  faults_end number st is (OnScript port client pid asked calls took how st_is ends) = record {
    read = λ same. absurd (subst OfClient (sym st_is ∙ one_status st status.ReadFault (sym is ∙ same)) (of_client how));
    write = λ same. client_write (task_of port client pid calls) (wired_of before) (wired_of after) how (sym st_is ∙ one_status st status.WriteFault (sym is ∙ same)) ends;
    wire = λ same. client_wire (task_of port client pid calls) (wired_of before) (wired_of after) how (sym st_is ∙ one_status st status.WireFault (sym is ∙ same)) ends;
    no_read = λ other. took.faults;
    no_write = λ other. client_no_write (task_of port client pid calls) (wired_of before) (wired_of after) how (λ same. other (is ∙ ap number_of (st_is ∙ same))) ends;
    no_wire = λ other. cut_short before after (client_status how) number (client_no_wire (task_of port client pid calls) (wired_of before) (wired_of after) how (λ same. other (is ∙ ap number_of (st_is ∙ same))) ends) (λ st same. is ∙ ap number_of (st_is ∙ same));
  }

bad_entry_of : (bytes : List ℕ) (h : History) → IsCheckable bytes h → (v : Verdict) → IsVerdict h.0.node h.1 v → (verdict_output (length h.1) v).status ≡ status.NotRun → HasBadEntry bytes
bad_entry_of bytes h checkable verdict.Run is st = absurd (differs _ _ st (λ same. omega (arith, same)))
bad_entry_of bytes h checkable (verdict.NotRun entry) is st = record { history = h; checkable = checkable; entry = entry; fault = is }

no_input : {P : Type 0} → IsTrue false → P
no_input holds = absurd (let never : false ≡ true = holds in grind arith)

-- a script that is refused asks for nothing
abbrev Nothing : Calls → Output → Type 0
Nothing calls output = ⊥

no_answer : (calls : Calls) (output : Output) → Nothing calls output → IsAnswer output.status
no_answer calls output asked = absurd asked

-- ---- what is asked, of a source that tells
module _ (output : Output) (after : Option (List ℕ)) where
  pub replay_told : (bytes : List ℕ) → Asks (Some Replay) (Some bytes) after output → AnswersReplay bytes output
  replay_told bytes (given, gave, answers) = gave_answers Schedule schedule_of schedule_fault AsksTranscript given bytes output after gave answers

  pub check_told : (bytes : List ℕ) → Asks (Some Check) (Some bytes) after output → AnswersCheck bytes output
  check_told bytes (given, gave, answers) = gave_answers History history_of history_fault AsksVerdict given bytes output after gave answers

  pub drive_told : (port : ℕ) (client : ClientNo) (pid : ℕ) (bytes : List ℕ) → Asks (Some (Drive port client pid)) (Some bytes) after output → RefusesScript bytes output
  drive_told port client pid bytes (given, gave, answers) = gave_answers Calls script_of no_fault Nothing given bytes output after gave answers

  -- ---- bad words
  pub words_only : (command : Option Command) (before : Option (List ℕ)) → Asks command before after output → output.status ≡ status.BadWords → command ≡ None
  words_only (Some Replay) before (given, gave, answers) st = absurd (answers_words Schedule schedule_of schedule_fault AsksTranscript given output (λ s. transcript_answer s output) answers st)
  words_only (Some Check) before (given, gave, answers) st = absurd (answers_words History history_of history_fault AsksVerdict given output (λ h. history_answer h output) answers st)
  words_only (Some (Storm seed calls)) before asks st = absurd (differs _ _ (sym (status_is asks.1) ∙ st) (λ same. omega (arith, same)))
  words_only (Some (Serve port config frames idles)) before asks st = absurd asks
  words_only (Some (Drive port client pid)) before (given, gave, answers) st = absurd (answers_words Calls script_of no_fault Nothing given output (λ calls. no_answer calls output) answers st)
  words_only None before asks st = refl

  pub words_always : (command : Option Command) (before : Option (List ℕ)) → Asks command before after output → command ≡ None → output.status ≡ status.BadWords
  words_always (Some command) before asks never = absurd (none_some (Some command) command never refl)
  words_always None before asks never = status_is asks.1

  -- ---- the other statuses that say why, by what they say of the bytes
  module _ (bytes : List ℕ) where
    storm_not : {P : Type 0} (st : Status) (seed calls : ℕ) → output ≡ storm_output seed calls → output.status ≡ st → (number_of status.Ok ≡ number_of st → ⊥) → P
    storm_not st seed calls same is never = absurd (differs status.Ok st (sym (status_is same) ∙ is) never)

    words_not : {P : Type 0} (st : Status) → output ≡ bad_words → output.status ≡ st → (number_of status.BadWords ≡ number_of st → ⊥) → P
    words_not st same is never = absurd (differs status.BadWords st (sym (status_is same) ∙ is) never)

    pub long_only : (command : Option Command) → Asks command (Some bytes) after output → output.status ≡ status.TooLong → HasLongInput command bytes
    long_only (Some Replay) asks st = (refl, is_long Schedule schedule_of schedule_fault AsksTranscript bytes output (λ s. transcript_answer s output) (replay_told bytes asks) st)
    long_only (Some Check) asks st = (refl, is_long History history_of history_fault AsksVerdict bytes output (λ h. history_answer h output) (check_told bytes asks) st)
    long_only (Some (Storm seed calls)) asks st = storm_not status.TooLong seed calls asks.1 st (λ same. omega (arith, same))
    long_only (Some (Serve port config frames idles)) asks st = absurd asks
    long_only (Some (Drive port client pid)) asks st = (refl, is_long Calls script_of no_fault Nothing bytes output (λ calls. no_answer calls output) (drive_told port client pid bytes asks) st)
    long_only None asks st = words_not status.TooLong asks.1 st (λ same. omega (arith, same))

    pub long_always : (command : Option Command) → Asks command (Some bytes) after output → HasLongInput command bytes → output.status ≡ status.TooLong
    long_always (Some Replay) asks cause = long_status Schedule schedule_of schedule_fault AsksTranscript bytes output (replay_told bytes asks) cause.1
    long_always (Some Check) asks cause = long_status History history_of history_fault AsksVerdict bytes output (check_told bytes asks) cause.1
    long_always (Some (Storm seed calls)) asks cause = no_input cause.0
    long_always (Some (Serve port config frames idles)) asks cause = no_input cause.0
    long_always (Some (Drive port client pid)) asks cause = long_status Calls script_of no_fault Nothing bytes output (drive_told port client pid bytes asks) cause.1
    long_always None asks cause = no_input cause.0

    pub refused_only : (command : Option Command) → Asks command (Some bytes) after output → output.status ≡ status.BadInput → HasBadInput command bytes
    refused_only (Some Replay) asks st = is_refused Schedule schedule_of schedule_fault AsksTranscript bytes output (λ s. transcript_answer s output) (replay_told bytes asks) st
    refused_only (Some Check) asks st = is_refused History history_of history_fault AsksVerdict bytes output (λ h. history_answer h output) (check_told bytes asks) st
    refused_only (Some (Storm seed calls)) asks st = storm_not status.BadInput seed calls asks.1 st (λ same. omega (arith, same))
    refused_only (Some (Serve port config frames idles)) asks st = absurd asks
    refused_only (Some (Drive port client pid)) asks st = is_refused Calls script_of no_fault Nothing bytes output (λ calls. no_answer calls output) (drive_told port client pid bytes asks) st
    refused_only None asks st = words_not status.BadInput asks.1 st (λ same. omega (arith, same))

    pub refused_always : (command : Option Command) → Asks command (Some bytes) after output → HasBadInput command bytes → output.status ≡ status.BadInput
    refused_always (Some Replay) asks cause = refused_status Schedule schedule_of schedule_fault AsksTranscript bytes output (replay_told bytes asks) cause
    refused_always (Some Check) asks cause = refused_status History history_of history_fault AsksVerdict bytes output (check_told bytes asks) cause
    refused_always (Some (Storm seed calls)) asks cause = absurd cause
    refused_always (Some (Serve port config frames idles)) asks cause = absurd cause
    refused_always (Some (Drive port client pid)) asks cause = refused_status Calls script_of no_fault Nothing bytes output (drive_told port client pid bytes asks) cause
    refused_always None asks cause = absurd cause

    -- a script has no node
    script_opens : {P : Type 0} → HasBadNode Calls script_of no_fault bytes → P
    script_opens bad = absurd (none_some (no_fault bad.value) bad.fault refl bad.closed)

    pub closed_only : (command : Option Command) → Asks command (Some bytes) after output → output.status ≡ status.BadNode → HasClosedNode command bytes
    closed_only (Some Replay) asks st = is_closed Schedule schedule_of schedule_fault AsksTranscript bytes output (λ s. transcript_answer s output) (replay_told bytes asks) st
    closed_only (Some Check) asks st = is_closed History history_of history_fault AsksVerdict bytes output (λ h. history_answer h output) (check_told bytes asks) st
    closed_only (Some (Storm seed calls)) asks st = storm_not status.BadNode seed calls asks.1 st (λ same. omega (arith, same))
    closed_only (Some (Serve port config frames idles)) asks st = absurd asks
    closed_only (Some (Drive port client pid)) asks st = script_opens (is_closed Calls script_of no_fault Nothing bytes output (λ calls. no_answer calls output) (drive_told port client pid bytes asks) st)
    closed_only None asks st = words_not status.BadNode asks.1 st (λ same. omega (arith, same))

    pub closed_always : (command : Option Command) → Asks command (Some bytes) after output → HasClosedNode command bytes → output.status ≡ status.BadNode
    closed_always (Some Replay) asks cause = closed_status Schedule schedule_of schedule_fault AsksTranscript bytes output (replay_told bytes asks) cause
    closed_always (Some Check) asks cause = closed_status History history_of history_fault AsksVerdict bytes output (check_told bytes asks) cause
    closed_always (Some (Storm seed calls)) asks cause = absurd cause
    closed_always (Some (Serve port config frames idles)) asks cause = absurd cause
    closed_always (Some (Drive port client pid)) asks cause = absurd cause
    closed_always None asks cause = absurd cause

    pub no_run_only : (command : Option Command) → Asks command (Some bytes) after output → output.status ≡ status.NotRun → HasNoRun command bytes
    no_run_only (Some Replay) asks st =
        let asked = is_asked Schedule schedule_of schedule_fault AsksTranscript bytes output (λ s. transcript_answer s output) status.NotRun tt (replay_told bytes asks) st in
        absurd (differs status.Ok status.NotRun (sym (status_is asked.2) ∙ st) (λ same. omega (arith, same)))
    no_run_only (Some Check) asks st =
        let asked = is_asked History history_of history_fault AsksVerdict bytes output (λ h. history_answer h output) status.NotRun tt (check_told bytes asks) st in
        bad_entry_of bytes asked.0 asked.1 asked.2.0 asked.2.1 (sym (status_is asked.2.2) ∙ st)
    no_run_only (Some (Storm seed calls)) asks st = storm_not status.NotRun seed calls asks.1 st (λ same. omega (arith, same))
    no_run_only (Some (Serve port config frames idles)) asks st = absurd asks
    no_run_only (Some (Drive port client pid)) asks st =
        absurd (is_asked Calls script_of no_fault Nothing bytes output (λ calls. no_answer calls output) status.NotRun tt (drive_told port client pid bytes asks) st).2
    no_run_only None asks st = words_not status.NotRun asks.1 st (λ same. omega (arith, same))

    pub no_run_always : (command : Option Command) → Asks command (Some bytes) after output → HasNoRun command bytes → output.status ≡ status.NotRun
    no_run_always (Some Check) asks cause =
        let asked = value_asked History history_of history_fault AsksVerdict bytes output (check_told bytes asks) cause.history cause.checkable in
        status_is (asked.2 ∙ ap (verdict_output (length cause.history.1)) (verdict_is_fixed cause.history.0.node cause.history.1 asked.0 (verdict.NotRun cause.entry) asked.1 cause.fault))
    no_run_always (Some Replay) asks cause = absurd cause
    no_run_always (Some (Storm seed calls)) asks cause = absurd cause
    no_run_always (Some (Serve port config frames idles)) asks cause = absurd cause
    no_run_always (Some (Drive port client pid)) asks cause = absurd cause
    no_run_always None asks cause = absurd cause

-- ---- when each status comes
-- the command serves no node
abbrev NotServing : Option Command → Type 0
NotServing (Some (Serve port config frames idles)) = ⊥
NotServing other = Unit {0}

-- the command drives no client either
abbrev IsTextual : Option Command → Type 0
IsTextual (Some (Serve port config frames idles)) = ⊥
IsTextual (Some (Drive port client pid)) = ⊥
IsTextual other = Unit {0}

-- the command serves a node
abbrev IsServing : Option Command → Type 0
IsServing (Some (Serve port config frames idles)) = Unit {0}
IsServing other = ⊥

-- a command with no wire lets it be
lets_be : (command : Option Command) (before after : Outside) → after.network ≡ before.network → LetsNetworkBe command before after
lets_be (Some Replay) before after network = network
lets_be (Some Check) before after network = network
lets_be (Some (Storm seed calls)) before after network = network
lets_be (Some (Serve port config frames idles)) before after network = tt
lets_be (Some (Drive port client pid)) before after network = tt
lets_be None before after network = network

is_stall : (how : ClientEnd) → client_status how ≡ status.Stalled → how ≡ client_end.Stalled
is_stall client_end.Stalled is = refl
is_stall (client_end.Driven client) is = absurd (differs status.Ok status.Stalled is (λ same. omega (arith, same)))
is_stall client_end.WireFault is = absurd (differs status.WireFault status.Stalled is (λ same. omega (arith, same)))
is_stall client_end.WriteFault is = absurd (differs status.WriteFault status.Stalled is (λ same. omega (arith, same)))
is_stall client_end.NoMemory is = absurd (differs status.NoMemory status.Stalled is (λ same. omega (arith, same)))

if_some : {A : Type 0} {P : A → Type 0} (o : Option A) → ((x : A) → o ≡ Some x → P x) → IfSome o P
if_some None holds = tt
if_some (Some x) holds = holds x refl

-- the bytes that a script was read from are those that the source told
told_script : (bytes : List ℕ) (calls : Calls) (before after : Streams) → before.left ≡ Some bytes → TookScript calls before after → IsScript bytes calls
told_script bytes calls before after tells took = subst (λ given. IsScript given calls) (by before.left tells took.input.whole) took.script where
  by : (left : Option (List ℕ)) → left ≡ Some bytes → IfSome left (λ left. took.bytes ≡ left) → took.bytes ≡ bytes
  by None tells whole = absurd (none_some None bytes refl tells)
  by (Some left) tells whole = whole ∙ (let same : ◌≡◌ {A = Option (List ℕ)} (Some left) (Some bytes) = tells in cc)

module _ (command : Option Command) (before after : Outside) (number : ℕ) where
  -- the program ended with the status of this number
  abbrev Ended : Type 0
  Ended = (st : Status) × (number ≡ number_of st) × Ends command before after st

  module _ (st : Status) (final : IsFinal st) (Cause : Type 0)
      (only : (output : Output) → Asks command before.streams.left after.streams.left output → output.status ≡ st → Cause)
      (always : (output : Output) → Asks command before.streams.left after.streams.left output → Cause → output.status ≡ st)
      (no_node : (n : NodeNumbers) → command ≡ Some (Serve n.port n.config n.frames n.idles) → (OfNode st → ⊥) × (Cause → ⊥))
      (no_client : (port : ℕ) (client : ClientNo) (pid : ℕ) (calls : Calls) → command ≡ Some (Drive port client pid) → TookScript calls before.streams after.streams → (OfClient st → ⊥) × (Cause → ⊥)) where
    exactly : Ended → Exactly before after number st Cause
    exactly (end_status, is, InText network end) = record {
      only = λ same.
          let w = ends_wrote command before.streams after.streams st final (subst (EndsInText command before.streams after.streams) (one_status end_status st (sym is ∙ same)) end) in
          only w.output w.asks w.status;
      always = λ cause calm. by cause (calm_end command before.streams after.streams end_status calm.read calm.write end);
    } where
      by : Cause → Wrote command before.streams after.streams end_status ⊎ (end_status ≡ status.NoMemory) → (number ≡ number_of st) ⊎ (number ≡ 5)
      by cause (inl w) = inl (is ∙ ap number_of (sym w.status ∙ always w.output w.asks cause))
      by cause (inr none) = inr (is ∙ ap number_of none)
    exactly (end_status, is, OnNode n asked unread how st_is ends) = record {
      only = λ same. absurd ((no_node n asked).0 (subst OfNode (sym st_is ∙ one_status end_status st (sym is ∙ same)) (of_node how)));
      always = λ cause calm. absurd ((no_node n asked).1 cause);
    }
    exactly (end_status, is, OnScript port client pid asked calls took how st_is ends) = record {
      only = λ same. absurd ((no_client port client pid calls asked took).0 (subst OfClient (sym st_is ∙ one_status end_status st (sym is ∙ same)) (of_client how)));
      always = λ cause calm. absurd ((no_client port client pid calls asked took).1 cause);
    }

  pub bad_words_exactly : Ended → Exactly before after number status.BadWords (command ≡ None)
  bad_words_exactly =
      exactly status.BadWords tt (command ≡ None) (λ output. words_only output after.streams.left command before.streams.left) (λ output. words_always output after.streams.left command before.streams.left)
      (λ n asked. (λ never. never, λ none. none_some command _ none asked)) (λ port client pid calls asked took. (λ never. never, λ none. none_some command _ none asked))

  module _ (bytes : List ℕ) (tells : before.streams.left ≡ Some bytes) where
    asks_told : (output : Output) → Asks command before.streams.left after.streams.left output → Asks command (Some bytes) after.streams.left output
    asks_told output asks = subst (λ left. Asks command left after.streams.left output) tells asks

    input_exactly : Ended → Exactly before after number status.BadInput (HasBadInput command bytes)
    input_exactly =
        exactly status.BadInput tt (HasBadInput command bytes) (λ output asks. refused_only output after.streams.left bytes command (asks_told output asks))
        (λ output asks. refused_always output after.streams.left bytes command (asks_told output asks))
        (λ n asked. (λ never. never, λ cause. subst (λ c. HasBadInput c bytes) asked cause))
        (λ port client pid calls asked took. (
          λ never. never,
          λ cause.
              let refused : IsRefused Calls script_of bytes = subst (λ c. HasBadInput c bytes) asked cause in
              ok_err (script_of bytes) calls refused.fault (told_script bytes calls before.streams after.streams tells took).encoded refused.line,
        ))

    long_exactly : Ended → Exactly before after number status.TooLong (HasLongInput command bytes)
    long_exactly =
        exactly status.TooLong tt (HasLongInput command bytes) (λ output asks. long_only output after.streams.left bytes command (asks_told output asks))
        (λ output asks. long_always output after.streams.left bytes command (asks_told output asks))
        (λ n asked. (λ never. never, λ cause. let long : HasLongInput (Some (Serve n.port n.config n.frames n.idles)) bytes = subst (λ c. HasLongInput c bytes) asked cause in no_input long.0))
        (λ port client pid calls asked took. (λ never. never, λ cause. none_some (too_long_of bytes) cause.1.0 (told_script bytes calls before.streams after.streams tells took).short cause.1.1))

    run_exactly : Ended → Exactly before after number status.NotRun (HasNoRun command bytes)
    run_exactly =
        exactly status.NotRun tt (HasNoRun command bytes) (λ output asks. no_run_only output after.streams.left bytes command (asks_told output asks))
        (λ output asks. no_run_always output after.streams.left bytes command (asks_told output asks))
        (λ n asked. (λ never. never, λ cause. subst (λ c. HasNoRun c bytes) asked cause)) (λ port client pid calls asked took. (λ never. never, λ cause. subst (λ c. HasNoRun c bytes) asked cause))

    closed_exactly : (not_serving : (n : NodeNumbers) → command ≡ Some (Serve n.port n.config n.frames n.idles) → ⊥) → Ended → Exactly before after number status.BadNode (HasClosedNode command bytes)
    closed_exactly not_serving =
        exactly status.BadNode tt (HasClosedNode command bytes) (λ output asks. closed_only output after.streams.left bytes command (asks_told output asks))
        (λ output asks. closed_always output after.streams.left bytes command (asks_told output asks))
        (λ n asked. absurd (not_serving n asked)) (λ port client pid calls asked took. (λ never. never, λ cause. subst (λ c. HasClosedNode c bytes) asked cause))

    closed_exactly_of : NotServing command → Ended → Exactly before after number status.BadNode (HasClosedNode command bytes)
    closed_exactly_of other = closed_exactly (λ n asked. subst NotServing asked other)

  pub bad_input_exactly : Ended → IfSome before.streams.left (λ bytes. Exactly before after number status.BadInput (HasBadInput command bytes))
  bad_input_exactly end = if_some before.streams.left (λ bytes tells. input_exactly bytes tells end)

  pub too_long_exactly : Ended → IfSome before.streams.left (λ bytes. Exactly before after number status.TooLong (HasLongInput command bytes))
  too_long_exactly end = if_some before.streams.left (λ bytes tells. long_exactly bytes tells end)

  pub not_run_exactly : Ended → IfSome before.streams.left (λ bytes. Exactly before after number status.NotRun (HasNoRun command bytes))
  not_run_exactly end = if_some before.streams.left (λ bytes tells. run_exactly bytes tells end)

  -- only a client ends with a stall
  pub stalled_only : Ended → number ≡ number_of status.Stalled → HasStalled command before after
  stalled_only (st, is, InText network end) same = absurd (subst (EndsInText command before.streams after.streams) (one_status st status.Stalled (sym is ∙ same)) end)
  stalled_only (st, is, OnNode n asked unread how st_is ends) same = absurd (subst OfNode (sym st_is ∙ one_status st status.Stalled (sym is ∙ same)) (of_node how))
  stalled_only (st, is, OnScript port client pid asked calls took how st_is ends) same =
      subst (λ c. HasStalled c before after) (sym asked)
      (calls, took, subst (ClientEnds (task_of port client pid calls) (wired_of before) (wired_of after)) (is_stall how (sym st_is ∙ one_status st status.Stalled (sym is ∙ same))) ends)

  -- wire and clock are let be
  pub network_is : Ended → LetsNetworkBe command before after
  network_is (st, is, InText network end) = lets_be command before after network
  network_is (st, is, OnNode n asked unread how st_is ends) = subst (λ c. LetsNetworkBe c before after) (sym asked) tt
  network_is (st, is, OnScript port client pid asked calls took how st_is ends) = subst (λ c. LetsNetworkBe c before after) (sym asked) tt

  -- without a fault an output was written, by a command that serves no node and drives no client
  writes : IsTextual command → Ended → (Wanted : Output → Type 0) → ((output : Output) → Asks command before.streams.left after.streams.left output → Wanted output)
      → EndsIn before after number (Writes before after Wanted)
  writes textual (st, is, InText network end) Wanted asked calm = by (calm_end command before.streams after.streams st calm.read calm.write end) where
    by : Wrote command before.streams after.streams st ⊎ (st ≡ status.NoMemory) → Writes before after Wanted number ⊎ (number ≡ number_of status.NoMemory)
    by (inl w) = inl (w.output, asked w.output w.asks, is ∙ ap number_of (sym w.status), w.added)
    by (inr none) = inr (is ∙ ap number_of none)
  writes textual (st, is, OnNode n asks unread how st_is ends) Wanted asked calm = absurd (subst IsTextual asks textual)
  writes textual (st, is, OnScript port client pid asks calls took how st_is ends) Wanted asked calm = absurd (subst IsTextual asks textual)

-- ---- a node that is served
-- the node of a command that serves one
abbrev config_or : NodeConfig → Option Command → NodeConfig
config_or other (Some (Serve port config frames idles)) = config
config_or other command = other

module _ (port : ℕ) (config : NodeConfig) (frames idles : ℕ) (before after : Outside) (number : ℕ) where
  abbrev serving : Option Command
  serving = Some (Serve port config frames idles)

  module _ (st : Status) (is : number ≡ number_of st) (end : EndsInText serving before.streams after.streams st) where
    -- it asks for no output
    no_output : (final : Status) → IsFinal final → (number ≡ number_of final → ⊥)
    no_output final is_final same = (ends_wrote serving before.streams after.streams final is_final (subst (EndsInText serving before.streams after.streams) (one_status st final (sym is ∙ same)) end)).asks

    only_memory : NoFault before after → number ≡ number_of status.NoMemory
    only_memory calm = by (calm_end serving before.streams after.streams st calm.read calm.write end) where
      by : Wrote serving before.streams after.streams st ⊎ (st ≡ status.NoMemory) → number ≡ number_of status.NoMemory
      by (inl w) = absurd w.asks
      by (inr none) = is ∙ ap number_of none

  module _ (n : NodeNumbers) (asked : serving ≡ Some (Serve n.port n.config n.frames n.idles)) where
    same_config : config ≡ n.config
    same_config = ap (config_or config) asked

    refused_config : NodeEnds n (wired_of before) (wired_of after) node_end.BadNode → (fault : OpenFault) × (open_fault config ≡ Some fault)
    refused_config ends = subst (λ c. (fault : OpenFault) × (open_fault c ≡ Some fault)) (sym same_config) (refused_node n (wired_of before) (wired_of after) ends)

    opened_config : (node : KeptNode) → NodeEnds n (wired_of before) (wired_of after) (node_end.Served node) → open_fault config ≡ None
    opened_config node ends = subst (λ c. open_fault c ≡ None) (sym same_config) (served_opens n (wired_of before) (wired_of after) node ends)

    closes : (fault : OpenFault) → open_fault config ≡ Some fault → NoFault before after → (how : NodeEnd) → NodeEnds n (wired_of before) (wired_of after) how → (node_status how ≡ status.BadNode) ⊎ (node_status how ≡ status.NoMemory)
    closes fault closed calm (node_end.Served node) ends = absurd (none_some (open_fault config) fault (opened_config node ends) closed)
    closes fault closed calm node_end.BadNode ends = inl refl
    closes fault closed calm node_end.WireFault ends = absurd (calm.wire (node_wire n (wired_of before) (wired_of after) node_end.WireFault refl ends))
    closes fault closed calm node_end.WriteFault ends = absurd (calm.write ends.writes)
    closes fault closed calm node_end.NoMemory ends = inr refl

    serves : open_fault config ≡ None → NoFault before after → (how : NodeEnd) → NodeEnds n (wired_of before) (wired_of after) how → (node_status how ≡ status.Ok) ⊎ (node_status how ≡ status.NoMemory)
    serves opens calm (node_end.Served node) ends = inl refl
    serves opens calm node_end.BadNode ends = let refused = refused_config ends in absurd (none_some (open_fault config) refused.0 opens refused.1)
    serves opens calm node_end.WireFault ends = absurd (calm.wire (node_wire n (wired_of before) (wired_of after) node_end.WireFault refl ends))
    serves opens calm node_end.WriteFault ends = absurd (calm.write ends.writes)
    serves opens calm node_end.NoMemory ends = inr refl

  by_status : (st : Status) (how : NodeEnd) (good : Status) → number ≡ number_of st → st ≡ node_status how → (node_status how ≡ good) ⊎ (node_status how ≡ status.NoMemory) → (number ≡ number_of good) ⊎ (number ≡ number_of status.NoMemory)
  by_status st how good is st_is (inl same) = inl (is ∙ ap number_of (st_is ∙ same))
  by_status st how good is st_is (inr same) = inr (is ∙ ap number_of (st_is ∙ same))

  is_bad : (how : NodeEnd) → node_status how ≡ status.BadNode → how ≡ node_end.BadNode
  is_bad node_end.BadNode is = refl
  is_bad (node_end.Served node) is = absurd (differs status.Ok status.BadNode is (λ same. omega (arith, same)))
  is_bad node_end.WireFault is = absurd (differs status.WireFault status.BadNode is (λ same. omega (arith, same)))
  is_bad node_end.WriteFault is = absurd (differs status.WriteFault status.BadNode is (λ same. omega (arith, same)))
  is_bad node_end.NoMemory is = absurd (differs status.NoMemory status.BadNode is (λ same. omega (arith, same)))

  serving_closed : Ended serving before after number → Exactly before after number status.BadNode ((fault : OpenFault) × (open_fault config ≡ Some fault))
  serving_closed (st, is, InText network end) = record {
    only = λ same. absurd (no_output st is end status.BadNode tt same);
    always = λ cause calm. inr (only_memory st is end calm);
  }
  serving_closed (st, is, OnNode n asked unread how st_is ends) = record {
    only = λ same. refused_config n asked (subst (NodeEnds n (wired_of before) (wired_of after)) (is_bad how (sym st_is ∙ one_status st status.BadNode (sym is ∙ same))) ends);
    always = λ cause calm. by_status st how status.BadNode is st_is (closes n asked cause.0 cause.1 calm how ends);
  }
  serving_closed (st, is, OnScript node_port client pid asked calls took how st_is ends) = absurd (subst IsServing asked tt)

  serving_complete : Ended serving before after number → open_fault config ≡ None → EndsIn before after number (λ n. n ≡ number_of status.Ok)
  serving_complete (st, is, InText network end) opens calm = inr (only_memory st is end calm)
  serving_complete (st, is, OnNode n asked unread how st_is ends) opens calm = by_status st how status.Ok is st_is (serves n asked opens calm how ends)
  serving_complete (st, is, OnScript node_port client pid asked calls took how st_is ends) opens calm = absurd (subst IsServing asked tt)

-- ---- a client that is driven
module _ (port : ℕ) (client : ClientNo) (pid : ℕ) (before after : Outside) (number : ℕ) where
  abbrev driving : Option Command
  driving = Some (Drive port client pid)

  driving_complete : Ended driving before after number → (bytes : List ℕ) → before.streams.left ≡ Some bytes → (calls : Calls) → IsScript bytes calls
      → EndsIn before after number (λ n. (n ≡ number_of status.Ok) ⊎ (n ≡ number_of status.Stalled))
  driving_complete (st, is, InText network end) bytes tells calls script calm = by (calm_end driving before.streams after.streams st calm.read calm.write end) where
    by : Wrote driving before.streams after.streams st ⊎ (st ≡ status.NoMemory) → ((number ≡ number_of status.Ok) ⊎ (number ≡ number_of status.Stalled)) ⊎ (number ≡ number_of status.NoMemory)
    by (inl w) =
        let refuses = drive_told w.output after.streams.left port client pid bytes (asks_told driving before after number bytes tells w.output w.asks) in
        absurd (value_asked Calls script_of no_fault Nothing bytes w.output refuses calls script)
    by (inr none) = inr (is ∙ ap number_of none)
  driving_complete (st, is, OnNode n asked unread how st_is ends) bytes tells calls script calm = absurd (subst NotServing asked tt)
  driving_complete (st, is, OnScript node_port other process asked given took how st_is ends) bytes tells calls script calm = by how st_is ends where
    by : (how : ClientEnd) → st ≡ client_status how → ClientEnds (task_of node_port other process given) (wired_of before) (wired_of after) how
        → ((number ≡ number_of status.Ok) ⊎ (number ≡ number_of status.Stalled)) ⊎ (number ≡ number_of status.NoMemory)
    by (client_end.Driven driven) st_is ends = inl (inl (is ∙ ap number_of st_is))
    by client_end.Stalled st_is ends = inl (inr (is ∙ ap number_of st_is))
    by client_end.WireFault st_is ends = absurd (calm.wire (client_wire (task_of node_port other process given) (wired_of before) (wired_of after) client_end.WireFault refl ends))
    by client_end.WriteFault st_is ends = absurd (calm.write ends.1)
    by client_end.NoMemory st_is ends = inr (is ∙ ap number_of st_is)

-- ---- by the command
module _ (before after : Outside) (number : ℕ) where
  pub bad_node_exactly : (command : Option Command) → Ended command before after number → ExactlyClosed command before after number
  bad_node_exactly (Some (Serve port config frames idles)) end = serving_closed port config frames idles before after number end
  bad_node_exactly (Some Replay) end = if_some before.streams.left (λ bytes tells. closed_exactly_of (Some Replay) before after number bytes tells tt end)
  bad_node_exactly (Some Check) end = if_some before.streams.left (λ bytes tells. closed_exactly_of (Some Check) before after number bytes tells tt end)
  bad_node_exactly (Some (Storm seed calls)) end = if_some before.streams.left (λ bytes tells. closed_exactly_of (Some (Storm seed calls)) before after number bytes tells tt end)
  bad_node_exactly (Some (Drive port client pid)) end = if_some before.streams.left (λ bytes tells. closed_exactly_of (Some (Drive port client pid)) before after number bytes tells tt end)
  bad_node_exactly None end = if_some before.streams.left (λ bytes tells. closed_exactly_of None before after number bytes tells tt end)

  pub completely : (command : Option Command) → Ended command before after number → CompleteOf command before after number
  completely (Some Replay) end = if_some before.streams.left (λ bytes tells s encodes.
      writes (Some Replay) before after number tt end (AsksTranscript s) (λ output asks. value_asked Schedule schedule_of schedule_fault AsksTranscript bytes output
      (replay_told output after.streams.left bytes (asks_told (Some Replay) before after number bytes tells output asks)) s encodes))
  completely (Some Check) end = if_some before.streams.left (λ bytes tells h encodes.
      writes (Some Check) before after number tt end (AsksVerdict h) (λ output asks. value_asked History history_of history_fault AsksVerdict bytes output
      (check_told output after.streams.left bytes (asks_told (Some Check) before after number bytes tells output asks)) h encodes))
  completely (Some (Storm seed calls)) end = writes (Some (Storm seed calls)) before after number tt end (λ output. output ≡ storm_output seed calls) (λ output asks. asks.1)
  completely (Some (Serve port config frames idles)) end = serving_complete port config frames idles before after number end
  completely (Some (Drive port client pid)) end = if_some before.streams.left (λ bytes tells. driving_complete port client pid before after number end bytes tells)
  completely None end = writes None before after number tt end (λ output. output ≡ bad_words) (λ output asks. asks.1)
