-- A generated schedule is replayed, and its history is a run.
use Rattle.std.proofs.Common.{append_assoc, ◌++◌, ◌≡◌, ℕ, ◌≤◌, List, Option, Some, refl, sym, ap, subst, ◌∙◌, arith, true, false}
use Rattle.std.specs.Prelude.{Result, Ok, Err, OnErr, OnOk, is_err}
use Rattle.cl_outside.specs.Loops.{CountsWrites, WroteFront}
use Rattle.cl_outside.specs.Told.{Added}
use Rattle.cl_outside.specs.declared.faults.Faults.{Faults}
use Rattle.cl_types.specs.declared.line.Entry.{Entry}
use Rattle.cl_types.specs.declared.schedule.Event.{Event}
use Rattle.cl_types.specs.declared.schedule.Event.TheVariants as event
use Rattle.cl_types.specs.declared.schedule.Schedule.{Schedule}
use Rattle.cl_types.specs.declared.config.NodeConfig.{NodeConfig}
use Rattle.flat_model.specs.Run.{IsRun}
use Rattle.history_check.proofs.VerdictLemmas.{verdict_is_fixed}
use Rattle.history_check.specs.Verdicts.{IsVerdict}
use Rattle.history_check.specs.declared.history.Verdict.TheVariants as verdict
use Rattle.lemmas.proofs.Lists.{each_weaker}
use Rattle.storm_gen.proofs.SuitLemmas.{generated_suit}
use Rattle.storm_gen.specs.Generated.{generated}
use Rattle.storm_gen.specs.Suitable.{IsPlain, IsSuitable}
use Rattle.storm_gen.specs.declared.limits.TheConstants.{MOST_CALLS}
use Rattle.storm_gen.specs.SummaryTexts.{summary_text}
use Rattle.texts.specs.Text.{Text}
use Rattle.trace.specs.Events.{account, account_of_latest}
use Rattle.trace.specs.Summaries.{summary_of}
use Rattle.trace_laws.proofs.Spelled.{rises_from_zero}
use Rattle.trace_laws.proofs.WindowKept.{one_account}
use Rattle.world.specs.Follows.{StandsFor}
use Rattle.world.specs.Running.{IsFair, Running}
use Rattle.command_text.specs.Outputs.{storm_output}
use Rattle.command_text.specs.Working.{IsServed, Plays}
use Rattle.command_text.specs.declared.left.Left.{Left}
use Rattle.command_text.specs.declared.left.Left.TheVariants as left
use Rattle.command_text.proofs.WorkLemmas.{front_none}
use Rattle.command_text.specs.declared.output.Output.{Output}
use Rattle.command_text.specs.declared.status.Status.TheVariants as status
use Rattle.command_text.proofs.HeadlineLemmas.{headline_of_good}
use Rattle.cl_outside.specs.Counts.{NoneFailed}
use Rattle.texts.specs.Commands.{Storm}
use Rattle.command_text.specs.Streams.{Streams}
use Rattle.command_text.specs.Serving.{ServesInText}
use Rattle.command_text.specs.declared.status.Status.{Status}
use Rattle.command_text.proofs.ServeLemmas.{worked_of, plays_serve}

-- a generated schedule is one that is served
fair : (e : Event) → IsPlain e → IsFair e
fair (event.Call client call) plain = tt
fair (event.Poll client) plain = tt
fair (event.Deliver frame) plain = tt
fair event.DeliverNext plain = tt
fair event.Drop plain = tt
fair (event.Tick by) plain = let few = plain.1 in omega (arith, few)
fair (event.Peek pid addr len) plain = absurd plain
fair (event.Show frame) plain = absurd plain
fair event.Stat plain = absurd plain
fair (event.GarbageNode bytes) plain = absurd plain
fair (event.GarbageClient client bytes) plain = absurd plain

pub generated_served : (seed calls : ℕ) → calls ≤ MOST_CALLS → IsServed (generated seed calls)
generated_served seed calls few = record {
  good = suit.good;
  suited = record {
    some = omega arith;
    most = omega arith;
    apart = suit.apart;
    bounded = suit.bounded;
    fair = each_weaker (λ (e : ℕ × Event). IsPlain e.1) (λ (e : ℕ × Event). IsFair e.1) (λ e plain. fair e.1 plain) (generated seed calls).events suit.plain;
  };
  keeps = omega arith;
} where
  suit : IsSuitable (generated seed calls)
  suit = generated_suit seed calls few

-- ---- a world that stands for all events of a schedule that is served
module _ (s : Schedule) (served : IsServed s) (w : Running) (stands : StandsFor s.config s.events w) where
  same : account s.config s.events ≡ account_of_latest s.config s.events
  same = one_account s.config s.events served.keeps (rises_from_zero s.events served.good.rising) served.good.typed

  -- its history is a run
  pub worked_run : IsRun s.config.node w.world.history
  worked_run =
      subst (IsRun s.config.node) (ap (λ a. a.history) same ∙ sym stands.stands.history) (headline_of_good s served.good).run

  -- and what it came to is what the account counts
  pub worked_summary : w.summary ≡ summary_of (account s.config s.events)
  worked_summary = stands.summary ∙ ap summary_of (sym same)

-- the output of a storm
pub storm_text : (seed calls : ℕ) → calls ≤ MOST_CALLS → (w : Running) → StandsFor (generated seed calls).config (generated seed calls).events w → (text : Text)
    → text ≡ summary_text w.summary → ◌≡◌ {A = Output} (record { text = text; status = status.Ok }) (storm_output seed calls)
storm_text seed calls few w stands text is =
    ap (λ (t : Text). record { text = t; status = status.Ok }) (is ∙ ap summary_text (worked_summary (generated seed calls) (generated_served seed calls few) w stands))

-- how playing a schedule ends, by what became of writing its text
module _ (s : Schedule) (text : Text) (before : Option (List ℕ)) (faults : Faults) (kept : Left) where
  -- nothing was written
  pub plays_none : kept ≡ left.Nothing → Plays s text before before faults faults kept status.NoMemory
  plays_none nothing = (front_none text before, refl, nothing)

  module _ {A E : Type 0} (after : Option (List ℕ)) (faults_after : Faults) (seen : Text) (same : seen ≡ text) where
    pub plays_failed : (r : Result A E) → true ≡ is_err r → OnErr r (WroteFront seen before after) → CountsWrites faults faults_after r → kept ≡ left.Nothing
        → Plays s text before after faults faults_after kept status.WriteFault
    plays_failed (Ok x) failed front counted nothing = absurd (let never : true ≡ false = failed in grind arith)
    plays_failed (Err e) failed front counted nothing = (subst (λ t. WroteFront t before after) same front, counted, nothing)

    pub plays_whole : (r : Result A E) → false ≡ is_err r → OnOk r (Added seen before after) → CountsWrites faults faults_after r → (w : Running) → kept ≡ left.Replayed w → StandsFor s.config s.events w
        → Plays s text before after faults faults_after kept status.Ok
    plays_whole (Ok x) good added counted w is stands = (subst (λ t. Added t before after) same added, counted, w, is, stands)
    plays_whole (Err e) good added counted w is stands = absurd (let never : false ≡ true = good in grind arith)

-- a run has no first entry that is no step
pub run_has_no_fault : (c : NodeConfig) (entries : List Entry) (entry : ℕ) → IsRun c entries → IsVerdict c entries (verdict.NotRun entry) → ⊥
run_has_no_fault c entries entry run fault = differ (verdict_is_fixed c entries verdict.Run (verdict.NotRun entry) run fault) where
  differ : verdict.Run ≡ verdict.NotRun entry → ⊥
  differ same = cc same

-- seven texts behind one another
pub seven : {A : Type 0} (o a b c d e f g : List A) → ((((((o ++ a) ++ b) ++ c) ++ d) ++ e) ++ f) ++ g ≡ o ++ (a ++ b ++ c ++ d ++ e ++ f ++ g)
seven o a b c d e f g = simp append_assoc

-- ---- a storm
pub storm_serves : (seed calls : ℕ) → IsServed (generated seed calls) → (before after : Streams) (kept : Left) → after.left ≡ before.left → NoneFailed before.read_faults after.read_faults
    → (st : Status) → Plays (generated seed calls) (storm_output seed calls).text before.written after.written before.write_faults after.write_faults kept st
    → ServesInText (Some (Storm seed calls)) before after kept st
storm_serves seed calls served before after kept unread reads =
    plays_serve (Some (Storm seed calls)) before after (generated seed calls) kept (storm_output seed calls) (unread, refl) refl reads
    (λ added v is stands. record { unread = unread; printed = added; worked = worked_of (generated seed calls) served kept v is stands })
