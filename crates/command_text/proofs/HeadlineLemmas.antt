-- The laws of the account, for every schedule that was read or generated.
use Rattle.std.proofs.Common.{◌≡◌, ℕ, List, Ok}
use Rattle.cl_types.specs.declared.schedule.Schedule.{Schedule}
use Rattle.trace.specs.Events.{account}
use Rattle.texts.specs.Grammar.{schedule_of}
use Rattle.trace.specs.Schedules.{IsGood, AreTyped, IsRisingFrom}
use Rattle.history_laws.proofs.AnswersKept.{law_of_parts}
use Rattle.history_laws.proofs.OrderKept.{law_of_order}
use Rattle.trace_texts.proofs.ReadSchedules.{schedules_are_good}
use Rattle.trace_laws.proofs.RunKept.{law_of_runs}
use Rattle.trace_laws.proofs.Spelled.{rises_from_zero}
use Rattle.history_laws.proofs.StandsKept.{law_of_stands}
use Rattle.trace_laws.proofs.TimesKept.{law_of_times}
use Rattle.command_text.specs.Headline.{Headline}

-- the account of a good schedule keeps the headline
pub headline_of_good : (s : Schedule) → IsGood s.config s.events → Headline s.config (account s.config s.events)
headline_of_good s good =
    let rising : IsRisingFrom 0 s.events = rises_from_zero s.events good.rising in
    let typed : AreTyped s.events = good.typed in
    let run = law_of_runs s.config s.events rising typed in
    record {
      run = run.run;
      stands = law_of_stands s.config s.events rising typed;
      once = law_of_parts s.config s.events rising typed;
      ordered = law_of_order s.config s.events rising typed;
      peeks = run.peeks;
      times = law_of_times s.config s.events rising;
    }

-- and so does the account of a schedule that was read
pub headline_law : (bytes : List ℕ) (s : Schedule) → schedule_of bytes ≡ Ok s → Headline s.config (account s.config s.events)
headline_law bytes s is = headline_of_good s (schedules_are_good bytes s is)
