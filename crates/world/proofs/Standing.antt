-- A world that stands for the events of a schedule stands, after an event more, for these and that one.
use Rattle.std.proofs.Common.{◌≡◌, ℕ, ◌+◌, ◌^◌, ◌<◌, ◌≤◌, false, List, [], ◌∷◌, ◌++◌, length, refl, sym, ap, ◌∙◌, subst, arith}
use Rattle.std.specs.Prelude.{Result, IfOk}
use Rattle.cl_types.specs.declared.config.Config.{Config}
use Rattle.cl_types.specs.declared.line.EventLine.{EventLine}
use Rattle.cl_types.specs.declared.line.Summary.{Summary}
use Rattle.cl_types.specs.declared.schedule.Event.{Event}
use Rattle.trace.specs.Schedules.{IsGood, IsRisingFrom}
use Rattle.trace.specs.Account.{Account, Effect, extended, nothing_yet}
use Rattle.trace.specs.Events.{account_of_latest, effect}
use Rattle.node_model.specs.Handling.{latest}
use Rattle.trace.specs.Summaries.{summary_of}
use Rattle.world.specs.Follows.{IsReadOff, StandsFor, StandsOn, TellsLine, last_line}
use Rattle.world.specs.Running.{Running, stepped, summed_on}
use Rattle.world.specs.Summed.{summed}
use Rattle.world.specs.Worlds.{Stepped, step}
use Rattle.world.proofs.Follows.{from_append, worlds_follow}
use Rattle.world.proofs.Results.{if_ok_two}
use Rattle.world.proofs.SummaryLemmas.{summary_next}

-- there are no more events than lines
few_events : (n : ℕ) (events : List (ℕ × Event)) (l : ℕ) (e : Event) → IsRisingFrom n (events ++ (l, e) ∷ []) → n + length events ≤ l
few_events n [] l e rising = omega (arith, rising.0)
few_events n (x ∷ events) l e rising = let rest : x.0 + 1 + length events ≤ l = few_events (x.0 + 1) events l e rising.1 in omega (arith, rising.0, rest)

last_of : (events : List (ℕ × Event)) (e : ℕ × Event) → last_line (events ++ e ∷ []) ≡ e.0
last_of [] e = refl
last_of (x ∷ []) e = refl
last_of (x ∷ y ∷ events) e = last_of (y ∷ events) e

module _ (config : Config) (events : List (ℕ × Event)) (l : ℕ) (e : Event) where
  abbrev before : Account
  before = account_of_latest config events

  -- the counts of a step are those of the account's line
  summary_on : (s : Stepped) (counts : Summary) → StandsOn config events l e s → counts ≡ summary_of before → summed_on s counts ≡ summary_of (account_of_latest config (events ++ (l, e) ∷ []))
  summary_on s counts on is =
      let brought : Effect = effect (latest config.node.retry) config before l e in
      let next : Account = extended before l e brought in
      let same : account_of_latest config (events ++ (l, e) ∷ []) ≡ next = from_append (latest config.node.retry) config nothing_yet events (l, e) in
      let history = on.stands.history ∙ ap (λ (a : Account). a.history) same in
      (λ i. summed s.did s.ended (length (history i)) (is i))
      ∙ sym (summary_next before l e brought s.did s.ended on.told on.ended)
      ∙ ap summary_of (sym same)

  -- a world that stands for events stands, after a step, for these and one more
  pub stands_next : (w v : Running) → StandsFor config events w → StandsOn config events l e (step w.world l e)
      → v.world ≡ (step w.world l e).world → v.summary ≡ summed_on (step w.world l e) w.summary → v.line ≡ l → v.spent ≡ false → StandsFor config (events ++ (l, e) ∷ []) v
  stands_next w v stands on world summary line unspent = record {
    keeps = stands.keeps;
    stands = subst (IsReadOff config (account_of_latest config (events ++ (l, e) ∷ []))) (sym world) on.stands;
    summary = summary ∙ summary_on (step w.world l e) w.summary on stands.summary;
    line = line ∙ sym (last_of events (l, e));
    unspent = unspent;
  }

  -- so it is with an event that was told
  pub stands_on : {E : Type 0} (w v : Running) (r : Result EventLine E) → l < 2 ^ 29 → IfOk r (λ told. stepped told v.world ≡ step w.world l e)
      → IfOk r (λ told. v.summary ≡ summed_on (stepped told v.world) w.summary) → v.line ≡ l → v.spent ≡ false
      → IsGood config (events ++ (l, e) ∷ []) → StandsFor config events w
      → IfOk r (λ told. TellsLine config events l e told × StandsFor config (events ++ (l, e) ∷ []) v)
  stands_on w v r early is summary line unspent good stands =
      let count : 1 + length events ≤ l = few_events 1 events l e good.rising in
      let few : length events + 1 < 2 ^ 64 = omega (arith, count, early) in
      let on : StandsOn config events l e (step w.world l e) = worlds_follow config events l e w.world stands.keeps good few stands.stands in
      if_ok_two _ _ _ r
      (λ told same counts. (
        record { texts = on.told ∙ ap (λ (s : Stepped). s.did ∷ []) (sym same); ended = on.ended ∙ ap (λ (s : Stepped). s.ended) (sym same) },
        stands_next w v stands on (ap (λ (s : Stepped). s.world) same) (counts ∙ ap (λ (s : Stepped). summed_on s w.summary) same) line unspent,
      )) is summary
