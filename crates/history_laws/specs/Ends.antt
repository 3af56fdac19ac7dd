-- Which calls of an account have ended, and that its summary counts the others.
use Rattle.std.specs.Prelude.{ℕ, ◌+◌, ◌≡◌, List, length, map, filter, filter_map, sum_by}
use Rattle.cl_types.specs.declared.config.Config.{Config}
use Rattle.cl_types.specs.declared.line.EndedCall.{EndedCall}
use Rattle.cl_types.specs.declared.line.Entry.{Entry}
use Rattle.cl_types.specs.declared.numbers.ClientNo.{ClientNo}
use Rattle.cl_types.specs.declared.schedule.Event.{Event}
use Rattle.trace.specs.Account.{Account, nothing_yet}
use Rattle.client_model.specs.Apart.{AreApart}
use Rattle.cl_types.specs.Parts.{same_client}
use Rattle.trace.specs.Clients.{issued, client_at}
use Rattle.trace.specs.Events.{account_from}
use Rattle.trace.specs.Summaries.{issued_count, answers, summary_of}
use Rattle.trace.specs.Schedules.{AreOfClients}

-- the calls that the lines tell as ended, in order
abbrev pub ended_calls : Account → List EndedCall
ended_calls a = filter_map (λ line. line.ended) a.lines

-- those of one client
abbrev pub ends_of : Account → ClientNo → List EndedCall
ends_of a c = filter (λ e. same_client c e.client) (ended_calls a)

-- in every account as many calls as a client issued have ended, as the lines tell, or are held by it
abbrev pub CallsAddUp : Type 0
CallsAddUp =
    (keep : List Entry → List Entry) (config : Config) (events : List (ℕ × Event)) (c : ClientNo)
    → let a : Account = account_from keep config nothing_yet events in
    length (issued a c) ≡ length (ends_of a c) + length (client_at config a c).calls

-- how many calls the clients of the configuration hold, which are those that have not ended
abbrev pub unended_calls : Config → Account → ℕ
unended_calls config a = sum_by (λ given. length (client_at config a given.0).calls) config.clients

-- the summary of the account adds up
pub record AddsUp (config : Config) (a : Account) : Type 0 where
  -- as many calls as were issued have an answer, or are held by one of the clients
  pub issued : issued_count a ≡ length (answers a) + unended_calls config a
  -- as many are counted unended as the clients hold
  pub unended : (summary_of a).unended ≡ unended_calls config a
  -- as many were issued as are counted done, refused, timed out and unended together
  pub together :
      (summary_of a).issued ≡ (summary_of a).done + (summary_of a).refused + (summary_of a).timed_out + (summary_of a).unended

-- where the clients of the events are those of the configuration, and no two have one number, each summary adds up
abbrev pub SummariesAddUp : Type 0
SummariesAddUp =
    (keep : List Entry → List Entry) (config : Config) (events : List (ℕ × Event))
    → AreOfClients config.clients events → AreApart (map (λ given. given.0.0) config.clients)
    → AddsUp config (account_from keep config nothing_yet events)
