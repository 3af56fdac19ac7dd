-- What a replay counts.
use Rattle.std.specs.Prelude.{ℕ, ◌-◌, Bool, true, false, List, length, flat_map, filter_map, option_map, count_by}
use Rattle.cl_types.specs.declared.reply.Answer.{Answer}
use Rattle.cl_types.specs.declared.reply.Answer.TheVariants as answer
use Rattle.cl_types.specs.declared.line.Summary.{Summary}
use Rattle.trace.specs.Account.{Account}
use Rattle.trace.specs.Clients.{says_issued}

-- the call was done
abbrev pub is_done : Answer → Bool
is_done (answer.Done value) = true
is_done other = false

-- the call was refused
abbrev pub is_refused : Answer → Bool
is_refused (answer.Refused refusal) = true
is_refused other = false

-- the call timed out
abbrev pub is_timed_out : Answer → Bool
is_timed_out (answer.TimedOut first_sent now) = true
is_timed_out other = false

-- how many calls were issued
abbrev pub issued_count : Account → ℕ
issued_count a = count_by says_issued (flat_map (λ line. line.texts) a.lines)

-- the answers of the calls that ended
abbrev pub answers : Account → List Answer
answers a = filter_map (λ line. option_map (λ ended. ended.answer) line.ended) a.lines

-- how many calls were issued and how they ended, and how many entries the history has
abbrev pub summary_of : Account → Summary
summary_of a = record {
  issued = issued_count a;
  done = count_by is_done (answers a);
  refused = count_by is_refused (answers a);
  timed_out = count_by is_timed_out (answers a);
  unended = issued_count a - length (answers a);
  entries = length a.history;
}
