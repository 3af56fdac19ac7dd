-- How serving a command ends, by what it asked for.
use Rattle.std.proofs.Common.{◌≡◌, inl, inr, ℕ, ◌+◌, ◌≤◌, Bool, true, false, List, [], ◌∷◌, Option, Some, None, refl, sym, subst, arith, length}
use Rattle.std.specs.Prelude.{Result, Ok, Err}
use Rattle.cl_outside.specs.Counts.{NoneFailed}
use Rattle.cl_types.specs.declared.limits.TheConstants.{INPUT_BYTES, INPUT_LINES}
use Rattle.cl_types.specs.declared.numbers.ClientNo.{ClientNo}
use Rattle.cl_types.specs.declared.schedule.CallText.{CallText}
use Rattle.cl_types.specs.declared.schedule.What.{What}
use Rattle.client_command.specs.Ends.{ClientEnds, task_of}
use Rattle.client_command.specs.declared.ends.ClientEnd.{ClientEnd}
use Rattle.client_command.specs.declared.ends.ClientEnd.TheVariants as client_end
use Rattle.node_command.specs.Ends.{NodeEnds, NodeNumbers}
use Rattle.node_command.specs.declared.node_end.NodeEnd.{NodeEnd}
use Rattle.node_command.specs.declared.node_end.NodeEnd.TheVariants as node_end
use Rattle.schedule_text.specs.declared.fault.ScheduleFault.TheVariants as long
use Rattle.texts.specs.Commands.{Command, Replay, Check, Storm, Drive}
use Rattle.texts.specs.Commands as commands
use Rattle.texts.specs.Grammar.{Fault, script_from, script_line, script_more}
use Rattle.texts.specs.Text.{Text, is_skipped, lines_in}
use Rattle.trace_texts.proofs.ReadSchedules.{no_ok, ok_is}
use Rattle.clio_cli.specs.Succeeds.{Succeeds}
use Rattle.command_text.specs.Headline.{SucceedsInText}
use Rattle.command_text.specs.Outputs.{Calls, IsScript, OnBadLine, OnBadNode, OnLong, OnValue, RefusesScript, bad_words, too_long_output}
use Rattle.clio_cli.specs.Run.{InText, OnNode, OnScript, Outside, TookScript, client_status, node_status, wired_of}
use Rattle.command_text.specs.Streams.{IsInput, IsTooMany, IsUnread, Streams}
use Rattle.clio_cli.specs.Wanted.{DrivesClient, IsScriptedBy, IsScriptedOf, Keeps, Serves, ServesNode, client_left, node_left}
use Rattle.command_text.specs.Serving.{KeepsInText, Says, ServesInText}
use Rattle.command_text.specs.declared.output.Output.{Output}
use Rattle.clio_cli.specs.declared.script.WantedScript.{WantedScript}
use Rattle.clio_cli.specs.declared.script.WantedScript.TheVariants as wanted_script
use Rattle.command_text.specs.declared.left.Left.{Left}
use Rattle.command_text.specs.declared.left.Left.TheVariants as left
use Rattle.command_text.specs.declared.status.Status.{Status}
use Rattle.command_text.specs.declared.status.Status.TheVariants as status
use Rattle.command_text.proofs.OutputLemmas.{status_is}
use Rattle.command_text.proofs.SuitedLemmas.{few_lines}
use Rattle.command_text.proofs.ServeLemmas.{says_ends, IsRefusal, says_keeps, refusal_final, long_of}

-- ---- words
-- words that are no command
pub words_serve : (before after : Streams) (kept : Left) → after.left ≡ before.left → NoneFailed before.read_faults after.read_faults
    → kept ≡ left.Nothing → (st : Status) → Says bad_words before.written after.written before.write_faults after.write_faults st → ServesInText None before after kept st
words_serve before after kept unread reads nothing st says = record {
  ends = says_ends None before after reads bad_words (unread, refl) tt st says;
  keeps = says_keeps None before after kept bad_words tt nothing st says;
}

-- ---- a script
-- a refusal of these bytes
script_refusal : (bytes : List ℕ) (output : Output) → RefusesScript bytes output → IsRefusal output.status
script_refusal bytes output (OnLong long is) = subst IsRefusal (sym (status_is is)) tt
script_refusal bytes output (OnBadLine refused is) = subst IsRefusal (sym (status_is is)) tt
script_refusal bytes output (OnBadNode bad is) = subst IsRefusal (sym (status_is is)) tt
script_refusal bytes output (OnValue value encoded asked) = absurd asked

pub unscripted_serves : (port : ℕ) (client : ClientNo) (pid : ℕ) (before after : Streams) (kept : Left) (output : Output) → IsScriptedOf before.left after.left (wanted_script.Refused output)
    → NoneFailed before.read_faults after.read_faults → kept ≡ left.Nothing
    → (st : Status) → Says output before.written after.written before.write_faults after.write_faults st → ServesInText (Some (Drive port client pid)) before after kept st
unscripted_serves port client pid before after kept output (bytes, gave, refuses) reads nothing st says =
    let refusal = script_refusal bytes output refuses in
    record {
      ends = says_ends (Some (Drive port client pid)) before after reads output (bytes, gave, refuses) (refusal_final output.status refusal) st says;
      keeps = says_keeps (Some (Drive port client pid)) before after kept output refusal nothing st says;
    }

module _ (before after : Option (List ℕ)) where
  pub whole_scripted : (bytes seen : List ℕ) (w : WantedScript) → IsInput bytes before after → seen ≡ bytes → IsScriptedBy seen w → IsScriptedOf before after w
  whole_scripted bytes seen (wanted_script.Refused output) input same refuses = (bytes, inl input, subst (λ bytes. RefusesScript bytes output) same refuses)
  whole_scripted bytes seen (wanted_script.Scripted script) input same scripted = (bytes, input, subst (λ bytes. IsScript bytes script.calls) same scripted)

  pub many_scripted : (bytes : List ℕ) (output : Output) → IsTooMany bytes before after → output ≡ too_long_output (long.TooLong true (INPUT_BYTES + 1)) → IsScriptedOf before after (wanted_script.Refused output)
  many_scripted bytes output many is = (bytes, inr many, OnLong (long.TooLong true (INPUT_BYTES + 1), long_of before after bytes many) is)

-- ---- with a wire and a clock
-- a command that asks for an output lets them be
pub in_text : (command : Option Command) (before after : Outside) (kept : Left) (st : Status) → after.network ≡ before.network
    → ServesInText command before.streams after.streams kept st → Serves command before after kept st
in_text command before after kept st network serves = record { ends = InText network serves.ends; keeps = by st serves.keeps } where
  succeeds : (command : Option Command) → SucceedsInText command before.streams after.streams kept → Succeeds command before after kept
  succeeds (Some Replay) done = done
  succeeds (Some Check) done = done
  succeeds (Some (Storm seed calls)) done = done
  succeeds (Some (commands.Serve port config frames idles)) done = absurd done
  succeeds (Some (Drive port client pid)) done = absurd done
  succeeds None done = done

  by : (st : Status) → KeepsInText command before.streams after.streams kept st → Keeps command before after kept st
  by status.Ok keeps = succeeds command keeps
  by status.BadWords keeps = keeps
  by status.BadInput keeps = keeps
  by status.ReadFault keeps = keeps
  by status.WriteFault keeps = keeps
  by status.NoMemory keeps = keeps
  by status.WireFault keeps = keeps
  by status.NotRun keeps = keeps
  by status.TooLong keeps = keeps
  by status.Stalled keeps = keeps
  by status.BadNode keeps = keeps

-- a node that was served
pub node_serves : (n : NodeNumbers) (before after : Outside) (kept : Left) (st : Status) → IsUnread before.streams after.streams
    → ServesNode n (wired_of before) (wired_of after) kept st → Serves (Some (commands.Serve n.port n.config n.frames n.idles)) before after kept st
node_serves n before after kept st unread served = record {
  ends = OnNode n refl unread served.how served.is served.ends;
  keeps = subst (Keeps (Some (commands.Serve n.port n.config n.frames n.idles)) before after kept) (sym served.is) (by served.how served.keeps served.ends);
} where
  by : (how : NodeEnd) → kept ≡ node_left how → NodeEnds n (wired_of before) (wired_of after) how → Keeps (Some (commands.Serve n.port n.config n.frames n.idles)) before after kept (node_status how)
  by (node_end.Served node) keeps ends = (node, keeps, ends)
  by node_end.BadNode keeps ends = keeps
  by node_end.WireFault keeps ends = keeps
  by node_end.WriteFault keeps ends = keeps
  by node_end.NoMemory keeps ends = keeps

-- a client that was driven through a script that was read
pub client_serves : (port : ℕ) (client : ClientNo) (pid : ℕ) (calls : Calls) (before after : Outside) (kept : Left) (st : Status) → TookScript calls before.streams after.streams
    → DrivesClient (task_of port client pid calls) (wired_of before) (wired_of after) kept st → Serves (Some (Drive port client pid)) before after kept st
client_serves port client pid calls before after kept st took driven = record {
  ends = OnScript port client pid refl calls took driven.how driven.is driven.ends;
  keeps = subst (Keeps (Some (Drive port client pid)) before after kept) (sym driven.is) (by driven.how driven.keeps driven.ends);
} where
  by : (how : ClientEnd) → kept ≡ client_left how → ClientEnds (task_of port client pid calls) (wired_of before) (wired_of after) how → Keeps (Some (Drive port client pid)) before after kept (client_status how)
  by (client_end.Driven end) keeps ends = (calls, took, (end, keeps, ends))
  by client_end.Stalled keeps ends = keeps
  by client_end.WireFault keeps ends = keeps
  by client_end.WriteFault keeps ends = keeps
  by client_end.NoMemory keeps ends = keeps

-- ---- a script that is short
-- as many calls as lines, or fewer
few_calls : (n : ℕ) (lines : List Text) (calls : Calls) → script_from n lines ≡ Ok calls → length calls ≤ length lines
few_calls n [] calls is = subst (λ (cs : Calls). length cs ≤ 0) (ok_is [] calls is) (omega arith)
few_calls n (line ∷ lines) calls is = let most : length calls ≤ length lines + 1 = by (is_skipped line) (few_calls (n + 1) lines) is in omega (arith, most) where
  more : (o : Result CallText What) (rest : Result Calls Fault) → script_from (n + 1) lines ≡ rest → ((others : Calls) → script_from (n + 1) lines ≡ Ok others → length others ≤ length lines)
      → script_more n o rest ≡ Ok calls → length calls ≤ length lines + 1
  more (Err what) rest same fewer is = absurd (no_ok (n, what) calls is)
  more (Ok call) (Err fault) same fewer is = absurd (no_ok fault calls is)
  more (Ok call) (Ok others) same fewer is =
      let few : length others ≤ length lines = fewer others same in
      subst (λ (cs : Calls). length cs ≤ length lines + 1) (ok_is ((n, call) ∷ others) calls is) (omega (arith, few))

  by : (b : Bool) → ((others : Calls) → script_from (n + 1) lines ≡ Ok others → length others ≤ length lines)
      → ◌≡◌ {A = Result Calls Fault} (elim b [ true ↦ script_from (n + 1) lines | false ↦ script_more n (script_line line) (script_from (n + 1) lines) ]) (Ok calls) → length calls ≤ length lines + 1
  by true fewer is = let few = fewer calls is in omega (arith, few)
  by false fewer is = more (script_line line) (script_from (n + 1) lines) refl fewer is

-- a script within the limits has no more calls than an input has lines
pub script_is_short : (bytes : List ℕ) (calls : Calls) → IsScript bytes calls → length calls ≤ INPUT_LINES
script_is_short bytes calls script =
    let fewer = few_calls 1 (lines_in bytes) calls script.encoded in
    let lines = few_lines bytes script.short in
    omega (arith, fewer, lines)
