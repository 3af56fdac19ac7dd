-- Answers are made of the replies of the history: what each account keeps.
use Rattle.std.specs.Prelude.{ℕ, ◌≡◌, List, Some, None, Option, map}
use Rattle.std.specs.List.{AllByRecursion as Each}
use Rattle.cl_types.specs.declared.call.Call.{Call}
use Rattle.cl_types.specs.declared.numbers.ClientNo.{ClientNo}
use Rattle.cl_types.specs.declared.reply.Part.{Part}
use Rattle.cl_types.specs.declared.reply.Reply.{Reply}
use Rattle.cl_types.specs.declared.line.Did.{Did}
use Rattle.cl_types.specs.declared.line.Did.TheVariants as did
use Rattle.cl_types.specs.declared.line.EndedCall.{EndedCall}
use Rattle.client_model.specs.Cut.{Ending, Replied, combine, answer_bytes}
use Rattle.trace.specs.Account.{Account, Line, Frame, frame_at}
use Rattle.client_model.specs.Client.{every, parts_named}
use Rattle.trace.specs.Clients.{issued, call_at, ending, replied}
use Rattle.trace_laws.proofs.PartsOnce.{HasEntry}

-- a reply that was taken is in its frame, and is the one of the part's entry
pub record TookFrom (a : Account) (k : ℕ) (c : ClientNo) (p : Part) : Type 0 where
  pub frame : Frame
  pub is_frame : frame_at a k ≡ Some frame
  pub reply : Reply
  pub replies : replied frame.load ≡ Some (Replied reply)
  pub has : HasEntry a.history c p reply

abbrev pub TookIs : Account → Did → Type 0
TookIs a (did.Took k c p) = TookFrom a k c p
TookIs a other = Unit {0}

-- a call that ended has an ending of each part, and its answer is made of them
pub record CallEnded (a : Account) (x : EndedCall) : Type 0 where
  pub call : Call
  pub is_call : call_at (issued a x.client) x.call.0 ≡ Some call
  pub endings : List Ending
  pub all : every (map (λ p. ending a x.client p.0) (parts_named x.call.0 call)) ≡ Some endings
  pub made : x.answer ≡ combine call endings
  pub bytes : x.bytes ≡ answer_bytes (combine call endings) endings

abbrev pub EndIs : Account → Option EndedCall → Type 0
EndIs a None = Unit {0}
EndIs a (Some x) = CallEnded a x

pub record Answered (a : Account) : Type 0 where
  pub took : Each (λ (line : Line). Each (TookIs a) line.texts) a.lines
  pub ends : Each (λ (line : Line). EndIs a line.ended) a.lines
