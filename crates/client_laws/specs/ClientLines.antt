-- What a client's state is after a line.
use Rattle.std.specs.Prelude.{◌≡◌, ℕ, ◌<◌, List, [], ◌∷◌, Some, None, length, false, count_by, filter_map}
use Rattle.std.specs.List.{list_any}
use Rattle.cl_types.specs.declared.config.Config.{Config}
use Rattle.cl_types.specs.declared.schedule.CallText.{CallText}
use Rattle.cl_types.specs.declared.schedule.Event.{Event}
use Rattle.cl_types.specs.declared.schedule.Event.TheVariants as event
use Rattle.cl_types.specs.declared.frame.Head.{Head}
use Rattle.cl_types.specs.declared.reply.Reply.{Reply}
use Rattle.cl_types.specs.declared.line.Did.TheVariants as did
use Rattle.cl_types.specs.declared.line.Entry.{Entry}
use Rattle.client_model.specs.Client.{Polled, Sending, Unsent, after_reply, after_poll, after_issue, handed_out}
use Rattle.client_model.specs.Issue.{issue_fault}
use Rattle.trace.specs.Events.{on_flight, on_polled, on_judged}
use Rattle.cl_types.specs.declared.numbers.ClientNo.{ClientNo}
use Rattle.cl_types.specs.declared.reply.Part.{Part}
use Rattle.client_model.specs.Cut.{Ending, Replied}
use Rattle.trace.specs.Account.{Account, Frame, Effect, now, extended, frame_at}
use Rattle.trace.specs.Clients.{PartEnd, end_of_part, ending_by, issued, ends_fence, standing_at, client_at, replied, issued_on, polled_on, is_sending, part_end, first_sending, sending_on}
use Rattle.cl_types.specs.Written.{call_of}

-- each part that left flight tells what came of it
pub record Told (a : Account) (c : ClientNo) : Type 0 where
  pub told : (p : Part) (x : PartEnd)
      → end_of_part a c p ≡ Some x → (y : Ending) × (ending_by a c p x ≡ Some y)

-- of calls that were not issued nothing is said
pub record Fresh (a : Account) (c : ClientNo) : Type 0 where
  pub unsent : (p : Part) → length (issued a c) < p.call.0 → standing_at a c p ≡ Unsent
  pub unended : (n : ℕ) → length (issued a c) < n → list_any (ends_fence c n) a.lines ≡ false

-- a line that polls a client leaves it as the machine's poll does, whatever the poll was
abbrev pub PollLaw : Type 0
PollLaw = (config : Config) (a : Account) (l : ℕ) (c : ClientNo) (p : Polled) → Told a c →
    client_at config (extended a l (event.Poll c) (on_polled a l (client_at config a c) p)) c
    ≡ handed_out (after_poll (now a l) p (client_at config a c))

-- a line that issues a call leaves the client as the machine does when it takes the call
abbrev pub IssueLaw : Type 0
IssueLaw =
    (config : Config) (a : Account) (l : ℕ) (c : ClientNo) (text : CallText) → Told a c → Fresh a c
    → issue_fault (client_at config a c) (call_of text) ≡ None
    → client_at config (extended a l (event.Call c text) (on_judged (client_at config a c) None)) c
    ≡ after_issue (call_of text) (client_at config a c)

-- a line that takes a reply from a frame leaves the client as the machine's taking does
abbrev pub ReplyLaw : Type 0
ReplyLaw =
    (config : Config) (a : Account) (l : ℕ) (event : Event) (c : ClientNo) (k : ℕ) (head : Head)
    (r : Reply) (if_taken : List Entry) (f : Sending) (frame : Frame)
    → Told a c → frame_at a k ≡ Some frame → replied frame.load ≡ Some (Replied r)
    → issued_on c event (did.Took k c f.part ∷ []) ≡ None → polled_on c (now a l) event ≡ None
    → client_at config (extended a l event (on_flight (client_at config a c) k head r if_taken (Some f))) c
    ≡ handed_out (after_reply f.part r (client_at config a c))

-- a line that says nothing of the client
pub record Quiet (a : Account) (l : ℕ) (event : Event) (e : Effect) (c : ClientNo) : Type 0 where
  pub no_call : issued_on c event e.texts ≡ None
  pub no_sending : count_by (is_sending c) e.texts ≡ 0
  pub no_fence : (n : ℕ) → ends_fence c n (record {
    number = l;
    moment = now a l;
    event = event;
    texts = e.texts;
    ended = e.ended;
  }) ≡ false
  pub no_poll : polled_on c (now a l) event ≡ None
  pub no_end : (p : Part) → filter_map (part_end c p (now a l)) e.texts ≡ []
  pub no_first : (p : Part) → filter_map (first_sending c p (now a l)) e.texts ≡ []
  pub no_moment : (p : Part) → filter_map (sending_on c p (now a l)) e.texts ≡ []

-- a line that says nothing of the client leaves it
abbrev pub QuietLaw : Type 0
QuietLaw =
    (config : Config) (a : Account) (l : ℕ) (event : Event) (e : Effect) (c : ClientNo)
    → Told a c → Quiet a l event e c → client_at config (extended a l event e) c ≡ client_at config a c
