-- A reply that was taken has no fault.
use Rattle.std.proofs.Common.{◌≡◌, ℕ, List, Option, Some, None, refl, sym, ap, ◌∙◌, ◌⊎◌, inl, inr}
use Rattle.cl_types.specs.declared.frame.BadFrame.{BadFrame}
use Rattle.cl_types.specs.declared.reply.Part.{Part}
use Rattle.client_core.specs.Answers.{heard_answer, heard_as}
use Rattle.client_core.specs.declared.answers.Heard.{Heard}
use Rattle.client_core.specs.declared.answers.Heard.TheVariants as heard
use Rattle.client_model.specs.Client.{ClientState}
use Rattle.frame_model.specs.Frames.{reply_fault}
use Rattle.client_model.specs.Hearing.{Hearing, HearsBad, HearsOther, HearsLate, HearsUnfit, HearsReply, heard_judged, hearing}
use Rattle.world.specs.Saying.{state_heard}

pub as_heard : (s : ClientState) (bytes : List ℕ) → heard_as s bytes ≡ hearing s bytes
unfolding heard_as
as_heard s bytes = refl

-- the answer tells that the reply to this part was taken
abbrev pub Takes : Part → Heard → Type 0
Takes part answer = (heard.Took part ≡ answer) ⊎ (heard.Ended part ≡ answer)

pub faultless : (s : ClientState) (bytes : List ℕ) (part : Part) → Takes part (heard_answer s (heard_as s bytes)) → reply_fault bytes ≡ None
unfolding heard_as
faultless s bytes part takes = go (reply_fault bytes) takes where
  go : (o : Option BadFrame) → Takes part (heard_answer s (heard_judged s bytes o)) → o ≡ None
  go (Some f) (inl is) = absurd cc
  go (Some f) (inr is) = absurd cc
  go None takes = refl

-- of bytes with a fault, a client answers this fault
pub fault_answered : (s : ClientState) (bytes : List ℕ) (fault : BadFrame) (answer : Heard) → Some fault ≡ reply_fault bytes
    → answer ≡ heard_answer s (heard_as s bytes) → answer ≡ heard.Bad fault
unfolding heard_as
fault_answered s bytes fault answer is told = told ∙ ap (λ o. heard_answer s (heard_judged s bytes o)) (sym is)

-- hearing leaves a client its number
pub heard_client : (s : ClientState) (h : Hearing) → (state_heard s h).client ≡ s.client
heard_client s (HearsReply f reply) = refl
heard_client s (HearsLate orig) = refl
heard_client s (HearsUnfit orig) = refl
heard_client s (HearsOther client) = refl
heard_client s (HearsBad fault) = refl
