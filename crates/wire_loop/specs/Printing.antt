-- What a driven client prints, as text.
use Rattle.std.specs.Prelude.{[], ◌∷◌, decimal, codes}
use Rattle.texts.specs.Text.{Text, line_of}
use Rattle.wire_loop.specs.Driving.{Printed, NotIssued, Answered}
use Rattle.texts.specs.Texts.{answer_text, fault_text}

-- one line for a call that was not taken, or that ended, by its line in the script
abbrev pub printed_text : Printed → Text
printed_text (NotIssued line fault) = line_of (decimal line ∷ codes "not issued" ∷ fault_text fault ∷ [])
printed_text (Answered line ended) = line_of (decimal line ∷ answer_text ended.answer ended.bytes ∷ [])
