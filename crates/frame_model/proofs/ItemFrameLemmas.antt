-- Frames for the node, by their items.
use Rattle.std.proofs.Common.{◌≡◌, [], ◌∷◌, refl, sym, ◌∙◌}
use Rattle.frame_model.specs.Frames.{items_in}
use Rattle.frame_model.specs.FrameLaws.{FramesAreReadAgain, FaultlessFramesAreSpelled}
use Rattle.frame_model.proofs.RequestFrameLemmas.{requests_are_read_again}
use Rattle.frame_model.proofs.FaultlessRequestLemmas.{faultless_requests_are_spelled}

pub frames_are_read_again : FramesAreReadAgain
frames_are_read_again bytes client pid items spells =
    let read = requests_are_read_again bytes spells.item.head spells.item.request spells.spelled in
    let only : items_in bytes ≡ spells.item ∷ [] = λ i. record { head = read.same_head i; request = read.same_body i } ∷ [] in
    (read.faultless, only ∙ sym spells.only)

pub faultless_frames_are_spelled : FaultlessFramesAreSpelled
faultless_frames_are_spelled bytes below faultless = record {
  item = record { head = _; request = _ };
  spelled = faultless_requests_are_spelled bytes below faultless;
  of_client = refl;
  of_process = refl;
  only = refl;
}
