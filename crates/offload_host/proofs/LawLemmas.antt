-- A call of a host, and the Offload of the flat machine.
use Rattle.std.proofs.Common.{◌≡◌, ℕ, List, Some, Result, Ok, Err, IfErr, slice_get, slice_set, refl, sym, ap, ◌∙◌}
use Rattle.cl_types.specs.declared.config.OffloadConfig.{OffloadConfig}
use Rattle.cl_types.specs.declared.reply.Refusal.{Refusal}
use Rattle.cl_types.specs.declared.reply.Reply.TheVariants.{Refused}
use Rattle.flat_model.specs.Objects.{Object}
use Rattle.flat_model.specs.State.{FlatState}
use Rattle.flat_model.specs.Step.{given, on_object}
use Rattle.kv_offload.specs.Stored.{answered, given_by}
use Rattle.offload_host.specs.Held.{object_of}
use Rattle.offload_host.specs.Laws.{CallsAreOffloads, replied, with_object}
use Rattle.flat_model.proofs.RunLemmas.{set_same}

-- what a call gave, as the outcome of the machine
given_outcome : (s : FlatState) (number most : ℕ) (offloaded : OffloadConfig) (old new : List ℕ) (result : Result ℕ Refusal) (out : List ℕ)
    → slice_get s.objects number ≡ Some (object_of offloaded old) → IfErr result (λ _. new ≡ old)
    → given s number most (given_by result (answered result out) (object_of offloaded new)) ≡ record { reply = replied most result out; state = with_object s number offloaded new }
given_outcome s number most offloaded old new (Ok len) out there kept = refl
given_outcome s number most offloaded old new (Err refusal) out there kept =
    let again : slice_set s.objects number (object_of offloaded new) ≡ s.objects =
    ap (λ (contents : List ℕ). slice_set s.objects number (object_of offloaded contents)) kept ∙ set_same s.objects number (object_of offloaded old) there in
    ap (λ (objects : List Object). record { reply = Refused refusal; state = record s { objects = objects } }) (sym again)

pub call_is_offload : CallsAreOffloads
call_is_offload s number op most bytes offloaded old new result out there steps kept =
    ap (on_object s number op most bytes) there
    ∙ ap (given s number most) (sym steps)
    ∙ given_outcome s number most offloaded old new result out there kept
