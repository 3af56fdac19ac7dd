-- What a call is to the flat machine.
use Rattle.std.specs.Prelude.{ℕ, ◌≡◌, List, take, Some, Result, Ok, Err, IfErr, slice_get, slice_set}
use Rattle.cl_types.specs.declared.config.OffloadConfig.{OffloadConfig}
use Rattle.cl_types.specs.declared.reply.Refusal.{Refusal}
use Rattle.cl_types.specs.declared.reply.Reply.{Reply}
use Rattle.cl_types.specs.declared.reply.Reply.TheVariants.{Refused, Got}
use Rattle.flat_model.specs.State.{FlatState}
use Rattle.flat_model.specs.Step.{offload}
use Rattle.offload_host.specs.Held.{TakesStep, object_of}

-- the reply to an Offload of which at most `most` bytes are answered, by what a call gave and what it left to answer
abbrev pub replied : ℕ → Result ℕ Refusal → List ℕ → Reply
replied most (Ok len) out = Got (take most (take len out))
replied most (Err refusal) out = Refused refusal

-- the state in which these bytes hold the object of an offload
abbrev pub with_object : FlatState → ℕ → OffloadConfig → List ℕ → FlatState
with_object s number offload contents =
    record s { objects = slice_set s.objects number (object_of offload contents) }

-- where the machine's object is the one that a space held, a call on that space is the machine's Offload
abbrev pub CallsAreOffloads : Type 0
CallsAreOffloads =
    (s : FlatState) (number op most : ℕ) (bytes : List ℕ) (offloaded : OffloadConfig)
    (old new : List ℕ) (result : Result ℕ Refusal) (out : List ℕ)
    → slice_get s.objects number ≡ Some (object_of offloaded old)
    → TakesStep offloaded old op bytes result out new → IfErr result (λ _. new ≡ old)
    → offload s number op most bytes
    ≡ record { reply = replied most result out; state = with_object s number offloaded new }
