-- Where the bytes of a call's parts stand in its buffer: part after part, each as many as the part asks.
use Rattle.std.specs.Prelude.{ℕ, zero, suc, ◌+◌, List, [], ◌∷◌, length, map}
use Rattle.cl_types.specs.declared.call.Call.{Call}
use Rattle.cl_types.specs.declared.call.Call.TheVariants as call
use Rattle.client_model.specs.Cut.{pieces}

-- how many bytes of the call's buffer each part may fill
abbrev pub fills : Call → List ℕ
fills (call.Read addr buf) = map (λ piece. piece.1) (pieces addr.0 (length buf))
fills (call.Write addr bytes) = map (λ piece. 0) (pieces addr.0 (length bytes))
fills (call.Offload number op bytes buf) = length buf ∷ []
fills call.Fence = []
fills other = 0 ∷ []

-- the sum of the first i numbers
abbrev pub before : ℕ → List ℕ → ℕ
before zero ns = 0
before (suc i) [] = 0
before (suc i) (n ∷ ns) = n + before i ns
