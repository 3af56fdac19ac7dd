use Rattle.cl_types.proofs.RangeLemmas.{all_bytes}
use Rattle.client_core.proofs.frames.are_of_bytes.Goals as goal

pub returns : goal.returns
returns c = all_bytes c.args.bytes.now (λ i. c.type_inv.bytes i)
