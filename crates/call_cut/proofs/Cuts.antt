-- A call is cut by the length of its buffer, whatever stands there.
use Rattle.std.proofs.Common.{◌≡◌, ℕ, slice_get, ap, sym, ◌∙◌}
use Rattle.cl_types.specs.declared.call.Call.{Call}
use Rattle.cl_types.specs.declared.call.Call.TheVariants as call
use Rattle.cl_types.specs.declared.reply.Reply.{Reply}
use Rattle.cl_types.specs.declared.request.Request.TheVariants as request
use Rattle.client_model.specs.Client.{emptied}
use Rattle.client_model.specs.Cut.{cut}
use Rattle.call_cut.specs.Taking.{TakesFor}
use Rattle.client_model.proofs.Buffers.{cut_emptied}

-- calls that differ in their buffers' bytes alone take the same replies
pub takes_alike : {k k' : Call} (i : ℕ) (r : Reply) → emptied k' ≡ emptied k → TakesFor k i r → TakesFor k' i r
takes_alike {k} {k'} i r same takes = record {
  asked = takes.asked;
  there = ap (λ parts. slice_get parts i) (sym (cut_emptied k') ∙ ap cut same ∙ cut_emptied k) ∙ takes.there;
  fits = takes.fits;
}
