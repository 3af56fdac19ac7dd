use Rattle.std.proofs.Common.{◌≡◌, sym, ◌∙◌, Option, Some}
use Rattle.cl_types.specs.Requests.{request_of}
use Rattle.cl_types.specs.declared.request.Request.{Request}
use Rattle.client_core.proofs.Written.{written_bytes, written_len}
use Rattle.client_core.proofs.Ranges.{asked_in_range}
use Rattle.client_core.proofs.frames.write_part.Goals as goal

pub write_request-requires-clause-body : goal.write_request-requires-clause-body
write_request-requires-clause-body c = asked_in_range c.args.calls.now.held c.args.part (request_of c.request-asked.result) c.requires.fits c.request-asked.ensures c.has_its_types.ensures

one_request : (p q : Request) → ◌≡◌ {A = Option Request} (Some p) (Some q) → p ≡ q
one_request p q e = cc

pub returns-clause-len : goal.returns-clause-len
returns-clause-len c = λ q e.
    written_len c.args.head.now (request_of c.request-asked.result) q c.write_request.result c.args.out.now c.write_request.new.out c.write_request.ensures.written
    (one_request (request_of c.request-asked.result) q (sym c.request-asked.ensures ∙ e))

pub returns-clause-bytes : goal.returns-clause-bytes
returns-clause-bytes c = λ q e.
    written_bytes c.args.head.now (request_of c.request-asked.result) q c.write_request.result c.args.out.now c.write_request.new.out c.write_request.ensures.written
    (one_request (request_of c.request-asked.result) q (sym c.request-asked.ensures ∙ e))
