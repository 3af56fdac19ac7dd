-- What the types of a request's numbers tell. No public clause cites this module.
use Rattle.std.specs.Prelude.{Bool, true, ◌&&◌, nat_lt}
use Rattle.cl_types.specs.declared.request.Request.{Request}
use Rattle.cl_types.specs.declared.request.Request.TheVariants as request
use Rattle.cl_types.specs.Ranges.{are_bytes, has_words}

-- the numbers of the request are those of their types
abbrev pub is_typed_request : Request → Bool
is_typed_request (request.Write addr bytes) = are_bytes bytes
is_typed_request (request.Atomic addr op) = has_words op
is_typed_request (request.Offload number op out bytes) = nat_lt number 256 && nat_lt op 256 && are_bytes bytes
is_typed_request other = true
