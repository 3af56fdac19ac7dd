-- Which part of a call is meant.
use Rattle.std.specs.Prelude.{◌==◌, Bool, ◌&&◌}
use Rattle.cl_types.specs.declared.reply.Part.{Part}
use Rattle.cl_types.specs.declared.numbers.ClientNo.{ClientNo}

-- both name one part of one call
abbrev pub same_part : Part → Part → Bool
same_part p q = p.call.0 == q.call.0 && p.part == q.part

-- the two numbers are of one client
abbrev pub same_client : ClientNo → ClientNo → Bool
same_client c d = c.0 == d.0
