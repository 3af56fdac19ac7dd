-- What a contract sees of a small reply.
use Rattle.std.specs.Prelude.{ℕ, List, take}
use Rattle.cl_types.specs.declared.small_reply.SmallReply.{SmallReply}

-- the value as it is written in a frame
abbrev pub value_of : SmallReply → List ℕ
value_of reply = take reply.len reply.bytes
