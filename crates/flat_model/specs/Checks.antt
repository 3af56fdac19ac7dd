-- What checking one kind of step tells. No public clause cites this module.
use Rattle.std.specs.Prelude.{ℕ, ◌≡◌, ◌↔◌, Bool, List, take, Some, Result, Ok, Err, slice_get, slice_set, if◌then◌else◌, IsTrue}
use Rattle.cl_types.specs.declared.call.Perm.{Perm}
use Rattle.cl_types.specs.declared.numbers.Addr.{Addr}
use Rattle.cl_types.specs.declared.reply.Refusal.{Refusal}
use Rattle.cl_types.specs.declared.reply.Reply.{Reply}
use Rattle.cl_types.specs.declared.reply.Reply.TheVariants.{Refused, Got}
use Rattle.flat_model.specs.Objects.{Object, KvObject, Pairs, Given, object_step}
use Rattle.cl_types.specs.Pages.{page_of}
use Rattle.flat_model.specs.State.{FlatState, Page}
use Rattle.flat_model.specs.Step.{Transition, on_bytes, refused}

-- What looking for the page of an address gives, that is to get bytes: why it gets none, or the position of its entry.
abbrev pub Opens : FlatState → ℕ → Addr → (Perm → Bool) → Result ℕ Refusal → Type 0
Opens s pid addr may (Err refusal) = (go : Page → Transition) → on_bytes s pid addr may go ≡ refused s refusal
Opens s pid addr may (Ok i) =
    (page : Page) × (slice_get s.map i ≡ Some ((pid, page_of addr), page)) × ((go : Page → Transition) → on_bytes s pid addr may go ≡ go page)

-- whether the machine gives this reply, and the state after it, which is the old one where it doesn't
pub record Checks (old : FlatState) (outcome : Transition) (reply : Reply) (may : Bool) (new : FlatState) : Type 0 where
  pub allowed : IsTrue may ↔ (reply ≡ outcome.reply)
  pub after : new ≡ (if may then outcome.state else old)

-- ---- objects
-- the reply of an object, with so many bytes of its answer
abbrev pub reply_given : ℕ → Given → Reply
reply_given out (Err refusal) = Refused refusal
reply_given out (Ok (answer, object)) = Got (take out answer)

-- the object after it
abbrev pub object_given : Object → Given → Object
object_given old (Err refusal) = old
object_given old (Ok (answer, object)) = object

-- whether the object gives this reply, and the object after it, which is the old one where it doesn't
pub record ChecksObject (old : Object) (given : Given) (out : ℕ) (reply : Reply) (may : Bool) (new : Object) : Type 0 where
  pub allowed : IsTrue may ↔ (reply ≡ reply_given out given)
  pub after : new ≡ (if may then object_given old given else old)

-- the same of the pairs of a key-value store
abbrev pub ChecksPairs : ℕ → Pairs → Given → ℕ → Reply → Bool → Pairs → Type 0
ChecksPairs records old given out reply may new = ChecksObject (KvObject records old) given out reply may (KvObject records new)

-- the same of one object of a list
pub record ChecksOne (objects : List Object) (number : ℕ) (object : Object) (op : ℕ) (bytes : List ℕ) (out : ℕ) (reply : Reply) (may : Bool) (rest : List Object) : Type 0 where
  pub new : Object
  pub checks : ChecksObject object (object_step object op bytes) out reply may new
  pub set : rest ≡ slice_set objects number new
