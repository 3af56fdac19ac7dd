-- The law of locks: a word that was locked is not locked again before it was released.
use Rattle.std.specs.Prelude.{ℕ, ◌+◌, ◌==◌, ◌≡◌, Bool, true, false, ◌&&◌, not, leb, nat_lt, List, ◌∷◌, ◌++◌, length}
use Rattle.std.specs.List.{list_any}
use Rattle.cl_types.specs.declared.call.AtomicOp.{AtomicOp}
use Rattle.cl_types.specs.declared.call.AtomicOp.TheVariants.{Lock}
use Rattle.cl_types.specs.declared.config.NodeConfig.{NodeConfig}
use Rattle.cl_types.specs.declared.line.Entry.{Entry}
use Rattle.cl_types.specs.declared.numbers.Addr.{Addr}
use Rattle.cl_types.specs.declared.reply.Reply.{Reply}
use Rattle.cl_types.specs.declared.reply.Reply.TheVariants.{Refused, Word}
use Rattle.cl_types.specs.declared.request.Request.{Request}
use Rattle.cl_types.specs.declared.request.Request.TheVariants as request
use Rattle.cl_types.specs.Pages.{page_of}
use Rattle.flat_model.specs.Run.{IsRun}

-- the entry is a Lock of the word at this address of a process, and the word was 0
pub record TakesLock (pid : ℕ) (word : Addr) (e : Entry) : Type 0 where
  pub process : e.pid ≡ pid
  pub request : e.request ≡ request.Atomic word Lock
  pub reply : e.reply ≡ Word 0

-- the operation is a Lock
abbrev pub is_lock : AtomicOp → Bool
is_lock Lock = true
is_lock other = false

-- the request touches the word by a Write, an Unlock, an Add or a Cas, or frees its page
abbrev pub may_release : Addr → Request → Bool
may_release word (request.Write addr bytes) =
    nat_lt addr.0 (word.0 + 8) && nat_lt word.0 (addr.0 + length bytes)
may_release word (request.Atomic addr op) = addr.0 == word.0 && not (is_lock op)
may_release word (request.Free addr n) =
    leb (page_of addr) (page_of word) && nat_lt (page_of word) (page_of addr + n)
may_release word other = false

-- the reply is a refusal
abbrev pub is_refused : Reply → Bool
is_refused (Refused refusal) = true
is_refused other = false

-- the entry is such a request of the process, and was not refused
abbrev pub releases : ℕ → Addr → Entry → Bool
releases pid word e = e.pid == pid && may_release word e.request && not (is_refused e.reply)

-- in every run, between two Locks that both took one word stands an entry that releases it
abbrev pub LawOfLocks : Type 0
LawOfLocks =
    (c : NodeConfig) (front between back : List Entry) (first second : Entry)
    (pid : ℕ) (word : Addr)
    → IsRun c (front ++ first ∷ (between ++ second ∷ back))
    → TakesLock pid word first → TakesLock pid word second
    → list_any (releases pid word) between ≡ true
