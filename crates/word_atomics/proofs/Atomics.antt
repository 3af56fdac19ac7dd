-- What an Atomic does with the page.
use Rattle.std.specs.Prelude.{ℕ}
use Rattle.std.specs.Int.{to_le_bytes, w64}
use Rattle.cl_types.specs.declared.call.AtomicOp.{AtomicOp}
use Rattle.cl_types.specs.declared.numbers.Addr.{Addr}
use Rattle.cl_types.specs.declared.reply.Reply.TheVariants.{Word}
use Rattle.cl_types.specs.Pages.{offset_of, word_after, word_at}
use Rattle.flat_model.specs.State.{FlatState, Page, bytes_of}
use Rattle.flat_model.specs.Step.{Transition, puts}

-- the outcome with a page that is open
abbrev pub changes : FlatState → ℕ → Addr → AtomicOp → Page → Transition
changes s pid addr op page =
    let word = word_at (offset_of addr) (bytes_of page) in
    puts s pid addr page (to_le_bytes w64 (word_after op word)) (Word word)
