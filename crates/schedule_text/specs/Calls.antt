-- The words of calls, and what stands behind each.
use Rattle.std.specs.Prelude.{List, [], ◌∷◌, Option, Result, codes}
use Rattle.std.specs.Borrow.{Bor}
use Rattle.cl_types.specs.declared.schedule.CallText.{CallText}
use Rattle.cl_types.specs.declared.schedule.What.{What}
use Rattle.texts.specs.Text.{Text}
use Rattle.texts.specs.Words.{Address, Number, Permission, BytesWord}
use Rattle.texts.specs.Grammar.{CallForm, called_by, u32, u64, alloc_call, free_call, read_call, write_call, lock_call, unlock_call, add_call, cas_call, offload_call, fence_call}
use Rattle.schedule_text.specs.Arguments.{arguments_after}
use Rattle.schedule_text.specs.Parts.{words_left}
use Rattle.schedule_text.specs.Telling.{Tells}
use Rattle.schedule_text.specs.declared.fault.LineFault.{LineFault}
use Rattle.schedule_text.specs.declared.calls.CallWord.{CallWord}
use Rattle.schedule_text.specs.declared.calls.CallWord.TheVariants as word

-- the words, in the order of the grammar
abbrev pub call_words : List (Text × CallWord)
call_words =
    (codes "alloc", word.Alloc) ∷ (codes "free", word.Free) ∷ (codes "read", word.Read) ∷ (codes "write", word.Write)
    ∷ (codes "lock", word.Lock) ∷ (codes "unlock", word.Unlock) ∷ (codes "add", word.Add) ∷ (codes "cas", word.Cas)
    ∷ (codes "offload", word.Offload) ∷ (codes "fence", word.Fence) ∷ []

-- the form of the call of a word
abbrev pub form_of : CallWord → CallForm
form_of word.Alloc = record { arguments = u32 ∷ Permission ∷ []; calls = alloc_call }
form_of word.Free = record { arguments = Address ∷ u32 ∷ []; calls = free_call }
form_of word.Read = record { arguments = Address ∷ Number 0 70000 ∷ []; calls = read_call }
form_of word.Write = record { arguments = Address ∷ BytesWord ∷ []; calls = write_call }
form_of word.Lock = record { arguments = Address ∷ []; calls = lock_call }
form_of word.Unlock = record { arguments = Address ∷ []; calls = unlock_call }
form_of word.Add = record { arguments = Address ∷ u64 ∷ []; calls = add_call }
form_of word.Cas = record { arguments = Address ∷ u64 ∷ u64 ∷ []; calls = cas_call }
form_of word.Offload = record { arguments = Number 0 255 ∷ Number 0 255 ∷ Number 0 70000 ∷ BytesWord ∷ []; calls = offload_call }
form_of word.Fence = record { arguments = []; calls = fence_call }

-- the call of a form, where nothing is wrong with the word in front
abbrev pub call_after : Option What → CallForm → List Text → Result CallText What
call_after before f texts = called_by f.calls (arguments_after before f.arguments texts)

-- the call of a word, of the words behind it, where nothing is wrong with the word before
abbrev pub GivesCall : Option What → CallWord → Option (Bor Text) → Result CallText LineFault → Type 0
GivesCall before name rest result = Tells result (call_after before (form_of name) (words_left rest))
