-- The tables of calls and lines by their words, and a client in front of a call.
use Rattle.std.proofs.Common.{◌≡◌, ℕ, suc, nat_lt, Bool, true, false, cond, List, [], ◌∷◌, length, refl, sym, ◌∙◌, ap, arith, Option, Some, None, option_map, Result, Ok, Err}
use Rattle.std.specs.Result.{result_err}
use Rattle.std.proofs.lemmas.Bool.Decides.{nat_tests}
use Rattle.cl_types.specs.declared.numbers.ClientNo.{ClientNo}
use Rattle.cl_types.specs.declared.schedule.CallText.{CallText}
use Rattle.cl_types.specs.declared.schedule.Event.TheVariants as event
use Rattle.cl_types.specs.declared.schedule.What.{What}
use Rattle.cl_types.specs.declared.schedule.What.TheVariants.{ExtraWord, MissingWord, UnknownWord}
use Rattle.texts.specs.Text.{Text, is_text}
use Rattle.texts.specs.Words.{N, Value, argument_in, arguments_in, values_in, with_first}
use Rattle.texts.specs.Grammar.{CallForm, Happens, Statement, by_word, call_form, call_forms, called_by, in_call, line_forms, of_client, said_by, said_in_form, u16}
use Rattle.schedule_text.specs.Arguments.{values_after}
use Rattle.schedule_text.specs.Calls.{call_after, call_words, form_of}
use Rattle.schedule_text.specs.Lines.{begun_of, joined, line_words}
use Rattle.schedule_text.specs.Telling.{told}
use Rattle.schedule_text.specs.declared.calls.CallWord.{CallWord}

-- a table of values that are made of those of another
abbrev pub made : {A B : Type 0} → (A → B) → List (Text × A) → List (Text × B)
made f [] = []
made f (e ∷ es) = (e.0, f e.1) ∷ made f es

by_test : {A B : Type 0} (f : A → B) (test : Bool) (a : A) (others : Option A) → cond test (Some (f a)) (option_map f others) ≡ option_map f (cond test (Some a) others)
by_test f true a others = refl
by_test f false a others = refl

pub by_word-made : {A B : Type 0} (f : A → B) (word : Text) (table : List (Text × A)) → by_word word (made f table) ≡ option_map f (by_word word table)
by_word-made f word [] = refl
by_word-made f word (e ∷ es) = rw (by_word-made f word es) (by_test f (is_text word e.0) e.1 (by_word word es))

pub call_forms_by_word : (word : Text) → by_word word call_forms ≡ option_map form_of (by_word word call_words)
call_forms_by_word word = by_word-made form_of word call_words

pub line_forms_by_word : (word : Text) (ws : List Text) → by_word word (line_forms ws) ≡ option_map (begun_of ws) (by_word word line_words)
line_forms_by_word word ws = by_word-made (begun_of ws) word line_words

-- ---- a client in front of a call
abbrev client_value : ClientNo → Value
client_value client = N client.0

one_more : (a b : ℕ) → nat_lt (suc a) (suc b) ≡ nat_lt a b
one_more a b = grind (arith, nat_tests)

call_said_by : (client : ClientNo) (call : Option CallText)
    → elim (option_map (λ (c : CallText). Happens (event.Call client c)) call) as (λ _. Result Statement What) [ None ↦ Err UnknownWord | Some said ↦ Ok said ]
    ≡ joined (Ok client) (elim call as (λ _. Result CallText What) [ None ↦ Err UnknownWord | Some c ↦ Ok c ])
call_said_by client None = refl
call_said_by client (Some call) = refl

call_by_counts : (fewer more : Bool) (client : Result ClientNo What) (f : CallForm) (ws : List Text)
    → said_by (of_client f.calls) (cond fewer (Err MissingWord) (cond more (Err ExtraWord) (with_first (told client_value client) (values_in f.arguments ws))))
    ≡ joined client (called_by f.calls (cond fewer (Err MissingWord) (cond more (Err ExtraWord) (values_after (result_err client) f.arguments ws))))
call_by_counts true more (Ok client) f ws = refl
call_by_counts true more (Err what) f ws = refl
call_by_counts false true (Ok client) f ws = refl
call_by_counts false true (Err what) f ws = refl
call_by_counts false false (Err what) f ws = refl
call_by_counts false false (Ok client) f ws = by (values_in f.arguments ws)
  where
    by : (values : Result (List Value) What) → said_by (of_client f.calls) (with_first (Ok (client_value client)) values) ≡ joined (Ok client) (called_by f.calls values)
    by (Err what) = refl
    by (Ok values) = call_said_by client (f.calls values)

call_in_form : (client : Result ClientNo What) (number : Text) (f : CallForm) (ws : List Text) → told client_value client ≡ argument_in u16 number
    → said_by (of_client f.calls) (arguments_in (u16 ∷ f.arguments) (number ∷ ws)) ≡ joined client (call_after (result_err client) f ws)
call_in_form client number f ws e =
    rw (one_more (length ws) (length f.arguments), one_more (length f.arguments) (length ws), ← e)
    (call_by_counts (nat_lt (length ws) (length f.arguments)) (nat_lt (length f.arguments) (length ws)) client f ws)

said_in_call : (client : Result ClientNo What) (number name : Text) (word : CallWord) (ws : List Text) → told client_value client ≡ argument_in u16 number
    → Some word ≡ by_word name call_words → said_in_form (in_call (number ∷ name ∷ ws)) ≡ joined client (call_after (result_err client) (form_of word) ws)
said_in_call client number name word ws e named =
    let form : by_word name call_forms ≡ Some (form_of word) = call_forms_by_word name ∙ ap (λ (o : Option CallWord). option_map form_of o) (sym named) in
    ap (λ (o : Option CallForm). said_in_form (call_form o, number ∷ ws)) form ∙ call_in_form client number (form_of word) ws e

-- the call of a good client, and one behind a bad number
pub said_in_good : (client : ClientNo) (number name : Text) (word : CallWord) (ws : List Text) → Ok (N client.0) ≡ argument_in u16 number
    → Some word ≡ by_word name call_words → said_in_form (in_call (number ∷ name ∷ ws)) ≡ joined (Ok client) (call_after None (form_of word) ws)
said_in_good client number name word ws e named = said_in_call (Ok client) number name word ws e named

pub said_in_bad : (what : What) (number name : Text) (word : CallWord) (ws : List Text) → Err what ≡ argument_in u16 number
    → Some word ≡ by_word name call_words → said_in_form (in_call (number ∷ name ∷ ws)) ≡ joined (Err what) (call_after (Some what) (form_of word) ws)
said_in_bad what number name word ws e named = said_in_call (Err what) number name word ws e named

-- a word that is no call's
pub said_in_none : (number name : Text) (ws : List Text) → None ≡ by_word name call_words → said_in_form (in_call (number ∷ name ∷ ws)) ≡ Err UnknownWord
said_in_none number name ws named =
    let form : by_word name call_forms ≡ None = call_forms_by_word name ∙ ap (λ (o : Option CallWord). option_map form_of o) (sym named) in
    ap (λ (o : Option CallForm). said_in_form (call_form o, number ∷ ws)) form
