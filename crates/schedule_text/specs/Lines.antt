-- The lines of a schedule by their first words, and what they say.
use Rattle.std.specs.Prelude.{List, [], ◌∷◌, Option, Result, Ok, Err, codes}
use Rattle.std.specs.Borrow.{Bor}
use Rattle.cl_types.specs.declared.numbers.ClientNo.{ClientNo}
use Rattle.cl_types.specs.declared.schedule.CallText.{CallText}
use Rattle.cl_types.specs.declared.schedule.Event.TheVariants as event
use Rattle.cl_types.specs.declared.schedule.What.{What}
use Rattle.texts.specs.Text.{Text}
use Rattle.texts.specs.Words.{Address, Number}
use Rattle.texts.specs.Grammar.{Begun, bare, client_says, form, in_call, in_deliver, in_garbage, in_offload, node_says, of_number, peek_says, said_in_form, u16, u64}
use Rattle.texts.specs.Grammar as grammar
use Rattle.schedule_text.specs.Parts.{words_left}
use Rattle.schedule_text.specs.Telling.{TellsBy}
use Rattle.schedule_text.specs.declared.fault.LineFault.{LineFault}
use Rattle.schedule_text.specs.declared.said.LineWord.{LineWord}
use Rattle.schedule_text.specs.declared.said.LineWord.TheVariants as word
use Rattle.schedule_text.specs.declared.said.Statement.{Statement}
use Rattle.schedule_text.specs.declared.said.Statement.TheVariants as said
use Rattle.cl_types.specs.declared.limits.TheConstants.{MOST_TICKS}

-- the first words, in the order of the grammar
abbrev pub line_words : List (Text × LineWord)
line_words =
    (codes "node", word.Node) ∷ (codes "offload", word.Offload) ∷ (codes "client", word.Client) ∷ (codes "call", word.Call)
    ∷ (codes "poll", word.Poll) ∷ (codes "deliver", word.Deliver) ∷ (codes "drop", word.Drop) ∷ (codes "tick", word.Tick)
    ∷ (codes "peek", word.Peek) ∷ (codes "show", word.Show) ∷ (codes "stat", word.Stat) ∷ (codes "garbage", word.Garbage) ∷ []

-- the form of the line of a word, and the words that are its arguments
abbrev pub begun_of : List Text → LineWord → Begun
begun_of ws word.Node = (form (u64 ∷ u64 ∷ u64 ∷ u64 ∷ []) node_says, ws)
begun_of ws word.Offload = in_offload ws
begun_of ws word.Client = (form (u16 ∷ Number 1 65279 ∷ []) client_says, ws)
begun_of ws word.Call = in_call ws
begun_of ws word.Poll = (form (u16 ∷ []) (of_number (λ n. event.Poll (record { 0 = n }))), ws)
begun_of ws word.Deliver = in_deliver ws
begun_of ws word.Drop = (form [] (bare event.Drop), ws)
begun_of ws word.Tick = (form (Number 1 MOST_TICKS ∷ []) (of_number event.Tick), ws)
begun_of ws word.Peek = (form (Number 1 65279 ∷ Address ∷ Number 1 1024 ∷ []) peek_says, ws)
begun_of ws word.Show = (form (Number 1 4294967295 ∷ []) (of_number event.Show), ws)
begun_of ws word.Stat = (form [] (bare event.Stat), ws)
begun_of ws word.Garbage = in_garbage ws

-- what a line says, as the grammar has it
abbrev pub said_of : Statement → grammar.Statement
said_of (said.Node pages buckets ring retry) = grammar.Node pages buckets ring retry
said_of (said.Offload config) = grammar.Offload config
said_of (said.Client number pid) = grammar.Client number pid
said_of (said.Happens event) = grammar.Happens event

-- what a line says by its client and its call
abbrev pub joined : Result ClientNo What → Result CallText What → Result grammar.Statement What
joined (Ok client) (Ok call) = Ok (grammar.Happens (event.Call client call))
joined (Ok client) (Err what) = Err what
joined (Err what) (Ok call) = Err what
joined (Err what) (Err other) = Err other

-- the line of a word says this, with the words behind it
abbrev pub Says : LineWord → Option (Bor Text) → Result Statement LineFault → Type 0
Says name rest result = TellsBy said_of result (said_in_form (begun_of (words_left rest) name))

-- a client and its call say this
abbrev pub SaysCall : Result ClientNo What → Result CallText What → Result Statement LineFault → Type 0
SaysCall client call result = TellsBy said_of result (joined client call)
