-- Generated schedules: the numbers of a generator, drawn in the order in which they are named here.
use Rattle.std.specs.Prelude.{ℕ, zero, suc, ◌+◌, ◌*◌, ◌%◌, ◌==◌, nat_lt, List, [], ◌∷◌, ◌++◌, flat_map, map, if◌then◌else◌, codes}
use Rattle.std.specs.List.{enumerate_from}
use Rattle.rand_core.specs.Pcg32Seed.{pcg32_seed}
use Rattle.rand_pcg.specs.Lcg.{Lcg}
use Rattle.rand_pcg.specs.Pcg.{pcg32, pcg32_of_seed}
use Rattle.cl_types.specs.declared.config.Config.{Config}
use Rattle.cl_types.specs.declared.limits.TheConstants.{PAGE_BYTES}
use Rattle.cl_types.specs.declared.numbers.Addr.{Addr}
use Rattle.cl_types.specs.declared.call.Perm.TheVariants.{ReadWrite}
use Rattle.cl_types.specs.declared.call.AtomicOp.TheVariants.{Lock, Add}
use Rattle.cl_types.specs.declared.schedule.CallText.{CallText}
use Rattle.cl_types.specs.declared.schedule.CallText.TheVariants as call
use Rattle.cl_types.specs.declared.schedule.Event.{Event}
use Rattle.cl_types.specs.declared.schedule.Event.TheVariants as event
use Rattle.cl_types.specs.declared.schedule.Schedule.{Schedule}
use Rattle.storm_gen.specs.declared.choice.Choice.{Choice}
use Rattle.texts.specs.Text.{Text, line_end}

-- ---- draws
-- what was drawn, and the generator after it
abbrev pub Drawn : Type 0 → Type 0
Drawn A = A × Lcg

-- the generator as a seed starts it
unfoldable pub generator : ℕ → Lcg
generator seed = pcg32_of_seed (pcg32_seed 16 seed)

-- the generator's next word modulo n
unfoldable pub draw : ℕ → Lcg → Drawn ℕ
draw n g = let word : ℕ × Lcg = pcg32 g in (word.0 % n, word.1)

-- ---- one call
-- the address at an offset, in bytes, of a page
abbrev pub address_of : (page offset : ℕ) → Addr
address_of page offset = record { 0 = page * PAGE_BYTES + offset }

-- draws a client, a kind of call, a page, an offset in it, and a number of bytes
abbrev pub choice : Lcg → Drawn Choice
choice g =
    let client : Drawn ℕ = draw 4 g in
    let kind : Drawn ℕ = draw 8 client.1 in
    let page : Drawn ℕ = draw 136 kind.1 in
    let offset : Drawn ℕ = draw 504 page.1 in
    let len : Drawn ℕ = draw 64 offset.1 in
    let addr : Addr = address_of (1 + page.0) (8 * offset.0) in
    (record { client = record { 0 = 1 + client.0 }; kind = kind.0; addr = addr; len = 1 + len.0 }, len.1)

-- a Write of bytes of one drawn value
abbrev pub write_drawn : Choice → Drawn ℕ → Drawn CallText
write_drawn c value = (call.Write c.addr (record { bytes = value.0 ∷ []; times = c.len }), value.1)

-- a Fence in one case of eight, and else a Lock
abbrev pub fence_or_lock : Choice → Drawn ℕ → Drawn CallText
fence_or_lock c chance = (if chance.0 == 0 then call.Fence else call.Atomic c.addr Lock, chance.1)

-- of eight kinds three read and three write, one adds, and the last is a Fence or a Lock
abbrev pub call_drawn : Choice → Lcg → Drawn CallText
call_drawn c g =
    if nat_lt c.kind 3 then (call.Read c.addr c.len, g)
    else if nat_lt c.kind 6 then write_drawn c (draw 256 g)
    else if c.kind == 6 then (call.Atomic c.addr (Add 1), g)
    else fence_or_lock c (draw 8 g)

-- ---- one round: a call, two polls, three frames, and now and then a repeat and a tick
-- a poll of the drawn client
abbrev pub poll_drawn : Drawn ℕ → Drawn Event
poll_drawn client = (event.Poll (record { 0 = 1 + client.0 }), client.1)

-- the next frame is dropped in one case of twenty, and else delivered
abbrev pub frame_drawn : Lcg → Drawn Event
frame_drawn g = let chance : Drawn ℕ = draw 20 g in (if chance.0 == 0 then event.Drop else event.DeliverNext, chance.1)

-- in round i, in one case of ten, a frame is delivered by its number, drawn from 1 to 4 times i
abbrev pub repeat_of : ℕ → Drawn ℕ → Drawn (List Event)
repeat_of i chance =
    if chance.0 == 0
    then (let frame : Drawn ℕ = draw (4 * i) chance.1 in (event.Deliver (1 + frame.0) ∷ [], frame.1))
    else ([], chance.1)

-- time goes on by this number of ticks, and 0 is no event
abbrev pub tick_of : Drawn ℕ → Drawn (List Event)
tick_of by = (if by.0 == 0 then [] else event.Tick by.0 ∷ [], by.1)

-- a drawn call, a poll of its client, and a poll of a drawn client
abbrev pub called : Lcg → Drawn (List Event)
called g =
    let c : Drawn Choice = choice g in
    let call : Drawn CallText = call_drawn c.0 c.1 in
    let other : Drawn Event = poll_drawn (draw 4 call.1) in
    (event.Call c.0.client call.0 ∷ event.Poll c.0.client ∷ other.0 ∷ [], other.1)

-- three frames
abbrev pub frames_drawn : Lcg → Drawn (List Event)
frames_drawn g =
    let first : Drawn Event = frame_drawn g in
    let second : Drawn Event = frame_drawn first.1 in
    let third : Drawn Event = frame_drawn second.1 in
    (first.0 ∷ second.0 ∷ third.0 ∷ [], third.1)

-- the events of round i
unfoldable pub round : ℕ → Lcg → Drawn (List Event)
round i g =
    let call : Drawn (List Event) = called g in
    let frames : Drawn (List Event) = frames_drawn call.1 in
    let repeat : Drawn (List Event) = repeat_of i (draw 10 frames.1) in
    let tick : Drawn (List Event) = tick_of (draw 3 repeat.1) in
    (call.0 ++ frames.0 ++ repeat.0 ++ tick.0, tick.1)

-- so many rounds, counted from i
abbrev pub rounds : ℕ → ℕ → Lcg → List Event
rounds i zero g = []
rounds i (suc left) g = let drawn : Drawn (List Event) = round i g in drawn.0 ++ rounds (i + 1) left drawn.1

-- ---- the whole
-- the client allocates 64 pages, and both frames are delivered
abbrev pub allocates : ℕ → List Event
allocates client =
    event.Call (record { 0 = client }) (call.Alloc 64 ReadWrite) ∷ event.Poll (record { 0 = client })
    ∷ event.DeliverNext ∷ event.DeliverNext ∷ []

-- the next frame is delivered so many times
abbrev pub deliveries : ℕ → List Event
deliveries zero = []
deliveries (suc n) = event.DeliverNext ∷ deliveries n

-- each of these clients is polled
abbrev pub polls : List ℕ → List Event
polls clients = map (λ c. event.Poll (record { 0 = c })) clients

-- each client is polled, eight frames are handed out, and time goes on
unfoldable pub settle : List Event
settle = polls (1 ∷ 2 ∷ 3 ∷ 4 ∷ []) ++ deliveries 8 ++ event.Tick 10 ∷ []

-- so many times all of this
unfoldable pub settles : ℕ → List Event
settles zero = []
settles (suc n) = settle ++ settles n

-- all events: each client allocates, one round for each call, and 64 closing rounds
abbrev pub events_drawn : (seed calls : ℕ) → List Event
events_drawn seed calls = flat_map allocates (1 ∷ 2 ∷ 3 ∷ 4 ∷ []) ++ rounds 1 calls (generator seed) ++ settles 64

-- the header of every generated schedule
abbrev pub header : Text
header =
    codes "node 512 1024 16 4096" ++ line_end ++ codes "client 1 1" ++ line_end ++ codes "client 2 1" ++ line_end
    ++ codes "client 3 2" ++ line_end ++ codes "client 4 2" ++ line_end

-- the node of every generated schedule, and its four clients
abbrev pub config : Config
config = record {
  node = record { pages = 512; buckets = 1024; ring = 16; retry = 4096; offloads = [] };
  clients = (record { 0 = 1 }, 1) ∷ (record { 0 = 2 }, 1) ∷ (record { 0 = 3 }, 2) ∷ (record { 0 = 4 }, 2) ∷ [];
}

-- the schedule of a seed and a number of calls; its five header lines come first
abbrev pub generated : (seed calls : ℕ) → Schedule
generated seed calls = record { header = header; config = config; events = enumerate_from 6 (events_drawn seed calls) }
