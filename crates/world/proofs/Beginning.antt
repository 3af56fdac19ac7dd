-- The world in which nothing has happened, by its parts.
use Rattle.std.proofs.Common.{◌≡◌, ℕ, zero, suc, ◌<◌, ◌≤◌, List, [], ◌∷◌, Bool, true, false, cond, Option, Some, None, ◌+◌, ◌++◌, refl, sym, ap, ◌∙◌, subst, length, map, take, add-one, arith}
use Rattle.std.specs.Prelude.{Result, Ok, Err, IfErr, MatchOption, find, ◌-◌, option_map, slice_get, unwrap_or, ◌==◌, ◌||◌}
use Rattle.std.specs.List.{AllByRecursion as Each, list_any}
use Rattle.std.specs.Map.{keys_of, lookup, values_of}
use Rattle.std.proofs.Math.Seq.{drop-nil}
use Rattle.cl_types.specs.declared.config.Config.{Config}
use Rattle.cl_types.specs.declared.numbers.ClientNo.{ClientNo}
use Rattle.client_model.specs.Apart.{AreApart}
use Rattle.client_model.specs.Client.{ClientState, new_client}
use Rattle.cl_types.specs.Parts.{same_client}
use Rattle.node_model.specs.Nodes.{opening_node}
use Rattle.trace.specs.Account.{nothing_yet}
use Rattle.flat_model.specs.State.{opening}
use Rattle.trace_laws.specs.NodeLines.{node_at, record_at}
use Rattle.cl_types.specs.declared.line.Entry.{Entry}
use Rattle.cl_types.specs.declared.open_fault.OpenFault.{OpenFault}
use Rattle.cl_types.specs.declared.open_fault.OpenFault.TheVariants as fault
use Rattle.node_core.specs.Keeping.{KeptNode}
use Rattle.data_path.specs.Store.{no_entries}
use Rattle.trace.specs.Clients.{pid_of}
use Rattle.world.specs.Fields.{AreSound, IsSound, IsWithin, numbers_of, world_around, world_of}
use Rattle.world.specs.Follows.{StandsFor, new_world, opened}
use Rattle.world.specs.Running.{HaveNumbersApart, IsFair}
use Rattle.world.specs.Worlds.{WorldState, step}
use Rattle.world.specs.declared.whole.Whole.{Whole}
use Rattle.cl_types.specs.declared.schedule.Event.{Event}
use Rattle.world.proofs.Entries.{step_grows}
use Rattle.world.proofs.Sound.{sound_later, step_sound}
use Rattle.lemmas.proofs.SameParts.{eqb_same as same_self}

abbrev Given : Type 0
Given = ClientNo × ℕ

abbrev numbers : List Given → List ℕ
numbers given = map (λ (g : Given). g.0.0) given

abbrev own_client : Given → ClientState
own_client g = new_client g.0 g.1

first_of : (b c : Bool) → (b || c) ≡ false → b ≡ false
first_of true c h = absurd cc
first_of false c h = refl

rest_of : (b c : Bool) → (b || c) ≡ false → c ≡ false
rest_of true c h = absurd cc
rest_of false c h = h

-- one of the rest has another number
other_number : (given : List Given) (i n : ℕ) (g : Given) → slice_get given i ≡ Some g → list_any (λ m. m == n) (numbers given) ≡ false → (g.0.0 == n) ≡ false
other_number [] i n g there apart = absurd cc
other_number (x ∷ given) zero n g there apart = let is : x ≡ g = cc in ap (λ (y : Given). y.0.0 == n) (sym is) ∙ first_of (x.0.0 == n) _ apart
other_number (x ∷ given) (suc i) n g there apart = other_number given i n g there (rest_of (x.0.0 == n) _ apart)

-- a client is found under its number
found_own : (given : List Given) (i : ℕ) (g : Given) → slice_get given i ≡ Some g → AreApart (numbers given) → find (λ (e : Given). same_client g.0 e.0) given ≡ Some g
found_own [] i g there apart = absurd cc
found_own (x ∷ given) zero g there apart =
    let is : x ≡ g = cc in
    ap (λ (y : Given). find (λ (e : Given). same_client y.0 e.0) (x ∷ given)) (sym is) ∙ ap (λ b. cond b (Some x) (find (λ (e : Given). same_client x.0 e.0) given)) (same_self x.0.0) ∙ ap (λ (y : Given). Some y) is
found_own (x ∷ given) (suc i) g there apart =
    ap (λ b. cond b (Some x) (find (λ (e : Given). same_client g.0 e.0) given)) (other_number given i x.0.0 g there apart.0) ∙ found_own given i g there apart.1

map_same : (f g : Given → ClientState) (given : List Given) → ((i : ℕ) (x : Given) → slice_get given i ≡ Some x → f x ≡ g x) → map f given ≡ map g given
map_same f g [] h = refl
map_same f g (x ∷ given) h = (λ i. h 0 x refl i ∷ map f given) ∙ ap (λ xs. g x ∷ xs) (map_same f g given (λ i y there. h (suc i) y there))

-- each client has the process that was given for it
pub own_clients : (config : Config) → HaveNumbersApart config → map own_client config.clients ≡ (new_world config).clients
own_clients config apart =
    map_same own_client (λ (g : Given). new_client g.0 (pid_of config g.0)) config.clients
    (λ i g there. ap (λ (o : Option Given). new_client g.0 (unwrap_or (option_map (λ (e : Given). e.1) o) 0)) (sym (found_own config.clients i g there apart)))

-- ---- under their numbers
abbrev pub entry_of : Given → ℕ × ClientState
entry_of g = (g.0.0, new_client g.0 g.1)

-- no client before it has its number
pub fresh : (given : List Given) (i : ℕ) (g : Given) → slice_get given i ≡ Some g → AreApart (numbers given) → lookup (λ n. g.0.0 == n) (map entry_of (take i given)) ≡ None
fresh [] i g there apart = absurd cc
fresh (x ∷ given) zero g there apart = refl
fresh (x ∷ given) (suc i) g there apart =
    ap (λ b. cond b (Some (own_client x)) (lookup (λ n. g.0.0 == n) (map entry_of (take i given)))) (other_number given i x.0.0 g there apart.0) ∙ fresh given i g there apart.1

-- one client more
entered_suc : (given : List Given) (i : ℕ) (g : Given) → slice_get given i ≡ Some g → map entry_of (take (suc i) given) ≡ map entry_of (take i given) ++ entry_of g ∷ []
entered_suc [] i g there = absurd cc
entered_suc (x ∷ given) zero g there = let is : x ≡ g = cc in ap (λ y. entry_of y ∷ []) is
entered_suc (x ∷ given) (suc i) g there = ap (λ es. entry_of x ∷ es) (entered_suc given i g there)

pub entered_next : (given : List Given) (i : ℕ) (g : Given) → slice_get given i ≡ Some g → map entry_of (take (i + 1) given) ≡ map entry_of (take i given) ++ entry_of g ∷ []
entered_next given i g there = ap (λ n. map entry_of (take n given)) (add-one i) ∙ entered_suc given i g there

pub entered_values : (given : List Given) → values_of (map entry_of given) ≡ map own_client given
entered_values [] = refl
entered_values (g ∷ given) = ap (λ xs. own_client g ∷ xs) (entered_values given)

pub entered_keys : (given : List Given) → keys_of (map entry_of given) ≡ numbers_of (values_of (map entry_of given))
entered_keys [] = refl
entered_keys (g ∷ given) = ap (λ ns. g.0.0 ∷ ns) (entered_keys given)

-- ---- what holds at the beginning
begin_within : (config : Config) (given : List Given) → Each (IsWithin 0 0) (map (λ (g : Given). new_client g.0 (pid_of config g.0)) given)
begin_within config [] = tt
begin_within config (g ∷ given) = (record { issued = omega arith; last = omega arith; handed_out = refl }, begin_within config given)

begin_numbers : (config : Config) (given : List Given) → numbers_of (map (λ (g : Given). new_client g.0 (pid_of config g.0)) given) ≡ numbers given
begin_numbers config [] = refl
begin_numbers config (g ∷ given) = ap (λ ns. g.0.0 ∷ ns) (begin_numbers config given)

pub begin_sound : (config : Config) → HaveNumbersApart config → IsSound 0 (new_world config)
begin_sound config apart = record {
  moment = omega arith;
  frames = omega arith;
  notes = refl;
  clients = begin_within config config.clients;
  apart = subst AreApart (sym (begin_numbers config config.clients)) apart;
  order = tt;
}

pub whole_sound : (config : Config) (w : Whole) → HaveNumbersApart config → world_of w ≡ new_world config → w.node.last ≡ 0 → AreSound 0 w
whole_sound config w apart is last = record {
  world = subst (IsSound 0) (sym is) (begin_sound config apart);
  node = omega (arith, last);
  entries = let none : length (world_of w).history ≡ 0 = ap (λ (v : WorldState). length v.history) is in omega (arith, none);
}

-- the parts make the world in which nothing has happened
pub begun : (config : Config) (n : KeptNode) → HaveNumbersApart config → n ≡ record { node = opening_node config.node; last = 0; cache = no_entries } → world_around n.node config.clients ≡ new_world config
begun config n apart is = λ i. record {
  moment = 0;
  node = (is i).node;
  clients = own_clients config apart i;
  link = record { frames = []; handed_out = 0 };
  notes = [];
  history = [];
}

-- it stands for no event
pub stands_for_none : (config : Config) → 1 ≤ config.node.retry → StandsFor config [] (opened config)
stands_for_none config keeps = record {
  keeps = keeps;
  stands = record { moment = refl; node = node_opens; clients = refl; frames = refl; handed_out = refl; notes = tt; history = refl };
  summary = refl;
  line = refl;
  unspent = refl;
} where
  node_opens : opening_node config.node ≡ node_at config nothing_yet
  node_opens = ap (λ (entries : List Entry). record { flat = opening config.node; records = map (record_at nothing_yet) entries; retry = config.node.retry }) (sym (drop-nil (0 - config.node.retry)))

-- a fault of the node is told, and want of memory behind it
pub faulted : {A B : Type 0} (o : Option OpenFault) (node : A) (told : Result A OpenFault) (r : Result B OpenFault) → told ≡ Ok node
    → MatchOption o (IfErr told (λ f. f ≡ fault.NoMemory)) (λ f. told ≡ Err f) → IfErr r (λ f. f ≡ fault.NoMemory)
    → MatchOption o (IfErr r (λ f. f ≡ fault.NoMemory)) (λ f. r ≡ Err f)
faulted None node told r is says want = want
faulted (Some f) node told r is says want = absurd cc

-- ---- from event to event
pub are_later : (l m : ℕ) (w : Whole) → l ≤ m → AreSound l w → AreSound m w
are_later l m w more h = record { world = sound_later l m (world_of w) more h.world; node = h.node; entries = omega (arith, more, h.entries) }

pub sound_after : (l m : ℕ) (old new : Whole) (e : Event) → l < m → AreSound l old → IsFair e → world_of new ≡ (step (world_of old) m e).world → new.node.last ≤ new.moment → AreSound m new
sound_after l m old new e more h fair is timely = record {
  world = subst (IsSound m) (sym is) (step_sound l m more (world_of old) h.world e fair);
  node = timely;
  entries =
      let grown = step_grows (world_of old) m e in
      let same : length (world_of new).history ≡ length (step (world_of old) m e).world.history = ap (λ (v : WorldState). length v.history) is in
      omega (arith, h.entries, more, grown, same);
}
