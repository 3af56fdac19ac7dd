-- How the entries and frames of an effect join an account that is a run.
use Rattle.std.proofs.Common.{◌≡◌, ℕ, ◌+◌, ◌<◌, List, [], ◌∷◌, refl, sym, ap, ◌∙◌, subst, true, inl, inr}
use Rattle.cl_types.specs.declared.config.Config.{Config}
use Rattle.cl_types.specs.declared.line.Entry.{Entry}
use Rattle.cl_types.specs.declared.schedule.Event.{Event}
use Rattle.cl_types.specs.declared.schedule.Event.TheVariants as event
use Rattle.flat_model.specs.State.{opening}
use Rattle.flat_model.specs.Step.{outcome, MayReply}
use Rattle.flat_model.specs.Run.{after, IsRun, IsRunFrom}
use Rattle.trace.specs.Account.{Account, Line, Frame, Carried, items_of, if_taken_of, Effect, joined_by, is_before, memory_at, with_entry, with_entries}
use Rattle.trace.specs.Events.{on_peek}
use Rattle.std.specs.List.{AllByRecursion as Each}
use Rattle.trace.specs.Properties.{IsInOrder, ShowsMemory}
use Rattle.trace_laws.proofs.Ran.{InRange, LookOf, Ran}
use Rattle.lemmas.proofs.Lists.{each_append, each_weaker, each_weaker_with}
use Rattle.trace_laws.proofs.Places.{less, before_next, at_next, not_after, less_line}
use Rattle.trace_laws.proofs.Insert.{with_last, all_before, run_push, run_insert, memory_kept}
use Rattle.node_laws.proofs.Replies.{may_outcome}
use Rattle.trace.proofs.HistoryLemmas.{each_with_entry, order_with_entry}

-- a history after another, with entries put in at place (l, q)
pub record Grown (config : Config) (h new : List Entry) (l q p : ℕ) : Type 0 where
  pub sorted : IsInOrder new
  pub before : Each (λ (e : Entry). is_before l p e ≡ true) new
  pub run : IsRun config.node new
  pub memory : (m n : ℕ) → less m n l q ≡ true → memory_at config new m n ≡ memory_at config h m n

look_kept : (config : Config) (h new : List Entry) (l q : ℕ) (e : Entry) →
    ((m n : ℕ) → less m n l q ≡ true → memory_at config new m n ≡ memory_at config h m n) → LookOf config h l q e → LookOf config new l q e
look_kept config h new l q e same k = record {
  reading = k.reading;
  in_range = k.in_range;
  before = k.before;
  reply = k.reply ∙ ap (λ z. (outcome z e.pid e.request).reply) (sym (same e.line e.position k.before));
}

-- a look's entry is taken
taken : (config : Config) (h : List Entry) (l q : ℕ) (e : Entry) → IsInOrder h → Each (λ (e : Entry). is_before l q e ≡ true) h → IsRun config.node h → LookOf config h l q e →
    Grown config h (with_entry e h) l q q
taken config h l q e s b r k = record {
  sorted = order_with_entry e h s;
  before = each_with_entry _ e h k.before b;
  run = run_insert (opening config.node) e h k.reading s r k.in_range
      (subst (λ z. MayReply (memory_at config h e.line e.position) e.pid e.request z) (sym k.reply) (may_outcome (memory_at config h e.line e.position) e.pid e.request k.in_range));
  memory = λ m n t. memory_kept config (e ∷ []) h m n (inl k.reading, tt);
}

pub all_taken : (config : Config) (es h : List Entry) (l q : ℕ) → IsInOrder h → Each (λ (e : Entry). is_before l q e ≡ true) h → IsRun config.node h → Each (LookOf config h l q) es →
    Grown config h (with_entries es h) l q q
all_taken config [] h l q s b r k = record { sorted = s; before = b; run = r; memory = λ m n t. refl }
all_taken config (e ∷ es) h l q s b r k =
    let one : Grown config h (with_entry e h) l q q = taken config h l q e s b r k.0 in
    let rest : Grown config (with_entry e h) (with_entries es (with_entry e h)) l q q =
    all_taken config es (with_entry e h) l q one.sorted one.before one.run (each_weaker _ _ (λ x. look_kept config h (with_entry e h) l q x one.memory) es k.1) in
    record { sorted = rest.sorted; before = rest.before; run = rest.run; memory = λ m n t. rest.memory m n t ∙ one.memory m n t }

-- an entry is executed at the place
pub executed : (config : Config) (h : List Entry) (l q : ℕ) (e : Entry) → IsInOrder h → Each (λ (e : Entry). is_before l q e ≡ true) h → IsRun config.node h →
    e.line ≡ l → e.position ≡ q → InRange e.request → e.reply ≡ (outcome (memory_at config h l q) e.pid e.request).reply → Grown config h (with_entry e h) l q (q + 1)
executed config h l q e s b r j k i is =
    let before : Each (λ (x : Entry). is_before e.line e.position x ≡ true) h = subst (λ z. Each (λ (x : Entry). is_before z e.position x ≡ true) h) (sym j) (subst (λ z. Each (λ (x : Entry). is_before l z x ≡ true) h) (sym k) b) in
    let whole : memory_at config h l q ≡ after (opening config.node) h = ap (after (opening config.node)) (all_before (is_before l q) h b) in
    record {
      sorted = order_with_entry e h s;
      before = each_with_entry _ e h (at_next l q e j k) (each_weaker _ _ (λ x. before_next l q x) h b);
      run = subst (IsRunFrom (opening config.node)) (sym (with_last e h before))
          (run_push (opening config.node) e h r i
          (subst (λ z. MayReply z e.pid e.request e.reply) whole
          (subst (λ z. MayReply (memory_at config h l q) e.pid e.request z) (sym is) (may_outcome (memory_at config h l q) e.pid e.request i))));
      memory = λ m n t. memory_kept config (e ∷ []) h m n (inr (not_after m n l q e t j k), tt);
    }

show_kept : (config : Config) (h new : List Entry) (l q : ℕ) (line : Line) (e : Event) → line.number < l →
    ((m n : ℕ) → less m n l q ≡ true → memory_at config new m n ≡ memory_at config h m n) → ShowsMemory config h line e → ShowsMemory config new line e
show_kept config h new l q line (event.Peek pid addr len) r same k = k ∙ ap (λ z. (on_peek z pid addr len).texts) (sym (same line.number 0 (less_line line.number l q r)))
show_kept config h new l q line other r same k = tt

-- the entries and frames of an effect join
pub ran_joined : (config : Config) (a : Account) (l q p : ℕ) (e : Effect) → Ran config a l q → Grown config a.history (with_entries e.entries a.history) l q p →
    ((x : Entry) → is_before l q x ≡ true → is_before l p x ≡ true) →
    Each (λ (f : Frame). Each (λ (i : Carried). InRange i.item.request) (items_of f.load)) e.frames →
    Each (λ (f : Frame). Each (LookOf config (with_entries e.entries a.history) l p) (if_taken_of f.load)) e.frames →
    Ran config (joined_by a e) l p
ran_joined config a l q p e r g later items looks = record {
  sorted = g.sorted;
  before = g.before;
  run = g.run;
  calls = r.calls;
  items = each_append _ a.frames e.frames r.items items;
  looked = each_append _ a.frames e.frames (each_weaker _ _ (λ f. each_weaker _ _ (λ x k. moved x (look_kept config a.history (with_entries e.entries a.history) l q x g.memory k)) (if_taken_of f.load)) a.frames r.looked) looks;
  rising = r.rising;
  peeks = each_weaker_with _ _ _ (λ line less k. show_kept config a.history (with_entries e.entries a.history) l q line line.event less g.memory k) a.lines r.rising r.peeks;
}
  where
    moved : (x : Entry) → LookOf config (with_entries e.entries a.history) l q x → LookOf config (with_entries e.entries a.history) l p x
    moved x k = record { reading = k.reading; in_range = k.in_range; before = later x k.before; reply = k.reply }
