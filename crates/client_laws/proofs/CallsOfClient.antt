-- The calls of a client as its parts change.
use Rattle.std.proofs.Common.{◌≡◌, ℕ, List, [], ◌∷◌, refl, ap, sym, ◌∙◌, Some, None, Option, Bool, true, false, cond, arith, map}
use Rattle.std.specs.Prelude.{filter, ◌&&◌, ◌||◌, ◌==◌, not, is_some, is_none, option_map, if◌then◌else◌}
use Rattle.cl_types.specs.declared.call.Call.{Call}
use Rattle.cl_types.specs.declared.request.Request.{Request}
use Rattle.cl_types.specs.declared.reply.Part.{Part}
use Rattle.cl_types.specs.Parts.{same_part}
use Rattle.client_model.specs.Cut.{Ending}
use Rattle.client_model.specs.Order.{is_fence}
use Rattle.client_model.specs.Client.{Standing, Unsent, InFlight, Over, ClientPart, ClientCall, Outgoing, part_changed, call_changed, standing_so, call_standing, parts_named, emptied, every, ending_of, all_over, finished_with, finished, gone_out, sent_calls, is_fence_of}
use Rattle.client_laws.proofs.Standings.{all_gone_out}

-- ---- a changed part is changed in its call
parts_so : (how new : Part → Standing) (q : Part) (f : Standing → Standing) → ((p : Part) → new p ≡ cond (same_part p q) (f (how p)) (how p)) → (ps : List (Part × Request)) → map (standing_so new) ps ≡ map (part_changed q f) (map (standing_so how) ps)
parts_so how new q f h [] = refl
parts_so how new q f h (p ∷ ps) = λ i. record { part = p.0; request = p.1; standing = h p.0 i } ∷ parts_so how new q f h ps i

pub call_so : (how new : Part → Standing) (q : Part) (f : Standing → Standing) → ((p : Part) → new p ≡ cond (same_part p q) (f (how p)) (how p)) → (k : ℕ × Call) → call_standing new k ≡ call_changed q f (call_standing how k)
call_so how new q f h k = λ i. record { number = k.0; call = emptied k.1; parts = parts_so how new q f h (parts_named k.0 k.1) i }

parts_same : (how new : Part → Standing) → ((p : Part) → new p ≡ how p) → (ps : List (Part × Request)) → map (standing_so new) ps ≡ map (standing_so how) ps
parts_same how new h [] = refl
parts_same how new h (p ∷ ps) = λ i. record { part = p.0; request = p.1; standing = h p.0 i } ∷ parts_same how new h ps i

pub call_same : (how new : Part → Standing) → ((p : Part) → new p ≡ how p) → (k : ℕ × Call) → call_standing new k ≡ call_standing how k
call_same how new h k = λ i. record { number = k.0; call = emptied k.1; parts = parts_same how new h (parts_named k.0 k.1) i }

pub map_same : {X Y : Type 0} (f g : X → Y) → ((x : X) → f x ≡ g x) → (xs : List X) → map f xs ≡ map g xs
map_same f g h [] = refl
map_same f g h (x ∷ xs) = λ i. h x i ∷ map_same f g h xs i

-- ---- what is left of a list
pub filter_same : {Y : Type 0} (T U : Y → Bool) → ((y : Y) → T y ≡ U y) → (ys : List Y) → filter T ys ≡ filter U ys
filter_same T U h [] = refl
filter_same T U h (y ∷ ys) = λ i. cond (h y i) (y ∷ filter_same T U h ys i) (filter_same T U h ys i)

pub filter_step : {X Y : Type 0} (g new : X → Y) (u : Y → Y) (T U N : Y → Bool) → ((x : X) → new x ≡ u (g x)) → ((y : Y) → U (u y) ≡ (T y && N (u y))) → (xs : List X) → filter U (map new xs) ≡ filter N (map u (filter T (map g xs)))
filter_step g new u T U N h k [] = refl
filter_step {X} {Y} g new u T U N h k (x ∷ xs) =
    ap (λ z. cond (U z) (z ∷ filter U (map new xs)) (filter U (map new xs))) (h x)
    ∙ ap (λ b. cond b (u (g x) ∷ filter U (map new xs)) (filter U (map new xs))) (k (g x))
    ∙ go (T (g x)) (filter_step g new u T U N h k xs)
  where
    go : (b : Bool) → filter U (map new xs) ≡ filter N (map u (filter T (map g xs))) →
        cond (b && N (u (g x))) (u (g x) ∷ filter U (map new xs)) (filter U (map new xs)) ≡ filter N (map u (cond b (g x ∷ filter T (map g xs)) (filter T (map g xs))))
    go true r = λ i. cond (N (u (g x))) (u (g x) ∷ r i) (r i)
    go false r = r

pub filter_twice : {Y : Type 0} (T U N : Y → Bool) → ((y : Y) → U y ≡ (T y && N y)) → (ys : List Y) → filter U ys ≡ filter N (filter T ys)
filter_twice T U N k [] = refl
filter_twice {Y} T U N k (y ∷ ys) = ap (λ b. cond b (y ∷ filter U ys) (filter U ys)) (k y) ∙ go (T y) (filter_twice T U N k ys)
  where
    go : (b : Bool) → filter U ys ≡ filter N (filter T ys) → cond (b && N y) (y ∷ filter U ys) (filter U ys) ≡ filter N (cond b (y ∷ filter T ys) (filter T ys))
    go true r = λ i. cond (N y) (y ∷ r i) (r i)
    go false r = r

-- ---- ends
-- what was over is over yet
more_over : (f : Standing → Standing) → ((y : Ending) → f (Over y) ≡ Over y) → (b : Bool) (s : Standing) → is_some (ending_of s) ≡ true → is_some (ending_of (cond b (f s) s)) ≡ true
more_over f k true (Over y) h = ap (λ z. is_some (ending_of z)) (k y)
more_over f k false s h = h
more_over f k true Unsent h = grind arith
more_over f k true (InFlight orig first last) h = grind arith

pub every_more : {X Y : Type 0} (f g : X → Option Y) → ((x : X) → is_some (f x) ≡ true → is_some (g x) ≡ true) → (xs : List X) → is_some (every (map f xs)) ≡ true → is_some (every (map g xs)) ≡ true
every_more f g k [] h = refl
every_more {X} {Y} f g k (x ∷ xs) h = go (f x) (g x) (k x) h (every_more f g k xs)
  where
    some_map : {A B : Type 0} (m : A → B) (o : Option A) → is_some (option_map m o) ≡ is_some o
    some_map m None = refl
    some_map m (Some z) = refl

    go : (o p : Option Y) → (is_some o ≡ true → is_some p ≡ true) → is_some (every (o ∷ map f xs)) ≡ true → (is_some (every (map f xs)) ≡ true → is_some (every (map g xs)) ≡ true) → is_some (every (p ∷ map g xs)) ≡ true
    go None p m h rec = grind arith
    go (Some y) None m h rec = grind arith
    go (Some y) (Some z) m h rec =
        some_map (λ (ws : List Y). z ∷ ws) (every (map g xs)) ∙ rec (sym (some_map (λ (ws : List Y). y ∷ ws) (every (map f xs))) ∙ h)

pub map_map : {X Y Z : Type 0} (f : Y → Z) (g : X → Y) → (xs : List X) → map f (map g xs) ≡ map (λ x. f (g x)) xs
map_map f g [] = refl
map_map f g (x ∷ xs) = ap (λ z. f (g x) ∷ z) (map_map f g xs)

all_over_more : (q : Part) (f : Standing → Standing) → ((y : Ending) → f (Over y) ≡ Over y) → (k : ClientCall) → is_some (all_over k) ≡ true → is_some (all_over (call_changed q f k)) ≡ true
all_over_more q f keeps k h =
    ap (λ z. is_some (every z)) (map_map (λ (p : ClientPart). ending_of p.standing) (part_changed q f) k.parts)
    ∙ every_more (λ (p : ClientPart). ending_of p.standing) (λ (p : ClientPart). ending_of (cond (same_part p.part q) (f p.standing) p.standing)) (λ p. more_over f keeps (same_part p.part q) p.standing) k.parts h

pub ended_test : (b x y : Bool) (k j : ClientCall) (o p : Option (List Ending)) → y ≡ x → (is_some o ≡ true → is_some p ≡ true) →
    not (cond b y (is_some (cond b None (option_map (finished_with j) p))))
    ≡ (not (cond b x (is_some (cond b None (option_map (finished_with k) o)))) && is_none (cond b None (option_map (finished_with j) p)))
ended_test true x y k j o p e h = ap not e ∙ and_true (not x)
  where
    and_true : (b : Bool) → b ≡ (b && true)
    and_true true = refl
    and_true false = refl
ended_test false x y k j None None e h = refl
ended_test false x y k j None (Some w) e h = refl
ended_test false x y k j (Some v) (Some w) e h = refl
ended_test false x y k j (Some v) None e h = grind arith

-- of calls of which a part changed, those are left that have not ended
abbrev pub open_by : (ℕ → Bool) → ClientCall → Bool
open_by fence_over k = not (if is_fence k.call then fence_over k.number else is_some (finished k))

pub calls_after_part : (over now_over : ℕ → Bool) (how new : Part → Standing) (q : Part) (f : Standing → Standing) → ((y : Ending) → f (Over y) ≡ Over y) →
    ((n : ℕ) → now_over n ≡ over n) → ((p : Part) → new p ≡ cond (same_part p q) (f (how p)) (how p)) → (xs : List (ℕ × Call)) →
    filter (open_by now_over) (map (call_standing new) xs) ≡ filter (λ k. is_none (finished k)) (map (call_changed q f) (filter (open_by over) (map (call_standing how) xs)))
calls_after_part over now_over how new q f keeps same h xs =
    filter_step (call_standing how) (call_standing new) (call_changed q f) (open_by over) (open_by now_over) (λ k. is_none (finished k)) (call_so how new q f h)
    (λ k. ended_test (is_fence k.call) (over k.number) (now_over k.number) k (call_changed q f k) (all_over k) (all_over (call_changed q f k)) (same k.number) (all_over_more q f keeps k)) xs

-- ---- parts are sent
gone_out_over : (t : ℕ) (o : Outgoing) (b : Bool) (s : Standing) → ending_of (cond b (gone_out t o s) s) ≡ ending_of s
gone_out_over t o true Unsent = go o.again
  where
    go : (g : Bool) → ending_of (cond g Unsent (InFlight o.id t t)) ≡ None
    go true = refl
    go false = refl
gone_out_over t o true (InFlight orig first last) = refl
gone_out_over t o true (Over e) = refl
gone_out_over t o false s = refl

all_over_same : (t : ℕ) (o : Outgoing) (k : ClientCall) → all_over (call_changed o.part (gone_out t o) k) ≡ all_over k
all_over_same t o k = ap every (map_map (λ (p : ClientPart). ending_of p.standing) (part_changed o.part (gone_out t o)) k.parts ∙ map_same (λ (p : ClientPart). ending_of (cond (same_part p.part o.part) (gone_out t o p.standing) p.standing)) (λ (p : ClientPart). ending_of p.standing) (λ p. gone_out_over t o (same_part p.part o.part) p.standing) k.parts)

still_open : (over : ℕ → Bool) (t : ℕ) (o : Outgoing) (k : ClientCall) → open_by over (call_changed o.part (gone_out t o) k) ≡ (open_by over k && true)
still_open over t o k = go (is_fence k.call) (over k.number) (all_over (call_changed o.part (gone_out t o) k)) (all_over k) (all_over_same t o k)
  where
    go : (b x : Bool) (p q : Option (List Ending)) → p ≡ q → not (cond b x (is_some (cond b None (option_map (finished_with (call_changed o.part (gone_out t o) k)) p)))) ≡ (not (cond b x (is_some (cond b None (option_map (finished_with k) q)))) && true)
    go true true p q e = refl
    go true false p q e = refl
    go false x p None e = ap (λ z. not (is_some (option_map (finished_with (call_changed o.part (gone_out t o) k)) z))) e
    go false x p (Some w) e = ap (λ z. not (is_some (option_map (finished_with (call_changed o.part (gone_out t o) k)) z))) e

filter_all : {Y : Type 0} (ys : List Y) → filter (λ y. true) ys ≡ ys
filter_all [] = refl
filter_all (y ∷ ys) = ap (λ z. y ∷ z) (filter_all ys)

pub calls_after_sending : (over : ℕ → Bool) (t : ℕ) (items : List Outgoing) (how : Part → Standing) (xs : List (ℕ × Call)) →
    filter (open_by over) (map (call_standing (λ p. all_gone_out t p items (how p))) xs) ≡ sent_calls t items (filter (open_by over) (map (call_standing how) xs))
calls_after_sending over t [] how xs = refl
calls_after_sending over t (o ∷ os) how xs =
    calls_after_sending over t os (λ p. cond (same_part p o.part) (gone_out t o (how p)) (how p)) xs
    ∙ ap (sent_calls t os)
    (filter_step (call_standing how) (call_standing (λ p. cond (same_part p o.part) (gone_out t o (how p)) (how p))) (call_changed o.part (gone_out t o)) (open_by over) (open_by over) (λ k. true)
    (call_so how (λ p. cond (same_part p o.part) (gone_out t o (how p)) (how p)) o.part (gone_out t o) (λ p. refl)) (still_open over t o) xs
    ∙ filter_all (map (call_changed o.part (gone_out t o)) (filter (open_by over) (map (call_standing how) xs))))

-- ---- a Fence ends
pub calls_after_fence : (over now_over : ℕ → Bool) (n : ℕ) → ((m : ℕ) → now_over m ≡ (over m || n == m)) → (ks : List ClientCall) →
    filter (open_by now_over) ks ≡ filter (λ k. not (is_fence_of n k)) (filter (open_by over) ks)
calls_after_fence over now_over n h ks =
    filter_twice (open_by over) (open_by now_over) (λ k. not (is_fence_of n k)) (λ k. go (is_fence k.call) (over k.number) (now_over k.number) (n == k.number) (is_some (finished k)) (h k.number)) ks
  where
    go : (b x y z w : Bool) → y ≡ (x || z) → not (cond b y w) ≡ (not (cond b x w) && not (b && z))
    go true true y z w e = ap not e
    go true false y true w e = ap not e
    go true false y false w e = ap not e
    go false x y z true e = refl
    go false x y z false e = refl
