-- What holds of the fields after each call.
use Rattle.std.proofs.Common.{◌≡◌, ◌≢◌, ℕ, ◌+◌, ◌-◌, ◌<◌, ◌⊎◌, inl, inr, true, ◌==◌, List, [], ◌∷◌, ◌++◌, length, map, drop, set, find, Option, Some, None, option_map, unwrap_or, is_some, cond, refl, sym, ap, subst, ◌∙◌, arith, slice_get}
use Rattle.std.specs.List.{insert, position_or_len}
use Rattle.std.proofs.lemmas.Bool.{cases_eq, false_from_ne_true, eqb-true, eq-eqb, ne_eqb}
use Rattle.std.proofs.lemmas.List.{length-set, length-drop, length_push, set-set, get_or-set_same, get_or-set_other}
use Rattle.std.proofs.lemmas.List.Folds.{find_at}
use Rattle.std.proofs.lemmas.Option.{slice_get_within}
use Rattle.index_lists.specs.NodeLists.{NodeLists, has, list_at, IsIn, IsFree, IsValid, with_list, without}
use Rattle.index_lists.proofs.Edits.{has-without}
use Rattle.client_retry.specs.declared.flown.Flown.{Flown}
use Rattle.client_retry.specs.declared.walk.Wanted.{Wanted}
use Rattle.client_retry.specs.declared.walk.Wanted.TheVariants.{Behind, Orig}
use Rattle.client_retry.specs.Fields.{IsSound, no_part, flown_at, chain_of, chain_at, flying}
use Rattle.client_retry.specs.Flights.{with_flown, without as without_orig, again, sent_again}
use Rattle.client_retry.specs.Slots.{slot_at}
use Rattle.client_retry.specs.Walks.{is_wanted, is_wanted_there, wanted_at}
use Rattle.client_retry.proofs.Places.{in_insert, insert_old, insert_new, insert_longer}
use Rattle.client_retry.proofs.Flying.{find_there, insert_there, without_there, again_there}
use Rattle.index_lists.proofs.Members.{list_at_same, list_at_other, lists_same, has-push_cases, has-push_old, has-push_new, has-without_cases, length-without, has-drop, first_gone, has_at, find_some, find_none}

-- a place that has a part has a wanted one where the part is
wanted_there : (w : Wanted) (o : Option Flown) → is_some o ≡ true → is_wanted_there w o ≡ is_wanted w (unwrap_or o no_part)
wanted_there w None h = absurd cc
wanted_there w (Some f) h = refl

some_there : (o : Option Flown) → is_some o ≡ true → o ≡ Some (unwrap_or o no_part)
some_there None h = absurd cc
some_there (Some f) h = refl

module _ {slots : List (Option Flown)} {places chains : NodeLists} {count : ℕ} (s : IsSound slots places chains count) where
  -- a place in a list is one of 64
  below : (l p : ℕ) → IsIn places l p → p < 64
  below l p h = omega (arith, (s.places_valid.in_range l p h).1, s.place_count)

  slot_same : (n : ℕ) (o : Option Flown) → n < 64 → slot_at (set slots n o) n ≡ o
  slot_same n o within = get_or-set_same slots n o None (omega (arith, s.slot_count))

  slot_other : (n p : ℕ) (o : Option Flown) → p ≢ n → slot_at (set slots n o) p ≡ slot_at slots p
  slot_other n p o ne = get_or-set_other slots n p o None ne

  flown_same : (n : ℕ) (f : Flown) → n < 64 → flown_at (set slots n (Some f)) n ≡ f
  flown_same n f within = ap (λ o. unwrap_or o no_part) (slot_same n (Some f) within)

  flown_other : (n p : ℕ) (o : Option Flown) → p ≢ n → flown_at (set slots n o) p ≡ flown_at slots p
  flown_other n p o ne = ap (λ o. unwrap_or o no_part) (slot_other n p o ne)

  -- no place is in both lists
  not_both : (p : ℕ) → IsIn places 0 p → IsIn places 1 p → ⊥
  not_both p flies free = let same = s.places_valid.apart 0 1 p flies free in omega arith

  -- places in chains have parts
  pub chains_filled : (l p : ℕ) → IsIn chains l p → is_some (slot_at slots p) ≡ true
  chains_filled l p h = s.filled p (s.used l p h)

  -- ---- looking up
  -- what is found among the parts in flight is at the place that is found
  pub seen_there : (w : Wanted) (here : Option ℕ) → here ≡ find (wanted_at slots w) (list_at places 0) → find (is_wanted w) (flying slots places) ≡ option_map (flown_at slots) here
  seen_there w here e =
      find_there (flown_at slots) (wanted_at slots w) (is_wanted w) (list_at places 0) (λ p h. wanted_there w (slot_at slots p) (s.filled p h)) ∙ ap (option_map (flown_at slots)) (sym e)

  wants : (orig p : ℕ) → is_some (slot_at slots p) ≡ true → wanted_at slots (Orig orig) p ≡ true → (flown_at slots p).orig ≡ orig
  wants orig p h t = eqb-true _ _ (sym (wanted_there (Orig orig) (slot_at slots p) h) ∙ t)

  wanted : (orig p : ℕ) → is_some (slot_at slots p) ≡ true → (flown_at slots p).orig ≡ orig → wanted_at slots (Orig orig) p ≡ true
  wanted orig p h e = wanted_there (Orig orig) (slot_at slots p) h ∙ eq-eqb _ _ e

  same_found : (orig : ℕ) (in_chain in_order : Option ℕ) → in_chain ≡ find (wanted_at slots (Orig orig)) (list_at chains (chain_of orig)) → in_order ≡ find (wanted_at slots (Orig orig)) (list_at places 0) → in_chain ≡ in_order
  same_found orig None None e f = refl
  same_found orig None (Some m) e f =
      let found = find_some (wanted_at slots (Orig orig)) (list_at places 0) m (sym f) in
      let its = wants orig m (s.filled m found.0) found.1 in
      let there : IsIn chains (chain_of orig) m = subst (λ o. IsIn chains (chain_of o) m) its (s.chained m found.0) in
      absurd (let never = find_none (wanted_at slots (Orig orig)) (list_at chains (chain_of orig)) (sym e) m there in let always = found.1 in cc)
  same_found orig (Some n) None e f =
      let found = find_some (wanted_at slots (Orig orig)) (list_at chains (chain_of orig)) n (sym e) in
      absurd (let never = find_none (wanted_at slots (Orig orig)) (list_at places 0) (sym f) n (s.used (chain_of orig) n found.0) in let always = found.1 in cc)
  same_found orig (Some n) (Some m) e f =
      let here = find_some (wanted_at slots (Orig orig)) (list_at chains (chain_of orig)) n (sym e) in
      let there = find_some (wanted_at slots (Orig orig)) (list_at places 0) m (sym f) in
      ap Some (s.alone n m (s.used (chain_of orig) n here.0) there.0 (wants orig n (chains_filled (chain_of orig) n here.0) here.1 ∙ sym (wants orig m (s.filled m there.0) there.1)))

  -- the part of an orig is at the place that a walk along its chain finds
  pub seen_in_chain : (orig : ℕ) (here : Option ℕ) → here ≡ find (wanted_at slots (Orig orig)) (list_at chains (chain_of orig)) → find (λ f. f.orig == orig) (flying slots places) ≡ option_map (flown_at slots) here
  seen_in_chain orig here e = seen_there (Orig orig) here (same_found orig here (find (wanted_at slots (Orig orig)) (list_at places 0)) e refl)

  -- and that place has it
  pub found_there : (orig n : ℕ) → Some n ≡ find (wanted_at slots (Orig orig)) (list_at chains (chain_of orig)) → IsIn places 0 n × ((flown_at slots n).orig ≡ orig)
  found_there orig n e =
      let found = find_some (wanted_at slots (Orig orig)) (list_at chains (chain_of orig)) n (sym e) in
      (s.used (chain_of orig) n found.0, wants orig n (chains_filled (chain_of orig) n found.0) found.1)

  -- ---- walks
  module _ {flown : List Flown} (e : flying slots places ≡ flown) where
    -- what a walk along the places in order comes to
    pub walked : (w : Wanted) (here : Option ℕ) → here ≡ slice_get (list_at places 0) (position_or_len (wanted_at slots w) (list_at places 0)) → find (is_wanted w) flown ≡ option_map (flown_at slots) here
    walked w here stop = ap (find (is_wanted w)) (sym e) ∙ seen_there w here (stop ∙ sym (find_at (wanted_at slots w) (list_at places 0)))

    -- and along the chain of an orig
    pub chain_walked : (orig h : ℕ) (here : Option ℕ) → h ≡ chain_of orig → here ≡ slice_get (list_at chains h) (position_or_len (wanted_at slots (Orig orig)) (list_at chains h)) → find (λ f. f.orig == orig) flown ≡ option_map (flown_at slots) here
    chain_walked orig h here is stop =
        ap (find (λ f. f.orig == orig)) (sym e) ∙ seen_in_chain orig here (stop ∙ sym (find_at (wanted_at slots (Orig orig)) (list_at chains h)) ∙ ap (λ l. find (wanted_at slots (Orig orig)) (list_at chains l)) is)

  pub walked_filled : (w : Wanted) (n : ℕ) → Some n ≡ slice_get (list_at places 0) (position_or_len (wanted_at slots w) (list_at places 0)) → is_some (slot_at slots n) ≡ true
  walked_filled w n stop = s.filled n (has_at (list_at places 0) (position_or_len (wanted_at slots w) (list_at places 0)) n (sym stop))

  pub chain_walked_to : (orig h n : ℕ) → h ≡ chain_of orig → Some n ≡ slice_get (list_at chains h) (position_or_len (wanted_at slots (Orig orig)) (list_at chains h)) → IsIn places 0 n × ((flown_at slots n).orig ≡ orig)
  chain_walked_to orig h n is stop = found_there orig n (stop ∙ sym (find_at (wanted_at slots (Orig orig)) (list_at chains h)) ∙ ap (λ l. find (wanted_at slots (Orig orig)) (list_at chains l)) is)

  -- the part that is read at a place
  pub part_there : (n : ℕ) (f : Flown) → slot_at slots n ≡ Some f → flown_at slots n ≡ f
  part_there n f h = ap (λ o. unwrap_or o no_part) h

  -- ---- a part more, at place n
  module _ (n : ℕ) (first : Some n ≡ slice_get (list_at places 1) 0) (f : Flown) where
    free : IsIn places 1 n
    free = has_at (list_at places 1) 0 n (sym first)

    pub new_below : n < 64
    new_below = below 1 n free

    pub new_vacant : slot_at slots n ≡ None
    new_vacant = s.vacant n free

    other : (p : ℕ) → IsIn places 0 p → p ≢ n
    other p h e = not_both p h (subst (λ q. IsIn places 1 q) (sym e) free)

    pub new_unchained : IsFree chains n
    new_unchained = λ l. false_from_ne_true _ (λ h. not_both n (s.used l n h) free)

    module _ (p1 : NodeLists) (e1 : p1 ≡ with_list places 1 (drop 1 (list_at places 1))) where
      zero1 : list_at p1 0 ≡ list_at places 0
      zero1 = ap (λ v. list_at v 0) e1 ∙ list_at_other places 1 0 (drop 1 (list_at places 1)) (λ e. omega arith)

      one1 : list_at p1 1 ≡ drop 1 (list_at places 1)
      one1 = ap (λ v. list_at v 1) e1 ∙ list_at_same places 1 (drop 1 (list_at places 1)) (omega (arith, s.two_lists))

      pub new_free : IsFree p1 n
      new_free = λ l. false_from_ne_true _ (λ h. elim (cases_eq l 1) [
        | inl e ↦ first_gone (list_at places 1) n (s.places_valid.distinct 1) first (ap (λ xs. has xs n) (sym one1) ∙ ap (λ m. has (list_at p1 m) n) (sym e) ∙ h)
        | inr ne ↦ ne (s.places_valid.apart l 1 n (ap (λ xs. has xs n) (sym (ap (λ v. list_at v l) e1 ∙ list_at_other places 1 l (drop 1 (list_at places 1)) ne)) ∙ h) free)
      ])

      pub new_filled : (p : ℕ) → IsIn p1 0 p → is_some (slot_at (set slots n (Some f)) p) ≡ true
      new_filled p h = let old : IsIn places 0 p = ap (λ xs. has xs p) (sym zero1) ∙ h in ap is_some (slot_other n p (Some f) (other p old)) ∙ s.filled p old

      module _ (p2 c2 : NodeLists) (k : ℕ) (e2 : p2 ≡ with_list p1 0 (insert (list_at p1 0) k n)) (v2 : IsValid p2)
          (ec : c2 ≡ with_list chains (chain_of f.orig) (list_at chains (chain_of f.orig) ++ n ∷ [])) (vc : IsValid c2) where
        zero2 : list_at p2 0 ≡ insert (list_at places 0) k n
        zero2 = ap (λ v. list_at v 0) e2 ∙ list_at_same p1 0 _ (omega (arith, ap (λ v. length v.lists) e1, lists_same places 1 (drop 1 (list_at places 1)), s.two_lists)) ∙ ap (λ xs. insert xs k n) zero1

        one2 : list_at p2 1 ≡ drop 1 (list_at places 1)
        one2 = ap (λ v. list_at v 1) e2 ∙ list_at_other p1 0 1 _ (λ e. omega arith) ∙ one1

        pub new_seen : k ≡ position_or_len (wanted_at (set slots n (Some f)) (Behind f.part)) (list_at p1 0) → flying (set slots n (Some f)) p2 ≡ with_flown f (flying slots places)
        new_seen is =
            let slots' : List (Option Flown) = set slots n (Some f) in
            ap (map (flown_at slots')) (zero2 ∙ ap (λ j. insert (list_at places 0) j n) (is ∙ ap (position_or_len (wanted_at slots' (Behind f.part))) zero1))
            ∙ insert_there (flown_at slots) (flown_at slots') (wanted_at slots' (Behind f.part)) n f (list_at places 0) (flown_same n f new_below)
            (λ p h. (flown_other n p (Some f) (other p h), ap (is_wanted_there (Behind f.part)) (slot_other n p (Some f) (other p h)) ∙ wanted_there (Behind f.part) (slot_at slots p) (s.filled p h)))

        chained_count' : (l : ℕ) (xs : List ℕ) → length (with_list chains l xs).lists ≡ 64
        chained_count' l xs = lists_same chains l xs ∙ s.chain_count

        chain_within : chain_of f.orig < length chains.lists
        chain_within = omega (arith, s.chain_count)

        in_old_or_new : (l p : ℕ) → IsIn c2 l p → IsIn chains l p ⊎ (p ≡ n)
        in_old_or_new l p h = elim (cases_eq l (chain_of f.orig)) [
          | inl e ↦
              let here : has (list_at chains (chain_of f.orig) ++ n ∷ []) p ≡ true = ap (λ xs. has xs p) (sym (ap (λ v. list_at v (chain_of f.orig)) ec ∙ list_at_same chains (chain_of f.orig) _ chain_within)) ∙ ap (λ m. has (list_at c2 m) p) (sym e) ∙ h in
              elim (has-push_cases (list_at chains (chain_of f.orig)) n p here) [ inl old ↦ inl (ap (λ m. has (list_at chains m) p) e ∙ old) | inr same ↦ inr same ]
          | inr ne ↦ inl (ap (λ xs. has xs p) (sym (ap (λ v. list_at v l) ec ∙ list_at_other chains (chain_of f.orig) l _ ne)) ∙ h)
        ]

        stays : (l p : ℕ) → IsIn chains l p → IsIn c2 l p
        stays l p h = elim (cases_eq l (chain_of f.orig)) [
          | inl e ↦
              ap (λ m. has (list_at c2 m) p) e
              ∙ ap (λ xs. has xs p) (ap (λ v. list_at v (chain_of f.orig)) ec ∙ list_at_same chains (chain_of f.orig) _ chain_within)
              ∙ has-push_old (list_at chains (chain_of f.orig)) n p (ap (λ m. has (list_at chains m) p) (sym e) ∙ h)
          | inr ne ↦ ap (λ xs. has xs p) (ap (λ v. list_at v l) ec ∙ list_at_other chains (chain_of f.orig) l _ ne) ∙ h
        ]

        joins : IsIn c2 (chain_of f.orig) n
        joins = ap (λ xs. has xs n) (ap (λ v. list_at v (chain_of f.orig)) ec ∙ list_at_same chains (chain_of f.orig) _ chain_within) ∙ has-push_new (list_at chains (chain_of f.orig)) n

        flies : (p : ℕ) → IsIn p2 0 p → IsIn places 0 p ⊎ (p ≡ n)
        flies p h = in_insert (list_at places 0) k n p (ap (λ xs. has xs p) (sym zero2) ∙ h)

        pub new_sound : ((p : ℕ) → IsIn places 0 p → (flown_at slots p).orig ≢ f.orig) → IsSound (set slots n (Some f)) p2 c2 (count + 1)
        new_sound fresh = record {
          slot_count = length-set slots n (Some f) ∙ s.slot_count;
          place_count = ap (λ v. v.nodes) e2 ∙ ap (λ v. v.nodes) e1 ∙ s.place_count;
          two_lists = ap (λ v. length v.lists) e2 ∙ lists_same p1 0 _ ∙ ap (λ v. length v.lists) e1 ∙ lists_same places 1 (drop 1 (list_at places 1)) ∙ s.two_lists;
          places_valid = v2;
          chained_count = ap (λ v. v.nodes) ec ∙ s.chained_count;
          chain_count = ap (λ v. length v.lists) ec ∙ chained_count' (chain_of f.orig) _;
          chains_valid = vc;
          counted = omega (arith, ap (length {A = ℕ}) zero2, insert_longer (list_at places 0) k n, s.counted);
          all_listed =
              omega (
                arith,
                ap (length {A = ℕ}) zero2,
                insert_longer (list_at places 0) k n,
                ap (length {A = ℕ}) one2,
                length-drop 1 (list_at places 1),
                slice_get_within (list_at places 1) 0 n (sym first),
                s.all_listed,
              );
          filled = λ p h. elim (flies p h) [
            | inl old ↦ ap is_some (slot_other n p (Some f) (other p old)) ∙ s.filled p old
            | inr e ↦ ap is_some (ap (slot_at (set slots n (Some f))) e ∙ slot_same n (Some f) new_below)
          ];
          vacant = λ p h.
              let rest : has (drop 1 (list_at places 1)) p ≡ true = ap (λ xs. has xs p) (sym one2) ∙ h in
              let ne : p ≢ n = λ e. first_gone (list_at places 1) n (s.places_valid.distinct 1) first (ap (has (drop 1 (list_at places 1))) (sym e) ∙ rest) in
              slot_other n p (Some f) ne ∙ s.vacant p (has-drop 1 (list_at places 1) p rest);
          chained = λ p h. elim (flies p h) [
            | inl old ↦ stays (chain_at (set slots n (Some f)) p) p (subst (λ g. IsIn chains (chain_of g.orig) p) (sym (flown_other n p (Some f) (other p old))) (s.chained p old))
            | inr e ↦ subst (λ q. IsIn c2 (chain_at (set slots n (Some f)) q) q) (sym e) (subst (λ (g : Flown). IsIn c2 (chain_of g.orig) n) (sym (flown_same n f new_below)) joins)
          ];
          used = λ l p h. elim (in_old_or_new l p h) [
            | inl old ↦ ap (λ xs. has xs p) zero2 ∙ insert_old (list_at places 0) k n p (s.used l p old)
            | inr e ↦ ap (λ xs. has xs p) zero2 ∙ ap (has (insert (list_at places 0) k n)) e ∙ insert_new (list_at places 0) k n
          ];
          alone = λ p q h h' same. elim (flies p h) [
            | inl old ↦ elim (flies q h') [
              | inl old' ↦ s.alone p q old old' (sym (ap (λ (g : Flown). g.orig) (flown_other n p (Some f) (other p old))) ∙ same ∙ ap (λ (g : Flown). g.orig) (flown_other n q (Some f) (other q old')))
              | inr e' ↦ absurd (fresh p old (sym (ap (λ (g : Flown). g.orig) (flown_other n p (Some f) (other p old))) ∙ same ∙ ap (λ r. (flown_at (set slots n (Some f)) r).orig) e' ∙ ap (λ (g : Flown). g.orig) (flown_same n f new_below)))
            ]
            | inr e ↦ elim (flies q h') [
              | inl old' ↦ absurd (fresh q old' (sym (ap (λ (g : Flown). g.orig) (flown_other n q (Some f) (other q old'))) ∙ sym same ∙ ap (λ r. (flown_at (set slots n (Some f)) r).orig) e ∙ ap (λ (g : Flown). g.orig) (flown_same n f new_below)))
              | inr e' ↦ e ∙ sym e'
            ]
          ];
        }

  -- ---- the part at place n, sent again
  module _ (orig t n : ℕ) (flies : IsIn places 0 n) (its : (flown_at slots n).orig ≡ orig) (f : Flown) (is : f ≡ again orig t (flown_at slots n)) (slots' : List (Option Flown)) (e : slots' ≡ set (set slots n None) n (Some f)) where
    once : slots' ≡ set slots n (Some f)
    once = e ∙ set-set slots n None (Some f)

    here : flown_at slots' n ≡ again orig t (flown_at slots n)
    here = ap (λ v. flown_at v n) once ∙ flown_same n f (below 0 n flies) ∙ is

    elsewhere : (p : ℕ) → p ≢ n → slot_at slots' p ≡ slot_at slots p
    elsewhere p ne = ap (λ v. slot_at v p) once ∙ slot_other n p (Some f) ne

    same_orig : (p : ℕ) → (flown_at slots' p).orig ≡ (flown_at slots p).orig
    same_orig p = elim (cases_eq p n) [
      | inl e ↦ ap (λ q. (flown_at slots' q).orig) e ∙ ap (λ (g : Flown). g.orig) here ∙ ap (λ q. (flown_at slots q).orig) (sym e)
      | inr ne ↦ ap (λ o. (unwrap_or o no_part).orig) (elsewhere p ne)
    ]

    pub again_seen : flying slots' places ≡ sent_again orig t (flying slots places)
    again_seen = again_there (flown_at slots) (flown_at slots') orig t (list_at places 0) (λ p h. elim (cases_eq p n) [
      | inl e ↦ ap (flown_at slots') e ∙ here ∙ ap (λ q. again orig t (flown_at slots q)) (sym e)
      | inr ne ↦
          ap (λ o. unwrap_or o no_part) (elsewhere p ne)
          ∙ sym (ap (λ b. record (flown_at slots p) { last = cond b t (flown_at slots p).last }) (ne_eqb (flown_at slots p).orig orig (λ same. ne (s.alone p n h flies (same ∙ sym its)))))
    ])

    pub again_sound : IsSound slots' places chains count
    again_sound = record {
      slot_count = ap (length {A = Option Flown}) once ∙ length-set slots n (Some f) ∙ s.slot_count;
      place_count = s.place_count;
      two_lists = s.two_lists;
      places_valid = s.places_valid;
      chained_count = s.chained_count;
      chain_count = s.chain_count;
      chains_valid = s.chains_valid;
      counted = s.counted;
      all_listed = s.all_listed;
      filled = λ p h. elim (cases_eq p n) [
        | inl e ↦ ap is_some (ap (slot_at slots') e ∙ ap (λ v. slot_at v n) once ∙ slot_same n (Some f) (below 0 n flies))
        | inr ne ↦ ap is_some (elsewhere p ne) ∙ s.filled p h
      ];
      vacant = λ p h. elsewhere p (λ e. not_both n flies (subst (λ q. IsIn places 1 q) e h)) ∙ s.vacant p h;
      chained = λ p h. subst (λ o. IsIn chains (chain_of o) p) (sym (same_orig p)) (s.chained p h);
      used = s.used;
      alone = λ p q h h' same. s.alone p q h h' (sym (same_orig p) ∙ same ∙ same_orig q);
    }

  -- ---- the part at place n, taken out
  module _ (n : ℕ) (flies : IsIn places 0 n) (c2 : NodeLists) (ec : (l : ℕ) → IsIn chains l n → c2 ≡ with_list chains l (without n (list_at chains l)))
      (p1 : NodeLists) (e1 : (l : ℕ) → IsIn places l n → p1 ≡ with_list places l (without n (list_at places l))) where
    out1 : p1 ≡ with_list places 0 (without n (list_at places 0))
    out1 = e1 0 flies

    out_zero1 : list_at p1 0 ≡ without n (list_at places 0)
    out_zero1 = ap (λ v. list_at v 0) out1 ∙ list_at_same places 0 _ (omega (arith, s.two_lists))

    out_other1 : (l : ℕ) → l ≢ 0 → list_at p1 l ≡ list_at places l
    out_other1 l ne = ap (λ v. list_at v l) out1 ∙ list_at_other places 0 l _ ne

    pub out_free : IsFree p1 n
    out_free = λ l. false_from_ne_true _ (λ h. elim (cases_eq l 0) [
      | inl e ↦ (has-without_cases n (list_at places 0) n (ap (λ xs. has xs n) (sym out_zero1) ∙ ap (λ m. has (list_at p1 m) n) (sym e) ∙ h)).1 refl
      | inr ne ↦ ne (s.places_valid.apart l 0 n (ap (λ xs. has xs n) (sym (out_other1 l ne)) ∙ h) flies)
    ])

    module _ (p2 : NodeLists) (e2 : p2 ≡ with_list p1 1 (list_at p1 1 ++ n ∷ [])) (v2 : IsValid p2) (vc : IsValid c2) where
      out_two : length p1.lists ≡ 2
      out_two = ap (λ v. length v.lists) out1 ∙ lists_same places 0 _ ∙ s.two_lists

      out_zero2 : list_at p2 0 ≡ without n (list_at places 0)
      out_zero2 = ap (λ v. list_at v 0) e2 ∙ list_at_other p1 1 0 _ (λ e. omega arith) ∙ out_zero1

      out_one2 : list_at p2 1 ≡ list_at places 1 ++ n ∷ []
      out_one2 = ap (λ v. list_at v 1) e2 ∙ list_at_same p1 1 _ (omega (arith, out_two)) ∙ ap (λ xs. xs ++ n ∷ []) (out_other1 1 (λ e. omega arith))

      pub out_seen : (orig : ℕ) → (flown_at slots n).orig ≡ orig → flying (set slots n None) p2 ≡ without_orig orig (flying slots places)
      out_seen orig its =
          ap (map (flown_at (set slots n None))) out_zero2
          ∙ without_there (flown_at slots) (flown_at (set slots n None)) n orig (list_at places 0) its
          (λ p h ne. (flown_other n p None ne, λ same. ne (s.alone p n h flies (same ∙ sym its))))

      in_chain : IsIn chains (chain_at slots n) n
      in_chain = s.chained n flies

      out_chain : c2 ≡ with_list chains (chain_at slots n) (without n (list_at chains (chain_at slots n)))
      out_chain = ec (chain_at slots n) in_chain

      chain_there : chain_at slots n < length chains.lists
      chain_there = (s.chains_valid.in_range (chain_at slots n) n in_chain).0

      stayed : (l p : ℕ) → p ≢ n → IsIn chains l p → IsIn c2 l p
      stayed l p ne h = elim (cases_eq l (chain_at slots n)) [
        | inl e ↦
            ap (λ m. has (list_at c2 m) p) e
            ∙ ap (λ xs. has xs p) (ap (λ v. list_at v (chain_at slots n)) out_chain ∙ list_at_same chains (chain_at slots n) _ chain_there)
            ∙ has-without n (list_at chains (chain_at slots n)) p ne (ap (λ m. has (list_at chains m) p) (sym e) ∙ h)
        | inr ne' ↦ ap (λ xs. has xs p) (ap (λ v. list_at v l) out_chain ∙ list_at_other chains (chain_at slots n) l _ ne') ∙ h
      ]

      was_there : (l p : ℕ) → IsIn c2 l p → IsIn chains l p × (p ≢ n)
      was_there l p h = elim (cases_eq l (chain_at slots n)) [
        | inl e ↦
            let kept = has-without_cases n (list_at chains (chain_at slots n)) p (ap (λ xs. has xs p) (sym (ap (λ v. list_at v (chain_at slots n)) out_chain ∙ list_at_same chains (chain_at slots n) _ chain_there)) ∙ ap (λ m. has (list_at c2 m) p) (sym e) ∙ h) in
            (ap (λ m. has (list_at chains m) p) e ∙ kept.0, kept.1)
        | inr ne ↦
            let old : IsIn chains l p = ap (λ xs. has xs p) (sym (ap (λ v. list_at v l) out_chain ∙ list_at_other chains (chain_at slots n) l _ ne)) ∙ h in
            (old, λ e. ne (s.chains_valid.apart l (chain_at slots n) n (subst (λ q. IsIn chains l q) e old) in_chain))
      ]

      still : (p : ℕ) → IsIn p2 0 p → IsIn places 0 p × (p ≢ n)
      still p h = has-without_cases n (list_at places 0) p (ap (λ xs. has xs p) (sym out_zero2) ∙ h)

      pub out_sound : IsSound (set slots n None) p2 c2 (count - 1)
      out_sound =
          let shorter = length-without n (list_at places 0) (s.places_valid.distinct 0) flies in
          record {
            slot_count = length-set slots n None ∙ s.slot_count;
            place_count = ap (λ v. v.nodes) e2 ∙ ap (λ v. v.nodes) out1 ∙ s.place_count;
            two_lists = ap (λ v. length v.lists) e2 ∙ lists_same p1 1 _ ∙ out_two;
            places_valid = v2;
            chained_count = ap (λ v. v.nodes) out_chain ∙ s.chained_count;
            chain_count = ap (λ v. length v.lists) out_chain ∙ lists_same chains (chain_at slots n) _ ∙ s.chain_count;
            chains_valid = vc;
            counted = omega (arith, ap (length {A = ℕ}) out_zero2, shorter, s.counted);
            all_listed = omega (arith, ap (length {A = ℕ}) out_zero2, shorter, ap (length {A = ℕ}) out_one2, length_push (list_at places 1) n, s.all_listed);
            filled = λ p h. let old = still p h in ap is_some (slot_other n p None old.1) ∙ s.filled p old.0;
            vacant = λ p h. elim (has-push_cases (list_at places 1) n p (ap (λ xs. has xs p) (sym out_one2) ∙ h)) [
              | inl old ↦ slot_other n p None (λ e. not_both n flies (subst (λ q. IsIn places 1 q) e old)) ∙ s.vacant p old
              | inr e ↦ ap (slot_at (set slots n None)) e ∙ slot_same n None (below 0 n flies)
            ];
            chained = λ p h. let old = still p h in stayed (chain_at (set slots n None) p) p old.1 (subst (λ (g : Flown). IsIn chains (chain_of g.orig) p) (sym (flown_other n p None old.1)) (s.chained p old.0));
            used = λ l p h. let old = was_there l p h in ap (λ xs. has xs p) out_zero2 ∙ has-without n (list_at places 0) p old.1 (s.used l p old.0);
            alone = λ p q h h' same.
                let old = still p h in
                let old' = still q h' in
                s.alone p q old.0 old'.0 (sym (ap (λ (g : Flown). g.orig) (flown_other n p None old.1)) ∙ same ∙ ap (λ (g : Flown). g.orig) (flown_other n q None old'.1));
          }
