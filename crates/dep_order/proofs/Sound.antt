-- What holds of the fields after a call was taken and after one has ended.
use Rattle.std.proofs.Common.{◌≡◌, ◌≢◌, ℕ, ◌+◌, ◌<◌, inl, inr, ◌==◌, not, List, [], ◌∷◌, ◌++◌, length, map, drop, set, filter, Some, refl, sym, ap, subst, ◌∙◌, arith, slice_get, ◌*◌}
use Rattle.std.specs.List.{AllByRecursion}
use Rattle.std.proofs.lemmas.Bool.{cases_eq, false_from_ne_true, eq-eqb, ne_eqb, not_from_false, not_from_true}
use Rattle.std.proofs.lemmas.List.{length-set, length-drop, length_push, get_or-set_same, get_or-set_other}
use Rattle.std.proofs.lemmas.Option.{slice_get_within}
use Rattle.index_lists.specs.NodeLists.{NodeLists, has, list_at, IsIn, IsFree, IsValid, with_list, without}
use Rattle.index_lists.proofs.Edits.{has-without}
use Rattle.dep_order.specs.declared.row.WaitRow.{WaitRow}
use Rattle.dep_order.specs.Rows.{print_of}
use Rattle.dep_order.specs.WaitLists.{AreFit, row_at, no_row, place_of, number_at, number_list, offload_list, page_list, IsGrown, IsInOrder, Stands, StandsFor}
use Rattle.dep_order.specs.Fields.{print_at, calls_of, IsRising, IsSound}
use Rattle.dep_order.proofs.Mapped.{map_same, map_push, filter_one}
use Rattle.dep_order.proofs.Joining.{AreAmong, grown_kept, grown_only}
use Rattle.dep_order.proofs.InOrder.{order_grown}
use Rattle.dep_order.proofs.Rising.{Below, below_there, rising_push, rising_filter}
use Rattle.dep_order.proofs.Going.{alone}
use Rattle.index_lists.proofs.Members.{has_at, list_at_same, list_at_other, lists_same, has-push_cases, has-push_old, has-push_new, has-without_cases, length-without, first_gone}

-- a place stands where it has to, also after others have joined or left
stands_for : (v new : NodeLists) (place : ℕ) (row : WaitRow) → ((list node : ℕ) → IsIn v list node → place_of node ≡ place → IsIn new list node) → StandsFor v place row → StandsFor new place row
stands_for v new place row kept s =
    let on : (list : ℕ) → Stands v list place → Stands new list place = λ list h. (h.0, (kept list h.0 h.1.0 h.1.1, h.1.1)) in
    record {
      by_number = on (number_list row.no.0) s.by_number;
      by_fence = λ fence. on 1280 (s.by_fence fence);
      by_offload = λ number odd is. on (offload_list number) (s.by_offload number odd is);
      by_page = λ page low high. on (page_list page) (s.by_page page low high);
    }

module _ {rows : List WaitRow} {places waits : NodeLists} (s : IsSound rows places waits) where
  -- a place in a list is one of 256
  pub below : (l p : ℕ) → IsIn places l p → p < 256
  below l p h = omega (arith, (s.places_valid.in_range l p h).1, s.place_count)

  -- no place is in both lists
  not_both : (p : ℕ) → IsIn places 0 p → IsIn places 1 p → ⊥
  not_both p held free = let same = s.places_valid.apart 0 1 p held free in omega arith

  -- ---- a call more, at place n
  module _ (n : ℕ) (first : Some n ≡ slice_get (list_at places 1) 0) where
    free : IsIn places 1 n
    free = has_at (list_at places 1) 0 n (sym first)

    pub new_below : n < 256
    new_below = below 1 n free

    -- it stands in no list
    pub new_apart : (l : ℕ) → Stands waits l n → ⊥
    new_apart l h = not_both n (subst (λ p. IsIn places 0 p) h.1.1 (s.used l h.0 h.1.0)) free

    module _ (p1 : NodeLists) (e1 : p1 ≡ with_list places 1 (drop 1 (list_at places 1))) where
      zero1 : list_at p1 0 ≡ list_at places 0
      zero1 = ap (λ v. list_at v 0) e1 ∙ list_at_other places 1 0 (drop 1 (list_at places 1)) (λ e. omega arith)

      one1 : list_at p1 1 ≡ drop 1 (list_at places 1)
      one1 = ap (λ v. list_at v 1) e1 ∙ list_at_same places 1 (drop 1 (list_at places 1)) (omega (arith, s.two_lists))

      pub new_free : IsFree p1 n
      new_free = λ l. false_from_ne_true _ (λ h. elim (cases_eq l 1) [
        | inl e ↦ first_gone (list_at places 1) n (s.places_valid.distinct 1) first (ap (λ xs. has xs n) (sym one1) ∙ ap (λ m. has (list_at p1 m) n) (sym e) ∙ h)
        | inr ne ↦ ne (s.places_valid.apart l 1 n (ap (λ xs. has xs n) (sym (ap (λ v. list_at v l) e1 ∙ list_at_other places 1 l (drop 1 (list_at places 1)) ne)) ∙ h) free)
      ])

      module _ (row : WaitRow) (rows' : List WaitRow) (er : rows' ≡ set rows n row) (p2 w2 : NodeLists) (e2 : p2 ≡ with_list p1 0 (list_at p1 0 ++ n ∷ [])) where
        row_here : row_at rows' n ≡ row
        row_here = ap (λ rs. row_at rs n) er ∙ get_or-set_same rows n row no_row (omega (arith, new_below, s.row_count))

        row_other : (p : ℕ) → p ≢ n → row_at rows' p ≡ row_at rows p
        row_other p ne = ap (λ rs. row_at rs p) er ∙ get_or-set_other rows n p row no_row ne

        old_other : (p : ℕ) → IsIn places 0 p → row_at rows' p ≡ row_at rows p
        old_other p held = row_other p (λ e. not_both p held (subst (λ q. IsIn places 1 q) (sym e) free))

        zero2 : list_at p2 0 ≡ list_at places 0 ++ n ∷ []
        zero2 = ap (λ v. list_at v 0) e2 ∙ list_at_same p1 0 _ (omega (arith, ap (λ v. length v.lists) e1, lists_same places 1 (drop 1 (list_at places 1)), s.two_lists)) ∙ ap (λ xs. xs ++ n ∷ []) zero1

        one2 : list_at p2 1 ≡ drop 1 (list_at places 1)
        one2 = ap (λ v. list_at v 1) e2 ∙ list_at_other p1 0 1 _ (λ e. omega arith) ∙ one1

        pub new_seen : calls_of rows' p2 ≡ calls_of rows places ++ print_of row ∷ []
        new_seen =
            ap (map (print_at rows')) zero2
            ∙ map_push (print_at rows') (list_at places 0) n
            ∙ ap (λ ks. ks ++ print_at rows' n ∷ []) (map_same (print_at rows) (print_at rows') (list_at places 0) (λ p h. ap print_of (old_other p h)))
            ∙ ap (λ r. calls_of rows places ++ print_of r ∷ []) row_here

        its_number : (added : List ℕ) → AreAmong (n * 20) (n * 20 + 20) added → AllByRecursion (λ m. number_at rows' m ≡ row.no.0) added
        its_number [] h = tt
        its_number (m ∷ ms) h = (let e : place_of m ≡ n = omega (arith, h.0.0, h.0.1) in ap (λ p. (row_at rows' p).no.0) e ∙ ap (λ (r : WaitRow). r.no.0) row_here, its_number ms h.1)

        pub new_sound : Below row.no.0 (calls_of rows places) → AreFit row.pages → IsValid p2 → w2.nodes ≡ waits.nodes → length w2.lists ≡ length waits.lists → IsValid w2
            → StandsFor w2 n row → ((list : ℕ) → IsGrown (n * 20) (n * 20 + 20) (list_at waits list) (list_at w2 list))
            → IsSound rows' p2 w2
        new_sound later fits v2 nodes count vw joined grown = record {
          row_count = ap (length {A = WaitRow}) er ∙ length-set rows n row ∙ s.row_count;
          fit = λ p. elim (cases_eq p n) [
            | inl e ↦ subst (λ (r : WaitRow). AreFit r.pages) (sym (ap (row_at rows') e ∙ row_here)) fits
            | inr ne ↦ subst (λ (r : WaitRow). AreFit r.pages) (sym (row_other p ne)) (s.fit p)
          ];
          place_count = ap (λ v. v.nodes) e2 ∙ ap (λ v. v.nodes) e1 ∙ s.place_count;
          two_lists = ap (λ v. length v.lists) e2 ∙ lists_same p1 0 _ ∙ ap (λ v. length v.lists) e1 ∙ lists_same places 1 (drop 1 (list_at places 1)) ∙ s.two_lists;
          places_valid = v2;
          all_listed =
              omega (
                arith,
                ap (length {A = ℕ}) zero2,
                length_push (list_at places 0) n,
                ap (length {A = ℕ}) one2,
                length-drop 1 (list_at places 1),
                slice_get_within (list_at places 1) 0 n (sym first),
                s.all_listed,
              );
          rising = subst IsRising (sym new_seen) (rising_push (calls_of rows places) (print_of row) s.rising later);
          node_count = nodes ∙ s.node_count;
          list_count = count ∙ s.list_count;
          waits_valid = vw;
          stands = λ p h. elim (has-push_cases (list_at places 0) n p (ap (λ xs. has xs p) (sym zero2) ∙ h)) [
            | inl old ↦ subst (StandsFor w2 p) (sym (old_other p old)) (stands_for waits w2 p (row_at rows p) (λ l m there is. grown_kept (n * 20) (n * 20 + 20) (list_at waits l) (list_at w2 l) m (grown l) there) (s.stands p old))
            | inr e ↦ subst (λ q. StandsFor w2 q (row_at rows' q)) (sym e) (subst (StandsFor w2 n) (sym row_here) joined)
          ];
          used = λ l m h. elim (grown_only (n * 20) (n * 20 + 20) (list_at waits l) (list_at w2 l) m (grown l) h) [
            | inl old ↦ ap (λ xs. has xs (place_of m)) zero2 ∙ has-push_old (list_at places 0) n (place_of m) (s.used l m old)
            | inr its ↦ let e : place_of m ≡ n = omega (arith, its.0, its.1) in ap (λ xs. has xs (place_of m)) zero2 ∙ ap (has (list_at places 0 ++ n ∷ [])) e ∙ has-push_new (list_at places 0) n
          ];
          in_order = λ l.
              let now = grown l in
              subst (IsInOrder (number_at rows')) (sym now.1.0) (
              order_grown (number_at rows) (number_at rows') row.no.0 (list_at waits l) now.0 (s.in_order l)
              (λ m there. let held = s.used l m there in (ap (λ (r : WaitRow). r.no.0) (old_other (place_of m) held), omega (arith, below_there (print_at rows) row.no.0 (list_at places 0) (place_of m) later held)))
              (its_number now.0 now.1.1));
        }

  -- ---- the call at place n taken out
  module _ (n : ℕ) (held : IsIn places 0 n) (p1 : NodeLists) (e1 : (l : ℕ) → IsIn places l n → p1 ≡ with_list places l (without n (list_at places l))) where
    out1 : p1 ≡ with_list places 0 (without n (list_at places 0))
    out1 = e1 0 held

    out_zero1 : list_at p1 0 ≡ without n (list_at places 0)
    out_zero1 = ap (λ v. list_at v 0) out1 ∙ list_at_same places 0 _ (omega (arith, s.two_lists))

    out_other1 : (l : ℕ) → l ≢ 0 → list_at p1 l ≡ list_at places l
    out_other1 l ne = ap (λ v. list_at v l) out1 ∙ list_at_other places 0 l _ ne

    pub out_free : IsFree p1 n
    out_free = λ l. false_from_ne_true _ (λ h. elim (cases_eq l 0) [
      | inl e ↦ (has-without_cases n (list_at places 0) n (ap (λ xs. has xs n) (sym out_zero1) ∙ ap (λ m. has (list_at p1 m) n) (sym e) ∙ h)).1 refl
      | inr ne ↦ ne (s.places_valid.apart l 0 n (ap (λ xs. has xs n) (sym (out_other1 l ne)) ∙ h) held)
    ])

    module _ (p2 w2 : NodeLists) (e2 : p2 ≡ with_list p1 1 (list_at p1 1 ++ n ∷ [])) where
      out_two : length p1.lists ≡ 2
      out_two = ap (λ v. length v.lists) out1 ∙ lists_same places 0 _ ∙ s.two_lists

      out_zero2 : list_at p2 0 ≡ without n (list_at places 0)
      out_zero2 = ap (λ v. list_at v 0) e2 ∙ list_at_other p1 1 0 _ (λ e. omega arith) ∙ out_zero1

      out_one2 : list_at p2 1 ≡ list_at places 1 ++ n ∷ []
      out_one2 = ap (λ v. list_at v 1) e2 ∙ list_at_same p1 1 _ (omega (arith, out_two)) ∙ ap (λ xs. xs ++ n ∷ []) (out_other1 1 (λ e. omega arith))

      pub out_seen : (number : ℕ) → (row_at rows n).no.0 ≡ number → calls_of rows p2 ≡ filter (λ k. not (k.0 == number)) (calls_of rows places)
      out_seen number its =
          ap (map (print_at rows)) out_zero2
          ∙ filter_one (print_at rows) (λ k. not (k.0 == number)) n (list_at places 0) (not_from_true ((row_at rows n).no.0 == number) (eq-eqb (row_at rows n).no.0 number its))
          (λ p h ne. not_from_false ((row_at rows p).no.0 == number) (ne_eqb (row_at rows p).no.0 number (λ same. ne (alone s p n h held (same ∙ sym its)))))

      pub out_sound : IsValid p2 → w2.nodes ≡ waits.nodes → length w2.lists ≡ length waits.lists → IsValid w2
          → ((list node : ℕ) → IsIn waits list node → (place_of node ≡ n → ⊥) → IsIn w2 list node)
          → ((list node : ℕ) → IsIn w2 list node → IsIn waits list node × (place_of node ≡ n → ⊥))
          → ((number : ℕ → ℕ) (list : ℕ) → IsInOrder number (list_at waits list) → IsInOrder number (list_at w2 list))
          → IsSound rows p2 w2
      out_sound v2 nodes count vw kept only order =
          let shorter = length-without n (list_at places 0) (s.places_valid.distinct 0) held in
          record {
            row_count = s.row_count;
            fit = s.fit;
            place_count = ap (λ v. v.nodes) e2 ∙ ap (λ v. v.nodes) out1 ∙ s.place_count;
            two_lists = ap (λ v. length v.lists) e2 ∙ lists_same p1 1 _ ∙ out_two;
            places_valid = v2;
            all_listed = omega (arith, ap (length {A = ℕ}) out_zero2, shorter, ap (length {A = ℕ}) out_one2, length_push (list_at places 1) n, s.all_listed);
            rising = subst IsRising (sym (out_seen (row_at rows n).no.0 refl)) (rising_filter (λ k. not (k.0 == (row_at rows n).no.0)) (calls_of rows places) s.rising);
            node_count = nodes ∙ s.node_count;
            list_count = count ∙ s.list_count;
            waits_valid = vw;
            stands = λ p h.
                let old = has-without_cases n (list_at places 0) p (ap (λ xs. has xs p) (sym out_zero2) ∙ h) in
                stands_for waits w2 p (row_at rows p) (λ l m there is. kept l m there (λ its. old.1 (sym is ∙ its))) (s.stands p old.0);
            used = λ l m h.
                let old = only l m h in
                ap (λ xs. has xs (place_of m)) out_zero2 ∙ has-without n (list_at places 0) (place_of m) old.1 (s.used l m old.0);
            in_order = λ l. order (number_at rows) l (s.in_order l);
          }
