-- Cells that are met, and values that are gone over.
use Rattle.std.proofs.Common.{◌≡◌, ℕ, zero, suc, ◌+◌, ◌-◌, ◌<◌, ◌≤◌, Bool, true, false, cond, ◌||◌, eqb, List, [], ◌∷◌, ◌++◌, length, get_or, take, append-nil, unwrap_or, Option, Some, None, refl, sym, ap, subst, ◌∙◌, arith, inl, inr}
use Rattle.std.specs.Prelude.{encode_utf8_all, filter, if◌then◌else◌, map}
use Rattle.std.specs.List.{flat_map, fold, list_any}
use Rattle.std.proofs.lemmas.Bool.{cases_Bool, cond-true, cond-false, eqb-true, true≢false}
use Rattle.std.proofs.lemmas.List.{map-append, take_all, take_more}
use Rattle.std.proofs.lemmas.List.Folds.{list_any-append}
use Rattle.std.proofs.lemmas.Grind.{fold-append}
use Rattle.lp_values.specs.declared.id.CellId.{CellId}
use Rattle.lp_values.specs.declared.id.ObjId.{ObjId}
use Rattle.lp_values.specs.declared.value.Value.{Value}
use Rattle.lp_values.specs.declared.value.Value.TheVariants.{Arr, Map}
use Rattle.lp_cells.specs.Cells.{Store, items_at, items_of, pairs_at, stored_pairs}
use Rattle.lp_cells.specs.Mapping.{pairs_there}
use Rattle.lp_cells.specs.Slots.{filled}
use Rattle.lp_cells.proofs.SlotLemmas.{there_filled}
use Rattle.std.specs.Option.{option_to_list}
use Rattle.std.proofs.lemmas.Grind.{flat_map-append}
use Rattle.lp_save.specs.declared.walk.Walker.{Walker}
use Rattle.lp_save.specs.SaveText.{Walk, is_among, saved_text, shared_in, text_spelt, walk_of, walked}
use Rattle.lp_save.specs.States.{Stands, GoesOver, both, met_at, is_entered}

or_false : (b : Bool) → (b || false) ≡ b
or_false true = refl
or_false false = refl

or_turned : (a b : Bool) → (a || b) ≡ (b || a)
or_turned true true = refl
or_turned true false = refl
or_turned false true = refl
or_turned false false = refl

-- a cell more
among_more : (d c : CellId) (cs : List CellId) → is_among d (cs ++ c ∷ []) ≡ is_among d (c ∷ cs)
among_more d c cs = list_any-append (λ e. eqb e.0 d.0) cs (c ∷ []) ∙ ap (λ b. is_among d cs || b) (or_false (eqb c.0 d.0)) ∙ or_turned (is_among d cs) (eqb c.0 d.0)

-- a cell that is there is one of them as well
among_same : (d c : CellId) (cs : List CellId) → is_among c cs ≡ true → is_among d cs ≡ is_among d (c ∷ cs)
among_same d c cs h =
    elim (cases_Bool (eqb c.0 d.0)) [
      | inl y ↦ rw y (subst (λ n. list_any (λ e. eqb e.0 n) cs ≡ true) (eqb-true c.0 d.0 y) h)
      | inr n ↦ rw n refl
    ]

-- a cell that comes to a set is one of the list with it
pub among_added : (d c : CellId) (set list : List CellId) → ((e : CellId) → is_among e set ≡ is_among e list) → is_among d (if is_among c set then set else set ++ c ∷ []) ≡ is_among d (c ∷ list)
among_added d c set list same =
    elim (cases_Bool (is_among c set)) [
      | inl y ↦ rw y (among_same d c set y ∙ ap (λ b. eqb c.0 d.0 || b) (same d))
      | inr n ↦ rw n (among_more d c set ∙ ap (λ b. eqb c.0 d.0 || b) (same d))
    ]

-- ---- a cell is met

pub again_stands : (k new : Walker) (c : CellId) (n : ℕ) → is_among c k.met ≡ true → new.met ≡ k.met → new.is_deep ≡ k.is_deep → new.again ≡ (if is_among c k.again then k.again else k.again ++ c ∷ [])
    → (w : Walk) → Stands k w → Stands new (met_at n c w) × (false ≡ is_entered n c w)
again_stands k new c zero there met deep again w s =
    let among : is_among c w.met ≡ true = rw (← s.met) there in
    (rw among (record { met = met ∙ s.met; again = λ d. ap (is_among d) again ∙ among_added d c k.again w.again s.again; is_deep = deep ∙ s.is_deep }), refl)
again_stands k new c (suc n) there met deep again w s =
    let among : is_among c w.met ≡ true = rw (← s.met) there in
    (rw among (record { met = met ∙ s.met; again = λ d. ap (is_among d) again ∙ among_added d c k.again w.again s.again; is_deep = deep ∙ s.is_deep }), rw among refl)

pub deep_stands : (k new : Walker) (c : CellId) → is_among c k.met ≡ false → new.met ≡ k.met → new.again ≡ k.again → new.is_deep ≡ true
    → (w : Walk) → Stands k w → Stands new (met_at 0 c w) × (false ≡ is_entered 0 c w)
deep_stands k new c there met again deep w s =
    let among : is_among c w.met ≡ false = rw (← s.met) there in
    (rw among (record { met = met ∙ s.met; again = λ d. ap (is_among d) again ∙ s.again d; is_deep = deep }), refl)

pub first_stands : (k new : Walker) (c : CellId) (n : ℕ) → 0 < n → is_among c k.met ≡ false → new.met ≡ k.met ++ c ∷ [] → new.again ≡ k.again → new.is_deep ≡ k.is_deep
    → (w : Walk) → Stands k w → Stands new (met_at n c w) × (true ≡ is_entered n c w)
first_stands k new c zero lt there met again deep w s = absurd (omega arith)
first_stands k new c (suc n) lt there met again deep w s =
    let among : is_among c w.met ≡ false = rw (← s.met) there in
    (rw among (record { met = met ∙ ap (λ cs. cs ++ c ∷ []) s.met; again = λ d. ap (is_among d) again ∙ s.again d; is_deep = deep ∙ s.is_deep }), rw among refl)

-- ---- a value with a cell

-- array
not_entered_array : (live : ObjId → Bool) (cells : Store) (c : CellId) (n : ℕ) (w : Walk) → false ≡ is_entered n c w → walked live cells n w (Arr c) ≡ met_at n c w
not_entered_array live cells c zero w skips = refl
not_entered_array live cells c (suc n) w skips =
    elim (cases_Bool (is_among c w.met)) [
      | inl y ↦ rw y refl
      | inr other ↦ absurd (true≢false (sym (rw other at skips)))
    ]

entered_array_one : (live : ObjId → Bool) (cells : Store) (c : CellId) (n : ℕ) (w : Walk) → true ≡ is_entered (suc n) c w → walked live cells (suc n) w (Arr c) ≡ fold (walked live cells n) (met_at (suc n) c w) (items_of cells c)
entered_array_one live cells c n w enters =
    elim (cases_Bool (is_among c w.met)) [
      | inl y ↦ absurd (true≢false (rw y at enters))
      | inr other ↦ rw other refl
    ]

entered_in_array : (live : ObjId → Bool) (cells : Store) (c : CellId) (n : ℕ) (w : Walk) → true ≡ is_entered n c w → walked live cells n w (Arr c) ≡ fold (walked live cells (n - 1)) (met_at n c w) (items_of cells c)
entered_in_array live cells c zero w enters = absurd (true≢false enters)
entered_in_array live cells c (suc n) w enters =
    let less : n ≡ suc n - 1 = omega arith in
    entered_array_one live cells c n w enters ∙ ap (λ k. fold (walked live cells k) (met_at (suc n) c w) (items_of cells c)) less

-- mapping
not_entered_mapping : (live : ObjId → Bool) (cells : Store) (c : CellId) (n : ℕ) (w : Walk) → false ≡ is_entered n c w → walked live cells n w (Map c) ≡ met_at n c w
not_entered_mapping live cells c zero w skips = refl
not_entered_mapping live cells c (suc n) w skips =
    elim (cases_Bool (is_among c w.met)) [
      | inl y ↦ rw y refl
      | inr other ↦ absurd (true≢false (sym (rw other at skips)))
    ]

entered_mapping_one : (live : ObjId → Bool) (cells : Store) (c : CellId) (n : ℕ) (w : Walk) → true ≡ is_entered (suc n) c w → walked live cells (suc n) w (Map c) ≡ fold (walked live cells n) (met_at (suc n) c w) (flat_map both (pairs_there live (stored_pairs cells c)))
entered_mapping_one live cells c n w enters =
    elim (cases_Bool (is_among c w.met)) [
      | inl y ↦ absurd (true≢false (rw y at enters))
      | inr other ↦ rw other refl
    ]

entered_in_mapping : (live : ObjId → Bool) (cells : Store) (c : CellId) (n : ℕ) (w : Walk) → true ≡ is_entered n c w → walked live cells n w (Map c) ≡ fold (walked live cells (n - 1)) (met_at n c w) (flat_map both (pairs_there live (stored_pairs cells c)))
entered_in_mapping live cells c zero w enters = absurd (true≢false enters)
entered_in_mapping live cells c (suc n) w enters =
    let less : n ≡ suc n - 1 = omega arith in
    entered_mapping_one live cells c n w enters ∙ ap (λ k. fold (walked live cells k) (met_at (suc n) c w) (flat_map both (pairs_there live (stored_pairs cells c)))) less

-- ---- lists

pub over_more : (f : Walk → Value → Walk) (old now new : Walker) (xs : List Value) (i : ℕ) (x : Value) → i < length xs → x ≡ get_or xs i x
    → GoesOver old now (λ w. fold f w (take i xs)) → GoesOver now new (λ w. f w x) → GoesOver old new (λ w. fold f w (take (i + 1) xs))
over_more f old now new xs i x lt is before step = λ w s.
    let all : take (i + 1) xs ≡ take i xs ++ x ∷ [] = take_more xs i x lt ∙ ap (λ y. take i xs ++ y ∷ []) (sym is) in
    subst (λ y. Stands new (fold f w y)) (sym all) (subst (Stands new) (sym (fold-append f w (take i xs) (x ∷ []))) (step (fold f w (take i xs)) (before w s)))

pub over_all : (f : Walk → Value → Walk) (old now : Walker) (xs : List Value) (i : ℕ) → length xs ≤ i → GoesOver old now (λ w. fold f w (take i xs)) → GoesOver old now (λ w. fold f w xs)
over_all f old now xs i le before = λ w s. subst (λ y. Stands now (fold f w y)) (take_all i xs le) (before w s)

-- ---- arrays and mappings

pub skipped_array : (live : ObjId → Bool) (cells : Store) (v : Value) (c : CellId) (n : ℕ) (w : Walk) (new : Walker) → v ≡ Arr c → false ≡ is_entered n c w → Stands new (met_at n c w) → Stands new (walked live cells n w v)
skipped_array live cells v c n w new is skips s = subst (Stands new) (sym (ap (walked live cells n w) is ∙ not_entered_array live cells c n w skips)) s

pub skipped_mapping : (live : ObjId → Bool) (cells : Store) (v : Value) (c : CellId) (n : ℕ) (w : Walk) (new : Walker) → v ≡ Map c → false ≡ is_entered n c w → Stands new (met_at n c w) → Stands new (walked live cells n w v)
skipped_mapping live cells v c n w new is skips s = subst (Stands new) (sym (ap (walked live cells n w) is ∙ not_entered_mapping live cells c n w skips)) s

pub entered_array : (live : ObjId → Bool) (cells : Store) (v : Value) (c : CellId) (n : ℕ) (w : Walk) (new : Walker) (xs : List Value) → v ≡ Arr c → items_at cells c ≡ Some xs → true ≡ is_entered n c w
    → Stands new (fold (walked live cells (n - 1)) (met_at n c w) xs) → Stands new (walked live cells n w v)
entered_array live cells v c n w new xs is items enters s =
    let held : items_of cells c ≡ xs = ap (λ o. unwrap_or o []) items in
    subst (Stands new) (sym (ap (walked live cells n w) is ∙ entered_in_array live cells c n w enters ∙ ap (fold (walked live cells (n - 1)) (met_at n c w)) held)) s

pub entered_mapping : (live : ObjId → Bool) (cells : Store) (v : Value) (c : CellId) (n : ℕ) (w : Walk) (new : Walker) (ps : List (Value × Value)) → v ≡ Map c → pairs_at cells c ≡ Some ps → true ≡ is_entered n c w
    → Stands new (fold (walked live cells (n - 1)) (met_at n c w) (flat_map both (pairs_there live ps))) → Stands new (walked live cells n w v)
entered_mapping live cells v c n w new ps is pairs enters s =
    let held : flat_map both (pairs_there live (stored_pairs cells c)) ≡ flat_map both (pairs_there live ps) = ap (λ o. flat_map both (pairs_there live (unwrap_or o []))) pairs in
    subst (Stands new) (sym (ap (walked live cells n w) is ∙ entered_in_mapping live cells c n w enters ∙ ap (fold (walked live cells (n - 1)) (met_at n c w)) held)) s

-- ---- pairs

pub over_pair : (live : ObjId → Bool) (f : Walk → Value → Walk) (old now mid new : Walker) (slots : List (Option (Value × Value))) (i : ℕ) (x : Option (Value × Value)) (p : Value × Value) → i < length slots → x ≡ get_or slots i x → p ∷ [] ≡ pairs_there live (option_to_list x)
    → GoesOver old now (λ w. fold f w (flat_map both (pairs_there live (filled (take i slots))))) → GoesOver now mid (λ w. f w p.0) → GoesOver mid new (λ w. f w p.1)
    → GoesOver old new (λ w. fold f w (flat_map both (pairs_there live (filled (take (i + 1) slots)))))
over_pair live f old now mid new slots i x p lt at is before key value = λ w s.
    let all : flat_map both (pairs_there live (filled (take (i + 1) slots))) ≡ flat_map both (pairs_there live (filled (take i slots))) ++ p.0 ∷ p.1 ∷ [] =
    ap (flat_map both) (there_filled live slots i x lt at ∙ ap (λ y. pairs_there live (filled (take i slots)) ++ y) (sym is)) ∙ flat_map-append both (pairs_there live (filled (take i slots))) (p ∷ []) in
    subst (λ y. Stands new (fold f w y)) (sym all)
    (subst (Stands new) (sym (fold-append f w (flat_map both (pairs_there live (filled (take i slots)))) (p.0 ∷ p.1 ∷ []))) (value _ (key _ (before w s))))

pub over_no_pair : (live : ObjId → Bool) (f : Walk → Value → Walk) (old now : Walker) (slots : List (Option (Value × Value))) (i : ℕ) (x : Option (Value × Value)) → i < length slots → x ≡ get_or slots i x → [] ≡ pairs_there live (option_to_list x)
    → GoesOver old now (λ w. fold f w (flat_map both (pairs_there live (filled (take i slots))))) → GoesOver old now (λ w. fold f w (flat_map both (pairs_there live (filled (take (i + 1) slots)))))
over_no_pair live f old now slots i x lt at is before = λ w s.
    let all : pairs_there live (filled (take (i + 1) slots)) ≡ pairs_there live (filled (take i slots)) = there_filled live slots i x lt at ∙ ap (λ y. pairs_there live (filled (take i slots)) ++ y) (sym is) ∙ append-nil (pairs_there live (filled (take i slots))) in
    subst (λ y. Stands now (fold f w (flat_map both y))) (sym all) (before w s)

pub over_all_pairs : (live : ObjId → Bool) (f : Walk → Value → Walk) (old now : Walker) (slots : List (Option (Value × Value))) (i : ℕ) → length slots ≤ i
    → GoesOver old now (λ w. fold f w (flat_map both (pairs_there live (filled (take i slots))))) → GoesOver old now (λ w. fold f w (flat_map both (pairs_there live (filled slots))))
over_all_pairs live f old now slots i le before = λ w s. subst (λ y. Stands now (fold f w (flat_map both (pairs_there live (filled y))))) (take_all i slots le) (before w s)

-- ---- variables

pub over_var : (f : Walk → Value → Walk) (old now new : Walker) (vars : List (List ℕ × Value)) (i : ℕ) (p : List ℕ × Value) → i < length vars → p ≡ get_or vars i p → GoesOver old now (λ w. fold f w (map (λ q. q.1) (take i vars)))
    → GoesOver now new (λ w. f w p.1) → GoesOver old new (λ w. fold f w (map (λ q. q.1) (take (i + 1) vars)))
over_var f old now new vars i p lt is before step = λ w s.
    let snd : List ℕ × Value → Value = λ q. q.1 in
    let all : map snd (take (i + 1) vars) ≡ map snd (take i vars) ++ p.1 ∷ [] = ap (map snd) (take_more vars i p lt ∙ ap (λ y. take i vars ++ y ∷ []) (sym is)) ∙ map-append snd (take i vars) (p ∷ []) in
    subst (λ y. Stands new (fold f w y)) (sym all) (subst (Stands new) (sym (fold-append f w (map snd (take i vars)) (p.1 ∷ []))) (step (fold f w (map snd (take i vars))) (before w s)))

pub over_vars : (f : Walk → Value → Walk) (old now : Walker) (vars : List (List ℕ × Value)) (i : ℕ) → length vars ≤ i → GoesOver old now (λ w. fold f w (map (λ q. q.1) (take i vars))) → GoesOver old now (λ w. fold f w (map (λ q. q.1) vars))
over_vars f old now vars i le before = λ w s. subst (λ y. Stands now (fold f w (map (λ q. q.1) y))) (take_all i vars le) (before w s)

-- ---- what is saved

pub saved_some : (live : ObjId → Bool) (cells : Store) (ps : List (List ℕ × Value)) (k : Walker) (shared : List CellId) (bytes : List ℕ) → Stands k (walk_of live cells (map (λ p. p.1) ps)) → k.is_deep ≡ false → shared ≡ shared_in (walk_of live cells (map (λ p. p.1) ps))
    → bytes ≡ encode_utf8_all (text_spelt live cells shared ps) → saved_text live cells ps ≡ Some bytes
unfolding saved_text
saved_some live cells ps k shared bytes s deep is spelled =
    let w : Walk = walk_of live cells (map (λ p. p.1) ps) in
    cond-false w.is_deep None (Some (encode_utf8_all (text_spelt live cells (shared_in w) ps))) (sym s.is_deep ∙ deep) ∙ ap (λ x. Some (encode_utf8_all (text_spelt live cells x ps))) (sym is) ∙ ap Some (sym spelled)

pub saved_none : (live : ObjId → Bool) (cells : Store) (ps : List (List ℕ × Value)) (k : Walker) → Stands k (walk_of live cells (map (λ p. p.1) ps)) → k.is_deep ≡ true → saved_text live cells ps ≡ None
unfolding saved_text
saved_none live cells ps k s deep =
    let w : Walk = walk_of live cells (map (λ p. p.1) ps) in
    cond-true w.is_deep None (Some (encode_utf8_all (text_spelt live cells (shared_in w) ps))) (sym s.is_deep ∙ deep)

filter_agrees : (p q : CellId → Bool) → ((c : CellId) → p c ≡ q c) → (cs : List CellId) → filter p cs ≡ filter q cs
filter_agrees p q same [] = refl
filter_agrees p q same (c ∷ cs) = ap (λ b. cond b (c ∷ filter p cs) (filter p cs)) (same c) ∙ ap (λ ds. cond (q c) (c ∷ ds) ds) (filter_agrees p q same cs)

pub shared_same : (k : Walker) (w : Walk) (shared : List CellId) → Stands k w → shared ≡ filter (λ c. is_among c k.again) k.met → shared ≡ shared_in w
shared_same k w shared s is = is ∙ filter_agrees (λ c. is_among c k.again) (λ c. is_among c w.again) s.again k.met ∙ ap (filter (λ c. is_among c w.again)) s.met
