-- Text that is added.
use Rattle.std.proofs.Common.{◌≡◌, ℕ, zero, suc, ◌+◌, ◌-◌, ◌<◌, ◌≤◌, Bool, false, List, [], ◌∷◌, ◌++◌, length, get_or, take, append-nil, unwrap_or, Option, Some, refl, sym, ap, subst, ◌∙◌, append_assoc, arith}
use Rattle.std.specs.Prelude.{codes, Result, Ok, Err, OnOk, if◌then◌else◌}
use Rattle.std.specs.List.{fold}
use Rattle.std.specs.Option.{option_to_list}
use Rattle.std.proofs.lemmas.List.{take_all}
use Rattle.std.proofs.lemmas.List.{take_more}
use Rattle.std.proofs.lemmas.Grind.{fold-append}
use Rattle.lp_values.specs.declared.id.CellId.{CellId}
use Rattle.lp_values.specs.declared.id.ObjId.{ObjId}
use Rattle.lp_values.specs.declared.value.Value.{Value}
use Rattle.lp_values.specs.declared.value.Value.TheVariants.{Arr, Map}
use Rattle.lp_cells.specs.Cells.{Store, items_at, items_of, pairs_at, stored_pairs}
use Rattle.lp_cells.specs.Mapping.{pairs_there}
use Rattle.lp_cells.specs.Slots.{filled}
use Rattle.lp_cells.proofs.SlotLemmas.{there_filled}
use Rattle.lp_save.specs.declared.spell.Speller.{Speller}
use Rattle.lp_save.specs.SaveText.{Spelt, is_among, add, begun, numbered, line_spelt, max_saved_levels, share_number, spelt}
use Rattle.lp_save.specs.States.{Writes, Spells, pair_spelt}
use Rattle.lp_save.proofs.WalkLemmas.{among_added}

-- what holds after a step that may fail gives what is to hold after it
pub on_ok : {A B : Type 0} (r : Result A B) {P Q : Type 0} → (P → Q) → OnOk r P → OnOk r Q
on_ok (Ok x) f h = f h
on_ok (Err e) f h = tt

pub on_ok_both : {A B : Type 0} (r : Result A B) {P S Q : Type 0} → (P → S → Q) → OnOk r P → OnOk r S → OnOk r Q
on_ok_both (Ok x) f h k = f h k
on_ok_both (Err e) f h k = tt

-- more text, and the same cells
pub spells_text : (old new : Speller) (t : List ℕ) → new.text.items ≡ old.text.items ++ t → new.done ≡ old.done → Spells old new (add t)
spells_text old new t text done = λ s w. record { text = text ∙ ap (λ x. x ++ t) w.text; done = λ c. ap (is_among c) done ∙ w.done c }

-- one behind the other
pub spells_then : (old now new : Speller) (f g : Spelt → Spelt) → Spells old now f → Spells now new g → Spells old new (λ s. g (f s))
spells_then old now new f g a b = λ s w. b (f s) (a s w)

-- a shared cell begins with its number
pub begun_number : (old new : Speller) (o : Option ℕ) (place : ℕ) (c : CellId) → Some place ≡ o → new.text.items ≡ (old.text.items ++ numbered place) ++ codes "="
    → new.done ≡ (if is_among c old.done then old.done else old.done ++ c ∷ []) → Spells old new (begun o c)
begun_number old new o place c is text done =
    subst (λ x. Spells old new (begun x c)) is
    (λ s w. record {
      text = text ∙ ap (λ x. (x ++ numbered place) ++ codes "=") w.text;
      done = λ d. ap (is_among d) done ∙ among_added d c old.done s.done w.done;
    })

-- ---- arrays and mappings

array_one : (live : ObjId → Bool) (cells : Store) (shared : List CellId) (c : CellId) (n : ℕ) (s : Spelt) → is_among c s.done ≡ false
    → spelt live cells shared (suc n) s (Arr c) ≡ add (codes "})") (fold (λ x v. add (codes ",") (spelt live cells shared n x v)) (add (codes "({") (begun (share_number shared c) c s)) (items_of cells c))
array_one live cells shared c n s h = rw h refl

mapping_one : (live : ObjId → Bool) (cells : Store) (shared : List CellId) (c : CellId) (n : ℕ) (s : Spelt) → is_among c s.done ≡ false
    → spelt live cells shared (suc n) s (Map c) ≡ add (codes "])") (fold (pair_spelt (spelt live cells shared n)) (add (codes "([") (begun (share_number shared c) c s)) (pairs_there live (stored_pairs cells c)))
mapping_one live cells shared c n s h = rw h refl

-- what is spelled of an array: its number where it is shared, and its items
pub spelt_array : (live : ObjId → Bool) (cells : Store) (shared : List CellId) (v : Value) (c : CellId) (n : ℕ) (old now new : Speller) (xs : List Value) → v ≡ Arr c → items_at cells c ≡ Some xs → 0 < n → is_among c old.done ≡ false
    → Spells old now (begun (share_number shared c) c)
    → Spells now new (λ s. add (codes "})") (fold (λ x v. add (codes ",") (spelt live cells shared (n - 1) x v)) (add (codes "({") s) xs))
    → Spells old new (λ s. spelt live cells shared n s v)
spelt_array live cells shared v c zero old now new xs is items lt new_one begins holds = absurd (omega arith)
spelt_array live cells shared v c (suc n) old now new xs is items lt new_one begins holds = λ s w.
    let less : suc n - 1 ≡ n = omega arith in
    let held : items_of cells c ≡ xs = ap (λ o. unwrap_or o []) items in
    let first : is_among c s.done ≡ false = sym (w.done c) ∙ new_one in
    let x : Spelt = begun (share_number shared c) c s in
    let text : ℕ → List Value → Spelt = λ k ys. add (codes "})") (fold (λ x v. add (codes ",") (spelt live cells shared k x v)) (add (codes "({") x) ys) in
    subst (Writes new) (ap (λ k. text k xs) less ∙ ap (text n) (sym held) ∙ sym (array_one live cells shared c n s first) ∙ ap (spelt live cells shared (suc n) s) (sym is))
    (holds x (begins s w))

-- and of a mapping
pub spelt_mapping : (live : ObjId → Bool) (cells : Store) (shared : List CellId) (v : Value) (c : CellId) (n : ℕ) (old now new : Speller) (ps : List (Value × Value)) → v ≡ Map c → pairs_at cells c ≡ Some ps → 0 < n → is_among c old.done ≡ false
    → Spells old now (begun (share_number shared c) c)
    → Spells now new (λ s. add (codes "])") (fold (pair_spelt (spelt live cells shared (n - 1))) (add (codes "([") s) (pairs_there live ps)))
    → Spells old new (λ s. spelt live cells shared n s v)
spelt_mapping live cells shared v c zero old now new ps is pairs lt new_one begins holds = absurd (omega arith)
spelt_mapping live cells shared v c (suc n) old now new ps is pairs lt new_one begins holds = λ s w.
    let less : suc n - 1 ≡ n = omega arith in
    let held : stored_pairs cells c ≡ ps = ap (λ o. unwrap_or o []) pairs in
    let first : is_among c s.done ≡ false = sym (w.done c) ∙ new_one in
    let x : Spelt = begun (share_number shared c) c s in
    let text : ℕ → List (Value × Value) → Spelt = λ k ys. add (codes "])") (fold (pair_spelt (spelt live cells shared k)) (add (codes "([") x) (pairs_there live ys)) in
    subst (Writes new) (ap (λ k. text k ps) less ∙ ap (text n) (sym held) ∙ sym (mapping_one live cells shared c n s first) ∙ ap (spelt live cells shared (suc n) s) (sym is))
    (holds x (begins s w))

-- all items, and the mark behind them
pub spelt_items : (f : Spelt → Value → Spelt) (old now new : Speller) (xs : List Value) (i : ℕ) → length xs ≤ i → Spells old now (λ s. fold f (add (codes "({") s) (take i xs))
    → new.text.items ≡ now.text.items ++ codes "})" → new.done ≡ now.done → Spells old new (λ s. add (codes "})") (fold f (add (codes "({") s) xs))
spelt_items f old now new xs i le before text done = λ s w.
    spells_text now new (codes "})") text done (fold f (add (codes "({") s) xs) (subst (λ y. Writes now (fold f (add (codes "({") s) y)) (take_all i xs le) (before s w))

-- a pair more
pub spelt_pair : (live : ObjId → Bool) (spell : Spelt → Value → Spelt) (start : Spelt → Spelt) (old now one two three new : Speller) (slots : List (Option (Value × Value))) (i : ℕ) (x : Option (Value × Value)) (p : Value × Value) → i < length slots → x ≡ get_or slots i x → p ∷ [] ≡ pairs_there live (option_to_list x)
    → Spells old now (λ s. fold (pair_spelt spell) (start s) (pairs_there live (filled (take i slots))))
    → Spells now one (λ s. spell s p.0) → two.text.items ≡ one.text.items ++ codes ":" → two.done ≡ one.done
    → Spells two three (λ s. spell s p.1) → new.text.items ≡ three.text.items ++ codes "," → new.done ≡ three.done
    → Spells old new (λ s. fold (pair_spelt spell) (start s) (pairs_there live (filled (take (i + 1) slots))))
spelt_pair live spell start old now one two three new slots i x p lt at is before key text done value text2 done2 = λ s w.
    let all : pairs_there live (filled (take (i + 1) slots)) ≡ pairs_there live (filled (take i slots)) ++ p ∷ [] = there_filled live slots i x lt at ∙ ap (λ y. pairs_there live (filled (take i slots)) ++ y) (sym is) in
    let z : Spelt = fold (pair_spelt spell) (start s) (pairs_there live (filled (take i slots))) in
    subst (λ y. Writes new (fold (pair_spelt spell) (start s) y)) (sym all)
    (subst (Writes new) (sym (fold-append (pair_spelt spell) (start s) (pairs_there live (filled (take i slots))) (p ∷ [])))
    (spells_text three new (codes ",") text2 done2 (spell (add (codes ":") (spell z p.0)) p.1)
    (value (add (codes ":") (spell z p.0)) (spells_text one two (codes ":") text done (spell z p.0) (key z (before s w))))))

-- a pair that is not there adds nothing
pub spelt_no_pair : (live : ObjId → Bool) (spell : Spelt → Value → Spelt) (start : Spelt → Spelt) (old now : Speller) (slots : List (Option (Value × Value))) (i : ℕ) (x : Option (Value × Value)) → i < length slots → x ≡ get_or slots i x → [] ≡ pairs_there live (option_to_list x)
    → Spells old now (λ s. fold (pair_spelt spell) (start s) (pairs_there live (filled (take i slots)))) → Spells old now (λ s. fold (pair_spelt spell) (start s) (pairs_there live (filled (take (i + 1) slots))))
spelt_no_pair live spell start old now slots i x lt at is before = λ s w.
    let all : pairs_there live (filled (take (i + 1) slots)) ≡ pairs_there live (filled (take i slots)) = there_filled live slots i x lt at ∙ ap (λ y. pairs_there live (filled (take i slots)) ++ y) (sym is) ∙ append-nil (pairs_there live (filled (take i slots))) in
    subst (λ y. Writes now (fold (pair_spelt spell) (start s) y)) (sym all) (before s w)

-- a line
pub spelt_line : (live : ObjId → Bool) (cells : Store) (shared : List CellId) (old one two three new : Speller) (p : List ℕ × Value) → one.text.items ≡ old.text.items ++ p.0 → one.done ≡ old.done → two.text.items ≡ one.text.items ++ codes " " → two.done ≡ one.done
    → Spells two three (λ s. spelt live cells shared max_saved_levels s p.1) → new.text.items ≡ three.text.items ++ codes "\n" → new.done ≡ three.done → Spells old new (λ s. line_spelt live cells shared s p)
spelt_line live cells shared old one two three new p text done text2 done2 value text3 done3 = λ s w.
    spells_text three new (codes "\n") text3 done3 (spelt live cells shared max_saved_levels (add (p.0 ++ codes " ") s) p.1)
    (value (add (p.0 ++ codes " ") s) (spells_text old two (p.0 ++ codes " ") (text2 ∙ ap (λ x. x ++ codes " ") text ∙ append_assoc old.text.items p.0 (codes " ")) (done2 ∙ done) s w))

-- a line more, and all lines
pub spelt_lines : (f : Spelt → List ℕ × Value → Spelt) (old now new : Speller) (vars : List (List ℕ × Value)) (i : ℕ) (p : List ℕ × Value) → i < length vars → p ≡ get_or vars i p → Spells old now (λ s. fold f s (take i vars)) → Spells now new (λ s. f s p)
    → Spells old new (λ s. fold f s (take (i + 1) vars))
spelt_lines f old now new vars i p lt is before line = λ s w.
    let all : take (i + 1) vars ≡ take i vars ++ p ∷ [] = take_more vars i p lt ∙ ap (λ y. take i vars ++ y ∷ []) (sym is) in
    subst (λ y. Writes new (fold f s y)) (sym all) (subst (Writes new) (sym (fold-append f s (take i vars) (p ∷ []))) (line (fold f s (take i vars)) (before s w)))

pub spelt_all : (f : Spelt → List ℕ × Value → Spelt) (old now : Speller) (vars : List (List ℕ × Value)) (i : ℕ) → length vars ≤ i → Spells old now (λ s. fold f s (take i vars)) → Spells old now (λ s. fold f s vars)
spelt_all f old now vars i le before = λ s w. subst (λ y. Writes now (fold f s y)) (take_all i vars le) (before s w)
