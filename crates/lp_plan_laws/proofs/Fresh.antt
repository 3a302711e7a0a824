-- No two rows of a version have one name.
use Rattle.std.proofs.Common.{◌≡◌, ℕ, zero, suc, refl, sym, ◌∙◌, ap, Bool, true, false, ◌||◌, List, [], ◌∷◌, Option, Some, None}
use Rattle.std.specs.Prelude.{⊤, slice_get, if◌then◌else◌}
use Rattle.std.proofs.lemmas.Slice.Eq.{bytes_eq-Decides}
use Rattle.lp_tree.specs.Units.{ItemTree}
use Rattle.lp_code.specs.declared.tables.Slot.{Slot}
use Rattle.lp_code.specs.declared.tables.Tables.{Tables}
use Rattle.lp_instr.specs.EfunList.{is_name}
use Rattle.lp_language.specs.Resolve.{Heritage, Heir}
use Rattle.lp_layout.specs.Layout.{first_met, laid_for, laid_slot, laid_slots, slot_named, with_slot}
use Rattle.lp_layout.proofs.RowLaid.{has, row_laid, same_name}
use Rattle.lp_inherit.specs.Heirs.{table, tables}
use Rattle.lp_codegen_layout.specs.Laid.{row_names}
use Rattle.lp_plan_laws.proofs.Meant.{found_named}

abbrev pub Fresh : List (List ℕ) → Type 0
Fresh [] = ⊤
Fresh (w ∷ ws) = (has ws w ≡ false) × Fresh ws

both_false : (a b : Bool) → a ≡ false → b ≡ false → (a || b) ≡ false
both_false true b e f = e
both_false false b e f = f

first_false : (a b : Bool) → (a || b) ≡ false → a ≡ false
first_false true b e = e
first_false false b e = refl

second_false : (a b : Bool) → (a || b) ≡ false → b ≡ false
second_false true b e = absurd cc
second_false false b e = e

second_true : (a b : Bool) → b ≡ true → (a || b) ≡ true
second_true true b e = refl
second_true false b e = e

first_true : (a b : Bool) → a ≡ true → (a || b) ≡ true
first_true true b e = refl
first_true false b e = absurd cc

pub itself : (w : List ℕ) → is_name w w ≡ true
itself w = (bytes_eq-Decides w w).1 refl

-- what was met is not met again
not_met : (met ns : List (List ℕ)) (w : List ℕ) → has met w ≡ true → has (first_met met ns) w ≡ false
not_met met [] w h = refl
not_met met (n ∷ ns) w h = by (λ m g. not_met m ns w g) (has met n) refl
  where
    other : (b : Bool) → is_name n w ≡ b → has met n ≡ false → b ≡ false
    other false e f = refl
    other true e f = sym h ∙ ap (has met) (sym (same_name n w e)) ∙ f

    by : ((m : List (List ℕ)) → has m w ≡ true → has (first_met m ns) w ≡ false) → (b : Bool) → has met n ≡ b → has (if b then first_met met ns else n ∷ first_met (n ∷ met) ns) w ≡ false
    by ih true e = ih met h
    by ih false e = both_false (is_name n w) (has (first_met (n ∷ met) ns) w) (other (is_name n w) refl e) (ih (n ∷ met) (second_true (is_name n w) (has met w) h))

fresh_met : (met ns : List (List ℕ)) → Fresh (first_met met ns)
fresh_met met [] = tt
fresh_met met (n ∷ ns) = by (λ m. fresh_met m ns) (has met n)
  where
    by : ((m : List (List ℕ)) → Fresh (first_met m ns)) → (b : Bool) → Fresh (if b then first_met met ns else n ∷ first_met (n ∷ met) ns)
    by ih true = ih met
    by ih false = (not_met (n ∷ met) ns n (first_true (is_name n n) (has met n) (itself n)), ih (n ∷ met))

-- rows have the names for which they are made
no_name_with : (all : List Slot) (v w : List ℕ) (o : Option Slot) (ss : List Slot) → slot_named all v ≡ o → is_name v w ≡ false → has (row_names ss) w ≡ false → has (row_names (with_slot o ss)) w ≡ false
no_name_with all v w None ss e f h = h
no_name_with all v w (Some s) ss e f h = both_false (is_name s.name w) (has (row_names ss) w) (ap (λ x. is_name x w) (found_named all v s e) ∙ f) h

no_name : (is : List ItemTree) (ts : List Tables) (ws : List (List ℕ)) (w : List ℕ) → has ws w ≡ false → has (row_names (laid_for is ts ws)) w ≡ false
no_name is ts [] w h = refl
no_name is ts (v ∷ ws) w h = no_name_with (laid_slots is ts) v w (laid_slot is ts v) (laid_for is ts ws) (row_laid is ts v) (first_false (is_name v w) (has ws w) h) (no_name is ts ws w (second_false (is_name v w) (has ws w) h))

fresh_with : (all : List Slot) (v : List ℕ) (o : Option Slot) (ss : List Slot) → slot_named all v ≡ o → has (row_names ss) v ≡ false → Fresh (row_names ss) → Fresh (row_names (with_slot o ss))
fresh_with all v None ss e f h = h
fresh_with all v (Some s) ss e f h = (ap (has (row_names ss)) (found_named all v s e) ∙ f, h)

fresh_rows : (is : List ItemTree) (ts : List Tables) (ws : List (List ℕ)) → Fresh ws → Fresh (row_names (laid_for is ts ws))
fresh_rows is ts [] h = tt
fresh_rows is ts (v ∷ ws) h = fresh_with (laid_slots is ts) v (laid_slot is ts v) (laid_for is ts ws) (row_laid is ts v) (no_name is ts ws v h.0) (fresh_rows is ts ws h.1)

-- no two rows that are laid out have one name
pub laid_fresh : (is : List ItemTree) (ts : List Tables) → Fresh (row_names (laid_slots is ts))
laid_fresh is ts = fresh_rows is ts _ (fresh_met [] _)

pub table_fresh : (h : Heritage) → Fresh (row_names (table h).slots)
table_fresh (Heir n v ps) = laid_fresh v.items (tables ps)

-- a name that is there
there : (ss : List Slot) (k : ℕ) (q : Slot) → slice_get ss k ≡ Some q → has (row_names ss) q.name ≡ true
there [] k q e = absurd cc
there (s ∷ ss) zero q e = let same : s ≡ q = cc in first_true (is_name s.name q.name) (has (row_names ss) q.name) (ap (λ (x : Slot). is_name x.name q.name) same ∙ itself q.name)
there (s ∷ ss) (suc k) q e = second_true (is_name s.name q.name) (has (row_names ss) q.name) (there ss k q e)

clash : (ss : List Slot) (k : ℕ) (s p q : Slot) → has (row_names ss) s.name ≡ false → s ≡ p → slice_get ss k ≡ Some q → p.name ≡ q.name → ⊥
clash ss k s p q f e g n =
    let t : true ≡ false = sym (there ss k q g) ∙ ap (has (row_names ss)) (sym n ∙ ap (λ (x : Slot). x.name) (sym e)) ∙ f in
    absurd cc

pub unique : (ss : List Slot) → Fresh (row_names ss) → (j k : ℕ) (p q : Slot) → slice_get ss j ≡ Some p → slice_get ss k ≡ Some q → p.name ≡ q.name → j ≡ k
unique [] h j k p q e f n = absurd cc
unique (s ∷ ss) h zero zero p q e f n = refl
unique (s ∷ ss) h zero (suc k) p q e f n = absurd (clash ss k s p q h.0 (let same : s ≡ p = cc in same) f n)
unique (s ∷ ss) h (suc j) zero p q e f n = absurd (clash ss j s q p h.0 (let same : s ≡ q = cc in same) e (sym n))
unique (s ∷ ss) h (suc j) (suc k) p q e f n = ap suc (unique ss h.1 j k p q e f n)
