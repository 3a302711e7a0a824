-- The saved rows of a program that fits an object's version are the saved variables of the object.
use Rattle.std.proofs.Common.{◌≡◌, ◌∙◌, ◌≤◌, ℕ, suc, arith, Bool, true, false, ◌||◌, nat_eq, List, [], ◌∷◌, ◌++◌, map, length, refl, ap, sym, subst, append_assoc, ◌%◌, ◌/◌, ◌+◌, ◌*◌, if◌then◌else◌}
use Rattle.std.specs.Prelude.{⊤, chars}
use Rattle.std.proofs.lemmas.Str.{chars-IsAscii}
use Rattle.lp_tree.specs.declared.keyword.Base.{Base}
use Rattle.lp_tree.specs.declared.keyword.Modifier.{Modifier}
use Rattle.lp_tree.specs.declared.keyword.Modifier.TheVariants.{Private, Protected, Public, Static, Nosave, Nomask, Varargs}
use Rattle.lp_tree.specs.Statements.{DeclaratorTree}
use Rattle.lp_tree.specs.Units.{ItemTree, Inherit, Proto, Fun, Var}
use Rattle.lp_code.specs.declared.program.RawProgram.{RawProgram}
use Rattle.lp_code.specs.declared.tables.Tables.{Tables}
use Rattle.lp_code.specs.declared.tables.VarRow.{VarRow}
use Rattle.lp_language.specs.Resolve.{Heritage, Heir, Heritages, NoParent, OneParent, Variable, is_unsaved, is_unsaved_word, own_variables}
use Rattle.lp_types_expr.specs.Signatures.{has_bit}
use Rattle.lp_layout.specs.Layout.{AreSpelled, bit_of, bits, bits_from, digit, has_word, laid_variables, own_rows, row_moved, var_row, variable_names}
use Rattle.lp_inherit.specs.Heirs.{table, tables}
use Rattle.lp_part_laws.specs.Versions.{AreSpelledTrees, FitsVersion, IsSpelledTree}
use Rattle.lp_meaning.specs.FileEfuns.{Saved, all_variables, saved_from, variables_of_parents}
use Rattle.lp_filing.specs.Rows.{is_unsaved_number, saved_in, saved_rows}

-- Modifiers as a number

same_unsaved : (m : Modifier) → (nat_eq (bit_of m) 3 || nat_eq (bit_of m) 4) ≡ is_unsaved_word m
same_unsaved Private = refl
same_unsaved Protected = refl
same_unsaved Public = refl
same_unsaved Static = refl
same_unsaved Nosave = refl
same_unsaved Nomask = refl
same_unsaved Varargs = refl

either_more : (a b c d : Bool) → ((a || c) || (b || d)) ≡ ((a || b) || (c || d))
either_more true b c d = refl
either_more false true true d = refl
either_more false true false d = refl
either_more false false c d = refl

unsaved_words : (ms : List Modifier) → (has_word 3 ms || has_word 4 ms) ≡ is_unsaved ms
unsaved_words [] = refl
unsaved_words (m ∷ ms) =
    either_more (nat_eq (bit_of m) 3) (nat_eq (bit_of m) 4) (has_word 3 ms) (has_word 4 ms)
    ∙ ap (λ z. z || (has_word 3 ms || has_word 4 ms)) (same_unsaved m) ∙ ap (λ z. is_unsaved_word m || z) (unsaved_words ms)

small : (b : Bool) → digit b ≤ 1
small true = omega arith
small false = omega arith

eighth : (a b c r : ℕ) → a ≤ 1 → b ≤ 1 → c ≤ 1 → (a + 2 * (b + 2 * (c + 2 * r))) / 8 ≡ r
eighth a b c r x y z = omega (arith, x, y, z)

sixteenth : (a b c d r : ℕ) → a ≤ 1 → b ≤ 1 → c ≤ 1 → d ≤ 1 → (a + 2 * (b + 2 * (c + 2 * (d + 2 * r)))) / 16 ≡ r
sixteenth a b c d r x y z u = omega (arith, x, y, z, u)

last_digit : (d : Bool) (r : ℕ) → nat_eq ((digit d + 2 * r) % 2) 1 ≡ d
last_digit true r = let e : (1 + 2 * r) % 2 ≡ 1 = omega arith in ap (λ z. nat_eq z 1) e
last_digit false r = let e : (0 + 2 * r) % 2 ≡ 0 = omega arith in ap (λ z. nat_eq z 1) e

fourth : (a b c d : Bool) (r : ℕ) → nat_eq (((digit a + 2 * (digit b + 2 * (digit c + 2 * (digit d + 2 * r)))) / 8) % 2) 1 ≡ d
fourth a b c d r = ap (λ z. nat_eq (z % 2) 1) (eighth (digit a) (digit b) (digit c) (digit d + 2 * r) (small a) (small b) (small c)) ∙ last_digit d r

fifth : (a b c d e : Bool) (r : ℕ) → nat_eq (((digit a + 2 * (digit b + 2 * (digit c + 2 * (digit d + 2 * (digit e + 2 * r))))) / 16) % 2) 1 ≡ e
fifth a b c d e r = ap (λ z. nat_eq (z % 2) 1) (sixteenth (digit a) (digit b) (digit c) (digit d) (digit e + 2 * r) (small a) (small b) (small c) (small d)) ∙ last_digit e r

unsaved_bits : (ms : List Modifier) → is_unsaved_number (bits ms) ≡ is_unsaved ms
unsaved_bits ms =
    ap (λ z. z || has_bit 16 (bits ms)) (fourth (has_word 0 ms) (has_word 1 ms) (has_word 2 ms) (has_word 3 ms) (bits_from 4 (5 ∷ 6 ∷ []) ms))
    ∙ ap (λ z. has_word 3 ms || z) (fifth (has_word 0 ms) (has_word 1 ms) (has_word 2 ms) (has_word 3 ms) (has_word 4 ms) (bits_from 5 (6 ∷ []) ms))
    ∙ unsaved_words ms

-- Rows

-- rows that have the names, as texts, and the modifiers of some variables
abbrev Alike : List VarRow → List Variable → Type 0
Alike [] [] = ⊤
Alike (r ∷ rs) (v ∷ vs) = (chars r.name ≡ v.declared.name) × (r.mods ≡ bits v.modifiers) × Alike rs vs
Alike _ _ = ⊥

alike_both : (rs : List VarRow) (vs : List Variable) (qs : List VarRow) (us : List Variable) → Alike rs vs → Alike qs us → Alike (rs ++ qs) (vs ++ us)
alike_both [] [] qs us h g = g
alike_both (r ∷ rs) (v ∷ vs) qs us h g = (h.0, h.1, alike_both rs vs qs us h.2 g)
alike_both [] (v ∷ vs) qs us h g = absurd h
alike_both (r ∷ rs) [] qs us h g = absurd h

alike_moved : (first : ℕ) (rs : List VarRow) (vs : List Variable) → Alike rs vs → Alike (map (row_moved first) rs) vs
alike_moved first [] [] h = tt
alike_moved first (r ∷ rs) (v ∷ vs) h = (h.0, h.1, alike_moved first rs vs h.2)
alike_moved first [] (v ∷ vs) h = absurd h
alike_moved first (r ∷ rs) [] h = absurd h

spelled_front : (xs ys : List (List ℕ)) → AreSpelled (xs ++ ys) → AreSpelled xs
spelled_front [] ys h = tt
spelled_front (x ∷ xs) ys h = (h.0, spelled_front xs ys h.1)

spelled_behind : (xs ys : List (List ℕ)) → AreSpelled (xs ++ ys) → AreSpelled ys
spelled_behind [] ys h = h
spelled_behind (x ∷ xs) ys h = spelled_behind xs ys h.1

alike_declared : (part : ℕ) (ms : List Modifier) (b : Base) (ds : List DeclaratorTree) → AreSpelled (map (λ d. d.name) ds) → Alike (map (var_row part ms b) ds) (map (λ d. record { modifiers = ms; declared = d }) ds)
alike_declared part ms b [] h = tt
alike_declared part ms b (d ∷ ds) h = (chars-IsAscii d.name h.0, refl, alike_declared part ms b ds h.1)

alike_own : (part : ℕ) (is : List ItemTree) → AreSpelled (variable_names is) → Alike (own_rows part is) (own_variables is)
alike_own part [] h = tt
alike_own part (Inherit line path ∷ is) h = alike_own part is h
alike_own part (Proto line ms ty w ps ∷ is) h = alike_own part is h
alike_own part (Fun line ms ty w ps b ∷ is) h = alike_own part is h
alike_own part (Var line ms b ds ∷ is) h =
    alike_both (map (var_row part ms b) ds) (map (λ d. record { modifiers = ms; declared = d }) ds) (own_rows part is) (own_variables is)
    (alike_declared part ms b ds (spelled_front (map (λ d. d.name) ds) (variable_names is) h)) (alike_own part is (spelled_behind (map (λ d. d.name) ds) (variable_names is) h))

mutual
  alike_table : (h : Heritage) → IsSpelledTree h → Alike (table h).vars (all_variables h)
  alike_table (Heir n v ps) s = alike_laid v.items ps 0 s.0.variables s.1

  alike_laid : (is : List ItemTree) (ps : Heritages) (first : ℕ) → AreSpelled (variable_names is) → AreSpelledTrees ps → Alike (laid_variables is (tables ps) first) (variables_of_parents ps ++ own_variables is)
  alike_laid is NoParent first o s = alike_own first is o
  alike_laid is (OneParent h hs) first o s =
      subst (Alike (map (row_moved first) (table h).vars ++ laid_variables is (tables hs) (first + length (table h).parts))) (sym (append_assoc (all_variables h) (variables_of_parents hs) (own_variables is)))
      (alike_both (map (row_moved first) (table h).vars) (all_variables h) (laid_variables is (tables hs) (first + length (table h).parts)) (variables_of_parents hs ++ own_variables is)
      (alike_moved first (table h).vars (all_variables h) (alike_table h s.0)) (alike_laid is hs (first + length (table h).parts) o s.1))

saved_alike : (n : ℕ) (rs : List VarRow) (vs : List Variable) → Alike rs vs → saved_rows n rs ≡ saved_from n vs
saved_alike n [] [] h = refl
saved_alike n [] (v ∷ vs) h = absurd h
saved_alike n (r ∷ rs) [] h = absurd h
saved_alike n (r ∷ rs) (v ∷ vs) h =
    ap (λ b. if b then saved_rows (n + 1) rs else record { place = n; name = chars r.name } ∷ saved_rows (n + 1) rs) (ap is_unsaved_number h.1 ∙ unsaved_bits v.modifiers)
    ∙ ap (λ (w : List ℕ). if is_unsaved v.modifiers then saved_rows (n + 1) rs else record { place = n; name = w } ∷ saved_rows (n + 1) rs) h.0
    ∙ ap (λ (xs : List Saved). if is_unsaved v.modifiers then xs else record { place = n; name = v.declared.name } ∷ xs) (ap (λ k. saved_rows k rs) one ∙ saved_alike (suc n) rs vs h.2)
  where
    one : n + 1 ≡ suc n
    one = omega arith

-- the saved rows are the saved variables
pub saved_same : (h : Heritage) (code : RawProgram) → FitsVersion h code → saved_in code ≡ saved_from 0 (all_variables h)
saved_same h code f = ap (λ (t : Tables). saved_rows 0 t.vars) (sym f.own.own) ∙ saved_alike 0 (table h).vars (all_variables h) (alike_table h f.spelled)
