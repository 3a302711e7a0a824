-- How large the tables of a unit without faults are.
use Rattle.std.proofs.Common.{◌≡◌, ℕ, suc, ◌≤◌, refl, ap, List, [], ◌∷◌, ◌++◌, length, ◌||◌, Bool, true, false, None, arith}
use Rattle.std.specs.Prelude.{nat_lt}
use Rattle.std.proofs.lemmas.Bool.{ltb-false, or_parts}
use Rattle.lp_tree.specs.declared.fault.FaultKind.{FaultKind}
use Rattle.lp_tree.specs.declared.fault.FaultKind.TheVariants.{TooManyNames}
use Rattle.lp_tree.specs.Units.{ItemTree, Inherit, Proto, Fun, Var}
use Rattle.lp_code.specs.declared.tables.Tables.{Tables}
use Rattle.lp_language.specs.Resolve.{own_names}
use Rattle.lp_layout.specs.Layout.{functions, inherits, laid_slots, laid_variables, parts_of}
use Rattle.lp_layout.specs.LayoutFaults.{Limits, call_guilt, declarators_calls, first_fault, function_kinds, inherit_kinds, is_too_large, items_layout, layout_fault, limits, stmts_calls, stmts_locals, too_many}
use Rattle.lp_types_expr.specs.ExprFaults.{when}
use Rattle.lp_types_expr.specs.declared.fault.FaultAt.{FaultAt}
use Rattle.lp_types_expr.specs.Walk.{all_at}

split : {A : Type 0} (xs ys : List A) → xs ++ ys ≡ [] → (xs ≡ []) × (ys ≡ [])
split [] ys h = (refl, h)
split (x ∷ xs) ys h = absurd cc

no_kinds : (line : ℕ) (ks : List FaultKind) → all_at line ks ≡ [] → ks ≡ []
no_kinds line [] h = refl
no_kinds line (k ∷ ks) h = absurd cc

not_told : (b : Bool) → when b TooManyNames ≡ [] → b ≡ false
not_told true h = absurd cc
not_told false h = refl

no_fault : (fs : List FaultAt) → first_fault fs ≡ None → fs ≡ []
no_fault [] h = refl
no_fault (f ∷ fs) h = absurd cc

-- what is wrong with the whole is told at the first item
no_whole : (m : Limits) (whole : List FaultKind) (ts : List Tables) (i : ItemTree) (is : List ItemTree) → items_layout m whole [] ts (i ∷ is) ≡ [] → whole ≡ []
no_whole m whole [] (Inherit line path) is h = no_kinds line whole (split (all_at line whole) (items_layout m [] [] [] is) h).0
no_whole m whole (t ∷ ts) (Inherit line path) is h =
    (split (inherit_kinds [] t) whole (no_kinds line (inherit_kinds [] t ++ whole) (split (all_at line (inherit_kinds [] t ++ whole)) (items_layout m [] ([] ++ t ∷ []) ts is) h).0)).1
no_whole m whole [] (Proto line ms ty w ps) is h =
    (split (too_many m.arguments (length ps)) whole (no_kinds line (too_many m.arguments (length ps) ++ whole) (split (all_at line (too_many m.arguments (length ps) ++ whole)) (items_layout m [] [] [] is) h).0)).1
no_whole m whole (t ∷ ts) (Proto line ms ty w ps) is h =
    (split (too_many m.arguments (length ps)) whole (no_kinds line (too_many m.arguments (length ps) ++ whole) (split (all_at line (too_many m.arguments (length ps) ++ whole)) (items_layout m [] [] (t ∷ ts) is) h).0)).1
no_whole m whole [] (Fun line ms ty w ps b) is h =
    let ks = function_kinds m [] w (length ps) (stmts_locals b.stmts) in
    let head = all_at line (ks ++ whole) in
    let p = split (head ++ stmts_calls (call_guilt m []) b.stmts) (items_layout m [] [] [] is) h in
    (split ks whole (no_kinds line (ks ++ whole) (split head (stmts_calls (call_guilt m []) b.stmts) p.0).0)).1
no_whole m whole (t ∷ ts) (Fun line ms ty w ps b) is h =
    let ks = function_kinds m [] w (length ps) (stmts_locals b.stmts) in
    let head = all_at line (ks ++ whole) in
    let p = split (head ++ stmts_calls (call_guilt m []) b.stmts) (items_layout m [] [] (t ∷ ts) is) h in
    (split ks whole (no_kinds line (ks ++ whole) (split head (stmts_calls (call_guilt m []) b.stmts) p.0).0)).1
no_whole m whole [] (Var line ms base ds) is h =
    let p = split (all_at line whole ++ declarators_calls (call_guilt m []) ds) (items_layout m [] [] [] is) h in
    no_kinds line whole (split (all_at line whole) (declarators_calls (call_guilt m []) ds) p.0).0
no_whole m whole (t ∷ ts) (Var line ms base ds) is h =
    let p = split (all_at line whole ++ declarators_calls (call_guilt m []) ds) (items_layout m [] [] (t ∷ ts) is) h in
    no_kinds line whole (split (all_at line whole) (declarators_calls (call_guilt m []) ds) p.0).0

-- There are few functions and few rows.
pub record AreFew (n : ℕ) (is : List ItemTree) (ts : List Tables) : Type 0 where
  pub functions : length (own_names is) ≤ n
  pub slots : length (laid_slots is ts) ≤ n

counted : (is : List ItemTree) → functions is ≡ length (own_names is)
counted [] = refl
counted (Inherit line path ∷ is) = counted is
counted (Proto line ms ty w ps ∷ is) = counted is
counted (Fun line ms ty w ps b ∷ is) = ap suc (counted is)
counted (Var line ms base ds ∷ is) = counted is

few_of : (m : Limits) (is : List ItemTree) (ts : List Tables) → is_too_large m is ts ≡ false → AreFew m.names is ts
few_of m is ts h =
    let n = m.names in
    let a = nat_lt n (suc (parts_of ts)) in
    let b = nat_lt n (functions is) in
    let c = nat_lt n (length (laid_variables is ts 0)) in
    let d = nat_lt n (length (laid_slots is ts)) in
    let p = or_parts (a || b || c) d h in
    let q = or_parts (a || b) c p.0 in
    let r = or_parts a b q.0 in
    let f = ltb-false n (functions is) r.1 in
    let e = counted is in
    record { functions = omega (arith, f, e); slots = ltb-false n (length (laid_slots is ts)) p.1 }

few_within : (m : Limits) (is : List ItemTree) (ts : List Tables) → length ts ≡ inherits is → items_layout m (when (is_too_large m is ts) TooManyNames) [] ts is ≡ [] → AreFew m.names is ts
few_within m [] [] e h = record { functions = omega arith; slots = omega arith }
few_within m [] (t ∷ ts) e h = absurd (omega (arith, e))
few_within m (i ∷ is) ts e h = few_of m (i ∷ is) ts (not_told (is_too_large m (i ∷ is) ts) (no_whole m (when (is_too_large m (i ∷ is) ts) TooManyNames) ts i is h))

pub few : (is : List ItemTree) (ts : List Tables) → length ts ≡ inherits is → layout_fault is ts ≡ None → AreFew 65535 is ts
few is ts e h = few_within limits is ts e (no_fault (items_layout limits (when (is_too_large limits is ts) TooManyNames) [] ts is) h)
