-- What a scope shows of its locals, and blocks that end.
use Rattle.std.proofs.Common.{◌≡◌, ℕ, zero, suc, refl, sym, ap, subst, ◌∙◌, arith, Bool, true, false, List, [], ◌∷◌, ◌++◌, length, take, drop, min, Option, Some, None}
use Rattle.std.specs.Prelude.{if◌then◌else◌, slice_get, option_map, is_some, nat_le, ◌||◌}
use Rattle.std.specs.List.{list_any}
use Rattle.std.proofs.lemmas.List.{take-append-drop}
use Rattle.std.proofs.lemmas.Bool.Decides.{nat_tests}
use lib.Dec.{is_le}
use Prim.Native.Nat.compare.{suc-suc}
use Rattle.lp_tree.specs.declared.types.TypeName.{TypeName}
use Rattle.lp_instr.specs.EfunList.{is_name}
use Rattle.lp_types_expr.specs.declared.row.Row.{Row}
use Rattle.lp_types_expr.specs.declared.local.Local.{Local}
use Rattle.lp_types_expr.specs.declared.mark.Mark.{Mark}
use Rattle.lp_types_expr.specs.Known.{local_kind}
use Rattle.lp_types_expr.specs.Signatures.{or_else}
use Rattle.lp_types_expr.specs.Placed.{last_place, locals_of, kind_at, kind_of_row}
use Rattle.lp_types_expr.specs.Scopes.{Scope, visible, inside, declaring, left, mark_of}

abbrev pub at_least : ℕ → Option ℕ → Bool
at_least k None = false
at_least k (Some p) = nat_le k p

le_zero : (p : ℕ) → nat_le 0 p ≡ true
le_zero p = grind (arith, nat_tests)

le_none : (j : ℕ) → nat_le (suc j) 0 ≡ false
le_none j = grind (arith, nat_tests)

le_suc : (j p : ℕ) → nat_le j p ≡ nat_le (suc j) (suc p)
le_suc j p = ap is_le (sym (suc-suc j p))

step_zero : (x : Option ℕ) (b : Bool) → b || at_least 0 x ≡ at_least 0 (or_else (option_map suc x) (if b then Some 0 else None))
step_zero (Some p) true = sym (le_zero (suc p))
step_zero (Some p) false = le_zero p ∙ sym (le_zero (suc p))
step_zero None true = refl
step_zero None false = refl

step_suc : (j : ℕ) (x : Option ℕ) (b : Bool) → at_least j x ≡ at_least (suc j) (or_else (option_map suc x) (if b then Some 0 else None))
step_suc j (Some p) b = le_suc j p
step_suc j None true = sym (le_none j)
step_suc j None false = refl

pub doubled : (rs : List Row) (k : ℕ) (w : List ℕ) → list_any (λ l. is_name w l.name) (drop k (locals_of rs)) ≡ at_least k (last_place rs w)
doubled [] zero w = refl
doubled [] (suc k) w = refl
doubled (r ∷ rs) zero w = ap (λ t. is_name w r.local.name || t) (doubled rs zero w) ∙ step_zero (last_place rs w) (is_name w r.local.name)
doubled (r ∷ rs) (suc k) w = doubled rs k w ∙ step_suc k (last_place rs w) (is_name w r.local.name)

there : (rs : List Row) (w : List ℕ) (p : ℕ) → last_place rs w ≡ Some p → is_some (slice_get rs p) ≡ true
there [] w p h = absurd cc
there (r ∷ rs) w p h = go (λ q e. there rs w q e) (last_place rs w) (is_name w r.local.name) refl h
  where
    go : ((q : ℕ) → last_place rs w ≡ Some q → is_some (slice_get rs q) ≡ true) → (x : Option ℕ) (b : Bool) → last_place rs w ≡ x → or_else (option_map suc x) (if b then Some 0 else None) ≡ Some p → is_some (slice_get (r ∷ rs) p) ≡ true
    go later (Some q) b e f = let g : suc q ≡ p = cc in subst (λ z. is_some (slice_get (r ∷ rs) z) ≡ true) g (later q e)
    go later None true e f = let g : 0 ≡ p = cc in subst (λ z. is_some (slice_get (r ∷ rs) z) ≡ true) g refl
    go later None false e f = absurd cc

first_some : (x : Option Row) (y : Option TypeName) → is_some x ≡ true → or_else (kind_of_row x) y ≡ kind_of_row x
first_some (Some r) y h = refl
first_some None y h = absurd cc

pub kinds : (rs : List Row) (w : List ℕ) → local_kind (locals_of rs) w ≡ kind_at rs (last_place rs w)
kinds [] w = refl
kinds (r ∷ rs) w = ap (λ o. or_else o (if is_name w r.local.name then Some r.local.kind else None)) (kinds rs w) ∙ go (last_place rs w) (is_name w r.local.name) refl
  where
    go : (x : Option ℕ) (b : Bool) → last_place rs w ≡ x → or_else (kind_at rs x) (if b then Some r.local.kind else None) ≡ kind_at (r ∷ rs) (or_else (option_map suc x) (if b then Some 0 else None))
    go (Some p) b e = first_some (slice_get rs p) (if b then Some r.local.kind else None) (there rs w p e)
    go None true e = refl
    go None false e = refl

take_min : (xs : List Local) (j o : ℕ) → j ≡ min o (length xs) → take j xs ≡ take o xs
take_min [] zero zero h = refl
take_min [] zero (suc o) h = refl
take_min [] (suc j) o h = absurd (omega (arith, h))
take_min (x ∷ xs) zero zero h = refl
take_min (x ∷ xs) zero (suc o) h = absurd (omega (arith, h))
take_min (x ∷ xs) (suc j) zero h = absurd (omega (arith, h))
take_min (x ∷ xs) (suc j) (suc o) h = ap (λ z. x ∷ z) (take_min xs j o (omega (arith, h)))

drop_min : (xs : List Local) (j o : ℕ) → j ≡ min o (length xs) → drop j xs ≡ drop o xs
drop_min [] zero zero h = refl
drop_min [] zero (suc o) h = refl
drop_min [] (suc j) o h = absurd (omega (arith, h))
drop_min (x ∷ xs) zero zero h = refl
drop_min (x ∷ xs) zero (suc o) h = absurd (omega (arith, h))
drop_min (x ∷ xs) (suc j) zero h = absurd (omega (arith, h))
drop_min (x ∷ xs) (suc j) (suc o) h = drop_min xs j o (omega (arith, h))

same_length : (rs : List Row) → length (locals_of rs) ≡ length rs
same_length [] = refl
same_length (r ∷ rs) = ap suc (same_length rs)

locals_take : (n : ℕ) (rs : List Row) → locals_of (take n rs) ≡ take n (locals_of rs)
locals_take zero [] = refl
locals_take zero (r ∷ rs) = refl
locals_take (suc n) [] = refl
locals_take (suc n) (r ∷ rs) = ap (λ z. r.local ∷ z) (locals_take n rs)

abbrev pub scope_with : Option TypeName → ℕ → List Local → Scope
scope_with a k ls = record { answer = a; outer = take k ls; block = drop k ls }

pub all_visible : (a : Option TypeName) (k : ℕ) (ls : List Local) → visible (scope_with a k ls) ≡ ls
all_visible a k ls = take-append-drop k ls

pub left_view : (a : Option TypeName) (rs ts : List Row) (k j : ℕ) (m : Mark) → ts ≡ take m.locals rs → j ≡ min m.outer (length ts) → scope_with a j (locals_of ts) ≡ left m (scope_with a k (locals_of rs))
left_view a rs ts k j m h e =
    let f : j ≡ min m.outer (length (locals_of ts)) = e ∙ ap (min m.outer) (sym (same_length ts)) in
    let g : locals_of ts ≡ take m.locals (visible (scope_with a k (locals_of rs))) = ap locals_of h ∙ locals_take m.locals rs ∙ ap (take m.locals) (sym (all_visible a k (locals_of rs))) in
    let x : scope_with a j (locals_of ts) ≡ record { answer = a; outer = take m.outer (locals_of ts); block = drop j (locals_of ts) } = ap (λ z. record { answer = a; outer = z; block = drop j (locals_of ts) }) (take_min (locals_of ts) j m.outer f) in
    let y : record { answer = a; outer = take m.outer (locals_of ts); block = drop j (locals_of ts) } ≡ scope_with a m.outer (locals_of ts) = ap (λ z. record { answer = a; outer = take m.outer (locals_of ts); block = z }) (drop_min (locals_of ts) j m.outer f) in
    x ∙ y ∙ ap (scope_with a m.outer) g

take_front : (xs ys : List Local) → take (length xs) (xs ++ ys) ≡ xs
take_front [] [] = refl
take_front [] (y ∷ ys) = refl
take_front (x ∷ xs) ys = ap (λ z. x ∷ z) (take_front xs ys)

drop_front : (xs ys : List Local) → drop (length xs) (xs ++ ys) ≡ ys
drop_front [] [] = refl
drop_front [] (y ∷ ys) = refl
drop_front (x ∷ xs) ys = drop_front xs ys

pub left_back : (sc : Scope) (more : List Local) → left (mark_of sc) (declaring (inside sc) more) ≡ sc
left_back sc more =
    let g : take (length (visible sc)) (visible sc ++ more) ≡ sc.outer ++ sc.block = take_front (visible sc) more in
    let x : left (mark_of sc) (declaring (inside sc) more) ≡ record { answer = sc.answer; outer = take (length sc.outer) (sc.outer ++ sc.block); block = drop (length sc.outer) (sc.outer ++ sc.block) } = ap (λ z. record { answer = sc.answer; outer = take (length sc.outer) z; block = drop (length sc.outer) z }) g in
    x ∙ ap (λ z. record { answer = sc.answer; outer = z; block = drop (length sc.outer) (sc.outer ++ sc.block) }) (take_front sc.outer sc.block)
    ∙ ap (λ z. record { answer = sc.answer; outer = sc.outer; block = z }) (drop_front sc.outer sc.block)
