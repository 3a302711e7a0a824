-- Rows that are taken from a map, each once.
use Rattle.std.proofs.Common.{◌≡◌, ℕ, suc, ◌+◌, ◌<◌, refl, sym, ap, ◌∙◌, arith, Bool, true, false, ◌||◌, List, [], ◌∷◌, ◌++◌, append_assoc, length, take, get_or, Option, Some, None, map}
use Rattle.std.specs.List.{list_any}
use Rattle.std.specs.Prelude.{if◌then◌else◌}
use Rattle.lp_tree.specs.Units.{ItemTree}
use Rattle.lp_code.specs.declared.tables.Slot.{Slot}
use Rattle.lp_code.specs.declared.tables.Tables.{Tables}
use Rattle.lp_instr.specs.EfunList.{is_name}
use Rattle.lp_types_expr.proofs.Declaring.{take_one}
use Rattle.lp_types_expr.proofs.NamesPut.{same_name, turned}
use Rattle.lp_layout.specs.Layout.{with_slot, laid_slot, laid_for, first_met}
use Rattle.lp_layout.specs.Origins.{left, taken, without}

-- what a map leaves and gives depends on what it has alone

without_same : (x : List ℕ) (f g : List ℕ → Option Slot) → ((w : List ℕ) → f w ≡ g w) → (w : List ℕ) → without x f w ≡ without x g w
without_same x f g h w = ap (λ o. if is_name w x then None else o) (h w)

pub left_same : (ws : List (List ℕ)) (f g : List ℕ → Option Slot) → ((w : List ℕ) → f w ≡ g w) → (w : List ℕ) → left f ws w ≡ left g ws w
left_same [] f g h w = h w
left_same (x ∷ ws) f g h w = left_same ws (without x f) (without x g) (without_same x f g h) w

pub taken_same : (ws : List (List ℕ)) (f g : List ℕ → Option Slot) → ((w : List ℕ) → f w ≡ g w) → taken f ws ≡ taken g ws
taken_same [] f g h = refl
taken_same (x ∷ ws) f g h = ap (λ o. with_slot o (taken (without x f) ws)) (h x) ∙ ap (with_slot (g x)) (taken_same ws (without x f) (without x g) (without_same x f g h))

-- names behind others

pub left_both : (f : List ℕ → Option Slot) (xs ys : List (List ℕ)) → left f (xs ++ ys) ≡ left (left f xs) ys
left_both f [] ys = refl
left_both f (x ∷ xs) ys = left_both (without x f) xs ys

with_both : (o : Option Slot) (xs ys : List Slot) → with_slot o (xs ++ ys) ≡ with_slot o xs ++ ys
with_both None xs ys = refl
with_both (Some s) xs ys = refl

pub taken_both : (f : List ℕ → Option Slot) (xs ys : List (List ℕ)) → taken f (xs ++ ys) ≡ taken f xs ++ taken (left f xs) ys
taken_both f [] ys = refl
taken_both f (x ∷ xs) ys = ap (with_slot (f x)) (taken_both (without x f) xs ys) ∙ with_both (f x) (taken (without x f) xs) (taken (left (without x f) xs) ys)

-- Names of what a loop has gone over: some names more are taken.

pub rows_more : (start f : List ℕ → Option Slot) (xs ys zs : List (List ℕ)) (a b c : List Slot) → zs ≡ xs ++ ys → ((w : List ℕ) → f w ≡ left start xs w) → b ≡ a ++ taken start xs → c ≡ b ++ taken f ys → c ≡ a ++ taken start zs
rows_more start f xs ys zs a b c e h p q =
    q ∙ ap (λ l. l ++ taken f ys) p ∙ append_assoc a (taken start xs) (taken f ys) ∙ ap (λ l. a ++ (taken start xs ++ l)) (taken_same ys f (left start xs) h)
    ∙ ap (λ l. a ++ l) (sym (taken_both start xs ys) ∙ ap (taken start) (sym e))

pub left_more : (start f g : List ℕ → Option Slot) (xs ys zs : List (List ℕ)) → zs ≡ xs ++ ys → ((w : List ℕ) → f w ≡ left start xs w) → ((w : List ℕ) → g w ≡ left f ys w) → (w : List ℕ) → g w ≡ left start zs w
left_more start f g xs ys zs e h k w = k w ∙ left_same ys f (left start xs) h w ∙ ap (λ o. o w) (sym (left_both start xs ys) ∙ ap (left start) (sym e))

map_snoc : {X Y : Type 0} (f : X → Y) (xs : List X) (x : X) → map f (xs ++ x ∷ []) ≡ map f xs ++ f x ∷ []
map_snoc f [] x = refl
map_snoc f (y ∷ xs) x = ap (λ z. f y ∷ z) (map_snoc f xs x)

pub map_next : {X Y : Type 0} (f : X → Y) (xs : List X) (i : ℕ) (x : X) → i < length xs → x ≡ get_or xs i x → map f (take (i + 1) xs) ≡ map f (take i xs) ++ f x ∷ []
map_next f xs i x h e =
    let g : suc i ≡ i + 1 = omega arith in
    ap (λ n. map f (take n xs)) (sym g) ∙ ap (map f) (take_one xs i x h e) ∙ map_snoc f (take i xs) x

-- The rows that are taken are those of the names where they are first met.

abbrev unmet : (List ℕ → Option Slot) → List (List ℕ) → List ℕ → Option Slot
unmet f met w = if list_any (λ m. is_name m w) met then None else f w

meeting : (f : List ℕ → Option Slot) (met : List (List ℕ)) (x w : List ℕ) → without x (unmet f met) w ≡ unmet f (x ∷ met) w
meeting f met x w = ap (λ b. if b then None else unmet f met w) (turned w x) ∙ by (is_name x w)
  where
    by : (b : Bool) → (if b then None else unmet f met w) ≡ (if b || list_any (λ m. is_name m w) met then None else f w)
    by true = refl
    by false = refl

already : (f : List ℕ → Option Slot) (met : List (List ℕ)) (x : List ℕ) → list_any (λ m. is_name m x) met ≡ true → (w : List ℕ) → without x (unmet f met) w ≡ unmet f met w
already f met x h w = by (is_name w x) refl
  where
    by : (b : Bool) → is_name w x ≡ b → (if b then None else unmet f met w) ≡ unmet f met w
    by true e = sym (ap (λ v. unmet f met v) (same_name w x e) ∙ ap (λ c. if c then None else f x) h)
    by false e = refl

pub taken_first : (is : List ItemTree) (ts : List Tables) (met ws : List (List ℕ)) → taken (unmet (laid_slot is ts) met) ws ≡ laid_for is ts (first_met met ws)
taken_first is ts met [] = refl
taken_first is ts met (x ∷ ws) = by (taken_first is ts met ws) (taken_first is ts (x ∷ met) ws) (list_any (λ m. is_name m x) met) refl
  where
    by : taken (unmet (laid_slot is ts) met) ws ≡ laid_for is ts (first_met met ws) → taken (unmet (laid_slot is ts) (x ∷ met)) ws ≡ laid_for is ts (first_met (x ∷ met) ws) → (b : Bool) → list_any (λ m. is_name m x) met ≡ b → taken (unmet (laid_slot is ts) met) (x ∷ ws) ≡ laid_for is ts (if b then first_met met ws else x ∷ first_met (x ∷ met) ws)
    by old new true e =
        ap (λ c. with_slot (if c then None else laid_slot is ts x) (taken (without x (unmet (laid_slot is ts) met)) ws)) e
        ∙ taken_same ws (without x (unmet (laid_slot is ts) met)) (unmet (laid_slot is ts) met) (already (laid_slot is ts) met x e) ∙ old
    by old new false e =
        ap (λ c. with_slot (if c then None else laid_slot is ts x) (taken (without x (unmet (laid_slot is ts) met)) ws)) e
        ∙ ap (with_slot (laid_slot is ts x)) (taken_same ws (without x (unmet (laid_slot is ts) met)) (unmet (laid_slot is ts) (x ∷ met)) (meeting (laid_slot is ts) met x) ∙ new)

pub taken_all : (is : List ItemTree) (ts : List Tables) (ws : List (List ℕ)) (f : List ℕ → Option Slot) → ((w : List ℕ) → f w ≡ laid_slot is ts w) → taken f ws ≡ laid_for is ts (first_met [] ws)
taken_all is ts ws f h = taken_same ws f (laid_slot is ts) h ∙ taken_first is ts [] ws
