-- What the tests of a program that comes back show.
use Rattle.std.proofs.Common.{◌≡◌, ◌∙◌, ◌<◌, ℕ, Bool, true, false, not, ◌&&◌, List, [], ◌∷◌, Option, Some, None, All, refl, ap, sym, subst, unwrap_or, get_or, length, nat_eq, nat_lt, map, arith, if◌then◌else◌}
use Rattle.std.specs.Bool.{OnTrue}
use Rattle.std.specs.Cmp.Lexicographic.{pointwise}
use Rattle.std.proofs.lemmas.Option.{slice_get-get_or}
use Rattle.lp_values.specs.declared.id.ProgId.{ProgId}
use Rattle.lp_code.specs.declared.program.RawProgram.{RawProgram}
use Rattle.lp_world.specs.Closed.{IsProgramClosed, IsRowThere}
use Rattle.lp_world.specs.Rows.{row_at}
use Rattle.lp_world.specs.Stands.{IsOutline}
use Rattle.lp_world.specs.Targets.{IsAnswerAmong, answer_at}
use Rattle.lp_world.specs.declared.versions.Version.{Version}
use Rattle.lp_residence.specs.Owners.{program_image}
use Rattle.lp_residence.specs.Programs.{IsCallThere, IsSlotAmong, behind_mark, functions_in, is_mark, slots_in}
use Rattle.lp_residence.proofs.Returned.{fitting_is_closed}

pub on_true : (b : Bool) (P : Type 0) → (b ≡ true → P) → OnTrue b P
on_true true P f = f refl
on_true false P f = tt

pub on_true_use : (b : Bool) (P : Type 0) → OnTrue b P → b ≡ true → P
on_true_use true P p e = p
on_true_use false P p e = absurd (differ e)
  where
    differ : false ≡ true → ⊥
    differ q = cc

some_slots : (o : Option Version) (slot : ℕ) → slot < slots_in o → (v : Version) × (o ≡ Some v) × (slot < v.outline.slots)
some_slots None slot l = absurd (omega (arith, l))
some_slots (Some v) slot l = (v, refl, l)

pub row_called : (versions : List (Option Version)) (parents : List ProgId) (parent slot : ℕ) (p : ProgId) (k : ℕ) → parent < length parents → p ≡ get_or parents parent p → k ≡ slots_in (row_at versions p.0)
    → OnTrue (nat_lt slot k) (IsRowThere versions parents parent slot)
row_called versions parents parent slot p k l e n = on_true (nat_lt slot k) (IsRowThere versions parents parent slot) (λ t.
    let less : slot < k = grind (arith, t) in
    let v = some_slots (row_at versions p.0) slot (subst (λ m. slot < m) n less) in
    record { number = p; listed = slice_get-get_or parents parent p l ∙ ap (λ x. Some x) (sym e); version = v.0; there = v.1; row = v.2 })

pub not_false : (b : Bool) → false ≡ not b → b ≡ true
not_false true e = refl
not_false false e = cc

pub number_same : (a b : ProgId) → nat_eq a.0 b.0 ≡ true → a ≡ b
number_same a b e = let n : a.0 ≡ b.0 = grind (arith, e) in ap (λ k. record { 0 = k }) n

both_true : (a b : Bool) → (a && b) ≡ true → (a ≡ true) × (b ≡ true)
both_true true b e = (refl, e)
both_true false b e = absurd (differ e)
  where
    differ : false ≡ true → ⊥
    differ q = cc

pub same_lists : {A : Type 0} (f : A → A → Bool) → ((a b : A) → f a b ≡ true → a ≡ b) → (xs ys : List A) → pointwise f xs ys ≡ true → xs ≡ ys
same_lists f law [] [] e = refl
same_lists f law [] (y ∷ ys) e = cc
same_lists f law (x ∷ xs) [] e = cc
same_lists f law (x ∷ xs) (y ∷ ys) e = let b = both_true (f x y) (pointwise f xs ys) e in ap (λ z. z ∷ xs) (law x y b.0) ∙ ap (λ zs. y ∷ zs) (same_lists f law xs ys b.1)

pub fit_is_closed : (b : Bool) (versions : List (Option Version)) (v : Version) (p : RawProgram) (counts shown : List ℕ) → IsOutline p v.outline
    → All (IsCallThere versions p.tables.parents) p.instrs → counts ≡ map (λ (q : ProgId). functions_in (row_at versions q.0)) p.tables.parts → shown ≡ counts
    → OnTrue b (All (IsSlotAmong shown) p.tables.slots) → OnTrue b ((n k : ℕ) → IsAnswerAmong shown (answer_at v.targets n k)) → OnTrue b (IsProgramClosed versions v p)
fit_is_closed b versions v p counts shown o calls e s slots targets = on_true b (IsProgramClosed versions v p) (λ t.
    fitting_is_closed versions v p shown o calls (s ∙ e) (on_true_use b (All (IsSlotAmong shown) p.tables.slots) slots t) (on_true_use b ((n k : ℕ) → IsAnswerAmong shown (answer_at v.targets n k)) targets t))

-- What follows the mark is what the image is of.
marked : (a b c d : ℕ) → is_mark a b c d ≡ true → (a ≡ 76) × (b ≡ 80) × (c ≡ 80) × (d ≡ 49)
marked a b c d e =
    let x = both_true (nat_eq a 76) (nat_eq b 80 && (nat_eq c 80 && nat_eq d 49)) e in
    let y = both_true (nat_eq b 80) (nat_eq c 80 && nat_eq d 49) x.1 in
    let z = both_true (nat_eq c 80) (nat_eq d 49) y.1 in
    (grind (arith, x.0), grind (arith, y.0), grind (arith, z.0), grind (arith, z.1))

four_more : (a b c d : ℕ) (rest encoding : List ℕ) (m : Bool) → is_mark a b c d ≡ m → Some encoding ≡ (if m then Some rest else None) → a ∷ b ∷ c ∷ d ∷ rest ≡ program_image encoding
four_more a b c d rest encoding true e s =
    let x = marked a b c d e in
    let r : rest ≡ encoding = ap (λ o. unwrap_or o rest) (sym s) in
    rw (x.0, x.1, x.2, x.3) (ap program_image r)
four_more a b c d rest encoding false e s = cc

pub image_behind : (bytes encoding : List ℕ) → Some encoding ≡ behind_mark bytes → bytes ≡ program_image encoding
unfolding behind_mark
image_behind [] encoding e = cc
image_behind (a ∷ []) encoding e = cc
image_behind (a ∷ b ∷ []) encoding e = cc
image_behind (a ∷ b ∷ c ∷ []) encoding e = cc
image_behind (a ∷ b ∷ c ∷ d ∷ rest) encoding e = four_more a b c d rest encoding (is_mark a b c d) refl e
