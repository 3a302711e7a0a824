-- Marks, and the versions that are needed by them.
use Rattle.std.proofs.Common.{◌≡◌, ◌∙◌, ◌<◌, ◌≤◌, ◌+◌, ℕ, zero, suc, Bool, true, false, cond, take, List, [], ◌∷◌, ◌++◌, Option, None, refl, sym, ap, subst, arith, length, get_or, set, replicate, drop, nat_eq, if◌then◌else◌, append-nil, append_assoc}
use Rattle.std.specs.Prelude.{◌||◌, nat_lt}
use Rattle.std.specs.List.{list_any}
use Rattle.std.proofs.Math.Bool.{or-true}
use Rattle.std.proofs.lemmas.Bool.{eq-eqb, eqb-true, ltb-false}
use Rattle.std.specs.Prelude.{filter}
use Rattle.std.proofs.lemmas.List.{at_drop_more, get_or-set_other, get_or-set_same, length-set, take_all}
use Rattle.std.proofs.lemmas.List.Filters.{length-filter_more}
use Rattle.std.proofs.lemmas.Option.{unwrap_or-slice_get}
use Rattle.lp_world.specs.Rows.{row_at}
use Rattle.lp_values.specs.declared.id.ProgId.{ProgId}
use Rattle.lp_world.specs.declared.objects.Object.{Object}
use Rattle.lp_report.specs.Needed.{is_marked, live_versions, version_if_live, with_mark, with_marks}

-- the versions of more rows are needed
pub marks_append : (marks : List Bool) (ps qs : List ProgId) → with_marks marks (ps ++ qs) ≡ with_marks (with_marks marks ps) qs
marks_append marks [] qs = refl
marks_append marks (p ∷ ps) qs = marks_append (with_mark marks p) ps qs

-- there are as many marks as before
pub mark_len : (marks : List Bool) (p : ProgId) → length (with_mark marks p) ≡ length marks
mark_len marks p = by (nat_lt p.0 (length marks))
  where
    by : (b : Bool) → length (if b then set marks p.0 true else marks) ≡ length marks
    by true = length-set marks p.0 true
    by false = refl

pub marks_len : (marks : List Bool) (ps : List ProgId) → length (with_marks marks ps) ≡ length marks
marks_len marks [] = refl
marks_len marks (p ∷ ps) = marks_len (with_mark marks p) ps ∙ mark_len marks p

-- a list of versions is marked where the marks are set at their numbers
abbrev pub AreMarked : List Bool → List ProgId → Type 0
AreMarked marks needed = (k : ℕ) → k < length marks → is_marked marks k ≡ list_any (λ v. nat_eq v.0 k) needed

or_false : (b : Bool) → b || false ≡ b
or_false true = refl
or_false false = refl

or_assoc : (a b c : Bool) → (a || b) || c ≡ a || (b || c)
or_assoc true b c = refl
or_assoc false b c = refl

pub any_append : (k : ℕ) (ps qs : List ProgId) → list_any (λ v. nat_eq v.0 k) (ps ++ qs) ≡ list_any (λ v. nat_eq v.0 k) ps || list_any (λ v. nat_eq v.0 k) qs
any_append k [] qs = refl
any_append k (p ∷ ps) qs = ap (λ b. nat_eq p.0 k || b) (any_append k ps qs) ∙ sym (or_assoc (nat_eq p.0 k) (list_any (λ v. nat_eq v.0 k) ps) (list_any (λ v. nat_eq v.0 k) qs))

-- one more mark
mark_one : (marks : List Bool) (p : ProgId) (k : ℕ) → k < length marks → is_marked (with_mark marks p) k ≡ is_marked marks k || nat_eq p.0 k
mark_one marks p k l = by (nat_lt p.0 (length marks)) refl (nat_eq p.0 k) refl
  where
    not_same : k ≡ p.0 → nat_eq p.0 k ≡ false → ⊥
    not_same s f = let t = eq-eqb p.0 k (sym s) in cc

    by : (b : Bool) → nat_lt p.0 (length marks) ≡ b → (c : Bool) → nat_eq p.0 k ≡ c → get_or (if b then set marks p.0 true else marks) k false ≡ get_or marks k false || c
    by true e true f = subst (λ n. get_or (set marks n true) k false ≡ get_or marks k false || true) (sym (eqb-true p.0 k f)) (get_or-set_same marks k true false l ∙ sym (or-true (get_or marks k false)))
    by true e false f = get_or-set_other marks p.0 k true false (λ s. not_same s f) ∙ sym (or_false (get_or marks k false))
    by false e true f = let i = eqb-true p.0 k f in let h = ltb-false p.0 (length marks) e in absurd (omega (arith, i, h, l))
    by false e false f = sym (or_false (get_or marks k false))

pub marked_one : (marks : List Bool) (needed : List ProgId) (p : ProgId) → AreMarked marks needed → AreMarked (with_mark marks p) (needed ++ p ∷ [])
marked_one marks needed p h k l =
    let m : k < length marks = subst (λ n. k < n) (mark_len marks p) l in
    mark_one marks p k m ∙ ap (λ b. b || nat_eq p.0 k) (h k m) ∙ sym (any_append k needed (p ∷ []) ∙ ap (λ b. list_any (λ v. nat_eq v.0 k) needed || b) (or_false (nat_eq p.0 k)))

pub marked_more : (marks : List Bool) (needed ps : List ProgId) → AreMarked marks needed → AreMarked (with_marks marks ps) (needed ++ ps)
marked_more marks needed [] h = subst (AreMarked marks) (sym (append-nil needed)) h
marked_more marks needed (p ∷ ps) h = subst (AreMarked (with_marks (with_mark marks p) ps)) (append_assoc needed (p ∷ []) ps) (marked_more (with_mark marks p) (needed ++ p ∷ []) ps (marked_one marks needed p h))

-- no mark is set yet
none_at : (n k : ℕ) → get_or (replicate n false) k false ≡ false
none_at zero k = refl
none_at (suc n) zero = refl
none_at (suc n) (suc k) = none_at n k

pub none_marked : (n : ℕ) → AreMarked (replicate n false) []
none_marked n k l = none_at n k

-- one row more is counted
pub counted_more : (p : Option Object → Bool) (rows : List (Option Object)) (n : ℕ) → n < length rows → length (filter p (take (n + 1) rows)) ≡ length (filter p (take n rows)) + cond (p (row_at rows n)) 1 0
counted_more p rows n l = length-filter_more p rows n None l ∙ ap (λ r. length (filter p (take n rows)) + cond (p r) 1 0) (sym (unwrap_or-slice_get rows n None))

pub all_counted : (p : Option Object → Bool) (rows : List (Option Object)) (n count : ℕ) → length rows ≤ n → count ≡ length (filter p (take n rows)) → count ≡ length (filter p rows)
all_counted p rows n count l e = e ∙ ap (λ xs. length (filter p xs)) (take_all n rows l)

-- and one row less is left
pub live_more : (rows : List (Option Object)) (n : ℕ) → n < length rows → live_versions (drop n rows) ≡ version_if_live (row_at rows n) ++ live_versions (drop (n + 1) rows)
live_more rows n l = at_drop_more live_versions rows n None l ∙ ap (λ r. version_if_live r ++ live_versions (drop (n + 1) rows)) (sym (unwrap_or-slice_get rows n None))

pub marked_row : (marks all : List Bool) (rows : List (Option Object)) (n : ℕ) → n < length rows → with_marks marks (live_versions (drop n rows)) ≡ all → with_marks (with_marks marks (version_if_live (row_at rows n))) (live_versions (drop (n + 1) rows)) ≡ all
marked_row marks all rows n l e = sym (marks_append marks (version_if_live (row_at rows n)) (live_versions (drop (n + 1) rows))) ∙ ap (with_marks marks) (sym (live_more rows n l)) ∙ e

pub at_most_one : (b : Bool) (count n : ℕ) → count ≤ n → count + cond b 1 0 ≤ n + 1
at_most_one true count n l = omega (arith, l)
at_most_one false count n l = omega (arith, l)
