-- The ends of a path behind its slashes are the names in which the path ends.
use Rattle.std.proofs.Common.{◌≡◌, ℕ, suc, ◌-◌, ◌<◌, ◌≤◌, Bool, true, false, not, ◌&&◌, ◌||◌, List, [], ◌∷◌, length, drop, Option, Some, None, if◌then◌else◌, ⊎_elim, refl, sym, ap, ◌∙◌, arith}
use Rattle.std.specs.Prelude.{nat_eq}
use Rattle.std.proofs.lemmas.Bool.{cases_order, cases_Bool, lt-ltb, le-ltb}
use Rattle.lp_instr.specs.EfunList.{is_name}
use Rattle.lp_language.specs.Resolve.{or_else}
use Rattle.lp_types_expr.specs.Known.{ends_in, has_path}
use Rattle.lp_codegen_expr.proofs.Meanings.{same_name}
use Rattle.lp_codegen_layout.specs.declared.entry.Entry.{Entry}
use Rattle.lp_codegen_layout.specs.Laid.{entry, ends, path_names, last_number, PathsAreNames}
use Rattle.lp_codegen_layout.proofs.Entries.{last_of_both}

-- a name is an end of a path behind a slash
abbrev is_end : List ℕ → List ℕ → Bool
is_end [] p = false
is_end (c ∷ cs) p = is_end cs p || (nat_eq c 47 && is_name cs p)

chosen_end : (o b : Bool) (n : Bool) (k : ℕ) → or_else (if o then Some k else None) (if b && n then Some k else None) ≡ (if (o || (b && n)) then Some k else None)
chosen_end true b n k = refl
chosen_end false b n k = refl

one_end : (o : Option ℕ) (b n : Bool) (k : ℕ) → (if b then or_else o (if n then Some k else None) else o) ≡ or_else o (if b && n then Some k else None)
one_end o true n k = refl
one_end None false n k = refl
one_end (Some j) false n k = refl

last_of : (b : Bool) (e : Entry) (es : List Entry) (p : List ℕ) → last_number (if b then e ∷ es else es) p ≡ (if b then or_else (last_number es p) (if is_name e.name p then Some e.number else None) else last_number es p)
last_of true e es p = refl
last_of false e es p = refl

last_end : (k : ℕ) (cs p : List ℕ) → last_number (ends k cs) p ≡ (if is_end cs p then Some k else None)
last_end k [] p = refl
last_end k (c ∷ cs) p =
    last_of (nat_eq c 47) (entry cs k) (ends k cs) p
    ∙ one_end (last_number (ends k cs) p) (nat_eq c 47) (is_name cs p) k
    ∙ ap (λ o. or_else o (if nat_eq c 47 && is_name cs p then Some k else None)) (last_end k cs p)
    ∙ chosen_end (is_end cs p) (nat_eq c 47) (is_name cs p) k

-- names of two lengths are two names
unlike : (xs ys : List ℕ) → (length xs ≡ length ys → ⊥) → is_name xs ys ≡ false
unlike xs ys h = ⊎_elim (λ (y : is_name xs ys ≡ true). absurd (h (ap length (same_name xs ys y)))) (λ (n : is_name xs ys ≡ false). n) (cases_Bool (is_name xs ys))

short : (cs p : List ℕ) → length cs ≤ length p → ends_in cs (47 ∷ p) ≡ false
short cs p h = ap (λ b. not b && is_name (drop (length cs - length (47 ∷ p)) cs) (47 ∷ p)) (lt-ltb (length cs) (suc (length p)) (omega (arith, h)))

long : (cs p : List ℕ) → length p < length cs → ends_in cs (47 ∷ p) ≡ is_name (drop (length cs - length (47 ∷ p)) cs) (47 ∷ p)
long cs p h = ap (λ b. not b && is_name (drop (length cs - length (47 ∷ p)) cs) (47 ∷ p)) (le-ltb (length cs) (suc (length p)) (omega (arith, h)))

not_here : (o b n : Bool) → n ≡ false → o ≡ (o || (b && n))
not_here true b n e = refl
not_here false true n e = sym e
not_here false false n e = refl

here : (o b : Bool) → o ≡ false → b ≡ (o || b)
here true b e = absurd cc
here false b e = refl

ends_same : (cs p : List ℕ) → ends_in cs (47 ∷ p) ≡ is_end cs p
ends_same [] p = short [] p (omega arith)
ends_same (c ∷ cs) p =
    ⊎_elim
    (λ (e : length cs ≡ length p).
    let none : is_end cs p ≡ false = sym (ends_same cs p) ∙ short cs p (omega (arith, e)) in
    let n : length (c ∷ cs) - length (47 ∷ p) ≡ 0 = omega (arith, e) in
    long (c ∷ cs) p (omega (arith, e)) ∙ ap (λ i. is_name (drop i (c ∷ cs)) (47 ∷ p)) n ∙ here (is_end cs p) (nat_eq c 47 && is_name cs p) none)
    (λ o. ⊎_elim
    (λ (l : length cs < length p).
    let none : is_end cs p ≡ false = sym (ends_same cs p) ∙ short cs p (omega (arith, l)) in
    let ne : length cs ≡ length p → ⊥ = λ e. absurd (omega (arith, l, e)) in
    short (c ∷ cs) p (omega (arith, l)) ∙ sym none ∙ not_here (is_end cs p) (nat_eq c 47) (is_name cs p) (unlike cs p ne))
    (λ (g : length p < length cs).
    let ne : length cs ≡ length p → ⊥ = λ e. absurd (omega (arith, g, e)) in
    let n : length (c ∷ cs) - length (47 ∷ p) ≡ suc (length cs - length (47 ∷ p)) = omega (arith, g) in
    long (c ∷ cs) p (omega (arith, g)) ∙ ap (λ i. is_name (drop i (c ∷ cs)) (47 ∷ p)) n ∙ sym (long cs p g) ∙ ends_same cs p ∙ not_here (is_end cs p) (nat_eq c 47) (is_name cs p) (unlike cs p ne))
    o)
    (cases_order (length cs) (length p))

either_path : (m : Option ℕ) (a b : Bool) (k : ℕ) → or_else m (or_else (if b then Some k else None) (if a then Some k else None)) ≡ or_else m (if (a || b) then Some k else None)
either_path m true true k = refl
either_path m true false k = refl
either_path m false true k = refl
either_path m false false k = refl

-- the last parent that a name calls
pub paths_are_names : PathsAreNames
paths_are_names k [] p = refl
paths_are_names k (t ∷ ts) p =
    last_of_both (entry t.path k ∷ ends k t.path) (path_names (suc k) ts) p
    ∙ ap (λ o. or_else (last_number (path_names (suc k) ts) p) (or_else o (if is_name t.path p then Some k else None))) (last_end k t.path p ∙ ap (λ b. if b then Some k else None) (sym (ends_same t.path p)))
    ∙ either_path (last_number (path_names (suc k) ts) p) (is_name t.path p) (ends_in t.path (47 ∷ p)) k
    ∙ ap (λ o. or_else o (if has_path p t then Some k else None)) (paths_are_names (suc k) ts p)
