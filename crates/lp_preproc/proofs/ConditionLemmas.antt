-- Values of conditions.
use Rattle.std.proofs.lemmas.Bool.{cases_lt, true≢false}
use Rattle.std.proofs.lemmas.List.{take_all}
use Rattle.std.proofs.Common.{◌≡◌, ◌⊎◌, inl, inr, zero, suc, ℕ, ℤ, ◌+◌, ◌<◌, ◌≤◌, Bool, true, false, List, [], ◌∷◌, ◌++◌, map, length, take, drop, Option, None, Some, Result, Ok, Err, IfOk, refl, sym, ap, subst, ◌∙◌, arith}
use Rattle.std.specs.declared.alloc.AllocError.{AllocError}
use Rattle.lp_tree.specs.declared.token.Token.{Token}
use Rattle.lp_tree.specs.Seen.{seen}
use Rattle.lp_tree.specs.Trees.{Tree, height}
use Rattle.lp_tree.specs.Expressions.{Spells}
use Rattle.lp_parser_expr.specs.Theorem.{Begins, BeginsWithin, IsRead, IsUnexpected, IsTooNested, SpellsOne, sight as sight_of}
use Rattle.lp_preproc.specs.declared.word.Word.{Word}
use Rattle.lp_preproc.specs.Conditions.{IsValue, condition_value, is_condition, sight, value}

-- ---- what the grammar said of the words

split : (ts : List Token) (n : ℕ) → sight_of (take n ts) ++ sight_of (drop n ts) ≡ sight_of ts
split [] zero = refl
split [] (suc n) = refl
split (t ∷ ts) zero = refl
split (t ∷ ts) (suc n) = ap (λ us. seen t ∷ us) (split ts n)

-- what is spelled by all begins with each front
begins : (ts : List Token) (n : ℕ) (t : Tree) → Spells t (sight_of ts) [] → Begins (take n ts)
begins ts n t s = (sight_of (drop n ts), t, subst (λ us. Spells t us []) (sym (split ts n)) s)

begins_within : (ts : List Token) (n : ℕ) (t : Tree) (limit : ℕ) → Spells t (sight_of ts) [] → height t ≤ limit → BeginsWithin limit (take n ts)
begins_within ts n t limit s h = (sight_of (drop n ts), t, subst (λ us. Spells t us []) (sym (split ts n)) s, h)

-- an expression that ends too early: there is no value
pub no_value_short : (ws : List Word) (ts : List Token) (n : ℕ) (t : Tree) → map seen ts ≡ map sight ws → IsRead 200 ts n t → n < length ts → IsValue ws None
no_value_short ws ts n t same r lt = λ z v. r.longest lt (begins ts (n + 1) v.0 (subst (λ us. Spells v.0 us []) (sym same) v.1))

-- nothing is read
pub no_value_unexpected : (ws : List Word) (ts : List Token) (at : ℕ) → map seen ts ≡ map sight ws → IsUnexpected 200 ts at → IsValue ws None
no_value_unexpected ws ts at same u = λ z v.
    let spelled = subst (λ us. Spells v.0 us []) (sym same) v.1 in
    by_order (cases_lt at (length ts)) spelled
  where
    by_order : {t : Tree} → (at < length ts) ⊎ (length ts ≤ at) → Spells t (sight_of ts) [] → ⊥
    by_order {t} (inl lt) s = u.not_so lt (begins ts (at + 1) t s)
    by_order {t} (inr le) s = u.not_whole t (subst (λ us. Spells t (sight_of us) []) (sym (take_all at ts le)) s)

pub no_value_nested : (ws : List Word) (ts : List Token) (at : ℕ) → map seen ts ≡ map sight ws → IsTooNested 200 ts at → IsValue ws None
no_value_nested ws ts at same u = λ z v.
    u.not_within (begins_within ts (at + 1) v.0 200 (subst (λ us. Spells v.0 us []) (sym same) v.1) v.2)

no_some : {z : ℤ} → None ≡ Some z → ⊥
no_some e = cc

-- all was read
pub value_read : SpellsOne → (ws : List Word) (ts : List Token) (t : Tree) (r : Option ℤ) → map seen ts ≡ map sight ws → IsRead 200 ts (length ts) t → r ≡ condition_value t → IsValue ws r
value_read uniq ws ts t r same read e = by_condition (is_condition t) refl r e
  where
    whole : Spells t (map sight ws) []
    whole = subst (λ us. Spells t us []) same (subst (λ us. Spells t (sight_of us) []) (take_all (length ts) ts (omega arith)) read.spelled)

    by_condition : (b : Bool) → is_condition t ≡ b → (r : Option ℤ) → r ≡ condition_value t → IsValue ws r
    by_condition true c (Some z) e = (t, whole, read.shallow, c, sym (rw c at e))
    by_condition true c None e = λ z v. absurd (no_some (rw c at e ∙ ap value (uniq t v.0 _ whole v.1) ∙ v.4))
    by_condition false c (Some z) e = absurd (no_some (sym (rw c at e)))
    by_condition false c None e = λ z v. absurd (true≢false (sym v.3 ∙ ap is_condition (sym (uniq t v.0 _ whole v.1)) ∙ c))

pub value_of_all : SpellsOne → (ws : List Word) (ts : List Token) (t : Tree) (n : ℕ) (q : Result (Option ℤ) AllocError) → map seen ts ≡ map sight ws → IsRead 200 ts n t → n ≡ length ts
    → IfOk q (λ r. r ≡ condition_value t) → IfOk q (IsValue ws)
value_of_all uniq ws ts t n (Err x) same read e g = tt
value_of_all uniq ws ts t n (Ok r) same read e g = value_read uniq ws ts t r same (subst (λ k. IsRead 200 ts k t) e read) g
