-- Parameters.
use Rattle.std.proofs.Common.{◌≡◌, ℕ, suc, ◌+◌, ◌-◌, ◌<◌, if◌then◌else◌, drop-cons, List, [], ◌∷◌, Bool, true, false, Option, Some, None, Result, Ok, Err, IfOk, length, drop, get_or, refl, sym, ap, ◌∙◌, ◌≤◌, arith}
use Rattle.std.specs.Option.{is_some, option_map}
use Rattle.std.specs.Prelude.{IsSome}
use Rattle.std.specs.declared.alloc.AllocError.{AllocError}
use Rattle.lp_tree.specs.declared.token.Token.{Token}
use Rattle.lp_preproc.specs.Names.{among, same_name}
use Rattle.lp_preproc.specs.Places.{IsAdded, place_of}
use Rattle.lp_preproc.specs.Uses.{is_close, is_comma, name_of}
use Rattle.lp_preproc.specs.Directives.{IsParameter, IsParameterStep, more_parameters, new_name, step_by}
use Rattle.lp_preproc.specs.declared.definitions.ParameterStep.TheVariants as step

among_by : (n p : List ℕ) (ps : List (List ℕ)) (b : Bool) → same_name n p ≡ b → among n ps ≡ is_some (place_of n ps) → among n (p ∷ ps) ≡ is_some (place_of n (p ∷ ps))
among_by n p ps true e h = rw e refl
among_by n p ps false e h = rw e (h ∙ mapped (place_of n ps))
  where
    mapped : (r : Option ℕ) → is_some r ≡ is_some (option_map suc r)
    mapped None = refl
    mapped (Some i) = refl

among_placed : (n : List ℕ) (ps : List (List ℕ)) → among n ps ≡ is_some (place_of n ps)
among_placed n [] = refl
among_placed n (p ∷ ps) = among_by n p ps (same_name n p) refl (among_placed n ps)

some_is : (r : Option ℕ) → IsSome r → is_some r ≡ true
some_is None h = h
some_is (Some i) h = refl

-- a name that was added is one more parameter
one_added : (n : List ℕ) (old new : List (List ℕ)) (b : Bool) → IsAdded n old new b → IsParameter old (Some n) new b
one_added n old new true h = (n, rw (among_placed n old ∙ ap is_some h.0) refl, h.1)
one_added n old new false h = rw (among_placed n old ∙ some_is (place_of n old) h.0) refl

pub parameter_added : (n : List ℕ) (old new : List (List ℕ)) (q : Result Bool AllocError) → IfOk q (IsAdded n old new) → IfOk q (IsParameter old (Some n) new)
parameter_added n old new (Ok b) h = one_added n old new b h
parameter_added n old new (Err x) h = tt

-- ---- one step through the words

-- no parameter stands here
bad : (names : List (List ℕ)) (t u : Token) → new_name names (name_of t.kind) ≡ None → (us : List Token) → more_parameters names (t ∷ u ∷ us) ≡ None
bad names t u e us = rw e refl

by_two : (a b : Bool) (names new : List (List ℕ)) (t u : Token) → IsParameter names (name_of t.kind) new true → is_close u.kind ≡ a → is_comma u.kind ≡ b
    → IsParameterStep names t u new (if a then step.Ends else (if b then step.GoesOn else step.Bad))
by_two true b names new t u p e f = λ us. rw (p.1, e, p.2) refl
by_two false true names new t u p e f = λ us. rw (p.1, e, f, p.2) refl
by_two false false names new t u p e f = λ us. rw (p.1, e, f) refl

pub step_taken : (names new : List (List ℕ)) (t u : Token) → IsParameter names (name_of t.kind) new true → IsParameterStep names t u new (step_by u.kind)
step_taken names new t u p = by_two (is_close u.kind) (is_comma u.kind) names new t u p refl refl

pub step_bad : (names new : List (List ℕ)) (t u : Token) → IsParameter names (name_of t.kind) new false → IsParameterStep names t u new step.Bad
step_bad names new t u p = bad names t u p

-- two words are left
pub two_left : (ts : List Token) (i : ℕ) (t u : Token) → 1 < length ts - i → t ≡ get_or ts i t → u ≡ get_or ts (i + 1) u → drop i ts ≡ t ∷ u ∷ drop (i + 2) ts
two_left ts i t u lt e f =
    let one : i + 1 ≡ suc i = omega arith in
    let two : i + 2 ≡ suc (suc i) = omega arith in
    let first : drop i ts ≡ t ∷ drop (suc i) ts = drop-cons ts i t (omega arith) ∙ ap (λ a. a ∷ drop (suc i) ts) (sym e) in
    let second : drop (suc i) ts ≡ u ∷ drop (suc (suc i)) ts = drop-cons ts (suc i) u (omega arith) ∙ ap (λ a. a ∷ drop (suc (suc i)) ts) (sym (rw one at f)) in
    first ∙ ap (λ us. t ∷ us) second ∙ ap (λ k. t ∷ u ∷ drop k ts) (sym two)

-- fewer than two words are left
pub parameter_end : (names : List (List ℕ)) (ts : List Token) → length ts ≤ 1 → more_parameters names ts ≡ None
parameter_end names [] h = refl
parameter_end names (t ∷ []) h = refl
parameter_end names (t ∷ u ∷ us) h = absurd (omega arith)
