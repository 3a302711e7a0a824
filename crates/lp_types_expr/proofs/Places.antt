-- Locals by their names, when one comes or goes.
use Rattle.std.proofs.Common.{◌≡◌, ℕ, zero, suc, ◌<◌, ◌≤◌, refl, sym, ap, subst, ◌∙◌, arith, Bool, true, false, List, [], ◌∷◌, ◌++◌, length, take, Option, Some, None, Vec}
use Rattle.std.specs.Prelude.{if◌then◌else◌, slice_get, option_map, is_some}
use Rattle.std.specs.HashMap.{HashMap}
use Rattle.std.specs.declared.alloc.Global.{Global}
use Rattle.std.specs.Cmp.Lexicographic.{nat_list_eq_equiv}
use mathlib.Core.Logic.{◌⊎◌, inl, inr}
use Rattle.std.proofs.lemmas.List.{take-append-le}
use Rattle.lp_instr.specs.EfunList.{is_name}
use Rattle.lp_types_expr.specs.declared.row.Row.{Row}
use Rattle.lp_types_expr.specs.NameMaps.{named}
use Rattle.lp_types_expr.specs.Signatures.{or_else}
use Rattle.lp_types_expr.specs.Placed.{ArePlaced, AreHidden, last_place}
use Rattle.lp_types_expr.proofs.NamesPut.{same_name}

pub last_snoc : (ys : List Row) (r : Row) (w : List ℕ) → last_place (ys ++ r ∷ []) w ≡ or_else (if is_name w r.local.name then Some (length ys) else None) (last_place ys w)
last_snoc [] r w = go (is_name w r.local.name)
  where
    go : (b : Bool) → or_else {A = ℕ} None (if b then Some 0 else None) ≡ or_else {A = ℕ} (if b then Some 0 else None) None
    go true = refl
    go false = refl
last_snoc (y ∷ ys) r w = ap (λ (o : Option ℕ). or_else {A = ℕ} (option_map suc o) (if is_name w y.local.name then Some 0 else None)) (last_snoc ys r w) ∙ go (is_name w r.local.name)
  where
    go : (b : Bool) → or_else {A = ℕ} (option_map suc (or_else (if b then Some (length ys) else None) (last_place ys w))) (if is_name w y.local.name then Some 0 else None)
        ≡ or_else {A = ℕ} (if b then Some (suc (length ys)) else None) (or_else (option_map suc (last_place ys w)) (if is_name w y.local.name then Some 0 else None))
    go true = refl
    go false = refl

inside_front : (ys : List Row) (i : ℕ) (x : Row) → slice_get ys i ≡ Some x → i < length ys
inside_front [] i x h = absurd cc
inside_front (y ∷ ys) zero x h = omega arith
inside_front (y ∷ ys) (suc i) x h = omega (arith, inside_front ys i x h)

get_front : (ys : List Row) (r : Row) (i : ℕ) → i < length ys → slice_get (ys ++ r ∷ []) i ≡ slice_get ys i
get_front [] r i h = absurd (omega (arith, h))
get_front (y ∷ ys) r zero h = refl
get_front (y ∷ ys) r (suc i) h = get_front ys r i (omega (arith, h))

get_last : (ys : List Row) (r : Row) → slice_get (ys ++ r ∷ []) (length ys) ≡ Some r
get_last [] r = refl
get_last (y ∷ ys) r = get_last ys r

get_behind : (ys : List Row) (r : Row) (i : ℕ) (x : Row) → slice_get (ys ++ r ∷ []) i ≡ Some x → length ys ≤ i → (i ≡ length ys) × (r ≡ x)
get_behind [] r zero x h l = (refl, cc)
get_behind [] r (suc i) x h l = absurd cc
get_behind (y ∷ ys) r zero x h l = absurd (omega (arith, l))
get_behind (y ∷ ys) r (suc i) x h l = let p = get_behind ys r i x h (omega (arith, l)) in (ap suc p.0, p.1)

front : (ys : List Row) (r : Row) → take (length ys) (ys ++ r ∷ []) ≡ ys
front [] r = refl
front (y ∷ ys) r = ap (λ z. y ∷ z) (front ys r)

pub forgotten : {S : Type 0} (ys : List Row) (r : Row) (m n : HashMap (Vec ℕ Global) ℕ S) → ArePlaced (ys ++ r ∷ []) m
    → ((w : List ℕ) → is_some (named m r.local.name) ≡ true → named n w ≡ (if is_name w r.local.name then r.hidden else named m w)) → ArePlaced ys n
forgotten {S} ys r m n p h = record { each = λ w. each w (is_name w r.local.name) refl; hidden = hidden }
  where
    itself : is_name r.local.name r.local.name ≡ true
    itself = nat_list_eq_equiv.refl r.local.name

    there : is_some (named m r.local.name) ≡ true
    there = ap is_some (p.each r.local.name ∙ last_snoc ys r r.local.name) ∙ ap (λ b. is_some (or_else (if b then Some (length ys) else None) (last_place ys r.local.name))) itself

    was : r.hidden ≡ last_place ys r.local.name
    was = p.hidden (length ys) r (get_last ys r) ∙ ap (λ z. last_place z r.local.name) (front ys r)

    each : (w : List ℕ) (b : Bool) → is_name w r.local.name ≡ b → named n w ≡ last_place ys w
    each w true e = h w there ∙ ap (λ b. if b then r.hidden else named m w) e ∙ was ∙ ap (last_place ys) (sym (same_name w r.local.name e))
    each w false e = h w there ∙ ap (λ b. if b then r.hidden else named m w) e ∙ p.each w ∙ last_snoc ys r w ∙ ap (λ b. or_else (if b then Some (length ys) else None) (last_place ys w)) e

    hidden : AreHidden ys
    hidden i x g = let l : i < length ys = inside_front ys i x g in
        p.hidden i x (get_front ys r i l ∙ g) ∙ ap (λ z. last_place z x.local.name) (take-append-le i ys (r ∷ []) (omega (arith, l)))

pub added : {S : Type 0} (ys : List Row) (r : Row) (m n : HashMap (Vec ℕ Global) ℕ S) → r.hidden ≡ named m r.local.name
    → ((w : List ℕ) → named n w ≡ or_else (if is_name w r.local.name then Some (length ys) else None) (named m w)) → ArePlaced ys m → ArePlaced (ys ++ r ∷ []) n
added {S} ys r m n k h p = record { each = λ w. h w ∙ ap (or_else (if is_name w r.local.name then Some (length ys) else None)) (p.each w) ∙ sym (last_snoc ys r w); hidden = hidden }
  where
    go : (i : ℕ) (x : Row) → slice_get (ys ++ r ∷ []) i ≡ Some x → (i < length ys) ⊎ (length ys ≤ i) → x.hidden ≡ last_place (take i (ys ++ r ∷ [])) x.local.name
    go i x g (inl l) = p.hidden i x (sym (get_front ys r i l) ∙ g) ∙ ap (λ z. last_place z x.local.name) (sym (take-append-le i ys (r ∷ []) (omega (arith, l))))
    go i x g (inr l) = let q = get_behind ys r i x g l in
        let w : r.hidden ≡ last_place (take i (ys ++ r ∷ [])) r.local.name = k ∙ p.each r.local.name ∙ ap (λ z. last_place z r.local.name) (sym (ap (λ j. take j (ys ++ r ∷ [])) q.0 ∙ front ys r)) in
        subst (λ (z : Row). z.hidden ≡ last_place (take i (ys ++ r ∷ [])) z.local.name) q.1 w

    hidden : AreHidden (ys ++ r ∷ [])
    hidden i x g = go i x g (grind arith)
