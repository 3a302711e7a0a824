-- Objects one after another: one for which nothing is to be done is passed over.
use Rattle.std.proofs.Common.{◌≡◌, ◌∙◌, ◌<◌, ◌∷◌, ◌&&◌, [], Bool, true, false, List, Some, None, refl, ap, sym, length, arith, if◌then◌else◌}
use Rattle.lp_values.specs.declared.id.ObjId.{ObjId}
use Rattle.lp_turn.specs.TickSteps.{first_such, with_others}

pub passed_by : (p : ObjId → Bool) (old new : List ObjId) (o : ObjId) → old ≡ o ∷ new → p o ≡ false → first_such p new ≡ first_such p old
passed_by p old new o e f = sym (ap (first_such p) e ∙ ap (λ b. if b then Some (o, new) else first_such p new) f)

pub found_first : (p : ObjId → Bool) (old new : List ObjId) (o : ObjId) → old ≡ o ∷ new → p o ≡ true → with_others (Some o) new ≡ first_such p old
found_first p old new o e f = sym (ap (first_such p) e ∙ ap (λ b. if b then Some (o, new) else first_such p new) f)

pub none_found : (p : ObjId → Bool) (old new : List ObjId) → old ≡ [] → with_others None new ≡ first_such p old
none_found p old new e = sym (ap (first_such p) e)

-- what is behind one is shorter
pub shorter : {A : Type 0} (old new : List A) (x : A) → old ≡ x ∷ new → length new < length old
shorter old new x e = let q = ap length e in omega (arith, q)

-- both parts of a test
pub both_true : (a b : Bool) → (a && b) ≡ true → (a ≡ true) × (b ≡ true)
both_true true b e = (refl, e)
both_true false b e = absurd (differ e)
  where
    differ : false ≡ true → ⊥
    differ q = cc
