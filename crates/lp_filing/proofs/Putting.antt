-- Values are put into the variables of an object, one after another.
use Rattle.std.proofs.Common.{◌≡◌, ◌∙◌, ◌+◌, ◌<◌, ◌≤◌, ℕ, suc, zero, List, [], ◌∷◌, Option, Some, None, refl, ap, sym, subst, drop, get_or, length, slice_get, slice_set, unwrap_or, IsSome, drop-cons, add-one}
use Rattle.std.proofs.lemmas.List.{drop_all, set_past}
use Rattle.lp_values.specs.declared.id.ObjId.{ObjId}
use Rattle.lp_values.specs.declared.value.Value.{Value}
use Rattle.lp_world.specs.Rows.{variables_at, variables_in, variables_of}
use Rattle.lp_world.specs.declared.objects.Object.{Object}
use Rattle.lp_world.specs.declared.objects.ObjectState.{ObjectState}
use Rattle.lp_world.specs.declared.objects.ObjectState.TheVariants as objects_of
use Rattle.lp_world.proofs.Keeping.{get_set_here}
use Rattle.lp_filing.specs.Rows.{Become, Puts, with_given, with_places}

abbrev these : Object → List Value → Object
these x us = record x { state = objects_of.Resident us }

set_same : {A : Type 0} (xs : List A) (i : ℕ) (y z : A) → slice_get xs i ≡ Some y → z ≡ y → slice_set xs i z ≡ xs
set_same [] i y z e q = refl
set_same (x ∷ xs) zero y z e q = let s : z ≡ x = q ∙ ap (λ o. unwrap_or o z) (sym e) in ap (λ w. w ∷ xs) s
set_same (x ∷ xs) (suc i) y z e q = ap (λ l. x ∷ l) (set_same xs i y z e q)

set_twice : {A : Type 0} (xs : List A) (i : ℕ) (y z : A) → slice_set (slice_set xs i y) i z ≡ slice_set xs i z
set_twice [] i y z = refl
set_twice (x ∷ xs) zero y z = refl
set_twice (x ∷ xs) (suc i) y z = ap (λ l. x ∷ l) (set_twice xs i y z)

same_row : (rows : List (Option Object)) (o : ObjId) (x : Object) (vs : List Value) → slice_get rows o.0 ≡ Some (Some x) → x.state ≡ objects_of.Resident vs → rows ≡ slice_set rows o.0 (Some (these x vs))
same_row rows o x vs e r = sym (set_same rows o.0 (Some x) (Some (these x vs)) e (ap (λ (s : ObjectState). Some (record x { state = s })) (sym r)))

-- nothing is put
pub become_none : (rows : List (Option Object)) (o : ObjId) (p : ℕ) → Become rows rows o (λ vs. with_given vs p None)
become_none rows o p x vs e r = same_row rows o x vs e r

resident_at : (rows : List (Option Object)) (o : ObjId) (x : Object) (vs : List Value) → slice_get rows o.0 ≡ Some (Some x) → x.state ≡ objects_of.Resident vs → variables_at rows o ≡ Some vs
resident_at rows o x vs e r = ap (λ q. variables_in (unwrap_or q None)) e ∙ ap variables_of r

-- nor behind the last variable
pub become_past : (rows : List (Option Object)) (o : ObjId) (p : ℕ) (v : Value) (us : List Value) → variables_at rows o ≡ Some us → length us ≤ p → Become rows rows o (λ vs. with_given vs p (Some v))
become_past rows o p v us h n x vs e r =
    let is : us ≡ vs = ap (λ q. unwrap_or q us) (sym h ∙ resident_at rows o x vs e r) in
    let far : length vs ≤ p = subst (λ (ws : List Value). length ws ≤ p) is n in
    same_row rows o x vs e r ∙ ap (λ ws. slice_set rows o.0 (Some (these x ws))) (sym (set_past vs p v far))

some_row : (rows : List (Option Object)) (o : ObjId) → IsSome (variables_at rows o) → (x : Object) × (vs : List Value) × (slice_get rows o.0 ≡ Some (Some x)) × (x.state ≡ objects_of.Resident vs)
some_row rows o h = by (slice_get rows o.0) refl h
  where
    held : (s : ObjectState) → IsSome (variables_of s) → (vs : List Value) × (s ≡ objects_of.Resident vs)
    held (objects_of.Resident us) h = (us, refl)
    held (objects_of.Swapped t shared own) h = absurd cc

    by : (q : Option (Option Object)) → slice_get rows o.0 ≡ q → IsSome (variables_in (unwrap_or q None)) → (x : Object) × (vs : List Value) × (slice_get rows o.0 ≡ Some (Some x)) × (x.state ≡ objects_of.Resident vs)
    by None e h = absurd cc
    by (Some None) e h = absurd cc
    by (Some (Some x)) e h = let s = held x.state h in (x, s.0, e, s.1)

-- the object is in memory still
pub memory_after : (rows new : List (Option Object)) (o : ObjId) (change : List Value → List Value) → IsSome (variables_at rows o) → Become rows new o change → IsSome (variables_at new o)
memory_after rows new o change h b =
    let r = some_row rows o h in
    let new_row : slice_get new o.0 ≡ Some (Some (these r.0 (change r.1))) = ap (λ l. slice_get l o.0) (b r.0 r.1 r.2 r.3) ∙ get_set_here rows o.0 (Some (these r.0 (change r.1))) (Some r.0) r.2 in
    subst IsSome (sym (resident_at new o (these r.0 (change r.1)) (change r.1) new_row refl)) refl

pub puts_past : (rows : List (Option Object)) (o : ObjId) (places : List ℕ) (at : ℕ) (value : Option Value) → length places ≤ at → Puts rows rows o places at at value
puts_past rows o places at value far rest x vs e r =
    (vs, same_row rows o x vs e r, ap (λ ps. with_places vs ps rest) (drop_all at places far) ∙ sym (ap (λ ps. with_places vs ps (value ∷ rest)) (drop_all at places far)))

pub puts_next : (rows new : List (Option Object)) (o : ObjId) (places : List ℕ) (at place d : ℕ) (value : Option Value) → at < length places → place ≡ get_or places at d → Become rows new o (λ vs. with_given vs place value) → Puts rows new o places at (at + 1) value
puts_next rows new o places at place d value within is b rest x vs e r =
    let cut : drop at places ≡ place ∷ drop (at + 1) places = drop-cons places at d within ∙ ap (λ p. p ∷ drop (suc at) places) (sym is) ∙ ap (λ k. place ∷ drop k places) (sym (add-one at)) in
    (with_given vs place value, b x vs e r, sym (ap (λ ps. with_places vs ps (value ∷ rest)) cut))

-- A loop over what is given
abbrev pub HasPut : List (Option Object) → List (Option Object) → ObjId → List ℕ → List (Option Value) → ℕ → List (Option Value) → Type 0
HasPut old now o places given at rest =
    (x : Object) (vs : List Value) → slice_get old o.0 ≡ Some (Some x) → x.state ≡ objects_of.Resident vs
    → (us : List Value) × (now ≡ slice_set old o.0 (Some (these x us))) × (with_places us (drop at places) rest ≡ with_places vs places given)

pub put_none : (old : List (Option Object)) (o : ObjId) (places : List ℕ) (given : List (Option Value)) → HasPut old old o places given 0 given
put_none old o places given x vs e r = (vs, same_row old o x vs e r, refl)

pub put_more : (old now new : List (Option Object)) (o : ObjId) (places : List ℕ) (given : List (Option Value)) (at0 at1 : ℕ) (value : Option Value) (whole rest : List (Option Value)) → whole ≡ value ∷ rest
    → HasPut old now o places given at0 whole → Puts now new o places at0 at1 value → HasPut old new o places given at1 rest
put_more old now new o places given at0 at1 value whole rest q h p x vs e r =
    let i = h x vs e r in
    let here : slice_get now o.0 ≡ Some (Some (these x i.0)) = ap (λ l. slice_get l o.0) i.1 ∙ get_set_here old o.0 (Some (these x i.0)) (Some x) e in
    let n = p rest (these x i.0) i.0 here refl in
    (n.0, n.1 ∙ ap (λ l. slice_set l o.0 (Some (these x n.0))) i.1 ∙ set_twice old o.0 (Some (these x i.0)) (Some (these x n.0)), n.2 ∙ ap (λ l. with_places i.0 (drop at0 places) l) (sym q) ∙ i.2)

no_more : (us : List Value) (ps : List ℕ) → with_places us ps [] ≡ us
no_more us [] = refl
no_more us (p ∷ ps) = refl

pub put_whole : (old now : List (Option Object)) (o : ObjId) (places : List ℕ) (given : List (Option Value)) (at : ℕ) (rest : List (Option Value)) → rest ≡ [] → HasPut old now o places given at rest → Become old now o (λ vs. with_places vs places given)
put_whole old now o places given at rest q h x vs e r =
    let i = h x vs e r in
    i.1 ∙ ap (λ ws. slice_set old o.0 (Some (these x ws))) (sym (no_more i.0 (drop at places)) ∙ ap (with_places i.0 (drop at places)) (sym q) ∙ i.2)
