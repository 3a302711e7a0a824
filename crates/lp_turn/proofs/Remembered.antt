-- Whether an object of a name was made, by the names that are known.
use Rattle.std.proofs.Common.{◌≡◌, ◌∙◌, ◌||◌, ◌&&◌, ◌<◌, arith, ℕ, zero, suc, Bool, true, false, List, [], ◌∷◌, Option, Some, None, ap, refl, sym, length, map, nat_eq, option_map, slice_get, is_some, if◌then◌else◌}
use Rattle.std.specs.List.{list_any}
use Rattle.std.proofs.lemmas.Bool.Decides.{Decides-eqb}
use Rattle.lp_values.specs.declared.id.ObjId.{ObjId}
use Rattle.lp_instr.specs.EfunList.{is_name}
use Rattle.lp_objects.specs.Objects.{Named}
use Rattle.lp_objects.specs.Objects as named
use Rattle.lp_objects.specs.Stands as names
use Rattle.lp_objects.specs.declared.objects.Objects.{Objects}
use Rattle.lp_language.specs.World as world
use Rattle.lp_language.specs.World.{World, named_from, object_named}
use Rattle.lp_meaning.specs.WorldSteps.{master_name, was_made}
use Rattle.lp_world.specs.Stands.{named_of}
use Rattle.lp_turn.specs.Masters.{IsMasterOf}
use Rattle.lp_turn.specs.StartEnds.{WasMade, is_master_name}
use Rattle.lp_turn.specs.Starting.{AreAllKnown}

differ : false ≡ true → ⊥
differ q = cc

-- lists some item of which passes
module _ {A : Type 0} (p : A → Bool) where
  any_at : (xs : List A) (n : ℕ) (x : A) → slice_get xs n ≡ Some x → p x ≡ true → list_any p xs ≡ true
  any_at [] n x e h = cc
  any_at (y ∷ xs) zero x e h = let q : p y ≡ true = ap (λ o. passes o) e ∙ h in ap (λ b. b || list_any p xs) q
    where
      passes : Option A → Bool
      passes None = false
      passes (Some z) = p z
  any_at (y ∷ xs) (suc n) x e h = by (p y) (any_at xs n x e h)
    where
      by : (b : Bool) → list_any p xs ≡ true → (b || list_any p xs) ≡ true
      by true i = refl
      by false i = i

  any_index : (xs : List A) → list_any p xs ≡ true → (n : ℕ) × (x : A) × (slice_get xs n ≡ Some x) × (p x ≡ true)
  any_index [] h = absurd (differ h)
  any_index (y ∷ xs) h = by (p y) refl h (any_index xs)
    where
      by : (b : Bool) → p y ≡ b → (b || list_any p xs) ≡ true → (list_any p xs ≡ true → (n : ℕ) × (x : A) × (slice_get xs n ≡ Some x) × (p x ≡ true)) → (n : ℕ) × (x : A) × (slice_get (y ∷ xs) n ≡ Some x) × (p x ≡ true)
      by true e i f = (zero, y, refl, e)
      by false e i f = let r = f i in (suc r.0, r.1, r.2, r.3)

named_at : (xs : List world.Object) (n : ℕ) → slice_get (map named_of xs) n ≡ option_map named_of (slice_get xs n)
named_at [] n = refl
named_at (x ∷ xs) zero = refl
named_at (x ∷ xs) (suc n) = named_at xs n

within : {A : Type 0} (xs : List A) (n : ℕ) (x : A) → slice_get xs n ≡ Some x → n < length xs
within [] n x e = cc
within (y ∷ xs) zero x e = omega arith
within (y ∷ xs) (suc n) x e = let q = within xs n x e in omega (arith, q)

-- a live object of the name was made
live_made : (name : List ℕ) (n : ℕ) (xs : List world.Object) (o : ObjId) → named_from name n xs ≡ Some o → list_any (λ x. is_name x.name name) xs ≡ true
live_made name n [] o e = cc
live_made name n (x ∷ xs) o e = by x.is_live (is_name x.name name) e (live_made name (suc n) xs o)
  where
    by : (a b : Bool) → (if a && b then Some (record { 0 = n }) else named_from name (suc n) xs) ≡ Some o → (named_from name (suc n) xs ≡ Some o → list_any (λ x. is_name x.name name) xs ≡ true) → (b || list_any (λ x. is_name x.name name) xs) ≡ true
    by a true e f = refl
    by true false e f = f e
    by false false e f = f e

-- where none is live, each of the name is dead
dead_then : (name : List ℕ) (k : ℕ) (xs : List world.Object) (n : ℕ) (x : world.Object) → named_from name k xs ≡ None → slice_get xs n ≡ Some x → is_name x.name name ≡ true → x.is_live ≡ false
dead_then name k [] n x e g h = cc
dead_then name k (y ∷ xs) n x e g h = by y.is_live (is_name y.name name) refl refl e n g (λ m q f. dead_then name (suc k) xs m x q f h)
  where
    some_none : {B : Type 0} (b : B) → Some b ≡ None → ⊥
    some_none b q = cc

    same : Some y ≡ Some x → y ≡ x
    same q = ap (λ o. elim o [ Some z ↦ z | None ↦ x ]) q

    by : (a b : Bool) → y.is_live ≡ a → is_name y.name name ≡ b → (if a && b then Some (record { 0 = k }) else named_from name (suc k) xs) ≡ None → (n : ℕ) → slice_get (y ∷ xs) n ≡ Some x
        → ((m : ℕ) → named_from name (suc k) xs ≡ None → slice_get xs m ≡ Some x → x.is_live ≡ false) → x.is_live ≡ false
    by true true c d e n g f = absurd (some_none (record { 0 = k }) e)
    by true false c d e zero g f = absurd (differ (sym d ∙ ap (λ (z : world.Object). is_name z.name name) (same g) ∙ h))
    by false b c d e zero g f = ap (λ (z : world.Object). z.is_live) (sym (same g)) ∙ c
    by true false c d e (suc n) g f = f n e g
    by false b c d e (suc n) g f = f n e g

-- two tests are one
one_test : (a b : Bool) → (a ≡ true → b ≡ true) → (b ≡ true → a ≡ true) → a ≡ b
one_test true b f g = sym (f refl)
one_test false true f g = absurd (differ (g refl))
one_test false false f g = refl

known_name : (k : Bool) (o : Option Named) → is_master_name (if k then o else None) ≡ true → is_master_name o ≡ true
known_name true o h = h
known_name false o h = absurd (differ h)

name_there : (o : Option world.Object) → is_master_name (option_map named_of o) ≡ true → (x : world.Object) × (o ≡ Some x) × (is_name x.name master_name ≡ true)
name_there None h = absurd (differ h)
name_there (Some x) h = (x, refl, h)

pub made_dead : (table : Objects) (w : World) → names.Stands table (map named_of w.objects) → AreAllKnown table (map named_of w.objects) → object_named w master_name ≡ None
    → list_any (λ o. is_master_name (names.known_at table (map named_of w.objects) o.0)) (names.died_in table) ≡ was_made w master_name
made_dead table w h k none =
    let all = map named_of w.objects in
    one_test (list_any (λ o. is_master_name (names.known_at table all o.0)) (names.died_in table)) (was_made w master_name)
    (λ t.
    let r = any_index (λ o. is_master_name (names.known_at table all o.0)) (names.died_in table) t in
    let n = r.1.0 in
    let x = name_there (slice_get w.objects n) (ap is_master_name (sym (named_at w.objects n)) ∙ known_name (names.is_known table all n) (slice_get all n) r.3) in
    any_at (λ x. is_name x.name master_name) w.objects n x.0 x.1 x.2)
    (λ t.
    let r = any_index (λ x. is_name x.name master_name) w.objects t in
    let n = r.0 in
    let x = r.1 in
    let get : slice_get all n ≡ Some (named_of x) = named_at w.objects n ∙ ap (option_map named_of) r.2 in
    let dead = dead_then master_name 0 w.objects n x none r.2 r.3 in
    let known = k n (within all n (named_of x) get) in
    let died : names.is_among n (names.died_in table) ≡ true = ap (λ b. b || names.is_among n (names.died_in table)) (sym (ap named.lives get ∙ dead)) ∙ known in
    let d = any_index (λ (o : ObjId). nat_eq o.0 n) (names.died_in table) died in
    let same : d.1.0 ≡ n = (Decides-eqb d.1.0 n).0 d.3 in
    any_at (λ o. is_master_name (names.known_at table all o.0)) (names.died_in table) d.0 d.1 d.2
    (ap (λ m. is_master_name (names.known_at table all m)) same ∙ ap (λ b. is_master_name (if b then slice_get all n else None)) known ∙ ap is_master_name get ∙ r.3))

-- what names tell
pub made_alive : (table : Objects) (q : Option ObjId) → IsMasterOf table q → is_some q ≡ true → WasMade table true
made_alive table None m e w h k = absurd (differ e)
made_alive table (Some o) m e w h k = sym (live_made master_name 0 w.objects o (sym (m w h)))

pub made_or_not : (table : Objects) (q : Option ObjId) (b : Bool) → IsMasterOf table q → is_some q ≡ false → ((all : List Named) → names.Stands table all → b ≡ list_any (λ o. is_master_name (names.known_at table all o.0)) (names.died_in table)) → WasMade table b
made_or_not table (Some o) b m e f w h k = absurd (differ (sym e))
made_or_not table None b m e f w h k = f (map named_of w.objects) h ∙ made_dead table w h k (sym (m w h))
