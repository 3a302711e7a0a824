-- Laws of values as read.
use Rattle.std.proofs.Common.{◌≡◌, Bool, true, false, refl, ap, subst, arith}
use Rattle.std.specs.Bool.{Decides}
use Rattle.std.specs.Cmp.Lexicographic.{bytes_decides}
use Rattle.std.proofs.lemmas.Bool.Decides.{Decides-int_eq, Decides-eqb}
use Rattle.lp_values.specs.Read.{as_read, value_eq, same}
use Rattle.lp_values.specs.declared.id.ObjId.{ObjId}
use Rattle.lp_values.specs.declared.value.Value.{Value}
use Rattle.lp_values.specs.declared.value.Value.TheVariants.{Int, Str, Arr, Map, Obj}
use Rattle.lp_values.specs.contracts.value.ValuePartialEq.TheImpl as derived

-- the derived test is this one
pub eq_is : (a b : Value) → (derived.eq-value).it a b ≡ value_eq a b
eq_is (Int m) (Int n) = refl
eq_is (Str s) (Str t) = refl
eq_is (Arr c) (Arr d) = refl
eq_is (Map c) (Map d) = refl
eq_is (Obj o) (Obj p) = refl
eq_is a b = refl

-- values that test equal are one
pub value_eq_one : (a b : Value) → value_eq a b ≡ true → a ≡ b
value_eq_one (Int m) b = elim b as (λ b. value_eq (Int m) b ≡ true → Int m ≡ b) [ Int n ↦ λ h. ap Int ((Decides-int_eq m n).0 h) | _ ↦ λ h. cc ]
value_eq_one (Str s) b = elim b as (λ b. value_eq (Str s) b ≡ true → Str s ≡ b) [ Str t ↦ λ h. ap Str ((bytes_decides s t).0 h) | _ ↦ λ h. cc ]
value_eq_one (Arr c) b = elim b as (λ b. value_eq (Arr c) b ≡ true → Arr c ≡ b) [ Arr d ↦ λ h. ap (λ n. Arr (record { 0 = n })) ((Decides-eqb c.0 d.0).0 h) | _ ↦ λ h. cc ]
value_eq_one (Map c) b = elim b as (λ b. value_eq (Map c) b ≡ true → Map c ≡ b) [ Map d ↦ λ h. ap (λ n. Map (record { 0 = n })) ((Decides-eqb c.0 d.0).0 h) | _ ↦ λ h. cc ]
value_eq_one (Obj o) b = elim b as (λ b. value_eq (Obj o) b ≡ true → Obj o ≡ b) [ Obj p ↦ λ h. ap (λ n. Obj (record { 0 = n })) ((Decides-eqb o.0 p.0).0 h) | _ ↦ λ h. cc ]

-- a value equals itself
pub value_eq_refl : (a : Value) → value_eq a a ≡ true
value_eq_refl (Int n) = (Decides-int_eq n n).1 refl
value_eq_refl (Str s) = (bytes_decides s s).1 refl
value_eq_refl (Arr c) = (Decides-eqb c.0 c.0).1 refl
value_eq_refl (Map c) = (Decides-eqb c.0 c.0).1 refl
value_eq_refl (Obj o) = (Decides-eqb o.0 o.0).1 refl

-- the test tells exactly whether two values are one
pub Decides-value_eq : (a b : Value) → Decides (value_eq a b) (a ≡ b)
Decides-value_eq a b = (value_eq_one a b, λ e. subst (λ v. value_eq a v ≡ true) e (value_eq_refl a))

-- and whether two values read as one
pub Decides-same : (live : ObjId → Bool) (a b : Value) → Decides (same live a b) (as_read live a ≡ as_read live b)
Decides-same live a b = Decides-value_eq (as_read live a) (as_read live b)

-- what a value reads as is no dead object
pub not_dead : (live : ObjId → Bool) (k : Value) (o : ObjId) → live o ≡ false → value_eq (as_read live k) (Obj o) ≡ false
not_dead live (Int n) o h = refl
not_dead live (Str s) o h = refl
not_dead live (Arr c) o h = refl
not_dead live (Map c) o h = refl
not_dead live (Obj p) o h = grind arith
