-- Names.
use Rattle.std.specs.Prelude.{ℕ, List, [], ◌∷◌, Bool, true, false, if◌then◌else◌, nat_eq}
use Rattle.std.specs.Ordering.{nat_cmp}
use Rattle.std.specs.declared.cmp.Ordering.{Ordering}
use Rattle.std.specs.declared.cmp.Ordering.TheVariants.{Less, Equal, Greater}
use Rattle.std.specs.Cmp.Lexicographic.{pointwise, slice_cmp}

-- two names, or two texts, are one
abbrev pub same_name : List ℕ → List ℕ → Bool
same_name a b = pointwise nat_eq a b

-- whether a name is one of these
abbrev pub among : List ℕ → List (List ℕ) → Bool
among n [] = false
among n (m ∷ ms) = if same_name n m then true else among n ms

-- which of two names comes first: the first letters that differ decide
abbrev pub order : List ℕ → List ℕ → Ordering
order a b = slice_cmp nat_cmp a b

-- the first of these before another name, the second at the same one, the third behind it
abbrev pub by_order : {A : Type 0} → Ordering → A → A → A → A
by_order Less a b c = a
by_order Equal a b c = b
by_order Greater a b c = c

-- A set of names is the list of them in order. This one, and one name more.
abbrev pub with_name : List ℕ → List (List ℕ) → List (List ℕ)
with_name n [] = n ∷ []
with_name n (m ∷ ms) = by_order (order n m) (n ∷ m ∷ ms) (m ∷ ms) (m ∷ with_name n ms)

-- the names of two sets
abbrev pub with_names : List (List ℕ) → List (List ℕ) → List (List ℕ)
with_names [] ns = ns
with_names (m ∷ ms) ns = with_names ms (with_name m ns)
