-- The tree that names are kept in.
use Rattle.std.specs.Prelude.{◌≡◌, ℕ, List, [], ◌∷◌, ◌++◌, ⊤}
use Rattle.std.specs.declared.cmp.Ordering.TheVariants.{Less}
use Rattle.lp_preproc.specs.Names.{order}
use Rattle.lp_preproc.specs.declared.names.Tree.{Tree, Leaf, Fork'}

-- the names of a tree, those of the left branch first
abbrev pub names_in : Tree → List (List ℕ)
names_in Leaf = []
names_in (Fork' p left name height right) = names_in left ++ name ∷ names_in right

-- the height that a tree keeps
abbrev pub height_of : Tree → ℕ
height_of Leaf = 0
height_of (Fork' p left name height right) = height

-- a name comes before each of these
abbrev pub IsBeforeAll : List ℕ → List (List ℕ) → Type 0
IsBeforeAll n [] = ⊤
IsBeforeAll n (m ∷ ms) = (order n m ≡ Less) × IsBeforeAll n ms

-- names are in order, each once
abbrev pub AreInOrder : List (List ℕ) → Type 0
AreInOrder [] = ⊤
AreInOrder (n ∷ ns) = IsBeforeAll n ns × AreInOrder ns
