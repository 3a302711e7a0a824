-- The files that a unit inherits.
use Rattle.std.specs.Prelude.{ℕ, List, [], ◌∷◌, ◌++◌, nat_eq, codes, if◌then◌else◌}
use Rattle.std.specs.List.{ends_with}
use Rattle.std.specs.Str.{encode_utf8_all}
use Rattle.lp_tree.specs.Units.{ItemTree, Inherit, Proto, Fun, Var}
use Rattle.lp_front.specs.declared.parents.Parent.{Parent}

-- what stands before a name that has no leading `/`
abbrev pub slash_before : List ℕ → List ℕ
slash_before [] = codes "/"
slash_before (c ∷ cs) = if nat_eq c 47 then [] else codes "/"

-- what stands behind a name that has no trailing `.c`
abbrev pub end_behind : List ℕ → List ℕ
end_behind name = if ends_with nat_eq name (codes ".c") then [] else codes ".c"

-- The file of a name: with a leading `/` and a trailing `.c`, each once.
abbrev pub file_of : List ℕ → List ℕ
file_of name = slash_before name ++ encode_utf8_all name ++ end_behind name

-- the inherits of a unit, in their order
abbrev pub parents_in : List ItemTree → List Parent
parents_in [] = []
parents_in (Inherit line name ∷ is) = record { line = line; file = file_of name } ∷ parents_in is
parents_in (Proto line ms ty w ps ∷ is) = parents_in is
parents_in (Fun line ms ty w ps b ∷ is) = parents_in is
parents_in (Var line ms base ds ∷ is) = parents_in is
