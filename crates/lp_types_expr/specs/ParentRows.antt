-- Parents, as the program holds them.
use Rattle.std.specs.Prelude.{codes, ◌≡◌, ◌∷◌, ◌++◌, ◌||◌, ℕ, List, [], Bool, Option, Some, slice_get}
use Rattle.lp_code.specs.declared.tables.Tables.{Tables}
use Rattle.lp_instr.specs.EfunList.{is_name}
use Rattle.lp_types_expr.specs.declared.parent.Parent.{Parent}
use Rattle.lp_types_expr.specs.declared.chosen.Chosen.{Chosen}
use Rattle.lp_types_expr.specs.declared.chosen.Chosen.TheVariants as chosen
use Rattle.lp_types_expr.specs.Known.{Callee, Nobody, TwoParents, as_function, ends_in}
use Rattle.lp_types_expr.specs.NameMaps.{named}
use Rattle.lp_types_expr.specs.Signatures.{Signature, or_else}
use Rattle.lp_types_expr.specs.Shown.{Shows}

-- a parent's path and what it shows
pub record IsParent (t : Tables) (q : Parent) : Type 0 where
  pub path : q.path.items ≡ t.path
  pub shows : Shows (t ∷ []) q.shown

-- whether a parent has a path, or one that ends in `/` and it
abbrev pub path_fits : List ℕ → List ℕ → Bool
path_fits p path = is_name path p || ends_in path (codes "/" ++ p)

abbrev pub parent_has : List ℕ → Parent → Bool
parent_has p q = path_fits p q.path.items

-- which of some parents were chosen
abbrev pub Chooses : List Parent → List Parent → Chosen → Type 0
Chooses all qs chosen.Nothing = qs ≡ []
Chooses all qs (chosen.One k) = (q : Parent) × (slice_get all k ≡ Some q) × (qs ≡ q ∷ [])
Chooses all qs chosen.Several = (q r : Parent) × (rs : List Parent) × (qs ≡ q ∷ r ∷ rs)

-- the function of one parent that a name means, or else what it declares
abbrev pub found_in : Parent → List ℕ → Option Signature
found_in q w = or_else (named q.shown.bodies w) (named q.shown.rows w)

-- whom a call calls that names a path, by the parents that have it
abbrev pub found_of : List Parent → List ℕ → Callee
found_of (q ∷ r ∷ qs) w = TwoParents
found_of [] w = Nobody
found_of (q ∷ []) w = as_function (found_in q w) Nobody
