-- What the parents of a file lead to, as the program has it.
use Rattle.std.specs.Prelude.{◌≡◌, ℕ, List, ◌∷◌, ◌++◌, [], drop, length, ⊤}
use Rattle.lp_files.specs.declared.store.Store.{Store}
use Rattle.lp_layout.specs.Layout.{AreInside}
use Rattle.lp_front.specs.declared.read.Declared.{Declared}
use Rattle.lp_front.specs.Names.{parents_in}
use Rattle.lp_front.specs.Reading.{items_of}
use Rattle.lp_loads.specs.declared.loads.Family.{Family as FamilyHere}
use Rattle.lp_loads.specs.declared.loads.Family.TheVariants as here
use Rattle.lp_code.specs.declared.tables.Tables.{Tables}
use Rattle.lp_front.specs.declared.parents.Parent.{Parent}
use Rattle.lp_loads.specs.declared.known.Known.{Known}
use Rattle.lp_loads.specs.Known.{Grown, SomeKnown, IsKnown}
use Rattle.lp_loads.specs.Loads.{Loaded, Family, Whole, Broken, Lacking, LoadsParents, with_parent, ended}

abbrev pub family_of : FamilyHere → Family
family_of (here.Whole ts) = Whole ts.items
family_of (here.Broken kind line) = Broken kind line
family_of here.Lacking = Lacking

-- tables for n inherits, for whose rows there are parts
abbrev pub HasFamilyInside : ℕ → FamilyHere → Type 0
HasFamilyInside n (here.Whole ts) = AreInside ts.items × (length ts.items ≡ n)
HasFamilyInside n _ = ⊤

-- the load of a file that declares this
pub record LoadsDeclared (files : Store) (simuls : List (List ℕ)) (under : List (List ℕ)) (file : List ℕ) (d : Declared) (before after : Loaded) : Type 0 where
  pub between : Loaded
  pub family : Family
  pub parents : LoadsParents files simuls (under ++ file ∷ []) (parents_in (items_of d)) before between family
  pub is : after ≡ ended simuls file (items_of d) d.pragmas (length between) family ∷ between

-- what parents lead to of which the first ones have these versions
abbrev pub behind : List Tables → Family → Family
behind [] f = f
behind (t ∷ ts) f = with_parent t (behind ts f)

-- The first parents are loaded and have these versions, so whatever the others lead to, all lead to.
abbrev pub LoadsFirst : Store → List (List ℕ) → List (List ℕ) → List Parent → ℕ → Loaded → List Tables → Loaded → Type 0
LoadsFirst files simuls under ps n before ts between =
    (after : Loaded) (family : Family) → LoadsParents files simuls under (drop n ps) between after family → LoadsParents files simuls under ps before after (behind ts family)

-- the first parents are loaded
pub record IsUnderWay (files : Store) (simuls : List (List ℕ)) (under : List (List ℕ)) (ps : List Parent) (n : ℕ) (ts : List Tables) (old now : Known) : Type 0 where
  pub inside : AreInside ts
  pub count : length ts ≡ n
  pub known : SomeKnown now
  pub goes : (ls : Loaded) → IsKnown ls old → Grown (LoadsFirst files simuls under ps n ls ts) now
