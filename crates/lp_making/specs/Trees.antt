-- Inheritance trees without the latest clocks of their versions: what names mean in them does not tell of clocks.
use Rattle.std.specs.Prelude.{◌≡◌, ℕ, List, Some, slice_get}
use Rattle.std.specs.Option.{option_map}
use Rattle.lp_code.specs.declared.program.RawProgram.{RawProgram}
use Rattle.lp_language.specs.World.{Version}
use Rattle.lp_language.specs.Resolve.{Heritage, Heir, Heritages, NoParent, OneParent, Part}
use Rattle.lp_inherit.specs.Heirs.{IsNumbered, table}
use Rattle.lp_world.specs.Stands.{heritage_in}

-- a version without its latest clock
abbrev pub timeless : Version → Version
timeless v = record v { latest = 0 }

-- the tree of versions without them
abbrev mutual
  pub timeless_tree : Heritage → Heritage
  timeless_tree (Heir n v ps) = Heir n (timeless v) (timeless_trees ps)

  pub timeless_trees : Heritages → Heritages
  timeless_trees NoParent = NoParent
  timeless_trees (OneParent h hs) = OneParent (timeless_tree h) (timeless_trees hs)

-- and a part of it
abbrev pub timeless_part : Part → Part
timeless_part p = record { tree = timeless_tree p.tree; first = p.first; base = p.base }

-- two trees differ in clocks alone
abbrev pub AreSameTrees : Heritage → Heritage → Type 0
AreSameTrees h k = timeless_tree h ≡ timeless_tree k

-- two lists of versions are alike but for clocks
abbrev pub AreAlike : List Version → List Version → Type 0
AreAlike old new = (n : ℕ) → option_map timeless (slice_get new n) ≡ option_map timeless (slice_get old n)

-- A program has the tables of a version's inheritance tree, in which no file has more functions than rows can number.
pub record HasTables (h : Heritage) (p : RawProgram) : Type 0 where
  pub tables : p.tables ≡ table h
  pub numbered : IsNumbered h

-- each program has those of its version
abbrev pub HaveTables : List RawProgram → List Version → Type 0
HaveTables programs versions = (n : ℕ) (p : RawProgram) → slice_get programs n ≡ Some p → HasTables (heritage_in versions (record { 0 = n })) p
