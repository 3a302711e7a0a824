-- When a unit is settled: nothing is wrong with it, and these are its tables.
use Rattle.std.specs.Prelude.{◌≡◌, ℕ, List}
use Rattle.lp_tree.specs.declared.pragma.Pragmas.{Pragmas}
use Rattle.lp_tree.specs.declared.seen.Seen.{Seen}
use Rattle.lp_tree.specs.Units.{ItemTree, SpellsUnit}
use Rattle.lp_values.specs.declared.id.ProgId.{ProgId}
use Rattle.lp_code.specs.declared.tables.Tables.{Tables}
use Rattle.lp_front.specs.Settling.{tables_of}
use Rattle.lp_unit_laws.specs.Versions.{IsFine}

-- a unit is what some tokens spell
pub record IsOfTokens (items : List ItemTree) : Type 0 where
  pub tokens : List Seen
  pub spelled : SpellsUnit items tokens

-- A unit that is spelled has no fault over the tables of versions, and its own tables are these.
pub record IsSettledUnit (items : List ItemTree) (t : Tables) (ts : List Tables) (simuls : List (List ℕ)) : Type 0 where
  pub path : List ℕ
  pub pragmas : Pragmas
  pub own : ProgId
  pub spelled : IsOfTokens items
  pub fine : IsFine items pragmas ts simuls
  pub tables : t ≡ tables_of path items pragmas ts own
