-- What parents show, as the program holds it.
use Rattle.std.specs.Prelude.{◌≡◌, ℕ, List, true, false}
use Rattle.lp_code.specs.declared.tables.Tables.{Tables}
use Rattle.lp_types_expr.specs.declared.shown.Shown.{Shown}
use Rattle.lp_types_expr.specs.NameMaps.{named}
use Rattle.lp_types_expr.specs.Signatures.{last_shown}

-- two maps have what the last parent shows: of functions with a body, and of all
pub record Shows (ts : List Tables) (s : Shown) : Type 0 where
  pub bodies : (w : List ℕ) → named s.bodies w ≡ last_shown true ts w
  pub rows : (w : List ℕ) → named s.rows w ≡ last_shown false ts w
