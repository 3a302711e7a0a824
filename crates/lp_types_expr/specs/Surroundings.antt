-- What is round an expression, as the program holds it.
use Rattle.lp_tree.specs.UnitView.{unit_of}
use Rattle.lp_types_expr.specs.declared.around.Surroundings.{Surroundings}
use Rattle.lp_types_expr.specs.Known.{Around}

-- what the surroundings stand for
unfoldable pub around_of : Surroundings → Around
around_of s = record { mode = s.mode; items = unit_of s.unit.now; parents = s.parents.now; simuls = s.simuls.now }
