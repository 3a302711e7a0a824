-- What the program's parts of a unit stand for.
use Rattle.std.specs.Prelude.{map}
use Rattle.lp_tree.specs.Units.{Phase, Inherits, Definitions}
use Rattle.lp_tree.specs.UnitView.{item_of}
use Rattle.lp_parser.specs.declared.before.Phase.{Phase as CodePhase}
use Rattle.lp_parser.specs.declared.before.Phase.TheVariants as phases
use Rattle.lp_parser.specs.declared.before.Before.{Before as CodeBefore}
use Rattle.lp_parser.specs.declared.focus.Head.{Head as CodeHead}
use Rattle.lp_parser.specs.Machine.{Before, Head}

abbrev pub phase_of : CodePhase → Phase
phase_of phases.Inherits = Inherits
phase_of phases.Definitions = Definitions

-- the items that were read, and which may come
abbrev pub before_of : CodeBefore → Before
before_of b = record { done = map item_of b.items.items; phase = phase_of b.phase }

-- a function up to its parameters
abbrev pub head_of : CodeHead → Head
head_of h = record { line = h.line; mods = h.mods.items; type_name = h.type_name; name = h.name }
