use Rattle.std.proofs.Common.{◌≡◌, ◌-◌, drop, length}
use Rattle.lp_format.specs.Forms.{pieces, pieces_after}
use Rattle.lp_format.specs.Formatted.{formatted, formatted_after}
use Rattle.lp_format.specs.Spelled.{spelled}
use Rattle.lp_format.proofs.sprintf.sprintf.Given as goal

abbrev pub invariant-loop-at : goal.invariant-loop-at
invariant-loop-at g l = formatted (g.L.Living.live l.names) (spelled (g.L.Living.live l.names) (g.L.Names.name l.names) l.cells) l.args (pieces l.form) ≡ formatted_after (g.L.Living.live l.names) (spelled (g.L.Living.live l.names) (g.L.Names.name l.names) l.cells) l.args l.out l.used (pieces_after l.at 0 (drop l.at l.form))

abbrev pub decreases-loop-at : goal.decreases-loop-at
decreases-loop-at g l = length l.form - l.at
