use Rattle.std.proofs.Common.{map, ◌∙◌}
use Rattle.lp_save.specs.Desks.{as_line}
use Rattle.lp_save.proofs.LineLemmas.{lines_end}
use Rattle.lp_save.proofs.restore.read_lines.Goals as goal

pub returns : goal.returns
returns c =
    (c.loop-at.invariant.so_far ∙ lines_end c.loop-at.number (map as_line c.loop-at.lines.items) c.args.bytes.now c.loop-at.at c.loop-at.reader c.loop-at-test.false, c.loop-at.invariant.base)
