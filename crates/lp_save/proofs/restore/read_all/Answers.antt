use Rattle.lp_text.specs.Pieces.{pieces}
use Rattle.lp_save.specs.Desks.{newline}
use Rattle.lp_save.proofs.LineLemmas.{all_given}
use Rattle.lp_save.proofs.restore.read_all.Goals as goal

pub returns : goal.returns
returns c =
    all_given (c.in_ok-lines.lines, c.into_made.result) c.args.cells.now c.new-reader.result c.read_lines.new.reader c.new-reader.ensures c.into_made.ensures (pieces newline c.args.bytes.now) c.in_ok-lines.ensures
