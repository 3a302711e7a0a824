use Rattle.lp_front.specs.Names.{parents_in}
use Rattle.lp_front.specs.Reading.{items_of}
use Rattle.lp_loading.specs.Lines.{first_of}
use Rattle.lp_loading.proofs.FirstLines.{line_found}
use Rattle.lp_loading.proofs.SeenNames.{if_ok}
use Rattle.lp_loading.proofs.lines.parent_line.Goals as goal

pub returns-in-Ok-clause-line : goal.returns-in-Ok-clause-line
returns-in-Ok-clause-line c =
    if_ok c.line_of.result _ _
    (λ line e.
    let f = line_found (first_of c.args.file.now (parents_in (items_of c.in-Ok.d))) line e in
    record { items = items_of c.in-Ok.d; pragmas = c.in-Ok.d.pragmas; declares = c.in-Ok.ensures.read; parent = f.0; first = f.1; line_is = f.2 })
    c.line_of.ensures.line
