use Rattle.std.proofs.Common.{[], ◌∷◌, ap, map, refl, subst, sym, ◌∙◌}
use Rattle.std.specs.Prelude.{Err}
use Rattle.std.proofs.lemmas.List.{map-append}
use Rattle.lp_save.specs.Desks.{NextLine, as_line}
use Rattle.lp_save.proofs.LineLemmas.{next_err, next_ok}
use Rattle.lp_save.proofs.restore.read_next.Goals as goal

pub returns-in_ok-push-in-Ok : goal.returns-in_ok-push-in-Ok
returns-in_ok-push-in-Ok c =
    next_ok _ c.args.number c.line_len-end.result c.args.rest.now (map as_line c.args.lines.now.items) (map as_line c.push.new.self.items) c.args.reader.now c.read_bytes.new.reader c.in-Ok.line refl c.line_len-end.ensures c.in-Ok.ensures
    (ap (map as_line) c.in_ok-push-in-Ok.ensures.items ∙ map-append as_line c.args.lines.now.items (c.in-Ok.line ∷ []))

pub returns-in-Err : goal.returns-in-Err
returns-in-Err c =
    let done = map as_line c.args.lines.now.items in
    subst (λ y. NextLine (Err y) c.args.number c.args.rest.now done done c.args.reader.now c.read_bytes.new.reader) (sym c.in_line.ensures)
    (next_err _ c.args.number c.line_len-end.result c.args.rest.now done done c.args.reader.now c.read_bytes.new.reader c.in-Err.fault refl c.line_len-end.ensures c.requires c.in-Err.ensures)
