use Rattle.std.proofs.Common.{◌≡◌, [], ◌++◌, ap, map, subst, ◌∙◌, append-nil}
use Rattle.std.specs.Prelude.{Err}
use Rattle.std.proofs.lemmas.Result.{err_from_is_err_and}
use Rattle.lp_cells.specs.Cells.{Store}
use Rattle.lp_text.specs.Pieces.{pieces}
use Rattle.lp_save.specs.Desks.{GivesLines, as_line, newline}
use Rattle.lp_save.specs.Reading.{AllLines, lines_from}
use Rattle.lp_save.specs.SaveText.{given}
use Rattle.lp_save.proofs.LineLemmas.{outcome_failed, outcome_given, restores_err}
use Rattle.lp_save.proofs.restore.restored.Goals as goal

pub returns-in_err-lines-clause-restores : goal.returns-in_err-lines-clause-restores
returns-in_err-lines-clause-restores c =
    let old = c.args.cells.now in
    let same : c.add_all.new.self ≡ old = c.in_ok-first.ensures.ok ∙ ap (λ s. old ++ s) c.new.ensures.items ∙ append-nil old in
    let p = err_from_is_err_and c.from_residual-in_err-lines.result c.from_residual-in_err-lines.ensures.1 in
    let e = c.in_err-lines.field-0.0 in
    restores_err c.from_residual-in_err-lines.result e p.0 old c.add_all.new.self _ p.1 p.2
    (outcome_failed e c.args.names.now c.args.bytes.now old c.add_all.new.self same
    (subst (λ (s : Store). GivesLines (Err e) s (lines_from (pieces newline c.args.bytes.now) (record { text = []; shared = []; cells = s }))) same c.in_err-lines.ensures))

pub returns-clause-restores : goal.returns-clause-restores
returns-clause-restores c =
    let old = c.args.cells.now in
    let made = c.in_ok-lines.made.items in
    let ls = map as_line c.in_ok-lines.lines.items in
    let same : c.add_all.new.self ≡ old = c.in_ok-first.ensures.ok ∙ ap (λ s. old ++ s) c.new.ensures.items ∙ append-nil old in
    outcome_given c.args.names.now c.args.bytes.now ls c.in_ok-values.values.items old made c.add_all-2.new.self
    (subst (λ (s : Store). lines_from (pieces newline c.args.bytes.now) (record { text = []; shared = []; cells = s }) ≡ AllLines ls (s ++ made)) same c.in_ok-lines.ensures)
    (c.in_ok-values.ensures ∙ ap (λ ys. given [] c.args.names.now (map as_line ys)) c.as_slice.ensures.value) (c.in_ok-add_all.ensures.ok ∙ ap (λ s. s ++ made) same)
