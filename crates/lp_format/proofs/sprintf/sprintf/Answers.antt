use Rattle.std.proofs.Common.{◌∙◌, ap}
use Rattle.std.proofs.lemmas.Result.{err_from_is_err_and}
use Rattle.lp_format.specs.Forms.{piece, piece_len}
use Rattle.lp_format.specs.Spelled.{spelled}
use Rattle.lp_format.proofs.FormLemmas.{ends, goes_on}
use Rattle.lp_format.proofs.sprintf.sprintf.Goals as goal

pub returns-in_err-write_piece : goal.returns-in_err-write_piece
returns-in_err-write_piece g c =
    let p = err_from_is_err_and c.from_residual.result c.from_residual.ensures.1 in
    let live = g.L.Living.live c.args.names.now in
    let spell = spelled live (g.L.Names.name c.args.names.now) c.args.cells.now in
    rw (p.1, p.2) (ends live spell c.args.args.now c.args.form.now c.loop-at.at c.loop-at.used c.first_piece.result c.loop-at.out c.write_piece.new.out _ c.in_err-write_piece.field-0.0 c.loop-at-test.true c.loop-at.invariant (c.first_piece.ensures ∙ ap piece c.rest_of-rest.ensures) c.in_err-write_piece.ensures.text)

pub loop-at-preserved : goal.loop-at-preserved
loop-at-preserved g c =
    let live = g.L.Living.live c.args.names.now in
    let spell = spelled live (g.L.Names.name c.args.names.now) c.args.cells.now in
    goes_on live spell c.args.args.now c.args.form.now c.loop-at.at c.loop-at.used c.piece_len.result c.write_piece.new.used c.first_piece.result c.loop-at.out c.write_piece.new.out _ c.loop-at-test.true c.loop-at.invariant (c.first_piece.ensures ∙ ap piece c.rest_of-rest.ensures) (c.piece_len.ensures.value ∙ ap piece_len c.rest_of-rest.ensures) c.in_ok-write_piece.ensures.used c.in_ok-write_piece.ensures.text
