use Rattle.std.proofs.Common.{◌∙◌, sym, refl}
use Rattle.std.proofs.lemmas.Result.{err_from_is_err_and}
use Rattle.lp_script.proofs.BlockLemmas.{run_wrote, run_failed, empty_wrote, alone_wrote, alone_failed, rest_from, is_some, is_none, run_few, no_text}
use Rattle.lp_script.proofs.block.put_first.Goals as goal

pub returns-in_err-put_run-in-Text : goal.returns-in_err-put_run-in-Text
returns-in_err-put_run-in-Text g c =
    let p = err_from_is_err_and c.from_residual.result c.from_residual.ensures.1 in
    rw (p.1, p.2) (run_failed _ _ _ c.args.outs.now c.in-Text.k c.in-Text.text _ c.run_len-taken.result _ _ c.requires.some (sym c.index-outs-0.is ∙ c.in-Text.is)
    (is_some _ _ _ c.as_slice.ensures c.is_empty.ensures c.if-not-is_empty.true) (rest_from 1 c.args.outs.now) c.run_len-taken.ensures refl c.in_err-put_run-in-Text.ensures)

pub returns-in_ok-put_run-in-Text : goal.returns-in_ok-put_run-in-Text
returns-in_ok-put_run-in-Text g c =
    run_wrote _ _ c.args.outs.now c.in-Text.k c.in-Text.text _ c.run_len-taken.result _ _ c.requires.some (sym c.index-outs-0.is ∙ c.in-Text.is)
    (is_some _ _ _ c.as_slice.ensures c.is_empty.ensures c.if-not-is_empty.true) (rest_from 1 c.args.outs.now) c.run_len-taken.ensures (run_few _ _ _ c.args.outs.now c.run_len-taken.ensures (rest_from 1 c.args.outs.now) c.requires.some) refl c.in_ok-put_run-in-Text.ensures

pub returns-in-Text-2 : goal.returns-in-Text-2
returns-in-Text-2 g c = empty_wrote _ c.args.outs.now c.in-Text.k c.in-Text.text _ c.requires.some (sym c.index-outs-0.is ∙ c.in-Text.is) (is_none _ _ _ c.as_slice.ensures c.is_empty.ensures c.if-not-is_empty.false)

pub returns-in_ok-put_alone-in-Hide : goal.returns-in_ok-put_alone-in-Hide
returns-in_ok-put_alone-in-Hide g c = alone_wrote _ _ c.args.outs.now c.index-outs-0.result _ c.requires.some c.index-outs-0.is (no_text _ c.in-Hide.is) c.in_ok-put_alone-in-Hide.ensures

pub returns-in_err-put_alone-in-Hide : goal.returns-in_err-put_alone-in-Hide
returns-in_err-put_alone-in-Hide g c =
    let p = err_from_is_err_and c.from_residual-in_err-put_alone-in-Hide.result c.from_residual-in_err-put_alone-in-Hide.ensures.1 in
    rw (p.1, p.2) (alone_failed _ _ _ c.args.outs.now c.index-outs-0.result _ c.requires.some c.index-outs-0.is (no_text _ c.in-Hide.is) c.in_err-put_alone-in-Hide.ensures)
