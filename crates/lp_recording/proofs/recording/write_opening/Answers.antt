use Rattle.std.proofs.lemmas.Result.{err_from_is_err_and}
use Rattle.lp_script.proofs.BlockLemmas.{second_of_three, all_of_three}
use Rattle.lp_recording.specs.Recorded.{files_in}
use Rattle.lp_recording.proofs.Parts.{opening_parts}
use Rattle.lp_recording.proofs.recording.write_opening.Goals as goal

pub returns-in_err-put_files : goal.returns-in_err-put_files
returns-in_err-put_files g c =
    let p = err_from_is_err_and c.from_residual-in_err-put_files.result c.from_residual-in_err-put_files.ensures.1 in
    rw (p.1, p.2) (second_of_three _ _ _ _ _ _ _ _ (opening_parts c.args.seed c.args.moment (files_in c.args.files.now)) c.in_ok-put_item.ensures c.in_err-put_files.ensures)

pub returns : goal.returns
returns g c = all_of_three _ _ _ _ _ _ _ _ _ (opening_parts c.args.seed c.args.moment (files_in c.args.files.now)) c.in_ok-put_item.ensures c.in_ok-put_files.ensures c.put_item-2.ensures
