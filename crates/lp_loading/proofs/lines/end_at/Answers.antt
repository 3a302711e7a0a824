use Rattle.lp_loading.proofs.FilesRead.{if_ok_on}
use Rattle.lp_loading.proofs.FirstLines.{too_far_goes}
use Rattle.lp_loading.proofs.lines.end_at.Goals as goal

pub returns-clause-goes : goal.returns-clause-goes
returns-clause-goes c =
    if_ok_on c.end_faulty.result _ _ _
    (λ r q e. λ job loads told0 live0 told1 budget turn n h far.
    too_far_goes c.law_missing_goes_on.ensures c.law_names_have_files.ensures c.law_files_are_of_names.ensures c.law_stores_are_read.ensures c.in_ok-faults.faults c.args.kind c.args.name.now c.args.file.now c.args.line job loads told0 live0 told1
    c.args.live.now c.end_faulty.new.live budget turn r c.in_ok-faults.ensures n c.requires.line e q h far)
    c.end_faulty.ensures.ends c.end_faulty.ensures.logs
