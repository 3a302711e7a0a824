use Rattle.std.proofs.lemmas.Result.{err_from_is_err_and}
use Rattle.lp_events.specs.declared.item.Item.TheVariants.{File}
use Rattle.lp_workload.specs.Workload.{box_path, box_source, master_path, master_source}
use Rattle.lp_workload.proofs.WritingLemmas.{Writes-last, Writes-stop, Writes-then}
use Rattle.lp_workload.proofs.writing.write_mudlib.Goals as goal

pub returns-in_err-write_made : goal.returns-in_err-write_made
unfolding box_source
returns-in_err-write_made g c =
    let p = err_from_is_err_and c.from_residual-in_err-write_made.result c.from_residual-in_err-write_made.ensures.1 in
    rw (p.1, p.2) (Writes-stop _ _ _ _ _ _ _ _ c.in_ok-write_one.ensures (c.in_err-write_made.ensures (File box_path box_source) c.file.ensures))

pub returns : goal.returns
unfolding box_source master_source
returns g c =
    Writes-then _ _ _ _ _ _ _ c.in_ok-write_one.ensures
    (Writes-last _ _ _ _ _ _ _ (c.in_ok-write_made.ensures (File box_path box_source) c.file.ensures) (c.write_made-2.ensures (File master_path master_source) c.file-2.ensures))
