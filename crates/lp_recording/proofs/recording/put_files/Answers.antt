use Rattle.std.proofs.Common.{◌∙◌, ap}
use Rattle.std.proofs.lemmas.Result.{err_from_is_err_and}
use Rattle.lp_events.specs.Script.{spelling}
use Rattle.lp_folder.specs.declared.outside.Loaded.{Loaded}
use Rattle.lp_wire.specs.Record.{file_item}
use Rattle.lp_recording.specs.Recorded.{file_in}
use Rattle.lp_script.proofs.PutLemmas.{Puts-none}
use Rattle.lp_recording.proofs.Each.{file_bytes, files_joined, one_file, each_next, each_stop, each_all}
use Rattle.lp_recording.proofs.recording.put_files.Goals as goal

pub loop-file-init : goal.loop-file-init
loop-file-init g c = Puts-none _

pub returns-in_err-put_file : goal.returns-in_err-put_file
returns-in_err-put_file g c =
    let p = err_from_is_err_and c.from_residual.result c.from_residual.ensures.1 in
    rw (p.1, p.2) (each_stop file_bytes files_joined _ _ _ _ c.args.files.now c.loop-file.file-index _ _ c.loop-file-test.true (ap (λ (f : Loaded). spelling (file_item (file_in f))) c.file-item.is ∙ one_file _) c.loop-file.invariant c.in_err-put_file.ensures)

pub loop-file-preserved : goal.loop-file-preserved
loop-file-preserved g c = each_next file_bytes files_joined _ _ _ c.args.files.now c.loop-file.file-index _ _ c.loop-file-test.true (ap (λ (f : Loaded). spelling (file_item (file_in f))) c.file-item.is ∙ one_file _) c.loop-file.invariant c.in_ok-put_file.ensures

pub returns : goal.returns
returns g c = each_all file_bytes _ _ _ _ c.loop-file-test.false c.loop-file.invariant
