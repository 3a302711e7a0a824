use Rattle.lp_devices.proofs.Telling.{err_then, nothing_changed}
use Rattle.lp_devices.proofs.folder.TestFolderFiles.remove.Goals as goal

pub returns-in-Ok-clause-err : goal.returns-in-Ok-clause-err
returns-in-Ok-clause-err c = err_then c.remove.result _ _
    (λ kept. nothing_changed c.args.path.now c.args.self.now.tells c.begin_call.new.self.tells c.args.self.now.memory c.begin_call.new.self.memory c.remove.new.self c.begin_call.ensures.tells c.begin_call.ensures.same kept)
    c.remove.ensures.err
