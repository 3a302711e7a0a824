use Rattle.lp_making.proofs.Reloaded.{closed_with_store, on_err, reload_stands, same_files}
use Rattle.lp_making.proofs.files.reload.Goals as goal

pub destruct_if-requires : goal.destruct_if-requires
destruct_if-requires c = record { closed = closed_with_store c.args.live.now c.write.new.self c.requires.closed }

pub returns-clause-stands : goal.returns-clause-stands
returns-clause-stands c =
    reload_stands c.args.live.now c.destruct_if.new.live c.write.new.self c.args.path.now c.args.bytes.now c.blueprint_of-found.result c.destruct_if.result c.in_ok-write.ensures.files
    (λ told programs w h. c.blueprint_of-found.ensures w h.names) c.destruct_if.ensures.stands

pub returns-in_err-write-clause-refused : goal.returns-in_err-write-clause-refused
returns-in_err-write-clause-refused c = on_err c.from_residual.result _ (same_files c.args.live.now c.write.new.self c.in_err-write.ensures.err)

pub returns-in_err-write-clause-closed : goal.returns-in_err-write-clause-closed
returns-in_err-write-clause-closed c = closed_with_store c.args.live.now c.write.new.self c.requires.closed
