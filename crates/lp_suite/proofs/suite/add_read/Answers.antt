use Rattle.std.proofs.Common.{subst}
use Rattle.lp_front.specs.Reading.{IsWhy, items_of}
use Rattle.lp_suite.proofs.Told.{faulty_text, sound_file}
use Rattle.lp_suite.proofs.suite.add_read.Goals as goal

pub returns-in-Ok : goal.returns-in-Ok
returns-in-Ok c = λ ls n.
    sound_file c.add_declared.result c.args.files.now ls c.args.path.now (items_of c.in-Ok.declared) c.in-Ok.declared.pragmas c.args.entries.now.items c.add_declared.new.entries.items n c.in-Ok.ensures.read c.add_declared.ensures

pub returns-in-Err-At : goal.returns-in-Err-At
returns-in-Err-At c = λ ls n.
    faulty_text c.add_faulty.result c.args.files.now ls c.args.path.now c.in-Err-At.field-0-0 c.args.entries.now.items c.add_faulty.new.entries.items
    (subst (IsWhy c.args.files.now c.args.path.now) c.in-Err-At.field-0-is c.in-Err-At.ensures.fault) c.add_faulty.ensures
