use Rattle.std.proofs.Common.{◌<◌, length, arith}
use Rattle.lp_check.specs.Report.{load_faults}
use Rattle.lp_loads.specs.Loads.{load_of}
use Rattle.lp_suite.proofs.Told.{faulty_load}
use Rattle.lp_suite.proofs.suite.add_file.Goals as goal

pub returns-then-faults_of-gt0 : goal.returns-then-faults_of-gt0
returns-then-faults_of-gt0 c = λ ls k.
    let e = c.faults_of.ensures ls k in
    let some : 0 < length (load_faults (load_of ls c.args.path.now)) = omega arith in
    faulty_load c.add_faulty.result c.args.files.now ls c.args.path.now c.args.entries.now.items c.add_faulty.new.entries.items some c.add_faulty.ensures
