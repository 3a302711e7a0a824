use Rattle.lp_parser.specs.Theorem.{sight}
use Rattle.lp_compile.proofs.Making.{compiles}
use Rattle.lp_compile.proofs.compile.compile.Goals as goal

pub returns-in_ok-program-in-Ok-clause-program : goal.returns-in_ok-program-in-Ok-clause-program
returns-in_ok-program-in-Ok-clause-program g c =
    compiles c.args.files.now c.args.path.now c.in-Ok.declared c.args.own (g.L.Loaded.known c.args.loaded.now) (g.L.Loaded.simuls c.args.loaded.now) c.in_ok-program-in-Ok.program c.in-Ok.ensures.read c.in_ok-program-in-Ok.ensures.program

pub compile_declared-requires : goal.compile_declared-requires
compile_declared-requires g c =
    record { spelled = c.in-Ok.ensures.spelled; tokens = record { tokens = sight c.in-Ok.ensures.read.tokens; spelled = c.in-Ok.ensures.read.spelled } }
