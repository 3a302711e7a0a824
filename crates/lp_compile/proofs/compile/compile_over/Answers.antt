use Rattle.lp_compile.proofs.Making.{made_over}
use Rattle.lp_compile.proofs.Settling.{settled}
use Rattle.lp_compile.proofs.compile.compile_over.Goals as goal

pub returns-in_ok-program-in-Ok-clause-program : goal.returns-in_ok-program-in-Ok-clause-program
returns-in_ok-program-in-Ok-clause-program c =
    made_over c.args.path.now c.args.declared.now c.args.own c.args.parents.now c.args.simuls.now c.in-Ok.tables c.in_ok-program-in-Ok.program c.requires.spelled c.requires.tokens c.requires.each c.requires.of c.in-Ok.ensures.tables c.in-Ok.ensures.inside c.in_ok-program-in-Ok.ensures.program

pub make-requires : goal.make-requires
make-requires c =
    record { settled = settled c.args.path.now c.args.declared.now c.args.own c.args.parents.now c.args.simuls.now c.in-Ok.tables c.requires.tokens c.requires.each c.requires.of c.in-Ok.ensures.tables }
