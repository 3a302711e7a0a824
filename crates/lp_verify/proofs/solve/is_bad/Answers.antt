use Rattle.std.proofs.Common.{ap, refl, not}
use Rattle.lp_verify.specs.Walks.{known_of}
use Rattle.lp_verify.proofs.Looking.{bad_read}
use Rattle.lp_verify.proofs.solve.is_bad.Goals as goal

pub returns-in-Never : goal.returns-in-Never
returns-in-Never c = bad_read c.args.body.now c.args.at c.instr_at-instr.result _ _ _ c.instr_at-instr.ensures.is (ap (known_of c.args.openings.now) c.in-Never.is) (ap not c.stands.ensures)

pub returns-in-Once : goal.returns-in-Once
returns-in-Once c = bad_read c.args.body.now c.args.at c.instr_at-instr.result _ _ _ c.instr_at-instr.ensures.is (ap (known_of c.args.openings.now) c.in-Once.is) (ap not c.holds.ensures)

pub returns-in-Mixed : goal.returns-in-Mixed
returns-in-Mixed c = bad_read c.args.body.now c.args.at c.instr_at-instr.result _ _ _ c.instr_at-instr.ensures.is (ap (known_of c.args.openings.now) c.in-Mixed.is) refl
