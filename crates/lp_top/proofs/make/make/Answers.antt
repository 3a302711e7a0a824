use Rattle.std.proofs.Common.{inl, inr, subst}
use Rattle.lp_io.specs.Counts.{Counts}
use Rattle.lp_workload.specs.Writes.{is_failure, is_zero}
use Rattle.lp_top.proofs.Making.{makes_cut, makes_no_memory}
use Rattle.lp_top.proofs.make.make.Goals as goal

pub returns-in-Err-NoMemory-clause-makes : goal.returns-in-Err-NoMemory-clause-makes
returns-in-Err-NoMemory-clause-makes g c = makes_no_memory c.args.count c.args.seed _ _ c.in-Err-NoMemory.ensures.cut

pub returns-in-Err-Failed-clause-makes : goal.returns-in-Err-Failed-clause-makes
returns-in-Err-Failed-clause-makes g c = makes_cut c.args.count c.args.seed _ _ c.in-Err-Failed.ensures.cut

pub returns-in-Err-Failed-clause-output_cause : goal.returns-in-Err-Failed-clause-output_cause
returns-in-Err-Failed-clause-output_cause g c = λ e. inl (subst (λ f. Counts (is_failure f) (g.K.Sink.faults c.args.out.now) (g.K.Sink.faults c.write_workload.new.out)) c.in-Err-Failed.field-0-is c.in-Err-Failed.ensures.faults)

pub returns-in-Err-ZeroTaken-clause-makes : goal.returns-in-Err-ZeroTaken-clause-makes
returns-in-Err-ZeroTaken-clause-makes g c = makes_cut c.args.count c.args.seed _ _ c.in-Err-ZeroTaken.ensures.cut

pub returns-in-Err-ZeroTaken-clause-output_cause : goal.returns-in-Err-ZeroTaken-clause-output_cause
returns-in-Err-ZeroTaken-clause-output_cause g c = λ e. inr (subst (λ f. Counts (is_zero f) (g.K.Sink.zeros c.args.out.now) (g.K.Sink.zeros c.write_workload.new.out)) c.in-Err-ZeroTaken.field-0-is c.in-Err-ZeroTaken.ensures.zeros)
