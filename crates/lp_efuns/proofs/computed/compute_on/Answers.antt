use Rattle.lp_meaning.specs.ComputingEfuns.{computes}
use Rattle.lp_meaning.specs.EfunArguments.{opened_args}
use Rattle.lp_world.specs.Rows.{live_in}
use Rattle.lp_efuns.specs.Names.{name_at}
use Rattle.lp_efuns.proofs.Acted.{computed_ok}
use Rattle.lp_efuns.proofs.computed.compute_on.Goals as goal

pub returns-clause-carries : goal.returns-clause-carries
returns-clause-carries c =
    computed_ok c.did_of.result (live_in c.args.objects.now) (name_at c.args.names.now) c.args.cells.now c.compute-answer.new.cells c.args.efun c.args.args.now
    (λ s l n k. c.did_of.ensures.carries (computes c.args.efun s c.args.args.now (opened_args s c.args.args.now)) c.args.cells.now c.compute-answer.new.cells (c.compute-answer.ensures.value s l n k))

pub returns-clause-there : goal.returns-clause-there
returns-clause-there c = c.did_of.ensures.there c.compute-answer.new.cells c.compute-answer.ensures.closed.1
