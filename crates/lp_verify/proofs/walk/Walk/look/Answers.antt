use Rattle.lp_verify.proofs.Looking.{look_may, look_on, look_off}
use Rattle.lp_verify.proofs.walk.Walk.look.Goals as goal

pub lead_all-requires-clause-held : goal.lead_all-requires-clause-held
lead_all-requires-clause-held c = look_may c.args.body.now c.args.at _ c.instr_at-instr.result c.describe.result c.goes_on.result c.goes_on.ensures c.if-goes_on.true c.describe.ensures

pub returns-in_ok-lead_all : goal.returns-in_ok-lead_all
returns-in_ok-lead_all c = look_on c.args.body.now c.args.at c.index-known.result.now c.instr_at-instr.result c.describe.result c.goes_on.result c.args.self.now c.lead_all.new.self c.requires.inside c.requires.size c.index-known.ensures c.instr_at-instr.ensures.is c.goes_on.ensures c.if-goes_on.true c.describe.ensures c.in_ok-lead_all.ensures

pub returns-else-goes_on : goal.returns-else-goes_on
returns-else-goes_on c = look_off c.args.body.now c.args.at c.index-known.result.now c.instr_at-instr.result c.goes_on.result c.args.self.now c.requires.inside c.requires.size c.index-known.ensures c.instr_at-instr.ensures.is c.goes_on.ensures c.if-goes_on.false c.requires.walk
