use Rattle.lp_verify.proofs.Walking.{moves_none}
use Rattle.lp_verify.proofs.Leading.{ready_then, case_may_at, case_then_at, cases_all}
use Rattle.lp_verify.proofs.walk.Walk.lead_cases.Goals as goal

pub loop-case-init : goal.loop-case-init
loop-case-init c = moves_none c.args.self.now c.requires.ready.walk

pub lead-requires-clause-ready : goal.lead-requires-clause-ready
lead-requires-clause-ready c = ready_then c.args.body.now c.args.self.now c.loop-case.self c.args.known _ c.requires.ready c.loop-case.invariant

pub lead-requires-clause-held : goal.lead-requires-clause-held
lead-requires-clause-held c = case_may_at c.args.body.now c.args.at c.args.known c.args.effect c.args.cases.now c.loop-case.case-index _ c.case_exit.result c.args.self.now c.loop-case.self _ c.requires.ready c.loop-case.invariant c.loop-case-test.true c.case_exit.ensures c.requires.held

pub loop-case-preserved : goal.loop-case-preserved
loop-case-preserved c = case_then_at c.args.body.now c.args.at c.args.known c.args.effect c.args.cases.now c.loop-case.case-index _ c.case_exit.result c.args.self.now c.loop-case.self c.lead.new.self c.requires.ready c.loop-case-test.true c.case_exit.ensures c.loop-case.invariant c.in_ok-lead.ensures

pub returns : goal.returns
returns c = cases_all c.args.body.now c.args.at _ c.args.effect c.args.cases.now c.loop-case.case-index c.args.self.now c.loop-case.self c.loop-case-test.false c.loop-case.invariant
