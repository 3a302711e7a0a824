use Rattle.lp_top.proofs.Serving.{done-files, done-kind, done-order, done-output, done-serves, done-swap, done-wire, ended-files, ended-kind, ended-not-done, ended-order, ended-output, ended-serves, ended-swap, ended-wire}
use Rattle.lp_top.proofs.serve.serve.Goals as goal

pub returns-in-Done-clause-serves : goal.returns-in-Done-clause-serves
returns-in-Done-clause-serves g c = done-serves c.hand_on.result c.host.result _ _ c.args.serving.now c.keeps_of.result _ _ _ _ _ _ _ _ _ _ c.in-Done.is c.hand_on.ensures.ends c.hand_on.ensures.kept c.keeps_of.ensures c.host.ensures.hosts

pub returns-in-Done-clause-kind : goal.returns-in-Done-clause-kind
returns-in-Done-clause-kind g c = done-kind c.hand_on.result _ _ c.hand_on.ensures.ends

pub returns-in-Done-clause-output_cause : goal.returns-in-Done-clause-output_cause
returns-in-Done-clause-output_cause g c = done-output c.hand_on.result c.host.result _ _ _ _ _ _ c.in-Done.is c.host.ensures.output_fault c.hand_on.ensures.ends

pub returns-in-Done-clause-files_cause : goal.returns-in-Done-clause-files_cause
returns-in-Done-clause-files_cause g c = done-files c.hand_on.result _ _ _ _ c.hand_on.ensures.ends

pub returns-in-Done-clause-wire_cause : goal.returns-in-Done-clause-wire_cause
returns-in-Done-clause-wire_cause g c = done-wire c.hand_on.result c.host.result _ _ _ _ c.in-Done.is c.host.ensures.wire_fault c.hand_on.ensures.ends

pub returns-in-Done-clause-swap : goal.returns-in-Done-clause-swap
returns-in-Done-clause-swap g c = done-swap c.hand_on.result c.host.result _ _ _ _ _ _ _ _ _ _ c.in-Done.is c.hand_on.ensures.ends c.host.ensures.swap_fault

pub returns-in-Done-clause-complete : goal.returns-in-Done-clause-complete
returns-in-Done-clause-complete g c = λ n. done-order c.hand_on.result c.host.result _ _ _ _ _ c.in-Done.is c.host.ensures.output_fault c.hand_on.ensures.ends n.output

pub returns-in_default-clause-serves : goal.returns-in_default-clause-serves
returns-in_default-clause-serves g c = ended-serves c.status_of.result c.host.result c.args.serving.now c.keeps_of.result _ _ _ _ _ _ _ _ c.status_of.ensures c.keeps_of.ensures c.host.ensures.hosts c.host.ensures.no_master

pub returns-in_default-clause-kind : goal.returns-in_default-clause-kind
returns-in_default-clause-kind g c = ended-kind c.status_of.result c.host.result c.status_of.ensures

pub returns-in_default-clause-passed : goal.returns-in_default-clause-passed
returns-in_default-clause-passed g c = λ e. absurd (ended-not-done c.status_of.result c.host.result c.status_of.ensures c.in_default.not-Done e)

pub returns-in_default-clause-output_cause : goal.returns-in_default-clause-output_cause
returns-in_default-clause-output_cause g c = ended-output c.status_of.result c.host.result _ _ _ _ c.status_of.ensures c.host.ensures.output_fault

pub returns-in_default-clause-files_cause : goal.returns-in_default-clause-files_cause
returns-in_default-clause-files_cause g c = ended-files c.status_of.result c.host.result _ _ c.status_of.ensures c.host.ensures.files_fault

pub returns-in_default-clause-wire_cause : goal.returns-in_default-clause-wire_cause
returns-in_default-clause-wire_cause g c = ended-wire c.status_of.result c.host.result _ _ c.status_of.ensures c.host.ensures.wire_fault

pub returns-in_default-clause-swap : goal.returns-in_default-clause-swap
returns-in_default-clause-swap g c = ended-swap c.status_of.result c.host.result _ _ _ _ _ _ _ _ c.status_of.ensures c.host.ensures.swap_fault

pub returns-in_default-clause-complete : goal.returns-in_default-clause-complete
returns-in_default-clause-complete g c = λ n. ended-order c.status_of.result c.host.result c.status_of.ensures (c.host.ensures.complete n)
