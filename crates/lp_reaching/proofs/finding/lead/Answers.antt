use Rattle.std.proofs.Common.{subst}
use Rattle.lp_targets.proofs.Memory.{object_still}
use Rattle.lp_reaching.specs.Reaching.{AsksInside}
use Rattle.lp_reaching.proofs.Leads.{asks_now, inside_if, to_parent_if}
use Rattle.lp_reaching.proofs.finding.lead.Goals as goal

pub returns-in-Internal-clause-stands : goal.returns-in-Internal-clause-stands
returns-in-Internal-clause-stands g c = λ t programs asker a asks w.
    c.internal_target.ensures.stands t programs a.world w (asks_now programs asker c.args.this c.args.part c.args.code.now c.args.question a asks)

pub returns-in-Internal-clause-leads : goal.returns-in-Internal-clause-leads
returns-in-Internal-clause-leads g c = λ t programs asker a asks w.
    inside_if programs c.internal_target.new.live.objects asker c.args.this c.args.part c.args.code.now c.in-Internal.slot a c.internal_target.result
    (subst (λ q. AsksInside programs asker c.args.this c.args.part c.args.code.now q a) c.in-Internal.is asks)
    (object_still c.args.live.now c.internal_target.new.live c.args.this.0 c.internal_target.ensures.brings.stays c.requires.object)
    (λ name e. c.internal_target.ensures.found t programs a.world name w (asks_now programs asker c.args.this c.args.part c.args.code.now c.args.question a asks) e)

pub returns-in-Parent-clause-stands : goal.returns-in-Parent-clause-stands
returns-in-Parent-clause-stands g c = λ t programs asker a asks w. record { stands = c.parent_target.ensures.stands t programs a.world w.stands; compiled = w.compiled; shadows = w.shadows }

pub returns-in-Parent-clause-leads : goal.returns-in-Parent-clause-leads
returns-in-Parent-clause-leads g c = λ t programs asker a asks w.
    to_parent_if programs c.parent_target.new.live.objects asker c.args.this c.args.part c.args.code.now c.in-Parent.parent c.in-Parent.slot a c.parent_target.result (g.W.SwapFile.content c.args.swap.now) c.args.live.now w
    (subst (λ q. AsksInside programs asker c.args.this c.args.part c.args.code.now q a) c.in-Parent.is asks)
    (object_still c.args.live.now c.parent_target.new.live c.args.this.0 c.parent_target.ensures.brings.stays c.requires.object)
    (λ name who e. c.parent_target.ensures.found t programs a.world name w who e)
