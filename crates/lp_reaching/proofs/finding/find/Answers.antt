use Rattle.std.proofs.Common.{None}
use Rattle.lp_targets.proofs.Memory.{brings_err, stays_more}
use Rattle.lp_reaching.specs.Reaching.{AsksInside}
use Rattle.lp_reaching.proofs.Leads.{found_then}
use Rattle.lp_reaching.proofs.Memory.{brings_then, cells_still, home_still, outputs_still}
use Rattle.lp_reaching.proofs.finding.find.Goals as goal

pub bring_found-requires-clause-can : goal.bring_found-requires-clause-can
bring_found-requires-clause-can g c = λ t.
    let k = c.requires.can in
    record { programs = k.programs; asker = k.asker; ask = k.ask; leads = c.in-Ok.ensures.leads t k.programs k.asker k.ask k.asks k.world; world = c.in-Ok.ensures.stands t k.programs k.asker k.ask k.asks k.world }

pub returns-in-Ok-clause-found : goal.returns-in-Ok-clause-found
returns-in-Ok-clause-found g c =
    found_then (g.W.SwapFile.content c.args.swap.now) (g.W.SwapFile.content c.lead.new.swap) (g.W.SwapFile.content c.bring_found.new.swap) (g.W.SwapFile.is_truthful c.lead.new.swap) (g.W.SwapFile.is_truthful c.bring_found.new.swap)
    c.args.live.now c.lead.new.live c.bring_found.new.live None c.in-Ok.callee c.bring_found.result (λ programs asker a. AsksInside programs asker c.args.this c.args.part c.args.code.now c.args.question a)
    c.in-Ok.ensures.stands c.in-Ok.ensures.leads c.bring_found.ensures.brings.truthful c.bring_found.ensures.truthful c.bring_found.ensures.found

pub returns-in-Ok-clause-brings : goal.returns-in-Ok-clause-brings
returns-in-Ok-clause-brings g c =
    let k = c.requires.can in
    brings_then c.in-Ok.ensures.brings (λ t. record { programs = k.programs; world = k.ask.world; stands = (c.in-Ok.ensures.stands t k.programs k.asker k.ask k.asks k.world).stands }) c.bring_found.ensures.brings

pub returns-in-Err-clause-brings : goal.returns-in-Err-clause-brings
returns-in-Err-clause-brings g c = brings_err c.in-Err.ensures.brings

pub returns-in-Ok-clause-home : goal.returns-in-Ok-clause-home
returns-in-Ok-clause-home g c = home_still c.args.live.now c.bring_found.new.live (stays_more c.args.live.now c.lead.new.live c.bring_found.new.live c.in-Ok.ensures.brings.stays c.bring_found.ensures.brings.stays)

pub returns-in-Ok-clause-cells : goal.returns-in-Ok-clause-cells
returns-in-Ok-clause-cells g c = cells_still c.args.live.now c.bring_found.new.live (stays_more c.args.live.now c.lead.new.live c.bring_found.new.live c.in-Ok.ensures.brings.stays c.bring_found.ensures.brings.stays)

pub returns-in-Ok-clause-outputs : goal.returns-in-Ok-clause-outputs
returns-in-Ok-clause-outputs g c = outputs_still c.args.live.now c.bring_found.new.live (stays_more c.args.live.now c.lead.new.live c.bring_found.new.live c.in-Ok.ensures.brings.stays c.bring_found.ensures.brings.stays)

pub returns-in-Err-clause-home : goal.returns-in-Err-clause-home
returns-in-Err-clause-home g c = home_still c.args.live.now c.lead.new.live c.in-Err.ensures.brings.stays

pub returns-in-Err-clause-cells : goal.returns-in-Err-clause-cells
returns-in-Err-clause-cells g c = cells_still c.args.live.now c.lead.new.live c.in-Err.ensures.brings.stays

pub returns-in-Err-clause-outputs : goal.returns-in-Err-clause-outputs
returns-in-Err-clause-outputs g c = outputs_still c.args.live.now c.lead.new.live c.in-Err.ensures.brings.stays
