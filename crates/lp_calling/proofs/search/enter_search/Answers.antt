use Rattle.std.proofs.Common.{◌<◌, ◌≤◌, arith, length, refl}
use Rattle.std.proofs.lemmas.Result.{IfOk-weaker}
use Rattle.lp_calling.specs.declared.job.Search.{Search}
use Rattle.lp_calling.specs.Jobs.{left_around, stage_left}
use Rattle.lp_calling.proofs.Searches.{advances_around, advances_to, poised_at}
use Rattle.lp_calling.proofs.search.enter_search.Goals as goal

pub returns-then-n-len-clause-advances : goal.returns-then-n-len-clause-advances
returns-then-n-len-clause-advances c = λ turn.
    advances_to c.args.search c.args.live.now turn c.skip_dead-n.result c.skip_dead-n.ensures.passed

pub returns-then-n-len-clause-poised : goal.returns-then-n-len-clause-poised
returns-then-n-len-clause-poised c =
    let within : c.skip_dead-n.result < length c.args.search.objects.items = omega arith in
    let k : Search = record c.args.search { done = c.skip_dead-n.result } in
    λ turn.
    poised_at k c.args.live.now c.args.search.objects.items refl (c.skip_dead-n.ensures.next within)

pub returns-clause-advances : goal.returns-clause-advances
returns-clause-advances c =
    let out : length c.args.search.objects.items ≤ c.skip_dead-n.result = omega arith in
    IfOk-weaker c.enter_around.result _ _
    (λ t k. λ turn. advances_around c.args.search c.args.live.now turn c.skip_dead-n.result t c.skip_dead-n.ensures.passed out k) c.enter_around.ensures.searches

pub returns-clause-left : goal.returns-clause-left
returns-clause-left c = IfOk-weaker c.enter_around.result (λ t. stage_left t ≤ left_around c.args.search.around) _ (λ t k. omega (arith, k)) c.enter_around.ensures.left
