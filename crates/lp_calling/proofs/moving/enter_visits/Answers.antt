use Rattle.std.proofs.Common.{◌<◌, ◌≤◌, length, rules}
use Rattle.lp_calling.proofs.Visits.{visits_advance, visits_over, visits_poised}
use Rattle.lp_calling.proofs.moving.enter_visits.Goals as goal

pub returns-then-at-len-clause-advances : goal.returns-then-at-len-clause-advances
returns-then-at-len-clause-advances c =
    let a = c.args in
    let over : length a.visits.calls.items ≤ c.next_made-at.result = search rules in
    visits_over a.visits a.live.now a.turn.now c.next_made-at.result c.next_made-at.ensures.passes over

pub returns-clause-advances : goal.returns-clause-advances
returns-clause-advances c =
    let a = c.args in
    visits_advance a.visits a.live.now a.turn.now c.next_made-at.result a.turn.now.player c.next_made-at.ensures.passes

pub returns-clause-poised : goal.returns-clause-poised
returns-clause-poised c =
    let a = c.args in
    let inside : c.next_made-at.result < length a.visits.calls.items = search rules in
    visits_poised a.visits a.live.now a.turn.now c.next_made-at.result inside c.next_made-at.ensures.made
