use Rattle.std.proofs.Common.{◌∙◌, ◌<◌, ◌≤◌, None, arith, length, refl}
use Rattle.lp_calling.specs.declared.job.Search.{Search}
use Rattle.lp_calling.proofs.Audiences.{holds_so}
use Rattle.lp_calling.proofs.Searches.{place_empty, place_searched, poised_at}
use Rattle.lp_calling.proofs.search.enter_place.Goals as goal

pub returns-then-n-len-clause-searches : goal.returns-then-n-len-clause-searches
returns-then-n-len-clause-searches c =
    let k : Search = record { text = c.args.text; objects = c.in_ok-objects.objects; done = c.skip_dead-n.result; around = None } in
    let a = c.args in
    place_searched k a.live.now a.place a.text refl refl (holds_so a.live.now a.place c.in_ok-objects.objects.items (λ lyings shadows h. c.in_ok-objects.ensures.items_if_clones_equal (λ x y e. e) ∙ c.inventory.ensures lyings shadows h))
    c.skip_dead-n.ensures.passed

pub returns-then-n-len-clause-poised : goal.returns-then-n-len-clause-poised
returns-then-n-len-clause-poised c =
    let within : c.skip_dead-n.result < length c.in_ok-objects.objects.items = omega arith in
    let k : Search = record { text = c.args.text; objects = c.in_ok-objects.objects; done = c.skip_dead-n.result; around = None } in
    λ turn.
    poised_at k c.args.live.now c.in_ok-objects.objects.items refl (c.skip_dead-n.ensures.next within)

pub returns-clause-searches : goal.returns-clause-searches
returns-clause-searches c =
    let out : length c.in_ok-objects.objects.items ≤ c.skip_dead-n.result = omega arith in
    let a = c.args in
    place_empty a.live.now a.place a.text c.in_ok-objects.objects.items c.skip_dead-n.result (holds_so a.live.now a.place c.in_ok-objects.objects.items (λ lyings shadows h. c.in_ok-objects.ensures.items_if_clones_equal (λ x y e. e) ∙ c.inventory.ensures lyings shadows h))
    c.skip_dead-n.ensures.passed out
