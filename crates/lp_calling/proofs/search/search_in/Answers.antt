use Rattle.std.proofs.Common.{◌∙◌, refl}
use Rattle.lp_calling.proofs.Audiences.{holds_so}
use Rattle.lp_calling.proofs.search.search_in.Goals as goal

pub returns : goal.returns
returns c = record {
  same_text = refl;
  same_around = refl;
  objects = holds_so c.args.live.now c.args.place c.in_ok-objects.objects.items (λ lyings shadows h. c.in_ok-objects.ensures.items_if_clones_equal (λ x y e. e) ∙ c.inventory.ensures lyings shadows h);
  none_done = refl;
}
