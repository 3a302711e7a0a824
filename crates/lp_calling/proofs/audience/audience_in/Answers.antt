use Rattle.std.proofs.Common.{◌∙◌, refl}
use Rattle.lp_calling.proofs.Audiences.{holds_so}
use Rattle.lp_calling.proofs.audience.audience_in.Goals as goal

pub returns : goal.returns
returns c = record {
  same_text = refl;
  same_but = refl;
  listeners = holds_so c.args.live.now c.args.place c.in_ok-listeners.listeners.items (λ lyings shadows h. c.in_ok-listeners.ensures.items_if_clones_equal (λ x y e. e) ∙ c.inventory.ensures lyings shadows h);
  none_done = refl;
}
