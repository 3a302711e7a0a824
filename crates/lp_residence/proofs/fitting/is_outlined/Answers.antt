use Rattle.std.proofs.Common.{◌≡◌, ◌∙◌, ap, arith, length, sym}
use Rattle.lp_world.specs.Stands.{IsOutline}
use Rattle.lp_residence.proofs.Fitted.{not_false, number_same, on_true, same_lists}
use Rattle.lp_residence.proofs.fitting.is_outlined.Goals as goal

pub returns : goal.returns
returns c = on_true _ (IsOutline c.args.raw.now c.args.outline.now) (λ t.
    let last : c.args.outline.now.slots ≡ length c.as_slice-6.result.now = grind (arith, t) in
    record {
      parents = sym c.as_slice.ensures ∙ same_lists _ (λ a b e. number_same a b e) c.as_slice.result.now c.as_slice-2.result.now (not_false _ c.if-ne.ensures) ∙ c.as_slice-2.ensures;
      parts = c.if-outline-as_slice.false ∙ ap (λ l. length l) c.as_slice-3.ensures;
      variables = c.if-outline-as_slice-2.false ∙ ap (λ l. length l) c.as_slice-4.ensures;
      functions = c.if-outline-as_slice-3.false ∙ ap (λ l. length l) c.as_slice-5.ensures;
      slots = last ∙ ap (λ l. length l) c.as_slice-6.ensures;
    })
