use Rattle.std.proofs.Common.{◌≡◌, List, sym, ap, subst, ◌∙◌}
use Rattle.lp_types_expr.specs.declared.row.Row.{Row}
use Rattle.lp_types_expr.specs.declared.local.Local.{Local}
use Rattle.lp_types_expr.specs.Known.{local_kind}
use Rattle.lp_types_expr.specs.Placed.{ArePlaced, last_place, kind_at, locals_of}
use Rattle.lp_types_expr.specs.Scopes.{visible}
use Rattle.lp_types_expr.proofs.Blocks.{kinds, all_visible}
use Rattle.lp_types_expr.proofs.scopes.Scopes.local_kind.Goals as goal

pub returns : goal.returns
returns c =
    let rs = c.self.inside.rows.items in
    let w = c.args.name.now in
    let found : c.place.result ≡ last_place rs w = c.place.ensures (subst (λ (z : List Row). ArePlaced z c.self.inside.places) (sym c.as_slice-2.ensures.value) c.self.invariant.1) ∙ ap (λ (z : List Row). last_place z w) c.as_slice-2.ensures.value in
    c.kind_at.ensures ∙ ap (λ (z : List Row). kind_at z c.place.result) c.as_slice.ensures.value ∙ ap (kind_at rs) found ∙ sym (kinds rs w)
    ∙ ap (λ (z : List Local). local_kind z w) (sym (all_visible c.self.inside.answer c.self.inside.outer (locals_of rs)) ∙ ap visible c.self.view_is)
