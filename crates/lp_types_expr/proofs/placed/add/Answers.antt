use Rattle.std.proofs.Common.{◌≡◌, ℕ, List, [], ◌∷◌, ◌++◌, sym, ap, ◌∙◌, rules, subst, Some, None, length}
use Rattle.std.specs.Prelude.{if◌then◌else◌}
use Rattle.lp_instr.specs.EfunList.{is_name}
use Rattle.lp_types_expr.specs.Signatures.{or_else}
use Rattle.lp_types_expr.specs.declared.row.Row.{Row}
use Rattle.lp_types_expr.specs.Placed.{ArePlaced}
use Rattle.lp_types_expr.specs.NameMaps.{named}
use Rattle.lp_types_expr.proofs.Places.{added}
use Rattle.lp_types_expr.proofs.placed.add.Goals as goal

pub returns-in-Ok-clause-placed : goal.returns-in-Ok-clause-placed
returns-in-Ok-clause-placed c = λ p.
    let r : Row = record { local = record { name = c.in_ok-copy.field-0; kind = c.args.kind }; hidden = c.copied-hidden.result } in
    let whole : c.push.new.self.items ≡ c.args.rows.now.items ++ r ∷ [] = search rules in
    let was : c.copied-hidden.result ≡ named c.args.places.now c.in_ok-copy.field-0 = search rules in
    let after : (w : List ℕ) → named c.put.new.map w ≡ or_else (if is_name w c.in_ok-copy.field-0 then Some (length c.args.rows.now.items) else None) (named c.args.places.now w) =
    λ w. c.in-Ok.ensures.ok w
    ∙ ap (λ (n : List ℕ). or_else (if is_name w n then Some c.len-place.result else None) (named c.args.places.now w)) (c.as_slice-2.ensures ∙ sym c.in_ok-copy.ensures)
    ∙ ap (λ (k : ℕ). or_else (if is_name w c.in_ok-copy.field-0 then Some k else None) (named c.args.places.now w)) (c.len-place.ensures ∙ c.args.rows.now.ok.0) in
    subst (λ z. ArePlaced z c.put.new.map) (sym whole) (added c.args.rows.now.items r c.args.places.now c.put.new.map was after p)
