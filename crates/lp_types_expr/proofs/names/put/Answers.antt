use Rattle.std.proofs.Common.{◌≡◌, ℕ, List, ◌∙◌, ap, rules, Some, None}
use Rattle.std.specs.Prelude.{if◌then◌else◌}
use Rattle.lp_instr.specs.EfunList.{is_name}
use Rattle.lp_types_expr.specs.NameMaps.{named}
use Rattle.lp_types_expr.specs.Signatures.{or_else}
use Rattle.lp_types_expr.proofs.NamesPut.{after_put}
use Rattle.lp_types_expr.proofs.names.put.Goals as goal

pub returns-clause-ok : goal.returns-clause-ok
returns-clause-ok g c = λ w.
    let e : c.in_ok-to_vec.field-0.items ≡ c.args.name.now = search rules in
    after_put c.in_ok-to_vec.field-0.items c.args.map.now c.insert.new.self c.args.value c.in_ok-insert.ensures.updates w
    ∙ ap (λ (n : List ℕ). or_else (if is_name w n then Some c.args.value else None) (named c.args.map.now w)) e
