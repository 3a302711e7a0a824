use Rattle.std.proofs.Common.{◌≡◌, ℕ, List, None, ap, ◌∙◌, rules}
use Rattle.std.specs.Prelude.{if◌then◌else◌}
use Rattle.lp_instr.specs.EfunList.{is_name}
use Rattle.lp_types_expr.specs.NameMaps.{named}
use Rattle.lp_types_expr.proofs.NamesPut.{after_change}
use Rattle.lp_layout.proofs.Kept.{put_away}
use Rattle.lp_layout.proofs.Listing.{anyway}
use Rattle.lp_layout.proofs.rows.take_own.Goals as goal

pub returns-in_ok-name_of-in-Some-clause-left : goal.returns-in_ok-name_of-in-Some-clause-left
returns-in_ok-name_of-in-Some-clause-left c =
    let e : c.as_slice.result.now ≡ c.args.name.now = search rules in
    anyway c.add_row.result (put_away (named c.args.origins.now) (named c.remove.new.self) c.args.name.now
    (λ w. after_change c.as_slice.result.now c.args.origins.now c.remove.new.self None c.remove.ensures.updates w ∙ ap (λ (n : List ℕ). if is_name w n then None else named c.args.origins.now w) e))
