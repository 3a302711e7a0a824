use Rattle.std.proofs.Common.{◌≡◌, All, List, ℕ, map, subst, sym}
use Rattle.lp_values.specs.declared.value.Value.{Value}
use Rattle.lp_cells.specs.Cells.{IsThere}
use Rattle.lp_meaning.specs.FileEfuns.{named_value}
use Rattle.lp_filing.specs.Rows.{saved_rows}
use Rattle.lp_filing.proofs.Keeping.{named_there, values_there}
use Rattle.lp_filing.proofs.saving.text_of.Goals as goal

pub save_text-requires-clause-there : goal.save_text-requires-clause-there
save_text-requires-clause-there c =
    let e : c.as_slice.result.now ≡ map (named_value c.variables.result.now) (saved_rows 0 c.args.rows.now) = cc (c.in_ok-named.ensures) in
    subst (λ (xs : List (List ℕ × Value)). All (λ p. IsThere c.args.live.now.cells p.1) xs) (sym e)
    (named_there c.args.live.now.cells c.variables.result.now (saved_rows 0 c.args.rows.now) (values_there c.args.live.now c.args.this c.variables.result.now c.requires.closed c.variables.ensures))
