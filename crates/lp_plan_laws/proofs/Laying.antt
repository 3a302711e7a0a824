-- A layout made of the tables of a version is that of the version.
use Rattle.std.proofs.Common.{false, ap, ◌∙◌, is_some}
use Rattle.lp_language.specs.Resolve.{Heir, last_with, or_else, resolve, shown as shown_found}
use Rattle.lp_inherit.specs.Heirs.{table, tables}
use Rattle.lp_codegen_layout.specs.Laid.{last_number, shown}
use Rattle.lp_codegen_layout.proofs.Entries.{last_counts}
use Rattle.lp_codegen_layout.proofs.Paths.{paths_are_names}
use Rattle.lp_plan_laws.specs.Lays.{LayoutsLay}
use Rattle.lp_plan_laws.proofs.Known.{functions_known, simuls_known}
use Rattle.lp_plan_laws.proofs.Meant.{called_first, shown_false, shown_true}
use Rattle.lp_plan_laws.proofs.Seen.{variables_known}

pub layouts_lay : LayoutsLay
layouts_lay (Heir n v ps) code numbered unambiguous rows parents =
    let h = Heir n v ps in
    let t = table h in
    let ts = tables ps in
    record {
      rows = rows;
      parents = parents;
      globals = λ w. (last_counts t ts v.simuls w).0 ∙ variables_known h w unambiguous;
      functions = λ w. functions_known h w numbered;
      simuls = λ w. simuls_known 0 v.simuls w;
      inherited = λ w.
          (last_counts t ts v.simuls w).1
          ∙ ap (λ o. or_else o (last_number (shown false 0 ts) w)) (shown_true ps w numbered.1)
          ∙ ap (or_else (last_with (λ p. is_some (shown_found (resolve p w))) ps)) (shown_false ps w numbered.1);
      named = λ p. (last_counts t ts v.simuls p).2 ∙ paths_are_names 0 ts p ∙ called_first ps p;
    }
