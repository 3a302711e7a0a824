use Rattle.std.proofs.Common.{◌∙◌, All, List, ap, map, subst}
use Rattle.lp_values.specs.declared.id.ProgId.{ProgId}
use Rattle.lp_world.specs.Rows.{row_at}
use Rattle.lp_residence.specs.Programs.{IsCallThere, functions_in}
use Rattle.lp_residence.proofs.Fitted.{fit_is_closed}
use Rattle.lp_residence.proofs.fitting.fits.Goals as goal

pub returns : goal.returns
returns c =
    let versions = c.args.versions.now in
    let raw = c.args.raw.now in
    let calls = subst (λ is. All (IsCallThere versions raw.tables.parents) is) c.as_slice-2.ensures (subst (λ ps. All (IsCallThere versions ps) c.as_slice-2.result.now) c.as_slice.ensures c.if-not-are_calls_there.ensures) in
    fit_is_closed c.are_functions_there.result versions c.args.version.now raw c.in_ok-counts.counts.items c.as_slice-4.result.now c.if-not-is_outlined.ensures calls
    (c.in_ok-counts.ensures ∙ ap (λ (ps : List ProgId). map (λ (p : ProgId). functions_in (row_at versions p.0)) ps) c.as_slice-3.ensures) c.as_slice-4.ensures.value
    c.are_functions_there.ensures.slots c.are_functions_there.ensures.targets
