use Rattle.std.proofs.Common.{◌∙◌, false, ap, sym}
use Rattle.lp_language.specs.World.{object_named}
use Rattle.lp_meaning.specs.FileLoads.{is_under_way}
use Rattle.lp_loading.specs.Loads.{loads_of}
use Rattle.lp_loading.proofs.SeenNames.{if_ok, seen_is}
use Rattle.lp_loading.proofs.simuls.simul_seen.Goals as goal

pub returns-else-is_under_way : goal.returns-else-is_under_way
returns-else-is_under_way c =
    let loads = loads_of c.args.loads.now in
    let away = ap (λ n. is_under_way n loads) (sym c.as_slice.ensures) ∙ sym c.is_under_way.ensures ∙ c.if-is_under_way.false in
    if_ok c.object_named.result _ _
    (λ o f told programs w h. f told programs w h ∙ ap (object_named w) c.as_slice-else-is_under_way.ensures ∙ sym (seen_is w c.in-Some.name loads false (sym h.rest.simul ∙ c.in-Some.is) away))
    c.object_named.ensures
