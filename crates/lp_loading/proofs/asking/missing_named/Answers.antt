use Rattle.std.proofs.Common.{◌∙◌, Some, ap, sym}
use Rattle.lp_language.specs.World.{object_named}
use Rattle.lp_meaning.specs.FileLoads.{is_under_way}
use Rattle.lp_loading.specs.Loads.{loads_of}
use Rattle.lp_loading.proofs.SimulFirst.{is_missing, live_none}
use Rattle.lp_loading.proofs.asking.missing_named.Goals as goal

pub returns-in-Some : goal.returns-in-Some
returns-in-Some c = λ told programs w h. live_none w c.args.name.now (loads_of c.args.loads.now) c.in-Some.field-0 (sym c.in-Some.is ∙ c.in_ok-object_named.ensures told programs w h ∙ ap (object_named w) c.as_slice-2.ensures)

pub returns-in_ok-copy-in-None : goal.returns-in_ok-copy-in-None
returns-in_ok-copy-in-None c = λ told programs w h.
    ap (λ n. Some n) c.in_ok-copy-in-None.ensures
    ∙ is_missing w c.args.name.now (loads_of c.args.loads.now) (sym c.in-None.is ∙ c.in_ok-object_named.ensures told programs w h ∙ ap (object_named w) c.as_slice-2.ensures) (ap (λ x. is_under_way x (loads_of c.args.loads.now)) (sym c.as_slice.ensures) ∙ sym c.is_under_way.ensures ∙ c.if-is_under_way.false)
