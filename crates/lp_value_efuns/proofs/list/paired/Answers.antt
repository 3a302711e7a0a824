use Rattle.std.proofs.Common.{◌∙◌, ap, sym, arith}
use Rattle.indexmap.specs.IndexMap.{insert_all}
use Rattle.lp_values.specs.Read.{value_eq}
use Rattle.lp_value_efuns.proofs.ListLemmas.{paired_done}
use Rattle.lp_value_efuns.proofs.list.paired.Goals as goal

pub returns : goal.returns
returns g c = sym (ap (insert_all value_eq c.loop-i.all) (paired_done (g.L.Living.live c.args.live.now) c.args.keys.now c.args.values.now c.loop-i.i (omega (arith, c.shorter-i-end.ensures, c.loop-i-test.false)))) ∙ c.loop-i.invariant
