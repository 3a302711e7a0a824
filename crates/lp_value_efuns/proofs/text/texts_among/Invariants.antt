use Rattle.std.proofs.Common.{◌≡◌, take, filter_map}
use Rattle.lp_meaning.specs.ComputingEfuns.{text_among}
use Rattle.lp_value_efuns.proofs.text.texts_among.Given as goal

abbrev pub invariant-loop-v : goal.invariant-loop-v
invariant-loop-v l = l.texts.items ≡ filter_map text_among (take l.v-index l.items)
