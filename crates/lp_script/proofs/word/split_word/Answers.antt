use Rattle.std.proofs.Common.{◌+◌, refl, arith, drop, length-drop}
use Rattle.std.proofs.lemmas.List.{take_all}
use Rattle.lp_script.proofs.Exact.{before-le}
use Rattle.lp_script.proofs.word.split_word.Goals as goal

pub returns-then-n-bytes : goal.returns-then-n-bytes
returns-then-n-bytes c = rw (← c.before-n.ensures) (c.if-n-bytes.true, refl, take_all _ (drop (c.before-n.result + 1) c.args.bytes.now) (omega (arith, length-drop (c.before-n.result + 1) c.args.bytes.now)))

pub returns-else-n-bytes : goal.returns-else-n-bytes
returns-else-n-bytes c = omega (arith, c.before-n.ensures, before-le c.args.end c.args.bytes.now, c.if-n-bytes.false)
