use Rattle.std.proofs.Common.{◌<◌, arith, refl}
use Rattle.std.proofs.lemmas.Option.{slice_get_past}
use Rattle.lp_encoding.specs.Instructions.{instr_readers}
use Rattle.lp_encoding.proofs.instrs.take_ends.Goals as goal

pub returns-in_default : goal.returns-in_default
returns-in_default c = let past : 37 < c.args.number = omega (arith, c.requires, c.in_default) in rw (slice_get_past instr_readers c.args.number past) refl
