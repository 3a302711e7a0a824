use Rattle.std.proofs.Common.{◌≡◌, [], ◌∷◌, ◌++◌, refl, arith}
use Rattle.std.proofs.lemmas.Int.{to_z-of_z}
use Rattle.lp_instr.specs.declared.instr.Case.TheVariants as cases
use Rattle.lp_codegen_flow.proofs.Switching.{range_stands}
use Rattle.lp_codegen_flow.proofs.labels.gen_range.Goals as goal

pub returns : goal.returns
returns c =
    let n = c.args.from.now in
    let m = c.args.to.now in
    let e : c.push.new.self.items ≡ c.args.labels.now.cases.items ++ cases.Ints n m c.in_ok-here.here ∷ [] = grind (arith, to_z-of_z) in
    λ line s. range_stands s line c.in_ok-here.here n m c.in_ok-here.ensures e refl
