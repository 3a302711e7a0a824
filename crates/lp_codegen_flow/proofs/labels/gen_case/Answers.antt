use Rattle.std.proofs.Common.{◌≡◌, [], ◌∷◌, ◌++◌, refl, sym, ap, arith}
use Rattle.std.proofs.lemmas.Int.{to_z-of_z}
use Rattle.lp_instr.specs.declared.instr.Case.TheVariants as cases
use Rattle.lp_tree.specs.declared.stmt.Label.TheVariants as kinds
use Rattle.lp_codegen_flow.proofs.Switching.{int_stands, text_stands, label_as}
use Rattle.lp_codegen_flow.proofs.labels.gen_case.Goals as goal

pub returns-in_ok-push-in-Int : goal.returns-in_ok-push-in-Int
returns-in_ok-push-in-Int c =
    let n = c.in-Int.n in
    let e : c.push.new.self.items ≡ c.args.labels.now.cases.items ++ cases.Ints n n c.in_ok-here.here ∷ [] = grind (arith, to_z-of_z) in
    λ line s. label_as (ap (kinds.Case line) (sym c.in-Int.is)) (int_stands s line c.in_ok-here.here n c.in_ok-here.ensures e refl)

pub returns-in_ok-push-in-Text : goal.returns-in_ok-push-in-Text
returns-in_ok-push-in-Text c = λ line s. label_as (ap (kinds.Case line) (sym c.in-Text.is)) (text_stands s line c.in_ok-here.here c.in_ok-k-in-Text.k c.in-Text.text c.in_ok-here.ensures c.in_ok-k-in-Text.ensures c.in_ok-push-in-Text.ensures.items refl)
