use Rattle.std.proofs.Common.{◌≡◌, rules, subst}
use Rattle.lp_codegen_expr.specs.Found.{IsNumbered}
use Rattle.lp_codegen_expr.proofs.Found.{numbered}
use Rattle.lp_codegen_expr.proofs.texts.Texts.number.Goals as goal

pub returns : goal.returns
returns c =
    let old : c.self.inside.texts.keys ≡ c.args.self.now = search rules in
    let s = c.in_ok-number.ensures.stored in
    subst (λ o. IsNumbered c.in_ok-number.number c.args.text.now o c.insert_full.new.self.keys) old (numbered c.in_ok-number.number c.in_ok-text.text s.0 c.self.inside.texts.keys c.insert_full.new.self.keys c.in_ok-text.ensures c.in_ok-number.ensures.keys c.in_ok-number.ensures.within s.1 s.2)
