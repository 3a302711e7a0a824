use Rattle.std.proofs.Common.{◌≡◌, ◌++◌, ◌∷◌, [], ◌∙◌, ◌-◌, ap, arith, rules, sym, length, length-append}
use Rattle.std.specs.Prelude.{slice_set}
use Rattle.lp_step.proofs.Moves.{last}
use Rattle.lp_run.proofs.Reading.{set_last}
use Rattle.lp_run.proofs.items.put_for_two.Goals as goal

pub returns : goal.returns
returns c = λ rest x y e.
    let l : c.len-i.result ≡ length c.pop-y.new.stack.items = search rules in
    let s = (last (rest ++ x ∷ []) c.pop-y.new.stack.items y c.pop-y.result (sym e ∙ c.pop-y.ensures)).0 in
    c.write_at.ensures ∙ ap (λ s. slice_set s (c.len-i.result - 1) c.args.v) (sym s) ∙ set_last rest x c.args.v (c.len-i.result - 1) (omega (arith, l, ap length s, length-append rest (x ∷ [])))
