use Rattle.std.proofs.Common.{◌≡◌, ◌-◌, Some, suc, ap, sym, ◌∙◌, arith}
use Rattle.lp_places.specs.Places.{environment, is_inside_by}
use Rattle.lp_places.proofs.TableLemmas.{how_many, inside_here, inside_out, inside_up}
use Rattle.lp_places.proofs.links.Links.is_inside.Goals as goal

pub loop-left-init : goal.loop-left-init
loop-left-init c = λ links tb. ap (λ n. is_inside_by n links c.args.o c.args.outer) (c.len-left.ensures.len ∙ how_many c.args.self.now links tb c.len-left.ensures.ordered)

pub returns-then-eq : goal.returns-then-eq
returns-then-eq c = λ links tb. sym (inside_here c.loop-left.left links c.loop-left.at c.args.outer (sym c.eq.ensures ∙ c.if-eq.true)) ∙ c.loop-left.invariant links tb

pub returns-in-None : goal.returns-in-None
returns-in-None c = λ links tb. sym (inside_out c.loop-left.left links c.loop-left.at c.args.outer (sym c.eq.ensures ∙ c.if-eq.false) (sym (c.in-None.ensures links tb))) ∙ c.loop-left.invariant links tb

pub loop-left-preserved : goal.loop-left-preserved
loop-left-preserved c = λ links tb.
    let there : environment links c.loop-left.at ≡ Some c.in-Some.place = sym (c.in-Some.ensures links tb) in
    let more : c.loop-left.left ≡ suc (c.loop-left.left - 1) = omega (arith, c.loop-left-test.true) in
    sym (inside_up (c.loop-left.left - 1) links c.loop-left.at c.args.outer c.in-Some.place (sym c.eq.ensures ∙ c.if-eq.false) there)
    ∙ ap (λ n. is_inside_by n links c.loop-left.at c.args.outer) (sym more) ∙ c.loop-left.invariant links tb
