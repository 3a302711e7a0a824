use Rattle.std.proofs.Common.{◌≡◌, [], ◌∙◌, ap, refl, rules}
use Rattle.lp_verify.specs.declared.walk.Walk.{Walk}
use Rattle.lp_code.specs.declared.program.RawProgram.{RawProgram}
use Rattle.lp_verify.proofs.Looking.{begins_none, begins_more_at, solves_begin_at, solves_on, solves_in, solves_less, solves_end_at}
use Rattle.lp_verify.proofs.solve.solve.Goals as goal

pub loop-row-init : goal.loop-row-init
loop-row-init c = begins_none c.args.body.now c.places.result c.in_ok-walk.walk c.places.ensures c.in_ok-walk.ensures

pub loop-row-preserved : goal.loop-row-preserved
loop-row-preserved c = begins_more_at c.args.body.now c.as_slice-row-items.result.now c.loop-row.row-index c.row-item.result c.loop-row.walk c.begin.new.self (c.as_slice-row-items.ensures ∙ ap (λ (z : RawProgram). z.funs) c.raw.ensures) c.loop-row-test.true c.row-item.is c.loop-row.invariant c.in_ok-begin.ensures

pub loop-at-init : goal.loop-at-init
loop-at-init c = solves_begin_at c.args.body.now c.as_slice-row-items.result.now c.loop-row.row-index c.loop-row.walk (c.as_slice-row-items.ensures ∙ ap (λ (z : RawProgram). z.funs) c.raw.ensures) c.loop-row-test.false c.loop-row.invariant

pub look-requires-clause-inside : goal.look-requires-clause-inside
look-requires-clause-inside c = solves_in c.args.body.now c.in-Some.at c.loop-at.walk c.pop.new.self.items c.loop-at.invariant c.in-Some.ensures.items

pub loop-at-preserved : goal.loop-at-preserved
loop-at-preserved c = solves_on c.args.body.now c.in-Some.at c.loop-at.walk _ c.look.new.self c.loop-at.invariant refl refl c.in-Some.ensures.items c.in_ok-look.ensures

pub loop-at-smaller : goal.loop-at-smaller
loop-at-smaller c = solves_less c.args.body.now c.in-Some.at c.loop-at.walk _ c.look.new.self c.loop-at.invariant refl refl c.in-Some.ensures.items c.in_ok-look.ensures

pub returns-clause-all : goal.returns-clause-all
returns-clause-all c = let b : Walk = record { openings = c.loop-at.walk.openings; seen = c.loop-at.walk.seen; todo = c.pop.new.self } in
    let t : c.loop-at.walk.todo.items ≡ [] = search rules in solves_end_at c.args.body.now c.loop-at.walk b c.loop-at.invariant refl refl t
