use Rattle.std.proofs.Common.{◌≤◌, ◌∙◌, ap, arith}
use Rattle.lp_step.specs.declared.next.Next.TheVariants as nexts
use Rattle.lp_run.specs.Runs.{RunsTo, Went, left_of}
use Rattle.lp_run.specs.Takes.{at_place}
use Rattle.lp_run.proofs.Taken.{gone, stayed, went_on}
use Rattle.lp_run.proofs.Together.{can_again, can_go, less_left, none_yet, one_more}
use Rattle.lp_run.proofs.taking.take_many.Goals as goal

pub taken-init : goal.taken-init
taken-init c =
    let same : left_of c.args.frame.now c.args.budget.now ≤ left_of c.args.frame.now c.args.budget.now = omega arith in
    record {
      code = c.as_slice-code.ensures ∙ ap (λ p. p.instrs) c.raw.ensures.same;
      can = c.requires;
      came = none_yet c.args.live.now c.args.stack.now.items c.args.frame.now c.args.budget.now;
      less = same;
    }

pub take-requires-clause-can : goal.take-requires-clause-can
take-requires-clause-can c = can_go c.args.live.now c.taken.stack.items (at_place c.args.frame.now c.taken.at) c.taken.left c.taken.invariant.can

pub returns-then-not-branch-clause-came : goal.returns-then-not-branch-clause-came
returns-then-not-branch-clause-came c =
    stayed (λ s n k. RunsTo c.args.live.now c.args.stack.now.items c.args.frame.now c.args.budget.now nexts.Again c.args.live.now s (at_place c.args.frame.now n) k) c.args.live.now c.taken.stack.items c.take.new.stack.items c.args.frame.now
    c.taken.at c.take.new.at c.taken.left c.take.new.left c.in_ok-take.field-0 c.if-not-branch.true c.in_ok-take.ensures c.taken.invariant.came

pub taken-smaller : goal.taken-smaller
taken-smaller c =
    less_left c.args.live.now c.args.live.now c.taken.stack.items c.take.new.stack.items (at_place c.args.frame.now c.taken.at) (at_place c.args.frame.now c.take.new.at) c.taken.left c.take.new.left c.taken.invariant.can
    (went_on c.args.live.now c.taken.stack.items c.take.new.stack.items c.args.frame.now c.taken.at c.take.new.at c.taken.left c.take.new.left
    (gone c.args.live.now c.taken.stack.items c.take.new.stack.items c.args.frame.now c.taken.at c.take.new.at c.taken.left c.take.new.left c.in_ok-take.field-0 c.if-not-branch.false c.in_ok-take.ensures))

pub taken-preserved : goal.taken-preserved
taken-preserved c =
    let went : Went c.args.live.now c.taken.stack.items (at_place c.args.frame.now c.taken.at) c.taken.left nexts.Again c.args.live.now c.take.new.stack.items (at_place c.args.frame.now c.take.new.at) c.take.new.left =
    went_on c.args.live.now c.taken.stack.items c.take.new.stack.items c.args.frame.now c.taken.at c.take.new.at c.taken.left c.take.new.left
    (gone c.args.live.now c.taken.stack.items c.take.new.stack.items c.args.frame.now c.taken.at c.take.new.at c.taken.left c.take.new.left c.in_ok-take.field-0 c.if-not-branch.false c.in_ok-take.ensures) in
    let less = less_left c.args.live.now c.args.live.now c.taken.stack.items c.take.new.stack.items (at_place c.args.frame.now c.taken.at) (at_place c.args.frame.now c.take.new.at) c.taken.left c.take.new.left c.taken.invariant.can went in
    record {
      code = c.taken.invariant.code;
      can = can_again c.args.live.now c.args.live.now c.taken.stack.items c.take.new.stack.items (at_place c.args.frame.now c.taken.at) (at_place c.args.frame.now c.take.new.at) c.taken.left c.take.new.left c.taken.invariant.can went;
      came =
          one_more c.args.live.now c.args.live.now c.args.live.now c.args.stack.now.items c.taken.stack.items c.take.new.stack.items c.args.frame.now (at_place c.args.frame.now c.taken.at) (at_place c.args.frame.now c.take.new.at)
          c.args.budget.now c.taken.left c.take.new.left nexts.Again c.taken.invariant.came went;
      less = omega (arith, less, c.taken.invariant.less);
    }
