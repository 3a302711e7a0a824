use Rattle.std.proofs.Common.{◌<◌, arith, subst}
use Rattle.lp_step.specs.declared.next.Next.TheVariants as nexts
use Rattle.lp_run.specs.Runs.{Went, left_of}
use Rattle.lp_run.specs.Takes.{at_place}
use Rattle.lp_run.proofs.Together.{and_more, can_again, home_later, home_same, last_one, less_left, none_yet, one_more, run_fits, run_spends}
use Rattle.lp_run.proofs.run.Goals as goal

pub steps-init : goal.steps-init
steps-init c = record { can = c.requires; home = home_same c.args.live.now.objects; came = none_yet c.args.live.now c.args.stack.now.items c.args.frame.now c.args.budget.now }

pub steps-smaller : goal.steps-smaller
steps-smaller c =
    let less = less_left c.steps.live c.go.new.live c.take_many.new.stack.items c.go.new.stack.items (at_place c.steps.frame c.in_ok-frame.field-0) c.go.new.frame c.take_many.new.budget c.go.new.budget c.in_ok-frame.ensures.can (subst (λ n. Went c.steps.live c.take_many.new.stack.items (at_place c.steps.frame c.in_ok-frame.field-0) c.take_many.new.budget n c.go.new.live c.go.new.stack.items c.go.new.frame c.go.new.budget) c.in-Again.is c.in_ok-next.ensures.went) in
    let all : left_of c.go.new.frame c.go.new.budget < left_of c.steps.frame c.steps.budget = omega (arith, less, c.in_ok-frame.ensures.less) in
    all

pub steps-preserved : goal.steps-preserved
steps-preserved c =
    let went : Went c.steps.live c.take_many.new.stack.items (at_place c.steps.frame c.in_ok-frame.field-0) c.take_many.new.budget nexts.Again c.go.new.live c.go.new.stack.items c.go.new.frame c.go.new.budget = subst (λ n. Went c.steps.live c.take_many.new.stack.items (at_place c.steps.frame c.in_ok-frame.field-0) c.take_many.new.budget n c.go.new.live c.go.new.stack.items c.go.new.frame c.go.new.budget) c.in-Again.is c.in_ok-next.ensures.went in
    let came = and_more c.args.live.now c.steps.live c.steps.live c.args.stack.now.items c.steps.stack.items c.take_many.new.stack.items c.args.frame.now c.steps.frame (at_place c.steps.frame c.in_ok-frame.field-0) c.args.budget.now c.steps.budget c.take_many.new.budget nexts.Again c.steps.invariant.came c.in_ok-frame.ensures.came in
    record {
      can = can_again c.steps.live c.go.new.live c.take_many.new.stack.items c.go.new.stack.items (at_place c.steps.frame c.in_ok-frame.field-0) c.go.new.frame c.take_many.new.budget c.go.new.budget c.in_ok-frame.ensures.can went;
      home = home_later c.args.live.now.objects c.steps.live.objects c.go.new.live.objects c.steps.invariant.home c.in_ok-next.ensures.home;
      came = one_more c.args.live.now c.steps.live c.go.new.live c.args.stack.now.items c.take_many.new.stack.items c.go.new.stack.items c.args.frame.now (at_place c.steps.frame c.in_ok-frame.field-0) c.go.new.frame c.args.budget.now c.take_many.new.budget c.go.new.budget nexts.Again came went;
    }

pub returns-in_default : goal.returns-in_default
returns-in_default c =
    let before = and_more c.args.live.now c.steps.live c.steps.live c.args.stack.now.items c.steps.stack.items c.take_many.new.stack.items c.args.frame.now c.steps.frame (at_place c.steps.frame c.in_ok-frame.field-0) c.args.budget.now c.steps.budget c.take_many.new.budget nexts.Again c.steps.invariant.came c.in_ok-frame.ensures.came in
    let came = one_more c.args.live.now c.steps.live c.go.new.live c.args.stack.now.items c.take_many.new.stack.items c.go.new.stack.items c.args.frame.now (at_place c.steps.frame c.in_ok-frame.field-0) c.go.new.frame c.args.budget.now c.take_many.new.budget c.go.new.budget c.in_ok-next.next before c.in_ok-next.ensures.went in
    record {
      came = came;
      home = home_later c.args.live.now.objects c.steps.live.objects c.go.new.live.objects c.steps.invariant.home c.in_ok-next.ensures.home;
      there = c.in_ok-next.ensures.there;
      spends = run_spends c.args.live.now c.go.new.live c.args.stack.now.items c.go.new.stack.items c.args.frame.now c.go.new.frame c.args.budget.now c.go.new.budget c.in_ok-next.next c.requires came;
      fit = run_fits c.args.live.now c.go.new.live c.args.stack.now.items c.go.new.stack.items c.args.frame.now c.go.new.frame c.args.budget.now c.go.new.budget c.in_ok-next.next c.requires came;
      last = last_one c.in_ok-next.next c.in_default.not-Again;
    }
