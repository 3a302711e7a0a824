use Rattle.std.proofs.Common.{◌≡◌, None, Some, arith, subst, ◌∙◌, All, ap, refl, sym, Option, ℕ}
use Rattle.std.specs.Prelude.{IfSome, IsSome}
use Rattle.std.proofs.Math.Nat.{le_refl, le_trans}
use Rattle.lp_run.proofs.Together.{home_later, home_same}
use Rattle.lp_step.specs.Steps.{IsFit, KeepsVariables}
use Rattle.lp_asking.specs.Resuming.{Resumes}
use Rattle.lp_vm.specs.Beginning.{HasEntered, Starts}
use Rattle.lp_vm.specs.declared.request.Request.TheVariants as requests
use Rattle.lp_vm.specs.Cycle.{Answers}
use Rattle.lp_vm.specs.Looking.{BeginsEfun, HasBegunWith}
use Rattle.lp_asking.specs.Endings.{IsEndingThere}
use Rattle.lp_vm.specs.Jobs.{StepsTo, WorkAsks, WorkGoesOn, WorkLoads, WorkTurnsTo}
use Rattle.lp_vm.specs.Turns.{Calls, Halts}
use Rattle.lp_vm.proofs.Workings.{asked_turns, can_work_on, loaded_turns, taken_answer, taken_load, works_later, works_more, works_same}
use Rattle.lp_targets.proofs.Lookups.{if_ok}
use Rattle.lp_vm.proofs.Causing.{read_exit, tells_more, tells_nothing, tells_or_full}
use Rattle.lp_vm.proofs.Cycling.{call_can, call_continues, call_finishes, finishes_later}
use Rattle.lp_vm.proofs.Enterings.{goes_on_more, goes_on_same}
use Rattle.lp_vm.proofs.Startings.{enough, same_asker, same_later}
use Rattle.lp_cells.specs.Cells.{IsThere}
use Rattle.lp_efuns.specs.declared.caller.Turn.{Turn}
use Rattle.lp_swapfile.specs.Device.{Bytes}
use Rattle.lp_world.specs.Rows.{variables_at}
use Rattle.lp_loading.specs.declared.job.Fed.TheVariants as fed
use Rattle.lp_loading.specs.declared.job.Going.TheVariants as goings
use Rattle.lp_loading.specs.declared.job.LoadJob.{LoadJob}
use Rattle.lp_loading.specs.declared.job.Purpose.TheVariants as purposes
use Rattle.lp_loading.specs.declared.job.Step.TheVariants as steps
use Rattle.lp_loading.specs.Going.{Takes}
use Rattle.lp_loading.specs.Loads.{turns_left}
use Rattle.lp_loading.specs.Steps.{EndsThere, GoesReading, MakesHome}
use Rattle.lp_vm.specs.Loading.{BeginsLoad, CannotPay, LeadsOn, LoadBegins, LoadContinues, Loads, LoadsOn}
use Rattle.lp_vm.proofs.Loads.{can_load_on, load_can_ask, load_can_go, load_can_make, load_ended, load_ends, load_goes, load_lies, load_made, load_paid, load_unpaid, load_went, loads_later, loads_more, loads_same}
use Rattle.lp_values.specs.declared.id.ObjId.{ObjId}
use Rattle.lp_vm.specs.Causes.{Tells}
use Rattle.lp_commanding.specs.declared.job.Begun.TheVariants as commands
use Rattle.lp_commanding.specs.declared.job.CommandBegun.TheVariants as command_begun
use Rattle.lp_commanding.specs.Beginning.{Begins as CommandBegins, IsBegunThere as CommandBegunThere}
use Rattle.lp_commanding.specs.Efuns.{IsBegunThere as EfunBegunThere}
use Rattle.lp_vm.specs.Answering.{IsSameAsker}
use Rattle.lp_vm.specs.CommandEfun.{BeginsAt, with_player}
use Rattle.lp_vm.specs.Commanding.{AsksLess, CanObey, CommandAsks, CommandContinues, CommandSteps, FeedsCommand, Obeys}
use Rattle.lp_vm.proofs.CommandEfuns.{command_answered, command_answers, command_obeys}
use Rattle.lp_vm.proofs.Commandings.{can_carry_on, carries_later, command_ended, commands_more, commands_same, obey_can, obey_carried, obeyed, turn_only}
use Rattle.lp_vm.specs.Making.{MakeContinues}
use Rattle.lp_vm.proofs.Makings.{can_make_on, make_can, make_ends, make_goes, make_lies, make_stands, makes_later, makes_more, still_there}
use Rattle.lp_beginning.specs.Feeding as feeding
use Rattle.std.specs.Str.{chars}
use Rattle.std.specs.String.{string_bytes}
use Rattle.lp_instr.specs.declared.efun.Efun.TheVariants as efuns
use Rattle.lp_cloning.specs.declared.job.Begun.TheVariants as begun
use Rattle.lp_cloning.specs.declared.job.Cloning.TheVariants as stages
use Rattle.lp_cloning.specs.Beginning.{Begins, IsHome, IsReady}
use Rattle.lp_cloning.specs.Feeding.{LoadedAs}
use Rattle.lp_vm.specs.declared.request.Request.TheVariants as requests
use Rattle.lp_vm.specs.Cloning.{CanClone, Clones, IsBegunThere}
use Rattle.lp_vm.specs.Cycle.{Answers}
use Rattle.lp_vm.specs.Loaded.{loaded_ending}
use Rattle.lp_vm.proofs.Clones.{clone_answered, clone_answers, clone_can, clone_can_make, clone_load_can, clone_load_ends, clone_load_goes, clone_load_stands, clone_made}
use Rattle.lp_vm.proofs.cycle.+calls.Goals as goal

pub answer-start-requires-clause-can : goal.answer-start-requires-clause-can
answer-start-requires-clause-can g t c = (g.W.SwapFile.content c.args.swap.now, c.requires.can)

pub answer-returns-in-Answered-clause-answers : goal.answer-returns-in-Answered-clause-answers
answer-returns-in-Answered-clause-answers g t c = subst (λ r. Starts r c.args.reached c.args.args c.args.live.now c.args.stack.now.items c.args.asker.now c.args.budget.now c.start.new.live c.start.new.stack.items c.start.new.asker c.start.new.budget) c.in-Answered.is c.in_ok-ending.ensures.starts (g.W.SwapFile.content c.args.swap.now)

pub answer-go-requires : goal.answer-go-requires
answer-go-requires g t c =
    let h : HasEntered c.args.reached c.args.args c.args.live.now c.args.stack.now.items c.args.asker.now c.args.budget.now c.start.new.live c.start.new.stack.items c.in-Runs.frame c.in-Runs.left c.start.new.asker c.start.new.budget = subst (λ r. Starts r c.args.reached c.args.args c.args.live.now c.args.stack.now.items c.args.asker.now c.args.budget.now c.start.new.live c.start.new.stack.items c.start.new.asker c.start.new.budget) c.in-Runs.is c.in_ok-ending.ensures.starts in
    let less = h.less in
    λ κs within. (omega (arith, less), (within, h.can (g.W.SwapFile.content c.args.swap.now) c.requires.can))

pub answer-close-requires-clause-depth : goal.answer-close-requires-clause-depth
answer-close-requires-clause-depth g t c =
    let h : HasEntered c.args.reached c.args.args c.args.live.now c.args.stack.now.items c.args.asker.now c.args.budget.now c.start.new.live c.start.new.stack.items c.in-Runs.frame c.in-Runs.left c.start.new.asker c.start.new.budget = subst (λ r. Starts r c.args.reached c.args.args c.args.live.now c.args.stack.now.items c.args.asker.now c.args.budget.now c.start.new.live c.start.new.stack.items c.start.new.asker c.start.new.budget) c.in-Runs.is c.in_ok-ending.ensures.starts in
    h.depth (g.W.SwapFile.content c.args.swap.now) (g.W.SwapFile.content c.go.new.swap) c.go.new.live c.go.new.stack.items c.go.new.asker c.go.new.budget c.in_ok-ending-in-Runs.ending c.in_ok-ending-in-Runs.ensures.finishes

pub answer-close-requires-clause-bottom : goal.answer-close-requires-clause-bottom
answer-close-requires-clause-bottom g t c =
    let h : HasEntered c.args.reached c.args.args c.args.live.now c.args.stack.now.items c.args.asker.now c.args.budget.now c.start.new.live c.start.new.stack.items c.in-Runs.frame c.in-Runs.left c.start.new.asker c.start.new.budget = subst (λ r. Starts r c.args.reached c.args.args c.args.live.now c.args.stack.now.items c.args.asker.now c.args.budget.now c.start.new.live c.start.new.stack.items c.start.new.asker c.start.new.budget) c.in-Runs.is c.in_ok-ending.ensures.starts in
    h.bottom (g.W.SwapFile.content c.args.swap.now) (g.W.SwapFile.content c.go.new.swap) c.go.new.live c.go.new.stack.items c.go.new.asker c.go.new.budget c.in_ok-ending-in-Runs.ending c.requires.can c.in_ok-ending-in-Runs.ensures.finishes

pub answer-returns-in_ok-ending-in-Runs-clause-answers : goal.answer-returns-in_ok-ending-in-Runs-clause-answers
answer-returns-in_ok-ending-in-Runs-clause-answers g t c =
    let h : HasEntered c.args.reached c.args.args c.args.live.now c.args.stack.now.items c.args.asker.now c.args.budget.now c.start.new.live c.start.new.stack.items c.in-Runs.frame c.in-Runs.left c.start.new.asker c.start.new.budget = subst (λ r. Starts r c.args.reached c.args.args c.args.live.now c.args.stack.now.items c.args.asker.now c.args.budget.now c.start.new.live c.start.new.stack.items c.start.new.asker c.start.new.budget) c.in-Runs.is c.in_ok-ending.ensures.starts in
    h.answers (g.W.SwapFile.content c.args.swap.now) (g.W.SwapFile.content c.go.new.swap) c.go.new.live c.go.new.stack.items c.close.new.stack.items c.go.new.asker c.close.new.asker c.go.new.budget c.in_ok-ending-in-Runs.ending c.close.result
    c.in_ok-ending-in-Runs.ensures.finishes c.close.ensures.stack c.close.ensures.asker c.close.ensures.placed (c.close.ensures.keeps c.go.new.live c.in_ok-ending-in-Runs.ensures.finishes.fit)

pub go-turns-init : goal.go-turns-init
go-turns-init g t c = record {
  can = c.requires;
  same = same_asker c.args.asker.now;
  spends = le_refl c.args.budget.now;
  home = home_same c.args.live.now.objects;
  tells = tells_nothing (g.W.SwapFile.content c.args.swap.now) (g.W.SwapFile.last c.args.swap.now) (g.W.SwapFile.read_faults c.args.swap.now) (g.W.SwapFile.write_faults c.args.swap.now) (g.W.SwapFile.is_truthful c.args.swap.now) (g.W.SwapFile.is_honest c.args.swap.now) c.args.live.now;
  goes = goes_on_same (g.W.SwapFile.content c.args.swap.now) c.args.live.now c.args.stack.now.items c.args.frame c.args.asker.now c.args.budget.now;
}

pub go-run_to_halt-requires : goal.go-run_to_halt-requires
go-run_to_halt-requires g t c = (c.turns.asker, c.turns.invariant.can)

pub go-returns-in-Ended-clause-finishes : goal.go-returns-in-Ended-clause-finishes
go-returns-in-Ended-clause-finishes g t c =
    finishes_later (g.W.SwapFile.content c.args.swap.now) (g.W.SwapFile.content c.turns.swap) (g.W.SwapFile.content c.run_to_halt.new.swap) c.args.live.now c.turns.live c.run_to_halt.new.live c.args.stack.now.items c.turns.stack.items c.run_to_halt.new.stack.items c.args.frame c.turns.frame
    c.args.asker.now c.turns.asker c.turns.asker c.args.budget.now c.turns.budget c.run_to_halt.new.budget c.in-Ended.ending c.turns.invariant.goes c.turns.invariant.same c.turns.invariant.spends c.turns.invariant.home
    (subst (λ x. Halts x (g.W.SwapFile.content c.turns.swap) c.turns.live c.turns.stack.items c.turns.frame c.turns.budget (g.W.SwapFile.content c.run_to_halt.new.swap) c.run_to_halt.new.live c.run_to_halt.new.stack.items c.run_to_halt.new.frame c.run_to_halt.new.budget) c.in-Ended.is c.in_ok-ending.ensures.halts c.turns.asker)

pub go-serve-requires : goal.go-serve-requires
go-serve-requires g t c =
    let k : Calls c.in-Asks.request c.in-Asks.args (g.W.SwapFile.content c.turns.swap) c.turns.live c.turns.stack.items c.turns.frame c.turns.budget (g.W.SwapFile.content c.run_to_halt.new.swap) c.run_to_halt.new.live c.run_to_halt.new.stack.items c.run_to_halt.new.frame c.run_to_halt.new.budget = subst (λ x. Halts x (g.W.SwapFile.content c.turns.swap) c.turns.live c.turns.stack.items c.turns.frame c.turns.budget (g.W.SwapFile.content c.run_to_halt.new.swap) c.run_to_halt.new.live c.run_to_halt.new.stack.items c.run_to_halt.new.frame c.run_to_halt.new.budget) c.in-Asks.is c.in_ok-ending.ensures.halts in
    let less = k.spends in
    let more = c.turns.invariant.spends in
    λ κs within. (omega (arith, less, more), (within, (k.fit, k.can c.turns.asker c.turns.invariant.can)))

pub go-returns-in-Some-clause-finishes : goal.go-returns-in-Some-clause-finishes
go-returns-in-Some-clause-finishes g t c =
    let k : Calls c.in-Asks.request c.in-Asks.args (g.W.SwapFile.content c.turns.swap) c.turns.live c.turns.stack.items c.turns.frame c.turns.budget (g.W.SwapFile.content c.run_to_halt.new.swap) c.run_to_halt.new.live c.run_to_halt.new.stack.items c.run_to_halt.new.frame c.run_to_halt.new.budget = subst (λ x. Halts x (g.W.SwapFile.content c.turns.swap) c.turns.live c.turns.stack.items c.turns.frame c.turns.budget (g.W.SwapFile.content c.run_to_halt.new.swap) c.run_to_halt.new.live c.run_to_halt.new.stack.items c.run_to_halt.new.frame c.run_to_halt.new.budget) c.in-Asks.is c.in_ok-ending.ensures.halts in
    let fit : IsFit c.serve.new.live c.go_back.new.stack.items = (c.in_ok-ending-in-Asks-2.ensures.keeps c.serve.new.live c.in_ok-ending-in-Asks.ensures.answers.there c.in_ok-ending-in-Asks.ensures.answers.fit) in
    finishes_later (g.W.SwapFile.content c.args.swap.now) (g.W.SwapFile.content c.turns.swap) (g.W.SwapFile.content c.serve.new.swap) c.args.live.now c.turns.live c.serve.new.live c.args.stack.now.items c.turns.stack.items c.go_back.new.stack.items c.args.frame c.turns.frame
    c.args.asker.now c.turns.asker c.serve.new.asker c.args.budget.now c.turns.budget c.serve.new.budget c.in-Some.ending c.turns.invariant.goes c.turns.invariant.same c.turns.invariant.spends c.turns.invariant.home
    (call_finishes c.in-Asks.request c.in-Asks.args (g.W.SwapFile.content c.turns.swap) (g.W.SwapFile.content c.run_to_halt.new.swap) (g.W.SwapFile.content c.serve.new.swap) c.turns.live c.run_to_halt.new.live c.serve.new.live c.turns.stack.items c.run_to_halt.new.stack.items c.serve.new.stack.items c.go_back.new.stack.items c.turns.frame c.run_to_halt.new.frame c.go_back.new.frame c.turns.asker c.serve.new.asker c.turns.budget c.run_to_halt.new.budget c.serve.new.budget c.in_ok-ending-in-Asks.ending k c.in_ok-ending-in-Asks.ensures.answers fit c.in-Some.ending (subst (λ r. Resumes r 0 c.in_ok-ending-in-Asks.ending c.serve.new.stack.items c.run_to_halt.new.frame c.go_back.new.stack.items c.go_back.new.frame) c.in-Some.is c.in_ok-ending-in-Asks-2.ensures.table)
    (subst (λ r. IfSome r (λ e. e ≡ c.in_ok-ending-in-Asks.ending)) c.in-Some.is c.in_ok-ending-in-Asks-2.ensures.same))

pub go-turns-smaller : goal.go-turns-smaller
go-turns-smaller g t c =
    let k : Calls c.in-Asks.request c.in-Asks.args (g.W.SwapFile.content c.turns.swap) c.turns.live c.turns.stack.items c.turns.frame c.turns.budget (g.W.SwapFile.content c.run_to_halt.new.swap) c.run_to_halt.new.live c.run_to_halt.new.stack.items c.run_to_halt.new.frame c.run_to_halt.new.budget = subst (λ x. Halts x (g.W.SwapFile.content c.turns.swap) c.turns.live c.turns.stack.items c.turns.frame c.turns.budget (g.W.SwapFile.content c.run_to_halt.new.swap) c.run_to_halt.new.live c.run_to_halt.new.stack.items c.run_to_halt.new.frame c.run_to_halt.new.budget) c.in-Asks.is c.in_ok-ending.ensures.halts in
    let fit : IsFit c.serve.new.live c.go_back.new.stack.items = (c.in_ok-ending-in-Asks-2.ensures.keeps c.serve.new.live c.in_ok-ending-in-Asks.ensures.answers.there c.in_ok-ending-in-Asks.ensures.answers.fit) in
    k.nearer (g.W.SwapFile.content c.serve.new.swap) c.serve.new.live c.serve.new.stack.items c.go_back.new.stack.items c.go_back.new.frame c.turns.asker c.serve.new.asker c.serve.new.budget c.in_ok-ending-in-Asks.ending c.turns.invariant.can c.in_ok-ending-in-Asks.ensures.answers
    (subst (λ r. Resumes r 0 c.in_ok-ending-in-Asks.ending c.serve.new.stack.items c.run_to_halt.new.frame c.go_back.new.stack.items c.go_back.new.frame) c.in_default.is c.in_ok-ending-in-Asks-2.ensures.table) fit

pub go-turns-preserved : goal.go-turns-preserved
go-turns-preserved g t c =
    let k : Calls c.in-Asks.request c.in-Asks.args (g.W.SwapFile.content c.turns.swap) c.turns.live c.turns.stack.items c.turns.frame c.turns.budget (g.W.SwapFile.content c.run_to_halt.new.swap) c.run_to_halt.new.live c.run_to_halt.new.stack.items c.run_to_halt.new.frame c.run_to_halt.new.budget = subst (λ x. Halts x (g.W.SwapFile.content c.turns.swap) c.turns.live c.turns.stack.items c.turns.frame c.turns.budget (g.W.SwapFile.content c.run_to_halt.new.swap) c.run_to_halt.new.live c.run_to_halt.new.stack.items c.run_to_halt.new.frame c.run_to_halt.new.budget) c.in-Asks.is c.in_ok-ending.ensures.halts in
    let fit : IsFit c.serve.new.live c.go_back.new.stack.items = (c.in_ok-ending-in-Asks-2.ensures.keeps c.serve.new.live c.in_ok-ending-in-Asks.ensures.answers.there c.in_ok-ending-in-Asks.ensures.answers.fit) in
    let resumes : Resumes None 0 c.in_ok-ending-in-Asks.ending c.serve.new.stack.items c.run_to_halt.new.frame c.go_back.new.stack.items c.go_back.new.frame = subst (λ r. Resumes r 0 c.in_ok-ending-in-Asks.ending c.serve.new.stack.items c.run_to_halt.new.frame c.go_back.new.stack.items c.go_back.new.frame) c.in_default.is c.in_ok-ending-in-Asks-2.ensures.table in
    record {
      can = call_can c.in-Asks.request c.in-Asks.args (g.W.SwapFile.content c.turns.swap) (g.W.SwapFile.content c.run_to_halt.new.swap) (g.W.SwapFile.content c.serve.new.swap) c.turns.live c.run_to_halt.new.live c.serve.new.live c.turns.stack.items c.run_to_halt.new.stack.items c.serve.new.stack.items c.go_back.new.stack.items c.turns.frame c.run_to_halt.new.frame c.go_back.new.frame c.turns.asker c.serve.new.asker c.turns.budget c.run_to_halt.new.budget c.serve.new.budget c.in_ok-ending-in-Asks.ending k c.in_ok-ending-in-Asks.ensures.answers fit c.turns.invariant.can resumes;
      same = same_later c.args.asker.now c.turns.asker c.serve.new.asker c.turns.invariant.same c.in_ok-ending-in-Asks.ensures.answers.same;
      spends = le_trans (le_trans c.in_ok-ending-in-Asks.ensures.answers.spends k.spends) c.turns.invariant.spends;
      home = home_later c.args.live.now.objects c.turns.live.objects c.serve.new.live.objects c.turns.invariant.home (home_later c.turns.live.objects c.run_to_halt.new.live.objects c.serve.new.live.objects k.home c.in_ok-ending-in-Asks.ensures.answers.home);
      tells = tells_more c.turns.invariant.tells (tells_more c.in_ok-ending.ensures.tells c.in_ok-ending-in-Asks.ensures.tells);
      goes = goes_on_more (g.W.SwapFile.content c.args.swap.now) (g.W.SwapFile.content c.turns.swap) (g.W.SwapFile.content c.serve.new.swap) c.args.live.now c.turns.live c.serve.new.live c.args.stack.now.items c.turns.stack.items c.go_back.new.stack.items c.args.frame c.turns.frame c.go_back.new.frame c.args.asker.now c.turns.asker c.serve.new.asker
          c.args.budget.now c.turns.budget c.serve.new.budget c.turns.invariant.goes (call_continues c.in-Asks.request c.in-Asks.args (g.W.SwapFile.content c.turns.swap) (g.W.SwapFile.content c.run_to_halt.new.swap) (g.W.SwapFile.content c.serve.new.swap) c.turns.live c.run_to_halt.new.live c.serve.new.live c.turns.stack.items c.run_to_halt.new.stack.items c.serve.new.stack.items c.go_back.new.stack.items c.turns.frame c.run_to_halt.new.frame c.go_back.new.frame c.turns.asker c.serve.new.asker c.turns.budget c.run_to_halt.new.budget c.serve.new.budget c.in_ok-ending-in-Asks.ending k c.in_ok-ending-in-Asks.ensures.answers fit resumes);
    }

-- Efuns

pub call_efun-start_efun-requires-clause-steps : goal.call_efun-start_efun-requires-clause-steps
call_efun-start_efun-requires-clause-steps g t c = (sym c.is_clone.ensures.value ∙ c.if-is_clone.false, sym c.is_command.ensures.value ∙ c.if-is_command.false)

pub call_efun-returns-in-Answered-clause-answers : goal.call_efun-returns-in-Answered-clause-answers
call_efun-returns-in-Answered-clause-answers g t c = subst (λ r. BeginsEfun r c.args.at c.args.efun c.args.args (g.W.SwapFile.content c.args.swap.now) c.args.live.now c.args.stack.now.items c.args.asker.now c.args.budget.now (g.W.SwapFile.content c.start_efun.new.swap) c.start_efun.new.live c.start_efun.new.stack.items c.start_efun.new.asker c.start_efun.new.budget) c.in-Answered.is c.in_ok-ending.ensures.begins

pub call_efun-work-requires : goal.call_efun-work-requires
call_efun-work-requires g t c =
    let h : HasBegunWith c.args.at c.args.efun c.args.args (g.W.SwapFile.content c.args.swap.now) c.args.live.now c.args.stack.now.items c.args.asker.now c.args.budget.now c.in-Works.job (g.W.SwapFile.content c.start_efun.new.swap) c.start_efun.new.live c.start_efun.new.stack.items c.start_efun.new.asker c.start_efun.new.budget =
    subst (λ r. BeginsEfun r c.args.at c.args.efun c.args.args (g.W.SwapFile.content c.args.swap.now) c.args.live.now c.args.stack.now.items c.args.asker.now c.args.budget.now (g.W.SwapFile.content c.start_efun.new.swap) c.start_efun.new.live c.start_efun.new.stack.items c.start_efun.new.asker c.start_efun.new.budget) c.in-Works.is c.in_ok-ending.ensures.begins in
    let less = h.spends in
    λ κs within. (omega (arith, less), (within, (h.on, (h.ready, (h.fit, h.can c.requires.can)))))

pub call_efun-returns-in-Works-clause-answers : goal.call_efun-returns-in-Works-clause-answers
call_efun-returns-in-Works-clause-answers g t c =
    let h : HasBegunWith c.args.at c.args.efun c.args.args (g.W.SwapFile.content c.args.swap.now) c.args.live.now c.args.stack.now.items c.args.asker.now c.args.budget.now c.in-Works.job (g.W.SwapFile.content c.start_efun.new.swap) c.start_efun.new.live c.start_efun.new.stack.items c.start_efun.new.asker c.start_efun.new.budget =
    subst (λ r. BeginsEfun r c.args.at c.args.efun c.args.args (g.W.SwapFile.content c.args.swap.now) c.args.live.now c.args.stack.now.items c.args.asker.now c.args.budget.now (g.W.SwapFile.content c.start_efun.new.swap) c.start_efun.new.live c.start_efun.new.stack.items c.start_efun.new.asker c.start_efun.new.budget) c.in-Works.is c.in_ok-ending.ensures.begins in
    if_ok c.work.result (λ e works. h.answers (g.W.SwapFile.content c.work.new.swap) c.work.new.live c.work.new.stack.items c.work.new.asker c.work.new.budget e works) c.work.ensures.works

-- Jobs

-- one is answered, ..

pub answer_job-answer-requires : goal.answer_job-answer-requires
answer_job-answer-requires g t c = λ κs within. (omega arith, (within, (c.requires.fit, c.requires.can)))

pub answer_job-feed_back-requires-clause-on : goal.answer_job-feed_back-requires-clause-on
answer_job-feed_back-requires-clause-on g t c = c.requires.on (g.W.SwapFile.content c.answer.new.swap) c.answer.new.live c.answer.new.stack.items c.answer.new.asker c.answer.new.budget c.in_ok-ending.ending c.in_ok-ending.ensures.answers

pub answer_job-returns-clause-takes : goal.answer_job-returns-clause-takes
answer_job-returns-clause-takes g t c =
    taken_answer c.feed_back.result c.args.reached c.args.args c.args.job.now c.feed_back.new.job (g.W.SwapFile.content c.args.swap.now) (g.W.SwapFile.content c.answer.new.swap) c.args.live.now c.answer.new.live c.args.stack.now.items c.answer.new.stack.items c.feed_back.new.stack.items
    c.args.asker.now c.answer.new.asker c.feed_back.new.asker c.args.budget.now c.answer.new.budget c.in_ok-ending.ending c.in_ok-ending.ensures.answers c.feed_back.ensures.back c.feed_back.ensures.feeds c.feed_back.ensures.on c.feed_back.ensures.fit c.feed_back.ensures.same

pub answer_job-returns-clause-tells : goal.answer_job-returns-clause-tells
answer_job-returns-clause-tells g t c = tells_or_full c.feed_back.result c.in_ok-ending.ensures.tells c.feed_back.ensures.fault

-- .. or what it asked for is loaded;

pub load_job-load-requires : goal.load_job-load-requires
load_job-load-requires g t c = λ κs within. (omega arith, (within, (c.requires.fit, c.requires.can)))

pub load_job-feed_loaded-requires-clause-on : goal.load_job-feed_loaded-requires-clause-on
load_job-feed_loaded-requires-clause-on g t c =
    let loads : Loads (Some c.args.at.this) (Some c.args.at) c.args.name purposes.Wanted (g.W.SwapFile.content c.args.swap.now) c.args.live.now c.args.stack.now.items c.args.asker.now c.args.budget.now (g.W.SwapFile.content c.load.new.swap) c.load.new.live c.load.new.stack.items c.load.new.asker c.load.new.budget c.in_ok-answer.answer =
    subst (λ n. Loads (Some c.args.at.this) (Some c.args.at) n purposes.Wanted (g.W.SwapFile.content c.args.swap.now) c.args.live.now c.args.stack.now.items c.args.asker.now c.args.budget.now (g.W.SwapFile.content c.load.new.swap) c.load.new.live c.load.new.stack.items c.load.new.asker c.load.new.budget c.in_ok-answer.answer) c.as_slice.ensures c.in_ok-answer.ensures.loads in
    c.requires.on (g.W.SwapFile.content c.load.new.swap) c.load.new.live c.load.new.stack.items c.load.new.asker c.load.new.budget c.in_ok-answer.answer loads

pub load_job-returns-clause-takes : goal.load_job-returns-clause-takes
load_job-returns-clause-takes g t c =
    let loads : Loads (Some c.args.at.this) (Some c.args.at) c.args.name purposes.Wanted (g.W.SwapFile.content c.args.swap.now) c.args.live.now c.args.stack.now.items c.args.asker.now c.args.budget.now (g.W.SwapFile.content c.load.new.swap) c.load.new.live c.load.new.stack.items c.load.new.asker c.load.new.budget c.in_ok-answer.answer =
    subst (λ n. Loads (Some c.args.at.this) (Some c.args.at) n purposes.Wanted (g.W.SwapFile.content c.args.swap.now) c.args.live.now c.args.stack.now.items c.args.asker.now c.args.budget.now (g.W.SwapFile.content c.load.new.swap) c.load.new.live c.load.new.stack.items c.load.new.asker c.load.new.budget c.in_ok-answer.answer) c.as_slice.ensures c.in_ok-answer.ensures.loads in
    taken_load c.feed_loaded.result c.args.at c.args.name c.args.job.now c.feed_loaded.new.job (g.W.SwapFile.content c.args.swap.now) (g.W.SwapFile.content c.load.new.swap) c.args.live.now c.load.new.live c.args.stack.now.items c.load.new.stack.items c.feed_loaded.new.stack.items
    c.args.asker.now c.load.new.asker c.feed_loaded.new.asker c.args.budget.now c.load.new.budget c.in_ok-answer.answer loads c.feed_loaded.ensures.back c.feed_loaded.ensures.feeds c.feed_loaded.ensures.on c.feed_loaded.ensures.fit c.feed_loaded.ensures.there

pub load_job-returns-clause-tells : goal.load_job-returns-clause-tells
load_job-returns-clause-tells g t c = tells_or_full c.feed_loaded.result c.in_ok-answer.ensures.tells c.feed_loaded.ensures.fault

-- one step,

pub turn_job-returns-in-Ended-clause-turns : goal.turn_job-returns-in-Ended-clause-turns
turn_job-returns-in-Ended-clause-turns g t c =
    subst (λ x. StepsTo x c.args.at c.args.job.now (g.W.SwapFile.content c.args.swap.now) c.args.live.now c.args.stack.now.items c.args.asker.now c.args.budget.now c.step_job.new.job (g.W.SwapFile.content c.step_job.new.swap) c.step_job.new.live c.step_job.new.stack.items c.step_job.new.asker c.step_job.new.budget) c.in-Ended.is c.in_ok-ending.ensures.steps

pub turn_job-answer_job-requires : goal.turn_job-answer_job-requires
turn_job-answer_job-requires g t c =
    let k : WorkAsks c.in-Asks.reached c.in-Asks.args c.args.at c.args.job.now (g.W.SwapFile.content c.args.swap.now) c.args.live.now c.args.stack.now.items c.args.asker.now c.args.budget.now c.step_job.new.job (g.W.SwapFile.content c.step_job.new.swap) c.step_job.new.live c.step_job.new.stack.items c.step_job.new.asker c.step_job.new.budget =
    subst (λ x. StepsTo x c.args.at c.args.job.now (g.W.SwapFile.content c.args.swap.now) c.args.live.now c.args.stack.now.items c.args.asker.now c.args.budget.now c.step_job.new.job (g.W.SwapFile.content c.step_job.new.swap) c.step_job.new.live c.step_job.new.stack.items c.step_job.new.asker c.step_job.new.budget) c.in-Asks.is c.in_ok-ending.ensures.steps in
    let less = k.spends in
    λ κs within. (omega (arith, less), (within, (k.asking, (k.fit, (k.can c.requires.can, λ told live stack asker budget e answers. k.on told live stack asker budget e c.requires.can answers)))))

pub turn_job-returns-in-Asks-clause-turns : goal.turn_job-returns-in-Asks-clause-turns
turn_job-returns-in-Asks-clause-turns g t c =
    let k : WorkAsks c.in-Asks.reached c.in-Asks.args c.args.at c.args.job.now (g.W.SwapFile.content c.args.swap.now) c.args.live.now c.args.stack.now.items c.args.asker.now c.args.budget.now c.step_job.new.job (g.W.SwapFile.content c.step_job.new.swap) c.step_job.new.live c.step_job.new.stack.items c.step_job.new.asker c.step_job.new.budget =
    subst (λ x. StepsTo x c.args.at c.args.job.now (g.W.SwapFile.content c.args.swap.now) c.args.live.now c.args.stack.now.items c.args.asker.now c.args.budget.now c.step_job.new.job (g.W.SwapFile.content c.step_job.new.swap) c.step_job.new.live c.step_job.new.stack.items c.step_job.new.asker c.step_job.new.budget) c.in-Asks.is c.in_ok-ending.ensures.steps in
    if_ok c.answer_job.result
    (λ r takes. asked_turns r c.args.at c.args.job.now c.step_job.new.job c.answer_job.new.job c.in-Asks.reached c.in-Asks.args (g.W.SwapFile.content c.args.swap.now) (g.W.SwapFile.content c.step_job.new.swap) (g.W.SwapFile.content c.answer_job.new.swap) c.args.live.now c.step_job.new.live c.answer_job.new.live
    c.args.stack.now.items c.step_job.new.stack.items c.answer_job.new.stack.items c.args.asker.now c.step_job.new.asker c.answer_job.new.asker c.args.budget.now c.step_job.new.budget c.answer_job.new.budget k takes)
    c.answer_job.ensures.takes

pub turn_job-load_job-requires : goal.turn_job-load_job-requires
turn_job-load_job-requires g t c =
    let k : WorkLoads c.in-Loads.name c.args.at c.args.job.now (g.W.SwapFile.content c.args.swap.now) c.args.live.now c.args.stack.now.items c.args.asker.now c.args.budget.now c.step_job.new.job (g.W.SwapFile.content c.step_job.new.swap) c.step_job.new.live c.step_job.new.stack.items c.step_job.new.asker c.step_job.new.budget =
    subst (λ x. StepsTo x c.args.at c.args.job.now (g.W.SwapFile.content c.args.swap.now) c.args.live.now c.args.stack.now.items c.args.asker.now c.args.budget.now c.step_job.new.job (g.W.SwapFile.content c.step_job.new.swap) c.step_job.new.live c.step_job.new.stack.items c.step_job.new.asker c.step_job.new.budget) c.in-Loads.is c.in_ok-ending.ensures.steps in
    let less = k.spends in
    λ κs within. (omega (arith, less), (within, (k.asking, (k.fit, (k.can c.requires.can, λ told live stack asker budget r loads. k.on told live stack asker budget r c.requires.can loads)))))

pub turn_job-returns-in-Loads-clause-turns : goal.turn_job-returns-in-Loads-clause-turns
turn_job-returns-in-Loads-clause-turns g t c =
    let k : WorkLoads c.in-Loads.name c.args.at c.args.job.now (g.W.SwapFile.content c.args.swap.now) c.args.live.now c.args.stack.now.items c.args.asker.now c.args.budget.now c.step_job.new.job (g.W.SwapFile.content c.step_job.new.swap) c.step_job.new.live c.step_job.new.stack.items c.step_job.new.asker c.step_job.new.budget =
    subst (λ x. StepsTo x c.args.at c.args.job.now (g.W.SwapFile.content c.args.swap.now) c.args.live.now c.args.stack.now.items c.args.asker.now c.args.budget.now c.step_job.new.job (g.W.SwapFile.content c.step_job.new.swap) c.step_job.new.live c.step_job.new.stack.items c.step_job.new.asker c.step_job.new.budget) c.in-Loads.is c.in_ok-ending.ensures.steps in
    if_ok c.load_job.result
    (λ r takes. loaded_turns r c.args.at c.args.job.now c.step_job.new.job c.load_job.new.job c.in-Loads.name (g.W.SwapFile.content c.args.swap.now) (g.W.SwapFile.content c.step_job.new.swap) (g.W.SwapFile.content c.load_job.new.swap) c.args.live.now c.step_job.new.live c.load_job.new.live
    c.args.stack.now.items c.step_job.new.stack.items c.load_job.new.stack.items c.args.asker.now c.step_job.new.asker c.load_job.new.asker c.args.budget.now c.step_job.new.budget c.load_job.new.budget k takes)
    c.load_job.ensures.takes

-- and one after another

pub work-questions-init : goal.work-questions-init
work-questions-init g t c = record {
  can = c.requires.can;
  on = c.requires.on;
  ready = c.requires.ready;
  fit = c.requires.fit;
  same = same_asker c.args.asker.now;
  spends = le_refl c.args.budget.now;
  home = home_same c.args.live.now.objects;
  tells = tells_nothing (g.W.SwapFile.content c.args.swap.now) (g.W.SwapFile.last c.args.swap.now) (g.W.SwapFile.read_faults c.args.swap.now) (g.W.SwapFile.write_faults c.args.swap.now) (g.W.SwapFile.is_truthful c.args.swap.now) (g.W.SwapFile.is_honest c.args.swap.now) c.args.live.now;
  goes = works_same c.args.at c.args.job (g.W.SwapFile.content c.args.swap.now) c.args.live.now c.args.stack.now.items c.args.asker.now c.args.budget.now;
}

pub work-turn_job-requires : goal.work-turn_job-requires
work-turn_job-requires g t c =
    let more = c.questions.invariant.spends in
    λ κs within. (omega (arith, more), (within, (c.questions.invariant.on, (c.questions.invariant.ready, (c.questions.invariant.fit, c.questions.invariant.can)))))

pub work-returns-in-Some-clause-works : goal.work-returns-in-Some-clause-works
work-returns-in-Some-clause-works g t c =
    works_later c.args.at c.args.job c.questions.job (g.W.SwapFile.content c.args.swap.now) (g.W.SwapFile.content c.questions.swap) (g.W.SwapFile.content c.turn_job.new.swap) c.args.live.now c.questions.live c.turn_job.new.live c.args.stack.now.items c.questions.stack.items c.turn_job.new.stack.items
    c.args.asker.now c.questions.asker c.turn_job.new.asker c.args.budget.now c.questions.budget c.turn_job.new.budget c.in-Some.ending c.questions.invariant.goes c.questions.invariant.same c.questions.invariant.spends c.questions.invariant.home
    (subst (λ r. WorkTurnsTo r c.args.at c.questions.job (g.W.SwapFile.content c.questions.swap) c.questions.live c.questions.stack.items c.questions.asker c.questions.budget c.turn_job.new.job (g.W.SwapFile.content c.turn_job.new.swap) c.turn_job.new.live c.turn_job.new.stack.items c.turn_job.new.asker c.turn_job.new.budget) c.in-Some.is c.in_ok-ending.ensures.turns)

pub work-questions-smaller : goal.work-questions-smaller
work-questions-smaller g t c =
    let k : WorkGoesOn c.args.at c.questions.job (g.W.SwapFile.content c.questions.swap) c.questions.live c.questions.stack.items c.questions.asker c.questions.budget c.turn_job.new.job (g.W.SwapFile.content c.turn_job.new.swap) c.turn_job.new.live c.turn_job.new.stack.items c.turn_job.new.asker c.turn_job.new.budget = subst (λ r. WorkTurnsTo r c.args.at c.questions.job (g.W.SwapFile.content c.questions.swap) c.questions.live c.questions.stack.items c.questions.asker c.questions.budget c.turn_job.new.job (g.W.SwapFile.content c.turn_job.new.swap) c.turn_job.new.live c.turn_job.new.stack.items c.turn_job.new.asker c.turn_job.new.budget) c.in_default.is c.in_ok-ending.ensures.turns in
    k.less

pub work-questions-preserved : goal.work-questions-preserved
work-questions-preserved g t c =
    let k : WorkGoesOn c.args.at c.questions.job (g.W.SwapFile.content c.questions.swap) c.questions.live c.questions.stack.items c.questions.asker c.questions.budget c.turn_job.new.job (g.W.SwapFile.content c.turn_job.new.swap) c.turn_job.new.live c.turn_job.new.stack.items c.turn_job.new.asker c.turn_job.new.budget = subst (λ r. WorkTurnsTo r c.args.at c.questions.job (g.W.SwapFile.content c.questions.swap) c.questions.live c.questions.stack.items c.questions.asker c.questions.budget c.turn_job.new.job (g.W.SwapFile.content c.turn_job.new.swap) c.turn_job.new.live c.turn_job.new.stack.items c.turn_job.new.asker c.turn_job.new.budget) c.in_default.is c.in_ok-ending.ensures.turns in
    record {
      can = can_work_on c.args.at c.questions.job c.turn_job.new.job (g.W.SwapFile.content c.questions.swap) (g.W.SwapFile.content c.turn_job.new.swap) c.questions.live c.turn_job.new.live c.questions.stack.items c.turn_job.new.stack.items c.questions.asker c.turn_job.new.asker c.questions.budget c.turn_job.new.budget c.questions.invariant.can k.goes;
      on = k.on;
      ready = k.ready;
      fit = k.fit;
      same = same_later c.args.asker.now c.questions.asker c.turn_job.new.asker c.questions.invariant.same k.same;
      spends = le_trans k.spends c.questions.invariant.spends;
      home = home_later c.args.live.now.objects c.questions.live.objects c.turn_job.new.live.objects c.questions.invariant.home k.home;
      tells = tells_more c.questions.invariant.tells c.in_ok-ending.ensures.tells;
      goes = works_more c.args.at c.args.job c.questions.job c.turn_job.new.job (g.W.SwapFile.content c.args.swap.now) (g.W.SwapFile.content c.questions.swap) (g.W.SwapFile.content c.turn_job.new.swap) c.args.live.now c.questions.live c.turn_job.new.live c.args.stack.now.items c.questions.stack.items c.turn_job.new.stack.items
          c.args.asker.now c.questions.asker c.turn_job.new.asker c.args.budget.now c.questions.budget c.turn_job.new.budget c.questions.invariant.goes k.goes;
    }

-- Objects that were made

pub make-returns-in_err-reached-clause-tells : goal.make-returns-in_err-reached-clause-tells
make-returns-in_err-reached-clause-tells g t c =
    read_exit (Tells (g.W.SwapFile.content c.ask_next.new.swap) (g.W.SwapFile.last c.ask_next.new.swap) (g.W.SwapFile.read_faults c.args.swap.now) (g.W.SwapFile.read_faults c.ask_next.new.swap) (g.W.SwapFile.write_faults c.args.swap.now) (g.W.SwapFile.write_faults c.ask_next.new.swap) (g.W.SwapFile.is_truthful c.args.swap.now) (g.W.SwapFile.is_truthful c.ask_next.new.swap) (g.W.SwapFile.is_honest c.args.swap.now) (g.W.SwapFile.is_honest c.ask_next.new.swap) c.ask_next.new.live)
    c.from_residual.result c.in_err-reached.field-0.0 c.from_residual.ensures.1 (tells_more c.parts.invariant.tells c.in_err-reached.ensures.tells)

pub make-answer-requires : goal.make-answer-requires
make-answer-requires g t c =
    let fit : IsFit c.ask_next.new.live c.parts.stack.items = record { closed = c.in_ok-reached.ensures.closed; there = subst (λ cells. All (IsThere cells) c.parts.stack.items) (sym c.in_ok-reached.ensures.cells) c.parts.invariant.fit.there } in
    let more = c.parts.invariant.spends in
    λ κs within. (omega (arith, more), (within, (fit, make_can c.args.caller c.args.at c.parts.making (g.W.SwapFile.content c.parts.swap) (g.W.SwapFile.content c.ask_next.new.swap) c.parts.live c.ask_next.new.live c.parts.stack.items c.parts.asker c.parts.budget c.in_ok-reached.reached c.in_ok-reached.ensures.asks c.in_ok-reached.ensures.there c.parts.invariant.can)))

pub make-returns-in_err-ending-clause-tells : goal.make-returns-in_err-ending-clause-tells
make-returns-in_err-ending-clause-tells g t c =
    read_exit (Tells (g.W.SwapFile.content c.answer.new.swap) (g.W.SwapFile.last c.answer.new.swap) (g.W.SwapFile.read_faults c.args.swap.now) (g.W.SwapFile.read_faults c.answer.new.swap) (g.W.SwapFile.write_faults c.args.swap.now) (g.W.SwapFile.write_faults c.answer.new.swap) (g.W.SwapFile.is_truthful c.args.swap.now) (g.W.SwapFile.is_truthful c.answer.new.swap) (g.W.SwapFile.is_honest c.args.swap.now) (g.W.SwapFile.is_honest c.answer.new.swap) c.answer.new.live)
    c.from_residual-in_err-ending.result c.in_err-ending.field-0.0 c.from_residual-in_err-ending.ensures.1 (tells_more c.parts.invariant.tells (tells_more c.in_ok-reached.ensures.tells c.in_err-ending.ensures.tells))

pub make-feed_on-requires-clause-stands : goal.make-feed_on-requires-clause-stands
make-feed_on-requires-clause-stands g t c =
    make_stands c.args.caller c.args.at c.parts.making (g.W.SwapFile.content c.parts.swap) (g.W.SwapFile.content c.ask_next.new.swap) c.parts.live c.ask_next.new.live c.parts.stack.items c.parts.asker c.parts.budget c.in_ok-reached.reached c.in_ok-reached.ensures.asks
    c.in_ok-reached.ensures.outputs (g.W.SwapFile.content c.answer.new.swap) c.answer.new.live c.answer.new.stack.items c.answer.new.asker c.answer.new.budget c.in_ok-ending.ending c.in_ok-ending.ensures.answers c.parts.invariant.can

pub make-returns-in_err-feed_on-clause-tells : goal.make-returns-in_err-feed_on-clause-tells
make-returns-in_err-feed_on-clause-tells g t c =
    read_exit (Tells (g.W.SwapFile.content c.feed_on.new.swap) (g.W.SwapFile.last c.feed_on.new.swap) (g.W.SwapFile.read_faults c.args.swap.now) (g.W.SwapFile.read_faults c.feed_on.new.swap) (g.W.SwapFile.write_faults c.args.swap.now) (g.W.SwapFile.write_faults c.feed_on.new.swap) (g.W.SwapFile.is_truthful c.args.swap.now) (g.W.SwapFile.is_truthful c.feed_on.new.swap) (g.W.SwapFile.is_honest c.args.swap.now) (g.W.SwapFile.is_honest c.feed_on.new.swap) c.feed_on.new.live)
    c.from_residual-in_err-feed_on.result c.in_err-feed_on.field-0.0 c.from_residual-in_err-feed_on.ensures.1
    (tells_more c.parts.invariant.tells (tells_more c.in_ok-reached.ensures.tells (tells_more c.in_ok-ending.ensures.tells c.in_err-feed_on.ensures.tells)))

pub make-parts-preserved : goal.make-parts-preserved
make-parts-preserved g t c =
    let later : feeding.IsLater c.parts.making c.feed_on.new.making = subst (λ r. feeding.LeavesLess r c.parts.making c.feed_on.new.making) c.in-Goes.is c.in_ok-feed_on.ensures.less in
    let home : KeepsVariables c.parts.live.objects c.feed_on.new.live.objects =
    home_later c.parts.live.objects c.ask_next.new.live.objects c.feed_on.new.live.objects c.in_ok-reached.ensures.home (home_later c.ask_next.new.live.objects c.answer.new.live.objects c.feed_on.new.live.objects c.in_ok-ending.ensures.answers.home c.in_ok-feed_on.ensures.home) in
    let more : MakeContinues c.args.caller c.args.at c.parts.making (g.W.SwapFile.content c.parts.swap) c.parts.live c.parts.asker c.parts.budget c.feed_on.new.making (g.W.SwapFile.content c.feed_on.new.swap) c.feed_on.new.live c.answer.new.asker c.answer.new.budget =
    make_goes c.args.caller c.args.at c.parts.making (g.W.SwapFile.content c.parts.swap) (g.W.SwapFile.content c.ask_next.new.swap) c.parts.live c.ask_next.new.live c.parts.stack.items c.parts.asker c.parts.budget c.in_ok-reached.reached c.in_ok-reached.ensures.asks
    c.in_ok-reached.ensures.outputs (g.W.SwapFile.content c.answer.new.swap) c.answer.new.live c.answer.new.stack.items c.answer.new.asker c.answer.new.budget c.in_ok-ending.ending c.in_ok-ending.ensures.answers (g.W.SwapFile.content c.feed_on.new.swap) c.feed_on.new.making c.feed_on.new.live c.in_ok-feed_on.ensures.told
    (subst (λ r. feeding.Feeds r c.parts.making c.in_ok-ending.ending c.args.at (g.W.SwapFile.content c.answer.new.swap) c.answer.new.live c.feed_on.new.making c.feed_on.new.live) c.in-Goes.is c.in_ok-feed_on.ensures.feeds) later in
    record {
      can = can_make_on c.args.caller c.args.at c.parts.making c.feed_on.new.making (g.W.SwapFile.content c.parts.swap) (g.W.SwapFile.content c.feed_on.new.swap) c.parts.live c.feed_on.new.live c.parts.asker c.answer.new.asker c.parts.budget c.answer.new.budget c.parts.invariant.can more;
      there = subst (λ (o : ObjId). IsSome (variables_at c.feed_on.new.live.objects o)) (sym later.object) (still_there c.parts.live.objects c.feed_on.new.live.objects c.parts.making.object home c.parts.invariant.there);
      fit = record { closed = c.in_ok-feed_on.ensures.closed; there = subst (λ cells. All (IsThere cells) c.answer.new.stack.items) (sym c.in_ok-feed_on.ensures.cells) c.in_ok-ending.ensures.answers.fit.there };
      lies = make_lies c.args.caller c.args.at c.parts.making (g.W.SwapFile.content c.parts.swap) (g.W.SwapFile.content c.ask_next.new.swap) c.parts.live c.ask_next.new.live c.parts.stack.items c.parts.asker c.parts.budget c.in_ok-reached.reached c.in_ok-reached.ensures.asks
          c.in_ok-reached.ensures.outputs (g.W.SwapFile.content c.answer.new.swap) c.answer.new.live c.answer.new.stack.items c.answer.new.asker c.answer.new.budget c.in_ok-ending.ending c.in_ok-ending.ensures.answers c.parts.invariant.can ∙ c.parts.invariant.lies;
      same = same_later c.args.asker.now c.parts.asker c.answer.new.asker c.parts.invariant.same c.in_ok-ending.ensures.answers.same;
      spends = le_trans c.in_ok-ending.ensures.answers.spends c.parts.invariant.spends;
      home = home_later c.args.live.now.objects c.parts.live.objects c.feed_on.new.live.objects c.parts.invariant.home home;
      tells = tells_more c.parts.invariant.tells (tells_more c.in_ok-reached.ensures.tells (tells_more c.in_ok-ending.ensures.tells c.in_ok-feed_on.ensures.tells));
      goes = makes_more c.args.caller c.args.at c.args.making c.parts.making c.feed_on.new.making (g.W.SwapFile.content c.args.swap.now) (g.W.SwapFile.content c.parts.swap) (g.W.SwapFile.content c.feed_on.new.swap) c.args.live.now c.parts.live c.feed_on.new.live c.args.asker.now c.parts.asker c.answer.new.asker
          c.args.budget.now c.parts.budget c.answer.new.budget c.parts.invariant.goes more;
    }

pub make-returns-in-Ends-clause-makes : goal.make-returns-in-Ends-clause-makes
make-returns-in-Ends-clause-makes g t c =
    let fit : IsFit c.feed_on.new.live c.answer.new.stack.items = record { closed = c.in_ok-feed_on.ensures.closed; there = subst (λ cells. All (IsThere cells) c.answer.new.stack.items) (sym c.in_ok-feed_on.ensures.cells) c.in_ok-ending.ensures.answers.fit.there } in
    makes_later c.args.caller c.args.at c.args.making c.parts.making (g.W.SwapFile.content c.args.swap.now) (g.W.SwapFile.content c.parts.swap) (g.W.SwapFile.content c.feed_on.new.swap) c.args.live.now c.parts.live c.feed_on.new.live c.args.stack.now.items c.parts.stack.items c.answer.new.stack.items
    c.args.asker.now c.parts.asker c.answer.new.asker c.args.budget.now c.parts.budget c.answer.new.budget c.in-Ends.ending c.parts.invariant.goes c.parts.invariant.lies c.parts.invariant.same c.parts.invariant.spends c.parts.invariant.home
    (make_ends c.args.caller c.args.at c.parts.making (g.W.SwapFile.content c.parts.swap) (g.W.SwapFile.content c.ask_next.new.swap) c.parts.live c.ask_next.new.live c.parts.stack.items c.parts.asker c.parts.budget c.in_ok-reached.reached c.in_ok-reached.ensures.asks
    c.in_ok-reached.ensures.outputs (g.W.SwapFile.content c.answer.new.swap) c.answer.new.live c.answer.new.stack.items c.answer.new.asker c.answer.new.budget c.in_ok-ending.ending c.in_ok-ending.ensures.answers (g.W.SwapFile.content c.feed_on.new.swap) c.feed_on.new.making c.feed_on.new.live c.in-Ends.ending c.in_ok-feed_on.ensures.told c.in_ok-feed_on.ensures.cells c.in_ok-reached.ensures.home c.in_ok-feed_on.ensures.home fit c.parts.invariant.can
    (subst (λ r. feeding.Feeds r c.parts.making c.in_ok-ending.ending c.args.at (g.W.SwapFile.content c.answer.new.swap) c.answer.new.live c.feed_on.new.making c.feed_on.new.live) c.in-Ends.is c.in_ok-feed_on.ensures.feeds))

-- Loads

-- The whole load

pub load-load_on-requires : goal.load-load_on-requires
load-load_on-requires g t c =
    let h : BeginsLoad c.in-Runs.job c.args.name.now c.args.purpose c.args.asker.now c.args.budget.now c.begin_load.new.asker c.begin_load.new.budget = subst (λ r. LoadBegins r c.args.name.now c.args.purpose c.args.asker.now c.args.budget.now c.begin_load.new.asker c.begin_load.new.budget) c.in-Runs.is c.in_ok-begin_load.ensures.begins in
    let paid = h.paid in
    λ κs within. (omega (arith, paid), (within, (c.requires.fit, load_can_go c.args.caller c.args.at c.args.name.now c.args.purpose (g.W.SwapFile.content c.args.swap.now) c.args.live.now c.args.stack.now.items c.args.asker.now c.begin_load.new.asker c.args.budget.now c.begin_load.new.budget c.in-Runs.job h c.requires.can)))

pub load-returns-in-Spent-clause-loads : goal.load-returns-in-Spent-clause-loads
load-returns-in-Spent-clause-loads g t c =
    let h : CannotPay c.args.name.now c.args.purpose c.args.asker.now c.args.budget.now c.begin_load.new.asker c.begin_load.new.budget = subst (λ r. LoadBegins r c.args.name.now c.args.purpose c.args.asker.now c.args.budget.now c.begin_load.new.asker c.begin_load.new.budget) c.in-Spent.is c.in_ok-begin_load.ensures.begins in
    subst (λ a. Loads c.args.caller c.args.at c.args.name.now c.args.purpose (g.W.SwapFile.content c.args.swap.now) c.args.live.now c.args.stack.now.items c.args.asker.now c.args.budget.now (g.W.SwapFile.content c.args.swap.now) c.args.live.now c.args.stack.now.items c.begin_load.new.asker c.begin_load.new.budget a) (sym c.unpaid.ensures)
    (load_unpaid c.args.caller c.args.at c.args.name.now c.args.purpose (g.W.SwapFile.content c.args.swap.now) c.args.live.now c.args.stack.now.items c.args.asker.now c.begin_load.new.asker c.args.budget.now c.begin_load.new.budget h c.requires.fit)

pub load-returns-in_ok-answer-in-Runs-clause-loads : goal.load-returns-in_ok-answer-in-Runs-clause-loads
load-returns-in_ok-answer-in-Runs-clause-loads g t c =
    let h : BeginsLoad c.in-Runs.job c.args.name.now c.args.purpose c.args.asker.now c.args.budget.now c.begin_load.new.asker c.begin_load.new.budget = subst (λ r. LoadBegins r c.args.name.now c.args.purpose c.args.asker.now c.args.budget.now c.begin_load.new.asker c.begin_load.new.budget) c.in-Runs.is c.in_ok-begin_load.ensures.begins in
    load_went c.args.caller c.args.at c.args.name.now c.args.purpose (g.W.SwapFile.content c.args.swap.now) c.args.live.now c.args.stack.now.items c.args.asker.now c.begin_load.new.asker c.args.budget.now c.begin_load.new.budget c.in-Runs.job h (g.W.SwapFile.content c.load_on.new.swap) c.load_on.new.live c.load_on.new.stack.items c.load_on.new.asker c.pop_load.new.asker c.load_on.new.budget c.in_ok-answer-in-Runs.answer
    c.in_ok-answer-in-Runs.ensures.loads c.pop_load.ensures.turn c.pop_load.ensures.interactive c.pop_load.ensures.callers c.pop_load.ensures.depth c.pop_load.ensures.loads

-- One step after another

pub load_on-loads-init : goal.load_on-loads-init
load_on-loads-init g t c = record {
  can = c.requires.can;
  fit = c.requires.fit;
  lies = refl;
  same = same_asker c.args.asker.now;
  spends = le_refl c.args.budget.now;
  home = home_same c.args.live.now.objects;
  tells = tells_nothing (g.W.SwapFile.content c.args.swap.now) (g.W.SwapFile.last c.args.swap.now) (g.W.SwapFile.read_faults c.args.swap.now) (g.W.SwapFile.write_faults c.args.swap.now) (g.W.SwapFile.is_truthful c.args.swap.now) (g.W.SwapFile.is_honest c.args.swap.now) c.args.live.now;
  goes = loads_same c.args.caller c.args.at c.args.job goings.Simul (g.W.SwapFile.content c.args.swap.now) c.args.live.now c.args.asker.now c.args.budget.now;
}

pub load_on-returns-in-Ends-clause-loads : goal.load_on-returns-in-Ends-clause-loads
load_on-returns-in-Ends-clause-loads g t c =
    let leads : LeadsOn (steps.Ends c.in-Ends.answer) c.loads.job c.loads.going c.loads.asker.loads.items (g.W.SwapFile.content c.loads.swap) c.loads.live (g.W.SwapFile.content c.step_load.new.swap) c.step_load.new.live = subst (λ r. LeadsOn r c.loads.job c.loads.going c.loads.asker.loads.items (g.W.SwapFile.content c.loads.swap) c.loads.live (g.W.SwapFile.content c.step_load.new.swap) c.step_load.new.live) c.in-Ends.is c.in_ok-answer.ensures.leads in
    let fit : IsFit c.step_load.new.live c.loads.stack.items = record { closed = c.in_ok-answer.ensures.closed; there = subst (λ cells. All (IsThere cells) c.loads.stack.items) (sym c.in_ok-answer.ensures.cells) c.loads.invariant.fit.there } in
    loads_later c.args.caller c.args.at c.args.job c.loads.job goings.Simul c.loads.going (g.W.SwapFile.content c.args.swap.now) (g.W.SwapFile.content c.loads.swap) (g.W.SwapFile.content c.step_load.new.swap) c.args.live.now c.loads.live c.step_load.new.live c.args.stack.now.items c.loads.stack.items c.loads.stack.items c.args.asker.now c.loads.asker c.loads.asker c.args.budget.now c.loads.budget c.loads.budget c.in-Ends.answer
    c.loads.invariant.goes c.loads.invariant.lies c.loads.invariant.same c.loads.invariant.spends c.loads.invariant.home
    (load_ended c.args.caller c.args.at c.loads.job c.loads.going (g.W.SwapFile.content c.loads.swap) (g.W.SwapFile.content c.step_load.new.swap) c.loads.live c.step_load.new.live c.loads.stack.items c.loads.asker c.loads.budget c.in-Ends.answer leads c.in_ok-answer.ensures.home fit c.loads.invariant.can)

pub load_on-make-requires : goal.load_on-make-requires
load_on-make-requires g t c =
    let leads : LeadsOn (steps.Makes c.in-Makes.making) c.loads.job c.loads.going c.loads.asker.loads.items (g.W.SwapFile.content c.loads.swap) c.loads.live (g.W.SwapFile.content c.step_load.new.swap) c.step_load.new.live = subst (λ r. LeadsOn r c.loads.job c.loads.going c.loads.asker.loads.items (g.W.SwapFile.content c.loads.swap) c.loads.live (g.W.SwapFile.content c.step_load.new.swap) c.step_load.new.live) c.in-Makes.is c.in_ok-answer.ensures.leads in
    let fit : IsFit c.step_load.new.live c.loads.stack.items = record { closed = c.in_ok-answer.ensures.closed; there = subst (λ cells. All (IsThere cells) c.loads.stack.items) (sym c.in_ok-answer.ensures.cells) c.loads.invariant.fit.there } in
    let more = c.loads.invariant.spends in
    λ κs within. (omega (arith, more), (within, (subst (MakesHome c.step_load.new.live.objects) c.in-Makes.is c.in_ok-answer.ensures.made, (fit, load_can_make c.args.caller c.args.at c.loads.job c.loads.going (g.W.SwapFile.content c.loads.swap) (g.W.SwapFile.content c.step_load.new.swap) c.loads.live c.step_load.new.live c.loads.stack.items c.loads.asker c.loads.budget c.in-Makes.making leads (subst (MakesHome c.step_load.new.live.objects) c.in-Makes.is c.in_ok-answer.ensures.made) c.loads.invariant.can))))

pub load_on-returns-in-Makes-clause-loads : goal.load_on-returns-in-Makes-clause-loads
load_on-returns-in-Makes-clause-loads g t c =
    let leads : LeadsOn (steps.Makes c.in-Makes.making) c.loads.job c.loads.going c.loads.asker.loads.items (g.W.SwapFile.content c.loads.swap) c.loads.live (g.W.SwapFile.content c.step_load.new.swap) c.step_load.new.live = subst (λ r. LeadsOn r c.loads.job c.loads.going c.loads.asker.loads.items (g.W.SwapFile.content c.loads.swap) c.loads.live (g.W.SwapFile.content c.step_load.new.swap) c.step_load.new.live) c.in-Makes.is c.in_ok-answer.ensures.leads in
    subst (λ a. LoadsOn c.args.caller c.args.at c.args.job goings.Simul (g.W.SwapFile.content c.args.swap.now) c.args.live.now c.args.stack.now.items c.args.asker.now c.args.budget.now (g.W.SwapFile.content c.make.new.swap) c.make.new.live c.make.new.stack.items c.make.new.asker c.make.new.budget a) (sym c.answer_of.ensures.answer)
    (loads_later c.args.caller c.args.at c.args.job c.loads.job goings.Simul c.loads.going (g.W.SwapFile.content c.args.swap.now) (g.W.SwapFile.content c.loads.swap) (g.W.SwapFile.content c.make.new.swap) c.args.live.now c.loads.live c.make.new.live c.args.stack.now.items c.loads.stack.items c.make.new.stack.items c.args.asker.now c.loads.asker c.make.new.asker c.args.budget.now c.loads.budget c.make.new.budget _
    c.loads.invariant.goes c.loads.invariant.lies c.loads.invariant.same c.loads.invariant.spends c.loads.invariant.home
    (load_made c.args.caller c.args.at c.loads.job c.loads.going (g.W.SwapFile.content c.loads.swap) (g.W.SwapFile.content c.step_load.new.swap) c.loads.live c.step_load.new.live c.loads.stack.items c.loads.asker c.loads.budget c.in-Makes.making leads (subst (MakesHome c.step_load.new.live.objects) c.in-Makes.is c.in_ok-answer.ensures.made)
    (g.W.SwapFile.content c.make.new.swap) c.make.new.live c.make.new.stack.items c.make.new.asker c.make.new.budget c.in_ok-ending-in-Makes.ending c.in_ok-ending-in-Makes.ensures.makes c.in_ok-answer.ensures.home))

pub load_on-load-requires : goal.load_on-load-requires
load_on-load-requires g t c =
    let leads : LeadsOn (steps.Asks c.in-Asks.name c.in-Asks.waiting) c.loads.job c.loads.going c.loads.asker.loads.items (g.W.SwapFile.content c.loads.swap) c.loads.live (g.W.SwapFile.content c.step_load.new.swap) c.step_load.new.live = subst (λ r. LeadsOn r c.loads.job c.loads.going c.loads.asker.loads.items (g.W.SwapFile.content c.loads.swap) c.loads.live (g.W.SwapFile.content c.step_load.new.swap) c.step_load.new.live) c.in-Asks.is c.in_ok-answer.ensures.leads in
    let fit : IsFit c.step_load.new.live c.loads.stack.items = record { closed = c.in_ok-answer.ensures.closed; there = subst (λ cells. All (IsThere cells) c.loads.stack.items) (sym c.in_ok-answer.ensures.cells) c.loads.invariant.fit.there } in
    let more = c.loads.invariant.spends in
    λ κs within. (omega (arith, more), (within, (fit, load_can_ask c.args.caller c.args.at c.loads.job c.loads.going (g.W.SwapFile.content c.loads.swap) (g.W.SwapFile.content c.step_load.new.swap) c.loads.live c.step_load.new.live c.loads.stack.items c.loads.asker c.loads.budget c.in-Asks.name c.in-Asks.waiting leads c.loads.invariant.can)))

pub load_on-returns-in-Ends-2-clause-loads : goal.load_on-returns-in-Ends-2-clause-loads
load_on-returns-in-Ends-2-clause-loads g t c =
    let leads : LeadsOn (steps.Asks c.in-Asks.name c.in-Asks.waiting) c.loads.job c.loads.going c.loads.asker.loads.items (g.W.SwapFile.content c.loads.swap) c.loads.live (g.W.SwapFile.content c.step_load.new.swap) c.step_load.new.live = subst (λ r. LeadsOn r c.loads.job c.loads.going c.loads.asker.loads.items (g.W.SwapFile.content c.loads.swap) c.loads.live (g.W.SwapFile.content c.step_load.new.swap) c.step_load.new.live) c.in-Asks.is c.in_ok-answer.ensures.leads in
    let named : c.as_slice.result.now ≡ c.in-Asks.name = c.as_slice.ensures in
    let loads : Loads c.args.caller c.args.at c.in-Asks.name purposes.Inherited (g.W.SwapFile.content c.step_load.new.swap) c.step_load.new.live c.loads.stack.items c.loads.asker c.loads.budget (g.W.SwapFile.content c.load.new.swap) c.load.new.live c.load.new.stack.items c.load.new.asker c.load.new.budget c.in_ok-answer-in-Asks.answer =
    subst (λ n. Loads c.args.caller c.args.at n purposes.Inherited (g.W.SwapFile.content c.step_load.new.swap) c.step_load.new.live c.loads.stack.items c.loads.asker c.loads.budget (g.W.SwapFile.content c.load.new.swap) c.load.new.live c.load.new.stack.items c.load.new.asker c.load.new.budget c.in_ok-answer-in-Asks.answer) named c.in_ok-answer-in-Asks.ensures.loads in
    let takes : (told : Option Bytes) (turn : Turn) (b : ℕ) → Takes (fed.Ends c.in-Ends-2.answer) c.loads.job c.in-Asks.waiting c.in_ok-answer-in-Asks.answer told c.load.new.live c.feed_load.new.job turn b =
    subst (λ f. (told : Option Bytes) (turn : Turn) (b : ℕ) → Takes f c.loads.job c.in-Asks.waiting c.in_ok-answer-in-Asks.answer told c.load.new.live c.feed_load.new.job turn b) c.in-Ends-2.is c.in_ok-next-in-Asks.ensures.takes in
    loads_later c.args.caller c.args.at c.args.job c.loads.job goings.Simul c.loads.going (g.W.SwapFile.content c.args.swap.now) (g.W.SwapFile.content c.loads.swap) (g.W.SwapFile.content c.load.new.swap) c.args.live.now c.loads.live c.load.new.live c.args.stack.now.items c.loads.stack.items c.load.new.stack.items c.args.asker.now c.loads.asker c.load.new.asker c.args.budget.now c.loads.budget c.load.new.budget c.in-Ends-2.answer
    c.loads.invariant.goes c.loads.invariant.lies c.loads.invariant.same c.loads.invariant.spends c.loads.invariant.home
    (load_ends c.args.caller c.args.at c.loads.job c.loads.going (g.W.SwapFile.content c.loads.swap) (g.W.SwapFile.content c.step_load.new.swap) c.loads.live c.step_load.new.live c.loads.stack.items c.loads.asker c.loads.budget c.in-Asks.name c.in-Asks.waiting leads (g.W.SwapFile.content c.load.new.swap) c.load.new.live c.load.new.stack.items c.load.new.asker c.load.new.budget c.in_ok-answer-in-Asks.answer loads c.in-Ends-2.answer c.feed_load.new.job takes c.in_ok-answer.ensures.home (subst (EndsThere c.load.new.live.cells) c.in-Ends-2.is (c.in_ok-next-in-Asks.ensures.there c.load.new.live.cells loads.there)))

pub load_on-loads-smaller : goal.load_on-loads-smaller
load_on-loads-smaller g t c =
    let leads : LeadsOn (steps.Asks c.in-Asks.name c.in-Asks.waiting) c.loads.job c.loads.going c.loads.asker.loads.items (g.W.SwapFile.content c.loads.swap) c.loads.live (g.W.SwapFile.content c.step_load.new.swap) c.step_load.new.live = subst (λ r. LeadsOn r c.loads.job c.loads.going c.loads.asker.loads.items (g.W.SwapFile.content c.loads.swap) c.loads.live (g.W.SwapFile.content c.step_load.new.swap) c.step_load.new.live) c.in-Asks.is c.in_ok-answer.ensures.leads in
    let named : c.as_slice.result.now ≡ c.in-Asks.name = c.as_slice.ensures in
    let loads : Loads c.args.caller c.args.at c.in-Asks.name purposes.Inherited (g.W.SwapFile.content c.step_load.new.swap) c.step_load.new.live c.loads.stack.items c.loads.asker c.loads.budget (g.W.SwapFile.content c.load.new.swap) c.load.new.live c.load.new.stack.items c.load.new.asker c.load.new.budget c.in_ok-answer-in-Asks.answer =
    subst (λ n. Loads c.args.caller c.args.at n purposes.Inherited (g.W.SwapFile.content c.step_load.new.swap) c.step_load.new.live c.loads.stack.items c.loads.asker c.loads.budget (g.W.SwapFile.content c.load.new.swap) c.load.new.live c.load.new.stack.items c.load.new.asker c.load.new.budget c.in_ok-answer-in-Asks.answer) named c.in_ok-answer-in-Asks.ensures.loads in
    let reads : c.in-Goes.next ≡ goings.Read = subst GoesReading c.in-Goes.is c.in_ok-next-in-Asks.ensures.reads in
    let takes : (told : Option Bytes) (turn : Turn) (b : ℕ) → Takes (fed.Goes c.in-Goes.next) c.loads.job c.in-Asks.waiting c.in_ok-answer-in-Asks.answer told c.load.new.live c.feed_load.new.job turn b =
    subst (λ f. (told : Option Bytes) (turn : Turn) (b : ℕ) → Takes f c.loads.job c.in-Asks.waiting c.in_ok-answer-in-Asks.answer told c.load.new.live c.feed_load.new.job turn b) c.in-Goes.is c.in_ok-next-in-Asks.ensures.takes in
    let paid = load_paid c.args.caller c.args.at c.loads.job c.loads.going (g.W.SwapFile.content c.loads.swap) (g.W.SwapFile.content c.step_load.new.swap) c.loads.live c.step_load.new.live c.loads.stack.items c.loads.asker c.loads.budget c.in-Asks.name c.in-Asks.waiting leads (g.W.SwapFile.content c.load.new.swap) c.load.new.live c.load.new.stack.items c.load.new.asker c.load.new.budget c.in_ok-answer-in-Asks.answer loads c.feed_load.new.job c.loads.invariant.can (subst (λ x. (told : Option Bytes) (turn : Turn) (b : ℕ) → Takes (fed.Goes x) c.loads.job c.in-Asks.waiting c.in_ok-answer-in-Asks.answer told c.load.new.live c.feed_load.new.job turn b) reads takes) in
    let none : turns_left c.in-Goes.next ≡ 0 = ap turns_left reads in
    omega (arith, paid, none)

pub load_on-loads-preserved : goal.load_on-loads-preserved
load_on-loads-preserved g t c =
    let leads : LeadsOn (steps.Asks c.in-Asks.name c.in-Asks.waiting) c.loads.job c.loads.going c.loads.asker.loads.items (g.W.SwapFile.content c.loads.swap) c.loads.live (g.W.SwapFile.content c.step_load.new.swap) c.step_load.new.live = subst (λ r. LeadsOn r c.loads.job c.loads.going c.loads.asker.loads.items (g.W.SwapFile.content c.loads.swap) c.loads.live (g.W.SwapFile.content c.step_load.new.swap) c.step_load.new.live) c.in-Asks.is c.in_ok-answer.ensures.leads in
    let named : c.as_slice.result.now ≡ c.in-Asks.name = c.as_slice.ensures in
    let loads : Loads c.args.caller c.args.at c.in-Asks.name purposes.Inherited (g.W.SwapFile.content c.step_load.new.swap) c.step_load.new.live c.loads.stack.items c.loads.asker c.loads.budget (g.W.SwapFile.content c.load.new.swap) c.load.new.live c.load.new.stack.items c.load.new.asker c.load.new.budget c.in_ok-answer-in-Asks.answer =
    subst (λ n. Loads c.args.caller c.args.at n purposes.Inherited (g.W.SwapFile.content c.step_load.new.swap) c.step_load.new.live c.loads.stack.items c.loads.asker c.loads.budget (g.W.SwapFile.content c.load.new.swap) c.load.new.live c.load.new.stack.items c.load.new.asker c.load.new.budget c.in_ok-answer-in-Asks.answer) named c.in_ok-answer-in-Asks.ensures.loads in
    let takes : (told : Option Bytes) (turn : Turn) (b : ℕ) → Takes (fed.Goes c.in-Goes.next) c.loads.job c.in-Asks.waiting c.in_ok-answer-in-Asks.answer told c.load.new.live c.feed_load.new.job turn b =
    subst (λ f. (told : Option Bytes) (turn : Turn) (b : ℕ) → Takes f c.loads.job c.in-Asks.waiting c.in_ok-answer-in-Asks.answer told c.load.new.live c.feed_load.new.job turn b) c.in-Goes.is c.in_ok-next-in-Asks.ensures.takes in
    let more : LoadContinues c.args.caller c.args.at c.loads.job c.loads.going (g.W.SwapFile.content c.loads.swap) c.loads.live c.loads.asker c.loads.budget c.feed_load.new.job c.in-Goes.next (g.W.SwapFile.content c.load.new.swap) c.load.new.live c.load.new.asker c.load.new.budget =
    load_goes c.args.caller c.args.at c.loads.job c.loads.going (g.W.SwapFile.content c.loads.swap) (g.W.SwapFile.content c.step_load.new.swap) c.loads.live c.step_load.new.live c.loads.stack.items c.loads.asker c.loads.budget c.in-Asks.name c.in-Asks.waiting leads (g.W.SwapFile.content c.load.new.swap) c.load.new.live c.load.new.stack.items c.load.new.asker c.load.new.budget c.in_ok-answer-in-Asks.answer loads c.in-Goes.next c.feed_load.new.job takes c.in_ok-next-in-Asks.ensures.same in
    record {
      can = can_load_on c.args.caller c.args.at c.loads.job c.feed_load.new.job c.loads.going c.in-Goes.next (g.W.SwapFile.content c.loads.swap) (g.W.SwapFile.content c.load.new.swap) c.loads.live c.load.new.live c.loads.asker c.load.new.asker c.loads.budget c.load.new.budget c.loads.invariant.can more;
      fit = loads.fit;
      lies = load_lies c.args.caller c.args.at c.loads.job c.loads.going (g.W.SwapFile.content c.loads.swap) (g.W.SwapFile.content c.step_load.new.swap) c.loads.live c.step_load.new.live c.loads.stack.items c.loads.asker c.loads.budget c.in-Asks.name c.in-Asks.waiting leads (g.W.SwapFile.content c.load.new.swap) c.load.new.live c.load.new.stack.items c.load.new.asker c.load.new.budget c.in_ok-answer-in-Asks.answer loads c.loads.invariant.can ∙ c.loads.invariant.lies;
      same = same_later c.args.asker.now c.loads.asker c.load.new.asker c.loads.invariant.same loads.same;
      spends = le_trans loads.spends c.loads.invariant.spends;
      home = home_later c.args.live.now.objects c.loads.live.objects c.load.new.live.objects c.loads.invariant.home (home_later c.loads.live.objects c.step_load.new.live.objects c.load.new.live.objects c.in_ok-answer.ensures.home loads.home);
      tells = tells_more c.loads.invariant.tells (tells_more c.in_ok-answer.ensures.tells c.in_ok-answer-in-Asks.ensures.tells);
      goes = loads_more c.args.caller c.args.at c.args.job c.loads.job c.feed_load.new.job goings.Simul c.loads.going c.in-Goes.next (g.W.SwapFile.content c.args.swap.now) (g.W.SwapFile.content c.loads.swap) (g.W.SwapFile.content c.load.new.swap) c.args.live.now c.loads.live c.load.new.live c.args.asker.now c.loads.asker c.load.new.asker c.args.budget.now c.loads.budget c.load.new.budget c.loads.invariant.goes more;
    }

-- Clones

pub call_clone-returns-in-Ends-clause-answers : goal.call_clone-returns-in-Ends-clause-answers
call_clone-returns-in-Ends-clause-answers g t c =
    let begins : Begins (begun.Ends c.in-Ends.ending) (g.W.SwapFile.content c.args.swap.now) c.args.live.now c.args.stack.now.items c.args.args c.args.budget.now c.begin_clone.new.live c.begin_clone.new.stack.items c.begin_clone.new.budget = subst (λ r. Begins r (g.W.SwapFile.content c.args.swap.now) c.args.live.now c.args.stack.now.items c.args.args c.args.budget.now c.begin_clone.new.live c.begin_clone.new.stack.items c.begin_clone.new.budget) c.in-Ends.is c.in_ok-ending.ensures.begins in
    subst (λ x. Answers (requests.Efun c.args.at efuns.CloneObject) c.args.args (g.W.SwapFile.content c.args.swap.now) c.args.live.now c.args.stack.now.items c.args.asker.now c.args.budget.now x c.begin_clone.new.live c.begin_clone.new.stack.items c.args.asker.now c.begin_clone.new.budget c.in-Ends.ending) (sym c.in_ok-ending.ensures.told)
    (clone_answered c.args.at c.args.args (g.W.SwapFile.content c.args.swap.now) c.args.live.now c.begin_clone.new.live c.args.stack.now.items c.begin_clone.new.stack.items c.args.asker.now c.args.budget.now c.begin_clone.new.budget c.in-Ends.ending begins c.in_ok-ending.ensures.fit c.in_ok-ending.ensures.home c.in_ok-ending.ensures.spends (subst (IsBegunThere c.begin_clone.new.live.cells) c.in-Ends.is (c.in_ok-ending.ensures.there c.begin_clone.new.live.cells)))

pub call_clone-load_clone-requires : goal.call_clone-load_clone-requires
call_clone-load_clone-requires g t c =
    let begins : Begins (begun.Runs c.in-Runs.cloning) (g.W.SwapFile.content c.args.swap.now) c.args.live.now c.args.stack.now.items c.args.args c.args.budget.now c.begin_clone.new.live c.begin_clone.new.stack.items c.begin_clone.new.budget = subst (λ r. Begins r (g.W.SwapFile.content c.args.swap.now) c.args.live.now c.args.stack.now.items c.args.args c.args.budget.now c.begin_clone.new.live c.begin_clone.new.stack.items c.begin_clone.new.budget) c.in-Runs.is c.in_ok-ending.ensures.begins in
    let less = c.in_ok-ending.ensures.spends in
    λ κs within. (
      omega (arith, less),
      (
        within,
        (
          c.in_ok-ending.ensures.fit,
          subst (λ x. CanClone c.args.at x (g.W.SwapFile.content c.begin_clone.new.swap) c.begin_clone.new.live c.args.asker.now c.begin_clone.new.budget) c.in-Load.is
              (subst (λ x. CanClone c.args.at c.in-Runs.cloning x c.begin_clone.new.live c.args.asker.now c.begin_clone.new.budget) (sym c.in_ok-ending.ensures.told) (clone_can c.args.at c.args.args (g.W.SwapFile.content c.args.swap.now) c.args.live.now c.begin_clone.new.live c.args.stack.now.items c.begin_clone.new.stack.items c.args.asker.now c.args.budget.now c.begin_clone.new.budget c.in-Runs.cloning begins c.requires.can)),
        ),
      ),
    )

pub call_clone-returns-in-Load-clause-answers : goal.call_clone-returns-in-Load-clause-answers
call_clone-returns-in-Load-clause-answers g t c =
    let begins : Begins (begun.Runs c.in-Runs.cloning) (g.W.SwapFile.content c.args.swap.now) c.args.live.now c.args.stack.now.items c.args.args c.args.budget.now c.begin_clone.new.live c.begin_clone.new.stack.items c.begin_clone.new.budget = subst (λ r. Begins r (g.W.SwapFile.content c.args.swap.now) c.args.live.now c.args.stack.now.items c.args.args c.args.budget.now c.begin_clone.new.live c.begin_clone.new.stack.items c.begin_clone.new.budget) c.in-Runs.is c.in_ok-ending.ensures.begins in
    if_ok c.load_clone.result
    (λ e h. clone_answers c.args.at c.args.args (g.W.SwapFile.content c.args.swap.now) c.args.live.now c.begin_clone.new.live c.args.stack.now.items c.begin_clone.new.stack.items c.args.asker.now c.args.budget.now c.begin_clone.new.budget c.in-Runs.cloning begins (g.W.SwapFile.content c.load_clone.new.swap) c.load_clone.new.live c.load_clone.new.stack.items c.load_clone.new.asker c.load_clone.new.budget e
    (subst (λ x. Clones c.args.at c.in-Runs.cloning x c.begin_clone.new.live c.begin_clone.new.stack.items c.args.asker.now c.begin_clone.new.budget (g.W.SwapFile.content c.load_clone.new.swap) c.load_clone.new.live c.load_clone.new.stack.items c.load_clone.new.asker c.load_clone.new.budget e) c.in_ok-ending.ensures.told
    (subst (λ x. Clones c.args.at x (g.W.SwapFile.content c.begin_clone.new.swap) c.begin_clone.new.live c.begin_clone.new.stack.items c.args.asker.now c.begin_clone.new.budget (g.W.SwapFile.content c.load_clone.new.swap) c.load_clone.new.live c.load_clone.new.stack.items c.load_clone.new.asker c.load_clone.new.budget e) (sym c.in-Load.is) h))
    c.in_ok-ending.ensures.home c.in_ok-ending.ensures.spends)
    c.load_clone.ensures.clones

pub call_clone-make-requires : goal.call_clone-make-requires
call_clone-make-requires g t c =
    let begins : Begins (begun.Runs c.in-Runs.cloning) (g.W.SwapFile.content c.args.swap.now) c.args.live.now c.args.stack.now.items c.args.args c.args.budget.now c.begin_clone.new.live c.begin_clone.new.stack.items c.begin_clone.new.budget = subst (λ r. Begins r (g.W.SwapFile.content c.args.swap.now) c.args.live.now c.args.stack.now.items c.args.args c.args.budget.now c.begin_clone.new.live c.begin_clone.new.stack.items c.begin_clone.new.budget) c.in-Runs.is c.in_ok-ending.ensures.begins in
    let home : IsSome (variables_at c.begin_clone.new.live.objects c.in-Make.making.object) = subst (IsHome c.begin_clone.new.live.objects) c.in-Make.is (subst (IsReady c.begin_clone.new.live.objects) c.in-Runs.is c.in_ok-ending.ensures.ready).1 in
    let less = c.in_ok-ending.ensures.spends in
    λ κs within. (
      omega (arith, less),
      (
        within,
        (
          home,
          (
            c.in_ok-ending.ensures.fit,
            clone_can_make c.args.at c.in-Make.making (g.W.SwapFile.content c.begin_clone.new.swap) c.begin_clone.new.live c.begin_clone.new.stack.items c.args.asker.now c.begin_clone.new.budget home
                (subst (λ x. CanClone c.args.at x (g.W.SwapFile.content c.begin_clone.new.swap) c.begin_clone.new.live c.args.asker.now c.begin_clone.new.budget) c.in-Make.is
                (subst (λ x. CanClone c.args.at c.in-Runs.cloning x c.begin_clone.new.live c.args.asker.now c.begin_clone.new.budget) (sym c.in_ok-ending.ensures.told) (clone_can c.args.at c.args.args (g.W.SwapFile.content c.args.swap.now) c.args.live.now c.begin_clone.new.live c.args.stack.now.items c.begin_clone.new.stack.items c.args.asker.now c.args.budget.now c.begin_clone.new.budget c.in-Runs.cloning begins c.requires.can))),
          ),
        ),
      ),
    )

pub call_clone-returns-in_ok-ending-in-Make-clause-answers : goal.call_clone-returns-in_ok-ending-in-Make-clause-answers
call_clone-returns-in_ok-ending-in-Make-clause-answers g t c =
    let begins : Begins (begun.Runs c.in-Runs.cloning) (g.W.SwapFile.content c.args.swap.now) c.args.live.now c.args.stack.now.items c.args.args c.args.budget.now c.begin_clone.new.live c.begin_clone.new.stack.items c.begin_clone.new.budget = subst (λ r. Begins r (g.W.SwapFile.content c.args.swap.now) c.args.live.now c.args.stack.now.items c.args.args c.args.budget.now c.begin_clone.new.live c.begin_clone.new.stack.items c.begin_clone.new.budget) c.in-Runs.is c.in_ok-ending.ensures.begins in
    let home : IsSome (variables_at c.begin_clone.new.live.objects c.in-Make.making.object) = subst (IsHome c.begin_clone.new.live.objects) c.in-Make.is (subst (IsReady c.begin_clone.new.live.objects) c.in-Runs.is c.in_ok-ending.ensures.ready).1 in
    clone_answers c.args.at c.args.args (g.W.SwapFile.content c.args.swap.now) c.args.live.now c.begin_clone.new.live c.args.stack.now.items c.begin_clone.new.stack.items c.args.asker.now c.args.budget.now c.begin_clone.new.budget c.in-Runs.cloning begins (g.W.SwapFile.content c.make.new.swap) c.make.new.live c.make.new.stack.items c.make.new.asker c.make.new.budget c.cloned.result
    (subst (λ x. Clones c.args.at c.in-Runs.cloning x c.begin_clone.new.live c.begin_clone.new.stack.items c.args.asker.now c.begin_clone.new.budget (g.W.SwapFile.content c.make.new.swap) c.make.new.live c.make.new.stack.items c.make.new.asker c.make.new.budget c.cloned.result) c.in_ok-ending.ensures.told
    (subst (λ x. Clones c.args.at x (g.W.SwapFile.content c.begin_clone.new.swap) c.begin_clone.new.live c.begin_clone.new.stack.items c.args.asker.now c.begin_clone.new.budget (g.W.SwapFile.content c.make.new.swap) c.make.new.live c.make.new.stack.items c.make.new.asker c.make.new.budget c.cloned.result) (sym c.in-Make.is)
    (clone_made c.args.at c.in-Make.making (g.W.SwapFile.content c.begin_clone.new.swap) c.begin_clone.new.live c.begin_clone.new.stack.items c.args.asker.now c.begin_clone.new.budget home (g.W.SwapFile.content c.make.new.swap) c.make.new.live c.make.new.stack.items c.make.new.asker c.make.new.budget c.in_ok-ending-in-Make.ending c.cloned.result
    c.in_ok-ending-in-Make.ensures.makes c.cloned.ensures.cloned c.cloned.ensures.same)))
    c.in_ok-ending.ensures.home c.in_ok-ending.ensures.spends

pub load_clone-clone_loaded-requires-clause-stands : goal.load_clone-clone_loaded-requires-clause-stands
load_clone-clone_loaded-requires-clause-stands g t c =
    let text : c.in_ok-text.text ≡ chars (string_bytes c.args.name) = c.in_ok-text.ensures ∙ ap chars c.as_str.ensures.value in
    let loads : Loads (Some c.args.at.this) (Some c.args.at) (chars (string_bytes c.args.name)) purposes.Wanted (g.W.SwapFile.content c.args.swap.now) c.args.live.now c.args.stack.now.items c.args.asker.now c.args.budget.now (g.W.SwapFile.content c.load.new.swap) c.load.new.live c.load.new.stack.items c.load.new.asker c.load.new.budget c.in_ok-answer.answer =
    subst (λ n. Loads (Some c.args.at.this) (Some c.args.at) n purposes.Wanted (g.W.SwapFile.content c.args.swap.now) c.args.live.now c.args.stack.now.items c.args.asker.now c.args.budget.now (g.W.SwapFile.content c.load.new.swap) c.load.new.live c.load.new.stack.items c.load.new.asker c.load.new.budget c.in_ok-answer.answer) (c.as_slice.ensures ∙ text) c.in_ok-answer.ensures.loads in
    clone_load_stands c.args.at c.args.name (g.W.SwapFile.content c.args.swap.now) c.args.live.now c.args.stack.now.items c.args.asker.now c.args.budget.now c.law_loads_through.ensures (g.W.SwapFile.content c.load.new.swap) c.load.new.live c.load.new.stack.items c.load.new.asker c.load.new.budget c.in_ok-answer.answer loads c.requires.can

pub load_clone-returns-in-Ends-clause-clones : goal.load_clone-returns-in-Ends-clause-clones
load_clone-returns-in-Ends-clause-clones g t c =
    let text : c.in_ok-text.text ≡ chars (string_bytes c.args.name) = c.in_ok-text.ensures ∙ ap chars c.as_str.ensures.value in
    let loads : Loads (Some c.args.at.this) (Some c.args.at) (chars (string_bytes c.args.name)) purposes.Wanted (g.W.SwapFile.content c.args.swap.now) c.args.live.now c.args.stack.now.items c.args.asker.now c.args.budget.now (g.W.SwapFile.content c.load.new.swap) c.load.new.live c.load.new.stack.items c.load.new.asker c.load.new.budget c.in_ok-answer.answer =
    subst (λ n. Loads (Some c.args.at.this) (Some c.args.at) n purposes.Wanted (g.W.SwapFile.content c.args.swap.now) c.args.live.now c.args.stack.now.items c.args.asker.now c.args.budget.now (g.W.SwapFile.content c.load.new.swap) c.load.new.live c.load.new.stack.items c.load.new.asker c.load.new.budget c.in_ok-answer.answer) (c.as_slice.ensures ∙ text) c.in_ok-answer.ensures.loads in
    let ending : c.in_ok-ending.ending ≡ loaded_ending (chars (string_bytes c.args.name)) c.in_ok-answer.answer = c.in_ok-ending.ensures.ending ∙ ap (λ n. loaded_ending n c.in_ok-answer.answer) text in
    let loaded : LoadedAs (begun.Ends c.in-Ends.ending) (chars (string_bytes c.args.name)) (loaded_ending (chars (string_bytes c.args.name)) c.in_ok-answer.answer) (g.W.SwapFile.content c.load.new.swap) c.load.new.live c.clone_loaded.new.live =
    subst (λ e. LoadedAs (begun.Ends c.in-Ends.ending) (chars (string_bytes c.args.name)) e (g.W.SwapFile.content c.load.new.swap) c.load.new.live c.clone_loaded.new.live) ending (subst (λ r. LoadedAs r (chars (string_bytes c.args.name)) c.in_ok-ending.ending (g.W.SwapFile.content c.load.new.swap) c.load.new.live c.clone_loaded.new.live) c.in-Ends.is c.in_ok-ending-2.ensures.loaded) in
    let fit : IsFit c.clone_loaded.new.live c.load.new.stack.items = record { closed = c.in_ok-ending-2.ensures.closed; there = subst (λ cells. All (IsThere cells) c.load.new.stack.items) (sym c.in_ok-ending-2.ensures.cells) loads.fit.there } in
    subst (λ x. Clones c.args.at (stages.Load c.args.name) (g.W.SwapFile.content c.args.swap.now) c.args.live.now c.args.stack.now.items c.args.asker.now c.args.budget.now x c.clone_loaded.new.live c.load.new.stack.items c.load.new.asker c.load.new.budget c.in-Ends.ending) (sym c.in_ok-ending-2.ensures.told)
    (clone_load_ends c.args.at c.args.name (g.W.SwapFile.content c.args.swap.now) c.args.live.now c.args.stack.now.items c.args.asker.now c.args.budget.now c.law_loads_through.ensures (g.W.SwapFile.content c.load.new.swap) c.load.new.live c.load.new.stack.items c.load.new.asker c.load.new.budget c.in_ok-answer.answer loads c.in-Ends.ending c.clone_loaded.new.live loaded c.in_ok-ending-2.ensures.home fit
    (subst (λ cells. IsEndingThere cells c.in-Ends.ending) (sym c.in_ok-ending-2.ensures.cells) (subst (IsBegunThere c.load.new.live.cells) c.in-Ends.is (c.in_ok-ending-2.ensures.there c.load.new.live.cells (c.in_ok-ending.ensures.there c.load.new.live.cells loads.there)))))

pub load_clone-make-requires : goal.load_clone-make-requires
load_clone-make-requires g t c =
    let text : c.in_ok-text.text ≡ chars (string_bytes c.args.name) = c.in_ok-text.ensures ∙ ap chars c.as_str.ensures.value in
    let loads : Loads (Some c.args.at.this) (Some c.args.at) (chars (string_bytes c.args.name)) purposes.Wanted (g.W.SwapFile.content c.args.swap.now) c.args.live.now c.args.stack.now.items c.args.asker.now c.args.budget.now (g.W.SwapFile.content c.load.new.swap) c.load.new.live c.load.new.stack.items c.load.new.asker c.load.new.budget c.in_ok-answer.answer =
    subst (λ n. Loads (Some c.args.at.this) (Some c.args.at) n purposes.Wanted (g.W.SwapFile.content c.args.swap.now) c.args.live.now c.args.stack.now.items c.args.asker.now c.args.budget.now (g.W.SwapFile.content c.load.new.swap) c.load.new.live c.load.new.stack.items c.load.new.asker c.load.new.budget c.in_ok-answer.answer) (c.as_slice.ensures ∙ text) c.in_ok-answer.ensures.loads in
    let ending : c.in_ok-ending.ending ≡ loaded_ending (chars (string_bytes c.args.name)) c.in_ok-answer.answer = c.in_ok-ending.ensures.ending ∙ ap (λ n. loaded_ending n c.in_ok-answer.answer) text in
    let loaded : LoadedAs (begun.Runs (stages.Make c.in-Make.making)) (chars (string_bytes c.args.name)) (loaded_ending (chars (string_bytes c.args.name)) c.in_ok-answer.answer) (g.W.SwapFile.content c.load.new.swap) c.load.new.live c.clone_loaded.new.live =
    subst (λ e. LoadedAs (begun.Runs (stages.Make c.in-Make.making)) (chars (string_bytes c.args.name)) e (g.W.SwapFile.content c.load.new.swap) c.load.new.live c.clone_loaded.new.live) ending (subst (λ x. LoadedAs (begun.Runs x) (chars (string_bytes c.args.name)) c.in_ok-ending.ending (g.W.SwapFile.content c.load.new.swap) c.load.new.live c.clone_loaded.new.live) c.in-Make.is (subst (λ r. LoadedAs r (chars (string_bytes c.args.name)) c.in_ok-ending.ending (g.W.SwapFile.content c.load.new.swap) c.load.new.live c.clone_loaded.new.live) c.in-Runs.is c.in_ok-ending-2.ensures.loaded)) in
    let fit : IsFit c.clone_loaded.new.live c.load.new.stack.items = record { closed = c.in_ok-ending-2.ensures.closed; there = subst (λ cells. All (IsThere cells) c.load.new.stack.items) (sym c.in_ok-ending-2.ensures.cells) loads.fit.there } in
    let home : IsSome (variables_at c.clone_loaded.new.live.objects c.in-Make.making.object) = subst (IsHome c.clone_loaded.new.live.objects) c.in-Make.is (subst (IsReady c.clone_loaded.new.live.objects) c.in-Runs.is c.in_ok-ending-2.ensures.ready).1 in
    let less = loads.spends in
    λ κs within. (
      omega (arith, less),
      (
        within,
        (
          home,
          (
            fit,
            clone_can_make c.args.at c.in-Make.making (g.W.SwapFile.content c.clone_loaded.new.swap) c.clone_loaded.new.live c.load.new.stack.items c.load.new.asker c.load.new.budget home
                (subst (λ x. CanClone c.args.at (stages.Make c.in-Make.making) x c.clone_loaded.new.live c.load.new.asker c.load.new.budget) (sym c.in_ok-ending-2.ensures.told) (clone_load_can c.args.at c.args.name (g.W.SwapFile.content c.args.swap.now) c.args.live.now c.args.stack.now.items c.args.asker.now c.args.budget.now c.law_loads_through.ensures (g.W.SwapFile.content c.load.new.swap) c.load.new.live c.load.new.stack.items c.load.new.asker c.load.new.budget c.in_ok-answer.answer loads c.in-Make.making c.clone_loaded.new.live loaded c.requires.can)),
          ),
        ),
      ),
    )

pub load_clone-returns-in-Make-clause-clones : goal.load_clone-returns-in-Make-clause-clones
load_clone-returns-in-Make-clause-clones g t c =
    let text : c.in_ok-text.text ≡ chars (string_bytes c.args.name) = c.in_ok-text.ensures ∙ ap chars c.as_str.ensures.value in
    let loads : Loads (Some c.args.at.this) (Some c.args.at) (chars (string_bytes c.args.name)) purposes.Wanted (g.W.SwapFile.content c.args.swap.now) c.args.live.now c.args.stack.now.items c.args.asker.now c.args.budget.now (g.W.SwapFile.content c.load.new.swap) c.load.new.live c.load.new.stack.items c.load.new.asker c.load.new.budget c.in_ok-answer.answer =
    subst (λ n. Loads (Some c.args.at.this) (Some c.args.at) n purposes.Wanted (g.W.SwapFile.content c.args.swap.now) c.args.live.now c.args.stack.now.items c.args.asker.now c.args.budget.now (g.W.SwapFile.content c.load.new.swap) c.load.new.live c.load.new.stack.items c.load.new.asker c.load.new.budget c.in_ok-answer.answer) (c.as_slice.ensures ∙ text) c.in_ok-answer.ensures.loads in
    let ending : c.in_ok-ending.ending ≡ loaded_ending (chars (string_bytes c.args.name)) c.in_ok-answer.answer = c.in_ok-ending.ensures.ending ∙ ap (λ n. loaded_ending n c.in_ok-answer.answer) text in
    let loaded : LoadedAs (begun.Runs (stages.Make c.in-Make.making)) (chars (string_bytes c.args.name)) (loaded_ending (chars (string_bytes c.args.name)) c.in_ok-answer.answer) (g.W.SwapFile.content c.load.new.swap) c.load.new.live c.clone_loaded.new.live =
    subst (λ e. LoadedAs (begun.Runs (stages.Make c.in-Make.making)) (chars (string_bytes c.args.name)) e (g.W.SwapFile.content c.load.new.swap) c.load.new.live c.clone_loaded.new.live) ending (subst (λ x. LoadedAs (begun.Runs x) (chars (string_bytes c.args.name)) c.in_ok-ending.ending (g.W.SwapFile.content c.load.new.swap) c.load.new.live c.clone_loaded.new.live) c.in-Make.is (subst (λ r. LoadedAs r (chars (string_bytes c.args.name)) c.in_ok-ending.ending (g.W.SwapFile.content c.load.new.swap) c.load.new.live c.clone_loaded.new.live) c.in-Runs.is c.in_ok-ending-2.ensures.loaded)) in
    let home : IsSome (variables_at c.clone_loaded.new.live.objects c.in-Make.making.object) = subst (IsHome c.clone_loaded.new.live.objects) c.in-Make.is (subst (IsReady c.clone_loaded.new.live.objects) c.in-Runs.is c.in_ok-ending-2.ensures.ready).1 in
    clone_load_goes c.args.at c.args.name (g.W.SwapFile.content c.args.swap.now) c.args.live.now c.args.stack.now.items c.args.asker.now c.args.budget.now c.law_loads_through.ensures (g.W.SwapFile.content c.load.new.swap) c.load.new.live c.load.new.stack.items c.load.new.asker c.load.new.budget c.in_ok-answer.answer loads c.in-Make.making c.clone_loaded.new.live loaded (g.W.SwapFile.content c.make.new.swap) c.make.new.live c.make.new.stack.items c.make.new.asker c.make.new.budget c.cloned.result
    (subst (λ x. Clones c.args.at (stages.Make c.in-Make.making) x c.clone_loaded.new.live c.load.new.stack.items c.load.new.asker c.load.new.budget (g.W.SwapFile.content c.make.new.swap) c.make.new.live c.make.new.stack.items c.make.new.asker c.make.new.budget c.cloned.result) c.in_ok-ending-2.ensures.told
    (clone_made c.args.at c.in-Make.making (g.W.SwapFile.content c.clone_loaded.new.swap) c.clone_loaded.new.live c.load.new.stack.items c.load.new.asker c.load.new.budget home (g.W.SwapFile.content c.make.new.swap) c.make.new.live c.make.new.stack.items c.make.new.asker c.make.new.budget c.in_ok-ending-in-Make.ending c.cloned.result
    c.in_ok-ending-in-Make.ensures.makes c.cloned.ensures.cloned c.cloned.ensures.same))
    c.in_ok-ending-2.ensures.home

-- Commands

pub carry_out-actions-init : goal.carry_out-actions-init
carry_out-actions-init g t c = record {
  can = c.requires.can;
  fit = c.requires.fit;
  lies = refl;
  same = same_asker c.args.asker.now;
  spends = le_refl c.args.budget.now;
  home = home_same c.args.live.now.objects;
  tells = tells_nothing (g.W.SwapFile.content c.args.swap.now) (g.W.SwapFile.last c.args.swap.now) (g.W.SwapFile.read_faults c.args.swap.now) (g.W.SwapFile.write_faults c.args.swap.now) (g.W.SwapFile.is_truthful c.args.swap.now) (g.W.SwapFile.is_honest c.args.swap.now) c.args.live.now;
  goes = commands_same c.args.caller c.args.job (g.W.SwapFile.content c.args.swap.now) c.args.live.now c.args.asker.now c.args.budget.now;
}

pub carry_out-step_command-requires-clause-can : goal.carry_out-step_command-requires-clause-can
carry_out-step_command-requires-clause-can g t c = (c.actions.budget, c.actions.invariant.can)

pub carry_out-returns-in-Ended-clause-carries : goal.carry_out-returns-in-Ended-clause-carries
carry_out-returns-in-Ended-clause-carries g t c =
    carries_later c.args.caller c.args.job c.actions.job (g.W.SwapFile.content c.args.swap.now) (g.W.SwapFile.content c.actions.swap) (g.W.SwapFile.content c.step_command.new.swap) c.args.live.now c.actions.live c.step_command.new.live c.args.stack.now.items c.actions.stack.items c.step_command.new.stack.items
    c.args.asker.now c.actions.asker c.step_command.new.asker c.args.budget.now c.actions.budget c.actions.budget c.in-Ended.ending c.actions.invariant.goes c.actions.invariant.lies c.actions.invariant.same c.actions.invariant.spends c.actions.invariant.home
    (subst (λ x. CommandSteps x c.args.caller c.actions.job (g.W.SwapFile.content c.actions.swap) c.actions.live c.actions.stack.items c.actions.asker c.step_command.new.job (g.W.SwapFile.content c.step_command.new.swap) c.step_command.new.live c.step_command.new.stack.items c.step_command.new.asker) c.in-Ended.is c.in_ok-ending.ensures.steps c.actions.budget)

pub carry_out-answer-requires : goal.carry_out-answer-requires
carry_out-answer-requires g t c =
    let k : CommandAsks c.in-Asks.reached c.args.caller c.actions.job (g.W.SwapFile.content c.actions.swap) c.actions.live c.actions.stack.items c.actions.asker c.step_command.new.job (g.W.SwapFile.content c.step_command.new.swap) c.step_command.new.live c.step_command.new.stack.items c.step_command.new.asker =
    subst (λ x. CommandSteps x c.args.caller c.actions.job (g.W.SwapFile.content c.actions.swap) c.actions.live c.actions.stack.items c.actions.asker c.step_command.new.job (g.W.SwapFile.content c.step_command.new.swap) c.step_command.new.live c.step_command.new.stack.items c.step_command.new.asker) c.in-Asks.is c.in_ok-ending.ensures.steps in
    let more = c.actions.invariant.spends in
    λ κs within. (omega (arith, more), (within, (k.fit, k.can c.actions.budget c.actions.invariant.can)))

pub carry_out-feed_command-requires-clause-asking : goal.carry_out-feed_command-requires-clause-asking
carry_out-feed_command-requires-clause-asking g t c =
    let k : CommandAsks c.in-Asks.reached c.args.caller c.actions.job (g.W.SwapFile.content c.actions.swap) c.actions.live c.actions.stack.items c.actions.asker c.step_command.new.job (g.W.SwapFile.content c.step_command.new.swap) c.step_command.new.live c.step_command.new.stack.items c.step_command.new.asker =
    subst (λ x. CommandSteps x c.args.caller c.actions.job (g.W.SwapFile.content c.actions.swap) c.actions.live c.actions.stack.items c.actions.asker c.step_command.new.job (g.W.SwapFile.content c.step_command.new.swap) c.step_command.new.live c.step_command.new.stack.items c.step_command.new.asker) c.in-Asks.is c.in_ok-ending.ensures.steps in
    k.asking

pub carry_out-returns-in-Some-clause-carries : goal.carry_out-returns-in-Some-clause-carries
carry_out-returns-in-Some-clause-carries g t c =
    let k : CommandAsks c.in-Asks.reached c.args.caller c.actions.job (g.W.SwapFile.content c.actions.swap) c.actions.live c.actions.stack.items c.actions.asker c.step_command.new.job (g.W.SwapFile.content c.step_command.new.swap) c.step_command.new.live c.step_command.new.stack.items c.step_command.new.asker =
    subst (λ x. CommandSteps x c.args.caller c.actions.job (g.W.SwapFile.content c.actions.swap) c.actions.live c.actions.stack.items c.actions.asker c.step_command.new.job (g.W.SwapFile.content c.step_command.new.swap) c.step_command.new.live c.step_command.new.stack.items c.step_command.new.asker) c.in-Asks.is c.in_ok-ending.ensures.steps in
    let still : IsSameAsker c.answer.new.asker c.feed_command.new.asker = turn_only c.answer.new.asker c.feed_command.new.asker c.feed_command.ensures.same in
    carries_later c.args.caller c.args.job c.actions.job (g.W.SwapFile.content c.args.swap.now) (g.W.SwapFile.content c.actions.swap) (g.W.SwapFile.content c.answer.new.swap) c.args.live.now c.actions.live c.answer.new.live c.args.stack.now.items c.actions.stack.items c.answer.new.stack.items
    c.args.asker.now c.actions.asker c.feed_command.new.asker c.args.budget.now c.actions.budget c.answer.new.budget c.in-Some.ending c.actions.invariant.goes c.actions.invariant.lies c.actions.invariant.same c.actions.invariant.spends c.actions.invariant.home
    (command_ended c.args.caller c.actions.job c.step_command.new.job c.feed_command.new.job c.in-Asks.reached (g.W.SwapFile.content c.actions.swap) (g.W.SwapFile.content c.step_command.new.swap) (g.W.SwapFile.content c.answer.new.swap) c.actions.live c.step_command.new.live c.answer.new.live
    c.actions.stack.items c.step_command.new.stack.items c.answer.new.stack.items c.actions.asker c.step_command.new.asker c.answer.new.asker c.feed_command.new.asker c.actions.budget c.answer.new.budget c.in_ok-ending-in-Asks.ending c.in-Some.ending k c.in_ok-ending-in-Asks.ensures.answers
    (subst (λ r. FeedsCommand r c.in_ok-ending-in-Asks.ending c.step_command.new.job c.answer.new.live c.answer.new.asker c.feed_command.new.job c.feed_command.new.asker) c.in-Some.is c.feed_command.ensures.feeds) still
    (subst (λ r. IfSome r (IsEndingThere c.answer.new.live.cells)) c.in-Some.is c.feed_command.ensures.there))

pub carry_out-actions-smaller : goal.carry_out-actions-smaller
carry_out-actions-smaller g t c =
    let k : CommandAsks c.in-Asks.reached c.args.caller c.actions.job (g.W.SwapFile.content c.actions.swap) c.actions.live c.actions.stack.items c.actions.asker c.step_command.new.job (g.W.SwapFile.content c.step_command.new.swap) c.step_command.new.live c.step_command.new.stack.items c.step_command.new.asker =
    subst (λ x. CommandSteps x c.args.caller c.actions.job (g.W.SwapFile.content c.actions.swap) c.actions.live c.actions.stack.items c.actions.asker c.step_command.new.job (g.W.SwapFile.content c.step_command.new.swap) c.step_command.new.live c.step_command.new.stack.items c.step_command.new.asker) c.in-Asks.is c.in_ok-ending.ensures.steps in
    let less : AsksLess None c.step_command.new.job c.feed_command.new.job = subst (λ r. AsksLess r c.step_command.new.job c.feed_command.new.job) c.in_default.is c.feed_command.ensures.less in
    let left = k.left in
    omega (arith, less, left)

pub carry_out-actions-preserved : goal.carry_out-actions-preserved
carry_out-actions-preserved g t c =
    let k : CommandAsks c.in-Asks.reached c.args.caller c.actions.job (g.W.SwapFile.content c.actions.swap) c.actions.live c.actions.stack.items c.actions.asker c.step_command.new.job (g.W.SwapFile.content c.step_command.new.swap) c.step_command.new.live c.step_command.new.stack.items c.step_command.new.asker =
    subst (λ x. CommandSteps x c.args.caller c.actions.job (g.W.SwapFile.content c.actions.swap) c.actions.live c.actions.stack.items c.actions.asker c.step_command.new.job (g.W.SwapFile.content c.step_command.new.swap) c.step_command.new.live c.step_command.new.stack.items c.step_command.new.asker) c.in-Asks.is c.in_ok-ending.ensures.steps in
    let still : IsSameAsker c.answer.new.asker c.feed_command.new.asker = turn_only c.answer.new.asker c.feed_command.new.asker c.feed_command.ensures.same in
    let more : CommandContinues c.args.caller c.actions.job (g.W.SwapFile.content c.actions.swap) c.actions.live c.actions.asker c.actions.budget c.feed_command.new.job (g.W.SwapFile.content c.answer.new.swap) c.answer.new.live c.feed_command.new.asker c.answer.new.budget =
    k.turns c.feed_command.new.job (g.W.SwapFile.content c.answer.new.swap) c.answer.new.live c.answer.new.stack.items c.answer.new.asker c.feed_command.new.asker c.actions.budget c.answer.new.budget c.in_ok-ending-in-Asks.ending None c.in_ok-ending-in-Asks.ensures.answers
    (subst (λ r. FeedsCommand r c.in_ok-ending-in-Asks.ending c.step_command.new.job c.answer.new.live c.answer.new.asker c.feed_command.new.job c.feed_command.new.asker) c.in_default.is c.feed_command.ensures.feeds) still in
    record {
      can = can_carry_on c.args.caller c.actions.job c.feed_command.new.job (g.W.SwapFile.content c.actions.swap) (g.W.SwapFile.content c.answer.new.swap) c.actions.live c.answer.new.live c.actions.asker c.feed_command.new.asker c.actions.budget c.answer.new.budget c.actions.invariant.can more;
      fit = c.in_ok-ending-in-Asks.ensures.answers.fit;
      lies = k.lies (g.W.SwapFile.content c.answer.new.swap) c.answer.new.live c.answer.new.stack.items c.answer.new.asker c.actions.budget c.answer.new.budget c.in_ok-ending-in-Asks.ending c.actions.invariant.can c.in_ok-ending-in-Asks.ensures.answers ∙ c.actions.invariant.lies;
      same = same_later c.args.asker.now c.actions.asker c.feed_command.new.asker c.actions.invariant.same (same_later c.actions.asker c.answer.new.asker c.feed_command.new.asker (same_later c.actions.asker c.step_command.new.asker c.answer.new.asker k.same c.in_ok-ending-in-Asks.ensures.answers.same) still);
      spends = le_trans c.in_ok-ending-in-Asks.ensures.answers.spends c.actions.invariant.spends;
      home = home_later c.args.live.now.objects c.actions.live.objects c.answer.new.live.objects c.actions.invariant.home (home_later c.actions.live.objects c.step_command.new.live.objects c.answer.new.live.objects k.home c.in_ok-ending-in-Asks.ensures.answers.home);
      tells = tells_more c.actions.invariant.tells (tells_more c.in_ok-ending.ensures.tells c.in_ok-ending-in-Asks.ensures.tells);
      goes = commands_more c.args.caller c.args.job c.actions.job c.feed_command.new.job (g.W.SwapFile.content c.args.swap.now) (g.W.SwapFile.content c.actions.swap) (g.W.SwapFile.content c.answer.new.swap) c.args.live.now c.actions.live c.answer.new.live c.args.asker.now c.actions.asker c.feed_command.new.asker
          c.args.budget.now c.actions.budget c.answer.new.budget c.actions.invariant.goes more;
    }

-- The whole command

pub obey-returns-in-Ends-clause-obeys : goal.obey-returns-in-Ends-clause-obeys
obey-returns-in-Ends-clause-obeys g t c =
    obeyed c.args.caller c.args.holder c.args.line.now (g.W.SwapFile.content c.args.swap.now) c.args.live.now c.args.stack.now.items c.args.asker.now c.begin_command.new.asker c.args.budget.now (turn_only c.args.asker.now c.begin_command.new.asker c.in_ok-v.ensures.same) c.in-Ends.v
    (subst (λ r. CommandBegins r c.args.holder c.args.line.now c.args.live.now c.args.asker.now.turn c.begin_command.new.asker.turn) c.in-Ends.is c.in_ok-v.ensures.begins) c.requires.fit
    (subst (CommandBegunThere c.args.live.now.cells) c.in-Ends.is (c.in_ok-v.ensures.there c.args.live.now.cells))

pub obey-carry_out-requires : goal.obey-carry_out-requires
obey-carry_out-requires g t c =
    let begins : CommandBegins (commands.Runs c.in-Runs.job) c.args.holder c.args.line.now c.args.live.now c.args.asker.now.turn c.begin_command.new.asker.turn = subst (λ r. CommandBegins r c.args.holder c.args.line.now c.args.live.now c.args.asker.now.turn c.begin_command.new.asker.turn) c.in-Runs.is c.in_ok-v.ensures.begins in
    λ κs within. (
      omega arith,
      (
        within,
        (
          c.requires.fit,
          obey_can c.args.caller c.args.holder c.args.line.now (g.W.SwapFile.content c.args.swap.now) c.args.live.now c.args.stack.now.items c.args.asker.now c.begin_command.new.asker c.args.budget.now (turn_only c.args.asker.now c.begin_command.new.asker c.in_ok-v.ensures.same) c.in-Runs.job begins c.requires.can,
        ),
      ),
    )

pub obey-returns-in-Runs-clause-obeys : goal.obey-returns-in-Runs-clause-obeys
obey-returns-in-Runs-clause-obeys g t c =
    let begins : CommandBegins (commands.Runs c.in-Runs.job) c.args.holder c.args.line.now c.args.live.now c.args.asker.now.turn c.begin_command.new.asker.turn = subst (λ r. CommandBegins r c.args.holder c.args.line.now c.args.live.now c.args.asker.now.turn c.begin_command.new.asker.turn) c.in-Runs.is c.in_ok-v.ensures.begins in
    if_ok c.carry_out.result
    (λ e h. obey_carried c.args.caller c.args.holder c.args.line.now (g.W.SwapFile.content c.args.swap.now) c.args.live.now c.args.stack.now.items c.args.asker.now c.begin_command.new.asker c.args.budget.now (turn_only c.args.asker.now c.begin_command.new.asker c.in_ok-v.ensures.same) c.in-Runs.job begins
    (g.W.SwapFile.content c.carry_out.new.swap) c.carry_out.new.live c.carry_out.new.stack.items c.carry_out.new.asker c.carry_out.new.budget e h)
    c.carry_out.ensures.carries

-- The efun

pub call_command-begin_command_efun-requires-clause-args : goal.call_command-begin_command_efun-requires-clause-args
call_command-begin_command_efun-requires-clause-args g t c = enough c.args.live.now c.args.stack.now.items c.args.asker.now c.args.budget.now c.args.args (requests.Efun c.args.at efuns.Command) (g.W.SwapFile.content c.args.swap.now, c.requires.can)

pub call_command-returns-in-Ends-clause-answers : goal.call_command-returns-in-Ends-clause-answers
call_command-returns-in-Ends-clause-answers g t c =
    let begins : BeginsAt (command_begun.Ends c.in-Ends.answer) c.args.at c.args.asker.now c.args.live.now c.args.stack.now.items c.args.args c.args.budget.now c.begin_command_efun.new.stack.items c.begin_command_efun.new.budget = subst (λ r. BeginsAt r c.args.at c.args.asker.now c.args.live.now c.args.stack.now.items c.args.args c.args.budget.now c.begin_command_efun.new.stack.items c.begin_command_efun.new.budget) c.in-Ends.is c.in_ok-answer.ensures.begins in
    let there : IsEndingThere c.args.live.now.cells c.ending_of.result = c.ending_of.ensures.there c.args.live.now.cells (subst (EfunBegunThere c.args.live.now.cells) c.in-Ends.is c.in_ok-answer.ensures.there) in
    subst (λ e. Answers (requests.Efun c.args.at efuns.Command) c.args.args (g.W.SwapFile.content c.args.swap.now) c.args.live.now c.args.stack.now.items c.args.asker.now c.args.budget.now (g.W.SwapFile.content c.args.swap.now) c.args.live.now c.begin_command_efun.new.stack.items c.args.asker.now c.begin_command_efun.new.budget e) (sym c.ending_of.ensures.ending)
    (command_answered c.args.at c.args.args c.args.live.now c.args.stack.now.items c.begin_command_efun.new.stack.items c.args.asker.now c.args.budget.now c.begin_command_efun.new.budget (g.W.SwapFile.content c.args.swap.now) c.in-Ends.answer begins c.in_ok-answer.ensures.fit
    (subst (IsEndingThere c.args.live.now.cells) c.ending_of.ensures.ending there) c.requires.can)

pub call_command-obey-requires : goal.call_command-obey-requires
call_command-obey-requires g t c =
    let begins : BeginsAt (command_begun.Runs c.in-Runs.holder c.in-Runs.line) c.args.at c.args.asker.now c.args.live.now c.args.stack.now.items c.args.args c.args.budget.now c.begin_command_efun.new.stack.items c.begin_command_efun.new.budget = subst (λ r. BeginsAt r c.args.at c.args.asker.now c.args.live.now c.args.stack.now.items c.args.args c.args.budget.now c.begin_command_efun.new.stack.items c.begin_command_efun.new.budget) c.in-Runs.is c.in_ok-answer.ensures.begins in
    let less = c.in_ok-answer.ensures.spends in
    λ κs within. (
      omega (arith, less),
      (
        within,
        (
          c.in_ok-answer.ensures.fit,
          subst (λ n. CanObey (Some c.args.at.this) c.in-Runs.holder n (g.W.SwapFile.content c.args.swap.now) c.args.live.now c.begin_command_efun.new.stack.items c.put_player-player.new.asker c.begin_command_efun.new.budget) (sym c.as_slice.ensures)
              (subst (λ a. CanObey (Some c.args.at.this) c.in-Runs.holder c.in-Runs.line (g.W.SwapFile.content c.args.swap.now) c.args.live.now c.begin_command_efun.new.stack.items a c.begin_command_efun.new.budget) (sym c.put_player-player.ensures.put)
              (command_obeys c.args.at c.args.args c.args.live.now c.args.stack.now.items c.begin_command_efun.new.stack.items c.args.asker.now c.args.budget.now c.begin_command_efun.new.budget c.in-Runs.holder c.in-Runs.line begins (g.W.SwapFile.content c.args.swap.now) c.requires.can)),
        ),
      ),
    )

pub call_command-returns-in_ok-ending-in-Runs-clause-answers : goal.call_command-returns-in_ok-ending-in-Runs-clause-answers
call_command-returns-in_ok-ending-in-Runs-clause-answers g t c =
    let begins : BeginsAt (command_begun.Runs c.in-Runs.holder c.in-Runs.line) c.args.at c.args.asker.now c.args.live.now c.args.stack.now.items c.args.args c.args.budget.now c.begin_command_efun.new.stack.items c.begin_command_efun.new.budget = subst (λ r. BeginsAt r c.args.at c.args.asker.now c.args.live.now c.args.stack.now.items c.args.args c.args.budget.now c.begin_command_efun.new.stack.items c.begin_command_efun.new.budget) c.in-Runs.is c.in_ok-answer.ensures.begins in
    let obeys : Obeys (Some c.args.at.this) c.in-Runs.holder c.in-Runs.line (g.W.SwapFile.content c.args.swap.now) c.args.live.now c.begin_command_efun.new.stack.items (with_player (Some c.in-Runs.holder) c.args.asker.now) c.begin_command_efun.new.budget (g.W.SwapFile.content c.obey.new.swap) c.obey.new.live c.obey.new.stack.items c.obey.new.asker c.obey.new.budget c.in_ok-ending-in-Runs.ending =
    subst (λ a. Obeys (Some c.args.at.this) c.in-Runs.holder c.in-Runs.line (g.W.SwapFile.content c.args.swap.now) c.args.live.now c.begin_command_efun.new.stack.items a c.begin_command_efun.new.budget (g.W.SwapFile.content c.obey.new.swap) c.obey.new.live c.obey.new.stack.items c.obey.new.asker c.obey.new.budget c.in_ok-ending-in-Runs.ending) c.put_player-player.ensures.put
    (subst (λ n. Obeys (Some c.args.at.this) c.in-Runs.holder n (g.W.SwapFile.content c.args.swap.now) c.args.live.now c.begin_command_efun.new.stack.items c.put_player-player.new.asker c.begin_command_efun.new.budget (g.W.SwapFile.content c.obey.new.swap) c.obey.new.live c.obey.new.stack.items c.obey.new.asker c.obey.new.budget c.in_ok-ending-in-Runs.ending) c.as_slice.ensures c.in_ok-ending-in-Runs.ensures.obeys) in
    subst (λ a. Answers (requests.Efun c.args.at efuns.Command) c.args.args (g.W.SwapFile.content c.args.swap.now) c.args.live.now c.args.stack.now.items c.args.asker.now c.args.budget.now (g.W.SwapFile.content c.obey.new.swap) c.obey.new.live c.obey.new.stack.items a c.end_command_efun.new.budget c.end_command_efun.result) (sym (c.end_command_efun.ensures.back ∙ ap (λ p. with_player p c.obey.new.asker) c.put_player-player.ensures.was))
    (command_answers c.args.at c.args.args c.args.live.now c.args.stack.now.items c.begin_command_efun.new.stack.items c.args.asker.now c.args.budget.now c.begin_command_efun.new.budget c.in-Runs.holder c.in-Runs.line begins (g.W.SwapFile.content c.args.swap.now) (g.W.SwapFile.content c.obey.new.swap) c.obey.new.live c.obey.new.stack.items c.obey.new.asker c.obey.new.budget c.end_command_efun.new.budget c.in_ok-ending-in-Runs.ending c.end_command_efun.result
    obeys c.end_command_efun.ensures.ends c.in_ok-answer.ensures.spends c.end_command_efun.ensures.spends c.end_command_efun.ensures.there)
