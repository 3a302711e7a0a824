use Rattle.std.proofs.Common.{◌≡◌, ◌≤◌, ◌+◌, ◌*◌, Ok}
use Rattle.std.specs.Prelude.{IsSome}
use Rattle.lp_step.specs.Steps.{IsFit, KeepsVariables}
use Rattle.lp_run.specs.Runs.{left_of}
use Rattle.lp_beginning.specs.Jobs as making
use Rattle.lp_calling.specs.Jobs.{IsJobOn, IsReady, questions_left}
use Rattle.lp_commanding.specs.Jobs as commands
use Rattle.lp_loading.specs.declared.job.Going.TheVariants as goings
use Rattle.lp_loading.specs.Loads.{turns_left}
use Rattle.lp_world.specs.Rows.{variables_at}
use Rattle.lp_vm.specs.Answering.{IsSameAsker}
use Rattle.lp_vm.specs.Causes.{Tells}
use Rattle.lp_vm.specs.Commanding.{CanCarryOut, CommandContinues}
use Rattle.lp_vm.specs.Going.{CanGo, Continues}
use Rattle.lp_vm.specs.Loading.{CanLoadOn, LoadContinues}
use Rattle.lp_vm.specs.Making.{CanMake, MakeContinues}
use Rattle.lp_vm.specs.Working.{CanWork, WorkContinues}
use Rattle.lp_vm.proofs.cycle.+calls.Given as goal

-- 1 is paid before a function runs, and 1000 before a load; else each calls those that stand before it
abbrev pub decreases-answer : goal.decreases-answer
decreases-answer g l = 7 * l.budget.now

abbrev pub decreases-load : goal.decreases-load
decreases-load g l = 7 * l.budget.now

abbrev pub decreases-make : goal.decreases-make
decreases-make g l = 7 * l.budget.now + 1

abbrev pub decreases-carry_out : goal.decreases-carry_out
decreases-carry_out g l = 7 * l.budget.now + 1

abbrev pub decreases-answer_job : goal.decreases-answer_job
decreases-answer_job g l = 7 * l.budget.now + 1

abbrev pub decreases-load_job : goal.decreases-load_job
decreases-load_job g l = 7 * l.budget.now + 1

abbrev pub decreases-turn_job : goal.decreases-turn_job
decreases-turn_job g l = 7 * l.budget.now + 2

abbrev pub decreases-work : goal.decreases-work
decreases-work g l = 7 * l.budget.now + 3

abbrev pub decreases-load_on : goal.decreases-load_on
decreases-load_on g l = 7 * l.budget.now + 2

abbrev pub decreases-load_clone : goal.decreases-load_clone
decreases-load_clone g l = 7 * l.budget.now + 2

abbrev pub decreases-obey : goal.decreases-obey
decreases-obey g l = 7 * l.budget.now + 2

abbrev pub decreases-call_command : goal.decreases-call_command
decreases-call_command g l = 7 * l.budget.now + 3

abbrev pub decreases-call_clone : goal.decreases-call_clone
decreases-call_clone g l = 7 * l.budget.now + 3

abbrev pub decreases-call_efun : goal.decreases-call_efun
decreases-call_efun g l = 7 * l.budget.now + 4

abbrev pub decreases-serve : goal.decreases-serve
decreases-serve g l = 7 * l.budget.now + 5

abbrev pub decreases-go : goal.decreases-go
decreases-go g l = 7 * l.budget.now + 6

-- what the rest of the run ends with is what all of it ends with
abbrev pub invariant-go-turns : goal.invariant-go-turns
invariant-go-turns g l = record {
  can : CanGo (g.W.SwapFile.content l.swap) l.live l.stack.items l.frame l.asker l.budget;
  same : IsSameAsker l.fn.asker l.asker;
  spends : l.budget ≤ l.fn.budget;
  home : KeepsVariables l.fn.live.objects l.live.objects;
  tells : Tells (g.W.SwapFile.content l.swap) (g.W.SwapFile.last l.swap) (g.W.SwapFile.read_faults l.fn.swap) (g.W.SwapFile.read_faults l.swap) (g.W.SwapFile.write_faults l.fn.swap) (g.W.SwapFile.write_faults l.swap) (g.W.SwapFile.is_truthful l.fn.swap) (g.W.SwapFile.is_truthful l.swap) (g.W.SwapFile.is_honest l.fn.swap) (g.W.SwapFile.is_honest l.swap) l.live (Ok tt);
  goes : Continues (g.W.SwapFile.content l.fn.swap) l.fn.live l.fn.stack.items l.fn.frame l.fn.asker l.fn.budget (g.W.SwapFile.content l.swap) l.live l.stack.items l.frame l.asker l.budget;
}

abbrev pub decreases-go-turns : goal.decreases-go-turns
decreases-go-turns g l = left_of l.frame l.budget

-- and likewise of the rest of the work
abbrev pub invariant-work-questions : goal.invariant-work-questions
invariant-work-questions g l = record {
  can : CanWork l.fn.at l.job (g.W.SwapFile.content l.swap) l.live l.stack.items l.asker l.budget;
  on : IsJobOn l.job l.stack.items;
  ready : IsReady l.live.objects l.job;
  fit : IsFit l.live l.stack.items;
  same : IsSameAsker l.fn.asker l.asker;
  spends : l.budget ≤ l.fn.budget;
  home : KeepsVariables l.fn.live.objects l.live.objects;
  tells : Tells (g.W.SwapFile.content l.swap) (g.W.SwapFile.last l.swap) (g.W.SwapFile.read_faults l.fn.swap) (g.W.SwapFile.read_faults l.swap) (g.W.SwapFile.write_faults l.fn.swap) (g.W.SwapFile.write_faults l.swap) (g.W.SwapFile.is_truthful l.fn.swap) (g.W.SwapFile.is_truthful l.swap) (g.W.SwapFile.is_honest l.fn.swap) (g.W.SwapFile.is_honest l.swap) l.live (Ok tt);
  goes : WorkContinues l.fn.at l.fn.job (g.W.SwapFile.content l.fn.swap) l.fn.live l.fn.stack.items l.fn.asker l.fn.budget l.job (g.W.SwapFile.content l.swap) l.live l.stack.items l.asker l.budget;
}

abbrev pub decreases-work-questions : goal.decreases-work-questions
decreases-work-questions g l = questions_left l.job

-- of the rest of an object's parts
abbrev pub invariant-make-parts : goal.invariant-make-parts
invariant-make-parts g l = record {
  can : CanMake l.fn.caller l.fn.at l.making (g.W.SwapFile.content l.swap) l.live l.asker l.budget;
  there : IsSome (variables_at l.live.objects l.making.object);
  fit : IsFit l.live l.stack.items;
  lies : l.stack.items ≡ l.fn.stack.items;
  same : IsSameAsker l.fn.asker l.asker;
  spends : l.budget ≤ l.fn.budget;
  home : KeepsVariables l.fn.live.objects l.live.objects;
  tells : Tells (g.W.SwapFile.content l.swap) (g.W.SwapFile.last l.swap) (g.W.SwapFile.read_faults l.fn.swap) (g.W.SwapFile.read_faults l.swap) (g.W.SwapFile.write_faults l.fn.swap) (g.W.SwapFile.write_faults l.swap) (g.W.SwapFile.is_truthful l.fn.swap) (g.W.SwapFile.is_truthful l.swap) (g.W.SwapFile.is_honest l.fn.swap) (g.W.SwapFile.is_honest l.swap) l.live (Ok tt);
  goes : MakeContinues l.fn.caller l.fn.at l.fn.making (g.W.SwapFile.content l.fn.swap) l.fn.live l.fn.asker l.fn.budget l.making (g.W.SwapFile.content l.swap) l.live l.asker l.budget;
}

abbrev pub decreases-make-parts : goal.decreases-make-parts
decreases-make-parts g l = making.questions_left l.making

-- of the rest of a command
abbrev pub invariant-carry_out-actions : goal.invariant-carry_out-actions
invariant-carry_out-actions g l = record {
  can : CanCarryOut l.fn.caller (g.W.SwapFile.content l.swap) l.live l.asker l.budget;
  fit : IsFit l.live l.stack.items;
  lies : l.stack.items ≡ l.fn.stack.items;
  same : IsSameAsker l.fn.asker l.asker;
  spends : l.budget ≤ l.fn.budget;
  home : KeepsVariables l.fn.live.objects l.live.objects;
  tells : Tells (g.W.SwapFile.content l.swap) (g.W.SwapFile.last l.swap) (g.W.SwapFile.read_faults l.fn.swap) (g.W.SwapFile.read_faults l.swap) (g.W.SwapFile.write_faults l.fn.swap) (g.W.SwapFile.write_faults l.swap) (g.W.SwapFile.is_truthful l.fn.swap) (g.W.SwapFile.is_truthful l.swap) (g.W.SwapFile.is_honest l.fn.swap) (g.W.SwapFile.is_honest l.swap) l.live (Ok tt);
  goes : CommandContinues l.fn.caller l.fn.job (g.W.SwapFile.content l.fn.swap) l.fn.live l.fn.asker l.fn.budget l.job (g.W.SwapFile.content l.swap) l.live l.asker l.budget;
}

abbrev pub decreases-carry_out-actions : goal.decreases-carry_out-actions
decreases-carry_out-actions g l = commands.questions_left l.job

-- and of the rest of a load
abbrev pub invariant-load_on-loads : goal.invariant-load_on-loads
invariant-load_on-loads g l = record {
  can : CanLoadOn l.fn.caller l.fn.at l.job (g.W.SwapFile.content l.swap) l.live l.asker l.budget;
  fit : IsFit l.live l.stack.items;
  lies : l.stack.items ≡ l.fn.stack.items;
  same : IsSameAsker l.fn.asker l.asker;
  spends : l.budget ≤ l.fn.budget;
  home : KeepsVariables l.fn.live.objects l.live.objects;
  tells : Tells (g.W.SwapFile.content l.swap) (g.W.SwapFile.last l.swap) (g.W.SwapFile.read_faults l.fn.swap) (g.W.SwapFile.read_faults l.swap) (g.W.SwapFile.write_faults l.fn.swap) (g.W.SwapFile.write_faults l.swap) (g.W.SwapFile.is_truthful l.fn.swap) (g.W.SwapFile.is_truthful l.swap) (g.W.SwapFile.is_honest l.fn.swap) (g.W.SwapFile.is_honest l.swap) l.live (Ok tt);
  goes : LoadContinues l.fn.caller l.fn.at l.fn.job goings.Simul (g.W.SwapFile.content l.fn.swap) l.fn.live l.fn.asker l.fn.budget l.job l.going (g.W.SwapFile.content l.swap) l.live l.asker l.budget;
}

abbrev pub decreases-load_on-loads : goal.decreases-load_on-loads
decreases-load_on-loads g l = 2 * l.budget + turns_left l.going
