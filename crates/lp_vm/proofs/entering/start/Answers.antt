use Rattle.std.proofs.Common.{sym, subst}
use Rattle.std.specs.Prelude.{pos}
use Rattle.lp_values.specs.declared.value.Value.TheVariants as values
use Rattle.lp_asking.specs.declared.ending.Ending.TheVariants as endings
use Rattle.lp_vm.specs.declared.request.Request.TheVariants as requests
use Rattle.lp_vm.specs.declared.entering.Started.TheVariants as starts
use Rattle.lp_vm.specs.Beginning.{CanStart, Starts}
use Rattle.lp_vm.proofs.Startings.{enough, none_answers}
use Rattle.lp_vm.proofs.entering.start.Goals as goal

pub drop_top-requires : goal.drop_top-requires
drop_top-requires c = enough c.args.live.now c.args.stack.now.items c.args.asker.now c.args.budget.now c.args.args (requests.Function c.args.reached) c.requires.can

pub returns-in-None-clause-starts : goal.returns-in-None-clause-starts
returns-in-None-clause-starts c =
    subst (λ r. Starts (starts.Answered (endings.Value (values.Int (pos 0)))) r c.args.args c.args.live.now c.args.stack.now.items c.args.asker.now c.args.budget.now c.args.live.now c.drop_top.new.stack.items c.args.asker.now c.args.budget.now) (sym c.in-None.is)
    (none_answers c.args.live.now c.args.stack.now.items c.drop_top.new.stack.items c.args.asker.now c.args.args c.args.budget.now c.drop_top.ensures.items (c.drop_top.ensures.keeps c.args.live.now c.requires.fit))

pub start_function-requires-clause-can : goal.start_function-requires-clause-can
start_function-requires-clause-can c = subst (λ r. CanStart c.args.live.now c.args.stack.now.items c.args.asker.now c.args.budget.now (requests.Function r) c.args.args) c.in-Some.is c.requires.can
