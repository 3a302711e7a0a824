use Rattle.std.proofs.Common.{◌≡◌, List, subst}
use Rattle.lp_asking.specs.declared.asker.Loading.{Loading}
use Rattle.lp_language.specs.Course.{Ask}
use Rattle.lp_loading.specs.declared.job.Begun.TheVariants as begun
use Rattle.lp_loading.specs.Going.{BeginsAs, IsPaid}
use Rattle.lp_loading.specs.Loads.{loads_of}
use Rattle.lp_vm.proofs.Loads.{load_began, load_did_not}
use Rattle.lp_vm.proofs.loading.begin_load.Goals as goal

pub returns-in_ok-push_load-in-Runs-clause-begins : goal.returns-in_ok-push_load-in-Runs-clause-begins
returns-in_ok-push_load-in-Runs-clause-begins c =
    load_began c.in-Runs.job c.args.name.now c.args.purpose c.args.asker.now c.push_load.new.asker c.args.budget.now c.begin.new.budget
    (subst (λ (ls : List Loading). (a : Ask) → a.budget ≡ c.args.budget.now → a.loads ≡ loads_of ls → BeginsAs (begun.Runs c.in-Runs.job) c.args.name.now c.args.purpose ls a c.begin.new.budget) c.as_slice.ensures.value
    (subst (λ r. (a : Ask) → a.budget ≡ c.args.budget.now → a.loads ≡ loads_of c.as_slice.result.now → BeginsAs r c.args.name.now c.args.purpose c.as_slice.result.now a c.begin.new.budget) c.in-Runs.is c.in_ok-job.ensures.begins))
    (subst (λ r. IsPaid r c.args.budget.now c.begin.new.budget) c.in-Runs.is c.in_ok-job.ensures.pays) c.in_ok-push_load-in-Runs.ensures.loads c.in_ok-push_load-in-Runs.ensures.items

pub returns-in-Spent-clause-begins : goal.returns-in-Spent-clause-begins
returns-in-Spent-clause-begins c =
    load_did_not c.args.name.now c.args.purpose c.args.asker.now c.args.budget.now c.begin.new.budget
    (subst (λ (ls : List Loading). (a : Ask) → a.budget ≡ c.args.budget.now → a.loads ≡ loads_of ls → BeginsAs begun.Spent c.args.name.now c.args.purpose ls a c.begin.new.budget) c.as_slice.ensures.value
    (subst (λ r. (a : Ask) → a.budget ≡ c.args.budget.now → a.loads ≡ loads_of c.as_slice.result.now → BeginsAs r c.args.name.now c.args.purpose c.as_slice.result.now a c.begin.new.budget) c.in-Spent.is c.in_ok-job.ensures.begins))
    (subst (λ r. IsPaid r c.args.budget.now c.begin.new.budget) c.in-Spent.is c.in_ok-job.ensures.pays)
