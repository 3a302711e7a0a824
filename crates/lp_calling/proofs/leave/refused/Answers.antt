use Rattle.std.proofs.Common.{subst, sym}
use Rattle.lp_calling.specs.Leaving.{GrantedAs}
use Rattle.lp_language.specs.Course.{zero_value}
use Rattle.lp_calling.specs.declared.job.Stage.TheVariants as stages
use Rattle.std.proofs.Common.{None}
use Rattle.lp_calling.proofs.Leaving.{file_refused, shadow_refused}
use Rattle.lp_calling.proofs.leave.refused.Goals as goal

pub returns-in-File-clause-granted : goal.returns-in-File-clause-granted
returns-in-File-clause-granted c = λ l. subst (λ w. GrantedAs l w zero_value (stages.File c.in-File.deed None)) (sym c.in-File.is) (file_refused l c.in-File.deed c.in-File.field-1 c.in-File.field-2)

pub returns-clause-granted : goal.returns-clause-granted
returns-clause-granted c = λ l. subst (λ w. GrantedAs l w zero_value stages.Zero) (sym c.in-Shadow.is) (shadow_refused l c.in-Shadow.field-0 c.in-Shadow.field-1)
