use Rattle.std.proofs.Common.{◌∙◌, ap, chars, sym, if◌then◌else◌}
use Rattle.lp_values.specs.declared.error.ErrorKind.TheVariants.{BadTarget}
use Rattle.lp_calling.specs.declared.job.Stage.TheVariants as stages
use Rattle.lp_calling.specs.declared.moving.Moving.TheVariants as moves
use Rattle.lp_calling.proofs.moving.unnamed_stage.Goals as goal

pub returns-then-is_clone_name-clause-stage : goal.returns-then-is_clone_name-clause-stage
returns-then-is_clone_name-clause-stage c =
    sym (ap (λ b. if b then stages.Error BadTarget else stages.Move (moves.Destination (chars c.args.name.now))) (sym c.is_clone_name.ensures ∙ c.if-is_clone_name.true))

pub returns-clause-stage : goal.returns-clause-stage
returns-clause-stage c =
    ap (λ t. stages.Move (moves.Destination t)) c.in_ok-from_str.ensures
    ∙ sym (ap (λ b. if b then stages.Error BadTarget else stages.Move (moves.Destination (chars c.args.name.now))) (sym c.is_clone_name.ensures ∙ c.if-is_clone_name.false))
