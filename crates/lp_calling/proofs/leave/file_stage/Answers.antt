use Rattle.std.proofs.Common.{◌∙◌, ap, sym}
use Rattle.lp_meaning.specs.FileEfuns.{is_path}
use Rattle.lp_calling.proofs.Leaving.{refused_asks}
use Rattle.lp_calling.proofs.leave.file_stage.Goals as goal

pub leave_stage-requires : goal.leave_stage-requires
leave_stage-requires c = ap is_path (sym c.as_slice.ensures) ∙ sym c.in_ok-is_path.ensures ∙ c.if-branch.true

pub returns-clause-asks : goal.returns-clause-asks
returns-clause-asks c = refused_asks c.args.live.now c.args.this c.args.deed c.args.path (ap is_path (sym c.as_slice.ensures) ∙ sym c.in_ok-is_path.ensures ∙ c.if-branch.false)
