use Rattle.std.proofs.Common.{◌≡◌, ◌∙◌, rules}
use Rattle.lp_masking.specs.Masks.{programs_forbid}
use Rattle.lp_masking.proofs.Masked.{forbids_same}
use Rattle.lp_masking.proofs.masking.forbids.Goals as goal

pub returns-then-do_mask-clause-means : goal.returns-then-do_mask-clause-means
returns-then-do_mask-clause-means c = λ h k fh fk.
    let v : c.do_mask.result ≡ programs_forbid c.args.victim.now c.args.other.now = search rules in v ∙ forbids_same h k c.args.victim.now c.args.other.now fh fk

pub returns-else-do_mask-clause-means : goal.returns-else-do_mask-clause-means
returns-else-do_mask-clause-means c = λ h k fh fk.
    let v : c.args.victim.now.tables.pragmas.no_shadow ≡ programs_forbid c.args.victim.now c.args.other.now = search rules in v ∙ forbids_same h k c.args.victim.now c.args.other.now fh fk
