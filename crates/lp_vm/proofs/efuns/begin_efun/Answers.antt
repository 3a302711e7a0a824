use Rattle.std.proofs.Common.{◌∙◌, sym}
use Rattle.lp_vm.proofs.Left.{only_sscanf}
use Rattle.lp_vm.proofs.efuns.begin_efun.Goals as goal

pub unasked-requires : goal.unasked-requires
unasked-requires c =
    record { sscanf = only_sscanf c.args.efun (sym c.is_plain.ensures ∙ c.if-is_plain.false) (sym c.is_calling.ensures ∙ c.if-is_calling.false) (sym c.is_ending.ensures.value ∙ c.if-is_ending.false) c.requires.nothing }
