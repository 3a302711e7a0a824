use Rattle.std.proofs.Common.{◌∙◌, ap}
use Rattle.lp_instr.specs.EfunList.{efun_in}
use Rattle.lp_instr.proofs.Names.{named_among}
use Rattle.lp_instr.proofs.efun.Efun.named.Goals as goal

pub returns : goal.returns
returns c = c.among.ensures ∙ ap (λ es. efun_in es c.args.name.now) c.of_length.ensures ∙ named_among c.args.name.now
