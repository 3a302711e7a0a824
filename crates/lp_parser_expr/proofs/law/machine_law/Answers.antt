use Rattle.lp_parser_expr.proofs.Main.{sound_all, complete_all, begun, refused, deep}
use Rattle.lp_parser_expr.proofs.Shallow.{finished-height}
use Rattle.lp_parser_expr.proofs.law.machine_law.Goals as goal

pub returns : goal.returns
returns c = record { read = sound_all; spelled = complete_all; begun = begun; refused = λ b front others t e d h. refused b front others t e d h; deep = λ b front others t st e d h. deep b front others t st e d h; whole = finished-height }
