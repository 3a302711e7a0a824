use Rattle.std.proofs.Common.{Some, ◌∙◌}
use Rattle.lp_codegen_expr.proofs.Found.{name_noted}
use Rattle.lp_codegen_expr.proofs.index.note.Goals as goal

pub returns : goal.returns
returns c = name_noted c.in_ok-from_slice.field-0 c.args.places.now c.insert.new.self (Some c.args.at) (c.in_ok-from_slice.ensures.items ∙ c.as_slice.ensures) c.in_ok-insert.ensures.updates
