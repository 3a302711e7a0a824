use Rattle.std.proofs.Common.{ap}
use Rattle.std.specs.Prelude.{option_map}
use Rattle.lp_parser_stmt.specs.View.{names_of, declarators_of, whose_of}
use Rattle.lp_parser_stmt.proofs.Readers.{names_ends, same_names, declaring_ends}
use Rattle.lp_parser_stmt.proofs.declaration.declaring.Goals as goal

pub returns-in-Ends-Some : goal.returns-in-Ends-Some
returns-in-Ends-Some c = λ s.
    let d = names_of c.args.names in
    let r = names_ends d c.args.seen c.in_ok-next.field-0 c.in-Ends-Some.field-0 c.in_ok-next.ensures c.in-Ends-Some.is in
    let whole = r.1 in
    let some = ap (option_map declarators_of) c.in-Ends-Some.field-0-is in
    let same = same_names _ _ c.in-Ends-Some.ones-is in
    declaring_ends c.args.seen d _ c.mark_of-mark.result c.args.line c.args.base (whose_of c.args.whose) s s c.after_names.result c.mark_of-mark.ensures r.0 (cc) (c.after_names.ensures s)
