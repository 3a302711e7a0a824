use Rattle.lp_parser_stmt.specs.Machine.{names_step, names_finished, mark_in}
use Rattle.lp_parser_stmt.specs.View.{names_of}
use Rattle.lp_parser.specs.View.{before_of}
use Rattle.lp_parser.proofs.Steps.{names_goes, names_end}
use Rattle.lp_parser.proofs.machine.names_go.Goals as goal

pub returns-in-Goes : goal.returns-in-Goes
returns-in-Goes c =
    let d = names_of c.args.names in
    names_goes (names_step d c.args.seen) (names_finished d) c.in_ok-next.field-0 c.in-Goes.next (mark_in c.args.seen.sort) (before_of c.args.before.now) c.args.typed.line c.args.typed.mods.items c.args.typed.base c.in_ok-next.ensures c.in-Goes.is

pub returns-in-Ends : goal.returns-in-Ends
returns-in-Ends c =
    let d = names_of c.args.names in
    names_end (names_step d c.args.seen) (names_finished d) c.in_ok-next.field-0 c.in-Ends.ones c.mark_of-mark.result (mark_in c.args.seen.sort) (before_of c.args.before.now) (before_of c.after_names.new.before)
    c.args.typed.line c.args.typed.mods.items c.args.typed.base c.after_names.result c.in_ok-next.ensures c.in-Ends.is c.mark_of-mark.ensures c.after_names.ensures
