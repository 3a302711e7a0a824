use Rattle.std.proofs.Common.{◌∙◌, ap, subst, sym}
use Rattle.lp_parser_stmt.specs.View.{names_of}
use Rattle.lp_parser.specs.Machine.{is_paren}
use Rattle.lp_parser.specs.Moves.{Moves}
use Rattle.lp_parser.specs.View.{before_of}
use Rattle.lp_parser.proofs.Steps.{typed_names}
use Rattle.lp_parser.proofs.machine.typed.Goals as goal

pub returns : goal.returns
returns c =
    subst (λ o. Moves o (before_of c.names_go.new.before) c.names_go.result)
    (sym (typed_names (names_of c.args.names) c.args.seen (before_of c.args.before.now) c.args.typed.line c.args.typed.mods.items c.args.typed.base (ap is_paren (sym c.mark_of.ensures) ∙ sym c.is_paren.ensures ∙ c.if-is_paren.false)))
    c.names_go.ensures
