use Rattle.std.proofs.Common.{◌∙◌, ap, subst, sym}
use Rattle.std.specs.Prelude.{Some}
use Rattle.lp_parser_stmt.specs.Moves.{FirstIs}
use Rattle.lp_parser_stmt.specs.View.{names_of}
use Rattle.lp_parser.specs.Machine.{NeedParam}
use Rattle.lp_parser.specs.Moves.{Moves}
use Rattle.lp_parser.specs.View.{before_of}
use Rattle.lp_parser.proofs.Steps.{others, typed_first, typed_others}
use Rattle.lp_parser.proofs.machine.opens.Goals as goal

pub returns-in-Alone : goal.returns-in-Alone
returns-in-Alone c =
    let d = names_of c.args.names in
    let b = before_of c.args.before.now in
    typed_first d c.args.seen b c.args.typed.line c.args.typed.mods.items c.args.typed.base c.in-Alone.stars c.in-Alone.name c.requires (subst (λ y. FirstIs d y) c.in-Alone.is c.first.ensures)
    ∙ ap (λ h. Some (NeedParam b h)) (sym c.typed_head.ensures)

pub returns-in-Other : goal.returns-in-Other
returns-in-Other c =
    let d = names_of c.args.names in
    let b = before_of c.args.before.now in
    let after = before_of c.names_go.new.before in
    let q = subst (λ y. FirstIs d y) c.in-Other.is c.first.ensures in
    subst (λ o. Moves o after c.names_go.result) (sym (typed_others d c.args.seen b c.args.typed.line c.args.typed.mods.items c.args.typed.base c.requires q.0))
    (subst (λ n. Moves (others n c.args.seen b c.args.typed.line c.args.typed.mods.items c.args.typed.base) after c.names_go.result) q.1 c.names_go.ensures)
