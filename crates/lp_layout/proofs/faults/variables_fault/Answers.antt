use Rattle.std.proofs.Common.{◌+◌, ◌++◌, List, map, sym, ap, ◌∙◌}
use Rattle.lp_tree.specs.StatementView.{declarator_of}
use Rattle.lp_tree.specs.declared.fault.FaultKind.TheVariants.{TooManyNames}
use Rattle.lp_types_expr.specs.ExprFaults.{when}
use Rattle.lp_types_expr.specs.Walk.{all_at}
use Rattle.lp_layout.specs.declared.piece.Piece.{Piece}
use Rattle.lp_layout.specs.Pieces.{calls_in, ones_pieces, seen}
use Rattle.lp_layout.specs.LayoutFaults.{call_guilt, declarators_calls, first_fault, limits}
use Rattle.lp_layout.proofs.Gathered.{ones_calls}
use Rattle.lp_layout.proofs.faults.variables_fault.Goals as goal

pub returns : goal.returns
returns c =
    let f = call_guilt limits c.args.parents.now in
    let ds = map declarator_of c.args.ones.now in
    c.in_ok-fault.ensures ∙ ap (λ (l : List Piece). first_fault (calls_in f (seen l))) c.as_slice.ensures.value
    ∙ ap (λ l. first_fault (calls_in f l)) (c.in_ok-add_ones.ensures ∙ ap (λ (l : List Piece). seen l ++ ones_pieces ds) c.new-pieces.ensures.items)
    ∙ ap first_fault (sym (ones_calls f ds))
    ∙ ap (λ b. first_fault (all_at c.args.line (when b TooManyNames) ++ declarators_calls f ds)) (sym c.if-is_large.false)
