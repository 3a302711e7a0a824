use Rattle.std.proofs.Common.{◌≡◌, ◌+◌, ◌++◌, ◌||◌, List, map, sym, ap, ◌∙◌}
use Rattle.std.specs.Prelude.{nat_lt}
use Rattle.lp_tree.specs.StatementView.{stmt_of, stmt_trees}
use Rattle.lp_tree.specs.declared.fault.FaultKind.TheVariants.{NomaskOverridden, TooManyNames}
use Rattle.lp_types_expr.specs.ExprFaults.{when}
use Rattle.lp_types_expr.specs.Signatures.{or_else}
use Rattle.lp_layout.specs.declared.piece.Piece.{Piece}
use Rattle.lp_layout.specs.Pieces.{calls_in, locals_in, seen, stmts_pieces}
use Rattle.lp_layout.specs.Firsts.{at_if, first_kind}
use Rattle.lp_layout.specs.LayoutFaults.{call_guilt, first_fault, function_kinds, limits, overrides, stmts_calls, stmts_locals}
use Rattle.lp_layout.proofs.FirstFaults.{at_both, kind_both}
use Rattle.lp_layout.proofs.Gathered.{of_stmts, stmts_count}
use Rattle.lp_layout.proofs.faults.function_fault.Goals as goal

pub returns-in-Some : goal.returns-in-Some
returns-in-Some c = λ k.
    let f = call_guilt limits c.args.parents.now in
    let ts = c.args.parents.now in
    let ss = stmt_trees (map stmt_of c.args.stmts.now) in
    let w = c.args.name.now in
    let ps : seen c.add_stmts.new.into.items ≡ stmts_pieces ss = c.in_ok-add_stmts.ensures ∙ ap (λ (l : List Piece). seen l ++ stmts_pieces ss) c.new-pieces.ensures.items in
    let full : c.is_full-is_full.result ≡ nat_lt 255 c.args.params || nat_lt 255 (stmts_locals ss) =
    c.is_full-is_full.ensures ∙ ap (λ (l : List Piece). nat_lt 255 c.args.params || nat_lt 255 (locals_in (seen l))) c.as_slice.ensures.value
    ∙ ap (λ l. nat_lt 255 c.args.params || nat_lt 255 (locals_in l)) ps ∙ ap (λ n. nat_lt 255 c.args.params || nat_lt 255 n) (sym (stmts_count ss)) in
    let kinds = function_kinds limits ts w c.args.params (stmts_locals ss) in
    let large = when c.args.is_large TooManyNames in
    let first : first_kind kinds ≡ c.earlier-kind.result =
    kind_both (when (overrides ts w) NomaskOverridden) (when (nat_lt 255 c.args.params || nat_lt 255 (stmts_locals ss)) TooManyNames)
    ∙ ap (λ b. or_else (first_kind (when b NomaskOverridden)) (first_kind (when (nat_lt 255 c.args.params || nat_lt 255 (stmts_locals ss)) TooManyNames))) (sym (c.overrides.ensures ts k))
    ∙ ap (λ b. or_else (first_kind (when c.overrides.result NomaskOverridden)) (first_kind (when b TooManyNames))) (sym full)
    ∙ sym (c.earlier-kind.ensures ∙ ap (λ z. or_else z c.when-2.result) c.when.ensures ∙ ap (λ z. or_else (first_kind (when c.overrides.result NomaskOverridden)) z) c.when-2.ensures) in
    let head : at_if c.args.line (first_kind (kinds ++ large)) ≡ c.at_if-head.result =
    ap (at_if c.args.line) (kind_both kinds large ∙ ap (λ z. or_else z (first_kind large)) first ∙ ap (λ z. or_else c.earlier-kind.result z) (sym c.when-whole.ensures) ∙ sym c.earlier.ensures) ∙ sym c.at_if-head.ensures in
    let calls = stmts_calls f ss in
    sym (at_both c.args.line (kinds ++ large) calls ∙ ap (λ o. or_else o (first_fault calls)) (head ∙ c.in-Some.is))

pub returns : goal.returns
returns c = λ k.
    let f = call_guilt limits c.args.parents.now in
    let ts = c.args.parents.now in
    let ss = stmt_trees (map stmt_of c.args.stmts.now) in
    let w = c.args.name.now in
    let ps : seen c.add_stmts.new.into.items ≡ stmts_pieces ss = c.in_ok-add_stmts.ensures ∙ ap (λ (l : List Piece). seen l ++ stmts_pieces ss) c.new-pieces.ensures.items in
    let full : c.is_full-is_full.result ≡ nat_lt 255 c.args.params || nat_lt 255 (stmts_locals ss) =
    c.is_full-is_full.ensures ∙ ap (λ (l : List Piece). nat_lt 255 c.args.params || nat_lt 255 (locals_in (seen l))) c.as_slice.ensures.value
    ∙ ap (λ l. nat_lt 255 c.args.params || nat_lt 255 (locals_in l)) ps ∙ ap (λ n. nat_lt 255 c.args.params || nat_lt 255 n) (sym (stmts_count ss)) in
    let kinds = function_kinds limits ts w c.args.params (stmts_locals ss) in
    let large = when c.args.is_large TooManyNames in
    let first : first_kind kinds ≡ c.earlier-kind.result =
    kind_both (when (overrides ts w) NomaskOverridden) (when (nat_lt 255 c.args.params || nat_lt 255 (stmts_locals ss)) TooManyNames)
    ∙ ap (λ b. or_else (first_kind (when b NomaskOverridden)) (first_kind (when (nat_lt 255 c.args.params || nat_lt 255 (stmts_locals ss)) TooManyNames))) (sym (c.overrides.ensures ts k))
    ∙ ap (λ b. or_else (first_kind (when c.overrides.result NomaskOverridden)) (first_kind (when b TooManyNames))) (sym full)
    ∙ sym (c.earlier-kind.ensures ∙ ap (λ z. or_else z c.when-2.result) c.when.ensures ∙ ap (λ z. or_else (first_kind (when c.overrides.result NomaskOverridden)) z) c.when-2.ensures) in
    let head : at_if c.args.line (first_kind (kinds ++ large)) ≡ c.at_if-head.result =
    ap (at_if c.args.line) (kind_both kinds large ∙ ap (λ z. or_else z (first_kind large)) first ∙ ap (λ z. or_else c.earlier-kind.result z) (sym c.when-whole.ensures) ∙ sym c.earlier.ensures) ∙ sym c.at_if-head.ensures in
    let calls = stmts_calls f ss in
    c.in_ok-fault.ensures ∙ ap (λ (l : List Piece). first_fault (calls_in f (seen l))) c.as_slice-2.ensures.value ∙ ap (λ l. first_fault (calls_in f l)) ps ∙ ap first_fault (sym (of_stmts f ss))
    ∙ sym (at_both c.args.line (kinds ++ large) calls ∙ ap (λ o. or_else o (first_fault calls)) (head ∙ c.in-None.is))
