use Rattle.std.proofs.Common.{◌≡◌, map, true, false, sym, ap, ◌∙◌, subst, rules}
use Rattle.std.specs.List.{list_any}
use Rattle.lp_tree.specs.UnitView.{item_of}
use Rattle.lp_language.specs.Resolve.{own_variables}
use Rattle.lp_codegen_unit.specs.Rows.{IsInitRow, declares_one}
use Rattle.lp_codegen_unit.proofs.Having.{items_any}
use Rattle.lp_codegen_unit.proofs.Standing.{no_initialisers, some_initialisers}
use Rattle.lp_codegen_unit.proofs.initialisers.gen_last.Goals as goal

pub returns-then-not-has_initialiser : goal.returns-then-not-has_initialiser
returns-then-not-has_initialiser c =
    let vs = own_variables (map item_of c.args.items.now.items) in
    let none : c.has_initialiser.result ≡ false = search rules in
    no_initialisers c.args.scope.now _ vs c.args.first (sym (items_any c.args.items.now.items) ∙ ap (list_any declares_one) (sym c.as_slice.ensures.value) ∙ sym c.has_initialiser.ensures ∙ none)

pub returns : goal.returns
returns c =
    let vs = own_variables (map item_of c.args.items.now.items) in
    let some : c.has_initialiser.result ≡ true = search rules in
    some_initialisers vs c.args.first c.in_ok-init_row.field-0 (sym (items_any c.args.items.now.items) ∙ ap (list_any declares_one) (sym c.as_slice.ensures.value) ∙ sym c.has_initialiser.ensures ∙ some) c.in_ok-gen_initialisers.ensures (subst (λ n. IsInitRow n c.in_ok-init_row.field-0) c.in_ok-from.ensures c.in_ok-init_row.ensures)
