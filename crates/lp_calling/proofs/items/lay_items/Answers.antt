use Rattle.std.proofs.Common.{◌≡◌, ◌∙◌, ◌++◌, All, Bool, List, ap, drop, length, map, subst, sym}
use Rattle.std.proofs.lemmas.List.Elements.{All-append, All-drop}
use Rattle.lp_values.specs.declared.id.ObjId.{ObjId}
use Rattle.lp_values.specs.declared.value.Value.{Value}
use Rattle.lp_cells.specs.Cells.{IsThere, Store}
use Rattle.lp_ops.specs.Operands.{opened, operand}
use Rattle.lp_meaning.specs.EfunArguments.{arg, items_arg, items_in}
use Rattle.lp_world.specs.Rows.{live_in}
use Rattle.lp_calling.proofs.Rounds.{items_held}
use Rattle.lp_calling.proofs.items.lay_items.Goals as goal

-- the items that were found are those of the argument
found : (l : ObjId → Bool) (cells : Store) (array : Value) (its vs ws : List Value) → its ≡ items_in (opened l cells array) → opened l cells array ≡ arg (map (operand l cells) vs) 0 → vs ≡ ws → its ≡ items_arg (map (operand l cells) ws) 0
found l cells array its vs ws a b c = a ∙ ap items_in b ∙ ap (λ ws. items_arg (map (operand l cells) ws) 0) c

pub items_in-items-requires : goal.items_in-items-requires
items_in-items-requires c =
    c.in_ok-array.ensures.there c.args.cells.now (subst (λ l. All (IsThere c.args.cells.now) l) (sym c.above.ensures) (All-drop (IsThere c.args.cells.now) c.args.low c.args.stack.now.items c.requires.there))

pub returns-clause-items : goal.returns-clause-items
returns-clause-items c =
    let l = live_in c.args.objects.now in
    c.in_ok-put_all.ensures ∙ ap (λ xs. c.args.stack.now.items ++ xs)
    (found l c.args.cells.now c.in_ok-array.array c.items_in-items.result.now c.above.result.now (drop c.args.low c.args.stack.now.items) (c.items_in-items.ensures l) (c.in_ok-array.ensures.value c.args.cells.now) c.above.ensures)

pub returns-clause-count : goal.returns-clause-count
returns-clause-count c =
    let l = live_in c.args.objects.now in
    ap length (found l c.args.cells.now c.in_ok-array.array c.items_in-items.result.now c.above.result.now (drop c.args.low c.args.stack.now.items) (c.items_in-items.ensures l) (c.in_ok-array.ensures.value c.args.cells.now) c.above.ensures)

pub returns-clause-there : goal.returns-clause-there
returns-clause-there c =
    let l = live_in c.args.objects.now in
    subst (λ s. All (IsThere c.args.cells.now) s) (sym c.in_ok-put_all.ensures)
    (All-append (IsThere c.args.cells.now) c.args.stack.now.items c.items_in-items.result.now c.requires.there
    (subst (λ s. All (IsThere c.args.cells.now) s) (sym (c.items_in-items.ensures l)) (items_held l c.args.cells.now c.in_ok-array.array c.requires.closed)))
