use Rattle.std.proofs.Common.{◌∙◌, All, ap, drop, subst, sym}
use Rattle.std.proofs.lemmas.List.Elements.{All-drop}
use Rattle.lp_values.specs.declared.value.Value.TheVariants as values
use Rattle.lp_cells.specs.Cells.{IsThere, with_cell}
use Rattle.lp_cells.specs.declared.content.Content.TheVariants as content
use Rattle.lp_calling.proofs.Rounds.{array_there}
use Rattle.lp_calling.proofs.items.array_above.Goals as goal

pub returns-in-Ok-clause-value : goal.returns-in-Ok-clause-value
returns-in-Ok-clause-value c = ap (λ n. values.Arr (record { 0 = n })) c.in-Ok.ensures.made.1.0

pub returns-in-Ok-clause-made : goal.returns-in-Ok-clause-made
returns-in-Ok-clause-made c = c.in-Ok.ensures.made.1.1 ∙ ap (λ l. with_cell c.args.cells.now (content.Array l)) c.in_ok-items.ensures.tail

pub returns-in-Ok-clause-there : goal.returns-in-Ok-clause-there
returns-in-Ok-clause-there c =
    array_there c.args.cells.now c.new_array.new.self (drop c.args.at c.args.stack.now.items) (values.Arr c.in-Ok.c) (returns-in-Ok-clause-made c) (returns-in-Ok-clause-value c)

pub returns-in-Ok-clause-closed : goal.returns-in-Ok-clause-closed
returns-in-Ok-clause-closed c =
    c.new_array.ensures.closed c.requires.closed (subst (λ l. All (IsThere c.args.cells.now) l) (sym c.in_ok-items.ensures.tail) (All-drop (IsThere c.args.cells.now) c.args.at c.args.stack.now.items c.requires.there))

pub returns-in-Err-clause-closed : goal.returns-in-Err-clause-closed
returns-in-Err-clause-closed c =
    c.new_array.ensures.closed c.requires.closed (subst (λ l. All (IsThere c.args.cells.now) l) (sym c.in_ok-items.ensures.tail) (All-drop (IsThere c.args.cells.now) c.args.at c.args.stack.now.items c.requires.there))
