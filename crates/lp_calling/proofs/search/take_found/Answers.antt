use Rattle.std.proofs.Common.{◌≡◌, ◌∙◌, ◌+◌, ◌∷◌, [], ap, arith, length, length-append, take}
use Rattle.std.proofs.lemmas.List.{length-take-le}
use Rattle.lp_values.specs.declared.value.Value.TheVariants as values
use Rattle.lp_calling.proofs.Calling.{fit_with}
use Rattle.lp_calling.proofs.search.take_found.Goals as goal

pub returns-clause-on : goal.returns-clause-on
returns-clause-on c =
    let front : length (take c.args.low c.args.stack.now.items) ≡ c.args.low = length-take-le c.args.low c.args.stack.now.items c.requires in
    let size : length c.put_at.new.stack.items ≡ length (take c.args.low c.args.stack.now.items) + length (values.Obj c.args.o ∷ []) = ap length c.in_ok-put_at.ensures ∙ length-append (take c.args.low c.args.stack.now.items) (values.Obj c.args.o ∷ []) in
    omega arith

pub returns-clause-fit : goal.returns-clause-fit
returns-clause-fit c = λ l h. fit_with l c.args.stack.now.items c.put_at.new.stack.items c.args.low (values.Obj c.args.o) c.in_ok-put_at.ensures tt h
