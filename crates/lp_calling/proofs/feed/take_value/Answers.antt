use Rattle.std.proofs.Common.{◌≡◌, ◌+◌, ◌∷◌, [], ◌∙◌, ap, arith, length, length-append, take}
use Rattle.std.proofs.lemmas.List.{length-take-le}
use Rattle.lp_calling.proofs.Calling.{call_takes, fit_with}
use Rattle.lp_calling.proofs.Loading.{load_takes}
use Rattle.lp_calling.proofs.feed.take_value.Goals as goal

pub returns-clause-takes : goal.returns-clause-takes
returns-clause-takes c = λ o name live. call_takes o name c.args.v live c.args.low c.args.stack.now.items c.put_at.new.stack.items c.in_ok-put_at.ensures

pub returns-clause-loaded : goal.returns-clause-loaded
returns-clause-loaded c = λ name live. load_takes name c.args.v live c.args.low c.args.stack.now.items c.put_at.new.stack.items c.in_ok-put_at.ensures

pub returns-clause-on : goal.returns-clause-on
returns-clause-on c =
    let front : length (take c.args.low c.args.stack.now.items) ≡ c.args.low = length-take-le c.args.low c.args.stack.now.items c.requires in
    let size : length c.put_at.new.stack.items ≡ length (take c.args.low c.args.stack.now.items) + length (c.args.v ∷ []) = ap length c.in_ok-put_at.ensures ∙ length-append (take c.args.low c.args.stack.now.items) (c.args.v ∷ []) in
    omega arith

pub returns-clause-fit : goal.returns-clause-fit
returns-clause-fit c = λ l i h. fit_with l c.args.stack.now.items c.put_at.new.stack.items c.args.low c.args.v c.in_ok-put_at.ensures i h
