use Rattle.std.proofs.Common.{◌≡◌, ◌∙◌, ◌-◌, Some, ap, arith, length, rules, sym}
use Rattle.std.specs.Prelude.{slice_set}
use mir.Val.{to_z, of_z}
use mir.Syntax.{w64}
use Rattle.lp_values.specs.declared.value.Value.TheVariants.{Int}
use Rattle.lp_step.proofs.Placed.{counted_in_place}
use Rattle.lp_step.proofs.integers.count_in_place.Goals as goal

pub returns : goal.returns
returns c =
    let l : c.len-i.result ≡ length c.args.stack.now.items = search rules in
    let x : c.in-Some.n ≡ to_z w64 (of_z w64 c.in-Some.n) = search rules in
    let z : c.in-Some-next_integer.k ≡ to_z w64 (of_z w64 c.in-Some-next_integer.k) = search rules in
    counted_in_place c.args.step c.args.stack.now.items c.write_at.new.stack.items c.len-i.result (to_z w64 (of_z w64 c.in-Some.n)) c.in-Some-next_integer.k c.args.budget.now l c.requires
    (c.in-Some.ensures ∙ ap (λ z. Some (Int z)) x) c.in-Some-next_integer.ensures (omega (arith, c.if-budget-eq0.false)) (c.write_at.ensures ∙ ap (λ i. slice_set c.args.stack.now.items (c.len-i.result - 1) (Int i)) (sym z))
