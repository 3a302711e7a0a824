use Rattle.std.proofs.Common.{◌≡◌, ◌∙◌, ◌-◌, Some, ap, arith, length, rules, sym}
use Rattle.std.specs.Prelude.{slice_set}
use mir.Val.{to_z, of_z}
use mir.Syntax.{w64}
use Rattle.lp_values.specs.declared.value.Value.TheVariants.{Int}
use Rattle.lp_step.proofs.Placed.{placed}
use Rattle.lp_step.proofs.integers.binary_in_place.Goals as goal

pub returns : goal.returns
returns c =
    let l : c.len-below.result ≡ length c.args.stack.now.items = search rules in
    let x : c.in-Some.m ≡ to_z w64 (of_z w64 c.in-Some.m) = search rules in
    let y : c.in-Some-integer_at.n ≡ to_z w64 (of_z w64 c.in-Some-integer_at.n) = search rules in
    let z : c.in-Some-of_integers.k ≡ to_z w64 (of_z w64 c.in-Some-of_integers.k) = search rules in
    placed c.args.op c.args.stack.now.items c.put_for_two.new.stack.items c.len-below.result (to_z w64 (of_z w64 c.in-Some.m)) (to_z w64 (of_z w64 c.in-Some-integer_at.n)) c.in-Some-of_integers.k c.args.budget.now l c.requires
    (c.in-Some.ensures ∙ ap (λ z. Some (Int z)) x) (c.in-Some-integer_at.ensures ∙ ap (λ z. Some (Int z)) y) c.in-Some-of_integers.ensures (omega (arith, c.if-budget-eq0.false)) (λ left right e. c.put_for_two.ensures left right e ∙ ap (λ i. slice_set left (length left - 1) (Int i)) (sym z))
