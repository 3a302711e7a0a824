use Rattle.std.proofs.Common.{◌≡◌, ◌∙◌, ◌+◌, ℕ, Option, Some, arith, ap, length, take}
use Rattle.lp_world.specs.Closed.{parts_together}
use Rattle.lp_world.specs.declared.targets.FunAt.{FunAt}
use Rattle.lp_targets.proofs.Lookups.{one_some}
use Rattle.lp_targets.proofs.parents.parent_moved.Goals as goal

abbrev fun_at : ℕ → ℕ → Option FunAt
fun_at part fun = Some (record { part = part; fun = fun })

pub returns-in-Some-behind : goal.returns-in-Some-behind
returns-in-Some-behind c = λ first e room.
    let whole = parts_together c.args.versions.now (take c.args.parent c.args.code.now.tables.parents) in
    let inner = c.in-Some-behind.inner in
    let tb : parts_together c.args.versions.now c.parents_before.result.now ≡ whole = ap (parts_together c.args.versions.now) c.parents_before.ensures in
    let bb : c.in-Some.before ≡ parts_together c.args.versions.now c.parents_before.result.now = one_some c.in-Some.before _ (c.in-Some.ensures.is (omega (arith, tb, room))) in
    let i : inner ≡ record { part = c.in-Some.before + c.args.at.part; fun = c.args.at.fun } = one_some inner _ (c.in-Some-behind.ensures (omega (arith, bb, tb, room))) in
    let ip : inner.part ≡ c.in-Some.before + c.args.at.part = ap (λ (f : FunAt). f.part) i in
    let fi : inner.fun ≡ c.args.at.fun = ap (λ (f : FunAt). f.fun) i in
    let l = ap length c.as_slice.ensures in
    c.moved.ensures first (omega (arith, e, l)) (omega (arith, ip, bb, tb, room))
    ∙ ap (λ z. fun_at (first + z) inner.fun) (ip ∙ ap (λ z. z + c.args.at.part) (bb ∙ tb))
    ∙ ap (λ z. fun_at (first + (whole + c.args.at.part)) z) fi
