use Rattle.std.proofs.Common.{rules, ◌≡◌, ◌<◌, length, arith, Some, None}
use Rattle.lp_text.proofs.FindLemmas.{is_empty_place, is_place}
use Rattle.lp_text.proofs.search.find.Goals as goal

pub returns-then-is_empty : goal.returns-then-is_empty
returns-then-is_empty c =
    let none : length c.args.t.now ≡ 0 = search rules in
    is_empty_place c.args.t.now c.args.s.now c.args.from none (omega (arith, c.if-from-s.false))

pub returns-in-Some : goal.returns-in-Some
returns-in-Some c =
    let some : 0 < length c.args.t.now = search rules in
    is_place c.args.t.now c.args.s.now c.args.from some (omega (arith, c.if-from-s.false)) (Some c.in-Some.i) c.in-Some.ensures

pub returns-in-None : goal.returns-in-None
returns-in-None c =
    let some : 0 < length c.args.t.now = search rules in
    is_place c.args.t.now c.args.s.now c.args.from some (omega (arith, c.if-from-s.false)) None c.in-None.ensures
