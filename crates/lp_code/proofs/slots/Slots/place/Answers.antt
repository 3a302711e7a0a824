use Rattle.std.proofs.Common.{◌≡◌, ℕ, rules, sym, subst, ◌<◌, length, Option}
use Rattle.std.specs.Prelude.{IfSome}
use Rattle.lp_code.specs.Slots.{first_place}
use Rattle.lp_code.proofs.Indexing.{place_inside}
use Rattle.lp_code.proofs.slots.Slots.place.Goals as goal

pub returns-clause-inside : goal.returns-clause-inside
returns-clause-inside c = let e : c.copied.result ≡ first_place c.args.name.now c.args.self.now = search rules in
    let P : Option ℕ → Type 0 = λ o. IfSome o (λ k. k < length c.args.self.now) in subst P (sym e) (place_inside c.args.name.now c.args.self.now)
