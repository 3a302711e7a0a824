use Rattle.std.proofs.Common.{◌≡◌, ◌∙◌, length, subst, sym, take}
use Rattle.std.specs.Prelude.{IsAscii}
use Rattle.std.proofs.lemmas.Str.{IsUtf8-from_ascii}
use Rattle.lp_vm.proofs.Reachings.{can_outside, foreign_finds}
use Rattle.lp_vm.proofs.asking.reach_short.Goals as goal

pub find_outside-requires-clause-can : goal.find_outside-requires-clause-can
find_outside-requires-clause-can g c =
    let same : c.in-Ok.spelled.now ≡ c.args.name.now = c.in-Ok.ensures.cases.0 ∙ c.spell.ensures.name c.if-not-spell.false ∙ c.as_slice-letters.ensures in
    can_outside c.args.this c.args.ob c.args.name.now c.in-Ok.spelled.now (g.W.SwapFile.content c.args.swap.now) c.args.live.now same c.requires.can

pub returns-then-not-spell-clause-found : goal.returns-then-not-spell-clause-found
returns-then-not-spell-clause-found g c =
    foreign_finds c.args.this c.args.ob c.args.name.now (g.W.SwapFile.content c.args.swap.now) c.args.live.now (λ ascii. c.spell.ensures.none c.if-not-spell.true (subst IsAscii (sym c.as_slice-letters.ensures) ascii))

pub returns-in-Err-clause-found : goal.returns-in-Err-clause-found
returns-in-Err-clause-found g c =
    let same : take (length c.as_slice-letters.result.now) c.spell.new.into ≡ c.args.name.now = c.spell.ensures.name c.if-not-spell.false ∙ c.as_slice-letters.ensures in
    foreign_finds c.args.this c.args.ob c.args.name.now (g.W.SwapFile.content c.args.swap.now) c.args.live.now
    (λ ascii. c.in-Err.ensures.cases.0 (IsUtf8-from_ascii (take (length c.as_slice-letters.result.now) c.spell.new.into) (subst IsAscii (sym same) ascii)))
