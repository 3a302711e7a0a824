use Rattle.std.proofs.Common.{slice_index, ◌≡◌, ◌+◌, ◌-◌, length, sym, subst, ◌∙◌, arith}
use Rattle.lp_search.specs.Cuts.{Precedes}
use Rattle.lp_search.proofs.OrderLemmas.{Precedes-trans, Precedes-irrefl}
use Rattle.lp_search.proofs.SuffixLemmas.{IsScan, IsScan-start, IsScan-accept, IsScan-skip, IsScan-push, IsScan-block, IsScan-end}
use Rattle.lp_search.proofs.two_way.greatest_suffix.Goals as goal

pub loop-candidate-init : goal.loop-candidate-init
loop-candidate-init c = IsScan-start (Precedes c.args.kind) (Precedes-trans c.args.kind) (Precedes-irrefl c.args.kind) _ _ c.requires

pub loop-candidate-preserved-in-Accept : goal.loop-candidate-preserved-in-Accept
loop-candidate-preserved-in-Accept c =
    let s = c.loop-candidate in
    let won = c.cmp.ensures.accept c.in-Accept.is in
    let x = slice_index c.args.needle.now in
    IsScan-accept (Precedes c.args.kind) (Precedes-trans c.args.kind) (Precedes-irrefl c.args.kind) x _ s.invariant c.loop-candidate-test.true
    (subst (λ v. Precedes c.args.kind v (x (s.candidate + s.offset))) c.seen-current.ensures (subst (Precedes c.args.kind c.seen-current.result) c.seen-other.ensures won))

pub loop-candidate-preserved-in-Skip : goal.loop-candidate-preserved-in-Skip
loop-candidate-preserved-in-Skip c =
    let s = c.loop-candidate in
    let lost = c.cmp.ensures.skip c.in-Skip.is in
    let x = slice_index c.args.needle.now in
    let m = length c.args.needle.now in
    let moved : s.candidate + s.offset + 1 ≡ s.candidate + (s.offset + 1) = omega arith in
    subst (λ k. IsScan (Precedes c.args.kind) x m s.pos (k - s.pos) k 0) moved
    (IsScan-skip (Precedes c.args.kind) (Precedes-trans c.args.kind) (Precedes-irrefl c.args.kind) x m s.invariant c.loop-candidate-test.true
    (subst (λ v. Precedes c.args.kind v (x (s.pos + s.offset))) c.seen-other.ensures (subst (Precedes c.args.kind c.seen-other.result) c.seen-current.ensures lost)))

pub loop-candidate-preserved-then-offset-period : goal.loop-candidate-preserved-then-offset-period
loop-candidate-preserved-then-offset-period c =
    let s = c.loop-candidate in
    let eq = sym c.seen-current.ensures ∙ c.cmp.ensures.push c.in-Push.is ∙ c.seen-other.ensures in
    IsScan-block (Precedes c.args.kind) (Precedes-trans c.args.kind) (Precedes-irrefl c.args.kind) _ _ s.invariant c.loop-candidate-test.true eq c.if-offset-period.true

pub loop-candidate-preserved : goal.loop-candidate-preserved
loop-candidate-preserved c =
    let s = c.loop-candidate in
    let short = s.invariant.short in
    let differs = c.if-offset-period.false in
    let eq = sym c.seen-current.ensures ∙ c.cmp.ensures.push c.in-Push.is ∙ c.seen-other.ensures in
    IsScan-push (Precedes c.args.kind) (Precedes-trans c.args.kind) (Precedes-irrefl c.args.kind) _ _ s.invariant c.loop-candidate-test.true eq (omega arith)

pub returns : goal.returns
returns c =
    let s = c.loop-candidate in
    let within = s.invariant.within in
    let ended = c.loop-candidate-test.false in
    IsScan-end (Precedes c.args.kind) (Precedes-trans c.args.kind) (Precedes-irrefl c.args.kind) _ _ s.invariant (omega arith)
