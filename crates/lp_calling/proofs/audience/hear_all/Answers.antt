use Rattle.std.proofs.Common.{◌≡◌, ◌∙◌, ◌<◌, ◌≤◌, Some, ap, arith, length, refl, slice_get, subst}
use Rattle.lp_world.specs.declared.live.Live.{Live}
use Rattle.lp_calling.specs.Audiences.{Hears}
use Rattle.lp_calling.proofs.Audiences.{all_heard, heard_up_to, none_heard, one_heard}
use Rattle.lp_calling.proofs.Lists.{got_read}
use Rattle.lp_calling.proofs.audience.hear_all.Goals as goal

pub loop-n-init : goal.loop-n-init
loop-n-init c = record { done = none_heard c.args.audience.now c.args.live.now; more = omega arith; closed = c.requires.closed; same = refl }

pub returns-then-not-branch-clause-heard : goal.returns-then-not-branch-clause-heard
returns-then-not-branch-clause-heard c =
    let a = c.args.audience.now in
    let o = c.index.result.now in
    let within : c.loop-n.n < length a.listeners.items = omega arith in
    let at : slice_get a.listeners.items c.loop-n.n ≡ Some o = got_read a.listeners.items c.loop-n.n o within c.index.ensures in
    heard_up_to a c.args.live.now c.loop-n.live c.hear.new.live c.loop-n.n o at c.loop-n.invariant.more c.loop-n.invariant.done
    (subst (λ b. Hears b a c.loop-n.live c.hear.new.live o) c.if-not-branch.true c.in_ok-hear.ensures.hears)

pub loop-n-preserved : goal.loop-n-preserved
loop-n-preserved c =
    let a = c.args.audience.now in
    let o = c.index.result.now in
    let within : c.loop-n.n < length a.listeners.items = omega arith in
    let at : slice_get a.listeners.items c.loop-n.n ≡ Some o = got_read a.listeners.items c.loop-n.n o within c.index.ensures in
    record {
      done = one_heard a c.args.live.now c.loop-n.live c.hear.new.live c.loop-n.n o at c.loop-n.invariant.done
          (subst (λ b. Hears b a c.loop-n.live c.hear.new.live o) c.if-not-branch.false c.in_ok-hear.ensures.hears);
      more = omega (arith, c.loop-n.invariant.more);
      closed = c.in_ok-hear.ensures.closed;
      same = c.in_ok-hear.ensures.same ∙ ap (λ (l : Live). record l { outputs = c.hear.new.live.outputs }) c.loop-n.invariant.same;
    }

pub returns-clause-heard : goal.returns-clause-heard
returns-clause-heard c =
    let a = c.args.audience.now in
    let out : length a.listeners.items ≤ c.loop-n.n = omega arith in
    all_heard a c.args.live.now c.loop-n.live c.loop-n.n out c.loop-n.invariant.more c.loop-n.invariant.done
