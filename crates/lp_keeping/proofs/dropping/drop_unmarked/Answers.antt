use Rattle.std.proofs.Common.{◌≡◌, ◌∙◌, ◌+◌, ◌<◌, ap, arith, length, suc}
use Rattle.std.proofs.lemmas.List.{take_all}
use Rattle.lp_keeping.specs.Needs.{marked_rows}
use Rattle.lp_keeping.proofs.Dropped.{mark_step, only_on}
use Rattle.lp_keeping.proofs.dropping.drop_unmarked.Goals as goal

pub loop-n-preserved : goal.loop-n-preserved
loop-n-preserved c =
    let n = c.loop-n.n in
    let l : n < length c.args.marks.now = omega arith in
    let e : n + 1 ≡ suc n = omega arith in
    record {
      versions = mark_step c.args.marks.now c.args.live.now.versions c.loop-n.live.versions c.drop_if_not.new.live.versions n (n + 1) c.is_marked.result l e c.is_marked.ensures c.loop-n.invariant.versions c.drop_if_not.ensures.versions;
      room = c.drop_if_not.ensures.room;
      only = only_on c.args.live.now c.loop-n.live c.drop_if_not.new.live c.loop-n.invariant.only c.drop_if_not.ensures.only;
    }

pub returns-clause-versions : goal.returns-clause-versions
returns-clause-versions c = c.loop-n.invariant.versions ∙ ap (λ ms. marked_rows ms c.args.live.now.versions) (take_all c.loop-n.n c.args.marks.now (omega arith))
