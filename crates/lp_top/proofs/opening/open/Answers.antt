use Rattle.std.proofs.Common.{◌∙◌, ◌<◌, ◌≤◌, sym, subst, arith, ◌++◌, ◌∷◌, []}
use Rattle.std.proofs.Math.Nat.{le_trans}
use Rattle.lp_events.specs.Script.{longest_input}
use Rattle.lp_script.specs.Reader.{HasGiven}
use Rattle.lp_top.proofs.Reading.{begins_with, goes_on, cut_within}
use Rattle.lp_top.proofs.Filing.{IsFiling, filing-fresh, filing-more, filing-start, filing-ends, end-not-early, end-is, inner-is, inner-goes, inner-not_started, not_started-push, first-reads, start-is}
use Rattle.lp_top.proofs.opening.open.Goals as goal

pub loop-item-smaller : goal.loop-item-smaller
loop-item-smaller g c =
    let f = c.loop-item.invariant.filing in
    let v = c.in-Ok.ensures.given f.read f.goes f.given in
    let more : c.loop-item.reader.cut < c.next_item.new.reader.cut = goes_on c.loop-item.reader c.next_item.new.reader f.read c.in-Ok.item f.given v in
    let within : c.next_item.new.reader.cut ≤ longest_input = cut_within c.next_item.new.reader _ v in
    omega arith

pub loop-item-init : goal.loop-item-init
loop-item-init g c = record {
  filing = subst (λ r. IsFiling r c.no_opening-opening.result) (sym c.requires) (filing-fresh c.no_opening-opening.result c.no_opening-opening.ensures.files c.no_opening-opening.ensures.seed c.no_opening-opening.ensures.moment);
  reads = λ b h. first-reads c.args.reader.now _ b c.requires h;
  no_fall = omega arith;
}

pub loop-item-preserved : goal.loop-item-preserved
loop-item-preserved g c =
    let f = c.loop-item.invariant.filing in
    let v = c.in-Ok.ensures.given f.read f.goes f.given in
    let i = inner-is c.in-Ok.item (sym c.is_start.ensures ∙ c.if-is_start.false) (sym c.is_end.ensures ∙ c.if-is_end.false) in
    record {
      filing = filing-more c.loop-item.reader c.next_item.new.reader c.loop-item.opening c.note.new.opening c.in-Ok.item f v i c.in-Ok.ensures.phase c.in-Ok-note.ensures;
      reads = λ b h. c.in-Ok.ensures.reads b (c.loop-item.invariant.reads b h);
      no_fall = le_trans c.loop-item.invariant.no_fall c.in-Ok.ensures.no_fall;
    }

pub returns-in-Err-clause-end : goal.returns-in-Err-clause-end
returns-in-Err-clause-end g c = λ b h.
    let f = c.loop-item.invariant.filing in
    filing-ends b f.read c.in-Err.status f.not_started (c.in-Err.ensures.fault b f.read f.goes f.given (c.loop-item.invariant.reads b h))

pub returns-then-is_start-clause-start : goal.returns-then-is_start-clause-start
returns-then-is_start-clause-start g c =
    let f = c.loop-item.invariant.filing in
    filing-start c.loop-item.reader c.next_item.new.reader c.loop-item.opening c.in-Ok.item f (start-is c.in-Ok.item (sym c.is_start.ensures ∙ c.if-is_start.true)) (c.in-Ok.ensures.given f.read f.goes f.given) c.in-Ok.ensures.phase (c.in-Ok.ensures.place f.goes)

pub returns-then-is_start-clause-reads : goal.returns-then-is_start-clause-reads
returns-then-is_start-clause-reads g c = λ b h. c.in-Ok.ensures.reads b (c.loop-item.invariant.reads b h)

pub unreachable-requires : goal.unreachable-requires
unreachable-requires g c =
    let f = c.loop-item.invariant.filing in
    end-not-early c.next_item.new.reader f.read f.not_started
    (subst (λ x. HasGiven c.next_item.new.reader (f.read ++ x ∷ [])) (end-is c.in-Ok.item (sym c.is_end.ensures ∙ c.if-is_end.true)) (c.in-Ok.ensures.given f.read f.goes f.given))

pub returns-in-Err-note-clause-end : goal.returns-in-Err-note-clause-end
returns-in-Err-note-clause-end g c = λ b h.
    let f = c.loop-item.invariant.filing in
    let v = c.in-Ok.ensures.given f.read f.goes f.given in
    let i = inner-is c.in-Ok.item (sym c.is_start.ensures ∙ c.if-is_start.false) (sym c.is_end.ensures ∙ c.if-is_end.false) in (
      f.read ++ c.in-Ok.item ∷ [],
      not_started-push f.read c.in-Ok.item f.not_started (inner-not_started c.in-Ok.item i),
      begins_with b c.next_item.new.reader _ (f.read ++ c.in-Ok.item ∷ []) (c.in-Ok.ensures.reads b (c.loop-item.invariant.reads b h)) (inner-goes c.in-Ok.item c.next_item.new.reader i c.in-Ok.ensures.phase) v,
    )

pub returns-in-Err-clause-most : goal.returns-in-Err-clause-most
returns-in-Err-clause-most g c = λ b h. c.in-Err.ensures.most b (c.loop-item.invariant.reads b h)

pub returns-in-Err-note-clause-most : goal.returns-in-Err-note-clause-most
returns-in-Err-note-clause-most g c = λ b h. c.in-Ok.ensures.most b (c.loop-item.invariant.reads b h)

pub returns-then-is_start-clause-most : goal.returns-then-is_start-clause-most
returns-then-is_start-clause-most g c = λ b h. c.in-Ok.ensures.most b (c.loop-item.invariant.reads b h)
