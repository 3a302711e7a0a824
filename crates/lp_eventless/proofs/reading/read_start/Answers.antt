use Rattle.std.proofs.Common.{◌∙◌, ◌<◌, ◌≤◌, sym, subst, arith, ◌++◌, ◌∷◌, []}
use Rattle.std.proofs.Math.Nat.{le_trans}
use Rattle.lp_events.specs.Script.{longest_input}
use Rattle.lp_script.specs.Reader.{HasGiven}
use Rattle.lp_eventless.proofs.Readers.{begins_with, goes_on, cut_within}
use Rattle.lp_eventless.proofs.Starting.{filing-first, filing-more, filing-pushed, filing-start, filing-ends, end-not-early, end-is, inner-is, first-reads, start-goes, start-is, start-moment}
use Rattle.lp_eventless.proofs.reading.read_start.Goals as goal

pub loop-item-smaller : goal.loop-item-smaller
loop-item-smaller g c =
    let f = c.loop-item.invariant.filing in
    let v = c.in-Ok.ensures.given _ f.goes f.given in
    let more : c.loop-item.reader.cut < c.next_item.new.reader.cut = goes_on c.loop-item.reader c.next_item.new.reader _ c.in-Ok.item f.given v in
    let within : c.next_item.new.reader.cut ≤ longest_input = cut_within c.next_item.new.reader _ v in
    omega arith

pub loop-item-init : goal.loop-item-init
loop-item-init g c = record {
  filing = filing-first c.args.reader.now c.new-items.result.items c.requires c.new-items.ensures.items;
  reads = λ b h. first-reads c.args.reader.now _ b c.requires h;
  no_fall = omega arith;
}

pub loop-item-preserved : goal.loop-item-preserved
loop-item-preserved g c =
    let f = c.loop-item.invariant.filing in
    let v = c.in-Ok.ensures.given _ f.goes f.given in
    let i = inner-is c.in-Ok.item (sym c.is_start.ensures ∙ c.if-is_start.false) (sym c.is_end.ensures ∙ c.if-is_end.false) in
    record {
      filing = filing-pushed c.next_item.new.reader c.loop-item.items.items c.push.new.self.items c.in-Ok.item c.in-Ok-push.ensures.items (filing-more c.loop-item.reader c.next_item.new.reader c.loop-item.items.items c.in-Ok.item f v i c.in-Ok.ensures.phase);
      reads = λ b h. c.in-Ok.ensures.reads b (c.loop-item.invariant.reads b h);
      no_fall = le_trans c.loop-item.invariant.no_fall c.in-Ok.ensures.no_fall;
    }

pub returns-in-Err-clause-end : goal.returns-in-Err-clause-end
returns-in-Err-clause-end g c = λ b h.
    let f = c.loop-item.invariant.filing in
    filing-ends b _ c.in-Err.fault f.not_started (c.in-Err.ensures.fault b _ f.goes f.given (c.loop-item.invariant.reads b h))

pub returns-then-is_start-clause-start : goal.returns-then-is_start-clause-start
returns-then-is_start-clause-start g c =
    let f = c.loop-item.invariant.filing in
    filing-start c.loop-item.reader c.next_item.new.reader _ c.in-Ok.item f (start-is c.in-Ok.item (sym c.is_start.ensures ∙ c.if-is_start.true)) (c.in-Ok.ensures.given _ f.goes f.given) c.in-Ok.ensures.phase

pub returns-then-is_start-clause-reads : goal.returns-then-is_start-clause-reads
returns-then-is_start-clause-reads g c = λ b h. c.in-Ok.ensures.reads b (c.loop-item.invariant.reads b h)

pub unreachable-requires : goal.unreachable-requires
unreachable-requires g c =
    let f = c.loop-item.invariant.filing in
    end-not-early c.next_item.new.reader _ f.not_started
    (subst (λ x. HasGiven c.next_item.new.reader (c.loop-item.items.items ++ x ∷ [])) (end-is c.in-Ok.item (sym c.is_end.ensures ∙ c.if-is_end.true)) (c.in-Ok.ensures.given _ f.goes f.given))

pub returns-in-Err-push-clause-end : goal.returns-in-Err-push-clause-end
returns-in-Err-push-clause-end g c = λ b h.
    let f = c.loop-item.invariant.filing in
    let v = c.in-Ok.ensures.given _ f.goes f.given in
    let i = inner-is c.in-Ok.item (sym c.is_start.ensures ∙ c.if-is_start.false) (sym c.is_end.ensures ∙ c.if-is_end.false) in
    let more = filing-more c.loop-item.reader c.next_item.new.reader _ c.in-Ok.item f v i c.in-Ok.ensures.phase in
    (_, more.not_started, begins_with b c.next_item.new.reader _ _ (c.in-Ok.ensures.reads b (c.loop-item.invariant.reads b h)) more.goes v)

pub returns-in-Err-clause-most : goal.returns-in-Err-clause-most
returns-in-Err-clause-most g c = λ b h. c.in-Err.ensures.most b (c.loop-item.invariant.reads b h)

pub returns-in-Err-push-clause-most : goal.returns-in-Err-push-clause-most
returns-in-Err-push-clause-most g c = λ b h. c.in-Ok.ensures.most b (c.loop-item.invariant.reads b h)

pub returns-then-is_start-clause-most : goal.returns-then-is_start-clause-most
returns-then-is_start-clause-most g c = λ b h. c.in-Ok.ensures.most b (c.loop-item.invariant.reads b h)

pub returns-then-is_start-clause-held : goal.returns-then-is_start-clause-held
returns-then-is_start-clause-held g c = λ b h.
    let f = c.loop-item.invariant.filing in
    let v = subst (λ x. HasGiven c.next_item.new.reader (c.loop-item.items.items ++ x ∷ [])) (start-is c.in-Ok.item (sym c.is_start.ensures ∙ c.if-is_start.true)) (c.in-Ok.ensures.given _ f.goes f.given) in
    begins_with b c.next_item.new.reader _ _ (c.in-Ok.ensures.reads b (c.loop-item.invariant.reads b h)) (start-goes c.next_item.new.reader c.in-Ok.item (start-is c.in-Ok.item (sym c.is_start.ensures ∙ c.if-is_start.true)) c.in-Ok.ensures.phase) v

pub returns-then-is_start-clause-moment : goal.returns-then-is_start-clause-moment
returns-then-is_start-clause-moment g c =
    let f = c.loop-item.invariant.filing in
    start-moment c.next_item.new.reader _ (filing-start c.loop-item.reader c.next_item.new.reader _ c.in-Ok.item f (start-is c.in-Ok.item (sym c.is_start.ensures ∙ c.if-is_start.true)) (c.in-Ok.ensures.given _ f.goes f.given) c.in-Ok.ensures.phase)
