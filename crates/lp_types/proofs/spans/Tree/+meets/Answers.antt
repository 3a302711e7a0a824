use Rattle.std.proofs.Common.{int_le, ◌&&◌, subst, ap, sym, ◌∙◌}
use Rattle.lp_types.specs.Spans.{spans_in, is_hit, are_hit, IsSummed}
use Rattle.lp_types.proofs.SpanLemmas.{hit_none, hit_all, hit_own, hit_in_left, hit_in_right}
use Rattle.lp_types.proofs.spans.Tree.+meets.Goals as goal

pub returns-then-not-is_near : goal.returns-then-not-is_near
returns-then-not-is_near t c =
    let w = subst IsSummed c.in-Fork.is c.requires in
    let near = ap (λ b. int_le b.first c.args.other.now.to && int_le c.args.other.now.from b.reach) (sym c.deref-b.ensures) ∙ sym c.is_near.ensures ∙ c.if-not-is_near.true in
    rw c.in-Fork.is (sym (hit_none c.args.other.now.from c.args.other.now.to _ _ _ _ w.0 near))

pub returns-then-is_before : goal.returns-then-is_before
returns-then-is_before t c =
    let w = subst IsSummed c.in-Fork.is c.requires in
    let near = ap (λ b. int_le b.first c.args.other.now.to && int_le c.args.other.now.from b.reach) (sym c.deref-b.ensures) ∙ sym c.is_near.ensures ∙ c.if-not-is_near.false in
    let before = ap (λ b. int_le b.last c.args.other.now.to) (sym c.deref-b.ensures) ∙ sym c.is_before.ensures ∙ c.if-is_before.true in
    rw c.in-Fork.is (sym (hit_all c.args.other.now.from c.args.other.now.to _ _ _ _ w.0 near before))

pub returns-then-is_met : goal.returns-then-is_met
returns-then-is_met t c =
    let met = ap (λ b. is_hit c.args.other.now.from c.args.other.now.to b.span) (sym c.deref-b.ensures) ∙ sym c.is_met.ensures ∙ c.if-is_met.true in
    rw c.in-Fork.is (sym (hit_own c.args.other.now.from c.args.other.now.to (spans_in c.in-Fork.b.value.left) _ (spans_in c.in-Fork.b.value.right) met))

pub returns-then-meets : goal.returns-then-meets
returns-then-meets t c =
    let met = ap (λ b. is_hit c.args.other.now.from c.args.other.now.to b.span) (sym c.deref-b.ensures) ∙ sym c.is_met.ensures ∙ c.if-is_met.false in
    let left = ap (λ b. are_hit c.args.other.now.from c.args.other.now.to (spans_in b.left)) (sym c.deref-b.ensures) ∙ sym c.meets.ensures ∙ c.if-meets.true in
    rw c.in-Fork.is (sym (hit_in_left c.args.other.now.from c.args.other.now.to (spans_in c.in-Fork.b.value.left) _ (spans_in c.in-Fork.b.value.right) met left))

pub returns-else-meets : goal.returns-else-meets
returns-else-meets t c =
    let met = ap (λ b. is_hit c.args.other.now.from c.args.other.now.to b.span) (sym c.deref-b.ensures) ∙ sym c.is_met.ensures ∙ c.if-is_met.false in
    let left = ap (λ b. are_hit c.args.other.now.from c.args.other.now.to (spans_in b.left)) (sym c.deref-b.ensures) ∙ sym c.meets.ensures ∙ c.if-meets.false in
    let right = c.meets-in-Fork.ensures ∙ ap (λ b. are_hit c.args.other.now.from c.args.other.now.to (spans_in b.right)) c.deref-b.ensures in
    rw c.in-Fork.is (right ∙ sym (hit_in_right c.args.other.now.from c.args.other.now.to (spans_in c.in-Fork.b.value.left) _ (spans_in c.in-Fork.b.value.right) met left))
