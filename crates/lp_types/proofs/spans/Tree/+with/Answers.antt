use Rattle.std.proofs.Common.{ap, sym, ◌∙◌, ◌||◌}
use Rattle.lp_types.specs.Spans.{spans_in, is_hit, are_hit}
use Rattle.lp_types.proofs.SpanLemmas.{hit_here, hit_left, hit_right}
use Rattle.lp_types.proofs.spans.Tree.+with.Goals as goal

pub returns-then-o-span-clause-hits : goal.returns-then-o-span-clause-hits
returns-then-o-span-clause-hits t c from to =
    ap (are_hit from to) c.fork-then-o-span.ensures.spans
    ∙ hit_here from to c.args.span c.in-Some.o.span (spans_in c.in-Some.o.left) (spans_in c.in-Some.o.right) c.wider.result (c.wider.ensures from to)
    ∙ ap (λ ss. is_hit from to c.args.span || are_hit from to ss) (sym c.in-Some.ensures.spans)

pub returns-then-cast_unsigned-bit-eq0-clause-hits : goal.returns-then-cast_unsigned-bit-eq0-clause-hits
returns-then-cast_unsigned-bit-eq0-clause-hits t c from to =
    ap (are_hit from to) c.fork-then-cast_unsigned-bit-eq0.ensures.spans
    ∙ hit_left from to c.args.span c.in-Some.o.span (spans_in c.in-Some.o.left) (spans_in c.in-Some.o.right) (spans_in c.with-left.result) (c.with-left.ensures.hits from to)
    ∙ ap (λ ss. is_hit from to c.args.span || are_hit from to ss) (sym c.in-Some.ensures.spans)

pub returns-clause-hits : goal.returns-clause-hits
returns-clause-hits t c from to =
    ap (are_hit from to) c.fork-2.ensures.spans
    ∙ hit_right from to c.args.span c.in-Some.o.span (spans_in c.in-Some.o.left) (spans_in c.in-Some.o.right) (spans_in c.with-right.result) (c.with-right.ensures.hits from to)
    ∙ ap (λ ss. is_hit from to c.args.span || are_hit from to ss) (sym c.in-Some.ensures.spans)
