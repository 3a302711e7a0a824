use Rattle.std.proofs.Common.{sym, subst, ◌∙◌, arith}
use Rattle.std.proofs.lemmas.Bool.{true≢false}
use Rattle.std.proofs.lemmas.Result.{err_from_is_err_and}
use Rattle.lp_image.specs.Image.{IsOrdered}
use Rattle.lp_image.proofs.Whole.{all_takes, only_one, none_read}
use Rattle.lp_image.proofs.reading.unpack.Goals as goal

pub returns-in_err-record-clause-none : goal.returns-in_err-record-clause-none
returns-in_err-record-clause-none c =
    let p = err_from_is_err_and c.from_residual.result c.from_residual.ensures.1 in
    rw (p.1, p.2) (λ is s ok e. none_read c.in_err-record.field-0.0 c.args.bytes.now c.in_err-record.ensures is s ok e)

pub returns-then-is_ordered-clause-found : goal.returns-then-is_ordered-clause-found
returns-then-is_ordered-clause-found c =
    let t = all_takes c.args.bytes.now c.in_ok-record.record (λ i. omega (arith, c.type_inv.bytes i)) c.in_ok-record.ensures in
    (record { owner = t.0.owner; vars = t.0.vars; cells = t.0.cells; ordered = c.is_ordered.ensures.0 c.if-is_ordered.true }, t.1)

pub returns-then-is_ordered-clause-only : goal.returns-then-is_ordered-clause-only
returns-then-is_ordered-clause-only c = λ s ok e. only_one c.args.bytes.now c.in_ok-record.record s c.in_ok-record.ensures ok e

pub returns-else-is_ordered-clause-none : goal.returns-else-is_ordered-clause-none
returns-else-is_ordered-clause-none c = λ is s ok e.
    let same = only_one c.args.bytes.now c.in_ok-record.record s c.in_ok-record.ensures ok e in
    let ordered : IsOrdered c.in_ok-record.record = subst IsOrdered same ok.ordered in
    absurd (true≢false (sym (c.is_ordered.ensures.1 ordered) ∙ c.if-is_ordered.false))
