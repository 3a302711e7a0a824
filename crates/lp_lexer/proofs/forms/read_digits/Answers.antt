use Rattle.std.proofs.Common.{◌≡◌, true, ◌∙◌, sym, ap, min, arith}
use Rattle.lp_lexer.specs.Forms.{is_digit, number_after}
use Rattle.lp_lexer.specs.Steps.{too_large}
use Rattle.lp_lexer.proofs.Reading.{front-more, front-end, past-more, past-end, no_digit, digit-step, integer-from_capped}
use Rattle.lp_lexer.proofs.forms.read_digits.Goals as goal

pub digits-preserved : goal.digits-preserved
digits-preserved c =
    let base = c.args.base in
    let old = c.digits.cursor in
    let code = c.code-in-digits.result in
    let is : is_digit base code ≡ true = ap (is_digit base) (c.code-in-digits.ensures ∙ sym c.code.ensures) ∙ sym c.is_digit.ensures ∙ c.digits-test.true in
    let more = front-more (is_digit base) old.behind code old.left c.pass.new.self c.code-in-digits.ensures c.pass.ensures (no_digit base (omega arith)) is in
    record {
      bound = omega (arith, c.with_digit-value.ensures);
      read = digit-step base c.digits.value c.with_digit-value.result code c.digit_of.result _ _ _ (omega arith) more c.digit_of.ensures.value c.with_digit-value.ensures c.digits.invariant.read;
      left = sym (past-more (is_digit base) old.behind code old.left c.pass.new.self c.code-in-digits.ensures c.pass.ensures is) ∙ c.digits.invariant.left;
    }

pub returns-clause-kind : goal.returns-clause-kind
returns-clause-kind c =
    let base = c.args.base in
    let none = front-end (is_digit base) c.code.result c.digits.cursor.left c.code.ensures (sym c.is_digit.ensures ∙ c.digits-test.false) in
    integer-from_capped c.digits.value _ _ c.integer_of.ensures c.digits.invariant.bound (sym (ap (λ xs. min (number_after base c.digits.value xs) too_large) none) ∙ c.digits.invariant.read)

pub returns-clause-after : goal.returns-clause-after
returns-clause-after c = sym (past-end (is_digit c.args.base) c.digits.cursor.behind c.code.result c.digits.cursor.left c.code.ensures (sym c.is_digit.ensures ∙ c.digits-test.false)) ∙ c.digits.invariant.left
