use Rattle.std.proofs.Common.{ap, refl, sym, ◌∙◌, subst}
use Rattle.lp_preproc.specs.Tables.{macros_in}
use Rattle.lp_preproc.specs.Expansion.{fails, word_of}
use Rattle.lp_preproc.specs.Steps.{Turns, beside, state_of, whole_of}
use Rattle.lp_preproc.specs.State.{Goes}
use Rattle.lp_preproc.proofs.Leading.{leads_same}
use Rattle.lp_preproc.specs.Uses.{read}
use Rattle.lp_preproc.proofs.expander.take_token.Goals as goal

pub returns-then-skips : goal.returns-then-skips
returns-then-skips c = λ c' i. rw (sym c.skips.ensures ∙ c.if-skips.true)
    (leads_same c' _ _ (ap (λ fs. Goes (record (whole_of c.args.expander.now) { files = fs })) (sym c.in_ok-push.ensures.ok)))

pub returns-then-is_bad : goal.returns-then-is_bad
returns-then-is_bad c = λ c' i. rw (sym c.skips.ensures ∙ c.if-skips.false) (rw (sym c.is_bad.ensures ∙ c.if-is_bad.true) (rw c.line_of.ensures fails))

pub returns : goal.returns
returns c = λ c' i. rw (sym c.skips.ensures ∙ c.if-skips.false) (rw (sym c.is_bad.ensures ∙ c.if-is_bad.false)
    (subst (λ fs. Turns c' (read c' (state_of c.args.expander.now.reader (macros_in c.args.expander.now.table) (beside fs c.args.expander.now.pragmas)) (word_of c.args.source c.args.next)) c.expand_word.result (state_of c.expand_word.new.reader (macros_in c.args.expander.now.table) (beside c.push-2.new.self c.args.expander.now.pragmas))) c.in_ok-push-2.ensures.ok
    (subst (λ w. Turns c' (read c' (state_of c.args.expander.now.reader (macros_in c.args.expander.now.table) (beside c.push-2.new.self c.args.expander.now.pragmas)) w) c.expand_word.result (state_of c.expand_word.new.reader (macros_in c.args.expander.now.table) (beside c.push-2.new.self c.args.expander.now.pragmas))) c.word_of-word.ensures
    (c.expand_word.ensures c' i (beside c.push-2.new.self c.args.expander.now.pragmas) refl))))
