use Rattle.std.proofs.Common.{[], refl, sym, subst, arith, Err, None, rules, ap, ◌∙◌}
use Rattle.std.specs.Prelude.{reverse}
use Rattle.lp_preproc.specs.Tables.{macros_in}
use Rattle.lp_preproc.specs.Expansion.{next}
use Rattle.lp_preproc.specs.Steps.{Does, Leads, Reaches, Turns, Finishes, in_list, state_of}
use Rattle.lp_preproc.specs.Uses.{expanded, used, ended, put_back, result_words}
use Rattle.lp_preproc.proofs.Leading.{leads_same, turn_went, turn_failed, turn_used, turn_used_failed, turn_finishes, list_failed, list_ended, list_next, does_reaches, expands_failed, argument_next, argument_failed, use_deep, next_end}
use Rattle.lp_preproc.proofs.Following.{turn_falls}
use Rattle.lp_preproc.specs.State.{Setting, no_pragmas}
use Rattle.lp_preproc.proofs.list.+words.Goals as goal

pub expand_arguments-args-2-preserved : goal.expand_arguments-args-2-preserved
expand_arguments-args-2-preserved t c = λ c' i u k.
    let n = expanded c' u c.args.depth (state_of c.args.reader.now (macros_in c.args.table.now) k) [] c.args.args in
    subst (λ d. Leads c' n (expanded c' u c.args.depth (state_of (record c.args-2.reader { put_in = c.in-Ok.put_in }) (macros_in c.args.table.now) k) d c.pop.new.self)) (sym c.in_ok-push-in-Ok.ensures.ok)
    (argument_next c' u c.args.depth n (state_of c.args-2.reader (macros_in c.args.table.now) k) c.args-2.done c.pop.new.self c.in-Some.words (c.in-Ok.out, c.in-Ok.put_in)
    (subst (λ l. Leads c' n (expanded c' u c.args.depth (state_of c.args-2.reader (macros_in c.args.table.now) k) c.args-2.done l)) c.in-Some.ensures (c.args-2.invariant c' i u k))
    (c.in-Ok.ensures c' i k.pragmas))

pub expand_arguments-returns-in-Err : goal.expand_arguments-returns-in-Err
expand_arguments-returns-in-Err t c = λ c' i u k.
    argument_failed c' u c.args.depth (state_of c.args.reader.now (macros_in c.args.table.now) k) (state_of c.args-2.reader (macros_in c.args.table.now) k) _ c.args.args c.args-2.done c.pop.new.self c.in-Some.words c.in-Err.stop
    (subst (λ l. Leads c' (expanded c' u c.args.depth (state_of c.args.reader.now (macros_in c.args.table.now) k) [] c.args.args) (expanded c' u c.args.depth (state_of c.args-2.reader (macros_in c.args.table.now) k) c.args-2.done l)) c.in-Some.ensures (c.args-2.invariant c' i u k))
    (c.in-Err.ensures c' i k.pragmas)

pub expand_at-returns-in-Ok : goal.expand_at-returns-in-Ok
expand_at-returns-in-Ok t c = λ c' i k.
    let s = state_of c.expand_arguments.new.reader (macros_in c.args.table.now) k in
    let q = state_of c.put_result.new.reader (macros_in c.args.table.now) k in
    does_reaches c' _ (put_back s c.args.usage.word (result_words c' c.args.usage c.args.depth c.in-Ok.done)) c.put_result.result q
    (subst (λ a. Leads c' (expanded c' c.args.usage c.args.depth (state_of c.args.reader.now (macros_in c.args.table.now) k) [] a) (expanded c' c.args.usage c.args.depth s c.in-Ok.done [])) c.from_row.ensures (c.in-Ok.ensures c' i c.args.usage k))
    (subst (λ done. Does (put_back s c.args.usage.word (result_words c' c.args.usage c.args.depth done)) c.put_result.result q) c.as_slice.ensures (c.put_result.ensures c' i (macros_in c.args.table.now) k))

pub expand_at-returns : goal.expand_at-returns
expand_at-returns t c = λ c' i k.
    subst (λ a. Reaches c' (expanded c' c.args.usage c.args.depth (state_of c.args.reader.now (macros_in c.args.table.now) k) [] a) (Err c.in-Err.stop) (state_of c.expand_arguments.new.reader (macros_in c.args.table.now) k)) c.from_row.ensures
    (expands_failed c' c.args.usage c.args.depth _ (state_of c.expand_arguments.new.reader (macros_in c.args.table.now) k) _ _ c.in-Err.stop (c.in-Err.ensures c' i c.args.usage k))

pub expand_list-returns-in-Ok-true : goal.expand_list-returns-in-Ok-true
expand_list-returns-in-Ok-true t c = λ c' i p.
    let s = state_of c.turns.reader (macros_in c.args.table.now) (in_list c.args.least p) in
    list_ended c' _ s (state_of c.turn.new.reader (macros_in c.args.table.now) (in_list c.args.least p)) (c.in_ok-out-in-Ok-true.out, c.turn.new.reader.put_in) (c.turns.invariant c' i p)
    ((rw c.in-Ok-true.field-0-test at c.in-Ok-true.ensures) c' i p) (c.in_ok-out-in-Ok-true.ensures ∙ ap reverse c.out_of.ensures) refl

pub expand_list-returns-in-Err : goal.expand_list-returns-in-Err
expand_list-returns-in-Err t c = λ c' i p.
    list_failed c' _ (state_of c.turns.reader (macros_in c.args.table.now) (in_list c.args.least p)) (state_of c.turn.new.reader (macros_in c.args.table.now) (in_list c.args.least p)) c.in-Err.stop (c.turns.invariant c' i p) (c.in-Err.ensures c' i p)

pub expand_list-turns-preserved : goal.expand_list-turns-preserved
expand_list-turns-preserved t c = λ c' i p.
    list_next c' _ (state_of c.turns.reader (macros_in c.args.table.now) (in_list c.args.least p)) (state_of c.turn.new.reader (macros_in c.args.table.now) (in_list c.args.least p)) (c.turns.invariant c' i p)
    ((rw c.in-Ok-false.field-0-test at c.in-Ok-false.ensures) c' i p)

pub expand_list-turns-smaller : goal.expand_list-turns-smaller
expand_list-turns-smaller t c =
    let c' : Setting = record { files = λ p. None; path = c.args.place.now } in
    turn_falls c.law_falls.ensures c' (state_of c.turns.reader (macros_in c.args.table.now) (in_list c.args.least no_pragmas)) (state_of c.turn.new.reader (macros_in c.args.table.now) (in_list c.args.least no_pragmas))
    ((rw c.in-Ok-false.field-0-test at c.in-Ok-false.ensures) c' refl no_pragmas)

pub expand_list-turns-init : goal.expand_list-turns-init
expand_list-turns-init t c = λ c' i p. leads_same c' _ _ (search rules)

pub expand_arguments-args-2-init : goal.expand_arguments-args-2-init
expand_arguments-args-2-init t c = λ c' i u k. leads_same c' _ _ (search rules)

pub expand_use-returns-then-depth-ge-DEEPEST : goal.expand_use-returns-then-depth-ge-DEEPEST
expand_use-returns-then-depth-ge-DEEPEST t c = λ c' i k e.
    use_deep c' c.args.usage (state_of c.args.reader.now (macros_in c.args.table.now) k) c.args.args (omega (arith, c.if-depth-ge-DEEPEST.true, c.max-depth.ensures, e))

pub expand_word-returns-in-Ok-Went : goal.expand_word-returns-in-Ok-Went
expand_word-returns-in-Ok-Went t c = λ c' i k e. turn_went c' _ (state_of c.take_word.new.reader (macros_in c.args.table.now) k) ((rw c.in-Ok-Went.field-0-is at c.in-Ok-Went.ensures) c' k)

pub expand_word-returns-in-Ok : goal.expand_word-returns-in-Ok
expand_word-returns-in-Ok t c = λ c' i k e.
    turn_used c' _ (used c' c.in-Ok-Used.usage (state_of c.take_word.new.reader (macros_in c.args.table.now) k) c.in-Ok-Used.args) (state_of c.expand_use.new.reader (macros_in c.args.table.now) k)
    ((rw c.in-Ok-Used.field-0-is at c.in-Ok-Used.ensures) c' k) (c.in-Ok.ensures c' i k e)

pub expand_word-returns-in-Err-expand_use : goal.expand_word-returns-in-Err-expand_use
expand_word-returns-in-Err-expand_use t c = λ c' i k e.
    turn_used_failed c' _ (used c' c.in-Ok-Used.usage (state_of c.take_word.new.reader (macros_in c.args.table.now) k) c.in-Ok-Used.args) c.in-Err-expand_use.stop (state_of c.expand_use.new.reader (macros_in c.args.table.now) k) _
    ((rw c.in-Ok-Used.field-0-is at c.in-Ok-Used.ensures) c' k) (c.in-Err-expand_use.ensures c' i k e)

pub expand_word-returns-in-Err : goal.expand_word-returns-in-Err
expand_word-returns-in-Err t c = λ c' i k e. turn_failed c' _ c.in-Err.stop (state_of c.take_word.new.reader (macros_in c.args.table.now) k) _ (c.in-Err.ensures c' k)

pub turn-returns-in-None : goal.turn-returns-in-None
turn-returns-in-None t c = λ c' i p.
    let k = in_list c.args.least p in
    let q = state_of c.take_end.new.reader (macros_in c.args.table.now) k in
    turn_finishes c' _ c.take_end.result q
    (subst (λ n. Finishes n c.take_end.result q) (sym (next_end c' c.args.reader.now (macros_in c.args.table.now) c.args.least p c.in-None.ensures.0))
    (subst (λ r. Finishes (ended (state_of r (macros_in c.args.table.now) k)) c.take_end.result q) c.in-None.ensures.1 (c.take_end.ensures (macros_in c.args.table.now) k)))

pub turn-returns-in-Some : goal.turn-returns-in-Some
turn-returns-in-Some t c = λ c' i p.
    let k = in_list c.args.least p in
    subst (λ r. Turns c' (next c' (state_of r (macros_in c.args.table.now) k)) c.expand_word.result (state_of c.expand_word.new.reader (macros_in c.args.table.now) k)) (sym c.in-Some.ensures) (c.expand_word.ensures c' i k refl)
