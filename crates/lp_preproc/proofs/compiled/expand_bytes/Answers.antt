use Rattle.std.proofs.Common.{sym, subst, arith, Err}
use Rattle.lp_preproc.specs.Expansion.{opening_bytes}
use Rattle.lp_preproc.specs.Steps.{Expanding}
use Rattle.lp_preproc.proofs.Leading.{expanding_lexed, expanding_unlexed, opening_large}
use Rattle.lp_preproc.proofs.compiled.expand_bytes.Goals as goal

pub returns-then-bytes-gt-MOST_BYTES : goal.returns-then-bytes-gt-MOST_BYTES
returns-then-bytes-gt-MOST_BYTES c = λ c' i e. opening_large c' c.args.bytes.now (omega (arith, c.if-bytes-gt-MOST_BYTES.true))

pub returns-in-Ok : goal.returns-in-Ok
returns-in-Ok c = λ c' i e.
    expanding_lexed c' c.args.bytes.now c.in-Ok.tokens.items c.expand_tokens.result (omega (arith, c.if-bytes-gt-MOST_BYTES.false))
    c.in-Ok.ensures.found (c.expand_tokens.ensures c' i e)

pub returns-in-Err : goal.returns-in-Err
returns-in-Err c = λ c' i e.
    subst (λ x. Expanding c' (opening_bytes c' c.args.bytes.now) (Err x)) (sym c.stop_of.ensures)
    (expanding_unlexed c' c.args.bytes.now c.in-Err.fault (omega (arith, c.if-bytes-gt-MOST_BYTES.false))
    c.in-Err.ensures.fault)
