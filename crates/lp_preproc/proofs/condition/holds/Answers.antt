use Rattle.std.proofs.Common.{subst, Ok, Err}
use Rattle.lp_preproc.specs.declared.state.Purpose.TheVariants.{Condition}
use Rattle.lp_preproc.specs.Tables.{macros_in}
use Rattle.lp_preproc.specs.Steps.{ComesOut, IsDecided, listed, state_of}
use Rattle.lp_preproc.proofs.Leading.{tested_decided, tested_failed}
use Rattle.lp_preproc.proofs.condition.holds.Goals as goal

pub returns-in-Ok : goal.returns-in-Ok
returns-in-Ok c = λ c' i k f.
    let ms = macros_in c.args.table.now in
    tested_decided c' (state_of c.args.reader.now ms k) c.args.rest.now c.args.line f c.in-Ok.out c.in-Ok.put_in c.decided.result
    (subst (λ ws. ComesOut c' (listed Condition 0 ws ms k.pragmas c.args.reader.now.put_in) (Ok (c.in-Ok.out, c.in-Ok.put_in))) c.in_ok-words.ensures (c.in-Ok.ensures c' i k.pragmas))
    (subst (λ ws. IsDecided ws c.args.line c.decided.result) c.as_slice.ensures c.decided.ensures)

pub returns-in-Err : goal.returns-in-Err
returns-in-Err c = λ c' i k f.
    let ms = macros_in c.args.table.now in
    tested_failed c' (state_of c.args.reader.now ms k) c.args.rest.now c.args.line f c.in-Err.stop _
    (subst (λ ws. ComesOut c' (listed Condition 0 ws ms k.pragmas c.args.reader.now.put_in) (Err c.in-Err.stop)) c.in_ok-words.ensures (c.in-Err.ensures c' i k.pragmas))
