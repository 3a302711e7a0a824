use Rattle.std.proofs.Common.{sym, subst, ◌∙◌, arith}
use Rattle.std.proofs.lemmas.Result.{err_from_is_err_and}
use Rattle.lp_code.specs.declared.program.RawProgram.{RawProgram}
use Rattle.lp_code.specs.Programs.{IsProgram}
use Rattle.lp_encoding.specs.Programs.{IsEncoding}
use Rattle.lp_encoding.proofs.Main.{is_encoding, not_sound, refused, same_whole}
use Rattle.lp_encoding.proofs.program.decode.Goals as goal

pub returns-in_err-raw-clause-only : goal.returns-in_err-raw-clause-only
returns-in_err-raw-clause-only c =
    let q = err_from_is_err_and c.from_residual.result c.from_residual.ensures.1 in
    λ p sound e. rw (q.1, q.2) (refused c.law_numbers.ensures c.in_err-raw.field-0.0 c.args.bytes.now p c.in_err-raw.ensures e)

pub returns-in-Ok-clause-read : goal.returns-in-Ok-clause-read
returns-in-Ok-clause-read c =
    let k = c.in-Ok.ensures in
    subst (λ (p : RawProgram). IsProgram p × IsEncoding p c.args.bytes.now) (sym k.0) (k.1, is_encoding c.law_numbers.ensures c.in_ok-raw.raw c.args.bytes.now (λ i. omega (arith, c.type_inv.bytes i)) c.in_ok-raw.ensures)

pub returns-in-Ok-clause-only : goal.returns-in-Ok-clause-only
returns-in-Ok-clause-only c = λ p sound e. c.in-Ok.ensures.0 ∙ same_whole c.law_numbers.ensures c.in_ok-raw.raw p c.args.bytes.now c.in_ok-raw.ensures e

pub returns-in-Err-Unsound-clause-only : goal.returns-in-Err-Unsound-clause-only
returns-in-Err-Unsound-clause-only c = λ p sound e. not_sound c.in-Err-Unsound.field-0 c.in_ok-raw.raw c.in-Err-Unsound.field-0-0 c.in-Err-Unsound.ensures c.in-Err-Unsound.field-0-is (subst IsProgram (sym (same_whole c.law_numbers.ensures c.in_ok-raw.raw p c.args.bytes.now c.in_ok-raw.ensures e)) sound)
