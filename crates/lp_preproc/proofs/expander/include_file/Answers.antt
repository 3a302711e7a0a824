use Rattle.std.proofs.Common.{sym, subst, arith}
use Rattle.lp_preproc.specs.Expansion.{fails}
use Rattle.std.proofs.Common.{Err}
use Rattle.std.specs.Option.{option_map}
use Rattle.lp_preproc.specs.Directives.{include_bytes}
use Rattle.lp_preproc.specs.Steps.{Reaches, whole_of}
use Rattle.lp_preproc.proofs.IncludeLemmas.{include_deep, include_failed, include_large, include_many, include_read}
use Rattle.lp_preproc.proofs.expander.include_file.Goals as goal

pub returns-in_default : goal.returns-in_default
returns-in_default c = λ c'. rw c.in_default.is fails

pub returns-then-len-gt-MOST_INCLUDED : goal.returns-then-len-gt-MOST_INCLUDED
returns-then-len-gt-MOST_INCLUDED c = λ c'. rw c.in-Some.is (include_deep c' (whole_of c.args.expander.now) c.args.path c.args.line c.in-Some.bytes.now (omega (arith, c.if-len-gt-MOST_INCLUDED.true, c.len.ensures)))

pub returns-then-expander-ge-MOST_PUT_IN : goal.returns-then-expander-ge-MOST_PUT_IN
returns-then-expander-ge-MOST_PUT_IN c = λ c'. rw c.in-Some.is (include_many c' (whole_of c.args.expander.now) c.args.path c.args.line c.in-Some.bytes.now (omega (arith, c.if-len-gt-MOST_INCLUDED.false, c.len.ensures)) (omega (arith, c.if-expander-ge-MOST_PUT_IN.true)))

pub returns-then-bytes-gt-MOST_BYTES : goal.returns-then-bytes-gt-MOST_BYTES
returns-then-bytes-gt-MOST_BYTES c = λ c'. rw c.in-Some.is (include_large c' (whole_of c.args.expander.now) c.args.path c.args.line c.in-Some.bytes.now (omega (arith, c.if-len-gt-MOST_INCLUDED.false, c.len.ensures)) (omega (arith, c.if-expander-ge-MOST_PUT_IN.false)) (omega (arith, c.if-bytes-gt-MOST_BYTES.true)))

pub returns-in_ok-push_file-in-Ok : goal.returns-in_ok-push_file-in-Ok
returns-in_ok-push_file-in-Ok c = λ c'. rw c.in-Some.is (include_read c' (whole_of c.args.expander.now) (whole_of c.push_file.new.expander) c.args.path c.args.line c.in-Some.bytes.now c.in-Ok.tokens.items (omega (arith, c.if-len-gt-MOST_INCLUDED.false, c.len.ensures)) (omega (arith, c.if-expander-ge-MOST_PUT_IN.false)) (omega (arith, c.if-bytes-gt-MOST_BYTES.false)) c.in-Ok.ensures c.in_ok-push_file-in-Ok.ensures)

pub returns-in-Err : goal.returns-in-Err
returns-in-Err c = λ c'. subst (λ m. Reaches c' (include_bytes (whole_of c.args.expander.now) c.args.path c.args.line (option_map (λ b. b.now) m)) (Err c.in-Err.stop) (whole_of c.args.expander.now)) (sym c.in-Some.is) (include_failed c' (whole_of c.args.expander.now) (whole_of c.args.expander.now) c.args.path c.args.line c.in-Some.bytes.now c.in-Err.stop (omega (arith, c.if-len-gt-MOST_INCLUDED.false, c.len.ensures)) (omega (arith, c.if-expander-ge-MOST_PUT_IN.false)) (omega (arith, c.if-bytes-gt-MOST_BYTES.false)) c.in-Err.ensures)
