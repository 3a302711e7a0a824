use Rattle.std.proofs.Common.{arith, ◌≡◌, ◌∙◌, ap, sym, subst, length, take, false}
use Rattle.std.specs.Prelude.{nat_le}
use Rattle.lp_events.specs.Script.{longest_input}
use Rattle.lp_script.specs.Reader.{window, is_whole}
use Rattle.lp_script.proofs.ReaderLemmas.{large_end, same_but}
use Rattle.lp_script.proofs.reader.Reader.pass.Goals as goal

pub returns-in-End-2-clause-steps : goal.returns-in-End-2-clause-steps
returns-in-End-2-clause-steps g =
    let bytes : g.as_slice-bytes.result.now ≡ g.args.self.now.taken = g.as_slice-bytes.ensures.value ∙ ap (λ r. r.taken) g.self.view_is in
    let front : g.window_of-len.result.now ≡ window g.args.self.now = g.window_of-len.ensures ∙ ap (take longest_input) bytes in
    let more : is_whole g.args.self.now ≡ false = subst (λ bs. nat_le (length bs) longest_input ≡ false) bytes (sym g.is_short-short.ensures ∙ g.if-not-short.true) in (
      large_end g.args.self.now g.args.item g.args.behind g.end_large.result g.requires.stands g.in-End-2.is (λ less. omega (arith, less, g.if-behind-len.false, ap length front)) more g.end_large.ensures.fault,
      same_but g.args.self.now g.end_large.new.self _ g.end_large.ensures.phase,
    )
