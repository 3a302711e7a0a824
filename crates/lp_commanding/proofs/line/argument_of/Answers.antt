use Rattle.std.proofs.Common.{◌≡◌, ◌∙◌, ◌+◌, ◌-◌, ◌<◌, List, ℕ, Some, ap, arith, drop, length, length-drop, sym, take}
use Rattle.std.proofs.lemmas.List.{take_all}
use Rattle.std.specs.List.{prefix_len}
use Rattle.lp_commanding.specs.Lines.{is_typed}
use Rattle.lp_commanding.proofs.Parts.{argument_behind, no_argument}
use Rattle.lp_commanding.proofs.line.argument_of.Goals as goal

pub returns-then-n-line : goal.returns-then-n-line
returns-then-n-line c = sym (no_argument c.args.line.now (sym c.verb_len-n.ensures.verb ∙ c.if-n-line.true))

pub returns : goal.returns
returns c =
    let line : List ℕ = c.args.line.now in
    let n = c.verb_len-n.result in
    let short : prefix_len is_typed line < length line = omega (arith, sym c.verb_len-n.ensures.verb) in
    let whole : take (length line - (n + 1)) (drop (n + 1) line) ≡ drop (n + 1) line = take_all (length line - (n + 1)) (drop (n + 1) line) (omega (arith, length-drop (n + 1) line)) in
    ap Some (c.in_ok-from_slice.ensures ∙ whole) ∙ ap (λ k. Some (drop (k + 1) line)) c.verb_len-n.ensures.verb ∙ sym (argument_behind line short)
