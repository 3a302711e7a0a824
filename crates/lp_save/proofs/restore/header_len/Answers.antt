use Rattle.std.proofs.Common.{◌≡◌, ◌+◌, [], drop, get_or, take, ap, sym, ◌∙◌, arith}
use Rattle.std.specs.Prelude.{nat_eq}
use Rattle.std.proofs.lemmas.Bool.{cond-true, cond-false, ne_eqb}
use Rattle.std.proofs.lemmas.Grind.{common_steps}
use Rattle.lp_text.specs.Pieces.{pieces}
use Rattle.lp_save.specs.Desks.{newline}
use Rattle.lp_save.specs.Reading.{lines_at}
use Rattle.lp_save.specs.SaveText.{is_header}
use Rattle.lp_save.proofs.LineLemmas.{header_last, header_there}
use Rattle.lp_save.proofs.restore.header_len.Goals as goal

pub returns-then-end-bytes : goal.returns-then-end-bytes
returns-then-end-bytes c =
    let mark : get_or c.args.bytes.now 0 0 ≡ 35 = grind (arith, common_steps) in
    λ r. header_last c.args.bytes.now c.line_len-end.result r mark c.line_len-end.ensures c.if-end-bytes.true

pub returns-then-not-is_header : goal.returns-then-not-is_header
returns-then-not-is_header c =
    let mark : get_or c.args.bytes.now 0 0 ≡ 35 = grind (arith, common_steps) in
    let k = c.line_len-end.result in
    λ r. header_there c.args.bytes.now k r mark c.line_len-end.ensures c.if-end-bytes.false ∙ cond-false (is_header (take k c.args.bytes.now)) _ _ (sym c.is_header.ensures ∙ c.if-not-is_header.true)

pub returns : goal.returns
returns c =
    let mark : get_or c.args.bytes.now 0 0 ≡ 35 = grind (arith, common_steps) in
    let k = c.line_len-end.result in (
      omega arith,
      λ r.
          header_there c.args.bytes.now k r mark c.line_len-end.ensures c.if-end-bytes.false ∙ cond-true (is_header (take k c.args.bytes.now)) _ _ (sym c.is_header.ensures ∙ c.if-not-is_header.false)
          ∙ ap (λ j. lines_at j [] (pieces newline (drop (k + 1) c.args.bytes.now)) r) (sym (cond-false (nat_eq (k + 1) 0) 1 2 (ne_eqb (k + 1) 0 (λ h. omega arith)))),
    )
