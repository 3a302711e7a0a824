use Rattle.std.proofs.Common.{◌≡◌, ◌∙◌, true, ap, arith}
use Rattle.std.proofs.lemmas.Str.{encodes-IsAscii}
use Rattle.std.proofs.lemmas.Str.Ascii.{IsAscii-from_all}
use Rattle.lp_meaning.specs.FileEfuns.{path_if}
use Rattle.lp_filing.proofs.PathTests.{foreign_is_none, long_is_none}
use Rattle.lp_filing.proofs.leave.path_of.Goals as goal
use Rattle.lp_filing.proofs.leave.path_of.Goals.{then-text-gt-LONGEST_PATH-via-then-text-gt-LONGEST_PATH, then-text-gt-LONGEST_PATH-via-else-text-gt-LONGEST_PATH+then-not-is_ascii}

pub returns-then-text-gt-LONGEST_PATH : goal.returns-then-text-gt-LONGEST_PATH
returns-then-text-gt-LONGEST_PATH c =
    elim c.then-text-gt-LONGEST_PATH.branch [
      | then-text-gt-LONGEST_PATH-via-then-text-gt-LONGEST_PATH w ↦ long_is_none c.args.text.now (omega arith)
      | then-text-gt-LONGEST_PATH-via-else-text-gt-LONGEST_PATH+then-not-is_ascii w ↦ foreign_is_none c.args.text.now (λ a. let t : w.is_ascii.result ≡ true = w.is_ascii.ensures.1 a in cc)
    ]

pub returns : goal.returns
returns c =
    let t : c.is_ascii.result ≡ true = cc in
    c.if_path.ensures ∙ ap path_if (c.in_ok-spelled.ensures ∙ encodes-IsAscii c.args.text.now (IsAscii-from_all c.args.text.now (c.is_ascii.ensures.0 t)))
