-- the line is of the place, cut at the script's end, and of what stands there
use Rattle.std.proofs.Common.{◌∙◌, ap, string_bytes}
use Rattle.std.proofs.lemmas.Result.{IfOk-weaker}
use Rattle.lp_explain.specs.Shown.{first_line}
use Rattle.lp_explain.proofs.Told.{told_of}
use Rattle.lp_explain.proofs.telling.explain.Goals as goal

pub returns : goal.returns
returns c =
    record {
      told = IfOk-weaker c.told.result _ _ (λ t h. told_of c.args.script.now c.args.at c.min-place.result c.line_of-number.result c.first_line-line.result.now c.as_str.result.now (string_bytes t) c.min-place.ensures c.line_of-number.ensures (c.first_line-line.ensures ∙ ap (λ xs. first_line xs) c.from.ensures) h) c.told.ensures;
    }
