use Rattle.std.proofs.Common.{◌∙◌, arith}
use Rattle.lp_script.proofs.NumberCode.{front_code}
use Rattle.lp_script.proofs.number.begins_number.Goals as goal

pub returns : goal.returns
returns c = front_code c.args.word.now c.as_bytes.result.now c.args.k c.starts_with.result (omega arith) (c.as_bytes.ensures.value ∙ c.format.ensures.text) c.starts_with.ensures.value
