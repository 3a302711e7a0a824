use Rattle.lp_image.proofs.Parts.{spelled_text, spelled_none}
use Rattle.lp_image.proofs.reading.text_of.Goals as goal

pub returns-in_ok-from_str-in-Ok : goal.returns-in_ok-from_str-in-Ok
returns-in_ok-from_str-in-Ok c = spelled_text c.args.bytes.now c.in-Ok.text.now c.in_ok-from_str-in-Ok.field-0 c.in-Ok.ensures.cases.0 c.in-Ok.ensures.cases.1 c.in_ok-from_str-in-Ok.ensures

pub returns-in-Err : goal.returns-in-Err
returns-in-Err c = spelled_none c.args.bytes.now c.in-Err.ensures.cases.0
