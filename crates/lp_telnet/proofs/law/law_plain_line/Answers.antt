use Rattle.lp_telnet.proofs.PlainLemmas.{plain_line}
use Rattle.lp_telnet.proofs.law.law_plain_line.Goals as goal

pub returns : goal.returns
returns c = plain_line
