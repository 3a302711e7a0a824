use Rattle.lp_tree.proofs.Lines.{expression_line, statement_line, unit_line}
use Rattle.lp_tree.proofs.laws.law_lines.Goals as goal

pub returns : goal.returns
returns c = record {
  expressions = λ t ts rest s. expression_line s;
  statements = λ a t ts rest s. statement_line s;
  items = λ i ts rest s. unit_line s;
}
