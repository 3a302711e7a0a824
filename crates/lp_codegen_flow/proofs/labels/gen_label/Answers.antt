use Rattle.std.proofs.Common.{sym}
use Rattle.lp_codegen_flow.proofs.Switching.{label_as}
use Rattle.lp_codegen_flow.proofs.labels.gen_label.Goals as goal

pub returns-in_ok-gen_case-in-Case : goal.returns-in_ok-gen_case-in-Case
returns-in_ok-gen_case-in-Case c = λ s. label_as (sym c.in-Case.is) (c.in_ok-gen_case-in-Case.ensures c.in-Case.line s)

pub returns-in_ok-gen_range-in-Range : goal.returns-in_ok-gen_range-in-Range
returns-in_ok-gen_range-in-Range c = λ s. label_as (sym c.in-Range.is) (c.in_ok-gen_range-in-Range.ensures c.in-Range.line s)

pub returns-in_ok-gen_default-in-Default : goal.returns-in_ok-gen_default-in-Default
returns-in_ok-gen_default-in-Default c = λ s. label_as (sym c.in-Default.is) (c.in_ok-gen_default-in-Default.ensures c.in-Default.line s)
