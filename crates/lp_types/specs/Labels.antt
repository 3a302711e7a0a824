-- What is known of the labels of a switch.
use Rattle.std.specs.Prelude.{◌≡◌, List, ◌++◌, Bool, ◌||◌, ◌&&◌, int_le}
use Rattle.std.specs.List.{list_any}
use Rattle.lp_tree.specs.declared.fault.FaultKind.TheVariants.{DoubleCase}
use Rattle.lp_tree.specs.declared.stmt.Label.{Label}
use Rattle.lp_tree.specs.declared.stmt.Label.TheVariants as labels
use Rattle.lp_tree.specs.declared.stmt.Constant.TheVariants as constants
use Rattle.lp_types_expr.specs.declared.fault.FaultAt.{FaultAt}
use Rattle.lp_types_expr.specs.ExprFaults.{when}
use Rattle.lp_types_expr.specs.Walk.{all_at}
use Rattle.lp_types.specs.declared.labels.Labels.{Labels}
use Rattle.lp_types.specs.declared.spans.Span.{Span}
use Rattle.lp_types.specs.NameSets.{is_in}
use Rattle.lp_types.specs.Spans.{IsSummed, IsWith, are_hit, spans_in}
use Rattle.lp_types.specs.TypeFaults.{overlap, label_line}

-- whether a label meets one of those that are kept
abbrev pub is_met : Labels → Label → Bool
is_met ls (labels.Case l (constants.Int n)) = are_hit n n (spans_in ls.spans)
is_met ls (labels.Case l (constants.Text w)) = is_in ls.texts w
is_met ls (labels.Range l a b) = int_le a b && are_hit a b (spans_in ls.spans)
is_met ls (labels.Default l) = ls.has_default

-- what is kept answers for some labels
pub record Knows (ls : Labels) (earlier : List Label) : Type 0 where
  pub summed : IsSummed ls.spans
  pub met : (k : Label) → is_met ls k ≡ list_any (overlap k) earlier

-- one span more
pub record Covers (s : Span) (old new : Labels) : Type 0 where
  pub summed : IsSummed new.spans
  pub hits : IsWith s (spans_in old.spans) (spans_in new.spans)
  pub texts : new.texts ≡ old.texts
  pub has_default : new.has_default ≡ old.has_default

-- one label more
pub record HasMore (k : Label) (old new : Labels) : Type 0 where
  pub summed : IsSummed new.spans
  pub met : (j : Label) → is_met new j ≡ (overlap j k || is_met old j)

-- a label that is looked at, and then kept
pub record TellsLabel (k : Label) (old new : Labels) (before after : List FaultAt) : Type 0 where
  pub summed : IsSummed new.spans
  pub met : (j : Label) → is_met new j ≡ (overlap j k || is_met old j)
  pub faults : after ≡ before ++ all_at (label_line k) (when (is_met old k) DoubleCase)
