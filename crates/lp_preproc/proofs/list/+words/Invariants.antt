use Rattle.std.proofs.Common.{◌+◌, ◌*◌, ◌-◌, [], length}
use Rattle.lp_tree.specs.declared.pragma.Pragmas.{Pragmas}
use Rattle.lp_preproc.specs.Tables.{macros_in}
use Rattle.lp_preproc.specs.declared.state.Use.{Use}
use Rattle.lp_preproc.specs.State.{Setting, Goes, no_pragmas}
use Rattle.lp_preproc.specs.Falls.{weight}
use Rattle.lp_preproc.specs.Steps.{IsOf, Leads, Standing, in_list, listed, state_of}
use Rattle.lp_preproc.specs.Uses.{expanded}
use Rattle.lp_preproc.proofs.list.+words.Given as goal

abbrev pub decreases-expand_arguments : goal.decreases-expand_arguments
decreases-expand_arguments l = 6 * (66 - l.depth)

abbrev pub decreases-expand_list : goal.decreases-expand_list
decreases-expand_list l = 6 * (65 - l.least) + 5

abbrev pub decreases-expand_use : goal.decreases-expand_use
decreases-expand_use l = 6 * (65 - l.least) + 2

abbrev pub decreases-expand_word : goal.decreases-expand_word
decreases-expand_word l = 6 * (65 - l.least) + 3

abbrev pub decreases-expand_at : goal.decreases-expand_at
decreases-expand_at l = 6 * (66 - l.depth) + 1

abbrev pub decreases-turn : goal.decreases-turn
decreases-turn l = 6 * (65 - l.least) + 4

abbrev pub invariant-expand_arguments-args-2 : goal.invariant-expand_arguments-args-2
invariant-expand_arguments-args-2 l = (c : Setting) → IsOf l.place c → (u : Use) (k : Standing) → Leads c (expanded c u l.depth (state_of l.fn.reader (macros_in l.table) k) [] l.fn.args) (expanded c u l.depth (state_of l.reader (macros_in l.table) k) l.done l.left)

abbrev pub decreases-expand_arguments-args-2 : goal.decreases-expand_arguments-args-2
decreases-expand_arguments-args-2 l = length l.left

abbrev pub invariant-expand_list-turns : goal.invariant-expand_list-turns
invariant-expand_list-turns l = (c : Setting) → IsOf l.place c → (p : Pragmas) → Leads c (Goes (listed l.fn.purpose l.least l.fn.words (macros_in l.table) p l.fn.put_in)) (Goes (state_of l.reader (macros_in l.table) (in_list l.least p)))

abbrev pub decreases-expand_list-turns : goal.decreases-expand_list-turns
decreases-expand_list-turns l = weight (state_of l.reader (macros_in l.table) (in_list l.least no_pragmas))
