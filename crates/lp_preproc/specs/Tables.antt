-- What the code's tables hold.
use Rattle.std.specs.Ordering.{nat_cmp}
use Rattle.std.specs.Cmp.Lexicographic.{slice_cmp}
use Rattle.std.specs.BTreeMap.{get_by}
use Rattle.lp_preproc.specs.declared.table.Table.{Table as Macros}
use Rattle.lp_preproc.specs.Macros.{Table}

-- the macros of a table
abbrev pub macros_in : Macros → Table
macros_in t = λ n. get_by (λ k. slice_cmp nat_cmp n k.items) t.macros
