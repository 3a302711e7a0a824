use Rattle.std.proofs.Common.{◌≡◌, ◌++◌, drop, filter}
use Rattle.lp_loading.specs.Rows.{is_open, names_from, open_names}
use Rattle.lp_loading.proofs.own.put_names.Given as goal

abbrev pub invariant-loop-k : goal.invariant-loop-k
invariant-loop-k l = l.names.items ++ filter (is_open l.whole) (names_from l.raw l.k (drop l.k l.rows)) ≡ l.initial.names.items ++ open_names l.whole l.raw
