use Rattle.std.proofs.Common.{◌≡◌, ℕ, List, [], ◌++◌, drop, map, take}
use Rattle.lp_save.specs.Desks.{as_line}
use Rattle.lp_save.specs.Names.{times}
use Rattle.lp_save.specs.SaveText.{count_in, given}
use Rattle.lp_save.proofs.given.given.Given as goal

abbrev pub invariant-loop-name : goal.invariant-loop-name
invariant-loop-name l = record {
  counted : (q : List ℕ) → times l.counts q ≡ count_in q (take l.name-index l.names);
  given : l.values.items ++ given (take l.name-index l.names) (drop l.name-index l.names) (map as_line l.lines) ≡ given [] l.names (map as_line l.lines);
}
