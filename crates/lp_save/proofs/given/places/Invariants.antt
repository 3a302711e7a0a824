use Rattle.std.proofs.Common.{◌≡◌, ℕ, List, length, map, take}
use Rattle.std.specs.Prelude.{slice_get}
use Rattle.lp_save.specs.Desks.{as_line}
use Rattle.lp_save.specs.Names.{found_at, times, values_of}
use Rattle.lp_save.specs.SaveText.{lines_of}
use Rattle.lp_save.proofs.given.places.Given as goal

abbrev pub invariant-loop-line : goal.invariant-loop-line
invariant-loop-line l = record {
  counted : (q : List ℕ) → times l.counts q ≡ length (lines_of q (map as_line (take l.line-index l.lines)));
  found : (q : List ℕ) (k : ℕ) → found_at l.found q k ≡ slice_get (values_of q (map as_line (take l.line-index l.lines))) k;
}
