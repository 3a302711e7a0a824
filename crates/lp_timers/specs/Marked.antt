-- What the map of marks has of the lines.
use Rattle.std.specs.Prelude.{◌≡◌, ℕ, List}
use Rattle.std.specs.declared.cmp.Ordering.{Ordering}
use Rattle.std.specs.Ordering.{nat_cmp, ordering_then}
use Rattle.std.specs.Map.{lookup}
use Rattle.std.specs.BTreeMap.{is_at}
use Rattle.lp_timers.specs.declared.kind.Kind.{Kind}
use Rattle.lp_timers.specs.declared.moments.Mark.{Mark}
use Rattle.lp_timers.specs.declared.tree.Tree.{Tree}
use Rattle.lp_timers.specs.Lines.{kind_place, AreBelow, AreRising}
use Rattle.lp_timers.specs.Marks.{number_of, AreApart}
use Rattle.lp_timers.specs.Tree.{lines_of, KnowsSoonest}

-- the mark of an object and a kind
abbrev pub mark_of : Kind → ℕ → Mark
mark_of kind o = record { ob = o; place = kind_place kind }

-- how a mark stands to another: by the object, then by the kind's place
abbrev pub mark_cmp : Mark → Mark → Ordering
mark_cmp a b = ordering_then (nat_cmp a.ob b.ob) (nat_cmp a.place b.place)

-- The map has the numbers of the lines by their marks, of which no two are one; the numbers rise, below the next one.
pub record IsMarked (next : ℕ) (t : Tree) (es : List (Mark × ℕ)) : Type 0 where
  pub knows : KnowsSoonest t
  pub rising : AreRising (lines_of t)
  pub below : AreBelow next (lines_of t)
  pub apart : AreApart (lines_of t)
  pub found : (kind : Kind) (o : ℕ) → lookup (is_at (mark_cmp (mark_of kind o))) es ≡ number_of kind o (lines_of t)
