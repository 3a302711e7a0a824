-- What is to come for objects, by their marks: whose it is, and of which kind.
use Rattle.std.specs.Prelude.{◌≡◌, ℕ, List, [], ◌∷◌, Bool, false, nat_eq, ◌&&◌, if◌then◌else◌, Option, Some, None, ⊤}
use Rattle.std.specs.List.{AllByRecursion}
use Rattle.lp_timers.specs.declared.kind.Kind.{Kind}
use Rattle.lp_timers.specs.declared.line.Line.{Line}
use Rattle.lp_timers.specs.Lines.{same_kind}

-- the number of the next line, and all lines, in order of putting
pub record Putting : Type 0 where
  pub next : ℕ
  pub lines : List Line

-- whether a line has a mark
abbrev pub has_mark : Kind → ℕ → Line → Bool
has_mark kind o l = same_kind l.kind kind && nat_eq l.ob.0 o

-- the number of the first line with a mark, if there is one
abbrev pub number_of : Kind → ℕ → List Line → Option ℕ
number_of kind o [] = None
number_of kind o (l ∷ ls) = if has_mark kind o l then Some l.number else number_of kind o ls

-- no line has a mark
abbrev pub HasNone : Kind → ℕ → List Line → Type 0
HasNone kind o ls = AllByRecursion (λ l. has_mark kind o l ≡ false) ls

-- the line with a number, and no other, has a mark
abbrev pub IsAlone : Kind → ℕ → ℕ → List Line → Type 0
IsAlone kind o n ls = AllByRecursion (λ l. has_mark kind o l ≡ nat_eq l.number n) ls

-- no two lines have one mark
abbrev pub AreApart : List Line → Type 0
AreApart [] = ⊤
AreApart (l ∷ ls) = HasNone l.kind l.ob.0 ls × AreApart ls
