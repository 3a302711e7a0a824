-- Each step of an expansion leaves less to do.
use Rattle.std.specs.Prelude.{ℕ, ℤ, ◌+◌, ◌-◌, ◌*◌, ◌≤◌, ◌<◌, List, [], ◌∷◌, Option, length}
use Rattle.lp_tree.specs.declared.fault.FaultKind.{FaultKind}
use Rattle.lp_tree.specs.declared.token.Token.{Token}
use Rattle.lp_lexer.specs.Lexis.{IsLexed}
use Rattle.lp_preproc.specs.declared.word.Word.{Word}
use Rattle.lp_preproc.specs.declared.state.Reading.{Reading}
use Rattle.lp_preproc.specs.declared.state.Reading.TheVariants.{Named}
use Rattle.lp_preproc.specs.State.{Open, State, Next, Goes, Ends, Fails, Asks, Reads, Tests}

-- how deep a state may still go: lists that stand by themselves lie below files
abbrev pub level_of : List Open → ℕ → ℕ
level_of [] least = 65 - least
level_of (o ∷ os) least = 66

abbrev pub level : State → ℕ
level s = level_of s.files s.least

-- what may still be put in
abbrev pub room : State → ℕ
room s = 1000000 - s.put_in

-- what is left to read: a word may come again once, behind the name of a macro
abbrev pub left_in : List Open → ℕ
left_in [] = 0
left_in (o ∷ os) = 1 + (2 * length o.left + left_in os)

abbrev pub held : Reading → ℕ
held (Named u) = 1
held _ = 0

abbrev pub light : State → ℕ
light s = 2 * length s.waiting + (held s.reading + left_in s.files)

-- What is left to do. What is put in weighs more than all that it brings: words of the result of a use, or a file of 16777216 tokens at most.
abbrev pub weight : State → ℕ
weight s = 33554433 * room s + light s

-- a state with less to do, which may go no deeper and where nothing was taken back
abbrev pub IsLess : State → State → Type 0
IsLess t a = (level t ≤ level a) × (a.put_in ≤ t.put_in) × (weight t < weight a)

-- What comes next is an end, or it goes on with less to do than this state has; what it asks for lies deeper.
pub data Falls (a : State) : Next → Type 0 where
  goes : {t : State} → IsLess t a → Falls a (Goes t)
  ends : {t : State} → a.put_in ≤ t.put_in → Falls a (Ends t)
  fails : {kind : FaultKind} {line : ℕ} → Falls a (Fails kind line)
  asks : {q : State} {k : State → Next} → level q < level a → a.put_in ≤ q.put_in → ((r : State) → q.put_in ≤ r.put_in → Falls a (k r)) → Falls a (Asks q k)
  reads : {bytes : List ℕ} {line : Option ℕ} {k : List Token → Next} → ((ts : List Token) → IsLexed bytes ts → Falls a (k ts)) → Falls a (Reads bytes line k)
  tests : {ws : List Word} {line : ℕ} {k : ℤ → Next} → ((z : ℤ) → Falls a (k z)) → Falls a (Tests ws line k)
