-- What comes next, and what comes later.
use Rattle.std.specs.Prelude.{ℕ, ℤ, List, Option}
use Rattle.lp_tree.specs.declared.token.Token.{Token}
use Rattle.lp_lexer.specs.Lexis.{IsLexed}
use Rattle.lp_preproc.specs.declared.word.Word.{Word}
use Rattle.lp_preproc.specs.Conditions.{HasValue}
use Rattle.lp_preproc.specs.Expansion.{LeadsTo, Whole, next}
use Rattle.lp_preproc.specs.State.{Setting, State, Next, Goes, Asks, Reads, Tests}

-- What is next leads to what comes later, step by step.
pub data Leads (c : Setting) : Next → Next → Type 0 where
  stays : {n : Next} → Leads c n n
  -- it went on with a state
  went : {s : State} {m : Next} → Leads c (next c s) m → Leads c (Goes s) m
  -- a list that stands by itself has come out
  asked : {q r : State} {k : State → Next} {m : Next} → LeadsTo c (Goes q) (Whole r) → Leads c (k r) m → Leads c (Asks q k) m
  -- a file has these tokens
  lexed : {bytes : List ℕ} {line : Option ℕ} {k : List Token → Next} {ts : List Token} {m : Next} → IsLexed bytes ts → Leads c (k ts) m → Leads c (Reads bytes line k) m
  -- a condition has this value
  tested : {ws : List Word} {line : ℕ} {k : ℤ → Next} {z : ℤ} {m : Next} → HasValue ws z → Leads c (k z) m → Leads c (Tests ws line k) m
