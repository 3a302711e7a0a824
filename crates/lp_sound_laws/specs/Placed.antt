-- What each instruction of translated code names and leads to, whether a path reaches it or not.
use Rattle.std.specs.Prelude.{◌≡◌, ◌≤◌, ◌<◌, ℕ, ◌+◌, ⊤, List, [], ◌∷◌, Option, Some, None, IsSome, slice_get, length}
use Rattle.lp_instr.specs.declared.instr.Instr.{Instr}
use Rattle.lp_instr.specs.declared.instr.Instr.TheVariants.{Jump, JumpIfZero, JumpIfNotZero, KeepIfZero, KeepIfNotZero, LoopTurn, CatchBegin, Switch, EachNext, ReturnZero}
use Rattle.lp_instr.specs.declared.instr.Case.{Case}
use Rattle.lp_instr.specs.declared.instr.Case.TheVariants as cases
use Rattle.lp_instr.specs.Code.{Code, Table, case_place}
use Rattle.lp_instr.specs.Sound.{Bounds, IsNamed}
use Rattle.lp_language.specs.Exec.{local_count}
use Rattle.lp_language.specs.Resolve.{Function, Heritage, Variable, variable_in}
use Rattle.lp_language.specs.Scope.{callee}
use Rattle.lp_isa.specs.Translates.{MakesFun, MakesInitialisers, One, Then}
use Rattle.lp_sound_laws.specs.Counted.{StmtsCounted, VariablesCounted}

-- a jump from a place leads to an instruction, which is a turn of a loop where it does not lead on
pub record Lands (code : Code) (p to : ℕ) : Type 0 where
  pub inside : to < length code.instrs
  pub turns : to ≤ p → slice_get code.instrs to ≡ Some LoopTurn

-- the text of a label is there
abbrev pub HasText : Code → Case → Type 0
HasText code (cases.Ints a b to) = ⊤
HasText code (cases.Text k to) = IsSome (slice_get code.texts k)

abbrev pub CasesLand : Code → ℕ → List Case → Type 0
CasesLand code p [] = ⊤
CasesLand code p (k ∷ ks) = Lands code p (case_place k) × HasText code k × CasesLand code p ks

abbrev pub TableLands : Code → ℕ → Option Table → Type 0
TableLands code p None = ⊥
TableLands code p (Some t) = CasesLand code p t.cases × Lands code p t.other

-- each place at which an instruction may go on, beside the next one
abbrev pub Leads : Code → ℕ → Instr → Type 0
Leads code p (Jump to) = Lands code p to
Leads code p (JumpIfZero to) = Lands code p to
Leads code p (JumpIfNotZero to) = Lands code p to
Leads code p (KeepIfZero to) = Lands code p to
Leads code p (KeepIfNotZero to) = Lands code p to
Leads code p (CatchBegin to) = Lands code p to
Leads code p (Switch k) = TableLands code p (slice_get code.switches k)
Leads code p (EachNext to n) = Lands code p to
Leads code p i = ⊤

-- a place has an instruction, which names what is there and leads where it may
pub record IsPlaced (code : Code) (b : Bounds) (p : ℕ) : Type 0 where
  pub instr : Instr
  pub is : slice_get code.instrs p ≡ Some instr
  pub named : IsNamed code b instr
  pub leads : Leads code p instr

-- so does each place from one up to another
pub record ArePlaced (code : Code) (b : Bounds) (from to : ℕ) : Type 0 where
  pub order : from ≤ to
  pub each : (p : ℕ) → from ≤ p → p < to → IsPlaced code b p

-- the places of variables that names mean are among so many
abbrev pub AreSeen : Heritage → ℕ → Type 0
AreSeen h n = (w : List ℕ) (k : ℕ) → variable_in h w ≡ Some k → k < n

-- Wherever code stands for a function's body, each of its instructions names what is there, and leads to one that is there:
-- where there are as many locals as it takes, the variables that names mean are there, and calls of efuns have as many
-- arguments as is allowed.
abbrev pub TranslatedCodeIsPlaced : Type 0
TranslatedCodeIsPlaced =
    (h : Heritage) (f : Function) (code : Code) (b : Bounds) (from : ℕ) (makes : MakesFun h f code from)
    → local_count f ≤ b.locals → AreSeen h b.variables → StmtsCounted (callee h) f.body → (from < makes.0) × ArePlaced code b from makes.0

-- and so it is for the initialisers of variables of which the first is at a place, where these are there
abbrev pub InitialisersArePlaced : Type 0
InitialisersArePlaced =
    (h : Heritage) (k : ℕ) (vs : List Variable) (code : Code) (b : Bounds) (from end : ℕ) → Then (MakesInitialisers h k vs code) (One code ReturnZero) from end
    → k + length vs ≤ b.variables → AreSeen h b.variables → VariablesCounted (callee h) vs → (from < end) × ArePlaced code b from end
