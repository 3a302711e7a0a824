-- A whole call of an efun that calls no LPC.
use Rattle.std.specs.Prelude.{◌≡◌, ℕ, ◌-◌, ◌||◌, List, Bool, true, false, ⊤, nat_lt}
use Rattle.lp_values.specs.declared.id.ObjId.{ObjId}
use Rattle.lp_values.specs.declared.value.Value.{Value}
use Rattle.lp_cells.specs.Cells.{IsThere, Store}
use Rattle.lp_instr.specs.declared.efun.Efun.{Efun}
use Rattle.lp_instr.specs.declared.efun.Efun.TheVariants as efuns
use Rattle.lp_ops.specs.Operands.{operand, size_of}
use Rattle.lp_language.specs.Course.{Scene, State, Thrown, Failed, Spent, End, Gives, Stops, Over, here}
use Rattle.lp_meaning.specs.Askers.{Asker}
use Rattle.lp_meaning.specs.EfunArguments.{price_after}
use Rattle.lp_meaning.specs.Questions.{Group, Computes, OfWorld, Calls, OfFiles, group, efun_in}
use Rattle.lp_world.specs.declared.live.Live.{Live}
use Rattle.lp_efuns.specs.declared.answer.Answer.{Answer}
use Rattle.lp_efuns.specs.declared.answer.Answer.TheVariants as answers
use Rattle.lp_efuns.specs.declared.answer.Did.{Did}
use Rattle.lp_efuns.specs.declared.answer.Did.TheVariants as did
use Rattle.lp_efuns.specs.declared.caller.Caller.{Caller}
use Rattle.lp_efuns.specs.declared.caller.Turn.{Turn}
use Rattle.lp_efuns.specs.Turns.{At, IsScene, Setting}

-- the efuns of the world that are carried out here: those that change nothing
abbrev pub is_look : Efun → Bool
is_look efuns.ThisObject = true
is_look efuns.ThisPlayer = true
is_look efuns.ThisInteractive = true
is_look efuns.PreviousObject = true
is_look efuns.FindObject = true
is_look efuns.ObjectName = true
is_look efuns.LoadName = true
is_look efuns.ProgramName = true
is_look efuns.Living = true
is_look efuns.Interactive = true
is_look efuns.Environment = true
is_look efuns.AllInventory = true
is_look efuns.FirstInventory = true
is_look efuns.NextInventory = true
is_look efuns.QueryShadowing = true
is_look efuns.QueryVerb = true
is_look efuns.Users = true
is_look efuns.FindCallOut = true
is_look efuns.Time = true
is_look efuns.RaiseError = true
is_look _ = false

-- and those that change something, or throw
abbrev pub is_change : Efun → Bool
is_change efuns.Unshadow = true
is_change efuns.NotifyFail = true
is_change efuns.Exec = true
is_change efuns.RemoveInteractive = true
is_change efuns.RemoveCallOut = true
is_change efuns.SetHeartBeat = true
is_change efuns.Random = true
is_change efuns.Throw = true
is_change efuns.MDelete = true
is_change _ = false

-- and the one that changes an object
abbrev pub is_enable : Efun → Bool
is_enable efuns.EnableCommands = true
is_enable _ = false

-- all of them
abbrev pub is_deed : Efun → Bool
is_deed e = is_enable e || (is_look e || is_change e)

-- by their groups: all that compute, and those
abbrev pub is_plain_in : Group → Efun → Bool
is_plain_in Computes e = true
is_plain_in OfWorld e = is_deed e
is_plain_in Calls e = false
is_plain_in OfFiles e = false

-- whether an efun is carried out here
abbrev pub is_plain : Efun → Bool
is_plain e = is_plain_in (group e) e

-- whether it computes
abbrev pub is_computing : Group → Bool
is_computing Computes = true
is_computing OfWorld = false
is_computing Calls = false
is_computing OfFiles = false

-- the price of a result: of its length, as read
abbrev pub price_of_value : Efun → (ObjId → Bool) → Store → Value → ℕ
price_of_value e live cells v = price_after e (size_of (operand live cells v))

-- it is paid, or the budget is spent
abbrev pub PaysFor : Bool → ℕ → Value → ℕ → Answer → ℕ → Type 0
PaysFor true price v old a new = (a ≡ answers.Spent) × (new ≡ 0)
PaysFor false price v old a new = (a ≡ answers.Value v) × (new ≡ old - price)

-- what an efun came to, with the price of its result
abbrev pub Finishes : Efun → (ObjId → Bool) → Store → Did → ℕ → Answer → ℕ → Type 0
Finishes e live cells (did.Value v) old a new = PaysFor (nat_lt old (price_of_value e live cells v)) (price_of_value e live cells v) v old a new
Finishes e live cells (did.Error x) old a new = (a ≡ answers.Error x) × (new ≡ old)
Finishes e live cells (did.Thrown v) old a new = (a ≡ answers.Thrown v) × (new ≡ old)

-- a value that an efun came to is there
abbrev pub IsDidThere : Store → Did → Type 0
IsDidThere cells (did.Value v) = IsThere cells v
IsDidThere cells (did.Error e) = ⊤
IsDidThere cells (did.Thrown v) = IsThere cells v

-- a value that a call answers is there
abbrev pub IsAnswerThere : Store → Answer → Type 0
IsAnswerThere cells (answers.Value v) = IsThere cells v
IsAnswerThere cells (answers.Error e) = ⊤
IsAnswerThere cells (answers.Thrown v) = IsThere cells v
IsAnswerThere cells answers.Spent = ⊤

-- a call ends with this answer, in a state of which something holds
abbrev pub IsEnd : Answer → (State → Type 0) → End Value → Type 0
IsEnd (answers.Value v) P (Gives w t) = (w ≡ v) × P t
IsEnd (answers.Error e) P (Stops x t) = (x ≡ here (Failed e)) × P t
IsEnd (answers.Thrown v) P (Stops x t) = (x ≡ here (Thrown v)) × P t
IsEnd answers.Spent P (Stops x t) = (x ≡ here Spent) × P t
IsEnd _ P _ = ⊥

-- A call of an efun is what it means: from each state for which the live state stands its course asks nothing and ends with this
-- answer, in a state for which the live state stands afterwards, with what is left of the budget.
abbrev pub CallsEfun : Efun → Caller → List Value → Live → Turn → ℕ → Answer → Live → Turn → ℕ → Type 0
CallsEfun e caller vs live0 turn0 budget0 a live1 turn1 budget1 =
    (g : Setting) (by : Asker) (c : Scene) (s : State) → IsScene caller c → At g live0 turn0 budget0 s
    → (end : End Value) × (efun_in e by c vs s ≡ Over end) × IsEnd a (At g live1 turn1 budget1) end
