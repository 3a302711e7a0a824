-- What formatting gives as a whole, told without going piece by piece; and where pieces end.
use Rattle.std.specs.Prelude.{◌≡◌, ◌<◌, ◌≤◌, ◌+◌, ℕ, List, [], ◌∷◌, ◌++◌, Bool, drop, length, Result, Ok, Err}
use Rattle.std.specs.Bool.{⊤}
use Rattle.std.specs.List.{concat}
use Rattle.lp_values.specs.declared.id.ObjId.{ObjId}
use Rattle.lp_values.specs.declared.value.Value.{Value}
use Rattle.lp_format.specs.declared.fault.FormatFault.{FormatFault}
use Rattle.lp_format.specs.declared.fault.FormatFault.TheVariants.{TooLong}
use Rattle.lp_format.specs.Forms.{Placed, behind_precision, marked_len}
use Rattle.lp_format.specs.Formatted.{formatted, piece_text, uses}
use Rattle.lp_values.specs.Limits.{max_code_points}

-- how many arguments pieces take together
abbrev pub uses_of : List Placed → ℕ
uses_of [] = 0
uses_of (p ∷ ps) = uses p.piece + uses_of ps

-- these are the texts of the pieces, whose arguments begin at place i
abbrev pub AreTexts : (ObjId → Bool) → (Value → List ℕ) → List Value → ℕ → List Placed → List (List ℕ) → Type 0
AreTexts live spell args i [] [] = ⊤
AreTexts live spell args i (p ∷ ps) (t ∷ ts) = (piece_text live spell args i p.at p.piece ≡ Ok t) × AreTexts live spell args (i + uses p.piece) ps ts
AreTexts live spell args i [] (t ∷ ts) = ⊥
AreTexts live spell args i (p ∷ ps) [] = ⊥

-- a piece behind n code points ends the text with this fault: its own, or it is one piece too many
abbrev pub Stops : ℕ → FormatFault → Result (List ℕ) FormatFault → Type 0
Stops n fault (Ok t) = (fault ≡ TooLong) × (max_code_points < n + length t)
Stops n fault (Err own) = fault ≡ own

-- all pieces have texts, and the text is these one after another
pub record IsWhole (live : ObjId → Bool) (spell : Value → List ℕ) (args : List Value) (ps : List Placed) (text : List ℕ) : Type 0 where
  pub texts : List (List ℕ)
  pub are : AreTexts live spell args 0 ps texts
  pub joined : text ≡ concat texts
  pub fits : length text ≤ max_code_points

-- the pieces up to one have texts, which fit, and that one ends the text with this fault
pub record IsRefused (live : ObjId → Bool) (spell : Value → List ℕ) (args : List Value) (ps : List Placed) (fault : FormatFault) : Type 0 where
  pub before : List Placed
  pub last : Placed
  pub behind : List Placed
  pub split : ps ≡ before ++ last ∷ behind
  pub texts : List (List ℕ)
  pub are : AreTexts live spell args 0 before texts
  pub fits : length (concat texts) ≤ max_code_points
  pub stops : Stops (length (concat texts)) fault (piece_text live spell args (uses_of before) last.at last.piece)

-- a text is whole, and a fault is that of the first piece that has one or is one too many
abbrev pub IsFormatted : (ObjId → Bool) → (Value → List ℕ) → List Value → List Placed → Result (List ℕ) FormatFault → Type 0
IsFormatted live spell args ps (Ok text) = IsWhole live spell args ps text
IsFormatted live spell args ps (Err fault) = IsRefused live spell args ps fault

-- what pieces give is formatted so
abbrev pub IsTold : Type 0
IsTold = (live : ObjId → Bool) (spell : Value → List ℕ) (args : List Value) (ps : List Placed) → IsFormatted live spell args ps (formatted live spell args ps)

-- what follows a directive is what follows its letter
abbrev pub IsPassed : Type 0
IsPassed = (cs : List ℕ) → drop (marked_len cs) (37 ∷ cs) ≡ drop 1 (behind_precision cs)
