-- What reading keeps: the cells that were there, what is left of a line, the new cells that have numbers, by their places, and the new cells.
use Rattle.std.specs.Prelude.{◌≡◌, ℕ, ◌+◌, ◌++◌, ◌∷◌, [], List, length, map, slice_set, Bool, codes, if◌then◌else◌, Option, Some, None, Result, Ok, Err, Vec, ◌≤◌, ◌<◌, ◌||◌, drop, nat_eq}
use Rattle.std.specs.declared.alloc.Global.{Global}
use Rattle.lp_values.specs.Limits.{max_code_points}
use Rattle.lp_save.specs.declared.fault.FaultKind.TheVariants.{BadValue, TooLong}
use Rattle.lp_values.specs.declared.id.CellId.{CellId}
use Rattle.lp_values.specs.declared.value.Value.{Value}
use Rattle.lp_cells.specs.declared.content.Content.{Content}
use Rattle.lp_cells.specs.Cells.{Store}
use Rattle.lp_save.specs.declared.fault.ReadFault.{ReadFault}
use Rattle.lp_save.specs.declared.fault.ReadFault.TheVariants as fault
use Rattle.lp_save.specs.declared.fault.RestoreFault.{RestoreFault}
use Rattle.lp_save.specs.declared.fault.RestoreFault.TheVariants as restoring
use Rattle.lp_text.specs.Pieces.{pieces}
use Rattle.lp_save.specs.SaveText.{Line, Rest}
use Rattle.lp_save.specs.Reading.{Found, Done, Wrong, TextFound, Text, NoText, LinesFound, AllLines, FaultyAt, Outcome, Given, FaultIn, lines_at, lines_from}

-- what reading keeps
pub record Desk : Type 0 where
  pub base : Store
  pub text : List ℕ
  pub shared : List ℕ
  pub made : Store

-- the new cell at a place
abbrev pub cell_of : Store → ℕ → CellId
cell_of base i = record { 0 = length base + i }

-- the new cells stand behind those that were there
abbrev pub rest_of : Desk → Rest
rest_of d = record { text = d.text; shared = map (cell_of d.base) d.shared; cells = d.base ++ d.made }

-- what is left of the line
abbrev pub desk_left : List ℕ → Desk → Desk
desk_left t d = record d { text = t }

-- a new cell begins
abbrev pub desk_begun : Bool → List ℕ → Content → Desk → Desk
desk_begun is_shared t x d = record { base = d.base; text = t; shared = if is_shared then d.shared ++ length d.made ∷ [] else d.shared; made = d.made ++ Some x ∷ [] }

-- a new cell holds this
abbrev pub desk_filled : ℕ → Content → Desk → Desk
desk_filled i x d = record d { made = slice_set d.made i (Some x) }

-- what is found is wrong in the way that a fault tells, unless memory ran out
abbrev pub Fails : {A : Type 0} → ReadFault → Found A → Type 0
Fails fault.NoMemory found = Unit {0}
Fails (fault.Wrong k) found = found ≡ Wrong k

-- What is read from a desk on is what a function answered, seen by view, with the desk that it left, unless memory ran out.
abbrev pub Answers : {T A : Type 0} → (T → A) → Result T ReadFault → Desk → Desk → Found A → Type 0
Answers view (Ok x) old new found = (found ≡ Done (view x) (rest_of new)) × (new.base ≡ old.base)
Answers view (Err e) old new found = Fails e found

-- a name and a value, as a line
abbrev pub as_line : List ℕ × Value → Line
as_line x = record { name = x.0; value = x.1 }

-- a code point that stands for itself
abbrev pub plain_point : ℕ → Option ℕ
plain_point c = if nat_eq c 13 || nat_eq c 9 then None else Some c

-- a code point is added where it is one and there is room
abbrev pub AddsPoint : Result (Unit {0}) ReadFault → List ℕ → List ℕ → Option ℕ → Type 0
AddsPoint (Ok x) old new None = ⊥
AddsPoint (Ok x) old new (Some c) = (length old < max_code_points) × (new ≡ old ++ c ∷ [])
AddsPoint (Err fault.NoMemory) old new point = Unit {0}
AddsPoint (Err (fault.Wrong k)) old new None = k ≡ BadValue
AddsPoint (Err (fault.Wrong k)) old new (Some c) = (max_code_points ≤ length old) × (k ≡ TooLong)

-- a text, and how many code points it takes with its `"`; or what is wrong
abbrev pub GivesText : Result (Vec ℕ Global × ℕ) ReadFault → List ℕ → TextFound → Type 0
GivesText (Ok x) text found = (found ≡ Text x.0.items (drop x.1 text)) × (x.1 ≤ length text)
GivesText (Err fault.NoMemory) text found = Unit {0}
GivesText (Err (fault.Wrong k)) text found = found ≡ NoText k

-- a fault of a line, with its number
abbrev pub fault_in : ℕ → ReadFault → RestoreFault
fault_in n fault.NoMemory = restoring.NoMemory
fault_in n (fault.Wrong k) = restoring.Line n k

-- the newline
abbrev pub newline : List ℕ
newline = codes "\n"

-- How long the header is with its newline, 0 where there is none: the lines behind it are read; or the first line is faulty.
abbrev pub Headed : Result ℕ RestoreFault → List ℕ → Type 0
Headed (Ok k) bytes = (k ≤ length bytes) × ((r : Rest) → lines_from (pieces newline bytes) r ≡ lines_at (if nat_eq k 0 then 1 else 2) [] (pieces newline (drop k bytes)) r)
Headed (Err restoring.NoMemory) bytes = ⊥
Headed (Err (restoring.Line n k)) bytes = (r : Rest) → lines_from (pieces newline bytes) r ≡ FaultyAt n k

-- One line more is read behind those that were, from a desk on, and this many bytes are passed; or that line is faulty.
abbrev pub NextLine : Result ℕ RestoreFault → ℕ → List ℕ → List Line → List Line → Desk → Desk → Type 0
NextLine (Ok k) n rest done more old new =
    (0 < k) × (k ≤ length rest) × (lines_at n done (pieces newline rest) (rest_of old) ≡ lines_at (n + 1) more (pieces newline (drop k rest)) (rest_of new)) × (new.base ≡ old.base)
NextLine (Err restoring.NoMemory) n rest done more old new = Unit {0}
NextLine (Err (restoring.Line m k)) n rest done more old new = lines_at n done (pieces newline rest) (rest_of old) ≡ FaultyAt m k

-- All lines are read from a desk on, or the first that is faulty is shown.
abbrev pub AnswersLines : Result (Vec (List ℕ × Value) Global) RestoreFault → Desk → Desk → LinesFound → Type 0
AnswersLines (Ok x) old new found = (found ≡ AllLines (map as_line x.items) (new.base ++ new.made)) × (new.base ≡ old.base)
AnswersLines (Err restoring.NoMemory) old new found = Unit {0}
AnswersLines (Err (restoring.Line n k)) old new found = found ≡ FaultyAt n k

-- All lines and the new cells, or the first line that is faulty.
abbrev pub GivesLines : Result (Vec (List ℕ × Value) Global × Vec (Option Content) Global) RestoreFault → Store → LinesFound → Type 0
GivesLines (Ok x) base found = found ≡ AllLines (map as_line x.0.items) (base ++ x.1.items)
GivesLines (Err restoring.NoMemory) base found = Unit {0}
GivesLines (Err (restoring.Line n k)) base found = found ≡ FaultyAt n k

-- Restoring gives the values, and the cells with the new ones; or it shows the first line that is faulty and what is wrong there, or memory ran
-- out, and then no cell has changed.
abbrev pub Restores : Result (Vec (Option Value) Global) RestoreFault → Store → Store → Outcome → Type 0
Restores (Ok x) old new o = o ≡ Given x.items new
Restores (Err restoring.NoMemory) old new o = new ≡ old
Restores (Err (restoring.Line n k)) old new o = (o ≡ FaultIn n k) × (new ≡ old)
