-- Forms of scanning.
use Rattle.std.specs.Prelude.{ℕ, zero, suc, ◌≡◌, ◌+◌, ◌-◌, List, [], ◌∷◌, ◌++◌, Bool, true, false, Option, Some, None, nat_eq, drop, slice_index, if◌then◌else◌, Result, Ok, Err}
use Rattle.lp_text.specs.declared.form.Item.{Item}
use Rattle.lp_text.specs.declared.form.Item.TheVariants.{Bad, Number, Percent, Plain, Words}
use Rattle.lp_text.specs.declared.fault.TextFault.{TextFault}
use Rattle.lp_text.specs.declared.fault.TextFault.TheVariants.{TooLong, BadFormat, NoMemory}

-- `d` is an integer and `s` a text; no other letter stands for anything
abbrev pub lettered_item : ℕ → Bool → Item
lettered_item letter kept = if nat_eq letter 100 then Number kept else if nat_eq letter 115 then Words kept else Bad

-- after a `%`: a second `%`, a letter, or a `*` and a letter, which is not assigned
abbrev pub marked_item : ℕ → ℕ → Item
marked_item first second = if nat_eq first 37 then Percent else if nat_eq first 42 then lettered_item second false else lettered_item first true

-- the part that a form begins with
abbrev pub item : List ℕ → Item
item cs = if nat_eq (slice_index cs 0) 37 then marked_item (slice_index cs 1) (slice_index cs 2) else Plain (slice_index cs 0)

-- how many code points a part has
abbrev pub width : Item → ℕ
width Bad = 1
width (Number true) = 2
width (Number false) = 3
width Percent = 2
width (Plain c) = 1
width (Words true) = 2
width (Words false) = 3

-- the code points of a part
abbrev pub spelling : Item → List ℕ
spelling Bad = []
spelling (Number true) = 37 ∷ 100 ∷ []
spelling (Number false) = 37 ∷ 42 ∷ 100 ∷ []
spelling Percent = 37 ∷ 37 ∷ []
spelling (Plain c) = c ∷ []
spelling (Words true) = 37 ∷ 115 ∷ []
spelling (Words false) = 37 ∷ 42 ∷ 115 ∷ []

-- a part with its place, and what follows it in the form
pub record Part : Type 0 where
  pub item : Item
  pub at : ℕ
  pub rest : List ℕ

-- the parts of what is left of a form from a place on, each beginning where the one before ends, where `skip` code points of one are still to be passed
abbrev pub parts_after : ℕ → ℕ → List ℕ → List Part
parts_after at skip [] = []
parts_after at (suc n) (c ∷ cs) = parts_after at n cs
parts_after at zero (c ∷ cs) = record { item = item (c ∷ cs); at = at; rest = drop (width (item (c ∷ cs))) (c ∷ cs) } ∷ parts_after (at + width (item (c ∷ cs))) (width (item (c ∷ cs)) - 1) cs

-- the parts of a form
abbrev pub parts : List ℕ → List Part
parts form = parts_after 0 0 form

-- the code points of parts, one after another
abbrev pub spelled : List Part → List ℕ
spelled [] = []
spelled (p ∷ ps) = spelling p.item ++ spelled ps

-- a `%` that begins no part, or a text that stands directly before a `%`
abbrev pub is_fault : Item → List ℕ → Bool
is_fault Bad rest = true
is_fault (Words kept) rest = nat_eq (slice_index rest 0) 37
is_fault i rest = false

-- the place of the first faulty part
abbrev pub fault_of : List Part → Option ℕ
fault_of [] = None
fault_of (p ∷ ps) = if is_fault p.item p.rest then Some p.at else fault_of ps

-- whether a part is assigned
abbrev pub is_kept : Item → Bool
is_kept (Number kept) = kept
is_kept (Words kept) = kept
is_kept i = false

-- how many parts are assigned
abbrev pub count_of : List Part → ℕ
count_of [] = 0
count_of (p ∷ ps) = (if is_kept p.item then 1 else 0) + count_of ps

-- the answer is the count where there is no fault, and exactly the fault where there is one
abbrev pub GivesCount : Result ℕ TextFault → Option ℕ → ℕ → Type 0
GivesCount (Ok n) fault count = (fault ≡ None) × (n ≡ count)
GivesCount (Err TooLong) fault count = ⊥
GivesCount (Err (BadFormat at)) fault count = fault ≡ Some at
GivesCount (Err NoMemory) fault count = ⊥
