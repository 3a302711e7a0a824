-- What saving and restoring give back: values that are equal up to a matching of cells, which keeps their sharing.
use Rattle.std.specs.Prelude.{Bool, ◌≡◌, ◌≤◌, ◌<◌, ◌^◌, ℕ, ◌+◌, ℤ, pos, negsuc, List, [], ◌∷◌, ◌++◌, All, Option, Some, None, length, map, slice_get, false, true}
use Rattle.std.specs.Char.{IsScalar}
use Rattle.std.specs.Ordering.{int_eq}
use Rattle.lp_values.specs.Limits.{max_code_points, max_items}
use Rattle.lp_values.specs.declared.id.CellId.{CellId}
use Rattle.lp_values.specs.declared.id.ObjId.{ObjId}
use Rattle.lp_values.specs.declared.value.Value.{Value}
use Rattle.lp_values.specs.declared.value.Value.TheVariants.{Int, Str, Arr, Map, Obj}
use Rattle.lp_cells.specs.declared.content.Content.{Content}
use Rattle.lp_cells.specs.declared.content.Content.TheVariants.{Array, Mapping}
use Rattle.lp_cells.specs.Cells.{IsClosed, IsThere, Store, content_at}
use Rattle.lp_cells.specs.Mapping.{pairs_of, pairs_there}
use Rattle.std.specs.Prelude.{Result, Ok, Err, Vec}
use Rattle.std.specs.declared.alloc.Global.{Global}
use Rattle.lp_save.specs.declared.fault.RestoreFault.{RestoreFault}
use Rattle.lp_save.specs.declared.fault.RestoreFault.TheVariants.{NoMemory, Line}
use Rattle.lp_save.specs.Reading.{Given, outcome}
use Rattle.lp_save.specs.SaveText.{is_variable_name}

-- two lists are equally long, and what stands at one place in both matches
abbrev pub InOrder : {A B : Type 0} → (A → B → Type 0) → List A → List B → Type 0
InOrder P [] [] = Unit {0}
InOrder P [] (y ∷ ys) = ⊥
InOrder P (x ∷ xs) [] = ⊥
InOrder P (x ∷ xs) (y ∷ ys) = P x y × InOrder P xs ys

-- A finite map between cells: of these saved cells the k-th, from 0, is matched with the cell whose serial is the k-th from `first` on.
pub record Matching : Type 0 where
  pub saved : List CellId
  pub first : ℕ

-- a saved cell is matched with a restored one
abbrev pub Matched : Matching → CellId → CellId → Type 0
Matched m c d = (k : ℕ) × (slice_get m.saved k ≡ Some c) × (d.0 ≡ m.first + k)

-- A saved value matches a restored one: integers and texts are equal, references name cells that are matched, and an object has become 0.
abbrev pub ValuesMatch : Matching → Value → Value → Type 0
ValuesMatch m (Int i) (Int j) = i ≡ j
ValuesMatch m (Str s) (Str t) = s ≡ t
ValuesMatch m (Arr c) (Arr d) = Matched m c d
ValuesMatch m (Map c) (Map d) = Matched m c d
ValuesMatch m (Obj o) (Int j) = j ≡ pos 0
ValuesMatch m v w = ⊥

-- keys match, and so do values
abbrev pub PairsMatch : Matching → Value × Value → Value × Value → Type 0
PairsMatch m p q = ValuesMatch m p.0 q.0 × ValuesMatch m p.1 q.1

-- whether a value becomes 0 when it is restored
abbrev pub becomes_zero : Value → Bool
becomes_zero (Int i) = int_eq i (pos 0)
becomes_zero (Str s) = false
becomes_zero (Arr c) = false
becomes_zero (Map c) = false
becomes_zero (Obj o) = true

-- What cells hold matches: of arrays item by item; of mappings pair by pair in their order, as read, where of keys that have become equal the last wins
-- at the first one's place.
abbrev pub ContentsMatch : (ObjId → Bool) → Matching → Option Content → Option Content → Type 0
ContentsMatch live m (Some (Array vs)) (Some (Array ws)) = InOrder (ValuesMatch m) vs ws
ContentsMatch live m (Some (Mapping ps)) (Some (Mapping qs)) = (rs : List (Value × Value)) × InOrder (PairsMatch m) (pairs_there live ps) rs × (qs ≡ pairs_of rs)
ContentsMatch live m x y = ⊥

-- a variable that got a value, which matches
abbrev pub GotMatch : Matching → Value → Option Value → Type 0
GotMatch m v None = ⊥
GotMatch m v (Some w) = ValuesMatch m v w

-- Values were saved of cells `old`, and restored beside cells `base`: then these are the cells, and these the values that were given. No cell that was
-- there changed, and each cell more is matched. The matching is one-to-one: references to one cell match references to one cell, and references to two
-- match references to two. What matched cells hold matches, and so do the values.
pub record IsRestored (live : ObjId → Bool) (old base new : Store) (m : Matching) (vs : List Value) (given : List (Option Value)) : Type 0 where
  pub added : (made : Store) × (new ≡ base ++ made) × (length made ≡ length m.saved) × (m.first ≡ length base)
  pub one : (c d e : CellId) → Matched m c d → Matched m c e → d ≡ e
  pub apart : (c d e : CellId) → Matched m c e → Matched m d e → c ≡ d
  pub cells : (c d : CellId) → Matched m c d → ContentsMatch live m (content_at old c) (content_at new d)
  pub values : InOrder (GotMatch m) vs given

-- What a program's values keep within: integers of 64 bits, texts of at most 100000 code points.
abbrev pub IsInt : ℤ → Type 0
IsInt (pos n) = n < 2 ^ 63
IsInt (negsuc n) = n < 2 ^ 63

abbrev pub IsWithin : Value → Type 0
IsWithin (Int i) = IsInt i
IsWithin (Str t) = (length t ≤ max_code_points) × All IsScalar t
IsWithin (Arr c) = Unit {0}
IsWithin (Map c) = Unit {0}
IsWithin (Obj o) = Unit {0}

-- arrays have at most 10000 items, and mappings at most 10000 pairs, as read
abbrev pub AreWithin : (ObjId → Bool) → Content → Type 0
AreWithin live (Array vs) = (length vs ≤ max_items) × All IsWithin vs
AreWithin live (Mapping ps) = (length (pairs_there live ps) ≤ max_items) × All (λ p. IsWithin p.0 × IsWithin p.1) ps

-- Named values that can be saved: cells are closed, values and what cells hold keep within the limits, what values name is there, the names are names of
-- variables, and serials of cells are numbers of 64 bits.
pub record AreSavable (live : ObjId → Bool) (cells : Store) (ps : List (List ℕ × Value)) : Type 0 where
  pub closed : IsClosed cells
  pub there : All (λ p. IsThere cells p.1) ps
  pub names : All (λ p. is_variable_name p.0 ≡ true) ps
  pub within : All (λ p. IsWithin p.1) ps
  pub contents : (c : CellId) (x : Content) → content_at cells c ≡ Some x → AreWithin live x
  pub few : length cells < 2 ^ 64

-- The text of saved values, restored beside other cells: each variable gets a value, and values and cells are as they were saved.
pub record ReadsBack (live : ObjId → Bool) (cells base : Store) (ps : List (List ℕ × Value)) (bytes : List ℕ) : Type 0 where
  pub given : List (Option Value)
  pub new : Store
  pub matching : Matching
  pub is : outcome (map (λ p. p.0) ps) bytes base ≡ Given given new
  pub restored : IsRestored live cells base new matching (map (λ p. p.1) ps) given

-- What restoring that text answers: each variable gets its value, or memory ran out, and then nothing has changed. No line is faulty.
abbrev pub ComesAgain : (ObjId → Bool) → Store → Store → Store → List Value → Result (Vec (Option Value) Global) RestoreFault → Type 0
ComesAgain live cells base new vs (Ok x) = (m : Matching) × IsRestored live cells base new m vs x.items
ComesAgain live cells base new vs (Err NoMemory) = new ≡ base
ComesAgain live cells base new vs (Err (Line n k)) = ⊥
