-- The layout of a version, from its tables, those of its parents, and the names of the simul efuns.
use Rattle.std.specs.Prelude.{◌≡◌, ℕ, suc, List, [], ◌∷◌, ◌++◌, map, length, Bool, true, false, ◌&&◌, ◌||◌, not, nat_eq, Option, Some, None, if◌then◌else◌}
use Rattle.lp_code.specs.declared.tables.Slot.{Slot}
use Rattle.lp_code.specs.declared.tables.VarRow.{VarRow}
use Rattle.lp_code.specs.declared.tables.Tables.{Tables}
use Rattle.lp_types_expr.specs.Signatures.{is_private_number, is_shown, is_wanted}
use Rattle.lp_instr.specs.EfunList.{is_name}
use Rattle.lp_language.specs.Resolve.{or_else}
use Rattle.lp_types_expr.specs.Known.{has_path}
use Rattle.lp_codegen_expr.specs.Names.{Plan, global_in, parent_with_in, parent_called_in}
use Rattle.lp_codegen_layout.specs.declared.entry.Entry.{Entry}

-- a name and a number
abbrev pub entry : List ℕ → ℕ → Entry
entry w k = record { name = w; number = k }

abbrev pub names_in : List Entry → List (List ℕ)
names_in es = map (λ e. e.name) es

abbrev pub numbers_in : List Entry → List ℕ
numbers_in es = map (λ e. e.number) es

abbrev pub row_names : List Slot → List (List ℕ)
row_names ss = map (λ s. s.name) ss

-- A version with so many parts sees the variables of its last part, which is its own, and those of its parents that are
-- not private.
abbrev pub is_seen : ℕ → VarRow → Bool
is_seen parts r = nat_eq (suc r.part) parts || not (is_private_number r.mods)

-- the variables that are seen, with their places
abbrev pub seen : ℕ → ℕ → List VarRow → List Entry
seen parts n [] = []
seen parts n (r ∷ rs) = if is_seen parts r then entry r.name n ∷ seen parts (suc n) rs else seen parts (suc n) rs

-- what a child sees of a parent's rows, with the parent's number: those with functions, or all
abbrev pub shown_rows : Bool → ℕ → List Slot → List Entry
shown_rows bodies k [] = []
shown_rows bodies k (s ∷ ss) = if is_shown s && is_wanted bodies s then entry s.name k ∷ shown_rows bodies k ss else shown_rows bodies k ss

abbrev pub shown : Bool → ℕ → List Tables → List Entry
shown bodies k [] = []
shown bodies k (t ∷ ts) = shown_rows bodies k t.slots ++ shown bodies (suc k) ts

-- the ends of a path behind its slashes, with a number
abbrev pub ends : ℕ → List ℕ → List Entry
ends k [] = []
ends k (c ∷ cs) = if nat_eq c 47 then entry cs k ∷ ends k cs else ends k cs

-- the names by which a call may name each parent: its path, and each end of it behind a slash
abbrev pub path_names : ℕ → List Tables → List Entry
path_names k [] = []
path_names k (t ∷ ts) = entry t.path k ∷ ends k t.path ++ path_names (suc k) ts

-- Of the entries with a name the last counts: of the rows that parents show, first all and then those with functions, the
-- last parent's.
abbrev pub plan_of : Tables → List Tables → List (List ℕ) → Plan
plan_of own parents simuls = record {
  globals = names_in (seen (length own.parts) 0 own.vars);
  places = numbers_in (seen (length own.parts) 0 own.vars);
  rows = row_names own.slots;
  parents = map (λ t. row_names t.slots) parents;
  inherited = names_in (shown false 0 parents ++ shown true 0 parents);
  inherited_from = numbers_in (shown false 0 parents ++ shown true 0 parents);
  parent_names = names_in (path_names 0 parents);
  parent_numbers = numbers_in (path_names 0 parents);
  simuls = simuls;
}

-- the number of the last entry of a name
abbrev pub last_number : List Entry → List ℕ → Option ℕ
last_number [] w = None
last_number (e ∷ es) w = or_else (last_number es w) (if is_name e.name w then Some e.number else None)

-- What a layout made so says of names: what the last entry of a name has.
abbrev pub LastCounts : Type 0
LastCounts =
    (own : Tables) (parents : List Tables) (simuls : List (List ℕ)) (w : List ℕ) → (global_in (plan_of own parents simuls) w ≡ last_number (seen (length own.parts) 0 own.vars) w)
    × (parent_with_in (plan_of own parents simuls) w ≡ or_else (last_number (shown true 0 parents) w) (last_number (shown false 0 parents) w))
    × (parent_called_in (plan_of own parents simuls) w ≡ last_number (path_names 0 parents) w)

-- the last parent that has a path, or a path that ends in `/` and it
abbrev pub last_called : ℕ → List Tables → List ℕ → Option ℕ
last_called k [] p = None
last_called k (t ∷ ts) p = or_else (last_called (suc k) ts p) (if has_path p t then Some k else None)

-- and this is what the names of paths say
abbrev pub PathsAreNames : Type 0
PathsAreNames = (k : ℕ) (ts : List Tables) (p : List ℕ) → last_number (path_names k ts) p ≡ last_called k ts p
