-- The loads that ended, as the program keeps them.
use Rattle.std.specs.Prelude.{◌≡◌, ℕ, List, [], ◌∷◌, length, Option, Some, None, ⊤}
use Rattle.std.specs.Option.{option_map}
use Rattle.std.specs.BTreeMap.{get_by_text}
use Rattle.lp_code.specs.declared.tables.Tables.{Tables}
use Rattle.lp_layout.specs.Layout.{AreInside}
use Rattle.lp_loads.specs.declared.known.Ended.{Ended}
use Rattle.lp_loads.specs.declared.known.Found.{Found as FoundHere}
use Rattle.lp_loads.specs.declared.known.Found.TheVariants as here
use Rattle.lp_loads.specs.declared.known.Known.{Known}
use Rattle.lp_loads.specs.Loads.{Load, Loaded, load_of, Found, Stands, Wrong, Lacks, found_version}

abbrev pub found_of : FoundHere → Found
found_of (here.Stands t) = Stands t
found_of (here.Wrong kind) = Wrong kind
found_of here.Lacks = Lacks

abbrev pub load_as : List ℕ → Ended → Load
load_as file e = record { file = file; version = e.version; faults = e.faults.items }

-- tables for whose rows there are parts
abbrev pub HasVersionInside : Option Tables → Type 0
HasVersionInside None = ⊤
HasVersionInside (Some t) = AreInside (t ∷ [])

abbrev pub IsInside : Option Load → Type 0
IsInside None = ⊤
IsInside (Some l) = HasVersionInside l.version

-- these loads are kept
pub record IsKnown (ls : Loaded) (k : Known) : Type 0 where
  pub same : (file : List ℕ) → option_map (load_as file) (get_by_text k.files file) ≡ load_of ls file
  pub inside : (file : List ℕ) → IsInside (load_of ls file)
  pub count : k.count ≡ length ls

-- what is found of a load, if it ended
abbrev pub FoundIn : Option Load → Option FoundHere → Type 0
FoundIn None o = o ≡ None
FoundIn (Some l) None = ⊥
FoundIn (Some l) (Some f) = found_of f ≡ found_version l.version

-- some loads are kept
abbrev pub SomeKnown : Known → Type 0
SomeKnown k = (ls : Loaded) × IsKnown ls k

-- Loads are kept now of which this holds.
pub record Grown (P : Loaded → Type 0) (k : Known) : Type 0 where
  pub after : Loaded
  pub is : IsKnown after k
  pub holds : P after

abbrev pub HasFoundInside : FoundHere → Type 0
HasFoundInside (here.Stands t) = AreInside (t ∷ [])
HasFoundInside _ = ⊤

abbrev pub HasOptionInside : Option FoundHere → Type 0
HasOptionInside None = ⊤
HasOptionInside (Some f) = HasFoundInside f
