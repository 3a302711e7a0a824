-- What compiling gives is what the front end tells.
use Rattle.std.proofs.Common.{◌≡◌, ◌∙◌, ◌⊎◌, inl, inr, ℕ, List, [], ◌∷◌, Option, Some, None, map, option_map, cond, refl, sym, ap}
use Rattle.std.specs.Prelude.{is_some, not, string_bytes}
use Rattle.std.specs.Str.{encode_utf8_all}
use Rattle.std.proofs.lemmas.Option.{none-some, same_Some}
use Rattle.lp_files.specs.declared.store.Store.{Store}
use Rattle.lp_tree.specs.declared.fault.Fault.{Fault}
use Rattle.lp_tree.specs.declared.pragma.Pragmas.{Pragmas}
use Rattle.lp_tree.specs.Units.{ItemTree}
use Rattle.lp_code.specs.declared.tables.Tables.{Tables}
use Rattle.lp_front.specs.declared.parents.Parent.{Parent as Inherited}
use Rattle.lp_front.specs.Names as files
use Rattle.lp_front.specs.Reading as stored
use Rattle.lp_front.specs.Settling.{faults_of}
use Rattle.lp_language.specs.World.{World}
use Rattle.lp_meaning.specs.FrontEnd.{FrontEnd}
use Rattle.lp_meaning.specs.FileLoads.{Made, Parent, parents_in, version_known, first_missing}
use Rattle.lp_front_end.specs.FrontEnds.{tables_in}
use Rattle.lp_front_end.specs.Stores.{ReadsStore, StoresAreRead}
use Rattle.lp_front_end.specs.Parents.{KnowsParents, MissingAreTheSame, TablesAreTheSame, by_file, first_not_known}
use Rattle.lp_compile.specs.Known.{Known, AreGiven, IsFirstMissing, IsMissing as IsMissingThere}
use Rattle.lp_compile.specs.Compiles as compiling
use Rattle.lp_compile.specs.Compiles.{IsRefused, IsUnread}
use Rattle.lp_compile.specs.declared.fault.CompileFault.{CompileFault}
use Rattle.lp_compile.specs.declared.fault.CompileFault.TheVariants as faults
use Rattle.lp_compile_laws.specs.Told.{CompiledIsSound, IsChecked, IsUnitWithoutFault, IsFaultyFile, IsFaultyUnit, IsMissing, IsToldAs, RefusedIsTold, StandsOn}

-- Tables that are given are all known.
given_known : (k : Known) (ps : List Inherited) (ts : List Tables) → AreGiven k ps ts → map (λ (p : Inherited). k p.file) ps ≡ map Some ts
given_known k [] [] h = refl
given_known k [] (t ∷ ts) h = absurd h
given_known k (p ∷ ps) [] h = absurd h
given_known k (p ∷ ps) (t ∷ ts) h = ap (λ (o : Option Tables). o ∷ map (λ (q : Inherited). k q.file) ps) h.0 ∙ ap (λ (xs : List (Option Tables)). Some t ∷ xs) (given_known k ps ts h.1)

-- and none of them is the first that is not known
pub given_none : (k : Known) (ps : List Inherited) (ts : List Tables) → AreGiven k ps ts → first_not_known k ps ≡ None
given_none k [] [] h = refl
given_none k [] (t ∷ ts) h = absurd h
given_none k (p ∷ ps) [] h = absurd h
given_none k (p ∷ ps) (t ∷ ts) h = ap (λ (o : Option Tables). cond (not (is_some o)) (Some p) (first_not_known k ps)) h.0 ∙ given_none k ps ts h.1

-- The file that is needed is that of the first that is not known.
abbrev pub IsFirst : Known → List Inherited → List ℕ → Type 0
IsFirst k ps file = (p : Inherited) × (first_not_known k ps ≡ Some p) × (file ≡ p.file)

first_by : (k : Known) (p : Inherited) (ps : List Inherited) (file : List ℕ) (o : Option Tables) → k p.file ≡ o → IsMissingThere o p.file file (IsFirstMissing k ps file) → (IsFirstMissing k ps file → IsFirst k ps file) → IsFirst k (p ∷ ps) file
first_by k p ps file None e h ih = (p, ap (λ (o : Option Tables). cond (not (is_some o)) (Some p) (first_not_known k ps)) e, h)
first_by k p ps file (Some t) e h ih = let q = ih h in (q.0, ap (λ (o : Option Tables). cond (not (is_some o)) (Some p) (first_not_known k ps)) e ∙ q.1, q.2)

pub first_needed : (k : Known) (ps : List Inherited) (file : List ℕ) → IsFirstMissing k ps file → IsFirst k ps file
first_needed k [] file h = absurd h
first_needed k (p ∷ ps) file h = first_by k p ps file (k p.file) refl h (λ r. first_needed k ps file r)

-- by what is missing for the load
none_there : (o : Option Parent) → None ≡ option_map by_file o → o ≡ None
none_there None e = refl
none_there (Some p) e = absurd (none-some (by_file p) e)

one_there : (q : Inherited) (o : Option Parent) → Some q ≡ option_map by_file o → (p : Parent) × (o ≡ Some p) × (by_file p ≡ q)
one_there q None e = absurd (none-some q (sym e))
one_there q (Some p) e = (p, refl, sym (same_Some q (by_file p) e))

module _ (reads : StoresAreRead) (missing : MissingAreTheSame) (tables : TablesAreTheSame) (front : FrontEnd) (w : World) (made : List Made) (store : Store) (path : List ℕ) (known : Known) (st : StandsOn front w made store path known) where
  there : ReadsStore front store w.files path
  there = reads front store w.files path st.real st.files

  module _ (items : List ItemTree) (pragmas : Pragmas) (declares : stored.Declares store (encode_utf8_all path) items pragmas) where
    knows : KnowsParents known w made items
    knows = st.parents items pragmas (there.declared items pragmas declares)

    all_known : (ts : List Tables) → AreGiven known (files.parents_in items) ts → ts ≡ tables_in w (map (version_known w made) (parents_in items))
    all_known ts g = tables known w made items ts knows (given_known known (files.parents_in items) ts g)

    checked : (ts : List Tables) (simuls : List (List ℕ)) (fs : List Fault) → AreGiven known (files.parents_in items) ts → faults_of (encode_utf8_all path) items pragmas ts simuls ≡ fs → IsChecked front w made path simuls items pragmas fs
    checked ts simuls fs g e = record {
      read = there.declared items pragmas declares;
      none_missing = none_there (first_missing w made (parents_in items)) (sym (given_none known (files.parents_in items) ts g) ∙ missing known w made items knows);
      checked = st.real.checks w path items pragmas (map (version_known w made) (parents_in items)) simuls ∙ ap (λ (us : List Tables). faults_of (encode_utf8_all path) items pragmas us simuls) (sym (all_known ts g)) ∙ e;
    }

    needed : (file : List ℕ) → IsFirstMissing known (files.parents_in items) file → IsMissing front w made path file
    needed file m =
        let f : IsFirst known (files.parents_in items) file = first_needed known (files.parents_in items) file m in
        let o = one_there f.0 (first_missing w made (parents_in items)) (sym f.1 ∙ missing known w made items knows) in
        record {
          items = items;
          pragmas = pragmas;
          read = there.declared items pragmas declares;
          parent = o.0;
          missing = o.1;
          file_is = f.2 ∙ ap (λ (p : Inherited). p.file) (sym o.2);
        }

  faulty_file : (fs : List Fault) → IsUnread store (encode_utf8_all path) fs → IsFaultyFile front w path fs
  faulty_file fs u = record { first = u.first; read = there.faulty u.first u.fault; alone = u.alone }

  faulty_unit : (simuls : List (List ℕ)) (fs : List Fault) → compiling.IsFaulty store (encode_utf8_all path) known simuls fs → IsFaultyUnit front w made path simuls fs
  faulty_unit simuls fs f = record { items = f.items; pragmas = f.pragmas; checked = checked f.items f.pragmas f.declares f.parents simuls fs f.given (sym f.faults); some = f.some }

  unit_without_fault : (simuls : List (List ℕ)) → compiling.IsWithoutFault store (encode_utf8_all path) known simuls → IsUnitWithoutFault front w made path simuls
  unit_without_fault simuls f = record { items = f.items; pragmas = f.pragmas; checked = checked f.items f.pragmas f.declares f.parents simuls [] f.given f.faultless }

  faulty : (simuls : List (List ℕ)) (fs : List Fault) → IsUnread store (encode_utf8_all path) fs ⊎ compiling.IsFaulty store (encode_utf8_all path) known simuls fs → IsFaultyFile front w path fs ⊎ IsFaultyUnit front w made path simuls fs
  faulty simuls fs (inl u) = inl (faulty_file fs u)
  faulty simuls fs (inr f) = inr (faulty_unit simuls fs f)

  refused : (simuls : List (List ℕ)) (f : CompileFault) → IsRefused store (encode_utf8_all path) known simuls f → IsToldAs front w made path simuls f
  refused simuls (faults.Need file) n = needed n.items n.pragmas n.declares (string_bytes file) n.missing
  refused simuls (faults.Faults fs) h = faulty simuls fs.items h
  refused simuls faults.TooLarge h = unit_without_fault simuls h
  refused simuls faults.NoMemory h = tt

pub compiled_is_sound : StoresAreRead → MissingAreTheSame → TablesAreTheSame → CompiledIsSound
compiled_is_sound reads missing tables front w made store path own known simuls p st c = record {
  checked = checked reads missing tables front w made store path known st c.items c.pragmas c.declares c.parents simuls [] c.given c.faultless;
  tables = all_known reads missing tables front w made store path known st c.items c.pragmas c.declares c.parents c.given;
}

pub refused_is_told : StoresAreRead → MissingAreTheSame → TablesAreTheSame → RefusedIsTold
refused_is_told reads missing tables front w made store path known simuls f st r = refused reads missing tables front w made store path known st simuls f r
