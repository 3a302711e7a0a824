-- What compiling a file gives a load, by what the front end tells.
use Rattle.std.proofs.Common.{◌≡◌, ◌∙◌, ◌⊎◌, inl, inr, ℕ, true, All, List, [], ◌∷◌, Option, Some, None, Result, Ok, Err, IfOk, OnOk, refl, ap, sym, subst, map, cond, unwrap_or, string_bytes}
use Rattle.std.specs.Str.{is_utf8}
use Rattle.std.specs.Prelude.{MatchOption, is_some, not}
use Rattle.std.proofs.lemmas.List.Elements.{All-nil, All-cons}
use Rattle.std.proofs.lemmas.Str.{IsUtf8-string_bytes, is_utf8-from_IsUtf8}
use Rattle.lp_files.specs.declared.store.Store.{Store}
use Rattle.lp_tree.specs.declared.fault.Fault.{Fault}
use Rattle.lp_tree.specs.declared.pragma.Pragmas.{Pragmas}
use Rattle.lp_tree.specs.Units.{ItemTree}
use Rattle.lp_values.specs.declared.id.ProgId.{ProgId}
use Rattle.lp_code.specs.declared.program.RawProgram.{RawProgram}
use Rattle.lp_code.specs.declared.tables.Tables.{Tables}
use Rattle.lp_swapfile.specs.Device.{Bytes}
use Rattle.lp_front.specs.declared.parents.Parent.{Parent as Inherited}
use Rattle.lp_front.specs.Names as files
use Rattle.lp_front.specs.Reading as stored
use Rattle.lp_front.specs.Settling.{versions_of, with_version}
use Rattle.lp_language.specs.World.{World}
use Rattle.lp_meaning.specs.FileLoads.{Made, Parent, first_missing, known_version, parents_in, version_known}
use Rattle.lp_meaning.specs.FrontEnd.{Declares, FrontEnd, HasFault, Reading}
use Rattle.lp_meaning.specs.WorldSteps.{file_of_name}
use Rattle.lp_front_end.specs.FrontEnds.{IsFrontEnd}
use Rattle.lp_front_end.specs.Parents.{FilesAreOfNames, KnowsParents, by_file, file_bytes, tables_known}
use Rattle.lp_front_end.specs.Stores.{HasFiles, ReadsStore, StoresAreRead}
use Rattle.lp_compile.specs.Known.{AreGiven, IsFirstMissing, IsMissing as IsMissingThere, Known}
use Rattle.lp_compile.specs.Compiles.{Compiles, IsRefused, IsUnread, Needs}
use Rattle.lp_compile.specs.declared.fault.CompileFault.{CompileFault}
use Rattle.lp_compile.specs.declared.fault.CompileFault.TheVariants as refusals
use Rattle.lp_compile_laws.specs.Told.{CompiledIsSound, IsFaultyFile, IsFaultyUnit, IsMissing, RefusedIsTold, StandsOn}
use Rattle.lp_fits.specs.Fits.{HaveTables}
use Rattle.lp_world.specs.declared.live.Live.{Live}
use Rattle.lp_targets.specs.Callees.{IsWorldOf}
use Rattle.lp_loading.specs.declared.compiling.Compiled.{Compiled}
use Rattle.lp_loading.specs.declared.compiling.Compiled.TheVariants as compiled
use Rattle.lp_loading.specs.Compiling.{CompilesTo, IsCompiledTo, IsProgramFor, IsRefusedTo, IsUnknown}
use Rattle.lp_loading.specs.declared.job.LoadFault.{LoadFault}
use Rattle.lp_loading.specs.Present.{HasWorld, KeepsWorlds, known_of, version_of_file}
use Rattle.lp_loading.proofs.Worlds.{what_is_known, what_is_not}

-- The first file that is missing is not known.
missing_by : (k : Known) (p : Inherited) (ps : List Inherited) (file : List ℕ) (o : Option Tables) → k p.file ≡ o → (IsFirstMissing k ps file → k file ≡ None) → IsMissingThere o p.file file (IsFirstMissing k ps file) → k file ≡ None
missing_by k p ps file None e ih h = ap k h ∙ e
missing_by k p ps file (Some t) e ih h = ih h

missing_not_known : (k : Known) (ps : List Inherited) (file : List ℕ) → IsFirstMissing k ps file → k file ≡ None
missing_not_known k [] file h = absurd h
missing_not_known k (p ∷ ps) file h = missing_by k p ps file (k p.file) refl (missing_not_known k ps file) h

pub is_unknown : (store : Store) (path : List ℕ) (made : List Made) (live : Live) (simuls : List (List ℕ)) (f : CompileFault) → IsRefused store path (known_of made live) simuls f → IsUnknown f made live
is_unknown store path made live simuls (refusals.Need file) h = missing_not_known (known_of made live) (files.parents_in h.items) (string_bytes file) h.missing
is_unknown store path made live simuls (refusals.Faults fs) h = tt
is_unknown store path made live simuls refusals.TooLarge h = tt
is_unknown store path made live simuls refusals.NoMemory h = tt

module _ (sound : CompiledIsSound) (told_refusals : RefusedIsTold) (reads : StoresAreRead) (names : FilesAreOfNames) (told : Option Bytes) (programs : List RawProgram) (live : Live) (w : World) (made : List Made) (h : IsWorldOf told programs live w) (name : List ℕ) (simuls : List (List ℕ)) where
  abbrev mem : Known
  mem = known_of made live

  abbrev path : List ℕ
  path = file_of_name name

  abbrev IsLike : Parent → Type 0
  IsLike p = mem (file_bytes p.name) ≡ tables_known w made p.name

  -- Parents whose tables are at hand

  each_known : (ps : List Parent) (ts : List Tables) → AreGiven mem (map by_file ps) ts → All IsLike ps
  each_known [] ts g = All-nil IsLike
  each_known (p ∷ ps) [] g = absurd g
  each_known (p ∷ ps) (t ∷ ts) g = All-cons IsLike p ps (g.0 ∙ sym (what_is_known told programs live w made p.name t h g.0).there) (each_known ps ts g.1)

  abbrev first_of : Option ProgId → ProgId
  first_of o = unwrap_or o (record { 0 = 0 })

  each_version : (ps : List Parent) (ts : List Tables) → AreGiven mem (map by_file ps) ts → versions_of ts ≡ map (version_known w made) ps
  each_version [] [] g = refl
  each_version [] (t ∷ ts) g = absurd g
  each_version (p ∷ ps) [] g = absurd g
  each_version (p ∷ ps) (t ∷ ts) g =
      let k = what_is_known told programs live w made p.name t h g.0 in
      ap (λ o. with_version o (versions_of ts)) k.own ∙ ap (λ vs. k.version ∷ vs) (each_version ps ts g.1) ∙ ap (λ o. first_of o ∷ map (version_known w made) ps) (sym k.known)

  each_table : (ps : List Parent) (ts : List Tables) → AreGiven mem (map by_file ps) ts → HaveTables programs (versions_of ts) ts
  each_table [] [] g = tt
  each_table [] (t ∷ ts) g = absurd g
  each_table (p ∷ ps) [] g = absurd g
  each_table (p ∷ ps) (t ∷ ts) g =
      let k = what_is_known told programs live w made p.name t h g.0 in
      subst (λ o. HaveTables programs (with_version o (versions_of ts)) (t ∷ ts)) (sym k.own) (k.tables, each_table ps ts g.1)

  by_names : (items : List ItemTree) (ts : List Tables) → AreGiven mem (files.parents_in items) ts → AreGiven mem (map by_file (parents_in items)) ts
  by_names items ts g = subst (λ ps. AreGiven mem ps ts) (names items) g

  has_files : HasFiles live.store w.files
  has_files = h.stands.rest.files

  -- With a front end

  module _ (front : FrontEnd) (real : IsFrontEnd front) where
    there : ReadsStore front live.store w.files path
    there = reads front live.store w.files path real has_files

    stands_on : (items : List ItemTree) (pragmas : Pragmas) (ts : List Tables) → stored.Declares live.store (file_bytes name) items pragmas → AreGiven mem (files.parents_in items) ts → StandsOn front w made live.store path mem
    stands_on items pragmas ts d g = record {
      real = real;
      files = has_files;
      parents = λ is ps e.
          let same : items ≡ is = ap items_of (sym (there.declared items pragmas d) ∙ e) in
          subst (KnowsParents mem w made) same (each_known (parents_in items) ts (by_names items ts g));
    }
      where
        items_of : Reading → List ItemTree
        items_of (Declares items pragmas) = items
        items_of (HasFault f) = []

    program_for : (own : ProgId) (p : RawProgram) → Compiles live.store (file_bytes name) own mem simuls p → IsProgramFor front live.store programs w made name own simuls p
    program_for own p c = record {
      known = mem;
      compiles = c;
      checked = (sound front w made live.store path own mem simuls p (stands_on c.items c.pragmas c.parents c.declares c.given) c).checked;
      parents = ap (λ (t : Tables). t.parents) c.tables ∙ each_version (parents_in c.items) c.parents (by_names c.items c.parents c.given);
      tables = subst (λ vs. HaveTables programs vs c.parents) (sym (ap (λ (t : Tables). t.parents) c.tables)) (each_table (parents_in c.items) c.parents (by_names c.items c.parents c.given));
    }

    unread : (fs : List Fault) → IsUnread live.store (file_bytes name) fs → IsFaultyFile front w path fs
    unread fs u = record { first = u.first; read = there.faulty u.first u.fault; alone = u.alone }

    -- the first parent that is missing
    first_lacks : (ps : List Parent) (file : List ℕ) → is_utf8 file ≡ true → version_of_file made live file ≡ None → IsFirstMissing mem (map by_file ps) file
        → (p : Parent) × (first_missing w made ps ≡ Some p) × (file ≡ file_bytes p.name)
    first_lacks [] file a n m = absurd m
    first_lacks (p ∷ ps) file a n m = by (first_lacks ps file a n) (mem (file_bytes p.name)) refl m
      where
        by : (IsFirstMissing mem (map by_file ps) file → (q : Parent) × (first_missing w made ps ≡ Some q) × (file ≡ file_bytes q.name)) → (o : Option Tables) → mem (file_bytes p.name) ≡ o → IsMissingThere o (file_bytes p.name) file (IsFirstMissing mem (map by_file ps) file) → (q : Parent) × (first_missing w made (p ∷ ps) ≡ Some q) × (file ≡ file_bytes q.name)
        by ih None e k =
            let lacks : known_version w made p.name ≡ None =
            what_is_not told programs live w made p.name h.stands (ap is_utf8 (sym k) ∙ a) (ap (version_of_file made live) (sym k) ∙ n) in
            (p, ap (λ (o : Option ProgId). cond (not (is_some o)) (Some p) (first_missing w made ps)) lacks, k)
        by ih (Some t) e k =
            let q = ih k in
            let has = (what_is_known told programs live w made p.name t h e).known in
            (q.0, ap (λ (o : Option ProgId). cond (not (is_some o)) (Some p) (first_missing w made ps)) has ∙ q.1, q.2)

    missing : (file : List ℕ) → is_utf8 file ≡ true → version_of_file made live file ≡ None → Needs live.store (file_bytes name) mem file → IsMissing front w made path file
    missing file a n r =
        let q = first_lacks (parents_in r.items) file a n (subst (λ ps. IsFirstMissing mem ps file) (names r.items) r.missing) in
        record { items = r.items; pragmas = r.pragmas; read = there.declared r.items r.pragmas r.declares; parent = q.0; missing = q.1; file_is = q.2 }

    refused_to : (own : ProgId) (f : CompileFault) → IsRefused live.store (file_bytes name) mem simuls f → (r : Compiled) → IsRefusedTo r f made live → IsCompiledTo r front live.store programs w made name own simuls
    refused_to own (refusals.Need file) n (compiled.Missing g) t = subst (λ x. IsMissing front w made path x) (sym t.0) (missing (string_bytes file) (is_utf8-from_IsUtf8 (string_bytes file) (IsUtf8-string_bytes file)) t.1 n)
    refused_to own (refusals.Need file) n (compiled.Made p) t = absurd t
    refused_to own (refusals.Need file) n (compiled.Faulty fs) t = absurd t
    refused_to own (refusals.Faults gs) (inl u) (compiled.Faulty fs) t = subst (λ x. IsFaultyFile front w path x.items ⊎ IsFaultyUnit front w made path simuls x.items) (sym t) (inl (unread gs.items u))
    refused_to own (refusals.Faults gs) (inr g) (compiled.Faulty fs) t =
        subst (λ x. IsFaultyFile front w path x.items ⊎ IsFaultyUnit front w made path simuls x.items) (sym t)
        (told_refusals front w made live.store path mem simuls (refusals.Faults gs) (stands_on g.items g.pragmas g.parents g.declares g.given) (inr g))
    refused_to own (refusals.Faults gs) n (compiled.Missing file) t = absurd t
    refused_to own (refusals.Faults gs) n (compiled.Made p) t = absurd t
    refused_to own refusals.TooLarge n (compiled.Made p) t = absurd t
    refused_to own refusals.TooLarge n (compiled.Faulty fs) t = absurd t
    refused_to own refusals.TooLarge n (compiled.Missing file) t = absurd t
    refused_to own refusals.NoMemory n (compiled.Made p) t = absurd t
    refused_to own refusals.NoMemory n (compiled.Faulty fs) t = absurd t
    refused_to own refusals.NoMemory n (compiled.Missing file) t = absurd t

-- Attempts

pub made_found : CompiledIsSound → RefusedIsTold → StoresAreRead → FilesAreOfNames → (told : Option Bytes) (live : Live) (made : List Made) (file name : List ℕ) (own : ProgId) (simuls : List (List ℕ)) (p : RawProgram)
    → Compiles live.store file own (known_of made live) simuls p → file ≡ file_bytes name → CompilesTo (compiled.Made p) made name own simuls told live told live
made_found sound refused reads names told live made file name own simuls p c e programs w h = record {
  world = h;
  front_end = λ front real.
      program_for sound refused reads names told programs live w made h name simuls front real own p (subst (λ x. Compiles live.store x own (known_of made live) simuls p) e c);
}

pub refused_found : CompiledIsSound → RefusedIsTold → StoresAreRead → FilesAreOfNames → (told0 told1 : Option Bytes) (live0 live1 : Live) (made : List Made) (file : List ℕ) (own : ProgId) (simuls : List (List ℕ)) (f : CompileFault) (r : Result (Option Compiled) LoadFault) (Less : Type 0)
    → IsRefused live0.store file (known_of made live0) simuls f → OnOk r (KeepsWorlds told0 live0 told1 live1) → live1.store ≡ live0.store
    → IfOk r (λ o. MatchOption o Less (λ c. IsRefusedTo c f made live0)) → IfOk r (λ o. MatchOption o Less (λ c. (name : List ℕ) → file ≡ file_bytes name → CompilesTo c made name own simuls told0 live0 told1 live1))
refused_found sound refused reads names told0 told1 live0 live1 made file own simuls f (Ok None) Less i k s t = t
refused_found sound refused reads names told0 told1 live0 live1 made file own simuls f (Ok (Some c)) Less i k s t = λ name e programs w h. record {
  world = k programs w h;
  front_end = λ front real.
      subst (λ st. IsCompiledTo c front st programs w made name own simuls) (sym s)
      (refused_to sound refused reads names told0 programs live0 w made h name simuls front real own f (subst (λ x. IsRefused live0.store x (known_of made live0) simuls f) e i) c t);
}
refused_found sound refused reads names told0 told1 live0 live1 made file own simuls f (Err e) Less i k s t = tt

-- Worlds that stay

pub world_stays : (told0 told1 : Option Bytes) (live0 live1 : Live) → KeepsWorlds told0 live0 told1 live1 → HasWorld told0 live0 → HasWorld told1 live1
world_stays told0 told1 live0 live1 k h = record { programs = h.programs; world = h.world; is = k h.programs h.world h.is }

pub compiles_after : (r : Compiled) (made : List Made) (name : List ℕ) (own : ProgId) (simuls : List (List ℕ)) (told0 told1 told2 : Option Bytes) (live0 live1 live2 : Live)
    → KeepsWorlds told0 live0 told1 live1 → CompilesTo r made name own simuls told1 live1 told2 live2 → CompilesTo r made name own simuls told0 live0 told2 live2
compiles_after r made name own simuls told0 told1 told2 live0 live1 live2 k t programs w h = t programs w (k programs w h)
