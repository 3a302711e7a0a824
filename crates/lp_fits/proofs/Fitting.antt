-- The program of a file that was compiled fits the version that it becomes.
use Rattle.std.proofs.Common.{◌≡◌, ◌∙◌, ◌⊎◌, ◌<◌, ◌≤◌, ◌-◌, ◌++◌, ℕ, zero, suc, All, Bool, true, false, List, [], ◌∷◌, Option, Some, None, refl, ap, sym, subst, inl, inr, map, take, drop, slice_get, unwrap_or, length, length-append, codes, if◌then◌else◌, arith}
use Rattle.std.proofs.lemmas.List.Elements.{All-cons, All-nil}
use Rattle.std.proofs.lemmas.Slice.Eq.{bytes_eq-Decides}
use Rattle.lp_files.specs.declared.store.Store.{Store}
use Rattle.lp_tree.specs.declared.pragma.Pragmas.{Pragmas}
use Rattle.lp_tree.specs.Units.{Fun, Inherit, ItemTree, Proto, Var}
use Rattle.lp_values.specs.declared.id.ProgId.{ProgId}
use Rattle.lp_code.specs.declared.program.RawProgram.{RawProgram}
use Rattle.lp_code.specs.declared.tables.Tables.{Tables}
use Rattle.lp_code.specs.Programs.{FindsRows}
use Rattle.lp_instr.specs.EfunList.{is_name}
use Rattle.lp_types_expr.specs.declared.fault.FaultAt.{FaultAt}
use Rattle.lp_types.specs.TypeFaults.{type_faults}
use Rattle.lp_layout.specs.Layout.{IsSpelled, inherits}
use Rattle.lp_layout.specs.LayoutFaults.{layout_fault}
use Rattle.lp_language.specs.World.{IsSameVersion, Version, World, no_version, object_at, with_object}
use Rattle.lp_meaning.specs.WorldSteps.{entered, version_entered}
use Rattle.lp_language.specs.Resolve.{Heir, Heritage, Heritages, each_heritage, without_c}
use Rattle.lp_isa.specs.Programs.{StandsForVersion}
use Rattle.lp_inherit.specs.Heirs.{AreNumbered, AreUnambiguous, laid, table, tables}
use Rattle.lp_plan_laws.specs.Tables.{AreNamedOnce}
use Rattle.lp_front.specs.declared.parents.Parent.{Parent}
use Rattle.lp_front.specs.Names.{parents_in}
use Rattle.lp_front.specs.Reading.{Declares}
use Rattle.lp_front.specs.Settling.{faults_of, in_file, path_of, tables_of, types_or_layout, versions_of}
use Rattle.lp_compile.specs.Known.{AreGiven, Known}
use Rattle.lp_faultless.specs.Trees.{IsFine}
use Rattle.lp_faultless.proofs.Faultless.{faultless_is_fine}
use Rattle.lp_part_laws.specs.Versions.{AreCompiled, AreSameVersions, AreSpelledTrees, FitsVersion, IsTreeFor, heritage_in, program_of, rows_of}
use Rattle.std.specs.Prelude.{slice_set}
use Rattle.std.proofs.Math.ListN.{length-set}
use Rattle.lp_part_laws.proofs.Latest.{stay_compiled}
use Rattle.lp_fits.specs.Fits.{EntryStillFits, HaveTables, IsVersionOf, NewVersionFits}
use Rattle.lp_fits.proofs.Trees.{inside, kept, tree_of_new}

-- what the front end tells of each file that declares something
abbrev FilesAreSpelled : Type 0
FilesAreSpelled = (files : Store) (path : List ℕ) (is : List ItemTree) (p : Pragmas) → Declares files path is p → IsSpelled is

-- The path of a version

other_way : (a b : List ℕ) → is_name a b ≡ is_name b a
other_way a b = by (is_name a b) (is_name b a) refl refl
  where
    by : (x y : Bool) → is_name a b ≡ x → is_name b a ≡ y → x ≡ y
    by true true e f = refl
    by false false e f = refl
    by true false e f = sym ((bytes_eq-Decides b a).1 (sym ((bytes_eq-Decides a b).0 e))) ∙ f
    by false true e f = sym e ∙ (bytes_eq-Decides a b).1 (sym ((bytes_eq-Decides b a).0 f))

same_path : (path : List ℕ) → without_c path ≡ path_of path
same_path path = ap (λ b. if b then take (length path - 2) path else path) (other_way (drop (length path - 2) path) (codes ".c"))

-- Faults

no_faults : (file : List ℕ) (fs : List FaultAt) → map (in_file file) fs ≡ [] → fs ≡ []
no_faults file [] e = refl
no_faults file (f ∷ fs) e = absurd cc

no_types : (types : List FaultAt) (layout : Option FaultAt) → types_or_layout types layout ≡ [] → types ≡ []
no_types [] layout e = refl
no_types (f ∷ fs) layout e = absurd cc

no_layout : (types : List FaultAt) (layout : Option FaultAt) → types_or_layout types layout ≡ [] → layout ≡ None
no_layout [] None e = refl
no_layout [] (Some f) e = absurd cc
no_layout (f ∷ fs) layout e = absurd cc

-- Parents

as_many : (k : Known) (ps : List Parent) (ts : List Tables) → AreGiven k ps ts → length ts ≡ length ps
as_many k [] [] g = refl
as_many k [] (t ∷ ts) g = absurd g
as_many k (p ∷ ps) [] g = absurd g
as_many k (p ∷ ps) (t ∷ ts) g = ap suc (as_many k ps ts g.1)

parents_counted : (is : List ItemTree) → length (parents_in is) ≡ inherits is
parents_counted [] = refl
parents_counted (Inherit line name ∷ is) = ap suc (parents_counted is)
parents_counted (Proto line ms ty w ps ∷ is) = parents_counted is
parents_counted (Fun line ms ty w ps b ∷ is) = parents_counted is
parents_counted (Var line ms b ds ∷ is) = parents_counted is

module _ (programs : List RawProgram) (versions : List Version) (c : AreCompiled programs versions) where
  abbrev tree : ProgId → Heritage
  tree n = heritage_in versions n

  parents_lower : (ns : List ProgId) (ts : List Tables) → HaveTables programs ns ts → All (λ (u : ProgId). u.0 < length versions) ns
  parents_lower [] ts h = All-nil (λ (u : ProgId). u.0 < length versions)
  parents_lower (n ∷ ns) [] h = absurd h
  parents_lower (n ∷ ns) (t ∷ ts) h =
      let i : n.0 < length programs = inside programs n.0 h.0.program h.0.is in
      let w : length programs ≡ length versions = c.whole in
      All-cons (λ (u : ProgId). u.0 < length versions) n ns (omega (arith, i, w)) (parents_lower ns ts h.1)

  parents_tables : (ns : List ProgId) (ts : List Tables) → HaveTables programs ns ts → tables (each_heritage tree ns) ≡ ts
  parents_tables [] [] h = refl
  parents_tables [] (t ∷ ts) h = absurd h
  parents_tables (n ∷ ns) [] h = absurd h
  parents_tables (n ∷ ns) (t ∷ ts) h =
      ap (λ l. table (tree n) ∷ l) (parents_tables ns ts h.1) ∙ ap (λ x. x ∷ ts) ((c.fit n.0 h.0.program h.0.is).own.own ∙ h.0.tables)

  parents_numbered : (ns : List ProgId) (ts : List Tables) → HaveTables programs ns ts → AreNumbered (each_heritage tree ns)
  parents_numbered [] ts h = tt
  parents_numbered (n ∷ ns) [] h = absurd h
  parents_numbered (n ∷ ns) (t ∷ ts) h = ((c.fit n.0 h.0.program h.0.is).own.numbered, parents_numbered ns ts h.1)

  parents_unambiguous : (ns : List ProgId) (ts : List Tables) → HaveTables programs ns ts → AreUnambiguous (each_heritage tree ns)
  parents_unambiguous [] ts h = tt
  parents_unambiguous (n ∷ ns) [] h = absurd h
  parents_unambiguous (n ∷ ns) (t ∷ ts) h = ((c.fit n.0 h.0.program h.0.is).own.unambiguous, parents_unambiguous ns ts h.1)

  parents_once : (ns : List ProgId) (ts : List Tables) → HaveTables programs ns ts → AreNamedOnce (each_heritage tree ns)
  parents_once [] ts h = tt
  parents_once (n ∷ ns) [] h = absurd h
  parents_once (n ∷ ns) (t ∷ ts) h = ((c.fit n.0 h.0.program h.0.is).own.once, parents_once ns ts h.1)

  parents_spelled : (ns : List ProgId) (ts : List Tables) → HaveTables programs ns ts → AreSpelledTrees (each_heritage tree ns)
  parents_spelled [] ts h = tt
  parents_spelled (n ∷ ns) [] h = absurd h
  parents_spelled (n ∷ ns) (t ∷ ts) h = ((c.fit n.0 h.0.program h.0.is).spelled, parents_spelled ns ts h.1)

  -- the new version

  module _ (spells : FilesAreSpelled) (files : Store) (path : List ℕ) (own : ProgId) (known : Known) (simuls : List (List ℕ)) (p : RawProgram) (v : Version) (number : own.0 ≡ length versions) (is : IsVersionOf files path own known simuls programs p v) where
    abbrev ts : List Tables
    ts = is.compiled.parents

    abbrev over : Heritages
    over = each_heritage tree v.parents

    abbrev new : Heritage
    new = Heir own v over

    same_tables : tables over ≡ ts
    same_tables = parents_tables v.parents ts is.tables

    faults : faults_of path v.items v.pragmas ts v.simuls ≡ []
    faults =
        ap (λ s. faults_of path v.items v.pragmas ts s) is.simuls_are ∙ ap (λ i. faults_of path i v.pragmas ts simuls) is.items
        ∙ ap (λ g. faults_of path is.compiled.items g ts simuls) is.pragmas ∙ is.compiled.faultless

    none : types_or_layout (type_faults v.items v.pragmas ts v.simuls) (layout_fault v.items ts) ≡ []
    none = no_faults path _ faults

    fine : IsFine new
    fine = faultless_is_fine new ts (record {
      parents = same_tables;
      each = as_many known (parents_in is.compiled.items) ts is.compiled.given ∙ parents_counted is.compiled.items ∙ ap inherits (sym is.items);
      numbered = parents_numbered v.parents ts is.tables;
      unambiguous = parents_unambiguous v.parents ts is.tables;
      once = parents_once v.parents ts is.tables;
      types = no_types (type_faults v.items v.pragmas ts v.simuls) (layout_fault v.items ts) none;
      layout = no_layout (type_faults v.items v.pragmas ts v.simuls) (layout_fault v.items ts) none;
    })

    its_path : without_c v.path ≡ path_of path
    its_path = ap without_c is.path_is ∙ same_path path

    its_parents : v.parents ≡ versions_of ts
    its_parents = is.parents ∙ ap (λ (t : Tables). t.parents) is.compiled.tables

    own_table : table new ≡ p.tables
    own_table =
        ap (laid own v) same_tables
        ∙ ap (λ w. record (laid own v ts) { path = w }) its_path
        ∙ ap (λ ns. record (laid own v ts) { path = path_of path; parents = ns }) its_parents
        ∙ ap (λ i. record (tables_of path i v.pragmas ts own) { pragmas = v.pragmas }) is.items
        ∙ ap (λ g. tables_of path is.compiled.items g ts own) is.pragmas
        ∙ sym is.compiled.tables

    for : IsTreeFor p new new
    for = record { items = refl; simuls = refl; own = own_table; parents = refl; numbered = fine.numbered; unambiguous = fine.unambiguous; once = fine.once }

    stands : (k : Heritage) → IsTreeFor p new k → StandsForVersion k (program_of p (tables over))
    stands k f =
        subst (λ us. StandsForVersion k (program_of p us)) (sym same_tables)
        (is.compiled.stands k (record {
          items = f.items ∙ is.items;
          simuls = f.simuls ∙ is.simuls_are;
          own = f.own;
          parents = f.parents ∙ same_tables;
          numbered = f.numbered;
          unambiguous = f.unambiguous;
          once = f.once;
        }))

    fits : FitsVersion new p
    fits = record {
      sound = is.compiled.sound;
      own = for;
      stands = stands;
      rows = subst (λ us. FindsRows p (rows_of us)) (sym same_tables) is.rows;
      places = is.places;
      parts = subst (λ (t : Tables). length t.parts ≤ 65535) own_table fine.parts;
      variables = let l : length p.tables.vars ≤ 65535 = subst (λ (t : Tables). length t.vars ≤ 65535) own_table fine.variables in omega (arith, l);
      spelled = (subst (λ (i : List ItemTree). IsSpelled i) (sym is.items) (spells files path is.compiled.items is.compiled.pragmas is.compiled.declares), parents_spelled v.parents ts is.tables);
    }

    lower : All (λ (u : ProgId). u.0 < length versions) v.parents
    lower = parents_lower v.parents ts is.tables

    its_tree : heritage_in (versions ++ v ∷ []) own ≡ new
    its_tree = tree_of_new versions c.rising v own number lower

    -- one more in a list
    where_got : {A : Type 0} (xs : List A) (x : A) (n : ℕ) (y : A) → slice_get (xs ++ x ∷ []) n ≡ Some y → (slice_get xs n ≡ Some y) ⊎ ((n ≡ length xs) × (x ≡ y))
    where_got [] x zero y e = inr (refl, ap (λ o. unwrap_or o x) e)
    where_got [] x (suc n) y e = absurd cc
    where_got (z ∷ xs) x zero y e = inl e
    where_got (z ∷ xs) x (suc n) y e = elim (where_got xs x n y e) [ inl was ↦ inl was | inr i ↦ inr (ap suc i.0, i.1) ]

    pub compiled_more : AreCompiled (programs ++ p ∷ []) (versions ++ v ∷ [])
    compiled_more = record {
      whole = let w : length programs ≡ length versions = c.whole in let a = length-append programs (p ∷ []) in let b = length-append versions (v ∷ []) in omega (arith, w, a, b);
      rising = λ n u e. elim (where_got versions v n u e) [
        | inl was ↦ c.rising n u was
        | inr i ↦ subst (λ m. All (λ (x : ProgId). x.0 < m) u.parents) (sym i.0) (subst (λ (y : Version). All (λ (x : ProgId). x.0 < length versions) y.parents) i.1 lower)
      ];
      fit = λ n q e. elim (where_got programs p n q e) [
        | inl was ↦
            let l : n < length programs = inside programs n q was in
            let w : length programs ≡ length versions = c.whole in
            subst (λ h. FitsVersion h q) (sym (kept versions c.rising v (record { 0 = n }) (omega (arith, l, w)))) (c.fit n q was)
        | inr i ↦
            let at : n ≡ own.0 = i.0 ∙ c.whole ∙ sym number in
            subst (λ m. FitsVersion (heritage_in (versions ++ v ∷ []) (record { 0 = m })) q) (sym at)
            (subst (FitsVersion (heritage_in (versions ++ v ∷ []) own)) i.1 (subst (λ h. FitsVersion h p) (sym its_tree) fits))
      ];
    }

pub new_version_fits : FilesAreSpelled → NewVersionFits
new_version_fits spells files path own known simuls programs versions p v c number is = compiled_more programs versions c spells files path own known simuls p v number is

-- Clocks

abbrev grown : List Version → ℕ → ℕ → List Version
grown vs i time = slice_set vs i (record (unwrap_or (slice_get vs i) no_version) { latest = time })

timed : (v : Version) (time : ℕ) → IsSameVersion v (record v { latest = time })
timed v time = record { path = refl; items = refl; parents = refl; pragmas = refl; simuls = refl }

unchanged : (v u : Version) → Some v ≡ Some u → IsSameVersion v u
unchanged v u e = subst (IsSameVersion v) (ap (λ o. unwrap_or o v) e) (record { path = refl; items = refl; parents = refl; pragmas = refl; simuls = refl })

grown_each : (vs : List Version) (i time n : ℕ) (v u : Version) → slice_get vs n ≡ Some v → slice_get (grown vs i time) n ≡ Some u → IsSameVersion v u
grown_each [] i time n v u e f = absurd cc
grown_each (x ∷ vs) zero time zero v u e f =
    let there : x ≡ v = ap (λ o. unwrap_or o x) e in
    let now : record x { latest = time } ≡ u = ap (λ o. unwrap_or o x) f in
    subst (IsSameVersion v) now (subst (λ y. IsSameVersion y (record x { latest = time })) there (timed x time))
grown_each (x ∷ vs) zero time (suc n) v u e f = unchanged v u (sym e ∙ f)
grown_each (x ∷ vs) (suc i) time zero v u e f = unchanged v u (sym e ∙ f)
grown_each (x ∷ vs) (suc i) time (suc n) v u e f = grown_each vs i time n v u e f

same_grown : (vs : List Version) (i time : ℕ) → AreSameVersions vs (grown vs i time)
same_grown vs i time = record { count = length-set vs i (record (unwrap_or (slice_get vs i) no_version) { latest = time }); each = grown_each vs i time }

pub entry_still_fits : EntryStillFits
entry_still_fits programs w o p c =
    let u : World = version_entered (with_object w o (record (object_at w o) { latest = w.clock })) (object_at w o).version in
    stay_compiled programs u.versions (entered w o p).versions (stay_compiled programs w.versions u.versions c (same_grown w.versions (object_at w o).version.0 w.clock)) (same_grown u.versions p.0 w.clock)
