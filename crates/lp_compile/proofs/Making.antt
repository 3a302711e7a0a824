-- The steps of compiling a file, put together.
use Rattle.std.proofs.Common.{◌≡◌, ℕ, ◌+◌, ◌-◌, ◌<◌, List, [], ◌∷◌, ◌++◌, length, map, Some, sym, ap, ◌∙◌, subst, inl, inr, arith, length-append}
use Rattle.std.specs.Prelude.{slice_get}
use Rattle.lp_files.specs.declared.store.Store.{Store}
use Rattle.lp_tree.specs.declared.fault.Fault.{Fault}
use Rattle.lp_tree.specs.Units.{ItemTree}
use Rattle.lp_values.specs.declared.id.ProgId.{ProgId}
use Rattle.lp_code.specs.declared.program.RawProgram.{RawProgram}
use Rattle.lp_code.specs.declared.tables.Tables.{Tables}
use Rattle.lp_code.specs.Programs.{code_of, table_of}
use Rattle.lp_layout.specs.Layout.{AreInside, IsSpelled, inherits, laid_tables}
use Rattle.lp_front.specs.declared.read.Declared.{Declared}
use Rattle.lp_front.specs.Names.{parents_in}
use Rattle.lp_front.specs.Reading.{HasFault, IsOf, items_of}
use Rattle.lp_front.specs.Settling.{IsSettled, own_version}
use Rattle.lp_language.specs.Resolve.{own_variables}
use Rattle.lp_isa.specs.Programs.{own_functions}
use Rattle.lp_codegen_expr.specs.Names.{Lays, Plan}
use Rattle.lp_codegen_layout.specs.Laid.{plan_of}
use Rattle.lp_codegen_expr.proofs.Compose.{slice_get-seam}
use Rattle.lp_codegen_unit.specs.declared.finish.UnitCode.{UnitCode}
use Rattle.lp_codegen_unit.specs.Rows.{initialisers, of_functions}
use Rattle.lp_codegen_unit.specs.Stands.{AreRowsNamed, IsUnitCode, at}
use Rattle.lp_compile.specs.declared.fault.CompileFault.{CompileFault}
use Rattle.lp_compile.specs.declared.fault.CompileFault.TheVariants.{Need, Faults, TooLarge, NoMemory}
use Rattle.lp_compile.specs.Compiles.{Compiles, IsRefused}
use Rattle.lp_sound_laws.specs.Heights.{gains}
use Rattle.lp_compile.specs.Known.{AreGiven, AreNotGiven, Known}
use Rattle.lp_compile.specs.Outcomes.{IsAlone, IsMade, IsMadeOf, IsMadeOver, IsRefusedOf, IsRefusedOver}
use Rattle.lp_compile.specs.Settled.{IsOfTokens}
use Rattle.lp_compile.specs.Translated.{IsGenerated}
use Rattle.lp_unit_laws.specs.Units.{rows_of}
use Rattle.lp_unit_laws.specs.Versions.{AreOfVersions, IsOfVersion, variables_in}
use Rattle.lp_compile.proofs.Settling.{of_version, settled}
use Rattle.lp_compile.proofs.Standing.{stands}
use Rattle.lp_compile.proofs.Translating.{translated}

-- a program that has the code of a unit
pub generated : (items : List ItemTree) (t : Tables) (ts : List Tables) (simuls : List (List ℕ)) (l : Plan) (first : ℕ) (u : UnitCode) (p : RawProgram) → l ≡ plan_of t ts simuls → first ≡ variables_in ts → IsUnitCode l (own_functions items) (own_variables items) first u → AreRowsNamed u → p.instrs ≡ u.instrs.items → p.consts ≡ u.texts.items → p.switches ≡ u.switches.items → p.funs ≡ u.funs.items → p.tables ≡ t → p.max_height ≡ gains p.instrs → IsGenerated items t ts simuls p
generated items t ts simuls l first u p el ef code named ei et es er eb eh = record {
  tables = eb;
  height = eh;
  named = λ k lt.
      let n = named k (subst (λ rows. k < length rows) es lt) in
      (n.0, ap (λ is. slice_get is n.0) ei ∙ n.1);
  code = λ h lays.
      let here = code_of p (rows_of ts) in
      let made = code h here (subst (λ x. Lays x h here) (sym el) lays) (record { instrs = ei; texts = et; switches = ap (map table_of) es }) in
      subst (λ k. of_functions (own_functions items) (initialisers (own_variables items) k) p.funs (at h here) 0 (length p.instrs)) ef
      (subst (λ rs. of_functions (own_functions items) (initialisers (own_variables items) first) rs (at h here) 0 (length p.instrs)) (sym er)
      (subst (λ is. of_functions (own_functions items) (initialisers (own_variables items) first) u.funs.items (at h here) 0 (length is)) (sym ei) made));
}

-- what was made of a unit with the tables of its version
pub made_over : (path : List ℕ) (d : Declared) (own : ProgId) (ts : List Tables) (simuls : List (List ℕ)) (t : Tables) (p : RawProgram) → IsSpelled (items_of d) → IsOfTokens (items_of d) → length ts ≡ inherits (items_of d) → AreOfVersions ts → IsSettled path d ts own simuls t → AreInside (t ∷ []) → IsMade (items_of d) t ts simuls p → IsMadeOver path d own ts simuls p
made_over path d own ts simuls t p spelled tokens each of s inside m = record {
  faultless = s.0;
  tables = m.generated.tables ∙ s.1;
  inside = subst (λ x. AreInside (x ∷ [])) (sym m.generated.tables) inside;
  of = subst IsOfVersion (sym m.generated.tables) (of_version (items_of d) t ts simuls (settled path d own ts simuls t tokens each of s));
  translates = translated (items_of d) t ts simuls p spelled m.generated;
  sound = m.sound;
}

-- faults of a unit whose parents are loaded
pub refused_over : (path : List ℕ) (d : Declared) (known : Known) (ts : List Tables) (simuls : List (List ℕ)) (f : CompileFault) → AreGiven known (parents_in (items_of d)) ts → IsRefusedOver path d ts simuls f → IsRefusedOf path d known simuls f
refused_over path d known ts simuls (Need file) g h = absurd h
refused_over path d known ts simuls (Faults fs) g h = record { parents = ts; given = g; faults = h.0; some = h.1 }
refused_over path d known ts simuls TooLarge g h = record { parents = ts; given = g; faultless = h }
refused_over path d known ts simuls NoMemory g h = h

-- and of one of whose parents one is not loaded
pub not_given : (path : List ℕ) (d : Declared) (known : Known) (simuls : List (List ℕ)) (f : CompileFault) → AreNotGiven known (parents_in (items_of d)) f → IsRefusedOf path d known simuls f
not_given path d known simuls (Need file) h = h
not_given path d known simuls (Faults fs) h = absurd h
not_given path d known simuls TooLarge h = absurd h
not_given path d known simuls NoMemory h = h

-- a version stands behind the parts that it inherits
last_part : (vs : List ProgId) (v : ProgId) → slice_get (vs ++ v ∷ []) (length (vs ++ v ∷ []) - 1) ≡ Some v
last_part vs v =
    let n : length (vs ++ v ∷ []) ≡ length vs + 1 = length-append vs (v ∷ []) in
    let e : length (vs ++ v ∷ []) - 1 ≡ length vs = omega (arith, n) in
    ap (slice_get (vs ++ v ∷ [])) e ∙ slice_get-seam vs [] v

-- a file that declares a unit
pub compiles : (files : Store) (path : List ℕ) (d : Declared) (own : ProgId) (known : Known) (simuls : List (List ℕ)) (p : RawProgram) → IsOf files path d → IsMadeOf path d own known simuls p → Compiles files path own known simuls p
compiles files path d own known simuls p r m = record {
  items = items_of d;
  pragmas = d.pragmas;
  parents = m.parents;
  declares = r;
  given = m.given;
  faultless = m.made.faultless;
  tables = m.made.tables;
  version = ap own_version m.made.tables ∙ last_part (laid_tables (items_of d) m.parents).parts own;
  inside = m.made.inside;
  of = m.made.of;
  translates = m.made.translates;
  stands = stands (items_of d) m.parents simuls p m.made.translates;
  sound = m.made.sound;
}

pub refuses : (files : Store) (path : List ℕ) (d : Declared) (known : Known) (simuls : List (List ℕ)) (f : CompileFault) → IsOf files path d → IsRefusedOf path d known simuls f → IsRefused files path known simuls f
refuses files path d known simuls (Need file) r h = record { items = items_of d; pragmas = d.pragmas; declares = r; missing = h }
refuses files path d known simuls (Faults fs) r h = inr (record { items = items_of d; pragmas = d.pragmas; parents = h.parents; declares = r; given = h.given; faults = h.faults; some = h.some })
refuses files path d known simuls TooLarge r h = record { items = items_of d; pragmas = d.pragmas; parents = h.parents; declares = r; given = h.given; faultless = h.faultless }
refuses files path d known simuls NoMemory r h = h

-- one that declares none
pub unread : (files : Store) (path : List ℕ) (fault : Fault) (known : Known) (simuls : List (List ℕ)) (f : CompileFault) → HasFault files path fault → IsAlone fault f → IsRefused files path known simuls f
unread files path fault known simuls (Need file) h a = absurd a
unread files path fault known simuls (Faults fs) h a = inl (record { first = fault; fault = h; alone = a })
unread files path fault known simuls TooLarge h a = absurd a
unread files path fault known simuls NoMemory h a = a
