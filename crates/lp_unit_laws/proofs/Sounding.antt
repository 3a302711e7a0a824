-- The program of a unit without faults is sound.
use Rattle.std.proofs.Common.{◌≡◌, ℕ, suc, ◌+◌, ◌≤◌, ◌<◌, refl, sym, ap, ◌∙◌, subst, List, [], ◌∷◌, length, map, Option, Some, None, Bool, true, false, arith}
use Rattle.std.specs.Prelude.{is_some, slice_get, if◌then◌else◌}
use Rattle.std.specs.List.{list_any}
use Rattle.std.proofs.lemmas.List.{length-map}
use Rattle.lp_tree.specs.declared.pragma.Pragmas.{Pragmas}
use Rattle.lp_tree.specs.Units.{ItemTree}
use Rattle.lp_instr.specs.declared.efun.Efun.{Efun}
use Rattle.lp_instr.specs.EfunList.{efun_named, is_name}
use Rattle.lp_code.specs.declared.program.FunRow.{FunRow}
use Rattle.lp_code.specs.declared.program.RawProgram.{RawProgram}
use Rattle.lp_code.specs.declared.tables.VarRow.{VarRow}
use Rattle.lp_code.specs.declared.tables.Tables.{Tables}
use Rattle.lp_code.specs.Programs.{IsProgram, bounds_of, code_of}
use Rattle.lp_language.specs.Resolve.{Function, Heir, Heritage, Heritages, NoParent, OneParent, has_initialiser, or_else, own_variables, parents_of, row, variable_count, variables_before, version_of}
use Rattle.lp_language.specs.Scope.{AFunction, ASimul, AnEfun, as_efun, callee}
use Rattle.lp_isa.specs.Programs.{own_functions}
use Rattle.lp_isa.specs.SoundCode.{TranslatedCodeIsSound, TranslatedInitialisersAreSound}
use Rattle.lp_layout.specs.Layout.{laid_slots, slot_named}
use Rattle.lp_layout.proofs.RowLaid.{row_laid}
use Rattle.lp_inherit.specs.Heirs.{table, tables}
use Rattle.lp_inherit.proofs.Meanings.{count_variables}
use Rattle.lp_types_expr.specs.Known.{Around, known_function, plain_callee}
use Rattle.lp_types_expr.specs.Known as kinds
use Rattle.lp_types_expr.specs.declared.signature.Signature.{Signature}
use Rattle.lp_codegen_expr.specs.Names.{Lays}
use Rattle.lp_codegen_layout.specs.Laid.{entry, is_seen, last_number, plan_of, row_names, seen}
use Rattle.lp_codegen_layout.proofs.Entries.{last_counts}
use Rattle.lp_codegen_laws.proofs.Layouts.{known_is, row_there}
use Rattle.lp_plan_laws.proofs.Fresh.{laid_fresh, unique}
use Rattle.lp_plan_laws.proofs.Laying.{layouts_lay}
use Rattle.lp_codegen_flow.specs.Functions.{of_fun}
use Rattle.lp_codegen_unit.specs.Rows.{IsRow, init_if, initialisers, of_functions}
use Rattle.lp_codegen_unit.specs.Stands.{at}
use Rattle.lp_sound_laws.specs.Counted.{FunctionsCounted, VariablesCounted}
use Rattle.lp_sound_laws.specs.Heights.{gains}
use Rattle.lp_sound_laws.specs.Parts.{AreParts, AreSwitchesNamed, IsPart}
use Rattle.lp_sound_laws.specs.Placed.{AreSeen}
use Rattle.lp_sound_laws.proofs.PlacingStmts.{initialisers_are_placed, translated_is_placed}
use Rattle.lp_sound_laws.proofs.Programs.{parts_are_program}
use Rattle.lp_sound_laws.proofs.Slots.{reach_all}
use Rattle.lp_unit_laws.specs.Arguments.{KnowsEfuns}
use Rattle.lp_unit_laws.specs.Units.{FaultlessIsSound, FaultlessTablesAreFine, HasCode, rows_of}
use Rattle.lp_unit_laws.specs.Versions.{AreTablesOf, IsFine, IsVersion, variables_in}
use Rattle.lp_unit_laws.proofs.Arguments.{well_typed}
use Rattle.lp_unit_laws.proofs.Sizes.{few}
use Rattle.lp_unit_laws.proofs.Versioned.{is_version}

-- tables
pub tables_fine : FaultlessTablesAreFine
tables_fine items ts t each none rows = record {
  few = subst (λ ss. length ss ≤ 65535) (sym rows) (few items ts each none).slots;
  distinct = λ i j x y e f n. unique (laid_slots items ts) (laid_fresh items ts) i j x y (ap (λ ss. slice_get ss i) (sym rows) ∙ e) (ap (λ ss. slice_get ss j) (sym rows) ∙ f) n;
}

-- The variables that are seen are among all.
seen_below : (parts n : ℕ) (rs : List VarRow) (w : List ℕ) (k : ℕ) → last_number (seen parts n rs) w ≡ Some k → k < n + length rs
seen_below parts n [] w k e = absurd cc
seen_below parts n (r ∷ rs) w k e = go (is_seen parts r) (seen_below parts (suc n) rs w) e
  where
    here : (o : Option ℕ) (c : Bool) → ((j : ℕ) → o ≡ Some j → j < suc n + length rs) → or_else o (if c then Some n else None) ≡ Some k → k < n + suc (length rs)
    here (Some j) c f g = let q = f k g in omega (arith, q)
    here None true f g = let same : n ≡ k = cc in omega (arith, same)
    here None false f g = absurd cc

    go : (b : Bool) → ((j : ℕ) → last_number (seen parts (suc n) rs) w ≡ Some j → j < suc n + length rs) → last_number (if b then entry r.name n ∷ seen parts (suc n) rs else seen parts (suc n) rs) w ≡ Some k → k < n + suc (length rs)
    go true ih f = here (last_number (seen parts (suc n) rs) w) (is_name r.name w) ih f
    go false ih f = let q = ih k f in omega (arith, q)

pub counted : (hs : Heritages) → variables_before hs ≡ variables_in (tables hs)
counted NoParent = refl
counted (OneParent h hs) = ap (λ n. n + variables_before hs) (sym (count_variables h)) ∙ ap (λ n. length (table h).vars + n) (counted hs)

-- What a call by a name calls, for the check of types: where it means an efun, it is that efun.
none_known : (o : Option Signature) → is_some o ≡ false → (x : kinds.Callee) → kinds.as_function o x ≡ x
none_known None e x = refl
none_known (Some s) e x = absurd cc

knows : (a : Around) (w : List ℕ) (e : Efun) (r s : Bool) (o : Option Efun) → is_some (known_function a w) ≡ r → list_any (is_name w) a.simuls ≡ s → efun_named w ≡ o → (if r then AFunction else if s then ASimul else as_efun o) ≡ AnEfun e → plain_callee a w ≡ kinds.AnEfun e
knows a w e true s o f g h i = absurd cc
knows a w e false true o f g h i = absurd cc
knows a w e false false None f g h i = absurd cc
knows a w e false false (Some x) f g h i =
    let same : x ≡ e = cc in
    none_known (known_function a w) f (if list_any (is_name w) a.simuls then kinds.ASimul else kinds.as_efun (efun_named w))
    ∙ ap (λ b. if b then kinds.ASimul else kinds.as_efun (efun_named w)) g ∙ ap kinds.as_efun h ∙ ap kinds.AnEfun same

module _ (law : TranslatedCodeIsSound) (law_init : TranslatedInitialisersAreSound) (p : RawProgram) (h : Heritage) (ns : List (List (List ℕ))) (seen_all : AreSeen h (length p.tables.vars)) where
  a_part : (f : Function) (r : FunRow) (from to : ℕ) → IsRow f from r → FunctionsCounted (callee h) (f ∷ []) → of_fun f.body f.parameters (at h (code_of p ns)) from to → IsPart p ns r from to
  a_part f r from to row c m =
      let b = bounds_of p r in
      let q = row.locals in
      let n = row.params in
      let l = reach_all f.body (length f.parameters) in
      let placed = translated_is_placed h f (code_of p ns) b from (to, m) (omega (arith, q)) seen_all c.0 in
      record {
        begins = row.from;
        some = placed.0;
        params = omega (arith, q, n, l);
        placed = placed.1;
        sound = λ bs named. law h f (code_of p ns) bs from (to, m) named;
      }

  init_part : (b : Bool) (rs : List FunRow) (from to : ℕ) → variables_before (parents_of h) + length (own_variables (version_of h).items) ≤ length p.tables.vars → VariablesCounted (callee h) (own_variables (version_of h).items)
      → init_if b (own_variables (version_of h).items) (variables_before (parents_of h)) rs (at h (code_of p ns)) from to → AreParts p ns rs from to
  init_part false rs from to l c m = subst (λ x. AreParts p ns x from to) (sym m.0) m.1
  init_part true rs from to l c m =
      let r = m.0 in
      let row = m.2 in
      let b = bounds_of p r in
      let n = row.params in
      let placed = initialisers_are_placed h (variables_before (parents_of h)) (own_variables (version_of h).items) (code_of p ns) b from to m.3 l seen_all c in
      let part : IsPart p ns r from to = record {
        begins = row.from;
        some = placed.0;
        params = omega (arith, n);
        placed = placed.1;
        sound = λ bs named. law_init h (code_of p ns) bs from (to, m.3) named;
      } in
      subst (λ x. AreParts p ns x from to) (sym m.1) (to, part, refl)

  all_parts : (fs : List Function) (rs : List FunRow) (from to : ℕ) → variables_before (parents_of h) + length (own_variables (version_of h).items) ≤ length p.tables.vars → FunctionsCounted (callee h) fs → VariablesCounted (callee h) (own_variables (version_of h).items)
      → of_functions fs (initialisers (own_variables (version_of h).items) (variables_before (parents_of h))) rs (at h (code_of p ns)) from to → AreParts p ns rs from to
  all_parts [] rs from to l c d m = init_part (has_initialiser (own_variables (version_of h).items)) rs from to l d m
  all_parts (f ∷ fs) [] from to l c d m = absurd m
  all_parts (f ∷ fs) (r ∷ rs) from to l c d (row, (k, here, rest)) = (k, a_part f r from k row (c.0, tt) here, all_parts fs rs k to l c.1 d rest)

count_of : (h : Heritage) → variable_count h ≡ variables_before (parents_of h) + length (own_variables (version_of h).items)
count_of (Heir n v ps) = refl

-- the layout of the tables of a version is the version's
lays_of : (items : List ItemTree) (ts : List Tables) (simuls : List (List ℕ)) (p : RawProgram) (h : Heritage) → IsVersion items p.tables ts simuls h → Lays (plan_of p.tables ts simuls) h (code_of p (rows_of ts))
lays_of items ts simuls p h v =
    let code = code_of p (rows_of ts) in
    let rows : code.rows ≡ row_names (table h).slots = ap (λ (t : Tables). row_names t.slots) (sym v.own) in
    let parents : code.parents ≡ map (λ t. row_names t.slots) (tables (parents_of h)) = ap (map (λ (t : Tables). row_names t.slots)) (sym v.parents) in
    let lays : Lays (plan_of (table h) (tables (parents_of h)) (version_of h).simuls) h code = layouts_lay h code v.numbered v.unambiguous rows parents in
    subst (λ ns. Lays (plan_of p.tables ts ns) h code) v.simuls
    (subst (λ us. Lays (plan_of p.tables us (version_of h).simuls) h code) v.parents
    (subst (λ t. Lays (plan_of t (tables (parents_of h)) (version_of h).simuls) h code) v.own lays))

efuns_known : (items : List ItemTree) (pragmas : Pragmas) (ts : List Tables) (simuls : List (List ℕ)) (p : RawProgram) (h : Heritage) → AreTablesOf p.tables items ts → IsVersion items p.tables ts simuls h → Lays (plan_of p.tables ts simuls) h (code_of p (rows_of ts))
    → KnowsEfuns (callee h) (record { mode = pragmas.types; items = items; parents = ts; simuls = simuls })
efuns_known items pragmas ts simuls p h o v lays w e x =
    let a : Around = record { mode = pragmas.types; items = items; parents = ts; simuls = simuls } in
    let known : is_some (known_function a w) ≡ is_some (row h w) =
    known_is items ts w ∙ sym (ap is_some (row_laid items ts w)) ∙ ap (λ ss. is_some (slot_named ss w)) (sym o.rows) ∙ sym (row_there p.tables.slots 0 w) ∙ lays.functions w in
    knows a w e (is_some (row h w)) (list_any (is_name w) (version_of h).simuls) (efun_named w) known (ap (list_any (is_name w)) (sym v.simuls)) refl x

with_version : TranslatedCodeIsSound → TranslatedInitialisersAreSound → (items : List ItemTree) (pragmas : Pragmas) (ts : List Tables) (simuls : List (List ℕ)) (p : RawProgram) (h : Heritage)
    → IsFine items pragmas ts simuls → AreTablesOf p.tables items ts → length ts ≤ length p.tables.parents → p.max_height ≡ gains p.instrs → AreSwitchesNamed p → HasCode items ts simuls p → IsVersion items p.tables ts simuls h → IsProgram p
with_version law law_init items pragmas ts simuls p h f o few_parents height named code v =
    let ns = rows_of ts in
    let c = code_of p ns in
    let lays = lays_of items ts simuls p h v in
    let a : Around = record { mode = pragmas.types; items = items; parents = ts; simuls = simuls } in
    let seen_all : AreSeen h (length p.tables.vars) = λ w k e.
    let q = seen_below (length p.tables.parts) 0 p.tables.vars w k (sym (last_counts p.tables ts simuls w).0 ∙ lays.globals w ∙ e) in
    omega (arith, q) in
    let args = well_typed (callee h) a items (efuns_known items pragmas ts simuls p h o v lays) f.types in
    let first : variables_in ts ≡ variables_before (parents_of h) = ap variables_in (sym v.parents) ∙ sym (counted (parents_of h)) in
    let same : items ≡ (version_of h).items = sym v.items in
    let made : of_functions (own_functions items) (initialisers (own_variables (version_of h).items) (variables_before (parents_of h))) p.funs (at h c) 0 (length p.instrs) =
    subst (λ k. of_functions (own_functions items) (initialisers (own_variables (version_of h).items) k) p.funs (at h c) 0 (length p.instrs)) first
    (subst (λ is. of_functions (own_functions items) (initialisers (own_variables is) (variables_in ts)) p.funs (at h c) 0 (length p.instrs)) same (code h lays)) in
    let vars : variables_before (parents_of h) + length (own_variables (version_of h).items) ≤ length p.tables.vars =
    (let q = sym (count_of h) ∙ sym (count_variables h) ∙ ap (λ (t : Tables). length t.vars) v.own in omega (arith, q)) in
    let inits : VariablesCounted (callee h) (own_variables (version_of h).items) = subst (λ is. VariablesCounted (callee h) (own_variables is)) same args.1 in
    let length_same : length ns ≤ length p.tables.parents = (let q = length-map ts (λ (t : Tables). row_names t.slots) in omega (arith, q, few_parents)) in
    parts_are_program p ns (all_parts law law_init p h ns seen_all (own_functions items) p.funs 0 (length p.instrs) vars args.0 inits made) length_same height named
    (tables_fine items ts p.tables f.each f.layout o.rows)

pub unit_sound : TranslatedCodeIsSound → TranslatedInitialisersAreSound → FaultlessIsSound
unit_sound law law_init items pragmas ts simuls p f o few_parents height named code =
    let v = is_version items pragmas ts simuls p.tables f o in
    with_version law law_init items pragmas ts simuls p v.0 f o few_parents height named code v.1
