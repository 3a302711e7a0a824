-- A unit without faults is that of a version.
use Rattle.std.proofs.Common.{◌≡◌, ℕ, ◌-◌, refl, sym, ap, ◌∙◌, subst, List, [], ◌∷◌, ◌++◌, length, take, drop, false, arith, length-append}
use Rattle.std.specs.Prelude.{codes, is_some, if◌then◌else◌}
use Rattle.lp_tree.specs.Units.{ItemTree}
use Rattle.lp_code.specs.declared.tables.Tables.{Tables}
use Rattle.lp_instr.specs.EfunList.{is_name}
use Rattle.lp_layout.specs.Layout.{laid_slots, laid_variables, parts_before}
use Rattle.lp_language.specs.World.{Version}
use Rattle.lp_language.specs.Resolve.{Heir, Heritages, NoParent, OneParent, without_c}
use Rattle.lp_inherit.specs.Heirs.{AreNumbered, AreUnambiguous, table, tables}
use Rattle.lp_plan_laws.specs.Tables.{AreNamedOnce}
use Rattle.lp_types_expr.specs.Known.{Around}
use Rattle.lp_types_expr.specs.Signatures.{inherited_kind}
use Rattle.lp_unit_laws.specs.Versions.{AreOfVersions, AreTablesOf, FaultlessIsVersion}
use Rattle.lp_unit_laws.proofs.Doubles.{distinct, last_unseen, once, own_alone}
use Rattle.lp_unit_laws.proofs.Sizes.{few}

-- versions with the tables of parents
pub record AreHeirs (ts : List Tables) : Type 0 where
  pub heritages : Heritages
  pub own : tables heritages ≡ ts
  pub numbered : AreNumbered heritages
  pub unambiguous : AreUnambiguous heritages
  pub once : AreNamedOnce heritages

pub heirs : (ts : List Tables) → AreOfVersions ts → AreHeirs ts
heirs [] v = record { heritages = NoParent; own = refl; numbered = tt; unambiguous = tt; once = tt }
heirs (t ∷ ts) v =
    let r = heirs ts v.1 in
    let h = v.0 in
    record {
      heritages = OneParent h.heritage r.heritages;
      own = ap (λ x. x ∷ tables r.heritages) h.own ∙ ap (λ l. t ∷ l) r.own;
      numbered = (h.numbered, r.numbered);
      unambiguous = (h.unambiguous, r.unambiguous);
      once = (h.once, r.once);
    }

-- a path with `.c` at its end
drop_front : (p c : List ℕ) → drop (length p) (p ++ c) ≡ c
drop_front [] c = refl
drop_front (x ∷ p) c = drop_front p c

take_front : (p c : List ℕ) → take (length p) (p ++ c) ≡ p
take_front [] c = refl
take_front (x ∷ p) c = ap (λ l. x ∷ l) (take_front p c)

without : (p : List ℕ) → without_c (p ++ codes ".c") ≡ p
without p =
    let c = codes ".c" in
    let q = p ++ c in
    let e = length-append p c in
    let n : length q - 2 ≡ length p = omega (arith, e) in
    ap (λ k. if is_name (drop k q) c then take k q else q) n
    ∙ ap (λ d. if is_name d c then take (length p) q else q) (drop_front p c)
    ∙ take_front p c

abbrev version_of_unit : List ItemTree → List (List ℕ) → Tables → Version
version_of_unit items simuls t = record { path = t.path ++ codes ".c"; items = items; parents = t.parents; pragmas = t.pragmas; simuls = simuls; latest = 0 }

-- its tables
own_tables : (items : List ItemTree) (ts : List Tables) (simuls : List (List ℕ)) (t : Tables) (hs : Heritages) (o : AreTablesOf t items ts) → tables hs ≡ ts → table (Heir o.version (version_of_unit items simuls t) hs) ≡ t
own_tables items ts simuls t hs o e =
    ap (λ us. record t { path = without_c (t.path ++ codes ".c"); parts = parts_before us ++ o.version ∷ []; slots = laid_slots items us; vars = laid_variables items us 0 }) e
    ∙ ap (λ p. record t { path = p; parts = parts_before ts ++ o.version ∷ []; slots = laid_slots items ts; vars = laid_variables items ts 0 }) (without t.path)
    ∙ ap (λ ps. record t { parts = ps; slots = laid_slots items ts; vars = laid_variables items ts 0 }) (sym o.parts)
    ∙ ap (λ ss. record t { slots = ss; vars = laid_variables items ts 0 }) (sym o.rows)
    ∙ ap (λ vs. record t { vars = vs }) (sym o.variables)

pub is_version : FaultlessIsVersion
is_version items pragmas ts simuls t f o =
    let r = heirs ts f.versions in
    let hs = r.heritages in
    let a : Around = record { mode = pragmas.types; items = items; parents = ts; simuls = simuls } in
    let h = Heir o.version (version_of_unit items simuls t) hs in (
      h,
      record {
        items = refl;
        simuls = refl;
        own = own_tables items ts simuls t hs o r.own;
        parents = r.own;
        numbered = ((few items ts f.each f.layout).functions, r.numbered);
        unambiguous = (
          distinct a [] [] items f.types,
          λ w h. last_unseen hs 0 w r.unambiguous (subst (λ us. is_some (inherited_kind us w) ≡ false) (sym r.own) (own_alone a [] [] items f.types 0 w h)),
          r.unambiguous,
        );
        once = (once a [] [] items f.types, r.once);
      },
    )
