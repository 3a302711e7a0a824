use Rattle.std.proofs.Common.{length, ◌∙◌, ◌∷◌, ◌++◌, [], List, refl, sym, ap, subst, arith, map}
use Rattle.std.proofs.lemmas.Result.{on_ok_weaker}
use Rattle.lp_tree.specs.UnitView.{item_of}
use Rattle.lp_front.specs.Names.{parents_in}
use Rattle.lp_front.specs.Reading.{IsWhy}
use Rattle.lp_layout.specs.Layout.{AreInside}
use Rattle.lp_loads.specs.Known.{HasFoundInside}
use Rattle.lp_loads.specs.Family.{family_of}
use Rattle.lp_code.specs.declared.tables.Tables.{Tables}
use Rattle.lp_front.specs.declared.parents.Parent.{Parent}
use Rattle.lp_loads.specs.Loads.{is_under_way, unread, itself, deep, load_of}
use Rattle.lp_loads.proofs.Loading.{of_declared, at_parents, of_known, of_new, not_known, at_parent, at_line, at_tables, one_stands, one_wrong, one_lacks, all_stand, inside_more, count_more}
use Rattle.lp_loads.proofs.loads.+loads.Goals as goal

pub load-returns-in-Ok-clause-loads : goal.load-returns-in-Ok-clause-loads
load-returns-in-Ok-clause-loads t c = λ ls k.
    on_ok_weaker c.load_declared.result
    (λ g. record { after = g.after; is = g.is; holds = of_declared c.args.files.now c.args.simuls.now c.args.under.now.items c.args.file.now c.in-Ok.declared ls g.after c.in-Ok.ensures.read g.holds })
    (c.load_declared.ensures.loads ls k)

pub load-returns-in-Err-At-clause-loads : goal.load-returns-in-Err-At-clause-loads
load-returns-in-Err-At-clause-loads t c = λ ls k.
    on_ok_weaker c.end_with.result (λ h. record { after = _; is = h; holds = unread (subst (IsWhy c.args.files.now c.args.file.now) c.in-Err-At.field-0-is c.in-Err-At.ensures.fault) }) (c.end_with.ensures ls k)

pub load_declared-returns-clause-loads : goal.load_declared-returns-clause-loads
load_declared-returns-clause-loads t c = λ ls k.
    let g = c.in_ok-family.ensures.loads ls k in
    on_ok_weaker c.end_family.result
    (λ h. record {
      after = _;
      is = h;
      holds = record {
        between = g.after;
        family = family_of c.in_ok-family.family;
        parents = at_parents c.args.files.now c.args.simuls.now _ _ _ _ ls g.after (family_of c.in_ok-family.family)
            (c.in_ok-push.ensures.items ∙ ap (λ w. c.args.under.now.items ++ w ∷ []) c.in_ok-from_str.ensures)
            (c.as_slice-2.ensures.value ∙ c.in_ok-parents.ensures.parents ∙ ap (λ xs. parents_in (map item_of xs)) c.as_slice.ensures.value) g.holds;
        is = refl;
      };
    })
    (c.end_family.ensures g.after g.is)

pub load_parent-returns-in-Some-clause-loads : goal.load_parent-returns-in-Some-clause-loads
load_parent-returns-in-Some-clause-loads t c = λ ls k. record {
  after = ls;
  is = k;
  holds = of_known c.args.files.now c.args.simuls.now c.args.under.now.items c.args.file.now ls _ c.in-Some.found (c.in_ok-found.ensures.found ls k) c.in-Some.is;
}

pub load_parent-returns-then-is_under_way-clause-loads : goal.load_parent-returns-then-is_under_way-clause-loads
load_parent-returns-then-is_under_way-clause-loads t c = λ ls k. record {
  after = ls;
  is = k;
  holds = itself (not_known (load_of ls c.args.file.now) _ (c.in_ok-found.ensures.found ls k) c.in_default.not-Some)
      (ap (λ u. is_under_way u c.args.file.now) (sym c.as_slice.ensures.value) ∙ sym c.is_under_way.ensures ∙ c.if-is_under_way.true);
}

pub load_parent-returns-then-len-gt-MOST_NESTED-clause-loads : goal.load_parent-returns-then-len-gt-MOST_NESTED-clause-loads
load_parent-returns-then-len-gt-MOST_NESTED-clause-loads t c = λ ls k. record {
  after = ls;
  is = k;
  holds = deep (not_known (load_of ls c.args.file.now) _ (c.in_ok-found.ensures.found ls k) c.in_default.not-Some)
      (ap (λ u. is_under_way u c.args.file.now) (sym c.as_slice.ensures.value) ∙ sym c.is_under_way.ensures ∙ c.if-is_under_way.false)
      (omega (arith, c.if-len-gt-MOST_NESTED.true, c.len.ensures));
}

pub load_parent-returns-in-Some-2-clause-loads : goal.load_parent-returns-in-Some-2-clause-loads
load_parent-returns-in-Some-2-clause-loads t c = λ ls k.
    let g = c.in_ok-load.ensures.loads ls k in
    record {
      after = g.after;
      is = g.is;
      holds = of_new c.args.files.now c.args.simuls.now c.args.under.now.items c.args.file.now ls g.after _ c.in-Some-2.found (c.in_ok-found-2.ensures.found g.after g.is) c.in-Some-2.is
          (not_known (load_of ls c.args.file.now) _ (c.in_ok-found.ensures.found ls k) c.in_default.not-Some)
          (ap (λ u. is_under_way u c.args.file.now) (sym c.as_slice.ensures.value) ∙ sym c.is_under_way.ensures ∙ c.if-is_under_way.false)
          (omega (arith, c.if-len-gt-MOST_NESTED.false, c.len.ensures)) g.holds;
    }

pub load_parents-returns-in-Wrong-clause-loads : goal.load_parents-returns-in-Wrong-clause-loads
load_parents-returns-in-Wrong-clause-loads t c = λ ls k.
    let g = c.loop-parent.invariant.1.goes ls k in
    let r = c.in_ok-one.ensures.loads g.after g.is in
    record {
      after = r.after;
      is = r.is;
      holds = at_line c.args.files.now c.args.simuls.now c.args.under.now.items c.args.parents.now ls r.after c.in-Wrong.kind c.parent-item.result _ c.parent-item.is
          (one_wrong c.args.files.now c.args.simuls.now c.args.under.now.items c.args.parents.now c.loop-parent.parent-index c.parent-item.result ls g.after r.after c.loop-parent.tables.items c.in-Wrong.kind c.loop-parent-test.true g.holds
          (at_parent c.args.files.now c.args.simuls.now _ _ _ _ g.after r.after _ _ c.loop-parent.invariant.0 (c.as_str.ensures ∙ ap (λ (p : Parent). p.file) c.parent-item.is) c.in-Wrong.is r.holds));
    }

pub load_parents-returns-in-Lacks-clause-loads : goal.load_parents-returns-in-Lacks-clause-loads
load_parents-returns-in-Lacks-clause-loads t c = λ ls k.
    let g = c.loop-parent.invariant.1.goes ls k in
    let r = c.in_ok-one.ensures.loads g.after g.is in
    record {
      after = r.after;
      is = r.is;
      holds = one_lacks c.args.files.now c.args.simuls.now c.args.under.now.items c.args.parents.now c.loop-parent.parent-index c.parent-item.result ls g.after r.after c.loop-parent.tables.items c.loop-parent-test.true g.holds
          (at_parent c.args.files.now c.args.simuls.now _ _ _ _ g.after r.after _ _ c.loop-parent.invariant.0 (c.as_str.ensures ∙ ap (λ (p : Parent). p.file) c.parent-item.is) c.in-Lacks.is r.holds);
    }

pub load_parents-loop-parent-preserved : goal.load_parents-loop-parent-preserved
load_parents-loop-parent-preserved t c =
    let s = c.requires.known in
    let g0 = c.loop-parent.invariant.1.goes s.0 s.1 in
    let r0 = c.in_ok-one.ensures.loads g0.after g0.is in (
      c.in_ok-one.ensures.under ∙ c.loop-parent.invariant.0,
      record {
        inside = subst AreInside (sym c.in_ok-push-in-Stands.ensures.items) (inside_more c.loop-parent.tables.items c.in-Stands.one c.loop-parent.invariant.1.inside (subst HasFoundInside c.in-Stands.is c.in_ok-one.ensures.inside));
        count = ap (λ (ts : List Tables). length ts) c.in_ok-push-in-Stands.ensures.items ∙ count_more c.loop-parent.tables.items c.in-Stands.one c.loop-parent.parent-index c.loop-parent.invariant.1.count;
        known = (r0.after, r0.is);
        goes = λ ls k.
            let g = c.loop-parent.invariant.1.goes ls k in
            let r = c.in_ok-one.ensures.loads g.after g.is in
            record {
              after = r.after;
              is = r.is;
              holds = at_tables c.args.files.now c.args.simuls.now c.args.under.now.items c.args.parents.now _ ls r.after _ _ c.in_ok-push-in-Stands.ensures.items
                  (one_stands c.args.files.now c.args.simuls.now c.args.under.now.items c.args.parents.now c.loop-parent.parent-index c.parent-item.result ls g.after r.after c.loop-parent.tables.items c.in-Stands.one c.loop-parent-test.true g.holds
                  (at_parent c.args.files.now c.args.simuls.now _ _ _ _ g.after r.after _ _ c.loop-parent.invariant.0 (c.as_str.ensures ∙ ap (λ (p : Parent). p.file) c.parent-item.is) c.in-Stands.is r.holds));
            };
      },
    )

pub load_parents-returns-clause-loads : goal.load_parents-returns-clause-loads
load_parents-returns-clause-loads t c = λ ls k.
    let g = c.loop-parent.invariant.1.goes ls k in
    record {
      after = g.after;
      is = g.is;
      holds = all_stand c.args.files.now c.args.simuls.now c.args.under.now.items c.args.parents.now c.loop-parent.parent-index ls g.after c.loop-parent.tables.items (omega (arith, c.loop-parent-test.false)) g.holds;
    }
