use Rattle.std.proofs.Common.{◌≡◌, ◌+◌, ◌<◌, [], ◌∷◌, ◌++◌, length, take, get_or, pos, true, false, refl, sym, ap, ◌∙◌, subst, arith}
use Rattle.std.specs.Prelude.{nat_eq}
use Rattle.std.proofs.lemmas.List.{take_more, take_all}
use Rattle.std.proofs.lemmas.Int.{to_z-of_z}
use Rattle.lp_tree.specs.TreeView.{tree_of}
use Rattle.lp_instr.specs.declared.instr.Instr.TheVariants.{PushInt, Pop, Dup, Dup2, Unary, Binary, Step, Rotate, Index, SetIndex, Range, MakeArray, MakeMap, Jump, JumpIfZero, CallOther, Scan, CatchBegin, CatchEnd}
use Rattle.lp_codegen_expr.specs.declared.code.Draft.TheVariants.{Done}
use Rattle.lp_codegen_expr.specs.declared.kinds.AssignKind.TheVariants as kinds
use Rattle.lp_codegen_expr.specs.Drafts.{draft_of, grown, line, after, keeps, of_all, of_change, of_close, of_expr, of_open, of_right, of_scanned, of_write}
use Rattle.lp_codegen_expr.specs.Names.{layout_of}
use Rattle.lp_codegen_expr.specs.Clear.{IsBoundClear}
use Rattle.lp_codegen_expr.proofs.Compose.{seq, line_none, one_adds, one_at, one_two, line_adds, skip, choice, fill_as}
use Rattle.lp_codegen_expr.proofs.Meanings.{at_call, at_efun_call, inherited_adds, named_adds}
use Rattle.lp_tree.proofs.ExprNodes.{array_tree, call_tree, efun_tree, parent_tree, named_tree, other_tree, sscanf_tree, range_tree, mapping_tree, sequence_tree, int_tree, text_tree, name_tree, paren_tree, catch_tree, index_tree, post_step_tree, pre_step_tree, unary_tree, cast_tree, binary_tree, and_then_tree, or_else_tree, cond_tree, assign_tree}
use Rattle.lp_codegen_expr.proofs.Trees.{made, made_write, made_change, at_expr, at_place, at_list, at_end, counted_trees, one_more, one_more_scanned, none_all, none_scanned, scanned_one, assign_adds}
use Rattle.lp_codegen_expr.proofs.Parts.{counted_pairs, none_pairs, one_more_pair, at_pairs, none_parts, one_more_part, part_later, at_parts, some_parts, not_empty, logic_adds, made_open}
use Rattle.lp_codegen_expr.proofs.Refusals.{at_exit, whole, whole_place, named, named_place, by_parent, one_clear, one_place, one_pair, no_trees, no_place}
use Rattle.lp_codegen_expr.proofs.expr.+expr.Goals as goal

pub gen_expr-returns-in_ok-put-in-Int : goal.gen_expr-returns-in_ok-put-in-Int
gen_expr-returns-in_ok-put-in-Int t c =
    let e : draft_of c.put.new.self ≡ grown (draft_of c.args.into.now) (Done (PushInt c.in-Int.value) ∷ []) = grind (arith, to_z-of_z) in
    made c.args.scope.now.locals.items _ _ (ap tree_of c.in-Int.is ∙ int_tree c.in-Int.line c.in-Int.value) (one_adds (PushInt c.in-Int.value) e)

pub gen_expr-returns-in_ok-gen_text-in-Text : goal.gen_expr-returns-in_ok-gen_text-in-Text
gen_expr-returns-in_ok-gen_text-in-Text t c =
    made c.args.scope.now.locals.items _ _ (ap tree_of c.in-Text.is ∙ text_tree c.in-Text.line c.in-Text.text) (c.in_ok-gen_text-in-Text.ensures _)

pub gen_expr-returns-in_ok-gen_read-in-Name : goal.gen_expr-returns-in_ok-gen_read-in-Name
gen_expr-returns-in_ok-gen_read-in-Name t c =
    made c.args.scope.now.locals.items _ _ (ap tree_of c.in-Name.is ∙ name_tree c.in-Name.line c.in-Name.name) c.in_ok-gen_read-in-Name.ensures

pub gen_expr-returns-in_ok-gen_expr-in-Paren : goal.gen_expr-returns-in_ok-gen_expr-in-Paren
gen_expr-returns-in_ok-gen_expr-in-Paren t c =
    made c.args.scope.now.locals.items _ _ (ap tree_of c.in-Paren.is ∙ paren_tree c.in-Paren.line c.in-Paren.inner) (at_expr c.args.scope.now.locals.items c.deref.ensures c.in_ok-gen_expr-in-Paren.ensures)

pub gen_expr-returns-in_ok-put-in-Array : goal.gen_expr-returns-in_ok-put-in-Array
gen_expr-returns-in_ok-put-in-Array t c =
    made c.args.scope.now.locals.items _ _ (ap tree_of c.in-Array.is ∙ array_tree _ c.in-Array.items) (seq c.in_ok-gen_all-in-Array.ensures (one_at MakeArray (c.in_ok-n-in-Array.ensures ∙ c.len.ensures ∙ c.in-Array.items.ok.0 ∙ counted_trees c.in-Array.items.items) c.in_ok-put-in-Array.ensures))

pub gen_expr-returns-in_ok-gen_call-in-Call : goal.gen_expr-returns-in_ok-gen_call-in-Call
gen_expr-returns-in_ok-gen_call-in-Call t c =
    made c.args.scope.now.locals.items _ _ (ap tree_of c.in-Call.is ∙ call_tree _ c.in-Call.name c.in-Call.args) (seq c.in_ok-gen_all-in-Call.ensures (at_call c.in-Call.name (c.len-in-Call.ensures ∙ c.in-Call.args.ok.0 ∙ counted_trees c.in-Call.args.items) c.in_ok-gen_call-in-Call.ensures))

pub gen_expr-returns-in_ok-gen_efun_call-in-EfunCall : goal.gen_expr-returns-in_ok-gen_efun_call-in-EfunCall
gen_expr-returns-in_ok-gen_efun_call-in-EfunCall t c =
    made c.args.scope.now.locals.items _ _ (ap tree_of c.in-EfunCall.is ∙ efun_tree _ c.in-EfunCall.name c.in-EfunCall.args) (seq c.in_ok-gen_all-in-EfunCall.ensures (at_efun_call c.in-EfunCall.name (c.len-in-EfunCall.ensures ∙ c.in-EfunCall.args.ok.0 ∙ counted_trees c.in-EfunCall.args.items) (c.in_ok-gen_efun_call-in-EfunCall.ensures _)))

pub gen_expr-returns-in_ok-gen_parent_call-in-ParentCall : goal.gen_expr-returns-in_ok-gen_parent_call-in-ParentCall
gen_expr-returns-in_ok-gen_parent_call-in-ParentCall t c =
    made c.args.scope.now.locals.items _ _ (ap tree_of c.in-ParentCall.is ∙ parent_tree _ c.in-ParentCall.name c.in-ParentCall.args) (seq c.in_ok-gen_all-in-ParentCall.ensures (inherited_adds c.in-ParentCall.name c.parent_with.result c.parent_with.ensures (c.len-in-ParentCall.ensures ∙ c.in-ParentCall.args.ok.0 ∙ counted_trees c.in-ParentCall.args.items) c.in_ok-gen_parent_call-in-ParentCall.ensures))

pub gen_expr-returns-in_ok-gen_parent_call-in-NamedParentCall : goal.gen_expr-returns-in_ok-gen_parent_call-in-NamedParentCall
gen_expr-returns-in_ok-gen_parent_call-in-NamedParentCall t c =
    made c.args.scope.now.locals.items _ _ (ap tree_of c.in-NamedParentCall.is ∙ named_tree _ c.in-NamedParentCall.parent c.in-NamedParentCall.name c.in-NamedParentCall.args) (seq c.in_ok-gen_all-in-NamedParentCall.ensures (named_adds c.in-NamedParentCall.parent c.in-NamedParentCall.name c.parent_called.result c.parent_called.ensures (c.len-in-NamedParentCall.ensures ∙ c.in-NamedParentCall.args.ok.0 ∙ counted_trees c.in-NamedParentCall.args.items) c.in_ok-gen_parent_call-in-NamedParentCall.ensures))

pub gen_expr-returns-in_ok-put-in-CallOther : goal.gen_expr-returns-in_ok-put-in-CallOther
gen_expr-returns-in_ok-put-in-CallOther t c =
    made c.args.scope.now.locals.items _ _ (ap tree_of c.in-CallOther.is ∙ other_tree _ c.in-CallOther.of c.in-CallOther.name c.in-CallOther.args) (seq (at_expr c.args.scope.now.locals.items c.deref-in-CallOther.ensures c.in_ok-gen_expr-in-CallOther.ensures) (seq (c.in_ok-gen_text-in-CallOther.ensures _) (seq c.in_ok-gen_all-in-CallOther.ensures (one_at CallOther (c.in_ok-n-in-CallOther.ensures ∙ c.len-in-CallOther.ensures ∙ c.in-CallOther.args.ok.0 ∙ counted_trees c.in-CallOther.args.items) c.in_ok-put-in-CallOther.ensures))))

pub gen_expr-returns-in_ok-end-in-Catch : goal.gen_expr-returns-in_ok-end-in-Catch
gen_expr-returns-in_ok-end-in-Catch t c =
    let rest = Pop ∷ CatchEnd ∷ PushInt (pos 0) ∷ [] in
    made c.args.scope.now.locals.items _ _ (ap tree_of c.in-Catch.is ∙ catch_tree c.in-Catch.line c.in-Catch.inner) (skip (after (of_expr c.args.scope.now.locals.items c.in-Catch.inner.value) (line rest)) CatchBegin _ _ _ c.in_ok-start-in-Catch.ensures c.in_ok-put-in-Catch.ensures (seq (at_expr c.args.scope.now.locals.items c.deref-in-Catch.ensures c.in_ok-gen_expr-in-Catch.ensures) (line_adds rest c.in_ok-put_all-in-Catch.ensures)) c.in_ok-end-in-Catch.ensures c.fill.ensures)

pub gen_expr-returns-in_ok-gen_scanned-in-Sscanf : goal.gen_expr-returns-in_ok-gen_scanned-in-Sscanf
gen_expr-returns-in_ok-gen_scanned-in-Sscanf t c =
    made c.args.scope.now.locals.items _ _ (ap tree_of c.in-Sscanf.is ∙ sscanf_tree _ c.in-Sscanf.text c.in-Sscanf.form c.in-Sscanf.places) (seq (at_expr c.args.scope.now.locals.items c.deref-in-Sscanf.ensures c.in_ok-gen_expr-in-Sscanf.ensures) (seq (at_expr c.args.scope.now.locals.items c.deref-in-Sscanf-2.ensures c.in_ok-gen_expr-in-Sscanf-2.ensures) (seq (one_at Scan (c.in_ok-n-in-Sscanf.ensures ∙ c.len-in-Sscanf.ensures ∙ c.in-Sscanf.places.ok.0 ∙ counted_trees c.in-Sscanf.places.items) c.in_ok-put-in-Sscanf.ensures) c.in_ok-gen_scanned-in-Sscanf.ensures)))

pub gen_expr-returns-in_ok-put-in-Index : goal.gen_expr-returns-in_ok-put-in-Index
gen_expr-returns-in_ok-put-in-Index t c =
    made c.args.scope.now.locals.items _ _ (ap tree_of c.in-Index.is ∙ index_tree c.in-Index.line c.in-Index.of c.in-Index.edge c.in-Index.at) (seq (at_expr c.args.scope.now.locals.items c.deref-in-Index.ensures c.in_ok-gen_expr-in-Index.ensures) (seq (at_expr c.args.scope.now.locals.items c.deref-in-Index-2.ensures c.in_ok-gen_expr-in-Index-2.ensures) (one_adds (Index c.in-Index.edge) c.in_ok-put-in-Index.ensures)))

pub gen_expr-returns-in_ok-gen_change-in-PostStep : goal.gen_expr-returns-in_ok-gen_change-in-PostStep
gen_expr-returns-in_ok-gen_change-in-PostStep t c =
    let st = c.in-PostStep.step in
    made c.args.scope.now.locals.items _ _ (ap tree_of c.in-PostStep.is ∙ post_step_tree c.in-PostStep.line c.in-PostStep.step c.in-PostStep.place) (at_place (λ p. of_change c.args.scope.now.locals.items p (Dup ∷ Step st ∷ []) (Pop ∷ []) (Dup ∷ Step st ∷ Rotate 4 ∷ Rotate 4 ∷ Rotate 3 ∷ []) (Pop ∷ [])) c.deref-in-PostStep.ensures c.in_ok-gen_change-in-PostStep.ensures)

pub gen_expr-returns-in_ok-gen_change-in-PreStep : goal.gen_expr-returns-in_ok-gen_change-in-PreStep
gen_expr-returns-in_ok-gen_change-in-PreStep t c =
    let st = c.in-PreStep.step in
    made c.args.scope.now.locals.items _ _ (ap tree_of c.in-PreStep.is ∙ pre_step_tree c.in-PreStep.line c.in-PreStep.step c.in-PreStep.place) (at_place (λ p. of_change c.args.scope.now.locals.items p (Step st ∷ []) [] (Step st ∷ []) []) c.deref-in-PreStep.ensures c.in_ok-gen_change-in-PreStep.ensures)

pub gen_expr-returns-in_ok-put-in-Unary : goal.gen_expr-returns-in_ok-put-in-Unary
gen_expr-returns-in_ok-put-in-Unary t c =
    made c.args.scope.now.locals.items _ _ (ap tree_of c.in-Unary.is ∙ unary_tree c.in-Unary.line c.in-Unary.op c.in-Unary.of) (seq (at_expr c.args.scope.now.locals.items c.deref-in-Unary.ensures c.in_ok-gen_expr-in-Unary.ensures) (one_adds (Unary c.in-Unary.op) c.in_ok-put-in-Unary.ensures))

pub gen_expr-returns-in_ok-gen_expr-in-Cast : goal.gen_expr-returns-in_ok-gen_expr-in-Cast
gen_expr-returns-in_ok-gen_expr-in-Cast t c =
    made c.args.scope.now.locals.items _ _ (ap tree_of c.in-Cast.is ∙ cast_tree c.in-Cast.line c.in-Cast.to c.in-Cast.of) (at_expr c.args.scope.now.locals.items c.deref-in-Cast.ensures c.in_ok-gen_expr-in-Cast.ensures)

pub gen_expr-returns-in_ok-put-in-Binary : goal.gen_expr-returns-in_ok-put-in-Binary
gen_expr-returns-in_ok-put-in-Binary t c =
    made c.args.scope.now.locals.items _ _ (ap tree_of c.in-Binary.is ∙ binary_tree c.in-Binary.line c.in-Binary.op c.in-Binary.left c.in-Binary.right) (seq (at_expr c.args.scope.now.locals.items c.deref-in-Binary.ensures c.in_ok-gen_expr-in-Binary.ensures) (seq (at_expr c.args.scope.now.locals.items c.deref-in-Binary-2.ensures c.in_ok-gen_expr-in-Binary-2.ensures) (one_adds (Binary c.in-Binary.op) c.in_ok-put-in-Binary.ensures)))

pub gen_expr-returns-in_ok-gen_right-in-AndThen : goal.gen_expr-returns-in_ok-gen_right-in-AndThen
gen_expr-returns-in_ok-gen_right-in-AndThen t c =
    made c.args.scope.now.locals.items _ _ (ap tree_of c.in-AndThen.is ∙ and_then_tree c.in-AndThen.line c.in-AndThen.left c.in-AndThen.right) (seq (at_expr c.args.scope.now.locals.items c.deref-in-AndThen.ensures c.in_ok-gen_expr-in-AndThen.ensures) (at_place (λ e. of_right c.args.scope.now.locals.items e true) c.deref-in-AndThen-2.ensures c.in_ok-gen_right-in-AndThen.ensures))

pub gen_expr-returns-in_ok-gen_right-in-OrElse : goal.gen_expr-returns-in_ok-gen_right-in-OrElse
gen_expr-returns-in_ok-gen_right-in-OrElse t c =
    made c.args.scope.now.locals.items _ _ (ap tree_of c.in-OrElse.is ∙ or_else_tree c.in-OrElse.line c.in-OrElse.left c.in-OrElse.right) (seq (at_expr c.args.scope.now.locals.items c.deref-in-OrElse.ensures c.in_ok-gen_expr-in-OrElse.ensures) (at_place (λ e. of_right c.args.scope.now.locals.items e false) c.deref-in-OrElse-2.ensures c.in_ok-gen_right-in-OrElse.ensures))

pub gen_expr-returns-in_ok-end-in-Cond : goal.gen_expr-returns-in_ok-end-in-Cond
gen_expr-returns-in_ok-end-in-Cond t c =
    made c.args.scope.now.locals.items _ _ (ap tree_of c.in-Cond.is ∙ cond_tree c.in-Cond.line c.in-Cond.test c.in-Cond.yes c.in-Cond.no) (choice (of_expr c.args.scope.now.locals.items c.in-Cond.test.value) (of_expr c.args.scope.now.locals.items c.in-Cond.yes.value) (of_expr c.args.scope.now.locals.items c.in-Cond.no.value) JumpIfZero Jump _ _ _ _ _ _ (at_expr c.args.scope.now.locals.items c.deref-in-Cond.ensures c.in_ok-gen_expr-in-Cond.ensures) c.in_ok-jump-in-Cond.ensures c.in_ok-put-in-Cond.ensures (at_expr c.args.scope.now.locals.items c.deref-in-Cond-2.ensures c.in_ok-gen_expr-in-Cond-2.ensures) c.in_ok-over-in-Cond.ensures c.in_ok-put-in-Cond-2.ensures c.in_ok-other-in-Cond.ensures c.fill-in-Cond.ensures (at_expr c.args.scope.now.locals.items c.deref-in-Cond-3.ensures c.in_ok-gen_expr-in-Cond-3.ensures) c.in_ok-end-in-Cond.ensures c.fill-in-Cond-2.ensures)

pub gen_expr-returns-in_ok-gen_write-in-Set : goal.gen_expr-returns-in_ok-gen_write-in-Set
gen_expr-returns-in_ok-gen_write-in-Set t c =
    made c.args.scope.now.locals.items _ _ (ap tree_of c.in-Assign.is ∙ assign_tree c.in-Assign.line c.in-Assign.op c.in-Assign.place c.in-Assign.value) (assign_adds c.in-Assign.line c.args.scope.now.locals.items c.in-Assign.op c.in-Assign.place.value c.in-Assign.value.value kinds.Set (sym c.in-Set.is ∙ c.assign_kind.ensures) (seq (at_expr c.args.scope.now.locals.items c.deref-in-Set.ensures c.in_ok-gen_expr-in-Set.ensures) (at_place (of_write c.args.scope.now.locals.items) c.deref-in-Set-2.ensures c.in_ok-gen_write-in-Set.ensures)))

pub gen_expr-returns-in_ok-gen_change-in-Compound : goal.gen_expr-returns-in_ok-gen_change-in-Compound
gen_expr-returns-in_ok-gen_change-in-Compound t c =
    made c.args.scope.now.locals.items _ _ (ap tree_of c.in-Assign.is ∙ assign_tree c.in-Assign.line c.in-Assign.op c.in-Assign.place c.in-Assign.value) (assign_adds c.in-Assign.line c.args.scope.now.locals.items c.in-Assign.op c.in-Assign.place.value c.in-Assign.value.value (kinds.Compound c.in-Compound.bin) (sym c.in-Compound.is ∙ c.assign_kind.ensures) (seq (at_expr c.args.scope.now.locals.items c.deref-in-Compound.ensures c.in_ok-gen_expr-in-Compound.ensures) (at_place (λ p. of_change c.args.scope.now.locals.items p (Rotate 2 ∷ Binary c.in-Compound.bin ∷ []) [] (Rotate 4 ∷ Binary c.in-Compound.bin ∷ []) []) c.deref-in-Compound-2.ensures c.in_ok-gen_change-in-Compound.ensures)))

pub gen_expr-returns-in_ok-put-in-Range : goal.gen_expr-returns-in_ok-put-in-Range
gen_expr-returns-in_ok-put-in-Range t c =
    made c.args.scope.now.locals.items _ _ (ap tree_of c.in-Range.is ∙ range_tree _ c.in-Range.of c.in-Range.from c.in-Range.to) (seq (at_expr c.args.scope.now.locals.items c.deref-in-Range.ensures c.in_ok-gen_expr-in-Range.ensures) (seq c.in_ok-gen_end-in-Range.ensures (seq c.in_ok-gen_end-in-Range-2.ensures (one_two Range c.end_kind.ensures c.end_kind-in-Range.ensures c.in_ok-put-in-Range.ensures))))

pub gen_all-loop-e-init : goal.gen_all-loop-e-init
gen_all-loop-e-init t c =
    none_all c.args.scope.now.locals.items _ _

pub gen_all-loop-e-preserved : goal.gen_all-loop-e-preserved
gen_all-loop-e-preserved t c =
    let all = c.args.all.now.items in
    let i = c.loop-e.e-index in
    let x = c.e-item.result in
    let lt : i < length all = omega (arith, ap length c.deref-e-items.ensures.value) in
    let is : get_or all i x ≡ x = ap (λ l. get_or l i x) (sym c.deref-e-items.ensures.value) ∙ sym c.e-item.is in
    let more : take (i + 1) all ≡ take i all ++ x ∷ [] = take_more all i x lt ∙ ap (λ y. take i all ++ y ∷ []) is in
    at_list (of_all c.args.scope.now.locals.items) (sym more) (one_more c.args.scope.now.locals.items (take i all) x c.loop-e.invariant c.in_ok-gen_expr.ensures)

pub gen_all-returns : goal.gen_all-returns
gen_all-returns t c =
    let all = c.args.all.now.items in
    at_list (of_all c.args.scope.now.locals.items) (take_all c.loop-e.e-index all (omega (arith, ap length c.deref-e-items.ensures.value))) c.loop-e.invariant

pub gen_scanned-loop-place-init : goal.gen_scanned-loop-place-init
gen_scanned-loop-place-init t c =
    none_scanned c.args.scope.now.locals.items _ _

pub gen_scanned-loop-place-preserved : goal.gen_scanned-loop-place-preserved
gen_scanned-loop-place-preserved t c =
    let all = c.args.places.now.items in
    let i = c.loop-place.place-index in
    let x = c.place-item.result in
    let lt : i < length all = omega (arith, ap length c.deref-place-items.ensures.value) in
    let is : get_or all i x ≡ x = ap (λ l. get_or l i x) (sym c.deref-place-items.ensures.value) ∙ sym c.place-item.is in
    let more : take (i + 1) all ≡ take i all ++ x ∷ [] = take_more all i x lt ∙ ap (λ y. take i all ++ y ∷ []) is in
    at_list (of_scanned c.args.scope.now.locals.items) (sym more) (one_more_scanned c.args.scope.now.locals.items (take i all) x c.loop-place.invariant c.in_ok-gen_scanned_one.ensures)

pub gen_scanned-returns : goal.gen_scanned-returns
gen_scanned-returns t c =
    let all = c.args.places.now.items in
    at_list (of_scanned c.args.scope.now.locals.items) (take_all c.loop-place.place-index all (omega (arith, ap length c.deref-place-items.ensures.value))) c.loop-place.invariant

pub gen_write-returns-in_ok-gen_write_slot-in-Name : goal.gen_write-returns-in_ok-gen_write_slot-in-Name
gen_write-returns-in_ok-gen_write_slot-in-Name t c =
    made_write c.args.scope.now.locals.items _ _ (ap tree_of c.in-Name.is ∙ name_tree c.in-Name.line c.in-Name.name) c.in_ok-gen_write_slot-in-Name.ensures

pub gen_write-returns-in_ok-put_all-in-Index : goal.gen_write-returns-in_ok-put_all-in-Index
gen_write-returns-in_ok-put_all-in-Index t c =
    made_write c.args.scope.now.locals.items _ _ (ap tree_of c.in-Index.is ∙ index_tree c.in-Index.line c.in-Index.of c.in-Index.edge c.in-Index.at) (seq (at_expr c.args.scope.now.locals.items c.deref.ensures c.in_ok-gen_expr-in-Index.ensures) (seq (at_expr c.args.scope.now.locals.items c.deref-in-Index.ensures c.in_ok-gen_expr-in-Index-2.ensures) (line_adds (Rotate 3 ∷ SetIndex c.in-Index.edge ∷ []) c.in_ok-put_all-in-Index.ensures)))

pub gen_change-returns-in_ok-put_all-in-Name-2 : goal.gen_change-returns-in_ok-put_all-in-Name-2
gen_change-returns-in_ok-put_all-in-Name-2 t c =
    made_change c.args.scope.now.locals.items c.args.alters.now c.args.ends.now c.args.alters_item.now c.args.ends_item.now _ _ (ap tree_of c.in-Name.is ∙ name_tree c.in-Name.line c.in-Name.name) (seq c.in_ok-gen_read-in-Name.ensures (seq (line_adds _ c.in_ok-put_all-in-Name.ensures) (seq c.in_ok-gen_write_slot-in-Name.ensures (line_adds _ c.in_ok-put_all-in-Name-2.ensures))))

pub gen_change-returns-in_ok-put_all-in-Index-3 : goal.gen_change-returns-in_ok-put_all-in-Index-3
gen_change-returns-in_ok-put_all-in-Index-3 t c =
    made_change c.args.scope.now.locals.items c.args.alters.now c.args.ends.now c.args.alters_item.now c.args.ends_item.now _ _ (ap tree_of c.in-Index.is ∙ index_tree c.in-Index.line c.in-Index.of c.in-Index.edge c.in-Index.at) (seq (at_expr c.args.scope.now.locals.items c.deref.ensures c.in_ok-gen_expr-in-Index.ensures) (seq (at_expr c.args.scope.now.locals.items c.deref-in-Index.ensures c.in_ok-gen_expr-in-Index-2.ensures) (seq (line_adds (Dup2 ∷ Index c.in-Index.edge ∷ []) c.in_ok-put_all-in-Index.ensures) (seq (line_adds _ c.in_ok-put_all-in-Index-2.ensures) (seq (one_adds (SetIndex c.in-Index.edge) c.in_ok-put-in-Index.ensures) (line_adds _ c.in_ok-put_all-in-Index-3.ensures))))))

pub gen_right-returns : goal.gen_right-returns
gen_right-returns t c =
    skip (of_expr c.args.scope.now.locals.items c.args.right.now) (keeps c.args.is_and) (Done c.keep.result) _ _ c.in_ok-jump.ensures c.in_ok-put.ensures c.in_ok-gen_expr.ensures c.in_ok-end.ensures (fill_as _ _ c.fill.ensures c.keep-2.ensures)

pub gen_end-returns-in-Open : goal.gen_end-returns-in-Open
gen_end-returns-in-Open t c =
    at_end c.args.scope.now.locals.items (sym c.in-Open.is) (line_none _ _)

pub gen_end-returns-in_ok-gen_expr-in-At : goal.gen_end-returns-in_ok-gen_expr-in-At
gen_end-returns-in_ok-gen_expr-in-At t c =
    at_end c.args.scope.now.locals.items (sym c.in-At.is) (at_expr c.args.scope.now.locals.items c.deref.ensures c.in_ok-gen_expr-in-At.ensures)

pub gen_scanned_one-returns : goal.gen_scanned_one-returns
gen_scanned_one-returns t c =
    scanned_one c.args.scope.now.locals.items c.args.place.now (skip (of_write c.args.scope.now.locals.items c.args.place.now) JumpIfZero _ _ _ c.in_ok-jump.ensures c.in_ok-put.ensures c.in_ok-gen_write.ensures c.in_ok-end.ensures c.fill.ensures) (one_adds Pop c.in_ok-put-2.ensures)

pub gen_expr-returns-in_ok-put-in-Mapping : goal.gen_expr-returns-in_ok-put-in-Mapping
gen_expr-returns-in_ok-put-in-Mapping t c =
    made c.args.scope.now.locals.items _ _ (ap tree_of c.in-Mapping.is ∙ mapping_tree _ c.in-Mapping.pairs) (seq c.in_ok-gen_pairs-in-Mapping.ensures (one_at MakeMap (c.in_ok-n-in-Mapping.ensures ∙ c.len-in-Mapping.ensures ∙ c.in-Mapping.pairs.ok.0 ∙ counted_pairs c.in-Mapping.pairs.items) c.in_ok-put-in-Mapping.ensures))

pub gen_expr-returns-in_ok-gen_close-in-Logic : goal.gen_expr-returns-in_ok-gen_close-in-Logic
gen_expr-returns-in_ok-gen_close-in-Logic t c =
    made c.args.scope.now.locals.items _ _ (ap tree_of c.in-Assign.is ∙ assign_tree c.in-Assign.line c.in-Assign.op c.in-Assign.place c.in-Assign.value) (assign_adds c.in-Assign.line c.args.scope.now.locals.items c.in-Assign.op c.in-Assign.place.value c.in-Assign.value.value (kinds.Logic c.in-Logic.is_and) (sym c.in-Logic.is ∙ c.assign_kind.ensures) (logic_adds c.args.scope.now.locals.items c.in-Assign.place.value c.in-Assign.value.value c.in-Logic.is_and (seq (at_place (of_open c.args.scope.now.locals.items) c.deref-in-Logic.ensures c.in_ok-gen_open-in-Logic.ensures) (seq (at_place (λ e. of_right c.args.scope.now.locals.items e c.in-Logic.is_and) c.deref-in-Logic-2.ensures c.in_ok-gen_right-in-Logic.ensures) (at_place (of_close c.args.scope.now.locals.items) c.deref-in-Logic-3.ensures c.in_ok-gen_close-in-Logic.ensures)))))

pub gen_pairs-loop-pair-init : goal.gen_pairs-loop-pair-init
gen_pairs-loop-pair-init t c = none_pairs c.args.scope.now.locals.items _ _

pub gen_pairs-loop-pair-preserved : goal.gen_pairs-loop-pair-preserved
gen_pairs-loop-pair-preserved t c =
    let all = c.args.pairs.now.items in
    let i = c.loop-pair.pair-index in
    let x = c.pair-item.result in
    let lt : i < length all = omega (arith, ap length c.deref-pair-items.ensures.value) in
    let is : get_or all i x ≡ x = ap (λ l. get_or l i x) (sym c.deref-pair-items.ensures.value) ∙ sym c.pair-item.is in
    let more : take (i + 1) all ≡ take i all ++ x ∷ [] = take_more all i x lt ∙ ap (λ y. take i all ++ y ∷ []) is in
    at_pairs c.args.scope.now.locals.items (sym more) (one_more_pair c.args.scope.now.locals.items (take i all) x c.loop-pair.invariant (seq c.in_ok-gen_expr.ensures c.in_ok-gen_expr-2.ensures))

pub gen_pairs-returns : goal.gen_pairs-returns
gen_pairs-returns t c =
    let all = c.args.pairs.now.items in
    at_pairs c.args.scope.now.locals.items (take_all c.loop-pair.pair-index all (omega (arith, ap length c.deref-pair-items.ensures.value))) c.loop-pair.invariant

pub gen_parts-loop-i-init : goal.gen_parts-loop-i-init
gen_parts-loop-i-init t c = none_parts c.args.scope.now.locals.items _ _

pub gen_expr-returns-else-is_empty : goal.gen_expr-returns-else-is_empty
gen_expr-returns-else-is_empty t c =
    let some = not_empty c.in-Sequence.parts.items c.in-Sequence.parts.ok.0 c.is_empty.ensures c.if-is_empty.false in
    made c.args.scope.now.locals.items _ _ (ap tree_of c.in-Sequence.is ∙ sequence_tree _ c.in-Sequence.parts) (some_parts c.args.scope.now.locals.items c.in-Sequence.parts.items some c.in_ok-gen_parts-in-Sequence.ensures)

pub gen_part-returns-in_ok-gen_expr-2 : goal.gen_part-returns-in_ok-gen_expr-2
gen_part-returns-in_ok-gen_expr-2 t c =
    part_later c.args.scope.now.locals.items c.args.part.now c.if-is_first.false (seq (one_adds Pop c.in_ok-put.ensures) c.in_ok-gen_expr-2.ensures)

pub gen_parts-loop-i-preserved : goal.gen_parts-loop-i-preserved
gen_parts-loop-i-preserved t c =
    let all = c.args.parts.now.items in
    let i = c.loop-i.i in
    let x = c.part-item.result in
    let lt : i < length all = omega (arith, c.loop-i-test.true, ap length c.deref-part-items.ensures.value) in
    let is : get_or all i x ≡ x = ap (λ l. get_or l i x) (sym c.deref-part-items.ensures.value) ∙ sym c.part-item.is in
    let more : take (i + 1) all ≡ take i all ++ x ∷ [] = take_more all i x lt ∙ ap (λ y. take i all ++ y ∷ []) is in
    at_parts c.args.scope.now.locals.items (sym more) (one_more_part c.args.scope.now.locals.items all i x (nat_eq i 0) lt refl c.loop-i.invariant c.in_ok-gen_part.ensures)

pub gen_open-returns-in_ok-gen_read-in-Name : goal.gen_open-returns-in_ok-gen_read-in-Name
gen_open-returns-in_ok-gen_read-in-Name t c =
    made_open c.args.scope.now.locals.items _ _ (ap tree_of c.in-Name.is ∙ name_tree c.in-Name.line c.in-Name.name) c.in_ok-gen_read-in-Name.ensures

pub gen_open-returns-in_ok-put_all-in-Index : goal.gen_open-returns-in_ok-put_all-in-Index
gen_open-returns-in_ok-put_all-in-Index t c =
    made_open c.args.scope.now.locals.items _ _ (ap tree_of c.in-Index.is ∙ index_tree c.in-Index.line c.in-Index.of c.in-Index.edge c.in-Index.at) (seq (at_expr c.args.scope.now.locals.items c.deref.ensures c.in_ok-gen_expr-in-Index.ensures) (seq (at_expr c.args.scope.now.locals.items c.deref-in-Index.ensures c.in_ok-gen_expr-in-Index-2.ensures) (line_adds (Dup2 ∷ Index c.in-Index.edge ∷ []) c.in_ok-put_all-in-Index.ensures)))

pub gen_expr-returns-in_err-put-in-Int : goal.gen_expr-returns-in_err-put-in-Int
gen_expr-returns-in_err-put-in-Int t c =
    at_exit _ _ _ _ c.from_residual.ensures.1 (λ u q. c.in_err-put-in-Int.ensures u)

pub gen_expr-returns-in_err-gen_text-in-Text : goal.gen_expr-returns-in_err-gen_text-in-Text
gen_expr-returns-in_err-gen_text-in-Text t c =
    at_exit _ _ _ _ c.from_residual-in_err-gen_text-in-Text.ensures.1 (λ u q. c.in_err-gen_text-in-Text.ensures u)

pub gen_expr-returns-in_err-gen_read-in-Name : goal.gen_expr-returns-in_err-gen_read-in-Name
gen_expr-returns-in_err-gen_read-in-Name t c =
    at_exit _ _ _ _ c.from_residual-in_err-gen_read-in-Name.ensures.1 (whole _ _ _ _ (ap tree_of c.in-Name.is ∙ name_tree c.in-Name.line c.in-Name.name) (λ u q. c.in_err-gen_read-in-Name.ensures u (q)))

pub gen_expr-returns-in_err-gen_expr-in-Paren : goal.gen_expr-returns-in_err-gen_expr-in-Paren
gen_expr-returns-in_err-gen_expr-in-Paren t c =
    at_exit _ _ _ _ c.from_residual-in_err-gen_expr-in-Paren.ensures.1 (whole _ _ _ _ (ap tree_of c.in-Paren.is ∙ paren_tree c.in-Paren.line c.in-Paren.inner) (λ u q. c.in_err-gen_expr-in-Paren.ensures u (named _ _ c.deref.ensures q)))

pub gen_expr-returns-in_err-gen_all-in-Array : goal.gen_expr-returns-in_err-gen_all-in-Array
gen_expr-returns-in_err-gen_all-in-Array t c =
    at_exit _ _ _ _ c.from_residual-in_err-gen_all-in-Array.ensures.1 (whole _ _ _ _ (ap tree_of c.in-Array.is ∙ array_tree _ c.in-Array.items) (λ u q. c.in_err-gen_all-in-Array.ensures u (q)))

pub gen_expr-returns-in_err-n-in-Array : goal.gen_expr-returns-in_err-n-in-Array
gen_expr-returns-in_err-n-in-Array t c =
    at_exit _ _ _ _ c.from_residual-in_err-n-in-Array.ensures.1 (λ u q. c.in_err-n-in-Array.ensures u)

pub gen_expr-returns-in_err-put-in-Array : goal.gen_expr-returns-in_err-put-in-Array
gen_expr-returns-in_err-put-in-Array t c =
    at_exit _ _ _ _ c.from_residual-in_err-put-in-Array.ensures.1 (λ u q. c.in_err-put-in-Array.ensures u)

pub gen_expr-returns-in_err-gen_pairs-in-Mapping : goal.gen_expr-returns-in_err-gen_pairs-in-Mapping
gen_expr-returns-in_err-gen_pairs-in-Mapping t c =
    at_exit _ _ _ _ c.from_residual-in_err-gen_pairs-in-Mapping.ensures.1 (whole _ _ _ _ (ap tree_of c.in-Mapping.is ∙ mapping_tree _ c.in-Mapping.pairs) (λ u q. c.in_err-gen_pairs-in-Mapping.ensures u (q)))

pub gen_expr-returns-in_err-n-in-Mapping : goal.gen_expr-returns-in_err-n-in-Mapping
gen_expr-returns-in_err-n-in-Mapping t c =
    at_exit _ _ _ _ c.from_residual-in_err-n-in-Mapping.ensures.1 (λ u q. c.in_err-n-in-Mapping.ensures u)

pub gen_expr-returns-in_err-put-in-Mapping : goal.gen_expr-returns-in_err-put-in-Mapping
gen_expr-returns-in_err-put-in-Mapping t c =
    at_exit _ _ _ _ c.from_residual-in_err-put-in-Mapping.ensures.1 (λ u q. c.in_err-put-in-Mapping.ensures u)

pub gen_expr-returns-in_err-gen_all-in-Call : goal.gen_expr-returns-in_err-gen_all-in-Call
gen_expr-returns-in_err-gen_all-in-Call t c =
    at_exit _ _ _ _ c.from_residual-in_err-gen_all-in-Call.ensures.1 (whole _ _ _ _ (ap tree_of c.in-Call.is ∙ call_tree _ c.in-Call.name c.in-Call.args) (λ u q. c.in_err-gen_all-in-Call.ensures u (q.0)))

pub gen_expr-returns-in_err-gen_call-in-Call : goal.gen_expr-returns-in_err-gen_call-in-Call
gen_expr-returns-in_err-gen_call-in-Call t c =
    at_exit _ _ _ _ c.from_residual-in_err-gen_call-in-Call.ensures.1 (whole _ _ _ _ (ap tree_of c.in-Call.is ∙ call_tree _ c.in-Call.name c.in-Call.args) (λ u q. c.in_err-gen_call-in-Call.ensures u (q.1)))

pub gen_expr-returns-in_err-gen_all-in-EfunCall : goal.gen_expr-returns-in_err-gen_all-in-EfunCall
gen_expr-returns-in_err-gen_all-in-EfunCall t c =
    at_exit _ _ _ _ c.from_residual-in_err-gen_all-in-EfunCall.ensures.1 (whole _ _ _ _ (ap tree_of c.in-EfunCall.is ∙ efun_tree _ c.in-EfunCall.name c.in-EfunCall.args) (λ u q. c.in_err-gen_all-in-EfunCall.ensures u (q.0)))

pub gen_expr-returns-in_err-gen_efun_call-in-EfunCall : goal.gen_expr-returns-in_err-gen_efun_call-in-EfunCall
gen_expr-returns-in_err-gen_efun_call-in-EfunCall t c =
    at_exit _ _ _ _ c.from_residual-in_err-gen_efun_call-in-EfunCall.ensures.1 (whole _ _ _ _ (ap tree_of c.in-EfunCall.is ∙ efun_tree _ c.in-EfunCall.name c.in-EfunCall.args) (λ u q. c.in_err-gen_efun_call-in-EfunCall.ensures u (q.1)))

pub gen_expr-returns-in_err-gen_all-in-ParentCall : goal.gen_expr-returns-in_err-gen_all-in-ParentCall
gen_expr-returns-in_err-gen_all-in-ParentCall t c =
    at_exit _ _ _ _ c.from_residual-in_err-gen_all-in-ParentCall.ensures.1 (whole _ _ _ _ (ap tree_of c.in-ParentCall.is ∙ parent_tree _ c.in-ParentCall.name c.in-ParentCall.args) (λ u q. c.in_err-gen_all-in-ParentCall.ensures u (q.0)))

pub gen_expr-returns-in_err-gen_parent_call-in-ParentCall : goal.gen_expr-returns-in_err-gen_parent_call-in-ParentCall
gen_expr-returns-in_err-gen_parent_call-in-ParentCall t c =
    at_exit _ _ _ _ c.from_residual-in_err-gen_parent_call-in-ParentCall.ensures.1 (whole _ _ _ _ (ap tree_of c.in-ParentCall.is ∙ parent_tree _ c.in-ParentCall.name c.in-ParentCall.args) (λ u q. c.in_err-gen_parent_call-in-ParentCall.ensures u (by_parent (layout_of c.args.scope.now.layout) _ c.parent_with.ensures q.1)))

pub gen_expr-returns-in_err-gen_all-in-NamedParentCall : goal.gen_expr-returns-in_err-gen_all-in-NamedParentCall
gen_expr-returns-in_err-gen_all-in-NamedParentCall t c =
    at_exit _ _ _ _ c.from_residual-in_err-gen_all-in-NamedParentCall.ensures.1 (whole _ _ _ _ (ap tree_of c.in-NamedParentCall.is ∙ named_tree _ c.in-NamedParentCall.parent c.in-NamedParentCall.name c.in-NamedParentCall.args) (λ u q. c.in_err-gen_all-in-NamedParentCall.ensures u (q.0)))

pub gen_expr-returns-in_err-gen_parent_call-in-NamedParentCall : goal.gen_expr-returns-in_err-gen_parent_call-in-NamedParentCall
gen_expr-returns-in_err-gen_parent_call-in-NamedParentCall t c =
    at_exit _ _ _ _ c.from_residual-in_err-gen_parent_call-in-NamedParentCall.ensures.1 (whole _ _ _ _ (ap tree_of c.in-NamedParentCall.is ∙ named_tree _ c.in-NamedParentCall.parent c.in-NamedParentCall.name c.in-NamedParentCall.args) (λ u q. c.in_err-gen_parent_call-in-NamedParentCall.ensures u (by_parent (layout_of c.args.scope.now.layout) _ c.parent_called.ensures q.1)))

pub gen_expr-returns-in_err-gen_expr-in-CallOther : goal.gen_expr-returns-in_err-gen_expr-in-CallOther
gen_expr-returns-in_err-gen_expr-in-CallOther t c =
    at_exit _ _ _ _ c.from_residual-in_err-gen_expr-in-CallOther.ensures.1 (whole _ _ _ _ (ap tree_of c.in-CallOther.is ∙ other_tree _ c.in-CallOther.of c.in-CallOther.name c.in-CallOther.args) (λ u q. c.in_err-gen_expr-in-CallOther.ensures u (named _ _ c.deref-in-CallOther.ensures q.0)))

pub gen_expr-returns-in_err-gen_text-in-CallOther : goal.gen_expr-returns-in_err-gen_text-in-CallOther
gen_expr-returns-in_err-gen_text-in-CallOther t c =
    at_exit _ _ _ _ c.from_residual-in_err-gen_text-in-CallOther.ensures.1 (λ u q. c.in_err-gen_text-in-CallOther.ensures u)

pub gen_expr-returns-in_err-gen_all-in-CallOther : goal.gen_expr-returns-in_err-gen_all-in-CallOther
gen_expr-returns-in_err-gen_all-in-CallOther t c =
    at_exit _ _ _ _ c.from_residual-in_err-gen_all-in-CallOther.ensures.1 (whole _ _ _ _ (ap tree_of c.in-CallOther.is ∙ other_tree _ c.in-CallOther.of c.in-CallOther.name c.in-CallOther.args) (λ u q. c.in_err-gen_all-in-CallOther.ensures u (q.1)))

pub gen_expr-returns-in_err-n-in-CallOther : goal.gen_expr-returns-in_err-n-in-CallOther
gen_expr-returns-in_err-n-in-CallOther t c =
    at_exit _ _ _ _ c.from_residual-in_err-n-in-CallOther.ensures.1 (λ u q. c.in_err-n-in-CallOther.ensures u)

pub gen_expr-returns-in_err-put-in-CallOther : goal.gen_expr-returns-in_err-put-in-CallOther
gen_expr-returns-in_err-put-in-CallOther t c =
    at_exit _ _ _ _ c.from_residual-in_err-put-in-CallOther.ensures.1 (λ u q. c.in_err-put-in-CallOther.ensures u)

pub gen_expr-returns-in_err-start-in-Catch : goal.gen_expr-returns-in_err-start-in-Catch
gen_expr-returns-in_err-start-in-Catch t c =
    at_exit _ _ _ _ c.from_residual-in_err-start-in-Catch.ensures.1 (λ u q. c.in_err-start-in-Catch.ensures u)

pub gen_expr-returns-in_err-put-in-Catch : goal.gen_expr-returns-in_err-put-in-Catch
gen_expr-returns-in_err-put-in-Catch t c =
    at_exit _ _ _ _ c.from_residual-in_err-put-in-Catch.ensures.1 (λ u q. c.in_err-put-in-Catch.ensures u)

pub gen_expr-returns-in_err-gen_expr-in-Catch : goal.gen_expr-returns-in_err-gen_expr-in-Catch
gen_expr-returns-in_err-gen_expr-in-Catch t c =
    at_exit _ _ _ _ c.from_residual-in_err-gen_expr-in-Catch.ensures.1 (whole _ _ _ _ (ap tree_of c.in-Catch.is ∙ catch_tree c.in-Catch.line c.in-Catch.inner) (λ u q. c.in_err-gen_expr-in-Catch.ensures u (named _ _ c.deref-in-Catch.ensures q)))

pub gen_expr-returns-in_err-put_all-in-Catch : goal.gen_expr-returns-in_err-put_all-in-Catch
gen_expr-returns-in_err-put_all-in-Catch t c =
    at_exit _ _ _ _ c.from_residual-in_err-put_all-in-Catch.ensures.1 (λ u q. c.in_err-put_all-in-Catch.ensures u)

pub gen_expr-returns-in_err-end-in-Catch : goal.gen_expr-returns-in_err-end-in-Catch
gen_expr-returns-in_err-end-in-Catch t c =
    at_exit _ _ _ _ c.from_residual-in_err-end-in-Catch.ensures.1 (λ u q. c.in_err-end-in-Catch.ensures u)

pub gen_expr-returns-in_err-gen_expr-in-Sscanf : goal.gen_expr-returns-in_err-gen_expr-in-Sscanf
gen_expr-returns-in_err-gen_expr-in-Sscanf t c =
    at_exit _ _ _ _ c.from_residual-in_err-gen_expr-in-Sscanf.ensures.1 (whole _ _ _ _ (ap tree_of c.in-Sscanf.is ∙ sscanf_tree _ c.in-Sscanf.text c.in-Sscanf.form c.in-Sscanf.places) (λ u q. c.in_err-gen_expr-in-Sscanf.ensures u (named _ _ c.deref-in-Sscanf.ensures q.0)))

pub gen_expr-returns-in_err-gen_expr-in-Sscanf-2 : goal.gen_expr-returns-in_err-gen_expr-in-Sscanf-2
gen_expr-returns-in_err-gen_expr-in-Sscanf-2 t c =
    at_exit _ _ _ _ c.from_residual-in_err-gen_expr-in-Sscanf-2.ensures.1 (whole _ _ _ _ (ap tree_of c.in-Sscanf.is ∙ sscanf_tree _ c.in-Sscanf.text c.in-Sscanf.form c.in-Sscanf.places) (λ u q. c.in_err-gen_expr-in-Sscanf-2.ensures u (named _ _ c.deref-in-Sscanf-2.ensures q.1)))

pub gen_expr-returns-in_err-n-in-Sscanf : goal.gen_expr-returns-in_err-n-in-Sscanf
gen_expr-returns-in_err-n-in-Sscanf t c =
    at_exit _ _ _ _ c.from_residual-in_err-n-in-Sscanf.ensures.1 (λ u q. c.in_err-n-in-Sscanf.ensures u)

pub gen_expr-returns-in_err-put-in-Sscanf : goal.gen_expr-returns-in_err-put-in-Sscanf
gen_expr-returns-in_err-put-in-Sscanf t c =
    at_exit _ _ _ _ c.from_residual-in_err-put-in-Sscanf.ensures.1 (λ u q. c.in_err-put-in-Sscanf.ensures u)

pub gen_expr-returns-in_err-gen_scanned-in-Sscanf : goal.gen_expr-returns-in_err-gen_scanned-in-Sscanf
gen_expr-returns-in_err-gen_scanned-in-Sscanf t c =
    at_exit _ _ _ _ c.from_residual-in_err-gen_scanned-in-Sscanf.ensures.1 (whole _ _ _ _ (ap tree_of c.in-Sscanf.is ∙ sscanf_tree _ c.in-Sscanf.text c.in-Sscanf.form c.in-Sscanf.places) (λ u q. c.in_err-gen_scanned-in-Sscanf.ensures u (q.2)))

pub gen_expr-returns-in_err-gen_expr-in-Index : goal.gen_expr-returns-in_err-gen_expr-in-Index
gen_expr-returns-in_err-gen_expr-in-Index t c =
    at_exit _ _ _ _ c.from_residual-in_err-gen_expr-in-Index.ensures.1 (whole _ _ _ _ (ap tree_of c.in-Index.is ∙ index_tree c.in-Index.line c.in-Index.of c.in-Index.edge c.in-Index.at) (λ u q. c.in_err-gen_expr-in-Index.ensures u (named _ _ c.deref-in-Index.ensures q.0)))

pub gen_expr-returns-in_err-gen_expr-in-Index-2 : goal.gen_expr-returns-in_err-gen_expr-in-Index-2
gen_expr-returns-in_err-gen_expr-in-Index-2 t c =
    at_exit _ _ _ _ c.from_residual-in_err-gen_expr-in-Index-2.ensures.1 (whole _ _ _ _ (ap tree_of c.in-Index.is ∙ index_tree c.in-Index.line c.in-Index.of c.in-Index.edge c.in-Index.at) (λ u q. c.in_err-gen_expr-in-Index-2.ensures u (named _ _ c.deref-in-Index-2.ensures q.1)))

pub gen_expr-returns-in_err-put-in-Index : goal.gen_expr-returns-in_err-put-in-Index
gen_expr-returns-in_err-put-in-Index t c =
    at_exit _ _ _ _ c.from_residual-in_err-put-in-Index.ensures.1 (λ u q. c.in_err-put-in-Index.ensures u)

pub gen_expr-returns-in_err-gen_expr-in-Range : goal.gen_expr-returns-in_err-gen_expr-in-Range
gen_expr-returns-in_err-gen_expr-in-Range t c =
    at_exit _ _ _ _ c.from_residual-in_err-gen_expr-in-Range.ensures.1 (whole _ _ _ _ (ap tree_of c.in-Range.is ∙ range_tree _ c.in-Range.of c.in-Range.from c.in-Range.to) (λ u q. c.in_err-gen_expr-in-Range.ensures u (named _ _ c.deref-in-Range.ensures q.0)))

pub gen_expr-returns-in_err-gen_end-in-Range : goal.gen_expr-returns-in_err-gen_end-in-Range
gen_expr-returns-in_err-gen_end-in-Range t c =
    at_exit _ _ _ _ c.from_residual-in_err-gen_end-in-Range.ensures.1 (whole _ _ _ _ (ap tree_of c.in-Range.is ∙ range_tree _ c.in-Range.of c.in-Range.from c.in-Range.to) (λ u q. c.in_err-gen_end-in-Range.ensures u (q.1)))

pub gen_expr-returns-in_err-gen_end-in-Range-2 : goal.gen_expr-returns-in_err-gen_end-in-Range-2
gen_expr-returns-in_err-gen_end-in-Range-2 t c =
    at_exit _ _ _ _ c.from_residual-in_err-gen_end-in-Range-2.ensures.1 (whole _ _ _ _ (ap tree_of c.in-Range.is ∙ range_tree _ c.in-Range.of c.in-Range.from c.in-Range.to) (λ u q. c.in_err-gen_end-in-Range-2.ensures u (q.2)))

pub gen_expr-returns-in_err-put-in-Range : goal.gen_expr-returns-in_err-put-in-Range
gen_expr-returns-in_err-put-in-Range t c =
    at_exit _ _ _ _ c.from_residual-in_err-put-in-Range.ensures.1 (λ u q. c.in_err-put-in-Range.ensures u)

pub gen_expr-returns-in_err-gen_change-in-PostStep : goal.gen_expr-returns-in_err-gen_change-in-PostStep
gen_expr-returns-in_err-gen_change-in-PostStep t c =
    at_exit _ _ _ _ c.from_residual-in_err-gen_change-in-PostStep.ensures.1 (whole _ _ _ _ (ap tree_of c.in-PostStep.is ∙ post_step_tree c.in-PostStep.line c.in-PostStep.step c.in-PostStep.place) (λ u q. c.in_err-gen_change-in-PostStep.ensures u (named_place _ _ c.deref-in-PostStep.ensures (q.0, q.1))))

pub gen_expr-returns-in_err-gen_change-in-PreStep : goal.gen_expr-returns-in_err-gen_change-in-PreStep
gen_expr-returns-in_err-gen_change-in-PreStep t c =
    at_exit _ _ _ _ c.from_residual-in_err-gen_change-in-PreStep.ensures.1 (whole _ _ _ _ (ap tree_of c.in-PreStep.is ∙ pre_step_tree c.in-PreStep.line c.in-PreStep.step c.in-PreStep.place) (λ u q. c.in_err-gen_change-in-PreStep.ensures u (named_place _ _ c.deref-in-PreStep.ensures (q.0, q.1))))

pub gen_expr-returns-in_err-gen_expr-in-Unary : goal.gen_expr-returns-in_err-gen_expr-in-Unary
gen_expr-returns-in_err-gen_expr-in-Unary t c =
    at_exit _ _ _ _ c.from_residual-in_err-gen_expr-in-Unary.ensures.1 (whole _ _ _ _ (ap tree_of c.in-Unary.is ∙ unary_tree c.in-Unary.line c.in-Unary.op c.in-Unary.of) (λ u q. c.in_err-gen_expr-in-Unary.ensures u (named _ _ c.deref-in-Unary.ensures q)))

pub gen_expr-returns-in_err-put-in-Unary : goal.gen_expr-returns-in_err-put-in-Unary
gen_expr-returns-in_err-put-in-Unary t c =
    at_exit _ _ _ _ c.from_residual-in_err-put-in-Unary.ensures.1 (λ u q. c.in_err-put-in-Unary.ensures u)

pub gen_expr-returns-in_err-gen_expr-in-Cast : goal.gen_expr-returns-in_err-gen_expr-in-Cast
gen_expr-returns-in_err-gen_expr-in-Cast t c =
    at_exit _ _ _ _ c.from_residual-in_err-gen_expr-in-Cast.ensures.1 (whole _ _ _ _ (ap tree_of c.in-Cast.is ∙ cast_tree c.in-Cast.line c.in-Cast.to c.in-Cast.of) (λ u q. c.in_err-gen_expr-in-Cast.ensures u (named _ _ c.deref-in-Cast.ensures q)))

pub gen_expr-returns-in_err-gen_expr-in-Binary : goal.gen_expr-returns-in_err-gen_expr-in-Binary
gen_expr-returns-in_err-gen_expr-in-Binary t c =
    at_exit _ _ _ _ c.from_residual-in_err-gen_expr-in-Binary.ensures.1 (whole _ _ _ _ (ap tree_of c.in-Binary.is ∙ binary_tree c.in-Binary.line c.in-Binary.op c.in-Binary.left c.in-Binary.right) (λ u q. c.in_err-gen_expr-in-Binary.ensures u (named _ _ c.deref-in-Binary.ensures q.0)))

pub gen_expr-returns-in_err-gen_expr-in-Binary-2 : goal.gen_expr-returns-in_err-gen_expr-in-Binary-2
gen_expr-returns-in_err-gen_expr-in-Binary-2 t c =
    at_exit _ _ _ _ c.from_residual-in_err-gen_expr-in-Binary-2.ensures.1 (whole _ _ _ _ (ap tree_of c.in-Binary.is ∙ binary_tree c.in-Binary.line c.in-Binary.op c.in-Binary.left c.in-Binary.right) (λ u q. c.in_err-gen_expr-in-Binary-2.ensures u (named _ _ c.deref-in-Binary-2.ensures q.1)))

pub gen_expr-returns-in_err-put-in-Binary : goal.gen_expr-returns-in_err-put-in-Binary
gen_expr-returns-in_err-put-in-Binary t c =
    at_exit _ _ _ _ c.from_residual-in_err-put-in-Binary.ensures.1 (λ u q. c.in_err-put-in-Binary.ensures u)

pub gen_expr-returns-in_err-gen_expr-in-AndThen : goal.gen_expr-returns-in_err-gen_expr-in-AndThen
gen_expr-returns-in_err-gen_expr-in-AndThen t c =
    at_exit _ _ _ _ c.from_residual-in_err-gen_expr-in-AndThen.ensures.1 (whole _ _ _ _ (ap tree_of c.in-AndThen.is ∙ and_then_tree c.in-AndThen.line c.in-AndThen.left c.in-AndThen.right) (λ u q. c.in_err-gen_expr-in-AndThen.ensures u (named _ _ c.deref-in-AndThen.ensures q.0)))

pub gen_expr-returns-in_err-gen_right-in-AndThen : goal.gen_expr-returns-in_err-gen_right-in-AndThen
gen_expr-returns-in_err-gen_right-in-AndThen t c =
    at_exit _ _ _ _ c.from_residual-in_err-gen_right-in-AndThen.ensures.1 (whole _ _ _ _ (ap tree_of c.in-AndThen.is ∙ and_then_tree c.in-AndThen.line c.in-AndThen.left c.in-AndThen.right) (λ u q. c.in_err-gen_right-in-AndThen.ensures u (named _ _ c.deref-in-AndThen-2.ensures q.1)))

pub gen_expr-returns-in_err-gen_expr-in-OrElse : goal.gen_expr-returns-in_err-gen_expr-in-OrElse
gen_expr-returns-in_err-gen_expr-in-OrElse t c =
    at_exit _ _ _ _ c.from_residual-in_err-gen_expr-in-OrElse.ensures.1 (whole _ _ _ _ (ap tree_of c.in-OrElse.is ∙ or_else_tree c.in-OrElse.line c.in-OrElse.left c.in-OrElse.right) (λ u q. c.in_err-gen_expr-in-OrElse.ensures u (named _ _ c.deref-in-OrElse.ensures q.0)))

pub gen_expr-returns-in_err-gen_right-in-OrElse : goal.gen_expr-returns-in_err-gen_right-in-OrElse
gen_expr-returns-in_err-gen_right-in-OrElse t c =
    at_exit _ _ _ _ c.from_residual-in_err-gen_right-in-OrElse.ensures.1 (whole _ _ _ _ (ap tree_of c.in-OrElse.is ∙ or_else_tree c.in-OrElse.line c.in-OrElse.left c.in-OrElse.right) (λ u q. c.in_err-gen_right-in-OrElse.ensures u (named _ _ c.deref-in-OrElse-2.ensures q.1)))

pub gen_expr-returns-in_err-gen_expr-in-Cond : goal.gen_expr-returns-in_err-gen_expr-in-Cond
gen_expr-returns-in_err-gen_expr-in-Cond t c =
    at_exit _ _ _ _ c.from_residual-in_err-gen_expr-in-Cond.ensures.1 (whole _ _ _ _ (ap tree_of c.in-Cond.is ∙ cond_tree c.in-Cond.line c.in-Cond.test c.in-Cond.yes c.in-Cond.no) (λ u q. c.in_err-gen_expr-in-Cond.ensures u (named _ _ c.deref-in-Cond.ensures q.0)))

pub gen_expr-returns-in_err-jump-in-Cond : goal.gen_expr-returns-in_err-jump-in-Cond
gen_expr-returns-in_err-jump-in-Cond t c =
    at_exit _ _ _ _ c.from_residual-in_err-jump-in-Cond.ensures.1 (λ u q. c.in_err-jump-in-Cond.ensures u)

pub gen_expr-returns-in_err-put-in-Cond : goal.gen_expr-returns-in_err-put-in-Cond
gen_expr-returns-in_err-put-in-Cond t c =
    at_exit _ _ _ _ c.from_residual-in_err-put-in-Cond.ensures.1 (λ u q. c.in_err-put-in-Cond.ensures u)

pub gen_expr-returns-in_err-gen_expr-in-Cond-2 : goal.gen_expr-returns-in_err-gen_expr-in-Cond-2
gen_expr-returns-in_err-gen_expr-in-Cond-2 t c =
    at_exit _ _ _ _ c.from_residual-in_err-gen_expr-in-Cond-2.ensures.1 (whole _ _ _ _ (ap tree_of c.in-Cond.is ∙ cond_tree c.in-Cond.line c.in-Cond.test c.in-Cond.yes c.in-Cond.no) (λ u q. c.in_err-gen_expr-in-Cond-2.ensures u (named _ _ c.deref-in-Cond-2.ensures q.1)))

pub gen_expr-returns-in_err-over-in-Cond : goal.gen_expr-returns-in_err-over-in-Cond
gen_expr-returns-in_err-over-in-Cond t c =
    at_exit _ _ _ _ c.from_residual-in_err-over-in-Cond.ensures.1 (λ u q. c.in_err-over-in-Cond.ensures u)

pub gen_expr-returns-in_err-put-in-Cond-2 : goal.gen_expr-returns-in_err-put-in-Cond-2
gen_expr-returns-in_err-put-in-Cond-2 t c =
    at_exit _ _ _ _ c.from_residual-in_err-put-in-Cond-2.ensures.1 (λ u q. c.in_err-put-in-Cond-2.ensures u)

pub gen_expr-returns-in_err-other-in-Cond : goal.gen_expr-returns-in_err-other-in-Cond
gen_expr-returns-in_err-other-in-Cond t c =
    at_exit _ _ _ _ c.from_residual-in_err-other-in-Cond.ensures.1 (λ u q. c.in_err-other-in-Cond.ensures u)

pub gen_expr-returns-in_err-gen_expr-in-Cond-3 : goal.gen_expr-returns-in_err-gen_expr-in-Cond-3
gen_expr-returns-in_err-gen_expr-in-Cond-3 t c =
    at_exit _ _ _ _ c.from_residual-in_err-gen_expr-in-Cond-3.ensures.1 (whole _ _ _ _ (ap tree_of c.in-Cond.is ∙ cond_tree c.in-Cond.line c.in-Cond.test c.in-Cond.yes c.in-Cond.no) (λ u q. c.in_err-gen_expr-in-Cond-3.ensures u (named _ _ c.deref-in-Cond-3.ensures q.2)))

pub gen_expr-returns-in_err-end-in-Cond : goal.gen_expr-returns-in_err-end-in-Cond
gen_expr-returns-in_err-end-in-Cond t c =
    at_exit _ _ _ _ c.from_residual-in_err-end-in-Cond.ensures.1 (λ u q. c.in_err-end-in-Cond.ensures u)

pub gen_expr-returns-in_err-gen_expr-in-Set : goal.gen_expr-returns-in_err-gen_expr-in-Set
gen_expr-returns-in_err-gen_expr-in-Set t c =
    at_exit _ _ _ _ c.from_residual-in_err-gen_expr-in-Set.ensures.1 (whole _ _ _ _ (ap tree_of c.in-Assign.is ∙ assign_tree c.in-Assign.line c.in-Assign.op c.in-Assign.place c.in-Assign.value) (λ u q. c.in_err-gen_expr-in-Set.ensures u (named _ _ c.deref-in-Set.ensures q.2)))

pub gen_expr-returns-in_err-gen_write-in-Set : goal.gen_expr-returns-in_err-gen_write-in-Set
gen_expr-returns-in_err-gen_write-in-Set t c =
    at_exit _ _ _ _ c.from_residual-in_err-gen_write-in-Set.ensures.1 (whole _ _ _ _ (ap tree_of c.in-Assign.is ∙ assign_tree c.in-Assign.line c.in-Assign.op c.in-Assign.place c.in-Assign.value) (λ u q. c.in_err-gen_write-in-Set.ensures u (named_place _ _ c.deref-in-Set-2.ensures (q.0, q.1))))

pub gen_expr-returns-in_err-gen_open-in-Logic : goal.gen_expr-returns-in_err-gen_open-in-Logic
gen_expr-returns-in_err-gen_open-in-Logic t c =
    at_exit _ _ _ _ c.from_residual-in_err-gen_open-in-Logic.ensures.1 (whole _ _ _ _ (ap tree_of c.in-Assign.is ∙ assign_tree c.in-Assign.line c.in-Assign.op c.in-Assign.place c.in-Assign.value) (λ u q. c.in_err-gen_open-in-Logic.ensures u (named_place _ _ c.deref-in-Logic.ensures (q.0, q.1))))

pub gen_expr-returns-in_err-gen_right-in-Logic : goal.gen_expr-returns-in_err-gen_right-in-Logic
gen_expr-returns-in_err-gen_right-in-Logic t c =
    at_exit _ _ _ _ c.from_residual-in_err-gen_right-in-Logic.ensures.1 (whole _ _ _ _ (ap tree_of c.in-Assign.is ∙ assign_tree c.in-Assign.line c.in-Assign.op c.in-Assign.place c.in-Assign.value) (λ u q. c.in_err-gen_right-in-Logic.ensures u (named _ _ c.deref-in-Logic-2.ensures q.2)))

pub gen_expr-returns-in_err-gen_close-in-Logic : goal.gen_expr-returns-in_err-gen_close-in-Logic
gen_expr-returns-in_err-gen_close-in-Logic t c =
    at_exit _ _ _ _ c.from_residual-in_err-gen_close-in-Logic.ensures.1 (whole _ _ _ _ (ap tree_of c.in-Assign.is ∙ assign_tree c.in-Assign.line c.in-Assign.op c.in-Assign.place c.in-Assign.value) (λ u q. c.in_err-gen_close-in-Logic.ensures u (named_place _ _ c.deref-in-Logic-3.ensures (q.0, q.1))))

pub gen_expr-returns-in_err-gen_expr-in-Compound : goal.gen_expr-returns-in_err-gen_expr-in-Compound
gen_expr-returns-in_err-gen_expr-in-Compound t c =
    at_exit _ _ _ _ c.from_residual-in_err-gen_expr-in-Compound.ensures.1 (whole _ _ _ _ (ap tree_of c.in-Assign.is ∙ assign_tree c.in-Assign.line c.in-Assign.op c.in-Assign.place c.in-Assign.value) (λ u q. c.in_err-gen_expr-in-Compound.ensures u (named _ _ c.deref-in-Compound.ensures q.2)))

pub gen_expr-returns-in_err-gen_change-in-Compound : goal.gen_expr-returns-in_err-gen_change-in-Compound
gen_expr-returns-in_err-gen_change-in-Compound t c =
    at_exit _ _ _ _ c.from_residual-in_err-gen_change-in-Compound.ensures.1 (whole _ _ _ _ (ap tree_of c.in-Assign.is ∙ assign_tree c.in-Assign.line c.in-Assign.op c.in-Assign.place c.in-Assign.value) (λ u q. c.in_err-gen_change-in-Compound.ensures u (named_place _ _ c.deref-in-Compound-2.ensures (q.0, q.1))))

pub gen_expr-returns-in_err-gen_parts-in-Sequence : goal.gen_expr-returns-in_err-gen_parts-in-Sequence
gen_expr-returns-in_err-gen_parts-in-Sequence t c =
    at_exit _ _ _ _ c.from_residual-in_err-gen_parts-in-Sequence.ensures.1 (whole _ _ _ _ (ap tree_of c.in-Sequence.is ∙ sequence_tree _ c.in-Sequence.parts) (λ u q. c.in_err-gen_parts-in-Sequence.ensures u (q.1)))

pub gen_expr-returns-then-is_empty : goal.gen_expr-returns-then-is_empty
gen_expr-returns-then-is_empty t c =
    whole _ _ _ _ (ap tree_of c.in-Sequence.is ∙ sequence_tree _ c.in-Sequence.parts) (λ u q. q.0 (no_trees c.in-Sequence.parts.items c.in-Sequence.parts.ok.0 c.is_empty.ensures c.if-is_empty.true))

pub gen_all-returns-in_err-gen_expr : goal.gen_all-returns-in_err-gen_expr
gen_all-returns-in_err-gen_expr t c =
    let all = c.args.all.now.items in
    let i = c.loop-e.e-index in
    let x = c.e-item.result in
    let lt : i < length all = omega (arith, ap length c.deref-e-items.ensures.value) in
    let is : get_or all i x ≡ x = ap (λ l. get_or l i x) (sym c.deref-e-items.ensures.value) ∙ sym c.e-item.is in
    at_exit _ _ _ _ c.from_residual.ensures.1 (λ u q. c.in_err-gen_expr.ensures u (one_clear (layout_of c.args.scope.now.layout) c.args.scope.now.locals.items all i x lt is q))

pub gen_pairs-returns-in_err-gen_expr : goal.gen_pairs-returns-in_err-gen_expr
gen_pairs-returns-in_err-gen_expr t c =
    let all = c.args.pairs.now.items in
    let i = c.loop-pair.pair-index in
    let x = c.pair-item.result in
    let lt : i < length all = omega (arith, ap length c.deref-pair-items.ensures.value) in
    let is : get_or all i x ≡ x = ap (λ l. get_or l i x) (sym c.deref-pair-items.ensures.value) ∙ sym c.pair-item.is in
    at_exit _ _ _ _ c.from_residual.ensures.1 (λ u q. c.in_err-gen_expr.ensures u ((one_pair (layout_of c.args.scope.now.layout) c.args.scope.now.locals.items all i x lt is q).0))

pub gen_pairs-returns-in_err-gen_expr-2 : goal.gen_pairs-returns-in_err-gen_expr-2
gen_pairs-returns-in_err-gen_expr-2 t c =
    let all = c.args.pairs.now.items in
    let i = c.loop-pair.pair-index in
    let x = c.pair-item.result in
    let lt : i < length all = omega (arith, ap length c.deref-pair-items.ensures.value) in
    let is : get_or all i x ≡ x = ap (λ l. get_or l i x) (sym c.deref-pair-items.ensures.value) ∙ sym c.pair-item.is in
    at_exit _ _ _ _ c.from_residual-in_err-gen_expr-2.ensures.1 (λ u q. c.in_err-gen_expr-2.ensures u ((one_pair (layout_of c.args.scope.now.layout) c.args.scope.now.locals.items all i x lt is q).1))

pub gen_parts-returns-in_err-gen_part : goal.gen_parts-returns-in_err-gen_part
gen_parts-returns-in_err-gen_part t c =
    let all = c.args.parts.now.items in
    let i = c.loop-i.i in
    let x = c.part-item.result in
    let lt : i < length all = omega (arith, c.loop-i-test.true, ap length c.deref-part-items.ensures.value) in
    let is : get_or all i x ≡ x = ap (λ l. get_or l i x) (sym c.deref-part-items.ensures.value) ∙ sym c.part-item.is in
    at_exit _ _ _ _ c.from_residual.ensures.1 (λ u q. c.in_err-gen_part.ensures u (one_clear (layout_of c.args.scope.now.layout) c.args.scope.now.locals.items all i x lt is q))

pub gen_scanned-returns-in_err-gen_scanned_one : goal.gen_scanned-returns-in_err-gen_scanned_one
gen_scanned-returns-in_err-gen_scanned_one t c =
    let all = c.args.places.now.items in
    let i = c.loop-place.place-index in
    let x = c.place-item.result in
    let lt : i < length all = omega (arith, ap length c.deref-place-items.ensures.value) in
    let is : get_or all i x ≡ x = ap (λ l. get_or l i x) (sym c.deref-place-items.ensures.value) ∙ sym c.place-item.is in
    at_exit _ _ _ _ c.from_residual.ensures.1 (λ u q. c.in_err-gen_scanned_one.ensures u (one_place (layout_of c.args.scope.now.layout) c.args.scope.now.locals.items all i x lt is q))

pub gen_part-returns-in_err-gen_expr : goal.gen_part-returns-in_err-gen_expr
gen_part-returns-in_err-gen_expr t c =
    at_exit _ _ _ _ c.from_residual.ensures.1 (λ u q. c.in_err-gen_expr.ensures u q)

pub gen_part-returns-in_err-put : goal.gen_part-returns-in_err-put
gen_part-returns-in_err-put t c =
    at_exit _ _ _ _ c.from_residual-in_err-put.ensures.1 (λ u q. c.in_err-put.ensures u)

pub gen_part-returns-in_err-gen_expr-2 : goal.gen_part-returns-in_err-gen_expr-2
gen_part-returns-in_err-gen_expr-2 t c =
    at_exit _ _ _ _ c.from_residual-in_err-gen_expr-2.ensures.1 (λ u q. c.in_err-gen_expr-2.ensures u q)

pub gen_write-returns-in_err-gen_write_slot-in-Name : goal.gen_write-returns-in_err-gen_write_slot-in-Name
gen_write-returns-in_err-gen_write_slot-in-Name t c =
    at_exit _ _ _ _ c.from_residual.ensures.1 (whole_place _ _ _ _ (ap tree_of c.in-Name.is ∙ name_tree c.in-Name.line c.in-Name.name) (λ u q. c.in_err-gen_write_slot-in-Name.ensures u (q)))

pub gen_write-returns-in_err-gen_expr-in-Index : goal.gen_write-returns-in_err-gen_expr-in-Index
gen_write-returns-in_err-gen_expr-in-Index t c =
    at_exit _ _ _ _ c.from_residual-in_err-gen_expr-in-Index.ensures.1 (whole_place _ _ _ _ (ap tree_of c.in-Index.is ∙ index_tree c.in-Index.line c.in-Index.of c.in-Index.edge c.in-Index.at) (λ u q. c.in_err-gen_expr-in-Index.ensures u (named _ _ c.deref.ensures q.0)))

pub gen_write-returns-in_err-gen_expr-in-Index-2 : goal.gen_write-returns-in_err-gen_expr-in-Index-2
gen_write-returns-in_err-gen_expr-in-Index-2 t c =
    at_exit _ _ _ _ c.from_residual-in_err-gen_expr-in-Index-2.ensures.1 (whole_place _ _ _ _ (ap tree_of c.in-Index.is ∙ index_tree c.in-Index.line c.in-Index.of c.in-Index.edge c.in-Index.at) (λ u q. c.in_err-gen_expr-in-Index-2.ensures u (named _ _ c.deref-in-Index.ensures q.1)))

pub gen_write-returns-in_err-put_all-in-Index : goal.gen_write-returns-in_err-put_all-in-Index
gen_write-returns-in_err-put_all-in-Index t c =
    at_exit _ _ _ _ c.from_residual-in_err-put_all-in-Index.ensures.1 (λ u q. c.in_err-put_all-in-Index.ensures u)

pub gen_write-returns-in_default : goal.gen_write-returns-in_default
gen_write-returns-in_default t c = λ u q. no_place _ c.in_default.not-Name c.in_default.not-Index q.0

pub gen_open-returns-in_err-gen_read-in-Name : goal.gen_open-returns-in_err-gen_read-in-Name
gen_open-returns-in_err-gen_read-in-Name t c =
    at_exit _ _ _ _ c.from_residual.ensures.1 (whole_place _ _ _ _ (ap tree_of c.in-Name.is ∙ name_tree c.in-Name.line c.in-Name.name) (λ u q. c.in_err-gen_read-in-Name.ensures u (q)))

pub gen_open-returns-in_err-gen_expr-in-Index : goal.gen_open-returns-in_err-gen_expr-in-Index
gen_open-returns-in_err-gen_expr-in-Index t c =
    at_exit _ _ _ _ c.from_residual-in_err-gen_expr-in-Index.ensures.1 (whole_place _ _ _ _ (ap tree_of c.in-Index.is ∙ index_tree c.in-Index.line c.in-Index.of c.in-Index.edge c.in-Index.at) (λ u q. c.in_err-gen_expr-in-Index.ensures u (named _ _ c.deref.ensures q.0)))

pub gen_open-returns-in_err-gen_expr-in-Index-2 : goal.gen_open-returns-in_err-gen_expr-in-Index-2
gen_open-returns-in_err-gen_expr-in-Index-2 t c =
    at_exit _ _ _ _ c.from_residual-in_err-gen_expr-in-Index-2.ensures.1 (whole_place _ _ _ _ (ap tree_of c.in-Index.is ∙ index_tree c.in-Index.line c.in-Index.of c.in-Index.edge c.in-Index.at) (λ u q. c.in_err-gen_expr-in-Index-2.ensures u (named _ _ c.deref-in-Index.ensures q.1)))

pub gen_open-returns-in_err-put_all-in-Index : goal.gen_open-returns-in_err-put_all-in-Index
gen_open-returns-in_err-put_all-in-Index t c =
    at_exit _ _ _ _ c.from_residual-in_err-put_all-in-Index.ensures.1 (λ u q. c.in_err-put_all-in-Index.ensures u)

pub gen_open-returns-in_default : goal.gen_open-returns-in_default
gen_open-returns-in_default t c = λ u q. no_place _ c.in_default.not-Name c.in_default.not-Index q.0

pub gen_change-returns-in_err-gen_read-in-Name : goal.gen_change-returns-in_err-gen_read-in-Name
gen_change-returns-in_err-gen_read-in-Name t c =
    at_exit _ _ _ _ c.from_residual.ensures.1 (whole_place _ _ _ _ (ap tree_of c.in-Name.is ∙ name_tree c.in-Name.line c.in-Name.name) (λ u q. c.in_err-gen_read-in-Name.ensures u (q)))

pub gen_change-returns-in_err-put_all-in-Name : goal.gen_change-returns-in_err-put_all-in-Name
gen_change-returns-in_err-put_all-in-Name t c =
    at_exit _ _ _ _ c.from_residual-in_err-put_all-in-Name.ensures.1 (λ u q. c.in_err-put_all-in-Name.ensures u)

pub gen_change-returns-in_err-gen_write_slot-in-Name : goal.gen_change-returns-in_err-gen_write_slot-in-Name
gen_change-returns-in_err-gen_write_slot-in-Name t c =
    at_exit _ _ _ _ c.from_residual-in_err-gen_write_slot-in-Name.ensures.1 (whole_place _ _ _ _ (ap tree_of c.in-Name.is ∙ name_tree c.in-Name.line c.in-Name.name) (λ u q. c.in_err-gen_write_slot-in-Name.ensures u (q)))

pub gen_change-returns-in_err-put_all-in-Name-2 : goal.gen_change-returns-in_err-put_all-in-Name-2
gen_change-returns-in_err-put_all-in-Name-2 t c =
    at_exit _ _ _ _ c.from_residual-in_err-put_all-in-Name-2.ensures.1 (λ u q. c.in_err-put_all-in-Name-2.ensures u)

pub gen_change-returns-in_err-gen_expr-in-Index : goal.gen_change-returns-in_err-gen_expr-in-Index
gen_change-returns-in_err-gen_expr-in-Index t c =
    at_exit _ _ _ _ c.from_residual-in_err-gen_expr-in-Index.ensures.1 (whole_place _ _ _ _ (ap tree_of c.in-Index.is ∙ index_tree c.in-Index.line c.in-Index.of c.in-Index.edge c.in-Index.at) (λ u q. c.in_err-gen_expr-in-Index.ensures u (named _ _ c.deref.ensures q.0)))

pub gen_change-returns-in_err-gen_expr-in-Index-2 : goal.gen_change-returns-in_err-gen_expr-in-Index-2
gen_change-returns-in_err-gen_expr-in-Index-2 t c =
    at_exit _ _ _ _ c.from_residual-in_err-gen_expr-in-Index-2.ensures.1 (whole_place _ _ _ _ (ap tree_of c.in-Index.is ∙ index_tree c.in-Index.line c.in-Index.of c.in-Index.edge c.in-Index.at) (λ u q. c.in_err-gen_expr-in-Index-2.ensures u (named _ _ c.deref-in-Index.ensures q.1)))

pub gen_change-returns-in_err-put_all-in-Index : goal.gen_change-returns-in_err-put_all-in-Index
gen_change-returns-in_err-put_all-in-Index t c =
    at_exit _ _ _ _ c.from_residual-in_err-put_all-in-Index.ensures.1 (λ u q. c.in_err-put_all-in-Index.ensures u)

pub gen_change-returns-in_err-put_all-in-Index-2 : goal.gen_change-returns-in_err-put_all-in-Index-2
gen_change-returns-in_err-put_all-in-Index-2 t c =
    at_exit _ _ _ _ c.from_residual-in_err-put_all-in-Index-2.ensures.1 (λ u q. c.in_err-put_all-in-Index-2.ensures u)

pub gen_change-returns-in_err-put-in-Index : goal.gen_change-returns-in_err-put-in-Index
gen_change-returns-in_err-put-in-Index t c =
    at_exit _ _ _ _ c.from_residual-in_err-put-in-Index.ensures.1 (λ u q. c.in_err-put-in-Index.ensures u)

pub gen_change-returns-in_err-put_all-in-Index-3 : goal.gen_change-returns-in_err-put_all-in-Index-3
gen_change-returns-in_err-put_all-in-Index-3 t c =
    at_exit _ _ _ _ c.from_residual-in_err-put_all-in-Index-3.ensures.1 (λ u q. c.in_err-put_all-in-Index-3.ensures u)

pub gen_change-returns-in_default : goal.gen_change-returns-in_default
gen_change-returns-in_default t c = λ u q. no_place _ c.in_default.not-Name c.in_default.not-Index q.0

pub gen_right-returns-in_err-jump : goal.gen_right-returns-in_err-jump
gen_right-returns-in_err-jump t c =
    at_exit _ _ _ _ c.from_residual.ensures.1 (λ u q. c.in_err-jump.ensures u)

pub gen_right-returns-in_err-put : goal.gen_right-returns-in_err-put
gen_right-returns-in_err-put t c =
    at_exit _ _ _ _ c.from_residual-in_err-put.ensures.1 (λ u q. c.in_err-put.ensures u)

pub gen_right-returns-in_err-gen_expr : goal.gen_right-returns-in_err-gen_expr
gen_right-returns-in_err-gen_expr t c =
    at_exit _ _ _ _ c.from_residual-in_err-gen_expr.ensures.1 (λ u q. c.in_err-gen_expr.ensures u q)

pub gen_right-returns-in_err-end : goal.gen_right-returns-in_err-end
gen_right-returns-in_err-end t c =
    at_exit _ _ _ _ c.from_residual-in_err-end.ensures.1 (λ u q. c.in_err-end.ensures u)

pub gen_end-returns-in_err-gen_expr-in-At : goal.gen_end-returns-in_err-gen_expr-in-At
gen_end-returns-in_err-gen_expr-in-At t c =
    at_exit _ _ _ _ c.from_residual.ensures.1 (λ u q. c.in_err-gen_expr-in-At.ensures u (named _ _ c.deref.ensures (subst (IsBoundClear (layout_of c.args.scope.now.layout) c.args.scope.now.locals.items) c.in-At.is q)))

pub gen_scanned_one-returns-in_err-jump : goal.gen_scanned_one-returns-in_err-jump
gen_scanned_one-returns-in_err-jump t c =
    at_exit _ _ _ _ c.from_residual.ensures.1 (λ u q. c.in_err-jump.ensures u)

pub gen_scanned_one-returns-in_err-put : goal.gen_scanned_one-returns-in_err-put
gen_scanned_one-returns-in_err-put t c =
    at_exit _ _ _ _ c.from_residual-in_err-put.ensures.1 (λ u q. c.in_err-put.ensures u)

pub gen_scanned_one-returns-in_err-gen_write : goal.gen_scanned_one-returns-in_err-gen_write
gen_scanned_one-returns-in_err-gen_write t c =
    at_exit _ _ _ _ c.from_residual-in_err-gen_write.ensures.1 (λ u q. c.in_err-gen_write.ensures u q)

pub gen_scanned_one-returns-in_err-end : goal.gen_scanned_one-returns-in_err-end
gen_scanned_one-returns-in_err-end t c =
    at_exit _ _ _ _ c.from_residual-in_err-end.ensures.1 (λ u q. c.in_err-end.ensures u)

pub gen_scanned_one-returns-in_err-put-2 : goal.gen_scanned_one-returns-in_err-put-2
gen_scanned_one-returns-in_err-put-2 t c =
    at_exit _ _ _ _ c.from_residual-in_err-put-2.ensures.1 (λ u q. c.in_err-put-2.ensures u)
