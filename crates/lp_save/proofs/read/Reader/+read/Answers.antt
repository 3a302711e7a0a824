use Rattle.std.proofs.Common.{◌≡◌, ◌+◌, ◌-◌, ◌<◌, ◌≤◌, List, drop, true, length, ap, subst, sym, ◌∙◌, arith}
use Rattle.std.specs.Option.{SomeIff}
use Rattle.lp_values.specs.declared.value.Value.{Value}
use Rattle.lp_cells.specs.declared.content.Content.TheVariants as content
use Rattle.std.proofs.lemmas.Result.{err_from_is_err_and}
use Rattle.lp_save.specs.Desks.{desk_begun, desk_filled}
use Rattle.lp_save.specs.Reading.{cell_at}
use Rattle.lp_save.proofs.DeskLemmas.{above_limit, answers_err, array_failed, array_read, colon_failed, comma_failed, item_failed, items_end, items_long, items_more, key_failed, mapping_failed, mapping_read, no_cell, numbered_large, pair_comma_failed, pairs_long, pairs_more, share_read, text_read, value_failed}
use Rattle.lp_save.proofs.read.Reader.+read.Goals as goal

pub read_value-returns-then-begins : goal.read_value-returns-then-begins
read_value-returns-then-begins t c =
    share_read c.args.steps c.args.levels c.args.self.now c.skip.new.self c.read_share.new.self c.read_share.result (omega arith) (sym c.begins.ensures.value ∙ c.if-begins.true) c.skip.ensures c.read_share.ensures

pub read_value-returns-then-begins-4 : goal.read_value-returns-then-begins-4
read_value-returns-then-begins-4 t c =
    text_read c.args.steps c.args.levels c.args.self.now c.skip-then-begins-4.new.self c.read_text.new.self c.read_text.result (omega arith) (sym c.begins.ensures.value ∙ c.if-begins.false)
    (no_cell _ _ (sym c.begins-2.ensures.value ∙ c.if-begins-2.false) (sym c.begins-else-begins-2.ensures.value ∙ c.if-begins-3.false)) (sym c.begins-3.ensures.value ∙ c.if-begins-4.true) c.skip-then-begins-4.ensures c.read_text.ensures

pub read_numbered-returns-in-None : goal.read_numbered-returns-in-None
read_numbered-returns-in-None t c = λ k none.
    let shared = c.self.inside.shared in
    let same : length shared.items ≡ length c.args.self.now.shared = ap (λ d. length d.shared) c.self.view_is in
    let no : k ≤ 9223372036854775808 → ⊥ = subst (λ o. SomeIff o (k ≤ 9223372036854775808) k) c.in-None.is none in
    let large : 9223372036854775808 < k = above_limit 9223372036854775808 k no in
    numbered_large (λ r. cell_at c.args.steps c.args.levels true r) k c.args.self.now (omega (arith, shared.ok.0, shared.ok.1, shared.small))

pub read_array-returns-in_err-items : goal.read_array-returns-in_err-items
read_array-returns-in_err-items t c =
    let p = err_from_is_err_and c.from_residual-in_err-items.result c.from_residual-in_err-items.ensures.1 in
    let e = c.in_err-items.field-0.0 in
    answers_err (λ v. v) c.from_residual-in_err-items.result e p.0 c.args.self.now c.read_items.new.self _ p.1 p.2
    (array_failed c.args.steps c.args.levels c.args.is_shared c.args.self.now c.begin_cell-2.new.self e (omega (arith, c.requires.some)) (omega (arith, c.requires.some)) c.requires.begins (c.in_ok-place.ensures.begun.1 ∙ ap (λ (xs : List Value). desk_begun c.args.is_shared (drop 2 c.args.self.now.text) (content.Array xs) c.args.self.now) (c.from_vec.ensures ∙ c.new.ensures.items)) c.in_err-items.ensures)

pub read_array-returns : goal.read_array-returns
read_array-returns t c =
    array_read c.args.steps c.args.levels c.args.is_shared c.args.self.now c.begin_cell-2.new.self c.read_items.new.self c.fill.new.self c.in_ok-place.place c.cell-c.result c.in_ok-items.items.items
    (omega (arith, c.requires.some)) (omega (arith, c.requires.some)) c.requires.begins c.in_ok-place.ensures.begun.0
    (c.in_ok-place.ensures.begun.1 ∙ ap (λ (xs : List Value). desk_begun c.args.is_shared (drop 2 c.args.self.now.text) (content.Array xs) c.args.self.now) (c.from_vec.ensures ∙ c.new.ensures.items)) c.cell-c.ensures c.in_ok-items.ensures
    (c.fill.ensures ∙ ap (λ (xs : List Value). desk_filled c.in_ok-place.place (content.Array xs) c.read_items.new.self) c.from_vec-2.ensures)

pub read_mapping-returns-in_err-pairs : goal.read_mapping-returns-in_err-pairs
read_mapping-returns-in_err-pairs t c =
    let p = err_from_is_err_and c.from_residual-in_err-pairs.result c.from_residual-in_err-pairs.ensures.1 in
    let e = c.in_err-pairs.field-0.0 in
    answers_err (λ v. v) c.from_residual-in_err-pairs.result e p.0 c.args.self.now c.read_pairs.new.self _ p.1 p.2
    (mapping_failed c.args.steps c.args.levels c.args.is_shared c.args.self.now c.begin_cell-2.new.self e (omega (arith, c.requires.some)) (omega (arith, c.requires.some)) c.requires.no_array c.requires.begins (c.in_ok-place.ensures.begun.1 ∙ ap (λ (xs : List (Value × Value)). desk_begun c.args.is_shared (drop 2 c.args.self.now.text) (content.Mapping xs) c.args.self.now) c.new.ensures) c.in_err-pairs.ensures)

pub read_mapping-returns : goal.read_mapping-returns
read_mapping-returns t c =
    mapping_read c.args.steps c.args.levels c.args.is_shared c.args.self.now c.begin_cell-2.new.self c.read_pairs.new.self c.fill.new.self c.in_ok-place.place c.cell-c.result c.in_ok-pairs.pairs
    (omega (arith, c.requires.some)) (omega (arith, c.requires.some)) c.requires.no_array c.requires.begins c.in_ok-place.ensures.begun.0
    (c.in_ok-place.ensures.begun.1 ∙ ap (λ (xs : List (Value × Value)). desk_begun c.args.is_shared (drop 2 c.args.self.now.text) (content.Mapping xs) c.args.self.now) c.new.ensures) c.cell-c.ensures c.in_ok-pairs.ensures c.fill.ensures

pub read_items-returns-then-begins : goal.read_items-returns-then-begins
read_items-returns-then-begins t c =
    items_end (c.args.steps - c.loop-i.i) c.args.levels c.loop-i.items.items c.args.self.now c.loop-i.self _ (omega arith) c.loop-i.invariant.same c.loop-i.invariant.base c.skip.new.self (sym c.begins.ensures.value ∙ c.if-begins.true) c.skip.ensures

pub read_items-returns-in_err-v : goal.read_items-returns-in_err-v
read_items-returns-in_err-v t c =
    let p = err_from_is_err_and c.from_residual.result c.from_residual.ensures.1 in
    let e = c.in_err-v.field-0.0 in
    answers_err (λ vs. vs.items) c.from_residual.result e p.0 c.args.self.now c.read_value.new.self _ p.1 p.2
    (item_failed (c.args.steps - c.loop-i.i) c.args.levels c.loop-i.items.items c.args.self.now c.loop-i.self _ (omega arith) c.loop-i.invariant.same c.loop-i.invariant.base e (sym c.begins.ensures.value ∙ c.if-begins.false) c.in_err-v.ensures)

pub read_items-returns-then-len-ge-MAX_ITEMS : goal.read_items-returns-then-len-ge-MAX_ITEMS
read_items-returns-then-len-ge-MAX_ITEMS t c =
    items_long (c.args.steps - c.loop-i.i) c.args.levels c.loop-i.items.items c.args.self.now c.loop-i.self _ (omega arith) c.loop-i.invariant.same c.loop-i.invariant.base c.in_ok-v.v c.read_value.new.self (sym c.begins.ensures.value ∙ c.if-begins.false) c.in_ok-v.ensures.0 (omega (arith, c.loop-i.items.ok.0))

pub read_items-returns-in_err-need : goal.read_items-returns-in_err-need
read_items-returns-in_err-need t c =
    let p = err_from_is_err_and c.from_residual-in_err-need.result c.from_residual-in_err-need.ensures.1 in
    let e = c.in_err-need.field-0.0 in
    answers_err (λ vs. vs.items) c.from_residual-in_err-need.result e p.0 c.args.self.now c.need.new.self _ p.1 p.2
    (comma_failed (c.args.steps - c.loop-i.i) c.args.levels c.loop-i.items.items c.args.self.now c.loop-i.self _ (omega arith) c.loop-i.invariant.same c.loop-i.invariant.base e c.in_ok-v.v c.read_value.new.self (sym c.begins.ensures.value ∙ c.if-begins.false) c.in_ok-v.ensures.0 (omega (arith, c.loop-i.items.ok.0)) c.in_err-need.ensures)

pub read_items-loop-i-preserved : goal.read_items-loop-i-preserved
read_items-loop-i-preserved t c =
    let p = items_more (c.args.steps - c.loop-i.i) c.args.levels c.loop-i.items.items c.args.self.now c.loop-i.self _ (omega arith) c.loop-i.invariant.same c.loop-i.invariant.base (c.args.steps - (c.loop-i.i + 1)) c.in_ok-v.v c.push.new.self.items c.read_value.new.self c.need.new.self
    (omega arith) (sym c.begins.ensures.value ∙ c.if-begins.false) c.in_ok-v.ensures.0 c.in_ok-v.ensures.1 (omega (arith, c.loop-i.items.ok.0)) c.in_ok-need.ensures.0 c.in_ok-need.ensures.1 c.in_ok-push.ensures.items in
    record { same = p.0; base = p.1 }

pub read_pairs-returns-in_err-key : goal.read_pairs-returns-in_err-key
read_pairs-returns-in_err-key t c =
    let p = err_from_is_err_and c.from_residual.result c.from_residual.ensures.1 in
    let e = c.in_err-key.field-0.0 in
    answers_err (λ ps. ps) c.from_residual.result e p.0 c.args.self.now c.read_value.new.self _ p.1 p.2
    (key_failed (c.args.steps - c.loop-i.i) c.args.levels c.loop-i.pairs c.args.self.now c.loop-i.self _ (omega arith) c.loop-i.invariant.same c.loop-i.invariant.base e (sym c.begins.ensures.value ∙ c.if-begins.false) c.in_err-key.ensures)

pub read_pairs-returns-in_err-need : goal.read_pairs-returns-in_err-need
read_pairs-returns-in_err-need t c =
    let p = err_from_is_err_and c.from_residual-in_err-need.result c.from_residual-in_err-need.ensures.1 in
    let e = c.in_err-need.field-0.0 in
    answers_err (λ ps. ps) c.from_residual-in_err-need.result e p.0 c.args.self.now c.need.new.self _ p.1 p.2
    (colon_failed (c.args.steps - c.loop-i.i) c.args.levels c.loop-i.pairs c.args.self.now c.loop-i.self _ (omega arith) c.loop-i.invariant.same c.loop-i.invariant.base c.in_ok-key.key c.read_value.new.self (sym c.begins.ensures.value ∙ c.if-begins.false) c.in_ok-key.ensures.0 e c.in_err-need.ensures)

pub read_pairs-returns-in_err-v : goal.read_pairs-returns-in_err-v
read_pairs-returns-in_err-v t c =
    let p = err_from_is_err_and c.from_residual-in_err-v.result c.from_residual-in_err-v.ensures.1 in
    let e = c.in_err-v.field-0.0 in
    answers_err (λ ps. ps) c.from_residual-in_err-v.result e p.0 c.args.self.now c.read_value-in-loop-i.new.self _ p.1 p.2
    (value_failed (c.args.steps - c.loop-i.i) c.args.levels c.loop-i.pairs c.args.self.now c.loop-i.self _ (omega arith) c.loop-i.invariant.same c.loop-i.invariant.base c.in_ok-key.key c.read_value.new.self (sym c.begins.ensures.value ∙ c.if-begins.false) c.in_ok-key.ensures.0 c.need.new.self c.in_ok-need.ensures.0 e c.in_err-v.ensures)

pub read_pairs-returns-then-len-gt-MAX_ITEMS : goal.read_pairs-returns-then-len-gt-MAX_ITEMS
read_pairs-returns-then-len-gt-MAX_ITEMS t c =
    pairs_long (c.args.steps - c.loop-i.i) c.args.levels c.loop-i.pairs c.args.self.now c.loop-i.self _ (omega arith) c.loop-i.invariant.same c.loop-i.invariant.base c.in_ok-key.key c.read_value.new.self (sym c.begins.ensures.value ∙ c.if-begins.false) c.in_ok-key.ensures.0 c.need.new.self c.in_ok-need.ensures.0 c.in_ok-v.v c.read_value-in-loop-i.new.self c.in_ok-v.ensures.0 c.put.new.self c.in_ok-put.ensures.ok (omega arith)

pub read_pairs-returns-in_err-need-2 : goal.read_pairs-returns-in_err-need-2
read_pairs-returns-in_err-need-2 t c =
    let p = err_from_is_err_and c.from_residual-in_err-need-2.result c.from_residual-in_err-need-2.ensures.1 in
    let e = c.in_err-need-2.field-0.0 in
    answers_err (λ ps. ps) c.from_residual-in_err-need-2.result e p.0 c.args.self.now c.need-in-loop-i.new.self _ p.1 p.2
    (pair_comma_failed (c.args.steps - c.loop-i.i) c.args.levels c.loop-i.pairs c.args.self.now c.loop-i.self _ (omega arith) c.loop-i.invariant.same c.loop-i.invariant.base c.in_ok-key.key c.read_value.new.self (sym c.begins.ensures.value ∙ c.if-begins.false) c.in_ok-key.ensures.0 c.need.new.self c.in_ok-need.ensures.0 c.in_ok-v.v c.read_value-in-loop-i.new.self c.in_ok-v.ensures.0 c.put.new.self c.in_ok-put.ensures.ok e (omega arith) c.in_err-need-2.ensures)

pub read_pairs-loop-i-preserved : goal.read_pairs-loop-i-preserved
read_pairs-loop-i-preserved t c =
    let p = pairs_more (c.args.steps - c.loop-i.i) c.args.levels c.loop-i.pairs c.args.self.now c.loop-i.self _ (omega arith) c.loop-i.invariant.same c.loop-i.invariant.base c.in_ok-key.key c.read_value.new.self (sym c.begins.ensures.value ∙ c.if-begins.false) c.in_ok-key.ensures.0 c.need.new.self c.in_ok-need.ensures.0 c.in_ok-v.v c.read_value-in-loop-i.new.self c.in_ok-v.ensures.0 c.put.new.self c.in_ok-put.ensures.ok
    (c.args.steps - (c.loop-i.i + 1)) c.need-in-loop-i.new.self (omega arith) (omega arith) c.in_ok-need-2.ensures.0 c.in_ok-key.ensures.1 c.in_ok-need.ensures.1 c.in_ok-v.ensures.1 c.in_ok-need-2.ensures.1 in
    record { same = p.0; base = p.1 }
