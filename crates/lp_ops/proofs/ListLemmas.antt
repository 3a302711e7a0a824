-- Laws of lists of values, for loops.
use Rattle.std.proofs.Common.{◌≡◌, ℕ, ◌+◌, ◌++◌, ◌||◌, List, [], ◌∷◌, Bool, true, false, refl, ap, ◌∙◌, sym, subst, take, arith, if◌then◌else◌, filter, not, is_some, length, get_or, ◌<◌, ◌-◌, drop, min, Option}
use Rattle.std.specs.List.{list_any}
use Rattle.std.specs.Map.{lookup}
use Rattle.std.specs.Option.{option_to_list}
use Rattle.std.proofs.lemmas.List.Folds.{list_any-append}
use Rattle.std.proofs.lemmas.List.{take_more, drop-take, take_min}
use Rattle.std.proofs.lemmas.List.Elements.{filter-append}
use Rattle.std.proofs.lemmas.List.Sums.{fold-append}
use Rattle.indexmap.specs.IndexMap.{insert_all, insert_entry}
use Rattle.indexmap.specs.IndexSet.{insert_key}
use Rattle.lp_values.specs.Read.{same, value_eq}
use Rattle.lp_values.specs.declared.id.ObjId.{ObjId}
use Rattle.lp_values.specs.declared.value.Value.{Value}
use Rattle.lp_values.specs.contracts.value.ValuePartialEq.TheImpl as derived
use Rattle.lp_values.proofs.ReadLemmas.{eq_is, value_eq_one}
use Rattle.lp_cells.specs.Mapping.{pairs_there}
use Rattle.lp_cells.specs.Slots.{filled}
use Rattle.lp_cells.proofs.SlotLemmas.{there_filled}
use Rattle.lp_ops.specs.Operators.{pairs_without}

or_false : (a : Bool) → (a || false) ≡ a
or_false true = refl
or_false false = refl

any_append : (p : Value → Bool) (ks : List Value) (v : Value) → list_any p (ks ++ v ∷ []) ≡ (list_any p ks || p v)
any_append p ks v = list_any-append p ks (v ∷ []) ∙ ap (λ b. list_any p ks || b) (or_false (p v))

or_true : (a : Bool) → (a || true) ≡ true
or_true true = refl
or_true false = refl

-- a value that stands in the keys adds nothing
inserted_known : (q v : Value) (ks : List Value) (b : Bool) → value_eq q v ≡ b → list_any (value_eq v) ks ≡ true → list_any (value_eq q) ks ≡ (list_any (value_eq q) ks || b)
inserted_known q v ks false e h = sym (or_false (list_any (value_eq q) ks))
inserted_known q v ks true e h = subst (λ w. list_any (value_eq w) ks ≡ true) (sym (value_eq_one q v e)) h ∙ sym (or_true (list_any (value_eq q) ks))

inserted_cases : (q v : Value) (ks : List Value) (b : Bool) → list_any (value_eq v) ks ≡ b → list_any (value_eq q) (if b then ks else ks ++ v ∷ []) ≡ (list_any (value_eq q) ks || value_eq q v)
inserted_cases q v ks true h = inserted_known q v ks (value_eq q v) refl h
inserted_cases q v ks false h = any_append (value_eq q) ks v

-- what a set has after a value was inserted
pub any_inserted : (q v : Value) (ks : List Value) → list_any (value_eq q) (insert_key (derived.eq-value).it ks v) ≡ (list_any (value_eq q) ks || value_eq q v)
any_inserted q v ks = ap (λ b. list_any (value_eq q) (if b then ks else ks ++ v ∷ [])) (λ i. list_any (λ w. eq_is v w i) ks) ∙ inserted_cases q v ks (list_any (value_eq v) ks) refl

-- a filter, one place further
pub kept_next : (p : Value → Bool) (xs : List Value) (i : ℕ) (x : Value) (b : Bool) → i < length xs → x ≡ get_or xs i x → p x ≡ b → filter p (take (i + 1) xs) ≡ filter p (take i xs) ++ (if b then x ∷ [] else [])
kept_next p xs i x b h e t = rw (take_more xs i x h, filter-append, ← e, t) refl

-- the items that were kept, one place further
pub kept_more : (p : Value → Bool) (xs : List Value) (i : ℕ) (x : Value) (b : Bool) (kept new : List Value) → i < length xs → x ≡ get_or xs i x → p x ≡ b → kept ≡ filter p (take i xs) → new ≡ kept ++ (if b then x ∷ [] else []) → new ≡ filter p (take (i + 1) xs)
kept_more p xs i x b kept new h e t k n = n ∙ ap (λ l. l ++ (if b then x ∷ [] else [])) k ∙ sym (kept_next p xs i x b h e t)

-- the pairs that were kept, one slot further
pub pairs_without_next : (live : ObjId → Bool) (es : List (Value × Value)) (slots : List (Option (Value × Value))) (qs : List (Value × Value)) (i : ℕ) (x : Option (Value × Value)) → i < length slots → x ≡ get_or slots i x → insert_all value_eq es (pairs_without live (pairs_there live (filled (take (i + 1) slots))) qs) ≡ insert_all value_eq (insert_all value_eq es (pairs_without live (pairs_there live (filled (take i slots))) qs)) (pairs_without live (pairs_there live (option_to_list x)) qs)
pairs_without_next live es slots qs i x h e =
    ap (λ l. insert_all value_eq es (pairs_without live l qs)) (there_filled live slots i x h e)
    ∙ ap (insert_all value_eq es) (filter-append (λ p. not (is_some (lookup (same live p.0) qs))) (pairs_there live (filled (take i slots))) (pairs_there live (option_to_list x)))
    ∙ fold-append (λ done p. insert_entry value_eq done p.0 p.1) es (pairs_without live (pairs_there live (filled (take i slots))) qs) (pairs_without live (pairs_there live (option_to_list x)) qs)

-- a part whose ends were brought below the length
pub part_is : {X : Type 0} (xs : List X) (a b s e : ℕ) → s ≡ min a (length xs) → e ≡ min b (length xs) → s < e → take (e - s) (drop s xs) ≡ drop a (take b xs)
part_is xs a b s e hs he lt =
    let first : a ≡ s = omega arith in
    let whole : s + (e - s) ≡ e = omega arith in
    sym (drop-take s (e - s) xs) ∙ ap (λ n. drop s (take n xs)) whole ∙ ap (λ n. drop s (take n xs)) he ∙ ap (drop s) (take_min b xs) ∙ ap (λ n. drop n (take b xs)) (sym first)
