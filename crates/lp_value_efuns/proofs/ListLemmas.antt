-- Lists of values and of pairs, for loops.
use Rattle.std.proofs.Common.{◌≡◌, ◌≤◌, ◌≤ℤ◌, negsuc, ◌<◌, ◌+◌, ◌++◌, ◌∷◌, [], ◌∙◌, ℕ, suc, zero, pos, Bool, true, false, List, Some, ℤ, unwrap_or, nat_eq, refl, ap, sym, subst, arith, append-nil, append_assoc, length, map, filter_map, nat_lt, if◌then◌else◌, is_some, take, drop, get_or, min, replicate, Option}
use Rattle.std.specs.List.{AllByRecursion, IsDistinct, position}
use Rattle.std.specs.Option.{option_to_list}
use Rattle.std.proofs.lemmas.Bool.{cond-false, true≢false, lt-ltb}
use Rattle.std.proofs.lemmas.List.{take_more, map-append, length-replicate, replicate-append-replicate}
use Rattle.std.proofs.lemmas.List.Elements.{filter_map-append}
use Rattle.std.proofs.lemmas.Map.Made.{IsDistinct-keys_filter}
use Rattle.indexmap.specs.IndexMap.{insert_all, insert_entry}
use Rattle.lp_values.specs.Limits.{max_items}
use Rattle.lp_values.specs.Read.{live_part, same, value_eq}
use Rattle.lp_values.specs.declared.error.ErrorKind.TheVariants.{TooLong}
use Rattle.lp_values.specs.declared.id.CellId.{CellId}
use Rattle.lp_values.specs.declared.id.ObjId.{ObjId}
use Rattle.lp_values.specs.declared.value.Value.{Value}
use Rattle.lp_values.specs.declared.value.Value.TheVariants.{Int, Str, Arr, Map, Obj}
use Rattle.lp_values.proofs.ReadLemmas.{value_eq_one, value_eq_refl}
use Rattle.lp_cells.specs.Cells.{Store, items_at}
use Rattle.lp_cells.specs.Mapping.{HasDistinctKeys, pairs_there}
use Rattle.lp_cells.specs.Slots.{filled}
use Rattle.lp_cells.proofs.SlotLemmas.{there_filled}
use Rattle.lp_ops.specs.Effects.{refused, within}
use Rattle.lp_ops.specs.Operands.{Number, opened, value_of}
use Rattle.lp_ops.specs.Operators.{array}
use Rattle.lp_language.specs.Course.{zero_value}
use Rattle.lp_meaning.specs.ComputingEfuns.{from_zero, member, paired, place_of_point, place_or_none, text_among}

-- the texts among items, one place further
pub texts_more : (xs : List Value) (i : ℕ) (x : Value) (kept new : List (List ℕ)) → i < length xs → x ≡ get_or xs i x → kept ≡ filter_map text_among (take i xs) → new ≡ kept ++ filter_map text_among (x ∷ []) → new ≡ filter_map text_among (take (i + 1) xs)
texts_more xs i x kept new h e k n = n ∙ ap (λ l. l ++ filter_map text_among (x ∷ [])) k ∙ sym (ap (filter_map text_among) (take_more xs i x h) ∙ filter_map-append text_among (take i xs) (get_or xs i x ∷ []) ∙ ap (λ y. filter_map text_among (take i xs) ++ filter_map text_among (y ∷ [])) (sym e))

-- what is told of the pairs that are there, one slot further
pub there_next : (tell : Value × Value → Value) (live : ObjId → Bool) (slots : List (Option (Value × Value))) (i : ℕ) (x : Option (Value × Value)) (kept new : List Value) → i < length slots → x ≡ get_or slots i x → kept ≡ map tell (pairs_there live (filled (take i slots))) → new ≡ kept ++ map tell (pairs_there live (option_to_list x)) → new ≡ map tell (pairs_there live (filled (take (i + 1) slots)))
there_next tell live slots i x kept new h e k n = n ∙ ap (λ l. l ++ map tell (pairs_there live (option_to_list x))) k ∙ sym (ap (map tell) (there_filled live slots i x h e) ∙ map-append tell (pairs_there live (filled (take i slots))) (pairs_there live (option_to_list x)))

-- one zero more
pub one_more : (n : ℕ) → replicate n zero_value ++ zero_value ∷ [] ≡ replicate (n + 1) zero_value
one_more n = replicate-append-replicate n 1 zero_value

-- more zeros than there may be
pub too_many_zeros : (n : ℕ) → max_items < n → within (array (replicate n zero_value)) ≡ refused TooLong
too_many_zeros n h = ap (λ b. if b then refused TooLong else array (replicate n zero_value)) (ap (nat_lt max_items) (length-replicate n zero_value) ∙ lt-ltb max_items n h)

-- the value of what was opened
pub value_opened : (live : ObjId → Bool) (cells : Store) (v : Value) → value_of (opened live cells v) ≡ v
value_opened live cells (Int n) = refl
value_opened live cells (Str s) = refl
value_opened live cells (Arr c) = refl
value_opened live cells (Map c) = refl
value_opened live cells (Obj o) = refl

-- the place of an item of an array
pub member_items : (live : ObjId → Bool) (cells : Store) (v x : Value) (c : CellId) (items : List Value) → v ≡ Arr c → items_at cells c ≡ Some items → place_or_none (position (λ u. same live u x) items) ≡ member live (opened live cells v) (opened live cells x)
member_items live cells v x c items e h = sym (ap (λ w. member live (opened live cells w) (opened live cells x)) e ∙ ap (λ o. place_or_none (position (λ u. same live u (value_of (opened live cells x))) (unwrap_or o []))) h ∙ ap (λ y. place_or_none (position (λ u. same live u y) items)) (value_opened live cells x))

-- the place of the code point with a number from 0 up
pub natural_is : (s : List ℕ) (n : ℤ) → pos 0 ≤ℤ n → place_or_none (position (nat_eq (from_zero n)) s) ≡ place_or_none (place_of_point s (Number n))
natural_is s (pos c) h = refl
natural_is s (negsuc c) h = absurd (omega arith)

-- none are left behind the shorter one
pub paired_done : (live : ObjId → Bool) (ks vs : List Value) (i : ℕ) → min (length ks) (length vs) ≤ i → paired live (drop i ks) (drop i vs) ≡ []
paired_done live [] vs zero h = refl
paired_done live (x ∷ ks) [] zero h = refl
paired_done live (x ∷ ks) (y ∷ vs) zero h = absurd (omega arith)
paired_done live [] vs (suc i) h = refl
paired_done live (x ∷ ks) [] (suc i) h = nothing (drop i ks)
  where
    nothing : (ls : List Value) → paired live ls [] ≡ []
    nothing [] = refl
    nothing (l ∷ ls) = refl
paired_done live (x ∷ ks) (y ∷ vs) (suc i) h = paired_done live ks vs i (omega arith)

-- Pairs with distinct keys, put one after another, are these pairs

flip : (x y : Value) → value_eq x y ≡ false → value_eq y x ≡ false
flip x y h = by (value_eq y x) refl
  where
    by : (b : Bool) → value_eq y x ≡ b → b ≡ false
    by true e = absurd (true≢false (sym (subst (λ v. value_eq x v ≡ true) (sym (value_eq_one y x e)) (value_eq_refl x)) ∙ h))
    by false e = refl

insert_last : (es : List (Value × Value)) (k v : Value) → AllByRecursion (λ e. value_eq k e.0 ≡ false) es → insert_entry value_eq es k v ≡ es ++ (k, v) ∷ []
insert_last [] k v h = refl
insert_last (e ∷ es) k v h = cond-false (value_eq k e.0) ((e.0, v) ∷ es) (e ∷ insert_entry value_eq es k v) h.0 ∙ ap (λ x. e ∷ x) (insert_last es k v h.1)

abbrev News : List (Value × Value) → List (Value × Value) → Type 0
News es rs = AllByRecursion (λ r. AllByRecursion (λ e. value_eq r.0 e.0 ≡ false) es) rs

news_one : (k : Value) (es : List (Value × Value)) (r : Value × Value) → AllByRecursion (λ e. value_eq k e.0 ≡ false) es → value_eq k r.0 ≡ false → AllByRecursion (λ e. value_eq k e.0 ≡ false) (es ++ r ∷ [])
news_one k [] r h g = (g, tt)
news_one k (e ∷ es) r h g = (h.0, news_one k es r h.1 g)

news_more : (es rs : List (Value × Value)) (r : Value × Value) → News es rs → AllByRecursion (λ y. value_eq r.0 y ≡ false) (map (λ p. p.0) rs) → News (es ++ r ∷ []) rs
news_more es [] r h g = tt
news_more es (q ∷ rs) r h g = (news_one q.0 es r h.0 (flip r.0 q.0 g.0), news_more es rs r h.1 g.1)

all_last : (es rs : List (Value × Value)) → News es rs → IsDistinct value_eq (map (λ p. p.0) rs) → insert_all value_eq es rs ≡ es ++ rs
unfolding IsDistinct
all_last es [] h a = sym (append-nil es)
all_last es (r ∷ rs) h a = ap (λ x. insert_all value_eq x rs) (insert_last es r.0 r.1 h.0) ∙ all_last (es ++ r ∷ []) rs (news_more es rs r h.1 a.0) a.1 ∙ append_assoc es (r ∷ []) rs

news_none : (rs : List (Value × Value)) → News [] rs
news_none [] = tt
news_none (r ∷ rs) = (tt, news_none rs)

pub there_again : (live : ObjId → Bool) (ps : List (Value × Value)) → HasDistinctKeys ps → insert_all value_eq [] (pairs_there live ps) ≡ pairs_there live ps
there_again live ps d = all_last [] (pairs_there live ps) (news_none (pairs_there live ps)) (IsDistinct-keys_filter value_eq (λ p. is_some (live_part live p.0)) ps d)
