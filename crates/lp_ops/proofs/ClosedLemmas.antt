-- What operators give is there, where the cells are closed.
use Rattle.std.proofs.Common.{◌≡◌, ◌++◌, ℕ, ℤ, pos, negsuc, suc, zero, Bool, true, false, List, [], ◌∷◌, Option, Some, None, Result, Ok, Err, refl, sym, subst, slice_get, length, unwrap_or, not, is_some, take, cond, if◌then◌else◌, nat_lt}
use Rattle.std.specs.Prelude.{All, IfOk, int_div, int_le, int_lt, int_rem, ◌+ℤ◌, ◌-ℤ◌, ◌*ℤ◌}
use Rattle.std.specs.Int.{w64, int_bit_or, int_bit_xor}
use Rattle.std.specs.Ordering.{int_eq}
use Rattle.std.specs.List.{list_any}
use Rattle.std.specs.Map.{lookup}
use Rattle.std.proofs.lemmas.List.Elements.{All-nil, All-head, All-tail, All-append, All-filter, All-take, All-drop}
use Rattle.lp_values.specs.Read.{same}
use Rattle.lp_values.specs.declared.error.ErrorKind.TheVariants.{TooLong, TextTooLong, Overflow, ZeroDivisor}
use Rattle.lp_values.specs.declared.id.ObjId.{ObjId}
use Rattle.lp_values.specs.declared.value.Value.{Value}
use Rattle.lp_values.specs.declared.value.Value.TheVariants.{Int, Str, Arr, Map, Obj}
use Rattle.lp_tree.specs.declared.operator.BinOp.{BinOp}
use Rattle.lp_tree.specs.declared.operator.BinOp.TheVariants.{Add, Sub, Mul, Div, Rem, And, Or, Xor, Shl, Shr, Lt, Le, Gt, Ge, Eq, Ne}
use Rattle.lp_cells.specs.Cells.{AreThere, IsClosed, IsPairThere, IsThere, KeepsThere, Store, with_cell}
use Rattle.lp_cells.specs.declared.content.Content.{Content}
use Rattle.lp_cells.specs.declared.content.Content.TheVariants as content
use Rattle.lp_cells.proofs.ClosedLemmas.{closed_with_cell, insert_all_there, items_there, stored_there, there_with_cell}
use Rattle.lp_ops.specs.declared.effect.Effect.{Effect}
use Rattle.lp_ops.specs.declared.effect.Effect.TheVariants.{Gives, Makes, Fault}
use Rattle.lp_ops.specs.declared.end.End.{End}
use Rattle.lp_ops.specs.declared.fault.OpFault.{OpFault}
use Rattle.lp_ops.specs.Effects.{Answers, IsEffectThere, Meets, Yields, reference, refused, within}
use Rattle.lp_ops.specs.Integers.{divided, int, remainder, shifted_left, shifted_right, whole, fits}
use Rattle.lp_ops.specs.Operands.{Opened, Number, Chars, Array, Mapping, Object, opened, value_of}
use Rattle.lp_ops.specs.Operators.{added, anded, at_place, compared, index, on_integers, or_bad_index, pairs_without, part_of, place_of, result_of, subtracted, text_le, text_lt, first_place, last_place, from_zero, as_point}
use Rattle.lp_values.specs.Limits.{max_code_points, max_items}

-- what an opened operand holds is there
abbrev pub IsOpenedThere : Store → Opened → Type 0
IsOpenedThere cells (Number n) = Unit {0}
IsOpenedThere cells (Chars s) = Unit {0}
IsOpenedThere cells (Array c vs) = All (IsThere cells) vs
IsOpenedThere cells (Mapping c ps) = All (IsPairThere cells) ps
IsOpenedThere cells (Object o) = Unit {0}

pub opened_there : (live : ObjId → Bool) (cells : Store) (v : Value) → IsClosed cells → IsOpenedThere cells (opened live cells v)
opened_there live cells (Int n) h = tt
opened_there live cells (Str s) h = tt
opened_there live cells (Arr c) h = items_there cells c h
opened_there live cells (Map c) h = All-filter _ (IsPairThere cells) _ (stored_there cells c h)
opened_there live cells (Obj o) h = tt

choice_there : (cells : Store) (b : Bool) (e f : Effect) → IsEffectThere cells e → IsEffectThere cells f → IsEffectThere cells (if b then e else f)
choice_there cells true e f i j = i
choice_there cells false e f i j = j

value_within : (cells : Store) (v : Value) → IsThere cells v → IsEffectThere cells (within (Gives v))
value_within cells (Int n) i = tt
value_within cells (Str s) i = choice_there cells (nat_lt max_code_points (length s)) (refused TextTooLong) (Gives (Str s)) tt tt
value_within cells (Arr c) i = i
value_within cells (Map c) i = i
value_within cells (Obj o) i = tt

content_within : (cells : Store) (x : Content) → AreThere cells x → IsEffectThere cells (within (Makes x))
content_within cells (content.Array vs) i = choice_there cells (nat_lt max_items (length vs)) (refused TooLong) (Makes (content.Array vs)) tt i
content_within cells (content.Mapping ps) i = choice_there cells (nat_lt max_items (length ps)) (refused TooLong) (Makes (content.Mapping ps)) tt i

-- the limits of length take nothing that is not there
pub within_there : (cells : Store) (e : Effect) → IsEffectThere cells e → IsEffectThere cells (within e)
within_there cells (Gives v) i = value_within cells v i
within_there cells (Makes x) i = content_within cells x i
within_there cells (Fault f) i = tt

last_item : {X : Type 0} (xs : List X) (x : X) → slice_get (xs ++ x ∷ []) (length xs) ≡ Some x
last_item [] x = refl
last_item (y ∷ ys) x = last_item ys x

reference_there : (cells : Store) (x : Content) → IsThere (with_cell cells x) (reference x (length cells))
reference_there cells (content.Array vs) = rw (last_item cells (Some (content.Array vs))) refl
reference_there cells (content.Mapping ps) = rw (last_item cells (Some (content.Mapping ps))) refl

yields_stay : (e : Effect) (old new : Store) (v : Value) → Yields e old new v → KeepsThere old new
yields_stay (Gives w) old new v y = subst (KeepsThere old) (sym y.1) (λ u t. t)
yields_stay (Makes x) old new v y = subst (KeepsThere old) (sym y.1) (there_with_cell old x)
yields_stay (Fault f) old new v y = absurd y

-- after a call that meets an effect what was there is there
pub meets_stay : (e : Effect) (old new : Store) (r : Result Value OpFault) → Meets e old new r → KeepsThere old new
meets_stay e old new (Ok v) m = yields_stay e old new v m
meets_stay e old new (Err f) m = subst (KeepsThere old) (sym m.1) (λ u t. t)

yields_closed : (e : Effect) (old new : Store) (v : Value) → Yields e old new v → IsEffectThere old e → IsClosed old → IsClosed new × IsThere new v
yields_closed (Gives w) old new v y i h = (subst IsClosed (sym y.1) h, subst (λ s. IsThere s v) (sym y.1) (subst (IsThere old) (sym y.0) i))
yields_closed (Makes x) old new v y i h = (subst IsClosed (sym y.1) (closed_with_cell old x h i), subst (λ s. IsThere s v) (sym y.1) (subst (IsThere (with_cell old x)) (sym y.0) (reference_there old x)))
yields_closed (Fault f) old new v y i h = absurd y

-- the cells are closed, and the value is there
pub meets_closed : (e : Effect) (old new : Store) (r : Result Value OpFault) → Meets e old new r → IsEffectThere old e → IsClosed old → IsClosed new × IfOk r (IsThere new)
meets_closed e old new (Ok v) m i h = yields_closed e old new v m i h
meets_closed e old new (Err f) m i h = (subst IsClosed (sym m.1) h, tt)

whole_there : (cells : Store) (z : ℤ) → IsEffectThere cells (whole z)
whole_there cells z = choice_there cells (fits z) (int z) (refused Overflow) tt tt

added_there : (cells : Store) (a b : Opened) → IsOpenedThere cells a → IsOpenedThere cells b → IsEffectThere cells (added a b)
added_there cells (Number m) (Number n) i j = whole_there cells (m +ℤ n)
added_there cells (Chars s) (Chars t) i j = tt
added_there cells (Chars s) (Number n) i j = tt
added_there cells (Number m) (Chars t) i j = tt
added_there cells (Array c xs) (Array d ys) i j = All-append (IsThere cells) xs ys i j
added_there cells (Mapping c ps) (Mapping d qs) i j = insert_all_there cells [] (ps ++ qs) (All-nil (IsPairThere cells)) (All-append (IsPairThere cells) ps qs i j)
added_there cells a b i j = tt

subtracted_there : (live : ObjId → Bool) (cells : Store) (a b : Opened) → IsOpenedThere cells a → IsOpenedThere cells b → IsEffectThere cells (subtracted live a b)
subtracted_there live cells (Number m) (Number n) i j = whole_there cells (m -ℤ n)
subtracted_there live cells (Array c xs) (Array d ys) i j = All-filter (λ x. not (list_any (same live x) ys)) (IsThere cells) xs i
subtracted_there live cells (Mapping c ps) (Mapping d qs) i j = insert_all_there cells [] (pairs_without live ps qs) (All-nil (IsPairThere cells)) (All-filter (λ p. not (is_some (lookup (same live p.0) qs))) (IsPairThere cells) ps i)
subtracted_there live cells a b i j = tt

anded_there : (live : ObjId → Bool) (cells : Store) (a b : Opened) → IsOpenedThere cells a → IsOpenedThere cells b → IsEffectThere cells (anded live a b)
anded_there live cells (Number m) (Number n) i j = tt
anded_there live cells (Array c xs) (Array d ys) i j = All-filter (λ x. list_any (same live x) ys) (IsThere cells) xs i
anded_there live cells a b i j = tt

on_integers_there : (cells : Store) (f : ℤ → ℤ → Effect) → ((m n : ℤ) → IsEffectThere cells (f m n)) → (a b : Opened) → IsEffectThere cells (on_integers f a b)
on_integers_there cells f each (Number m) (Number n) = each m n
on_integers_there cells f each a b = tt

divided_there : (cells : Store) (m n : ℤ) → IsEffectThere cells (divided m n)
divided_there cells m n = choice_there cells (int_eq n (pos 0)) (refused ZeroDivisor) (whole (int_div m n)) tt (whole_there cells (int_div m n))

remainder_there : (cells : Store) (m n : ℤ) → IsEffectThere cells (remainder m n)
remainder_there cells m n = choice_there cells (int_eq n (pos 0)) (refused ZeroDivisor) (int (int_rem m n)) tt tt

left_there : (cells : Store) (m n : ℤ) → IsEffectThere cells (shifted_left m n)
left_there cells m (pos k) = tt
left_there cells m (negsuc k) = tt

right_there : (cells : Store) (m n : ℤ) → IsEffectThere cells (shifted_right m n)
right_there cells m (pos k) = tt
right_there cells m (negsuc k) = tt

compared_there : (cells : Store) (f : ℤ → ℤ → Bool) (g : List ℕ → List ℕ → Bool) (a b : Opened) → IsEffectThere cells (compared f g a b)
compared_there cells f g (Number m) (Number n) = tt
compared_there cells f g (Chars s) (Chars t) = tt
compared_there cells f g a b = tt

-- what a binary operator does names what is there
pub result_there : (live : ObjId → Bool) (cells : Store) (op : BinOp) (a b : Opened) → IsOpenedThere cells a → IsOpenedThere cells b → IsEffectThere cells (result_of live op a b)
result_there live cells Add a b i j = added_there cells a b i j
result_there live cells Sub a b i j = subtracted_there live cells a b i j
result_there live cells Mul a b i j = on_integers_there cells (λ m n. whole (m *ℤ n)) (λ m n. whole_there cells (m *ℤ n)) a b
result_there live cells Div a b i j = on_integers_there cells divided (divided_there cells) a b
result_there live cells Rem a b i j = on_integers_there cells remainder (remainder_there cells) a b
result_there live cells And a b i j = anded_there live cells a b i j
result_there live cells Or a b i j = on_integers_there cells (λ m n. int (int_bit_or w64 m n)) (λ m n. tt) a b
result_there live cells Xor a b i j = on_integers_there cells (λ m n. int (int_bit_xor w64 m n)) (λ m n. tt) a b
result_there live cells Shl a b i j = on_integers_there cells shifted_left (left_there cells) a b
result_there live cells Shr a b i j = on_integers_there cells shifted_right (right_there cells) a b
result_there live cells Lt a b i j = compared_there cells int_lt text_lt a b
result_there live cells Le a b i j = compared_there cells int_le text_le a b
result_there live cells Gt a b i j = compared_there cells (λ m n. int_lt n m) (λ s t. text_lt t s) a b
result_there live cells Ge a b i j = compared_there cells (λ m n. int_le n m) (λ s t. text_le t s) a b
result_there live cells Eq a b i j = tt
result_there live cells Ne a b i j = tt

-- what a range does names what is there
pub part_there : (cells : Store) (a : Opened) (from to : End) → IsOpenedThere cells a → IsEffectThere cells (part_of a from to)
part_there cells (Array c xs) from to i = All-drop (IsThere cells) (from_zero (first_place from (length xs))) (take (from_zero (last_place to (length xs) +ℤ pos 1)) xs) (All-take (IsThere cells) (from_zero (last_place to (length xs) +ℤ pos 1)) xs i)
part_there cells a from to i = tt

item_there : (cells : Store) (xs : List Value) (i : ℕ) → All (IsThere cells) xs → IsEffectThere cells (or_bad_index (slice_get xs i))
item_there cells [] i h = tt
item_there cells (x ∷ xs) zero h = All-head (IsThere cells) x xs h
item_there cells (x ∷ xs) (suc i) h = item_there cells xs i (All-tail (IsThere cells) x xs h)

place_there : (cells : Store) (xs : List Value) (z : ℤ) → All (IsThere cells) xs → IsEffectThere cells (or_bad_index (at_place xs z))
place_there cells xs (pos i) h = item_there cells xs i h
place_there cells xs (negsuc i) h = tt

point_there : (cells : Store) (o : Option ℕ) → IsEffectThere cells (or_bad_index (as_point o))
point_there cells (Some c) = tt
point_there cells None = tt

found_there : (cells : Store) (p : Value × Value) (r : Option Value) (b : Bool) → IsPairThere cells p → IsThere cells (unwrap_or r (Int (pos 0))) → IsThere cells (unwrap_or (cond b (Some p.1) r) (Int (pos 0)))
found_there cells p r true h i = h.1
found_there cells p r false h i = i

pub lookup_there : (cells : Store) (test : Value → Bool) (ps : List (Value × Value)) → All (IsPairThere cells) ps → IsThere cells (unwrap_or (lookup test ps) (Int (pos 0)))
lookup_there cells test [] h = tt
lookup_there cells test (p ∷ ps) h = found_there cells p (lookup test ps) (test p.0) (All-head (IsPairThere cells) p ps h) (lookup_there cells test ps (All-tail (IsPairThere cells) p ps h))

-- what an index gives is there
pub index_there : (live : ObjId → Bool) (cells : Store) (back : Bool) (a k : Opened) → IsOpenedThere cells a → IsEffectThere cells (index live back a k)
index_there live cells back (Array c xs) (Number n) i = place_there cells xs (place_of back n (length xs)) i
index_there live cells back (Chars s) (Number n) i = point_there cells (at_place s (place_of back n (length s)))
index_there live cells false (Mapping c ps) k i = lookup_there cells (same live (value_of k)) ps i
index_there live cells back a k i = tt

-- a value that was given is there
pub answers_there : (cells : Store) (e : Effect) (r : Result Value OpFault) → Answers e r → IsEffectThere cells e → IfOk r (IsThere cells)
answers_there cells e (Ok v) h i = subst (IsEffectThere cells) h i
answers_there cells e (Err f) h i = tt
