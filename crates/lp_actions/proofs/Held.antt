-- What the list of all actions is after an edit.
use Rattle.std.proofs.Common.{◌≡◌, ℕ, ◌<◌, ◌≤◌, Bool, true, false, cond, not, nat_eq, ◌&&◌, List, [], ◌∷◌, ◌++◌, map, refl, sym, ap, subst, ◌∙◌, arith, is_some}
use Rattle.std.specs.Prelude.{reverse}
use Rattle.std.specs.Ordering.{is_eq, is_le, nat_cmp, ordering_then}
use Rattle.std.specs.List.{filter, list_any, AllByRecursion}
use Rattle.std.specs.Map.{lookup}
use Rattle.std.specs.BTreeMap.{is_at}
use Rattle.std.specs.BTreeMap.Range.{entries_between}
use Rattle.std.specs.declared.ops.Bound.TheVariants.{Included, Excluded}
use Rattle.std.proofs.lemmas.Bool.Decides.{nat_tests}
use Rattle.std.proofs.lemmas.Map.Made.{is_some-lookup}
use Rattle.lp_values.specs.declared.id.ObjId.{ObjId}
use Rattle.lp_actions.specs.declared.sentence.Place.{Place}
use Rattle.lp_actions.specs.declared.sentence.Deed.{Deed}
use Rattle.lp_places.specs.Places.{is_object}
use Rattle.lp_actions.specs.Actions.{Sentence, holds, kept_by, matches, matching, sentences_without}
use Rattle.lp_actions.specs.Stored.{is_of, place_cmp, of_holder, entry_sentence, sentence_from}
use Rattle.lp_actions.specs.Held.{held_by, AreFallingBelow}
use Rattle.lp_actions.proofs.ListLemmas.{any_reverse, any_filter, any_map, any_agrees, every, filter_agrees, filter_none, filter_twice, map_agrees, filter_swap, filter_reverse, filter_map, all_filter, all_reversed, all_map, map_append}
use Rattle.lp_actions.proofs.Entries.{here}
use Rattle.std.proofs.lemmas.List.{append-nil, reverse-append}

is_there : (h n x m : ℕ) → (nat_eq x h && nat_eq m n) ≡ is_eq (ordering_then (nat_cmp h x) (nat_cmp n m))
is_there h n x m = grind (arith, nat_tests)

-- an action is held where it is kept
pub held_is : (holder : ObjId) (number : ℕ) (ss : List Sentence) (es : List (Place × Deed)) → held_by ss holder ≡ of_holder holder es → is_some (lookup (is_at (place_cmp (record { holder = holder.0; number = number }))) es) ≡ holds ss holder number
held_is holder number ss es each =
    is_some-lookup (is_at (place_cmp (record { holder = holder.0; number = number }))) es
    ∙ any_map (λ e. e.0) (is_at (place_cmp (record { holder = holder.0; number = number }))) es
    ∙ sym (any_agrees _ _ (λ e. is_there holder.0 number e.0.holder e.0.number) es)
    ∙ sym (any_filter (λ e. nat_eq e.0.number number) (is_of holder) es)
    ∙ sym (any_map entry_sentence (λ s. nat_eq s.number number) (filter (is_of holder) es))
    ∙ sym (any_reverse (λ s. nat_eq s.number number) (map entry_sentence (filter (is_of holder) es)))
    ∙ ap (list_any (λ s. nat_eq s.number number)) (sym each)
    ∙ any_filter (λ s. nat_eq s.number number) (λ s. is_object s.holder holder) ss

-- ---- numbers

pub all_below : (n m : ℕ) (ss : List Sentence) → n ≤ m → AreFallingBelow n ss → AllByRecursion (λ s. s.number < m) ss
all_below n m [] le h = tt
all_below n m (s ∷ ss) le h = (omega (arith, h.0), all_below s.number m ss (omega (arith, h.0)) h.1)

pub falling_more : (n m : ℕ) (ss : List Sentence) → n ≤ m → AreFallingBelow n ss → AreFallingBelow m ss
falling_more n m [] le h = tt
falling_more n m (s ∷ ss) le h = (omega (arith, h.0), h.1)

pub falling_filter : (p : Sentence → Bool) (n : ℕ) (ss : List Sentence) → AreFallingBelow n ss → AreFallingBelow n (filter p ss)
falling_filter p n [] h = tt
falling_filter p n (s ∷ ss) h = step (p s) (falling_filter p s.number ss h.1)
  where
    step : (b : Bool) → AreFallingBelow s.number (filter p ss) → AreFallingBelow n (cond b (s ∷ filter p ss) (filter p ss))
    step true k = (h.0, k)
    step false k = falling_more s.number n (filter p ss) (omega (arith, h.0)) k

-- the numbers of an object's actions are below the next one
pub below_next : (next : ℕ) (holder : ObjId) (ss : List Sentence) (es : List (Place × Deed)) → held_by ss holder ≡ of_holder holder es → AreFallingBelow next ss → AllByRecursion (λ e. e.0.number < next) (filter (is_of holder) es)
below_next next holder ss es each falling =
    all_map entry_sentence (λ s. s.number < next) (filter (is_of holder) es)
    (all_reversed (λ s. s.number < next) (map entry_sentence (filter (is_of holder) es))
    (subst (AllByRecursion (λ s. s.number < next)) each (all_filter (λ s. s.number < next) (λ s. is_object s.holder holder) ss (all_below next next ss (omega arith) falling))))

-- ---- what is kept

pub kept_is : (reaches : ObjId → ObjId → Bool) (q : ObjId) (ss : List Sentence) (es : List (Place × Deed)) → held_by ss q ≡ of_holder q es → held_by (kept_by reaches ss) q ≡ of_holder q (filter (λ e. reaches (record { 0 = e.0.holder }) e.1.giver) es)
kept_is reaches q ss es each =
    filter_swap (λ s. is_object s.holder q) (λ s. reaches s.holder s.giver) ss
    ∙ ap (filter (λ s. reaches s.holder s.giver)) each
    ∙ filter_reverse (λ s. reaches s.holder s.giver) (map entry_sentence (filter (is_of q) es))
    ∙ ap reverse (filter_map entry_sentence (λ s. reaches s.holder s.giver) (filter (is_of q) es))
    ∙ ap (λ fs. reverse (map entry_sentence fs)) (filter_swap (λ e. reaches (record { 0 = e.0.holder }) e.1.giver) (is_of q) es)

-- ---- a new action

added : (b : Bool) (s : Sentence) (e : Place × Deed) → entry_sentence e ≡ s → (ss : List Sentence) (es : List (Place × Deed)) → ss ≡ reverse (map entry_sentence es) → cond b (s ∷ ss) ss ≡ reverse (map entry_sentence (es ++ cond b (e ∷ []) []))
added true s e same ss es each =
    cc (sym (ap reverse (map_append entry_sentence es (e ∷ [])) ∙ reverse-append (map entry_sentence es) (entry_sentence e ∷ [])))
added false s e same ss es each = each ∙ ap (λ fs. reverse (map entry_sentence fs)) (sym (append-nil es))

pub added_is : (holder : ObjId) (number : ℕ) (deed : Deed) (q : ObjId) (ss : List Sentence) (es fs : List (Place × Deed)) → held_by ss q ≡ of_holder q es → filter (is_of q) fs ≡ filter (is_of q) es ++ here holder.0 number deed q → held_by (sentence_from holder number deed ∷ ss) q ≡ of_holder q fs
added_is holder number deed q ss es fs each more =
    added (nat_eq holder.0 q.0) (sentence_from holder number deed) (record { holder = holder.0; number = number }, deed) refl (held_by ss q) (filter (is_of q) es) each
    ∙ ap (λ gs. reverse (map entry_sentence gs)) (sym more)

-- ---- what matches

in_range : (h next x n : ℕ) → nat_eq x h ≡ true → n < next → (is_le (ordering_then (nat_cmp h x) (nat_cmp 0 n)) && not (is_le (ordering_then (nat_cmp h x) (nat_cmp next n)))) ≡ true
in_range h next x n e lt = grind (arith, nat_tests)

out_of_range : (h next x n : ℕ) → nat_eq x h ≡ false → (is_le (ordering_then (nat_cmp h x) (nat_cmp 0 n)) && not (is_le (ordering_then (nat_cmp h x) (nat_cmp next n)))) ≡ false
out_of_range h next x n e = grind (arith, nat_tests)

-- the entries of an object are those from its first place to the next one
between_is : (holder : ObjId) (next : ℕ) (es : List (Place × Deed)) → AllByRecursion (λ e. e.0.number < next) (filter (is_of holder) es)
    → entries_between place_cmp (Included (record { holder = holder.0; number = 0 })) (Excluded (record { holder = holder.0; number = next })) es ≡ filter (is_of holder) es
between_is holder next [] h = refl
between_is holder next (e ∷ es) h = step (nat_eq e.0.holder holder.0) refl h (between_is holder next es)
  where
    step : (b : Bool) → nat_eq e.0.holder holder.0 ≡ b → AllByRecursion (λ e. e.0.number < next) (cond b (e ∷ filter (is_of holder) es) (filter (is_of holder) es))
        → (AllByRecursion (λ e. e.0.number < next) (filter (is_of holder) es) → entries_between place_cmp (Included (record { holder = holder.0; number = 0 })) (Excluded (record { holder = holder.0; number = next })) es ≡ filter (is_of holder) es)
        → entries_between place_cmp (Included (record { holder = holder.0; number = 0 })) (Excluded (record { holder = holder.0; number = next })) (e ∷ es) ≡ cond b (e ∷ filter (is_of holder) es) (filter (is_of holder) es)
    step true r k more = rw (in_range holder.0 next e.0.holder e.0.number r k.0) (ap (λ fs. e ∷ fs) (more k.1))
    step false r k more = rw (out_of_range holder.0 next e.0.holder e.0.number r) (more k)

own : (holder : ObjId) (e : Place × Deed) → is_of holder e ≡ true → sentence_from holder e.0.number e.1 ≡ entry_sentence e
own holder e h =
    let same : holder.0 ≡ e.0.holder = grind (arith, nat_tests) in
    ap (λ n. sentence_from (record { 0 = n }) e.0.number e.1) same

pub matching_is : (holder : ObjId) (typed : List ℕ) (next : ℕ) (ss : List Sentence) (es : List (Place × Deed)) → held_by ss holder ≡ of_holder holder es → AreFallingBelow next ss
    → reverse (filter (matches typed) (map (λ e. sentence_from holder e.0.number e.1) (entries_between place_cmp (Included (record { holder = holder.0; number = 0 })) (Excluded (record { holder = holder.0; number = next })) es))) ≡ matching ss holder typed
matching_is holder typed next ss es each falling =
    ap (λ fs. reverse (filter (matches typed) (map (λ e. sentence_from holder e.0.number e.1) fs))) (between_is holder next es (below_next next holder ss es each falling))
    ∙ ap (λ fs. reverse (filter (matches typed) fs)) (map_agrees (λ e. sentence_from holder e.0.number e.1) entry_sentence (is_of holder) (own holder) es)
    ∙ sym (filter_reverse (matches typed) (map entry_sentence (filter (is_of holder) es)))
    ∙ ap (filter (matches typed)) (sym each)
    ∙ filter_twice (matches typed) (λ s. is_object s.holder holder) ss

-- ---- what ends with an object

apart_from : (s h q : ℕ) → nat_eq h q ≡ false → (nat_eq s q && not (nat_eq s h)) ≡ nat_eq s q
apart_from s h q e = grind (arith, nat_tests)

neither : (s h q : ℕ) → nat_eq h q ≡ true → (not (nat_eq s h) && nat_eq s q) ≡ false
neither s h q e = grind (arith, nat_tests)

none_of : (holder q : ObjId) (es : List (Place × Deed)) → nat_eq holder.0 q.0 ≡ true → filter (is_of holder) es ≡ [] → filter (is_of q) es ≡ []
none_of holder q es r none =
    let same : holder.0 ≡ q.0 = grind (arith, nat_tests) in
    subst (λ n. filter (is_of (record { 0 = n })) es ≡ []) same none

pub dropped_is : (holder q : ObjId) (ss : List Sentence) (es fs : List (Place × Deed)) → held_by ss q ≡ of_holder q es → (nat_eq holder.0 q.0 ≡ false → filter (is_of q) fs ≡ filter (is_of q) es) → filter (is_of holder) fs ≡ [] → held_by (sentences_without ss holder) q ≡ of_holder q fs
dropped_is holder q ss es fs each others none = step (nat_eq holder.0 q.0) refl
  where
    step : (b : Bool) → nat_eq holder.0 q.0 ≡ b → held_by (sentences_without ss holder) q ≡ of_holder q fs
    step true r =
        filter_twice (λ s. is_object s.holder q) (λ s. not (is_object s.holder holder)) ss
        ∙ filter_none (λ s. not (is_object s.holder holder) && is_object s.holder q) (λ s. neither s.holder.0 holder.0 q.0 r) ss
        ∙ ap (λ gs. reverse (map entry_sentence gs)) (sym (none_of holder q fs r none))
    step false r =
        filter_swap (λ s. is_object s.holder q) (λ s. not (is_object s.holder holder)) ss
        ∙ filter_twice (λ s. not (is_object s.holder holder)) (λ s. is_object s.holder q) ss
        ∙ filter_agrees (λ s. is_object s.holder q && not (is_object s.holder holder)) (λ s. is_object s.holder q) ss (every (λ s. apart_from s.holder.0 holder.0 q.0 r) ss)
        ∙ each
        ∙ ap (λ gs. reverse (map entry_sentence gs)) (sym (others r))
