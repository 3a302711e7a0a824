-- Names and the lines that are for them.
use Rattle.std.proofs.Common.{◌≡◌, ℕ, zero, suc, ◌+◌, ◌<◌, ◌≤◌, Bool, true, false, cond, ◌&&◌, List, [], ◌∷◌, ◌++◌, length, get_or, map, take, drop, Option, Some, None, option_map, refl, sym, ap, ◌∙◌, append_assoc, append-nil, arith, length-append}
use Rattle.std.specs.Prelude.{bytes_eq, filter, nat_eq, slice_get}
use Rattle.std.proofs.lemmas.Bool.{cond-false, eq-eqb, eqb-true, false≢true, ne_eqb}
use Rattle.std.proofs.lemmas.List.{length-map, length-take, map-append, take_more}
use Rattle.std.proofs.lemmas.List.Elements.{filter-append}
use Rattle.std.proofs.lemmas.Option.{slice_get-map}
use Rattle.std.proofs.lemmas.Slice.Eq.{bytes_eq-Decides}
use Rattle.std.proofs.Math.Seq.{drop-cons}
use Rattle.indexmap.specs.IndexMap.{IndexMap}
use Rattle.lp_values.specs.declared.value.Value.{Value}
use Rattle.lp_save.specs.declared.given.Place.{Place}
use Rattle.lp_save.specs.Desks.{as_line}
use Rattle.lp_save.specs.Names.{found_at, times, values_of}
use Rattle.lp_save.specs.SaveText.{Line, count_in, given, lines_of, value_at}

kept_le : {X : Type 0} (b : Bool) (x : X) (ys xs : List X) → length ys ≤ length xs → length (cond b (x ∷ ys) ys) ≤ length (x ∷ xs)
kept_le true x ys xs h = omega arith
kept_le false x ys xs h = omega arith

length_filter_le : {X : Type 0} (p : X → Bool) (xs : List X) → length (filter p xs) ≤ length xs
length_filter_le p [] = omega arith
length_filter_le p (x ∷ xs) = kept_le (p x) x (filter p xs) xs (length_filter_le p xs)

-- ---- lines

-- the lines of a name among one line more
lines_one : (q : List ℕ) (lines : List (List ℕ × Value)) (i : ℕ) (x : List ℕ × Value) → i < length lines → x ≡ get_or lines i x
    → lines_of q (map as_line (take (i + 1) lines)) ≡ lines_of q (map as_line (take i lines)) ++ cond (bytes_eq x.0 q) (as_line x ∷ []) []
lines_one q lines i x lt is =
    let all : take (i + 1) lines ≡ take i lines ++ x ∷ [] = take_more lines i x lt ∙ ap (λ y. take i lines ++ y ∷ []) (sym is) in
    ap (λ ys. lines_of q (map as_line ys)) all ∙ ap (lines_of q) (map-append as_line (take i lines) (x ∷ [])) ∙ filter-append (λ l. bytes_eq l.name q) (map as_line (take i lines)) (as_line x ∷ [])

-- the count of a name grows by one where the line has that name
pub lines_counted : {S T : Type 0} (lines : List (List ℕ × Value)) (i : ℕ) (x : List ℕ × Value) (old : IndexMap (List ℕ) ℕ S) (new : IndexMap (List ℕ) ℕ T) → i < length lines → x ≡ get_or lines i x
    → ((q : List ℕ) → times old q ≡ length (lines_of q (map as_line (take i lines)))) → ((q : List ℕ) → times new q ≡ cond (bytes_eq x.0 q) (times old x.0 + 1) (times old q))
    → (q : List ℕ) → times new q ≡ length (lines_of q (map as_line (take (i + 1) lines)))
lines_counted lines i x old new lt is before after q = by (bytes_eq x.0 q) refl
  where
    by : (b : Bool) → bytes_eq x.0 q ≡ b → times new q ≡ length (lines_of q (map as_line (take (i + 1) lines)))
    by true e =
        let name : x.0 ≡ q = (bytes_eq-Decides x.0 q).0 e in
        let one : length (lines_of q (map as_line (take (i + 1) lines))) ≡ length (lines_of q (map as_line (take i lines))) + 1 =
        ap length (lines_one q lines i x lt is ∙ ap (λ b. lines_of q (map as_line (take i lines)) ++ cond b (as_line x ∷ []) []) e) ∙ length-append (lines_of q (map as_line (take i lines))) (as_line x ∷ []) in
        after q ∙ ap (λ b. cond b (times old x.0 + 1) (times old q)) e ∙ ap (λ n. times old n + 1) name ∙ ap (λ n. n + 1) (before q) ∙ sym one
    by false e =
        let none : length (lines_of q (map as_line (take (i + 1) lines))) ≡ length (lines_of q (map as_line (take i lines))) =
        ap length (lines_one q lines i x lt is ∙ ap (λ b. lines_of q (map as_line (take i lines)) ++ cond b (as_line x ∷ []) []) e ∙ append-nil (lines_of q (map as_line (take i lines)))) in
        after q ∙ ap (λ b. cond b (times old x.0 + 1) (times old q)) e ∙ before q ∙ sym none

slice_get_push : {X : Type 0} (xs : List X) (x : X) (k : ℕ) → slice_get (xs ++ x ∷ []) k ≡ cond (nat_eq (length xs) k) (Some x) (slice_get xs k)
slice_get_push [] x zero = refl
slice_get_push [] x (suc k) = sym (cond-false (nat_eq 0 (suc k)) (Some x) None (ne_eqb 0 (suc k) (λ e. omega arith)))
slice_get_push (y ∷ ys) x zero = sym (cond-false (nat_eq (length (y ∷ ys)) 0) (Some x) (Some y) (ne_eqb (length (y ∷ ys)) 0 (λ e. omega arith)))
slice_get_push (y ∷ ys) x (suc k) = slice_get_push ys x k ∙ ap (λ b. cond b (Some x) (slice_get ys k)) (same (nat_eq (length ys) k) refl)
  where
    same : (b : Bool) → nat_eq (length ys) k ≡ b → nat_eq (length ys) k ≡ nat_eq (length (y ∷ ys)) (suc k)
    same true e = e ∙ sym (eq-eqb (length (y ∷ ys)) (suc k) (let h : length ys ≡ k = eqb-true (length ys) k e in omega arith))
    same false e = e ∙ sym (ne_eqb (length (y ∷ ys)) (suc k) (λ h. false≢true (sym e ∙ eq-eqb (length ys) k (omega arith))))

-- a line more is found at its place
pub line_found : {S T U : Type 0} (lines : List (List ℕ × Value)) (i n : ℕ) (x : List ℕ × Value) (counts : IndexMap (List ℕ) ℕ U) (old : IndexMap Place Value S) (new : IndexMap Place Value T) → i < length lines → x ≡ get_or lines i x
    → ((q : List ℕ) → times counts q ≡ length (lines_of q (map as_line (take i lines)))) → n ≡ times counts x.0
    → ((q : List ℕ) (k : ℕ) → found_at old q k ≡ slice_get (values_of q (map as_line (take i lines))) k)
    → ((q : List ℕ) (k : ℕ) → found_at new q k ≡ cond (bytes_eq x.0 q && nat_eq n k) (Some x.1) (found_at old q k))
    → (q : List ℕ) (k : ℕ) → found_at new q k ≡ slice_get (values_of q (map as_line (take (i + 1) lines))) k
line_found lines i n x counts old new lt is count n_is before after q k = by (bytes_eq x.0 q) refl
  where
    so_far : List Value
    so_far = values_of q (map as_line (take i lines))

    by : (b : Bool) → bytes_eq x.0 q ≡ b → found_at new q k ≡ slice_get (values_of q (map as_line (take (i + 1) lines))) k
    by true e =
        let name : x.0 ≡ q = (bytes_eq-Decides x.0 q).0 e in
        let place : n ≡ length so_far = n_is ∙ ap (times counts) name ∙ count q ∙ sym (length-map (lines_of q (map as_line (take i lines))) (λ l. l.value)) in
        let more : values_of q (map as_line (take (i + 1) lines)) ≡ so_far ++ x.1 ∷ [] =
        ap (map (λ l. l.value)) (lines_one q lines i x lt is ∙ ap (λ b. lines_of q (map as_line (take i lines)) ++ cond b (as_line x ∷ []) []) e)
        ∙ map-append (λ l. l.value) (lines_of q (map as_line (take i lines))) (as_line x ∷ []) in
        after q k ∙ ap (λ b. cond (b && nat_eq n k) (Some x.1) (found_at old q k)) e ∙ ap (λ m. cond (nat_eq m k) (Some x.1) (found_at old q k)) place ∙ ap (cond (nat_eq (length so_far) k) (Some x.1)) (before q k)
        ∙ sym (slice_get_push so_far x.1 k) ∙ ap (λ vs. slice_get vs k) (sym more)
    by false e =
        let same : values_of q (map as_line (take (i + 1) lines)) ≡ so_far =
        ap (map (λ l. l.value)) (lines_one q lines i x lt is ∙ ap (λ b. lines_of q (map as_line (take i lines)) ++ cond b (as_line x ∷ []) []) e ∙ append-nil (lines_of q (map as_line (take i lines)))) in
        after q k ∙ ap (λ b. cond (b && nat_eq n k) (Some x.1) (found_at old q k)) e ∙ before q k ∙ ap (λ vs. slice_get vs k) (sym same)

-- the count of lines is not larger than all lines are
pub lines_few : (q : List ℕ) (lines : List (List ℕ × Value)) (i : ℕ) → i ≤ length lines → length (lines_of q (map as_line (take i lines))) ≤ i
lines_few q lines i le =
    let h = length_filter_le (λ l. bytes_eq l.name q) (map as_line (take i lines)) in
    let m : length (map as_line (take i lines)) ≡ length (take i lines) = length-map (take i lines) as_line in
    let t : length (take i lines) ≤ i = (let h2 = length-take i lines in omega arith) in
    omega arith

-- ---- names

pub names_few : (q : List ℕ) (names : List (List ℕ)) (i : ℕ) → count_in q (take i names) ≤ i
names_few q names i =
    let h = length_filter_le (λ n. bytes_eq n q) (take i names) in
    let t : length (take i names) ≤ i = (let h2 = length-take i names in omega arith) in
    omega arith

names_one : (q : List ℕ) (names : List (List ℕ)) (i : ℕ) (x : List ℕ) → i < length names → x ≡ get_or names i x → filter (λ n. bytes_eq n q) (take (i + 1) names) ≡ filter (λ n. bytes_eq n q) (take i names) ++ cond (bytes_eq x q) (x ∷ []) []
names_one q names i x lt is =
    ap (filter (λ n. bytes_eq n q)) (take_more names i x lt ∙ ap (λ y. take i names ++ y ∷ []) (sym is)) ∙ filter-append (λ n. bytes_eq n q) (take i names) (x ∷ [])

pub names_counted : {S T : Type 0} (names : List (List ℕ)) (i : ℕ) (x : List ℕ) (old : IndexMap (List ℕ) ℕ S) (new : IndexMap (List ℕ) ℕ T) → i < length names → x ≡ get_or names i x
    → ((q : List ℕ) → times old q ≡ count_in q (take i names)) → ((q : List ℕ) → times new q ≡ cond (bytes_eq x q) (times old x + 1) (times old q))
    → (q : List ℕ) → times new q ≡ count_in q (take (i + 1) names)
names_counted names i x old new lt is before after q = by (bytes_eq x q) refl
  where
    by : (b : Bool) → bytes_eq x q ≡ b → times new q ≡ count_in q (take (i + 1) names)
    by true e =
        let name : x ≡ q = (bytes_eq-Decides x q).0 e in
        let one : count_in q (take (i + 1) names) ≡ count_in q (take i names) + 1 =
        ap length (names_one q names i x lt is ∙ ap (λ b. filter (λ n. bytes_eq n q) (take i names) ++ cond b (x ∷ []) []) e) ∙ length-append (filter (λ n. bytes_eq n q) (take i names)) (x ∷ []) in
        after q ∙ ap (λ b. cond b (times old x + 1) (times old q)) e ∙ ap (λ n. times old n + 1) name ∙ ap (λ n. n + 1) (before q) ∙ sym one
    by false e =
        let none : count_in q (take (i + 1) names) ≡ count_in q (take i names) =
        ap length (names_one q names i x lt is ∙ ap (λ b. filter (λ n. bytes_eq n q) (take i names) ++ cond b (x ∷ []) []) e ∙ append-nil (filter (λ n. bytes_eq n q) (take i names))) in
        after q ∙ ap (λ b. cond b (times old x + 1) (times old q)) e ∙ before q ∙ sym none

value_of_line : (o : Option Line) → option_map (λ l. l.value) o ≡ value_at o
value_of_line None = refl
value_of_line (Some l) = refl

-- the value of the next name
pub name_given : (names : List (List ℕ)) (ls : List Line) (i n : ℕ) (x : List ℕ) (v : Option Value) (done : List (Option Value)) → i < length names → x ≡ get_or names i x → done ++ given (take i names) (drop i names) ls ≡ given [] names ls
    → n ≡ count_in x (take i names) → v ≡ slice_get (values_of x ls) n → (done ++ v ∷ []) ++ given (take (i + 1) names) (drop (i + 1) names) ls ≡ given [] names ls
name_given names ls i n x v done lt is so_far n_is v_is =
    let seen : take i names ++ x ∷ [] ≡ take (i + 1) names = sym (take_more names i x lt ∙ ap (λ y. take i names ++ y ∷ []) (sym is)) in
    let step : suc i ≡ i + 1 = omega arith in
    let left : drop i names ≡ x ∷ drop (i + 1) names = drop-cons names i x lt ∙ ap (λ y. y ∷ drop (suc i) names) (sym is) ∙ ap (λ j. x ∷ drop j names) step in
    let value : v ≡ value_at (slice_get (lines_of x ls) (count_in x (take i names))) =
    v_is ∙ ap (slice_get (values_of x ls)) n_is ∙ slice_get-map (λ l. l.value) (lines_of x ls) (count_in x (take i names)) ∙ value_of_line (slice_get (lines_of x ls) (count_in x (take i names))) in
    append_assoc done (v ∷ []) (given (take (i + 1) names) (drop (i + 1) names) ls) ∙ ap (λ before. done ++ v ∷ given before (drop (i + 1) names) ls) (sym seen) ∙ ap (λ w. done ++ w ∷ given (take i names ++ x ∷ []) (drop (i + 1) names) ls) value
    ∙ ap (λ ns. done ++ given (take i names) ns ls) (sym left) ∙ so_far
