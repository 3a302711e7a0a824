-- A value is read as it was spelled, where all that is saved was gone over and no cell lies too deep.
use Rattle.std.proofs.Common.{◌≡◌, ℕ, zero, suc, ◌+◌, ◌-◌, ◌^◌, ◌<◌, ◌≤◌, Bool, true, false, cond, ◌||◌, ◌&&◌, List, [], ◌∷◌, ◌++◌, length, append_assoc, Option, Some, None, unwrap_or, IsSome, is_some, refl, sym, ap, subst, ◌∙◌, arith, length-append}
use Rattle.std.specs.Prelude.{All, codes, decimal, fold, flat_map, nat_eq}
use Rattle.std.specs.List.{starts_with}
use Rattle.std.proofs.lemmas.Bool.{cond-true, eq-eqb}
use Rattle.std.proofs.lemmas.List.Elements.{All-append, All-filter, All-nil}
use Rattle.indexmap.specs.IndexMap.{insert_all}
use Rattle.lp_values.specs.Limits.{max_items}
use Rattle.lp_values.specs.Read.{live_part, value_eq}
use Rattle.lp_values.specs.declared.id.CellId.{CellId}
use Rattle.lp_values.specs.declared.id.ObjId.{ObjId}
use Rattle.lp_values.specs.declared.value.Value.{Value}
use Rattle.lp_values.specs.declared.value.Value.TheVariants.{Arr, Int, Map, Obj, Str}
use Rattle.lp_cells.specs.declared.content.Content.{Content}
use Rattle.lp_cells.specs.declared.content.Content.TheVariants as content
use Rattle.lp_cells.specs.Cells.{IsClosed, IsPairThere, IsThere, Store, as_items, as_pairs, content_at, content_set, items_of, kind_of, stored_pairs, with_cell}
use Rattle.lp_cells.specs.Mapping.{pairs_there}
use Rattle.lp_cells.proofs.ClosedLemmas.{items_there, stored_there}
use Rattle.lp_save.specs.declared.fault.FaultKind.TheVariants.{BadShare}
use Rattle.lp_save.specs.SaveText.{Rest, Spelt, Walk, add, again_text, begins, begun, is_among, met_again, met_deep, met_first, share_number, spelt, walked}
use Rattle.lp_save.specs.Reading.{Done, Found, Wrong, and_then, array_filled, cell_at, mapping_filled, value_at}
use Rattle.lp_save.proofs.DeskLemmas.{value_cell}
use Rattle.lp_save_laws.specs.Matching.{AreWithin, ContentsMatch, InOrder, IsWithin, Matching, PairsMatch, ValuesMatch}
use Rattle.lp_save_laws.proofs.Places.{among_kept, kept}
use Rattle.lp_save_laws.proofs.Walks.{Within, met_before, within_all, within_value}
use Rattle.lp_save_laws.proofs.Alongside.{Again, Ends, and_none, room_for, Fills, IsPlain, Stands, begun_is, begun_text, closes, fills_ended, here, numbers_with, opens, rest_with}
use Rattle.lp_save_laws.proofs.Leaves.{array_ref, decimal_plain, int_leaf, mapping_ref, number_reads, object_leaf, plain_one, text_leaf}
use Rattle.lp_save_laws.proofs.Inside.{ItemsAgain, PairsAgain, ValuesAgain, items_again, pair_spelt, pairs_again}

-- ---- a cell that begins with its number, where it is shared

five : (a b c d e : List ℕ) → (((a ++ b) ++ c) ++ d) ++ e ≡ a ++ (b ++ (c ++ (d ++ e)))
five a b c d e = append_assoc ((a ++ b) ++ c) d e ∙ append_assoc (a ++ b) c (d ++ e) ∙ append_assoc a b (c ++ (d ++ e))

head_no_end : (b : Bool) (numbers : List CellId) (x : ℕ) (xs rest : List ℕ) → (starts_with nat_eq ((begun_text b numbers ++ 40 ∷ x ∷ xs) ++ rest) (codes "})") ≡ false) × (starts_with nat_eq ((begun_text b numbers ++ 40 ∷ x ∷ xs) ++ rest) (codes "])") ≡ false)
head_no_end true numbers x xs rest = (refl, refl)
head_no_end false numbers x xs rest = (refl, refl)

head_plain : (b : Bool) (numbers : List CellId) → (b ≡ true → length numbers + 1 < 2 ^ 64) → All IsPlain (begun_text b numbers)
head_plain true numbers small =
    plain_one 60 (decimal (length numbers + 1) ++ 62 ∷ 61 ∷ []) (refl, λ e. omega arith)
    (All-append IsPlain (decimal (length numbers + 1)) (62 ∷ 61 ∷ []) (decimal_plain (length numbers + 1) (small refl)) (plain_one 62 (61 ∷ []) (refl, λ e. omega arith) (plain_one 61 [] (refl, λ e. omega arith) (All-nil IsPlain))))
head_plain false numbers small = All-nil IsPlain

module _ (live : ObjId → Bool) (cells : Store) (again : List CellId) (m : Matching) where
  -- what stands before the cell is read
  head_reads : (a n : ℕ) (b : Bool) (body : List ℕ) (numbers : List CellId) (made : Store) → (b ≡ true → length numbers + 1 < 2 ^ 64) → begins (codes "<") (rest_with body numbers made) ≡ false
      → (begins (codes "({") (rest_with body numbers made) || begins (codes "([") (rest_with body numbers made)) ≡ true → value_at (suc a) n (rest_with (begun_text b numbers ++ body) numbers made) ≡ cell_at a n b (rest_with body numbers made)
  head_reads a n false body numbers made small other cell =
      let less : suc a - 1 ≡ a = omega arith in
      value_cell (suc a) n (rest_with body numbers made) (omega arith) other cell ∙ ap (λ k. cell_at k n false (rest_with body numbers made)) less
  head_reads a n true body numbers made small other cell =
      let less : suc a - 1 ≡ a = omega arith in
      let k : ℕ = length numbers in
      let r : Rest = rest_with (61 ∷ body) numbers made in
      ap (λ x. value_at (suc a) n (rest_with (60 ∷ x) numbers made)) (append_assoc (decimal (k + 1)) (62 ∷ 61 ∷ []) body) ∙ number_reads live cells again m (suc a) n k (61 ∷ body) numbers made (omega arith) (small refl)
      ∙ cond-true (nat_eq (k + 1) (length numbers + 1)) (cell_at (suc a - 1) n true (rest_with body numbers made)) (Wrong BadShare) (eq-eqb (k + 1) (length numbers + 1) refl) ∙ ap (λ j. cell_at j n true (rest_with body numbers made)) less

  -- a cell that was not met: what it holds is read, and put into the new cell
  cell_again : (n : ℕ) (v value : Value) (w w2 : Walk) (s s2 : Spelt) (numbers numbers2 : List CellId) (made made2 : Store) (c : CellId) (later : List CellId) (st : Stands cells again m w s numbers made) (front : m.saved ≡ (w.met ++ c ∷ []) ++ later)
      (other : is_among c w.met ≡ false) (small : length (kept again m.saved) < 2 ^ 64) (x0 x : Content) (kind0 : kind_of (Some x0) ≡ kind_of (content_at cells c)) (kind : kind_of (Some x) ≡ kind_of (content_at cells c)) (mark last : ℕ) (text : List ℕ)
      → s2.text ≡ (add (40 ∷ mark ∷ []) (begun (share_number (kept again m.saved) c) c s)).text ++ text → Stands cells again m w2 s2 numbers2 made2 → Fills live cells m (met_first c w) (with_cell made x0) w2 made2
      → ContentsMatch live m (content_at cells c) (Some x) → ValuesMatch m v value → All IsPlain text → IsPlain mark → IsPlain last
      → ((rest : List ℕ) → (begins (codes "({") (rest_with (40 ∷ mark ∷ rest) numbers made) || begins (codes "([") (rest_with (40 ∷ mark ∷ rest) numbers made)) ≡ true)
      → ((a : ℕ) (rest : List ℕ) → length text < a → cell_at (suc a) (suc n) (is_among c again) (rest_with (40 ∷ mark ∷ text ++ last ∷ 41 ∷ rest) numbers made) ≡ Done value (rest_with rest numbers2 (content_set made2 (record { 0 = length made }) x)))
      → Again live cells again m (suc n) v w s numbers made w2 (add (last ∷ 41 ∷ []) s2)
  cell_again n v value w w2 s s2 numbers numbers2 made made2 c later st front other small x0 x kind0 kind mark last text spells stands fills holds match plain mark_plain last_plain marks body =
      let b : Bool = is_among c again in
      let head : List ℕ = begun_text b numbers in
      let room : b ≡ true → length numbers + 1 < 2 ^ 64 = room_for cells again m w s numbers made c later st front other small in
      record {
        text = head ++ (40 ∷ mark ∷ text ++ last ∷ 41 ∷ []);
        value = value;
        numbers2 = numbers2;
        made2 = content_set made2 (record { 0 = length made }) x;
        spells = ap (λ z. z ++ last ∷ 41 ∷ []) (spells ∙ ap (λ z. (z ++ 40 ∷ mark ∷ []) ++ text) (begun_is cells again m w s numbers made c later st front other b refl)) ∙ five s.text head (40 ∷ mark ∷ []) text (last ∷ 41 ∷ []);
        stands = closes cells again m w s numbers made c later st front other x0 kind0 live w2 s2 numbers2 made2 x kind stands fills (last ∷ 41 ∷ []);
        fills = fills_ended cells again m w s numbers made c later st front other x0 kind0 live w2 s2 numbers2 made2 x kind stands fills holds;
        match = match;
        begins = head_no_end b numbers mark (text ++ last ∷ 41 ∷ []);
        plain = All-append IsPlain head (40 ∷ mark ∷ text ++ last ∷ 41 ∷ []) (head_plain b numbers room)
            (plain_one 40 (mark ∷ text ++ last ∷ 41 ∷ []) (refl, λ e. omega arith)
            (plain_one mark (text ++ last ∷ 41 ∷ []) mark_plain (All-append IsPlain text (last ∷ 41 ∷ []) plain (plain_one last (41 ∷ []) last_plain (plain_one 41 [] (refl, λ e. omega arith) (All-nil IsPlain))))));
        reads = reads_by;
      }
    where
      reads_by : (steps : ℕ) (rest : List ℕ) → length (begun_text (is_among c again) numbers ++ (40 ∷ mark ∷ text ++ last ∷ 41 ∷ [])) < steps → Ends rest
          → value_at steps (suc n) (rest_with ((begun_text (is_among c again) numbers ++ (40 ∷ mark ∷ text ++ last ∷ 41 ∷ [])) ++ rest) numbers made) ≡ Done value (rest_with rest numbers2 (content_set made2 (record { 0 = length made }) x))
      reads_by zero rest lt ends = absurd (omega arith)
      reads_by (suc zero) rest lt ends =
          let one = length-append (begun_text (is_among c again) numbers) (40 ∷ mark ∷ text ++ last ∷ 41 ∷ []) in
          absurd (omega arith)
      reads_by (suc (suc a)) rest lt ends =
          let head : List ℕ = begun_text (is_among c again) numbers in
          let one = length-append head (40 ∷ mark ∷ text ++ last ∷ 41 ∷ []) in
          let two = length-append text (last ∷ 41 ∷ []) in
          ap (λ z. value_at (suc (suc a)) (suc n) (rest_with z numbers made)) (append_assoc head (40 ∷ mark ∷ text ++ last ∷ 41 ∷ []) rest ∙ ap (λ z. head ++ (40 ∷ mark ∷ z)) (append_assoc text (last ∷ 41 ∷ []) rest))
          ∙ head_reads (suc a) (suc n) (is_among c again) (40 ∷ mark ∷ text ++ last ∷ 41 ∷ rest) numbers made (room_for cells again m w s numbers made c later st front other small) refl (marks (text ++ last ∷ 41 ∷ rest))
          ∙ body a rest (omega arith)

  -- ---- values of a level, where those of the level below are read again

  module _ (closed : IsClosed cells) (fits : (c : CellId) (x : Content) → content_at cells c ≡ Some x → AreWithin live x) (small : length (kept again m.saved) < 2 ^ 64) where
    array_new : (n : ℕ) → ValuesAgain live cells again m n → (c : CellId) (vs : List Value) (w : Walk) (s : Spelt) (numbers : List CellId) (made : Store) → content_at cells c ≡ Some (content.Array vs) → is_among c w.met ≡ false → Stands cells again m w s numbers made
        → Within again m.saved (fold (walked live cells n) (met_first c w) (items_of cells c))
        → Again live cells again m (suc n) (Arr c) w s numbers made (fold (walked live cells n) (met_first c w) (items_of cells c))
        (add (codes "})") (fold (λ x v. add (codes ",") (spelt live cells (kept again m.saved) n x v)) (add (codes "({") (begun (share_number (kept again m.saved) c) c s)) (items_of cells c)))
    array_new n value c vs w s numbers made is other st win =
        let held : items_of cells c ≡ vs = ap (λ o. unwrap_or (as_items o) []) is in
        let win1 : Within again m.saved (met_first c w) = within_all live cells again m.saved n (within_value live cells again m.saved n) (items_of cells c) (met_first c w) win in
        let kind0 : kind_of (Some (content.Array [])) ≡ kind_of (content_at cells c) = ap kind_of (sym is) in
        let b : Bool = is_among c again in
        let f = fits c (content.Array vs) is in
        let len : length (items_of cells c) ≤ max_items = subst (λ l. length l ≤ max_items) (sym held) f.0 in
        let s1 : Spelt = add (codes "({") (begun (share_number (kept again m.saved) c) c s) in
        let opened : Stands cells again m (met_first c w) s1 (numbers_with b numbers made) (with_cell made (content.Array [])) = opens cells again m w s numbers made c win1.later st win1.front other (content.Array []) kind0 b refl (codes "({") in
        let it : ItemsAgain live cells again m n (items_of cells c) (met_first c w) s1 (numbers_with b numbers made) (with_cell made (content.Array [])) (fold (walked live cells n) (met_first c w) (items_of cells c))
        (fold (λ x v. add (codes ",") (spelt live cells (kept again m.saved) n x v)) s1 (items_of cells c)) =
        items_again live cells again m n value (items_of cells c) (met_first c w) s1 (numbers_with b numbers made) (with_cell made (content.Array [])) (items_there cells c closed) (subst (All IsWithin) (sym held) f.1) win opened in
        let place : CellId = record { 0 = length made } in
        cell_again n (Arr c) (Arr place) w (fold (walked live cells n) (met_first c w) (items_of cells c)) s (fold (λ x v. add (codes ",") (spelt live cells (kept again m.saved) n x v)) s1 (items_of cells c)) numbers it.numbers2 made it.made2 c win1.later st win1.front other
        small (content.Array []) (content.Array it.values) kind0 kind0 123 125 it.text it.spells it.stands it.fills
        (subst (λ o. ContentsMatch live m o (Some (content.Array it.values))) (sym is) (subst (λ l. InOrder (ValuesMatch m) l it.values) held it.match))
        (length w.met, here cells again m w s numbers made c win1.later st win1.front other, st.count) it.plain (refl, λ e. omega arith) (refl, λ e. omega arith) (λ rest. refl)
        (λ a rest lt. let filled : List Value → Rest → Found Value = λ vs x. Done (Arr place) (array_filled place vs x) in ap (λ z. and_then z filled) {y = Done it.values (rest_with rest it.numbers2 it.made2)} (it.reads a rest [] lt (omega arith)))

    mapping_new : (n : ℕ) → ValuesAgain live cells again m n → (c : CellId) (ps : List (Value × Value)) (w : Walk) (s : Spelt) (numbers : List CellId) (made : Store) → content_at cells c ≡ Some (content.Mapping ps) → is_among c w.met ≡ false → Stands cells again m w s numbers made
        → Within again m.saved (fold (walked live cells n) (met_first c w) (flat_map (λ p. p.0 ∷ p.1 ∷ []) (pairs_there live (stored_pairs cells c))))
        → Again live cells again m (suc n) (Map c) w s numbers made (fold (walked live cells n) (met_first c w) (flat_map (λ p. p.0 ∷ p.1 ∷ []) (pairs_there live (stored_pairs cells c))))
        (add (codes "])") (fold (pair_spelt live cells (kept again m.saved) n) (add (codes "([") (begun (share_number (kept again m.saved) c) c s)) (pairs_there live (stored_pairs cells c))))
    mapping_new n value c ps w s numbers made is other st win =
        let qs : List (Value × Value) = pairs_there live (stored_pairs cells c) in
        let held : qs ≡ pairs_there live ps = ap (λ o. pairs_there live (unwrap_or (as_pairs o) [])) is in
        let win1 : Within again m.saved (met_first c w) = within_all live cells again m.saved n (within_value live cells again m.saved n) (flat_map (λ p. p.0 ∷ p.1 ∷ []) qs) (met_first c w) win in
        let kind0 : kind_of (Some (content.Mapping [])) ≡ kind_of (content_at cells c) = ap kind_of (sym is) in
        let b : Bool = is_among c again in
        let f = fits c (content.Mapping ps) is in
        let len : length qs ≤ max_items = subst (λ l. length l ≤ max_items) (sym held) f.0 in
        let s1 : Spelt = add (codes "([") (begun (share_number (kept again m.saved) c) c s) in
        let opened : Stands cells again m (met_first c w) s1 (numbers_with b numbers made) (with_cell made (content.Mapping [])) = opens cells again m w s numbers made c win1.later st win1.front other (content.Mapping []) kind0 b refl (codes "([") in
        let there : All (IsPairThere cells) qs = All-filter (λ p. is_some (live_part live p.0)) (IsPairThere cells) (stored_pairs cells c) (stored_there cells c closed) in
        let within : All (λ p. IsWithin p.0 × IsWithin p.1) qs = subst (All (λ p. IsWithin p.0 × IsWithin p.1)) (sym held) (All-filter (λ p. is_some (live_part live p.0)) (λ p. IsWithin p.0 × IsWithin p.1) ps f.1) in
        let it : PairsAgain live cells again m n qs (met_first c w) s1 (numbers_with b numbers made) (with_cell made (content.Mapping [])) (fold (walked live cells n) (met_first c w) (flat_map (λ p. p.0 ∷ p.1 ∷ []) qs)) (fold (pair_spelt live cells (kept again m.saved) n) s1 qs) =
        pairs_again live cells again m n value qs (met_first c w) s1 (numbers_with b numbers made) (with_cell made (content.Mapping [])) there within win opened in
        let place : CellId = record { 0 = length made } in
        cell_again n (Map c) (Map place) w (fold (walked live cells n) (met_first c w) (flat_map (λ p. p.0 ∷ p.1 ∷ []) qs)) s (fold (pair_spelt live cells (kept again m.saved) n) s1 qs) numbers it.numbers2 made it.made2 c win1.later st win1.front other small (content.Mapping [])
        (content.Mapping (insert_all value_eq [] it.pairs)) kind0 kind0 91 93 it.text it.spells it.stands it.fills
        (subst (λ o. ContentsMatch live m o (Some (content.Mapping (insert_all value_eq [] it.pairs)))) (sym is) (it.pairs, subst (λ l. InOrder (PairsMatch m) l it.pairs) held it.match, refl))
        (length w.met, here cells again m w s numbers made c win1.later st win1.front other, st.count) it.plain (refl, λ e. omega arith) (refl, λ e. omega arith) (λ rest. refl)
        (λ a rest lt. let filled : List (Value × Value) → Rest → Found Value = λ qs x. Done (Map place) (mapping_filled place qs x) in ap (λ z. and_then z filled) {y = Done (insert_all value_eq [] it.pairs) (rest_with rest it.numbers2 it.made2)} (it.reads a rest [] lt (omega arith)))

    -- what a value names
    record ArrayAt (c : CellId) : Type 0 where
      items : List Value
      is : content_at cells c ≡ Some (content.Array items)

    record MappingAt (c : CellId) : Type 0 where
      pairs : List (Value × Value)
      is : content_at cells c ≡ Some (content.Mapping pairs)

    array_at : (c : CellId) (o : Option Content) → content_at cells c ≡ o → IsSome (as_items o) → ArrayAt c
    array_at c (Some (content.Array vs)) e h = record { items = vs; is = e }
    array_at c (Some (content.Mapping ps)) e h = cc
    array_at c None e h = cc

    mapping_at : (c : CellId) (o : Option Content) → content_at cells c ≡ o → IsSome (as_pairs o) → MappingAt c
    mapping_at c (Some (content.Array vs)) e h = cc
    mapping_at c (Some (content.Mapping ps)) e h = record { pairs = ps; is = e }
    mapping_at c None e h = cc

    -- a cell that is met again is among those that are
    again_so : (c : CellId) (w : Walk) → Within again m.saved (met_again c w) → is_among c again ≡ true
    again_so c w h = h.more c (ap (λ x. x || is_among c w.again) (eq-eqb c.0 c.0 refl))

    done_met : (c : CellId) (w : Walk) (s : Spelt) (numbers : List CellId) (made : Store) → Stands cells again m w s numbers made → is_among c w.met ≡ true → is_among c again ≡ true → is_among c s.done ≡ true
    done_met c w s numbers made st met more = st.done c ∙ among_kept again c w.met ∙ (λ i. more i && met i)

    done_other : (c : CellId) (w : Walk) (s : Spelt) (numbers : List CellId) (made : Store) → Stands cells again m w s numbers made → is_among c w.met ≡ false → is_among c s.done ≡ false
    done_other c w s numbers made st other = st.done c ∙ among_kept again c w.met ∙ ap (λ x. is_among c again && x) other ∙ and_none (is_among c again)

    array_by : (n : ℕ) → ValuesAgain live cells again m n → (c : CellId) (w : Walk) (s : Spelt) (numbers : List CellId) (made : Store) → IsThere cells (Arr c) → Stands cells again m w s numbers made → (t : Bool) → is_among c w.met ≡ t
        → Within again m.saved (cond t (met_again c w) (fold (walked live cells n) (met_first c w) (items_of cells c)))
        → Again live cells again m (suc n) (Arr c) w s numbers made (cond t (met_again c w) (fold (walked live cells n) (met_first c w) (items_of cells c))) (spelt live cells (kept again m.saved) (suc n) s (Arr c))
    array_by n value c w s numbers made there st true met win =
        let more : is_among c again ≡ true = again_so c w win in
        let x : Spelt = add (again_text (share_number (kept again m.saved) c)) s in
        let y : Spelt = add (codes "})") (fold (λ x v. add (codes ",") (spelt live cells (kept again m.saved) n x v)) (add (codes "({") (begun (share_number (kept again m.saved) c) c s)) (items_of cells c)) in
        subst (λ d. Again live cells again m (suc n) (Arr c) w s numbers made (met_again c w) (cond d x y)) (sym (done_met c w s numbers made st met more)) (array_ref live cells again m (suc n) w s numbers made c win.later st win.front met more small there)
    array_by n value c w s numbers made there st false other win =
        let a : ArrayAt c = array_at c (content_at cells c) refl there in
        let x : Spelt = add (again_text (share_number (kept again m.saved) c)) s in
        let y : Spelt = add (codes "})") (fold (λ x v. add (codes ",") (spelt live cells (kept again m.saved) n x v)) (add (codes "({") (begun (share_number (kept again m.saved) c) c s)) (items_of cells c)) in
        subst (λ d. Again live cells again m (suc n) (Arr c) w s numbers made (fold (walked live cells n) (met_first c w) (items_of cells c)) (cond d x y)) (sym (done_other c w s numbers made st other)) (array_new n value c a.items w s numbers made a.is other st win)

    mapping_by : (n : ℕ) → ValuesAgain live cells again m n → (c : CellId) (w : Walk) (s : Spelt) (numbers : List CellId) (made : Store) → IsThere cells (Map c) → Stands cells again m w s numbers made → (t : Bool) → is_among c w.met ≡ t
        → Within again m.saved (cond t (met_again c w) (fold (walked live cells n) (met_first c w) (flat_map (λ p. p.0 ∷ p.1 ∷ []) (pairs_there live (stored_pairs cells c)))))
        → Again live cells again m (suc n) (Map c) w s numbers made (cond t (met_again c w) (fold (walked live cells n) (met_first c w) (flat_map (λ p. p.0 ∷ p.1 ∷ []) (pairs_there live (stored_pairs cells c))))) (spelt live cells (kept again m.saved) (suc n) s (Map c))
    mapping_by n value c w s numbers made there st true met win =
        let more : is_among c again ≡ true = again_so c w win in
        let x : Spelt = add (again_text (share_number (kept again m.saved) c)) s in
        let y : Spelt = add (codes "])") (fold (pair_spelt live cells (kept again m.saved) n) (add (codes "([") (begun (share_number (kept again m.saved) c) c s)) (pairs_there live (stored_pairs cells c))) in
        subst (λ d. Again live cells again m (suc n) (Map c) w s numbers made (met_again c w) (cond d x y)) (sym (done_met c w s numbers made st met more)) (mapping_ref live cells again m (suc n) w s numbers made c win.later st win.front met more small there)
    mapping_by n value c w s numbers made there st false other win =
        let a : MappingAt c = mapping_at c (content_at cells c) refl there in
        let x : Spelt = add (again_text (share_number (kept again m.saved) c)) s in
        let y : Spelt = add (codes "])") (fold (pair_spelt live cells (kept again m.saved) n) (add (codes "([") (begun (share_number (kept again m.saved) c) c s)) (pairs_there live (stored_pairs cells c))) in
        subst (λ d. Again live cells again m (suc n) (Map c) w s numbers made (fold (walked live cells n) (met_first c w) (flat_map (λ p. p.0 ∷ p.1 ∷ []) (pairs_there live (stored_pairs cells c)))) (cond d x y)) (sym (done_other c w s numbers made st other))
        (mapping_new n value c a.pairs w s numbers made a.is other st win)

    -- each value is read as it was spelled
    pub value_again : (n : ℕ) → ValuesAgain live cells again m n
    value_again zero (Int i) w s numbers made there within win st = int_leaf live cells again m 0 i w s numbers made within st
    value_again zero (Str t) w s numbers made there within win st = text_leaf live cells again m 0 t w s numbers made within.0 within.1 st
    value_again zero (Obj o) w s numbers made there within win st = object_leaf live cells again m 0 o w s numbers made st
    value_again zero (Arr c) w s numbers made there within win st =
        let b = met_before live cells again m.saved c w win in
        let x : Spelt = add (again_text (share_number (kept again m.saved) c)) s in
        subst (λ t. Again live cells again m 0 (Arr c) w s numbers made (cond t (met_again c w) (met_deep w)) x) (sym b.0) (array_ref live cells again m 0 w s numbers made c b.1.later st b.1.front b.0 (again_so c w b.1) small there)
    value_again zero (Map c) w s numbers made there within win st =
        let b = met_before live cells again m.saved c w win in
        let x : Spelt = add (again_text (share_number (kept again m.saved) c)) s in
        subst (λ t. Again live cells again m 0 (Map c) w s numbers made (cond t (met_again c w) (met_deep w)) x) (sym b.0) (mapping_ref live cells again m 0 w s numbers made c b.1.later st b.1.front b.0 (again_so c w b.1) small there)
    value_again (suc n) (Int i) w s numbers made there within win st = int_leaf live cells again m (suc n) i w s numbers made within st
    value_again (suc n) (Str t) w s numbers made there within win st = text_leaf live cells again m (suc n) t w s numbers made within.0 within.1 st
    value_again (suc n) (Obj o) w s numbers made there within win st = object_leaf live cells again m (suc n) o w s numbers made st
    value_again (suc n) (Arr c) w s numbers made there within win st = array_by n (value_again n) c w s numbers made there st (is_among c w.met) refl win
    value_again (suc n) (Map c) w s numbers made there within win st = mapping_by n (value_again n) c w s numbers made there st (is_among c w.met) refl win
