-- Lines are read as they were spelled.
use Rattle.std.proofs.Common.{◌≡◌, ℕ, suc, ◌+◌, ◌<◌, Bool, true, false, cond, ◌&&◌, List, [], ◌∷◌, ◌++◌, length, append-nil, append_assoc, drop, map, refl, sym, ap, ◌∙◌, arith, length-append}
use Rattle.std.specs.Prelude.{All, bytes_eq, codes, encode_utf8_all, filter, fold, nat_lt, Some, slice_get}
use Rattle.std.proofs.lemmas.Bool.{cond-true, eq-eqb, lt-ltb}
use Rattle.std.proofs.lemmas.List.Elements.{All-append, All-cons, All-head, All-nil, All-tail, filter-append}
use Rattle.lp_values.specs.declared.id.CellId.{CellId}
use Rattle.lp_values.specs.declared.id.ObjId.{ObjId}
use Rattle.lp_values.specs.declared.value.Value.{Value}
use Rattle.lp_cells.specs.Cells.{IsThere, Store}
use Rattle.lp_save.specs.declared.fault.FaultKind.TheVariants.{BadName}
use Rattle.lp_save.specs.SaveText.{Line, Rest, Spelt, Walk, add, count_in, given, is_variable_name, left, line_spelt, lines_of, max_saved_levels, spelt, value_at, walked}
use Rattle.lp_save.specs.Reading.{AllLines, Done, FaultyAt, Found, Wrong, and_then, bytes_at, line_at, lines_at, nothing_behind}
use Rattle.lp_save.specs.Reading.{value_at as value_found}
use Rattle.lp_save_laws.specs.Matching.{InOrder, IsWithin, Matching, ValuesMatch}
use Rattle.lp_save_laws.proofs.Places.{get_at, kept}
use Rattle.lp_save_laws.proofs.Walks.{Within, within_all, within_value}
use Rattle.lp_save_laws.proofs.Alongside.{Again, Fills, IsPlain, Stands, fills_none, fills_then, rest_with, stands_add}
use Rattle.lp_save_laws.proofs.Leaves.{plain_one}
use Rattle.lp_save_laws.proofs.Inside.{ValuesAgain}
use Rattle.lp_save_laws.proofs.Bytes.{bytes_are, name_behind, name_front, name_plain, with_newlines}

-- ---- one line

line_reads : (name text : List ℕ) (numbers numbers2 : List CellId) (made made2 : Store) (v : Value) → is_variable_name name ≡ true
    → ((steps : ℕ) → length text < steps → value_found steps max_saved_levels (rest_with text numbers made) ≡ Done v (rest_with [] numbers2 made2))
    → line_at (name ++ 32 ∷ text) (rest_with [] numbers made) ≡ Done (record { name = name; value = v }) (rest_with [] numbers2 made2)
line_reads name text numbers numbers2 made made2 v is reads =
    let t : List ℕ = name ++ 32 ∷ text in
    let r : Rest = rest_with [] numbers made in
    let long : length t ≡ length name + length (32 ∷ text) = length-append name (32 ∷ text) in
    let found : List ℕ → Found Line = λ n. cond (is_variable_name n && nat_lt (length n) (length t)) (and_then (and_then (value_found (3 + length t + length t) max_saved_levels (left (drop (length n + 1) t) r)) nothing_behind) (λ v r. Done (record { name = n; value = v }) r)) (Wrong BadName) in
    let lt : nat_lt (length name) (length t) ≡ true = lt-ltb (length name) (length t) (omega arith) in
    ap found (name_front name text is)
    ∙ cond-true (is_variable_name name && nat_lt (length name) (length t)) (and_then (and_then (value_found (3 + length t + length t) max_saved_levels (left (drop (length name + 1) t) r)) nothing_behind) (λ v r. Done (record { name = name; value = v }) r)) (Wrong BadName)
    (λ i. is i && lt i)
    ∙ ap (λ x. and_then (and_then (value_found (3 + length t + length t) max_saved_levels (left x r)) nothing_behind) (λ v r. Done (record { name = name; value = v }) r)) (name_behind name text)
    ∙ ap (λ x. and_then (and_then x nothing_behind) (λ v r. Done (record { name = name; value = v }) r)) (reads (3 + length t + length t) (omega arith))

-- ---- all lines

-- a line for a variable: its name, and a value that matches
abbrev pub LineMatch : Matching → List ℕ × Value → Line → Type 0
LineMatch m p l = (l.name ≡ p.0) × ValuesMatch m p.1 l.value

next_line : (n : ℕ) (done : List Line) (l : List ℕ) (ms : List (List ℕ)) (r : Rest) → lines_at n done (l ∷ (ms ++ [] ∷ [])) r ≡ elim (bytes_at l r) [ Done x y ↦ lines_at (n + 1) (done ++ x ∷ []) (ms ++ [] ∷ []) y | Wrong k ↦ FaultyAt n k ]
next_line n done l [] r = refl
next_line n done l (m ∷ ms) r = refl

pub record LinesAgain (live : ObjId → Bool) (cells : Store) (again : List CellId) (m : Matching) (ps : List (List ℕ × Value)) (w : Walk) (s : Spelt) (numbers : List CellId) (made : Store) (w2 : Walk) (s2 : Spelt) : Type 0 where
  pub texts : List (List ℕ)
  pub lines : List Line
  pub numbers2 : List CellId
  pub made2 : Store
  pub spells : s2.text ≡ s.text ++ with_newlines texts
  pub stands : Stands cells again m w2 s2 numbers2 made2
  pub fills : Fills live cells m w made w2 made2
  pub match : InOrder (LineMatch m) ps lines
  pub plain : All (All IsPlain) texts
  pub reads : (n : ℕ) (done : List Line) → lines_at n done (map encode_utf8_all texts ++ [] ∷ []) (rest_with [] numbers made) ≡ AllLines (done ++ lines) made2

line_text : (a b c d : List ℕ) → ((a ++ (b ++ 32 ∷ [])) ++ c) ++ 10 ∷ d ≡ a ++ (((b ++ 32 ∷ c) ++ 10 ∷ []) ++ d)
line_text a b c d =
    append_assoc (a ++ (b ++ 32 ∷ [])) c (10 ∷ d) ∙ append_assoc a (b ++ 32 ∷ []) (c ++ 10 ∷ d)
    ∙ ap (λ x. a ++ x) (append_assoc b (32 ∷ []) (c ++ 10 ∷ d) ∙ sym (append_assoc b (32 ∷ c) (10 ∷ d)) ∙ sym (append_assoc (b ++ 32 ∷ c) (10 ∷ []) d))

module _ (live : ObjId → Bool) (cells : Store) (again : List CellId) (m : Matching) (value : ValuesAgain live cells again m max_saved_levels) where
  lines_none : (w : Walk) (s : Spelt) (numbers : List CellId) (made : Store) → Stands cells again m w s numbers made → LinesAgain live cells again m [] w s numbers made w s
  lines_none w s numbers made st = record {
    texts = [];
    lines = [];
    numbers2 = numbers;
    made2 = made;
    spells = sym (append-nil s.text);
    stands = st;
    fills = fills_none live cells m w made;
    match = tt;
    plain = All-nil (All IsPlain);
    reads = λ n done. ap (λ x. AllLines x made) (sym (append-nil done));
  }

  lines_one : (p : List ℕ × Value) (ps : List (List ℕ × Value)) (w w2 w3 : Walk) (s s2 s3 : Spelt) (numbers : List CellId) (made : Store) → is_variable_name p.0 ≡ true → Stands cells again m w s numbers made
      → (a : Again live cells again m max_saved_levels p.1 w (add (p.0 ++ codes " ") s) numbers made w2 s2) → LinesAgain live cells again m ps w2 (add (codes "\n") s2) a.numbers2 a.made2 w3 s3 → LinesAgain live cells again m (p ∷ ps) w s numbers made w3 s3
  lines_one p ps w w2 w3 s s2 s3 numbers made is st a b =
      let t : List ℕ = p.0 ++ 32 ∷ a.text in
      let l : Line = record { name = p.0; value = a.value } in
      let t_plain : All IsPlain t = All-append IsPlain p.0 (32 ∷ a.text) (name_plain p.0 is) (plain_one 32 a.text (refl, λ e. omega arith) a.plain) in
      let one : (steps : ℕ) → length a.text < steps → value_found steps max_saved_levels (rest_with a.text numbers made) ≡ Done a.value (rest_with [] a.numbers2 a.made2) =
      λ steps lt. ap (λ x. value_found steps max_saved_levels (rest_with x numbers made)) (sym (append-nil a.text)) ∙ a.reads steps [] lt (refl, refl) in
      let is_read : bytes_at (encode_utf8_all t) (rest_with [] numbers made) ≡ Done l (rest_with [] a.numbers2 a.made2) = bytes_are t (rest_with [] numbers made) t_plain ∙ line_reads p.0 a.text numbers a.numbers2 made a.made2 a.value is one in
      record {
        texts = t ∷ b.texts;
        lines = l ∷ b.lines;
        numbers2 = b.numbers2;
        made2 = b.made2;
        spells = b.spells ∙ ap (λ x. (x ++ 10 ∷ []) ++ with_newlines b.texts) a.spells ∙ append_assoc ((s.text ++ (p.0 ++ 32 ∷ [])) ++ a.text) (10 ∷ []) (with_newlines b.texts) ∙ line_text s.text p.0 a.text (with_newlines b.texts);
        stands = b.stands;
        fills = fills_then live cells m w w2 w3 made a.made2 b.made2 st.count a.stands.count a.fills b.fills;
        match = ((refl, a.match), b.match);
        plain = All-cons (All IsPlain) t b.texts t_plain b.plain;
        reads = λ n done.
            next_line n done (encode_utf8_all t) (map encode_utf8_all b.texts) (rest_with [] numbers made)
            ∙ ap (λ x. elim x [ Done x y ↦ lines_at (n + 1) (done ++ x ∷ []) (map encode_utf8_all b.texts ++ [] ∷ []) y | Wrong k ↦ FaultyAt n k ]) is_read
            ∙ b.reads (n + 1) (done ++ l ∷ []) ∙ ap (λ x. AllLines x b.made2) (append_assoc done (l ∷ []) b.lines);
      }

  pub lines_again : (ps : List (List ℕ × Value)) (w : Walk) (s : Spelt) (numbers : List CellId) (made : Store) → All (λ p. IsThere cells p.1) ps → All (λ p. is_variable_name p.0 ≡ true) ps → All (λ p. IsWithin p.1) ps
      → Within again m.saved (fold (walked live cells max_saved_levels) w (map (λ p. p.1) ps)) → Stands cells again m w s numbers made
      → LinesAgain live cells again m ps w s numbers made (fold (walked live cells max_saved_levels) w (map (λ p. p.1) ps)) (fold (line_spelt live cells (kept again m.saved)) s ps)
  lines_again [] w s numbers made there names within win st = lines_none w s numbers made st
  lines_again (p ∷ ps) w s numbers made there names within win st =
      let shared : List CellId = kept again m.saved in
      let w2 : Walk = walked live cells max_saved_levels w p.1 in
      let s1 : Spelt = add (p.0 ++ codes " ") s in
      let s2 : Spelt = spelt live cells shared max_saved_levels s1 p.1 in
      let rest : List Value = map (λ p. p.1) ps in
      let win2 : Within again m.saved w2 = within_all live cells again m.saved max_saved_levels (within_value live cells again m.saved max_saved_levels) rest w2 win in
      let a : Again live cells again m max_saved_levels p.1 w s1 numbers made w2 s2 =
      value p.1 w s1 numbers made (All-head (λ p. IsThere cells p.1) p ps there) (All-head (λ p. IsWithin p.1) p ps within) win2 (stands_add cells again m w s numbers made (p.0 ++ codes " ") st) in
      lines_one p ps w w2 (fold (walked live cells max_saved_levels) w2 rest) s s2 (fold (line_spelt live cells shared) (add (codes "\n") s2) ps) numbers made (All-head (λ p. is_variable_name p.0 ≡ true) p ps names) st a
      (lines_again ps w2 (add (codes "\n") s2) a.numbers2 a.made2 (All-tail (λ p. IsThere cells p.1) p ps there) (All-tail (λ p. is_variable_name p.0 ≡ true) p ps names) (All-tail (λ p. IsWithin p.1) p ps within) win
      (stands_add cells again m w2 s2 a.numbers2 a.made2 (codes "\n") a.stands))

-- ---- each line is for the name that it has

same_name : (name : List ℕ) → bytes_eq name name ≡ true
same_name [] = refl
same_name (c ∷ cs) = λ i. eq-eqb c c refl i && same_name cs i

count_lines : (name : List ℕ) (ls : List Line) → length (lines_of name ls) ≡ count_in name (map (λ l. l.name) ls)
count_lines name [] = refl
count_lines name (l ∷ ls) = by (bytes_eq l.name name) (count_lines name ls)
  where
    by : (b : Bool) → length (lines_of name ls) ≡ count_in name (map (λ l. l.name) ls) → length (cond b (l ∷ lines_of name ls) (lines_of name ls)) ≡ length (cond b (l.name ∷ filter (λ n. bytes_eq n name) (map (λ l. l.name) ls)) (filter (λ n. bytes_eq n name) (map (λ l. l.name) ls)))
    by true h = ap suc h
    by false h = h

found_own : (front back : List Line) (l : Line) → value_at (slice_get (lines_of l.name (front ++ l ∷ back)) (count_in l.name (map (λ l. l.name) front))) ≡ Some l.value
found_own front back l =
    let mine : List Line → List Line = lines_of l.name in
    let all : mine (front ++ l ∷ back) ≡ mine front ++ l ∷ mine back = filter-append (λ x. bytes_eq x.name l.name) front (l ∷ back) ∙ ap (λ x. mine front ++ x) (cond-true (bytes_eq l.name l.name) (l ∷ mine back) (mine back) (same_name l.name)) in
    ap (λ x. value_at (slice_get x (count_in l.name (map (λ l. l.name) front)))) all ∙ ap (λ n. value_at (slice_get (mine front ++ l ∷ mine back) n)) (sym (count_lines l.name front)) ∙ ap value_at (get_at (mine front) l (mine back))

map_last : (ls : List Line) (l : Line) → map (λ x. x.name) (ls ++ l ∷ []) ≡ map (λ x. x.name) ls ++ l.name ∷ []
map_last [] l = refl
map_last (x ∷ ls) l = ap (λ z. x.name ∷ z) (map_last ls l)

given_from : (front back : List Line) → given (map (λ l. l.name) front) (map (λ l. l.name) back) (front ++ back) ≡ map (λ l. Some l.value) back
given_from front [] = refl
given_from front (l ∷ back) =
    let rest : given (map (λ l. l.name) front ++ l.name ∷ []) (map (λ l. l.name) back) (front ++ l ∷ back) ≡ map (λ l. Some l.value) back =
    ap (λ x. given x (map (λ l. l.name) back) (front ++ l ∷ back)) (sym (map_last front l)) ∙ ap (given (map (λ l. l.name) (front ++ l ∷ [])) (map (λ l. l.name) back)) (sym (append_assoc front (l ∷ []) back)) ∙ given_from (front ++ l ∷ []) back in
    ap (λ x. x ∷ given (map (λ l. l.name) front ++ l.name ∷ []) (map (λ l. l.name) back) (front ++ l ∷ back)) (found_own front back l) ∙ ap (λ x. Some l.value ∷ x) rest

pub given_own : (ls : List Line) → given [] (map (λ l. l.name) ls) ls ≡ map (λ l. Some l.value) ls
given_own ls = given_from [] ls
