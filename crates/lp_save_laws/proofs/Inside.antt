-- What cells hold is read as it was spelled: items, and pairs.
use Rattle.std.proofs.Common.{◌≡◌, ℕ, zero, suc, ◌+◌, ◌<◌, ◌≤◌, Bool, false, cond, List, [], ◌∷◌, ◌++◌, length, append-nil, append_assoc, drop, refl, sym, ap, ◌∙◌, arith, length-append}
use Rattle.std.specs.Prelude.{All, codes, fold, flat_map, nat_eq, nat_lt}
use Rattle.std.specs.List.{starts_with}
use Rattle.std.proofs.lemmas.Bool.{cond-true, cond-false, cond_both, le-ltb, lt-ltb}
use Rattle.std.proofs.lemmas.List.Elements.{All-append, All-head, All-nil, All-tail}
use Rattle.indexmap.specs.IndexMap.{insert_all, insert_entry}
use Rattle.lp_values.specs.Limits.{max_items}
use Rattle.lp_values.specs.Read.{value_eq}
use Rattle.lp_values.specs.declared.id.CellId.{CellId}
use Rattle.lp_values.specs.declared.id.ObjId.{ObjId}
use Rattle.lp_values.specs.declared.value.Value.{Value}
use Rattle.lp_cells.specs.Cells.{IsPairThere, IsThere, Store}
use Rattle.lp_save.specs.declared.fault.FaultKind.TheVariants.{BadValue, TooLong}
use Rattle.lp_save.specs.SaveText.{Rest, Spelt, Walk, add, begins, left, needed, spelt, walked}
use Rattle.lp_save.specs.Reading.{Done, Found, Wrong, and_then, items_at, or_wrong, pairs_at, value_at}
use Rattle.lp_save_laws.specs.Matching.{InOrder, IsWithin, Matching, PairsMatch, ValuesMatch}
use Rattle.lp_save_laws.proofs.Places.{kept}
use Rattle.lp_save_laws.proofs.Walks.{Within, within_all, within_value}
use Rattle.lp_save_laws.proofs.Alongside.{Again, Fills, IsPlain, Stands, fills_none, fills_then, rest_with, stands_add}
use Rattle.lp_save_laws.proofs.Leaves.{plain_one}

-- ---- one item, and one pair, is read

pub one_item : (b n : ℕ) (acc : List Value) (text rest : List ℕ) (numbers numbers2 : List CellId) (made made2 : Store) (v : Value) → starts_with nat_eq (text ++ 44 ∷ rest) (codes "})") ≡ false
    → value_at b n (rest_with (text ++ 44 ∷ rest) numbers made) ≡ Done v (rest_with (44 ∷ rest) numbers2 made2) → length acc < max_items
    → items_at (suc b) n acc (rest_with (text ++ 44 ∷ rest) numbers made) ≡ items_at b n (acc ++ v ∷ []) (rest_with rest numbers2 made2)
one_item b n acc text rest numbers numbers2 made made2 v unlike is room =
    let r : Rest = rest_with (text ++ 44 ∷ rest) numbers made in
    let body : Value → Rest → Found (List Value) = λ v r. cond (nat_lt (length acc) max_items) (and_then (or_wrong BadValue (needed (codes ",") r)) (λ x r. items_at b n (acc ++ v ∷ []) r)) (Wrong TooLong) in
    cond-false (begins (codes "})") r) (Done acc (left (drop 2 r.text) r)) (and_then (value_at b n r) body) unlike ∙ ap (λ x. and_then x body) is
    ∙ cond-true (nat_lt (length acc) max_items) (items_at b n (acc ++ v ∷ []) (rest_with rest numbers2 made2)) (Wrong TooLong) (lt-ltb (length acc) max_items room)

pub insert_length : (ps : List (Value × Value)) (k v : Value) → length (insert_entry value_eq ps k v) ≤ length ps + 1
insert_length [] k v = omega arith
insert_length (p ∷ ps) k v =
    cond_both (value_eq k p.0) ((p.0, v) ∷ ps) (p ∷ insert_entry value_eq ps k v) (λ x. length x ≤ length (p ∷ ps) + 1) (λ e. omega arith) (λ e. let h = insert_length ps k v in omega (arith, h))

pub one_pair : (b n : ℕ) (acc : List (Value × Value)) (text text2 rest : List ℕ) (numbers numbers2 numbers3 : List CellId) (made made2 made3 : Store) (k v : Value) → starts_with nat_eq (text ++ (58 ∷ text2 ++ 44 ∷ rest)) (codes "])") ≡ false
    → value_at b n (rest_with (text ++ (58 ∷ text2 ++ 44 ∷ rest)) numbers made) ≡ Done k (rest_with (58 ∷ text2 ++ 44 ∷ rest) numbers2 made2) → value_at b n (rest_with (text2 ++ 44 ∷ rest) numbers2 made2) ≡ Done v (rest_with (44 ∷ rest) numbers3 made3)
    → length acc < max_items → pairs_at (suc b) n acc (rest_with (text ++ (58 ∷ text2 ++ 44 ∷ rest)) numbers made) ≡ pairs_at b n (insert_entry value_eq acc k v) (rest_with rest numbers3 made3)
one_pair b n acc text text2 rest numbers numbers2 numbers3 made made2 made3 k v unlike is is2 room =
    let r : Rest = rest_with (text ++ (58 ∷ text2 ++ 44 ∷ rest)) numbers made in
    let put : Value → Value → Rest → Found (List (Value × Value)) = λ k v r. cond (nat_lt max_items (length (insert_entry value_eq acc k v))) (Wrong TooLong) (and_then (or_wrong BadValue (needed (codes ",") r)) (λ y r. pairs_at b n (insert_entry value_eq acc k v) r)) in
    let body : Value → Rest → Found (List (Value × Value)) = λ k r. and_then (or_wrong BadValue (needed (codes ":") r)) (λ x r. and_then (value_at b n r) (put k)) in
    let le = insert_length acc k v in
    cond-false (begins (codes "])") r) (Done acc (left (drop 2 r.text) r)) (and_then (value_at b n r) body) unlike ∙ ap (λ x. and_then x body) is ∙ ap (λ x. and_then x (put k)) is2
    ∙ cond-false (nat_lt max_items (length (insert_entry value_eq acc k v))) (Wrong TooLong) (pairs_at b n (insert_entry value_eq acc k v) (rest_with rest numbers3 made3)) (le-ltb max_items (length (insert_entry value_eq acc k v)) (omega arith))

-- ---- all items, and all pairs

pub record ItemsAgain (live : ObjId → Bool) (cells : Store) (again : List CellId) (m : Matching) (n : ℕ) (vs : List Value) (w : Walk) (s : Spelt) (numbers : List CellId) (made : Store) (w2 : Walk) (s2 : Spelt) : Type 0 where
  pub text : List ℕ
  pub values : List Value
  pub numbers2 : List CellId
  pub made2 : Store
  pub spells : s2.text ≡ s.text ++ text
  pub stands : Stands cells again m w2 s2 numbers2 made2
  pub fills : Fills live cells m w made w2 made2
  pub match : InOrder (ValuesMatch m) vs values
  pub plain : All IsPlain text
  pub reads : (steps : ℕ) (rest : List ℕ) (acc : List Value) → length text < steps → length acc + length vs ≤ max_items → items_at steps n acc (rest_with (text ++ 125 ∷ 41 ∷ rest) numbers made) ≡ Done (acc ++ values) (rest_with rest numbers2 made2)

pub record PairsAgain (live : ObjId → Bool) (cells : Store) (again : List CellId) (m : Matching) (n : ℕ) (ps : List (Value × Value)) (w : Walk) (s : Spelt) (numbers : List CellId) (made : Store) (w2 : Walk) (s2 : Spelt) : Type 0 where
  pub text : List ℕ
  pub pairs : List (Value × Value)
  pub numbers2 : List CellId
  pub made2 : Store
  pub spells : s2.text ≡ s.text ++ text
  pub stands : Stands cells again m w2 s2 numbers2 made2
  pub fills : Fills live cells m w made w2 made2
  pub match : InOrder (PairsMatch m) ps pairs
  pub plain : All IsPlain text
  pub reads : (steps : ℕ) (rest : List ℕ) (acc : List (Value × Value)) → length text < steps → length acc + length ps ≤ max_items → pairs_at steps n acc (rest_with (text ++ 93 ∷ 41 ∷ rest) numbers made) ≡ Done (insert_all value_eq acc pairs) (rest_with rest numbers2 made2)

-- each value of a level is read as it was spelled
abbrev pub ValuesAgain : (ObjId → Bool) → Store → List CellId → Matching → ℕ → Type 0
ValuesAgain live cells again m n = (v : Value) (w : Walk) (s : Spelt) (numbers : List CellId) (made : Store) → IsThere cells v → IsWithin v → Within again m.saved (walked live cells n w v) → Stands cells again m w s numbers made
    → Again live cells again m n v w s numbers made (walked live cells n w v) (spelt live cells (kept again m.saved) n s v)

abbrev pub pair_spelt : (ObjId → Bool) → Store → List CellId → ℕ → Spelt → Value × Value → Spelt
pair_spelt live cells shared n x p = add (codes ",") (spelt live cells shared n (add (codes ":") (spelt live cells shared n x p.0)) p.1)

three : (a b c : List ℕ) (x : ℕ) → (((a ++ b) ++ x ∷ []) ++ c) ≡ a ++ (b ++ x ∷ c)
three a b c x = append_assoc (a ++ b) (x ∷ []) c ∙ append_assoc a b (x ∷ c)

module _ (live : ObjId → Bool) (cells : Store) (again : List CellId) (m : Matching) (n : ℕ) (value : ValuesAgain live cells again m n) where
  items_none : (w : Walk) (s : Spelt) (numbers : List CellId) (made : Store) → Stands cells again m w s numbers made → ItemsAgain live cells again m n [] w s numbers made w s
  items_none w s numbers made st = record {
    text = [];
    values = [];
    numbers2 = numbers;
    made2 = made;
    spells = sym (append-nil s.text);
    stands = st;
    fills = fills_none live cells m w made;
    match = tt;
    plain = All-nil IsPlain;
    reads = reads_none;
  }
    where
      reads_none : (steps : ℕ) (rest : List ℕ) (acc : List Value) → length (let x : List ℕ = [] in x) < steps → length acc + length (let y : List Value = [] in y) ≤ max_items → items_at steps n acc (rest_with (125 ∷ 41 ∷ rest) numbers made) ≡ Done (acc ++ []) (rest_with rest numbers made)
      reads_none zero rest acc lt le = absurd (omega arith)
      reads_none (suc b) rest acc lt le = ap (λ x. Done x (rest_with rest numbers made)) (sym (append-nil acc))

  items_one : (v : Value) (vs : List Value) (w w2 w3 : Walk) (s s2 s3 : Spelt) (numbers : List CellId) (made : Store) → Stands cells again m w s numbers made → (a : Again live cells again m n v w s numbers made w2 s2)
      → ItemsAgain live cells again m n vs w2 (add (codes ",") s2) a.numbers2 a.made2 w3 s3 → ItemsAgain live cells again m n (v ∷ vs) w s numbers made w3 s3
  items_one v vs w w2 w3 s s2 s3 numbers made st a b = record {
    text = a.text ++ 44 ∷ b.text;
    values = a.value ∷ b.values;
    numbers2 = b.numbers2;
    made2 = b.made2;
    spells = b.spells ∙ ap (λ x. (x ++ 44 ∷ []) ++ b.text) a.spells ∙ three s.text a.text b.text 44;
    stands = b.stands;
    fills = fills_then live cells m w w2 w3 made a.made2 b.made2 st.count a.stands.count a.fills b.fills;
    match = (a.match, b.match);
    plain = All-append IsPlain a.text (44 ∷ b.text) a.plain (plain_one 44 b.text (refl, λ e. omega arith) b.plain);
    reads = reads_one;
  }
    where
      long : length (a.text ++ 44 ∷ b.text) ≡ length a.text + length (44 ∷ b.text)
      long = length-append a.text (44 ∷ b.text)

      reads_one : (steps : ℕ) (rest : List ℕ) (acc : List Value) → length (a.text ++ 44 ∷ b.text) < steps → length acc + length (v ∷ vs) ≤ max_items
          → items_at steps n acc (rest_with ((a.text ++ 44 ∷ b.text) ++ 125 ∷ 41 ∷ rest) numbers made) ≡ Done (acc ++ a.value ∷ b.values) (rest_with rest b.numbers2 b.made2)
      reads_one zero rest acc lt le = absurd (omega arith)
      reads_one (suc k) rest acc lt le =
          let behind : List ℕ = b.text ++ 125 ∷ 41 ∷ rest in
          let more = long in
          let longer = length-append acc (a.value ∷ []) in
          ap (λ x. items_at (suc k) n acc (rest_with x numbers made)) (append_assoc a.text (44 ∷ b.text) (125 ∷ 41 ∷ rest))
          ∙ one_item k n acc a.text behind numbers a.numbers2 made a.made2 a.value (a.begins (44 ∷ behind)).0 (a.reads k (44 ∷ behind) (omega arith) (refl, refl)) (omega arith)
          ∙ b.reads k rest (acc ++ a.value ∷ []) (omega arith) (omega arith) ∙ ap (λ x. Done x (rest_with rest b.numbers2 b.made2)) (append_assoc acc (a.value ∷ []) b.values)

  pub items_again : (vs : List Value) (w : Walk) (s : Spelt) (numbers : List CellId) (made : Store) → All (IsThere cells) vs → All IsWithin vs → Within again m.saved (fold (walked live cells n) w vs) → Stands cells again m w s numbers made
      → ItemsAgain live cells again m n vs w s numbers made (fold (walked live cells n) w vs) (fold (λ x v. add (codes ",") (spelt live cells (kept again m.saved) n x v)) s vs)
  items_again [] w s numbers made there within win st = items_none w s numbers made st
  items_again (v ∷ vs) w s numbers made there within win st =
      let w2 : Walk = walked live cells n w v in
      let s2 : Spelt = spelt live cells (kept again m.saved) n s v in
      let win2 : Within again m.saved w2 = within_all live cells again m.saved n (within_value live cells again m.saved n) vs w2 win in
      let a : Again live cells again m n v w s numbers made w2 s2 = value v w s numbers made (All-head (IsThere cells) v vs there) (All-head IsWithin v vs within) win2 st in
      items_one v vs w w2 (fold (walked live cells n) w2 vs) s s2 (fold (λ x v. add (codes ",") (spelt live cells (kept again m.saved) n x v)) (add (codes ",") s2) vs) numbers made st a
      (items_again vs w2 (add (codes ",") s2) a.numbers2 a.made2 (All-tail (IsThere cells) v vs there) (All-tail IsWithin v vs within) win (stands_add cells again m w2 s2 a.numbers2 a.made2 (codes ",") a.stands))

  pairs_none : (w : Walk) (s : Spelt) (numbers : List CellId) (made : Store) → Stands cells again m w s numbers made → PairsAgain live cells again m n [] w s numbers made w s
  pairs_none w s numbers made st = record {
    text = [];
    pairs = [];
    numbers2 = numbers;
    made2 = made;
    spells = sym (append-nil s.text);
    stands = st;
    fills = fills_none live cells m w made;
    match = tt;
    plain = All-nil IsPlain;
    reads = reads_none;
  }
    where
      reads_none : (steps : ℕ) (rest : List ℕ) (acc : List (Value × Value)) → length (let x : List ℕ = [] in x) < steps → length acc + length (let y : List (Value × Value) = [] in y) ≤ max_items
          → pairs_at steps n acc (rest_with (93 ∷ 41 ∷ rest) numbers made) ≡ Done acc (rest_with rest numbers made)
      reads_none zero rest acc lt le = absurd (omega arith)
      reads_none (suc b) rest acc lt le = refl

  pairs_one : (p : Value × Value) (ps : List (Value × Value)) (w w1 w2 w3 : Walk) (s s1 s2 s3 : Spelt) (numbers : List CellId) (made : Store) → Stands cells again m w s numbers made → (k : Again live cells again m n p.0 w s numbers made w1 s1)
      → (a : Again live cells again m n p.1 w1 (add (codes ":") s1) k.numbers2 k.made2 w2 s2) → PairsAgain live cells again m n ps w2 (add (codes ",") s2) a.numbers2 a.made2 w3 s3 → PairsAgain live cells again m n (p ∷ ps) w s numbers made w3 s3
  pairs_one p ps w w1 w2 w3 s s1 s2 s3 numbers made st k a b = record {
    text = k.text ++ (58 ∷ a.text ++ 44 ∷ b.text);
    pairs = (k.value, a.value) ∷ b.pairs;
    numbers2 = b.numbers2;
    made2 = b.made2;
    spells = b.spells ∙ ap (λ x. (x ++ 44 ∷ []) ++ b.text) a.spells ∙ three (s1.text ++ 58 ∷ []) a.text b.text 44 ∙ ap (λ x. (x ++ 58 ∷ []) ++ (a.text ++ 44 ∷ b.text)) k.spells ∙ three s.text k.text (a.text ++ 44 ∷ b.text) 58;
    stands = b.stands;
    fills = fills_then live cells m w w1 w3 made k.made2 b.made2 st.count k.stands.count k.fills (fills_then live cells m w1 w2 w3 k.made2 a.made2 b.made2 k.stands.count a.stands.count a.fills b.fills);
    match = ((k.match, a.match), b.match);
    plain = All-append IsPlain k.text (58 ∷ a.text ++ 44 ∷ b.text) k.plain (plain_one 58 (a.text ++ 44 ∷ b.text) (refl, λ e. omega arith) (All-append IsPlain a.text (44 ∷ b.text) a.plain (plain_one 44 b.text (refl, λ e. omega arith) b.plain)));
    reads = reads_one;
  }
    where
      long : length (k.text ++ (58 ∷ a.text ++ 44 ∷ b.text)) ≡ length k.text + length (58 ∷ a.text ++ 44 ∷ b.text)
      long = length-append k.text (58 ∷ a.text ++ 44 ∷ b.text)

      long2 : length (a.text ++ 44 ∷ b.text) ≡ length a.text + length (44 ∷ b.text)
      long2 = length-append a.text (44 ∷ b.text)

      reads_one : (steps : ℕ) (rest : List ℕ) (acc : List (Value × Value)) → length (k.text ++ (58 ∷ a.text ++ 44 ∷ b.text)) < steps → length acc + length (p ∷ ps) ≤ max_items
          → pairs_at steps n acc (rest_with ((k.text ++ (58 ∷ a.text ++ 44 ∷ b.text)) ++ 93 ∷ 41 ∷ rest) numbers made) ≡ Done (insert_all value_eq acc ((k.value, a.value) ∷ b.pairs)) (rest_with rest b.numbers2 b.made2)
      reads_one zero rest acc lt le = absurd (omega arith)
      reads_one (suc j) rest acc lt le =
          let behind : List ℕ = b.text ++ 93 ∷ 41 ∷ rest in
          let more = long in
          let more2 = long2 in
          let grown = insert_length acc k.value a.value in
          ap (λ x. pairs_at (suc j) n acc (rest_with x numbers made)) (append_assoc k.text (58 ∷ a.text ++ 44 ∷ b.text) (93 ∷ 41 ∷ rest) ∙ ap (λ x. k.text ++ (58 ∷ x)) (append_assoc a.text (44 ∷ b.text) (93 ∷ 41 ∷ rest)))
          ∙ one_pair j n acc k.text a.text behind numbers k.numbers2 a.numbers2 made k.made2 a.made2 k.value a.value (k.begins (58 ∷ a.text ++ 44 ∷ behind)).1 (k.reads j (58 ∷ a.text ++ 44 ∷ behind) (omega arith) (refl, refl)) (a.reads j (44 ∷ behind) (omega arith) (refl, refl)) (omega arith)
          ∙ b.reads j rest (insert_entry value_eq acc k.value a.value) (omega arith) (omega arith)

  pub pairs_again : (ps : List (Value × Value)) (w : Walk) (s : Spelt) (numbers : List CellId) (made : Store) → All (IsPairThere cells) ps → All (λ p. IsWithin p.0 × IsWithin p.1) ps → Within again m.saved (fold (walked live cells n) w (flat_map (λ p. p.0 ∷ p.1 ∷ []) ps))
      → Stands cells again m w s numbers made → PairsAgain live cells again m n ps w s numbers made (fold (walked live cells n) w (flat_map (λ p. p.0 ∷ p.1 ∷ []) ps)) (fold (pair_spelt live cells (kept again m.saved) n) s ps)
  pairs_again [] w s numbers made there within win st = pairs_none w s numbers made st
  pairs_again (p ∷ ps) w s numbers made there within win st =
      let shared : List CellId = kept again m.saved in
      let both : Value × Value → List Value = λ p. p.0 ∷ p.1 ∷ [] in
      let w1 : Walk = walked live cells n w p.0 in
      let s1 : Spelt = spelt live cells shared n s p.0 in
      let w2 : Walk = walked live cells n w1 p.1 in
      let s2 : Spelt = spelt live cells shared n (add (codes ":") s1) p.1 in
      let win2 : Within again m.saved w2 = within_all live cells again m.saved n (within_value live cells again m.saved n) (flat_map both ps) w2 win in
      let win1 : Within again m.saved w1 = within_value live cells again m.saved n w1 p.1 win2 in
      let t = All-head (IsPairThere cells) p ps there in
      let f = All-head (λ p. IsWithin p.0 × IsWithin p.1) p ps within in
      let k : Again live cells again m n p.0 w s numbers made w1 s1 = value p.0 w s numbers made t.0 f.0 win1 st in
      let a : Again live cells again m n p.1 w1 (add (codes ":") s1) k.numbers2 k.made2 w2 s2 = value p.1 w1 (add (codes ":") s1) k.numbers2 k.made2 t.1 f.1 win2 (stands_add cells again m w1 s1 k.numbers2 k.made2 (codes ":") k.stands) in
      pairs_one p ps w w1 w2 (fold (walked live cells n) w2 (flat_map both ps)) s s1 s2 (fold (pair_spelt live cells shared n) (add (codes ",") s2) ps) numbers made st k a
      (pairs_again ps w2 (add (codes ",") s2) a.numbers2 a.made2 (All-tail (IsPairThere cells) p ps there) (All-tail (λ p. IsWithin p.0 × IsWithin p.1) p ps within) win (stands_add cells again m w2 s2 a.numbers2 a.made2 (codes ",") a.stands))
