-- What was saved is restored as it was.
use Rattle.std.proofs.Common.{◌≡◌, ℕ, zero, suc, ◌+◌, ◌^◌, ◌<◌, ◌≤◌, inl, inr, Bool, true, false, cond, ◌||◌, List, [], ◌∷◌, ◌++◌, length, append-nil, drop, map, Option, Some, None, unwrap_or, refl, sym, ap, subst, ◌∙◌, arith, length-append, length-drop}
use Rattle.std.specs.Prelude.{All, codes, encode_utf8_all, fold, nat_eq, slice_get}
use Rattle.std.proofs.lemmas.Bool.{cond_both, eq-eqb, true≢false}
use Rattle.std.proofs.lemmas.List.Elements.{All-cons, All-map, All-nil}
use Rattle.std.proofs.lemmas.Option.{slice_get_within}
use Rattle.std.proofs.lemmas.Str.{encode_ascii}
use Rattle.lp_values.specs.declared.id.CellId.{CellId}
use Rattle.lp_values.specs.declared.id.ObjId.{ObjId}
use Rattle.lp_values.specs.declared.value.Value.{Value}
use Rattle.lp_values.specs.declared.value.Value.TheVariants.{Arr, Int, Map, Obj, Str}
use Rattle.lp_cells.specs.Cells.{IsThere, Store, content_at}
use Rattle.lp_text.specs.Pieces.{pieces}
use Rattle.lp_save.specs.SaveText.{Line, Rest, Spelt, Walk, given, inner, is_among, line_spelt, max_saved_levels, met_again, met_deep, met_first, saved_text, shared_in, text_spelt, walk_of, walked}
use Rattle.std.specs.Prelude.{Result, Ok, Err, Vec}
use Rattle.std.specs.declared.alloc.Global.{Global}
use Rattle.lp_save.specs.declared.fault.RestoreFault.{RestoreFault}
use Rattle.lp_save.specs.declared.fault.RestoreFault.TheVariants as restoring
use Rattle.lp_save.specs.Desks.{Restores}
use Rattle.lp_save.specs.Reading.{AllLines, FaultIn, Given, lines_at, lines_from, outcome, outcome_of}
use Rattle.lp_save_laws.specs.Matching.{AreSavable, ComesAgain, ContentsMatch, GotMatch, InOrder, IsRestored, Matching, ReadsBack}
use Rattle.lp_save_laws.proofs.Places.{get_at, get_before, kept, or_right}
use Rattle.lp_save_laws.proofs.Walks.{Within}
use Rattle.lp_save_laws.proofs.Alongside.{IsPlain, Stands, either, rest_with}
use Rattle.lp_save_laws.proofs.Values.{value_again}
use Rattle.lp_save_laws.proofs.Counts.{Distinct, few_again}
use Rattle.lp_save_laws.proofs.Bytes.{pieces_are}
use Rattle.lp_save_laws.proofs.Lines.{LineMatch, LinesAgain, given_own, lines_again}

-- ---- each cell is met for the first time once

among_at : (c : CellId) (xs : List CellId) (k : ℕ) → slice_get xs k ≡ Some c → is_among c xs ≡ true
among_at c [] k h = cc
among_at c (x ∷ xs) zero h = let e : x ≡ c = cc in ap (λ b. b || is_among c xs) (eq-eqb x.0 c.0 (ap (λ y. y.0) e))
among_at c (x ∷ xs) (suc k) h = or_right (nat_eq x.0 c.0) (is_among c xs) (among_at c xs k h)

distinct_push : (xs : List CellId) (c : CellId) → Distinct xs → is_among c xs ≡ false → Distinct (xs ++ c ∷ [])
distinct_push xs c d unlike k j e h g =
    let long = length-append xs (c ∷ []) in
    let k_in = slice_get_within (xs ++ c ∷ []) k e h in
    let j_in = slice_get_within (xs ++ c ∷ []) j e g in
    elim (either k (length xs)) [
      | inl a ↦ elim (either j (length xs)) [
        | inl b ↦ d k j e (sym (get_before xs (c ∷ []) k a) ∙ h) (sym (get_before xs (c ∷ []) j b) ∙ g)
        | inr b ↦ absurd (clash k j a b long j_in e h g)
      ]
      | inr a ↦ elim (either j (length xs)) [
        | inl b ↦ absurd (clash j k b a long k_in e g h)
        | inr b ↦ omega arith
      ]
    ]
  where
    clash : (k j : ℕ) → k < length xs → length xs ≤ j → length (xs ++ c ∷ []) ≡ length xs + length (c ∷ []) → j < length (xs ++ c ∷ []) → (e : CellId) → slice_get (xs ++ c ∷ []) k ≡ Some e → slice_get (xs ++ c ∷ []) j ≡ Some e → ⊥
    clash k j a b long lt e h g =
        let at : j ≡ length xs = omega arith in
        let last : Some c ≡ Some e = sym (get_at xs c []) ∙ ap (slice_get (xs ++ c ∷ [])) (sym at) ∙ g in
        let same : c ≡ e = cc in
        true≢false (sym (among_at e xs k (sym (get_before xs (c ∷ []) k a) ∙ h)) ∙ ap (λ y. is_among y xs) (sym same) ∙ unlike)

module _ (live : ObjId → Bool) (cells : Store) where
  distinct_all : (n : ℕ) → ((w : Walk) (v : Value) → Distinct w.met → Distinct (walked live cells n w v).met) → (vs : List Value) (w : Walk) → Distinct w.met → Distinct (fold (walked live cells n) w vs).met
  distinct_all n f [] w d = d
  distinct_all n f (v ∷ vs) w d = distinct_all n f vs (walked live cells n w v) (f w v d)

  distinct_cell : (n : ℕ) → ((w : Walk) (v : Value) → Distinct w.met → Distinct (walked live cells n w v).met) → (c : CellId) (vs : List Value) (w : Walk) → Distinct w.met → Distinct (cond (is_among c w.met) (met_again c w) (fold (walked live cells n) (met_first c w) vs)).met
  distinct_cell n f c vs w d = cond_both (is_among c w.met) (met_again c w) (fold (walked live cells n) (met_first c w) vs) (λ x. Distinct x.met) (λ e. d) (λ e. distinct_all n f vs (met_first c w) (distinct_push w.met c d e))

  distinct_last : (c : CellId) (w : Walk) → Distinct w.met → Distinct (cond (is_among c w.met) (met_again c w) (met_deep w)).met
  distinct_last c w d = cond_both (is_among c w.met) (met_again c w) (met_deep w) (λ x. Distinct x.met) (λ e. d) (λ e. d)

  distinct_value : (n : ℕ) (w : Walk) (v : Value) → Distinct w.met → Distinct (walked live cells n w v).met
  distinct_value zero w (Int i) d = d
  distinct_value zero w (Str t) d = d
  distinct_value zero w (Obj o) d = d
  distinct_value zero w (Arr c) d = distinct_last c w d
  distinct_value zero w (Map c) d = distinct_last c w d
  distinct_value (suc n) w (Int i) d = d
  distinct_value (suc n) w (Str t) d = d
  distinct_value (suc n) w (Obj o) d = d
  distinct_value (suc n) w (Arr c) d = distinct_cell n (distinct_value n) c (inner live cells (Arr c)) w d
  distinct_value (suc n) w (Map c) d = distinct_cell n (distinct_value n) c (inner live cells (Map c)) w d

  distinct_walk : (vs : List Value) → Distinct (walk_of live cells vs).met
  distinct_walk vs = distinct_all max_saved_levels (distinct_value max_saved_levels) vs (record { met = []; again = []; is_deep = false }) (λ k j c h g. cc)

-- ---- what was there stays before the new cells

added_behind : {A : Type 0} (xs ys : List A) → ((k : ℕ) → k < length xs → slice_get ys k ≡ slice_get xs k) → length xs ≤ length ys → ys ≡ xs ++ drop (length xs) ys
added_behind [] ys h le = refl
added_behind (x ∷ xs) [] h le = absurd (omega arith)
added_behind (x ∷ xs) (y ∷ ys) h le = let first : Some y ≡ Some x = h 0 (omega arith) in let e : y ≡ x = cc in ap (λ z. z ∷ ys) e ∙ ap (λ z. x ∷ z) (added_behind xs ys (λ k lt. h (suc k) (omega arith)) (omega arith))

-- ---- the header, and what is given

abbrev header : List ℕ
header = 35 ∷ 50 ∷ 58 ∷ 48 ∷ []

header_plain : All IsPlain header
header_plain =
    All-cons IsPlain 35 (50 ∷ 58 ∷ 48 ∷ []) (refl, λ e. omega arith) (All-cons IsPlain 50 (58 ∷ 48 ∷ []) (refl, λ e. omega arith) (All-cons IsPlain 58 (48 ∷ []) (refl, λ e. omega arith) (All-cons IsPlain 48 [] (refl, λ e. omega arith) (All-nil IsPlain))))

header_bytes : encode_utf8_all header ≡ header
header_bytes = λ i. encode_ascii 35 (omega arith) i ++ (encode_ascii 50 (omega arith) i ++ (encode_ascii 58 (omega arith) i ++ (encode_ascii 48 (omega arith) i ++ [])))

behind_header : (ls : List (List ℕ)) (r : Rest) → lines_from (header ∷ (ls ++ [] ∷ [])) r ≡ lines_at 2 [] (ls ++ [] ∷ []) r
behind_header [] r = refl
behind_header (l ∷ ls) r = refl

names_match : (m : Matching) (ps : List (List ℕ × Value)) (ls : List Line) → InOrder (LineMatch m) ps ls → map (λ p. p.0) ps ≡ map (λ l. l.name) ls
names_match m [] [] h = refl
names_match m [] (l ∷ ls) h = absurd h
names_match m (p ∷ ps) [] h = absurd h
names_match m (p ∷ ps) (l ∷ ls) h = λ i. sym h.0.0 i ∷ names_match m ps ls h.1 i

got_match : (m : Matching) (ps : List (List ℕ × Value)) (ls : List Line) → InOrder (LineMatch m) ps ls → InOrder (GotMatch m) (map (λ p. p.1) ps) (map (λ l. Some l.value) ls)
got_match m [] [] h = tt
got_match m [] (l ∷ ls) h = absurd h
got_match m (p ∷ ps) [] h = absurd h
got_match m (p ∷ ps) (l ∷ ls) h = (h.0.1, got_match m ps ls h.1)

-- ---- what was saved

abbrev start : Walk
start = record { met = []; again = []; is_deep = false }

record Saved (live : ObjId → Bool) (cells : Store) (ps : List (List ℕ × Value)) (bytes : List ℕ) (w : Walk) : Type 0 where
  flat : w.is_deep ≡ false
  is : encode_utf8_all (text_spelt live cells (shared_in w) ps) ≡ bytes

saved_by : (live : ObjId → Bool) (cells : Store) (ps : List (List ℕ × Value)) (bytes : List ℕ) (w : Walk) (deep : Bool) → w.is_deep ≡ deep → cond deep None (Some (encode_utf8_all (text_spelt live cells (shared_in w) ps))) ≡ Some bytes → Saved live cells ps bytes w
saved_by live cells ps bytes w true e h = cc
saved_by live cells ps bytes w false e h = record { flat = e; is = cc }

saved_is : (live : ObjId → Bool) (cells : Store) (ps : List (List ℕ × Value)) (bytes : List ℕ) → saved_text live cells ps ≡ Some bytes → Saved live cells ps bytes (walk_of live cells (map (λ p. p.1) ps))
unfolding saved_text
saved_is live cells ps bytes h = let w : Walk = walk_of live cells (map (λ p. p.1) ps) in saved_by live cells ps bytes w w.is_deep refl h

module _ (live : ObjId → Bool) (cells base : Store) (ps : List (List ℕ × Value)) (bytes : List ℕ) (w : Walk) (distinct : Distinct w.met) (m : Matching) (m_is : m ≡ record { saved = w.met; first = length base }) where
  restored_of : (s : Spelt) (x : LinesAgain live cells w.again m ps start (record { done = []; text = codes "#2:0\n" }) [] base w s) → IsRestored live cells base x.made2 m (map (λ p. p.1) ps) (map (λ l. Some l.value) x.lines)
  restored_of s x =
      let saved : m.saved ≡ w.met = ap (λ y. y.saved) m_is in
      let first : m.first ≡ length base = ap (λ y. y.first) m_is in
      let count = x.stands.count in
      let cut = length-drop (length base) x.made2 in
      let all = ap length saved in
      let at : (k : ℕ) (c : CellId) → slice_get m.saved k ≡ Some c → slice_get w.met k ≡ Some c = λ k c h. ap (λ l. slice_get l k) (sym saved) ∙ h in
      record {
        added = (drop (length base) x.made2, added_behind base x.made2 x.fills.same (omega arith), omega arith, first);
        one = λ c d e h g. let same : h.0 ≡ g.0 = distinct h.0 g.0 c (at h.0 c h.1) (at g.0 c g.1) in ap (λ n. record { 0 = n }) (h.2 ∙ ap (λ k. m.first + k) same ∙ sym g.2);
        apart = λ c d e h g. let hn = h.2 in let gn = g.2 in let same : h.0 ≡ g.0 = omega arith in let both : Some c ≡ Some d = sym h.1 ∙ ap (slice_get m.saved) same ∙ g.1 in cc;
        cells = λ c d h.
            subst (λ n. ContentsMatch live m (content_at cells c) (unwrap_or (slice_get x.made2 n) None)) (sym h.2) (x.fills.filled h.0 c (omega arith) (slice_get_within w.met h.0 c (at h.0 c h.1)) h.1);
        values = got_match m ps x.lines x.match;
      }

outcome_is : (names : List (List ℕ)) (bytes : List ℕ) (base made : Store) (ls : List Line) (given2 : List (Option Value)) → lines_from (pieces (codes "\n") bytes) (rest_with [] [] base) ≡ AllLines ls made → given [] names ls ≡ given2 → outcome names bytes base ≡ Given given2 made
unfolding outcome
outcome_is names bytes base made ls given2 h g = ap (outcome_of names) h ∙ ap (λ x. Given x made) g

-- the text of saved values is read as they were
pub reads_back : (live : ObjId → Bool) (cells base : Store) (ps : List (List ℕ × Value)) (bytes : List ℕ) → AreSavable live cells ps → saved_text live cells ps ≡ Some bytes → ReadsBack live cells base ps bytes
reads_back live cells base ps bytes savable is =
    let vs : List Value = map (λ p. p.1) ps in
    let w : Walk = walk_of live cells vs in
    let saved : Saved live cells ps bytes w = saved_is live cells ps bytes is in
    let m : Matching = record { saved = w.met; first = length base } in
    let s0 : Spelt = record { done = []; text = codes "#2:0\n" } in
    let s : Spelt = fold (line_spelt live cells (kept w.again w.met)) s0 ps in
    let win : Within w.again w.met w = record { later = []; front = sym (append-nil w.met); more = λ c h. h; deep = saved.flat } in
    let st : Stands cells w.again m start s0 [] base = record { done = λ c. refl; shares = tt; count = omega arith; kinds = λ k c lt at. absurd (omega arith) } in
    let there : All (IsThere cells) vs = All-map (IsThere cells) (λ p. p.1) ps savable.there in
    let least : length (kept w.again w.met) ≤ length cells = few_again live cells vs (λ c. is_among c w.again) savable.closed there (distinct_walk live cells vs) in
    let most : length cells < 2 ^ 64 = savable.few in
    let small : length (kept w.again w.met) < 2 ^ 64 = omega arith in
    let x : LinesAgain live cells w.again m ps start s0 [] base w s =
    lines_again live cells w.again m (value_again live cells w.again m savable.closed savable.contents small max_saved_levels) ps start s0 [] base savable.there savable.names savable.within win st in
    let bytes_is : pieces (codes "\n") bytes ≡ header ∷ (map encode_utf8_all x.texts ++ [] ∷ []) =
    ap (pieces (codes "\n")) (sym saved.is ∙ ap encode_utf8_all x.spells) ∙ pieces_are (header ∷ x.texts) (All-cons (All IsPlain) header x.texts header_plain x.plain) ∙ ap (λ h. h ∷ (map encode_utf8_all x.texts ++ [] ∷ [])) header_bytes in
    let lines_are : lines_from (pieces (codes "\n") bytes) (rest_with [] [] base) ≡ AllLines x.lines x.made2 =
    ap (λ ls. lines_from ls (rest_with [] [] base)) bytes_is ∙ behind_header (map encode_utf8_all x.texts) (rest_with [] [] base) ∙ x.reads 2 [] in
    record {
      given = map (λ l. Some l.value) x.lines;
      new = x.made2;
      matching = m;
      is = outcome_is (map (λ p. p.0) ps) bytes base x.made2 x.lines (map (λ l. Some l.value) x.lines) lines_are (ap (λ ns. given [] ns x.lines) (names_match m ps x.lines x.match) ∙ given_own x.lines);
      restored = restored_of live cells base ps bytes w (distinct_walk live cells vs) m refl s x;
    }

-- and so it is with what restoring answers
pub comes_again : (live : ObjId → Bool) (cells base new : Store) (ps : List (List ℕ × Value)) (bytes : List ℕ) (r : Result (Vec (Option Value) Global) RestoreFault) → AreSavable live cells ps → saved_text live cells ps ≡ Some bytes
    → Restores r base new (outcome (map (λ p. p.0) ps) bytes base) → ComesAgain live cells base new (map (λ p. p.1) ps) r
comes_again live cells base new ps bytes (Ok x) savable is h =
    let b : ReadsBack live cells base ps bytes = reads_back live cells base ps bytes savable is in
    let both : Given b.given b.new ≡ Given x.items new = sym b.is ∙ h in
    let values : b.given ≡ x.items = cc in
    let made : b.new ≡ new = cc in
    (b.matching, subst (λ vs. IsRestored live cells base new b.matching (map (λ p. p.1) ps) vs) values (subst (λ s. IsRestored live cells base s b.matching (map (λ p. p.1) ps) b.given) made b.restored))
comes_again live cells base new ps bytes (Err restoring.NoMemory) savable is h = h
comes_again live cells base new ps bytes (Err (restoring.Line n k)) savable is h =
    let b : ReadsBack live cells base ps bytes = reads_back live cells base ps bytes savable is in
    let both : Given b.given b.new ≡ FaultIn n k = sym b.is ∙ h.0 in
    cc
