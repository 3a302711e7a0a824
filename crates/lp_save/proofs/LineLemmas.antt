-- The lines of a text, one after the other.
use Rattle.std.proofs.Common.{◌≡◌, ℕ, zero, suc, ◌+◌, ◌<◌, ◌≤◌, Bool, true, false, cond, not, ◌&&◌, List, [], ◌∷◌, ◌++◌, length, get_or, map, take, drop, append-nil, Option, refl, sym, ap, subst, ◌∙◌, arith}
use Rattle.std.specs.declared.alloc.Global.{Global}
use Rattle.std.specs.Prelude.{IsUtf8, Vec, Result, Ok, Err, nat_eq, nat_lt, slice_index}
use Rattle.std.specs.List.{position_or_len}
use Rattle.std.specs.Str.Lossy.{utf8_valid_len}
use Rattle.std.proofs.lemmas.Bool.{cond-true, cond-false, eq-eqb, eqb-true, ltb-true, ltb-false, false≢true, ne_eqb}
use Rattle.std.proofs.lemmas.List.{drop_all, take_all, drop-drop}
use Rattle.std.proofs.lemmas.List.Sums.{prefix_len-le-length}
use Rattle.std.proofs.lemmas.Str.{utf8_valid_len-IsUtf8}
use Rattle.lp_values.specs.declared.value.Value.{Value}
use Rattle.lp_cells.specs.declared.content.Content.{Content}
use Rattle.lp_cells.specs.Cells.{Store}
use Rattle.lp_text.specs.Pieces.{pieces, with_head}
use Rattle.lp_save.specs.declared.fault.FaultKind.TheVariants.{BadHeader, BadValue}
use Rattle.lp_save.specs.declared.fault.ReadFault.{ReadFault}
use Rattle.lp_save.specs.declared.fault.ReadFault.TheVariants as fault
use Rattle.lp_save.specs.declared.fault.RestoreFault.{RestoreFault}
use Rattle.lp_save.specs.declared.fault.RestoreFault.TheVariants as restoring
use Rattle.lp_save.specs.SaveText.{Line, Rest, given, is_header}
use Rattle.lp_save.specs.Reading.{Found, Done, Wrong, LinesFound, AllLines, FaultyAt, Outcome, Given, bytes_at, lines_at, lines_from, outcome, outcome_of, spoilt}
use Rattle.lp_save.specs.Desks.{AnswersLines, Desk, Fails, GivesLines, Headed, NextLine, Restores, as_line, fault_in, newline, rest_of}

-- ---- bytes that are UTF-8

pub valid_len : (bs : List ℕ) → IsUtf8 bs → nat_eq (utf8_valid_len bs) (length bs) ≡ true
valid_len bs u = eq-eqb (utf8_valid_len bs) (length bs) (utf8_valid_len-IsUtf8 bs u)

pub valid_all : (bs : List ℕ) → IsUtf8 bs → take (utf8_valid_len bs) bs ≡ bs
valid_all bs u = ap (λ n. take n bs) (utf8_valid_len-IsUtf8 bs u) ∙ take_all (length bs) bs (omega arith)

-- ---- pieces

abbrev pub line_end : List ℕ → ℕ
line_end bs = position_or_len (λ b. nat_eq b 10) bs

pub end_le : (bs : List ℕ) → line_end bs ≤ length bs
end_le bs = prefix_len-le-length (λ b. not (nat_eq b 10)) bs

-- the two orders of the test for a newline
swap_by : (c : ℕ) (b : Bool) → nat_eq c 10 ≡ b → nat_eq 10 c ≡ nat_eq c 10
swap_by c true e = eq-eqb 10 c (sym (eqb-true c 10 e)) ∙ sym e
swap_by c false e = ne_eqb 10 c (λ h. false≢true (sym e ∙ eq-eqb c 10 (sym h))) ∙ sym e

swap : (c : ℕ) → nat_eq 10 c ≡ nat_eq c 10
swap c = swap_by c (nat_eq c 10) refl

cut : (c : ℕ) (ps : List (List ℕ)) → cond (nat_eq 10 c && true) ([] ∷ ps) (with_head c ps) ≡ cond (nat_eq c 10 && true) ([] ∷ ps) (with_head c ps)
cut c ps = ap (λ b. cond (b && true) ([] ∷ ps) (with_head c ps)) (swap c)

next_zero : (b : Bool) (c : ℕ) (cs : List ℕ) (ps : List (List ℕ)) → cond (not b) (1 + line_end cs) 0 ≡ 0 → cond (b && true) ([] ∷ ps) (with_head c ps) ≡ [] ∷ ps
next_zero true c cs ps e = refl
next_zero false c cs ps e = absurd (omega arith)

next_suc : (b : Bool) (c k : ℕ) (cs : List ℕ) (ps qs : List (List ℕ)) → cond (not b) (1 + line_end cs) 0 ≡ suc k → (line_end cs ≡ k → ps ≡ take k cs ∷ qs) → cond (b && true) ([] ∷ ps) (with_head c ps) ≡ (c ∷ take k cs) ∷ qs
next_suc true c k cs ps qs e h = absurd (omega arith)
next_suc false c k cs ps qs e h = ap (with_head c) (h (omega arith))

next_at : (bs : List ℕ) (k : ℕ) → line_end bs ≡ k → k < length bs → pieces newline bs ≡ take k bs ∷ pieces newline (drop (suc k) bs)
next_at [] k e lt = absurd (omega arith)
next_at (c ∷ cs) zero e lt = cut c (pieces newline cs) ∙ next_zero (nat_eq c 10) c cs (pieces newline cs) e
next_at (c ∷ cs) (suc k) e lt = cut c (pieces newline cs) ∙ next_suc (nat_eq c 10) c k cs (pieces newline cs) (pieces newline (drop (suc k) cs)) e (λ h. next_at cs k h (omega arith))

-- the first line, and the rest behind its newline
pub pieces_next : (bs : List ℕ) (k : ℕ) → k ≡ line_end bs → k < length bs → pieces newline bs ≡ take k bs ∷ pieces newline (drop (k + 1) bs)
pieces_next bs k e lt = let s : suc k ≡ k + 1 = omega arith in next_at bs k (sym e) lt ∙ ap (λ j. take k bs ∷ pieces newline (drop j bs)) s

last_step : (b : Bool) (c : ℕ) (cs : List ℕ) (ps : List (List ℕ)) → cond (not b) (1 + line_end cs) 0 ≡ length (c ∷ cs) → (line_end cs ≡ length cs → ps ≡ cs ∷ []) → cond (b && true) ([] ∷ ps) (with_head c ps) ≡ (c ∷ cs) ∷ []
last_step true c cs ps e h = absurd (omega arith)
last_step false c cs ps e h = ap (with_head c) (h (omega arith))

pieces_all : (bs : List ℕ) → line_end bs ≡ length bs → pieces newline bs ≡ bs ∷ []
pieces_all [] e = refl
pieces_all (c ∷ cs) e = cut c (pieces newline cs) ∙ last_step (nat_eq c 10) c cs (pieces newline cs) e (pieces_all cs)

-- a line without its newline
pub pieces_last : (bs : List ℕ) (k : ℕ) → k ≡ line_end bs → length bs ≤ k → (pieces newline bs ≡ bs ∷ []) × (take k bs ≡ bs)
pieces_last bs k e le = let h = end_le bs in (pieces_all bs (omega arith), take_all k bs le)

-- there is a piece
abbrev Pieces : List ℕ → Type 0
Pieces bs = (m : List ℕ) × (ls : List (List ℕ)) × (pieces newline bs ≡ m ∷ ls)

some_by : (bs : List ℕ) (b : Bool) → nat_lt (line_end bs) (length bs) ≡ b → Pieces bs
some_by bs true e = (take (line_end bs) bs, pieces newline (drop (line_end bs + 1) bs), pieces_next bs (line_end bs) refl (ltb-true (line_end bs) (length bs) e))
some_by bs false e = (bs, [], (pieces_last bs (line_end bs) refl (ltb-false (line_end bs) (length bs) e)).0)

some_piece : (bs : List ℕ) → Pieces bs
some_piece bs = some_by bs (nat_lt (line_end bs) (length bs)) refl

-- ---- lines

abbrev after_line : ℕ → List Line → List (List ℕ) → Found Line → LinesFound
after_line n done ps (Done x y) = lines_at (n + 1) (done ++ x ∷ []) ps y
after_line n done ps (Wrong k) = FaultyAt n k

lines_step : (n : ℕ) (done : List Line) (l : List ℕ) (ps : List (List ℕ)) (m : List ℕ) (ls : List (List ℕ)) (r : Rest) → ps ≡ m ∷ ls → lines_at n done (l ∷ ps) r ≡ after_line n done ps (bytes_at l r)
lines_step n done l ps m ls r is = subst (λ qs. lines_at n done (l ∷ qs) r ≡ after_line n done qs (bytes_at l r)) (sym is) (step (bytes_at l r))
  where
    step : (f : Found Line) → ◌≡◌ {A = LinesFound} (elim f [ Done x y ↦ lines_at (n + 1) (done ++ x ∷ []) (m ∷ ls) y | Wrong k ↦ FaultyAt n k ]) (after_line n done (m ∷ ls) f)
    step (Done x y) = refl
    step (Wrong k) = refl

-- a line with its newline
line_next : (n : ℕ) (done : List Line) (rest : List ℕ) (k : ℕ) (r : Rest) → k ≡ line_end rest → k < length rest → lines_at n done (pieces newline rest) r ≡ after_line n done (pieces newline (drop (k + 1) rest)) (bytes_at (take k rest) r)
line_next n done rest k r e lt =
    let some = some_piece (drop (k + 1) rest) in
    ap (λ ps. lines_at n done ps r) (pieces_next rest k e lt) ∙ lines_step n done (take k rest) (pieces newline (drop (k + 1) rest)) some.0 some.1 r some.2

never_done : (f : Found Line) (x : Line) (y : Rest) → spoilt f ≡ Done x y → ⊥
never_done (Done a b) x y h = cc
never_done (Wrong k) x y h = cc

abbrev in_last : ℕ → Found Line → LinesFound
in_last n (Done x y) = FaultyAt n BadValue
in_last n (Wrong k) = FaultyAt n k

last_step_is : (n : ℕ) (done : List Line) (l : List ℕ) (r : Rest) → 0 < length l → lines_at n done (l ∷ []) r ≡ in_last n (spoilt (bytes_at l r))
last_step_is n done [] r lt = absurd (omega arith)
last_step_is n done (c ∷ cs) r lt = cond-false (nat_eq (length (c ∷ cs)) 0) (AllLines done r.cells) _ (not_empty (nat_eq (length (c ∷ cs)) 0) refl) ∙ step (spoilt (bytes_at (c ∷ cs) r))
  where
    not_empty : (b : Bool) → nat_eq (length (c ∷ cs)) 0 ≡ b → nat_eq (length (c ∷ cs)) 0 ≡ false
    not_empty true e = let h = eqb-true (length (c ∷ cs)) 0 e in absurd (omega arith)
    not_empty false e = e

    step : (f : Found Line) → ◌≡◌ {A = LinesFound} (elim f [ Done x y ↦ FaultyAt n BadValue | Wrong k ↦ FaultyAt n k ]) (in_last n f)
    step (Done x y) = refl
    step (Wrong k) = refl

abbrev read_here : Bool → ℕ → List ℕ → Desk → Found Line
read_here b k rest old = cond b (bytes_at (take k rest) (rest_of old)) (spoilt (bytes_at (take k rest) (rest_of old)))

pub next_ok : (b : Bool) (n k : ℕ) (rest : List ℕ) (done more : List Line) (old new : Desk) (x : List ℕ × Value) → b ≡ nat_lt k (length rest) → k ≡ line_end rest → (read_here b k rest old ≡ Done (as_line x) (rest_of new)) × (new.base ≡ old.base)
    → more ≡ done ++ as_line x ∷ [] → NextLine (Ok (k + 1)) n rest done more old new
next_ok true n k rest done more old new x b_is e h added =
    let lt : k < length rest = ltb-true k (length rest) (sym b_is) in (
      omega arith,
      omega arith,
      line_next n done rest k (rest_of old) e lt ∙ ap (after_line n done (pieces newline (drop (k + 1) rest))) h.0 ∙ ap (λ ls. lines_at (n + 1) ls (pieces newline (drop (k + 1) rest)) (rest_of new)) (sym added),
      h.1,
    )
next_ok false n k rest done more old new x b_is e h added = absurd (never_done (bytes_at (take k rest) (rest_of old)) (as_line x) (rest_of new) h.0)

pub next_err : (b : Bool) (n k : ℕ) (rest : List ℕ) (done more : List Line) (old new : Desk) (f : ReadFault) → b ≡ nat_lt k (length rest) → k ≡ line_end rest → 0 < length rest → Fails f (read_here b k rest old)
    → NextLine (Err (fault_in n f)) n rest done more old new
next_err b n k rest done more old new fault.NoMemory b_is e some h = tt
next_err true n k rest done more old new (fault.Wrong w) b_is e some h =
    line_next n done rest k (rest_of old) e (ltb-true k (length rest) (sym b_is)) ∙ ap (after_line n done (pieces newline (drop (k + 1) rest))) h
next_err false n k rest done more old new (fault.Wrong w) b_is e some h =
    let last = pieces_last rest k e (ltb-false k (length rest) (sym b_is)) in
    ap (λ ps. lines_at n done ps (rest_of old)) last.0 ∙ last_step_is n done rest (rest_of old) some ∙ ap (λ l. in_last n (spoilt (bytes_at l (rest_of old)))) (sym last.1) ∙ ap (in_last n) h

-- all lines are read
pub lines_end : (n : ℕ) (done : List Line) (bs : List ℕ) (at : ℕ) (d : Desk) → length bs ≤ at → lines_at n done (pieces newline (drop at bs)) (rest_of d) ≡ AllLines done (d.base ++ d.made)
lines_end n done bs at d le = ap (λ y. lines_at n done (pieces newline y) (rest_of d)) (drop_all at bs le)

-- a fault is passed on
pub lines_err : (r : Result (Vec (List ℕ × Value) Global) RestoreFault) (e y : RestoreFault) (old new : Desk) (found : LinesFound) → r ≡ Err y → y ≡ e → AnswersLines (Err e) old new found → AnswersLines r old new found
lines_err r e y old new found is same h = subst (λ x. AnswersLines x old new found) (sym is) (subst (λ z. AnswersLines (Err z) old new found) (sym same) h)

pub header_failed : (e : RestoreFault) (bs : List ℕ) (old new : Desk) → Headed (Err e) bs → AnswersLines (Err e) old new (lines_from (pieces newline bs) (rest_of old))
header_failed restoring.NoMemory bs old new h = absurd h
header_failed (restoring.Line n k) bs old new h = h (rest_of old)

pub line_failed : (e : RestoreFault) (n : ℕ) (rest : List ℕ) (done more : List Line) (old now new last : Desk) (all : LinesFound) → all ≡ lines_at n done (pieces newline rest) (rest_of now) → NextLine (Err e) n rest done more now last → AnswersLines (Err e) old new all
line_failed restoring.NoMemory n rest done more old now new last all so_far h = tt
line_failed (restoring.Line m k) n rest done more old now new last all so_far h = so_far ∙ h

pub lines_more : (n k at : ℕ) (bs : List ℕ) (done more : List Line) (now new : Desk) (all : LinesFound) → all ≡ lines_at n done (pieces newline (drop at bs)) (rest_of now) → lines_at n done (pieces newline (drop at bs)) (rest_of now) ≡ lines_at (n + 1) more (pieces newline (drop k (drop at bs))) (rest_of new)
    → all ≡ lines_at (n + 1) more (pieces newline (drop (at + k) bs)) (rest_of new)
lines_more n k at bs done more now new all so_far step = so_far ∙ step ∙ ap (λ y. lines_at (n + 1) more (pieces newline y) (rest_of new)) (drop-drop k at bs)

-- from no new cells on
pub start_is : (cells : Store) (d : Desk) → d ≡ record { base = cells; text = []; shared = []; made = [] } → rest_of d ≡ record { text = []; shared = []; cells = cells }
start_is cells d is = ap rest_of is ∙ ap (λ cs. record { text = []; shared = []; cells = cs }) (append-nil cells)

pub all_given : (x : Vec (List ℕ × Value) Global × Vec (Option Content) Global) (cells : Store) (old new : Desk) → old ≡ record { base = cells; text = []; shared = []; made = [] } → x.1.items ≡ new.made → (ps : List (List ℕ))
    → (lines_from ps (rest_of old) ≡ AllLines (map as_line x.0.items) (new.base ++ new.made)) × (new.base ≡ old.base) → lines_from ps (record { text = []; shared = []; cells = cells }) ≡ AllLines (map as_line x.0.items) (cells ++ x.1.items)
all_given x cells old new start made ps h =
    ap (lines_from ps) (sym (start_is cells old start)) ∙ h.0 ∙ ap (λ b. AllLines (map as_line x.0.items) (b ++ new.made)) (h.1 ∙ ap (λ d. d.base) start) ∙ ap (λ m. AllLines (map as_line x.0.items) (cells ++ m)) (sym made)

pub all_failed : (e : RestoreFault) (cells : Store) (old new : Desk) → old ≡ record { base = cells; text = []; shared = []; made = [] } → (ps : List (List ℕ)) → AnswersLines (Err e) old new (lines_from ps (rest_of old))
    → GivesLines (Err e) cells (lines_from ps (record { text = []; shared = []; cells = cells }))
all_failed restoring.NoMemory cells old new start ps h = tt
all_failed (restoring.Line n k) cells old new start ps h = ap (lines_from ps) (sym (start_is cells old start)) ∙ h

pub gives_err : (r : Result (Vec (List ℕ × Value) Global × Vec (Option Content) Global) RestoreFault) (e y : RestoreFault) (cells : Store) (found : LinesFound) → r ≡ Err y → y ≡ e → GivesLines (Err e) cells found → GivesLines r cells found
gives_err r e y cells found is same h = subst (λ x. GivesLines x cells found) (sym is) (subst (λ z. GivesLines (Err z) cells found) (sym same) h)

-- ---- the outcome

pub restores_err : (r : Result (Vec (Option Value) Global) RestoreFault) (e y : RestoreFault) (old new : Store) (o : Outcome) → r ≡ Err y → y ≡ e → Restores (Err e) old new o → Restores r old new o
restores_err r e y old new o is same h = subst (λ x. Restores x old new o) (sym is) (subst (λ z. Restores (Err z) old new o) (sym same) h)

pub outcome_failed : (e : RestoreFault) (names : List (List ℕ)) (bs : List ℕ) (old new : Store) → new ≡ old → GivesLines (Err e) old (lines_from (pieces newline bs) (record { text = []; shared = []; cells = old })) → Restores (Err e) old new (outcome names bs old)
unfolding outcome
outcome_failed restoring.NoMemory names bs old new same h = same
outcome_failed (restoring.Line n k) names bs old new same h = (ap (outcome_of names) h, same)

pub outcome_given : (names : List (List ℕ)) (bs : List ℕ) (ls : List Line) (vs : List (Option Value)) (old made new : Store) → lines_from (pieces newline bs) (record { text = []; shared = []; cells = old }) ≡ AllLines ls (old ++ made) → vs ≡ given [] names ls → new ≡ old ++ made
    → outcome names bs old ≡ Given vs new
unfolding outcome
outcome_given names bs ls vs old made new h values grown = ap (outcome_of names) h ∙ ap (λ ws. Given ws (old ++ made)) (sym values) ∙ ap (Given vs) (sym grown)

-- ---- the header

header_by : (l : List ℕ) (ps : List (List ℕ)) (m : List ℕ) (ls : List (List ℕ)) (r : Rest) → ps ≡ m ∷ ls → slice_index l 0 ≡ 35 → lines_from (l ∷ ps) r ≡ cond (is_header l) (lines_at 2 [] ps r) (FaultyAt 1 BadHeader)
header_by l ps m ls r is mark = subst (λ qs. lines_from (l ∷ qs) r ≡ cond (is_header l) (lines_at 2 [] qs r) (FaultyAt 1 BadHeader)) (sym is) (cond-true (nat_eq (slice_index l 0) 35) _ _ (eq-eqb (slice_index l 0) 35 mark))

first_of : (bs : List ℕ) (k : ℕ) → get_or bs 0 0 ≡ 35 → k ≡ line_end bs → get_or (take k bs) 0 0 ≡ 35
first_of [] k mark e = absurd (omega arith)
first_of (c ∷ cs) zero mark e = by (nat_eq c 10) refl e
  where
    by : (b : Bool) → nat_eq c 10 ≡ b → zero ≡ cond (not b) (1 + line_end cs) 0 → get_or (take zero (c ∷ cs)) 0 0 ≡ 35
    by true is e = let h = eqb-true c 10 is in absurd (omega arith)
    by false is e = absurd (omega arith)
first_of (c ∷ cs) (suc k) mark e = mark

pub header_there : (bs : List ℕ) (k : ℕ) (r : Rest) → get_or bs 0 0 ≡ 35 → k ≡ line_end bs → k < length bs → lines_from (pieces newline bs) r ≡ cond (is_header (take k bs)) (lines_at 2 [] (pieces newline (drop (k + 1) bs)) r) (FaultyAt 1 BadHeader)
header_there bs k r mark e lt =
    let some = some_piece (drop (k + 1) bs) in
    ap (λ ps. lines_from ps r) (pieces_next bs k e lt) ∙ header_by (take k bs) (pieces newline (drop (k + 1) bs)) some.0 some.1 r some.2 (first_of bs k mark e)

pub header_last : (bs : List ℕ) (k : ℕ) (r : Rest) → get_or bs 0 0 ≡ 35 → k ≡ line_end bs → length bs ≤ k → lines_from (pieces newline bs) r ≡ FaultyAt 1 BadHeader
header_last bs k r mark e le =
    ap (λ ps. lines_from ps r) (pieces_last bs k e le).0 ∙ cond-true (nat_eq (slice_index bs 0) 35) _ _ (eq-eqb (slice_index bs 0) 35 mark)
