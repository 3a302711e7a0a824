-- The pieces of a form, one after another.
use Rattle.std.proofs.Common.{◌≡◌, ◌∙◌, ◌≤◌, ◌<◌, ◌+◌, ◌-◌, ℕ, zero, suc, List, [], ◌∷◌, ◌++◌, Bool, true, false, Result, Ok, Err, cond, drop, length, get_or, nat_eq, nat_lt, ap, subst, sym, refl, arith}
use Rattle.std.proofs.lemmas.List.{drop-drop, drop_more}
use Rattle.lp_format.specs.declared.fault.FormatFault.{FormatFault}
use Rattle.lp_format.specs.declared.fault.FormatFault.TheVariants.{BadFormat, TooFewArgs, BadArg, TooLong, NoMemory}
use Rattle.lp_values.specs.declared.id.ObjId.{ObjId}
use Rattle.lp_values.specs.declared.value.Value.{Value}
use Rattle.lp_format.specs.declared.form.Piece.{Piece}
use Rattle.lp_format.specs.Answers.{Appends, Gives}
use Rattle.lp_format.specs.Forms.{Placed, marked_len, piece, piece_len, pieces_after}
use Rattle.lp_format.specs.Formatted.{after, formatted_after, piece_text, short, uses}
use Rattle.lp_values.specs.Limits.{max_code_points}

passed : (at n : ℕ) (cs : List ℕ) → pieces_after at n cs ≡ pieces_after at 0 (drop n cs)
passed at zero cs = refl
passed at (suc n) [] = refl
passed at (suc n) (c ∷ cs) = passed at n cs

-- the first piece and those behind it
pub first_and_rest : (at : ℕ) (c : ℕ) (cs : List ℕ) → 0 < piece_len (c ∷ cs) → pieces_after at 0 (c ∷ cs) ≡ record { piece = piece (c ∷ cs); at = at } ∷ pieces_after (at + piece_len (c ∷ cs)) 0 (drop (piece_len (c ∷ cs)) (c ∷ cs))
first_and_rest at c cs some =
    let n = piece_len (c ∷ cs) in
    let k : suc (n - 1) ≡ n = omega (arith, some) in
    ap (λ (l : List Placed). record { piece = piece (c ∷ cs); at = at } ∷ l) (passed (at + n) (n - 1) cs ∙ ap (λ (m : ℕ). pieces_after (at + n) 0 (drop m (c ∷ cs))) k)

-- the piece at a place of the form and those behind it
pub next_pieces : (at : ℕ) (form : List ℕ) → at < length form → 0 < piece_len (drop at form) → pieces_after at 0 (drop at form) ≡ record { piece = piece (drop at form); at = at } ∷ pieces_after (at + piece_len (drop at form)) 0 (drop (at + piece_len (drop at form)) form)
next_pieces at form lt some =
    let e : drop at form ≡ get_or form at 0 ∷ drop (at + 1) form = drop_more form at 0 lt in
    subst (λ (l : List ℕ). 0 < piece_len l → pieces_after at 0 l ≡ record { piece = piece l; at = at } ∷ pieces_after (at + piece_len l) 0 (drop (piece_len l) l)) (sym e) (first_and_rest at (get_or form at 0) (drop (at + 1) form)) some ∙ ap (λ (l : List ℕ). record { piece = piece (drop at form); at = at } ∷ pieces_after (at + piece_len (drop at form)) 0 l) (drop-drop (piece_len (drop at form)) at form)

short_is : (t : List ℕ) → length t ≤ max_code_points → short t ≡ Ok t
short_is t le = let e : nat_lt max_code_points (length t) ≡ false = search arith in rw e refl

long_is : (t : List ℕ) → max_code_points < length t → short t ≡ Err TooLong
long_is t lt = let e : nat_lt max_code_points (length t) ≡ true = search arith in rw e refl

-- a piece's text was appended: the rest goes on behind it
pub appended : (w : Result (List ℕ) FormatFault) (old new : List ℕ) (more : List ℕ → Result (List ℕ) FormatFault) → Appends (Ok tt) old new w → after w (λ t. after (short (old ++ t)) more) ≡ more new
appended (Ok t) old new more a = ap (λ (r : Result (List ℕ) FormatFault). after r more) (short_is (old ++ t) a.1) ∙ ap more (sym a.0)
appended (Err fault) old new more a = absurd a

-- a piece's text was not appended: that is the answer for the whole
pub refused : (w : Result (List ℕ) FormatFault) (fault : FormatFault) (old new : List ℕ) (more : List ℕ → Result (List ℕ) FormatFault) → Appends (Err fault) old new w → Gives {A = List ℕ} (Err fault) (after w (λ t. after (short (old ++ t)) more))
refused (Ok t) TooLong old new more a = ap (λ (r : Result (List ℕ) FormatFault). after r more) (long_is (old ++ t) a)
refused (Ok t) NoMemory old new more a = tt
refused (Ok t) (BadFormat at) old new more a = absurd a
refused (Ok t) TooFewArgs old new more a = absurd a
refused (Ok t) (BadArg n) old new more a = absurd a
refused (Err wanted) TooLong old new more a = ap Err a
refused (Err wanted) NoMemory old new more a = tt
refused (Err wanted) (BadFormat at) old new more a = ap Err a
refused (Err wanted) TooFewArgs old new more a = ap Err a
refused (Err wanted) (BadArg n) old new more a = ap Err a

either_some : (b : Bool) (n : ℕ) → 0 < n → 0 < cond b n 1
either_some true n some = some
either_some false n some = omega arith

marked_some : (cs : List ℕ) → 0 < marked_len cs
unfolding marked_len
marked_some cs = omega arith

piece_some : (cs : List ℕ) → 0 < piece_len cs
piece_some cs = either_some (nat_eq (get_or cs 0 0) 37) (marked_len (drop 1 cs)) (marked_some (drop 1 cs))

-- what is left to do behind a piece whose text was appended
pub goes_on : (live : ObjId → Bool) (spell : Value → List ℕ) (args : List Value) (form : List ℕ) (at used n later : ℕ) (p : Piece) (old new : List ℕ) (whole : Result (List ℕ) FormatFault) → at < length form → whole ≡ formatted_after live spell args old used (pieces_after at 0 (drop at form)) → p ≡ piece (drop at form) → n ≡ piece_len (drop at form) → later ≡ used + uses p → Appends (Ok tt) old new (piece_text live spell args used at p) → whole ≡ formatted_after live spell args new later (pieces_after (at + n) 0 (drop (at + n) form))
goes_on live spell args form at used n later p old new whole lt e p_is n_is later_is a =
    let size = piece_len (drop at form) in
    let b = subst (λ (q : Piece). Appends (Ok tt) old new (piece_text live spell args used at q)) p_is a in
    e ∙ ap (formatted_after live spell args old used) (next_pieces at form lt (piece_some (drop at form))) ∙ appended (piece_text live spell args used at (piece (drop at form))) old new (λ all. formatted_after live spell args all (used + uses (piece (drop at form))) (pieces_after (at + size) 0 (drop (at + size) form))) b ∙ ap (λ (x : ℕ). formatted_after live spell args new x (pieces_after (at + size) 0 (drop (at + size) form))) (sym (later_is ∙ ap (λ (q : Piece). used + uses q) p_is)) ∙ ap (λ (x : ℕ). formatted_after live spell args new later (pieces_after (at + x) 0 (drop (at + x) form))) (sym n_is)

-- a piece whose text was not appended is the fault of the whole
pub ends : (live : ObjId → Bool) (spell : Value → List ℕ) (args : List Value) (form : List ℕ) (at used : ℕ) (p : Piece) (old new : List ℕ) (whole : Result (List ℕ) FormatFault) (fault : FormatFault) → at < length form → whole ≡ formatted_after live spell args old used (pieces_after at 0 (drop at form)) → p ≡ piece (drop at form) → Appends (Err fault) old new (piece_text live spell args used at p) → Gives {A = List ℕ} (Err fault) whole
ends live spell args form at used p old new whole fault lt e p_is a =
    let size = piece_len (drop at form) in
    let b = subst (λ (q : Piece). Appends (Err fault) old new (piece_text live spell args used at q)) p_is a in
    let is = e ∙ ap (formatted_after live spell args old used) (next_pieces at form lt (piece_some (drop at form))) in
    subst (Gives {A = List ℕ} (Err fault)) (sym is) (refused (piece_text live spell args used at (piece (drop at form))) fault old new (λ all. formatted_after live spell args all (used + uses (piece (drop at form))) (pieces_after (at + size) 0 (drop (at + size) form))) b)
