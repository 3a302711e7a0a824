-- What pieces give, behind what there is so far.
use Rattle.std.proofs.Common.{◌≡◌, ◌∙◌, ◌≤◌, ◌<◌, ◌+◌, ℕ, List, [], ◌∷◌, ◌++◌, Bool, true, false, Result, Ok, Err, cond, drop, length, suc, nat_lt, ap, subst, sym, refl, append_assoc, append-nil, arith}
use Rattle.std.proofs.lemmas.List.{drop-drop, length-append}
use Rattle.std.specs.List.{concat}
use Rattle.lp_values.specs.declared.id.ObjId.{ObjId}
use Rattle.lp_values.specs.declared.value.Value.{Value}
use Rattle.lp_format.specs.declared.fault.FormatFault.{FormatFault}
use Rattle.lp_format.specs.declared.fault.FormatFault.TheVariants.{TooLong}
use Rattle.lp_format.specs.Forms.{Placed, behind_left, behind_marks, behind_width, count_len, mark_len, marked_len, precision_len}
use Rattle.lp_format.specs.Formatted.{after, formatted, formatted_after, piece_text, short, uses}
use Rattle.lp_format.specs.Laws.{AreTexts, IsFormatted, IsPassed, IsTold, Stops, uses_of}
use Rattle.lp_values.specs.Limits.{max_code_points}

-- all pieces have texts, behind what there is so far and from place i of the arguments on
record Whole (live : ObjId → Bool) (spell : Value → List ℕ) (args : List Value) (done : List ℕ) (i : ℕ) (ps : List Placed) (text : List ℕ) : Type 0 where
  texts : List (List ℕ)
  are : AreTexts live spell args i ps texts
  joined : text ≡ done ++ concat texts
  fits : length text ≤ max_code_points

record Refused (live : ObjId → Bool) (spell : Value → List ℕ) (args : List Value) (done : List ℕ) (i : ℕ) (ps : List Placed) (fault : FormatFault) : Type 0 where
  before : List Placed
  last : Placed
  behind : List Placed
  split : ps ≡ before ++ last ∷ behind
  texts : List (List ℕ)
  are : AreTexts live spell args i before texts
  fits : length done + length (concat texts) ≤ max_code_points
  stops : Stops (length done + length (concat texts)) fault (piece_text live spell args (i + uses_of before) last.at last.piece)

abbrev Told : (ObjId → Bool) → (Value → List ℕ) → List Value → List ℕ → ℕ → List Placed → Result (List ℕ) FormatFault → Type 0
Told live spell args done i ps (Ok text) = Whole live spell args done i ps text
Told live spell args done i ps (Err fault) = Refused live spell args done i ps fault

-- a first piece with its text before what is told of the rest
told_behind : (live : ObjId → Bool) (spell : Value → List ℕ) (args : List Value) (done : List ℕ) (i : ℕ) (p : Placed) (ps : List Placed) (t : List ℕ) (r : Result (List ℕ) FormatFault) → piece_text live spell args i p.at p.piece ≡ Ok t → Told live spell args (done ++ t) (i + uses p.piece) ps r → Told live spell args done i (p ∷ ps) r
told_behind live spell args done i p ps t (Ok text) e w = record {
  texts = t ∷ w.texts;
  are = (e, w.are);
  joined = w.joined ∙ append_assoc done t (concat w.texts);
  fits = w.fits;
}
told_behind live spell args done i p ps t (Err fault) e w =
    let n : length done + length (t ++ concat w.texts) ≡ length (done ++ t) + length (concat w.texts) = omega (arith, length-append done t, length-append t (concat w.texts)) in
    let k : i + (uses p.piece + uses_of w.before) ≡ i + uses p.piece + uses_of w.before = omega arith in
    record {
      before = p ∷ w.before;
      last = w.last;
      behind = w.behind;
      split = ap (λ (l : List Placed). p ∷ l) w.split;
      texts = t ∷ w.texts;
      are = (e, w.are);
      fits = omega (arith, n, w.fits);
      stops = subst (λ (x : ℕ). Stops x fault (piece_text live spell args (i + (uses p.piece + uses_of w.before)) w.last.at w.last.piece)) (sym n) (subst (λ (x : ℕ). Stops (length (done ++ t) + length (concat w.texts)) fault (piece_text live spell args x w.last.at w.last.piece)) (sym k) w.stops);
    }

-- a first piece that ends the text
told_here : (live : ObjId → Bool) (spell : Value → List ℕ) (args : List Value) (done : List ℕ) (i : ℕ) (p : Placed) (ps : List Placed) (fault : FormatFault) → length done ≤ max_code_points → Stops (length done) fault (piece_text live spell args i p.at p.piece) → Told live spell args done i (p ∷ ps) (Err fault)
told_here live spell args done i p ps fault fits stops =
    let n : length done + 0 ≡ length done = omega arith in
    let k : i + 0 ≡ i = omega arith in
    record {
      before = [];
      last = p;
      behind = ps;
      split = refl;
      texts = [];
      are = tt;
      fits = omega (arith, fits);
      stops = subst (λ (x : ℕ). Stops x fault (piece_text live spell args (i + 0) p.at p.piece)) (sym n) (subst (λ (x : ℕ). Stops (length done) fault (piece_text live spell args x p.at p.piece)) (sym k) stops);
    }

-- a first piece by its length
told_by_length : (live : ObjId → Bool) (spell : Value → List ℕ) (args : List Value) (done : List ℕ) (i : ℕ) (p : Placed) (ps : List Placed) (t : List ℕ) (b : Bool) → length done ≤ max_code_points → piece_text live spell args i p.at p.piece ≡ Ok t → nat_lt max_code_points (length (done ++ t)) ≡ b → (length (done ++ t) ≤ max_code_points → Told live spell args (done ++ t) (i + uses p.piece) ps (formatted_after live spell args (done ++ t) (i + uses p.piece) ps)) → Told live spell args done i (p ∷ ps) (after (cond b (Err TooLong) (Ok (done ++ t))) (λ all. formatted_after live spell args all (i + uses p.piece) ps))
told_by_length live spell args done i p ps t true fits e long more =
    let over : max_code_points < length (done ++ t) = search arith in
    told_here live spell args done i p ps TooLong fits (subst (Stops (length done) TooLong) (sym e) (refl, omega (arith, over, length-append done t)))
told_by_length live spell args done i p ps t false fits e long more =
    let under : length (done ++ t) ≤ max_code_points = search arith in
    told_behind live spell args done i p ps t (formatted_after live spell args (done ++ t) (i + uses p.piece) ps) e (more under)

told_first : (live : ObjId → Bool) (spell : Value → List ℕ) (args : List Value) (done : List ℕ) (i : ℕ) (p : Placed) (ps : List Placed) (r : Result (List ℕ) FormatFault) → length done ≤ max_code_points → piece_text live spell args i p.at p.piece ≡ r → ((t : List ℕ) → length (done ++ t) ≤ max_code_points → Told live spell args (done ++ t) (i + uses p.piece) ps (formatted_after live spell args (done ++ t) (i + uses p.piece) ps)) → Told live spell args done i (p ∷ ps) (after r (λ t. after (short (done ++ t)) (λ all. formatted_after live spell args all (i + uses p.piece) ps)))
told_first live spell args done i p ps (Ok t) fits e more = told_by_length live spell args done i p ps t (nat_lt max_code_points (length (done ++ t))) fits e refl (more t)
told_first live spell args done i p ps (Err fault) fits e more = told_here live spell args done i p ps fault fits (subst (Stops (length done) fault) (sym e) refl)

told : (live : ObjId → Bool) (spell : Value → List ℕ) (args : List Value) (done : List ℕ) (i : ℕ) (ps : List Placed) → length done ≤ max_code_points → Told live spell args done i ps (formatted_after live spell args done i ps)
told live spell args done i [] fits = record { texts = []; are = tt; joined = sym (append-nil done); fits = fits }
told live spell args done i (p ∷ ps) fits = told_first live spell args done i p ps (piece_text live spell args i p.at p.piece) fits refl (λ t. told live spell args (done ++ t) (i + uses p.piece) ps)

from_start : (live : ObjId → Bool) (spell : Value → List ℕ) (args : List Value) (ps : List Placed) (r : Result (List ℕ) FormatFault) → Told live spell args [] 0 ps r → IsFormatted live spell args ps r
from_start live spell args ps (Ok text) w = record { texts = w.texts; are = w.are; joined = w.joined; fits = w.fits }
from_start live spell args ps (Err fault) w =
    let n : 0 + length (concat w.texts) ≡ length (concat w.texts) = omega arith in
    let k : 0 + uses_of w.before ≡ uses_of w.before = omega arith in
    record { before = w.before; last = w.last; behind = w.behind; split = w.split; texts = w.texts; are = w.are; fits = omega (arith, w.fits); stops = subst (λ (x : ℕ). Stops x fault (piece_text live spell args (uses_of w.before) w.last.at w.last.piece)) n (subst (λ (x : ℕ). Stops (0 + length (concat w.texts)) fault (piece_text live spell args x w.last.at w.last.piece)) k w.stops) }

-- what pieces give, told as a whole
pub is_told : IsTold
is_told live spell args ps = from_start live spell args ps (formatted live spell args ps) (told live spell args [] 0 ps (omega arith))

-- five fronts of a list passed one after another
passed_all : (a b w p : ℕ) (cs : List ℕ) → drop 1 (drop p (drop w (drop b (drop a cs)))) ≡ drop (a + b + w + p + 1) cs
passed_all a b w p cs =
    let n : a + (b + (w + (p + 1))) ≡ a + b + w + p + 1 = omega arith in
    drop-drop 1 p (drop w (drop b (drop a cs))) ∙ drop-drop (p + 1) w (drop b (drop a cs)) ∙ drop-drop (w + (p + 1)) b (drop a cs) ∙ drop-drop (b + (w + (p + 1))) a cs ∙ ap (λ (x : ℕ). drop x cs) n

-- what follows a directive is what follows its letter
pub is_passed : IsPassed
unfolding marked_len
is_passed cs =
    let a = mark_len 45 cs in
    let b = mark_len 48 (behind_left cs) in
    let w = count_len (behind_marks cs) in
    let p = precision_len (behind_width cs) in
    let n : a + b + w + p + 2 ≡ suc (a + b + w + p + 1) = omega arith in
    ap (λ (x : ℕ). drop x (37 ∷ cs)) n ∙ sym (passed_all a b w p cs)
