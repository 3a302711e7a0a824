-- The connections take outputs in.
use Rattle.std.proofs.Common.{rules, subst, ◌≡◌, ℕ, zero, suc, ◌<◌, ◌≤◌, ◌+◌, List, [], ◌∷◌, ◌++◌, length, take, get_or, slice_set, nat_eq, false, Some, None, Result, Ok, Err, OnOk, OnErr, refl, sym, ap, ◌∙◌, arith, inl, inr}
use Rattle.std.proofs.lemmas.Bool.{cases_Bool}
use Rattle.std.proofs.lemmas.List.{take_all, take_more, set-get_or}
use Rattle.lp_events.specs.declared.out.Out.{Out}
use Rattle.lp_events.specs.declared.out.Out.TheVariants.{Text, Hide, Show, Close, Log}
use Rattle.lp_wire.specs.WireText.{Link, behind_out, behind_outs, with_text, wire_bytes}
use Rattle.lp_wire.specs.declared.happening.WireCall.{WireCall}
use Rattle.lp_wire.specs.Wires.{taken}
use Rattle.lp_sessions.specs.declared.session.Session.{Session}
use Rattle.lp_sessions.specs.Tied.{HasText, IsTied}
use Rattle.lp_sessions.specs.All.{AreTied, AreAbove, AreOther, TakesOut, TakesOuts, TakesSome, goes_to, numbers, links_behind_out, links_behind}
use Rattle.lp_sessions.proofs.Taking.{turned, above_other}

-- an output for another connection, or for none
pub behind_other : (j k : ℕ) (out : Out) (l : Link) → goes_to out ≡ Some k → nat_eq k j ≡ false → behind_out j l out ≡ l
behind_other j k (Text i text) l to other = let e : i ≡ k = cc in rw (e, other) refl
behind_other j k (Hide i) l to other = let e : i ≡ k = cc in rw (e, other) refl
behind_other j k (Show i) l to other = let e : i ≡ k = cc in rw (e, other) refl
behind_other j k (Close i) l to other = let e : i ≡ k = cc in rw (e, other) refl
behind_other j k (Log text) l to other = refl

pub behind_none : (j : ℕ) (out : Out) (l : Link) → goes_to out ≡ None → behind_out j l out ≡ l
behind_none j (Text i text) l to = cc
behind_none j (Hide i) l to = cc
behind_none j (Show i) l to = cc
behind_none j (Close i) l to = cc
behind_none j (Log text) l to = refl

pub text_stream : (bytes : List ℕ) (l : Link) → (with_text bytes l).stream ≡ l.stream
text_stream bytes l = elim (cases_Bool l.closed) [ inl y ↦ rw y refl | inr n ↦ rw n refl ]

-- an output leaves the stream of a connection
pub stream_behind : (j : ℕ) (out : Out) (l : Link) → (behind_out j l out).stream ≡ l.stream
stream_behind j (Text i text) l = elim (cases_Bool (nat_eq i j)) [ inl y ↦ rw y (text_stream (wire_bytes (Text i text)) l) | inr n ↦ rw n refl ]
stream_behind j (Hide i) l = elim (cases_Bool (nat_eq i j)) [ inl y ↦ rw y (text_stream (wire_bytes (Hide i)) l) | inr n ↦ rw n refl ]
stream_behind j (Show i) l = elim (cases_Bool (nat_eq i j)) [ inl y ↦ rw y (text_stream (wire_bytes (Show i)) l) | inr n ↦ rw n refl ]
stream_behind j (Close i) l = elim (cases_Bool (nat_eq i j)) [ inl y ↦ rw y refl | inr n ↦ rw n refl ]
stream_behind j (Log text) l = refl

-- those that are tied to links are so to others that are alike
pub tied_alike : (links links1 : ℕ → Link) (calls : List WireCall) (ss : List Session) → ((j : ℕ) → links1 j ≡ links j) → AreTied links calls ss → AreTied links1 calls ss
tied_alike links links1 calls [] alike tied = tt
tied_alike links links1 calls (s ∷ ss) alike (tied, others) =
    (subst (λ (l : Link). IsTied s l (taken s.number calls)) (sym (alike s.number)) tied, tied_alike links links1 calls ss alike others)

pub eq_turned : (a b : ℕ) → nat_eq a b ≡ false → nat_eq b a ≡ false
eq_turned a b apart = search rules

-- those that an output is not for
pub tied_others : (out : Out) (k : ℕ) (links : ℕ → Link) (calls : List WireCall) (ss : List Session) → goes_to out ≡ Some k → AreOther k ss → AreTied links calls ss → AreTied (links_behind_out out links) calls ss
tied_others out k links calls [] to other tied = tt
tied_others out k links calls (s ∷ ss) to (other, rest) (tied, others) =
    let apart : nat_eq k s.number ≡ false = eq_turned s.number k other in
    (subst (λ (l : Link). IsTied s l (taken s.number calls)) (sym (behind_other s.number k out (links s.number) to apart)) tied, tied_others out k links calls ss to rest others)

-- the numbers behind a place are above that before
pub above_at : (low i : ℕ) (ss : List Session) (d : Session) → i < length ss → AreAbove low (numbers ss) → low < (get_or ss i d).number
above_at low i [] d within above = absurd (omega (arith, within))
above_at low zero (s ∷ ss) d within above = above.0
above_at low (suc i) (s ∷ ss) d within above = omega (arith, above.0, above_at s.number i ss d (omega (arith, within)) above.1)

pub numbers_set : (i k : ℕ) (ss : List Session) (s1 d : Session) → i < length ss → (get_or ss i d).number ≡ k → s1.number ≡ k → numbers (slice_set ss i s1) ≡ numbers ss
numbers_set i k [] s1 d within is number = absurd (omega (arith, within))
numbers_set zero k (s ∷ ss) s1 d within is number = ap (λ (j : ℕ). j ∷ numbers ss) (number ∙ sym is)
numbers_set (suc i) k (s ∷ ss) s1 d within is number = ap (λ (js : List ℕ). s.number ∷ js) (numbers_set i k ss s1 d (omega (arith, within)) is number)

pub numbers_at : (i : ℕ) (ss : List Session) (s s1 d : Session) → i < length ss → s ≡ get_or ss i d → s1.number ≡ s.number → numbers (slice_set ss i s1) ≡ numbers ss
numbers_at i ss s s1 d within at number = numbers_set i s.number ss s1 d within (ap (λ (x : Session). x.number) (sym at)) number

-- the connection at a place takes an output in
pub tied_set : (out : Out) (i k low : ℕ) (links : ℕ → Link) (calls : List WireCall) (ss : List Session) (s1 d : Session) → goes_to out ≡ Some k → i < length ss → (get_or ss i d).number ≡ k → s1.number ≡ k
    → (IsTied (get_or ss i d) (links k) (taken k calls) → IsTied s1 (behind_out k (links k) out) (taken k calls))
    → AreAbove low (numbers ss) → AreTied links calls ss → AreTied (links_behind_out out links) calls (slice_set ss i s1)
tied_set out i k low links calls [] s1 d to within is number takes above tied = absurd (omega (arith, within))
tied_set out zero k low links calls (s ∷ ss) s1 d to within is number takes above tied =
    let mine : IsTied s (links k) (taken k calls) = subst (λ (j : ℕ). IsTied s (links j) (taken j calls)) is tied.0 in (
      subst (λ (j : ℕ). IsTied s1 (behind_out j (links j) out) (taken j calls)) (sym number) (takes mine),
      tied_others out k links calls ss to (above_other k s.number ss (omega (arith, is)) above.1) tied.1,
    )
tied_set out (suc i) k low links calls (s ∷ ss) s1 d to within is number takes above tied =
    let below : s.number < k = omega (arith, is, above_at s.number i ss d (omega (arith, within)) above.1) in (
      subst (λ (l : Link). IsTied s l (taken s.number calls)) (sym (behind_other s.number k out (links s.number) to (turned s.number k below))) tied.0,
      tied_set out i k s.number links calls ss s1 d to (omega (arith, within)) is number takes above.1 tied.1,
    )

-- one connection takes an output in
pub takes_one : (s s1 : Session) (out : Out) (k : ℕ) (links : ℕ → Link) (calls : List WireCall) → s.number ≡ k → s1.telnet ≡ s.telnet
    → ((l : Link) (t : List ℕ) → HasText s.phase s.outbox l t → HasText s1.phase s1.outbox (behind_out s.number l out) t)
    → IsTied s (links k) (taken k calls) → IsTied s1 (behind_out k (links k) out) (taken k calls)
takes_one s s1 out k links calls is telnet text tied = record {
  text = subst (λ (j : ℕ). HasText s1.phase s1.outbox (behind_out j (links k) out) (taken k calls)) is (text (links k) (taken k calls) tied.text);
  stream = rw (telnet, stream_behind k out (links k)) tied.stream;
}

pub takes_none : (out : Out) (ss : List Session) → goes_to out ≡ None → TakesOut out ss ss
takes_none out ss to = record { same_numbers = refl; tied = λ links calls low above tied. tied_alike links (links_behind_out out links) calls ss (λ j. behind_none j out (links j) to) tied }

pub takes_other : (out : Out) (k : ℕ) (ss : List Session) → goes_to out ≡ Some k → AreOther k ss → TakesOut out ss ss
takes_other out k ss to other = record { same_numbers = refl; tied = λ links calls low above tied. tied_others out k links calls ss to other tied }

pub takes_at : (out : Out) (i k : ℕ) (ss : List Session) (s s1 d : Session) → goes_to out ≡ Some k → i < length ss → s ≡ get_or ss i d → (get_or ss i d).number ≡ k → s1.number ≡ s.number → s1.telnet ≡ s.telnet
    → ((l : Link) (t : List ℕ) → HasText s.phase s.outbox l t → HasText s1.phase s1.outbox (behind_out s.number l out) t)
    → TakesOut out ss (slice_set ss i s1)
takes_at out i k ss s s1 d to within at is number telnet text =
    let mine : s.number ≡ k = ap (λ (x : Session). x.number) at ∙ is in
    record {
      same_numbers = numbers_set i k ss s1 d within is (number ∙ mine);
      tied = λ links calls low above tied. tied_set out i k low links calls ss s1 d to within is (number ∙ mine)
          (λ old. takes_one s s1 out k links calls mine telnet text (subst (λ (x : Session). IsTied x (links k) (taken k calls)) (sym at) old)) above tied;
    }

-- outputs, one after another
pub behind_more : (k : ℕ) (l : Link) (outs : List Out) (out : Out) → behind_outs k l (outs ++ out ∷ []) ≡ behind_out k (behind_outs k l outs) out
behind_more k l [] out = refl
behind_more k l (o ∷ outs) out = behind_more k (behind_out k l o) outs out

pub takes_nothing : (ss : List Session) → TakesOuts [] ss ss
takes_nothing ss = record { same_numbers = refl; tied = λ links calls low above tied. tied }

pub takes_more : (outs : List Out) (i : ℕ) (d out : Out) (ss ss1 ss2 : List Session) → i < length outs → out ≡ get_or outs i d → TakesOuts (take i outs) ss ss1 → TakesOut out ss1 ss2 → TakesOuts (take (i + 1) outs) ss ss2
takes_more outs i d out ss ss1 ss2 within is before one =
    let more : take (i + 1) outs ≡ take i outs ++ out ∷ [] = take_more outs i d within ∙ ap (λ (o : Out). take i outs ++ o ∷ []) (sym is) in
    rw more (record {
      same_numbers = one.same_numbers ∙ before.same_numbers;
      tied = λ links calls low above tied. tied_alike (links_behind_out out (links_behind (take i outs) links)) (links_behind (take i outs ++ out ∷ []) links) calls ss2
          (λ j. behind_more j (links j) (take i outs) out)
          (one.tied (links_behind (take i outs) links) calls low (rw before.same_numbers above) (before.tied links calls low above tied));
    })

pub takes_all : (outs : List Out) (i : ℕ) (ss ss1 : List Session) → length outs ≤ i → TakesOuts (take i outs) ss ss1 → TakesOuts outs ss ss1
takes_all outs i ss ss1 past t = rw (take_all i outs past) at t

-- without memory for the next
pub takes_some : (outs : List Out) (i : ℕ) (ss ss1 ss2 : List Session) → i < length outs → ss2 ≡ ss1 → TakesOuts (take i outs) ss ss1 → TakesSome outs ss ss2
takes_some outs i ss ss1 ss2 within same t = record { count = i; fewer = within; taken_in = rw same t }

-- what holds where a call is Ok
pub ok_takes : {A E : Type 0} (r : Result A E) (P Q : Type 0) → (P → Q) → OnOk r P → OnOk r Q
ok_takes (Ok a) P Q f p = f p
ok_takes (Err e) P Q f p = p

-- and where it is not
pub err_takes : {A E : Type 0} (r : Result A E) (P Q : Type 0) → (P → Q) → OnErr r P → OnErr r Q
err_takes (Ok a) P Q f p = p
err_takes (Err e) P Q f p = f p

pub set_same : (i : ℕ) (ss : List Session) (s s1 d : Session) → s ≡ get_or ss i d → s1 ≡ s → slice_set ss i s1 ≡ ss
set_same i ss s s1 d at same = rw (same, at) (set-get_or ss i d)
