-- The call-outs of an object end one by one.
use Rattle.std.proofs.Common.{◌≡◌, ◌≢◌, ◌∙◌, ◌<◌, ◌≤◌, ℕ, suc, zero, Bool, true, false, not, List, [], ◌∷◌, Option, Some, None, is_some, option_map, All, refl, ap, sym, subst, length, filter, nat_eq, nat_lt, unwrap_or, slice_index_or, if◌then◌else◌, arith}
use Rattle.std.specs.List.{fold}
use Rattle.std.proofs.lemmas.List.Elements.{All-cons, All-head, All-nil, All-tail, All-weaker}
use Rattle.lp_values.specs.declared.id.ObjId.{ObjId}
use Rattle.lp_timers.specs.Timers.{CallOut, beat_off, by_due, call_outs_without, first_call_out, placed_by_due, watches_without, without_call_out}
use Rattle.lp_timers.specs.Timing.{Timing, beats_left, watches_left}
use Rattle.lp_timers.specs.Waiting.{earliest_of, without_this}
use Rattle.lp_world.specs.Closed.{AreNumberedOnce}
use Rattle.lp_world.proofs.Numbering.{once_filter}
use Rattle.lp_residence.specs.Ending.{timing_without}

-- What holds of all holds of those that pass a test, in any order.
module _ {A : Type 0} (P : A → Type 0) (p : A → Bool) where
  all_kept : (b : Bool) (x : A) (xs ys : List A) → P x → All P ys → All P (if b then x ∷ ys else ys)
  all_kept true x xs ys h k = All-cons P x ys h k
  all_kept false x xs ys h k = k

  pub all_filter : (xs : List A) → All P xs → All P (filter p xs)
  all_filter [] h = All-nil P
  all_filter (x ∷ xs) h = all_kept (p x) x xs (filter p xs) (All-head P x xs h) (all_filter xs (All-tail P x xs h))

module _ (P : CallOut → Type 0) where
  all_either : (b : Bool) (xs ys : List CallOut) → All P xs → All P ys → All P (if b then xs else ys)
  all_either true xs ys h k = h
  all_either false xs ys h k = k

  all_placed : (c : CallOut) (ds : List CallOut) → P c → All P ds → All P (placed_by_due c ds)
  all_placed c [] h k = All-cons P c [] h (All-nil P)
  all_placed c (d ∷ ds) h k =
      all_either (nat_lt c.due d.due) (c ∷ d ∷ ds) (d ∷ placed_by_due c ds) (All-cons P c (d ∷ ds) h k) (All-cons P d (placed_by_due c ds) (All-head P d ds k) (all_placed c ds h (All-tail P d ds k)))

  all_folded : (cs ds : List CallOut) → All P cs → All P ds → All P (fold (λ sorted c. placed_by_due c sorted) ds cs)
  all_folded [] ds h k = k
  all_folded (c ∷ cs) ds h k = all_folded cs (placed_by_due c ds) (All-tail P c cs h) (all_placed c ds (All-head P c cs h) k)

  first_of_all : (cs : List CallOut) (c : CallOut) → first_call_out cs ≡ Some c → All P cs → P c
  first_of_all [] c e h = cc
  first_of_all (d ∷ ds) c e h = subst P (ap (λ o. unwrap_or o d) e) (All-head P d ds h)

  -- what holds of the call-outs of an object holds of the earliest
  pub earliest_has : (cs : List CallOut) (o : ObjId) (c : CallOut) → earliest_of cs o ≡ Some c → All P (filter (λ c. nat_eq c.object.0 o.0) cs) → P c
  earliest_has cs o c e h = first_of_all (by_due (filter (λ c. nat_eq c.object.0 o.0) cs)) c e (all_folded (filter (λ c. nat_eq c.object.0 o.0) cs) [] h (All-nil P))

-- those that pass the test of an object are its own
own_kept : (b : Bool) (o : ObjId) (c : CallOut) (ys : List CallOut) → nat_eq c.object.0 o.0 ≡ b → All (λ (d : CallOut). d.object.0 ≡ o.0) ys → All (λ (d : CallOut). d.object.0 ≡ o.0) (if b then c ∷ ys else ys)
own_kept true o c ys e h = All-cons (λ (d : CallOut). d.object.0 ≡ o.0) c ys (grind (arith, e)) h
own_kept false o c ys e h = h

all_own : (cs : List CallOut) (o : ObjId) → All (λ (d : CallOut). d.object.0 ≡ o.0) (filter (λ c. nat_eq c.object.0 o.0) cs)
all_own [] o = All-nil (λ (d : CallOut). d.object.0 ≡ o.0)
all_own (c ∷ cs) o = own_kept (nat_eq c.object.0 o.0) o c (filter (λ c. nat_eq c.object.0 o.0) cs) refl (all_own cs o)

-- with one number each, what has the number of one is of the same object
abbrev Alone : List CallOut → CallOut → Type 0
Alone cs c = All (λ (d : CallOut). d.number ≡ c.number → d.object.0 ≡ c.object.0) cs

alone_more : (c x : CallOut) (cs : List CallOut) → x.number ≢ c.number → Alone cs x → Alone (c ∷ cs) x
alone_more c x cs n a = All-cons (λ (d : CallOut). d.number ≡ x.number → d.object.0 ≡ x.object.0) c cs (λ e. absurd (n (sym e))) a

pub each_alone : (cs : List CallOut) → AreNumberedOnce cs → All (Alone cs) cs
each_alone [] h = All-nil (Alone [])
each_alone (c ∷ cs) h =
    let i = each_alone cs h.1 in
    All-cons (Alone (c ∷ cs)) c cs
    (All-cons (λ (d : CallOut). d.number ≡ c.number → d.object.0 ≡ c.object.0) c cs (λ e. refl)
    (All-weaker (λ (d : CallOut). d.number ≢ c.number) (λ (d : CallOut). d.number ≡ c.number → d.object.0 ≡ c.object.0) (λ d n e. absurd (n e)) cs h.0))
    (λ k d l. alone_more c (slice_index_or cs k d) cs (h.0 k d l) (i k d l))

-- without one of an object, the others' are the same
cut : (x y : Bool) (c : CallOut) (o : ObjId) (xs ys : List CallOut) (p : CallOut → Bool) → filter p xs ≡ ys → (x ≡ false → p c ≡ false) → p c ≡ y
    → filter p (if x then c ∷ xs else xs) ≡ (if y then c ∷ ys else ys)
cut true true c o xs ys p e h k = rw k (ap (λ l. c ∷ l) e)
cut true false c o xs ys p e h k = rw k e
cut false true c o xs ys p e h k = absurd (differ (sym k ∙ h refl))
  where
    differ : true ≡ false → ⊥
    differ q = cc
cut false false c o xs ys p e h k = e

pub without_same : (n : ℕ) (o : ObjId) (cs : List CallOut) → All (λ (d : CallOut). d.number ≡ n → d.object.0 ≡ o.0) cs → call_outs_without (without_call_out cs n) o ≡ call_outs_without cs o
without_same n o [] h = refl
without_same n o (c ∷ cs) h =
    cut (not (nat_eq c.number n)) (not (nat_eq c.object.0 o.0)) c o (without_call_out cs n) (call_outs_without cs o) (λ d. not (nat_eq d.object.0 o.0))
    (without_same n o cs (All-tail (λ (d : CallOut). d.number ≡ n → d.object.0 ≡ o.0) c cs h))
    (λ e. let q : c.number ≡ n = grind (arith, e) in let r = All-head (λ (d : CallOut). d.number ≡ n → d.object.0 ≡ o.0) c cs h q in grind (arith, r))
    refl

-- one less
filter_length : (p : CallOut → Bool) (cs : List CallOut) → length (filter p cs) ≤ length cs
filter_length p [] = omega arith
filter_length p (c ∷ cs) = counted (p c) (filter_length p cs)
  where
    counted : (b : Bool) → length (filter p cs) ≤ length cs → length (if b then c ∷ filter p cs else filter p cs) ≤ length (c ∷ cs)
    counted true i = omega (arith, i)
    counted false i = omega (arith, i)

shorter : (n : ℕ) (cs : List CallOut) (k : ℕ) (d : CallOut) → k < length cs → (slice_index_or cs k d).number ≡ n → length (without_call_out cs n) < length cs
shorter n [] k d l e = absurd (omega (arith, l))
shorter n (c ∷ cs) zero d l e =
    let b : nat_eq c.number n ≡ true = grind (arith, e) in
    let i = filter_length (λ c. not (nat_eq c.number n)) cs in
    rw b (omega (arith, i))
shorter n (c ∷ cs) (suc k) d l e = counted (not (nat_eq c.number n)) (shorter n cs k d (omega (arith, l)) e)
  where
    counted : (b : Bool) → length (without_call_out cs n) < length cs → length (if b then c ∷ without_call_out cs n else without_call_out cs n) < length (c ∷ cs)
    counted true i = omega (arith, i)
    counted false i = omega (arith, i)

-- a step of the loop
pub one_ended : (cs : List CallOut) (o : ObjId) (c : CallOut) → AreNumberedOnce cs → earliest_of cs o ≡ Some c → call_outs_without (without_call_out cs c.number) o ≡ call_outs_without cs o
one_ended cs o c h e =
    let is : c.object.0 ≡ o.0 = earliest_has (λ (d : CallOut). d.object.0 ≡ o.0) cs o c e (all_own cs o) in
    let a : Alone cs c = earliest_has (Alone cs) cs o c e (all_filter (Alone cs) (λ c. nat_eq c.object.0 o.0) cs (each_alone cs h)) in
    without_same c.number o cs (All-weaker (λ (d : CallOut). d.number ≡ c.number → d.object.0 ≡ c.object.0) (λ (d : CallOut). d.number ≡ c.number → d.object.0 ≡ o.0) (λ d f q. f q ∙ is) cs a)

pub one_fewer : (cs : List CallOut) (o : ObjId) (c : CallOut) → earliest_of cs o ≡ Some c → length (without_call_out cs c.number) < length cs
one_fewer cs o c e =
    earliest_has (λ (d : CallOut). length (without_call_out cs d.number) < length cs) cs o c e
    (all_filter (λ (d : CallOut). length (without_call_out cs d.number) < length cs) (λ c. nat_eq c.object.0 o.0) cs (λ k d l. shorter (slice_index_or cs k d).number cs k d l refl))

-- none is left
placed_some : (c : CallOut) (ds : List CallOut) → first_call_out (placed_by_due c ds) ≡ None → ⊥
placed_some c [] e = cc
placed_some c (d ∷ ds) e = absurd (either (nat_lt c.due d.due) e)
  where
    either : (b : Bool) → first_call_out (if b then c ∷ d ∷ ds else d ∷ placed_by_due c ds) ≡ None → ⊥
    either true e = cc
    either false e = cc

folded_some : (cs ds : List CallOut) → (first_call_out ds ≡ None → ⊥) → first_call_out (fold (λ sorted c. placed_by_due c sorted) ds cs) ≡ None → ⊥
folded_some [] ds n e = n e
folded_some (c ∷ cs) ds n e = folded_some cs (placed_by_due c ds) (placed_some c ds) e

by_due_none : (cs : List CallOut) → first_call_out (by_due cs) ≡ None → cs ≡ []
by_due_none [] e = refl
by_due_none (c ∷ cs) e = absurd (folded_some cs (placed_by_due c []) (placed_some c []) e)

none_of : (o : ObjId) (cs : List CallOut) → filter (λ c. nat_eq c.object.0 o.0) cs ≡ [] → call_outs_without cs o ≡ cs
none_of o [] e = refl
none_of o (c ∷ cs) e = none_from (nat_eq c.object.0 o.0) (λ q. none_of o cs q) e
  where
    none_from : (b : Bool) → (filter (λ c. nat_eq c.object.0 o.0) cs ≡ [] → call_outs_without cs o ≡ cs) → (if b then c ∷ filter (λ c. nat_eq c.object.0 o.0) cs else filter (λ c. nat_eq c.object.0 o.0) cs) ≡ []
        → (if not b then c ∷ call_outs_without cs o else call_outs_without cs o) ≡ c ∷ cs
    none_from true i e = cc
    none_from false i e = ap (λ l. c ∷ l) (i e)

pub all_ended : (cs : List CallOut) (o : ObjId) → earliest_of cs o ≡ None → call_outs_without cs o ≡ cs
all_ended cs o e = none_of o cs (by_due_none (filter (λ c. nat_eq c.object.0 o.0) cs) e)

-- A turn of the loop, and its end.
pub record GoesOn (now new : Timing) (o : ObjId) : Type 0 where
  pub next : new.next ≡ now.next
  pub beats : new.beats ≡ now.beats
  pub watches : new.watches ≡ now.watches
  pub once : AreNumberedOnce new.call_outs
  pub others : call_outs_without new.call_outs o ≡ call_outs_without now.call_outs o
  pub fewer : length new.call_outs < length now.call_outs

-- what is left once the earliest was taken out
abbrev pub left_by : Timing → ObjId → Option CallOut → Timing
left_by now o e = record { next = now.next; call_outs = without_this now.call_outs e; beats = beats_left e now.beats o; watches = watches_left e now.watches o }

some_mapped : {A B : Type 0} (f : A → B) (r : Option A) → is_some r ≡ is_some (option_map f r)
some_mapped f None = refl
some_mapped f (Some x) = refl

goes_on : (now new : Timing) (o : ObjId) (e : Option CallOut) → earliest_of now.call_outs o ≡ e → is_some e ≡ true → new ≡ left_by now o (earliest_of now.call_outs o) → AreNumberedOnce now.call_outs → GoesOn now new o
goes_on now new o None e s g once = absurd (none s)
  where
    none : false ≡ true → ⊥
    none q = cc
goes_on now new o (Some c) e s g once =
    let is : new ≡ left_by now o (Some c) = g ∙ ap (left_by now o) e in
    record {
      next = ap (λ t. t.next) is;
      beats = ap (λ t. t.beats) is;
      watches = ap (λ t. t.watches) is;
      once = subst (λ (t : Timing). AreNumberedOnce t.call_outs) (sym is) (once_filter (λ d. not (nat_eq d.number c.number)) now.call_outs once);
      others = ap (λ (t : Timing). call_outs_without t.call_outs o) is ∙ one_ended now.call_outs o c once e;
      fewer = subst (λ (t : Timing). length t.call_outs < length now.call_outs) (sym is) (one_fewer now.call_outs o c e);
    }

pub loop_goes_on : {A : Type 0} (f : A → CallOut) (r : Option A) (b : Bool) (now new : Timing) (o : ObjId) → b ≡ is_some r → b ≡ true → option_map f r ≡ earliest_of now.call_outs o
    → new ≡ left_by now o (earliest_of now.call_outs o) → AreNumberedOnce now.call_outs → GoesOn now new o
loop_goes_on f r b now new o is t e g once = goes_on now new o (option_map f r) (sym e) (sym (some_mapped f r) ∙ sym is ∙ t) g once

ends_with : (first now new : Timing) (o : ObjId) (e : Option CallOut) → earliest_of now.call_outs o ≡ e → is_some e ≡ false → new ≡ left_by now o (earliest_of now.call_outs o)
    → now.next ≡ first.next → now.beats ≡ first.beats → now.watches ≡ first.watches → call_outs_without now.call_outs o ≡ call_outs_without first.call_outs o → new ≡ timing_without first o
ends_with first now new o (Some c) e s g n b w k = absurd (some s)
  where
    some : true ≡ false → ⊥
    some q = cc
ends_with first now new o None e s g n b w k =
    g ∙ ap (left_by now o) e
    ∙ ap (λ l. record { next = now.next; call_outs = l; beats = beat_off now.beats o; watches = watches_without now.watches o }) (sym (all_ended now.call_outs o e) ∙ k)
    ∙ ap (λ l. record { next = l; call_outs = call_outs_without first.call_outs o; beats = beat_off now.beats o; watches = watches_without now.watches o }) n
    ∙ ap (λ l. record { next = first.next; call_outs = call_outs_without first.call_outs o; beats = beat_off l o; watches = watches_without now.watches o }) b
    ∙ ap (λ l. record { next = first.next; call_outs = call_outs_without first.call_outs o; beats = beat_off first.beats o; watches = watches_without l o }) w

pub loop_ends : {A : Type 0} (f : A → CallOut) (r : Option A) (b : Bool) (first now new : Timing) (o : ObjId) → b ≡ is_some r → b ≡ false → option_map f r ≡ earliest_of now.call_outs o
    → new ≡ left_by now o (earliest_of now.call_outs o) → now.next ≡ first.next → now.beats ≡ first.beats → now.watches ≡ first.watches → call_outs_without now.call_outs o ≡ call_outs_without first.call_outs o
    → new ≡ timing_without first o
loop_ends f r b first now new o is t e g n s w k = ends_with first now new o (option_map f r) (sym e) (sym (some_mapped f r) ∙ sym is ∙ t) g n s w k
