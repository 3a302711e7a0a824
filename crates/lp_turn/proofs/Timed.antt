-- What stands where the clock is set, and where what is to come changes.
use Rattle.std.proofs.Common.{◌≡◌, ◌≢◌, ◌∙◌, ◌<◌, ◌≤◌, ◌^◌, ◌∷◌, [], inl, inr, ℕ, Bool, true, false, not, List, Option, Some, None, All, refl, ap, sym, subst, filter, nat_eq, unwrap_or, if◌then◌else◌}
use Rattle.std.proofs.lemmas.Bool.{eqb-true}
use Rattle.std.proofs.lemmas.List.Elements.{All-filter, All-head, All-tail}
use Rattle.lp_code.specs.declared.program.RawProgram.{RawProgram}
use Rattle.lp_cells.specs.Cells.{IsThere}
use Rattle.lp_events.specs.declared.out.Out.{Out}
use Rattle.lp_swapfile.specs.Device.{Bytes}
use Rattle.lp_timers.specs.Timers.{CallOut, first_call_out, without_call_out}
use Rattle.lp_timers.specs.Timing.{Timing}
use Rattle.lp_timers.specs.Waiting.{numbered}
use Rattle.lp_language.specs.Course.{State}
use Rattle.lp_language.specs.World.{World}
use Rattle.lp_meaning.specs.Ticks.{at_moment}
use Rattle.lp_lasting_laws.specs.Lasting.{IsAmong}
use Rattle.lp_world.specs.Closed.{AreNumbered, AreNumberedOnce, IsClosed}
use Rattle.lp_world.specs.Stands as stands
use Rattle.lp_world.specs.declared.live.Live.{Live}
use Rattle.lp_world.proofs.Closing.{closed_with_timers}
use Rattle.lp_world.proofs.Numbering.{numbered_filter, numbered_same}
use Rattle.lp_targets.specs.Callees.{IsWorldOf}
use Rattle.lp_turn.specs.Resting.{Rests}
use Rattle.lp_turn.specs.TickSteps.{AreCallOutsNumbered, without_number}

-- a world with another clock, and other things to come
world_set : World → ℕ → Timing → World
world_set w c t = record w { clock = c; next_call_out = t.next; call_outs = t.call_outs; beats = t.beats; watches = t.watches }

world_timed : (g : Option Bytes) (programs : List RawProgram) (live : Live) (w : World) (c k : ℕ) (t u : Timing) → IsWorldOf g programs live w → c ≡ k → t ≡ u → IsWorldOf g programs (record live { clock = c; timers = t }) (world_set w k u)
unfolding world_set
world_timed g programs live w c k t u h a b =
    let s = h.stands in
    let r = s.rest in
    record {
      stands = record {
        cells = s.cells;
        objects = s.objects;
        names = s.names;
        versions = s.versions;
        kept = s.kept;
        rest = record {
          files = r.files;
          simul = r.simul;
          places = r.places;
          sentences = r.sentences;
          next_sentence = r.next_sentence;
          timing = b;
          connections = r.connections;
          highest = r.highest;
          present = r.present;
          waiting = r.waiting;
          clock = a;
          generator = r.generator;
          next_clone = r.next_clone;
        };
      };
      compiled = h.compiled;
      shadows = h.shadows;
    }

-- what a world has to come
abbrev pub timing_of : World → Timing
timing_of w = record { next = w.next_call_out; call_outs = w.call_outs; beats = w.beats; watches = w.watches }

-- the clock is set
pub rests_clocked : (g : Option Bytes) (programs : List RawProgram) (before : List Out) (live : Live) (s : State) (c : ℕ) → Rests g programs before live s
    → Rests g programs before (record live { clock = c }) (record s { world = at_moment s.world c })
unfolding world_set
rests_clocked g programs before live s c h = record { world = world_timed g programs live s.world c c live.timers (timing_of s.world) h.world refl h.world.stands.rest.timing; outputs = h.outputs }

-- what is to come changes in both
abbrev pub retimed : (Timing → Timing) → World → World
retimed f w =
    record w { next_call_out = (f (timing_of w)).next; call_outs = (f (timing_of w)).call_outs; beats = (f (timing_of w)).beats; watches = (f (timing_of w)).watches }

pub rests_retimed : (g : Option Bytes) (programs : List RawProgram) (before : List Out) (live : Live) (s : State) (f : Timing → Timing) → Rests g programs before live s
    → Rests g programs before (record live { timers = f live.timers }) (record s { world = retimed f s.world })
unfolding world_set
rests_retimed g programs before live s f h =
    let r = h.world.stands.rest in
    record { world = world_timed g programs live s.world live.clock s.world.clock (f live.timers) (f (timing_of s.world)) h.world r.clock (ap f r.timing); outputs = h.outputs }

-- Closed states: where the clock is set, where the call-outs stay, and where one goes.
pub closed_clocked : (live : Live) (c : ℕ) → c ≤ 10 ^ 12 → IsClosed live → IsClosed (record live { clock = c })
closed_clocked live c e h = record {
  clock = e;
  cells = h.cells;
  objects = h.objects;
  apart = h.apart;
  versions = h.versions;
  call_outs = h.call_outs;
  waiting = h.waiting;
  placed = h.placed;
  numbered = h.numbered;
  room = h.room;
}

pub closed_same : (live : Live) (t : Timing) → IsClosed live → t.next ≡ live.timers.next → t.call_outs ≡ live.timers.call_outs → IsClosed (record live { timers = t })
closed_same live t h n e =
    closed_with_timers live t h (subst (λ cs. All (λ (c : CallOut). All (IsThere live.cells) c.arguments) cs) (sym e) h.call_outs) (numbered_same live.timers t n e h.numbered)

pub closed_taken : (live : Live) (t : Timing) (n : ℕ) → IsClosed live → t ≡ without_number live.timers n → IsClosed (record live { timers = t })
closed_taken live t n h e =
    subst (λ u. IsClosed (record live { timers = u })) (sym e)
    (closed_with_timers live (without_number live.timers n) h (All-filter (λ c. not (nat_eq c.number n)) (λ (c : CallOut). All (IsThere live.cells) c.arguments) live.timers.call_outs h.call_outs)
    (numbered_filter (λ c. not (nat_eq c.number n)) live.timers (without_number live.timers n) refl refl h.numbered))

-- Call-outs by their numbers.
first_has : (P : CallOut → Type 0) (xs : List CallOut) (c : CallOut) → All P xs → first_call_out xs ≡ Some c → P c
first_has P [] c a e = cc
first_has P (x ∷ xs) c a e = let s : x ≡ c = ap (λ o. unwrap_or o x) e in subst P s (All-head P x xs a)

pub numbered_has : (P : CallOut → Type 0) (cs : List CallOut) (n : ℕ) (c : CallOut) → All P cs → numbered cs n ≡ Some c → P c
numbered_has P cs n c a e = first_has P (filter (λ c. nat_eq c.number n) cs) c (All-filter (λ c. nat_eq c.number n) P cs a) e

pub found_number : (cs : List CallOut) (n : ℕ) (c : CallOut) → numbered cs n ≡ Some c → c.number ≡ n
found_number [] n c e = cc
found_number (x ∷ xs) n c e = by (nat_eq x.number n) refl (found_number xs n c) e
  where
    by : (b : Bool) → nat_eq x.number n ≡ b → (numbered xs n ≡ Some c → c.number ≡ n) → first_call_out (if b then x ∷ filter (λ d. nat_eq d.number n) xs else filter (λ d. nat_eq d.number n) xs) ≡ Some c → c.number ≡ n
    by true q k e = let s : x ≡ c = ap (λ o. unwrap_or o x) e in ap (λ (y : CallOut). y.number) (sym s) ∙ eqb-true x.number n q
    by false q k e = k e

none_without : (cs : List CallOut) (n : ℕ) → numbered cs n ≡ None → without_call_out cs n ≡ cs
none_without [] n e = refl
none_without (x ∷ xs) n e = by (nat_eq x.number n) (none_without xs n) e
  where
    by : (b : Bool) → (numbered xs n ≡ None → without_call_out xs n ≡ xs) → first_call_out (if b then x ∷ filter (λ d. nat_eq d.number n) xs else filter (λ d. nat_eq d.number n) xs) ≡ None
        → (if not b then x ∷ without_call_out xs n else without_call_out xs n) ≡ x ∷ xs
    by true k e = cc
    by false k e = ap (λ l. x ∷ l) (k e)

-- where none was taken out nothing changed
pub nothing_taken : (old new : Timing) (n : ℕ) → new ≡ without_number old n → None ≡ numbered old.call_outs n → new ≡ old
nothing_taken old new n h e = h ∙ ap (λ cs. record { next = old.next; call_outs = cs; beats = old.beats; watches = old.watches }) (none_without old.call_outs n (sym e))

-- Each call-out has a number of its own.
all_among : (P : CallOut → Type 0) (xs : List CallOut) → All P xs → (c : CallOut) → IsAmong c xs → P c
all_among P [] a c i = absurd i
all_among P (x ∷ xs) a c (inl e) = subst P (sym e) (All-head P x xs a)
all_among P (x ∷ xs) a c (inr i) = all_among P xs (All-tail P x xs a) c i

own_number : (xs : List CallOut) → AreNumberedOnce xs → (c d : CallOut) → IsAmong c xs → IsAmong d xs → d.number ≡ c.number → d ≡ c
own_number [] h c d i j e = absurd i
own_number (x ∷ xs) h c d (inl p) (inl q) e = q ∙ sym p
own_number (x ∷ xs) h c d (inl p) (inr j) e = absurd (all_among (λ (y : CallOut). y.number ≢ x.number) xs h.0 d j (e ∙ ap (λ (y : CallOut). y.number) p))
own_number (x ∷ xs) h c d (inr i) (inl q) e = absurd (all_among (λ (y : CallOut). y.number ≢ x.number) xs h.0 c i (sym e ∙ ap (λ (y : CallOut). y.number) q))
own_number (x ∷ xs) h c d (inr i) (inr j) e = own_number xs h.1 c d i j e

pub have_numbers : (live : Live) → IsClosed live → AreCallOutsNumbered live
have_numbers live h told programs w s =
    let n : AreNumbered (timing_of w) = subst AreNumbered s.rest.timing h.numbered in
    record { own = λ c d i j e. own_number w.call_outs n.once c d i j e; below = λ c i. all_among (λ (x : CallOut). x.number < w.next_call_out) w.call_outs n.below c i }
