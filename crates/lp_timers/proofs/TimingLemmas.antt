-- Heart beats and watches among lines: what an edit of the lines means for each.
use Rattle.std.proofs.Common.{◌≡◌, ℕ, Bool, true, false, cond, not, nat_eq, nat_le, ◌&&◌, ◌||◌, List, [], ◌∷◌, ◌++◌, map, Option, None, ◌+◌, append-nil, refl, sym, ap, ◌∙◌}
use Rattle.std.specs.List.{filter}
use Rattle.std.proofs.lemmas.Bool.{false≢true}
use Rattle.lp_values.specs.declared.id.ObjId.{ObjId}
use Rattle.lp_timers.specs.declared.kind.Kind.{Kind}
use Rattle.lp_timers.specs.declared.kind.Kind.TheVariants.{Beat, Reset, CleanUp}
use Rattle.lp_timers.specs.declared.kind.Watch.{Watch}
use Rattle.lp_timers.specs.declared.kind.Watch.TheVariants as watch
use Rattle.lp_timers.specs.declared.line.Line.{Line}
use Rattle.lp_timers.specs.Lines.{due_objects, has_line, has_line_by, is_due_for, kind_of, lines_next, lines_without}
use Rattle.lp_timers.specs.Timers.{Beat as BeatOf, CallOut, Watching, WatchKind, Reset as OfReset, CleanUp as OfCleanUp, beat_next, beat_off, beat_on, beats, beats_at, beats_by, is_watched, unwatched, watch_next, watch_put, watched_at, watches_without}
use Rattle.lp_timers.specs.Marks.{Putting}
use Rattle.lp_timers.specs.Timing.{Timing, beat_turned, beats_left, beats_of, turns_beat, watches_left, watches_of, watch_kind}
use Rattle.lp_timers.specs.Waiting.{Waiting, earliest_of, without_this}

-- a line of these parts
abbrev line : ℕ → ObjId → Kind → ℕ → Line
line n p k m = record { number = n; ob = p; kind = k; next = m }

abbrev a_beat : ObjId → ℕ → BeatOf
a_beat p m = record { object = p; next = m }

abbrev a_watch : ObjId → WatchKind → ℕ → Watching
a_watch p k m = record { object = p; kind = k; next = m }

-- ---- one more

pub beats_last : (ls : List Line) (l : Line) → beats_of (ls ++ l ∷ []) ≡ beats_of ls ++ beats_of (l ∷ [])
beats_last [] l = refl
beats_last (x ∷ xs) l = step x.number x.ob x.kind x.next (beats_last xs l)
  where
    step : (n : ℕ) (p : ObjId) (k : Kind) (m : ℕ) → beats_of (xs ++ l ∷ []) ≡ beats_of xs ++ beats_of (l ∷ []) → beats_of (line n p k m ∷ xs ++ l ∷ []) ≡ beats_of (line n p k m ∷ xs) ++ beats_of (l ∷ [])
    step n p Beat m e = ap (λ bs. a_beat p m ∷ bs) e
    step n p Reset m e = e
    step n p CleanUp m e = e

pub watches_last : (ls : List Line) (l : Line) → watches_of (ls ++ l ∷ []) ≡ watches_of ls ++ watches_of (l ∷ [])
watches_last [] l = refl
watches_last (x ∷ xs) l = step x.number x.ob x.kind x.next (watches_last xs l)
  where
    step : (n : ℕ) (p : ObjId) (k : Kind) (m : ℕ) → watches_of (xs ++ l ∷ []) ≡ watches_of xs ++ watches_of (l ∷ []) → watches_of (line n p k m ∷ xs ++ l ∷ []) ≡ watches_of (line n p k m ∷ xs) ++ watches_of (l ∷ [])
    step n p Beat m e = e
    step n p Reset m e = ap (λ ws. a_watch p OfReset m ∷ ws) e
    step n p CleanUp m e = ap (λ ws. a_watch p OfCleanUp m ∷ ws) e

-- ---- heart beats, by an edit of heart beats

module _ (o : ObjId) where
  pub beats_next : (at : ℕ) (ls : List Line) → beats_of (lines_next ls Beat o at) ≡ beat_next (beats_of ls) o at
  beats_next at [] = refl
  beats_next at (l ∷ ls) = step l.number l.ob l.kind l.next (beats_next at ls)
    where
      one : (n : ℕ) (p : ObjId) (m : ℕ) (b : Bool) → beats_of (lines_next ls Beat o at) ≡ beat_next (beats_of ls) o at → beats_of (cond b (line n p Beat at) (line n p Beat m) ∷ lines_next ls Beat o at) ≡ cond b (a_beat p at) (a_beat p m) ∷ beat_next (beats_of ls) o at
      one n p m true e = ap (λ bs. a_beat p at ∷ bs) e
      one n p m false e = ap (λ bs. a_beat p m ∷ bs) e

      step : (n : ℕ) (p : ObjId) (k : Kind) (m : ℕ) → beats_of (lines_next ls Beat o at) ≡ beat_next (beats_of ls) o at → beats_of (lines_next (line n p k m ∷ ls) Beat o at) ≡ beat_next (beats_of (line n p k m ∷ ls)) o at
      step n p Beat m e = one n p m (nat_eq p.0 o.0) e
      step n p Reset m e = e
      step n p CleanUp m e = e

  pub beats_without : (ls : List Line) → beats_of (lines_without ls Beat o) ≡ beat_off (beats_of ls) o
  beats_without [] = refl
  beats_without (l ∷ ls) = step l.number l.ob l.kind l.next (beats_without ls)
    where
      one : (n : ℕ) (p : ObjId) (m : ℕ) (b : Bool) → beats_of (lines_without ls Beat o) ≡ beat_off (beats_of ls) o
          → beats_of (cond (not b) (line n p Beat m ∷ lines_without ls Beat o) (lines_without ls Beat o)) ≡ cond (not b) (a_beat p m ∷ beat_off (beats_of ls) o) (beat_off (beats_of ls) o)
      one n p m true e = e
      one n p m false e = ap (λ bs. a_beat p m ∷ bs) e

      step : (n : ℕ) (p : ObjId) (k : Kind) (m : ℕ) → beats_of (lines_without ls Beat o) ≡ beat_off (beats_of ls) o → beats_of (lines_without (line n p k m ∷ ls) Beat o) ≡ beat_off (beats_of (line n p k m ∷ ls)) o
      step n p Beat m e = one n p m (nat_eq p.0 o.0) e
      step n p Reset m e = e
      step n p CleanUp m e = e

  pub beats_has : (ls : List Line) → has_line ls Beat o ≡ beats (beats_of ls) o
  beats_has [] = refl
  beats_has (l ∷ ls) = step l.number l.ob l.kind l.next (beats_has ls)
    where
      step : (n : ℕ) (p : ObjId) (k : Kind) (m : ℕ) → has_line ls Beat o ≡ beats (beats_of ls) o → has_line (line n p k m ∷ ls) Beat o ≡ beats (beats_of (line n p k m ∷ ls)) o
      step n p Beat m e = ap (λ b. nat_eq p.0 o.0 || b) e
      step n p Reset m e = e
      step n p CleanUp m e = e

  pub beats_has_by : (t : ℕ) (ls : List Line) → has_line_by ls Beat o t ≡ beats_by (beats_of ls) o t
  beats_has_by t [] = refl
  beats_has_by t (l ∷ ls) = step l.number l.ob l.kind l.next (beats_has_by t ls)
    where
      step : (n : ℕ) (p : ObjId) (k : Kind) (m : ℕ) → has_line_by ls Beat o t ≡ beats_by (beats_of ls) o t → has_line_by (line n p k m ∷ ls) Beat o t ≡ beats_by (beats_of (line n p k m ∷ ls)) o t
      step n p Beat m e = ap (λ b. (nat_eq p.0 o.0 && nat_le m t) || b) e
      step n p Reset m e = e
      step n p CleanUp m e = e

  -- ---- watches, by an edit of heart beats

  pub watches_next_beat : (at : ℕ) (ls : List Line) → watches_of (lines_next ls Beat o at) ≡ watches_of ls
  watches_next_beat at [] = refl
  watches_next_beat at (l ∷ ls) = step l.number l.ob l.kind l.next (watches_next_beat at ls)
    where
      one : (n : ℕ) (p : ObjId) (m : ℕ) (b : Bool) → watches_of (lines_next ls Beat o at) ≡ watches_of ls → watches_of (cond b (line n p Beat at) (line n p Beat m) ∷ lines_next ls Beat o at) ≡ watches_of ls
      one n p m true e = e
      one n p m false e = e

      step : (n : ℕ) (p : ObjId) (k : Kind) (m : ℕ) → watches_of (lines_next ls Beat o at) ≡ watches_of ls → watches_of (lines_next (line n p k m ∷ ls) Beat o at) ≡ watches_of (line n p k m ∷ ls)
      step n p Beat m e = one n p m (nat_eq p.0 o.0) e
      step n p Reset m e = ap (λ ws. a_watch p OfReset m ∷ ws) e
      step n p CleanUp m e = ap (λ ws. a_watch p OfCleanUp m ∷ ws) e

  pub watches_without_beat : (ls : List Line) → watches_of (lines_without ls Beat o) ≡ watches_of ls
  watches_without_beat [] = refl
  watches_without_beat (l ∷ ls) = step l.number l.ob l.kind l.next (watches_without_beat ls)
    where
      one : (n : ℕ) (p : ObjId) (m : ℕ) (b : Bool) → watches_of (lines_without ls Beat o) ≡ watches_of ls → watches_of (cond (not b) (line n p Beat m ∷ lines_without ls Beat o) (lines_without ls Beat o)) ≡ watches_of ls
      one n p m true e = e
      one n p m false e = e

      step : (n : ℕ) (p : ObjId) (k : Kind) (m : ℕ) → watches_of (lines_without ls Beat o) ≡ watches_of ls → watches_of (lines_without (line n p k m ∷ ls) Beat o) ≡ watches_of (line n p k m ∷ ls)
      step n p Beat m e = one n p m (nat_eq p.0 o.0) e
      step n p Reset m e = ap (λ ws. a_watch p OfReset m ∷ ws) e
      step n p CleanUp m e = ap (λ ws. a_watch p OfCleanUp m ∷ ws) e

  -- ---- heart beats, by an edit of watches

  pub beats_next_watch : (w : Watch) (at : ℕ) (ls : List Line) → beats_of (lines_next ls (kind_of w) o at) ≡ beats_of ls
  beats_next_watch w at [] = refl
  beats_next_watch w at (l ∷ ls) = step w l.number l.ob l.kind l.next (beats_next_watch w at ls)
    where
      one : (n : ℕ) (p : ObjId) (m : ℕ) (b : Bool) (k : Kind) (rest : List Line) → beats_of (line n p k at ∷ rest) ≡ beats_of ls → beats_of (line n p k m ∷ rest) ≡ beats_of ls → beats_of (cond b (line n p k at) (line n p k m) ∷ rest) ≡ beats_of ls
      one n p m true k rest e f = e
      one n p m false k rest e f = f

      step : (v : Watch) (n : ℕ) (p : ObjId) (k : Kind) (m : ℕ) → beats_of (lines_next ls (kind_of v) o at) ≡ beats_of ls → beats_of (lines_next (line n p k m ∷ ls) (kind_of v) o at) ≡ beats_of (line n p k m ∷ ls)
      step watch.Reset n p Beat m e = ap (λ bs. a_beat p m ∷ bs) e
      step watch.Reset n p Reset m e = one n p m (nat_eq p.0 o.0) Reset (lines_next ls Reset o at) e e
      step watch.Reset n p CleanUp m e = e
      step watch.CleanUp n p Beat m e = ap (λ bs. a_beat p m ∷ bs) e
      step watch.CleanUp n p Reset m e = e
      step watch.CleanUp n p CleanUp m e = one n p m (nat_eq p.0 o.0) CleanUp (lines_next ls CleanUp o at) e e

  pub beats_without_watch : (w : Watch) (ls : List Line) → beats_of (lines_without ls (kind_of w) o) ≡ beats_of ls
  beats_without_watch w [] = refl
  beats_without_watch w (l ∷ ls) = step w l.number l.ob l.kind l.next (beats_without_watch w ls)
    where
      one : (b : Bool) (l : Line) (rest : List Line) → beats_of (l ∷ rest) ≡ beats_of ls → beats_of rest ≡ beats_of ls → beats_of (cond (not b) (l ∷ rest) rest) ≡ beats_of ls
      one true l rest e f = f
      one false l rest e f = e

      step : (v : Watch) (n : ℕ) (p : ObjId) (k : Kind) (m : ℕ) → beats_of (lines_without ls (kind_of v) o) ≡ beats_of ls → beats_of (lines_without (line n p k m ∷ ls) (kind_of v) o) ≡ beats_of (line n p k m ∷ ls)
      step watch.Reset n p Beat m e = ap (λ bs. a_beat p m ∷ bs) e
      step watch.Reset n p Reset m e = one (nat_eq p.0 o.0) (line n p Reset m) (lines_without ls Reset o) e e
      step watch.Reset n p CleanUp m e = e
      step watch.CleanUp n p Beat m e = ap (λ bs. a_beat p m ∷ bs) e
      step watch.CleanUp n p Reset m e = e
      step watch.CleanUp n p CleanUp m e = one (nat_eq p.0 o.0) (line n p CleanUp m) (lines_without ls CleanUp o) e e

  -- ---- watches, by an edit of watches

  pub watches_next : (w : Watch) (at : ℕ) (ls : List Line) → watches_of (lines_next ls (kind_of w) o at) ≡ watch_next (watches_of ls) (watch_kind w) o at
  watches_next w at [] = refl
  watches_next w at (l ∷ ls) = step w l.number l.ob l.kind l.next (watches_next w at ls)
    where
      one : (b : Bool) (x y : Line) (v z : Watching) (rest : List Line) (ws : List Watching) → watches_of (x ∷ rest) ≡ v ∷ ws → watches_of (y ∷ rest) ≡ z ∷ ws → watches_of (cond b x y ∷ rest) ≡ cond b v z ∷ ws
      one true x y v z rest ws e f = e
      one false x y v z rest ws e f = f

      step : (v : Watch) (n : ℕ) (p : ObjId) (k : Kind) (m : ℕ) → watches_of (lines_next ls (kind_of v) o at) ≡ watch_next (watches_of ls) (watch_kind v) o at
          → watches_of (lines_next (line n p k m ∷ ls) (kind_of v) o at) ≡ watch_next (watches_of (line n p k m ∷ ls)) (watch_kind v) o at
      step watch.Reset n p Beat m e = e
      step watch.Reset n p Reset m e =
          one (nat_eq p.0 o.0) (line n p Reset at) (line n p Reset m) (a_watch p OfReset at) (a_watch p OfReset m) (lines_next ls Reset o at) (watch_next (watches_of ls) OfReset o at) (ap (λ ws. a_watch p OfReset at ∷ ws) e) (ap (λ ws. a_watch p OfReset m ∷ ws) e)
      step watch.Reset n p CleanUp m e = ap (λ ws. a_watch p OfCleanUp m ∷ ws) e
      step watch.CleanUp n p Beat m e = e
      step watch.CleanUp n p Reset m e = ap (λ ws. a_watch p OfReset m ∷ ws) e
      step watch.CleanUp n p CleanUp m e =
          one (nat_eq p.0 o.0) (line n p CleanUp at) (line n p CleanUp m) (a_watch p OfCleanUp at) (a_watch p OfCleanUp m) (lines_next ls CleanUp o at) (watch_next (watches_of ls) OfCleanUp o at) (ap (λ ws. a_watch p OfCleanUp at ∷ ws) e)
          (ap (λ ws. a_watch p OfCleanUp m ∷ ws) e)

  pub watches_cut : (w : Watch) (ls : List Line) → watches_of (lines_without ls (kind_of w) o) ≡ unwatched (watches_of ls) (watch_kind w) o
  watches_cut w [] = refl
  watches_cut w (l ∷ ls) = step w l.number l.ob l.kind l.next (watches_cut w ls)
    where
      one : (b : Bool) (l : Line) (rest : List Line) (z : Watching) (ws : List Watching) → watches_of (l ∷ rest) ≡ z ∷ ws → watches_of rest ≡ ws → watches_of (cond (not b) (l ∷ rest) rest) ≡ cond (not b) (z ∷ ws) ws
      one true l rest z ws e f = f
      one false l rest z ws e f = e

      step : (v : Watch) (n : ℕ) (p : ObjId) (k : Kind) (m : ℕ) → watches_of (lines_without ls (kind_of v) o) ≡ unwatched (watches_of ls) (watch_kind v) o
          → watches_of (lines_without (line n p k m ∷ ls) (kind_of v) o) ≡ unwatched (watches_of (line n p k m ∷ ls)) (watch_kind v) o
      step watch.Reset n p Beat m e = e
      step watch.Reset n p Reset m e = one (nat_eq p.0 o.0) (line n p Reset m) (lines_without ls Reset o) (a_watch p OfReset m) (unwatched (watches_of ls) OfReset o) (ap (λ ws. a_watch p OfReset m ∷ ws) e) e
      step watch.Reset n p CleanUp m e = ap (λ ws. a_watch p OfCleanUp m ∷ ws) e
      step watch.CleanUp n p Beat m e = e
      step watch.CleanUp n p Reset m e = ap (λ ws. a_watch p OfReset m ∷ ws) e
      step watch.CleanUp n p CleanUp m e = one (nat_eq p.0 o.0) (line n p CleanUp m) (lines_without ls CleanUp o) (a_watch p OfCleanUp m) (unwatched (watches_of ls) OfCleanUp o) (ap (λ ws. a_watch p OfCleanUp m ∷ ws) e) e

  pub watches_has : (w : Watch) (ls : List Line) → has_line ls (kind_of w) o ≡ is_watched (watches_of ls) (watch_kind w) o
  watches_has w [] = refl
  watches_has w (l ∷ ls) = step w l.number l.ob l.kind l.next (watches_has w ls)
    where
      step : (v : Watch) (n : ℕ) (p : ObjId) (k : Kind) (m : ℕ) → has_line ls (kind_of v) o ≡ is_watched (watches_of ls) (watch_kind v) o → has_line (line n p k m ∷ ls) (kind_of v) o ≡ is_watched (watches_of (line n p k m ∷ ls)) (watch_kind v) o
      step watch.Reset n p Beat m e = e
      step watch.Reset n p Reset m e = ap (λ b. nat_eq p.0 o.0 || b) e
      step watch.Reset n p CleanUp m e = e
      step watch.CleanUp n p Beat m e = e
      step watch.CleanUp n p Reset m e = e
      step watch.CleanUp n p CleanUp m e = ap (λ b. nat_eq p.0 o.0 || b) e

  -- the watches of an object for one and for the other are all its watches
  pub both_unwatched : (ws : List Watching) → unwatched (unwatched ws OfReset o) OfCleanUp o ≡ watches_without ws o
  both_unwatched [] = refl
  both_unwatched (x ∷ xs) = step x.object x.kind x.next (both_unwatched xs)
    where
      first : (p : ObjId) (m : ℕ) (b : Bool) → unwatched (unwatched xs OfReset o) OfCleanUp o ≡ watches_without xs o
          → unwatched (cond (not b) (a_watch p OfReset m ∷ unwatched xs OfReset o) (unwatched xs OfReset o)) OfCleanUp o ≡ cond (not b) (a_watch p OfReset m ∷ watches_without xs o) (watches_without xs o)
      first p m true e = e
      first p m false e = ap (λ ws. a_watch p OfReset m ∷ ws) e

      second : (p : ObjId) (m : ℕ) (b : Bool) → unwatched (unwatched xs OfReset o) OfCleanUp o ≡ watches_without xs o
          → cond (not b) (a_watch p OfCleanUp m ∷ unwatched (unwatched xs OfReset o) OfCleanUp o) (unwatched (unwatched xs OfReset o) OfCleanUp o) ≡ cond (not b) (a_watch p OfCleanUp m ∷ watches_without xs o) (watches_without xs o)
      second p m true e = e
      second p m false e = ap (λ ws. a_watch p OfCleanUp m ∷ ws) e

      step : (p : ObjId) (k : WatchKind) (m : ℕ) → unwatched (unwatched xs OfReset o) OfCleanUp o ≡ watches_without xs o → unwatched (unwatched (a_watch p k m ∷ xs) OfReset o) OfCleanUp o ≡ watches_without (a_watch p k m ∷ xs) o
      step p OfReset m e = first p m (nat_eq p.0 o.0) e
      step p OfCleanUp m e = second p m (nat_eq p.0 o.0) e

-- ---- what is due

pub beats_due : (t : ℕ) (ls : List Line) → due_objects Beat t ls ≡ beats_at t (beats_of ls)
beats_due t [] = refl
beats_due t (l ∷ ls) = step l.number l.ob l.kind l.next (beats_due t ls)
  where
    one : (n : ℕ) (p : ObjId) (m : ℕ) (b : Bool) → due_objects Beat t ls ≡ beats_at t (beats_of ls)
        → map (λ l. l.ob) (cond b (line n p Beat m ∷ filter (is_due_for Beat t) ls) (filter (is_due_for Beat t) ls)) ≡ map (λ x. x.object) (cond b (a_beat p m ∷ filter (λ x. nat_le x.next t) (beats_of ls)) (filter (λ x. nat_le x.next t) (beats_of ls)))
    one n p m true e = ap (λ os. p ∷ os) e
    one n p m false e = e

    step : (n : ℕ) (p : ObjId) (k : Kind) (m : ℕ) → due_objects Beat t ls ≡ beats_at t (beats_of ls) → due_objects Beat t (line n p k m ∷ ls) ≡ beats_at t (beats_of (line n p k m ∷ ls))
    step n p Beat m e = one n p m (nat_le m t) e
    step n p Reset m e = e
    step n p CleanUp m e = e

pub watches_due : (w : Watch) (t : ℕ) (ls : List Line) → due_objects (kind_of w) t ls ≡ watched_at t (watch_kind w) (watches_of ls)
watches_due w t [] = refl
watches_due w t (l ∷ ls) = step w l.number l.ob l.kind l.next (watches_due w t ls)
  where
    one : (p : ObjId) (b : Bool) (l : Line) (z : Watching) (rest : List Line) (ws : List Watching) → l.ob ≡ p → z.object ≡ p → map (λ l. l.ob) rest ≡ map (λ x. x.object) ws → map (λ l. l.ob) (cond b (l ∷ rest) rest) ≡ map (λ x. x.object) (cond b (z ∷ ws) ws)
    one p true l z rest ws f g e = ap (λ q. q ∷ map (λ l. l.ob) rest) (f ∙ sym g) ∙ ap (λ os. z.object ∷ os) e
    one p false l z rest ws f g e = e

    step : (v : Watch) (n : ℕ) (p : ObjId) (k : Kind) (m : ℕ) → due_objects (kind_of v) t ls ≡ watched_at t (watch_kind v) (watches_of ls) → due_objects (kind_of v) t (line n p k m ∷ ls) ≡ watched_at t (watch_kind v) (watches_of (line n p k m ∷ ls))
    step watch.Reset n p Beat m e = e
    step watch.Reset n p Reset m e = one p (nat_le m t) (line n p Reset m) (a_watch p OfReset m) _ _ refl refl e
    step watch.Reset n p CleanUp m e = e
    step watch.CleanUp n p Beat m e = e
    step watch.CleanUp n p Reset m e = e
    step watch.CleanUp n p CleanUp m e = one p (nat_le m t) (line n p CleanUp m) (a_watch p OfCleanUp m) _ _ refl refl e

-- ---- all that is to come, after an edit

abbrev pub putting : ℕ → List Line → Putting
putting n ls = record { next = n; lines = ls }

abbrev pub lists : Waiting → List BeatOf → List Watching → Timing
lists w bs ws = record { next = w.next; call_outs = w.call_outs; beats = bs; watches = ws }

abbrev pub timing : Waiting → Putting → Timing
timing w p = lists w (beats_of p.lines) (watches_of p.lines)

pub both : (w : Waiting) (bs cs : List BeatOf) (ws vs : List Watching) → bs ≡ cs → ws ≡ vs → lists w bs ws ≡ lists w cs vs
both w bs cs ws vs e f = ap (λ b. lists w b ws) e ∙ ap (λ v. lists w cs v) f

-- what a line put for an object makes of the lines
abbrev pub put_for : Putting → ObjId → Kind → ℕ → Putting
put_for p o k at = cond (has_line p.lines k o) (putting p.next (lines_next p.lines k o at)) (putting (p.next + 1) (p.lines ++ line p.next o k at ∷ []))

module _ (w : Waiting) (p q : Putting) (o : ObjId) where
  pub beat_moved : (at : ℕ) → q ≡ putting p.next (lines_next p.lines Beat o at) → timing w q ≡ lists w (beat_next (beats_of p.lines) o at) (watches_of p.lines)
  beat_moved at e = ap (timing w) e ∙ both w _ _ _ _ (beats_next o at p.lines) (watches_next_beat o at p.lines)

  pub beat_ended : q ≡ putting p.next (lines_without p.lines Beat o) → timing w q ≡ lists w (beat_off (beats_of p.lines) o) (watches_of p.lines)
  beat_ended e = ap (timing w) e ∙ both w _ _ _ _ (beats_without o p.lines) (watches_without_beat o p.lines)

  pub watch_ended : (k : Watch) → q ≡ putting p.next (lines_without p.lines (kind_of k) o) → timing w q ≡ lists w (beats_of p.lines) (unwatched (watches_of p.lines) (watch_kind k) o)
  watch_ended k e = ap (timing w) e ∙ both w _ _ _ _ (beats_without_watch o k p.lines) (watches_cut o k p.lines)

  pub beat_begun : (now : ℕ) → q ≡ put_for p o Beat (now + 2) → has_line p.lines Beat o ≡ false → timing w q ≡ lists w (beat_on (beats_of p.lines) o now) (watches_of p.lines)
  beat_begun now e h =
      ap (timing w) (e ∙ ap (λ (b : Bool). cond b (putting p.next (lines_next p.lines Beat o (now + 2))) (putting (p.next + 1) (p.lines ++ line p.next o Beat (now + 2) ∷ []))) h)
      ∙ both w _ _ _ _ (beats_last p.lines (line p.next o Beat (now + 2))) (watches_last p.lines (line p.next o Beat (now + 2)) ∙ append-nil (watches_of p.lines))

  -- a heart switched off
  pub turned_off : (on : Bool) (now : ℕ) (r : Bool) → on ≡ false → r ≡ has_line p.lines Beat o → q ≡ putting p.next (lines_without p.lines Beat o)
      → (r ≡ turns_beat (beats_of p.lines) o on) × (timing w q ≡ lists w (beat_turned (beats_of p.lines) o on now) (watches_of p.lines))
  turned_off true now r e f g = absurd (false≢true (sym e))
  turned_off false now r e f g = (f ∙ beats_has o p.lines, beat_ended g)

  -- a heart that beats, switched on
  pub turned_none : (on : Bool) (now : ℕ) → on ≡ true → true ≡ has_line p.lines Beat o → (false ≡ turns_beat (beats_of p.lines) o on) × (timing w p ≡ lists w (beat_turned (beats_of p.lines) o on now) (watches_of p.lines))
  turned_none false now e f = absurd (false≢true e)
  turned_none true now e f =
      let has : true ≡ beats (beats_of p.lines) o = f ∙ beats_has o p.lines in
      (ap not has, ap (λ (b : Bool). lists w (cond b (beats_of p.lines) (beat_on (beats_of p.lines) o now)) (watches_of p.lines)) has)

  -- a heart that does not beat, switched on
  pub turned_on : (on : Bool) (now : ℕ) → on ≡ true → false ≡ has_line p.lines Beat o → q ≡ put_for p o Beat (now + 2) → (true ≡ turns_beat (beats_of p.lines) o on) × (timing w q ≡ lists w (beat_turned (beats_of p.lines) o on now) (watches_of p.lines))
  turned_on false now e f g = absurd (false≢true e)
  turned_on true now e f g =
      let has : false ≡ beats (beats_of p.lines) o = f ∙ beats_has o p.lines in
      (ap not has, beat_begun now g (sym f) ∙ ap (λ (b : Bool). lists w (cond b (beats_of p.lines) (beat_on (beats_of p.lines) o now)) (watches_of p.lines)) has)

  no_beat : (k : Watch) (at : ℕ) → beats_of (line p.next o (kind_of k) at ∷ []) ≡ []
  no_beat watch.Reset at = refl
  no_beat watch.CleanUp at = refl

  one_watch : (k : Watch) (at : ℕ) → watches_of (line p.next o (kind_of k) at ∷ []) ≡ a_watch o (watch_kind k) at ∷ []
  one_watch watch.Reset at = refl
  one_watch watch.CleanUp at = refl

  pub watch_begun : (k : Watch) (at : ℕ) → q ≡ put_for p o (kind_of k) at → timing w q ≡ lists w (beats_of p.lines) (watch_put (watches_of p.lines) (watch_kind k) o at)
  watch_begun k at e = ap (timing w) e ∙ step (has_line p.lines (kind_of k) o) (watches_has o k p.lines)
    where
      step : (b : Bool) → b ≡ is_watched (watches_of p.lines) (watch_kind k) o
          → timing w (cond b (putting p.next (lines_next p.lines (kind_of k) o at)) (putting (p.next + 1) (p.lines ++ line p.next o (kind_of k) at ∷ []))) ≡ lists w (beats_of p.lines) (watch_put (watches_of p.lines) (watch_kind k) o at)
      step true f =
          both w _ _ _ _ (beats_next_watch o k at p.lines)
          (watches_next o k at p.lines ∙ ap (λ (b : Bool). cond b (watch_next (watches_of p.lines) (watch_kind k) o at) (watches_of p.lines ++ a_watch o (watch_kind k) at ∷ [])) f)
      step false f =
          both w _ _ _ _ (beats_last p.lines (line p.next o (kind_of k) at) ∙ ap (λ bs. beats_of p.lines ++ bs) (no_beat k at) ∙ append-nil (beats_of p.lines))
          (watches_last p.lines (line p.next o (kind_of k) at) ∙ ap (λ ws. watches_of p.lines ++ ws) (one_watch k at)
          ∙ ap (λ (b : Bool). cond b (watch_next (watches_of p.lines) (watch_kind k) o at) (watches_of p.lines ++ a_watch o (watch_kind k) at ∷ [])) f)

-- nothing of an object is to come any more
pub all_ended : (w v : Waiting) (p q r s : Putting) (o : ObjId) → earliest_of w.call_outs o ≡ None
    → v ≡ record { next = w.next; call_outs = without_this w.call_outs (earliest_of w.call_outs o) }
    → q ≡ putting p.next (lines_without p.lines Beat o) → r ≡ putting q.next (lines_without q.lines Reset o) → s ≡ putting r.next (lines_without r.lines CleanUp o)
    → timing v s ≡ record { next = w.next; call_outs = without_this w.call_outs (earliest_of w.call_outs o); beats = beats_left (earliest_of w.call_outs o) (beats_of p.lines) o; watches = watches_left (earliest_of w.call_outs o) (watches_of p.lines) o }
all_ended w v p q r s o none left e f g =
    ap (λ (u : Waiting). timing u s) left
    ∙ both (record { next = w.next; call_outs = without_this w.call_outs (earliest_of w.call_outs o) }) _ _ _ _
    (ap (λ (x : Putting). beats_of x.lines) g ∙ beats_without_watch o watch.CleanUp r.lines
    ∙ ap (λ (x : Putting). beats_of x.lines) f ∙ beats_without_watch o watch.Reset q.lines
    ∙ ap (λ (x : Putting). beats_of x.lines) e ∙ beats_without o p.lines)
    (ap (λ (x : Putting). watches_of x.lines) g ∙ watches_cut o watch.CleanUp r.lines
    ∙ ap (λ (x : Putting). unwatched (watches_of x.lines) OfCleanUp o) f ∙ ap (λ ws. unwatched ws OfCleanUp o) (watches_cut o watch.Reset q.lines)
    ∙ ap (λ (x : Putting). unwatched (unwatched (watches_of x.lines) OfReset o) OfCleanUp o) e ∙ ap (λ ws. unwatched (unwatched ws OfReset o) OfCleanUp o) (watches_without_beat o p.lines)
    ∙ both_unwatched o (watches_of p.lines))
    ∙ ap (λ (c : Option CallOut). lists (record { next = w.next; call_outs = without_this w.call_outs (earliest_of w.call_outs o) }) (beats_left c (beats_of p.lines) o) (watches_left c (watches_of p.lines) o)) (sym none)
