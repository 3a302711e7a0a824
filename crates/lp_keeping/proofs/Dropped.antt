-- The versions that are not needed go, and their room is free.
use Rattle.std.proofs.Common.{◌≡◌, ◌∙◌, ℕ, zero, suc, ◌<◌, ◌≤◌, ◌⊎◌, Bool, true, false, List, [], ◌∷◌, ◌++◌, Option, Some, None, length, refl, ap, sym, subst, inl, inr, append_assoc, arith, get_or, unwrap_or, take, replicate, if◌then◌else◌}
use Rattle.std.specs.Prelude.{option_map, slice_get, slice_set}
use Rattle.std.specs.List.{Contains, flat_map}
use Rattle.std.specs.Option.{option_to_list}
use Rattle.std.proofs.lemmas.Bool.{cases_lt}
use Rattle.std.proofs.lemmas.List.{length-replicate}
use Rattle.std.proofs.lemmas.Option.{slice_get_cases}
use Rattle.lp_values.specs.declared.id.ProgId.{ProgId}
use Rattle.lp_swapfile.specs.Room.{AreTaken, IsTaken, Room}
use Rattle.lp_swapfile.specs.declared.extent.Extent.{Extent}
use Rattle.lp_swapper.specs.Swap.{extent_of}
use Rattle.lp_swapper.specs.declared.ticket.Ticket.{Ticket}
use Rattle.lp_world.specs.Closed.{extents_of, object_extents, version_extents}
use Rattle.lp_world.specs.Rows.{program_ticket, row_at}
use Rattle.lp_world.specs.declared.live.Live.{Live}
use Rattle.lp_world.specs.declared.objects.Object.{Object}
use Rattle.lp_world.specs.declared.versions.Version.{Version}
use Rattle.lp_keeping.specs.Marks.{is_marked, with_marks}
use Rattle.lp_keeping.specs.Needs.{AreLeft, AreSettled, CanGiveBack, HaveGone, IsNeeded, by_object, by_version, marked_rows, named_by, ticket_in, versions_of}
use Rattle.lp_keeping.proofs.Marked.{MarkedHave, marks_have, marks_here, marks_len, none_at}

-- Rows that stay

rows_len : (ms : List Bool) (rows : List (Option Version)) → length (marked_rows ms rows) ≡ length rows
rows_len [] rows = refl
rows_len (m ∷ ms) [] = refl
rows_len (m ∷ ms) (r ∷ rows) = ap suc (rows_len ms rows)

row_marked : (ms : List Bool) (rows : List (Option Version)) (n : ℕ) → is_marked ms n ≡ true → slice_get (marked_rows ms rows) n ≡ slice_get rows n
row_marked [] rows n h = refl
row_marked (m ∷ ms) [] n h = refl
row_marked (m ∷ ms) (r ∷ rows) zero h = ap (λ (b : Bool). Some (if b then r else None)) h
row_marked (m ∷ ms) (r ∷ rows) (suc n) h = row_marked ms rows n h

row_past : (ms : List Bool) (rows : List (Option Version)) (n : ℕ) → length ms ≤ n → slice_get (marked_rows ms rows) n ≡ slice_get rows n
row_past [] rows n l = refl
row_past (m ∷ ms) [] n l = refl
row_past (m ∷ ms) (r ∷ rows) zero l = absurd (none l)
  where
    none : suc (length ms) ≤ 0 → ⊥
    none l = omega (arith, l)
row_past (m ∷ ms) (r ∷ rows) (suc n) l = row_past ms rows n (omega (arith, l))

-- a row that is there had a mark
row_had : (ms : List Bool) (rows : List (Option Version)) (n : ℕ) (v : Version) → length ms ≡ length rows → slice_get (marked_rows ms rows) n ≡ Some (Some v) → is_marked ms n ≡ true
row_had [] [] n v e h = absurd cc h
row_had [] (r ∷ rows) n v e h = absurd cc e
row_had (m ∷ ms) [] n v e h = absurd cc h
row_had (m ∷ ms) (r ∷ rows) zero v e h = step m h
  where
    step : (b : Bool) → Some (if b then r else None) ≡ Some (Some v) → b ≡ true
    step true q = refl
    step false q = cc
row_had (m ∷ ms) (r ∷ rows) (suc n) v e h = row_had ms rows n v (omega (arith, e)) h

-- one more mark is looked at
mark_stays : (ms : List Bool) (rows : List (Option Version)) (n : ℕ) → n < length ms → is_marked ms n ≡ true → marked_rows (take n ms) rows ≡ marked_rows (take (suc n) ms) rows
mark_stays [] rows n l h = absurd cc h
mark_stays (m ∷ ms) [] zero l h = refl
mark_stays (m ∷ ms) (r ∷ rows) zero l h = ap (λ (b : Bool). (if b then r else None) ∷ rows) (sym h)
mark_stays (m ∷ ms) [] (suc n) l h = refl
mark_stays (m ∷ ms) (r ∷ rows) (suc n) l h = ap (λ xs. (if m then r else None) ∷ xs) (mark_stays ms rows n (omega (arith, l)) h)

mark_goes : (ms : List Bool) (rows : List (Option Version)) (n : ℕ) → n < length ms → is_marked ms n ≡ false → slice_set (marked_rows (take n ms) rows) n None ≡ marked_rows (take (suc n) ms) rows
mark_goes [] rows n l h = absurd (none n l)
  where
    none : (n : ℕ) → n < 0 → ⊥
    none n l = omega arith
mark_goes (m ∷ ms) [] zero l h = refl
mark_goes (m ∷ ms) (r ∷ rows) zero l h = ap (λ (b : Bool). (if b then r else None) ∷ rows) (sym h)
mark_goes (m ∷ ms) [] (suc n) l h = refl
mark_goes (m ∷ ms) (r ∷ rows) (suc n) l h = ap (λ xs. (if m then r else None) ∷ xs) (mark_goes ms rows n (omega (arith, l)) h)

pub mark_step : (ms : List Bool) (rows old new : List (Option Version)) (n m : ℕ) (b : Bool) → n < length ms → m ≡ suc n → b ≡ is_marked ms n → old ≡ marked_rows (take n ms) rows → new ≡ (if b then old else slice_set old n None) → new ≡ marked_rows (take m ms) rows
mark_step ms rows old new n m b l e t o k = subst (λ j. new ≡ marked_rows (take j ms) rows) (sym e) (k ∙ ap (λ xs. if b then xs else slice_set xs n None) o ∙ by b t)
  where
    by : (b : Bool) → b ≡ is_marked ms n → (if b then marked_rows (take n ms) rows else slice_set (marked_rows (take n ms) rows) n None) ≡ marked_rows (take (suc n) ms) rows
    by true t = mark_stays ms rows n l (sym t)
    by false t = mark_goes ms rows n l (sym t)

-- The room of one

record Parted (rows : List (Option Version)) (n : ℕ) : Type 0 where
  before : List Extent
  behind : List Extent
  was : flat_map version_extents rows ≡ before ++ (version_extents (row_at rows n) ++ behind)
  is : flat_map version_extents (slice_set rows n None) ≡ before ++ behind

parted : (rows : List (Option Version)) (n : ℕ) → Parted rows n
parted [] n = record { before = []; behind = []; was = refl; is = refl }
parted (r ∷ rows) zero = record { before = []; behind = flat_map version_extents rows; was = refl; is = refl }
parted (r ∷ rows) (suc n) =
    let p : Parted rows n = parted rows n in
    record {
      before = version_extents r ++ p.before;
      behind = p.behind;
      was = ap (λ es. version_extents r ++ es) p.was ∙ sym (append_assoc (version_extents r) p.before (version_extents (row_at rows n) ++ p.behind));
      is = ap (λ es. version_extents r ++ es) p.is ∙ sym (append_assoc (version_extents r) p.before p.behind);
    }

-- the extents of a version by its ticket
abbrev extents_by : Option Ticket → List Extent
extents_by None = []
extents_by (Some t) = extent_of t ∷ []

extents_here : (r : Option Version) → version_extents r ≡ extents_by (ticket_in r)
extents_here None = refl
extents_here (Some v) = step (program_ticket v.state)
  where
    step : (t : Option Ticket) → option_to_list (option_map extent_of t) ≡ extents_by t
    step None = refl
    step (Some t) = refl

pub can_give_back : (objects : List (Option Object)) (versions : List (Option Version)) (n : ℕ) (room : Room) → AreTaken (extents_of objects versions) room
    → ((ds es : List Extent) (e : Extent) → AreTaken (ds ++ e ∷ es) room → IsTaken e room) → CanGiveBack (ticket_in (row_at versions n)) room
can_give_back objects versions n room h law = step (parted versions n) (ticket_in (row_at versions n)) (extents_here (row_at versions n))
  where
    front : List Extent
    front = flat_map object_extents objects

    step : (p : Parted versions n) (t : Option Ticket) → version_extents (row_at versions n) ≡ extents_by t → CanGiveBack t room
    step p None e = tt
    step p (Some t) e = law (front ++ p.before) p.behind (extent_of t)
        (subst (λ es. AreTaken es room) (ap (λ es. front ++ es) (p.was ∙ ap (λ xs. p.before ++ (xs ++ p.behind)) e) ∙ sym (append_assoc front p.before (extent_of t ∷ p.behind))) h)

pub still_taken : (objects : List (Option Object)) (versions : List (Option Version)) (n : ℕ) (old new : Room) → AreTaken (extents_of objects versions) old → AreLeft (ticket_in (row_at versions n)) old new
    → AreTaken (extents_of objects (slice_set versions n None)) new
still_taken objects versions n old new h left = step (parted versions n) (ticket_in (row_at versions n)) (extents_here (row_at versions n)) left
  where
    front : List Extent
    front = flat_map object_extents objects

    step : (p : Parted versions n) (t : Option Ticket) → version_extents (row_at versions n) ≡ extents_by t → AreLeft t old new → AreTaken (front ++ flat_map version_extents (slice_set versions n None)) new
    step p None e q =
        subst (AreTaken (front ++ flat_map version_extents (slice_set versions n None))) (sym q)
        (subst (λ es. AreTaken (front ++ es) old) (p.was ∙ ap (λ xs. p.before ++ (xs ++ p.behind)) e ∙ sym p.is) h)
    step p (Some t) e g =
        subst (λ es. AreTaken es new) (append_assoc front p.before p.behind ∙ ap (λ es. front ++ es) (sym p.is))
        (g (front ++ p.before) p.behind (subst (λ es. AreTaken es old) (ap (λ es. front ++ es) (p.was ∙ ap (λ xs. p.before ++ (xs ++ p.behind)) e) ∙ sym (append_assoc front p.before (extent_of t ∷ p.behind))) h))

-- nothing else changes
pub only_on : (a b c : Live) → b ≡ record a { versions = b.versions; swapper = b.swapper } → c ≡ record b { versions = c.versions; swapper = c.swapper } → c ≡ record a { versions = c.versions; swapper = c.swapper }
only_on a b c e f = f ∙ ap (λ (l : Live). record l { versions = c.versions; swapper = c.swapper }) e

-- What stays, by the marks

-- a version that names something is there
row_some : (versions : List (Option Version)) (n : ℕ) (p : ProgId) → Contains (named_by (row_at versions n)) p → n < length versions
row_some versions n p c = step (slice_get_cases versions n).1
  where
    nothing : Contains [] p → ⊥
    nothing c = let l = c.1 in omega (arith, l)

    step : ((x : Option Version) × (n < length versions) × (slice_get versions n ≡ Some x) × (get_or versions n x ≡ x)) ⊎ ((length versions ≤ n) × (slice_get versions n ≡ None)) → n < length versions
    step (inl h) = h.1
    step (inr h) = absurd (nothing (subst (λ o. Contains (named_by (unwrap_or o None)) p) h.1 c))

-- the marks of the versions of objects
abbrev pub first_marks : List (Option Object) → List (Option Version) → List Bool
first_marks objects versions = with_marks (replicate (length versions) false) (versions_of objects)

first_len : (objects : List (Option Object)) (versions : List (Option Version)) → length (first_marks objects versions) ≡ length versions
first_len objects versions = marks_len (replicate (length versions) false) (versions_of objects) ∙ length-replicate (length versions) false

first_needed : (objects : List (Option Object)) (versions : List (Option Version)) → MarkedHave (IsNeeded objects versions) (first_marks objects versions)
first_needed objects versions = marks_have (IsNeeded objects versions) (replicate (length versions) false) (versions_of objects) (λ n h. absurd (none_at (length versions) n h)) (λ p c. by_object p c)

-- each needed version has its mark, if it has a number
marked_if_needed : (objects : List (Option Object)) (versions : List (Option Version)) (marks : List Bool) → AreSettled versions (first_marks objects versions) marks → (p : ProgId) → IsNeeded objects versions p → p.0 < length versions → is_marked marks p.0 ≡ true
marked_if_needed objects versions marks s p (by_object _ c) l =
    s.more p.0 (marks_here (replicate (length versions) false) (versions_of objects) p c (subst (λ k. p.0 < k) (sym (length-replicate (length versions) false)) l))
marked_if_needed objects versions marks s p (by_version v _ k c) l =
    let m : v.0 < length versions = row_some versions v.0 p c in
    s.named v.0 m (marked_if_needed objects versions marks s v k m) p c (subst (λ k. p.0 < k) (sym (s.len ∙ first_len objects versions)) l)

pub have_gone : (objects : List (Option Object)) (versions new : List (Option Version)) (none marks0 marks : List Bool) → none ≡ replicate (length versions) false → marks0 ≡ with_marks none (versions_of objects) → AreSettled versions marks0 marks → new ≡ marked_rows marks versions
    → HaveGone objects versions new
have_gone objects versions new none marks0 marks z e h is = subst (HaveGone objects versions) (sym is) (record {
  stay = λ p k. elim (cases_lt p.0 (length versions)) [
    | inl l ↦ row_marked marks versions p.0 (marked_if_needed objects versions marks s p k l)
    | inr l ↦ row_past marks versions p.0 (subst (λ n. n ≤ p.0) (sym len) l)
  ];
  go = λ p v g. s.needed objects (first_needed objects versions) p.0 (row_had marks versions p.0 v len g);
  len = rows_len marks versions;
})
  where
    s : AreSettled versions (first_marks objects versions) marks
    s = subst (λ ms. AreSettled versions ms marks) (e ∙ ap (λ ms. with_marks ms (versions_of objects)) z) h

    len : length marks ≡ length versions
    len = s.len ∙ first_len objects versions
