-- What is idle goes out in turn.
use Rattle.std.proofs.Common.{◌≡◌, ◌∙◌, ◌++◌, ◌+◌, ◌≤◌, ◌&&◌, ℕ, suc, zero, Bool, true, false, not, List, [], ◌∷◌, Option, Some, None, IsSome, is_some, Ok, refl, ap, sym, subst, unwrap_or, length, filter, if◌then◌else◌, arith}
use Rattle.std.proofs.Math.ListN.{length-set}
use Rattle.lp_swapfile.specs.Device.{Bytes, IsTold}
use Rattle.lp_swapper.specs.declared.ticket.Ticket.{Ticket}
use Rattle.lp_values.specs.declared.id.ObjId.{ObjId}
use Rattle.lp_values.specs.declared.id.ProgId.{ProgId}
use Rattle.lp_meaning.specs.IdleAndKept.{is_idle}
use Rattle.lp_world.specs.Rows.{is_live_row, is_out_state, live_in, object_ticket, program_ticket, row_at, state_in, version_state}
use Rattle.lp_world.specs.declared.live.Live.{Live}
use Rattle.lp_world.specs.declared.objects.Object.{Object}
use Rattle.lp_world.specs.declared.objects.ObjectState.{ObjectState}
use Rattle.lp_world.specs.declared.objects.ObjectState.TheVariants as objects_of
use Rattle.lp_world.specs.declared.versions.ProgramState.{ProgramState}
use Rattle.lp_world.specs.declared.versions.ProgramState.TheVariants as programs_of
use Rattle.lp_world.specs.declared.versions.Version.{Version}
use Rattle.lp_world.proofs.Keeping.{get_set}
use Rattle.lp_residence.specs.Idling.{ArePut, AreUntouched, Device, IsPutOne, IsTurn, IsUntouched, counted, first_objects, first_versions, goes, going, none_yet, is_idle_object, is_idle_version, is_out_program, together}
use Rattle.lp_residence.specs.Owners.{is_there, ticket_at, ticket_of_state, ticket_of_version}
use Rattle.lp_residence.specs.Puts.{IsPut, IsWrittenFree}
use Rattle.lp_residence.specs.declared.answers.Idled.{Idled}
use Rattle.lp_residence.specs.declared.answers.PutOut.{PutOut}
use Rattle.lp_residence.specs.declared.answers.PutOut.TheVariants as puts
use Rattle.lp_residence.specs.declared.owner.Owner.{Owner}
use Rattle.lp_residence.specs.declared.owner.Owner.TheVariants as owners

differ : false ≡ true → ⊥
differ q = cc

none_there : (o : Option Ticket) → o ≡ None → IsSome o → ⊥
none_there None e s = cc
none_there (Some x) e s = cc

-- What is there and in memory goes out, or is kept for a cause: it counts.
pub one_more : (who : Owner) (old new : Live) (told : Option Bytes) (a : PutOut) (n : Idled) → IsPut who old new told (Ok a) → is_there old who ≡ true → ticket_at old who ≡ None → together (counted a n) ≡ together n + 1
one_more who old new told puts.Out n p t k = omega arith
one_more who old new told puts.NotThere n p t k = absurd (differ (sym p.0 ∙ t))
one_more who old new told puts.Already n p t k = absurd (none_there (ticket_at old who) k p.out)
one_more who old new told puts.KeptFault n p t k = omega arith
one_more who old new told puts.KeptFull n p t k = omega arith

-- the device tells still
pub told_after : (who : Owner) (old : Live) (a b : Option Bytes) → IsWrittenFree old.swapper a b → IsTold a → IsTold b
told_after who old None b w t = absurd t
told_after who old (Some f) None w t = absurd w.others
told_after who old (Some f) (Some g) w t = tt

-- What goes is there, and in memory.
both : (a b : Bool) → (a && b) ≡ true → (a ≡ true) × (b ≡ true)
both true b e = (refl, e)
both false b e = absurd (differ e)

no_ticket : (s : ObjectState) → not (is_out_state s) ≡ true → object_ticket s ≡ None
no_ticket (objects_of.Resident vs) e = refl
no_ticket (objects_of.Swapped t shared own) e = absurd (differ e)

no_program_ticket : (s : ProgramState) → not (is_out_program s) ≡ true → program_ticket s ≡ None
no_program_ticket (programs_of.Resident p) e = refl
no_program_ticket (programs_of.Swapped t) e = absurd (differ e)

object_there : (time clock : ℕ) (r : Option Object) → is_idle_object time clock r ≡ true → (is_live_row r ≡ true) × (ticket_of_state (state_in r) ≡ None)
object_there time clock None e = absurd (differ e)
object_there time clock (Some o) e =
    let x = both (o.is_live && not (is_out_state o.state)) (is_idle time clock o.latest) e in
    let y = both o.is_live (not (is_out_state o.state)) x.0 in
    (y.0, no_ticket o.state y.1)

version_there : (time clock : ℕ) (r : Option Version) → is_idle_version time clock r ≡ true → (is_some r ≡ true) × (ticket_of_version (version_state r) ≡ None)
version_there time clock None e = absurd (differ e)
version_there time clock (Some v) e = (refl, no_program_ticket v.state (both (not (is_out_program v.state)) (is_idle time clock v.latest) e).0)

pub goes_there : (time : ℕ) (l : Live) (who : Owner) → goes time l who ≡ true → (is_there l who ≡ true) × (ticket_at l who ≡ None)
unfolding live_in
goes_there time l (owners.Object o) e = object_there time l.clock (row_at l.objects o.0) e
goes_there time l (owners.Program p) e = version_there time l.clock (row_at l.versions p.0) e

-- What a turn keeps

pub record KeepsObjects (n : ℕ) (old new : Live) : Type 0 where
  pub clock : new.clock ≡ old.clock
  pub length_is : length new.objects ≡ length old.objects
  pub objects : (m : ℕ) → (n ≡ m → ⊥) → row_at new.objects m ≡ row_at old.objects m
  pub versions : new.versions ≡ old.versions

pub record KeepsVersions (n : ℕ) (old new : Live) : Type 0 where
  pub clock : new.clock ≡ old.clock
  pub length_is : length new.versions ≡ length old.versions
  pub versions : (m : ℕ) → (n ≡ m → ⊥) → row_at new.versions m ≡ row_at old.versions m

objects_same : (n : ℕ) (old new : Live) → new.clock ≡ old.clock → new.objects ≡ old.objects → new.versions ≡ old.versions → KeepsObjects n old new
objects_same n old new c o v = record { clock = c; length_is = ap (λ l. length l) o; objects = λ m d. ap (λ l. row_at l m) o; versions = v }

versions_same : (n : ℕ) (old new : Live) → new.clock ≡ old.clock → new.versions ≡ old.versions → KeepsVersions n old new
versions_same n old new c v = record { clock = c; length_is = ap (λ l. length l) v; versions = λ m d. ap (λ l. row_at l m) v }

put_keeps_objects : (o : ObjId) (old new : Live) (told : Option Bytes) (a : PutOut) → IsPut (owners.Object o) old new told (Ok a) → KeepsObjects o.0 old new
put_keeps_objects o old new told puts.Out p = subst (KeepsObjects o.0 old) (sym p.after) (record {
  clock = refl;
  length_is = length-set old.objects o.0 _;
  objects = λ m d. ap (λ r. unwrap_or r None) (get_set old.objects o.0 m _ d);
  versions = refl;
})
put_keeps_objects o old new told puts.NotThere p = subst (KeepsObjects o.0 old) (sym p.1) (objects_same o.0 old old refl refl refl)
put_keeps_objects o old new told puts.Already p = subst (KeepsObjects o.0 old) (sym p.after) (objects_same o.0 old old refl refl refl)
put_keeps_objects o old new told puts.KeptFault p = subst (KeepsObjects o.0 old) (sym p.after) (objects_same o.0 old _ refl refl refl)
put_keeps_objects o old new told puts.KeptFull p = subst (KeepsObjects o.0 old) (sym p.after) (objects_same o.0 old old refl refl refl)

put_keeps_versions : (q : ProgId) (old new : Live) (told : Option Bytes) (a : PutOut) → IsPut (owners.Program q) old new told (Ok a) → KeepsVersions q.0 old new
put_keeps_versions q old new told puts.Out p = subst (KeepsVersions q.0 old) (sym p.after) (record {
  clock = refl;
  length_is = length-set old.versions q.0 _;
  versions = λ m d. ap (λ r. unwrap_or r None) (get_set old.versions q.0 m _ d);
})
put_keeps_versions q old new told puts.NotThere p = subst (KeepsVersions q.0 old) (sym p.1) (versions_same q.0 old old refl refl)
put_keeps_versions q old new told puts.Already p = subst (KeepsVersions q.0 old) (sym p.after) (versions_same q.0 old old refl refl)
put_keeps_versions q old new told puts.KeptFault p = subst (KeepsVersions q.0 old) (sym p.after) (versions_same q.0 old _ refl refl)
put_keeps_versions q old new told puts.KeptFull p = subst (KeepsVersions q.0 old) (sym p.after) (versions_same q.0 old old refl refl)

pub turn_keeps_objects : (b : Bool) (o : ObjId) (l l' : Live) (d d' : Device) (n n' : Idled) → IsTurn b (owners.Object o) l d n l' d' n' → KeepsObjects o.0 l l'
turn_keeps_objects true o l l' d d' n n' t = put_keeps_objects o l l' d'.told t.answer t.put
turn_keeps_objects false o l l' d d' n n' t = objects_same o.0 l l' (ap (λ x. x.clock) t.0) (ap (λ x. x.objects) t.0) (ap (λ x. x.versions) t.0)

pub turn_keeps_versions : (b : Bool) (q : ProgId) (l l' : Live) (d d' : Device) (n n' : Idled) → IsTurn b (owners.Program q) l d n l' d' n' → KeepsVersions q.0 l l'
turn_keeps_versions true q l l' d d' n n' t = put_keeps_versions q l l' d'.told t.answer t.put
turn_keeps_versions false q l l' d d' n n' t = versions_same q.0 l l' (ap (λ x. x.clock) t.0) (ap (λ x. x.versions) t.0)

pub turn_counts : (b : Bool) (who : Owner) (l l' : Live) (d d' : Device) (n n' : Idled) → IsTurn b who l d n l' d' n' → together n' ≤ together n + 1
turn_counts true who l l' d d' n n' t = let m = t.moved in omega (arith, m)
turn_counts false who l l' d d' n n' t = let m = ap together t.2 in omega (arith, m)

-- One after the other

pub one_turn : (b : Bool) (x : Owner) (xs : List Owner) (a l l' : Live) (d e e' : Device) (n k k' : Idled) → ArePut xs a d n l e k → IsTurn b x l e k l' e' k' → ArePut (xs ++ (if b then x ∷ [] else [])) a d n l' e' k'
one_turn true x [] a l l' d e e' n k k' p t =
    let one = subst (λ y. IsPutOne x a d y l' e' k') p.2 (subst (λ y. IsPutOne x a y k l' e' k') p.1 (subst (λ y. IsPutOne x y e k l' e' k') p.0 t)) in
    (l', e', k', one, (refl, refl, refl))
one_turn false x [] a l l' d e e' n k k' p t = (t.0 ∙ p.0, t.1 ∙ p.1, t.2 ∙ p.2)
one_turn b x (y ∷ ys) a l l' d e e' n k k' p t = (p.0, p.1, p.2, p.3, one_turn b x ys p.0 l l' p.1 e e' p.2 k k' p.4 t)

pub two_runs : (xs ys : List Owner) (a l m : Live) (d e f : Device) (n k j : Idled) → ArePut xs a d n l e k → ArePut ys l e k m f j → ArePut (xs ++ ys) a d n m f j
two_runs [] ys a l m d e f n k j p q = subst (λ y. ArePut ys a d y m f j) p.2 (subst (λ y. ArePut ys a y k m f j) p.1 (subst (λ y. ArePut ys y e k m f j) p.0 q))
two_runs (x ∷ xs) ys a l m d e f n k j p q = (p.0, p.1, p.2, p.3, two_runs xs ys p.0 l m p.1 e f p.2 k j p.4 q)

module _ {A : Type 0} (p : A → Bool) where
  either_more : (b : Bool) (x : A) (xs ys : List A) → (if b then x ∷ (xs ++ ys) else xs ++ ys) ≡ (if b then x ∷ xs else xs) ++ ys
  either_more true x xs ys = refl
  either_more false x xs ys = refl

  pub filter_more : (xs ys : List A) → filter p (xs ++ ys) ≡ filter p xs ++ filter p ys
  filter_more [] ys = refl
  filter_more (x ∷ xs) ys = ap (λ l. if p x then x ∷ l else l) (filter_more xs ys) ∙ either_more (p x) x (filter p xs) (filter p ys)

-- each of some counts
pub all_count : (xs : List Owner) (a l : Live) (d e : Device) (n k : Idled) → ArePut xs a d n l e k → together k ≡ together n + length xs
all_count [] a l d e n k p = let q = ap together p.2 in omega (arith, q)
all_count (x ∷ xs) a l d e n k p = let i = all_count xs p.0 l p.1 e p.2 k p.4 in let m = p.3.moved in omega (arith, i, m)

-- A turn of the loop over objects

pub next_put : (time n : ℕ) (start l l' : Live) (d e e' : Device) (k k' : Idled) → IsUntouched n start l → ArePut (filter (goes time start) (first_objects n)) start d none_yet l e k
    → IsTurn (goes time l (owners.Object (record { 0 = n }))) (owners.Object (record { 0 = n })) l e k l' e' k' → ArePut (filter (goes time start) (first_objects (n + 1))) start d none_yet l' e' k'
next_put time n start l l' d e e' k k' u p t =
    let same : goes time l (owners.Object (record { 0 = n })) ≡ goes time start (owners.Object (record { 0 = n })) =
    ap (λ c. is_idle_object time c (row_at l.objects n)) u.clock ∙ ap (is_idle_object time start.clock) (u.objects n (omega arith)) in
    let x : Owner = owners.Object (record { 0 = n }) in
    let next : suc n ≡ n + 1 = omega arith in
    subst (λ m. ArePut (filter (goes time start) (first_objects m)) start d none_yet l' e' k') next
    (subst (λ xs. ArePut xs start d none_yet l' e' k') (sym (filter_more (goes time start) (first_objects n) (x ∷ [])))
    (one_turn (goes time start x) x (filter (goes time start) (first_objects n)) start l l' d e e' none_yet k k' p (subst (λ b. IsTurn b x l e k l' e' k') same t)))

pub next_untouched : (b : Bool) (n : ℕ) (start l l' : Live) (d d' : Device) (k k' : Idled) → IsUntouched n start l → IsTurn b (owners.Object (record { 0 = n })) l d k l' d' k' → IsUntouched (n + 1) start l'
next_untouched b n start l l' d d' k k' u t =
    let h = turn_keeps_objects b (record { 0 = n }) l l' d d' k k' t in
    record {
      clock = h.clock ∙ u.clock;
      length_is = h.length_is ∙ u.length_is;
      objects = λ m a. h.objects m (λ e. omega (arith, a, e)) ∙ u.objects m (omega (arith, a));
      versions = h.versions ∙ u.versions;
    }

-- A turn of the loop over versions

pub next_put_version : (time n : ℕ) (start l l' : Live) (d e e' : Device) (j k k' : Idled) → AreUntouched n start l → ArePut (filter (goes time start) (first_versions n)) start d j l e k
    → IsTurn (goes time l (owners.Program (record { 0 = n }))) (owners.Program (record { 0 = n })) l e k l' e' k' → ArePut (filter (goes time start) (first_versions (n + 1))) start d j l' e' k'
next_put_version time n start l l' d e e' j k k' u p t =
    let same : goes time l (owners.Program (record { 0 = n })) ≡ goes time start (owners.Program (record { 0 = n })) =
    ap (λ c. is_idle_version time c (row_at l.versions n)) u.clock ∙ ap (is_idle_version time start.clock) (u.versions n (omega arith)) in
    let x : Owner = owners.Program (record { 0 = n }) in
    let next : suc n ≡ n + 1 = omega arith in
    subst (λ m. ArePut (filter (goes time start) (first_versions m)) start d j l' e' k') next
    (subst (λ xs. ArePut xs start d j l' e' k') (sym (filter_more (goes time start) (first_versions n) (x ∷ [])))
    (one_turn (goes time start x) x (filter (goes time start) (first_versions n)) start l l' d e e' j k k' p (subst (λ b. IsTurn b x l e k l' e' k') same t)))

pub next_versions_untouched : (b : Bool) (n : ℕ) (start l l' : Live) (d d' : Device) (k k' : Idled) → AreUntouched n start l → IsTurn b (owners.Program (record { 0 = n })) l d k l' d' k' → AreUntouched (n + 1) start l'
next_versions_untouched b n start l l' d d' k k' u t =
    let h = turn_keeps_versions b (record { 0 = n }) l l' d d' k k' t in
    record {
      clock = h.clock ∙ u.clock;
      length_is = h.length_is ∙ u.length_is;
      versions = λ m a. h.versions m (λ e. omega (arith, a, e)) ∙ u.versions m (omega (arith, a));
    }

-- Objects, and then versions

same_versions_go : (time : ℕ) (start mid : Live) (n : ℕ) → mid.clock ≡ start.clock → mid.versions ≡ start.versions → filter (goes time mid) (first_versions n) ≡ filter (goes time start) (first_versions n)
same_versions_go time start mid zero c v = refl
same_versions_go time start mid (suc n) c v =
    let x : Owner = owners.Program (record { 0 = n }) in
    let same : goes time mid x ≡ goes time start x = ap (λ k. is_idle_version time k (row_at mid.versions n)) c ∙ ap (λ l. is_idle_version time start.clock (row_at l n)) v in
    filter_more (goes time mid) (first_versions n) (x ∷ [])
    ∙ ap (λ l. l ++ filter (goes time mid) (x ∷ [])) (same_versions_go time start mid n c v)
    ∙ ap (λ b. filter (goes time start) (first_versions n) ++ (if b then x ∷ [] else [])) same
    ∙ sym (filter_more (goes time start) (first_versions n) (x ∷ []))

pub all_put : (time n : ℕ) (start mid end : Live) (d e f : Device) (k j : Idled) → IsUntouched n start mid
    → ArePut (filter (goes time start) (first_objects (length start.objects))) start d none_yet mid e k → ArePut (filter (goes time mid) (first_versions (length mid.versions))) mid e k end f j
    → ArePut (going time start) start d none_yet end f j
all_put time n start mid end d e f k j u p q =
    let versions : filter (goes time mid) (first_versions (length mid.versions)) ≡ filter (goes time start) (first_versions (length start.versions)) =
    ap (λ l. filter (goes time mid) (first_versions (length l))) u.versions ∙ same_versions_go time start mid (length start.versions) u.clock u.versions in
    subst (λ xs. ArePut xs start d none_yet end f j) (sym (filter_more (goes time start) (first_objects (length start.objects)) (first_versions (length start.versions))))
    (two_runs (filter (goes time start) (first_objects (length start.objects))) (filter (goes time start) (first_versions (length start.versions))) start mid end d e f none_yet k j p
    (subst (λ xs. ArePut xs mid e k end f j) versions q))

pub all_counted : (time : ℕ) (start end : Live) (d f : Device) (j : Idled) → ArePut (going time start) start d none_yet end f j → together j ≡ length (going time start)
all_counted time start end d f j p = let c = all_count (going time start) start end d f none_yet j p in omega (arith, c)
