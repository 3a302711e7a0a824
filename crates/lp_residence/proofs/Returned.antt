-- What came back of a program: the state stands for the same worlds, and is closed.
use Rattle.std.proofs.Common.{◌≡◌, ◌∙◌, ◌++◌, ◌<◌, ℕ, zero, suc, List, [], ◌∷◌, Option, Some, None, All, refl, ap, sym, subst, inl, inr, slice_get, unwrap_or, length, length-append, arith, drop, map, option_map, option_to_list}
use Rattle.std.specs.Prelude.{slice_set}
use Rattle.std.specs.List.{flat_map}
use Rattle.std.proofs.lemmas.List.Elements.{All-head, All-tail, All-weaker}
use Rattle.lp_values.specs.declared.id.ProgId.{ProgId}
use Rattle.lp_code.specs.declared.program.RawProgram.{RawProgram}
use Rattle.lp_code.specs.declared.tables.Slot.{Slot}
use Rattle.lp_instr.specs.declared.instr.Instr.TheVariants.{CallFixed}
use Rattle.lp_encoding.specs.Programs.{IsEncoding, IsPrefixFree}
use Rattle.lp_swapfile.specs.Device.{Bytes}
use Rattle.lp_swapfile.specs.Room.{AreTaken, IsTaken, covers}
use Rattle.lp_swapfile.specs.declared.extent.Extent.{Extent}
use Rattle.lp_swapfile.proofs.TakenLemmas.{covers-append}
use Rattle.lp_swapper.specs.Swap.{IsOutAt, extent_of}
use Rattle.lp_swapper.specs.declared.ticket.Ticket.{Ticket}
use Rattle.lp_language.specs.World.{World}
use Rattle.lp_world.specs.Closed.{IsClosed, IsFunctionThere, IsProgramClosed, IsSlotClosed, extents_of, object_extents, version_extents}
use Rattle.lp_world.specs.Rows.{program_ticket, row_at, version_state, version_with_state}
use Rattle.lp_world.specs.Stands.{IsOutline, ProgramIs, Stands}
use Rattle.lp_world.specs.Targets.{IsAmong, IsAnswerAmong, answer_at}
use Rattle.lp_world.specs.declared.live.Live.{Live}
use Rattle.lp_world.specs.declared.versions.ProgramState.{ProgramState}
use Rattle.lp_world.specs.declared.versions.ProgramState.TheVariants as programs_of
use Rattle.lp_world.specs.declared.versions.Version.{Version}
use Rattle.lp_residence.specs.Entering.{AreTakenWithout, CanGiveBack, IsProgramOf, room_back, version_back}
use Rattle.lp_residence.specs.Owners.{program_image, ticket_of_version}
use Rattle.lp_residence.specs.Programs.{IsCallThere, IsSlotAmong, functions_in}
use Rattle.lp_residence.proofs.Counting.{row_counts}
use Rattle.lp_residence.proofs.Entered.{fewer_taken}
use Rattle.lp_residence.proofs.RowChanges.{row_there}
use Rattle.lp_residence.proofs.VersionChanges.{closed_with_version, stands_with_version}
use Rattle.lp_residence.proofs.WentOutLemmas.{stands_in_room}

-- A program that fits is closed

some_functions : (o : Option Version) (fun : ℕ) → fun < functions_in o → (v : Version) × (o ≡ Some v) × (fun < v.outline.functions)
some_functions None fun l = absurd (omega (arith, l))
some_functions (Some v) fun l = (v, refl, l)

listed_at : (versions : List (Option Version)) (parts : List ProgId) (part n : ℕ) → slice_get (map (λ (p : ProgId). functions_in (row_at versions p.0)) parts) part ≡ Some n → (p : ProgId) × (slice_get parts part ≡ Some p) × (functions_in (row_at versions p.0) ≡ n)
listed_at versions [] part n e = cc
listed_at versions (p ∷ ps) zero n e = (p, refl, ap (λ o. unwrap_or o n) e)
listed_at versions (p ∷ ps) (suc part) n e = listed_at versions ps part n e

function_is_there : (versions : List (Option Version)) (parts : List ProgId) (part fun : ℕ) → IsAmong (map (λ (p : ProgId). functions_in (row_at versions p.0)) parts) part fun → IsFunctionThere versions parts part fun
function_is_there versions parts part fun h =
    let l = listed_at versions parts part h.count h.listed in
    let v = some_functions (row_at versions l.0.0) fun (subst (λ n. fun < n) (sym l.2) h.row) in
    record { number = l.0; listed = l.1; version = v.0; there = v.1; row = v.2 }

slot_is_closed : (versions : List (Option Version)) (parts : List ProgId) (s : Slot) → IsSlotAmong (map (λ (p : ProgId). functions_in (row_at versions p.0)) parts) s → IsSlotClosed versions parts s
slot_is_closed versions parts s (inl e) = inl e
slot_is_closed versions parts s (inr h) = inr (function_is_there versions parts s.part s.fun h)

all_at : {A : Type 0} (P : A → Type 0) (xs : List A) (n : ℕ) (x : A) → All P xs → slice_get xs n ≡ Some x → P x
all_at P [] n x h e = cc
all_at P (y ∷ ys) zero x h e = subst P (ap (λ o. unwrap_or o x) e) (All-head P y ys h)
all_at P (y ∷ ys) (suc n) x h e = all_at P ys n x (All-tail P y ys h) e

pub fitting_is_closed : (versions : List (Option Version)) (v : Version) (p : RawProgram) (counts : List ℕ) → IsOutline p v.outline
    → All (IsCallThere versions p.tables.parents) p.instrs → counts ≡ map (λ (p : ProgId). functions_in (row_at versions p.0)) p.tables.parts
    → All (IsSlotAmong counts) p.tables.slots → ((n k : ℕ) → IsAnswerAmong counts (answer_at v.targets n k)) → IsProgramClosed versions v p
fitting_is_closed versions v p counts o calls e slots targets = record {
  outline = o;
  slots = All-weaker (IsSlotAmong counts) (IsSlotClosed versions p.tables.parts) (λ s h. slot_is_closed versions p.tables.parts s (subst (λ c. IsSlotAmong c s) e h)) p.tables.slots slots;
  rows = λ at parent slot n g. all_at (IsCallThere versions p.tables.parents) p.instrs at (CallFixed parent slot n) calls g parent slot n refl;
  targets = λ part slot f g. function_is_there versions p.tables.parts f.part f.fun (subst (λ c. IsAmong c f.part f.fun) e (subst (IsAnswerAmong counts) g (targets part slot)));
}

-- The image of a program is that of one.
pub program_of_image : (p : RawProgram) (encoding : List ℕ) (bytes : List ℕ) → IsPrefixFree → IsEncoding p encoding → bytes ≡ program_image encoding → IsProgramOf bytes p
program_of_image p encoding bytes free h e q other g spelled = (free p q encoding other [] [] h g (same_end encoding other (sym e ∙ spelled))).0
  where
    same_end : (xs ys : List ℕ) → program_image xs ≡ program_image ys → xs ++ [] ≡ ys ++ []
    same_end xs ys s = ap (λ l. l ++ []) (ap (λ l. drop 4 l) s)

-- Rows

out_version : (o : Option Version) (t : Ticket) → ticket_of_version (version_state o) ≡ Some t → (v : Version) × (o ≡ Some v) × (program_ticket v.state ≡ Some t)
out_version None t e = cc
out_version (Some v) t e = (v, refl, e)

without_version : (live : Live) (n : ℕ) (v : Version) (new : Option Version) (t : Ticket) → IsClosed live → slice_get live.versions n ≡ Some (Some v) → program_ticket v.state ≡ Some t → version_extents new ≡ []
    → AreTaken (extent_of t ∷ extents_of live.objects (slice_set live.versions n new)) live.swapper
without_version live n v new t h e r is =
    let was : version_extents (Some v) ≡ extent_of t ∷ [] = ap (λ k. option_to_list (option_map extent_of k)) r in
    fewer_taken (extents_of live.objects live.versions) (extents_of live.objects (slice_set live.versions n new)) live.swapper t
    (let a = row_counts version_extents length length-append live.versions n (Some v) new e in
    let y = ap (λ l. length l) was in
    let z = ap (λ l. length l) is in
    let p = length-append (flat_map object_extents live.objects) (flat_map version_extents live.versions) in
    let q = length-append (flat_map object_extents live.objects) (flat_map version_extents (slice_set live.versions n new)) in
    omega (arith, a, y, z, p, q))
    (λ i.
    let a = row_counts version_extents (covers i) (covers-append i) live.versions n (Some v) new e in
    let y = ap (covers i) was in
    let z = ap (covers i) is in
    let p = covers-append i (flat_map object_extents live.objects) (flat_map version_extents live.versions) in
    let q = covers-append i (flat_map object_extents live.objects) (flat_map version_extents (slice_set live.versions n new)) in
    omega (arith, a, y, z, p, q))
    h.room

pub version_can_give_back : (live : Live) (p : ProgId) → IsClosed live → ((ds es : List Extent) (e : Extent) → AreTaken (ds ++ e ∷ es) live.swapper → IsTaken e live.swapper)
    → CanGiveBack (ticket_of_version (version_state (row_at live.versions p.0))) live.swapper
version_can_give_back live p h law = from (ticket_of_version (version_state (row_at live.versions p.0))) refl
  where
    from : (k : Option Ticket) → ticket_of_version (version_state (row_at live.versions p.0)) ≡ k → CanGiveBack k live.swapper
    from None e = tt
    from (Some t) e =
        let r = out_version (row_at live.versions p.0) t e in
        law [] _ (extent_of t) (without_version live p.0 r.0 None t h (row_there live.versions p.0 r.0 r.1) r.2 refl)

abbrev held : ProgramState → RawProgram → RawProgram
held (programs_of.Resident z) d = z
held (programs_of.Swapped u) d = d

resident_one : (x y : RawProgram) → programs_of.Resident x ≡ programs_of.Resident y → x ≡ y
resident_one x y s = ap (λ k. held k x) s

-- a version whose program is in memory again
abbrev back_version : Version → RawProgram → Version
back_version v raw = record v { state = programs_of.Resident raw }

out_program : (told : Option Bytes) (q : RawProgram) (s : ProgramState) (t : Ticket) (raw : RawProgram) → program_ticket s ≡ Some t → ProgramIs told q s → ((was : List ℕ) → IsOutAt told t was → IsProgramOf was raw) → raw ≡ q
out_program told q (programs_of.Resident x) t raw e h f = cc
out_program told q (programs_of.Swapped u) t raw e h f =
    f (program_image h.bytes) (subst (λ x. IsOutAt told x (program_image h.bytes)) (ap (λ y. unwrap_or y u) e) h.out) q h.bytes h.encoding refl

pub stands_returned : (told : Option Bytes) (programs : List RawProgram) (live : Live) (w : World) (p : ProgId) (raw : RawProgram) (t : Ticket)
    → ticket_of_version (version_state (row_at live.versions p.0)) ≡ Some t → ((was : List ℕ) → IsOutAt told t was → IsProgramOf was raw)
    → Stands told programs live w → Stands told programs (version_back live p raw t) w
stands_returned told programs live w p raw t e is h =
    let r = out_version (row_at live.versions p.0) t e in
    let there = row_there live.versions p.0 r.0 r.1 in
    let was = h.versions.each p.0 r.0 there in
    stands_in_room told programs (record live { versions = slice_set live.versions p.0 (version_with_state (row_at live.versions p.0) (programs_of.Resident raw)) }) w (room_back (Some t) live.swapper)
    (subst (λ x. Stands told programs (record live { versions = slice_set live.versions p.0 (version_with_state x (programs_of.Resident raw)) }) w) (sym r.1)
    (stands_with_version told programs live w p.0 r.0 (back_version r.0 raw) h there (record {
      version = was.version;
      there = was.there;
      path = was.path;
      latest = was.latest;
      parents = was.parents;
      program = was.program;
      is = was.is;
      outline = was.outline;
      state = out_program told was.program r.0.state t raw r.2 was.state is;
      targets = was.targets;
    })))

pub closed_returned : (live : Live) (p : ProgId) (raw : RawProgram) (t : Ticket)
    → IsClosed live → ticket_of_version (version_state (row_at live.versions p.0)) ≡ Some t
    → ((v : Version) → row_at live.versions p.0 ≡ Some v → IsProgramClosed live.versions v raw) → AreTakenWithout (Some t) live.swapper (room_back (Some t) live.swapper)
    → IsClosed (version_back live p raw t)
closed_returned live p raw t c e fits taken =
    let r = out_version (row_at live.versions p.0) t e in
    let there = row_there live.versions p.0 r.0 r.1 in
    let was = c.versions p.0 r.0 there in
    let fit = fits r.0 r.1 in
    subst (λ x. IsClosed (record live { versions = slice_set live.versions p.0 (version_with_state x (programs_of.Resident raw)); swapper = room_back (Some t) live.swapper })) (sym r.1)
    (closed_with_version live p.0 r.0 (back_version r.0 raw) (room_back (Some t) live.swapper) c there refl (record {
      lower = was.lower;
      parents = was.parents;
      parts = was.parts;
      variables = was.variables;
      program = λ q s. let same : raw ≡ q = resident_one raw q s in subst (IsProgramClosed live.versions (back_version r.0 raw)) same (record { outline = fit.outline; slots = fit.slots; rows = fit.rows; targets = fit.targets });
    }) (taken _ (without_version live p.0 r.0 (Some (back_version r.0 raw)) t c there r.2 refl)))

-- what went out for a version that is out
pub version_bytes : (told : Option Bytes) (programs : List RawProgram) (live : Live) (w : World) (p : ProgId) (t : Ticket)
    → Stands told programs live w → ticket_of_version (version_state (row_at live.versions p.0)) ≡ Some t → (was : List ℕ) × IsOutAt told t was
version_bytes told programs live w p t h e =
    let r = out_version (row_at live.versions p.0) t e in
    let was = h.versions.each p.0 r.0 (row_there live.versions p.0 r.0 r.1) in
    bytes_of was.program r.0.state r.2 was.state
  where
    bytes_of : (q : RawProgram) (s : ProgramState) → program_ticket s ≡ Some t → ProgramIs told q s → (was : List ℕ) × IsOutAt told t was
    bytes_of q (programs_of.Resident x) e h = cc
    bytes_of q (programs_of.Swapped u) e h = (program_image h.bytes, subst (λ x. IsOutAt told x (program_image h.bytes)) (ap (λ y. unwrap_or y u) e) h.out)

-- the ticket that there is
pub one_ticket : (k : Option Ticket) → (k ≡ None → ⊥) → (t : Ticket) × (k ≡ Some t)
one_ticket None n = absurd (n refl)
one_ticket (Some t) n = (t, refl)
