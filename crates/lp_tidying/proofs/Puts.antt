-- What goes out changes no output, and the world stays.
use Rattle.std.proofs.Common.{◌≡◌, ◌∙◌, ℕ, List, [], ◌∷◌, Option, Result, Ok, Err, IfOk, refl, ap, inl, subst, sym}
use Rattle.std.specs.Prelude.{OnOk}
use Rattle.std.specs.declared.alloc.AllocError.{AllocError}
use Rattle.lp_values.specs.declared.id.ObjId.{ObjId}
use Rattle.lp_values.specs.declared.id.ProgId.{ProgId}
use Rattle.lp_code.specs.declared.program.RawProgram.{RawProgram}
use Rattle.lp_swapfile.specs.Device.{Bytes, IsTold}
use Rattle.lp_swapper.specs.declared.ticket.Ticket.{Ticket}
use Rattle.lp_language.specs.World.{World}
use Rattle.lp_objects.specs.Objects.{Named, object_named}
use Rattle.lp_objects.specs.Stands as names
use Rattle.lp_world.specs.Stands.{Stands}
use Rattle.lp_world.specs.declared.live.Live.{Live}
use Rattle.lp_targets.specs.Callees.{IsWorldOf}
use Rattle.lp_residence.specs.Idling.{ArePut, Device, none_yet}
use Rattle.lp_residence.specs.Owners.{gone}
use Rattle.lp_residence.specs.Puts.{IsPut}
use Rattle.lp_residence.specs.declared.answers.Idled.{Idled}
use Rattle.lp_residence.specs.declared.answers.PutOut.{PutOut}
use Rattle.lp_residence.specs.declared.answers.PutOut.TheVariants as puts
use Rattle.lp_residence.specs.declared.owner.Owner.{Owner}
use Rattle.lp_residence.specs.declared.owner.Owner.TheVariants as owners
use Rattle.lp_tidying.specs.Putting.{AreIdlePut, ArePutOut, ArePutWhereTold, IsPutOut, named_owners, version_owners}

gone_outputs : (who : Owner) (l : Live) (t : Ticket) → (gone l who t).outputs ≡ l.outputs
gone_outputs (owners.Object o) l t = refl
gone_outputs (owners.Program p) l t = refl

pub put_outputs : (who : Owner) (old new : Live) (told : Option Bytes) (a : Result PutOut AllocError) → IsPut who old new told a → new.outputs ≡ old.outputs
put_outputs who old new told (Ok puts.Out) h = ap (λ (l : Live). l.outputs) h.after ∙ gone_outputs who old h.ticket
put_outputs who old new told (Ok puts.NotThere) h = ap (λ (l : Live). l.outputs) h.1
put_outputs who old new told (Ok puts.Already) h = ap (λ (l : Live). l.outputs) h.after
put_outputs who old new told (Ok puts.KeptFault) h = ap (λ (l : Live). l.outputs) h.after
put_outputs who old new told (Ok puts.KeptFull) h = ap (λ (l : Live). l.outputs) h.after
put_outputs who old new told (Err e) h = ap (λ (l : Live). l.outputs) h

pub idle_outputs : (os : List Owner) (l : Live) (d : Device) (n : Idled) (l' : Live) (d' : Device) (n' : Idled) → ArePut os l d n l' d' n' → l'.outputs ≡ l.outputs
idle_outputs [] l d n l' d' n' p = ap (λ (x : Live). x.outputs) p.0
idle_outputs (x ∷ os) l d n l' d' n' p = idle_outputs os p.0 p.1 p.2 l' d' n' p.4 ∙ put_outputs x l p.0 p.1.told (Ok p.3.answer) p.3.put

-- the world is the same where the state stands for the same one
pub same_world : (told0 told1 : Option Bytes) (live0 live1 : Live) → ((programs : List RawProgram) (w : World) → Stands told0 programs live0 w → Stands told1 programs live1 w)
    → (programs : List RawProgram) (w : World) → IsWorldOf told0 programs live0 w → IsWorldOf told1 programs live1 w
same_world told0 told1 live0 live1 f programs w h = record { stands = f programs w h.stands; compiled = h.compiled; shadows = h.shadows }

-- one goes, and nothing else
pub one_put : (who : Owner) (l : Live) (d : Device) (n : Idled) (l' : Live) (d' : Device) (n' : Idled) → IsPutOut who l d n l' d' n' → ArePutOut (who ∷ []) l d n l' d' n'
one_put who l d n l' d' n' h = (l', d', n', h, (refl, refl, refl))

-- Step by step, where all went well.
pub one_ok : {E : Type 0} (r : Result Idled E) (who : Owner) (l : Live) (d : Device) (n : Idled) (l' : Live) (d' : Device) → IfOk r (IsPutOut who l d n l' d') → IfOk r (ArePutOut (who ∷ []) l d n l' d')
one_ok (Ok k) who l d n l' d' h = one_put who l d n l' d' k h
one_ok (Err e) who l d n l' d' h = tt

pub both_ok : {E : Type 0} (r : Result Idled E) (o : ObjId) (v w : Option ProgId) (l : Live) (d : Device) (n : Idled) (m : Live) (e : Device) (k : Idled) (l' : Live) (d' : Device) → v ≡ w → IsPutOut (owners.Object o) l d n m e k
    → IfOk r (ArePutOut (version_owners v) m e k l' d') → IfOk r (ArePutOut (owners.Object o ∷ version_owners w) l d n l' d')
both_ok (Ok x) o v w l d n m e k l' d' q p h = (m, e, k, p, subst (λ y. ArePutOut (version_owners y) m e k l' d' x) q h)
both_ok (Err f) o v w l d n m e k l' d' q p h = tt

-- What a name names.
pub named_put : (name : List ℕ) (found : Option ObjId) (os : List Owner) (l : Live) (d : Device) (l' : Live) (d' : Device) (n : Idled) → IsTold d.told → named_owners l found ≡ os → ((objects : List Named) → names.Stands l.names objects → found ≡ object_named objects name)
    → ArePutOut os l d none_yet l' d' n → (objects : List Named) → names.Stands l.names objects → ArePutWhereTold (named_owners l (object_named objects name)) l d l' d' n
named_put name found os l d l' d' n told q f h objects s =
    let e : os ≡ named_owners l (object_named objects name) = sym q ∙ ap (named_owners l) (f objects s) in
    inl (told, subst (λ xs. ArePutOut xs l d none_yet l' d' n) e h)

pub named_ok : {E : Type 0} (r : Result Idled E) (name : List ℕ) (found : Option ObjId) (os : List Owner) (l : Live) (d : Device) (l' : Live) (d' : Device) → IsTold d.told → named_owners l found ≡ os → ((objects : List Named) → names.Stands l.names objects → found ≡ object_named objects name)
    → IfOk r (ArePutOut os l d none_yet l' d') → IfOk r (λ n. (objects : List Named) → names.Stands l.names objects → ArePutWhereTold (named_owners l (object_named objects name)) l d l' d' n)
named_ok (Ok n) name found os l d l' d' told q f h = named_put name found os l d l' d' n told q f h
named_ok (Err e) name found os l d l' d' told q f h = tt

-- What was idle.
pub idle_ok : {E : Type 0} (r : Result Idled E) (os : List Owner) (l : Live) (d : Device) (l' : Live) (d' : Device) → IsTold d.told → IfOk r (λ k. ArePut os l d none_yet l' d' k) → IfOk r (AreIdlePut os l d l' d')
idle_ok (Ok k) os l d l' d' t h = inl (t, h)
idle_ok (Err e) os l d l' d' t h = tt

pub idle_outputs_ok : {E : Type 0} (r : Result Idled E) (os : List Owner) (l : Live) (d : Device) (l' : Live) (d' : Device) → IfOk r (λ k. ArePut os l d none_yet l' d' k) → OnOk r (l'.outputs ≡ l.outputs)
idle_outputs_ok (Ok k) os l d l' d' h = idle_outputs os l d none_yet l' d' k h
idle_outputs_ok (Err e) os l d l' d' h = tt
