-- What a player is told.
use Rattle.std.proofs.Common.{◌≡◌, ◌∙◌, ℕ, Bool, true, false, List, [], ◌∷◌, Option, Some, None, refl, ap, sym, codes, find, map, nat_eq, option_map, if◌then◌else◌}
use Rattle.lp_values.specs.declared.id.ObjId.{ObjId}
use Rattle.lp_events.specs.declared.out.Out.{Out}
use Rattle.lp_events.specs.declared.out.Out.TheVariants as outs
use Rattle.lp_code.specs.declared.program.RawProgram.{RawProgram}
use Rattle.lp_places.specs.Places.{is_object}
use Rattle.lp_swapfile.specs.Device.{Bytes}
use Rattle.lp_language.specs.World.{World}
use Rattle.lp_meaning.specs.EventTurns as turns
use Rattle.lp_meaning.specs.WorldSteps.{connection_of}
use Rattle.lp_world.specs.Stands as stands
use Rattle.lp_world.specs.Stands.{Stands}
use Rattle.lp_world.specs.declared.connections.Connection.{Connection}
use Rattle.lp_world.specs.declared.live.Live.{Live}
use Rattle.lp_records.specs.Records.{IsNoticeIn}

pub find_map : {A B : Type 0} (f : A → B) (p : B → Bool) (xs : List A) → find p (map f xs) ≡ option_map f (find (λ x. p (f x)) xs)
find_map f p [] = refl
find_map f p (x ∷ xs) = here (p (f x)) (find_map f p xs)
  where
    here : (b : Bool) → find p (map f xs) ≡ option_map f (find (λ x. p (f x)) xs) → (if b then Some (f x) else find p (map f xs)) ≡ option_map f (if b then Some x else find (λ x. p (f x)) xs)
    here true i = refl
    here false i = i

number_same : (o : Option Connection) → option_map (λ c. c.number) (option_map stands.connection_of o) ≡ option_map (λ c. c.number) o
number_same None = refl
number_same (Some c) = refl

-- the connection of an object, in each world for which the state stands
pub connection_in : (told : Option Bytes) (programs : List RawProgram) (live : Live) (w : World) (o : ObjId) → Stands told programs live w
    → connection_of w o ≡ option_map (λ c. c.number) (find (λ c. nat_eq c.object.0 o.0) live.connections.opened)
connection_in told programs live w o h =
    ap (λ cs. option_map (λ c. c.number) (find (λ c. is_object c.object o) cs)) (sym h.rest.connections)
    ∙ ap (option_map (λ c. c.number)) (find_map stands.connection_of (λ c. is_object c.object o) live.connections.opened)
    ∙ number_same (find (λ c. is_object c.object o) live.connections.opened)

told_to : Option ℕ → List Out
told_to None = []
told_to (Some k) = outs.Text k (codes "Your sensitive mind notices a wrongness in the fabric of space.\n") ∷ []

told_is : (w : World) (o : ObjId) (k : Option ℕ) → connection_of w o ≡ k → turns.notice w (Some o) ≡ told_to k
unfolding told_to
told_is w o k e = by (connection_of w o) ∙ ap told_to e
  where
    by : (q : Option ℕ) → (elim q [ Some k ↦ outs.Text k (codes "Your sensitive mind notices a wrongness in the fabric of space.\n") ∷ [] | None ↦ [] ]) ≡ told_to q
    by None = refl
    by (Some k) = refl

-- a player who has a connection is told
pub player_told : (live : Live) (o : ObjId) (k : ℕ) (text : List ℕ) → option_map (λ c. c.number) (find (λ c. nat_eq c.object.0 o.0) live.connections.opened) ≡ Some k
    → text ≡ codes "Your sensitive mind notices a wrongness in the fabric of space.\n" → IsNoticeIn live (Some o) (Some (outs.Text k text))
unfolding told_to
player_told live o k text f e told programs w h = ap (λ t. outs.Text k t ∷ []) e ∙ sym (told_is w o (Some k) (connection_in told programs live w o h ∙ f))

-- one who has none is not
pub player_gone : (live : Live) (o : ObjId) → option_map (λ c. c.number) (find (λ c. nat_eq c.object.0 o.0) live.connections.opened) ≡ None → IsNoticeIn live (Some o) None
unfolding told_to
player_gone live o f told programs w h = sym (told_is w o None (connection_in told programs live w o h ∙ f))
