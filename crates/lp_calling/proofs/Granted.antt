-- What is done once the master gave leave.
use Rattle.std.proofs.Common.{◌≡◌, ◌∙◌, ◌+◌, ◌<◌, ◌≤◌, ◌++◌, ◌∷◌, [], ℕ, pos, Bool, true, false, ◌&&◌, not, List, Option, All, refl, ap, sym, subst, arith, length, length-append, take, if◌then◌else◌}
use Rattle.std.proofs.lemmas.List.{length-take-le, take_at}
use Rattle.std.proofs.lemmas.List.Elements.{All-cons, All-weaker}
use Rattle.lp_values.specs.declared.id.ObjId.{ObjId}
use Rattle.lp_values.specs.declared.value.Value.{Value}
use Rattle.lp_values.specs.declared.value.Value.TheVariants as values
use Rattle.lp_code.specs.declared.program.RawProgram.{RawProgram}
use Rattle.lp_swapfile.specs.Device.{Bytes}
use Rattle.lp_instr.specs.declared.efun.Efun.{Efun}
use Rattle.lp_places.specs.Places.{Shadowing}
use Rattle.lp_language.specs.World.{World, is_live}
use Rattle.lp_language.specs.Course.{Asks, Course, Gives, Over, State, Stops, and_then, gives, zero_value}
use Rattle.lp_meaning.specs.Askers.{Asker}
use Rattle.lp_meaning.specs.CallingEfuns.{may_begin, one_value, with_shadow}
use Rattle.lp_world.specs.Stands.{Stands}
use Rattle.lp_world.specs.declared.live.Live.{Live}
use Rattle.lp_efuns.specs.declared.caller.Turn.{Turn}
use Rattle.lp_efuns.specs.Turns.{At, Setting}
use Rattle.lp_filing.specs.Filing.{Comes, EndsWith, Follows, Shows}
use Rattle.lp_filing.specs.declared.outcome.Outcome.TheVariants as outcomes
use Rattle.lp_shadows.specs.Shadows.{shadowed_if}
use Rattle.lp_settling.specs.Settling.{Settles}
use Rattle.lp_settling.proofs.Still.{still}
use Rattle.lp_calling.specs.declared.job.Stage.{Stage}
use Rattle.lp_calling.specs.declared.job.Stage.TheVariants as stages
use Rattle.lp_calling.specs.Beginning.{Settled}
use Rattle.lp_calling.specs.Entering.{Enters}
use Rattle.lp_calling.specs.Jobs.{ended, stage_course}
use Rattle.lp_calling.specs.Leave.{shadow_deed}

-- From a state a course gives this value, in a state of which something holds.
abbrev pub Arrives : (State → Course Value) → State → Value → (State → Type 0) → Type 0
Arrives go s v P = (t : State) × P t × (go s ≡ gives v t)

-- so a stage comes to its value
pub value_enters : (e : Efun) (stage : Stage) (go : State → Course Value) (below : ℕ) (live0 live1 : Live) (turn : Turn) (stack0 stack1 : List Value) (v : Value)
    → ((own : List Value) (by : Asker) (s : State) → stage_course e stage own by s ≡ and_then (go s) (ended e))
    → ((g : Setting) (b : ℕ) (s : State) → At g live0 turn b s → Arrives go s v (Settled s.world g live1 turn b))
    → stack1 ≡ take below stack0 ++ v ∷ [] → Enters e stage below live0 turn stack0 stages.Value live1 turn stack1
value_enters e stage go below live0 live1 turn stack0 stack1 v c f t low own q k = record {
  own = v ∷ [];
  stack = t ∙ ap (λ s. s ++ v ∷ []) (ap (take below) q ∙ take_at low own below k);
  course = λ g b by s h. let i = f g b s h in (i.0, i.1, c own by s ∙ ap (λ x. and_then x (ended e)) i.2);
}

-- so it finds its value on the stack
pub value_on : (stack0 stack1 : List Value) (low : ℕ) (v : Value) → low ≤ length stack0 → stack1 ≡ take low stack0 ++ v ∷ [] → low < length stack1
value_on stack0 stack1 low v le e =
    let front : length (take low stack0) ≡ low = length-take-le low stack0 le in
    let size : length stack1 ≡ length (take low stack0) + length (v ∷ []) = ap length e ∙ length-append (take low stack0) (v ∷ []) in
    omega arith

-- Files

-- what is seen of files
pub shows_comes : (of : World → Value) (live : Live) (v : Value) → Shows of live v → Comes (λ s. gives (of s.world) s) live (outcomes.Value v) live
shows_comes of live v f told programs s h = (sym (f told programs s.world h), record { stands = h; rest = refl; versions = refl; shadows = refl; lives = λ o. refl })

-- the world afterwards settles
pub follows_settles : (told : Option Bytes) (programs : List RawProgram) (live : Live) (s t : State) → Follows told programs live s t → Settles s.world t.world
follows_settles told programs live s t f = record {
  versions = f.versions;
  shadows = λ a.
      subst (λ ss. All (λ (x : Shadowing). is_live t.world x.shadow ≡ true) ss) (sym f.shadows)
      (All-weaker (λ (x : Shadowing). is_live s.world x.shadow ≡ true) (λ (x : Shadowing). is_live t.world x.shadow ≡ true) (λ x l. f.lives x.shadow ∙ l) s.world.shadows a);
}

pub follows_at : (g : Setting) (live0 live1 : Live) (turn : Turn) (b : ℕ) (s t : State) → live1.outputs ≡ live0.outputs → At g live0 turn b s → Follows g.told g.programs live1 s t → At g live1 turn b t
follows_at g live0 live1 turn b s t o h f = record {
  stands = f.stands;
  left = ap (λ (x : State). x.budget) f.rest ∙ h.left;
  outputs = o ∙ h.outputs ∙ ap (λ (x : State). g.before ++ x.outputs) (sym f.rest);
  player = ap (λ (x : State). x.player) f.rest ∙ h.player;
  commands = ap (λ (x : State). x.commands) f.rest ∙ h.commands;
}

pub comes_arrives : (go : State → Course Value) (live0 live1 : Live) (v : Value) (g : Setting) (turn : Turn) (b : ℕ) (s : State) → Comes go live0 (outcomes.Value v) live1 → live1.outputs ≡ live0.outputs → At g live0 turn b s
    → Arrives go s v (Settled s.world g live1 turn b)
comes_arrives go live0 live1 v g turn b s c o h = by (go s) (c g.told g.programs s h.stands)
  where
    by : (k : Course Value) → EndsWith (outcomes.Value v) (Follows g.told g.programs live1 s) k → (t : State) × Settled s.world g live1 turn b t × (k ≡ gives v t)
    by (Over (Gives w t)) i = (t, record { at = follows_at g live0 live1 turn b s t o h i.1; settles = follows_settles g.told g.programs live1 s t i.1 }, ap (λ x. gives x t) i.0)
    by (Over (Stops x t)) i = absurd i
    by (Asks q k) i = absurd i

-- Shadows

first_true : (a b : Bool) → (a && b) ≡ true → a ≡ true
first_true true b e = refl
first_true false b e = cc

-- what begins to shadow lives
begun_lives : (w : World) (this o : ObjId) → may_begin w this o ≡ true → is_live w this ≡ true
begun_lives w this o e = first_true (is_live w this) (is_live w o) (first_true (is_live w this && is_live w o) _ e)

pub shadow_arrives : (this o : ObjId) (live0 live1 : Live) (b : Bool) (v : Value) (g : Setting) (turn : Turn) (n : ℕ) (s : State) → v ≡ values.Int (pos (if b then 1 else 0))
    → ((told : Option Bytes) (programs : List RawProgram) (w : World) → Stands told programs live0 w → (b ≡ may_begin w this o) × Stands told programs live1 (shadowed_if b w this o))
    → live1.outputs ≡ live0.outputs → At g live0 turn n s → Arrives (shadow_deed this o) s v (Settled s.world g live1 turn n)
shadow_arrives this o live0 live1 b v g turn n s e f out h = let i = f g.told g.programs s.world h.stands in by b e i.0 i.1
  where
    by : (b : Bool) → v ≡ values.Int (pos (if b then 1 else 0)) → b ≡ may_begin s.world this o → Stands g.told g.programs live1 (shadowed_if b s.world this o) → Arrives (shadow_deed this o) s v (Settled s.world g live1 turn n)
    by true e r st =
        let t : State = record s { world = with_shadow s.world this o } in (
          t,
          record {
            at = record { stands = st; left = h.left; outputs = out ∙ h.outputs; player = h.player; commands = h.commands };
            settles = record {
              versions = refl;
              shadows = λ a. All-cons (λ (x : Shadowing). is_live s.world x.shadow ≡ true) (record { shadow = this; victim = o }) s.world.shadows (begun_lives s.world this o (sym r)) a;
            };
          },
          ap (λ x. if not x then gives zero_value s else gives one_value t) (sym r) ∙ ap (λ x. gives x t) (sym e),
        )
    by false e r st = (
      s,
      record { at = record { stands = st; left = h.left; outputs = out ∙ h.outputs; player = h.player; commands = h.commands }; settles = still s.world },
      ap (λ x. if not x then gives zero_value s else gives one_value (record s { world = with_shadow s.world this o })) (sym r) ∙ ap (λ x. gives x s) (sym e),
    )
