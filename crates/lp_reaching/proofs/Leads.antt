-- Where questions lead, and what is reached then.
use Rattle.std.proofs.Common.{◌≡◌, ◌∙◌, ◌<◌, ◌++◌, ℕ, List, Option, Some, None, IsSome, Result, Ok, Err, IfOk, OnOk, refl, ap, sym, subst, length, slice_get, append-nil}
use Rattle.std.specs.Prelude.{reverse}
use Rattle.std.specs.Option.{option_to_list}
use Rattle.lp_values.specs.declared.id.ObjId.{ObjId}
use Rattle.lp_code.specs.declared.program.RawProgram.{RawProgram}
use Rattle.lp_code.specs.Programs.{code_of}
use Rattle.lp_instr.specs.Code.{parent_row}
use Rattle.lp_swapfile.specs.Device.{Bytes}
use Rattle.lp_language.specs.World.{World}
use Rattle.lp_language.specs.Course.{Ask, Scene}
use Rattle.lp_language.specs.Resolve.{Found, Target, heritage_of, internal, internal_from, of_parent, of_parent_from, parents_of, part_at, target_here}
use Rattle.lp_language.proofs.Kept.{keeps_same}
use Rattle.lp_inherit.specs.Heirs.{tables}
use Rattle.lp_codegen_layout.specs.Laid.{row_names}
use Rattle.lp_meaning.specs.FunctionCalls.{calling, calling_if, calling_target, nothing_called}
use Rattle.lp_meaning.specs.Questions.{meaning_of, means}
use Rattle.lp_world.specs.Closed.{IsClosed}
use Rattle.lp_world.specs.declared.live.Live.{Live}
use Rattle.lp_world.specs.declared.objects.Object.{Object}
use Rattle.lp_world.specs.Rows.{row_at, variables_at, variables_in}
use Rattle.lp_world.specs.Stands.{Stands}
use Rattle.lp_residence.specs.declared.answers.EnterFault.{EnterFault}
use Rattle.lp_frames.specs.declared.entry.Callee.{Callee}
use Rattle.lp_part_laws.specs.Versions.{rows_of}
use Rattle.lp_part_laws.proofs.Lists.{one_value}
use Rattle.lp_asking.specs.declared.asker.Asker.{Asker}
use Rattle.lp_asking.specs.declared.question.Question.{Question}
use Rattle.lp_asking.specs.declared.question.Question.TheVariants as questions
use Rattle.lp_targets.specs.Brought.{program_at}
use Rattle.lp_targets.specs.Callees as now
use Rattle.lp_targets.specs.Callees.{IsAnswer, IsAtHome, IsTargetAnswer, IsWorldOf}
use Rattle.lp_targets.proofs.Memory.{program_row}
use Rattle.lp_targets.proofs.Shadows.{answer_here}
use Rattle.lp_reaching.specs.declared.reached.Reached.{Reached}
use Rattle.lp_reaching.specs.Compiled.{IsCallee}
use Rattle.lp_reaching.specs.Subjects.{OfFunction}
use Rattle.lp_reaching.specs.Leading.{CanLead, IsTargetThere, Leads}
use Rattle.lp_reaching.specs.Reaching.{AsksInside, IsInMemory, Reaches, ReachesIf}
use Rattle.lp_reaching.proofs.Callees.{callee_later, names_of_caller}

-- Where a question leads

-- who asks calls now
pub asks_now : (programs : List RawProgram) (asker : Asker) (this : ObjId) (part : ℕ) (code : RawProgram) (question : Question) (a : Ask) → AsksInside programs asker this part code question a → now.IsCaller programs a.world this part code
asks_now programs asker this part code question a h =
    subst (λ o. now.IsCaller programs a.world o part code) h.this_is (subst (λ n. now.IsCaller programs a.world h.scene.this n code) h.part_is (h.caller a.world (keeps_same a.world)))

pub called_here : (a : Ask) (o : ObjId) (callers : List ObjId) (x : Option Found) → calling_if a o callers x ≡ calling_target a callers (target_here o x)
called_here a o callers None = refl
called_here a o callers (Some f) = refl

there_here : (objects : List (Option Object)) (o : ObjId) (x : Option Found) → IsSome (row_at objects o.0) → IsTargetThere objects (target_here o x)
there_here objects o None h = tt
there_here objects o (Some f) h = h

pub leads_inside : (programs : List RawProgram) (objects : List (Option Object)) (asker : Asker) (this : ObjId) (part : ℕ) (code : RawProgram) (k : ℕ) (a : Ask) (callee : Option Callee)
    → AsksInside programs asker this part code (questions.Internal k) a → IsSome (row_at objects this.0)
    → ((name : List ℕ) → slice_get (row_names code.tables.slots) k ≡ Some name → IsAnswer programs a.world this callee (internal_from (heritage_of a.world this) (part_at (heritage_of a.world this) part) name))
    → Leads programs objects asker None a callee
leads_inside programs objects asker this part code k a callee h there answer =
    let name : List ℕ = h.what.0 in
    let found : Option Found = internal_from (heritage_of a.world this) (part_at (heritage_of a.world this) part) name in
    let asked : meaning_of a a.what ≡ Some (elim a.scene [ Some c ↦ calling_if a c.this c.callers (internal a.world c name) | None ↦ nothing_called a ]) = ap (meaning_of a) h.what.2 in
    record {
      target = target_here this found;
      callers = h.scene.callers;
      means_it =
          asked
          ∙ ap (λ (s : Option Scene). Some (elim s [ Some c ↦ calling_if a c.this c.callers (internal a.world c name) | None ↦ nothing_called a ])) h.scene_is
          ∙ ap (λ o. Some (calling_if a o h.scene.callers (internal_from (heritage_of a.world o) (part_at (heritage_of a.world o) h.scene.part) name))) h.this_is
          ∙ ap (λ n. Some (calling_if a this h.scene.callers (internal_from (heritage_of a.world this) (part_at (heritage_of a.world this) n) name))) h.part_is
          ∙ ap (λ x. Some x) (called_here a this h.scene.callers found);
      callers_are = h.callers ∙ ap reverse (sym (append-nil asker.callers.items));
      answer = answer_here programs a.world this callee found (answer name h.what.1);
      there = there_here objects this found there;
    }

pub leads_to_parent : (programs : List RawProgram) (objects : List (Option Object)) (asker : Asker) (this : ObjId) (part : ℕ) (code : RawProgram) (j k : ℕ) (a : Ask) (callee : Option Callee) (told : Option Bytes) (live : Live)
    → IsWorldOf told programs live a.world → AsksInside programs asker this part code (questions.Parent j k) a → IsSome (row_at objects this.0)
    → ((name : List ℕ) (who : now.IsCaller programs a.world this part code) → parent_row (code_of code (rows_of (tables (parents_of who.place.tree)))) j k ≡ Some name
    → IsAnswer programs a.world this callee (of_parent_from (part_at (heritage_of a.world this) part) j name))
    → Leads programs objects asker None a callee
leads_to_parent programs objects asker this part code j k a callee told live w h there answer =
    let name : List ℕ = h.what.0 in
    let found : Option Found = of_parent_from (part_at (heritage_of a.world this) part) j name in
    let who = asks_now programs asker this part code (questions.Parent j k) a h in
    let row : parent_row (code_of code (rows_of (tables (parents_of who.place.tree)))) j k ≡ Some name = ap (λ ns. parent_row (code_of code ns) j k) (names_of_caller programs told live a.world this part code w who) ∙ h.what.1 in
    let asked : meaning_of a a.what ≡ Some (elim a.scene [ Some c ↦ calling_if a c.this c.callers (of_parent a.world c j name) | None ↦ nothing_called a ]) = ap (meaning_of a) h.what.2 in
    record {
      target = target_here this found;
      callers = h.scene.callers;
      means_it =
          asked
          ∙ ap (λ (s : Option Scene). Some (elim s [ Some c ↦ calling_if a c.this c.callers (of_parent a.world c j name) | None ↦ nothing_called a ])) h.scene_is
          ∙ ap (λ o. Some (calling_if a o h.scene.callers (of_parent_from (part_at (heritage_of a.world o) h.scene.part) j name))) h.this_is
          ∙ ap (λ n. Some (calling_if a this h.scene.callers (of_parent_from (part_at (heritage_of a.world this) n) j name))) h.part_is
          ∙ ap (λ x. Some x) (called_here a this h.scene.callers found);
      callers_are = h.callers ∙ ap reverse (sym (append-nil asker.callers.items));
      answer = answer_here programs a.world this callee found (answer name who row);
      there = there_here objects this found there;
    }

-- the same of what a call answers

pub inside_if : (programs : List RawProgram) (objects : List (Option Object)) (asker : Asker) (this : ObjId) (part : ℕ) (code : RawProgram) (k : ℕ) (a : Ask) (r : Result (Option Callee) EnterFault)
    → AsksInside programs asker this part code (questions.Internal k) a → IsSome (row_at objects this.0)
    → ((name : List ℕ) → slice_get (row_names code.tables.slots) k ≡ Some name → IfOk r (λ o. IsAnswer programs a.world this o (internal_from (heritage_of a.world this) (part_at (heritage_of a.world this) part) name)))
    → IfOk r (λ o. Leads programs objects asker None a o)
inside_if programs objects asker this part code k a (Ok o) h there answer = leads_inside programs objects asker this part code k a o h there answer
inside_if programs objects asker this part code k a (Err e) h there answer = tt

pub to_parent_if : (programs : List RawProgram) (objects : List (Option Object)) (asker : Asker) (this : ObjId) (part : ℕ) (code : RawProgram) (j k : ℕ) (a : Ask) (r : Result (Option Callee) EnterFault) (told : Option Bytes) (live : Live)
    → IsWorldOf told programs live a.world → AsksInside programs asker this part code (questions.Parent j k) a → IsSome (row_at objects this.0)
    → ((name : List ℕ) (who : now.IsCaller programs a.world this part code) → parent_row (code_of code (rows_of (tables (parents_of who.place.tree)))) j k ≡ Some name
    → IfOk r (λ o. IsAnswer programs a.world this o (of_parent_from (part_at (heritage_of a.world this) part) j name)))
    → IfOk r (λ o. Leads programs objects asker None a o)
to_parent_if programs objects asker this part code j k a (Ok o) told live w h there answer = leads_to_parent programs objects asker this part code j k a o told live w h there answer
to_parent_if programs objects asker this part code j k a (Err e) told live w h there answer = tt

-- What is reached

-- What led to a callee is its target.
pub record IsAim (programs : List RawProgram) (objects : List (Option Object)) (asker : Asker) (caller : Option ObjId) (a : Ask) (callee : Callee) : Type 0 where
  pub target : Target
  pub callers : List ObjId
  pub means_it : means a ≡ Some (calling a target.object callers target.found)
  pub callers_are : callers ≡ reverse (asker.callers.items ++ option_to_list caller)
  pub callee_is : now.IsCallee programs a.world callee target.object target.found
  pub there : IsSome (row_at objects target.object.0)

pub aim_of : (programs : List RawProgram) (objects : List (Option Object)) (asker : Asker) (caller : Option ObjId) (a : Ask) (callee : Callee) → Leads programs objects asker caller a (Some callee) → IsAim programs objects asker caller a callee
aim_of programs objects asker caller a callee h = by h.target h.means_it h.answer h.there
  where
    by : (t : Option Target) → means a ≡ Some (calling_target a h.callers t) → IsTargetAnswer programs a.world (Some callee) t → IsTargetThere objects t → IsAim programs objects asker caller a callee
    by None m k i = absurd k
    by (Some t) m k i = record { target = t; callers = h.callers; means_it = m; callers_are = h.callers_are; callee_is = k; there = i }

-- the object of a callee is there
pub object_there : (told : Option Bytes) (live : Live) (caller : Option ObjId) (callee : Callee) → CanLead told live caller (Some callee) → IsSome (row_at live.objects callee.this.0)
object_there told live caller callee h =
    let t = aim_of h.programs live.objects h.asker caller h.ask callee h.leads in
    subst (λ (o : ObjId). IsSome (row_at live.objects o.0)) (sym t.callee_is.this) t.there

-- a function is reached
pub reaches : (told0 told1 : Option Bytes) (programs : List RawProgram) (old new : Live) (asker : Asker) (caller : Option ObjId) (a : Ask) (callee : Callee) (code : RawProgram) → IsClosed old → IsWorldOf told0 programs old a.world
    → Leads programs old.objects asker caller a (Some callee) → slice_get programs callee.program.0 ≡ Some code → IsWorldOf told1 programs new a.world → Reaches told1 programs new asker a (record { callee = callee; code = code; caller = caller })
reaches told0 told1 programs old new asker caller a callee code closed w h e after =
    let t = aim_of programs old.objects asker caller a callee h in
    let k = callee_later told0 programs old a.world callee t.target.object t.target.found w closed t.there t.callee_is in
    let here : IsCallee programs a.world callee callee.this (OfFunction t.target.found) = subst (λ o. IsCallee programs a.world callee o (OfFunction t.target.found)) (sym k.this) k in
    record {
      callers = t.callers;
      subject = OfFunction t.target.found;
      means_it = t.means_it ∙ ap (λ o. Some (calling a o t.callers t.target.found)) (sym k.this);
      callers_are = t.callers_are;
      callee = here;
      code = one_value (slice_get programs callee.program.0) here.code code here.is e;
      world = after;
    }

object_row : (objects : List (Option Object)) (o : ObjId) → IsSome (variables_at objects o) → IsSome (row_at objects o.0)
object_row objects o h = by (row_at objects o.0) h
  where
    by : (r : Option Object) → IsSome (variables_in r) → IsSome r
    by None h = absurd cc
    by (Some x) h = refl

-- all that a function needs is there
pub in_memory : (live : Live) (callee : Callee) (code : RawProgram) → callee.fun < length code.funs → IsAtHome live callee code → IsSome (variables_at live.objects callee.this) → program_at live.versions callee.program ≡ Some code → IsInMemory live callee code
in_memory live callee code f home here e = record {
  row = f;
  variables = home;
  object = object_row live.objects callee.this here;
  version = program_row live.versions callee.program (subst IsSome (sym e) refl);
}

-- the same of what brings it in

abbrev pub ComesIn : Option Bytes → Option Bytes → Live → Live → Option ObjId → Option Callee → Option Reached → Type 0
ComesIn told0 told1 old new caller callee r =
    (programs : List RawProgram) (asker : Asker) (a : Ask) → Leads programs old.objects asker caller a callee → IsWorldOf told0 programs old a.world → ReachesIf told1 programs new asker a r

pub comes_in : (told0 told1 : Option Bytes) (old new : Live) (caller : Option ObjId) (callee : Callee) (code : RawProgram) → IsClosed old
    → ((programs : List RawProgram) (w : World) → Stands told0 programs old w → slice_get programs callee.program.0 ≡ Some code)
    → ((programs : List RawProgram) (w : World) → Stands told0 programs old w → Stands told1 programs new w)
    → ComesIn told0 told1 old new caller (Some callee) (Some (record { callee = callee; code = code; caller = caller }))
comes_in told0 told1 old new caller callee code closed is stands programs asker a h w =
    reaches told0 told1 programs old new asker caller a callee code closed w h (is programs a.world w.stands) (record { stands = stands programs a.world w.stands; compiled = w.compiled; shadows = w.shadows })

pub comes_home : (told : Option Bytes) (live : Live) (caller : Option ObjId) (callee : Callee) (P : Type 0) → CanLead told live caller (Some callee)
    → ((programs : List RawProgram) (w : World) (o : ObjId) (f : Found) → IsWorldOf told programs live w → now.IsCallee programs w callee o f → P) → P
comes_home told live caller callee P h home =
    let t = aim_of h.programs live.objects h.asker caller h.ask callee h.leads in
    home h.programs h.ask.world t.target.object t.target.found h.world t.callee_is

-- and of what found it before

pub found_then : (told0 told1 told2 : Option Bytes) (true1 true2 : Type 0) (old mid new : Live) (caller : Option ObjId) (callee : Option Callee) (r : Result (Option Reached) EnterFault) (Asks : List RawProgram → Asker → Ask → Type 0)
    → (true1 → (programs : List RawProgram) (asker : Asker) (a : Ask) → Asks programs asker a → IsWorldOf told0 programs old a.world → IsWorldOf told1 programs mid a.world)
    → (true1 → (programs : List RawProgram) (asker : Asker) (a : Ask) → Asks programs asker a → IsWorldOf told0 programs old a.world → Leads programs mid.objects asker caller a callee)
    → (true2 → true1) → OnOk r true2 → IfOk r (ComesIn told1 told2 mid new caller callee)
    → IfOk r (λ x. (programs : List RawProgram) (asker : Asker) (a : Ask) → Asks programs asker a → IsWorldOf told0 programs old a.world → ReachesIf told2 programs new asker a x)
found_then told0 told1 told2 true1 true2 old mid new caller callee (Ok x) Asks stands leads before t comes = λ programs asker a h w.
    comes programs asker a (leads (before t) programs asker a h w) (stands (before t) programs asker a h w)
found_then told0 told1 told2 true1 true2 old mid new caller callee (Err e) Asks stands leads before t comes = tt

pub world_then : (told0 told1 : Option Bytes) (programs : List RawProgram) (old new : Live) (w : World) → ((programs : List RawProgram) (w : World) → Stands told0 programs old w → Stands told1 programs new w) → IsWorldOf told0 programs old w → IsWorldOf told1 programs new w
world_then told0 told1 programs old new w stands h = record { stands = stands programs w h.stands; compiled = h.compiled; shadows = h.shadows }
