-- What came into memory, and then was put somewhere.
use Rattle.std.proofs.Common.{◌≡◌, ◌∙◌, ℕ, Bool, List, Option, Result, Ok, Err, refl, ap, sym, subst}
use Rattle.lp_swapfile.specs.Device.{Bytes, Last}
use Rattle.lp_values.specs.declared.id.ObjId.{ObjId}
use Rattle.lp_values.specs.declared.value.Value.{Value}
use Rattle.lp_language.specs.Operations.{cells_of, living}
use Rattle.lp_cells.specs.Cells.{Store}
use Rattle.lp_ops.specs.Operands.{operand}
use Rattle.lp_meaning.specs.EfunArguments.{text_arg}
use Rattle.lp_meaning.specs.WorldEfuns.{has_function}
use Rattle.std.proofs.Common.{map}
use Rattle.std.specs.Prelude.{OnErr}
use Rattle.lp_residence.specs.declared.answers.EnterFault.{EnterFault}
use Rattle.lp_residence.specs.declared.answers.EnterFault.TheVariants.{NoMemory}
use Rattle.lp_world.specs.declared.live.Live.{Live}
use Rattle.lp_world.specs.Stands.{Stands}
use Rattle.lp_targets.specs.Brought.{Brings, StaysInMemory}
use Rattle.lp_targets.proofs.Memory.{brings_no_memory, brings_ok, stays_same}
use Rattle.lp_efuns.specs.declared.answer.Did.{Did}
use Rattle.lp_object_efuns.specs.Called.{AnswersOver, IsFunctionAsked, StandsOver, brought}
use Rattle.lp_putting.specs.Plans.{AnswersPlan, IsOnlyPut, StandsStill}
use Rattle.lp_putting.specs.declared.plans.Plan.{Plan}
use Rattle.lp_object_efuns.proofs.Acting.{at_after}

-- without what was put, the state is the one to which things came
pub brought_as : (old mid new : Live) → mid ≡ record old { objects = mid.objects; versions = mid.versions; swapper = mid.swapper } → IsOnlyPut mid new → brought old new ≡ mid
brought_as old mid new others put = ap (brought old) put ∙ ap (brought old) others ∙ sym others

pub brought_same : {A : Type 0} {told0 told1 : Option Bytes} {last : Last} {reads0 reads1 writes0 writes1 : ℕ} {true0 true1 honest0 honest1 : Type 0} {old new : Live} {r : Result A EnterFault}
    → Brings told0 told1 last reads0 reads1 writes0 writes1 true0 true1 honest0 honest1 old new r → Brings told0 told1 last reads0 reads1 writes0 writes1 true0 true1 honest0 honest1 old (brought old new) r
brought_same {told0 = told0} {told1 = told1} {last = last} {reads0 = reads0} {reads1 = reads1} {writes0 = writes0} {writes1 = writes1} {true0 = true0} {true1 = true1} {honest0 = honest0} {honest1 = honest1} {old = old} {new = new} {r = r} h =
    subst (λ l. Brings told0 told1 last reads0 reads1 writes0 writes1 true0 true1 honest0 honest1 old l r) (sym (brought_as old new new h.stays.others refl)) h

pub brought_ok : {A B : Type 0} {told0 told1 : Option Bytes} {last : Last} {reads0 reads1 writes0 writes1 : ℕ} {true0 true1 honest0 honest1 : Type 0} {old mid new : Live} {x : A} {y : B}
    → Brings told0 told1 last reads0 reads1 writes0 writes1 true0 true1 honest0 honest1 old mid (Ok x) → IsOnlyPut mid new
    → Brings told0 told1 last reads0 reads1 writes0 writes1 true0 true1 honest0 honest1 old (brought old new) (Ok y)
brought_ok {told0 = told0} {told1 = told1} {last = last} {reads0 = reads0} {reads1 = reads1} {writes0 = writes0} {writes1 = writes1} {true0 = true0} {true1 = true1} {honest0 = honest0} {honest1 = honest1} {old = old} {mid = mid} {new = new} {y = y} h put =
    subst (λ l. Brings told0 told1 last reads0 reads1 writes0 writes1 true0 true1 honest0 honest1 old l (Ok y)) (sym (brought_as old mid new h.stays.others put)) (brings_ok h (stays_same mid))

pub brought_no_memory : {A B : Type 0} {told0 told1 : Option Bytes} {last : Last} {reads0 reads1 writes0 writes1 : ℕ} {true0 true1 honest0 honest1 : Type 0} {old mid new : Live} {x : A}
    → Brings told0 told1 last reads0 reads1 writes0 writes1 true0 true1 honest0 honest1 old mid (Ok x) → IsOnlyPut mid new
    → Brings {A = B} told0 told1 last reads0 reads1 writes0 writes1 true0 true1 honest0 honest1 old (brought old new) (Err NoMemory)
brought_no_memory {B = B} {told0 = told0} {told1 = told1} {last = last} {reads0 = reads0} {reads1 = reads1} {writes0 = writes0} {writes1 = writes1} {true0 = true0} {true1 = true1} {honest0 = honest0} {honest1 = honest1} {old = old} {mid = mid} {new = new} h put =
    subst (λ l. Brings {A = B} told0 told1 last reads0 reads1 writes0 writes1 true0 true1 honest0 honest1 old l (Err NoMemory)) (sym (brought_as old mid new h.stays.others put)) (brings_no_memory h)

-- it stands for the same worlds
pub still_more : (told0 told1 : Option Bytes) (old mid new : Live) → StandsOver told0 old told1 mid → StandsStill told1 mid new → StandsOver told0 old told1 new
still_more told0 told1 old mid new h k programs w s = k programs w (h programs w s)

-- what is planned is answered, over worlds whose programs fit
pub answered_over : (p : Plan) (o : ObjId) (vs : List Value) (has : Bool) (name : List ℕ) (told0 told1 : Option Bytes) (old mid new : Live) (d : Did)
    → ((l : ObjId → Bool) (cells : Store) → name ≡ text_arg (map (operand l cells) vs) 0) → told1 ≡ told0 → StaysInMemory old mid → StandsOver told0 old told1 mid → IsFunctionAsked told0 old o name has → AnswersPlan p o vs has mid d new
    → AnswersOver p o vs told0 old d new
answered_over p o vs has name told0 told1 old mid new d named kept stays still asked does g turn b s q h w =
    does g turn b s
    (at_after g old mid turn b s stays (subst (λ z. Stands z g.programs mid s.world) (kept ∙ sym q) (still g.programs s.world w.stands)) h)
    (ap (has_function s.world o) (sym (named (living s) (cells_of s))) ∙ asked g.programs s.world w)

pub on_err_any : {A : Type 0} (r : Result A EnterFault) (P : Type 0) → P → OnErr r P
on_err_any (Ok x) P h = tt
on_err_any (Err e) P h = h
