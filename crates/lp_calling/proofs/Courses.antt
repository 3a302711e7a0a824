-- Courses that go on.
use Rattle.std.proofs.Common.{◌≡◌, ◌∙◌, ◌-◌, List, Option, false, refl, ap, sym, nat_lt, arith, if◌then◌else◌}
use mathlib.Core.Path.{fun_ext}
use Rattle.std.proofs.lemmas.Bool.{le-ltb}
use Rattle.lp_values.specs.declared.id.ObjId.{ObjId}
use Rattle.lp_values.specs.declared.value.Value.{Value}
use Rattle.lp_instr.specs.declared.efun.Efun.{Efun}
use Rattle.lp_language.specs.Course.{Asks, Course, End, Gives, Stops, Over, State, and_then, in_any_case, pay, here, Spent}
use Rattle.lp_meaning.specs.Askers.{Asker}
use Rattle.lp_calling.specs.declared.job.Stage.{Stage}
use Rattle.lp_calling.specs.Jobs.{player_back, stage_behind, stage_rest, with_player_by}

-- what goes on behind what goes on behind a course
pub then_on : (c : Course Value) (k f : Value → State → Course Value) → and_then (and_then c k) f ≡ and_then c (λ v t. and_then (k v t) f)
then_on (Over (Gives v s)) k f = refl
then_on (Over (Stops x s)) k f = refl
then_on (Asks a h) k f = ap (λ h. Asks a h) (fun_ext (λ o. then_on (h o) k f))

-- what goes on alike
pub goes_alike : (c : Course Value) (f g : Value → State → Course Value) → ((v : Value) (s : State) → f v s ≡ g v s) → and_then c f ≡ and_then c g
goes_alike c f g h = ap (λ k. and_then c k) (fun_ext (λ v. fun_ext (λ s. h v s)))

-- nothing is paid
pub pays_nothing : (s : State) (go : State → End Value) → pay 0 s go ≡ go s
pays_nothing s go =
    let some : nat_lt s.budget 0 ≡ false = le-ltb s.budget 0 (omega arith) in
    let same : s.budget - 0 ≡ s.budget = omega arith in
    ap (λ b. if b then Stops (here Spent) (record s { budget = 0 }) else go (record s { budget = s.budget - 0 })) some ∙ ap (λ k. go (record s { budget = k })) same

-- Questions

-- an end with the same `this_player()`
same_player : (f : Option ObjId → Option ObjId) → ((p : Option ObjId) → f p ≡ p) → (e : End Value) → with_player_by f e ≡ e
same_player f h (Gives v s) = ap (λ p. Gives v (record s { player = p })) (h s.player)
same_player f h (Stops x s) = ap (λ p. Stops x (record s { player = p })) (h s.player)

-- what goes on with the value goes on however it ends
in_any_as : (c : Course Value) (k : Value → State → Course Value) (f : End Value → End Value) → ((e : End Value) → f e ≡ e) → and_then c k ≡ in_any_case c (λ e. and_then (Over (f e)) k)
in_any_as (Over e) k f h = ap (λ e. and_then (Over e) k) (sym (h e))
in_any_as (Asks a g) k f h = ap (λ g. Asks a g) (fun_ext (λ o. in_any_as (g o) k f h))

-- a stage that changes no `this_player()` asks
pub asked_on : (e : Efun) (stage : Stage) (own : List Value) (by : Asker) (c : Course Value) → ((p : Option ObjId) → player_back stage p ≡ p) → and_then c (stage_rest e stage own by) ≡ in_any_case c (stage_behind e stage own by)
asked_on e stage own by c h = in_any_as c (stage_rest e stage own by) (with_player_by (player_back stage)) (same_player (player_back stage) h)
