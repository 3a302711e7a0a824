-- Where the instructions of a program lead.
use Rattle.std.specs.Prelude.{ℕ, ◌+◌, ◌-◌, Bool, true, false, ◌&&◌, ◌||◌, not, nat_lt, nat_eq, cond, List, [], ◌∷◌, ◌++◌, Option, Some, None, length, map, slice_get}
use Rattle.lp_instr.specs.declared.instr.Instr.{Instr}
use Rattle.lp_instr.specs.declared.instr.Case.{Case}
use Rattle.lp_instr.specs.Code.{Catching, case_place}
use Rattle.lp_instr.specs.Sound.{Shape, shape}
use Rattle.lp_code.specs.declared.program.RawProgram.{RawProgram}
use Rattle.lp_code.specs.declared.program.SwitchRow.{SwitchRow}
use Rattle.lp_code.specs.declared.program.FunRow.{FunRow}
use Rattle.lp_code.specs.Owners.{owner}
use Rattle.lp_code.specs.Inside.{stands}
use Rattle.lp_verify.specs.declared.effect.Change.{Change}
use Rattle.lp_verify.specs.declared.effect.Change.TheVariants.{Stay, Opens, Closes}
use Rattle.lp_verify.specs.declared.effect.Next.{Next}
use Rattle.lp_verify.specs.declared.effect.Jump.{Jump}
use Rattle.lp_verify.specs.declared.effect.Effect.{Effect}
use Rattle.lp_verify.specs.declared.effect.Exit.{Exit}
use Rattle.lp_verify.specs.Effects.{effect_of}
use Rattle.lp_verify.specs.Paths.{Known, Never, Once, Mixed, Way, begin_shape}

abbrev pub exit : ℕ → ℕ → Change → Exit
exit to k c = record { to = to; leaves = k; change = c }

abbrev pub next_exits : ℕ → Option Next → List Exit
next_exits at None = []
next_exits at (Some x) = exit (at + 1) x.leaves x.change ∷ []

abbrev pub jump_exits : Option Jump → List Exit
jump_exits None = []
jump_exits (Some x) = exit x.to x.leaves Stay ∷ []

abbrev pub case_exit : Case → Exit
case_exit c = exit (case_place c) 0 Stay

abbrev pub row_exits : Option SwitchRow → List Exit
row_exits None = []
row_exits (Some r) = exit r.other 0 Stay ∷ map case_exit r.cases

abbrev pub row_at : RawProgram → Option ℕ → Option SwitchRow
row_at p None = None
row_at p (Some k) = slice_get p.switches k

-- where an instruction with an effect may go on
abbrev pub exits : RawProgram → ℕ → Effect → List Exit
exits p at e = next_exits at e.next ++ (jump_exits e.jump ++ row_exits (row_at p e.row))

-- the height of the innermost open catch
abbrev pub floor : List Catching → ℕ
floor [] = 0
floor (c ∷ cs) = c.height

abbrev pub may_change : Change → List Catching → Bool
may_change Stay cs = true
may_change (Opens to) cs = true
may_change Closes [] = false
may_change Closes (c ∷ cs) = true

abbrev pub outer : List Catching → List Catching
outer [] = []
outer (c ∷ cs) = cs

abbrev pub changed : Change → ℕ → List Catching → List Catching
changed Stay h cs = cs
changed (Opens to) h cs = record { place = to; height = h } ∷ cs
changed Closes h cs = outer cs

-- the shape behind an exit
abbrev pub after : Shape → Effect → Exit → Shape
after f e x = shape (f.height - e.takes + x.leaves) (changed x.change f.height f.catches)

-- a place is in the code of the function of an instruction
abbrev pub is_within : RawProgram → ℕ → ℕ → Bool
is_within p at to = nat_lt to (length p.instrs) && nat_eq (owner p.funs to) (owner p.funs at)

-- an exit stays within the function, is not too high, and closes only a catch that is open
abbrev pub exit_holds : RawProgram → ℕ → Shape → Effect → Exit → Bool
exit_holds p at f e x = is_within p at x.to && not (nat_lt p.max_height (after f e x).height) && may_change x.change f.catches

abbrev pub exits_hold : RawProgram → ℕ → Shape → Effect → List Exit → Bool
exits_hold p at f e [] = true
exits_hold p at f e (x ∷ xs) = exit_holds p at f e x && exits_hold p at f e xs

abbrev pub is_none : {A : Type 0} → List A → Bool
is_none [] = true
is_none (x ∷ xs) = false

-- the operands are there, above the innermost open catch
abbrev pub is_enough : Shape → Effect → Bool
is_enough f e = not (nat_lt f.height (e.takes + floor f.catches))

-- all that is asked of an instruction with an effect that is reached in a shape holds
abbrev pub flows : RawProgram → ℕ → Shape → Effect → Bool
flows p at f e = not (nat_lt p.max_height f.height) && is_enough f e && exits_hold p at f e (exits p at e) && (not e.ends || is_none f.catches)

abbrev pub holds : RawProgram → ℕ → Shape → Instr → Bool
holds p at f i = stands p at i && flows p at f (effect_of i)

abbrev pub once_at : Shape → Effect → Exit → Way
once_at f e x = record { to = x.to; known = Once (after f e x) }

abbrev pub mixed_at : ℕ → Way
mixed_at to = record { to = to; known = Mixed }

-- what an exit teaches by what is known of its place: where paths mix, that they mix there within the function
abbrev pub lead : RawProgram → ℕ → Known → Effect → Exit → List Way
lead p at Never e x = []
lead p at (Once f) e x = once_at f e x ∷ []
lead p at Mixed e x = cond (is_within p at x.to) (mixed_at x.to ∷ []) []

abbrev pub leads : RawProgram → ℕ → Known → Effect → List Exit → List Way
leads p at k e [] = []
leads p at k e (x ∷ xs) = lead p at k e x ++ leads p at k e xs

-- a path does not go on behind an instruction that fails in its shape
abbrev pub goes_on : RawProgram → ℕ → Known → Instr → Bool
goes_on p at Never i = false
goes_on p at (Once f) i = holds p at f i
goes_on p at Mixed i = true

abbrev pub ways_from : RawProgram → ℕ → Known → Option Instr → List Way
ways_from p at k None = []
ways_from p at k (Some i) = cond (goes_on p at k i) (leads p at k (effect_of i) (exits p at (effect_of i))) []

unfoldable pub ways : RawProgram → ℕ → Known → List Way
ways p at k = ways_from p at k (slice_get p.instrs at)

abbrev pub starts_in : ℕ → List FunRow → List ℕ
starts_in n [] = []
starts_in n (r ∷ rs) = cond (nat_lt r.from n) (r.from ∷ []) [] ++ starts_in n rs

-- a path begins where a function does
abbrev pub starts : RawProgram → List ℕ
starts p = starts_in (length p.instrs) p.funs

-- what is learned where a function begins inside
abbrev pub start_ways : ℕ → ℕ → List Way
start_ways n p = cond (nat_lt p n) (record { to = p; known = Once begin_shape } ∷ []) []
