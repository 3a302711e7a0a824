-- One step of a reader, and what it says of a whole input.
use Rattle.std.proofs.Common.{◌≡◌, ap, sym, refl, ◌∙◌, subst, ℕ, ◌+◌, ◌<◌, ◌≤◌, false, List, [], ◌∷◌, ◌++◌, Result, Ok, Err, IfOk, IfErr, Option, Some, zero-le, length, take, min, arith, inl, inr}
use Rattle.std.specs.Bool.{⊤}
use Rattle.std.proofs.lemmas.Bool.{cases_lt}
use Rattle.std.proofs.lemmas.List.{take_all, length-take}
use Rattle.std.proofs.lemmas.Grind.{common_steps}
use Rattle.lp_events.specs.declared.item.Item.{Item}
use Rattle.lp_events.specs.declared.item.Item.TheVariants as items
use Rattle.lp_events.specs.Script.{Context, Over as over, after_item, longest_input, IsScript}
use Rattle.lp_script.specs.declared.behind.Refusal.TheVariants.{Large}
use Rattle.lp_script.specs.declared.fault.ScriptFault.{ScriptFault}
use Rattle.lp_script.specs.declared.fault.ScriptFault.TheVariants as faults
use Rattle.lp_script.specs.declared.phase.Ending.TheVariants.{Whole}
use Rattle.lp_script.specs.declared.phase.Ending.TheVariants as endings
use Rattle.lp_script.specs.declared.phase.Phase.{Phase}
use Rattle.lp_script.specs.declared.phase.Phase.TheVariants.{Taking, Giving, Over}
use Rattle.lp_script.specs.Behind.{Behind}
use Rattle.lp_script.specs.Given.{Stands}
use Rattle.lp_script.specs.Reader.{Reading, HasGiven, IsInput, window, is_whole, StandsNext, Refuses, Steps, Says, Reads}
use Rattle.lp_io.specs.Told.{before_giving}
use Rattle.lp_script.proofs.GivenLemmas.{stands_more, bad_is, large_is, end_is_script, end_is_large, end_is_bad}

-- ---- the window

pub short_window : (most : ℕ) (bytes : List ℕ) (n : ℕ) → n ≡ min (length bytes) most → take n bytes ≡ take most bytes
short_window most bytes n is = grind (arith, common_steps)

pub in_taken : (most : ℕ) (taken : List ℕ) (n : ℕ) → n ≤ length (take most taken) → n ≤ length taken
in_taken most taken n within = omega (arith, length-take most taken, within)

-- ---- an `end` that is not the last item

pub large_end : (r : Reading) (x : Item) (behind : ℕ) (f : ScriptFault) → StandsNext r x behind → x ≡ items.End → (behind < length (window r) → ⊥) → is_whole r ≡ false → f ≡ faults.TooLarge → Refuses r f
large_end r x behind f stands is last more fault =
    let at : behind ≡ length (window r) = omega (arith, stands.within, cases_lt behind (length (window r)), last) in
    subst (Refuses r) (sym fault) (inr (subst (StandsNext r items.End) at (subst (λ y. StandsNext r y behind) is stands), more))

pub large_none : (r : Reading) (f : ScriptFault) → Behind r.before (window r) (is_whole r) r.cut (Err Large) → f ≡ faults.TooLarge → Refuses r f
large_none r f none fault = subst (Refuses r) (sym fault) (inl none)

-- only the phase changed
pub same_but : (r n : Reading) (p : Phase) → n ≡ record r { phase = p } → n ≡ record r { phase = n.phase }
same_but r n p is = is ∙ ap (λ q. record r { phase = q }) (sym (ap (λ m. m.phase) is))

-- ---- what a step says of the whole input

stands_of : (r : Reading) (bytes : List ℕ) (xs : List Item) → HasGiven r xs → IsInput bytes r.taken → Stands longest_input bytes r.taken xs r.cut r.before
stands_of r bytes xs given input = record { input = input; within = given.within; spelled = given.spelled; fit = given.fit; before = given.before }

given_of : (r : Reading) (bytes : List ℕ) (xs : List Item) → Stands longest_input bytes r.taken xs r.cut r.before → HasGiven r xs
given_of r bytes xs s = record { within = s.within; spelled = s.spelled; fit = s.fit; before = s.before }

behind_stands : (r : Reading) (bytes : List ℕ) (xs : List Item) (x : Item) (behind : ℕ) → HasGiven r xs → IsInput bytes r.taken → StandsNext r x behind → Stands longest_input bytes r.taken (xs ++ x ∷ []) behind (after_item r.before x)
behind_stands r bytes xs x behind given input s = stands_more longest_input bytes r.taken xs r.cut r.before x behind (stands_of r bytes xs given input) s.fits s.within s.spelled

pub given_next : (r now : Reading) (xs : List Item) (result : Result Item ScriptFault) → length r.taken ≤ longest_input + 1 → Steps r result now → HasGiven r xs → IfOk result (λ x. HasGiven now (xs ++ x ∷ []))
given_next r now xs (Ok x) most (stands, ends, is) given =
    let input : IsInput r.taken r.taken = sym (take_all (longest_input + 1) r.taken most) in
    subst (λ n. HasGiven n (xs ++ x ∷ [])) (sym is) (given_of (record { taken = r.taken; cut = now.cut; at = r.cut; before = after_item r.before x; phase = now.phase }) r.taken (xs ++ x ∷ []) (behind_stands r r.taken xs x now.cut given input stands))
given_next r now xs (Err f) most steps given = tt

end_now : (r now : Reading) (bytes : List ℕ) (xs : List Item) → Steps r (Ok items.End) now → HasGiven r xs → IsInput bytes now.taken → IsScript bytes (xs ++ items.End ∷ [])
end_now r now bytes xs (stands, (last, whole), is) given input =
    let taken : IsInput bytes r.taken = sym (ap (λ n. n.taken) is) ∙ input in
    end_is_script bytes r.taken xs now.cut r.before (behind_stands r bytes xs items.End now.cut given taken stands) last whole

pub end_next : (r now : Reading) (bytes : List ℕ) (xs : List Item) (result : Result Item ScriptFault) → Steps r result now → HasGiven r xs → IsInput bytes now.taken → IfOk result (λ x. x ≡ items.End → IsScript bytes (xs ++ x ∷ []))
end_next r now bytes xs (Ok x) steps given input = λ e. subst (λ y. IsScript bytes (xs ++ y ∷ [])) (sym e) (end_now r now bytes xs (subst (λ y. Steps r (Ok y) now) e steps) given input)
end_next r now bytes xs (Err f) steps given input = tt

pub fault_next : (r now : Reading) (bytes : List ℕ) (xs : List Item) (result : Result Item ScriptFault) → (r.before.stage ≡ over → ⊥) → Steps r result now → HasGiven r xs → IsInput bytes now.taken → IfErr result (λ f. Says f bytes xs)
fault_next r now bytes xs (Ok x) goes steps given input = tt
fault_next r now bytes xs (Err (faults.BadScript at)) goes (inl none, is) given input =
    let taken : IsInput bytes r.taken = sym (ap (λ n. n.taken) is) ∙ input in
    inl (bad_is bytes r.taken xs r.cut at r.before (stands_of r bytes xs given taken) goes none)
fault_next r now bytes xs (Err (faults.BadScript at)) goes (inr (stands, less), is) given input =
    let taken : IsInput bytes r.taken = sym (ap (λ n. n.taken) is) ∙ input in
    inr (end_is_bad bytes r.taken xs at r.before (behind_stands r bytes xs items.End at given taken stands) less)
fault_next r now bytes xs (Err faults.TooLarge) goes (inl none, is) given input =
    let taken : IsInput bytes r.taken = sym (ap (λ n. n.taken) is) ∙ input in
    inl (large_is bytes r.taken xs r.cut r.before (stands_of r bytes xs given taken) none)
fault_next r now bytes xs (Err faults.TooLarge) goes (inr (stands, more), is) given input =
    let taken : IsInput bytes r.taken = sym (ap (λ n. n.taken) is) ∙ input in
    inr (end_is_large bytes r.taken xs (length (window r)) r.before (behind_stands r bytes xs items.End (length (window r)) given taken stands) refl more)
fault_next r now bytes xs (Err faults.InputFault) goes steps given input = tt
fault_next r now bytes xs (Err faults.NoMemory) goes steps given input = tt

-- nothing is taken by a step
pub taken_same : (r now : Reading) (result : Result Item ScriptFault) → Steps r result now → now.taken ≡ r.taken
taken_same r now (Ok x) (stands, ends, is) = ap (λ n. n.taken) is
taken_same r now (Err f) (refuses, is) = ap (λ n. n.taken) is

-- ---- taking

nothing_taken : (xs ys : List ℕ) (n : ℕ) → n ≡ 0 → take n xs ≡ take n ys
nothing_taken xs ys n none = rw none refl

reads_at : (bytes taken : List ℕ) (cut at : ℕ) (before : Context) (p : Phase) (told : Option (List ℕ)) → (p ≡ Taking → ⊥) → IsInput bytes taken → before_giving taken told ≡ Some bytes
    → Reads bytes (record { taken = taken; cut = cut; at = at; before = before; phase = p }) told
reads_at bytes taken cut at before Taking told stays input left = absurd (stays refl)
reads_at bytes taken cut at before Giving told stays input left = (input, left)
reads_at bytes taken cut at before (Over Whole) told stays input left = (input, left)
reads_at bytes taken cut at before (Over (endings.Bad n)) told stays input left = (input, left)
reads_at bytes taken cut at before (Over endings.Large) told stays input left = (input, left)
reads_at bytes taken cut at before (Over endings.Failed) told stays input left = left

-- where a reader stands, told apart
abbrev IsGiving : Phase → Type 0
IsGiving Taking = ⊥
IsGiving Giving = ⊤
IsGiving (Over e) = ⊥

abbrev IsTaking : Phase → Type 0
IsTaking Taking = ⊤
IsTaking Giving = ⊥
IsTaking (Over e) = ⊥

got_at : (bytes taken : List ℕ) (cut at : ℕ) (before : Context) (p : Phase) (told : Option (List ℕ)) → p ≡ Giving → Reads bytes (record { taken = taken; cut = cut; at = at; before = before; phase = p }) told
    → IsInput bytes taken × (before_giving taken told ≡ Some bytes)
got_at bytes taken cut at before Taking told is reads = absurd (subst IsTaking is tt)
got_at bytes taken cut at before Giving told is reads = reads
got_at bytes taken cut at before (Over e) told is reads = absurd (subst IsGiving (sym is) tt)

told_at : (bytes taken : List ℕ) (cut at : ℕ) (before : Context) (p : Phase) (told : Option (List ℕ)) → p ≡ Taking → Reads bytes (record { taken = taken; cut = cut; at = at; before = before; phase = p }) told
    → before_giving taken told ≡ Some bytes
told_at bytes taken cut at before Taking told is reads = reads
told_at bytes taken cut at before Giving told is reads = absurd (subst IsGiving is tt)
told_at bytes taken cut at before (Over e) told is reads = absurd (subst IsTaking (sym is) tt)

-- while nothing is given, it does not matter what is taken
pub retaken : (r : Reading) (taken : List ℕ) (p : Phase) (xs : List Item) → r.cut ≡ 0 → HasGiven r xs → HasGiven (record { taken = taken; cut = r.cut; at = r.at; before = r.before; phase = p }) xs
retaken r taken p xs none given = record {
  within = rw none zero-le;
  spelled = nothing_taken taken r.taken r.cut none ∙ given.spelled;
  fit = given.fit;
  before = given.before;
}

pub reads_rest : (bytes : List ℕ) (r : Reading) (told : Option (List ℕ)) → (r.phase ≡ Taking → ⊥) → IsInput bytes r.taken → before_giving r.taken told ≡ Some bytes → Reads bytes r told
reads_rest bytes r told stays input left = reads_at bytes r.taken r.cut r.at r.before r.phase told stays input left

pub reads_got : (bytes : List ℕ) (r : Reading) (told : Option (List ℕ)) → r.phase ≡ Giving → Reads bytes r told → IsInput bytes r.taken × (before_giving r.taken told ≡ Some bytes)
reads_got bytes r told giving reads = got_at bytes r.taken r.cut r.at r.before r.phase told giving reads

pub reads_told : (bytes : List ℕ) (r : Reading) (told : Option (List ℕ)) → r.phase ≡ Taking → Reads bytes r told → before_giving r.taken told ≡ Some bytes
reads_told bytes r told taking reads = told_at bytes r.taken r.cut r.at r.before r.phase told taking reads
