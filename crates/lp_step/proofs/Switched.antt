-- Where a switch goes on, in the state and in the world.
use Rattle.std.proofs.Common.{◌≡◌, ◌++◌, ◌∷◌, [], ◌∙◌, ℕ, zero, suc, ◌<◌, List, Some, option_map, length, map, refl, ap, sym, subst, arith, slice_get, cond}
use Rattle.lp_values.specs.declared.value.Value.{Value}
use Rattle.lp_values.specs.Read.{as_read}
use Rattle.lp_code.specs.declared.program.SwitchRow.{SwitchRow}
use Rattle.lp_code.specs.Programs.{code_of, table_of}
use Rattle.lp_instr.specs.Code.{Code, case_place}
use Rattle.lp_instr.specs.declared.instr.Case.{Case}
use Rattle.lp_instr.specs.declared.instr.Case.TheVariants as cases
use Rattle.lp_isa.specs.Machine.{Moment, Next, case_fits, goes, on_one, on_some, table_place}
use Rattle.lp_language.specs.Operations.{labelled}
use Rattle.lp_world.specs.declared.frame.Frame.{Frame}
use Rattle.lp_world.specs.declared.live.Live.{Live}
use Rattle.lp_world.specs.Rows.{live_in}
use Rattle.lp_world.specs.Matches.{Around, Matches}
use Rattle.lp_world.proofs.Keeping.{live_same}
use Rattle.lp_step.specs.declared.next.Next.TheVariants as nexts
use Rattle.lp_step.specs.Steps.{IsFine, LeadsTo}
use Rattle.lp_step.specs.Switches.{with_texts}
use Rattle.lp_step.proofs.Moves.{again, on_one_leads}

got : {A : Type 0} (xs : List A) (i : ℕ) → i < length xs → (x : A) × (slice_get xs i ≡ Some x)
got [] i h = absurd (omega arith)
got (x ∷ xs) zero h = (x, refl)
got (x ∷ xs) (suc i) h = got xs i (omega arith)

get_mapped : {A B : Type 0} (f : A → B) (xs : List A) (i : ℕ) (x : A) → slice_get xs i ≡ Some x → slice_get (map f xs) i ≡ Some (f x)
get_mapped f [] i x e = cc
get_mapped f (y ∷ ys) zero x e = ap (option_map f) e
get_mapped f (y ∷ ys) (suc i) x e = get_mapped f ys i x e

fits_same : (code : Code) (k : Case) (v : Value) → case_fits (with_texts code.texts) k v ≡ case_fits code k v
fits_same code (cases.Ints a b to) v = refl
fits_same code (cases.Text k to) v = refl

place_same : (code : Code) (v : Value) (ks : List Case) (other : ℕ) → table_place (with_texts code.texts) v ks other ≡ table_place code v ks other
place_same code v [] other = refl
place_same code v (k ∷ ks) other =
    ap (λ b. cond b (case_place k) (table_place (with_texts code.texts) v ks other)) (fits_same code k v)
    ∙ ap (λ p. cond (case_fits code k v) (case_place k) p) (place_same code v ks other)

pub switched : (a : Around) (live : Live) (stack0 stack1 : List Value) (frame : Frame) (budget : ℕ) (m : Moment) (k at : ℕ) (v w : Value)
    → Matches a live stack0 frame budget m → stack0 ≡ stack1 ++ v ∷ [] → w ≡ as_read (live_in live.objects) v → k < length frame.code.switches
    → ((row : SwitchRow) → slice_get frame.code.switches k ≡ Some row → at ≡ table_place (with_texts frame.code.consts) w row.cases row.other)
    → IsFine (on_one m.stack (λ v rest. on_some (slice_get a.code.switches k) (λ table. goes (table_place a.code (labelled m.state v) table.cases table.other) rest m.catches m.state)))
    → LeadsTo a nexts.Again live stack1 (record frame { at = at }) budget
    (on_one m.stack (λ v rest. on_some (slice_get a.code.switches k) (λ table. goes (table_place a.code (labelled m.state v) table.cases table.other) rest m.catches m.state)))
unfolding labelled
switched a live stack0 stack1 frame budget m k at v w h e r there place fine =
    on_one_leads To (λ v rest. go a.code v rest) (a.below ++ m.state.locals) m.stack stack0 stack1 v h.sits.lies e fine
    (λ ops l f. subst (λ c. To (go c v ops)) h.sits.belongs.code
    (subst (λ o. To (on_some o (λ table. goes (table_place code (labelled m.state v) table.cases table.other) ops m.catches m.state))) (sym (get_mapped table_of frame.code.switches k row.0 row.1))
    (again a live stack0 stack1 frame budget m ops at (table_place code (labelled m.state v) row.0.cases row.0.other) h l is)))
  where
    To : Next → Type 0
    To x = LeadsTo a nexts.Again live stack1 (record frame { at = at }) budget x

    go : Code → Value → List Value → Next
    go c v rest = on_some (slice_get c.switches k) (λ table. goes (table_place c (labelled m.state v) table.cases table.other) rest m.catches m.state)

    code : Code
    code = code_of frame.code a.code.parents

    row : (x : SwitchRow) × (slice_get frame.code.switches k ≡ Some x)
    row = got frame.code.switches k there

    is : at ≡ table_place code (labelled m.state v) row.0.cases row.0.other
    is =
        place row.0 row.1 ∙ place_same code w row.0.cases row.0.other
        ∙ ap (λ u. table_place code u row.0.cases row.0.other) (r ∙ ap (λ l. as_read l v) (live_same a.told a.programs live m.state.world h.stands))
