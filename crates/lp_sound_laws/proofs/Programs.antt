-- A program whose rows are those of its code is sound.
use Rattle.std.proofs.Common.{◌≡◌, ℕ, zero, suc, ◌+◌, ◌≤◌, ◌<◌, List, [], ◌∷◌, length, Some, refl, sym, ap, ◌∙◌, subst, arith, All}
use Rattle.std.specs.Prelude.{slice_get, IsSome}
use Rattle.std.proofs.lemmas.Option.{slice_get_within}
use Rattle.std.proofs.lemmas.List.Elements.{All-cons, All-nil}
use Rattle.lp_instr.specs.declared.instr.Instr.{Instr}
use Rattle.lp_instr.specs.declared.instr.Instr.TheVariants.{CallFixed, Switch}
use Rattle.lp_instr.specs.Code.{parent_row}
use Rattle.lp_instr.specs.Sound.{Bounds, IsNamed}
use Rattle.lp_code.specs.declared.program.FunRow.{FunRow}
use Rattle.lp_code.specs.declared.program.RawProgram.{RawProgram}
use Rattle.lp_code.specs.Inside.{AreTables, IsSwitch}
use Rattle.lp_code.specs.Owners.{AreRows, end_in}
use Rattle.lp_code.specs.Programs.{IsFunction, IsProgram, bounds_of, code_of}
use Rattle.lp_verify.proofs.Owning.{locals_of}
use Rattle.lp_sound_laws.specs.Heights.{gains}
use Rattle.lp_sound_laws.specs.Parts.{AreParts, AreSwitchesNamed, PartsAreProgram}
use Rattle.lp_sound_laws.specs.Placed.{Leads}
use Rattle.lp_sound_laws.proofs.Lowering.{low}
use Rattle.lp_sound_laws.proofs.Named.{named_as, row_sound, stands_true}
use Rattle.lp_sound_laws.proofs.Owned.{HasRow, has_row, part_at, rows}

-- all locals together
abbrev all_locals : List FunRow → ℕ
all_locals [] = 0
all_locals (r ∷ rs) = r.locals + all_locals rs

among : (rs : List FunRow) (k : ℕ) (r : FunRow) → slice_get rs k ≡ Some r → r.locals ≤ all_locals rs
among [] k r e = absurd cc
among (x ∷ rs) zero r e = let same : x ≡ r = cc in let q = ap (λ (y : FunRow). y.locals) same in omega (arith, q)
among (x ∷ rs) (suc k) r e = let q = among rs k r e in omega (arith, q)

all_from : {A : Type 0} (P : A → Type 0) (xs : List A) → ((k : ℕ) (x : A) → slice_get xs k ≡ Some x → P x) → All P xs
all_from P [] f = All-nil P
all_from P (x ∷ xs) f = All-cons P x xs (f 0 x refl) (all_from P xs (λ k y e. f (suc k) y e))

module _ (p : RawProgram) (ts : List (List (List ℕ))) (parts : AreParts p ts p.funs 0 (length p.instrs)) (few : length ts ≤ length p.tables.parents) (height : p.max_height ≡ gains p.instrs) where
  all_rows : AreRows (length p.instrs) p.funs
  all_rows = rows p ts p.funs (length p.instrs) parts

  row_at : (at : ℕ) (i : Instr) → slice_get p.instrs at ≡ Some i → HasRow p at
  row_at at i e = has_row p at (slice_get_within p.instrs at i e) all_rows

  in_part : (k at : ℕ) (r : FunRow) (i : Instr) → slice_get p.funs k ≡ Some r → r.from ≤ at → at < end_in (length p.instrs) (slice_get p.funs (suc k)) → slice_get p.instrs at ≡ Some i → IsNamed (code_of p ts) (bounds_of p r) i × Leads (code_of p ts) at i
  in_part k at r i e l u is =
      let part = part_at p ts p.funs 0 (length p.instrs) k r parts e in
      let x = part.placed.each at l u in
      let q : Some x.instr ≡ Some i = sym x.is ∙ is in
      let same : x.instr ≡ i = cc in
      (subst (IsNamed (code_of p ts) (bounds_of p r)) same x.named, subst (Leads (code_of p ts) at) same x.leads)

  here : (at : ℕ) (i : Instr) (w : HasRow p at) → slice_get p.instrs at ≡ Some i → IsNamed (code_of p ts) (bounds_of p w.row) i × Leads (code_of p ts) at i
  here at i w e = in_part w.number at w.row i w.there w.before w.inside e

  -- in bounds with the locals of all functions together, each instruction names what is there
  same_parent : (parent j : ℕ) (i : Instr) (r : FunRow) → IsNamed (code_of p ts) (bounds_of p r) i → (n : ℕ) → i ≡ CallFixed parent j n → IsSome (parent_row (code_of p ts) parent j)
  same_parent parent j i r h n e = subst (IsNamed (code_of p ts) (bounds_of p r)) e h

  all_named : (at : ℕ) (i : Instr) → slice_get p.instrs at ≡ Some i → IsNamed (code_of p ts) (record { locals = all_locals p.funs; variables = length p.tables.vars; max_height = p.max_height }) i
  all_named at i e =
      let w = row_at at i e in
      let h = here at i w e in
      named_as (code_of p ts) ts (bounds_of p w.row) (record { locals = all_locals p.funs; variables = length p.tables.vars; max_height = p.max_height }) (among p.funs w.number w.row w.there) (omega arith) i (λ parent j n q. same_parent parent j i w.row h.0 n q) h.0

  a_function : (k : ℕ) (r : FunRow) → slice_get p.funs k ≡ Some r → IsFunction p k r
  a_function k r e =
      let part = part_at p ts p.funs 0 (length p.instrs) k r parts e in
      let b : Bounds = record { locals = all_locals p.funs; variables = length p.tables.vars; max_height = p.max_height } in
      let s = part.sound b all_named in
      let end = end_in (length p.instrs) (slice_get p.funs (suc k)) in
      let l = low (code_of p ts) (record b { max_height = s.0 }) r.from end s.1 s.2 in
      record {
        shapes = l.0;
        sound = λ parents finds. l.1 parents (bounds_of p r) height
            (λ at i from to is. named_as (code_of p ts) parents (bounds_of p r) (bounds_of p r) (omega arith) (omega arith) i
            (λ parent j n q. finds at parent j n (is ∙ ap (λ x. Some x) q)) (in_part k at r i e from to is).0);
      }

  pub program : AreSwitchesNamed p → AreTables p.tables → IsProgram p
  program named tables = record {
    inside = λ at i e. let w = row_at at i e in let h = here at i w e in stands_true p ts few at w.row i (locals_of p w.number w.row at w.there w.owner) h.0 h.1;
    functions = a_function;
    rows = all_rows;
    switches = all_from (IsSwitch p) p.switches (λ k x e.
        let n = named k (slice_get_within p.switches k x e) in
        let h = here n.0 (Switch k) (row_at n.0 (Switch k) n.1) n.1 in
        row_sound p ts few n.0 k p.switches x e h.1);
    tables = tables;
  }

pub parts_are_program : PartsAreProgram
parts_are_program p ts parts few height named tables = program p ts parts few height named tables
