-- The rows of programs tell whether a nomask function stands in the way.
use Rattle.std.proofs.Common.{◌≡◌, ◌∙◌, ◌≤◌, ℕ, zero, suc, arith, Bool, true, false, ◌&&◌, ◌||◌, is_some, nat_eq, List, [], ◌∷◌, Option, Some, None, refl, ap, sym, subst, ◌%◌, ◌/◌, if◌then◌else◌}
use Rattle.std.specs.Prelude.{◌+◌, ◌*◌, slice_get}
use Rattle.std.specs.List.{list_any}
use Rattle.lp_tree.specs.declared.keyword.Modifier.{Modifier}
use Rattle.lp_tree.specs.declared.keyword.Modifier.TheVariants.{Private, Protected, Public, Static, Nosave, Nomask, Varargs}
use Rattle.lp_code.specs.declared.program.RawProgram.{RawProgram}
use Rattle.lp_code.specs.declared.tables.Slot.{Slot}
use Rattle.lp_code.specs.declared.tables.Tables.{Tables}
use Rattle.lp_instr.specs.EfunList.{is_name}
use Rattle.lp_isa.specs.Programs.{IsReached, Reached}
use Rattle.lp_language.specs.Resolve.{Found, Heir, Heritage, is_nomask, is_nomask_word, names_in, resolve, version_of}
use Rattle.lp_meaning.specs.CallingEfuns.{is_nomask_found}
use Rattle.lp_types_expr.specs.Signatures.{has_function}
use Rattle.lp_layout.specs.Layout.{bit_of, bits, bits_from, digit, has_word, slot_named}
use Rattle.lp_layout.specs.LayoutFaults.{is_nomask_number}
use Rattle.lp_layout.proofs.RowLaid.{same_name}
use Rattle.lp_inherit.specs.Heirs.{IsRowOf, MeansTheSame, table, with_function}
use Rattle.lp_inherit.proofs.Meanings.{row_agrees}
use Rattle.lp_plan_laws.proofs.Meant.{found_named}
use Rattle.lp_part_laws.specs.Parts.{reached_in}
use Rattle.lp_part_laws.specs.Versions.{FitsVersion}
use Rattle.lp_part_laws.proofs.Rows.{fit_reached, row_by_place, table_means}
use Rattle.lp_masking.specs.Masks.{is_forbidden_in, is_masking, programs_forbid, rows_mask}
use Rattle.lp_masking.proofs.Named.{any_in, in_any, listed}

differ : false ≡ true → ⊥
differ q = cc

-- Modifiers as a number

same_nomask : (m : Modifier) → nat_eq (bit_of m) 5 ≡ is_nomask_word m
same_nomask Private = refl
same_nomask Protected = refl
same_nomask Public = refl
same_nomask Static = refl
same_nomask Nosave = refl
same_nomask Nomask = refl
same_nomask Varargs = refl

nomask_words : (ms : List Modifier) → has_word 5 ms ≡ is_nomask ms
nomask_words [] = refl
nomask_words (m ∷ ms) = ap (λ z. z || has_word 5 ms) (same_nomask m) ∙ ap (λ z. is_nomask_word m || z) (nomask_words ms)

small : (b : Bool) → digit b ≤ 1
small true = omega arith
small false = omega arith

sixth : (a b c d e r : ℕ) → a ≤ 1 → b ≤ 1 → c ≤ 1 → d ≤ 1 → e ≤ 1 → (a + 2 * (b + 2 * (c + 2 * (d + 2 * (e + 2 * r))))) / 32 ≡ r
sixth a b c d e r v w x y z = omega (arith, v, w, x, y, z)

last_bit : (f : Bool) (r : ℕ) → nat_eq ((digit f + 2 * r) % 2) 1 ≡ f
last_bit true r = let e : (1 + 2 * r) % 2 ≡ 1 = omega arith in ap (λ z. nat_eq z 1) e
last_bit false r = let e : (0 + 2 * r) % 2 ≡ 0 = omega arith in ap (λ z. nat_eq z 1) e

nomask_bit : (ms : List Modifier) → is_nomask_number (bits ms) ≡ is_nomask ms
nomask_bit ms =
    let r : ℕ = bits_from 6 [] ms in
    ap (λ z. nat_eq (z % 2) 1)
    (sixth (digit (has_word 0 ms)) (digit (has_word 1 ms)) (digit (has_word 2 ms)) (digit (has_word 3 ms)) (digit (has_word 4 ms)) (digit (has_word 5 ms) + 2 * r) (small (has_word 0 ms)) (small (has_word 1 ms)) (small (has_word 2 ms))
    (small (has_word 3 ms)) (small (has_word 4 ms)))
    ∙ last_bit (has_word 5 ms) r ∙ nomask_words ms

-- Rows

both : (a b : Bool) → (a && b) ≡ true → (a ≡ true) × (b ≡ true)
both true true e = (refl, refl)
both true false e = cc
both false b e = cc

same_truth : (a b : Bool) → (a ≡ true → b ≡ true) → (b ≡ true → a ≡ true) → a ≡ b
same_truth true b f g = sym (f refl)
same_truth false true f g = absurd (differ (g refl))
same_truth false false f g = refl

-- a name reaches a function in the rows where it means one
reached_some : (h : Heritage) (x : Option Found) (r : Option Reached) → IsReached h x r → is_some r ≡ is_some x
reached_some h None None i = refl
reached_some h None (Some r) i = absurd i
reached_some h (Some f) None i = absurd i
reached_some h (Some f) (Some r) i = refl

-- where a row of a name stands
stands_at : (ss : List Slot) (w : List ℕ) (s : Slot) → slot_named ss w ≡ Some s → (k : ℕ) × (slice_get ss k ≡ Some s)
stands_at [] w s e = absurd cc
stands_at (t ∷ ss) w s e = by (is_name t.name w) e (stands_at ss w s)
  where
    by : (b : Bool) → (if b then Some t else slot_named ss w) ≡ Some s → (slot_named ss w ≡ Some s → (k : ℕ) × (slice_get ss k ≡ Some s)) → (k : ℕ) × (slice_get (t ∷ ss) k ≡ Some s)
    by true e f = (zero, e)
    by false e f = let r = f e in (suc r.0, r.1)

-- the row of a name that means a function
row_behind : (o : Option Slot) (f : Found) → MeansTheSame (with_function o) (Some f) → (s : Slot) × (o ≡ Some s) × (has_function s ≡ true) × IsRowOf s f
row_behind None f m = absurd m
row_behind (Some s) f m = by (has_function s) refl m
  where
    by : (b : Bool) → has_function s ≡ b → MeansTheSame (if b then Some s else None) (Some f) → (t : Slot) × (Some s ≡ Some t) × (has_function t ≡ true) × IsRowOf t f
    by true e m = (s, refl, e, m)
    by false e m = absurd m

-- and the function of a row that has one
function_behind : (s : Slot) (x : Option Found) → has_function s ≡ true → MeansTheSame (with_function (Some s)) x → (f : Found) × (x ≡ Some f) × IsRowOf s f
function_behind s x e m = this x (subst (λ b. MeansTheSame (if b then Some s else None) x) e m)
  where
    this : (x : Option Found) → MeansTheSame (Some s) x → (f : Found) × (x ≡ Some f) × IsRowOf s f
    this None m = absurd m
    this (Some f) m = (f, refl, m)

nomask_there : (x : Option Found) → is_nomask_found x ≡ true → (f : Found) × (x ≡ Some f) × (is_nomask f.function.modifiers ≡ true)
nomask_there None e = absurd (differ e)
nomask_there (Some f) e = (f, refl, e)

module _ (h k : Heritage) (p q : RawProgram) (fp : FitsVersion h p) (fq : FitsVersion k q) where
  -- a nomask function of the one whose name is that of a function of the other one
  name_masks : List ℕ → Bool
  name_masks name = is_nomask_found (resolve h name) && is_some (resolve k name)

  other_some : (w : List ℕ) → is_some (reached_in (slot_named q.tables.slots w)) ≡ is_some (resolve k w)
  other_some w = reached_some k (resolve k w) (reached_in (slot_named q.tables.slots w)) (fit_reached k q w fq)

  row_masks : (s : Slot) (f : Found) → IsRowOf s f → has_function s ≡ true → is_nomask f.function.modifiers ≡ true → is_some (resolve k s.name) ≡ true → is_masking q.tables.slots s ≡ true
  unfolding is_masking
  row_masks s f r e n o =
      ap (λ a. a && is_nomask_number s.mods && is_some (reached_in (slot_named q.tables.slots s.name))) e
      ∙ ap (λ a. a && is_some (reached_in (slot_named q.tables.slots s.name))) (ap is_nomask_number r.mods ∙ nomask_bit f.function.modifiers ∙ n)
      ∙ other_some s.name ∙ o

  to_rows : list_any name_masks (names_in h) ≡ true → rows_mask q.tables.slots p.tables.slots ≡ true
  unfolding name_masks
  to_rows e =
      let a = any_in name_masks (names_in h) e in
      let name : List ℕ = a.0 in
      let b = both (is_nomask_found (resolve h name)) (is_some (resolve k name)) a.3 in
      let f = nomask_there (resolve h name) b.0 in
      let r = row_behind (slot_named (table h).slots name) f.0 (subst (λ x. MeansTheSame (with_function (slot_named (table h).slots name)) x) f.1 (row_agrees h name fp.own.numbered)) in
      let s : Slot = r.0 in
      let at = stands_at p.tables.slots name s (subst (λ (t : Tables). slot_named t.slots name ≡ Some s) fp.own.own r.1) in
      let same : s.name ≡ name = found_named (table h).slots name s r.1 in
      in_any (is_masking q.tables.slots) p.tables.slots at.0 s at.1 (row_masks s f.0 r.3 r.2 f.2 (ap (λ w. is_some (resolve k w)) same ∙ b.1))

  row_both : (s : Slot) → is_masking q.tables.slots s ≡ true → ((has_function s && is_nomask_number s.mods) ≡ true) × (is_some (reached_in (slot_named q.tables.slots s.name)) ≡ true)
  unfolding is_masking
  row_both s e = both (has_function s && is_nomask_number s.mods) (is_some (reached_in (slot_named q.tables.slots s.name))) e

  to_names : rows_mask q.tables.slots p.tables.slots ≡ true → list_any name_masks (names_in h) ≡ true
  unfolding name_masks
  to_names e =
      let a = any_in (is_masking q.tables.slots) p.tables.slots e in
      let s : Slot = a.0 in
      let b = row_both s a.3 in
      let c = both (has_function s) (is_nomask_number s.mods) b.0 in
      let own : slot_named (table h).slots s.name ≡ Some s = row_by_place h a.1 s (subst (λ (t : Tables). slice_get t.slots a.1 ≡ Some s) (sym fp.own.own) a.2) in
      let f = function_behind s (resolve h s.name) c.0 (table_means h s.name s fp.own.numbered own) in
      let l = any_in (λ n. is_name n s.name) (names_in h) (listed h s.name (ap is_some f.1)) in
      let same : l.0 ≡ s.name = same_name l.0 s.name l.3 in
      let masks_it : name_masks s.name ≡ true = ap (λ x. is_nomask_found x && is_some (resolve k s.name)) f.1
      ∙ ap (λ v. v && is_some (resolve k s.name)) (sym (nomask_bit f.0.function.modifiers) ∙ ap is_nomask_number (sym f.2.mods) ∙ c.1) ∙ sym (other_some s.name) ∙ b.1 in
      in_any name_masks (names_in h) l.1 l.0 l.2 (ap name_masks same ∙ masks_it)

  pub masks_same : list_any (λ name. is_nomask_found (resolve h name) && is_some (resolve k name)) (names_in h) ≡ rows_mask q.tables.slots p.tables.slots
  unfolding name_masks
  masks_same = same_truth _ (rows_mask q.tables.slots p.tables.slots) to_rows to_names

-- the pragmas of a program are those of its file
pub pragma_same : (h : Heritage) (p : RawProgram) → FitsVersion h p → (version_of h).pragmas.no_shadow ≡ p.tables.pragmas.no_shadow
pragma_same (Heir n v ps) p f = ap (λ (t : Tables). t.pragmas.no_shadow) f.own.own

-- the tables forbid it where the trees do
pub forbids_same : (h k : Heritage) (p q : RawProgram) → FitsVersion h p → FitsVersion k q → programs_forbid p q ≡ is_forbidden_in h k
forbids_same h k p q fp fq =
    ap (λ b. b || p.tables.pragmas.no_shadow) (sym (masks_same h k p q fp fq))
    ∙ ap (λ b. list_any (λ name. is_nomask_found (resolve h name) && is_some (resolve k name)) (names_in h) || b) (sym (pragma_same h p fp))
