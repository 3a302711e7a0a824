-- The whole record: what is read is written so, what is written is read, and no image begins another.
use Rattle.std.proofs.Common.{◌≡◌, ℕ, suc, ◌<◌, ◌^◌, Bool, true, false, ◌&&◌, cond, eqb, List, [], ◌∷◌, ◌++◌, length, Option, Some, None, Result, Err, refl, sym, ap, subst, ◌∙◌, append_assoc, append-nil}
use Rattle.std.specs.Prelude.{codes}
use Rattle.std.specs.Int.{w64}
use Rattle.std.proofs.lemmas.Bool.{eqb-true}
use Rattle.std.proofs.lemmas.List.{nil_from_length}
use Rattle.lp_image.specs.declared.fault.ImageFault.{ImageFault}
use Rattle.lp_image.specs.declared.fault.ImageFault.TheVariants as faults
use Rattle.lp_image.specs.declared.record.Record.{Record}
use Rattle.lp_image.specs.Image.{image, eight, list_image, value_image, cell_image, IsListOf, IsValue, IsCell, IsRecord, NoImageBeginsAnother}
use Rattle.lp_image.specs.Reading.{◌>>=◌, Fails, is_mark, mark_at, number_at, list_at, value_at, cell_at, record_at, all_of}
use Rattle.lp_image.proofs.Codec.{IsBytes, bind_some, held_some, some_is, Takes, Takes-then, IsCodec, eight_codec, list_codec}
use Rattle.lp_image.proofs.Parts.{value_codec, cell_codec}

and_true : (x y : Bool) → (x && y) ≡ true → (x ≡ true) × (y ≡ true)
and_true true true e = (refl, refl)
and_true true false e = absurd cc
and_true false y e = absurd cc

-- a record, whatever the order of its cells
pub record IsLoose (r : Record) : Type 0 where
  pub owner : r.owner.0 < 2 ^ 64
  pub vars : IsListOf IsValue r.vars
  pub cells : IsListOf IsCell r.cells

pub loose : (r : Record) → IsRecord r → IsLoose r
loose r is = record { owner = is.owner; vars = is.vars; cells = is.cells }

mark_takes : (bytes : List ℕ) (x : Unit {0} × List ℕ) → IsBytes bytes → mark_at bytes ≡ Some x → Takes bytes (codes "LPO1") x.1
unfolding mark_at
mark_takes [] x fits e = absurd cc
mark_takes (a ∷ []) x fits e = absurd cc
mark_takes (a ∷ b ∷ []) x fits e = absurd cc
mark_takes (a ∷ b ∷ c ∷ []) x fits e = absurd cc
mark_takes (a ∷ b ∷ c ∷ d ∷ rest) x fits e =
    let h = held_some (is_mark a b c d) (Some (tt, rest)) x e in
    let p = and_true (eqb a 76) (eqb b 80 && (eqb c 79 && eqb d 49)) h.0 in
    let q = and_true (eqb b 80) (eqb c 79 && eqb d 49) p.1 in
    let r = and_true (eqb c 79) (eqb d 49) q.1 in
    let e0 = eqb-true a 76 p.0 in
    let e1 = eqb-true b 80 q.0 in
    let e2 = eqb-true c 79 r.0 in
    let e3 = eqb-true d 49 r.1 in
    let made : Unit {0} × List ℕ = (tt, rest) in
    subst (λ (y : Unit {0} × List ℕ). Takes (a ∷ b ∷ c ∷ d ∷ rest) (codes "LPO1") y.1) (some_is made x h.1) (record { parts = rw (e0, e1, e2, e3) refl; rest_fits = λ i. fits (suc (suc (suc (suc i)))) })

values_codec : IsCodec (list_image value_image) (IsListOf IsValue) (list_at value_at)
values_codec = list_codec value_image IsValue value_at value_codec

cells_codec : IsCodec (list_image cell_image) (IsListOf IsCell) (list_at cell_at)
cells_codec = list_codec cell_image IsCell cell_at cell_codec

record_takes : (bytes : List ℕ) (x : Record × List ℕ) → IsBytes bytes → record_at bytes ≡ Some x → Takes bytes (image x.0) x.1 × IsLoose x.0
unfolding record_at
record_takes bytes x fits e =
    let m = bind_some (mark_at bytes) (λ mark. number_at w64 mark.1 >>= λ owner. list_at value_at owner.1 >>= λ vars. list_at cell_at vars.1 >>= λ cells. Some (record { owner = record { 0 = owner.0 }; vars = vars.0; cells = cells.0 }, cells.1)) x e in
    let a = bind_some (number_at w64 m.0.1) (λ owner. list_at value_at owner.1 >>= λ vars. list_at cell_at vars.1 >>= λ cells. Some (record { owner = record { 0 = owner.0 }; vars = vars.0; cells = cells.0 }, cells.1)) x m.2 in
    let b = bind_some (list_at value_at a.0.1) (λ vars. list_at cell_at vars.1 >>= λ cells. Some (record { owner = record { 0 = a.0.0 }; vars = vars.0; cells = cells.0 }, cells.1)) x a.2 in
    let c = bind_some (list_at cell_at b.0.1) (λ cells. Some (record { owner = record { 0 = a.0.0 }; vars = b.0.0; cells = cells.0 }, cells.1)) x b.2 in
    let t0 = mark_takes bytes m.0 fits m.1 in
    let t1 = eight_codec.takes m.0.1 a.0 t0.rest_fits a.1 in
    let t2 = values_codec.takes a.0.1 b.0 t1.0.rest_fits b.1 in
    let t3 = cells_codec.takes b.0.1 c.0 t2.0.rest_fits c.1 in
    let e23 = Takes-then a.0.1 (list_image value_image b.0.0) b.0.1 (list_image cell_image c.0.0) c.0.1 t2.0 t3.0 in
    let e13 = Takes-then m.0.1 (eight a.0.0) a.0.1 (list_image value_image b.0.0 ++ list_image cell_image c.0.0) c.0.1 t1.0 e23 in
    let e03 = Takes-then bytes (codes "LPO1") m.0.1 (eight a.0.0 ++ (list_image value_image b.0.0 ++ list_image cell_image c.0.0)) c.0.1 t0 e13 in
    let made : Record × List ℕ = (record { owner = record { 0 = a.0.0 }; vars = b.0.0; cells = c.0.0 }, c.0.1) in
    subst (λ (y : Record × List ℕ). Takes bytes (image y.0) y.1 × IsLoose y.0) (some_is made x c.2) (e03, record { owner = t1.1; vars = t2.1; cells = t3.1 })

record_again : (r : Record) (rest : List ℕ) → IsLoose r → record_at (image r ++ rest) ≡ Some (r, rest)
unfolding record_at mark_at
record_again r rest is =
    let vars : List ℕ = list_image value_image r.vars in
    let cells : List ℕ = list_image cell_image r.cells in
    let regrouped : (eight r.owner.0 ++ (vars ++ cells)) ++ rest ≡ eight r.owner.0 ++ (vars ++ (cells ++ rest)) = append_assoc (eight r.owner.0) (vars ++ cells) rest ∙ ap (λ (x : List ℕ). eight r.owner.0 ++ x) (append_assoc vars cells rest) in
    ap (λ (x : List ℕ). record_at (codes "LPO1" ++ x)) regrouped
    ∙ ap (λ y. y >>= λ owner. list_at value_at owner.1 >>= λ vars. list_at cell_at vars.1 >>= λ cells. Some (record { owner = record { 0 = owner.0 }; vars = vars.0; cells = cells.0 }, cells.1)) (eight_codec.again r.owner.0 (vars ++ (cells ++ rest)) is.owner)
    ∙ ap (λ y. y >>= λ vars. list_at cell_at vars.1 >>= λ cells. Some (record { owner = r.owner; vars = vars.0; cells = cells.0 }, cells.1)) (values_codec.again r.vars (cells ++ rest) is.vars)
    ∙ ap (λ y. y >>= λ cells. Some (record { owner = r.owner; vars = r.vars; cells = cells.0 }, cells.1)) (cells_codec.again r.cells rest is.cells)

pub all_takes : (bytes : List ℕ) (r : Record) → IsBytes bytes → all_of bytes ≡ Some r → IsLoose r × (image r ≡ bytes)
unfolding all_of
all_takes bytes r fits e =
    let a = bind_some (record_at bytes) (λ x. cond (eqb (length x.1) 0) (Some x.0) None) r e in
    let g = held_some (eqb (length a.0.1) 0) (Some a.0.0) r a.2 in
    let t = record_takes bytes a.0 fits a.1 in
    let nothing : a.0.1 ≡ [] = nil_from_length a.0.1 (eqb-true _ _ g.0) in
    let whole : image a.0.0 ≡ bytes = sym (t.0.parts ∙ ap (λ (x : List ℕ). image a.0.0 ++ x) nothing ∙ append-nil (image a.0.0)) in
    subst (λ (v : Record). IsLoose v × (image v ≡ bytes)) (some_is a.0.0 r g.1) (t.1, whole)

pub all_again : (r : Record) → IsLoose r → all_of (image r) ≡ Some r
unfolding all_of
all_again r is =
    let one : record_at (image r) ≡ Some (r, []) = ap record_at (sym (append-nil (image r))) ∙ record_again r [] is in
    rw one refl

-- what is read of bytes is the one record with this image
pub only_one : (bytes : List ℕ) (r s : Record) → all_of bytes ≡ Some r → IsRecord s → image s ≡ bytes → s ≡ r
only_one bytes r s read is e = some_is s r (sym (all_again s (loose s is)) ∙ ap all_of e ∙ read)

abbrev nothing : Option Record
nothing = None

abbrev pub refused : ImageFault → Result Record ImageFault
refused f = Err f

-- where nothing is read, no record has this image
pub none_read : (f : ImageFault) (bytes : List ℕ) → Fails f (all_of bytes) → refused f ≡ refused faults.NoRecord → (s : Record) → IsRecord s → image s ≡ bytes → ⊥
none_read faults.NoMemory bytes fails is s ok e = absurd cc
none_read faults.NoRecord bytes fails is s ok e =
    let bad : nothing ≡ Some s = sym fails ∙ ap all_of (sym e) ∙ all_again s (loose s ok) in absurd cc

pub not_another : NoImageBeginsAnother
not_another r s x y is also e =
    let same = some_is (r, x) (s, y) (sym (record_again r x (loose r is)) ∙ ap record_at e ∙ record_again s y (loose s also)) in
    (ap (λ (p : Record × List ℕ). p.0) same, ap (λ (p : Record × List ℕ). p.1) same)
