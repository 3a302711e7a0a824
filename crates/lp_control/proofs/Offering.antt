-- Offers to the operator.
use Rattle.std.proofs.Common.{subst, ◌≡◌, ℕ, ◌<◌, ◌≤◌, List, [], ◌∷◌, ◌++◌, length, Bool, true, false, Option, refl, sym, ap, ◌∙◌, append-nil, append_assoc}
use Rattle.lp_telnet.specs.Lines.{Place}
use Rattle.lp_wire.specs.Heard.{most_pending}
use Rattle.lp_wire.specs.declared.happening.WireCall.{WireCall}
use Rattle.lp_wire.specs.declared.happening.WireCall.TheVariants.{Closed}
use Rattle.lp_wire.specs.Wires.{Adds, TellsOffer}
use Rattle.lp_control.specs.Operator.{Operator, is_over, offers, closes, TellsOperator}

pub over_offer : (c : Operator) (w : Option (List WireCall)) → c.is_closed ≡ true → TellsOperator c c w w
over_offer c w e l told = (l, [], told, sym (append-nil l), is_over e refl refl)

pub one_offer : (c : Operator) (left : List ℕ) (w0 w1 : Option (List WireCall)) → c.is_closed ≡ false → length left ≤ most_pending → TellsOffer 0 c.pending left w0 w1 → TellsOperator c (record c { pending = left }) w0 w1
one_offer c left w0 w1 e few tells l told =
    let t = tells l told in
    (t.0, t.1, t.2, t.3, offers e left t.4 few refl)

pub last_offer : (c : Operator) (left : List ℕ) (w0 w1 w2 : Option (List WireCall)) → c.is_closed ≡ false → most_pending < length left → TellsOffer 0 c.pending left w0 w1 → Adds w1 w2 (Closed 0 ∷ [])
    → TellsOperator c (record { place = c.place; pending = []; is_closed = true }) w0 w2
last_offer c left w0 w1 w2 e many tells adds l told =
    let a = adds l told in
    let t = tells a.0 a.1 in (
      t.0,
      t.1 ++ Closed 0 ∷ [],
      t.2,
      a.2 ∙ ap (λ xs. xs ++ Closed 0 ∷ []) t.3 ∙ append_assoc t.0 t.1 (Closed 0 ∷ []),
      closes e left t.1 t.4 many refl refl,
    )

-- the same, by the parts of what the connection is seen as

pub one_of_parts : (c : Operator) (place : Place) (pending left : List ℕ) (over : Bool) (w0 w1 : Option (List WireCall)) → c ≡ record { place = place; pending = pending; is_closed = over } → over ≡ false → length left ≤ most_pending
    → TellsOffer 0 pending left w0 w1 → TellsOperator c (record { place = place; pending = left; is_closed = over }) w0 w1
one_of_parts c place pending left over w0 w1 is e few tells =
    subst (λ (x : Operator). TellsOperator x (record { place = place; pending = left; is_closed = over }) w0 w1) (sym is) (one_offer (record { place = place; pending = pending; is_closed = over }) left w0 w1 e few tells)

pub last_of_parts : (c : Operator) (place : Place) (pending left none : List ℕ) (over : Bool) (w0 w1 w2 : Option (List WireCall)) → c ≡ record { place = place; pending = pending; is_closed = over } → over ≡ false
    → most_pending < length left → TellsOffer 0 pending left w0 w1 → Adds w1 w2 (Closed 0 ∷ []) → none ≡ [] → TellsOperator c (record { place = place; pending = none; is_closed = true }) w0 w2
last_of_parts c place pending left none over w0 w1 w2 is e many tells adds empty =
    subst (λ (xs : List ℕ). TellsOperator c (record { place = place; pending = xs; is_closed = true }) w0 w2) (sym empty)
    (subst (λ (x : Operator). TellsOperator x (record { place = place; pending = []; is_closed = true }) w0 w2) (sym is) (last_offer (record { place = place; pending = pending; is_closed = over }) left w0 w1 w2 e many tells adds))
