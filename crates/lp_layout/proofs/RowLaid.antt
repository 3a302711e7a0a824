-- The row of a name among the rows of a version.
use Rattle.std.proofs.Common.{◌≡◌, ℕ, suc, refl, sym, ◌∙◌, ap, Bool, true, false, ◌&&◌, ◌||◌, not, List, [], ◌∷◌, ◌++◌, map, length, Option, Some, None}
use Rattle.std.specs.List.{list_any}
use Rattle.std.specs.Prelude.{◌+◌, if◌then◌else◌}
use Rattle.std.proofs.lemmas.Slice.Eq.{bytes_eq-Decides}
use Rattle.lp_tree.specs.Units.{ItemTree, Inherit, Proto, Fun, Var}
use Rattle.lp_code.specs.declared.tables.Slot.{Slot}
use Rattle.lp_code.specs.declared.tables.Tables.{Tables}
use Rattle.lp_instr.specs.EfunList.{is_name}
use Rattle.lp_types_expr.specs.Signatures.{or_else, is_private_number, is_wanted}
use Rattle.lp_layout.specs.Layout.{slot, own_slot, prototype_slot, slot_named, slot_shown, last_slot, parts_of, laid_slot, declared_names, first_met, with_slot, laid_for, names_in, laid_slots}

pub same_name : (a b : List ℕ) → is_name a b ≡ true → a ≡ b
same_name a b e = (bytes_eq-Decides a b).0 e

-- whether a list of names has one
abbrev pub has : List (List ℕ) → List ℕ → Bool
has ws w = list_any (λ m. is_name m w) ws

has_both : (vs ws : List (List ℕ)) (w : List ℕ) → has (vs ++ ws) w ≡ has vs w || has ws w
has_both [] ws w = refl
has_both (v ∷ vs) ws w = step (is_name v w) (has_both vs ws w)
  where
    step : (b : Bool) → has (vs ++ ws) w ≡ has vs w || has ws w → b || has (vs ++ ws) w ≡ (b || has vs w) || has ws w
    step true e = refl
    step false e = e

no_first : (a b : Bool) → a || b ≡ false → a ≡ false
no_first true b e = absurd cc
no_first false b e = refl

no_second : (a b : Bool) → a || b ≡ false → b ≡ false
no_second true b e = absurd cc
no_second false b e = e

-- Each name where it is first met is one of the names, and each of the names is met.
first_has : (met ns : List (List ℕ)) (w : List ℕ) → has (first_met met ns) w || has met w ≡ has ns w || has met w
first_has met [] w = refl
first_has met (n ∷ ns) w = step (λ m. first_has m ns w) (has met n) refl
  where
    -- the name was met before
    old : has met n ≡ true → (b : Bool) → is_name n w ≡ b → has ns w || has met w ≡ (b || has ns w) || has met w
    old m false e = refl
    old m true e = let f : n ≡ w = same_name n w e in let g : has met w ≡ true = sym (ap (has met) f) ∙ m in full (has ns w) (has met w) g
      where
        full : (a b : Bool) → b ≡ true → a || b ≡ true
        full true b e = refl
        full false b e = e

    new : (b : Bool) → is_name n w ≡ b → has (first_met (n ∷ met) ns) w || (b || has met w) ≡ has ns w || (b || has met w) → (b || has (first_met (n ∷ met) ns) w) || has met w ≡ (b || has ns w) || has met w
    new true e h = refl
    new false e h = h

    step : ((m : List (List ℕ)) → has (first_met m ns) w || has m w ≡ has ns w || has m w) → (b : Bool) → has met n ≡ b → has (if b then first_met met ns else n ∷ first_met (n ∷ met) ns) w || has met w ≡ (is_name n w || has ns w) || has met w
    step ih true m = ih met ∙ old m (is_name n w) refl
    step ih false m = new (is_name n w) refl (ih (n ∷ met))

or_false : (b : Bool) → b || false ≡ b
or_false true = refl
or_false false = refl

first_has_all : (ns : List (List ℕ)) (w : List ℕ) → has (first_met [] ns) w ≡ has ns w
first_has_all ns w = sym (or_false (has (first_met [] ns) w)) ∙ first_has [] ns w ∙ or_false (has ns w)

-- Rows bear the name for which they are made.

abbrev pub IsNamed : List ℕ → Option Slot → Type 0
IsNamed w o = (s : Slot) → o ≡ Some s → s.name ≡ w

named_none : (w : List ℕ) → IsNamed w None
named_none w s e = absurd cc

named_either : (w : List ℕ) (a b : Option Slot) → IsNamed w a → IsNamed w b → IsNamed w (or_else a b)
named_either w None b ha hb = hb
named_either w (Some s) b ha hb = ha

named_if : (w : List ℕ) (b : Bool) (s : Slot) (o : Option Slot) → s.name ≡ w → IsNamed w o → IsNamed w (if b then Some s else o)
named_if w true s o e h = λ t f. let g : s ≡ t = cc in sym (ap (λ (x : Slot). x.name) g) ∙ e
named_if w false s o e h = h

own_named : (n part : ℕ) (is : List ItemTree) (w : List ℕ) → IsNamed w (own_slot n part is w)
own_named n part [] w = named_none w
own_named n part (Inherit line path ∷ is) w = own_named n part is w
own_named n part (Proto line ms ty name ps ∷ is) w = own_named n part is w
own_named n part (Fun line ms ty name ps b ∷ is) w = named_if w (is_name name w) (slot w part n ms ty ps) (own_slot (suc n) part is w) refl (own_named (suc n) part is w)
own_named n part (Var line ms base ds ∷ is) w = own_named n part is w

prototype_named : (part : ℕ) (is : List ItemTree) (w : List ℕ) → IsNamed w (prototype_slot part is w)
prototype_named part [] w = named_none w
prototype_named part (Inherit line path ∷ is) w = prototype_named part is w
prototype_named part (Proto line ms ty name ps ∷ is) w = named_if w (is_name name w) (slot w part 65535 ms ty ps) (prototype_slot part is w) refl (prototype_named part is w)
prototype_named part (Fun line ms ty name ps b ∷ is) w = prototype_named part is w
prototype_named part (Var line ms base ds ∷ is) w = prototype_named part is w

found_named : (ss : List Slot) (w : List ℕ) → IsNamed w (slot_named ss w)
found_named [] w = named_none w
found_named (s ∷ ss) w = by (found_named ss w) (is_name s.name w) refl
  where
    by : IsNamed w (slot_named ss w) → (b : Bool) → is_name s.name w ≡ b → IsNamed w (if b then Some s else slot_named ss w)
    by ih true e = named_if w true s (slot_named ss w) (same_name s.name w e) ih
    by ih false e = ih

shown_named : (bodies : Bool) (first : ℕ) (w : List ℕ) (o : Option Slot) → IsNamed w o → IsNamed w (slot_shown bodies first o)
shown_named bodies first w None h = named_none w
shown_named bodies first w (Some s) h = named_if w (not (is_private_number s.mods) && is_wanted bodies s) (record s { part = first + s.part }) None (h s refl) (named_none w)

last_named : (bodies : Bool) (ts : List Tables) (first : ℕ) (w : List ℕ) → IsNamed w (last_slot bodies ts first w)
last_named bodies [] first w = named_none w
last_named bodies (t ∷ ts) first w =
    named_either w (last_slot bodies ts (first + length t.parts) w) (slot_shown bodies first (slot_named t.slots w)) (last_named bodies ts (first + length t.parts) w) (shown_named bodies first w (slot_named t.slots w) (found_named t.slots w))

laid_named : (is : List ItemTree) (ts : List Tables) (w : List ℕ) → IsNamed w (laid_slot is ts w)
laid_named is ts w =
    named_either w (own_slot 0 (parts_of ts) is w) _ (own_named 0 (parts_of ts) is w)
    (named_either w (last_slot true ts 0 w) _ (last_named true ts 0 w)
    (named_either w (prototype_slot (parts_of ts) is w) (last_slot false ts 0 w) (prototype_named (parts_of ts) is w) (last_named false ts 0 w)))

-- A name that is not among the names has no row.

own_none : (n part : ℕ) (is : List ItemTree) (w : List ℕ) → has (declared_names is) w ≡ false → own_slot n part is w ≡ None
own_none n part [] w h = refl
own_none n part (Inherit line path ∷ is) w h = own_none n part is w h
own_none n part (Proto line ms ty name ps ∷ is) w h = own_none n part is w (no_second (is_name name w) (has (declared_names is) w) h)
own_none n part (Fun line ms ty name ps b ∷ is) w h = ap (λ z. if z then Some (slot w part n ms ty ps) else own_slot (suc n) part is w) (no_first (is_name name w) (has (declared_names is) w) h) ∙ own_none (suc n) part is w (no_second (is_name name w) (has (declared_names is) w) h)
own_none n part (Var line ms base ds ∷ is) w h = own_none n part is w h

prototype_none : (part : ℕ) (is : List ItemTree) (w : List ℕ) → has (declared_names is) w ≡ false → prototype_slot part is w ≡ None
prototype_none part [] w h = refl
prototype_none part (Inherit line path ∷ is) w h = prototype_none part is w h
prototype_none part (Proto line ms ty name ps ∷ is) w h = ap (λ z. if z then Some (slot w part 65535 ms ty ps) else prototype_slot part is w) (no_first (is_name name w) (has (declared_names is) w) h) ∙ prototype_none part is w (no_second (is_name name w) (has (declared_names is) w) h)
prototype_none part (Fun line ms ty name ps b ∷ is) w h = prototype_none part is w (no_second (is_name name w) (has (declared_names is) w) h)
prototype_none part (Var line ms base ds ∷ is) w h = prototype_none part is w h

found_none : (ss : List Slot) (w : List ℕ) → has (map (λ s. s.name) ss) w ≡ false → slot_named ss w ≡ None
found_none [] w h = refl
found_none (s ∷ ss) w h = ap (λ z. if z then Some s else slot_named ss w) (no_first (is_name s.name w) (has (map (λ s. s.name) ss) w) h) ∙ found_none ss w (no_second (is_name s.name w) (has (map (λ s. s.name) ss) w) h)

last_none : (bodies : Bool) (ts : List Tables) (first : ℕ) (w : List ℕ) → has (names_in ts) w ≡ false → last_slot bodies ts first w ≡ None
last_none bodies [] first w h = refl
last_none bodies (t ∷ ts) first w h = let g : has (map (λ s. s.name) t.slots) w || has (names_in ts) w ≡ false = sym (has_both (map (λ s. s.name) t.slots) (names_in ts) w) ∙ h in
    ap (λ z. or_else z (slot_shown bodies first (slot_named t.slots w))) (last_none bodies ts (first + length t.parts) w (no_second (has (map (λ s. s.name) t.slots) w) (has (names_in ts) w) g))
    ∙ ap (slot_shown bodies first) (found_none t.slots w (no_first (has (map (λ s. s.name) t.slots) w) (has (names_in ts) w) g))

laid_none : (is : List ItemTree) (ts : List Tables) (w : List ℕ) → has (names_in ts ++ declared_names is) w ≡ false → laid_slot is ts w ≡ None
laid_none is ts w h = let g : has (names_in ts) w || has (declared_names is) w ≡ false = sym (has_both (names_in ts) (declared_names is) w) ∙ h in
    let a : has (names_in ts) w ≡ false = no_first (has (names_in ts) w) (has (declared_names is) w) g in
    let b : has (declared_names is) w ≡ false = no_second (has (names_in ts) w) (has (declared_names is) w) g in
    ap (λ z. or_else z (or_else (last_slot true ts 0 w) (or_else (prototype_slot (parts_of ts) is w) (last_slot false ts 0 w)))) (own_none 0 (parts_of ts) is w b)
    ∙ ap (λ z. or_else z (or_else (prototype_slot (parts_of ts) is w) (last_slot false ts 0 w))) (last_none true ts 0 w a)
    ∙ ap (λ z. or_else z (last_slot false ts 0 w)) (prototype_none (parts_of ts) is w b)
    ∙ last_none false ts 0 w a

-- The rows for some names have that of each of them.
rows_for : (is : List ItemTree) (ts : List Tables) (ws : List (List ℕ)) (w : List ℕ) → slot_named (laid_for is ts ws) w ≡ (if has ws w then laid_slot is ts w else None)
rows_for is ts [] w = refl
rows_for is ts (x ∷ ws) w = by (rows_for is ts ws w) (laid_slot is ts x) refl (is_name x w) refl
  where
    -- the row of x is another name's
    other : slot_named (laid_for is ts ws) w ≡ (if has ws w then laid_slot is ts w else None) → (s : Slot) → s.name ≡ x → is_name x w ≡ false → slot_named (s ∷ laid_for is ts ws) w ≡ (if has ws w then laid_slot is ts w else None)
    other ih s n e = ap (λ z. if z then Some s else slot_named (laid_for is ts ws) w) (ap (λ z. is_name z w) n ∙ e) ∙ ih

    this : (s : Slot) → s.name ≡ x → is_name x w ≡ true → laid_slot is ts x ≡ Some s → slot_named (s ∷ laid_for is ts ws) w ≡ laid_slot is ts w
    this s n e l = ap (λ z. if z then Some s else slot_named (laid_for is ts ws) w) (ap (λ z. is_name z w) n ∙ e) ∙ sym l ∙ ap (laid_slot is ts) (same_name x w e)

    nothing : (b : Bool) → laid_slot is ts w ≡ None → (if b then laid_slot is ts w else None) ≡ laid_slot is ts w
    nothing true e = refl
    nothing false e = sym e

    by : slot_named (laid_for is ts ws) w ≡ (if has ws w then laid_slot is ts w else None) → (o : Option Slot) → laid_slot is ts x ≡ o → (b : Bool) → is_name x w ≡ b → slot_named (with_slot o (laid_for is ts ws)) w ≡ (if b || has ws w then laid_slot is ts w else None)
    by ih None l false e = ih
    by ih None l true e = ih ∙ nothing (has ws w) (sym (ap (laid_slot is ts) (same_name x w e)) ∙ l)
    by ih (Some s) l false e = other ih s (laid_named is ts x s l) e
    by ih (Some s) l true e = this s (laid_named is ts x s l) e l

-- the row of a name among all rows is the row laid for it
pub row_laid : (is : List ItemTree) (ts : List Tables) (w : List ℕ) → slot_named (laid_slots is ts) w ≡ laid_slot is ts w
row_laid is ts w = rows_for is ts (first_met [] (names_in ts ++ declared_names is)) w ∙ by (has (names_in ts ++ declared_names is) w) refl
  where
    by : (b : Bool) → has (names_in ts ++ declared_names is) w ≡ b → (if has (first_met [] (names_in ts ++ declared_names is)) w then laid_slot is ts w else None) ≡ laid_slot is ts w
    by true e = ap (λ z. if z then laid_slot is ts w else None) (first_has_all (names_in ts ++ declared_names is) w ∙ e)
    by false e = ap (λ z. if z then laid_slot is ts w else None) (first_has_all (names_in ts ++ declared_names is) w ∙ e) ∙ sym (laid_none is ts w e)
