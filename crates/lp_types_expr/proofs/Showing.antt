-- What tables show, when one row or one parent more comes.
use Rattle.std.proofs.Common.{◌≡◌, ℕ, zero, suc, ◌+◌, ◌<◌, refl, sym, ap, ◌∙◌, arith, Bool, true, false, not, List, [], ◌∷◌, ◌++◌, length, take, get_or, Option, Some, None, cond}
use Rattle.std.proofs.lemmas.Bool.Decides.{nat_tests}
use Rattle.std.specs.Prelude.{nat_eq, if◌then◌else◌, slice_get, is_some, option_map}
use Rattle.lp_code.specs.declared.tables.Slot.{Slot}
use Rattle.lp_code.specs.declared.tables.VarRow.{VarRow}
use Rattle.lp_code.specs.declared.tables.Tables.{Tables}
use Rattle.lp_code.specs.Slots.{first_place}
use Rattle.lp_instr.specs.EfunList.{is_name}
use Rattle.lp_types_expr.specs.Signatures.{Signature, or_else, row_named, row_kind, inherited_kind, last_shown, shown_if, is_private_number}
use Rattle.lp_types_expr.proofs.NamesPut.{same_name}
use Rattle.lp_types_expr.proofs.Declaring.{or_none, or_assoc}
use Rattle.std.specs.Cmp.Lexicographic.{nat_list_eq_equiv}

pub row_kind_snoc : (vs : List VarRow) (v : VarRow) (w : List ℕ) → row_kind (vs ++ v ∷ []) w ≡ or_else (row_kind (v ∷ []) w) (row_kind vs w)
row_kind_snoc [] v w = sym (or_none (row_kind (v ∷ []) w))
row_kind_snoc (u ∷ vs) v w = ap (λ o. or_else o (if is_private_number u.mods then None else if is_name w u.name then Some u.kind else None)) (row_kind_snoc vs v w)
    ∙ or_assoc (row_kind (v ∷ []) w) (row_kind vs w) (if is_private_number u.mods then None else if is_name w u.name then Some u.kind else None)

pub inherited_snoc : (ts : List Tables) (t : Tables) (w : List ℕ) → inherited_kind (ts ++ t ∷ []) w ≡ or_else (inherited_kind (t ∷ []) w) (inherited_kind ts w)
inherited_snoc [] t w = sym (or_none (inherited_kind (t ∷ []) w))
inherited_snoc (s ∷ ts) t w = ap (λ o. or_else o (row_kind s.vars w)) (inherited_snoc ts t w) ∙ or_assoc (inherited_kind (t ∷ []) w) (inherited_kind ts w) (row_kind s.vars w)

pub shown_snoc : (bodies : Bool) (ts : List Tables) (t : Tables) (w : List ℕ) → last_shown bodies (ts ++ t ∷ []) w ≡ or_else (last_shown bodies (t ∷ []) w) (last_shown bodies ts w)
shown_snoc bodies [] t w = sym (or_none (last_shown bodies (t ∷ []) w))
shown_snoc bodies (s ∷ ts) t w = ap (λ o. or_else o (shown_if bodies (row_named s.slots w))) (shown_snoc bodies ts t w) ∙ or_assoc (last_shown bodies (t ∷ []) w) (last_shown bodies ts w) (shown_if bodies (row_named s.slots w))

row_step : (b : Bool) (r : Slot) (x y z : Option Slot) → x ≡ or_else y z → (if b then Some r else x) ≡ or_else (if b then Some r else y) z
row_step true r x y z h = refl
row_step false r x y z h = h

-- the first row of a name stays, where one more comes
row_snoc : (rs : List Slot) (s : Slot) (w : List ℕ) → row_named (rs ++ s ∷ []) w ≡ or_else (row_named rs w) (row_named (s ∷ []) w)
row_snoc [] s w = refl
row_snoc (r ∷ rs) s w = row_step (is_name w r.name) r (row_named (rs ++ s ∷ []) w) (row_named rs w) (row_named (s ∷ []) w) (row_snoc rs s w)

abbrev pub place_is : Option ℕ → ℕ → Bool
place_is None n = false
place_is (Some m) n = nat_eq m n

eq_suc : (m n : ℕ) → nat_eq m n ≡ nat_eq (suc m) (suc n)
eq_suc m n = grind (arith, nat_tests)

zero_suc : (i : ℕ) → nat_eq 0 (suc i) ≡ false
zero_suc i = grind (arith, nat_tests)

suc_place : (x : Option ℕ) (i : ℕ) → place_is x i ≡ place_is (option_map suc x) (suc i)
suc_place None i = refl
suc_place (Some m) i = eq_suc m i

later : (b : Bool) (x : Option Slot) (r : Slot) (y : Option ℕ) (i : ℕ) → is_some x ≡ not (place_is y i) → is_some (if b then Some r else x) ≡ not (place_is (cond b (Some 0) (option_map suc y)) (suc i))
later true x r y i h = ap not (sym (zero_suc i))
later false x r y i h = h ∙ ap not (suc_place y i)

-- a row is the first of its name where its name's first place is its own
pub first_row : (rs : List Slot) (i : ℕ) (s : Slot) → slice_get rs i ≡ Some s → is_some (row_named (take i rs) s.name) ≡ not (place_is (first_place s.name rs) i)
first_row [] i s h = absurd cc
first_row (r ∷ rs) zero s h = let e : r ≡ s = cc in ap (λ b. not (place_is (cond b (Some 0) (option_map suc (first_place s.name rs))) 0)) (sym (ap (λ (x : Slot). is_name s.name x.name) e ∙ nat_list_eq_equiv.refl s.name))
first_row (r ∷ rs) (suc i) s h = later (is_name s.name r.name) (row_named (take i rs) s.name) r (first_place s.name rs) i (first_row rs i s h)

known_first : (bodies : Bool) (x : Option Slot) (y : Option Slot) (m : Option Signature) → is_some x ≡ false → or_else (shown_if bodies y) (or_else (shown_if bodies x) m) ≡ or_else (shown_if bodies (or_else x y)) m
known_first bodies None y m h = refl
known_first bodies (Some r) y m h = absurd cc

known_later : (bodies : Bool) (x : Option Slot) (y : Option Slot) (m : Option Signature) → is_some x ≡ true → or_else (shown_if bodies x) m ≡ or_else (shown_if bodies (or_else x y)) m
known_later bodies None y m h = absurd cc
known_later bodies (Some r) y m h = refl

other_name : (s : Slot) (w : List ℕ) → is_name w s.name ≡ false → row_named (s ∷ []) w ≡ None
other_name s w h = ap (λ b. if b then Some s else None) h

take_next : (rs : List Slot) (i : ℕ) (s : Slot) → slice_get rs i ≡ Some s → take (suc i) rs ≡ take i rs ++ s ∷ []
take_next [] i s h = absurd cc
take_next (r ∷ rs) zero s h = let e : r ≡ s = cc in ap (λ z. z ∷ []) e
take_next (r ∷ rs) (suc i) s h = ap (λ z. r ∷ z) (take_next rs i s h)

next_rows : (bodies : Bool) (rs : List Slot) (i : ℕ) (s : Slot) (w : List ℕ) (m : Option Signature) → slice_get rs i ≡ Some s → or_else (shown_if bodies (or_else (row_named (take i rs) w) (row_named (s ∷ []) w))) m ≡ or_else (shown_if bodies (row_named (take (i + 1) rs) w)) m
next_rows bodies rs i s w m h =
    let f : suc i ≡ i + 1 = omega arith in
    ap (λ o. or_else (shown_if bodies o) m) (sym (row_snoc (take i rs) s w) ∙ ap (λ l. row_named l w) (sym (take_next rs i s h)) ∙ ap (λ n. row_named (take n rs) w) f)

unknown : (bodies : Bool) (x : Option Slot) (y : Option Slot) (m : Option Signature) → y ≡ None → or_else (shown_if bodies x) m ≡ or_else (shown_if bodies (or_else x y)) m
unknown bodies x y m h = ap (λ o. or_else (shown_if bodies o) m) (sym (ap (or_else x) h ∙ or_none x))

-- a row that is the first of its name
pub row_first : (bodies : Bool) (rs : List Slot) (i : ℕ) (s : Slot) → slice_get rs i ≡ Some s → is_some (row_named (take i rs) s.name) ≡ false → (start before after : List ℕ → Option Signature)
    → ((w : List ℕ) → before w ≡ or_else (shown_if bodies (row_named (take i rs) w)) (start w)) → ((w : List ℕ) → after w ≡ or_else (shown_if bodies (row_named (s ∷ []) w)) (before w))
    → (w : List ℕ) → after w ≡ or_else (shown_if bodies (row_named (take (i + 1) rs) w)) (start w)
row_first bodies rs i s h new start before after p q w =
    q w ∙ ap (or_else (shown_if bodies (row_named (s ∷ []) w))) (p w) ∙ go (is_name w s.name) refl ∙ next_rows bodies rs i s w (start w) h
  where
    go : (b : Bool) → is_name w s.name ≡ b → or_else (shown_if bodies (row_named (s ∷ []) w)) (or_else (shown_if bodies (row_named (take i rs) w)) (start w)) ≡ or_else (shown_if bodies (or_else (row_named (take i rs) w) (row_named (s ∷ []) w))) (start w)
    go true e = known_first bodies (row_named (take i rs) w) (row_named (s ∷ []) w) (start w) (ap (λ n. is_some (row_named (take i rs) n)) (same_name w s.name e) ∙ new)
    go false e = ap (λ o. or_else (shown_if bodies o) (or_else (shown_if bodies (row_named (take i rs) w)) (start w))) (other_name s w e) ∙ unknown bodies (row_named (take i rs) w) (row_named (s ∷ []) w) (start w) (other_name s w e)

-- a row of which an earlier one has the name
pub row_later : (bodies : Bool) (rs : List Slot) (i : ℕ) (s : Slot) → slice_get rs i ≡ Some s → is_some (row_named (take i rs) s.name) ≡ true → (start before : List ℕ → Option Signature)
    → ((w : List ℕ) → before w ≡ or_else (shown_if bodies (row_named (take i rs) w)) (start w))
    → (w : List ℕ) → before w ≡ or_else (shown_if bodies (row_named (take (i + 1) rs) w)) (start w)
row_later bodies rs i s h old start before p w =
    p w ∙ go (is_name w s.name) refl ∙ next_rows bodies rs i s w (start w) h
  where
    go : (b : Bool) → is_name w s.name ≡ b → or_else (shown_if bodies (row_named (take i rs) w)) (start w) ≡ or_else (shown_if bodies (or_else (row_named (take i rs) w) (row_named (s ∷ []) w))) (start w)
    go true e = known_later bodies (row_named (take i rs) w) (row_named (s ∷ []) w) (start w) (ap (λ n. is_some (row_named (take i rs) n)) (same_name w s.name e) ∙ old)
    go false e = unknown bodies (row_named (take i rs) w) (row_named (s ∷ []) w) (start w) (other_name s w e)

pub get_from : {X : Type 0} (xs : List X) (i : ℕ) (x : X) → i < length xs → x ≡ get_or xs i x → slice_get xs i ≡ Some x
get_from [] i x h e = absurd (omega (arith, h))
get_from (y ∷ xs) zero x h e = ap Some (sym e)
get_from (y ∷ xs) (suc i) x h e = get_from xs i x (omega (arith, h)) e

pub was_first : (a b : Bool) → a ≡ not b → b ≡ true → a ≡ false
was_first a b h e = h ∙ ap not e

pub was_later : (a b : Bool) → a ≡ not b → b ≡ false → a ≡ true
was_later a b h e = h ∙ ap not e
