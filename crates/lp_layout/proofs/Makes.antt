-- What maps have for names, when one item, one row or one parent more is looked at.
use Rattle.std.proofs.Common.{◌≡◌, ℕ, zero, suc, ◌+◌, ◌<◌, ◌≤◌, refl, sym, ap, ◌∙◌, arith, Bool, true, false, List, [], ◌∷◌, ◌++◌, length, take, drop, get_or, Option, Some, None, map}
use Rattle.std.specs.Prelude.{if◌then◌else◌, slice_get, is_some}
use Rattle.lp_tree.specs.declared.unit.Item.{Item}
use Rattle.lp_tree.specs.Units.{ItemTree, Inherit, Proto, Fun, Var}
use Rattle.lp_tree.specs.UnitView.{item_of}
use Rattle.lp_code.specs.declared.tables.Slot.{Slot}
use Rattle.lp_code.specs.declared.tables.Tables.{Tables}
use Rattle.lp_instr.specs.EfunList.{is_name}
use Rattle.lp_types_expr.specs.Signatures.{or_else, row_named}
use Rattle.lp_types_expr.proofs.Declaring.{or_assoc, or_none, take_one}
use Rattle.lp_types_expr.proofs.NamesPut.{same_name, turned}
use Rattle.lp_layout.specs.Layout.{functions, own_slot, prototype_slot, slot, slot_named, slot_shown, last_slot, parts_of}

chosen_assoc : {A : Type 0} (b : Bool) (a : A) (x y z : Option A) → x ≡ or_else y z → (if b then Some a else x) ≡ or_else (if b then Some a else y) z
chosen_assoc true a x y z h = refl
chosen_assoc false a x y z h = h

map_snoc : {X Y : Type 0} (f : X → Y) (xs : List X) (x : X) → map f (xs ++ x ∷ []) ≡ map f xs ++ f x ∷ []
map_snoc f [] x = refl
map_snoc f (y ∷ xs) x = ap (λ z. f y ∷ z) (map_snoc f xs x)

-- Items

own_snoc : (n part : ℕ) (is : List ItemTree) (x : ItemTree) (w : List ℕ) → own_slot n part (is ++ x ∷ []) w ≡ or_else (own_slot n part is w) (own_slot (n + functions is) part (x ∷ []) w)
own_snoc n part [] x w = let e : n ≡ n + 0 = omega arith in ap (λ k. own_slot k part (x ∷ []) w) e
own_snoc n part (Inherit l p ∷ is) x w = own_snoc n part is x w
own_snoc n part (Proto l ms ty m ps ∷ is) x w = own_snoc n part is x w
own_snoc n part (Fun l ms ty m ps b ∷ is) x w =
    let e : suc n + functions is ≡ n + suc (functions is) = omega arith in
    chosen_assoc (is_name m w) (slot w part n ms ty ps) (own_slot (suc n) part (is ++ x ∷ []) w) (own_slot (suc n) part is w) (own_slot (n + suc (functions is)) part (x ∷ []) w)
    (own_snoc (suc n) part is x w ∙ ap (λ k. or_else (own_slot (suc n) part is w) (own_slot k part (x ∷ []) w)) e)
own_snoc n part (Var l ms b ds ∷ is) x w = own_snoc n part is x w

prototype_snoc : (part : ℕ) (is : List ItemTree) (x : ItemTree) (w : List ℕ) → prototype_slot part (is ++ x ∷ []) w ≡ or_else (prototype_slot part is w) (prototype_slot part (x ∷ []) w)
prototype_snoc part [] x w = refl
prototype_snoc part (Inherit l p ∷ is) x w = prototype_snoc part is x w
prototype_snoc part (Proto l ms ty m ps ∷ is) x w =
    chosen_assoc (is_name m w) (slot w part 65535 ms ty ps) (prototype_slot part (is ++ x ∷ []) w) (prototype_slot part is w) (prototype_slot part (x ∷ []) w) (prototype_snoc part is x w)
prototype_snoc part (Fun l ms ty m ps b ∷ is) x w = prototype_snoc part is x w
prototype_snoc part (Var l ms b ds ∷ is) x w = prototype_snoc part is x w

-- one item more among those that a slice has
items_next : (is : List Item) (i : ℕ) (x : Item) → i < length is → x ≡ get_or is i x → map item_of (take (i + 1) is) ≡ map item_of (take i is) ++ item_of x ∷ []
items_next is i x h e =
    let f : suc i ≡ i + 1 = omega arith in
    ap (λ n. map item_of (take n is)) (sym f) ∙ ap (map item_of) (take_one is i x h e) ∙ map_snoc item_of (take i is) x

functions_snoc : (is : List ItemTree) (x : ItemTree) → functions (is ++ x ∷ []) ≡ functions is + functions (x ∷ [])
functions_snoc [] x = let e : functions (x ∷ []) ≡ 0 + functions (x ∷ []) = omega arith in e
functions_snoc (Inherit l p ∷ is) x = functions_snoc is x
functions_snoc (Proto l ms ty m ps ∷ is) x = functions_snoc is x
functions_snoc (Fun l ms ty m ps b ∷ is) x = let h : functions (is ++ x ∷ []) ≡ functions is + functions (x ∷ []) = functions_snoc is x in omega (arith, h)
functions_snoc (Var l ms b ds ∷ is) x = functions_snoc is x

pub functions_next : (is : List Item) (i : ℕ) (x : Item) → i < length is → x ≡ get_or is i x → functions (map item_of (take (i + 1) is)) ≡ functions (map item_of (take i is)) + functions (item_of x ∷ [])
functions_next is i x h e = ap functions (items_next is i x h e) ∙ functions_snoc (map item_of (take i is)) (item_of x)

more_functions : (x : ItemTree) (a b : List ItemTree) → functions a ≤ functions b → functions (x ∷ a) ≤ functions (x ∷ b)
more_functions (Inherit l p) a b h = h
more_functions (Proto l ms ty m ps) a b h = h
more_functions (Fun l ms ty m ps c) a b h = omega (arith, h)
more_functions (Var l ms c ds) a b h = h

pub functions_least : (is : List Item) (i : ℕ) → functions (map item_of (take i is)) ≤ functions (map item_of is)
functions_least [] zero = omega arith
functions_least [] (suc i) = omega arith
functions_least (x ∷ is) zero = omega arith
functions_least (x ∷ is) (suc i) = more_functions (item_of x) (map item_of (take i is)) (map item_of is) (functions_least is i)

pub functions_few : (x : Item) → functions (item_of x ∷ []) ≤ 1
functions_few x = by (item_of x)
  where
    by : (t : ItemTree) → functions (t ∷ []) ≤ 1
    by (Inherit l p) = omega arith
    by (Proto l ms ty m ps) = omega arith
    by (Fun l ms ty m ps b) = omega arith
    by (Var l ms b ds) = omega arith

pub own_next : (part : ℕ) (is : List Item) (i : ℕ) (x : Item) → i < length is → x ≡ get_or is i x → (n : ℕ) → n ≡ functions (map item_of (take i is)) → (start before after : List ℕ → Option Slot)
    → ((w : List ℕ) → before w ≡ or_else (start w) (own_slot 0 part (map item_of (take i is)) w)) → ((w : List ℕ) → after w ≡ or_else (before w) (own_slot n part (item_of x ∷ []) w))
    → (w : List ℕ) → after w ≡ or_else (start w) (own_slot 0 part (map item_of (take (i + 1) is)) w)
own_next part is i x h e n c start before after p q w =
    let f : n ≡ 0 + functions (map item_of (take i is)) = omega (arith, c) in
    q w ∙ ap (λ o. or_else o (own_slot n part (item_of x ∷ []) w)) (p w) ∙ or_assoc (start w) (own_slot 0 part (map item_of (take i is)) w) (own_slot n part (item_of x ∷ []) w)
    ∙ ap (λ k. or_else (start w) (or_else (own_slot 0 part (map item_of (take i is)) w) (own_slot k part (item_of x ∷ []) w))) f
    ∙ ap (or_else (start w)) (sym (own_snoc 0 part (map item_of (take i is)) (item_of x) w) ∙ ap (λ l. own_slot 0 part l w) (sym (items_next is i x h e)))

pub prototype_next : (part : ℕ) (is : List Item) (i : ℕ) (x : Item) → i < length is → x ≡ get_or is i x → (start before after : List ℕ → Option Slot)
    → ((w : List ℕ) → before w ≡ or_else (start w) (prototype_slot part (map item_of (take i is)) w)) → ((w : List ℕ) → after w ≡ or_else (before w) (prototype_slot part (item_of x ∷ []) w))
    → (w : List ℕ) → after w ≡ or_else (start w) (prototype_slot part (map item_of (take (i + 1) is)) w)
prototype_next part is i x h e start before after p q w =
    q w ∙ ap (λ o. or_else o (prototype_slot part (item_of x ∷ []) w)) (p w) ∙ or_assoc (start w) (prototype_slot part (map item_of (take i is)) w) (prototype_slot part (item_of x ∷ []) w)
    ∙ ap (or_else (start w)) (sym (prototype_snoc part (map item_of (take i is)) (item_of x) w) ∙ ap (λ l. prototype_slot part l w) (sym (items_next is i x h e)))

-- Rows of a parent

one_row : (s : Slot) (a b : Bool) (x y : Option Slot) → a ≡ b → x ≡ y → (if a then Some s else x) ≡ (if b then Some s else y)
one_row s a true x y e h = ap (λ c. if c then Some s else x) e
one_row s a false x y e h = ap (λ c. if c then Some s else x) e ∙ h

pub same_rows : (ss : List Slot) (w : List ℕ) → slot_named ss w ≡ row_named ss w
same_rows [] w = refl
same_rows (s ∷ ss) w = one_row s (is_name s.name w) (is_name w s.name) (slot_named ss w) (row_named ss w) (turned s.name w) (same_rows ss w)

slot_snoc : (ss : List Slot) (s : Slot) (w : List ℕ) → slot_named (ss ++ s ∷ []) w ≡ or_else (slot_named ss w) (slot_named (s ∷ []) w)
slot_snoc [] s w = refl
slot_snoc (r ∷ ss) s w = chosen_assoc (is_name r.name w) r (slot_named (ss ++ s ∷ []) w) (slot_named ss w) (slot_named (s ∷ []) w) (slot_snoc ss s w)

take_next : (rs : List Slot) (i : ℕ) (s : Slot) → slice_get rs i ≡ Some s → take (suc i) rs ≡ take i rs ++ s ∷ []
take_next [] i s h = absurd cc
take_next (r ∷ rs) zero s h = let e : r ≡ s = cc in ap (λ z. z ∷ []) e
take_next (r ∷ rs) (suc i) s h = ap (λ z. r ∷ z) (take_next rs i s h)

slot_next : (ss : List Slot) (i : ℕ) (s : Slot) (w : List ℕ) → slice_get ss i ≡ Some s → slot_named (take (i + 1) ss) w ≡ or_else (slot_named (take i ss) w) (slot_named (s ∷ []) w)
slot_next ss i s w h =
    let f : suc i ≡ i + 1 = omega arith in
    ap (λ n. slot_named (take n ss) w) (sym f) ∙ ap (λ l. slot_named l w) (take_next ss i s h) ∙ slot_snoc (take i ss) s w

nothing : (x : Option Slot) → is_some x ≡ false → x ≡ None
nothing None h = refl
nothing (Some s) h = absurd cc

other_name : (s : Slot) (w : List ℕ) → is_name s.name w ≡ false → slot_named (s ∷ []) w ≡ None
other_name s w h = ap (λ b. if b then Some s else None) h

shown_new : (bodies : Bool) (first : ℕ) (m x y : Option Slot) → x ≡ None → or_else (or_else m (slot_shown bodies first x)) (slot_shown bodies first y) ≡ or_else m (slot_shown bodies first (or_else x y))
shown_new bodies first m x y h =
    ap (λ o. or_else (or_else m (slot_shown bodies first o)) (slot_shown bodies first y)) h ∙ ap (λ o. or_else o (slot_shown bodies first y)) (or_none m)
    ∙ ap (λ o. or_else m (slot_shown bodies first (or_else o y))) (sym h)

shown_old : (bodies : Bool) (first : ℕ) (m x y : Option Slot) → y ≡ None → or_else (or_else m (slot_shown bodies first x)) (slot_shown bodies first y) ≡ or_else m (slot_shown bodies first (or_else x y))
shown_old bodies first m x y h =
    ap (λ o. or_else (or_else m (slot_shown bodies first x)) (slot_shown bodies first o)) h ∙ or_none (or_else m (slot_shown bodies first x))
    ∙ ap (λ o. or_else m (slot_shown bodies first o)) (sym (ap (or_else x) h ∙ or_none x))

-- a row that is the first of its name
pub place_first : (bodies : Bool) (first : ℕ) (ss : List Slot) (i : ℕ) (s : Slot) → slice_get ss i ≡ Some s → is_some (row_named (take i ss) s.name) ≡ false → (start before after : List ℕ → Option Slot)
    → ((w : List ℕ) → before w ≡ or_else (start w) (slot_shown bodies first (slot_named (take i ss) w))) → ((w : List ℕ) → after w ≡ or_else (before w) (slot_shown bodies first (slot_named (s ∷ []) w)))
    → (w : List ℕ) → after w ≡ or_else (start w) (slot_shown bodies first (slot_named (take (i + 1) ss) w))
place_first bodies first ss i s h new start before after p q w =
    q w ∙ ap (λ o. or_else o (slot_shown bodies first (slot_named (s ∷ []) w))) (p w) ∙ go (is_name s.name w) refl
    ∙ ap (λ o. or_else (start w) (slot_shown bodies first o)) (sym (slot_next ss i s w h))
  where
    go : (b : Bool) → is_name s.name w ≡ b → or_else (or_else (start w) (slot_shown bodies first (slot_named (take i ss) w))) (slot_shown bodies first (slot_named (s ∷ []) w)) ≡ or_else (start w) (slot_shown bodies first (or_else (slot_named (take i ss) w) (slot_named (s ∷ []) w)))
    go true e = shown_new bodies first (start w) (slot_named (take i ss) w) (slot_named (s ∷ []) w) (same_rows (take i ss) w ∙ ap (row_named (take i ss)) (sym (same_name s.name w e)) ∙ nothing (row_named (take i ss) s.name) new)
    go false e = shown_old bodies first (start w) (slot_named (take i ss) w) (slot_named (s ∷ []) w) (other_name s w e)

kept : (x y : Option Slot) → is_some x ≡ true → x ≡ or_else x y
kept None y h = absurd cc
kept (Some s) y h = refl

-- a row of which an earlier one has the name
pub place_later : (bodies : Bool) (first : ℕ) (ss : List Slot) (i : ℕ) (s : Slot) → slice_get ss i ≡ Some s → is_some (row_named (take i ss) s.name) ≡ true → (start before : List ℕ → Option Slot)
    → ((w : List ℕ) → before w ≡ or_else (start w) (slot_shown bodies first (slot_named (take i ss) w)))
    → (w : List ℕ) → before w ≡ or_else (start w) (slot_shown bodies first (slot_named (take (i + 1) ss) w))
place_later bodies first ss i s h old start before p w =
    p w ∙ ap (λ o. or_else (start w) (slot_shown bodies first o)) (go (is_name s.name w) refl ∙ sym (slot_next ss i s w h))
  where
    go : (b : Bool) → is_name s.name w ≡ b → slot_named (take i ss) w ≡ or_else (slot_named (take i ss) w) (slot_named (s ∷ []) w)
    go true e = kept (slot_named (take i ss) w) (slot_named (s ∷ []) w) (ap is_some (same_rows (take i ss) w ∙ ap (row_named (take i ss)) (sym (same_name s.name w e))) ∙ old)
    go false e = sym (ap (or_else (slot_named (take i ss) w)) (other_name s w e) ∙ or_none (slot_named (take i ss) w))

-- Parents, the last first

drop_one : {A : Type 0} (xs : List A) (i : ℕ) (x : A) → i < length xs → x ≡ get_or xs i x → drop i xs ≡ x ∷ drop (suc i) xs
drop_one [] i x h e = absurd (omega (arith, h))
drop_one (y ∷ ys) zero x h e = ap (λ z. z ∷ ys) (sym e)
drop_one (y ∷ ys) (suc i) x h e = drop_one ys i x (omega (arith, h)) e

parts_snoc : (ts : List Tables) (t : Tables) → parts_of (ts ++ t ∷ []) ≡ parts_of ts + length t.parts
parts_snoc [] t = let e : length t.parts + 0 ≡ 0 + length t.parts = omega arith in e
parts_snoc (s ∷ ts) t = let h : parts_of (ts ++ t ∷ []) ≡ parts_of ts + length t.parts = parts_snoc ts t in omega (arith, h)

pub parts_next : (ts : List Tables) (i : ℕ) (t : Tables) → i < length ts → t ≡ get_or ts i t → parts_of (take (i + 1) ts) ≡ parts_of (take i ts) + length t.parts
parts_next ts i t h e =
    let f : suc i ≡ i + 1 = omega arith in
    ap (λ n. parts_of (take n ts)) (sym f) ∙ ap parts_of (take_one ts i t h e) ∙ parts_snoc (take i ts) t

pub parts_last : (ts : List Tables) (i : ℕ) (t : Tables) (n : ℕ) → i < length ts → t ≡ get_or ts i t → n ≡ i + 1 → parts_of (take n ts) ≡ parts_of (take i ts) + length t.parts
parts_last ts i t n h e en = ap (λ k. parts_of (take k ts)) en ∙ parts_next ts i t h e

pub parts_least : (ts : List Tables) (i : ℕ) → parts_of (take i ts) ≤ parts_of ts
parts_least [] zero = omega arith
parts_least [] (suc i) = omega arith
parts_least (t ∷ ts) zero = omega arith
parts_least (t ∷ ts) (suc i) = let h : parts_of (take i ts) ≤ parts_of ts = parts_least ts i in omega (arith, h)

pub parent_before : (bodies : Bool) (ts : List Tables) (i : ℕ) (t : Tables) (n f : ℕ) → i < length ts → t ≡ get_or ts i t → n ≡ i + 1 → f ≡ parts_of (take i ts) → (start before after : List ℕ → Option Slot)
    → ((w : List ℕ) → before w ≡ or_else (start w) (last_slot bodies (drop n ts) (parts_of (take n ts)) w)) → ((w : List ℕ) → after w ≡ or_else (before w) (slot_shown bodies f (slot_named t.slots w)))
    → (w : List ℕ) → after w ≡ or_else (start w) (last_slot bodies (drop i ts) (parts_of (take i ts)) w)
parent_before bodies ts i t n f h e en ef start before after p q w =
    let g : n ≡ suc i = omega (arith, en) in
    let c : parts_of (take n ts) ≡ parts_of (take i ts) + length t.parts = ap (λ k. parts_of (take k ts)) en ∙ parts_next ts i t h e in
    q w ∙ ap (λ o. or_else o (slot_shown bodies f (slot_named t.slots w))) (p w)
    ∙ or_assoc (start w) (last_slot bodies (drop n ts) (parts_of (take n ts)) w) (slot_shown bodies f (slot_named t.slots w))
    ∙ ap (λ k. or_else (start w) (or_else (last_slot bodies (drop k ts) (parts_of (take n ts)) w) (slot_shown bodies f (slot_named t.slots w)))) g
    ∙ ap (λ k. or_else (start w) (or_else (last_slot bodies (drop (suc i) ts) k w) (slot_shown bodies f (slot_named t.slots w)))) c
    ∙ ap (λ k. or_else (start w) (or_else (last_slot bodies (drop (suc i) ts) (parts_of (take i ts) + length t.parts) w) (slot_shown bodies k (slot_named t.slots w)))) ef
    ∙ ap (λ l. or_else (start w) (last_slot bodies l (parts_of (take i ts)) w)) (sym (drop_one ts i t h e))
