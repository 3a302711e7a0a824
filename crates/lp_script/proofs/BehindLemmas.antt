-- What stands at a place of a script.
use Rattle.std.proofs.Common.{◌≡◌, ap, sym, refl, ◌∙◌, subst, ℕ, ◌+◌, ◌-◌, ◌<◌, ◌≤◌, Bool, true, false, List, ◌++◌, Result, Ok, Err, length, take, drop, arith, inl, inr}
use Rattle.std.specs.Borrow.{Bor}
use Rattle.std.proofs.lemmas.List.{take_all, length-append, length-drop, drop-drop, drop_at}
use Rattle.lp_events.specs.declared.event.Event.TheVariants.{Connect, Line, Gone, Tick, Reload, Swap}
use Rattle.lp_events.specs.declared.item.Item.{Item}
use Rattle.lp_events.specs.declared.item.Item.TheVariants as items
use Rattle.lp_events.specs.Script.{Context, spelling, event_spelling, BeginsWith}
use Rattle.lp_script.specs.declared.stop.Stop.{Stop}
use Rattle.lp_script.specs.declared.stop.Stop.TheVariants.{Short, Wrong}
use Rattle.lp_script.specs.declared.stop.ReadError.{ReadError}
use Rattle.lp_script.specs.declared.stop.ReadError.TheVariants as errors
use Rattle.lp_script.specs.declared.behind.Refusal.TheVariants.{Bad, Large}
use Rattle.lp_script.specs.Reads.{ReadsItem}
use Rattle.lp_script.specs.Behind.{Behind}

spelled_some : (x : Item) → 0 < length (spelling x)
unfolding spelling event_spelling
spelled_some (items.Head seed moment) = omega arith
spelled_some (items.File path bytes) = omega arith
spelled_some items.Start = omega arith
spelled_some (items.Event (Connect k)) = omega arith
spelled_some (items.Event (Line k bytes)) = omega arith
spelled_some (items.Event (Gone k)) = omega arith
spelled_some (items.Event (Tick moment)) = omega arith
spelled_some (items.Event (Reload path bytes)) = omega arith
spelled_some (items.Event (Swap name)) = omega arith
spelled_some items.End = omega arith

none_begins : (c : Context) (bytes : List ℕ) (cut : ℕ) → cut ≡ length bytes → (x : Item) → BeginsWith c (drop cut bytes) x → ⊥
none_begins c bytes cut same x b =
    omega (arith, spelled_some x, ap length b.spelled, length-append (spelling x) b.others, length-drop cut bytes, same)

pub bad_at_end : (c : Context) (bytes : List ℕ) (whole : Bool) (cut : ℕ) → cut ≡ length bytes → whole ≡ true → Behind c bytes whole cut (Err (Bad cut))
bad_at_end c bytes whole cut same is = (refl, none_begins c bytes cut same, inl is)

pub large_at_end : (c : Context) (bytes : List ℕ) (whole : Bool) (cut : ℕ) → cut ≡ length bytes → whole ≡ false → Behind c bytes whole cut (Err Large)
large_at_end c bytes whole cut same is = (is, none_begins c bytes cut same, inl same)

from_cut : (cut : ℕ) (bytes : List ℕ) → take (length bytes - cut) (drop cut bytes) ≡ drop cut bytes
from_cut cut bytes = take_all (length bytes - cut) (drop cut bytes) (omega (arith, length-drop cut bytes))

pub found_item : (c : Context) (bytes : List ℕ) (whole : Bool) (cut : ℕ) (x : Item) (rest : Bor (List ℕ)) → cut ≤ length bytes → ReadsItem c (take (length bytes - cut) (drop cut bytes)) (Ok (x, rest)) → Behind c bytes whole cut (Ok (x, length bytes - length rest.now))
found_item c bytes whole cut x rest within f =
    let e : drop cut bytes ≡ spelling x ++ rest.now = sym (from_cut cut bytes) ∙ f.1 in
    let n : length bytes - cut ≡ length (spelling x) + length rest.now = omega (arith, ap length e, length-append (spelling x) rest.now, length-drop cut bytes) in
    let at : cut + length (spelling x) ≡ length bytes - length rest.now = omega (arith, n) in
    let behind : drop (length bytes - length rest.now) bytes ≡ rest.now = ap (λ (i : ℕ). drop i bytes) (sym at) ∙ sym (drop-drop (length (spelling x)) cut bytes) ∙ ap (drop (length (spelling x))) e ∙ drop_at (spelling x) rest.now (length (spelling x)) refl in
    (f.0, omega arith, e ∙ ap (λ (r : List ℕ). spelling x ++ r) (sym behind))

-- which refusal an answer is
module _ (r : Result (Item × Bor (List ℕ)) ReadError) (e : ReadError) (t : Stop) (is : r ≡ Err e) (which : e ≡ errors.Stop t) where
  pub as_stop : (u : Stop) → t ≡ u → r ≡ Err (errors.Stop u)
  as_stop u f = is ∙ ap (λ (x : ReadError). error x) (which ∙ ap errors.Stop f)
    where
      error : ReadError → Result (Item × Bor (List ℕ)) ReadError
      error x = Err x

pub wrong_item : (c : Context) (bytes : List ℕ) (whole : Bool) (cut : ℕ) → cut ≤ length bytes → (cut ≡ length bytes → ⊥) → (r : Result (Item × Bor (List ℕ)) ReadError) → r ≡ Err (errors.Stop Wrong) → ReadsItem c (take (length bytes - cut) (drop cut bytes)) r → Behind c bytes whole cut (Err (Bad cut))
wrong_item c bytes whole cut within other r is f =
    let g = subst (λ (r : List ℕ). ReadsItem c r (Err (errors.Stop Wrong))) (from_cut cut bytes) (subst (λ (y : Result (Item × Bor (List ℕ)) ReadError). ReadsItem c (take (length bytes - cut) (drop cut bytes)) y) is f) in
    (refl, g.1, inr (omega arith, g.0))

pub short_item : (c : Context) (bytes : List ℕ) (whole : Bool) (cut : ℕ) → whole ≡ true → (r : Result (Item × Bor (List ℕ)) ReadError) → r ≡ Err (errors.Stop Short) → ReadsItem c (take (length bytes - cut) (drop cut bytes)) r → Behind c bytes whole cut (Err (Bad cut))
short_item c bytes whole cut is r e f =
    let g = subst (λ (r : List ℕ). ReadsItem c r (Err (errors.Stop Short))) (from_cut cut bytes) (subst (λ (y : Result (Item × Bor (List ℕ)) ReadError). ReadsItem c (take (length bytes - cut) (drop cut bytes)) y) e f) in
    (refl, g.1, inl is)

pub large_item : (c : Context) (bytes : List ℕ) (whole : Bool) (cut : ℕ) → whole ≡ false → (r : Result (Item × Bor (List ℕ)) ReadError) → r ≡ Err (errors.Stop Short) → ReadsItem c (take (length bytes - cut) (drop cut bytes)) r → Behind c bytes whole cut (Err Large)
large_item c bytes whole cut is r e f =
    let g = subst (λ (r : List ℕ). ReadsItem c r (Err (errors.Stop Short))) (from_cut cut bytes) (subst (λ (y : Result (Item × Bor (List ℕ)) ReadError). ReadsItem c (take (length bytes - cut) (drop cut bytes)) y) e f) in
    (is, g.1, inr g.0)
