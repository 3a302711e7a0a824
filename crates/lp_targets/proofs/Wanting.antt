-- Functions that are wanted.
use Rattle.std.proofs.Common.{◌≡◌, ◌∙◌, ◌≤◌, ℕ, arith, Bool, true, false, ◌&&◌, ◌||◌, not, nat_eq, List, [], ◌∷◌, Option, Some, None, refl, ap, sym, subst, ◌%◌, ◌/◌}
use Rattle.std.specs.Prelude.{◌+◌, ◌*◌, if◌then◌else◌}
use Rattle.lp_tree.specs.declared.keyword.Modifier.{Modifier}
use Rattle.lp_tree.specs.declared.keyword.Modifier.TheVariants.{Private, Protected, Public, Static, Nosave, Nomask, Varargs}
use Rattle.lp_values.specs.declared.id.ObjId.{ObjId}
use Rattle.lp_code.specs.declared.program.RawProgram.{RawProgram}
use Rattle.lp_code.specs.declared.tables.Slot.{Slot}
use Rattle.lp_language.specs.World.{World}
use Rattle.lp_language.specs.Resolve.{Found, Heritage, callable_found, function_of, heritage_of, is_callable, is_private, is_protected, is_protected_word, is_static, is_static_word, resolve, shown}
use Rattle.lp_isa.specs.Programs.{IsReached}
use Rattle.lp_types_expr.specs.Signatures.{has_bit, has_function}
use Rattle.lp_layout.specs.Layout.{bit_of, bits, bits_from, digit, has_word, slot_named}
use Rattle.lp_inherit.specs.Heirs.{MeansTheSame, with_function}
use Rattle.lp_inherit.proofs.Meanings.{private_bit}
use Rattle.lp_plan_laws.specs.Tables.{reached_by}
use Rattle.lp_part_laws.specs.Versions.{FitsVersion}
use Rattle.lp_part_laws.specs.Parts.{reached_in}
use Rattle.lp_part_laws.proofs.Rows.{fit_reached, table_means}
use Rattle.lp_targets.specs.Callees.{AreInText, is_callable_number, wanted, wanted_in, wanted_row}
use Rattle.lp_targets.specs.declared.wants.Want.{Want}
use Rattle.lp_targets.specs.declared.wants.Want.TheVariants.{Any, NotPrivate, Callable}
use Rattle.lp_targets.proofs.Calls.{resolve_in_text}

-- Modifiers as a number

same_protected : (m : Modifier) → nat_eq (bit_of m) 1 ≡ is_protected_word m
same_protected Private = refl
same_protected Protected = refl
same_protected Public = refl
same_protected Static = refl
same_protected Nosave = refl
same_protected Nomask = refl
same_protected Varargs = refl

same_static : (m : Modifier) → nat_eq (bit_of m) 3 ≡ is_static_word m
same_static Private = refl
same_static Protected = refl
same_static Public = refl
same_static Static = refl
same_static Nosave = refl
same_static Nomask = refl
same_static Varargs = refl

protected_words : (ms : List Modifier) → has_word 1 ms ≡ is_protected ms
protected_words [] = refl
protected_words (m ∷ ms) = ap (λ z. z || has_word 1 ms) (same_protected m) ∙ ap (λ z. is_protected_word m || z) (protected_words ms)

static_words : (ms : List Modifier) → has_word 3 ms ≡ is_static ms
static_words [] = refl
static_words (m ∷ ms) = ap (λ z. z || has_word 3 ms) (same_static m) ∙ ap (λ z. is_static_word m || z) (static_words ms)

second : (a b : Bool) (r : ℕ) → nat_eq (((digit a + 2 * (digit b + 2 * r)) / 2) % 2) 1 ≡ b
second true true r = let e : ((1 + 2 * (1 + 2 * r)) / 2) % 2 ≡ 1 = omega arith in ap (λ z. nat_eq z 1) e
second true false r = let e : ((1 + 2 * (0 + 2 * r)) / 2) % 2 ≡ 0 = omega arith in ap (λ z. nat_eq z 1) e
second false true r = let e : ((0 + 2 * (1 + 2 * r)) / 2) % 2 ≡ 1 = omega arith in ap (λ z. nat_eq z 1) e
second false false r = let e : ((0 + 2 * (0 + 2 * r)) / 2) % 2 ≡ 0 = omega arith in ap (λ z. nat_eq z 1) e

small : (b : Bool) → digit b ≤ 1
small true = omega arith
small false = omega arith

eighth : (a b c r : ℕ) → a ≤ 1 → b ≤ 1 → c ≤ 1 → (a + 2 * (b + 2 * (c + 2 * r))) / 8 ≡ r
eighth a b c r x y z = omega (arith, x, y, z)

fourth : (a b c d : Bool) (r : ℕ) → nat_eq (((digit a + 2 * (digit b + 2 * (digit c + 2 * (digit d + 2 * r)))) / 8) % 2) 1 ≡ d
fourth a b c d r = ap (λ z. nat_eq (z % 2) 1) (eighth (digit a) (digit b) (digit c) (digit d + 2 * r) (small a) (small b) (small c)) ∙ by d
  where
    by : (d : Bool) → nat_eq ((digit d + 2 * r) % 2) 1 ≡ d
    by true = let e : (1 + 2 * r) % 2 ≡ 1 = omega arith in ap (λ z. nat_eq z 1) e
    by false = let e : (0 + 2 * r) % 2 ≡ 0 = omega arith in ap (λ z. nat_eq z 1) e

protected_bit : (ms : List Modifier) → has_bit 2 (bits ms) ≡ is_protected ms
protected_bit ms = second (has_word 0 ms) (has_word 1 ms) (bits_from 2 (3 ∷ 4 ∷ 5 ∷ 6 ∷ []) ms) ∙ protected_words ms

static_bit : (ms : List Modifier) → has_bit 8 (bits ms) ≡ is_static ms
static_bit ms = fourth (has_word 0 ms) (has_word 1 ms) (has_word 2 ms) (has_word 3 ms) (bits_from 4 (5 ∷ 6 ∷ []) ms) ∙ static_words ms

callable_bits : (is_self : Bool) (ms : List Modifier) → is_callable_number is_self (bits ms) ≡ is_callable is_self ms
callable_bits is_self ms =
    ap (λ z. not z && not (has_bit 2 (bits ms)) && (is_self || not (has_bit 8 (bits ms)))) (private_bit ms)
    ∙ ap (λ z. not (is_private ms) && not z && (is_self || not (has_bit 8 (bits ms)))) (protected_bit ms)
    ∙ ap (λ z. not (is_private ms) && not (is_protected ms) && (is_self || not z)) (static_bit ms)

-- A name's row is wanted where what the name means is.

any_same : (o : Option Slot) → wanted_in Any o ≡ reached_in o
any_same None = refl
any_same (Some s) = refl

callable_reached : (h : Heritage) (is_self : Bool) (s : Slot) (x : Option Found) → IsReached h x (reached_by s) → MeansTheSame (with_function (Some s)) x → IsReached h (callable_found is_self x) (wanted_row (Callable is_self) s)
callable_reached h is_self s x r m = by (has_function s) refl x r m (is_callable_number is_self s.mods) refl
  where
    by : (b : Bool) → has_function s ≡ b → (x : Option Found) → IsReached h x (if b then Some (record { part = s.part; fun = s.fun }) else None) → MeansTheSame (if b then Some s else None) x → (c : Bool) → is_callable_number is_self s.mods ≡ c
        → IsReached h (callable_found is_self x) (if c then (if b then Some (record { part = s.part; fun = s.fun }) else None) else None)
    by true e None r m c q = absurd r
    by true e (Some f) r m c q = this c (is_callable is_self f.function.modifiers) (sym (sym q ∙ ap (is_callable_number is_self) m.mods ∙ callable_bits is_self f.function.modifiers)) r
      where
        this : (c d : Bool) → d ≡ c → IsReached h (Some f) (Some (record { part = s.part; fun = s.fun })) → IsReached h (if d then Some f else None) (if c then Some (record { part = s.part; fun = s.fun }) else None)
        this true true g r = r
        this false false g r = tt
        this true false g r = absurd cc
        this false true g r = absurd cc
    by false e None r m true q = tt
    by false e None r m false q = tt
    by false e (Some f) r m c q = absurd r

shown_reached : (h : Heritage) (s : Slot) (x : Option Found) → IsReached h x (reached_by s) → MeansTheSame (with_function (Some s)) x → IsReached h (shown x) (wanted_row NotPrivate s)
shown_reached h s x r m = by (has_function s) refl x r m (has_bit 1 s.mods) refl
  where
    by : (b : Bool) → has_function s ≡ b → (x : Option Found) → IsReached h x (if b then Some (record { part = s.part; fun = s.fun }) else None) → MeansTheSame (if b then Some s else None) x → (c : Bool) → has_bit 1 s.mods ≡ c
        → IsReached h (shown x) (if c then None else (if b then Some (record { part = s.part; fun = s.fun }) else None))
    by true e None r m c q = absurd r
    by true e (Some f) r m c q = this c (is_private f.function.modifiers) (sym (sym q ∙ ap (has_bit 1) m.mods ∙ private_bit f.function.modifiers)) r
      where
        this : (c d : Bool) → d ≡ c → IsReached h (Some f) (Some (record { part = s.part; fun = s.fun })) → IsReached h (if d then None else Some f) (if c then None else Some (record { part = s.part; fun = s.fun }))
        this true true g r = tt
        this false false g r = r
        this true false g r = absurd cc
        this false true g r = absurd cc
    by false e None r m true q = tt
    by false e None r m false q = tt
    by false e (Some f) r m c q = absurd r

pub wanted_reached : (h : Heritage) (p : RawProgram) (want : Want) (w : List ℕ) → FitsVersion h p → IsReached h (wanted want (resolve h w)) (wanted_in want (slot_named p.tables.slots w))
wanted_reached h p Any w f = subst (IsReached h (resolve h w)) (sym (any_same (slot_named p.tables.slots w))) (fit_reached h p w f)
wanted_reached h p NotPrivate w f = by (slot_named p.tables.slots w) refl (fit_reached h p w f)
  where
    none : (x : Option Found) → IsReached h x None → IsReached h (shown x) None
    none None r = tt
    none (Some f) r = absurd r

    by : (o : Option Slot) → slot_named p.tables.slots w ≡ o → IsReached h (resolve h w) (reached_in o) → IsReached h (shown (resolve h w)) (wanted_in NotPrivate o)
    by None e r = none (resolve h w) r
    by (Some s) e r = shown_reached h s (resolve h w) r (table_means h w s f.own.numbered (subst (λ t. slot_named t.slots w ≡ Some s) (sym f.own.own) e))
wanted_reached h p (Callable is_self) w f = by (slot_named p.tables.slots w) refl (fit_reached h p w f)
  where
    none : (x : Option Found) → IsReached h x None → IsReached h (callable_found is_self x) None
    none None r = tt
    none (Some f) r = absurd r

    by : (o : Option Slot) → slot_named p.tables.slots w ≡ o → IsReached h (resolve h w) (reached_in o) → IsReached h (callable_found is_self (resolve h w)) (wanted_in (Callable is_self) o)
    by None e r = none (resolve h w) r
    by (Some s) e r = callable_reached h is_self s (resolve h w) r (table_means h w s f.own.numbered (subst (λ t. slot_named t.slots w ≡ Some s) (sym f.own.own) e))

pub wanted_in_text : (w : World) (o : ObjId) (want : Want) (name : List ℕ) → AreInText (heritage_of w o) (wanted want (function_of w o name))
wanted_in_text w o Any name = resolve_in_text (heritage_of w o) name
wanted_in_text w o NotPrivate name = by (resolve (heritage_of w o) name) (resolve_in_text (heritage_of w o) name)
  where
    by : (x : Option Found) → AreInText (heritage_of w o) x → AreInText (heritage_of w o) (shown x)
    by None t = tt
    by (Some f) t = this (is_private f.function.modifiers)
      where
        this : (b : Bool) → AreInText (heritage_of w o) (if b then None else Some f)
        this true = tt
        this false = t
wanted_in_text w o (Callable is_self) name = by (resolve (heritage_of w o) name) (resolve_in_text (heritage_of w o) name)
  where
    by : (x : Option Found) → AreInText (heritage_of w o) x → AreInText (heritage_of w o) (callable_found is_self x)
    by None t = tt
    by (Some f) t = this (is_callable is_self f.function.modifiers)
      where
        this : (b : Bool) → AreInText (heritage_of w o) (if b then Some f else None)
        this true = t
        this false = tt
