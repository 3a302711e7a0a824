-- The running commands.
use Rattle.std.proofs.Common.{◌≡◌, ◌++◌, ◌-◌, ◌∙◌, ℕ, List, [], ◌∷◌, Option, Some, None, refl, ap, sym, reverse, slice_get, slice_index_or, ◌<◌, length, length-append, map, unwrap_or, pos, Bool, arith}
use Rattle.std.specs.Prelude.{slice_set}
use Rattle.std.proofs.lemmas.List.{reverse-append, reverse-reverse}
use Rattle.lp_values.specs.declared.id.ObjId.{ObjId}
use Rattle.lp_values.specs.declared.value.Value.{Value}
use Rattle.lp_values.specs.declared.value.Value.TheVariants as values
use Rattle.lp_cells.specs.Cells.{Store}
use Rattle.lp_ops.specs.Operands.{operand}
use Rattle.lp_ops.specs.declared.effect.Effect.{Effect}
use Rattle.lp_ops.specs.declared.effect.Effect.TheVariants.{Gives}
use Rattle.lp_instr.specs.declared.efun.Efun.TheVariants as efuns
use Rattle.lp_language.specs.Operations.{cells_of, living}
use Rattle.lp_meaning.specs.EfunArguments.{text_arg}
use Rattle.lp_meaning.specs.WorldEfuns.{Yields, deed, verb_value, with_fail, zero}
use Rattle.lp_world.specs.declared.live.Live.{Live}
use Rattle.lp_world.proofs.Keeping.{get_end}
use Rattle.lp_efuns.specs.declared.answer.Did.TheVariants as did
use Rattle.lp_efuns.specs.declared.caller.Caller.{Caller}
use Rattle.lp_efuns.specs.declared.caller.Command.{Command}
use Rattle.lp_efuns.specs.declared.caller.Turn.{Turn}
use Rattle.lp_efuns.specs.Deeds.{Does, Looks, bounded}
use Rattle.lp_efuns.specs.Turns.{command_of, commands_of}

-- the first of a list
first : {A : Type 0} → List A → Option A
first [] = None
first (x ∷ xs) = Some x

-- a list that ends so
turned : {A : Type 0} (x : A) (xs : List A) → reverse (x ∷ xs) ≡ reverse xs ++ x ∷ []
turned x xs = reverse-append (x ∷ []) xs

last_item : {A : Type 0} (ys : List A) (x : A) → slice_get (ys ++ x ∷ []) (length (ys ++ x ∷ []) - 1) ≡ Some x
last_item ys x = ap (λ n. slice_get (ys ++ x ∷ []) n) (omega (arith, length-append ys (x ∷ []))) ∙ get_end ys x

of_turned : {A : Type 0} (r : List A) → slice_get (reverse r) (length (reverse r) - 1) ≡ first r
unfolding first
of_turned [] = refl
of_turned (x ∷ xs) = ap (λ l. slice_get l (length l - 1)) (turned x xs) ∙ last_item (reverse xs) x

last_is : {A : Type 0} (xs : List A) → slice_get xs (length xs - 1) ≡ first (reverse xs)
last_is xs = ap (λ l. slice_get l (length l - 1)) (sym (reverse-reverse xs)) ∙ of_turned (reverse xs)

verb_of : (r : List Command) (c : Command) → first r ≡ Some c → verb_value (map command_of r) ≡ Gives (values.Str c.verb)
unfolding first
verb_of [] c e = cc
verb_of (x ∷ xs) c e = ap (λ o. Gives (values.Str (unwrap_or o x).verb)) e

no_verb : (r : List Command) → first r ≡ None → verb_value (map command_of r) ≡ zero
unfolding first
no_verb [] e = refl
no_verb (x ∷ xs) e = cc

-- the verb of the innermost command, which stands last
pub verb_looks : (caller : Caller) (vs : List Value) (live : Live) (turn : Turn) (c : Command) (v : List ℕ) → Some c ≡ slice_get turn.commands.items (length turn.commands.items - 1) → v ≡ c.verb
    → Looks efuns.QueryVerb caller vs live turn (Gives (values.Str v))
unfolding deed
verb_looks caller vs live turn c v e q g b d s sc h =
    ap (λ cs. Yields (verb_value cs) s) h.commands
    ∙ ap (λ x. Yields x s) (verb_of (reverse turn.commands.items) c (sym (last_is turn.commands.items) ∙ sym e) ∙ ap (λ v. Gives (values.Str v)) (sym q))

pub no_verb_looks : (caller : Caller) (vs : List Value) (live : Live) (turn : Turn) (x : Effect) → None ≡ slice_get turn.commands.items (length turn.commands.items - 1) → x ≡ zero → Looks efuns.QueryVerb caller vs live turn x
unfolding deed
no_verb_looks caller vs live turn x e q g b d s sc h =
    ap (λ cs. Yields (verb_value cs) s) h.commands ∙ ap (λ x. Yields x s) (no_verb (reverse turn.commands.items) (sym (last_is turn.commands.items) ∙ sym e)) ∙ ap (λ x. Yields (bounded x) s) (sym q)

-- another text of the innermost command
set_last : {A : Type 0} (ys : List A) (x y : A) → slice_set (ys ++ x ∷ []) (length ys) y ≡ ys ++ y ∷ []
set_last [] x y = refl
set_last (z ∷ ys) x y = ap (λ l. z ∷ l) (set_last ys x y)

pub fail_set : (ys : List Command) (c : Command) (t : List ℕ) → commands_of (ys ++ record c { fail = Some t } ∷ []) ≡ with_fail t (commands_of (ys ++ c ∷ []))
fail_set ys c t =
    ap (map command_of) (reverse-append ys (record c { fail = Some t } ∷ [])) ∙ ap (λ l. with_fail t (map command_of l)) (sym (reverse-append ys (c ∷ [])))

index_last : {A : Type 0} (ys : List A) (c x : A) → slice_index_or (ys ++ c ∷ []) (length ys) x ≡ c
index_last [] c x = refl
index_last (z ∷ ys) c x = index_last ys c x

pub fail_at : (cs : List Command) (n : ℕ) (x : Command) (t : List ℕ) → n ≡ length cs → 0 < n → x ≡ slice_index_or cs (n - 1) x
    → commands_of (slice_set cs (n - 1) (record x { fail = Some t })) ≡ with_fail t (commands_of cs)
fail_at cs n x t e l v = by (reverse cs) (sym (reverse-reverse cs))
  where
    by : (r : List Command) → cs ≡ reverse r → commands_of (slice_set cs (n - 1) (record x { fail = Some t })) ≡ with_fail t (commands_of cs)
    by [] q = absurd (omega (arith, e, l, ap length q))
    by (c ∷ rest) q =
        let ys : List Command = reverse rest in
        let s : cs ≡ ys ++ c ∷ [] = q ∙ turned c rest in
        let m : n - 1 ≡ length ys = omega (arith, e, ap length s, length-append ys (c ∷ [])) in
        let is : x ≡ c = v ∙ ap (λ l. slice_index_or l (n - 1) x) s ∙ ap (λ k. slice_index_or (ys ++ c ∷ []) k x) m ∙ index_last ys c x in
        ap (λ l. commands_of (slice_set l (n - 1) (record x { fail = Some t }))) s ∙ ap (λ k. commands_of (slice_set (ys ++ c ∷ []) k (record x { fail = Some t }))) m
        ∙ ap (λ (y : Command). commands_of (slice_set (ys ++ c ∷ []) (length ys) (record y { fail = Some t }))) is ∙ ap commands_of (set_last ys c (record c { fail = Some t })) ∙ fail_set ys c t
        ∙ ap (λ l. with_fail t (commands_of l)) (sym s)

pub notified : (caller : Caller) (vs : List Value) (live : Live) (turn turn1 : Turn) (t : List ℕ) → ((l : ObjId → Bool) (cells : Store) → t ≡ text_arg (map (operand l cells) vs) 0) → turn1.player ≡ turn.player
    → commands_of turn1.commands.items ≡ with_fail t (commands_of turn.commands.items) → Does efuns.NotifyFail caller vs live turn (did.Value (values.Int (pos 0))) live turn1
unfolding deed
notified caller vs live turn turn1 t f p e g b c s sc h = (
  refl,
  record {
    stands = h.stands;
    left = h.left;
    outputs = h.outputs;
    player = h.player ∙ sym p;
    commands = ap (λ t. with_fail t s.commands) (sym (f (living s) (cells_of s))) ∙ ap (with_fail t) h.commands ∙ sym e;
  },
)
