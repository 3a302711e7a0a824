-- The text of a connection, by the outputs for it.
use Rattle.std.proofs.Common.{◌≡◌, ℕ, List, [], ◌∷◌, ◌++◌, nat_eq, true, false, inl, inr, refl, sym, ◌∙◌, append-nil, append_assoc, flat_map, Bool, if◌then◌else◌}
use Rattle.std.proofs.lemmas.Bool.{cases_Bool}
use Rattle.lp_events.specs.declared.out.Out.{Out}
use Rattle.lp_events.specs.declared.out.Out.TheVariants.{Text, Hide, Show, Close, Log}
use Rattle.lp_wire.specs.WireText.{Link, behind_outs, with_text, wire_bytes, bytes_for, up_to_close, TextsAreOutputs}

if_true : {A : Type 0} (b : Bool) (x y : A) → b ≡ true → (if b then x else y) ≡ x
if_true b x y e = rw e refl

if_false : {A : Type 0} (b : Bool) (x y : A) → b ≡ false → (if b then x else y) ≡ y
if_false b x y e = rw e refl

-- bytes for a connection
closed_same : (bytes : List ℕ) (l : Link) → l.closed ≡ true → with_text bytes l ≡ l
closed_same bytes l e = if_true l.closed l (record l { text = l.text ++ bytes }) e

said : (bytes : List ℕ) (l : Link) → l.closed ≡ false → with_text bytes l ≡ record l { text = l.text ++ bytes }
said bytes l e = if_false l.closed l (record l { text = l.text ++ bytes }) e

-- an output with bytes for a connection that the driver has closed
none_for : (j k : ℕ) (l : Link) (bytes : List ℕ) (outs : List Out) → l.closed ≡ true → (behind_outs k l outs).text ≡ l.text → (behind_outs k (if nat_eq j k then with_text bytes l else l) outs).text ≡ l.text
none_for j k l bytes outs e more = elim (cases_Bool (nat_eq j k)) [ inl y ↦ rw (y, closed_same bytes l e) more | inr n ↦ rw n more ]

-- the driver's close
shut : (j k : ℕ) (l : Link) (outs : List Out) → (behind_outs k (record l { closed = true }) outs).text ≡ l.text → (behind_outs k l outs).text ≡ l.text
    → (behind_outs k (if nat_eq j k then record l { closed = true } else l) outs).text ≡ l.text
shut j k l outs here there = elim (cases_Bool (nat_eq j k)) [ inl y ↦ rw y here | inr n ↦ rw n there ]

shut_before : (j k : ℕ) (l : Link) (outs : List Out) → (behind_outs k (record l { closed = true }) outs).text ≡ l.text
    → (behind_outs k l outs).text ≡ l.text ++ flat_map (bytes_for k) (up_to_close k outs)
    → (behind_outs k (if nat_eq j k then record l { closed = true } else l) outs).text ≡ l.text ++ flat_map (bytes_for k) (if nat_eq j k then [] else Close j ∷ up_to_close k outs)
shut_before j k l outs here there = elim (cases_Bool (nat_eq j k)) [ inl y ↦ rw y (here ∙ sym (append-nil l.text)) | inr n ↦ rw n there ]

texts_closed : (k : ℕ) (l : Link) (outs : List Out) → l.closed ≡ true → (behind_outs k l outs).text ≡ l.text
texts_closed k l [] e = refl
texts_closed k l (Text j text ∷ outs) e = none_for j k l (wire_bytes (Text j text)) outs e (texts_closed k l outs e)
texts_closed k l (Hide j ∷ outs) e = none_for j k l (wire_bytes (Hide j)) outs e (texts_closed k l outs e)
texts_closed k l (Show j ∷ outs) e = none_for j k l (wire_bytes (Show j)) outs e (texts_closed k l outs e)
texts_closed k l (Close j ∷ outs) e = shut j k l outs (texts_closed k (record l { closed = true }) outs refl) (texts_closed k l outs e)
texts_closed k l (Log text ∷ outs) e = texts_closed k l outs e

-- one for a connection that the driver has not closed
some_for : (j k : ℕ) (l : Link) (bytes : List ℕ) (outs : List Out) → l.closed ≡ false
    → ((l1 : Link) → l1.closed ≡ false → (behind_outs k l1 outs).text ≡ l1.text ++ flat_map (bytes_for k) (up_to_close k outs))
    → (behind_outs k (if nat_eq j k then with_text bytes l else l) outs).text ≡ l.text ++ ((if nat_eq j k then bytes else []) ++ flat_map (bytes_for k) (up_to_close k outs))
some_for j k l bytes outs e more = elim (cases_Bool (nat_eq j k)) [
  | inl y ↦ rw (y, said bytes l e) (more (record l { text = l.text ++ bytes }) e ∙ append_assoc l.text bytes (flat_map (bytes_for k) (up_to_close k outs)))
  | inr n ↦ rw n (more l e)
]

texts_before : (k : ℕ) (l : Link) (outs : List Out) → l.closed ≡ false → (behind_outs k l outs).text ≡ l.text ++ flat_map (bytes_for k) (up_to_close k outs)
texts_before k l [] e = sym (append-nil l.text)
texts_before k l (Text j text ∷ outs) e = some_for j k l (wire_bytes (Text j text)) outs e (λ l1 e1. texts_before k l1 outs e1)
texts_before k l (Hide j ∷ outs) e = some_for j k l (wire_bytes (Hide j)) outs e (λ l1 e1. texts_before k l1 outs e1)
texts_before k l (Show j ∷ outs) e = some_for j k l (wire_bytes (Show j)) outs e (λ l1 e1. texts_before k l1 outs e1)
texts_before k l (Close j ∷ outs) e = shut_before j k l outs (texts_closed k (record l { closed = true }) outs refl) (texts_before k l outs e)
texts_before k l (Log text ∷ outs) e = texts_before k l outs e

pub texts_hold : TextsAreOutputs
texts_hold = record { before = texts_before; behind = texts_closed }
