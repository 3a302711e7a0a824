-- Offers of what is pending.
use Rattle.std.proofs.Common.{◌≡◌, ℕ, ◌≤◌, ◌+◌, List, [], ◌∷◌, ◌++◌, length, take, drop, Option, refl, sym, ap, ◌∙◌, append-nil}
use Rattle.std.proofs.lemmas.List.{take-append-drop, drop-drop, drop_all}
use Rattle.lp_wire.specs.declared.happening.WireCall.{WireCall}
use Rattle.lp_wire.specs.declared.happening.WireCall.TheVariants.{Took}
use Rattle.lp_wire.specs.Wires.{Adds, IsRest, TellsOffer, nothing, offered}

pub offered_lem : (k i n : ℕ) (xs before piece : List ℕ) (old now : Option (List WireCall)) → before ≡ drop i xs → piece ≡ drop i xs
    → Adds old now (Took k (take n piece) (length piece) ∷ []) → TellsOffer k before (drop (i + n) xs) old now
offered_lem k i n xs before piece old now same_before same adds l told =
    let split : piece ≡ take n piece ++ drop (i + n) xs = sym (take-append-drop n piece) ∙ ap (λ rest. take n piece ++ rest) (ap (drop n) same ∙ drop-drop n i xs) in
    let a = adds l told in
    let whole : before ≡ piece = same_before ∙ sym same in
    (a.0, Took k (take n piece) (length piece) ∷ [], a.1, a.2, offered (take n piece) (whole ∙ split) (ap (λ xs. Took k (take n piece) (length xs) ∷ []) (sym whole)))

pub nothing_lem : (k i : ℕ) (xs : List ℕ) (now : Option (List WireCall)) → length xs ≤ i → TellsOffer k (drop i xs) (drop i xs) now now
nothing_lem k i xs now past l told = (l, [], told, sym (append-nil l), nothing (drop_all i xs past) (drop_all i xs past) refl)

-- what is left is a rest of what was pending
pub rest_lem : (i n : ℕ) (xs before : List ℕ) → before ≡ drop i xs → IsRest (drop (i + n) xs) before
rest_lem i n xs before same = (take n (drop i xs), same ∙ sym (take-append-drop n (drop i xs)) ∙ ap (λ rest. take n (drop i xs) ++ rest) (drop-drop n i xs))
