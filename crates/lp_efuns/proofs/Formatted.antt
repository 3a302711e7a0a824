-- Formatting needs the cells only where it spells its arguments, and spells each one by the cells that are there.
use Rattle.std.proofs.Common.{◌≡◌, ◌∙◌, ◌++◌, ◌+◌, ℕ, zero, suc, Bool, true, false, List, [], ◌∷◌, Option, Some, None, Ok, refl, ap, sym, All, map, slice_get, slice_index, MatchOption, is_some, nat_eq, drop, subst, ◌||◌, ◌-◌, if◌then◌else◌}
use Rattle.std.proofs.lemmas.Bool.{eqb-true}
use Rattle.std.proofs.lemmas.List.Elements.{All-filter, All-head, All-tail}
use Rattle.lp_values.specs.declared.id.CellId.{CellId}
use Rattle.lp_values.specs.declared.id.ObjId.{ObjId}
use Rattle.lp_values.specs.declared.value.Value.{Value}
use Rattle.lp_values.specs.declared.value.Value.TheVariants.{Int, Str, Arr, Map, Obj}
use Rattle.lp_values.specs.Read.{live_part}
use Rattle.lp_cells.specs.Cells.{IsClosed, IsPairThere, IsThere, Store, items_of, stored_pairs}
use Rattle.lp_cells.specs.Mapping.{pairs_there}
use Rattle.lp_cells.proofs.ClosedLemmas.{items_there, stored_there}
use Rattle.lp_format.specs.Conversions.{argument_written, is_percent, measured, count_uses, number_at, value_written, written}
use Rattle.lp_format.specs.Fill.{filled}
use Rattle.lp_format.specs.Forms.{behind_left, behind_marks, behind_precision, behind_width, conversion, count, directive, is_wrong, lettered, marked, piece, piece_len, pieces, pieces_after, precision}
use Rattle.lp_format.specs.Formatted.{after, formatted, formatted_after, piece_text, short, uses}
use Rattle.lp_format.specs.Spelled.{array_spelled, hidden, is_among, mapping_spelled, pair_spelled, spelled_within}
use Rattle.lp_meaning.specs.EfunArguments.{items_in, pairs_in}
use Rattle.lp_world.specs.Stands.{IsPart}
use Rattle.lp_world.proofs.Keeping.{operand_same}

-- Lists

pub map_same : {A B : Type 0} (P : A → Type 0) (f g : A → B) (xs : List A) → ((x : A) → P x → f x ≡ g x) → All P xs → map f xs ≡ map g xs
map_same P f g [] h a = refl
map_same P f g (x ∷ xs) h a = ap (λ y. y ∷ map f xs) (h x (All-head P x xs a)) ∙ ap (λ l. g x ∷ l) (map_same P f g xs h (All-tail P x xs a))

-- Spelling

pair_same : (cells : Store) (f g : Value → List ℕ) → ((v : Value) → IsThere cells v → f v ≡ g v) → (p : Value × Value) → IsPairThere cells p → pair_spelled f p ≡ pair_spelled g p
pair_same cells f g h p t = ap (λ k. k ++ 58 ∷ 32 ∷ f p.1) (h p.0 t.0) ∙ ap (λ v. g p.0 ++ 58 ∷ 32 ∷ v) (h p.1 t.1)

pub spelled_same : (l : ObjId → Bool) (name : ObjId → Option (List ℕ)) (part whole : Store) → IsPart part whole → IsClosed part
    → (n : ℕ) (path : List CellId) (v : Value) → IsThere part v → spelled_within l name part n path v ≡ spelled_within l name whole n path v
spelled_same l name part whole p c n path (Int z) t = refl
spelled_same l name part whole p c n path (Str s) t = refl
spelled_same l name part whole p c n path (Obj o) t = refl
spelled_same l name part whole p c zero path (Arr d) t = refl
spelled_same l name part whole p c (suc n) path (Arr d) t =
    ap (λ ts. if is_among d path then hidden else array_spelled ts)
    (map_same (IsThere part) (spelled_within l name part n (path ++ d ∷ [])) (spelled_within l name whole n (path ++ d ∷ [])) (items_of part d) (spelled_same l name part whole p c n (path ++ d ∷ [])) (items_there part d c)
    ∙ ap (λ vs. map (spelled_within l name whole n (path ++ d ∷ [])) vs) (ap items_in (operand_same l part whole (Arr d) p t)))
spelled_same l name part whole p c zero path (Map d) t = refl
spelled_same l name part whole p c (suc n) path (Map d) t =
    ap (λ ts. if is_among d path then hidden else mapping_spelled ts)
    (map_same (IsPairThere part) (pair_spelled (spelled_within l name part n (path ++ d ∷ []))) (pair_spelled (spelled_within l name whole n (path ++ d ∷ []))) (pairs_there l (stored_pairs part d))
    (pair_same part (spelled_within l name part n (path ++ d ∷ [])) (spelled_within l name whole n (path ++ d ∷ [])) (spelled_same l name part whole p c n (path ++ d ∷ [])))
    (All-filter (λ q. is_some (live_part l q.0)) (IsPairThere part) (stored_pairs part d) (stored_there part d c))
    ∙ ap (λ ps. map (pair_spelled (spelled_within l name whole n (path ++ d ∷ []))) ps) (ap pairs_in (operand_same l part whole (Map d) p t)))

-- Forms

-- the letters of conversions, and all others
by_letter : (P : ℕ → Type 0) (c : ℕ) → P 37 → P 115 → P 100 → P 105 → P 111 → P 120 → P 88 → P 99 → P 79
    → (nat_eq c 37 ≡ false → nat_eq c 115 ≡ false → nat_eq c 100 ≡ false → nat_eq c 105 ≡ false → nat_eq c 111 ≡ false → nat_eq c 120 ≡ false → nat_eq c 88 ≡ false → nat_eq c 99 ≡ false → nat_eq c 79 ≡ false → P c) → P c
by_letter P c p37 p115 p100 p105 p111 p120 p88 p99 p79 others =
    here 37 p37 (λ a. here 115 p115 (λ b. here 100 p100 (λ d. here 105 p105 (λ e. here 111 p111 (λ f. here 120 p120 (λ g. here 88 p88 (λ h. here 99 p99 (λ i. here 79 p79 (λ j. others a b d e f g h i j)))))))))
  where
    found : (k : ℕ) (b : Bool) → nat_eq c k ≡ b → P k → (nat_eq c k ≡ false → P c) → P c
    found k true e p go = subst P (sym (eqb-true c k e)) p
    found k false e p go = go e

    here : (k : ℕ) → P k → (nat_eq c k ≡ false → P c) → P c
    here k p go = found k (nat_eq c k) refl p go

module _ (l : ObjId → Bool) (f g : Value → List ℕ) (vs : List Value) (same : All (λ v. f v ≡ g v) vs) where
  found_same : (c : _) → ((n : ℕ) (precision : Option ℕ) (v : Value) → f v ≡ g v → value_written l f n precision c v ≡ value_written l g n precision c v)
      → (n i : ℕ) (precision : Option ℕ) (us : List Value) → All (λ v. f v ≡ g v) us → argument_written l f n precision c (slice_get us i) ≡ argument_written l g n precision c (slice_get us i)
  found_same c h n i precision [] a = refl
  found_same c h n zero precision (u ∷ us) a = h n precision u (All-head (λ v. f v ≡ g v) u us a)
  found_same c h n (suc i) precision (u ∷ us) a = found_same c h n i precision us (All-tail (λ v. f v ≡ g v) u us a)

  written_same : (c : _) → ((n : ℕ) (precision : Option ℕ) (v : Value) → f v ≡ g v → value_written l f n precision c v ≡ value_written l g n precision c v)
      → (i : ℕ) (precision : Option ℕ) → written l f vs i precision c ≡ written l g vs i precision c
  written_same c h i precision = ap (λ r. if is_percent c then Ok (37 ∷ []) else r) (found_same c h (number_at i) i precision vs same)

  made_same : (i at : ℕ) (left zeros : Bool) (width prec : _) (c : _) → ((n : ℕ) (p : Option ℕ) (v : Value) → f v ≡ g v → value_written l f n p c v ≡ value_written l g n p c v)
      → piece_text l f vs i at (lettered left zeros width prec (Some c)) ≡ piece_text l g vs i at (lettered left zeros width prec (Some c))
  made_same i at left zeros width prec c h =
      λ j. after (measured l vs i width) (λ w. after (measured l vs (i + count_uses width) prec) (λ p. after (written_same c h (i + count_uses width + count_uses prec) p j)
      (λ t. Ok (filled (record { left = left; zeros = zeros; width = width; precision = prec; conversion = c }) w t))))

  option_same : (i at : ℕ) (left zeros : Bool) (width prec : _) (o : _) → MatchOption o (Unit {0}) (λ c. (n : ℕ) (p : Option ℕ) (v : Value) → f v ≡ g v → value_written l f n p c v ≡ value_written l g n p c v)
      → piece_text l f vs i at (lettered left zeros width prec o) ≡ piece_text l g vs i at (lettered left zeros width prec o)
  option_same i at left zeros width prec None h = refl
  option_same i at left zeros width prec (Some c) h = made_same i at left zeros width prec c h

  -- the conversion of a letter writes the same, where it is one
  Agrees : ℕ → Type 0
  Agrees c = MatchOption (conversion c) (Unit {0}) (λ c. (n : ℕ) (p : Option ℕ) (v : Value) → f v ≡ g v → value_written l f n p c v ≡ value_written l g n p c v)

  letter_agrees : (c : ℕ) → Agrees c
  unfolding Agrees
  letter_agrees c =
      by_letter Agrees c (λ n p v e. refl) (λ n p v e. refl) (λ n p v e. refl) (λ n p v e. refl) (λ n p v e. refl) (λ n p v e. refl) (λ n p v e. refl) (λ n p v e. refl) (λ n p v e. ap (λ t. Ok t) e)
      (λ a b d e x y z u v. rw (a, b, d, e, x, y, z, u, v) tt)

  letter_same : (i at : ℕ) (left zeros : Bool) (width prec : _) (c : ℕ) → piece_text l f vs i at (lettered left zeros width prec (conversion c)) ≡ piece_text l g vs i at (lettered left zeros width prec (conversion c))
  unfolding Agrees
  letter_same i at left zeros width prec c = option_same i at left zeros width prec (conversion c) (letter_agrees c)

  marked_same : (i at : ℕ) (cs : List ℕ) → piece_text l f vs i at (marked cs) ≡ piece_text l g vs i at (marked cs)
  unfolding marked
  marked_same i at cs = by_wrong (is_wrong (count (behind_marks cs)) || is_wrong (precision (behind_width cs))) refl
    where
      by_wrong : (b : Bool) → (is_wrong (count (behind_marks cs)) || is_wrong (precision (behind_width cs))) ≡ b
          → piece_text l f vs i at (directive (nat_eq (slice_index cs 0) 45) (nat_eq (slice_index (behind_left cs) 0) 48) (count (behind_marks cs)) (precision (behind_width cs)) (slice_index (behind_precision cs) 0))
          ≡ piece_text l g vs i at (directive (nat_eq (slice_index cs 0) 45) (nat_eq (slice_index (behind_left cs) 0) 48) (count (behind_marks cs)) (precision (behind_width cs)) (slice_index (behind_precision cs) 0))
      by_wrong true e = rw e refl
      by_wrong false e = rw e (letter_same i at (nat_eq (slice_index cs 0) 45) (nat_eq (slice_index (behind_left cs) 0) 48) (count (behind_marks cs)) (precision (behind_width cs)) (slice_index (behind_precision cs) 0))

  piece_same : (i at : ℕ) (cs : List ℕ) → piece_text l f vs i at (piece cs) ≡ piece_text l g vs i at (piece cs)
  piece_same i at cs = by_sign (nat_eq (slice_index cs 0) 37) refl
    where
      by_sign : (b : Bool) → nat_eq (slice_index cs 0) 37 ≡ b → piece_text l f vs i at (piece cs) ≡ piece_text l g vs i at (piece cs)
      by_sign true e = rw e (marked_same i at (drop 1 cs))
      by_sign false e = rw e refl

  after_same : (done : List ℕ) (i at skip : ℕ) (cs : List ℕ) → formatted_after l f vs done i (pieces_after at skip cs) ≡ formatted_after l g vs done i (pieces_after at skip cs)
  after_same done i at skip [] = refl
  after_same done i at (suc n) (c ∷ cs) = after_same done i at n cs
  after_same done i at zero (c ∷ cs) =
      λ j. after (piece_same i at (c ∷ cs) j) (λ t. after (short (done ++ t)) (λ all. after_same all (i + uses (piece (c ∷ cs))) (at + piece_len (c ∷ cs)) (piece_len (c ∷ cs) - 1) cs j))

  -- two ways to spell are one where they are for each argument
  pub formatted_same : (form : List ℕ) → formatted l f vs (pieces form) ≡ formatted l g vs (pieces form)
  formatted_same form = after_same [] 0 0 0 form
