-- Tries among the changed paths.
use Rattle.std.proofs.Common.{◌≡◌, ℕ, zero, suc, ◌+◌, ◌<◌, ◌≤◌, List, [], ◌∷◌, ◌++◌, length, take, drop, get_or, Option, Some, None, String, Global, string_bytes, refl, sym, ap, subst, ◌∙◌, append-nil, append_assoc, arith}
use Rattle.std.specs.List.{remove}
use Rattle.std.proofs.lemmas.List.{take_more, take_all, drop_all, length-append, length-drop}
use Rattle.lp_files.specs.Paths.{IsRising, IsAt, without_path}
use Rattle.lp_files.proofs.PathLemmas.{without_path-at}
use Rattle.lp_folder.specs.Held.{Held, HoldsWith, HoldsBut}
use Rattle.lp_flush.specs.declared.flush.Written.{Written}
use Rattle.lp_flush.specs.declared.flush.Written.TheVariants.{Kept, Failed, NoMemory}
use Rattle.lp_flush.specs.Flushing.{TriesOne, Flushes, none_tried, was_kept, has_failed, IsCutShort, StopsAt}

-- so many of the changed paths were tried, and these stay
pub record Going (file : List ℕ → Option (List ℕ)) (first : Option Held) (faults : ℕ) (changed0 changed1 : List (List ℕ)) (now : Option Held) (count i stays : ℕ) : Type 0 where
  pub left : List (List ℕ)
  pub flushes : Flushes file first faults (take i changed0) left now count
  pub rest : changed1 ≡ left ++ drop i changed0
  pub so_many : length left ≡ stays
  pub few : stays ≤ i

pub begun : (file : List ℕ → Option (List ℕ)) (first : Option Held) (faults : ℕ) (changed0 : List (List ℕ)) → Going file first faults changed0 changed0 first faults 0 0
begun file first faults changed0 = record { left = []; flushes = none_tried; rest = refl; so_many = refl; few = omega arith }

-- Places

next_by : (ps : List (List ℕ)) (i : ℕ) → i < length ps → drop i ps ≡ get_or ps i [] ∷ drop (suc i) ps
next_by [] i within = absurd (omega (arith, within))
next_by (p ∷ ps) zero within = refl
next_by (p ∷ ps) (suc i) within = next_by ps i (omega (arith, within))

next_of : (ps : List (List ℕ)) (i : ℕ) → i < length ps → drop i ps ≡ get_or ps i [] ∷ drop (i + 1) ps
next_of ps i within =
    let same : suc i ≡ i + 1 = omega arith in
    next_by ps i within ∙ ap (λ n. get_or ps i [] ∷ drop n ps) same

tried_more : (changed0 : List (List ℕ)) (i : ℕ) (path : List ℕ) → path ≡ get_or changed0 i [] → i < length changed0 → take i changed0 ++ path ∷ [] ≡ take (i + 1) changed0
tried_more changed0 i path is within = ap (λ p. take i changed0 ++ p ∷ []) is ∙ sym (take_more changed0 i [] within)

at_end : (left rest : List (List ℕ)) (p : List ℕ) → get_or (left ++ p ∷ rest) (length left) [] ≡ p
at_end [] rest p = refl
at_end (l ∷ left) rest p = at_end left rest p

without_end : (left rest : List (List ℕ)) (p : List ℕ) → remove (left ++ p ∷ rest) (length left) ≡ left ++ rest
without_end [] rest p = refl
without_end (l ∷ left) rest p = ap (λ ps. l ∷ ps) (without_end left rest p)

module _ {file : List ℕ → Option (List ℕ)} {first : Option Held} {faults : ℕ} {changed0 changed1 : List (List ℕ)} {now : Option Held} {count i stays : ℕ} where
  -- the next place is one of the list
  pub has_next : Going file first faults changed0 changed1 now count i stays → i < length changed0 → stays < length changed1
  has_next g within =
      omega (arith, within, g.so_many, ap length g.rest, length-append g.left (drop i changed0), length-drop i changed0)

  parts : (g : Going file first faults changed0 changed1 now count i stays) → i < length changed0 → changed1 ≡ g.left ++ get_or changed0 i [] ∷ drop (i + 1) changed0
  parts g within = g.rest ∙ ap (λ ps. g.left ++ ps) (next_of changed0 i within)

  -- the path there is the next of all
  pub is_next : Going file first faults changed0 changed1 now count i stays → i < length changed0 → (path : List ℕ) → IsAt path changed1 stays → path ≡ get_or changed0 i []
  is_next g within path at =
      sym at.has ∙ ap (λ ps. get_or ps stays []) (parts g within) ∙ ap (λ n. get_or (g.left ++ get_or changed0 i [] ∷ drop (i + 1) changed0) n []) (sym g.so_many)
      ∙ at_end g.left (drop (i + 1) changed0) (get_or changed0 i [])

  -- it was kept
  pub kept_next : Going file first faults changed0 changed1 now count i stays → i < length changed0 → (path : List ℕ) (changed2 : List (List ℕ)) (now1 : Option Held) (count1 : ℕ)
      → IsAt path changed1 stays → IsRising changed1 → changed2 ≡ without_path path changed1 → TriesOne Kept path (file path) now now1 count count1
      → Going file first faults changed0 changed2 now1 count1 (i + 1) stays
  kept_next g within path changed2 now1 count1 at rising behind one = record {
    left = g.left;
    flushes = subst (λ ps. Flushes file first faults ps g.left now1 count1) (tried_more changed0 i path (is_next g within path at) within) (was_kept (take i changed0) g.left now now1 count count1 path g.flushes one);
    rest = behind ∙ without_path-at path changed1 stays rising at ∙ ap (λ ps. remove ps stays) (parts g within) ∙ ap (λ n. remove (g.left ++ get_or changed0 i [] ∷ drop (i + 1) changed0) n) (sym g.so_many)
        ∙ without_end g.left (drop (i + 1) changed0) (get_or changed0 i []);
    so_many = g.so_many;
    few = omega (arith, g.few);
  }

  -- its try failed
  pub failed_next : Going file first faults changed0 changed1 now count i stays → i < length changed0 → (path : List ℕ) (changed2 : List (List ℕ)) (now1 : Option Held) (count1 : ℕ)
      → IsAt path changed1 stays → changed2 ≡ changed1 → TriesOne Failed path (file path) now now1 count count1
      → Going file first faults changed0 changed2 now1 count1 (i + 1) (stays + 1)
  failed_next g within path changed2 now1 count1 at same one = record {
    left = g.left ++ path ∷ [];
    flushes = subst (λ ps. Flushes file first faults ps (g.left ++ path ∷ []) now1 count1) (tried_more changed0 i path (is_next g within path at) within) (has_failed (take i changed0) g.left now now1 count count1 path g.flushes one);
    rest = same ∙ parts g within ∙ ap (λ p. g.left ++ p ∷ drop (i + 1) changed0) (sym (is_next g within path at)) ∙ sym (append_assoc g.left (path ∷ []) (drop (i + 1) changed0));
    so_many = length-append g.left (path ∷ []) ∙ ap (λ n. n + 1) g.so_many;
    few = omega (arith, g.few);
  }

  -- all were tried
  pub all_tried : Going file first faults changed0 changed1 now count i stays → length changed0 ≤ i → Flushes file first faults changed0 changed1 now count
  all_tried g all =
      let left_is : g.left ≡ changed1 = sym (g.rest ∙ ap (λ ps. g.left ++ ps) (drop_all i changed0 all) ∙ append-nil g.left) in
      subst (λ ps. Flushes file first faults changed0 ps now count) left_is (subst (λ ps. Flushes file first faults ps g.left now count) (take_all i changed0 all) g.flushes)

  -- memory was wanting
  pub cut_short : Going file first faults changed0 changed1 now count i stays → i < length changed0 → (changed2 : List (List ℕ)) (now1 : Option Held) (count1 : ℕ) → changed2 ≡ changed1 → HoldsBut (get_or changed0 i []) now now1 → count1 ≡ count
      → IsCutShort file first faults changed0 changed2 now1 count1
  cut_short g within changed2 now1 count1 same but counts = record {
    tries = i;
    within = within;
    left = g.left;
    told = now;
    flushes = subst (λ n. Flushes file first faults (take i changed0) g.left now n) (sym counts) g.flushes;
    stay = same ∙ g.rest;
    but = but;
  }

  pub cut_at : Going file first faults changed0 changed1 now count i stays → i < length changed0 → (path : List ℕ) (changed2 : List (List ℕ)) (now1 : Option Held) (count1 : ℕ) → IsAt path changed1 stays → changed2 ≡ changed1
      → TriesOne NoMemory path (file path) now now1 count count1 → IsCutShort file first faults changed0 changed2 now1 count1
  cut_at g within path changed2 now1 count1 at same one =
      cut_short g within changed2 now1 count1 same (subst (λ p. HoldsBut p now now1) (is_next g within path at) one.0) one.1

-- what holds of all holds of all but one
pub but_none : (path : List ℕ) (now : Option Held) → HoldsBut path now now
but_none path now h is = (h, is, λ q apart. refl)

-- None stays

none_left : (left : List (List ℕ)) → length left ≡ 0 → left ≡ []
none_left [] e = refl
none_left (p ∷ left) e = absurd (omega (arith, e))

module _ {file : List ℕ → Option (List ℕ)} {first : Option Held} {faults : ℕ} {changed0 changed1 : List (List ℕ)} {now : Option Held} {count i : ℕ} where
  pub all_kept : Going file first faults changed0 changed1 now count i 0 → length changed0 ≤ i → StopsAt None file first faults changed0 changed1 now count
  all_kept g all =
      let none : g.left ≡ [] = none_left g.left g.so_many in
      let is : changed1 ≡ [] = g.rest ∙ ap (λ ps. ps ++ drop i changed0) none ∙ drop_all i changed0 all in
      (subst (λ ps. Flushes file first faults changed0 ps now count) is (all_tried g all), is)

  pub stops_at : Going file first faults changed0 changed1 now count i 0 → i < length changed0 → (path : String Global) (changed2 : List (List ℕ)) (now1 : Option Held) (count1 : ℕ) → IsAt (string_bytes path) changed1 0
      → changed2 ≡ changed1 → TriesOne Failed (string_bytes path) (file (string_bytes path)) now now1 count count1 → StopsAt (Some path) file first faults changed0 changed2 now1 count1
  unfolding failed_next
  stops_at g within path changed2 now1 count1 at same one =
      let none : g.left ≡ [] = none_left g.left g.so_many in
      let more = failed_next g within (string_bytes path) changed2 now1 count1 at same one in (
        i,
        within,
        is_next g within (string_bytes path) at,
        subst (λ ps. Flushes file first faults (take (i + 1) changed0) ps now1 count1) (ap (λ ps. ps ++ string_bytes path ∷ []) none) more.flushes,
        same ∙ g.rest ∙ ap (λ ps. ps ++ drop i changed0) none,
      )

-- Steps, as a loop has them: the path is a copy of that at a place of the list that the store showed, and its file is as it was at first.

at_path : (changed1 shown : List (List ℕ)) (stays : ℕ) (own p : List ℕ) → shown ≡ changed1 → p ≡ own → IsAt own shown stays → IsAt p changed1 stays
at_path changed1 shown stays own p same is at = subst (λ ps. IsAt p ps stays) same (subst (λ q. IsAt q shown stays) (sym is) at)

module _ {file : List ℕ → Option (List ℕ)} {first : Option Held} {faults : ℕ} {changed0 changed1 : List (List ℕ)} {now : Option Held} {count i stays : ℕ} where
  pub step_kept : Going file first faults changed0 changed1 now count i stays → i < length changed0 → (shown : List (List ℕ)) (own p : List ℕ) → shown ≡ changed1 → p ≡ own → IsAt own shown stays → IsRising shown
      → (changed2 : List (List ℕ)) (bytes : Option (List ℕ)) (now1 : Option Held) (count1 stays1 : ℕ) → changed2 ≡ without_path p changed1 → bytes ≡ file p → TriesOne Kept p bytes now now1 count count1 → stays1 ≡ stays
      → Going file first faults changed0 changed2 now1 count1 (i + 1) stays1
  step_kept g within shown own p same is at rising changed2 bytes now1 count1 stays1 behind alike one stay =
      subst (λ n. Going file first faults changed0 changed2 now1 count1 (i + 1) n) (sym stay)
      (kept_next g within p changed2 now1 count1 (at_path changed1 shown stays own p same is at) (subst IsRising same rising) behind (subst (λ b. TriesOne Kept p b now now1 count count1) alike one))

  pub step_failed : Going file first faults changed0 changed1 now count i stays → i < length changed0 → (shown : List (List ℕ)) (own p : List ℕ) → shown ≡ changed1 → p ≡ own → IsAt own shown stays
      → (changed2 : List (List ℕ)) (bytes : Option (List ℕ)) (now1 : Option Held) (count1 stays1 : ℕ) → changed2 ≡ changed1 → bytes ≡ file p → TriesOne Failed p bytes now now1 count count1 → stays1 ≡ stays + 1
      → Going file first faults changed0 changed2 now1 count1 (i + 1) stays1
  step_failed g within shown own p same is at changed2 bytes now1 count1 stays1 behind alike one stay =
      subst (λ n. Going file first faults changed0 changed2 now1 count1 (i + 1) n) (sym stay)
      (failed_next g within p changed2 now1 count1 (at_path changed1 shown stays own p same is at) behind (subst (λ b. TriesOne Failed p b now now1 count count1) alike one))

  pub step_cut : Going file first faults changed0 changed1 now count i stays → i < length changed0 → (shown : List (List ℕ)) (own p : List ℕ) → shown ≡ changed1 → p ≡ own → IsAt own shown stays
      → (changed2 : List (List ℕ)) (bytes : Option (List ℕ)) (now1 : Option Held) (count1 : ℕ) → changed2 ≡ changed1 → bytes ≡ file p → TriesOne NoMemory p bytes now now1 count count1
      → IsCutShort file first faults changed0 changed2 now1 count1
  step_cut g within shown own p same is at changed2 bytes now1 count1 behind alike one =
      cut_at g within p changed2 now1 count1 (at_path changed1 shown stays own p same is at) behind (subst (λ b. TriesOne NoMemory p b now now1 count count1) alike one)

module _ {file : List ℕ → Option (List ℕ)} {first : Option Held} {faults : ℕ} {changed0 changed1 : List (List ℕ)} {now : Option Held} {count i : ℕ} where
  pub step_stops : Going file first faults changed0 changed1 now count i 0 → i < length changed0 → (shown : List (List ℕ)) (own : String Global) (p : List ℕ) → shown ≡ changed1 → p ≡ string_bytes own → IsAt (string_bytes own) shown 0
      → (changed2 : List (List ℕ)) (bytes : Option (List ℕ)) (now1 : Option Held) (count1 : ℕ) → changed2 ≡ changed1 → bytes ≡ file p → TriesOne Failed p bytes now now1 count count1
      → StopsAt (Some own) file first faults changed0 changed2 now1 count1
  step_stops g within shown own p same is at changed2 bytes now1 count1 behind alike one =
      stops_at g within own changed2 now1 count1 (subst (λ ps. IsAt (string_bytes own) ps 0) same at) behind
      (subst (λ q. TriesOne Failed q (file q) now now1 count count1) is (subst (λ b. TriesOne Failed p b now now1 count count1) alike one))
