-- Programs still fit where the latest clocks of versions changed.
use Rattle.std.proofs.Common.{◌≡◌, ◌≤◌, ◌<◌, ℕ, zero, suc, arith, refl, sym, ◌∙◌, ap, subst, List, [], ◌∷◌, length, All, Option, Some, None, is_some, unwrap_or}
use Rattle.std.specs.Prelude.{◌+◌, ◌++◌, ⊤, slice_get}
use Rattle.lp_tree.specs.declared.pragma.Pragmas.{Pragmas}
use Rattle.lp_tree.specs.Units.{ItemTree}
use Rattle.lp_values.specs.declared.id.ProgId.{ProgId}
use Rattle.lp_code.specs.declared.program.RawProgram.{RawProgram}
use Rattle.lp_code.specs.declared.tables.Tables.{Tables}
use Rattle.lp_code.specs.Programs.{FindsRows}
use Rattle.lp_language.specs.World.{IsSameVersion, Version, no_version, version_at}
use Rattle.lp_language.specs.Resolve.{Heritage, Heir, Heritages, NoParent, OneParent, each_heritage, heritage_within, or_else, own_names, own_variables, parents_of, place_moved, place_shown, sighted_from, variable_count, variable_last, variable_outside, variables_before, version_of, without_c}
use Rattle.lp_isa.specs.Programs.{StandsForVersion, own_functions}
use Rattle.lp_layout.specs.Layout.{IsSpelled, laid_tables, parts_before}
use Rattle.lp_inherit.specs.Heirs.{AreDistinct, AreNumbered, AreUnambiguous, IsNumbered, IsUnambiguous, table, tables}
use Rattle.lp_plan_laws.specs.Tables.{AreNamedOnce, AreOnce, IsNamedOnce}
use Rattle.lp_part_laws.specs.Versions.{AreSameVersions, AreSpelledTrees, FitsVersion, IsSpelledTree, StayCompiled, heritage_in, program_of, rows_of}
use Rattle.lp_part_laws.proofs.Lists.{is_below, there_below}
use Rattle.lp_part_laws.proofs.Trees.{bare}

-- Trees of the same versions.
abbrev mutual
  pub Alike : Heritage → Heritage → Type 0
  Alike (Heir n v ps) (Heir m u qs) = (n ≡ m) × IsSameVersion v u × AreAlike ps qs

  pub AreAlike : Heritages → Heritages → Type 0
  AreAlike NoParent NoParent = ⊤
  AreAlike NoParent (OneParent k ks) = ⊥
  AreAlike (OneParent h hs) NoParent = ⊥
  AreAlike (OneParent h hs) (OneParent k ks) = Alike h k × AreAlike hs ks

-- their tables are the same

abbrev laid_of : ProgId → List ItemTree → List ℕ → List ProgId → Pragmas → List Tables → Tables
laid_of n is path parents pragmas ts = record (laid_tables is ts) { path = without_c path; parents = parents; parts = parts_before ts ++ n ∷ []; pragmas = pragmas }

mutual
  pub table_alike : (h k : Heritage) → Alike h k → table h ≡ table k
  table_alike (Heir n v ps) (Heir m u qs) a =
      ap (λ x. laid_of x v.items v.path v.parents v.pragmas (tables ps)) a.0
      ∙ ap (λ x. laid_of m x v.path v.parents v.pragmas (tables ps)) (sym a.1.items)
      ∙ ap (λ x. laid_of m u.items x v.parents v.pragmas (tables ps)) (sym a.1.path)
      ∙ ap (λ x. laid_of m u.items u.path x v.pragmas (tables ps)) (sym a.1.parents)
      ∙ ap (λ x. laid_of m u.items u.path u.parents x (tables ps)) (sym a.1.pragmas)
      ∙ ap (λ x. laid_of m u.items u.path u.parents u.pragmas x) (tables_alike ps qs a.2)

  pub tables_alike : (hs ks : Heritages) → AreAlike hs ks → tables hs ≡ tables ks
  tables_alike NoParent NoParent a = refl
  tables_alike NoParent (OneParent k ks) a = absurd a
  tables_alike (OneParent h hs) NoParent a = absurd a
  tables_alike (OneParent h hs) (OneParent k ks) a = ap (λ x. x ∷ tables hs) (table_alike h k a.0) ∙ ap (λ x. table k ∷ x) (tables_alike hs ks a.1)

-- as many variables, and each in its place

mutual
  variables_alike : (h k : Heritage) → Alike h k → variable_count h ≡ variable_count k
  variables_alike (Heir n v ps) (Heir m u qs) a = ap (λ z. z + length (own_variables v.items)) (before_alike ps qs a.2) ∙ ap (λ is. variables_before qs + length (own_variables is)) (sym a.1.items)

  before_alike : (hs ks : Heritages) → AreAlike hs ks → variables_before hs ≡ variables_before ks
  before_alike NoParent NoParent a = refl
  before_alike NoParent (OneParent k ks) a = absurd a
  before_alike (OneParent h hs) NoParent a = absurd a
  before_alike (OneParent h hs) (OneParent k ks) a = ap (λ z. z + variables_before hs) (variables_alike h k a.0) ∙ ap (λ z. variable_count k + z) (before_alike hs ks a.1)

mutual
  outside_alike : (h k : Heritage) (w : List ℕ) → Alike h k → variable_outside h w ≡ variable_outside k w
  outside_alike (Heir n v ps) (Heir m u qs) w a =
      ap (λ z. place_shown z (sighted_from 0 (own_variables v.items) w) (variable_last ps 0 w)) (before_alike ps qs a.2)
      ∙ ap (λ is. place_shown (variables_before qs) (sighted_from 0 (own_variables is) w) (variable_last ps 0 w)) (sym a.1.items)
      ∙ ap (λ z. place_shown (variables_before qs) (sighted_from 0 (own_variables u.items) w) z) (last_alike ps qs 0 w a.2)

  last_alike : (hs ks : Heritages) (first : ℕ) (w : List ℕ) → AreAlike hs ks → variable_last hs first w ≡ variable_last ks first w
  last_alike NoParent NoParent first w a = refl
  last_alike NoParent (OneParent k ks) first w a = absurd a
  last_alike (OneParent h hs) NoParent first w a = absurd a
  last_alike (OneParent h hs) (OneParent k ks) first w a =
      ap (λ z. or_else (variable_last hs (first + z) w) (place_moved first (variable_outside h w))) (variables_alike h k a.0)
      ∙ ap (λ z. or_else z (place_moved first (variable_outside h w))) (last_alike hs ks (first + variable_count k) w a.1)
      ∙ ap (λ z. or_else (variable_last ks (first + variable_count k) w) (place_moved first z)) (outside_alike h k w a.0)

-- what is asked of their files

mutual
  numbered_alike : (h k : Heritage) → Alike h k → IsNumbered h → IsNumbered k
  numbered_alike (Heir n v ps) (Heir m u qs) a c = (subst (λ is. length (own_names is) ≤ 65535) (sym a.1.items) c.0, all_numbered ps qs a.2 c.1)

  all_numbered : (hs ks : Heritages) → AreAlike hs ks → AreNumbered hs → AreNumbered ks
  all_numbered NoParent NoParent a c = tt
  all_numbered NoParent (OneParent k ks) a c = absurd a
  all_numbered (OneParent h hs) NoParent a c = absurd a
  all_numbered (OneParent h hs) (OneParent k ks) a c = (numbered_alike h k a.0 c.0, all_numbered hs ks a.1 c.1)

mutual
  once_alike : (h k : Heritage) → Alike h k → IsNamedOnce h → IsNamedOnce k
  once_alike (Heir n v ps) (Heir m u qs) a c = (subst (λ is. AreOnce (own_functions is)) (sym a.1.items) c.0, all_once ps qs a.2 c.1)

  all_once : (hs ks : Heritages) → AreAlike hs ks → AreNamedOnce hs → AreNamedOnce ks
  all_once NoParent NoParent a c = tt
  all_once NoParent (OneParent k ks) a c = absurd a
  all_once (OneParent h hs) NoParent a c = absurd a
  all_once (OneParent h hs) (OneParent k ks) a c = (once_alike h k a.0 c.0, all_once hs ks a.1 c.1)

mutual
  spelled_alike : (h k : Heritage) → Alike h k → IsSpelledTree h → IsSpelledTree k
  spelled_alike (Heir n v ps) (Heir m u qs) a c = (subst (λ is. IsSpelled is) (sym a.1.items) c.0, all_spelled ps qs a.2 c.1)

  all_spelled : (hs ks : Heritages) → AreAlike hs ks → AreSpelledTrees hs → AreSpelledTrees ks
  all_spelled NoParent NoParent a c = tt
  all_spelled NoParent (OneParent k ks) a c = absurd a
  all_spelled (OneParent h hs) NoParent a c = absurd a
  all_spelled (OneParent h hs) (OneParent k ks) a c = (spelled_alike h k a.0 c.0, all_spelled hs ks a.1 c.1)

mutual
  unambiguous_alike : (h k : Heritage) → Alike h k → IsUnambiguous h → IsUnambiguous k
  unambiguous_alike (Heir n v ps) (Heir m u qs) a c = (
    subst (λ is. AreDistinct (own_variables is)) (sym a.1.items) c.0,
    λ w e. sym (last_alike ps qs 0 w a.2) ∙ c.1 w (ap (λ is. is_some (sighted_from 0 (own_variables is) w)) (sym a.1.items) ∙ e),
    all_unambiguous ps qs a.2 c.2,
  )

  all_unambiguous : (hs ks : Heritages) → AreAlike hs ks → AreUnambiguous hs → AreUnambiguous ks
  all_unambiguous NoParent NoParent a c = tt
  all_unambiguous NoParent (OneParent k ks) a c = absurd a
  all_unambiguous (OneParent h hs) NoParent a c = absurd a
  all_unambiguous (OneParent h hs) (OneParent k ks) a c = (unambiguous_alike h k a.0 c.0, all_unambiguous hs ks a.1 c.1)

-- The program of one fits the other.

same_version : (h k : Heritage) → Alike h k → IsSameVersion (version_of h) (version_of k)
same_version (Heir n v ps) (Heir m u qs) a = a.1

parents_alike : (h k : Heritage) → Alike h k → tables (parents_of h) ≡ tables (parents_of k)
parents_alike (Heir n v ps) (Heir m u qs) a = tables_alike ps qs a.2

pub fits_alike : (h k : Heritage) (p : RawProgram) → Alike h k → FitsVersion h p → FitsVersion k p
fits_alike h k p a f =
    let v = same_version h k a in
    let ts = parents_alike h k a in
    record {
      sound = f.sound;
      own = record {
        items = refl;
        simuls = refl;
        own = sym (table_alike h k a) ∙ f.own.own;
        parents = refl;
        numbered = numbered_alike h k a f.own.numbered;
        unambiguous = unambiguous_alike h k a f.own.unambiguous;
        once = once_alike h k a f.own.once;
      };
      stands = λ j t. subst (λ z. StandsForVersion j (program_of p z)) ts (f.stands j (record {
        items = t.items ∙ v.items;
        simuls = t.simuls ∙ v.simuls;
        own = t.own;
        parents = t.parents ∙ sym ts;
        numbered = t.numbered;
        unambiguous = t.unambiguous;
        once = t.once;
      }));
      rows = subst (λ z. FindsRows p (rows_of z)) ts f.rows;
      places = f.places;
      parts = f.parts;
      variables = f.variables;
      spelled = spelled_alike h k a f.spelled;
    }

-- The trees of the same versions.

nobody : IsSameVersion no_version no_version
nobody = record { path = refl; items = refl; parents = refl; pragmas = refl; simuls = refl }

same_row : (old new : List Version) (n : ℕ) (o p : Option Version) → AreSameVersions old new → slice_get old n ≡ o → slice_get new n ≡ p → IsSameVersion (unwrap_or o no_version) (unwrap_or p no_version)
same_row old new n None None s a b = nobody
same_row old new n (Some v) (Some u) s a b = s.each n v u a b
same_row old new n None (Some u) s a b = let l = is_below new n u b in let c = s.count in let x = there_below old n (omega (arith, l, c)) in let y = x.1 in absurd cc
same_row old new n (Some v) None s a b = let l = is_below old n v a in let c = s.count in let x = there_below new n (omega (arith, l, c)) in let y = x.1 in absurd cc

same_at : (old new : List Version) (v : ProgId) → AreSameVersions old new → IsSameVersion (version_at (bare old) v) (version_at (bare new) v)
same_at old new v s = same_row old new v.0 (slice_get old v.0) (slice_get new v.0) s refl refl

each_alike : (f g : ProgId → Heritage) → ((v : ProgId) → Alike (f v) (g v)) → (vs : List ProgId) → AreAlike (each_heritage f vs) (each_heritage g vs)
each_alike f g e [] = tt
each_alike f g e (v ∷ vs) = (e v, each_alike f g e vs)

within_alike : (old new : List Version) → AreSameVersions old new → (k : ℕ) (v : ProgId) → Alike (heritage_within k (bare old) v) (heritage_within k (bare new) v)
within_alike old new s zero v = (refl, same_at old new v s, tt)
within_alike old new s (suc k) v = (
  refl,
  same_at old new v s,
  subst (λ vs. AreAlike (each_heritage (heritage_within k (bare old)) (version_at (bare old) v).parents) (each_heritage (heritage_within k (bare new)) vs)) (sym (same_at old new v s).parents)
      (each_alike (heritage_within k (bare old)) (heritage_within k (bare new)) (within_alike old new s k) (version_at (bare old) v).parents),
)

pub heritage_alike : (old new : List Version) (v : ProgId) → AreSameVersions old new → Alike (heritage_in old v) (heritage_in new v)
heritage_alike old new v s = within_alike old new s v.0 v

pub stay_compiled : StayCompiled
stay_compiled programs old new c s = record {
  whole = let w = c.whole in let n = s.count in omega (arith, w, n);
  rising = λ n u e.
      let l = is_below new n u e in
      let k = s.count in
      let x = there_below old n (omega (arith, l, k)) in
      subst (λ vs. All (λ p. p.0 < n) vs) (sym (s.each n x.0 u x.1 e).parents) (c.rising n x.0 x.1);
  fit = λ n p e. fits_alike (heritage_in old (record { 0 = n })) (heritage_in new (record { 0 = n })) p (heritage_alike old new (record { 0 = n }) s) (c.fit n p e);
}
