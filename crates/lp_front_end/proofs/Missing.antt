-- What is known of parents while a file is compiled is what its load knows.
use Rattle.std.proofs.Common.{◌≡◌, ◌∙◌, ℕ, suc, List, [], ◌∷◌, Bool, true, false, Option, Some, None, All, map, not, is_some, option_map, cond, refl, sym, ap, length, drop, arith}
use Rattle.std.specs.Prelude.{unwrap_or}
use Rattle.std.proofs.lemmas.Option.{none-some, same_Some}
use Rattle.lp_values.specs.declared.id.ProgId.{ProgId}
use Rattle.lp_code.specs.declared.tables.Tables.{Tables}
use Rattle.lp_inherit.specs.Heirs.{table}
use Rattle.lp_front.specs.declared.parents.Parent.{Parent as Inherited}
use Rattle.lp_language.specs.World.{World}
use Rattle.lp_language.specs.Resolve.{heritage}
use Rattle.lp_meaning.specs.FileLoads.{Made, Parent, parents_in, known_version, version_known, first_missing}
use Rattle.lp_front_end.specs.FrontEnds.{tables_in}
use Rattle.lp_front_end.specs.Parents.{FilesAreOfNames, MissingAreTheSame, TablesAreTheSame, by_file, file_bytes, first_not_known, tables_known}

mapped : {A B : Type 0} (f : A → B) (o : Option A) → is_some (option_map f o) ≡ is_some o
mapped f None = refl
mapped f (Some x) = refl

-- the first of some that has a test, in two lists
found_by : (b : Bool) (p : Parent) (x : Option Inherited) (y : Option Parent) → x ≡ option_map by_file y → cond b (Some (by_file p)) x ≡ option_map by_file (cond b (Some p) y)
found_by true p x y e = refl
found_by false p x y e = e

module _ (known : List ℕ → Option Tables) (w : World) (made : List Made) where
  abbrev Tells : Parent → Type 0
  Tells p = known (file_bytes p.name) ≡ tables_known w made p.name

  same_test : (p : Parent) → Tells p → not (is_some (known (file_bytes p.name))) ≡ not (is_some (known_version w made p.name))
  same_test p e = ap (λ (o : Option Tables). not (is_some o)) e ∙ ap not (mapped (λ (v : ProgId). table (heritage w v)) (known_version w made p.name))

  first_same : (ps : List Parent) → All Tells ps → first_not_known known (map by_file ps) ≡ option_map by_file (first_missing w made ps)
  first_same [] h = refl
  first_same (p ∷ ps) h =
      ap (λ (b : Bool). cond b (Some (by_file p)) (first_not_known known (map by_file ps))) (same_test p (h 0 p (omega arith)))
      ∙ found_by (not (is_some (known_version w made p.name))) p (first_not_known known (map by_file ps)) (first_missing w made ps) (first_same ps (λ k d lt. h (suc k) d (omega (arith, lt))))

  table_of : (o : Option ProgId) (t : Tables) → option_map (λ (v : ProgId). table (heritage w v)) o ≡ Some t → t ≡ table (heritage w (unwrap_or o (record { 0 = 0 })))
  table_of None t e = absurd (none-some t e)
  table_of (Some v) t e = sym (same_Some (table (heritage w v)) t e)

  first_table : (p : Parent) (t : Tables) (xs ys : List (Option Tables)) → Tells p → known (file_bytes p.name) ∷ xs ≡ Some t ∷ ys → t ≡ table (heritage w (version_known w made p))
  first_table p t xs ys h e = table_of (known_version w made p.name) t (sym h ∙ head e)
    where
      head : {x y : Option Tables} {xs ys : List (Option Tables)} → x ∷ xs ≡ y ∷ ys → x ≡ y
      head k = cc

  tables_same : (ps : List Parent) (ts : List Tables) → All Tells ps → map (λ (p : Inherited). known p.file) (map by_file ps) ≡ map Some ts → ts ≡ tables_in w (map (version_known w made) ps)
  tables_same [] [] h e = refl
  tables_same [] (t ∷ ts) h e = absurd (omega (arith, ap length e))
  tables_same (p ∷ ps) [] h e = absurd (omega (arith, ap length e))
  tables_same (p ∷ ps) (t ∷ ts) h e =
      ap (λ (x : Tables). x ∷ ts) (first_table p t (map (λ (q : Inherited). known q.file) (map by_file ps)) (map Some ts) (h 0 p (omega arith)) e)
      ∙ ap (λ (xs : List Tables). table (heritage w (version_known w made p)) ∷ xs) (tables_same ps ts (λ k d lt. h (suc k) d (omega (arith, lt))) (ap (drop 1) e))

pub missing_are_the_same : FilesAreOfNames → MissingAreTheSame
missing_are_the_same law known w made items h = ap (first_not_known known) (law items) ∙ first_same known w made (parents_in items) h

pub tables_are_the_same : FilesAreOfNames → TablesAreTheSame
tables_are_the_same law known w made items ts h e = tables_same known w made (parents_in items) ts h (ap (map (λ (p : Inherited). known p.file)) (sym (law items)) ∙ e)
