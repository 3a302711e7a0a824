-- The saved variables of an object become a file, and come from one, as it means.
use Rattle.std.proofs.Common.{◌≡◌, ◌∙◌, ◌++◌, ℕ, suc, zero, List, [], ◌∷◌, Option, Some, None, refl, ap, sym, subst, map, slice_get, slice_set, unwrap_or, pos, IsSome, All, IfSome}
use Rattle.std.specs.Prelude.{IfOk, OnOk, Result, Ok, Err, Vec}
use Rattle.std.proofs.lemmas.List.Elements.{All-cons, All-head, All-nil, All-tail, All-weaker}
use Rattle.lp_values.specs.Errors.{bad_save, plain}
use Rattle.lp_values.specs.declared.error.ErrorKind.TheVariants.{TooNested}
use Rattle.lp_values.specs.declared.id.ObjId.{ObjId}
use Rattle.lp_values.specs.declared.value.Value.{Value}
use Rattle.lp_values.specs.declared.value.Value.TheVariants.{Int}
use Rattle.lp_cells.specs.Cells.{IsThere, KeepsThere, Store as Cells, as_items, as_pairs}
use Rattle.lp_code.specs.declared.program.RawProgram.{RawProgram}
use Rattle.lp_files.specs.Store.{IsWith, file_at}
use Rattle.lp_swapfile.specs.Device.{Bytes}
use Rattle.lp_save.specs.Reading.{FaultIn, Given, outcome, without_kind}
use Rattle.lp_save.specs.SaveText.{FaultyLine, Restored, Values, restored_text, saved_text}
use Rattle.lp_save.specs.declared.fault.FaultKind.{FaultKind}
use Rattle.lp_save.proofs.KindLemmas.{kinds_same}
use Rattle.lp_language.specs.Course.{Scene, State, gives}
use Rattle.lp_language.specs.Operations.{cells_of, living, with_world}
use Rattle.lp_language.specs.Resolve.{heritage_of}
use Rattle.lp_language.specs.World.{Object as ObjectOf, World, is_live, no_object, object_at, with_cells, with_object}
use Rattle.lp_meaning.specs.FileEfuns.{Saved, named_value, restored, restoring, restoring_from, saved_bytes, saved_of, saving, value_at, with_values, with_variables}
use Rattle.lp_part_laws.specs.Versions.{FitsVersion}
use Rattle.lp_world.specs.Closed.{IsClosed}
use Rattle.lp_world.specs.Rows.{live_in, variables_at, variables_in, variables_of}
use Rattle.lp_world.specs.Stands.{Stands}
use Rattle.lp_world.specs.declared.live.Live.{Live}
use Rattle.lp_world.specs.declared.objects.Object.{Object}
use Rattle.lp_world.specs.declared.objects.ObjectState.{ObjectState}
use Rattle.lp_world.specs.declared.objects.ObjectState.TheVariants as objects_of
use Rattle.lp_world.proofs.Keeping.{items_same, live_same, pairs_same, with_other_cells}
use Rattle.lp_filing.specs.declared.outcome.Outcome.{Outcome}
use Rattle.lp_filing.specs.declared.outcome.Outcome.TheVariants as outcomes
use Rattle.lp_filing.specs.Filing.{ComesWith, EndsWith, Follows}
use Rattle.lp_filing.specs.Rows.{Become, KeepsVariables, ReadsFrom, saved_in, with_places}
use Rattle.lp_filing.proofs.Become.{closed_become, keeps_become, places_are, places_many, places_there, stands_become, with_these, world_has}
use Rattle.lp_world.proofs.Closing.{closed_with_cells}
use Rattle.std.specs.declared.alloc.AllocError.{AllocError}
use Rattle.std.specs.declared.alloc.Global.{Global}
use Rattle.lp_save.specs.declared.fault.RestoreFault.TheVariants as faults
use Rattle.lp_cells.specs.Cells.{IsClosed as AreClosed}
use Rattle.lp_filing.proofs.Elsewhere.{fault_elsewhere, values_elsewhere}
use Rattle.lp_filing.proofs.Spelled as spelled
use Rattle.lp_filing.proofs.Variables.{saved_same}
use Rattle.lp_filing.proofs.Worlds.{follows_still, follows_written, own_with_more, part_with_more}

-- Variables in memory

-- the row of an object in memory
pub record HasRow (rows : List (Option Object)) (o : ObjId) (vs : List Value) : Type 0 where
  pub row : Object
  pub there : slice_get rows o.0 ≡ Some (Some row)
  pub resident : row.state ≡ objects_of.Resident vs

pub has_row : (rows : List (Option Object)) (o : ObjId) (vs : List Value) → variables_at rows o ≡ Some vs → HasRow rows o vs
has_row rows o vs e = by (slice_get rows o.0) refl e
  where
    held : (s : ObjectState) → variables_of s ≡ Some vs → s ≡ objects_of.Resident vs
    held (objects_of.Resident us) q = ap (λ x. objects_of.Resident (unwrap_or x us)) q
    held (objects_of.Swapped t shared own) q = cc

    by : (r : Option (Option Object)) → slice_get rows o.0 ≡ r → variables_in (unwrap_or r None) ≡ Some vs → HasRow rows o vs
    by None q h = cc
    by (Some None) q h = cc
    by (Some (Some x)) q h = record { row = x; there = q; resident = held x.state h }

pub some_variables : (rows : List (Option Object)) (o : ObjId) → IsSome (variables_at rows o) → (vs : List Value) × (variables_at rows o ≡ Some vs)
some_variables rows o h = by (variables_at rows o) h
  where
    by : (x : Option (List Value)) → IsSome x → (vs : List Value) × (x ≡ Some vs)
    by None h = absurd cc
    by (Some vs) h = (vs, refl)

-- the values of variables are there
pub values_there : (live : Live) (o : ObjId) (vs : List Value) → IsClosed live → variables_at live.objects o ≡ Some vs → All (IsThere live.cells) vs
values_there live o vs h e =
    let r = has_row live.objects o vs e in
    ((h.objects o.0 r.row r.there).variables vs (ap variables_of r.resident)).1

value_there : (cells : Cells) (vs : List Value) (n : ℕ) → All (IsThere cells) vs → IsThere cells (value_at vs n)
value_there cells [] n h = tt
value_there cells (v ∷ vs) zero h = All-head (IsThere cells) v vs h
value_there cells (v ∷ vs) (suc n) h = value_there cells vs n (All-tail (IsThere cells) v vs h)

pub named_there : (cells : Cells) (vs : List Value) (xs : List Saved) → All (IsThere cells) vs → All (λ p. IsThere cells p.1) (map (named_value vs) xs)
named_there cells vs [] h = All-nil (λ (p : List ℕ × Value). IsThere cells p.1)
named_there cells vs (x ∷ xs) h = All-cons (λ (p : List ℕ × Value). IsThere cells p.1) (named_value vs x) (map (named_value vs) xs) (value_there cells vs x.place h) (named_there cells vs xs h)

-- Saving

-- the text of an object is that of its variables in memory, by the cells and the rows that are there
pub text_is : (told : Option Bytes) (programs : List RawProgram) (live : Live) (s : State) (this : ObjId) (code : RawProgram) (vs : List Value) → Stands told programs live s.world → IsClosed live → variables_at live.objects this ≡ Some vs → FitsVersion (heritage_of s.world this) code
    → saved_text (living s) (cells_of s) (map (named_value (object_at s.world this).variables) (saved_of s.world this)) ≡ saved_text (live_in live.objects) live.cells (map (named_value vs) (saved_in code))
text_is told programs live s this code vs h c e f =
    let r = has_row live.objects this vs e in
    let ps : List (List ℕ × Value) = map (named_value vs) (saved_in code) in
    ap (λ us. saved_text (living s) (cells_of s) (map (named_value us) (saved_of s.world this))) (world_has live this r.row vs vs r.there r.resident told programs s.world h)
    ∙ ap (λ xs. saved_text (living s) (cells_of s) (map (named_value vs) xs)) (sym (saved_same (heritage_of s.world this) code f))
    ∙ ap (λ l. saved_text l (cells_of s) ps) (sym (live_same told programs live s.world h))
    ∙ sym (spelled.saved_same (live_in live.objects) live.cells (cells_of s) c.cells
    (λ d t. ap (λ o. unwrap_or (as_items o) []) (sym (items_same live.cells (cells_of s) d h.cells t)))
    (λ d t. ap (λ o. unwrap_or (as_pairs o) []) (sym (pairs_same live.cells (cells_of s) d h.cells t)))
    ps (named_there live.cells vs (saved_in code) (values_there live this vs c e)))

module _ (live live1 : Live) (this : ObjId) (code : RawProgram) (vs : List Value) (path : List ℕ) (c : Scene) (closed : IsClosed live) (has : variables_at live.objects this ≡ Some vs) (me : c.this ≡ this) where
  -- what was read of the variables of this object becomes the file
  saving_is : (told : Option Bytes) (programs : List RawProgram) (s : State) → Stands told programs live s.world → FitsVersion (heritage_of s.world this) code
      → saving c (Some path) s ≡ saved_bytes path (saved_text (live_in live.objects) live.cells (map (named_value vs) (saved_in code))) s
  saving_is told programs s h f =
      ap (λ (o : ObjId). saved_bytes path (saved_text (living s) (cells_of s) (map (named_value (object_at s.world o).variables) (saved_of s.world o))) s) me
      ∙ ap (λ t. saved_bytes path t s) (text_is told programs live s this code vs h closed has f)

  pub comes_saved : (bytes : List ℕ) → saved_text (live_in live.objects) live.cells (map (named_value vs) (saved_in code)) ≡ Some bytes → live1 ≡ record live { store = live1.store } → IsWith live.store live1.store path (Some bytes)
      → ComesWith code this (saving c (Some path)) live (outcomes.Value (Int (pos 0))) live1
  comes_saved bytes t e i told programs s h f =
      subst (EndsWith (outcomes.Value (Int (pos 0))) (Follows told programs live1 s)) (sym (saving_is told programs s h f ∙ ap (λ x. saved_bytes path x s) t)) (refl, follows_written told programs live live1 s h e path bytes i)

  pub comes_nested : saved_text (live_in live.objects) live.cells (map (named_value vs) (saved_in code)) ≡ None → live1 ≡ live → ComesWith code this (saving c (Some path)) live (outcomes.Error (plain TooNested)) live1
  comes_nested t e told programs s h f =
      subst (EndsWith (outcomes.Error (plain TooNested)) (Follows told programs live1 s)) (sym (saving_is told programs s h f ∙ ap (λ x. saved_bytes path x s) t)) (refl, follows_still told programs live live1 s h e)

pub nothing_saved : (live : Live) (this : ObjId) (code : RawProgram) (c : Scene) → ComesWith code this (saving c None) live (outcomes.Value (Int (pos 1))) live
nothing_saved live this code c told programs s h f = (refl, follows_still told programs live live s h refl)

-- Restoring

-- an object with as much life in the place of another
lives_set : (xs : List ObjectOf) (i j : ℕ) (x d : ObjectOf) → x.is_live ≡ (unwrap_or (slice_get xs i) d).is_live → (unwrap_or (slice_get (slice_set xs i x) j) d).is_live ≡ (unwrap_or (slice_get xs j) d).is_live
lives_set [] i j x d e = refl
lives_set (y ∷ ys) zero zero x d e = e
lives_set (y ∷ ys) zero (suc j) x d e = refl
lives_set (y ∷ ys) (suc i) zero x d e = refl
lives_set (y ∷ ys) (suc i) (suc j) x d e = lives_set ys i j x d e

-- the same objects live where the variables of one become others
pub lives_become : (w : World) (cells : Cells) (o : ObjId) (us : List Value) (p : ObjId) → is_live (with_object (with_cells w cells) o (with_variables (object_at w o) us)) p ≡ is_live w p
lives_become w cells o us p = lives_set w.objects o.0 p.0 (with_variables (object_at w o) us) no_object refl

module _ (live live1 : Live) (this : ObjId) (code : RawProgram) (vs : List Value) (path : List ℕ) (c : Scene) (me : c.this ≡ this) (has : variables_at live.objects this ≡ Some vs) (names : List (List ℕ)) (named : names ≡ map (λ x. x.name) (saved_in code)) where
  -- by the file that is there
  restoring_is : (told : Option Bytes) (programs : List RawProgram) (s : State) (file : Option (List ℕ)) → Stands told programs live s.world → file_at live.store path ≡ file → restoring c (Some path) s ≡ restoring_from c path file s
  restoring_is told programs s file h e = ap (λ o. restoring_from c path o s) (sym (h.rest.files path) ∙ e)

  names_are : (w : World) → FitsVersion (heritage_of w this) code → map (λ x. x.name) (saved_of w c.this) ≡ names
  names_are w f = ap (λ (o : ObjId). map (λ x. x.name) (saved_of w o)) me ∙ ap (map (λ x. x.name)) (sym (saved_same (heritage_of w this) code f)) ∙ sym named

  -- by what is read over the cells of the world
  reading_is : (told : Option Bytes) (programs : List RawProgram) (s : State) (bytes : List ℕ) (r : Restored) → Stands told programs live s.world → FitsVersion (heritage_of s.world this) code → file_at live.store path ≡ Some bytes → restored_text names bytes (cells_of s) ≡ r
      → restoring c (Some path) s ≡ restored c path r s
  reading_is told programs s bytes r h f e q =
      restoring_is told programs s (Some bytes) h e ∙ ap (λ ns. restored c path (restored_text ns bytes (cells_of s)) s) (names_are s.world f) ∙ ap (λ x. restored c path x s) q

  pub comes_unread : file_at live.store path ≡ None → live1 ≡ live → ComesWith code this (restoring c (Some path)) live (outcomes.Value (Int (pos 0))) live1
  comes_unread e q told programs s h f =
      subst (EndsWith (outcomes.Value (Int (pos 0))) (Follows told programs live1 s)) (sym (restoring_is told programs s None h e)) (refl, follows_still told programs live live1 s h q)

  pub comes_faulty : (bytes : List ℕ) (n : ℕ) (k : FaultKind) → file_at live.store path ≡ Some bytes → outcome names bytes live.cells ≡ FaultIn n k → live1 ≡ live → ComesWith code this (restoring c (Some path)) live (outcomes.Error (bad_save path n)) live1
  comes_faulty bytes n k e o q told programs s h f =
      let part : restored_text names bytes live.cells ≡ FaultyLine n = sym (kinds_same names bytes live.cells) ∙ ap without_kind o in
      let whole : restored_text names bytes (cells_of s) ≡ FaultyLine n = fault_elsewhere live.cells (cells_of s) h.cells.next names bytes n part in
      subst (EndsWith (outcomes.Error (bad_save path n)) (Follows told programs live1 s)) (sym (reading_is told programs s bytes (FaultyLine n) h f e whole)) (refl, follows_still told programs live live1 s h q)

  pub comes_restored : (bytes : List ℕ) (given : List (Option Value)) (new : Cells) (places : List ℕ) (row : Object) → file_at live.store path ≡ Some bytes → outcome names bytes live.cells ≡ Given given new → places ≡ map (λ x. x.place) (saved_in code)
      → slice_get live.objects this.0 ≡ Some (Some row) → row.state ≡ objects_of.Resident vs
      → live1 ≡ record live { cells = new; objects = slice_set live.objects this.0 (Some (with_these row (with_places vs places given))) } → ComesWith code this (restoring c (Some path)) live (outcomes.Value (Int (pos 1))) live1
  comes_restored bytes given new places row e o placed there resident q told programs s h f =
      let part : restored_text names bytes live.cells ≡ Values given new = sym (kinds_same names bytes live.cells) ∙ ap without_kind o in
      let t = values_elsewhere live.cells (cells_of s) h.cells.next names bytes given new part in
      let whole : Cells = cells_of s ++ t.0 in
      let us : List Value = with_places vs places given in
      let w : World = with_cells s.world whole in
      let moved : Stands told programs (record live { cells = live.cells ++ t.0 }) w = with_other_cells told programs live s.world (live.cells ++ t.0) whole h (part_with_more live.cells (cells_of s) t.0 h.cells) (own_with_more live.cells (cells_of s) t.0) in
      let here : Stands told programs (record live { cells = new }) w = subst (λ (a : Cells). Stands told programs (record live { cells = a }) w) (sym t.1) moved in
      let after : Stands told programs live1 (with_object w this (with_variables (object_at s.world this) us)) =
      subst (λ (l : Live). Stands told programs l (with_object w this (with_variables (object_at s.world this) us))) (sym q) (stands_become (record live { cells = new }) this row vs us there resident told programs w here) in
      let values : with_values (object_at s.world this).variables (saved_of s.world this) given ≡ us =
      ap (λ xs. with_values xs (saved_of s.world this) given) (world_has live this row vs vs there resident told programs s.world h)
      ∙ ap (λ xs. with_values vs xs given) (sym (saved_same (heritage_of s.world this) code f)) ∙ sym (ap (λ ps. with_places vs ps given) placed ∙ places_are vs (saved_in code) given) in
      let end : World = with_object w this (with_variables (object_at s.world this) us) in
      let course : restoring c (Some path) s ≡ gives (Int (pos 1)) (with_world s end) =
      reading_is told programs s bytes (Values given whole) h f e t.2
      ∙ ap (λ (p : ObjId). gives (Int (pos 1)) (with_world s (with_object w p (with_variables (object_at s.world p) (with_values (object_at s.world p).variables (saved_of s.world p) given))))) me
      ∙ ap (λ xs. gives (Int (pos 1)) (with_world s (with_object w this (with_variables (object_at s.world this) xs)))) values in
      subst (EndsWith (outcomes.Value (Int (pos 1))) (Follows told programs live1 s)) (sym course)
      (refl, record { stands = after; rest = refl; versions = refl; shadows = refl; lives = lives_become s.world whole this us })

pub nothing_restored : (live : Live) (this : ObjId) (code : RawProgram) (c : Scene) → ComesWith code this (restoring c None) live (outcomes.Value (Int (pos 0))) live
nothing_restored live this code c told programs s h f = (refl, follows_still told programs live live s h refl)

-- What was read

pub read_some : (file : Option (List ℕ)) (names : List (List ℕ)) (x : Vec (Option Value) Global) (old new : Cells) → ReadsFrom file names (Ok (Some x)) old new → (bytes : List ℕ) × (file ≡ Some bytes) × (outcome names bytes old ≡ Given x.items new)
read_some None names x old new h = absurd h
read_some (Some bytes) names x old new h = (bytes, refl, h)

pub read_faulty : (file : Option (List ℕ)) (names : List (List ℕ)) (n : ℕ) (k : FaultKind) (old new : Cells) → ReadsFrom file names (Err (faults.Line n k)) old new → (bytes : List ℕ) × (file ≡ Some bytes) × (outcome names bytes old ≡ FaultIn n k) × (new ≡ old)
read_faulty None names n k old new h = absurd h
read_faulty (Some bytes) names n k old new h = (bytes, refl, h.0, h.1)

-- an answer of which two things are told
pub if_ok : {A E : Type 0} (r : Result A E) (P R : A → Type 0) (Q : Type 0) → IfOk r P → OnOk r Q → ((a : A) → P a → Q → R a) → IfOk r R
if_ok (Ok x) P R Q p q h = h x p q
if_ok (Err e) P R Q p q h = tt

module _ (live : Live) (cells : Cells) (objects : List (Option Object)) (this : ObjId) (places : List ℕ) (given : List (Option Value)) (some : IsSome (variables_at live.objects this)) (b : Become live.objects objects this (λ vs. with_places vs places given)) where
  pub restored_keeps : KeepsVariables live.objects objects
  restored_keeps =
      let v = some_variables live.objects this some in
      let r = has_row live.objects this v.0 v.1 in
      subst (KeepsVariables live.objects) (sym (b r.row v.0 r.there r.resident)) (keeps_become live.objects this r.row v.0 (with_places v.0 places given) r.there r.resident (places_many v.0 places given))

  pub restored_closed : IsClosed live → KeepsThere live.cells cells → AreClosed cells → All (λ x. IfSome x (IsThere cells)) given → IsClosed (record live { cells = cells; objects = objects })
  restored_closed h k closed there =
      let v = some_variables live.objects this some in
      let r = has_row live.objects this v.0 v.1 in
      let us : List Value = with_places v.0 places given in
      let values : All (IsThere cells) us = places_there cells v.0 places given (All-weaker (IsThere live.cells) (IsThere cells) k v.0 (values_there live this v.0 h v.1)) there in
      subst (λ (os : List (Option Object)). IsClosed (record live { cells = cells; objects = os })) (sym (b r.row v.0 r.there r.resident))
      (closed_become (record live { cells = cells }) this r.row v.0 us (closed_with_cells live cells h k closed) r.there r.resident (places_many v.0 places given) values)

-- an answer that is the error of a line
pub faulty_ends : {m n : ℕ} → m ≡ n → (r : Result Outcome AllocError) (path : List ℕ) (R : Outcome → Type 0) → IfOk r (λ d. d ≡ outcomes.Error (bad_save path m)) → R (outcomes.Error (bad_save path n)) → IfOk r R
faulty_ends e (Ok d) path R h x = subst R (sym (h ∙ ap (λ k. outcomes.Error (bad_save path k)) e)) x
faulty_ends e (Err f) path R h x = tt
