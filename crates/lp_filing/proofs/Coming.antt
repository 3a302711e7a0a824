-- What is read of the files, and what is done to them, is what it means.
use Rattle.std.proofs.Common.{◌≡◌, ◌∙◌, ◌++◌, ℕ, Bool, true, false, List, [], Option, Some, None, refl, ap, sym, subst, length, pos, is_some, if◌then◌else◌}
use Rattle.std.specs.Prelude.{◌&&◌, IsUtf8, bytes_eq, chars, encode_utf8_all, nat_le, nat_lt}
use Rattle.std.specs.Option.{unwrap_or}
use Rattle.std.proofs.lemmas.Bool.{le-leb, lt-leb, ltb-false, ltb-true}
use Rattle.std.proofs.lemmas.Slice.Eq.{bytes_eq-Decides}
use Rattle.lp_values.specs.Limits.{max_code_points}
use Rattle.lp_values.specs.declared.value.Value.{Value}
use Rattle.lp_values.specs.declared.value.Value.TheVariants.{Int, Str}
use Rattle.lp_files.specs.Store.{IsWith, file_at}
use Rattle.lp_files.specs.declared.store.Store.{Store}
use Rattle.lp_save.proofs.LineLemmas.{valid_len}
use Rattle.lp_language.specs.Course.{gives, zero_value}
use Rattle.lp_language.specs.Operations.{with_world}
use Rattle.lp_language.specs.World.{World}
use Rattle.lp_meaning.specs.FileEfuns.{bytes_of, or_empty, removed, text_or_zero, written_to}
use Rattle.lp_meaning.specs.WorldSteps as steps
use Rattle.lp_world.specs.declared.live.Live.{Live}
use Rattle.lp_filing.specs.declared.outcome.Outcome.TheVariants as outcomes
use Rattle.lp_filing.specs.Filing.{Comes, EndsWith, Follows, Shows}
use Rattle.lp_filing.proofs.Worlds.{follows_files, follows_gone, follows_still, follows_written}

-- Reading

-- what is read of the file at a path, ..
pub shows_file : (live : Live) (of : Option (List ℕ) → Value) (path : List ℕ) (v : Value) → v ≡ of (file_at live.store path) → Shows (λ w. of (bytes_of w (Some path))) live v
shows_file live of path v e told programs w h = e ∙ ap of (h.rest.files path)

-- .. and where leave was refused
pub shows_none : (live : Live) (of : Option (List ℕ) → Value) (v : Value) → v ≡ of None → Shows (λ w. of (bytes_of w None)) live v
shows_none live of v e told programs w h = e

-- Writing

pub or_empty-is : (o : Option (List ℕ)) → unwrap_or o [] ≡ or_empty o
or_empty-is None = refl
or_empty-is (Some bytes) = refl

pub comes_written : (live live1 : Live) (path text : List ℕ) → live1 ≡ record live { store = live1.store } → IsWith live.store live1.store path (Some (or_empty (file_at live.store path) ++ encode_utf8_all text))
    → Comes (written_to (Some path) text) live (outcomes.Value (Int (pos 1))) live1
comes_written live live1 path text e i told programs s h =
    (refl, follows_written told programs live live1 s h e path (or_empty (steps.file_at s.world.files path) ++ encode_utf8_all text) (subst (λ o. IsWith live.store live1.store path (Some (or_empty o ++ encode_utf8_all text))) (h.rest.files path) i))

pub nothing_written : (live : Live) (text : List ℕ) → Comes (written_to None text) live (outcomes.Value (Int (pos 0))) live
nothing_written live text told programs s h = (refl, follows_still told programs live live s h refl)

pub nothing_removed : (live : Live) → Comes (removed None) live (outcomes.Value (Int (pos 0))) live
nothing_removed live told programs s h = (refl, follows_still told programs live live s h refl)

-- where no file was, nothing is removed
same_without : (old new : Store) (path q : List ℕ) → IsWith old new path None → is_some (file_at old path) ≡ false → file_at new q ≡ file_at old q
same_without old new path q i n = i q ∙ by (bytes_eq path q) refl
  where
    none : (o : Option (List ℕ)) → is_some o ≡ false → None ≡ o
    none None e = refl
    none (Some x) e = absurd cc

    by : (b : Bool) → bytes_eq path q ≡ b → (if b then None else file_at old q) ≡ file_at old q
    by true e = none (file_at old path) n ∙ ap (file_at old) ((bytes_eq-Decides path q).0 e)
    by false e = refl

pub comes_removed : (live live1 : Live) (path : List ℕ) (b : Bool) → live1 ≡ record live { store = live1.store } → b ≡ is_some (file_at live.store path) → IsWith live.store live1.store path None
    → Comes (removed (Some path)) live (outcomes.Value (Int (pos (if b then 1 else 0)))) live1
comes_removed live live1 path b e is i told programs s h =
    subst (λ c. EndsWith (outcomes.Value (Int (pos (if b then 1 else 0)))) (Follows told programs live1 s) (if c then gives (Int (pos 1)) (with_world s (steps_without path)) else gives zero_value s))
    (is ∙ ap is_some (h.rest.files path)) (by b is)
  where
    steps_without : List ℕ → World
    steps_without p = record s.world { files = steps.file_removed s.world.files p }

    by : (c : Bool) → c ≡ is_some (file_at live.store path) → EndsWith (outcomes.Value (Int (pos (if c then 1 else 0)))) (Follows told programs live1 s) (if c then gives (Int (pos 1)) (with_world s (steps_without path)) else gives zero_value s)
    by true q = (refl, follows_gone told programs live live1 s h e path i)
    by false q = (refl, follows_files told programs live live1 s h e s.world.files (λ p. same_without live.store live1.store path p i (sym q) ∙ h.rest.files p))

-- Texts of files

-- bytes that are UTF-8 are the text that they spell, where that is no longer than a text may be
pub utf8_text : (bytes text : List ℕ) (v : Value) → text ≡ bytes → IsUtf8 bytes → v ≡ (if nat_le (length (chars text)) max_code_points then Str (chars text) else zero_value) → v ≡ text_or_zero bytes
utf8_text bytes text v q u e =
    e ∙ ap (λ (t : List ℕ). if nat_le (length (chars t)) max_code_points then Str (chars t) else zero_value) q
    ∙ sym (ap (λ b. if b && nat_le (length (chars bytes)) max_code_points then Str (chars bytes) else zero_value) (valid_len bytes u))

pub long_is_zero : (t : List ℕ) → nat_lt max_code_points (length t) ≡ true → Int (pos 0) ≡ (if nat_le (length t) max_code_points then Str t else zero_value)
long_is_zero t e = ap (λ b. if b then Str t else zero_value) (sym (lt-leb (length t) max_code_points (ltb-true max_code_points (length t) e)))

pub short_is_text : (t x : List ℕ) → x ≡ t → nat_lt max_code_points (length t) ≡ false → Str x ≡ (if nat_le (length t) max_code_points then Str t else zero_value)
short_is_text t x q e = ap Str q ∙ ap (λ b. if b then Str t else zero_value) (sym (le-leb (length t) max_code_points (ltb-false max_code_points (length t) e)))
