-- What a look at the program of a version, or of a part of one, tells.
use Rattle.std.proofs.Common.{◌≡◌, ◌∙◌, ◌<◌, ◌≤◌, ℕ, zero, suc, arith, refl, sym, ap, subst, Bool, true, false, List, [], ◌∷◌, ◌++◌, length, Option, Some, None, IsSome, slice_get, take}
use Rattle.std.proofs.lemmas.List.{length-take-le, take_all}
use Rattle.std.specs.Prelude.{◌+◌, is_some, if◌then◌else◌}
use Rattle.lp_values.specs.declared.id.ProgId.{ProgId}
use Rattle.lp_code.specs.declared.program.RawProgram.{RawProgram}
use Rattle.lp_swapfile.specs.Device.{Bytes}
use Rattle.lp_language.specs.World.{Version, World}
use Rattle.lp_language.specs.Resolve.{Heritage, Part, number_of, parts}
use Rattle.lp_meaning.specs.FileLoads.{initialised_from}
use Rattle.lp_world.specs.declared.live.Live.{Live}
use Rattle.lp_world.specs.Stands.{Stands}
use Rattle.lp_inherit.proofs.Meanings.{count_parts}
use Rattle.lp_part_laws.specs.Versions.{AreCompiled, FitsVersion, heritage_in}
use Rattle.lp_part_laws.proofs.Lists.{is_below, one_value, there_below}
use Rattle.lp_part_laws.proofs.Places.{count_from, number_at}
use Rattle.lp_part_laws.proofs.Trees.{part_settled}
use Rattle.lp_targets.specs.Brought.{program_at}
use Rattle.lp_targets.proofs.Memory.{some_row}
use Rattle.lp_targets.proofs.Worlds.{program_is}
use Rattle.lp_beginning.specs.Beginning.{ArePartsBelow, ArePartsOf, HasPart, TellsPart, TellsVersion}
use Rattle.lp_reaching.specs.Rows.{IsInitialiserRowIf, has_initialisers}

-- a row tells that there are initialisers
pub row_tells : (h : Heritage) (p : RawProgram) (r : Option ℕ) → IsInitialiserRowIf h p r → is_some r ≡ has_initialisers h
row_tells h p None i = sym i
row_tells h p (Some k) i = sym i.0

-- The program of a version that is in memory fits it.
pub fits_at : (told : Option Bytes) (programs : List RawProgram) (live : Live) (w : World) (v : ProgId) (raw : RawProgram) → Stands told programs live w → AreCompiled programs w.versions → program_at live.versions v ≡ Some raw → FitsVersion (heritage_in w.versions v) raw
fits_at told programs live w v raw s c e = c.fit v.0 raw (program_is told programs live w v raw s e)

-- A look at a program in memory tells of the version.
pub tells_version : (told : Option Bytes) (live : Live) (v : ProgId) (b : Bool) → IsSome (program_at live.versions v)
    → ((raw : RawProgram) (h : Heritage) → program_at live.versions v ≡ Some raw → FitsVersion h raw → b ≡ has_initialisers h) → TellsVersion told live v b
tells_version told live v b here f programs w s c =
    let x = some_row (program_at live.versions v) here in
    f x.0 (heritage_in w.versions v) x.1 (fits_at told programs live w v x.0 s c x.1)

-- as many parts as the tables have
pub parts_many : (h : Heritage) (raw : RawProgram) → FitsVersion h raw → length (parts h) ≡ length raw.tables.parts
parts_many h raw f = count_from h 0 0 ∙ sym (ap (λ t. length t.parts) (sym f.own.own) ∙ count_parts h)

-- The version of a part, by the tables of a program in memory, tells of the part.
pub tells_part : (told : Option Bytes) (live : Live) (v : ProgId) (part : ℕ) (p : ProgId) (b : Bool) → IsSome (program_at live.versions v)
    → ((raw : RawProgram) → program_at live.versions v ≡ Some raw → Some p ≡ slice_get raw.tables.parts part) → TellsVersion told live p b → TellsPart told live v part b
tells_part told live v part p b here f t programs w s c =
    let x = some_row (program_at live.versions v) here in
    let h : Heritage = heritage_in w.versions v in
    let fits = fits_at told programs live w v x.0 s c x.1 in
    let at : slice_get x.0.tables.parts part ≡ Some p = sym (f x.0 x.1) in
    let low : part < length (parts h) = let i = is_below x.0.tables.parts part p at in let m = parts_many h x.0 fits in omega (arith, i, m) in
    let q = there_below (parts h) part low in
    let number : number_of q.0.tree ≡ p = one_value (slice_get x.0.tables.parts part) (number_of q.0.tree) p (subst (λ z. slice_get z.parts part ≡ Some (number_of q.0.tree)) fits.own.own (number_at h part q.0 q.1)) at in
    let tree : q.0.tree ≡ heritage_in w.versions p = (part_settled w.versions v part q.0 c.rising q.1).tree ∙ ap (heritage_in w.versions) number in
    (q.0, q.1, t programs w s c ∙ ap has_initialisers (sym tree))

-- One part after another

abbrev here_if : Bool → ℕ → List ℕ
here_if b n = if b then n ∷ [] else []

more : (b : Bool) (n : ℕ) (xs ys : List ℕ) → (if b then n ∷ (xs ++ ys) else xs ++ ys) ≡ (if b then n ∷ xs else xs) ++ ys
more true n xs ys = refl
more false n xs ys = refl

initialised_last : (n : ℕ) (ps : List Part) (p : Part) → initialised_from n (ps ++ p ∷ []) ≡ initialised_from n ps ++ here_if (has_initialisers p.tree) (n + length ps)
initialised_last n [] p = ap (here_if (has_initialisers p.tree)) (let z : n ≡ n + 0 = omega arith in z)
initialised_last n (q ∷ ps) p =
    ap (λ l. if has_initialisers q.tree then n ∷ l else l) (initialised_last (suc n) ps p ∙ ap (λ k. initialised_from (suc n) ps ++ here_if (has_initialisers p.tree) k) (let z : suc n + length ps ≡ n + suc (length ps) = omega arith in z))
    ∙ more (has_initialisers q.tree) n (initialised_from (suc n) ps) (here_if (has_initialisers p.tree) (n + suc (length ps)))

take_next : (ps : List Part) (k : ℕ) (p : Part) → slice_get ps k ≡ Some p → take (k + 1) ps ≡ take k ps ++ p ∷ []
take_next [] k p e = absurd cc
take_next (q ∷ ps) zero p e = let s : q ≡ p = cc in ap (λ z. z ∷ []) s
take_next (q ∷ ps) (suc k) p e = ap (λ n. take n (q ∷ ps)) (let z : suc k + 1 ≡ suc (k + 1) = omega arith in z) ∙ ap (λ l. q ∷ l) (take_next ps k p e)

take_many : (ps : List Part) (k : ℕ) (p : Part) → slice_get ps k ≡ Some p → length (take k ps) ≡ k
take_many ps k p e = let i = is_below ps k p e in length-take-le k ps (omega (arith, i))

-- the parts so far, and the next one
pub part_more : (versions : List Version) (v : ProgId) (k : ℕ) (b : Bool) (found : List ℕ) → found ≡ initialised_from 0 (take k (parts (heritage_in versions v))) → HasPart versions v k b
    → found ++ (if b then k ∷ [] else []) ≡ initialised_from 0 (take (k + 1) (parts (heritage_in versions v)))
part_more versions v k b found e h =
    let ps = parts (heritage_in versions v) in
    ap (λ l. l ++ here_if b k) e
    ∙ ap (λ c. initialised_from 0 (take k ps) ++ here_if c k) h.2
    ∙ ap (λ n. initialised_from 0 (take k ps) ++ here_if (has_initialisers h.0.tree) n) (let m = take_many ps k h.0 h.1 in let z : k ≡ 0 + length (take k ps) = omega (arith, m) in z)
    ∙ sym (initialised_last 0 (take k ps) h.0)
    ∙ ap (initialised_from 0) (sym (take_next ps k h.0 h.1))

-- All parts are below their number.
pub all_parts : (told : Option Bytes) (live : Live) (v : ProgId) (n : ℕ) (found : List ℕ) → IsSome (program_at live.versions v)
    → ((raw : RawProgram) → program_at live.versions v ≡ Some raw → length raw.tables.parts ≤ 65535 → n ≡ length raw.tables.parts) → ArePartsBelow told live v n found → ArePartsOf told live v found
all_parts told live v n found here f below programs w s c =
    let x = some_row (program_at live.versions v) here in
    let h : Heritage = heritage_in w.versions v in
    let fits = fits_at told programs live w v x.0 s c x.1 in
    let many = parts_many h x.0 fits in
    let is = f x.0 x.1 fits.parts in
    below programs w s c ∙ ap (initialised_from 0) (take_all n (parts h) (omega (arith, many, is)))
