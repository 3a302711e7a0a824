-- What is loaded of a state is what is known in a world for which it stands.
use Rattle.std.proofs.Common.{◌≡◌, ◌≢◌, ◌∙◌, inl, inr, ◌+◌, ◌-◌, ◌<◌, ◌≤◌, ◌++◌, ℕ, zero, suc, Bool, true, false, ◌&&◌, ◌||◌, List, [], ◌∷◌, Option, Some, None, refl, ap, sym, subst, map, take, drop, codes, slice_get, unwrap_or, length, length-append, option_map, if◌then◌else◌, get_or, nat_lt, append-nil, ne_eqb, eq-eqb, arith}
use Rattle.std.specs.BTreeMap.{get_by_text}
use Rattle.std.specs.Char.{is_ascii}
use Rattle.std.specs.List.{list_all, list_any}
use Rattle.std.specs.Prelude.{◌==◌}
use Rattle.std.specs.Str.{IsAscii, IsUtf8, chars, encode_utf8_all, is_utf8}
use Rattle.std.proofs.Math.Seq.{get_or-append-add}
use Rattle.std.proofs.Math.Utf8.{encode, scalar, scalars}
use Rattle.std.proofs.lemmas.Bool.{cases_Bool, ltb-false, ltb-true}
use Rattle.std.proofs.lemmas.Bool.Decides.{Decides-eqb}
use Rattle.std.proofs.lemmas.List.{take_at, drop_at}
use Rattle.std.proofs.lemmas.Slice.Eq.{bytes_eq-Decides, ends_is}
use Rattle.std.proofs.lemmas.List.Folds.{list_any-append}
use Rattle.std.proofs.lemmas.Str.{IsCharBoundary-before_ascii, IsUtf8-from_is_utf8, IsUtf8-take, chars-encodes, chars-nil, chars_past_char, encode_ascii, encodes-IsAscii, encodes-append, encodes-chars, encodes_same, inside_one, is_utf8-from_IsUtf8}
use Rattle.lp_values.specs.declared.id.ObjId.{ObjId}
use Rattle.lp_values.specs.declared.id.ProgId.{ProgId}
use Rattle.lp_code.specs.declared.program.RawProgram.{RawProgram}
use Rattle.lp_code.specs.declared.tables.Tables.{Tables}
use Rattle.lp_instr.specs.EfunList.{is_name}
use Rattle.lp_objects.specs.Objects as named
use Rattle.lp_swapfile.specs.Device.{Bytes}
use Rattle.lp_inherit.specs.Heirs.{table}
use Rattle.lp_language.specs.World as world
use Rattle.lp_language.specs.World.{World, no_object, object_at, object_named, named_from}
use Rattle.lp_language.specs.Resolve.{heritage, or_else, without_c}
use Rattle.lp_meaning.specs.FileLoads.{Made, known_version, made_for}
use Rattle.lp_meaning.specs.WorldSteps.{blueprint, file_of_name, is_clone_name, is_hash}
use Rattle.lp_front.specs.Settling.{own_version}
use Rattle.lp_front_end.specs.Parents.{file_bytes, tables_known}
use Rattle.lp_fits.specs.Fits.{HasTables}
use Rattle.lp_part_laws.specs.Versions.{heritage_in}
use Rattle.lp_world.proofs.BareWorlds.{heritage_same}
use Rattle.lp_world.specs.Rows.{row_at}
use Rattle.lp_world.specs.Stands.{ObjectIs, Stands, named_of}
use Rattle.lp_world.specs.declared.live.Live.{Live}
use Rattle.lp_world.specs.declared.objects.Object.{Object}
use Rattle.lp_making.specs.Objects.{program_at}
use Rattle.lp_making.proofs.NewObject.{same_named}
use Rattle.lp_targets.specs.Callees.{IsWorldOf}
use Rattle.lp_targets.proofs.Worlds.{program_is}
use Rattle.lp_loaded.specs.Present.{serial_of, tables_in, tables_of, version_at, version_in}
use Rattle.lp_loaded.proofs.Ready.{own_version_is, standing_is_ready}
use Rattle.lp_loading.specs.Present.{WorldsAreReady, known_of, version_in_file, version_named, version_of_file}

-- A state that stands for a world is ready.
pub worlds_are_ready : WorldsAreReady
worlds_are_ready told programs live w h = record {
  ready = standing_is_ready told programs live w h.stands (λ n p e. let f = h.compiled.fit n p e in record { tables = sym f.own.own; numbered = f.own.numbered });
  of = λ v p e.
      let f = h.compiled.fit v.0 p (program_is told programs live w v p h.stands e) in
      record { heritage = heritage_in w.versions (record { 0 = v.0 }); own = f.own.own; numbered = f.own.numbered; unambiguous = f.own.unambiguous; once = f.own.once };
}

-- Blueprints

-- an object that is found by its name is there and live
record IsLiveAt (xs : List world.Object) (n : ℕ) (o : ObjId) : Type 0 where
  place : ℕ
  object : world.Object
  number : o.0 ≡ n + place
  there : slice_get xs place ≡ Some object
  live : object.is_live ≡ true

live_at : (name : List ℕ) (n : ℕ) (xs : List world.Object) (o : ObjId) → named_from name n xs ≡ Some o → IsLiveAt xs n o
live_at name n [] o e = absurd cc
live_at name n (x ∷ xs) o e = by (live_at name (suc n) xs o) x.is_live (is_name x.name name) refl e
  where
    later : IsLiveAt xs (suc n) o → IsLiveAt (x ∷ xs) n o
    later i = record { place = suc i.place; object = i.object; number = let k : o.0 ≡ suc n + i.place = i.number in omega (arith, k); there = i.there; live = i.live }

    by : (named_from name (suc n) xs ≡ Some o → IsLiveAt xs (suc n) o) → (a b : Bool) → x.is_live ≡ a → (if a && b then Some (record { 0 = n }) else named_from name (suc n) xs) ≡ Some o → IsLiveAt (x ∷ xs) n o
    by ih true true l f = record { place = zero; object = x; number = let k : n ≡ o.0 = ap (λ (q : Option ObjId). (unwrap_or q (record { 0 = n })).0) f in omega (arith, k); there = refl; live = l }
    by ih true false l f = later (ih f)
    by ih false b l f = later (ih f)

-- the row of a live object
live_row : (told : Option Bytes) (programs : List RawProgram) (live : Live) (w : World) (o : ObjId) (x : world.Object) → Stands told programs live w → slice_get w.objects o.0 ≡ Some x → x.is_live ≡ true
    → version_in (row_at live.objects o.0) ≡ Some x.version
live_row told programs live w o x h e l = by (slice_get live.objects o.0) (subst (λ q. ObjectIs told live.cells w.cells o.0 (slice_get live.objects o.0) q) e (h.objects o.0))
  where
    by : (r : Option (Option Object)) → ObjectIs told live.cells w.cells o.0 r (Some x) → version_in (unwrap_or r None) ≡ Some x.version
    by None i = absurd i
    by (Some None) i = let t : true ≡ false = sym l ∙ i in absurd cc
    by (Some (Some row)) i = ap Some i.version

-- A `#` is no byte of a letter beyond ASCII, and the one byte of itself.
none_is : (bs : List ℕ) → ((i : ℕ) → i < length bs → get_or bs i 0 ≢ 35) → list_any is_hash bs ≡ false
none_is [] h = refl
none_is (b ∷ bs) h = ap (λ x. x || list_any is_hash bs) (ne_eqb b 35 (h 0 (omega arith))) ∙ none_is bs (λ i l. h (suc i) (omega (arith, l)))

or_no : (b : Bool) → (b || false) ≡ b
or_no true = refl
or_no false = refl

letter_same : (c : ℕ) → list_any is_hash (encode c) ≡ is_hash c
letter_same c = elim (cases_Bool (nat_lt c 128)) [
  | inl t ↦ ap (list_any is_hash) (encode_ascii c (ltb-true c 128 t)) ∙ or_no (is_hash c)
  | inr f ↦
      let high : 128 ≤ c = ltb-false c 128 f in
      let none : (i : ℕ) → i < length (encode c) → get_or (encode c) i 0 ≢ 35 = λ i l e.
      let same : c ≡ get_or (encode c) i 0 = inside_one c [] (encode c) i (sym (append-nil (encode c))) l (omega (arith, e)) in omega (arith, same, e, high) in
      none_is (encode c) none ∙ sym (ne_eqb c 35 (λ e. omega (arith, e, high)))
]

clones_same : (name : List ℕ) → is_clone_name (encode_utf8_all name) ≡ is_clone_name name
clones_same [] = refl
clones_same (c ∷ cs) =
    list_any-append is_hash (encode c) (encode_utf8_all cs) ∙ ap (λ b. b || is_clone_name (encode_utf8_all cs)) (letter_same c) ∙ ap (λ b. is_hash c || b) (clones_same cs)

serial_same : (told : Option Bytes) (programs : List RawProgram) (live : Live) (w : World) (name : List ℕ) → Stands told programs live w → scalars name ≡ true → serial_of live.names (encode_utf8_all name) ≡ blueprint w name
serial_same told programs live w name h s =
    ap (λ b. if b then None else get_by_text live.names.serials (encode_utf8_all name)) (clones_same name)
    ∙ ap (λ o. if is_clone_name name then None else o)
    (h.names.listed (encode_utf8_all name) (name, (s, refl)) ∙ ap (named.object_named (map named_of w.objects)) (chars-encodes name s) ∙ same_named w name)

-- the version of an object that is found by its name
pub named_version : (told : Option Bytes) (programs : List RawProgram) (live : Live) (w : World) (name : List ℕ) (o : ObjId) → Stands told programs live w → object_named w name ≡ Some o
    → version_in (row_at live.objects o.0) ≡ Some (object_at w o).version
named_version told programs live w name o h e =
    let i = live_at name 0 w.objects o e in
    let at : i.place ≡ o.0 = (let k : o.0 ≡ 0 + i.place = i.number in omega (arith, k)) in
    let there : slice_get w.objects o.0 ≡ Some i.object = ap (slice_get w.objects) (sym at) ∙ i.there in
    live_row told programs live w o i.object h there i.live ∙ ap (λ (q : Option world.Object). Some (unwrap_or q no_object).version) (sym there)

blueprint_same : (told : Option Bytes) (programs : List RawProgram) (live : Live) (w : World) (name : List ℕ) → Stands told programs live w → scalars name ≡ true
    → version_at live (serial_of live.names (encode_utf8_all name)) ≡ option_map (λ o. (object_at w o).version) (blueprint w name)
blueprint_same told programs live w name h a = ap (version_at live) (serial_same told programs live w name h a) ∙ by (is_clone_name name) (object_named w name) refl
  where
    by : (b : Bool) (o : Option ObjId) → object_named w name ≡ o → version_at live (if b then None else o) ≡ option_map (λ o. (object_at w o).version) (if b then None else o)
    by true o e = refl
    by false None e = refl
    by false (Some o) e = named_version told programs live w name o h e

-- the version of a parent, by its name
pub version_same : (told : Option Bytes) (programs : List RawProgram) (live : Live) (w : World) (made : List Made) (name : List ℕ) → Stands told programs live w → scalars name ≡ true
    → version_named made live (encode_utf8_all name) ≡ known_version w made name
version_same told programs live w made name h s =
    ap (λ n. or_else (made_for made n) (version_at live (serial_of live.names (encode_utf8_all name)))) (chars-encodes name s) ∙ ap (or_else (made_for made name)) (blueprint_same told programs live w name h s)

-- Files

-- letters of ASCII, one by one
letters : (c : ℕ) (cs : List ℕ) → is_ascii c ≡ true → IsAscii cs → IsAscii (c ∷ cs)
letters c cs e a zero = ltb-true c 128 e
letters c cs e a (suc i) = a i

pub ascii_text : (cs : List ℕ) → list_all is_ascii cs ≡ true → IsAscii cs
ascii_text [] e = none
  where
    none : IsAscii []
    none i = omega arith
ascii_text (c ∷ cs) e = by (ascii_text cs) (is_ascii c) refl e
  where
    by : (list_all is_ascii cs ≡ true → IsAscii cs) → (b : Bool) → is_ascii c ≡ b → (b && list_all is_ascii cs) ≡ true → IsAscii (c ∷ cs)
    by ih true i f = letters c cs i (ih f)
    by ih false i f = absurd cc

abbrev dot_c : List ℕ
dot_c = codes ".c"

two_less : (name : List ℕ) → length (name ++ dot_c) - 2 ≡ length name
two_less name = omega (arith, length-append name dot_c)

-- a file without `.c` has its name
pub without_ending : (name : List ℕ) → without_c (file_of_name name) ≡ name
without_ending name =
    let path : List ℕ = name ++ dot_c in
    let ends : is_name (drop (length path - 2) path) dot_c ≡ true = ap (λ k. is_name (drop k path) dot_c) (two_less name) ∙ ap (λ x. is_name x dot_c) (drop_at name dot_c (length name) refl) in
    ap (λ b. if b then take (length path - 2) path else path) ends ∙ ap (λ k. take k path) (two_less name) ∙ take_at name dot_c (length name) refl

not_itself : (name : List ℕ) → is_name name (file_of_name name) ≡ false
not_itself name = by (is_name name (file_of_name name)) refl
  where
    by : (b : Bool) → is_name name (file_of_name name) ≡ b → b ≡ false
    by true e = let q : name ≡ name ++ dot_c = (bytes_eq-Decides name (name ++ dot_c)).0 e in absurd (omega (arith, ap length q, length-append name dot_c))
    by false e = refl

-- a path that does not end so has no version
no_ending : (path : List ℕ) → ((front : List ℕ) → path ≢ front ++ codes ".c") → without_c path ≡ path
no_ending path h = elim (cases_Bool (is_name (drop (length path - 2) path) (codes ".c"))) [
  | inl t ↦
      let d : drop (length path - 2) path ≡ codes ".c" = (bytes_eq-Decides (drop (length path - 2) path) (codes ".c")).0 t in
      let p : is_name (codes ".c") (drop (length path - 2) path) ≡ true = (bytes_eq-Decides (codes ".c") (drop (length path - 2) path)).1 (sym d) in
      absurd (h (take (length path - 2) path) ((ends_is Decides-eqb path (codes ".c") (is_name (codes ".c") (drop (length path - 2) path)) refl).0 p))
  | inr f ↦ ap (λ b. if b then take (length path - 2) path else path) f
]

-- Texts that spell a name

pub spelled_next : (c : ℕ) (cs text rest : List ℕ) → IsUtf8 text → text ≡ encode c ++ rest → is_name cs (chars rest) ≡ is_name (c ∷ cs) (chars text)
spelled_next c cs text rest u e = sym (ap (is_name (c ∷ cs)) (chars_past_char text rest c u e) ∙ ap (λ b. b && is_name cs (chars rest)) (eq-eqb c c refl))

pub spelled_not : (c : ℕ) (cs text : List ℕ) → IsUtf8 text → ((rest : List ℕ) → text ≢ encode c ++ rest) → false ≡ is_name (c ∷ cs) (chars text)
spelled_not c cs text u h = by (is_name (c ∷ cs) (chars text)) refl
  where
    by : (b : Bool) → is_name (c ∷ cs) (chars text) ≡ b → false ≡ is_name (c ∷ cs) (chars text)
    by true e = absurd (h (encode_utf8_all cs) (sym (encodes-chars text u) ∙ ap encode_utf8_all (sym ((bytes_eq-Decides (c ∷ cs) (chars text)).0 e))))
    by false e = sym e

pub spelled_end : (text : List ℕ) → IsUtf8 text → (length text == 0) ≡ is_name [] (chars text)
spelled_end [] u = sym (ap (is_name []) chars-nil)
spelled_end (b ∷ bs) u = by (is_name [] (chars (b ∷ bs))) refl
  where
    by : (x : Bool) → is_name [] (chars (b ∷ bs)) ≡ x → (length (b ∷ bs) == 0) ≡ is_name [] (chars (b ∷ bs))
    by true e = let q : b ∷ bs ≡ [] = sym (encodes-chars (b ∷ bs) u) ∙ ap encode_utf8_all (sym ((bytes_eq-Decides [] (chars (b ∷ bs))).0 e)) in absurd (omega (arith, ap length q))
    by false e = ne_eqb (length (b ∷ bs)) 0 (λ z. omega (arith, z)) ∙ sym e

-- Files without a version, and with one

no_file : (made : List Made) (live : Live) (path : List ℕ) → ((front : List ℕ) → path ≢ front ++ codes ".c") → version_in_file made live path ≡ None
no_file made live path h =
    ap (λ p. if is_name p path then None else version_named made live p) (no_ending path h) ∙ ap (λ b. if b then None else version_named made live path) ((bytes_eq-Decides path path).1 refl)

pub none_of_file : (made : List Made) (live : Live) (path : List ℕ) → ((front : List ℕ) → path ≢ front ++ codes ".c") → None ≡ version_of_file made live path
none_of_file made live path h = by (is_utf8 path)
  where
    by : (b : Bool) → None ≡ (if b then version_in_file made live path else None)
    by true = sym (no_file made live path h)
    by false = refl

pub some_of_file : (made : List Made) (live : Live) (path name : List ℕ) → IsUtf8 path → path ≡ name ++ codes ".c" → version_named made live name ≡ version_of_file made live path
some_of_file made live path name u e = sym (
    ap (λ b. if b then version_in_file made live path else None) (is_utf8-from_IsUtf8 path u)
    ∙ ap (version_in_file made live) e
    ∙ ap (λ n. if is_name n (file_of_name name) then None else version_named made live n) (without_ending name)
    ∙ ap (λ b. if b then None else version_named made live name) (not_itself name))

-- the path of a name's file has the bytes of the name
pub file_is_bytes : (name : List ℕ) → file_of_name (encode_utf8_all name) ≡ file_bytes name
file_is_bytes name = sym (encodes-append name dot_c ∙ ap (λ x. encode_utf8_all name ++ x) (encodes-IsAscii dot_c (ascii_text dot_c refl)))

-- what stands before `.c` in a text is a text
pub front_text : (path front : List ℕ) → IsUtf8 path → path ≡ front ++ codes ".c" → IsUtf8 front
front_text path front u e =
    let l : length front < length path = omega (arith, ap length e, length-append front dot_c) in
    let n : length front ≡ length front + 0 = omega arith in
    let at : get_or path (length front) 0 ≡ 46 = ap (λ x. get_or x (length front) 0) e ∙ ap (λ k. get_or (front ++ dot_c) k 0) n ∙ get_or-append-add front dot_c 0 0 in
    subst IsUtf8 (ap (take (length front)) e ∙ take_at front dot_c (length front) refl) (IsUtf8-take path (length front) u (IsCharBoundary-before_ascii path (length front) l (omega (arith, at))))

-- where its bytes are a text, the name is of characters
front_scalars : (xs ys : List ℕ) → scalars (xs ++ ys) ≡ true → scalars xs ≡ true
front_scalars [] ys e = refl
front_scalars (x ∷ xs) ys e = by (front_scalars xs ys) (scalar x) refl e
  where
    by : (scalars (xs ++ ys) ≡ true → scalars xs ≡ true) → (b : Bool) → scalar x ≡ b → (b && scalars (xs ++ ys)) ≡ true → scalars (x ∷ xs) ≡ true
    by ih true i f = ap (λ b. b && scalars xs) i ∙ ih f
    by ih false i f = absurd cc

pub is_name_text : (name : List ℕ) → is_utf8 (file_bytes name) ≡ true → scalars name ≡ true
is_name_text name e =
    let u = IsUtf8-from_is_utf8 (file_bytes name) e in
    front_scalars name dot_c (subst (λ cs. scalars cs ≡ true) (encodes_same u.0 (file_of_name name) u.1.1) u.1.0)

-- the version of a parent, by its file
pub file_version : (told : Option Bytes) (programs : List RawProgram) (live : Live) (w : World) (made : List Made) (name : List ℕ) → Stands told programs live w → is_utf8 (file_bytes name) ≡ true
    → version_of_file made live (file_bytes name) ≡ known_version w made name
file_version told programs live w made name h u =
    let bytes : List ℕ = encode_utf8_all name in
    ap (λ b. if b then version_in_file made live (file_bytes name) else None) u
    ∙ ap (version_in_file made live) (sym (file_is_bytes name))
    ∙ ap (λ n. if is_name n (file_of_name bytes) then None else version_named made live n) (without_ending bytes)
    ∙ ap (λ b. if b then None else version_named made live bytes) (not_itself bytes)
    ∙ version_same told programs live w made name h (is_name_text name u)

-- What is known of a parent's file is what the world and the load know of the parent.
pub record IsKnown (programs : List RawProgram) (w : World) (made : List Made) (name : List ℕ) (t : Tables) : Type 0 where
  pub version : ProgId
  pub known : known_version w made name ≡ Some version
  pub tables : HasTables programs version t
  pub own : own_version t ≡ Some version
  pub there : tables_known w made name ≡ Some t

pub what_is_known : (told : Option Bytes) (programs : List RawProgram) (live : Live) (w : World) (made : List Made) (name : List ℕ) (t : Tables) → IsWorldOf told programs live w
    → known_of made live (file_bytes name) ≡ Some t → IsKnown programs w made name t
what_is_known told programs live w made name t h e = by (is_utf8 (file_bytes name)) refl e
  where
    program_by : (v : ProgId) → known_version w made name ≡ Some v → (q : Option RawProgram) → program_at live.versions v ≡ q → tables_in q ≡ Some t → IsKnown programs w made name t
    program_by v k None p f = absurd cc
    program_by v k (Some raw) p f =
        let is = program_is told programs live w v raw h.stands p in
        let fits = h.compiled.fit v.0 raw is in
        let same : raw.tables ≡ t = ap (λ o. unwrap_or o t) f in
        record {
          version = v;
          known = k;
          tables = record { program = raw; is = is; tables = same };
          own = ap own_version (sym same) ∙ own_version_is w.versions v raw (record { tables = sym fits.own.own; numbered = fits.own.numbered });
          there = ap (option_map (λ u. table (heritage w u))) k ∙ ap (λ x. Some (table x)) (heritage_same w v) ∙ ap Some (fits.own.own ∙ same);
        }

    version_by : (o : Option ProgId) → known_version w made name ≡ o → tables_of live o ≡ Some t → IsKnown programs w made name t
    version_by None k f = absurd cc
    version_by (Some v) k f = program_by v k (program_at live.versions v) refl f

    by : (b : Bool) → is_utf8 (file_bytes name) ≡ b → tables_of live (if b then version_in_file made live (file_bytes name) else None) ≡ Some t → IsKnown programs w made name t
    by true u f =
        let v = file_version told programs live w made name h.stands u in
        let same : version_in_file made live (file_bytes name) ≡ known_version w made name = sym (ap (λ b. if b then version_in_file made live (file_bytes name) else None) u) ∙ v in
        version_by (known_version w made name) refl (ap (tables_of live) (sym same) ∙ f)
    by false u f = absurd cc

-- And what is not known of it is not known of the parent.
pub what_is_not : (told : Option Bytes) (programs : List RawProgram) (live : Live) (w : World) (made : List Made) (name : List ℕ) → Stands told programs live w → is_utf8 (file_bytes name) ≡ true
    → version_of_file made live (file_bytes name) ≡ None → known_version w made name ≡ None
what_is_not told programs live w made name h u e = sym (file_version told programs live w made name h u) ∙ e
