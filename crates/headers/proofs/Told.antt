-- What the fields and the properties of a payload say tells what the payload says.
use Rattle.headers.proofs.Names.{◌≡◌, ◌≢◌, ℕ, ◌^◌, ◌%◌, ◌<◌, ◌≤◌, List, [], ◌++◌, length, Option, Some, None, Ok, Err, refl, sym, ap, subst, ◌∙◌, arith, inl, inr, flat_map, Argument, class_at, properties_of, flags, value_of, AreProperties, header_bytes, weight_at, flags_at, IsNoHeader, SaysHeader, said, no_header, bad_properties, IsBytes, properties_at, HeadersAreWhole, headers_in, GivesProperties, HeaderIsRefused, IsHeaderOr}
use Rattle.model.specs.Tables.{IsTable}
use Rattle.model.specs.Headers
use Rattle.model.specs.declared.contents.Fields.{Fields as Properties}
use Rattle.headers.specs.Laws.{OneHeader}
use Rattle.headers.specs.Reading.{Fields}
use Rattle.headers.specs.declared.contents.BadHeader.{BadHeader}
use Rattle.headers.specs.declared.contents.BadHeader.TheVariants.{FrameError, SyntaxError, Memory}
use Rattle.headers.proofs.Flags.{flags-below, flags-fours}
use Rattle.headers.proofs.Kept.{its_table, its_headers, properties_are, properties_again, same_properties, no_more, sized_again}
use Rattle.headers.proofs.Parts.{headed, spelled, size_below, flags_below, rest_bytes, its_size, its_flags, its_rest, fields_of, not_header}

abbrev pub made : ℕ → Properties → Headers.Header
made size p = record { size = size; properties = p }

small_flags : (p : Properties) → flags (properties_of p) < 2 ^ 16
small_flags p = let h = flags-below (properties_of p) in omega (arith, h)

pub header_said : (payload rest : List ℕ) (size f : ℕ) (p : Properties) → IsBytes payload → Fields payload size f rest → properties_at f rest ≡ Some (properties_of p) → HeadersAreWhole p.headers → SaysHeader payload (Ok (made size p))
header_said payload rest size f p are fields read table =
    let k = properties_are f rest p (flags_below payload rest size f are fields) (rest_bytes payload rest size f are fields) read table in
    said {h = made size p} (size_below payload rest size f are fields) k.0
    (spelled payload rest size f are fields ∙ ap (λ (n : ℕ). headed size n rest) (sym k.1) ∙ ap (λ (z : List ℕ). headed size (flags (properties_of p)) z) k.2)

-- a header that is spelled so has these properties
its_read : (payload rest : List ℕ) (size f : ℕ) (h : Headers.Header) → Fields payload size f rest → AreProperties h.properties → payload ≡ header_bytes h.size h.properties → properties_at f rest ≡ Some (properties_of h.properties)
its_read payload rest size f h fields fits e =
    let p = h.properties in
    ap (λ (n : ℕ). properties_at n rest) (its_flags payload rest (flat_map value_of (properties_of p)) size f h.size (flags (properties_of p)) (small_flags p) fields e)
    ∙ ap (λ (z : List ℕ). properties_at (flags (properties_of p)) z) (its_rest payload rest (flat_map value_of (properties_of p)) size f h.size (flags (properties_of p)) fields e)
    ∙ properties_again p fits

whole_headers : (p : Properties) → AreProperties p → HeadersAreWhole (headers_in (properties_of p))
whole_headers p fits = subst HeadersAreWhole (sym (its_headers p)) (its_table p fits)

pub header_refused : (payload rest : List ℕ) (size f : ℕ) (e : BadHeader) → Fields payload size f rest → GivesProperties (Err e) (properties_at f rest) → HeaderIsRefused payload e
header_refused payload rest size f FrameError fields g = absurd g
header_refused payload rest size f SyntaxError fields g =
    bad_properties fields.long fields.class_is fields.weight_is
    (λ h lt fits e. g (properties_of h.properties) (its_read payload rest size f h fields fits e) (whole_headers h.properties fits))
header_refused payload rest size f Memory fields g = tt

some_same : (r : Option (List (Option Argument))) (x y : List (Option Argument)) → r ≡ Some x → r ≡ Some y → x ≡ y
some_same r x y e f = cc

pub header_only : (payload rest : List ℕ) (size f : ℕ) (p : Properties) (h : Headers.Header) → Fields payload size f rest → properties_at f rest ≡ Some (properties_of p)
    → h.size < 2 ^ 64 → AreProperties h.properties → payload ≡ header_bytes h.size h.properties → made size p ≡ h
header_only payload rest size f p h fields read lt fits e =
    let q = h.properties in
    let sizes : size ≡ h.size = its_size payload rest (flat_map value_of (properties_of q)) size f h.size (flags (properties_of q)) lt fields e in
    let same : p ≡ q = same_properties p q (some_same (properties_at f rest) (properties_of p) (properties_of q) read (its_read payload rest size f h fields fits e)) in
    ap (λ (n : ℕ). made n p) sizes ∙ ap (λ (x : Properties). made h.size x) same

pub header_none : (payload rest : List ℕ) (size f : ℕ) (e : BadHeader) (h : Headers.Header) → Fields payload size f rest → GivesProperties (Err e) (properties_at f rest)
    → h.size < 2 ^ 64 → AreProperties h.properties → payload ≡ header_bytes h.size h.properties → IsHeaderOr h (Err e)
header_none payload rest size f FrameError h fields g lt fits e = g
header_none payload rest size f SyntaxError h fields g lt fits e = g (properties_of h.properties) (its_read payload rest size f h fields fits e) (whole_headers h.properties fits)
header_none payload rest size f Memory h fields g lt fits e = tt

-- ---- a payload says one thing

-- a header that is spelled so has these fields
its_fields : (payload : List ℕ) (h : Headers.Header) → h.size < 2 ^ 64 → payload ≡ header_bytes h.size h.properties → Fields payload h.size (flags (properties_of h.properties)) (flat_map value_of (properties_of h.properties))
its_fields payload h lt e = fields_of payload (flat_map value_of (properties_of h.properties)) h.size (flags (properties_of h.properties)) lt (small_flags h.properties) e

same_header : (payload : List ℕ) (h g : Headers.Header) → h.size < 2 ^ 64 → AreProperties h.properties → payload ≡ header_bytes h.size h.properties
    → g.size < 2 ^ 64 → AreProperties g.properties → payload ≡ header_bytes g.size g.properties → h ≡ g
same_header payload h g lt fits e below also f =
    let rest : List ℕ = flat_map value_of (properties_of h.properties) in
    let n : ℕ = flags (properties_of h.properties) in
    let fields = its_fields payload h lt e in
    header_only payload rest h.size n h.properties g fields (its_read payload rest h.size n h fields fits e) below also f

its_no : (payload : List ℕ) (h : Headers.Header) → payload ≡ header_bytes h.size h.properties → IsNoHeader payload → ⊥
its_no payload h e = not_header payload (flat_map value_of (properties_of h.properties)) h.size (flags (properties_of h.properties)) e

not_both : (payload : List ℕ) → IsNoHeader payload → 14 ≤ length payload → class_at payload ≡ 60 → weight_at payload ≡ 0 → ⊥
not_both payload why long class weight =
    elim why [
      | inl short ↦ omega (arith, short, long)
      | inr others ↦ elim others [ inl other ↦ other class | inr other ↦ other weight ]
    ]

pub one_header : OneHeader
one_header payload r q (said {h = h} lt fits e) (said {h = g} below also f) = ap (λ (z : Headers.Header). Ok z) (same_header payload h g lt fits e below also f)
one_header payload r q (said {h = h} lt fits e) (no_header n) = absurd (its_no payload h e n)
one_header payload r q (said {h = h} lt fits e) (bad_properties l c w never) = absurd (never h lt fits e)
one_header payload r q (no_header n) (said {h = h} lt fits e) = absurd (its_no payload h e n)
one_header payload r q (no_header n) (no_header m) = refl
one_header payload r q (no_header n) (bad_properties l c w never) = absurd (not_both payload n l c w)
one_header payload r q (bad_properties l c w never) (said {h = h} lt fits e) = absurd (never h lt fits e)
one_header payload r q (bad_properties l c w never) (no_header n) = absurd (not_both payload n l c w)
one_header payload r q (bad_properties l c w never) (bad_properties l2 c2 w2 other) = refl

-- ---- what is a syntax error

pub low_flags : (payload : List ℕ) → 14 ≤ length payload → class_at payload ≡ 60 → weight_at payload ≡ 0 → flags_at payload % 4 ≢ 0 → SaysHeader payload (Err 502)
low_flags payload long class weight low =
    bad_properties long class weight
    (λ h lt fits e. low (ap (λ (n : ℕ). n % 4) (its_fields payload h lt e).flags_are ∙ flags-fours (properties_of h.properties)))

-- a header with more behind it
followed : (h : Headers.Header) (more : List ℕ) → h.size < 2 ^ 64 → Fields (header_bytes h.size h.properties ++ more) h.size (flags (properties_of h.properties)) (flat_map value_of (properties_of h.properties) ++ more)
followed h more lt = fields_of (header_bytes h.size h.properties ++ more) (flat_map value_of (properties_of h.properties) ++ more) h.size (flags (properties_of h.properties)) lt (small_flags h.properties) refl

-- no header begins another
none_begins : (h g : Headers.Header) (more : List ℕ) → h.size < 2 ^ 64 → AreProperties h.properties → AreProperties g.properties → header_bytes h.size h.properties ++ more ≡ header_bytes g.size g.properties → more ≡ []
none_begins h g more lt fits also e =
    let mine : List ℕ = flat_map value_of (properties_of h.properties) ++ more in
    let theirs : List ℕ = flat_map value_of (properties_of g.properties) in
    let n : ℕ = flags (properties_of h.properties) in
    let m : ℕ = flags (properties_of g.properties) in
    let fields = followed h more lt in
    no_more h.properties g.properties more fits also
    (its_flags (header_bytes h.size h.properties ++ more) mine theirs h.size n g.size m (small_flags g.properties) fields e)
    (its_rest (header_bytes h.size h.properties ++ more) mine theirs h.size n g.size m fields e)

pub end_early : (payload more : List ℕ) (h : Headers.Header) → 14 ≤ length payload → class_at payload ≡ 60 → weight_at payload ≡ 0 → h.size < 2 ^ 64 → AreProperties h.properties
    → payload ++ more ≡ header_bytes h.size h.properties → more ≢ [] → SaysHeader payload (Err 502)
end_early payload more h long class weight lt fits e some =
    bad_properties long class weight (λ g below also f. some (none_begins g h more below also fits (ap (λ (z : List ℕ). z ++ more) (sym f) ∙ e)))

pub left_over : (h : Headers.Header) (more : List ℕ) → h.size < 2 ^ 64 → AreProperties h.properties → more ≢ [] → SaysHeader (header_bytes h.size h.properties ++ more) (Err 502)
left_over h more lt fits some =
    let fields = followed h more lt in
    bad_properties fields.long fields.class_is fields.weight_is (λ g below also f. some (none_begins h g more lt fits also f))

pub bad_table : (h : Headers.Header) (pairs : List ℕ) → h.size < 2 ^ 64 → AreProperties (record h.properties { headers = None }) → h.properties.headers ≡ Some pairs → length pairs < 2 ^ 32
    → (IsTable pairs → ⊥) → SaysHeader (header_bytes h.size h.properties) (Err 502)
bad_table h pairs lt fits is small none =
    let payload : List ℕ = header_bytes h.size h.properties in
    let rest : List ℕ = flat_map value_of (properties_of h.properties) in
    let n : ℕ = flags (properties_of h.properties) in
    let fields : Fields payload h.size n rest = its_fields payload h lt refl in
    let mine : properties_at n rest ≡ Some (properties_of h.properties) = sized_again h.properties pairs fits is small in
    bad_properties fields.long fields.class_is fields.weight_is
    (λ g below also f.
    let same : properties_of h.properties ≡ properties_of g.properties = some_same (properties_at n rest) (properties_of h.properties) (properties_of g.properties) mine (its_read payload rest h.size n g fields also f) in
    let whole : HeadersAreWhole (headers_in (properties_of h.properties)) = subst (λ (z : List (Option Argument)). HeadersAreWhole (headers_in z)) (sym same) (whole_headers g.properties also) in
    none (subst HeadersAreWhole (its_headers h.properties ∙ is) whole))
