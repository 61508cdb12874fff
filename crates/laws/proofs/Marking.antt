-- The header of a dead letter: it has a spelling, and is longer by little, and only once.
use Rattle.laws.proofs.Names.{◌≡◌, ◌≤◌, ℕ, List, ◌∷◌, ◌++◌, length, refl, sym, ap, subst, ◌∙◌, arith, append_assoc, length-append, None, inl, inr, codes, common_steps, Text, Pairs, no_pairs, pair, Long_string, letter, content, pairs_bytes, ArePairs, HavePairsSpelling, IsTable, table_of, value_of, IsValue, AreProperties, header_bytes, IsWithin, death_queue, death_reason, death_exchange, first_death, IsFieldOf, DescribesDeath, IsUnmarked, AreMarked, alone, added, marked_before, with_headers, IsStored, Content}
use Rattle.std.proofs.Common.{◌<◌, ◌+◌, Option, Some}
use Rattle.model.specs.declared.contents.Fields.{Fields as Properties}

-- ---- tables

-- the pairs of a table, and then those of another
abbrev joined : Pairs → Pairs → Pairs
joined no_pairs qs = qs
joined (pair name v ps) qs = pair name v (joined ps qs)

joined_bytes : (ps qs : Pairs) → pairs_bytes (joined ps qs) ≡ pairs_bytes ps ++ pairs_bytes qs
joined_bytes no_pairs qs = refl
joined_bytes (pair name v ps) qs =
    ap (λ (z : List ℕ). (length name ∷ name) ++ (letter v ∷ content v ++ z)) (joined_bytes ps qs)
    ∙ sym (append_assoc (length name ∷ name) (letter v ∷ content v ++ pairs_bytes ps) (pairs_bytes qs) ∙ ap (λ (z : List ℕ). (length name ∷ name) ++ (letter v ∷ z)) (append_assoc (content v) (pairs_bytes ps) (pairs_bytes qs)))

joined_fit : (depth : ℕ) (ps qs : Pairs) → ArePairs depth ps → ArePairs depth qs → ArePairs depth (joined ps qs)
joined_fit depth no_pairs qs a b = b
joined_fit depth (pair name v ps) qs a b = (a.0, a.1, joined_fit depth ps qs a.2 b)

in_joined : (ps qs : Pairs) (name : Text) → IsFieldOf qs name → IsFieldOf (joined ps qs) name
in_joined no_pairs qs name i = i
in_joined (pair other v ps) qs name i = inr (in_joined ps qs name i)

-- the three pairs of a first death
abbrev death_pairs : Text → Text → Pairs
death_pairs queue exchange = pair death_queue (Long_string queue) (pair death_reason (Long_string (codes "rejected")) (pair death_exchange (Long_string exchange) no_pairs))

pub death_length : (queue exchange : Text) → length (first_death queue exchange) ≡ 87 + length queue + length exchange
death_length queue exchange = grind (arith, common_steps, length-append)

death_fits : (queue exchange : Text) → length queue ≤ 255 → length exchange < 256 → ArePairs 15 (death_pairs queue exchange)
death_fits queue exchange q x = (omega arith, omega (arith, q), (omega arith, omega arith, (omega arith, omega (arith, x), tt)))

-- behind these headers, or alone, they tell of a death
pub added_tells : (ps : Pairs) (queue exchange : Text) → length queue ≤ 255 → length exchange < 256 → HavePairsSpelling ps → length (pairs_bytes ps) ≤ 4000 → DescribesDeath (pairs_bytes ps ++ first_death queue exchange)
added_tells ps queue exchange q x fits small = record {
  pairs = joined ps (death_pairs queue exchange);
  fits = record {
    size =
        let all = ap length (joined_bytes ps (death_pairs queue exchange)) in
        let both = length-append (pairs_bytes ps) (first_death queue exchange) in
        let death = death_length queue exchange in
        omega (arith, all, both, death, q, x, small);
    fits = joined_fit 15 ps (death_pairs queue exchange) fits.fits (death_fits queue exchange q x);
  };
  spelled = sym (joined_bytes ps (death_pairs queue exchange));
  field = in_joined ps (death_pairs queue exchange) death_queue (inl refl);
}

-- ---- headers

pub header_splits : (size : ℕ) (p : Properties) → length (header_bytes size p) ≡ length (header_bytes size (record p { headers = None })) + length (value_of (table_of p.headers))
header_splits size p = grind (arith, common_steps, length-append)

-- a content that is not too large may be stored
pub within_stored : (content : Content) → IsWithin content → IsStored content
within_stored content is = let le = is.header in record { properties = is.properties; body = is.body; header = omega (arith, le); unmarked = λ none. is.header }

-- other headers, that are no headers or a table, in the place of these
other_headers : (p : Properties) (headers : Option Text) → IsValue (table_of headers) → AreProperties p → AreProperties (record p { headers = headers })
other_headers p headers is a = (a.0, (a.1.0, (is, a.1.1.1)))

-- how long the header of a content is
abbrev long : Content → ℕ
long content = length (header_bytes (length content.body) content.properties)

-- the header with other headers is longer by as much as they are
long_with : (content : Content) (headers : Option Text) → long (with_headers content headers) + length (value_of (table_of content.properties.headers)) ≡ long content + length (value_of (table_of headers))
long_with content headers =
    let old = header_splits (length content.body) content.properties in
    let new = header_splits (length content.body) (record content.properties { headers = headers }) in
    omega (arith, old, new)

module _ (queue exchange : Text) (q : length queue ≤ 255) (x : length exchange < 256) (content : Content) (is : IsStored content) where
  -- headers that are marked now, on a content that had grown by nothing
  grown : (headers : Text) → IsTable headers → DescribesDeath headers → long (with_headers content (Some headers)) ≤ 4001 → IsStored (with_headers content (Some headers))
  grown headers table tells small = record {
    properties = other_headers content.properties (Some headers) table is.properties;
    body = is.body;
    header = small;
    unmarked = λ none. absurd (none tells);
  }

  described_table : (headers : Text) → DescribesDeath headers → IsTable headers
  described_table headers t = record { pairs = t.pairs; fits = t.fits; spelled = t.spelled }

  more : (headers : Text) → content.properties.headers ≡ Some headers → IsUnmarked content.properties.headers → IsTable headers → IsStored (with_headers content (Some (headers ++ first_death queue exchange)))
  more headers e none table =
      let limit : long content ≤ 3400 = is.unmarked none in
      let death = death_length queue exchange in
      let all = length-append headers (first_death queue exchange) in
      let splits = header_splits (length content.body) content.properties in
      let here : length (value_of (table_of content.properties.headers)) ≡ 4 + length headers = ap (λ (o : Option Text). length (value_of (table_of o))) e ∙ spelled_length headers in
      let there = spelled_length (headers ++ first_death queue exchange) in
      let with_them = long_with content (Some (headers ++ first_death queue exchange)) in
      let tells : DescribesDeath (headers ++ first_death queue exchange) = subst (λ (z : Text). DescribesDeath (z ++ first_death queue exchange)) (sym table.spelled)
      (added_tells table.pairs queue exchange q x table.fits (let same = ap length table.spelled in omega (arith, same, here, splits, limit))) in
      grown (headers ++ first_death queue exchange) (described_table (headers ++ first_death queue exchange) tells) tells (omega (arith, limit, death, all, here, there, with_them, q, x))
    where
      spelled_length : (t : Text) → length (value_of (table_of (Some t))) ≡ 4 + length t
      spelled_length t = grind (arith, common_steps, length-append)

  none_before : content.properties.headers ≡ None → IsStored (with_headers content (Some (first_death queue exchange)))
  none_before e =
      let limit : long content ≤ 3400 = is.unmarked (subst IsUnmarked (sym e) tt) in
      let death = death_length queue exchange in
      let here : length (value_of (table_of content.properties.headers)) ≡ 0 = ap (λ (o : Option Text). length (value_of (table_of o))) e in
      let there : length (value_of (table_of (Some (first_death queue exchange)))) ≡ 4 + length (first_death queue exchange) = grind (arith, common_steps, length-append) in
      let with_them = long_with content (Some (first_death queue exchange)) in
      let tells : DescribesDeath (first_death queue exchange) = added_tells no_pairs queue exchange q x (record { size = omega arith; fits = tt }) (omega arith) in
      grown (first_death queue exchange) (described_table (first_death queue exchange) tells) tells (omega (arith, limit, death, here, there, with_them, q, x))

  -- What is stored may be stored with its marked headers.
  pub stored_marked : (old headers : Option Text) → content.properties.headers ≡ old → AreMarked queue exchange old headers → IsStored (with_headers content headers)
  stored_marked None headers e alone = none_before e
  stored_marked (Some old) headers e (added none) = more old e (subst IsUnmarked (sym e) none) (subst (λ (o : Option Text). IsValue (table_of o)) e is.properties.1.1.0)
  stored_marked (Some old) headers e (marked_before tells) = subst (λ (o : Option Text). IsStored (with_headers content o)) e is
