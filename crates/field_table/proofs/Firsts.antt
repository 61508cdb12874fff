-- Values and pairs at the front of bytes, and bytes that are nothing else.
use Rattle.field_table.proofs.Names.{◌≡◌, ℕ, Bool, true, false, eqb, List, [], ◌∷◌, ◌++◌, length, Option, Some, None, refl, sym, ap, subst, ◌∙◌, arith, MatchBool, eqb-true, eqb-false, false≢true, Long_text, Value, Values, Pairs, Truth, Byte, Float, Double, Decimal, Long_string, Field_array, Timestamp, Inner_table, Byte_array, Void, no_values, value, no_pairs, pair, letter, content, values_bytes, pairs_bytes, IsValue, Unread, unread, leaf_seen, read_leaf, unread_of, IsFirstValue, HasNone, IsFirstPair, HasNoPair, SpellsValues, SpellsPairs, HasValues, HasPairs, HoldsValues, Means}
use Rattle.model.specs.Tables.{Short, Long, Long_long}
use Rattle.field_table.specs.declared.leaves.Leaf.{Leaf}
use Rattle.field_table.specs.declared.leaves.Leaf.TheVariants as leaves
use Rattle.field_table.proofs.Exactly.{IsBytes}
use Rattle.field_table.proofs.Letters.{leaf_takes, value_spelled, value_again}
use Rattle.field_table.proofs.Alone.{alike, array_of, table_of, same_body, same_name}

-- ---- one value

none_or : {A : Type 0} (r : Option A) (x : A) → r ≡ None → r ≡ Some x → ⊥
none_or r x e f = cc

same_some : {A : Type 0} (r : Option A) (x y : A) → r ≡ Some x → r ≡ Some y → x ≡ y
same_some r x y e f = cc

first_read : (depth : ℕ) (bytes : List ℕ) (v : Value) (rest : List ℕ) → IsFirstValue depth bytes v rest → read_leaf bytes ≡ Some (unread_of v, rest)
first_read depth bytes v rest f = ap read_leaf f.parts ∙ value_again depth v rest f.fits

pub no_leaf : (depth : ℕ) (bytes : List ℕ) → read_leaf bytes ≡ None → HasNone depth bytes
no_leaf depth bytes e v rest f = none_or (read_leaf bytes) (unread_of v, rest) e (first_read depth bytes v rest f)

-- a leaf that was read, as a value
pub first_is : (depth : ℕ) (bytes rest : List ℕ) (leaf : Leaf) (v : Value) → IsBytes bytes → read_leaf bytes ≡ Some (leaf_seen leaf, rest) → Means depth leaf v → IsFirstValue depth bytes v rest
first_is depth bytes rest leaf v are e m =
    let mine : read_leaf bytes ≡ Some (unread_of v, rest) = e ∙ ap (λ (u : Unread). Some (u, rest)) m.read in
    let b = leaf_takes bytes (unread_of v, rest) are mine in
    record { fits = m.fits b.fits; parts = b.parts ∙ ap (λ (z : List ℕ). z ++ rest) (sym (value_spelled v)) }

pub means_some : (depth : ℕ) (leaf : Leaf) → HoldsValues depth leaf → (v : Value) × Means depth leaf v
means_some depth (leaves.Truth b) h = (Truth b, record { read = refl; fits = λ f. tt })
means_some depth (leaves.Byte n) h = (Byte n, record { read = refl; fits = λ f. f.0 })
means_some depth (leaves.Short n) h = (Short n, record { read = refl; fits = λ f. f.0 })
means_some depth (leaves.Long n) h = (Long n, record { read = refl; fits = λ f. f.0 })
means_some depth (leaves.LongLong n) h = (Long_long n, record { read = refl; fits = λ f. f.0 })
means_some depth (leaves.Float n) h = (Float n, record { read = refl; fits = λ f. f.0 })
means_some depth (leaves.Double n) h = (Double n, record { read = refl; fits = λ f. f.0 })
means_some depth (leaves.Decimal scale digits) h = (Decimal scale digits, record { read = refl; fits = λ f. (f.0, f.1.0) })
means_some depth (leaves.Text t) h = (Long_string t.now, record { read = refl; fits = λ f. f.0 })
means_some depth (leaves.Array body) h =
    let vs : Values = h.1.0 in
    (Field_array vs, record { read = ap (λ (z : List ℕ). unread 65 (Long_text z ∷ [])) h.1.1.parts; fits = λ f. (h.0, f.0, h.1.1.fits) })
means_some depth (leaves.Timestamp n) h = (Timestamp n, record { read = refl; fits = λ f. f.0 })
means_some depth (leaves.Table body) h =
    let ps : Pairs = h.1.0 in
    (Inner_table ps, record { read = ap (λ (z : List ℕ). unread 70 (Long_text z ∷ [])) h.1.1.parts; fits = λ f. (h.0, f.0, h.1.1.fits) })
means_some depth (leaves.Bytes t) h = (Byte_array t.now, record { read = refl; fits = λ f. f.0 })
means_some depth leaves.Void h = (Void, record { read = refl; fits = λ f. tt })

pub held : (depth : ℕ) (leaf : Leaf) (v : Value) → IsValue depth v → leaf_seen leaf ≡ unread_of v → HoldsValues depth leaf
held depth (leaves.Array body) v fits e =
    let found = array_of v (ap (λ (u : Unread). u.letter) e) in
    let its : IsValue depth (Field_array found.0) = subst (IsValue depth) (sym found.1) fits in
    let bodies : unread 65 (Long_text body.now ∷ []) ≡ unread_of (Field_array found.0) = e ∙ ap unread_of (sym found.1) in
    (its.0, (found.0, record { fits = its.2; parts = same_body body.now (values_bytes found.0) 65 65 bodies }))
held depth (leaves.Table body) v fits e =
    let found = table_of v (ap (λ (u : Unread). u.letter) e) in
    let its : IsValue depth (Inner_table found.0) = subst (IsValue depth) (sym found.1) fits in
    let bodies : unread 70 (Long_text body.now ∷ []) ≡ unread_of (Inner_table found.0) = e ∙ ap unread_of (sym found.1) in
    (its.0, (found.0, record { fits = its.2; parts = same_body body.now (pairs_bytes found.0) 70 70 bodies }))
held depth _ v fits e = tt

pub unsound : (depth : ℕ) (bytes rest : List ℕ) (leaf : Leaf) → read_leaf bytes ≡ Some (leaf_seen leaf, rest) → (HoldsValues depth leaf → ⊥) → HasNone depth bytes
unsound depth bytes rest leaf e never v after f =
    let pairs : Unread × List ℕ = (leaf_seen leaf, rest) in
    let theirs : Unread × List ℕ = (unread_of v, after) in
    let same : pairs ≡ theirs = same_some (read_leaf bytes) pairs theirs e (first_read depth bytes v after f) in
    never (held depth leaf v f.fits (ap (λ (p : Unread × List ℕ). p.0) same))

-- ---- one pair

-- ---- all values

pub values_end : (depth : ℕ) → HasValues depth []
values_end depth = (no_values, record { fits = tt; parts = refl })

pub values_onto : (depth : ℕ) (bytes : List ℕ) (v : Value) (rest : List ℕ) → IsFirstValue depth bytes v rest → HasValues depth rest → HasValues depth bytes
values_onto depth bytes v rest f h = (value v h.0, record { fits = (f.fits, h.1.fits); parts = f.parts ∙ ap (λ (z : List ℕ). letter v ∷ content v ++ z) h.1.parts })

pub values_back : (depth : ℕ) (bytes : List ℕ) (v : Value) (rest : List ℕ) → IsFirstValue depth bytes v rest → HasValues depth bytes → HasValues depth rest
values_back depth bytes v rest f h = go h.0 h.1
  where
    go : (vs : Values) → SpellsValues depth bytes vs → HasValues depth rest
    go no_values s = absurd (let e : letter v ∷ content v ++ rest ≡ [] = sym f.parts ∙ s.parts in cc)
    go (value w ws) s = (ws, record { fits = s.fits.1; parts = (alike depth depth v w rest (values_bytes ws) f.fits s.fits.0 (sym f.parts ∙ s.parts)).rests })

pub no_values_left : (depth : ℕ) (bytes : List ℕ) → HasNone depth bytes → (bytes ≡ [] → ⊥) → HasValues depth bytes → ⊥
no_values_left depth bytes none some h = go h.0 h.1
  where
    go : (vs : Values) → SpellsValues depth bytes vs → ⊥
    go no_values s = some s.parts
    go (value w ws) s = none w (values_bytes ws) (record { fits = s.fits.0; parts = s.parts })

-- ---- all pairs

pub pairs_end : (depth : ℕ) → HasPairs depth []
pairs_end depth = (no_pairs, record { fits = tt; parts = refl })

pub pairs_onto : (depth : ℕ) (bytes name : List ℕ) (v : Value) (rest : List ℕ) → IsFirstPair depth bytes name v rest → HasPairs depth rest → HasPairs depth bytes
pairs_onto depth bytes name v rest f h =
    (pair name v h.0, record { fits = (f.short, f.fits, h.1.fits); parts = f.parts ∙ ap (λ (z : List ℕ). (length name ∷ name) ++ (letter v ∷ content v ++ z)) h.1.parts })

-- what follows the first pair is the other pairs
pub pairs_behind : (depth : ℕ) (bytes name : List ℕ) (v : Value) (rest : List ℕ) (n : List ℕ) (w : Value) (ps : Pairs) → IsFirstPair depth bytes name v rest → SpellsPairs depth bytes (pair n w ps) → (name ≡ n) × SpellsPairs depth rest ps
pairs_behind depth bytes name v rest n w ps f s =
    let names = same_name name n (letter v ∷ content v ++ rest) (letter w ∷ content w ++ pairs_bytes ps) (sym f.parts ∙ s.parts) in
    (names.0, record { fits = s.fits.2; parts = (alike depth depth v w rest (pairs_bytes ps) f.fits s.fits.1 names.1).rests })

pub pairs_back : (depth : ℕ) (bytes name : List ℕ) (v : Value) (rest : List ℕ) → IsFirstPair depth bytes name v rest → HasPairs depth bytes → HasPairs depth rest
pairs_back depth bytes name v rest f h = go h.0 h.1
  where
    go : (ps : Pairs) → SpellsPairs depth bytes ps → HasPairs depth rest
    go no_pairs s = absurd (let e : (length name ∷ name) ++ (letter v ∷ content v ++ rest) ≡ [] = sym f.parts ∙ s.parts in cc)
    go (pair n w ps) s = (ps, (pairs_behind depth bytes name v rest n w ps f s).1)

pub no_pairs_left : (depth : ℕ) (bytes : List ℕ) → HasNoPair depth bytes → (bytes ≡ [] → ⊥) → HasPairs depth bytes → ⊥
no_pairs_left depth bytes none some h = go h.0 h.1
  where
    go : (ps : Pairs) → SpellsPairs depth bytes ps → ⊥
    go no_pairs s = some s.parts
    go (pair n w ps) s = none n w (pairs_bytes ps) (record { short = s.fits.0; fits = s.fits.1; parts = s.parts })

-- ---- tests

pub is_nil : (bytes : List ℕ) → eqb (length bytes) 0 ≡ true → bytes ≡ []
is_nil [] e = refl
is_nil (b ∷ bytes) e = absurd (let h : length (b ∷ bytes) ≡ 0 = eqb-true _ _ e in omega arith)

pub not_nil : (bytes : List ℕ) → eqb (length bytes) 0 ≡ false → bytes ≡ [] → ⊥
not_nil bytes e nil = eqb-false _ _ e (ap (λ (z : List ℕ). length z) nil)

pub when_true : (P Q : Type 0) (b : Bool) → b ≡ true → MatchBool b P Q → P
when_true P Q true e p = p
when_true P Q false e p = absurd (false≢true e)

pub when_false : (P Q : Type 0) (b : Bool) → b ≡ false → MatchBool b P Q → Q
when_false P Q true e p = absurd (false≢true (sym e))
when_false P Q false e p = p
