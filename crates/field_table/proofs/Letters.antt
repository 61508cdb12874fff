-- A value is spelled as its letter and arguments are, and is read so.
use Rattle.field_table.proofs.Names.{◌≡◌, ℕ, Bool, true, false, cond, ltb, eqb, List, [], ◌∷◌, ◌++◌, length, map, get_or, drop, Option, Some, None, refl, sym, ap, subst, ◌∙◌, append_assoc, append-nil, arith, AllByRecursion, flat_map, ltb-false, Argument, Long_text, argument, Value, Truth, Decimal, Long_string, Field_array, Inner_table, Byte_array, Void, letter, content, values_bytes, pairs_bytes, IsValue, IsSized, Kind, kind_of, argument_at, ◌>>=◌, Unread, unread, kinds_behind, front_at, behind, read_leaf, unread_of, contents_of}
use Rattle.field_table.proofs.Exactly.{IsBytes, IsBytes-drop, IsKind, bind_some, guard_next, one_more, first_byte, argument_takes, argument_again}

-- ---- several arguments

pub front_again : (given : List Argument) (rest : List ℕ) → AllByRecursion IsSized given → front_at (map kind_of given) (flat_map argument given ++ rest) ≡ Some (given, rest)
front_again [] rest fits = refl
front_again (a ∷ given) rest fits =
    ap (λ (z : List ℕ). front_at (kind_of a ∷ map kind_of given) z) (append_assoc (argument a) (flat_map argument given) rest)
    ∙ ap (λ z. z >>= λ x. front_at (map kind_of given) x.1 >>= λ y. Some (x.0 ∷ y.0, y.1)) (argument_again a (flat_map argument given ++ rest) fits.0)
    ∙ ap (λ z. z >>= λ y. Some (a ∷ y.0, y.1)) (front_again given rest fits.1)

-- arguments of these kinds stand at the front
pub record Front (ks : List Kind) (bytes : List ℕ) (given : List Argument) (rest : List ℕ) : Type 0 where
  pub parts : bytes ≡ flat_map argument given ++ rest
  pub rest_fits : IsBytes rest
  pub fits : AllByRecursion IsSized given

pub front_takes : (ks : List Kind) (bytes : List ℕ) (y : List Argument × List ℕ) → AllByRecursion IsKind ks → IsBytes bytes → front_at ks bytes ≡ Some y → Front ks bytes y.0 y.1
front_takes [] bytes y small are e =
    let found : List Argument × List ℕ = ([], bytes) in
    let same : found ≡ y = cc in
    subst (λ (z : List Argument × List ℕ). Front [] bytes z.0 z.1) same (record { parts = refl; rest_fits = are; fits = tt })
front_takes (k ∷ ks) bytes y small are e =
    let a = bind_some (argument_at k bytes) (λ x. front_at ks x.1 >>= λ z. Some (x.0 ∷ z.0, z.1)) y e in
    let x : Argument × List ℕ = a.0 in
    let t = argument_takes k bytes x small.0 are a.1 in
    let b = bind_some (front_at ks x.1) (λ z. Some (x.0 ∷ z.0, z.1)) y a.2 in
    let r : Front ks x.1 b.0.0 b.0.1 = front_takes ks x.1 b.0 small.1 t.rest_fits b.1 in
    let found : List Argument × List ℕ = (x.0 ∷ b.0.0, b.0.1) in
    let end : Some found ≡ Some y = b.2 in
    let same : found ≡ y = cc in
    subst (λ (z : List Argument × List ℕ). Front (k ∷ ks) bytes z.0 z.1) same (record {
      parts = t.parts ∙ ap (λ (z : List ℕ). argument x.0 ++ z) r.parts ∙ sym (append_assoc (argument x.0) (flat_map argument b.0.0) b.0.1);
      rest_fits = r.rest_fits;
      fits = (t.fits, r.fits);
    })

-- ---- a letter and what stands behind it

pub leaf_spelled : (l : ℕ) (given : List Argument) (rest : List ℕ) → kinds_behind l ≡ Some (map kind_of given) → AllByRecursion IsSized given
    → read_leaf (l ∷ flat_map argument given ++ rest) ≡ Some (unread l given, rest)
leaf_spelled l given rest kinds fits =
    ap (λ (b : Bool). cond b None (behind l (flat_map argument given ++ rest))) (one_more l (flat_map argument given ++ rest))
    ∙ ap (λ (z : Option (List Kind)). z >>= λ ks. front_at ks (flat_map argument given ++ rest) >>= λ y. Some (unread l y.0, y.1)) kinds
    ∙ ap (λ z. z >>= λ y. Some (unread l y.0, y.1)) (front_again given rest fits)

-- the kinds behind a letter share an octet among at most eight bits
IsOption : Option (List Kind) → Type 0
IsOption None = Unit {0}
IsOption (Some ks) = AllByRecursion IsKind ks

either : (b : Bool) (x y : Option (List Kind)) → IsOption x → IsOption y → IsOption (cond b x y)
either true x y p q = p
either false x y p q = q

kinds_fit : (l : ℕ) → IsOption (kinds_behind l)
unfolding IsOption
kinds_fit l =
    either (eqb l 116) _ _ (omega arith, tt)
    (either (eqb l 98) _ _ (tt, tt)
    (either (eqb l 115) _ _ (tt, tt)
    (either (eqb l 73) _ _ (tt, tt)
    (either (eqb l 108) _ _ (tt, tt)
    (either (eqb l 102) _ _ (tt, tt)
    (either (eqb l 100) _ _ (tt, tt)
    (either (eqb l 68) _ _ (tt, (tt, tt))
    (either (eqb l 83) _ _ (tt, tt)
    (either (eqb l 65) _ _ (tt, tt)
    (either (eqb l 84) _ _ (tt, tt)
    (either (eqb l 70) _ _ (tt, tt)
    (either (eqb l 120) _ _ (tt, tt)
    (either (eqb l 86) _ _ tt tt)))))))))))))

-- a value that is still bytes stands at the front
pub record Begun (bytes : List ℕ) (u : Unread) (rest : List ℕ) : Type 0 where
  pub parts : bytes ≡ u.letter ∷ flat_map argument u.contents ++ rest
  pub rest_fits : IsBytes rest
  pub fits : AllByRecursion IsSized u.contents

pub leaf_takes : (bytes : List ℕ) (y : Unread × List ℕ) → IsBytes bytes → read_leaf bytes ≡ Some y → Begun bytes y.0 y.1
unfolding IsOption
leaf_takes bytes y are e =
    let l : ℕ = get_or bytes 0 0 in
    let g = guard_next (ltb (length bytes) 1) (behind l (drop 1 bytes)) y e in
    let k = bind_some (kinds_behind l) (λ ks. front_at ks (drop 1 bytes) >>= λ z. Some (unread l z.0, z.1)) y g.1 in
    let f = bind_some (front_at k.0 (drop 1 bytes)) (λ z. Some (unread l z.0, z.1)) y k.2 in
    let small : AllByRecursion IsKind k.0 = subst IsOption k.1 (kinds_fit l) in
    let r : Front k.0 (drop 1 bytes) f.0.0 f.0.1 = front_takes k.0 (drop 1 bytes) f.0 small (IsBytes-drop 1 bytes are) f.1 in
    let found : Unread × List ℕ = (unread l f.0.0, f.0.1) in
    let end : Some found ≡ Some y = f.2 in
    let same : found ≡ y = cc in
    subst (λ (z : Unread × List ℕ). Begun bytes z.0 z.1) same (record {
      parts = first_byte bytes (ltb-false _ _ g.0) ∙ ap (λ (z : List ℕ). l ∷ z) r.parts;
      rest_fits = r.rest_fits;
      fits = r.fits;
    })

-- ---- a value

-- a value's letter and content, as arguments
pub value_spelled : (v : Value) → letter v ∷ content v ≡ letter v ∷ flat_map argument (contents_of v)
value_spelled (Truth true) = refl
value_spelled (Truth false) = refl
value_spelled (Long_string t) = ap (λ (z : List ℕ). 83 ∷ z) (sym (append-nil (argument (Long_text t))))
value_spelled (Field_array vs) = ap (λ (z : List ℕ). 65 ∷ z) (sym (append-nil (argument (Long_text (values_bytes vs)))))
value_spelled (Inner_table ps) = ap (λ (z : List ℕ). 70 ∷ z) (sym (append-nil (argument (Long_text (pairs_bytes ps)))))
value_spelled (Byte_array t) = ap (λ (z : List ℕ). 120 ∷ z) (sym (append-nil (argument (Long_text t))))
value_spelled _ = refl

pub value_kinds : (v : Value) → kinds_behind (letter v) ≡ Some (map kind_of (contents_of v))
value_kinds Void = refl
value_kinds _ = refl

pub value_sized : (depth : ℕ) (v : Value) → IsValue depth v → AllByRecursion IsSized (contents_of v)
value_sized depth (Truth b) fits = (omega arith, tt)
value_sized depth (Decimal scale digits) fits = (fits.0, (fits.1, tt))
value_sized depth (Field_array vs) fits = (fits.1, tt)
value_sized depth (Inner_table ps) fits = (fits.1, tt)
value_sized depth Void fits = tt
value_sized depth _ fits = (fits, tt)

-- a value that is spelled is read, and the bytes after it are left
pub value_again : (depth : ℕ) (v : Value) (rest : List ℕ) → IsValue depth v → read_leaf (letter v ∷ content v ++ rest) ≡ Some (unread_of v, rest)
value_again depth v rest fits =
    ap (λ (z : List ℕ). read_leaf (z ++ rest)) (value_spelled v)
    ∙ leaf_spelled (letter v) (contents_of v) rest (value_kinds v) (value_sized depth v fits)
