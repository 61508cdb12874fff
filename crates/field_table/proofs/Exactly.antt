-- Arguments that are read are spelled so, and arguments that are spelled so are read.
use Rattle.field_table.proofs.Names.{◌≡◌, ℕ, zero, suc, ◌+◌, ◌*◌, ◌/◌, ◌%◌, ◌^◌, ◌<◌, ◌≤◌, Bool, true, false, cond, ltb, eqb, List, [], ◌∷◌, ◌++◌, length, map, get_or, take, drop, Option, Some, None, refl, sym, ap, subst, ◌∙◌, append_assoc, arith, inl, inr, AllByRecursion, flat_map, cases_lt, ltb-false, ltb-true, le-ltb, lt-ltb, ne_eqb, take_at, drop_at, take-append-drop, length-take, get_or-drop, get_or-take, get_or_past, Argument, Octet, Short_text, Long_text, Field_table, Bits, octet, argument, IsArgument, IsSized, IsArgumentWhole, Kind, an_octet, a_short, a_long, a_long_long, a_short_text, a_long_text, a_field_table, some_bits, kind_of, Front, number_at, text_at, short_text_at, long_text_at, octets, bits_of, bits_at, argument_at, arguments_at, ◌>>=◌}
use Rattle.std.specs.Int.{Width, w16, w32, w64, byte_len, from_be_bytes, to_be_bytes}
use Rattle.std.proofs.lemmas.List.{length-append}
use Rattle.std.proofs.lemmas.Nat.{be_bytes_2, be_bytes_4, be_bytes_8, from_be_bytes-to_be_bytes_2, from_be_bytes-to_be_bytes_4, from_be_bytes-to_be_bytes_8}
use Rattle.model.specs.Grammar.{Short, Long, Long_long}

abbrev pub IsBytes : List ℕ → Type 0
IsBytes bytes = (i : ℕ) → get_or bytes i 0 < 256

pub IsBytes-drop : (n : ℕ) (bytes : List ℕ) → IsBytes bytes → IsBytes (drop n bytes)
IsBytes-drop n bytes h i = rw get_or-drop (h (n + i))

IsBytes-take : (n : ℕ) (bytes : List ℕ) → IsBytes bytes → IsBytes (take n bytes)
IsBytes-take n bytes h i =
    elim (cases_lt i n) [
      | inl lt ↦ rw (get_or-take n bytes i 0 lt) (h i)
      | inr le ↦ rw (get_or_past (take n bytes) i 0 (omega (arith, length-take n bytes))) (omega arith)
    ]

-- the value of a step that did not fail
pub bind_some : {A B : Type 0} (r : Option A) (f : A → Option B) (y : B) → (r >>= f) ≡ Some y → (x : A) × (r ≡ Some x) × (f x ≡ Some y)
bind_some (Some x) f y e = (x, refl, e)
bind_some None f y e = absurd cc

-- a test that did not fail
guard_some : {A : Type 0} (b : Bool) (x y : A) → cond b None (Some x) ≡ Some y → (b ≡ false) × (x ≡ y)
guard_some true x y e = absurd cc
guard_some false x y e = (refl, cc)

pub guard_next : {A : Type 0} (b : Bool) (r : Option A) (y : A) → cond b None r ≡ Some y → (b ≡ false) × (r ≡ Some y)
guard_next true r y e = absurd cc
guard_next false r y e = (refl, e)

pass_some : {A : Type 0} (b : Bool) (x y : A) → cond b (Some x) None ≡ Some y → (b ≡ true) × (x ≡ y)
pass_some false x y e = absurd cc
pass_some true x y e = (refl, cc)

-- an argument of this kind was taken from the front
pub record Takes (k : Kind) (bytes : List ℕ) (x : Argument × List ℕ) : Type 0 where
  pub parts : bytes ≡ argument x.0 ++ x.1
  pub rest_fits : IsBytes x.1
  pub kind : kind_of x.0 ≡ k
  pub fits : IsSized x.0

-- an argument whose tables are tables
pub whole : (a : Argument) → IsSized a → IsArgumentWhole a → IsArgument a
whole (Field_table pairs) sized table = table
whole _ sized table = sized

pub sized_of : (a : Argument) → IsArgument a → IsSized a
sized_of (Field_table pairs) fits = subst (λ (z : List ℕ). length z < 2 ^ 32) (sym fits.spelled) fits.fits.size
sized_of _ fits = fits

pub whole_of : (a : Argument) → IsArgument a → IsArgumentWhole a
whole_of (Field_table pairs) fits = fits
whole_of _ fits = tt

-- the same of several arguments
pub all_fit : (given : List Argument) → AllByRecursion IsSized given → AllByRecursion IsArgumentWhole given → AllByRecursion IsArgument given
all_fit [] sized wholes = tt
all_fit (a ∷ given) sized wholes = (whole a sized.0 wholes.0, all_fit given sized.1 wholes.1)

pub all_sized : (given : List Argument) → AllByRecursion IsArgument given → AllByRecursion IsSized given
all_sized [] fits = tt
all_sized (a ∷ given) fits = (sized_of a fits.0, all_sized given fits.1)

pub all_whole : (given : List Argument) → AllByRecursion IsArgument given → AllByRecursion IsArgumentWhole given
all_whole [] fits = tt
all_whole (a ∷ given) fits = (whole_of a fits.0, all_whole given fits.1)

-- ---- numbers

pub record IsWide (w : Width) (limit : ℕ) : Type 0 where
  pub len : (n : ℕ) → length (to_be_bytes w n) ≡ byte_len w
  pub back : (bytes : List ℕ) → length bytes ≡ byte_len w → IsBytes bytes → to_be_bytes w (from_be_bytes w bytes) ≡ bytes
  pub again : (n : ℕ) → n < limit → from_be_bytes w (to_be_bytes w n) ≡ n
  pub below : (bytes : List ℕ) → IsBytes bytes → from_be_bytes w bytes < limit

wide16 : IsWide w16 (2 ^ 16)
wide16 = record {
  len = λ n. refl;
  back = λ bytes len fits. be_bytes_2 bytes _ len fits refl;
  again = λ n lt. from_be_bytes-to_be_bytes_2 n lt;
  below = λ bytes fits. omega (arith, fits 0, fits 1);
}

wide32 : IsWide w32 (2 ^ 32)
wide32 = record {
  len = λ n. refl;
  back = λ bytes len fits. be_bytes_4 bytes _ len fits refl;
  again = λ n lt. from_be_bytes-to_be_bytes_4 n lt;
  below = λ bytes fits. omega (arith, fits 0, fits 1, fits 2, fits 3);
}

wide64 : IsWide w64 (2 ^ 64)
wide64 = record {
  len = λ n. refl;
  back = λ bytes len fits. be_bytes_8 bytes _ len fits refl;
  again = λ n lt. from_be_bytes-to_be_bytes_8 n lt;
  below = λ bytes fits. omega (arith, fits 0, fits 1, fits 2, fits 3, fits 4, fits 5, fits 6, fits 7);
}

-- the first bytes are a number
pub front_number : (w : Width) (limit : ℕ) → IsWide w limit → (bytes : List ℕ) → IsBytes bytes → byte_len w ≤ length bytes
    → (bytes ≡ to_be_bytes w (from_be_bytes w (take (byte_len w) bytes)) ++ drop (byte_len w) bytes) × (from_be_bytes w (take (byte_len w) bytes) < limit)
front_number w limit wide bytes fits long =
    let front : List ℕ = take (byte_len w) bytes in
    let front_fits : IsBytes front = IsBytes-take (byte_len w) bytes fits in
    let back : to_be_bytes w (from_be_bytes w front) ≡ front = wide.back front (omega (arith, length-take (byte_len w) bytes)) front_fits in
    (sym (take-append-drop (byte_len w) bytes) ∙ ap (λ (z : List ℕ). z ++ drop (byte_len w) bytes) (sym back), wide.below front front_fits)

record IsNumber (k : Kind) (made : ℕ → Argument) (w : Width) (limit : ℕ) : Type 0 where
  kind : (n : ℕ) → kind_of (made n) ≡ k
  spelled : (n : ℕ) → argument (made n) ≡ to_be_bytes w n
  fits : (n : ℕ) → n < limit → IsSized (made n)

number_takes : (k : Kind) (made : ℕ → Argument) (w : Width) (limit : ℕ) → IsWide w limit → IsNumber k made w limit → (bytes : List ℕ) (x : Argument × List ℕ) → IsBytes bytes → number_at made w bytes ≡ Some x → Takes k bytes x
number_takes k made w limit wide number bytes x fits e =
    let n : ℕ = from_be_bytes w (take (byte_len w) bytes) in
    let g = guard_some (ltb (length bytes) (byte_len w)) (made n, drop (byte_len w) bytes) x e in
    let f = front_number w limit wide bytes fits (ltb-false _ _ g.0) in
    subst (λ (y : Argument × List ℕ). Takes k bytes y) g.1 (record {
      parts = f.0 ∙ ap (λ (z : List ℕ). z ++ drop (byte_len w) bytes) (sym (number.spelled n));
      rest_fits = IsBytes-drop (byte_len w) bytes fits;
      kind = number.kind n;
      fits = number.fits n f.1;
    })

number_again : (made : ℕ → Argument) (w : Width) (limit : ℕ) → IsWide w limit → (n : ℕ) (rest : List ℕ) → n < limit → number_at made w (to_be_bytes w n ++ rest) ≡ Some (made n, rest)
number_again made w limit wide n rest lt =
    let len = wide.len n in
    let long : ltb (length (to_be_bytes w n ++ rest)) (byte_len w) ≡ false = le-ltb _ _ (omega (arith, length-append (to_be_bytes w n) rest)) in
    rw (long, take_at (to_be_bytes w n) rest (byte_len w) len, drop_at (to_be_bytes w n) rest (byte_len w) len, wide.again n lt) refl

shorts : IsNumber a_short Short w16 (2 ^ 16)
shorts = record { kind = λ n. refl; spelled = λ n. refl; fits = λ n lt. lt }

longs : IsNumber a_long Long w32 (2 ^ 32)
longs = record { kind = λ n. refl; spelled = λ n. refl; fits = λ n lt. lt }

long_longs : IsNumber a_long_long Long_long w64 (2 ^ 64)
long_longs = record { kind = λ n. refl; spelled = λ n. refl; fits = λ n lt. lt }

-- ---- texts

-- a text stands behind its length
text_takes : (made : List ℕ → Argument) (n : ℕ) (bytes : List ℕ) (x : Argument × List ℕ) → text_at made n bytes ≡ Some x
    → (n ≤ length bytes) × ((made (take n bytes), drop n bytes) ≡ x)
text_takes made n bytes x e =
    let g = guard_some (ltb (length bytes) n) (made (take n bytes), drop n bytes) x e in
    (ltb-false _ _ g.0, g.1)

text_again : (made : List ℕ → Argument) (t rest : List ℕ) → text_at made (length t) (t ++ rest) ≡ Some (made t, rest)
text_again made t rest =
    let long : ltb (length (t ++ rest)) (length t) ≡ false = le-ltb _ _ (omega (arith, length-append t rest)) in
    rw (long, take_at t rest (length t) refl, drop_at t rest (length t) refl) refl

-- the first byte, and those after it
pub first_byte : (bytes : List ℕ) → 1 ≤ length bytes → bytes ≡ get_or bytes 0 0 ∷ drop 1 bytes
first_byte (b ∷ bytes) long = refl
first_byte [] long = absurd (omega arith)

short_text_takes : (bytes : List ℕ) (x : Argument × List ℕ) → IsBytes bytes → short_text_at bytes ≡ Some x → Takes a_short_text bytes x
short_text_takes bytes x fits e =
    let n : ℕ = get_or bytes 0 0 in
    let rest : List ℕ = drop 1 bytes in
    let g = guard_next (ltb (length bytes) 1) (text_at Short_text n rest) x e in
    let t = text_takes Short_text n rest x g.1 in
    let len : length (take n rest) ≡ n = omega (arith, t.0, length-take n rest) in
    let first = first_byte bytes (ltb-false _ _ g.0) in
    subst (λ (y : Argument × List ℕ). Takes a_short_text bytes y) t.1 (record {
      parts = first ∙ ap (λ (z : List ℕ). n ∷ z) (sym (take-append-drop n rest)) ∙ ap (λ (i : ℕ). i ∷ take n rest ++ drop n rest) (sym len);
      rest_fits = IsBytes-drop n rest (IsBytes-drop 1 bytes fits);
      kind = refl;
      fits = omega (arith, len, fits 0);
    })

record IsLongText (k : Kind) (made : List ℕ → Argument) : Type 0 where
  kind : (t : List ℕ) → kind_of (made t) ≡ k
  spelled : (t : List ℕ) → argument (made t) ≡ to_be_bytes w32 (length t) ++ t
  fits : (t : List ℕ) → length t < 2 ^ 32 → IsSized (made t)

long_text_takes : (k : Kind) (made : List ℕ → Argument) → IsLongText k made → (bytes : List ℕ) (x : Argument × List ℕ) → IsBytes bytes → long_text_at made bytes ≡ Some x → Takes k bytes x
long_text_takes k made text bytes x fits e =
    let n : ℕ = from_be_bytes w32 (take 4 bytes) in
    let rest : List ℕ = drop 4 bytes in
    let g = guard_next (ltb (length bytes) 4) (text_at made n rest) x e in
    let t = text_takes made n rest x g.1 in
    let len : length (take n rest) ≡ n = omega (arith, t.0, length-take n rest) in
    let f = front_number w32 (2 ^ 32) wide32 bytes fits (ltb-false _ _ g.0) in
    subst (λ (y : Argument × List ℕ). Takes k bytes y) t.1 (record {
      parts = f.0 ∙ ap (λ (z : List ℕ). to_be_bytes w32 n ++ z) (sym (take-append-drop n rest))
          ∙ ap (λ (i : ℕ). to_be_bytes w32 i ++ take n rest ++ drop n rest) (sym len)
          ∙ sym (append_assoc (to_be_bytes w32 (length (take n rest))) (take n rest) (drop n rest))
          ∙ ap (λ (z : List ℕ). z ++ drop n rest) (sym (text.spelled (take n rest)));
      rest_fits = IsBytes-drop n rest (IsBytes-drop 4 bytes fits);
      kind = text.kind (take n rest);
      fits = text.fits (take n rest) (omega (arith, len, f.1));
    })

long_text_again : (made : List ℕ → Argument) (t rest : List ℕ) → length t < 2 ^ 32 → long_text_at made ((to_be_bytes w32 (length t) ++ t) ++ rest) ≡ Some (made t, rest)
long_text_again made t rest lt =
    let n : ℕ = length t in
    let head : List ℕ = to_be_bytes w32 n in
    let number : from_be_bytes w32 head ≡ n = from_be_bytes-to_be_bytes_4 n lt in
    let long : ltb (length (head ++ t ++ rest)) 4 ≡ false = le-ltb _ _ (omega (arith, length-append head (t ++ rest))) in
    ap (λ (b : Bool). cond b None (text_at made (from_be_bytes w32 head) (t ++ rest))) long
    ∙ ap (λ (i : ℕ). text_at made i (t ++ rest)) number ∙ text_again made t rest

long_texts : IsLongText a_long_text Long_text
long_texts = record { kind = λ t. refl; spelled = λ t. refl; fits = λ t lt. lt }

tables : IsLongText a_field_table Field_table
tables = record { kind = λ t. refl; spelled = λ t. refl; fits = λ t lt. lt }

-- ---- bits

bit_value : (r : ℕ) → r < 2 → cond (eqb r 1) 1 0 ≡ r
bit_value zero lt = refl
bit_value (suc zero) lt = refl
bit_value (suc (suc r)) lt = absurd (omega arith)

bits_back : (n b : ℕ) → b < octets n → octet (bits_of n b) ≡ b
bits_back zero b lt = omega arith
bits_back (suc n) b lt =
    let half : octet (bits_of n (b / 2)) ≡ b / 2 = bits_back n (b / 2) (omega arith) in
    let bit : cond (eqb (b % 2) 1) 1 0 ≡ b % 2 = bit_value (b % 2) (omega arith) in
    omega arith

length-bits_of : (n b : ℕ) → length (bits_of n b) ≡ n
length-bits_of zero b = refl
length-bits_of (suc n) b = ap (λ (i : ℕ). suc i) (length-bits_of n (b / 2))

octet_below : (bs : List Bool) → octet bs < octets (length bs)
octet_below [] = omega arith
octet_below (true ∷ bs) = omega (arith, octet_below bs)
octet_below (false ∷ bs) = omega (arith, octet_below bs)

-- a bit, and half of what is left
split_bits : (n r half : ℕ) (b : Bool) (bs : List Bool) → eqb (r % 2) 1 ≡ b → r / 2 ≡ half → bits_of n half ≡ bs → bits_of (suc n) r ≡ b ∷ bs
split_bits n r half b bs low high e = ap (λ (x : Bool). x ∷ bits_of n (r / 2)) low ∙ ap (λ (i : ℕ). b ∷ bits_of n i) high ∙ ap (λ (xs : List Bool). b ∷ xs) e

bits_again : (bs : List Bool) → bits_of (length bs) (octet bs) ≡ bs
bits_again [] = refl
bits_again (true ∷ bs) =
    let low : (1 + 2 * octet bs) % 2 ≡ 1 = omega arith in
    split_bits (length bs) (1 + 2 * octet bs) (octet bs) true bs (ap (λ (i : ℕ). eqb i 1) low) (omega arith) (bits_again bs)
bits_again (false ∷ bs) =
    let low : (0 + 2 * octet bs) % 2 ≡ 0 = omega arith in
    split_bits (length bs) (0 + 2 * octet bs) (octet bs) false bs (ap (λ (i : ℕ). eqb i 1) low) (omega arith) (bits_again bs)

bits_takes : (n : ℕ) (bytes : List ℕ) (x : Argument × List ℕ) → n ≤ 8 → IsBytes bytes → bits_at n bytes ≡ Some x → Takes (some_bits n) bytes x
bits_takes n bytes x small fits e =
    let b : ℕ = get_or bytes 0 0 in
    let found : Argument × List ℕ = (Bits (bits_of n b), drop 1 bytes) in
    let g = guard_next (ltb (length bytes) 1) (cond (ltb b (octets n)) (Some found) None) x e in
    let t = pass_some (ltb b (octets n)) found x g.1 in
    let back : octet (bits_of n b) ≡ b = bits_back n b (ltb-true _ _ t.0) in
    subst (λ (y : Argument × List ℕ). Takes (some_bits n) bytes y) t.1 (record {
      parts = first_byte bytes (ltb-false _ _ g.0) ∙ ap (λ (i : ℕ). i ∷ drop 1 bytes) (sym back);
      rest_fits = IsBytes-drop 1 bytes fits;
      kind = ap (λ (i : ℕ). some_bits i) (length-bits_of n b);
      fits = omega (arith, length-bits_of n b);
    })

pub one_more : (b : ℕ) (rest : List ℕ) → ltb (length (b ∷ rest)) 1 ≡ false
one_more b rest = le-ltb _ _ (omega arith)

bits_again_at : (bs : List Bool) (rest : List ℕ) → bits_at (length bs) (octet bs ∷ rest) ≡ Some (Bits bs, rest)
bits_again_at bs rest =
    let below : ltb (octet bs) (octets (length bs)) ≡ true = lt-ltb _ _ (octet_below bs) in
    ap (λ (b : Bool). cond b None (cond (ltb (octet bs) (octets (length bs))) (Some (Bits (bits_of (length bs) (octet bs)), rest)) None)) (one_more (octet bs) rest)
    ∙ ap (λ (b : Bool). cond b (Some (Bits (bits_of (length bs) (octet bs)), rest)) None) below
    ∙ ap (λ (xs : List Bool). Some (Bits xs, rest)) (bits_again bs)

-- ---- one argument of any kind

octet_takes : (bytes : List ℕ) (x : Argument × List ℕ) → IsBytes bytes → argument_at an_octet bytes ≡ Some x → Takes an_octet bytes x
octet_takes bytes x fits e =
    let g = guard_some (ltb (length bytes) 1) (Octet (get_or bytes 0 0), drop 1 bytes) x e in
    subst (λ (y : Argument × List ℕ). Takes an_octet bytes y) g.1 (record {
      parts = first_byte bytes (ltb-false _ _ g.0);
      rest_fits = IsBytes-drop 1 bytes fits;
      kind = refl;
      fits = fits 0;
    })

-- at most eight bits share an octet
abbrev pub IsKind : Kind → Type 0
IsKind (some_bits n) = n ≤ 8
IsKind _ = Unit {0}

pub argument_takes : (k : Kind) (bytes : List ℕ) (x : Argument × List ℕ) → IsKind k → IsBytes bytes → argument_at k bytes ≡ Some x → Takes k bytes x
argument_takes an_octet bytes x small fits e = octet_takes bytes x fits e
argument_takes a_short bytes x small fits e = number_takes a_short Short w16 (2 ^ 16) wide16 shorts bytes x fits e
argument_takes a_long bytes x small fits e = number_takes a_long Long w32 (2 ^ 32) wide32 longs bytes x fits e
argument_takes a_long_long bytes x small fits e = number_takes a_long_long Long_long w64 (2 ^ 64) wide64 long_longs bytes x fits e
argument_takes a_short_text bytes x small fits e = short_text_takes bytes x fits e
argument_takes a_long_text bytes x small fits e = long_text_takes a_long_text Long_text long_texts bytes x fits e
argument_takes a_field_table bytes x small fits e = long_text_takes a_field_table Field_table tables bytes x fits e
argument_takes (some_bits n) bytes x small fits e = bits_takes n bytes x small fits e

pub argument_again : (a : Argument) (rest : List ℕ) → IsSized a → argument_at (kind_of a) (argument a ++ rest) ≡ Some (a, rest)
argument_again (Octet n) rest fits = ap (λ (b : Bool). cond b None (Some (Octet n, rest))) (one_more n rest)
argument_again (Short n) rest fits = number_again Short w16 (2 ^ 16) wide16 n rest fits
argument_again (Long n) rest fits = number_again Long w32 (2 ^ 32) wide32 n rest fits
argument_again (Long_long n) rest fits = number_again Long_long w64 (2 ^ 64) wide64 n rest fits
argument_again (Short_text t) rest fits = ap (λ (b : Bool). cond b None (text_at Short_text (length t) (t ++ rest))) (one_more (length t) (t ++ rest)) ∙ text_again Short_text t rest
argument_again (Long_text t) rest fits = long_text_again Long_text t rest fits
argument_again (Field_table t) rest fits = long_text_again Field_table t rest fits
argument_again (Bits bs) rest fits = bits_again_at bs rest

-- ---- all of them

-- the bytes are these arguments, of these kinds, and each of them has a spelling
pub record AreArguments (ks : List Kind) (bytes : List ℕ) (others : List Argument) : Type 0 where
  pub kinds : map kind_of others ≡ ks
  pub fit : AllByRecursion IsSized others
  pub parts : bytes ≡ flat_map argument others

some_is : (x y : List Argument) → Some x ≡ Some y → x ≡ y
some_is x y e = cc

empty : (bytes : List ℕ) (others : List Argument) → cond (eqb (length bytes) 0) (Some []) None ≡ Some others → (bytes ≡ []) × (others ≡ [])
empty [] others e = (refl, sym (some_is [] others e))
empty (b ∷ bytes) others e = absurd (let no : eqb (length (b ∷ bytes)) 0 ≡ false = ne_eqb _ _ (λ h. omega arith) in let h = ap (λ (x : Bool). cond x (Some []) None) no in let g : None ≡ Some others = sym h ∙ e in cc)

pub arguments_take : (ks : List Kind) (bytes : List ℕ) (others : List Argument) → AllByRecursion IsKind ks → IsBytes bytes → arguments_at ks bytes ≡ Some others → AreArguments ks bytes others
arguments_take [] bytes others small fits e =
    let r = empty bytes others e in
    subst (λ (z : List Argument). AreArguments [] bytes z) (sym r.1) (record { kinds = refl; fit = tt; parts = r.0 })
arguments_take (k ∷ ks) bytes others small fits e =
    let b = bind_some (argument_at k bytes) (λ x. arguments_at ks x.1 >>= λ more. Some (x.0 ∷ more)) others e in
    let t = argument_takes k bytes b.0 small.0 fits b.1 in
    let d = bind_some (arguments_at ks b.0.1) (λ more. Some (b.0.0 ∷ more)) others b.2 in
    let r = arguments_take ks b.0.1 d.0 small.1 t.rest_fits d.1 in
    subst (λ (z : List Argument). AreArguments (k ∷ ks) bytes z) (some_is (b.0.0 ∷ d.0) others d.2) (record {
      kinds = ap (λ (z : Kind). z ∷ map kind_of d.0) t.kind ∙ ap (λ (z : List Kind). k ∷ z) r.kinds;
      fit = (t.fits, r.fit);
      parts = t.parts ∙ ap (λ (z : List ℕ). argument b.0.0 ++ z) r.parts;
    })

pub arguments_again : (others : List Argument) → AllByRecursion IsSized others → arguments_at (map kind_of others) (flat_map argument others) ≡ Some others
arguments_again [] fit = refl
arguments_again (a ∷ others) fit =
    ap (λ (z : Front). z >>= λ x. arguments_at (map kind_of others) x.1 >>= λ more. Some (x.0 ∷ more)) (argument_again a (flat_map argument others) fit.0)
    ∙ ap (λ (z : Option (List Argument)). z >>= λ more. Some (a ∷ more)) (arguments_again others fit.1)
