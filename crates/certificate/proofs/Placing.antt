-- The places of a form, and the patterns at them.
use Rattle.certificate.proofs.Names.{◌≡◌, ℕ, zero, suc, ◌+◌, ◌<◌, Bool, true, false, List, [], ◌∷◌, ◌++◌, length, refl, sym, ap, subst, ◌∙◌, arith, rules, append_assoc, Option, Some, None, drop, get_or, Decides, AllPairs, slice_index_or, nat_lt, drop_more, Text, AllByRecursion, list_all, cons_option, false≢true, Tracked, Whole, Sliced, Excepting, AreChosen, is_less_first, rises, same_texts}
use Rattle.std.proofs.Common.{◌&&◌}
use Rattle.std.specs.Str.{bytes_eq}
use Rattle.std.proofs.lemmas.Slice.Eq.{bytes_eq-Decides}
use Rattle.model.specs.Certificates.{Form}

both : (a b : Bool) → (a && b) ≡ true → (a ≡ true) × (b ≡ true)
both true true e = (refl, refl)
both true false e = absurd (false≢true e)
both false b e = absurd (false≢true e)

-- ---- rising numbers

abbrev Below : ℕ → List ℕ → Type 0
Below m ns = AllByRecursion (λ n. m < n) ns

below_at : (m : ℕ) (ns : List ℕ) (j d : ℕ) → Below m ns → j < length ns → m < slice_index_or ns j d
below_at m [] j d b h = absurd (omega (arith, h))
below_at m (n ∷ ns) zero d b h = b.0
below_at m (n ∷ ns) (suc j) d b h = below_at m ns j d b.1 (let k : suc j < suc (length ns) = h in omega (arith, k))

below_more : (m n : ℕ) (ns : List ℕ) → m < n → Below n ns → Below m ns
below_more m n [] h b = tt
below_more m n (k ∷ ns) h b = (let l = b.0 in omega (arith, h, l), below_more m n ns h b.1)

less : (m n : ℕ) → nat_lt m n ≡ true → m < n
less m n e = search (rules, e)

is_less : (m n : ℕ) → m < n → nat_lt m n ≡ true
is_less m n h = search (rules, h)

rises_below : (m : ℕ) (ns : List ℕ) → rises (m ∷ ns) ≡ true → Below m ns
rises_below m [] e = tt
rises_below m (n ∷ ns) e =
    let b = both (nat_lt m n) (rises (n ∷ ns)) e in
    (less m n b.0, below_more m n ns (less m n b.0) (rises_below n ns b.1))

pairs_more : (m : ℕ) (ns : List ℕ) → Below m ns → AllPairs (λ (i j : ℕ). i < j) ns → (i j d : ℕ) → i < j → j < suc (length ns) → slice_index_or (m ∷ ns) i d < slice_index_or (m ∷ ns) j d
pairs_more m ns b p zero zero d h w = absurd (omega (arith, h))
pairs_more m ns b p zero (suc j) d h w = below_at m ns j d b (omega (arith, w))
pairs_more m ns b p (suc i) zero d h w = absurd (omega (arith, h))
pairs_more m ns b p (suc i) (suc j) d h w = p i j d (let k : suc i < suc j = h in omega (arith, k)) (omega (arith, w))

rises_pairs : (ns : List ℕ) → rises ns ≡ true → AllPairs (λ (i j : ℕ). i < j) ns
rises_pairs [] e = λ i j d h w. absurd (omega (arith, w))
rises_pairs (m ∷ ns) e = pairs_more m ns (rises_below m ns e) (rises_pairs ns (both (is_less_first m ns) (rises ns) e).1)

pairs_rise : (ns : List ℕ) → AllPairs (λ (i j : ℕ). i < j) ns → rises ns ≡ true
pairs_rise [] p = refl
pairs_rise (m ∷ []) p = refl
pairs_rise (m ∷ n ∷ ns) p =
    ap (λ (z : Bool). z && rises (n ∷ ns)) (is_less m n (p 0 1 0 (omega arith) (omega arith)))
    ∙ pairs_rise (n ∷ ns) (λ i j d h w. p (suc i) (suc j) d (omega (arith, h)) (let k : suc j < suc (suc (length ns)) = omega (arith, w) in k))

pub rises_tell : (ns : List ℕ) → Decides (rises ns) (AllPairs (λ (i j : ℕ). i < j) ns)
rises_tell ns = (rises_pairs ns, pairs_rise ns)

-- ---- places of a list

pub below_tells : (indices : List ℕ) (count : ℕ) → Decides (list_all (λ (i : ℕ). nat_lt i count) indices) (AllByRecursion (λ i. i < count) indices)
below_tells indices count = (to indices, from indices)
  where
    to : (ns : List ℕ) → list_all (λ (i : ℕ). nat_lt i count) ns ≡ true → AllByRecursion (λ i. i < count) ns
    to [] e = tt
    to (n ∷ ns) e = let b = both (nat_lt n count) (list_all (λ (i : ℕ). nat_lt i count) ns) e in (less n count b.0, to ns b.1)

    from : (ns : List ℕ) → AllByRecursion (λ i. i < count) ns → list_all (λ (i : ℕ). nat_lt i count) ns ≡ true
    from [] a = refl
    from (n ∷ ns) a = ap (λ (z : Bool). z && list_all (λ (i : ℕ). nat_lt i count) ns) (is_less n count a.0) ∙ from ns a.1

-- one more of the patterns
pub one_more : {A : Type 0} (o : Option A) (found rest : List A) → (found ++ cons_option o []) ++ rest ≡ found ++ cons_option o rest
one_more None found rest = append_assoc found [] rest
one_more (Some x) found rest = append_assoc found (x ∷ []) rest

-- ---- what is chosen

-- the list tells what is chosen
pub chosen_same : (form : Form) (list ps others : List Tracked) → AreChosen form list ps → AreChosen form list others → ps ≡ others
chosen_same Whole list ps others a b = a ∙ sym b
chosen_same (Sliced indices) list ps others a b = a.1 ∙ sym b.1
chosen_same (Excepting excepts indices) list ps others a b = a.1 ∙ sym b.1

-- ---- texts

same_is : (as' bs : List Text) → same_texts as' bs ≡ true → as' ≡ bs
same_is [] [] e = refl
same_is [] (b ∷ bs) e = absurd (false≢true e)
same_is (a ∷ as') [] e = absurd (false≢true e)
same_is (a ∷ as') (b ∷ bs) e =
    let h = both (bytes_eq a b) (same_texts as' bs) e in
    ap (λ (z : Text). z ∷ as') ((bytes_eq-Decides a b).0 h.0) ∙ ap (λ (zs : List Text). b ∷ zs) (same_is as' bs h.1)

is_same : (as' : List Text) → same_texts as' as' ≡ true
is_same [] = refl
is_same (a ∷ as') = ap (λ (z : Bool). z && same_texts as' as') ((bytes_eq-Decides a a).1 refl) ∙ is_same as'

pub same_tells : (as' bs : List Text) → Decides (same_texts as' bs) (as' ≡ bs)
same_tells as' bs = (same_is as' bs, λ e. subst (λ (zs : List Text). same_texts as' zs ≡ true) e (is_same as'))

pub same_next : (as' bs : List Text) (i : ℕ) (a b : Text) → i < length as' → i < length bs → a ≡ get_or as' i a → b ≡ get_or bs i b
    → same_texts (drop i as') (drop i bs) ≡ (bytes_eq a b && same_texts (drop (i + 1) as') (drop (i + 1) bs))
same_next as' bs i a b h k e f = rw (drop_more as' i a h, drop_more bs i b k) (ap (λ (z : Text). bytes_eq z (get_or bs i b) && same_texts (drop (i + 1) as') (drop (i + 1) bs)) (sym e) ∙ ap (λ (z : Text). bytes_eq a z && same_texts (drop (i + 1) as') (drop (i + 1) bs)) (sym f))

pub unequal : (as' bs : List Text) → (length as' ≡ length bs → ⊥) → false ≡ same_texts as' bs
unequal [] [] n = absurd (n refl)
unequal [] (b ∷ bs) n = refl
unequal (a ∷ as') [] n = refl
unequal (a ∷ as') (b ∷ bs) n = go (bytes_eq a b) (unequal as' bs (λ e. n (ap suc e)))
  where
    go : (v : Bool) → false ≡ same_texts as' bs → false ≡ (v && same_texts as' bs)
    go true e = e
    go false e = refl
