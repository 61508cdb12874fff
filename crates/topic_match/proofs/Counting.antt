-- How many words some tokens match, with one token more.
use Rattle.topic_match.proofs.Names.{◌≡◌, ℕ, zero, suc, ◌+◌, ◌-◌, ◌≤◌, ◌<◌, List, [], ◌∷◌, ◌++◌, Bool, true, false, refl, sym, ap, ◌∙◌, subst, length, take, set, get_or, inl, inr, ltb, arith, Decides, false≢true, ltb-true, ltb-false, bytes_eq-Decides, Text, Matches, none, Token, Word, One, Any, AreCounts, AreCountsTo, matches_empty, matches_after}
use Rattle.std.specs.Prelude.{◌⊎◌}
use Rattle.std.proofs.lemmas.Bool.Decides.{Decides-and, Decides-or}
use Rattle.std.proofs.lemmas.List.{get_or-take, length-take-le, take_all, take_more, take_more_set}
use Rattle.std.specs.Str.{bytes_eq}
use Rattle.model.proofs.Joins.{start_bit, snoc_word, word_snoc, snoc_one, one_snoc, snoc_any, any_snoc_was, any_snoc_is}

after_right : (t : Token) (b : List Token) (ws : List Text) (w : Text) (bw was bi : Bool) → Decides bw (Matches b ws) → Decides was (Matches (b ++ t ∷ []) ws)
    → Decides bi (Matches b (ws ++ w ∷ [])) → Decides (matches_after t w bw was bi) (Matches (b ++ t ∷ []) (ws ++ w ∷ []))
after_right (Word v) b ws w bw was bi d e f =
    let both = Decides-and bw (bytes_eq w v) d (bytes_eq-Decides w v) in
    (λ h. let p = both.0 h in word_snoc b v w ws (sym p.1) p.0, λ m. let r = snoc_word b v w ws m in both.1 (r.1, sym r.0))
after_right One b ws w bw was bi d e f = (λ h. one_snoc b w ws (d.0 h), λ m. d.1 (snoc_one b w ws m))
after_right Any b ws w bw was bi d e f =
    let either = Decides-or was bi e f in
    (λ h. elim (either.0 h) [ inl x ↦ any_snoc_was b w ws x | inr y ↦ any_snoc_is b (ws ++ w ∷ []) y ], λ m. either.1 (snoc_any b w ws m))

at_front : (bs : List Bool) (v : Bool) (i : ℕ) → i < length bs → get_or (bs ++ v ∷ []) i false ≡ get_or bs i false
at_front [] v i h = absurd (omega (arith, h))
at_front (b ∷ bs) v zero h = refl
at_front (b ∷ bs) v (suc i) h = at_front bs v i (omega (arith, h))

at_end : (bs : List Bool) (v : Bool) (i : ℕ) → i ≡ length bs → get_or (bs ++ v ∷ []) i false ≡ v
at_end [] v zero h = refl
at_end [] v (suc i) h = absurd (omega (arith, h))
at_end (b ∷ bs) v zero h = absurd (omega (arith, h))
at_end (b ∷ bs) v (suc i) h = at_end bs v i (omega (arith, h))

length_push : (bs : List Bool) (v : Bool) → length (bs ++ v ∷ []) ≡ length bs + 1
length_push [] v = refl
length_push (b ∷ bs) v = omega (arith, length_push bs v)

pub take_push : (ws : List Text) (n : ℕ) (w : Text) → n < length ws → w ≡ get_or ws n w → take (n + 1) ws ≡ take n ws ++ w ∷ []
take_push [] n w h e = absurd (omega (arith, h))
take_push (x ∷ ws) zero w h e = ap (λ (z : Text). z ∷ []) (sym e)
take_push (x ∷ ws) (suc n) w h e = let k : suc n + 1 ≡ suc (n + 1) = omega arith in rw k (ap (λ (z : List Text). x ∷ z) (take_push ws n w (omega (arith, h)) e))

pub counts_first : (t : Token) (b : List Token) (ws : List Text) (before after : List Bool) (was : Bool) → AreCounts b ws before → was ≡ matches_empty t (get_or before 0 false)
    → after ≡ was ∷ [] → AreCountsTo (b ++ t ∷ []) ws 0 after was
counts_first t b ws before after was a f g =
    let d : Decides was (Matches (b ++ t ∷ []) []) =
    subst (λ (v : Bool). Decides v (Matches (b ++ t ∷ []) [])) (sym f) (start_bit t b (get_or before 0 false) (a.each 0 (omega arith))) in
    record {
      size = rw g refl;
      each = λ i k. only i k d;
      last = d;
    }
  where
    only : (i : ℕ) → i ≤ 0 → Decides was (Matches (b ++ t ∷ []) []) → Decides (get_or after i false) (Matches (b ++ t ∷ []) (take i ws))
    only zero k d = rw g d
    only (suc i) k d = absurd (omega (arith, k))

le_more : (n i : ℕ) → i ≤ n + 1 → (i ≤ n) ⊎ (i ≡ n + 1)
le_more n i h = at n i h (ltb i (n + 1)) refl
  where
    at : (n i : ℕ) → i ≤ n + 1 → (v : Bool) → ltb i (n + 1) ≡ v → (i ≤ n) ⊎ (i ≡ n + 1)
    at n i h true q = inl (let k = ltb-true i (n + 1) q in omega (arith, k))
    at n i h false q = inr (let k = ltb-false i (n + 1) q in omega (arith, h, k))

pub counts_more : (t : Token) (b : List Token) (ws : List Text) (before after more : List Bool) (n : ℕ) (w : Text) (was now : Bool) → AreCounts b ws before → n < length ws
    → w ≡ get_or ws n w → now ≡ matches_after t w (get_or before n false) was (get_or before (n + 1) false) → more ≡ after ++ now ∷ []
    → AreCountsTo (b ++ t ∷ []) ws n after was → AreCountsTo (b ++ t ∷ []) ws (n + 1) more now
counts_more t b ws before after more n w was now a h e k m s =
    let bw = get_or before n false in
    let bi = get_or before (n + 1) false in
    let is : take (n + 1) ws ≡ take n ws ++ w ∷ [] = take_push ws n w h e in
    let d1 : Decides bw (Matches b (take n ws)) = a.each n (omega (arith, h)) in
    let d2 : Decides bi (Matches b (take n ws ++ w ∷ [])) = subst (λ (vs : List Text). Decides bi (Matches b vs)) is (a.each (n + 1) (omega (arith, h))) in
    let d : Decides now (Matches (b ++ t ∷ []) (take (n + 1) ws)) =
    subst (λ (vs : List Text). Decides now (Matches (b ++ t ∷ []) vs)) (sym is) (subst (λ (v : Bool). Decides v (Matches (b ++ t ∷ []) (take n ws ++ w ∷ []))) (sym k) (after_right t b (take n ws) w bw was bi d1 s.last d2)) in
    record {
      size = let y = s.size in let x = length_push after now in rw m (omega (arith, x, y));
      each = λ i l. elim (le_more n i l) [
        | inl p ↦ subst (λ (v : Bool). Decides v (Matches (b ++ t ∷ []) (take i ws))) (let y = s.size in sym (ap (λ (xs : List Bool). get_or xs i false) m ∙ at_front after now i (omega (arith, p, y)))) (s.each i p)
        | inr q ↦ subst (λ (j : ℕ). Decides (get_or more j false) (Matches (b ++ t ∷ []) (take j ws))) (sym q)
            (subst (λ (v : Bool). Decides v (Matches (b ++ t ∷ []) (take (n + 1) ws))) (let y = s.size in sym (ap (λ (xs : List Bool). get_or xs (n + 1) false) m ∙ at_end after now (n + 1) (sym y))) d)
      ];
      last = d;
    }

pub counts_done : (b : List Token) (ws : List Text) (counts : List Bool) (was : Bool) → AreCountsTo b ws (length ws) counts was → AreCounts b ws counts
counts_done b ws counts was s = record { size = s.size; each = s.each }

-- written over what was there

pub counts_begun : (t : Token) (b : List Token) (ws : List Text) (before after more : List Bool) (was : Bool) → AreCounts b ws before → was ≡ matches_empty t (get_or before 0 false)
    → more ≡ set after 0 was → length after ≡ length ws + 1 → AreCountsTo (b ++ t ∷ []) ws 0 (take (0 + 1) more) was
counts_begun t b ws before after more was a f m size =
    counts_first t b ws before (take (0 + 1) more) was a f (ap (λ (xs : List Bool). take (0 + 1) xs) m ∙ take_more_set after 0 was (omega (arith, size)))

pub counts_written : (t : Token) (b : List Token) (ws : List Text) (before after more : List Bool) (n : ℕ) (w : Text) (was now : Bool) → AreCounts b ws before → n < length ws
    → w ≡ get_or ws n w → now ≡ matches_after t w (get_or before n false) was (get_or before (n + 1) false) → more ≡ set after (n + 1) now → length after ≡ length ws + 1
    → AreCountsTo (b ++ t ∷ []) ws n (take (n + 1) after) was → AreCountsTo (b ++ t ∷ []) ws (n + 1) (take (n + 1 + 1) more) now
counts_written t b ws before after more n w was now a h e k m size s =
    counts_more t b ws before (take (n + 1) after) (take (n + 1 + 1) more) n w was now a h e k
    (ap (λ (xs : List Bool). take (n + 1 + 1) xs) m ∙ take_more_set after (n + 1) now (omega (arith, h, size))) s

pub counts_over : (b : List Token) (ws : List Text) (n : ℕ) (after : List Bool) (was : Bool) → n ≡ length ws → length after ≡ length ws + 1
    → AreCountsTo b ws n (take (n + 1) after) was → AreCounts b ws after
counts_over b ws n after was e size s =
    subst (λ (xs : List Bool). AreCounts b ws xs) (take_all (n + 1) after (omega (arith, e, size)))
    (counts_done b ws (take (n + 1) after) was (subst (λ (k : ℕ). AreCountsTo b ws k (take (n + 1) after) was) e s))

-- behind `*`

one_on : (b : List Token) (ws : List Text) (i : ℕ) (was : Bool) → i < length ws → Decides was (Matches b (take i ws)) → Decides was (Matches (b ++ One ∷ []) (take (suc i) ws))
one_on b ws i was h d =
    let w = get_or ws i [] in
    let on : suc i ≡ i + 1 = omega arith in
    let is : take (suc i) ws ≡ take i ws ++ w ∷ [] = ap (λ (k : ℕ). take k ws) on ∙ take_more ws i [] h in
    subst (λ (vs : List Text). Decides was (Matches (b ++ One ∷ []) vs)) (sym is) (λ t. one_snoc b w (take i ws) (d.0 t), λ m. d.1 (snoc_one b w (take i ws) m))

pub counts_moved : (b : List Token) (ws : List Text) (before after : List Bool) → after ≡ false ∷ take (length before - 1) before → AreCounts b ws before → AreCounts (b ++ One ∷ []) ws after
counts_moved b ws before after e a =
    let n : length before - 1 ≡ length ws = (let s = a.size in omega (arith, s)) in
    subst (λ (xs : List Bool). AreCounts (b ++ One ∷ []) ws xs) (sym (e ∙ ap (λ (k : ℕ). false ∷ take k before) n)) moved
  where
    at : (i : ℕ) → i ≤ length ws → Decides (get_or (false ∷ take (length ws) before) i false) (Matches (b ++ One ∷ []) (take i ws))
    at zero k = start_bit One b (get_or before 0 false) (a.each 0 (omega arith))
    at (suc i) k =
        subst (λ (v : Bool). Decides v (Matches (b ++ One ∷ []) (take (suc i) ws))) (sym (get_or-take (length ws) before i false (omega (arith, k))))
        (one_on b ws i (get_or before i false) (omega (arith, k)) (a.each i (omega (arith, k))))

    moved : AreCounts (b ++ One ∷ []) ws (false ∷ take (length ws) before)
    moved = record {
      size = (let l = length-take-le (length ws) before (let s = a.size in omega (arith, s)) in omega (arith, l));
      each = at;
    }

-- ---- whether any is told

pub none_more : (bs : List Bool) (n : ℕ) → get_or bs n false ≡ false → ((i : ℕ) → i < n → get_or bs i false ≡ false) → (i : ℕ) → i < n + 1 → get_or bs i false ≡ false
none_more bs n f r i k = elim (le_more n (i + 1) (omega (arith, k))) [
  | inl p ↦ r i (omega (arith, p))
  | inr q ↦ (let j : i ≡ n = omega (arith, q) in rw j f)
]

pub none_out : (bs : List Bool) → ((i : ℕ) → i < length bs → get_or bs i false ≡ false) → (i : ℕ) → get_or bs i false ≡ false
none_out [] r i = refl
none_out (b ∷ bs) r zero = r zero (omega arith)
none_out (b ∷ bs) r (suc i) = none_out bs (λ j k. r (suc j) (omega (arith, k))) i

-- no token matches no word
pub none_first : (ws : List Text) (n : ℕ) (counts : List Bool) → n ≡ length ws → length counts ≡ n + 1 → ((i : ℕ) → get_or counts i false ≡ get_or (true ∷ []) i false) → AreCounts [] ws counts
none_first ws n counts e size each = record {
  size = omega (arith, size, e);
  each = λ i k. subst (λ (b : Bool). Decides b (Matches [] (take i ws))) (sym (each i)) (go ws i k);
}
  where
    go : (ws : List Text) (i : ℕ) → i ≤ length ws → Decides (get_or (true ∷ []) i false) (Matches [] (take i ws))
    go ws zero k = (λ e. none, λ m. refl)
    go [] (suc i) k = absurd (omega (arith, k))
    go (w ∷ ws) (suc i) k = (λ e. absurd (false≢true e), λ m. elim m [ ])
