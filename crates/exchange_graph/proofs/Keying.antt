-- Ends are put under keys one by one.
use Rattle.exchange_graph.proofs.Names.{◌≡◌, ℕ, zero, suc, ◌+◌, ◌<◌, ◌≤◌, List, [], ◌∷◌, ◌++◌, Bool, true, false, cond, refl, sym, ap, ◌∙◌, subst, length, drop, get_or, set, inl, inr, append_assoc, append-nil, arith, drop_more, at_drop_all, length-set, length-append, bytes_eq-Decides, bytes_eq, position_or_len, Text, IsIn, End, Branch, ends_by_key, ends_beside, IsEven, PutsUnder}
use Rattle.std.proofs.Common.{not, position, Some, None}
use Rattle.topology_drafts.specs.Naming.{EntersName}
use Rattle.exchange_graph.specs.declared.ends.KeyedEnds.{KeyedEnds}
use Rattle.exchange_graph.proofs.Indices.{place_if_some, place_if_none}

-- the first place of a key, or how many keys there are
abbrev place_of_key : Text → List Text → ℕ
place_of_key key ks = position_or_len (λ (k : Text). bytes_eq key k) ks

-- the end of a way with one key, for another
abbrev one_end : Text → Text → End → List End
one_end key other e = cond (bytes_eq key other) (e ∷ []) []

-- ---- what stands at the place of a key

beside_at : (v : Bool) (es : List End) (lists : List (List End)) (more : List End) (n : ℕ) → more ≡ get_or lists n [] → cond v es more ≡ get_or (es ∷ lists) (cond (not v) (1 + n) 0) []
beside_at true es lists more n e = refl
beside_at false es lists more n e = let s : 1 + n ≡ suc n = omega arith in rw s e

beside_place : (key : Text) (ks : List Text) (lists : List (List End)) → length ks ≡ length lists → ends_beside key ks lists ≡ get_or lists (place_of_key key ks) []
beside_place key [] [] h = refl
beside_place key [] (es ∷ lists) h = absurd (omega (arith, h))
beside_place key (k ∷ ks) [] h = absurd (omega (arith, h))
beside_place key (k ∷ ks) (es ∷ lists) h = beside_at (bytes_eq key k) es lists (ends_beside key ks lists) (place_of_key key ks) (beside_place key ks lists (omega (arith, h)))

get_default : (lists : List (List End)) (i : ℕ) (es : List End) → i < length lists → get_or lists i es ≡ get_or lists i []
get_default [] i es h = absurd (omega (arith, h))
get_default (l ∷ lists) zero es h = refl
get_default (l ∷ lists) (suc i) es h = get_default lists i es (omega (arith, h))

get_past : (lists : List (List End)) → get_or lists (length lists) [] ≡ []
get_past [] = refl
get_past (l ∷ lists) = get_past lists

pub beside_some : (key : Text) (ks : List Text) (lists : List (List End)) (i : ℕ) (es : List End) → length ks ≡ length lists → i < length ks → position (λ (k : Text). bytes_eq key k) ks ≡ Some i
    → es ≡ get_or lists i es → es ≡ ends_beside key ks lists
beside_some key ks lists i es l h p e =
    e ∙ get_default lists i es (omega (arith, h, l)) ∙ ap (λ (j : ℕ). get_or lists j []) (place_if_some (λ (k : Text). bytes_eq key k) ks i p) ∙ sym (beside_place key ks lists l)

pub beside_none : (key : Text) (ks : List Text) (lists : List (List End)) → length ks ≡ length lists → position (λ (k : Text). bytes_eq key k) ks ≡ None → [] ≡ ends_beside key ks lists
beside_none key ks lists l p =
    sym (beside_place key ks lists l ∙ ap (λ (j : ℕ). get_or lists j []) (sym (place_if_none (λ (k : Text). bytes_eq key k) ks p) ∙ l) ∙ get_past lists)

-- ---- one end more at the place of a key

-- the first key is this one
put_first : (key other k : Text) (e : End) (es more : List End) (u v : Bool) → key ≡ k → (u ≡ true → other ≡ k) → (other ≡ k → u ≡ true) → (v ≡ true → key ≡ other) → (key ≡ other → v ≡ true)
    → cond u (es ++ e ∷ []) more ≡ cond u es more ++ cond v (e ∷ []) []
put_first key other k e es more true true s a b f g = refl
put_first key other k e es more true false s a b f g = absurd (let h = g (s ∙ sym (a refl)) in cc)
put_first key other k e es more false true s a b f g = absurd (let h = b (sym (f refl) ∙ s) in cc)
put_first key other k e es more false false s a b f g = sym (append-nil more)

-- it is another
put_later : (key other k : Text) (e : End) (es more more' : List End) (u v : Bool) → (key ≡ k → ⊥) → (u ≡ true → other ≡ k) → (v ≡ true → key ≡ other) → more' ≡ more ++ cond v (e ∷ []) []
    → cond u es more' ≡ cond u es more ++ cond v (e ∷ []) []
put_later key other k e es more more' true true s a f h = absurd (s (f refl ∙ a refl))
put_later key other k e es more more' true false s a f h = sym (append-nil es)
put_later key other k e es more more' false v s a f h = h

put_step : (key other k : Text) (e : End) (ks : List Text) (es : List End) (lists : List (List End)) (w : Bool) → bytes_eq key k ≡ w
    → (place_of_key key ks < length ks → ends_beside other ks (set lists (place_of_key key ks) (get_or lists (place_of_key key ks) [] ++ e ∷ [])) ≡ ends_beside other ks lists ++ one_end key other e)
    → cond (not w) (1 + place_of_key key ks) 0 < suc (length ks)
    → ends_beside other (k ∷ ks) (set (es ∷ lists) (cond (not w) (1 + place_of_key key ks) 0) (get_or (es ∷ lists) (cond (not w) (1 + place_of_key key ks) 0) [] ++ e ∷ []))
    ≡ ends_beside other (k ∷ ks) (es ∷ lists) ++ one_end key other e
put_step key other k e ks es lists true q ih h =
    put_first key other k e es (ends_beside other ks lists) (bytes_eq other k) (bytes_eq key other) ((bytes_eq-Decides key k).0 q)
    (bytes_eq-Decides other k).0 (bytes_eq-Decides other k).1 (bytes_eq-Decides key other).0 (bytes_eq-Decides key other).1
put_step key other k e ks es lists false q ih h =
    let s : 1 + place_of_key key ks ≡ suc (place_of_key key ks) = omega arith in
    rw s (put_later key other k e es (ends_beside other ks lists) (ends_beside other ks (set lists (place_of_key key ks) (get_or lists (place_of_key key ks) [] ++ e ∷ []))) (bytes_eq other k) (bytes_eq key other)
    (λ z. (let f = (bytes_eq-Decides key k).1 z in cc)) (bytes_eq-Decides other k).0 (bytes_eq-Decides key other).0 (ih (omega (arith, h))))

put_there : (key other : Text) (e : End) (ks : List Text) (lists : List (List End)) → length ks ≡ length lists → place_of_key key ks < length ks
    → ends_beside other ks (set lists (place_of_key key ks) (get_or lists (place_of_key key ks) [] ++ e ∷ [])) ≡ ends_beside other ks lists ++ one_end key other e
put_there key other e [] lists l h = absurd (omega (arith, h))
put_there key other e (k ∷ ks) [] l h = absurd (omega (arith, l))
put_there key other e (k ∷ ks) (es ∷ lists) l h = put_step key other k e ks es lists (bytes_eq key k) refl (put_there key other e ks lists (omega (arith, l))) h

put_some : (key other : Text) (e : End) (ks : List Text) (lists new : List (List End)) (i : ℕ) → length ks ≡ length lists → i < length ks → position (λ (k : Text). bytes_eq key k) ks ≡ Some i
    → new ≡ set lists i (get_or lists i [] ++ e ∷ []) → ends_beside other ks new ≡ ends_beside other ks lists ++ one_end key other e
put_some key other e ks lists new i l h p q =
    let s : i ≡ place_of_key key ks = place_if_some (λ (k : Text). bytes_eq key k) ks i p in
    let P : ℕ → Type 0 = λ (j : ℕ). ends_beside other ks (set lists j (get_or lists j [] ++ e ∷ [])) ≡ ends_beside other ks lists ++ one_end key other e in
    ap (λ (ls : List (List End)). ends_beside other ks ls) q ∙ subst P (sym s) (put_there key other e ks lists l (subst (λ (j : ℕ). j < length ks) s h))

pub puts_old : (key : Text) (e : End) (old new : KeyedEnds) (i : ℕ) → IsEven old → i < length old.keys → position (λ (k : Text). bytes_eq key k) old.keys ≡ Some i → new.keys ≡ old.keys
    → new.lists.items ≡ set old.lists.items i (get_or old.lists.items i [] ++ e ∷ []) → PutsUnder key e old new
puts_old key e old new i l h p q r = record {
  even = ap (λ (ks : List Text). length ks) q ∙ l ∙ sym (ap (λ (ls : List (List End)). length ls) r ∙ length-set old.lists.items i (get_or old.lists.items i [] ++ e ∷ []));
  reported = λ other. ap (λ (ks : List Text). ends_beside other ks new.lists.items) q ∙ put_some key other e old.keys old.lists.items new.lists.items i l h p r;
}

-- ---- one key more

place_absent : (key k : Text) (w : Bool) (n m : ℕ) → suc m ≡ cond (not w) (1 + n) 0 → (w ≡ false) × (m ≡ n)
place_absent key k true n m e = absurd (omega (arith, e))
place_absent key k false n m e = (refl, omega (arith, e))

none_beside : (key k : Text) (w : Bool) → bytes_eq key k ≡ w → w ≡ false → key ≡ k → ⊥
none_beside key k w q f e = let g = (bytes_eq-Decides key k).1 e in cc

same : (x y : Text) (u v : Bool) → (u ≡ true → x ≡ y) → (x ≡ y → u ≡ true) → (v ≡ true → y ≡ x) → (y ≡ x → v ≡ true) → u ≡ v
same x y true v a b f g = sym (g (sym (a refl)))
same x y false true a b f g = absurd (let h = b (sym (f refl)) in cc)
same x y false false a b f g = refl

put_last : (key other : Text) (e : End) (ks : List Text) (lists : List (List End)) → length ks ≡ length lists → length ks ≡ place_of_key key ks
    → ends_beside other (ks ++ key ∷ []) (lists ++ (e ∷ []) ∷ []) ≡ ends_beside other ks lists ++ one_end key other e
put_last key other e [] [] l h =
    ap (λ (v : Bool). cond v (e ∷ []) []) (same other key (bytes_eq other key) (bytes_eq key other) (bytes_eq-Decides other key).0 (bytes_eq-Decides other key).1 (bytes_eq-Decides key other).0 (bytes_eq-Decides key other).1)
put_last key other e [] (es ∷ lists) l h = absurd (omega (arith, l))
put_last key other e (k ∷ ks) [] l h = absurd (omega (arith, l))
put_last key other e (k ∷ ks) (es ∷ lists) l h =
    let p = place_absent key k (bytes_eq key k) (place_of_key key ks) (length ks) h in
    put_later key other k e es (ends_beside other ks lists) (ends_beside other (ks ++ key ∷ []) (lists ++ (e ∷ []) ∷ [])) (bytes_eq other k) (bytes_eq key other)
    (none_beside key k (bytes_eq key k) refl p.0) (bytes_eq-Decides other k).0 (bytes_eq-Decides key other).0 (put_last key other e ks lists (omega (arith, l)) p.1)

absent_at : (key : Text) (ks : List Text) → length ks ≡ place_of_key key ks → IsIn key ks → ⊥
absent_at key [] q h = h
absent_at key (k ∷ ks) q h =
    let p = place_absent key k (bytes_eq key k) (place_of_key key ks) (length ks) q in
    elim h [ inl e ↦ none_beside key k (bytes_eq key k) refl p.0 e | inr r ↦ absent_at key ks p.1 r ]

pub absent : (key : Text) (ks : List Text) → position (λ (k : Text). bytes_eq key k) ks ≡ None → IsIn key ks → ⊥
absent key ks p h = absent_at key ks (place_if_none (λ (k : Text). bytes_eq key k) ks p) h

-- the key was entered, since it was not there
pub entered : (key : Text) (ks ks' : List Text) (added : Bool) → (IsIn key ks → ⊥) → EntersName key ks ks' added → ks' ≡ ks ++ key ∷ []
entered key ks ks' true p n = n.behind refl
entered key ks ks' false p n = absurd (p (n.was_there refl))

-- a key that is not there has no place among them
place_past : (key k : Text) (w : Bool) (n m : ℕ) → (w ≡ true → key ≡ k) → (key ≡ k → ⊥) → m ≡ n → suc m ≡ cond (not w) (1 + n) 0
place_past key k true n m a p e = absurd (p (a refl))
place_past key k false n m a p e = omega (arith, e)

not_there : (key : Text) (ks : List Text) → (IsIn key ks → ⊥) → length ks ≡ place_of_key key ks
not_there key [] p = refl
not_there key (k ∷ ks) p =
    place_past key k (bytes_eq key k) (place_of_key key ks) (length ks) (bytes_eq-Decides key k).0 (λ e. p (inl e)) (not_there key ks (λ h. p (inr h)))

put_none : (key other : Text) (e : End) (ks ks' : List Text) (lists new : List (List End)) → length ks ≡ length lists → (IsIn key ks → ⊥)
    → ks' ≡ ks ++ key ∷ [] → new ≡ lists ++ (e ∷ []) ∷ [] → ends_beside other ks' new ≡ ends_beside other ks lists ++ one_end key other e
put_none key other e ks ks' lists new l p q r = rw (q, r) (put_last key other e ks lists l (not_there key ks p))

pub puts_new : (key : Text) (e : End) (old new : KeyedEnds) → IsEven old → (IsIn key old.keys → ⊥) → new.keys ≡ old.keys ++ key ∷ [] → new.lists.items ≡ old.lists.items ++ (e ∷ []) ∷ []
    → PutsUnder key e old new
puts_new key e old new l p q r = record {
  even =
      ap (λ (ks : List Text). length ks) q ∙ length-append old.keys (key ∷ []) ∙ ap (λ (n : ℕ). n + 1) l
      ∙ sym (ap (λ (ls : List (List End)). length ls) r ∙ length-append old.lists.items ((e ∷ []) ∷ []));
  reported = λ other. put_none key other e old.keys new.keys old.lists.items new.lists.items l p q r;
}

-- ---- the ways that are left

one_way : (key : Text) (w : Branch) (ws : List Branch) → ends_by_key key (w ∷ ws) ≡ ends_by_key key (w ∷ []) ++ ends_by_key key ws
one_way key w ws = at (bytes_eq w.key key) w.end (ends_by_key key ws)
  where
    at : (v : Bool) (e : End) (es : List End) → cond v (e ∷ es) es ≡ cond v (e ∷ []) [] ++ es
    at true e es = refl
    at false e es = refl

pub none_put : (other : Text) (ws : List Branch) (keyed : KeyedEnds) → keyed.keys ≡ [] → ends_beside other keyed.keys keyed.lists.items ++ ends_by_key other ws ≡ ends_by_key other ws
none_put other ws keyed e = ap (λ (ks : List Text). ends_beside other ks keyed.lists.items ++ ends_by_key other ws) e

pub put_more : (other : Text) (ws : List Branch) (i : ℕ) (w : Branch) (key : Text) (old new : List End) → i < length ws → w ≡ get_or ws i w → key ≡ w.key
    → new ≡ old ++ one_end key other w.end → old ++ ends_by_key other (drop i ws) ≡ ends_by_key other ws → new ++ ends_by_key other (drop (i + 1) ws) ≡ ends_by_key other ws
put_more other ws i w key old new h e s n k =
    let d : drop i ws ≡ w ∷ drop (i + 1) ws = drop_more ws i w h ∙ ap (λ (x : Branch). x ∷ drop (i + 1) ws) (sym e) in
    let m : new ≡ old ++ ends_by_key other (w ∷ []) = n ∙ ap (λ (x : Text). old ++ one_end x other w.end) s in
    let more = ends_by_key other (drop (i + 1) ws) in
    ap (λ (es : List End). es ++ more) m ∙ append_assoc old (ends_by_key other (w ∷ [])) more ∙ ap (λ (es : List End). old ++ es) (sym (one_way other w (drop (i + 1) ws)))
    ∙ ap (λ (vs : List Branch). old ++ ends_by_key other vs) (sym d) ∙ k

pub put_all : (other : Text) (ws : List Branch) (i : ℕ) (es : List End) → length ws ≤ i → es ++ ends_by_key other (drop i ws) ≡ ends_by_key other ws → es ≡ ends_by_key other ws
put_all other ws i es h k = sym (append-nil es) ∙ ap (λ (vs : List Branch). es ++ ends_by_key other vs) (sym (at_drop_all (λ (vs : List Branch). vs) ws i h)) ∙ k
