-- Blocks that need the slots they keep.
use Rattle.queue.proofs.Names.{◌≡◌, ℕ, zero, suc, ◌+◌, ◌-◌, ◌*◌, ◌<◌, ◌≤◌, List, [], ◌∷◌, ◌++◌, length, get_or, map, filter, refl, sym, ap, ◌∙◌, subst, arith, Bool, true, false, cond, inl, inr, nat_lt, ◌||◌, ◌⊎◌, ltb-false, eqb_tells, leb_tells, get_or-set_same, get_or-set_other, length-set, length-append, survived_now, Stretch, parts, joined, is_in_use, survived_block, no_stretch, block_at, slots_of, AreFilled, AreFilledBut, IsFilled, IsHeld, IsBounded, NeedBoth, NeedBothAt, IsNotSpent, AreNeeded, AreJoined, AreWhole, HasRoom, LastIsShort, get_or_append_left, get_or_default, length-map, Vec, vec_len, rules}
use Rattle.std.proofs.Math.ListN.{set}

-- how many messages stand in the block at this place
abbrev live : List Stretch → ℕ → ℕ
live bs i = length (block_at bs i).entries

live_at : (b c : Stretch) → b ≡ c → length b.entries ≡ length c.entries
live_at b c e = ap (λ (x : Stretch). length x.entries) e

slots_at : (b c : Stretch) → b ≡ c → b.slots ≡ c.slots
slots_at b c e = ap (λ (x : Stretch). x.slots) e

same_at : (bs : List Stretch) (i j : ℕ) → i ≡ j → block_at bs i ≡ block_at bs j
same_at bs i j e = ap (λ (k : ℕ). block_at bs k) e

need_same : (a b a' b' : Stretch) → a' ≡ a → b' ≡ b → NeedBoth a b → NeedBoth a' b'
need_same a b a' b' p q n = subst (λ (x : Stretch). NeedBoth x b') (sym p) (subst (λ (y : Stretch). NeedBoth a y) (sym q) n)

need_at : (bs : List Stretch) (i j : ℕ) → i ≡ j → NeedBothAt bs i → NeedBothAt bs j
need_at bs i j e n = subst (λ (k : ℕ). NeedBothAt bs k) e n

-- ---- one block is changed

pub at_block : (bs : List Stretch) (i : ℕ) (d : Stretch) → i < length bs → d ≡ get_or bs i d → d ≡ block_at bs i
at_block bs i d lt at = at ∙ get_or_default bs i d no_stretch lt

pub there : (bs : List Stretch) (i j : ℕ) (b : Stretch) → i < length bs → j ≡ i → block_at (set bs i b) j ≡ b
there bs i j b lt e = same_at (set bs i b) j i e ∙ get_or-set_same bs i b no_stretch lt

pub elsewhere : (bs : List Stretch) (i j : ℕ) (b : Stretch) → (j ≡ i → ⊥) → block_at (set bs i b) j ≡ block_at bs j
elsewhere bs i j b ne = get_or-set_other bs i j b no_stretch ne

narrow_set : (most : ℕ) (bs : List Stretch) (i : ℕ) (b : Stretch) → i < length bs → b.slots ≤ most → ((j : ℕ) → (block_at bs j).slots ≤ most)
    → (j : ℕ) → (block_at (set bs i b) j).slots ≤ most
narrow_set most bs i b lt le n j = elim (eqb_tells j i) [
  | inl q ↦ let e = slots_at _ _ (there bs i j b lt q.1) in omega (arith, e, le)
  | inr q ↦ let e = slots_at _ _ (elsewhere bs i j b q.1) in let m = n j in omega (arith, e, m)
]

-- As many slots are kept for as many messages.
pub record AreAlike (bs cs : List Stretch) : Type 0 where
  pub len : length cs ≡ length bs
  pub slots : (i : ℕ) → (block_at cs i).slots ≡ (block_at bs i).slots
  pub live : (i : ℕ) → length (block_at cs i).entries ≡ length (block_at bs i).entries

pub filled_alike : (most : ℕ) (bs cs : List Stretch) → AreAlike bs cs → AreFilled most bs → AreFilled most cs
filled_alike most bs cs a f = record {
  narrow = λ i. let s = a.slots i in let n = f.narrow i in omega (arith, s, n);
  filled = λ i l s. let n = a.len in let e = a.slots i in let v = a.live i in let h = f.filled i (omega (arith, n, l)) (omega (arith, e, s)) in omega (arith, v, h);
  needed = λ i l h.
      let n = a.len in let v = a.live i in let w = a.live (i + 1) in let e = a.slots i in
      let d = f.needed i (omega (arith, n, l)) (omega (arith, v, h)) in
      record { some = (let s = d.some in omega (arith, w, s)); many = (let m = d.many in omega (arith, m, v, w, e)) };
}

-- it has as many slots and messages as it had
pub alike_set : (bs : List Stretch) (i : ℕ) (d b : Stretch) → i < length bs → d ≡ get_or bs i d → b.slots ≡ d.slots → length b.entries ≡ length d.entries → AreAlike bs (set bs i b)
alike_set bs i d b lt at same many = record {
  len = (let n = length-set bs i b in omega (arith, n));
  slots = λ j. elim (eqb_tells j i) [
    | inl q ↦ slots_at _ _ (there bs i j b lt q.1) ∙ same ∙ slots_at _ _ (at_block bs i d lt at ∙ same_at bs i j (sym q.1))
    | inr q ↦ slots_at _ _ (elsewhere bs i j b q.1)
  ];
  live = λ j. elim (eqb_tells j i) [
    | inl q ↦ live_at _ _ (there bs i j b lt q.1) ∙ many ∙ live_at _ _ (at_block bs i d lt at ∙ same_at bs i j (sym q.1))
    | inr q ↦ live_at _ _ (elsewhere bs i j b q.1)
  ];
}

-- the last one is short where it was
pub short_alike : (bs cs : List Stretch) → AreAlike bs cs → LastIsShort bs → LastIsShort cs
short_alike bs cs a s i last none =
    let n = a.len in
    let e = a.slots i in
    let v = a.live i in
    let h = s i (omega (arith, n, last)) (omega (arith, v, none)) in
    omega (arith, e, h)

-- a last one that holds a message needs none of it
pub short_held : (bs : List Stretch) (i : ℕ) (b : Stretch) → i + 1 ≡ length bs → IsHeld b → LastIsShort (set bs i b)
short_held bs i b last held j e none =
    let n = length-set bs i b in
    let here = live_at _ _ (there bs i j b (omega (arith, last)) (omega (arith, last, n, e))) in
    absurd (omega (arith, here, held, none))

-- the last one is changed
pub filled_last : (most : ℕ) (bs : List Stretch) (i : ℕ) (d b : Stretch) → i + 1 ≡ length bs → d ≡ get_or bs i d → (d.slots ≤ most → b.slots ≤ most) → AreFilled most bs → AreFilled most (set bs i b)
filled_last most bs i d b last at le f =
    let lt : i < length bs = omega (arith, last) in
    let n = length-set bs i b in
    let e = slots_at _ _ (at_block bs i d lt at) in record {
      narrow = narrow_set most bs i b lt (le (let m = f.narrow i in omega (arith, e, m))) f.narrow;
      filled = λ j l. subst IsFilled (sym (elsewhere bs i j b (λ q. absurd (omega (arith, last, n, l, q))))) (f.filled j (omega (arith, n, l)));
      needed = λ j l h.
          let here = elsewhere bs i j b (λ q. absurd (omega (arith, last, n, l, q))) in
          need_same _ _ _ _ here (elsewhere bs i (j + 1) b (λ q. absurd (omega (arith, last, n, l, q)))) (f.needed j (omega (arith, n, l)) (subst IsHeld here h));
    }

-- ---- a message goes from a block

pub but_taken : (most : ℕ) (bs : List Stretch) (i : ℕ) (d b : Stretch) → i < length bs → d ≡ get_or bs i d → b.slots ≡ d.slots → length b.entries + 1 ≡ length d.entries → AreFilled most bs
    → AreFilledBut i most (set bs i b)
but_taken most bs i d b lt at same less f =
    let n = length-set bs i b in
    let was = at_block bs i d lt at in
    let s = slots_at _ _ was in
    let v = live_at _ _ was in
    let is = there bs i i b lt refl in
    let s' = slots_at _ _ is in
    let v' = live_at _ _ is in
    let held : IsHeld (block_at bs i) = omega (arith, v, less) in
    let behind = elsewhere bs i (i + 1) b (λ q. absurd (omega (arith, q))) in
    let w = live_at _ _ behind in record {
      narrow = narrow_set most bs i b lt (let m = f.narrow i in omega (arith, s, same, m)) f.narrow;
      filled = λ j l ne. subst IsFilled (sym (elsewhere bs i j b ne)) (f.filled j (omega (arith, n, l)));
      needed = λ j l ne ne' h. need_same _ _ _ _ (elsewhere bs i j b ne) (elsewhere bs i (j + 1) b ne') (f.needed j (omega (arith, n, l)) (subst IsHeld (elsewhere bs i j b ne) h));
      next = λ l. let m = (f.needed i (omega (arith, n, l)) held).some in omega (arith, w, m);
      here = λ l. let m = (f.needed i (omega (arith, n, l)) held).many in omega (arith, w, m, s, s', v, v', same, less);
      before = λ j e l h.
          let front = elsewhere bs i j b (λ q. absurd (omega (arith, e, q))) in
          let m = (f.needed j (omega (arith, n, l, e)) (subst IsHeld front h)).many in
          let u = slots_at _ _ front in
          let x = live_at _ _ front in
          let y = live_at _ _ (same_at bs (j + 1) i e) in
          omega (arith, m, u, x, y, v, v', less);
    }

-- it and its neighbours are needed
pub filled_needed : (most : ℕ) (bs : List Stretch) (i : ℕ) → i + 1 < length bs → IsNotSpent i bs → AreNeeded i bs → AreFilledBut i most bs → AreFilled most bs
filled_needed most bs i lt left n f = record {
  narrow = f.narrow;
  filled = λ j l. elim (eqb_tells j i) [
    | inl q ↦ λ s. subst IsHeld (same_at bs i j (sym q.1)) held
    | inr q ↦ f.filled j l q.1
  ];
  needed = λ j l h. elim (eqb_tells j i) [
    | inl q ↦ need_at bs i j (sym q.1) (let e = q.1 in n.here (omega (arith, l, e)) held)
    | inr q ↦ elim (eqb_tells (j + 1) i) [
      | inl r ↦ n.before j r.1 h
      | inr r ↦ f.needed j l q.1 r.1 h
    ]
  ];
}
  where
    held : IsHeld (block_at bs i)
    held = elim (eqb_tells (live bs i) 0) [
      | inl q ↦ absurd (let b = left q.1 in let s = (n.before b.index b.near b.held).some in let e = live_at _ _ (same_at bs (b.index + 1) i b.near) in let z = q.1 in omega (arith, s, e, z))
      | inr q ↦ let z = q.1 in omega (arith, z)
    ]

-- ---- two blocks are joined

-- What is known of the blocks around the one at this place and the next.
record IsAround (place most : ℕ) (bs : List Stretch) : Type 0 where
  narrow : (i : ℕ) → (block_at bs i).slots ≤ most
  filled : (i : ℕ) → i + 1 < length bs → (i ≡ place → ⊥) → (i ≡ place + 1 → ⊥) → IsFilled (block_at bs i)
  needed : (i : ℕ) → i + 2 < length bs → (i + 1 ≡ place → ⊥) → (i ≡ place → ⊥) → (i ≡ place + 1 → ⊥) → IsHeld (block_at bs i) → NeedBothAt bs i
  held : IsHeld (block_at bs place)
  into : (i : ℕ) → i + 1 ≡ place → i + 3 < length bs → IsHeld (block_at bs i) → (block_at bs i).slots < live bs i + (live bs place + live bs (place + 1))
  next : place + 3 < length bs → IsHeld (block_at bs (place + 2))
  onto : place + 3 < length bs → (block_at bs place).slots < (live bs place + live bs (place + 1)) + live bs (place + 2)

around_before : (most : ℕ) (bs : List Stretch) (i p : ℕ) → p + 1 ≡ i → IsHeld (block_at bs p) → AreFilledBut i most bs → IsAround p most bs
around_before most bs i p e held f = record {
  narrow = f.narrow;
  filled = λ j l ne ne'. f.filled j l (λ q. ne' (omega (arith, e, q)));
  needed = λ j l x ne ne' h. f.needed j l (λ q. ne' (omega (arith, e, q))) (λ q. ne (omega (arith, e, q))) h;
  held = held;
  into = λ j q l h.
      let m = (f.needed j (omega (arith, l)) (λ z. absurd (omega (arith, e, q, z))) (λ z. absurd (omega (arith, e, q, z))) h).many in
      let v = live_at _ _ (same_at bs (j + 1) p q) in
      omega (arith, m, v);
  next = λ l. subst IsHeld (same_at bs (i + 1) (p + 2) (omega (arith, e))) (f.next (omega (arith, e, l)));
  onto = λ l.
      let m = f.before p e (omega (arith, e, l)) held in
      let v = live_at _ _ (same_at bs (p + 1) i e) in
      let s = f.next (omega (arith, e, l)) in
      let w = live_at _ _ (same_at bs (i + 1) (p + 2) (omega (arith, e))) in
      omega (arith, m, v, s, w);
}

around_here : (most : ℕ) (bs : List Stretch) (i : ℕ) → i + 2 < length bs → IsHeld (block_at bs i) → AreFilledBut i most bs → IsAround i most bs
around_here most bs i lt held f = record {
  narrow = f.narrow;
  filled = λ j l ne ne'. f.filled j l ne;
  needed = λ j l x ne ne' h. f.needed j l ne x h;
  held = held;
  into = λ j q l h. let m = f.before j q lt h in let s = f.next lt in omega (arith, m, s);
  next = λ l. subst IsHeld (same_at bs ((i + 1) + 1) (i + 2) (omega arith)) (f.needed (i + 1) (omega (arith, l)) (λ z. absurd (omega (arith, z))) (λ z. absurd (omega (arith, z))) (f.next lt)).some;
  onto = λ l.
      let m = f.here lt in
      let s = (f.needed (i + 1) (omega (arith, l)) (λ z. absurd (omega (arith, z))) (λ z. absurd (omega (arith, z))) (f.next lt)).some in
      let w = live_at _ _ (same_at bs ((i + 1) + 1) (i + 2) (omega arith)) in
      omega (arith, m, s, w);
}

-- one number is less than the other, or they are the same
three : (j p : ℕ) → (j < p) ⊎ ((j ≡ p) ⊎ (p < j))
three j p = elim (eqb_tells j p) [
  | inl q ↦ inr (inl q.1)
  | inr q ↦ elim (leb_tells j p) [
    | inl r ↦ inl (let a = q.1 in let b = r.1 in omega (arith, a, b))
    | inr r ↦ inr (inr (let b = r.1 in omega (arith, b)))
  ]
]

filled_around : (most : ℕ) (bs cs : List Stretch) (p : ℕ) → AreJoined p bs cs → IsAround p most bs → AreFilled most cs
filled_around most bs cs p j a = record {
  narrow = λ i. elim (three i p) [
    | inl q ↦ subst (λ (x : Stretch). x.slots ≤ most) (sym (j.before i q)) (a.narrow i)
    | inr q ↦ elim q [
      | inl r ↦ let e = slots_at _ _ (same_at cs i p r) in let s = j.slots in let m = a.narrow p in omega (arith, e, s, m)
      | inr r ↦ subst (λ (x : Stretch). x.slots ≤ most) (sym (j.behind i r)) (a.narrow (i + 1))
    ]
  ];
  filled = λ i l. let n = j.len in elim (three i p) [
    | inl q ↦ subst IsFilled (sym (j.before i q)) (a.filled i (omega (arith, n, l)) (λ z. absurd (omega (arith, q, z))) (λ z. absurd (omega (arith, q, z))))
    | inr q ↦ elim q [
      | inl r ↦ λ s. subst IsHeld (same_at cs p i (sym r)) held
      | inr r ↦ subst IsFilled (sym (j.behind i r)) (a.filled (i + 1) (omega (arith, n, l)) (λ z. absurd (omega (arith, r, z))) (λ z. absurd (omega (arith, r, z))))
    ]
  ];
  needed = λ i l h. let n = j.len in elim (three i p) [
    | inl q ↦ elim (three (i + 1) p) [
      | inl r ↦ need_same _ _ _ _ (j.before i q) (j.before (i + 1) r)
          (a.needed i (omega (arith, n, l)) (λ z. absurd (omega (arith, r, z))) (λ z. absurd (omega (arith, q, z))) (λ z. absurd (omega (arith, q, z))) (subst IsHeld (j.before i q) h))
      | inr r ↦ elim r [
        | inl e ↦ into i q e (omega (arith, n, l)) h
        | inr e ↦ absurd (omega (arith, q, e))
      ]
    ]
    | inr q ↦ elim q [
      | inl e ↦ need_at cs p i (sym e) (onto (omega (arith, n, l, e)))
      | inr r ↦ need_same _ _ _ _ (j.behind i r) (j.behind (i + 1) (omega (arith, r)))
          (a.needed (i + 1) (omega (arith, n, l)) (λ z. absurd (omega (arith, r, z))) (λ z. absurd (omega (arith, r, z))) (λ z. absurd (omega (arith, r, z))) (subst IsHeld (j.behind i r) h))
    ]
  ];
}
  where
    many : live cs p ≡ live bs p + live bs (p + 1)
    many = ap length j.entries ∙ length-append (block_at bs p).entries (block_at bs (p + 1)).entries

    held : IsHeld (block_at cs p)
    held = let m = many in let h = a.held in omega (arith, m, h)

    into : (i : ℕ) → i < p → i + 1 ≡ p → i + 3 < length bs → IsHeld (block_at cs i) → NeedBothAt cs i
    into i lt e l h =
        let m = a.into i e l (subst IsHeld (j.before i lt) h) in
        let s = slots_at _ _ (j.before i lt) in
        let v = live_at _ _ (j.before i lt) in
        let w = live_at _ _ (same_at cs (i + 1) p e) in
        let x = many in
        let y = held in
        record { some = omega (arith, w, y); many = omega (arith, m, s, v, w, x) }

    onto : p + 3 < length bs → NeedBothAt cs p
    onto l =
        let b = j.behind (p + 1) (omega arith) ∙ same_at bs ((p + 1) + 1) (p + 2) (omega arith) in
        let v = live_at _ _ b in
        let s = j.slots in
        let x = many in
        let m = a.onto l in
        record { some = subst IsHeld (sym b) (a.next l); many = omega (arith, m, s, v, x) }

-- the block before took this one in
pub filled_taken_in : (most : ℕ) (bs cs : List Stretch) (i p : ℕ) → p + 1 ≡ i → IsHeld (block_at bs p) → AreJoined p bs cs → AreFilledBut i most bs → AreFilled most cs
filled_taken_in most bs cs i p e held j f = filled_around most bs cs p j (around_before most bs i p e held f)

-- this one took the next in
pub filled_with_next : (most : ℕ) (bs cs : List Stretch) (i p : ℕ) → p ≡ i → i + 2 < length bs → IsHeld (block_at bs p) → AreJoined p bs cs → AreFilledBut i most bs → AreFilled most cs
filled_with_next most bs cs i p e lt held j f =
    filled_around most bs cs p j (around_here most bs p (omega (arith, e, lt)) held (subst (λ (k : ℕ). AreFilledBut k most bs) (sym e) f))

-- ---- blocks in front, and behind

narrow_cons : (most : ℕ) (b : Stretch) (bs : List Stretch) → b.slots ≤ most → ((i : ℕ) → (block_at bs i).slots ≤ most) → (i : ℕ) → (block_at (b ∷ bs) i).slots ≤ most
narrow_cons most b bs le n zero = le
narrow_cons most b bs le n (suc i) = n i

filled_cons : (b : Stretch) (bs : List Stretch) → (0 < length bs → IsFilled b) → ((i : ℕ) → i + 1 < length bs → IsFilled (block_at bs i)) → (i : ℕ) → i + 1 < length (b ∷ bs) → IsFilled (block_at (b ∷ bs) i)
filled_cons b bs h f zero l = h (omega arith)
filled_cons b bs h f (suc i) l = f i (omega arith)

first_next : (b : Stretch) (bs : List Stretch) → block_at (b ∷ bs) (0 + 1) ≡ block_at bs 0
first_next b bs = same_at (b ∷ bs) (0 + 1) (suc zero) (omega arith)

next_at : (b : Stretch) (bs : List Stretch) (i : ℕ) → block_at (b ∷ bs) (suc i + 1) ≡ block_at bs (i + 1)
next_at b bs i = same_at (b ∷ bs) (suc i + 1) (suc (i + 1)) (omega arith)

needed_cons : (b : Stretch) (bs : List Stretch) → (1 < length bs → IsHeld b → NeedBoth b (block_at bs 0)) → ((i : ℕ) → i + 2 < length bs → IsHeld (block_at bs i) → NeedBothAt bs i)
    → (i : ℕ) → i + 2 < length (b ∷ bs) → IsHeld (block_at (b ∷ bs) i) → NeedBothAt (b ∷ bs) i
needed_cons b bs h f zero l s = need_same _ _ _ _ refl (first_next b bs) (h (omega arith) s)
needed_cons b bs h f (suc i) l s = need_same _ _ _ _ refl (next_at b bs i) (f i (omega arith) s)

front : (most : ℕ) (b : Stretch) (bs : List Stretch) → b.slots ≤ most → (0 < length bs → IsFilled b) → (1 < length bs → IsHeld b → NeedBoth b (block_at bs 0)) → AreFilled most bs → AreFilled most (b ∷ bs)
front most b bs le h d f = record { narrow = narrow_cons most b bs le f.narrow; filled = filled_cons b bs h f.filled; needed = needed_cons b bs d f.needed }

behind : (most : ℕ) (b : Stretch) (bs : List Stretch) → AreFilled most (b ∷ bs) → AreFilled most bs
behind most b bs f = record { narrow = λ i. f.narrow (suc i); filled = λ i l. f.filled (suc i) (omega arith); needed = λ i l s. need_same _ _ _ _ refl (sym (next_at b bs i)) (f.needed (suc i) (omega arith) s) }

-- ---- a block comes behind the last

narrow_end : (most : ℕ) (bs : List Stretch) (b : Stretch) → b.slots ≤ most → ((i : ℕ) → (block_at bs i).slots ≤ most) → (i : ℕ) → (block_at (bs ++ b ∷ []) i).slots ≤ most
narrow_end most [] b le n zero = le
narrow_end most [] b le n (suc i) = omega arith
narrow_end most (x ∷ xs) b le n zero = n 0
narrow_end most (x ∷ xs) b le n (suc i) = narrow_end most xs b le (λ j. n (suc j)) i

at_front : (bs : List Stretch) (b : Stretch) (i : ℕ) → i < length bs → block_at (bs ++ b ∷ []) i ≡ block_at bs i
at_front bs b i lt = get_or_append_left bs (b ∷ []) no_stretch i lt

-- what was the last may not be needed
pub but_end : (most : ℕ) (bs : List Stretch) (b : Stretch) (i : ℕ) → i ≡ length bs - 1 → b.slots ≤ most → AreFilled most bs → AreFilledBut i most (bs ++ b ∷ [])
but_end most bs b i e le f =
    let n = length-append bs (b ∷ []) in record {
      narrow = narrow_end most bs b le f.narrow;
      filled = λ j l ne. subst IsFilled (sym (at_front bs b j (omega (arith, n, l)))) (f.filled j (let z : j + 1 < length bs = before j l ne in z));
      needed = λ j l ne ne' h.
          let z : j + 2 < length bs = two_before j l ne ne' in
          let here = at_front bs b j (omega (arith, z)) in
          need_same _ _ _ _ here (at_front bs b (j + 1) (omega (arith, z))) (f.needed j z (subst IsHeld here h));
      next = λ l. absurd (omega (arith, n, l, e));
      here = λ l. absurd (omega (arith, n, l, e));
      before = λ j q l h. absurd (omega (arith, n, l, e));
    }
  where
    before : (j : ℕ) → j + 1 < length (bs ++ b ∷ []) → (j ≡ i → ⊥) → j + 1 < length bs
    before j l ne = elim (eqb_tells j i) [
      | inl q ↦ absurd (ne q.1)
      | inr q ↦ let n = length-append bs (b ∷ []) in let z = q.1 in omega (arith, n, l, z, e)
    ]

    two_before : (j : ℕ) → j + 2 < length (bs ++ b ∷ []) → (j ≡ i → ⊥) → (j + 1 ≡ i → ⊥) → j + 2 < length bs
    two_before j l ne ne' = elim (eqb_tells (j + 1) i) [
      | inl r ↦ absurd (ne' r.1)
      | inr r ↦ let n = length-append bs (b ∷ []) in let z = r.1 in omega (arith, n, l, z, e)
    ]

-- ---- blocks that were given back go

held_in_use : (c : Stretch) → IsHeld c → is_in_use c ≡ true
held_in_use c h = go (nat_lt 0 (length c.entries)) refl
  where
    go : (u : Bool) → nat_lt 0 (length c.entries) ≡ u → (u || nat_lt 0 c.room) ≡ true
    go true e = refl
    go false e = absurd (let z = ltb-false 0 (length c.entries) e in omega (arith, z, h))

length-in_use : (bs : List Stretch) → length (filter is_in_use bs) ≤ length bs
length-in_use [] = omega arith
length-in_use (b ∷ bs) = go (is_in_use b) (length-in_use bs)
  where
    go : (u : Bool) → length (filter is_in_use bs) ≤ length bs → length (cond u (b ∷ filter is_in_use bs) (filter is_in_use bs)) ≤ suc (length bs)
    go true r = omega (arith, r)
    go false r = omega (arith, r)

first_kept : (b : Stretch) (bs : List Stretch) → 1 < length (filter is_in_use bs) → (2 < length (b ∷ bs) → NeedBoth b (block_at bs 0)) → NeedBoth b (block_at (filter is_in_use bs) 0)
first_kept b [] l n = absurd (omega (arith, l))
first_kept b (c ∷ cs) l n =
    let len = length-in_use (c ∷ cs) in
    let d : NeedBoth b c = n (omega (arith, l, len)) in
    subst (λ (u : Bool). NeedBoth b (block_at (cond u (c ∷ filter is_in_use cs) (filter is_in_use cs)) 0)) (sym (held_in_use c d.some)) d

pub filled_in_use : (most : ℕ) (bs : List Stretch) → AreFilled most bs → AreFilled most (filter is_in_use bs)
filled_in_use most [] f = f
filled_in_use most (b ∷ bs) f = go (is_in_use b) (filled_in_use most bs (behind most b bs f))
  where
    go : (u : Bool) → AreFilled most (filter is_in_use bs) → AreFilled most (cond u (b ∷ filter is_in_use bs) (filter is_in_use bs))
    go true r = front most b (filter is_in_use bs) (f.narrow 0) (λ l. let n = length-in_use bs in f.filled 0 (omega (arith, n, l))) (λ l h. first_kept b bs l (λ m. f.needed 0 m h)) r
    go false r = r

-- ---- all marked as what stood

stood_at : (bs : List Stretch) (i : ℕ) → block_at (map survived_block bs) i ≡ survived_block (block_at bs i)
stood_at [] i = refl
stood_at (b ∷ bs) zero = refl
stood_at (b ∷ bs) (suc i) = stood_at bs i

pub stood_alike : (bs : List Stretch) → AreAlike bs (map survived_block bs)
stood_alike bs = record {
  len = length-map bs survived_block;
  slots = λ i. slots_at _ _ (stood_at bs i);
  live = λ i. live_at _ _ (stood_at bs i) ∙ length-map (block_at bs i).entries survived_now;
}

-- ---- all of them

enough : (a b : Stretch) → IsFilled a → (IsHeld a → NeedBoth a b) → a.slots ≤ length a.entries + length b.entries
enough a b f n = elim (leb_tells 1 (length a.entries)) [
  | inl p ↦ let h = p.1 in let m = (n (omega (arith, h))).many in omega (arith, m)
  | inr p ↦ elim (leb_tells 1 a.slots) [
    | inl q ↦ absurd (let s = q.1 in let z = f (omega (arith, s)) in let h = p.1 in omega (arith, z, h))
    | inr q ↦ let s = q.1 in omega (arith, s)
  ]
]

-- beside the first, which counts once more
slots-few : (most : ℕ) (b : Stretch) (bs : List Stretch) → AreFilled most (b ∷ bs) → slots_of (b ∷ bs) + length b.entries ≤ length (joined (parts (b ∷ bs))) * 2 + most * 2
slots-few most b [] f = let n = f.narrow 0 in let l = length-append b.entries [] in omega (arith, n, l)
slots-few most b (c ∷ []) f =
    let n = f.narrow 0 in let m = f.narrow 1 in
    let l = length-append b.entries (joined (parts (c ∷ []))) in
    omega (arith, n, m, l)
slots-few most b (c ∷ d ∷ ds) f =
    let r = slots-few most c (d ∷ ds) (behind most b (c ∷ d ∷ ds) f) in
    let l = length-append b.entries (joined (parts (c ∷ d ∷ ds))) in
    let s = enough b c (f.filled 0 (omega arith)) (f.needed 0 (omega arith)) in
    omega (arith, r, l, s)

few : (most : ℕ) (bs : List Stretch) → AreFilled most bs → slots_of bs ≤ length (joined (parts bs)) * 2 + most * 2
few most [] f = omega arith
few most (b ∷ bs) f = let r = slots-few most b bs f in omega (arith, r)

-- spare blocks have all their slots
slots-spare : (bs : List Stretch) → AreWhole bs → slots_of bs ≡ length bs * 1024
slots-spare [] w = refl
slots-spare (b ∷ bs) w = let s = (w 0 b (omega arith)).slots in let r = slots-spare bs (λ i d lt. w (suc i) d (omega (arith, lt))) in omega (arith, s, r)

pub bounded : (room live : ℕ) (bs : List Stretch) (spares : Vec Stretch) → AreFilled 1024 bs → AreWhole spares.items → HasRoom room bs (vec_len spares) → room + live ≤ 18446744073709551615
    → IsBounded room live bs spares.items
bounded room live bs spares f w has fits =
    let len : vec_len spares ≡ length spares.items = search rules in record {
      filled = f;
      few = (let n = few 1024 bs f in let s = slots-spare spares.items w in elim (leb_tells 1 (vec_len spares)) [
        | inl p ↦ let q = p.1 in let h = has.needed (omega (arith, q)) in omega (arith, n, s, h, len)
        | inr p ↦ let z = p.1 in omega (arith, n, s, z, len)
      ]);
      fits = fits;
    }
