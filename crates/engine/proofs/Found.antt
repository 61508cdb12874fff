-- The index of a connection among ascending numbers.
use Rattle.engine.proofs.Names.{◌≡◌, ◌≢◌, ◌<◌, ◌≤◌, ℕ, zero, suc, List, [], ◌∷◌, Bool, true, false, cond, ltb, ltb-true, ltb-false, Some, None, get_or, length, refl, sym, ap, subst, ◌∙◌, arith, ◌==◌, is_some, HoldsAt, eqb-true, false≢true, nat_tests, connection_in, AreRising, HasConnection, IsConnectionIndex, Connection}
use Rattle.std.specs.List.Sorted.{IsNonDecreasingBy, IsPartitionPoint}
use Rattle.std.specs.Ordering.{nat_cmp, ordering_index}
use Rattle.std.proofs.lemmas.Cmp.{ranked}
use Rattle.std.specs.declared.cmp.Ordering.TheVariants.{Less, Equal, Greater}
use Rattle.engine.proofs.Numbered.{other_false}

above_get : (low : ℕ) (ls : List Connection) (j : ℕ) (d : Connection) → AreRising low ls → j < length ls → low < (get_or ls j d).number
above_get low [] j d r lt = absurd (omega (arith, lt))
above_get low (x ∷ xs) zero d r lt = r.0
above_get low (x ∷ xs) (suc j) d r lt = let up = above_get x.number xs j d r.1 (omega (arith, lt)) in let first = r.0 in omega (arith, up, first)

pairs_rise : (low : ℕ) (ls : List Connection) (i j : ℕ) (d : Connection) → AreRising low ls → i < j → j < length ls → (get_or ls i d).number < (get_or ls j d).number
pairs_rise low [] i j d r lt within = absurd (omega (arith, within))
pairs_rise low (x ∷ xs) zero zero d r lt within = absurd (omega (arith, lt))
pairs_rise low (x ∷ xs) zero (suc j) d r lt within = above_get x.number xs j d r.1 (omega (arith, within))
pairs_rise low (x ∷ xs) (suc i) zero d r lt within = absurd (omega (arith, lt))
pairs_rise low (x ∷ xs) (suc i) (suc j) d r lt within = pairs_rise x.number xs i j d r.1 (omega (arith, lt)) (omega (arith, within))

rank_rise : (a b c : ℕ) → a ≤ b → ordering_index (nat_cmp a c) ≤ ordering_index (nat_cmp b c)
rank_rise a b c le = grind (arith, nat_tests)

pairs_not_fall : (ls : List Connection) (i j : ℕ) (d : Connection) → AreRising 0 ls → i ≤ j → j < length ls → (get_or ls i d).number ≤ (get_or ls j d).number
pairs_not_fall ls i j d r le within = grind (arith, λ (lt : i < j). pairs_rise 0 ls i j d r lt within, λ (same : i ≡ j). ap (λ (k : ℕ). (get_or ls k d).number) same)

comparisons_rise : (ls : List Connection) (c : ℕ) → AreRising 0 ls → IsNonDecreasingBy (λ (l : Connection). ordering_index (nat_cmp l.number c)) ls
comparisons_rise ls c r i j d le within = rank_rise (get_or ls i d).number (get_or ls j d).number c (pairs_not_fall ls i j d r le within)

absent : (ls : List Connection) (c : ℕ) → ((j : ℕ) (d : Connection) → j < length ls → (get_or ls j d).number ≢ c) → connection_in ls c ≡ None
absent [] c f = refl
absent (l ∷ ls) c f =
    ap (λ (b : Bool). cond b (Some l) (connection_in ls c)) (other_false l.number c (f 0 l (omega arith)))
    ∙ absent ls c (λ j d lt. f (suc j) d (omega (arith, lt)))

pub found : (ls : List Connection) (c i : ℕ) → i < length ls → HoldsAt (λ (l : Connection). nat_cmp l.number c ≡ Equal) ls i → IsConnectionIndex ls c (Some i)
found ls c i lt at = (lt, λ l. ranked _ c _ (sym (at l)))

pub not_found : (ls : List Connection) (c i : ℕ) → AreRising 0 ls
    → (IsNonDecreasingBy (λ (l : Connection). ordering_index (nat_cmp l.number c)) ls → IsPartitionPoint (λ (l : Connection). nat_cmp l.number c ≡ Less) (λ (l : Connection). nat_cmp l.number c ≡ Greater) ls i)
    → IsConnectionIndex ls c None
not_found ls c i r parted =
    let p = parted (comparisons_rise ls c r) in
    absent ls c (λ j d within same. parts j d within same p)
  where
    parts : (j : ℕ) (d : Connection) → j < length ls → (get_or ls j d).number ≡ c → IsPartitionPoint (λ (l : Connection). nat_cmp l.number c ≡ Less) (λ (l : Connection). nat_cmp l.number c ≡ Greater) ls i → ⊥
    parts j d within same p =
        let smaller : j < i → (get_or ls j d).number < c = λ lt. ranked _ c _ (sym (p.0 j d (omega arith) lt)) in
        let greater : i ≤ j → c < (get_or ls j d).number = λ le. ranked _ c _ (sym (p.1 j d le within)) in
        grind (arith, smaller, greater, same)

pub never_less : (ls : List Connection) → AreRising 0 ls → IsNonDecreasingBy (λ (l : Connection). l.number) ls
never_less ls r i j d le within = pairs_not_fall ls i j d r le within

-- one that is in the list is at some index
somewhere : (ls : List Connection) (c : ℕ) (l : Connection) → connection_in ls c ≡ Some l → (j : ℕ) × (j < length ls) × ((d : Connection) → (get_or ls j d).number ≡ c)
somewhere [] c l e = absurd (false≢true (ap is_some e))
somewhere (x ∷ xs) c l e = go (x.number == c) refl e (somewhere xs c l)
  where
    go : (b : Bool) → (x.number == c) ≡ b → cond b (Some x) (connection_in xs c) ≡ Some l
        → (connection_in xs c ≡ Some l → (j : ℕ) × (j < length xs) × ((d : Connection) → (get_or xs j d).number ≡ c))
        → (j : ℕ) × (j < suc (length xs)) × ((d : Connection) → (get_or (x ∷ xs) j d).number ≡ c)
    go true same f behind = (zero, omega arith, λ d. eqb-true x.number c same)
    go false same f behind = let next = behind f in (suc next.0, let lt = next.1 in omega (arith, lt), λ d. next.2 d)

-- and that is the first place of its number or a greater one
pub first_there : (ls : List Connection) (c i : ℕ) → AreRising 0 ls
    → IsPartitionPoint (λ (l : Connection). ltb l.number c ≡ true) (λ (l : Connection). ltb l.number c ≡ false) ls i → HasConnection ls c → IsConnectionIndex ls c (Some i)
first_there ls c i r p (l, e) = at (somewhere ls c l e)
  where
    at : (j : ℕ) × (j < length ls) × ((d : Connection) → (get_or ls j d).number ≡ c) → IsConnectionIndex ls c (Some i)
    at (j, within, is) =
        let before : j < i → ⊥ = λ lt. let less = ltb-true _ _ (p.0 j l (omega arith) lt) in let same = is l in omega (arith, less, same) in
        let behind : i < j → ⊥ = λ lt. let less = pairs_rise 0 ls i j l r lt within in let more = ltb-false _ _ (p.1 i l (omega arith) (omega (arith, lt, within))) in let same = is l in omega (arith, less, more, same) in
        let here : j ≡ i = grind (arith, before, behind) in
        subst (λ (k : ℕ). IsConnectionIndex ls c (Some k)) here (within, is)

-- there is an element at each place
pub element : (ls : List Connection) (i : ℕ) → i < length ls → (l : Connection) × (get_or ls i l ≡ l)
element [] i lt = absurd (omega (arith, lt))
element (x ∷ xs) zero lt = (x, refl)
element (x ∷ xs) (suc i) lt = element xs i (omega (arith, lt))
