-- Connections by their numbers: one changed, taken out, or put at the end.
use Rattle.engine.proofs.Names.{◌≡◌, ◌<◌, ◌≤◌, ℕ, zero, suc, List, [], ◌∷◌, ◌++◌, Bool, true, false, cond, Some, None, get_or, set, length, remove, refl, sym, ap, subst, ◌∙◌, arith, ◌==◌, if◌then◌else◌, AllByRecursion, eqb-true, eq-eqb, connection_in, AreRising, Connection}

same_true : (n c : ℕ) → n ≡ c → (n == c) ≡ true
same_true n c e = eq-eqb n c e

pub other_false : (n c : ℕ) → (n ≡ c → ⊥) → (n == c) ≡ false
other_false n c ne = go (n == c) refl
  where
    go : (b : Bool) → (n == c) ≡ b → b ≡ false
    go true e = absurd (ne (eqb-true n c e))
    go false e = refl

-- none has a number that all are above
pub none_below : (low : ℕ) (ls : List Connection) (c : ℕ) → AreRising low ls → c ≤ low → connection_in ls c ≡ None
none_below low [] c a le = refl
none_below low (l ∷ ls) c a le =
    ap (λ (b : Bool). cond b (Some l) (connection_in ls c)) (other_false l.number c (λ k. let lt = a.0 in omega (arith, lt, le, k))) ∙ none_below l.number ls c a.1 (let lt = a.0 in omega (arith, lt, le))

above_at : (low : ℕ) (ls : List Connection) (i : ℕ) (l : Connection) → AreRising low ls → i < length ls → get_or ls i l ≡ l → low < l.number
above_at low [] i l a lt g = absurd (omega (arith, lt))
above_at low (k ∷ ks) zero l a lt g = subst (λ (z : Connection). low < z.number) g a.0
above_at low (k ∷ ks) (suc i) l a lt g = let up = above_at k.number ks i l a.1 (omega (arith, lt)) g in let first = a.0 in omega (arith, up, first)

-- the one at a place is the one of its number
pub connection_in-place : (low : ℕ) (ls : List Connection) (i : ℕ) (l : Connection) → AreRising low ls → i < length ls → get_or ls i l ≡ l → connection_in ls l.number ≡ Some l
connection_in-place low [] i l r lt g = absurd (omega (arith, lt))
connection_in-place low (k ∷ ks) zero l r lt g = ap (λ (b : Bool). cond b (Some k) (connection_in ks l.number)) (same_true k.number l.number (ap (λ (z : Connection). z.number) g)) ∙ ap (λ (z : Connection). Some z) g
connection_in-place low (k ∷ ks) (suc i) l r lt g =
    ap (λ (b : Bool). cond b (Some k) (connection_in ks l.number)) (other_false k.number l.number (λ e. let above = above_at k.number ks i l r.1 (omega (arith, lt)) g in omega (arith, above, e)))
    ∙ connection_in-place k.number ks i l r.1 (omega (arith, lt)) g

-- with another of the same number in its place, that is the one of this number, and the others stay
pub connection_in-set : (low : ℕ) (ls : List Connection) (i : ℕ) (old new : Connection) (d : ℕ) → AreRising low ls → i < length ls → get_or ls i old ≡ old → new.number ≡ old.number
    → connection_in (set ls i new) d ≡ (if old.number == d then Some new else connection_in ls d)
connection_in-set low [] i old new d r lt g n = absurd (omega (arith, lt))
connection_in-set low (x ∷ xs) zero old new d r lt g n = go (old.number == d) refl
  where
    go : (b : Bool) → (old.number == d) ≡ b → cond (new.number == d) (Some new) (connection_in xs d) ≡ cond b (Some new) (cond (x.number == d) (Some x) (connection_in xs d))
    go true e = ap (λ (v : Bool). cond v (Some new) (connection_in xs d)) (ap (λ (k : ℕ). k == d) n ∙ e)
    go false e = ap (λ (v : Bool). cond v (Some new) (connection_in xs d)) (ap (λ (k : ℕ). k == d) n ∙ e)
        ∙ sym (ap (λ (v : Bool). cond v (Some x) (connection_in xs d)) (ap (λ (k : Connection). k.number == d) g ∙ e))
connection_in-set low (x ∷ xs) (suc i) old new d r lt g n = go (x.number == d) refl (connection_in-set x.number xs i old new d r.1 (omega (arith, lt)) g n)
  where
    distinct : old.number ≡ d → x.number ≡ d → ⊥
    distinct e k = let above = above_at x.number xs i old r.1 (omega (arith, lt)) g in omega (arith, above, e, k)

    go : (b : Bool) → (x.number == d) ≡ b → connection_in (set xs i new) d ≡ (if old.number == d then Some new else connection_in xs d)
        → cond b (Some x) (connection_in (set xs i new) d) ≡ (if old.number == d then Some new else cond b (Some x) (connection_in xs d))
    go true e ih = sym (ap (λ (v : Bool). cond v (Some new) (Some x)) (other_false old.number d (λ k. distinct k (eqb-true x.number d e))))
    go false e ih = ih

-- with it taken out there is none of this number, and the others stay
pub connection_in-remove : (low : ℕ) (ls : List Connection) (i : ℕ) (old : Connection) (d : ℕ) → AreRising low ls → i < length ls → get_or ls i old ≡ old
    → connection_in (remove ls i) d ≡ (if old.number == d then None else connection_in ls d)
connection_in-remove low [] i old d r lt g = absurd (omega (arith, lt))
connection_in-remove low (x ∷ xs) zero old d r lt g = go (old.number == d) refl
  where
    go : (b : Bool) → (old.number == d) ≡ b → connection_in xs d ≡ cond b None (cond (x.number == d) (Some x) (connection_in xs d))
    go true e = none_below x.number xs d r.1 (let k : old.number ≡ d = eqb-true old.number d e in let same : x.number ≡ old.number = ap (λ (z : Connection). z.number) g in omega (arith, k, same))
    go false e = sym (ap (λ (v : Bool). cond v (Some x) (connection_in xs d)) (ap (λ (k : Connection). k.number == d) g ∙ e))
connection_in-remove low (x ∷ xs) (suc i) old d r lt g = go (x.number == d) refl (connection_in-remove x.number xs i old d r.1 (omega (arith, lt)) g)
  where
    distinct : old.number ≡ d → x.number ≡ d → ⊥
    distinct e k = let above = above_at x.number xs i old r.1 (omega (arith, lt)) g in omega (arith, above, e, k)

    go : (b : Bool) → (x.number == d) ≡ b → connection_in (remove xs i) d ≡ (if old.number == d then None else connection_in xs d)
        → cond b (Some x) (connection_in (remove xs i) d) ≡ (if old.number == d then None else cond b (Some x) (connection_in xs d))
    go true e ih = sym (ap (λ (v : Bool). cond v None (Some x)) (other_false old.number d (λ k. distinct k (eqb-true x.number d e))))
    go false e ih = ih

-- with a new one at the end, that is the one of its number, and the others stay
pub connection_in-push : (ls : List Connection) (x : Connection) (d : ℕ) → AllByRecursion (λ (l : Connection). l.number < x.number) ls
    → connection_in (ls ++ x ∷ []) d ≡ (if x.number == d then Some x else connection_in ls d)
connection_in-push [] x d a = refl
connection_in-push (y ∷ ys) x d a = go (y.number == d) refl (connection_in-push ys x d a.1)
  where
    go : (b : Bool) → (y.number == d) ≡ b → connection_in (ys ++ x ∷ []) d ≡ (if x.number == d then Some x else connection_in ys d)
        → cond b (Some y) (connection_in (ys ++ x ∷ []) d) ≡ (if x.number == d then Some x else cond b (Some y) (connection_in ys d))
    go true e ih = sym (ap (λ (v : Bool). cond v (Some x) (Some y)) (other_false x.number d (λ k. let lt = a.0 in let same : y.number ≡ d = eqb-true y.number d e in omega (arith, lt, same, k))))
    go false e ih = ih

-- ---- rising

pub rising-set : (low : ℕ) (ls : List Connection) (i : ℕ) (old new : Connection) → AreRising low ls → i < length ls → get_or ls i old ≡ old → new.number ≡ old.number → AreRising low (set ls i new)
rising-set low [] i old new r lt g n = tt
rising-set low (x ∷ xs) zero old new r lt g n =
    let same : x.number ≡ new.number = ap (λ (z : Connection). z.number) g ∙ sym n in
    (subst (λ (k : ℕ). low < k) same r.0, subst (λ (k : ℕ). AreRising k xs) same r.1)
rising-set low (x ∷ xs) (suc i) old new r lt g n = (r.0, rising-set x.number xs i old new r.1 (omega (arith, lt)) g n)

rising-less : (low more : ℕ) (ls : List Connection) → low ≤ more → AreRising more ls → AreRising low ls
rising-less low more [] le r = tt
rising-less low more (x ∷ xs) le r = (let lt = r.0 in omega (arith, lt, le), r.1)

pub rising-remove : (low : ℕ) (ls : List Connection) (i : ℕ) → AreRising low ls → AreRising low (remove ls i)
rising-remove low [] zero r = tt
rising-remove low [] (suc i) r = tt
rising-remove low (x ∷ xs) zero r = rising-less low x.number xs (let lt = r.0 in omega (arith, lt)) r.1
rising-remove low (x ∷ xs) (suc i) r = (r.0, rising-remove x.number xs i r.1)

pub rising-push : (low : ℕ) (ls : List Connection) (x : Connection) → AreRising low ls → low < x.number → AllByRecursion (λ (l : Connection). l.number < x.number) ls → AreRising low (ls ++ x ∷ [])
rising-push low [] x r lt a = (lt, tt)
rising-push low (y ∷ ys) x r lt a = (r.0, rising-push y.number ys x r.1 a.0 a.1)

pub all-set : (P : Connection → Type 0) (ls : List Connection) (i : ℕ) (new : Connection) → AllByRecursion P ls → P new → AllByRecursion P (set ls i new)
all-set P [] i new a p = tt
all-set P (x ∷ xs) zero new a p = (p, a.1)
all-set P (x ∷ xs) (suc i) new a p = (a.0, all-set P xs i new a.1 p)

pub all-remove : (P : Connection → Type 0) (ls : List Connection) (i : ℕ) → AllByRecursion P ls → AllByRecursion P (remove ls i)
all-remove P [] zero a = tt
all-remove P [] (suc i) a = tt
all-remove P (x ∷ xs) zero a = a.1
all-remove P (x ∷ xs) (suc i) a = (a.0, all-remove P xs i a.1)

pub all_at : (P : Connection → Type 0) (ls : List Connection) (i : ℕ) (l : Connection) → AllByRecursion P ls → i < length ls → get_or ls i l ≡ l → P l
all_at P [] i l a lt g = absurd (omega (arith, lt))
all_at P (y ∷ ys) zero l a lt g = subst P g a.0
all_at P (y ∷ ys) (suc i) l a lt g = all_at P ys i l a.1 (omega (arith, lt)) g
