-- There are as many connections that are not gone as are kept.
use Rattle.engine.proofs.Names.{◌≡◌, ◌≢◌, ◌+◌, ◌<◌, ◌≤◌, ℕ, zero, suc, List, [], ◌∷◌, Bool, true, false, cond, eqb, Option, Some, None, length, refl, sym, ap, subst, ◌∙◌, arith, ◌==◌, ◌&&◌, not, nat_lt, nat_le, AllByRecursion, eqb-true, false≢true, nat_tests, is_gone, is_ended, count_open, Parts, connection_in, session_of, wire_in, wire_of, world_of, is_connection_gone, IsConnection, AreConnections, AreRising, Connection}
use Rattle.engine.proofs.Numbered.{none_below}

abbrev pub one : Bool → ℕ
one b = cond b 1 0

abbrev pub there : Option Connection → ℕ
there None = 0
there (Some l) = 1

-- how many have at most this number
abbrev pub up_to : ℕ → List Connection → ℕ
up_to n [] = 0
up_to n (l ∷ ls) = one (nat_le l.number n) + up_to n ls

le_yes : (a b : ℕ) → a ≤ b → nat_le a b ≡ true
le_yes a b le = grind (arith, nat_tests)

le_no : (a b : ℕ) → b < a → nat_le a b ≡ false
le_no a b lt = grind (arith, nat_tests)

le_same : (a n : ℕ) → a ≢ suc n → nat_le a (suc n) ≡ nat_le a n
le_same a n ne = grind (arith, nat_tests)

one_more : (low : ℕ) (ls : List Connection) (n : ℕ) → AreRising low ls → up_to (suc n) ls ≡ there (connection_in ls (suc n)) + up_to n ls
one_more low [] n r = refl
one_more low (l ∷ ls) n r = go (l.number == suc n) refl (one_more l.number ls n r.1)
  where
    go : (b : Bool) → (l.number == suc n) ≡ b → up_to (suc n) ls ≡ there (connection_in ls (suc n)) + up_to n ls
        → one (nat_le l.number (suc n)) + up_to (suc n) ls ≡ there (cond b (Some l) (connection_in ls (suc n))) + (one (nat_le l.number n) + up_to n ls)
    go true e ih =
        let is : l.number ≡ suc n = eqb-true l.number (suc n) e in
        let yes : one (nat_le l.number (suc n)) ≡ 1 = ap one (le_yes l.number (suc n) (omega (arith, is))) in
        let no : one (nat_le l.number n) ≡ 0 = ap one (le_no l.number n (omega (arith, is))) in
        let none : there (connection_in ls (suc n)) ≡ 0 = ap there (none_below l.number ls (suc n) r.1 (omega (arith, is))) in
        omega (arith, yes, no, none, ih)
    go false e ih =
        let same : one (nat_le l.number (suc n)) ≡ one (nat_le l.number n) = ap one (le_same l.number n (λ is. false≢true (sym e ∙ (ap (λ (k : ℕ). k == suc n) is ∙ Rattle.std.proofs.lemmas.Bool.eq-eqb (suc n) (suc n) refl)))) in
        omega (arith, same, ih)

none_up : (low : ℕ) (ls : List Connection) → AreRising low ls → up_to 0 ls ≡ 0
none_up low [] r = refl
none_up low (l ∷ ls) r =
    let first = r.0 in
    let no : one (nat_le l.number 0) ≡ 0 = ap one (le_no l.number 0 (omega (arith, first))) in
    let rest = none_up l.number ls r.1 in
    omega (arith, no, rest)

all_up : (given : ℕ) (ls : List Connection) → AllByRecursion (IsConnection given) ls → up_to given ls ≡ length ls
all_up given [] a = refl
all_up given (l ∷ ls) a =
    let yes : one (nat_le l.number given) ≡ 1 = ap one (le_yes l.number given a.0.within) in
    let rest = all_up given ls a.1 in
    omega (arith, yes, rest)

-- what holds of all holds of the one of this number
pub found_connection : (P : Connection → Type 0) (ls : List Connection) (c : ℕ) (l : Connection) → AllByRecursion P ls → connection_in ls c ≡ Some l → P l
found_connection P [] c l a e = absurd (cc)
found_connection P (x ∷ xs) c l a e = go (x.number == c) refl e (found_connection P xs c l a.1)
  where
    some_same : (x y : Connection) → Some x ≡ Some y → x ≡ y
    some_same x y f = cc

    go : (b : Bool) → (x.number == c) ≡ b → cond b (Some x) (connection_in xs c) ≡ Some l → (connection_in xs c ≡ Some l → P l) → P l
    go true q f rest = subst P (some_same x l f) a.0
    go false q f rest = rest f

pub output_in : (b : Bool) (l : Connection) → (wire_in b l).output ≡ l.output.bytes
output_in true l = refl
output_in false l = refl

-- one that is kept is not gone, and one that is not kept is
gone_of : (o : Option Connection) → ((l : Connection) → o ≡ Some l → is_connection_gone l ≡ false)
    → (is_ended (session_of o).phase && not (nat_lt 0 (length (wire_of o).output))) ≡ cond (eqb (there o) 0) true false
gone_of None f = refl
gone_of (Some l) f = ap (λ (z : List ℕ). is_ended l.session.phase && not (nat_lt 0 (length z))) (output_in (is_ended l.session.phase) l) ∙ f l refl

pub gone_is : (p : Parts) (c : ℕ) → AreConnections p.given p.connections → is_gone (world_of p) c ≡ cond (eqb (there (connection_in p.connections c)) 0) true false
gone_is p c a = gone_of (connection_in p.connections c) (λ l e. found_connection (λ k. is_connection_gone k ≡ false) p.connections c l (heres p.given p.connections a.each) e)
  where
    heres : (given : ℕ) (ls : List Connection) → AllByRecursion (IsConnection given) ls → AllByRecursion (λ (k : Connection). is_connection_gone k ≡ false) ls
    heres given [] a = tt
    heres given (l ∷ ls) a = (a.0.here, heres given ls a.1)

pub gone_none : (p : Parts) (c : ℕ) → AreConnections p.given p.connections → connection_in p.connections c ≡ None → is_gone (world_of p) c ≡ true
gone_none p c a e = gone_is p c a ∙ ap (λ (o : Option Connection). cond (eqb (there o) 0) true false) e

pub gone_some : (p : Parts) (c : ℕ) (l : Connection) → AreConnections p.given p.connections → connection_in p.connections c ≡ Some l → is_gone (world_of p) c ≡ false
gone_some p c l a e = gone_is p c a ∙ ap (λ (o : Option Connection). cond (eqb (there o) 0) true false) e

count_open_up : (p : Parts) (n : ℕ) → AreConnections p.given p.connections → count_open (world_of p) n ≡ up_to n p.connections
count_open_up p zero a = sym (none_up 0 p.connections a.rising)
count_open_up p (suc n) a = go (connection_in p.connections (suc n)) refl (count_open_up p n a)
  where
    go : (o : Option Connection) → connection_in p.connections (suc n) ≡ o → count_open (world_of p) n ≡ up_to n p.connections → count_open (world_of p) (suc n) ≡ up_to (suc n) p.connections
    go None e up =
        let more : up_to (suc n) p.connections ≡ 0 + up_to n p.connections = one_more 0 p.connections n a.rising ∙ ap (λ (o : Option Connection). there o + up_to n p.connections) e in
        let here : count_open (world_of p) (suc n) ≡ count_open (world_of p) n = ap (λ (b : Bool). cond b (count_open (world_of p) n) (count_open (world_of p) n + 1)) (gone_none p (suc n) a e) in
        omega (arith, up, more, here)
    go (Some l) e up =
        let more : up_to (suc n) p.connections ≡ 1 + up_to n p.connections = one_more 0 p.connections n a.rising ∙ ap (λ (o : Option Connection). there o + up_to n p.connections) e in
        let here : count_open (world_of p) (suc n) ≡ count_open (world_of p) n + 1 = ap (λ (b : Bool). cond b (count_open (world_of p) n) (count_open (world_of p) n + 1)) (gone_some p (suc n) l a e) in
        omega (arith, up, more, here)

pub count_open_is : (p : Parts) → AreConnections p.given p.connections → count_open (world_of p) p.given ≡ length p.connections
count_open_is p a = count_open_up p p.given a ∙ all_up p.given p.connections a.each
