-- The tag that the server makes next is the first that is free.
use Rattle.laws.proofs.Names.{◌≡◌, ℕ, zero, suc, ◌-◌, ◌≤◌, List, Bool, true, false, refl, sym, ap, ◌∙◌, arith, nat_lt, ◌==◌, eqb-true, eqb-false, leb-true, leb-false, false≢true, Consumer, Channel, is_in_use, server_tag, next_free, NextTagsAreFound}
use Rattle.std.proofs.Common.{◌+◌, ◌<◌}
use Rattle.std.specs.Prelude.{if◌then◌else◌}
use Rattle.model.specs.Consuming.{first_free}

-- ---- tags that are free

-- a number below the last one that is tried has a tag that is free
first_is_free : (more : ℕ) (consumers : List Consumer) (n : ℕ) → first_free more consumers n < n + more → is_in_use (server_tag (first_free more consumers n)) consumers ≡ false
unfolding first_free
first_is_free zero consumers n lt = absurd (omega (arith, lt))
first_is_free (suc more) consumers n lt = go (is_in_use (server_tag n) consumers) refl (first_is_free more consumers (n + 1)) lt
  where
    go : (v : Bool) → is_in_use (server_tag n) consumers ≡ v → (first_free more consumers (n + 1) < n + 1 + more → is_in_use (server_tag (first_free more consumers (n + 1))) consumers ≡ false)
        → (if v then first_free more consumers (n + 1) else n) < n + suc more → is_in_use (server_tag (if v then first_free more consumers (n + 1) else n)) consumers ≡ false
    go true e rest lt = rest (omega (arith, lt))
    go false e rest lt = e

-- one that is tried is at least the first
first_from : (more : ℕ) (consumers : List Consumer) (n : ℕ) → n ≤ first_free more consumers n
unfolding first_free
first_from zero consumers n = omega arith
first_from (suc more) consumers n = go (is_in_use (server_tag n) consumers) (first_from more consumers (n + 1))
  where
    go : (v : Bool) → n + 1 ≤ first_free more consumers (n + 1) → n ≤ (if v then first_free more consumers (n + 1) else n)
    go true le = omega (arith, le)
    go false le = omega arith

pub next_is_free : (ch : Channel) → next_free ch < 18446744073709551615 → is_in_use (server_tag (next_free ch)) ch.consumers ≡ false
next_is_free ch lt =
    let from = first_from (18446744073709551615 - ch.next_name) ch.consumers ch.next_name in
    first_is_free (18446744073709551615 - ch.next_name) ch.consumers ch.next_name (omega (arith, lt, from))

-- and at most the last
first_to : (more : ℕ) (consumers : List Consumer) (n : ℕ) → first_free more consumers n ≤ n + more
unfolding first_free
first_to zero consumers n = omega arith
first_to (suc more) consumers n = go (is_in_use (server_tag n) consumers) (first_to more consumers (n + 1))
  where
    go : (v : Bool) → first_free more consumers (n + 1) ≤ n + 1 + more → (if v then first_free more consumers (n + 1) else n) ≤ n + suc more
    go true le = omega (arith, le)
    go false le = omega arith

-- a number that is not another one is behind it
behind : (k n : ℕ) → n ≤ k → (k ≡ n → ⊥) → n + 1 ≤ k
behind k n le ne = by (nat_lt n k) refl
  where
    by : (v : Bool) → nat_lt n k ≡ v → n + 1 ≤ k
    by true e = let lt = leb-true (suc n) k e in omega (arith, lt)
    by false e = let lt = leb-false (suc n) k e in absurd (ne (omega (arith, le, lt)))

-- all before it are in use
first_before : (more : ℕ) (consumers : List Consumer) (n k : ℕ) → n ≤ k → k < first_free more consumers n → is_in_use (server_tag k) consumers ≡ true
unfolding first_free
first_before zero consumers n k le lt = absurd (omega (arith, le, lt))
first_before (suc more) consumers n k le lt = go (is_in_use (server_tag n) consumers) refl (k == n) refl (first_before more consumers (n + 1) k) lt
  where
    go : (v : Bool) → is_in_use (server_tag n) consumers ≡ v → (w : Bool) → (k == n) ≡ w → (n + 1 ≤ k → k < first_free more consumers (n + 1) → is_in_use (server_tag k) consumers ≡ true)
        → k < (if v then first_free more consumers (n + 1) else n) → is_in_use (server_tag k) consumers ≡ true
    go true e true is rest lt = ap (λ (m : ℕ). is_in_use (server_tag m) consumers) (eqb-true k n is) ∙ e
    go true e false is rest lt = let ne = eqb-false k n is in rest (behind k n le ne) lt
    go false e w is rest lt = absurd (omega (arith, le, lt))

next_before : (ch : Channel) (k : ℕ) → ch.next_name ≤ k → k < next_free ch → is_in_use (server_tag k) ch.consumers ≡ true
next_before ch k le lt = first_before (18446744073709551615 - ch.next_name) ch.consumers ch.next_name k le lt

next_from : (ch : Channel) → ch.next_name ≤ next_free ch
next_from ch = first_from (18446744073709551615 - ch.next_name) ch.consumers ch.next_name

-- one of two numbers is less, or they are the same
data Compared (m n : ℕ) : Type 0 where
  less : m < n → Compared m n
  more : n < m → Compared m n
  equal : m ≡ n → Compared m n

compare : (m n : ℕ) → Compared m n
compare m n = by (nat_lt m n) refl (nat_lt n m) refl
  where
    by : (v : Bool) → nat_lt m n ≡ v → (w : Bool) → nat_lt n m ≡ w → Compared m n
    by true e w f = less (let lt = leb-true (suc m) n e in omega (arith, lt))
    by false e true f = more (let lt = leb-true (suc n) m f in omega (arith, lt))
    by false e false f = equal (let a = leb-false (suc m) n e in let b = leb-false (suc n) m f in omega (arith, a, b))

only_next : (ch : Channel) (n : ℕ) → ch.next_name ≤ n → n < 18446744073709551615 → is_in_use (server_tag n) ch.consumers ≡ false
    → ((k : ℕ) → ch.next_name ≤ k → k < n → is_in_use (server_tag k) ch.consumers ≡ true) → next_free ch ≡ n
only_next ch n le below free before = go (compare (next_free ch) n)
  where
    go : Compared (next_free ch) n → next_free ch ≡ n
    go (less lt) = absurd (false≢true (sym (next_is_free ch (omega (arith, lt, below))) ∙ before (next_free ch) (next_from ch) lt))
    go (more lt) = absurd (false≢true (sym free ∙ next_before ch n le lt))
    go (equal e) = e

none_is_left : (ch : Channel) → ch.next_name ≤ 18446744073709551615 → ((k : ℕ) → ch.next_name ≤ k → k < 18446744073709551615 → is_in_use (server_tag k) ch.consumers ≡ true) → next_free ch ≡ 18446744073709551615
none_is_left ch le all = go (compare (next_free ch) 18446744073709551615)
  where
    go : Compared (next_free ch) 18446744073709551615 → next_free ch ≡ 18446744073709551615
    go (less lt) = absurd (false≢true (sym (next_is_free ch lt) ∙ all (next_free ch) (next_from ch) lt))
    go (more lt) = let to = first_to (18446744073709551615 - ch.next_name) ch.consumers ch.next_name in absurd (omega (arith, le, lt, to))
    go (equal e) = e

pub next_tags : NextTagsAreFound
next_tags = record { next = λ ch. record { least = next_from ch; free = next_is_free ch; before = next_before ch }; only = only_next; none_left = none_is_left }
