-- The members of a line, by their indices.
use Rattle.std.proofs.Common.{◌≡◌, ◌⊎◌, ◌<◌, ◌≤◌, ◌+◌, ◌-◌, ◌*◌, ◌/◌, ◌++◌, ◌∙◌, ℕ, zero, suc, List, [], ◌∷◌, Bool, true, false, Option, Some, None, Result, Ok, Err, length, take, drop, get_or, inl, inr, refl, sym, ap, subst, arith, cond}
use Rattle.std.specs.Prelude.{insert, is_ok, IfSome, IfNone, IsOk, OnOk, OnErr, ◌==◌}
use Rattle.std.proofs.lemmas.Bool.{false≢true}
use Rattle.std.proofs.lemmas.Bool.Decides.{leb_tells}
use Rattle.std.specs.List.{remove}
use Rattle.std.proofs.lemmas.List.{drop_at, get_or_past, length-append, length-drop, length-take-le, take-append-drop, take_at}
use Rattle.marks.specs.Sets.{bit_of, Differs, Inserts, Removes}
use Rattle.marks.proofs.Bits.{zero_word}
use Rattle.waiting_lines.specs.Order.{Member, FailsAt, IsAt, IsPlace, IsNextWithout, IsNextAwake, AllAsleep, FallsAsleep, GoesLast, Loses, NonePass, Wakes, members_from, order_from, turned}
use Rattle.waiting_lines.proofs.Turned.{SameSplit, comes_last, remove_parts, same_split, seat, split_get, splits, turned_length}

-- the index and the turn tell each other
pub turn_is : (next count i j place : ℕ) → i < count → j < count → IsPlace next count i place → IsPlace next count j place → i ≡ j
turn_is next count i j place lt less (inl e) (inl g) = omega (arith, e, g)
turn_is next count i j place lt less (inl e) (inr g) = absurd (omega (arith, lt, less, e, g))
turn_is next count i j place lt less (inr e) (inl g) = absurd (omega (arith, lt, less, e, g))
turn_is next count i j place lt less (inr e) (inr g) = omega (arith, e, g)

-- the index of who stands `k`-th
pub has_place : (next count k : ℕ) → next ≤ count → k < count → (place : ℕ) × (place < count) × IsPlace next count k place
has_place next count k most lt = elim (leb_tells count (next + k)) [
  | inl t ↦ let le = t.1 in (next + k - count, omega (arith, le, lt, most), inr (omega (arith, le)))
  | inr t ↦ let less = t.1 in (next + k, omega (arith, less), inl refl)
]

-- a set of a row of members has one more
pub one_more : (count place size : ℕ) (f g : ℕ → ℕ) → place ≤ count → ((k : ℕ) → count ≤ k → f k ≡ 0) → ((k : ℕ) → size ≤ k → g k ≡ 0) → Inserts f g place size
    → (k : ℕ) → count + 1 ≤ k → g k ≡ 0
one_more count place size f g le past over ins k more = elim (leb_tells size k) [
  | inl t ↦ over k t.1
  | inr t ↦ let less = t.1 in ap g (omega (arith, more)) ∙ ins.behind (k - 1) (omega (arith, le, more)) (omega (arith, less, more)) ∙ past (k - 1) (omega (arith, more))
]

-- no bit is 1 past the last word
pub past_words : (words : List ℕ) (k : ℕ) → length words * 64 ≤ k → bit_of words k ≡ 0
past_words words k le = zero_word words k (get_or_past words (k / 64) 0 (omega (arith, le)))

-- ---- outcomes

pub on_ok : {A B P Q : Type 0} (r : Result A B) → (P → Q) → OnOk r P → OnOk r Q
on_ok (Ok x) f p = f p
on_ok (Err e) f p = tt

pub err_of : {A B P : Type 0} (r : Result A B) → P → OnErr r P
err_of (Ok x) p = tt
err_of (Err e) p = p

pub on_err : {A B P Q : Type 0} (r : Result A B) → (P → Q) → OnErr r P → OnErr r Q
on_err (Ok x) f p = tt
on_err (Err e) f p = f p

pub if_ok : {A B C : Type 0} (r : Result A B) (xs ys zs : C) → zs ≡ cond (is_ok r) ys xs → IsOk r → zs ≡ ys
if_ok (Ok x) xs ys zs e ok = e
if_ok (Err x) xs ys zs e ok = absurd (false≢true ok)

module _ {X : Type 0} where
  -- ---- the members from an index on

  pub members_length : (from : ℕ) (bit : ℕ → ℕ) (xs : List X) → length (members_from from bit xs) ≡ length xs
  members_length from bit [] = refl
  members_length from bit (x ∷ xs) = let e = members_length (from + 1) bit xs in omega (arith, e)

  pub order_length : (next : ℕ) (bit : ℕ → ℕ) (xs : List X) → length (order_from next bit xs) ≡ length xs
  order_length next bit xs = turned_length next (members_from 0 bit xs) ∙ members_length 0 bit xs

  -- members with the same bits are the same, wherever they are
  pub members_same : (i j : ℕ) (f g : ℕ → ℕ) (xs : List X) → ((k : ℕ) → k < length xs → f (i + k) ≡ g (j + k)) → members_from i f xs ≡ members_from j g xs
  members_same i j f g [] same = refl
  members_same i j f g (x ∷ xs) same =
      let first : f i ≡ g j = ap f (omega arith) ∙ same 0 (omega arith) ∙ ap g (omega arith) in
      let rest = members_same (i + 1) (j + 1) f g xs (λ k lt. ap f (omega arith) ∙ same (k + 1) (omega (arith, lt)) ∙ ap g (omega arith)) in
      cc (first, rest)

  pub members_append : (i : ℕ) (f : ℕ → ℕ) (xs ys : List X) → members_from i f (xs ++ ys) ≡ members_from i f xs ++ members_from (i + length xs) f ys
  members_append i f [] ys = ap (λ (n : ℕ). members_from n f ys) (omega arith)
  members_append i f (x ∷ xs) ys =
      let rest = members_append (i + 1) f xs ys in
      let at : i + 1 + length xs ≡ i + length (x ∷ xs) = omega arith in
      ap (λ (ms : List (Member X)). record { item = x; awake = f i == 1 } ∷ ms) (rest ∙ ap (λ (n : ℕ). members_from (i + 1) f xs ++ members_from n f ys) at)

  pub members_alike : (f g : ℕ → ℕ) (xs : List X) → ((k : ℕ) → k < length xs → f k ≡ g k) → members_from 0 f xs ≡ members_from 0 g xs
  members_alike f g xs same = members_same 0 0 f g xs (λ k lt. ap f (omega arith) ∙ same k lt ∙ ap g (omega arith))

  pub members_parts : (f : ℕ → ℕ) (xs ys : List X) → members_from 0 f (xs ++ ys) ≡ members_from 0 f xs ++ members_from (length xs) f ys
  members_parts f xs ys = members_append 0 f xs ys ∙ ap (λ (n : ℕ). members_from 0 f xs ++ members_from n f ys) (omega arith)

  -- ---- the member at an index

  abbrev pub member : X → ℕ → Member X
  member x bit = record { item = x; awake = bit == 1 }

  -- the items `a ++ x ∷ b`, as members
  pub members_at : (f : ℕ → ℕ) (a : List X) (x : X) (b : List X)
      → members_from 0 f (a ++ x ∷ b) ≡ members_from 0 f a ++ member x (f (length a)) ∷ members_from (length a + 1) f b
  members_at f a x b = members_parts f a (x ∷ b)

  -- What a line is and becomes, by the member at index `place`: `front` is before it, `back` behind it.
  pub record Stands (next : ℕ) (f : ℕ → ℕ) (xs : List X) (place : ℕ) : Type 0 where
    pub item : X
    pub front : List (Member X)
    pub back : List (Member X)
    pub at : (d : X) → get_or xs place d ≡ item
    pub was : order_from next f xs ≡ front ++ member item (f place) ∷ back
    pub changed : (g : ℕ → ℕ) (v : ℕ) → Differs f g place v → order_from next g xs ≡ front ++ member item v ∷ back
    pub last : order_from (place + 1) f xs ≡ back ++ front ++ member item (f place) ∷ []
    pub left : (g : ℕ → ℕ) (now : ℕ) → Removes f g place → IsNextWithout place next now → order_from now g (remove xs place) ≡ front ++ back
    pub here : IsPlace next (length xs) (length front) place

  stands_at : (next : ℕ) (f : ℕ → ℕ) (a : List X) (x : X) (b : List X) → next ≤ length (a ++ x ∷ b) → Stands next f (a ++ x ∷ b) (length a)
  stands_at next f a x b most =
      let long = length-append a (x ∷ b) in
      let ma = members_from 0 f a in
      let mb = members_from (length a + 1) f b in
      let la : length ma ≡ length a = members_length 0 f a in
      let lb : length mb ≡ length b = members_length (length a + 1) f b in
      let s = seat next ma mb (omega (arith, most, long, la, lb)) in
      let total : length ma + 1 + length mb ≡ length (a ++ x ∷ b) = omega (arith, long, la, lb) in
      record {
        item = x;
        front = s.front;
        back = s.back;
        at = λ d. split_get a x d b;
        was = ap (turned next) (members_at f a x b) ∙ s.was (member x (f (length a)));
        changed = λ g v d.
            let one : members_from 0 g a ≡ ma = members_alike g f a (λ k lt. d.others k (λ e. omega (arith, lt, e))) in
            let two : members_from (length a + 1) g b ≡ mb = members_same (length a + 1) (length a + 1) g f b (λ k lt. d.others (length a + 1 + k) (λ e. omega (arith, e))) in
            let bit : g (length a) ≡ v = d.there in
            ap (turned next) (members_at g a x b ∙ cc (one, two, bit)) ∙ s.was (member x v);
        last = ap (turned (length a + 1)) (members_at f a x b) ∙ ap (λ (n : ℕ). turned (n + 1) (ma ++ member x (f (length a)) ∷ mb)) (sym la)
            ∙ s.last (member x (f (length a)));
        left = λ g now r w.
            let one : members_from 0 g a ≡ ma = members_alike g f a (λ k lt. r.before k lt) in
            let two : members_from (length a) g b ≡ mb = members_same (length a) (length a + 1) g f b (λ k lt. r.behind (length a + k) (omega arith) ∙ ap f (omega arith)) in
            ap (order_from now g) (remove_parts a x b) ∙ ap (turned now) (members_parts g a b ∙ cc (one, two))
            ∙ s.left now (subst (λ (n : ℕ). IsNextWithout n next now) (sym la) w);
        here = subst (λ (n : ℕ). IsPlace next n (length s.front) (length a)) total (subst (λ (n : ℕ). IsPlace next (length ma + 1 + length mb) (length s.front) n) la s.here);
      }

  pub stands : (next : ℕ) (f : ℕ → ℕ) (xs : List X) (place : ℕ) → next ≤ length xs → place < length xs → Stands next f xs place
  stands next f xs place most lt =
      let s = splits xs place lt in
      subst (λ (ys : List X). Stands next f ys place) (sym s.whole)
      (subst (λ (n : ℕ). Stands next f (s.front ++ s.here ∷ s.back) n) s.long
      (stands_at next f s.front s.here s.back (subst (λ (ys : List X). next ≤ length ys) s.whole most)))

  pub front_short : (next : ℕ) (f : ℕ → ℕ) (xs : List X) (place : ℕ) (s : Stands next f xs place) → length s.front < length xs
  front_short next f xs place s =
      let one = ap (λ (ms : List (Member X)). length ms) s.was in
      let two = length-append s.front (member s.item (f place) ∷ s.back) in
      let three = order_length next f xs in
      omega (arith, one, two, three)

  -- so who stands `i`-th is the member at that index
  pub is_that : (next : ℕ) (f : ℕ → ℕ) (xs : List X) (place i : ℕ) (s : Stands next f xs place) → i < length xs → IsPlace next (length xs) i place
      → (m : Member X) (front back : List (Member X)) → IsAt (order_from next f xs) i m front back → SameSplit s.front (member s.item (f place)) s.back front m back
  is_that next f xs place i s lt here m front back at =
      let same = turn_is next (length xs) i (length s.front) place lt (front_short next f xs place s) here s.here in
      let long = at.at in
      same_split s.front (member s.item (f place)) s.back front m back (sym s.was ∙ at.was) (omega (arith, same, long))

  -- ---- one more member

  pub joined : (next place size : ℕ) (f g : ℕ → ℕ) (xs : List X) (x : X) → next ≤ length xs → place ≤ length xs → length xs < size
      → ((next ≡ 0) × (place ≡ length xs)) ⊎ (place ≡ next) → Inserts f g place size
      → order_from (place + 1) g (insert xs place x) ≡ order_from next f xs ++ record { item = x; awake = true } ∷ []
  joined next place size f g xs x most within room end ins =
      let a = take place xs in
      let b = drop place xs in
      let la : length a ≡ place = length-take-le place xs within in
      let lb = length-drop place xs in
      let lm = members_length 0 f xs in
      let one : members_from 0 g a ≡ members_from 0 f a = members_alike g f a (λ k lt. ins.before k (omega (arith, lt, la))) in
      let two : members_from (length a + 1) g b ≡ members_from (length a) f b =
      members_same (length a + 1) (length a) g f b (λ k lt. ap g (omega arith) ∙ ins.behind (length a + k) (omega (arith, la)) (omega (arith, lt, la, lb, room, within))) in
      let bit : g (length a) ≡ 1 = ap g la ∙ ins.there in
      let parts : members_from 0 f a ++ members_from (length a) f b ≡ members_from 0 f xs = sym (members_parts f a b) ∙ ap (members_from 0 f) (take-append-drop place xs) in
      let lma : length (members_from 0 f a) ≡ place = members_length 0 f a ∙ la in
      let new : Member X = record { item = x; awake = true } in
      let fa : take place (members_from 0 f xs) ≡ members_from 0 f a = ap (take place) (sym parts) ∙ take_at (members_from 0 f a) (members_from (length a) f b) place lma in
      let fb : drop place (members_from 0 f xs) ≡ members_from (length a) f b = ap (drop place) (sym parts) ∙ drop_at (members_from 0 f a) (members_from (length a) f b) place lma in
      ap (turned (place + 1)) (members_at g a x b ∙ cc (one, two, bit, fa, fb))
      ∙ comes_last next place (members_from 0 f xs) new (omega (arith, most, lm)) (subst (λ (n : ℕ). ((next ≡ 0) × (place ≡ n)) ⊎ (place ≡ next)) (sym lm) end)

  -- ---- who is nobody's

  pub none_pass : (test : X → Bool) (from : ℕ) (bit : ℕ → ℕ) (xs : List X) → ((i : ℕ) → FailsAt test xs i) → NonePass test (members_from from bit xs)
  none_pass test from bit [] none = tt
  none_pass test from bit (x ∷ xs) none = (none 0 x (omega arith), none_pass test (from + 1) bit xs (λ i d lt. none (suc i) d (omega (arith, lt))))

  none_both : (test : X → Bool) (ms ns : List (Member X)) → NonePass test ms → NonePass test ns → NonePass test (ms ++ ns)
  none_both test [] ns a b = b
  none_both test (m ∷ ms) ns a b = (a.0, none_both test ms ns a.1 b)

  none_in : (test : X → Bool) (ms ns : List (Member X)) → NonePass test (ms ++ ns) → NonePass test ms × NonePass test ns
  none_in test [] ns a = (tt, a)
  none_in test (m ∷ ms) ns a = let both = none_in test ms ns a.1 in ((a.0, both.0), both.1)

  pub none_turned : (test : X → Bool) (next : ℕ) (ms : List (Member X)) → NonePass test ms → NonePass test (turned next ms)
  none_turned test next ms a =
      let both = none_in test (take next ms) (drop next ms) (subst (λ (ns : List (Member X)). NonePass test ns) (sym (take-append-drop next ms)) a) in
      none_both test (drop next ms) (take next ms) both.1 both.0

  -- ---- who sleeps

  -- whether the member whose turn is after those of `i` others is awake
  abbrev pub awake_at : List (Member X) → ℕ → Bool
  awake_at [] i = false
  awake_at (m ∷ ms) zero = m.awake
  awake_at (m ∷ ms) (suc i) = awake_at ms i

  awake_here : (front : List (Member X)) (m : Member X) (back : List (Member X)) → awake_at (front ++ m ∷ back) (length front) ≡ m.awake
  awake_here [] m back = refl
  awake_here (x ∷ front) m back = awake_here front m back

  awake_front : (front back : List (Member X)) (k : ℕ) → k < length front → awake_at (front ++ back) k ≡ awake_at front k
  awake_front [] back k lt = absurd (omega (arith, lt))
  awake_front (m ∷ front) back zero lt = refl
  awake_front (m ∷ front) back (suc k) lt = awake_front front back k (omega (arith, lt))

  pub all_asleep : (from : ℕ) (ms : List (Member X)) → ((k : ℕ) → from ≤ k → k < length ms → awake_at ms k ≡ false) → AllAsleep (drop from ms)
  all_asleep zero [] each = tt
  all_asleep (suc from) [] each = tt
  all_asleep zero (m ∷ ms) each = (each 0 (omega arith) (omega arith), all_asleep zero ms (λ k le lt. each (suc k) (omega arith) (omega (arith, lt))))
  all_asleep (suc from) (m ∷ ms) each = all_asleep from ms (λ k le lt. each (suc k) (omega (arith, le)) (omega (arith, lt)))

  -- a member whose bit is 0 sleeps
  pub asleep_at : (next : ℕ) (f : ℕ → ℕ) (xs : List X) (k place : ℕ) → next ≤ length xs → k < length xs → place < length xs → IsPlace next (length xs) k place
      → f place ≡ 0 → awake_at (order_from next f xs) k ≡ false
  asleep_at next f xs k place most lt within here bit =
      let s = stands next f xs place most within in
      let same = turn_is next (length xs) k (length s.front) place lt (front_short next f xs place s) here s.here in
      ap (λ (ms : List (Member X)). awake_at ms k) s.was ∙ ap (awake_at (s.front ++ member s.item (f place) ∷ s.back)) same
      ∙ awake_here s.front (member s.item (f place)) s.back ∙ ap (λ (n : ℕ). n == 1) bit

  pub next_is : (next : ℕ) (f : ℕ → ℕ) (xs : List X) (from i : ℕ) → next ≤ length xs → i < length xs → from ≤ i
      → ((place : ℕ) → place < length xs → IsPlace next (length xs) i place → f place ≡ 1)
      → ((k place : ℕ) → from ≤ k → k < i → place < length xs → IsPlace next (length xs) k place → f place ≡ 0)
      → IsNextAwake (order_from next f xs) from i
  next_is next f xs from i most lt le there before =
      let (place, within, here) = has_place next (length xs) i most lt in
      let s = stands next f xs place most within in
      let same = turn_is next (length xs) i (length s.front) place lt (front_short next f xs place s) here s.here in
      let up : f place ≡ 1 = there place within here in
      record {
        least = le;
        item = s.item;
        front = s.front;
        back = s.back;
        here = record {
          was = s.was ∙ ap (λ (n : ℕ). s.front ++ member s.item n ∷ s.back) up;
          at = sym same;
        };
        before = all_asleep from s.front (λ k ge less.
            let short : k < i = omega (arith, less, same) in
            let (p, inside, at) = has_place next (length xs) k most (omega (arith, short, lt)) in
            sym (awake_front s.front (member s.item (f place) ∷ s.back) k less) ∙ ap (λ (ms : List (Member X)). awake_at ms k) (sym s.was)
            ∙ asleep_at next f xs k p most (omega (arith, short, lt)) inside at (before k p ge short inside at));
      }

  pub none_awake : (next : ℕ) (f : ℕ → ℕ) (xs : List X) (from : ℕ) → next ≤ length xs
      → ((k place : ℕ) → from ≤ k → k < length xs → place < length xs → IsPlace next (length xs) k place → f place ≡ 0) → AllAsleep (drop from (order_from next f xs))
  none_awake next f xs from most none =
      let long = order_length next f xs in
      all_asleep from (order_from next f xs) (λ k ge less.
      let lt : k < length xs = omega (arith, less, long) in
      let (p, inside, at) = has_place next (length xs) k most lt in
      asleep_at next f xs k p most lt inside at (none k p ge lt inside at))

  -- ---- what the calls do

  -- a line, and whoever stands `i`-th in it
  module _ (next : ℕ) (f : ℕ → ℕ) (xs : List X) (old : List (Member X)) (was : old ≡ order_from next f xs) (most : next ≤ length xs) where
    that : (i place : ℕ) → (within : place < length xs) → i < length xs → IsPlace next (length xs) i place → (m : Member X) (front back : List (Member X)) → IsAt old i m front back
        → let s = stands next f xs place most within in SameSplit s.front (member s.item (f place)) s.back front m back
    that i place within lt here m front back at =
        is_that next f xs place i (stands next f xs place most within) lt here m front back (subst (λ (ms : List (Member X)). IsAt ms i m front back) was at)

    pub item_is : (i place : ℕ) → place < length xs → i < length xs → IsPlace next (length xs) i place → (m : Member X) (front back : List (Member X)) → IsAt old i m front back
        → (d : X) → get_or xs place d ≡ m.item
    item_is i place within lt here m front back at d =
        let s = stands next f xs place most within in
        s.at d ∙ ap (λ (y : Member X). y.item) (that i place within lt here m front back at).here

    pub goes_last : (i place : ℕ) → place < length xs → i < length xs → IsPlace next (length xs) i place → GoesLast i old (order_from (place + 1) f xs)
    goes_last i place within lt here m front back at =
        let s = stands next f xs place most within in
        let same = that i place within lt here m front back at in
        let one = same.front in
        let two = same.here in
        let three = same.back in
        s.last ∙ cc (one, two, three)

    pub falls_asleep : (i place : ℕ) (g : ℕ → ℕ) → place < length xs → i < length xs → IsPlace next (length xs) i place → Differs f g place 0 → FallsAsleep i old (order_from next g xs)
    falls_asleep i place g within lt here d m front back at =
        let s = stands next f xs place most within in
        let same = that i place within lt here m front back at in
        let one = same.front in
        let two = ap (λ (y : Member X). y.item) same.here in
        let three = same.back in
        s.changed g 0 d ∙ cc (one, two, three)

    pub loses_one : (test : X → Bool) (place now : ℕ) (g : ℕ → ℕ) (ys : List X) → place < length xs → ((d : X) → test (get_or xs place d) ≡ true) → ys ≡ remove xs place
        → Removes f g place → IsNextWithout place next now → Loses test old (order_from now g ys)
    loses_one test place now g ys within passes is r w =
        let s = stands next f xs place most within in
        inl (record {
          gone = member s.item (f place);
          passes = ap test (sym (s.at s.item)) ∙ passes s.item;
          front = s.front;
          back = s.back;
          was = was ∙ s.was;
          now = ap (order_from now g) is ∙ s.left g now r w;
        })

    pub wakes_one : (test : X → Bool) (place : ℕ) (g : ℕ → ℕ) → place < length xs → ((d : X) → test (get_or xs place d) ≡ true) → Differs f g place 1
        → Wakes test old (order_from next g xs)
    wakes_one test place g within passes d =
        let s = stands next f xs place most within in
        inl (record {
          woken = member s.item (f place);
          passes = ap test (sym (s.at s.item)) ∙ passes s.item;
          front = s.front;
          back = s.back;
          was = was ∙ s.was;
          now = s.changed g 1 d;
        })

    pub nobody : (test : X → Bool) → ((i : ℕ) → FailsAt test xs i) → NonePass test old
    nobody test none = subst (λ (ms : List (Member X)). NonePass test ms) (sym was) (none_turned test next (members_from 0 f xs) (none_pass test 0 f xs none))

    pub next_one : (from i : ℕ) → i < length xs → from ≤ i
        → ((place : ℕ) → place < length xs → IsPlace next (length xs) i place → f place ≡ 1)
        → ((k place : ℕ) → from ≤ k → k < i → place < length xs → IsPlace next (length xs) k place → f place ≡ 0)
        → IsNextAwake old from i
    next_one from i lt le there before = subst (λ (ms : List (Member X)). IsNextAwake ms from i) (sym was) (next_is next f xs from i most lt le there before)

    pub no_next : (from : ℕ) → ((k place : ℕ) → from ≤ k → k < length xs → place < length xs → IsPlace next (length xs) k place → f place ≡ 0) → AllAsleep (drop from old)
    no_next from none = subst (λ (ms : List (Member X)). AllAsleep (drop from ms)) (sym was) (none_awake next f xs from most none)

    -- what a search for the next turn finds
    module _ (from count : ℕ) (is : count ≡ length xs) where
      pub if_next : (r : Option ℕ) → IfSome r (λ i. i < count) → IfSome r (λ i. from ≤ i)
          → IfSome r (λ i. (place : ℕ) → place < count → IsPlace next count i place → f place ≡ 1)
          → IfSome r (λ i. (k place : ℕ) → from ≤ k → k < i → place < count → IsPlace next count k place → f place ≡ 0)
          → IfSome r (λ i. IsNextAwake old from i)
      if_next None within least there before = tt
      if_next (Some i) within least there before =
          next_one from i (omega (arith, within, is)) least (subst (λ (n : ℕ). (place : ℕ) → place < n → IsPlace next n i place → f place ≡ 1) is there)
          (subst (λ (n : ℕ). (k place : ℕ) → from ≤ k → k < i → place < n → IsPlace next n k place → f place ≡ 0) is before)

      pub if_none : (r : Option ℕ) → IfNone r ((k place : ℕ) → from ≤ k → k < count → place < count → IsPlace next count k place → f place ≡ 0)
          → IfNone r (AllAsleep (drop from old))
      if_none None none = no_next from (subst (λ (n : ℕ). (k place : ℕ) → from ≤ k → k < n → place < n → IsPlace next n k place → f place ≡ 0) is none)
      if_none (Some i) none = tt
