-- Lists that begin at one of their indices: where an element comes in the order, and what becomes of the order.
use Rattle.std.proofs.Common.{◌≡◌, ◌⊎◌, ◌<◌, ◌≤◌, ◌+◌, ◌-◌, ◌++◌, ◌∙◌, ℕ, zero, suc, List, [], ◌∷◌, length, take, drop, get_or, inl, inr, refl, sym, ap, subst, arith}
use Rattle.std.specs.Prelude.{insert}
use Rattle.std.specs.List.{remove}
use Rattle.std.proofs.lemmas.Bool.Decides.{leb_tells}
use Rattle.std.proofs.lemmas.List.{append_assoc, append-nil, drop_all, drop_at, length-append, length-take-le, take-append-drop, take_all, take_at}
use Rattle.waiting_lines.specs.Order.{IsPlace, IsNextWithout, turned}

module _ {Y : Type 0} where
  pub turned_at : (xs ys : List Y) (n : ℕ) → length xs ≡ n → turned n (xs ++ ys) ≡ ys ++ xs
  turned_at xs ys n len = cc (drop_at xs ys n len, take_at xs ys n len)

  pub turned_length : (n : ℕ) (xs : List Y) → length (turned n xs) ≡ length xs
  turned_length n xs =
      let parts = ap (λ (ys : List Y). length ys) (take-append-drop n xs) in
      let one = length-append (take n xs) (drop n xs) in
      let two = length-append (drop n xs) (take n xs) in
      omega (arith, parts, one, two)

  -- the element at an index, and what is before and behind it
  pub record Splits (xs : List Y) (place : ℕ) : Type 0 where
    pub front : List Y
    pub here : Y
    pub back : List Y
    pub whole : xs ≡ front ++ here ∷ back
    pub long : length front ≡ place

  pub splits : (xs : List Y) (place : ℕ) → place < length xs → Splits xs place
  splits [] place lt = absurd (omega (arith, lt))
  splits (x ∷ xs) zero lt = record { front = []; here = x; back = xs; whole = refl; long = refl }
  splits (x ∷ xs) (suc place) lt =
      let s = splits xs place (omega (arith, lt)) in
      let long = s.long in
      record { front = x ∷ s.front; here = s.here; back = s.back; whole = ap (λ (ys : List Y). x ∷ ys) s.whole; long = omega (arith, long) }

  pub split_get : (a : List Y) (y d : Y) (b : List Y) → get_or (a ++ y ∷ b) (length a) d ≡ y
  split_get [] y d b = refl
  split_get (x ∷ a) y d b = split_get a y d b

  -- a list splits at an index in one way only
  pub record SameSplit (a : List Y) (x : Y) (b : List Y) (c : List Y) (y : Y) (d : List Y) : Type 0 where
    pub front : a ≡ c
    pub here : x ≡ y
    pub back : b ≡ d

  pub same_split : (a : List Y) (x : Y) (b : List Y) (c : List Y) (y : Y) (d : List Y) → a ++ x ∷ b ≡ c ++ y ∷ d → length a ≡ length c → SameSplit a x b c y d
  same_split [] x b [] y d e len = record {
    front = refl;
    here = ap (λ (ys : List Y). get_or ys 0 x) e;
    back = ap (λ (ys : List Y). drop 1 ys) e;
  }
  same_split [] x b (z ∷ c) y d e len = absurd (omega (arith, len))
  same_split (w ∷ a) x b [] y d e len = absurd (omega (arith, len))
  same_split (w ∷ a) x b (z ∷ c) y d e len =
      let first = ap (λ (ys : List Y). get_or ys 0 w) e in
      let rest = same_split a x b c y d (ap (λ (ys : List Y). drop 1 ys) e) (omega (arith, len)) in
      let front = rest.front in
      record { front = cc (first, front); here = rest.here; back = rest.back }

  -- Of the elements `a ++ y ∷ b`, whose order begins at index `next`: what is before and behind `y`, whatever `y` is, and what becomes of the order.
  pub record Seat (next : ℕ) (a b : List Y) : Type 0 where
    pub front : List Y
    pub back : List Y
    pub was : (y : Y) → turned next (a ++ y ∷ b) ≡ front ++ y ∷ back
    pub last : (y : Y) → turned (length a + 1) (a ++ y ∷ b) ≡ back ++ front ++ y ∷ []
    pub left : (now : ℕ) → IsNextWithout (length a) next now → turned now (a ++ b) ≡ front ++ back
    pub here : IsPlace next (length a + 1 + length b) (length front) (length a)

  -- the order begins at or before the element
  seat_behind : (f m b : List Y) → Seat (length f) (f ++ m) b
  seat_behind f m b = record {
    front = m;
    back = b ++ f;
    was = λ y. ap (turned (length f)) (append_assoc f m (y ∷ b)) ∙ turned_at f (m ++ y ∷ b) (length f) refl ∙ append_assoc m (y ∷ b) f;
    last = λ y.
        let more = length-append (f ++ m) (y ∷ []) in
        ap (turned (length (f ++ m) + 1)) (sym (append_assoc (f ++ m) (y ∷ []) b)) ∙ turned_at ((f ++ m) ++ y ∷ []) b (length (f ++ m) + 1) (omega (arith, more))
        ∙ sym (append_assoc b (f ++ m) (y ∷ [])) ∙ ap (λ (ys : List Y). ys ++ y ∷ []) (sym (append_assoc b f m));
    left = λ now w.
        let long = length-append f m in
        elim w [
          | inl g ↦ let less = g.0 in absurd (omega (arith, less, long))
          | inr g ↦ ap (λ (n : ℕ). turned n ((f ++ m) ++ b)) g.1 ∙ ap (turned (length f)) (append_assoc f m b) ∙ turned_at f (m ++ b) (length f) refl ∙ append_assoc m b f
        ];
    here = inl (let long = length-append f m in omega (arith, long));
  }

  -- the order begins behind the element
  seat_before : (a c d : List Y) → Seat (length a + 1 + length c) a (c ++ d)
  seat_before a c d = record {
    front = d ++ a;
    back = c;
    was = λ y.
        let more = length-append a (y ∷ c) in
        ap (turned (length a + 1 + length c)) (sym (append_assoc a (y ∷ c) d)) ∙ turned_at (a ++ y ∷ c) d (length a + 1 + length c) (omega (arith, more))
        ∙ sym (append_assoc d a (y ∷ c));
    last = λ y.
        let more = length-append a (y ∷ []) in
        ap (turned (length a + 1)) (sym (append_assoc a (y ∷ []) (c ++ d))) ∙ turned_at (a ++ y ∷ []) (c ++ d) (length a + 1) (omega (arith, more))
        ∙ sym (append_assoc (c ++ d) a (y ∷ [])) ∙ ap (λ (ys : List Y). ys ++ y ∷ []) (append_assoc c d a);
    left = λ now w. elim w [
      | inl g ↦
          let one = g.1 in
          let long = length-append a c in
          ap (turned now) (sym (append_assoc a c d)) ∙ turned_at (a ++ c) d now (omega (arith, one, long)) ∙ sym (append_assoc d a c)
      | inr g ↦ let le = g.0 in absurd (omega (arith, le))
    ];
    here = inr (let one = length-append d a in let two = length-append c d in omega (arith, one, two));
  }

  pub seat : (next : ℕ) (a b : List Y) → next ≤ length a + 1 + length b → Seat next a b
  seat next a b most = elim (leb_tells next (length a)) [
    | inl t ↦
        let size : length (take next a) ≡ next = length-take-le next a t.1 in
        let parts : take next a ++ drop next a ≡ a = take-append-drop next a in
        subst (λ (n : ℕ). Seat n a b) size (subst (λ (ys : List Y). Seat (length (take next a)) ys b) parts (seat_behind (take next a) (drop next a) b))
    | inr t ↦
        let less = t.1 in
        let j = next - (length a + 1) in
        let size : length (take j b) ≡ j = length-take-le j b (omega (arith, most, less)) in
        let sum : length a + 1 + length (take j b) ≡ next = omega (arith, size, less) in
        let parts : take j b ++ drop j b ≡ b = take-append-drop j b in
        subst (λ (n : ℕ). Seat n a b) sum (subst (λ (ys : List Y). Seat (length a + 1 + length (take j b)) a ys) parts (seat_before a (take j b) (drop j b)))
  ]

  -- the parts of an edited list
  pub insert_parts : (xs : List Y) (place : ℕ) (y : Y) → insert xs place y ≡ take place xs ++ y ∷ drop place xs
  insert_parts xs place y = refl

  pub remove_parts : (a : List Y) (y : Y) (b : List Y) → remove (a ++ y ∷ b) (length a) ≡ a ++ b
  remove_parts a y b =
      let more = length-append a (y ∷ []) in
      let one = take_at a (y ∷ b) (length a) refl in
      let two : drop (suc (length a)) (a ++ y ∷ b) ≡ b = ap (drop (suc (length a))) (sym (append_assoc a (y ∷ []) b)) ∙ drop_at (a ++ y ∷ []) b (suc (length a)) (omega (arith, more)) in
      cc (one, two)

  -- whoever comes in where the order begins is last in it
  pub comes_last : (next place : ℕ) (xs : List Y) (y : Y) → next ≤ length xs → ((next ≡ 0) × (place ≡ length xs)) ⊎ (place ≡ next)
      → turned (place + 1) (take place xs ++ y ∷ drop place xs) ≡ turned next xs ++ y ∷ []
  comes_last next place xs y le (inl w) =
      let at = w.1 in
      let nil : drop place xs ≡ [] = drop_all place xs (omega (arith, at)) in
      let all : take place xs ≡ xs = take_all place xs (omega (arith, at)) in
      let more = length-append xs (y ∷ []) in
      ap (turned (place + 1)) (cc (nil, all)) ∙ ap (turned (place + 1)) (sym (append-nil (xs ++ y ∷ []))) ∙ turned_at (xs ++ y ∷ []) [] (place + 1) (omega (arith, more, at))
      ∙ ap (λ (ys : List Y). ys ++ y ∷ []) (sym (append-nil xs) ∙ ap (λ (n : ℕ). turned n xs) (sym w.0))
  comes_last next place xs y le (inr w) =
      let size = length-take-le next xs le in
      let more = length-append (take next xs) (y ∷ []) in
      ap (λ (n : ℕ). turned (n + 1) (take n xs ++ y ∷ drop n xs)) w ∙ ap (turned (next + 1)) (sym (append_assoc (take next xs) (y ∷ []) (drop next xs)))
      ∙ turned_at (take next xs ++ y ∷ []) (drop next xs) (next + 1) (omega (arith, more, size)) ∙ sym (append_assoc (drop next xs) (take next xs) (y ∷ []))
