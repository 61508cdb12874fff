-- A consumer is found by its number, since numbers rise: what is changed there alone is changed at each consumer with that number.
use Rattle.channels.proofs.Imports.{◌≡◌, ℕ, zero, suc, ◌+◌, ◌-◌, ◌<◌, List, [], ◌∷◌, ◌++◌, length, get_or, set, map, take, append-nil, find, refl, sym, ap, ◌∙◌, arith, Bool, true, false, cond, Option, Some, None, AllByRecursion, position_from, ne_eqb, is_to, count_to, filter_more, taker_of, is_waiting, waiting, consumers_of, is_numbered, counted_in, counted_out, uncounted, AreNumbered, Consumer, CountedConsumer, Delivery}
use Rattle.std.proofs.lemmas.Bool.{eq-eqb}
use Rattle.std.proofs.lemmas.List.Folds.{map_fixed}
use Rattle.model.specs.declared.messages.Taker.TheVariants as taker
use Rattle.channels.proofs.Counting.{one_more}

-- ---- the only consumer with a number

above_at : (m : ℕ) (xs : List CountedConsumer) (i : ℕ) (d : CountedConsumer) → AllByRecursion (λ (c : Consumer). m < c.number) (consumers_of xs) → i < length xs → m < (get_or xs i d).consumer.number
above_at m [] i d all lt = absurd (omega arith)
above_at m (x ∷ xs) zero d all lt = all.0
above_at m (x ∷ xs) (suc i) d all lt = above_at m xs i d all.1 (omega arith)

-- it is the first of its number
pub find_at : (n next : ℕ) (xs : List CountedConsumer) (i : ℕ) (d : CountedConsumer) → AreNumbered next (consumers_of xs) → i < length xs → (get_or xs i d).consumer.number ≡ n → find (is_numbered n) xs ≡ Some (get_or xs i d)
find_at n next [] i d rise lt e = absurd (omega arith)
find_at n next (x ∷ xs) zero d rise lt e = ap (λ (b : Bool). cond b (Some x) (find (is_numbered n) xs)) (eq-eqb x.consumer.number n e)
find_at n next (x ∷ xs) (suc i) d rise lt e =
    let more = above_at x.consumer.number xs i d rise.1.0 (omega arith) in
    ap (λ (b : Bool). cond b (Some x) (find (is_numbered n) xs)) (ne_eqb x.consumer.number n (λ same. omega arith)) ∙ find_at n next xs i d rise.1.1 (omega arith) e

-- ---- a change of one number

-- of greater numbers nothing is changed
above_same : (g : CountedConsumer → CountedConsumer) (n : ℕ) (xs : List CountedConsumer) → ((s : CountedConsumer) → (s.consumer.number ≡ n → ⊥) → g s ≡ s) → AllByRecursion (λ (c : Consumer). n < c.number) (consumers_of xs) → map g xs ≡ xs
above_same g n [] other all = refl
above_same g n (x ∷ xs) other all =
    ap (λ (y : CountedConsumer). y ∷ map g xs) (other x (λ same. let more = all.0 in omega arith)) ∙ ap (λ (ys : List CountedConsumer). x ∷ ys) (above_same g n xs other all.1)

pub changed_once : (g : CountedConsumer → CountedConsumer) (n next : ℕ) (xs : List CountedConsumer) (i : ℕ) (d : CountedConsumer) → ((s : CountedConsumer) → (s.consumer.number ≡ n → ⊥) → g s ≡ s)
    → AreNumbered next (consumers_of xs) → i < length xs → (get_or xs i d).consumer.number ≡ n → map g xs ≡ set xs i (g (get_or xs i d))
changed_once g n next [] i d other rise lt e = absurd (omega arith)
changed_once g n next (x ∷ xs) zero d other rise lt e =
    ap (λ (ys : List CountedConsumer). g x ∷ ys) (above_same g x.consumer.number xs (λ s ne. other s (λ same. ne (same ∙ sym e))) rise.1.0)
changed_once g n next (x ∷ xs) (suc i) d other rise lt e =
    let more = above_at x.consumer.number xs i d rise.1.0 (omega arith) in
    ap (λ (y : CountedConsumer). y ∷ map g xs) (other x (λ same. omega arith)) ∙ ap (λ (ys : List CountedConsumer). x ∷ ys) (changed_once g n next xs i d other rise.1.1 (omega arith) e)

-- where there is none of it, nothing is changed
pub changed_none : (g : CountedConsumer → CountedConsumer) (n : ℕ) (xs : List CountedConsumer) → ((s : CountedConsumer) → (s.consumer.number ≡ n → ⊥) → g s ≡ s) → find (is_numbered n) xs ≡ None → map g xs ≡ xs
changed_none g n [] other none = refl
changed_none g n (x ∷ xs) other none = go (is_numbered n x) refl none (changed_none g n xs other)
  where
    distinct : is_numbered n x ≡ false → x.consumer.number ≡ n → ⊥
    distinct not same = let yes : is_numbered n x ≡ true = eq-eqb x.consumer.number n same in let f : false ≡ true = sym not ∙ yes in absurd (cc)

    go : (b : Bool) → is_numbered n x ≡ b → cond b (Some x) (find (is_numbered n) xs) ≡ None → (find (is_numbered n) xs ≡ None → map g xs ≡ xs) → g x ∷ map g xs ≡ x ∷ xs
    go true is none rest = absurd (cc)
    go false is none rest = ap (λ (y : CountedConsumer). y ∷ map g xs) (other x (distinct is)) ∙ ap (λ (ys : List CountedConsumer). x ∷ ys) (rest none)

-- ---- counts

-- of another number
pub in_other : (n : ℕ) (s : CountedConsumer) → (s.consumer.number ≡ n → ⊥) → counted_in (taker.Consumer n) s ≡ s
in_other n s ne = ap (λ (b : Bool). cond b (record s { held = s.held + 1 }) s) (ne_eqb n s.consumer.number (λ same. ne (sym same)))

pub out_other : (n : ℕ) (s : CountedConsumer) → (s.consumer.number ≡ n → ⊥) → uncounted (taker.Consumer n) s ≡ s
out_other n s ne = ap (λ (b : Bool). cond b (record s { held = s.held - 1 }) s) (ne_eqb n s.consumer.number (λ same. ne (sym same)))

-- of this number
pub in_here : (n : ℕ) (s : CountedConsumer) → s.consumer.number ≡ n → counted_in (taker.Consumer n) s ≡ record s { held = s.held + 1 }
in_here n s e = ap (λ (b : Bool). cond b (record s { held = s.held + 1 }) s) (eq-eqb n s.consumer.number (sym e))

pub out_here : (n : ℕ) (s : CountedConsumer) → s.consumer.number ≡ n → uncounted (taker.Consumer n) s ≡ record s { held = s.held - 1 }
out_here n s e = ap (λ (b : Bool). cond b (record s { held = s.held - 1 }) s) (eq-eqb n s.consumer.number (sym e))

-- ---- one settled after others

out_one : (done : List Delivery) (o : Delivery) (s : CountedConsumer) → uncounted o.by (counted_out done s) ≡ counted_out (done ++ o ∷ []) s
out_one done o s = go (is_to s.consumer.number o.by) (one_more (λ x. is_to s.consumer.number (taker_of x)) done o)
  where
    go : (b : Bool) → count_to taker_of s.consumer.number (done ++ o ∷ []) ≡ count_to taker_of s.consumer.number done + cond b 1 0
        → cond b (record s { held = (s.held - count_to taker_of s.consumer.number done) - 1 }) (record s { held = s.held - count_to taker_of s.consumer.number done })
        ≡ record s { held = s.held - count_to taker_of s.consumer.number (done ++ o ∷ []) }
    go true e = ap (λ (h : ℕ). record s { held = h }) (omega arith)
    go false e = ap (λ (h : ℕ). record s { held = h }) (omega arith)

pub out_next : (done : List Delivery) (o : Delivery) (xs : List CountedConsumer) → map (uncounted o.by) (map (counted_out done) xs) ≡ map (counted_out (done ++ o ∷ [])) xs
out_next done o [] = refl
out_next done o (x ∷ xs) = ap (λ (y : CountedConsumer). y ∷ map (uncounted o.by) (map (counted_out done) xs)) (out_one done o x) ∙ ap (λ (ys : List CountedConsumer). counted_out (done ++ o ∷ []) x ∷ ys) (out_next done o xs)

-- where it waited
pub out_waiting : (gone : List Delivery) (i : ℕ) (x d : Delivery) (first consumers new : List CountedConsumer) → i < length gone → x ≡ get_or gone i d → consumers ≡ map (counted_out (waiting (take i gone))) first
    → (is_waiting x ≡ true → new ≡ map (uncounted x.by) consumers) → (is_waiting x ≡ false → new ≡ consumers) → new ≡ map (counted_out (waiting (take (i + 1) gone))) first
out_waiting gone i x d first consumers new lt is was counts stays = go (is_waiting x) refl
  where
    more : (b : Bool) → is_waiting x ≡ b → waiting (take (i + 1) gone) ≡ waiting (take i gone) ++ cond b (x ∷ []) []
    more b e =
        filter_more is_waiting gone i d lt ∙ ap (λ (o : Delivery). waiting (take i gone) ++ cond (is_waiting o) (o ∷ []) []) (sym is)
        ∙ ap (λ (t : Bool). waiting (take i gone) ++ cond t (x ∷ []) []) e

    go : (b : Bool) → is_waiting x ≡ b → new ≡ map (counted_out (waiting (take (i + 1) gone))) first
    go true e = counts e ∙ ap (map (uncounted x.by)) was ∙ out_next (waiting (take i gone)) x first ∙ ap (λ (os : List Delivery). map (counted_out os) first) (sym (more true e))
    go false e = stays e ∙ was ∙ ap (λ (os : List Delivery). map (counted_out os) first) (sym (more false e ∙ append-nil (waiting (take i gone))))

-- none is settled at first
nothing_out : (s : CountedConsumer) → counted_out [] s ≡ s
nothing_out s = ap (λ (h : ℕ). record s { held = h }) (omega arith)

pub out_none : (xs : List CountedConsumer) → map (counted_out []) xs ≡ xs
out_none xs = map_fixed (counted_out []) xs (λ k d lt. nothing_out (get_or xs k d))

-- ---- none is found

pub none_found : (p : CountedConsumer → Bool) (k : ℕ) (xs : List CountedConsumer) → ◌≡◌ {A = Option ℕ} (position_from p k xs) None → ◌≡◌ {A = Option CountedConsumer} (find p xs) None
none_found p k [] e = refl
none_found p k (x ∷ xs) e = go (p x) e (none_found p (k + 1) xs)
  where
    go : (b : Bool) → ◌≡◌ {A = Option ℕ} (cond b (Some k) (position_from p (k + 1) xs)) None → (◌≡◌ {A = Option ℕ} (position_from p (k + 1) xs) None → ◌≡◌ {A = Option CountedConsumer} (find p xs) None)
        → ◌≡◌ {A = Option CountedConsumer} (cond b (Some x) (find p xs)) None
    go true e rest = absurd (cc)
    go false e rest = rest e
