-- Counts of what consumers hold, at each change.
use Rattle.channels.proofs.Imports.{◌≡◌, ℕ, zero, suc, ◌+◌, ◌<◌, List, [], ◌∷◌, ◌++◌, length, get_or, map, find, refl, sym, ap, ◌∙◌, arith, Bool, true, false, cond, not, Option, Some, None, All, count_by-le-length, length-map, takes, is_refused, kept, is_to, count_to, count_given, Taker, tag_of, taker_of, consumers_of, counts_of, is_numbered, counted_in, counted_out, may_held, taker_held, AreParts, Get, NoneAbove, number_given, subst, ne_eqb, may_of, taker_among, Delivery, Consumer, CountedConsumer}
use Rattle.std.proofs.Common.{filter, count_by}
use Rattle.std.specs.Prelude.{◌==◌, max}
use Rattle.model.specs.declared.messages.Taker.TheVariants.{Consumer as To_consumer}
use Rattle.std.proofs.Math.ListN as numbered
use Rattle.std.proofs.lemmas.List.Filters.{sum_by-filter_both}
use Rattle.std.proofs.lemmas.List.Sums.{sum_by_push}
use Rattle.channels.proofs.Settlement.{taken_by}

-- ---- counts of a list in two parts

-- what a tag settles, and what stays
pub taken_parts : (os : List Delivery) (tag : ℕ) (multiple : Bool) → AreParts os (taken_by tag multiple os) (kept tag_of tag multiple os)
taken_parts os tag multiple p = go (is_refused tag_of tag multiple os)
  where
    t : Delivery → Bool
    t = takes tag_of tag multiple

    go : (b : Bool) → count_by p os ≡ count_by p (cond b [] (filter t os)) + count_by p (cond b os (filter (λ o. not (t o)) os))
    go true = omega arith
    go false = sym (sum_by-filter_both t (λ o. not (t o)) (λ o. refl) (λ o. cond (p o) 1 0) os)

-- ---- consumers with their counts

abbrev counts : List Consumer → List Delivery → List ℕ
counts consumers given = map (λ (c : Consumer). count_to taker_of c.number given) consumers

-- the consumers stay where each count is changed
pub same_consumers : (f : CountedConsumer → CountedConsumer) → ((s : CountedConsumer) → (f s).consumer ≡ s.consumer) → (consumers : List CountedConsumer) → consumers_of (map f consumers) ≡ consumers_of consumers
same_consumers f same [] = refl
same_consumers f same (s ∷ ss) = ap (λ (c : Consumer). c ∷ consumers_of (map f ss)) (same s) ∙ ap (λ (cs : List Consumer). s.consumer ∷ cs) (same_consumers f same ss)

pub head_is : (x y : ℕ) (xs ys : List ℕ) → x ∷ xs ≡ y ∷ ys → x ≡ y
head_is x y xs ys e = cc

pub tail_is : (x y : ℕ) (xs ys : List ℕ) → x ∷ xs ≡ y ∷ ys → xs ≡ ys
tail_is x y xs ys e = cc

-- each count is changed as what is outstanding changes
pub new_counts : (f : CountedConsumer → CountedConsumer) (old new : List Delivery) → ((s : CountedConsumer) → s.held ≡ count_to taker_of s.consumer.number old → (f s).held ≡ count_to taker_of s.consumer.number new)
    → (consumers : List CountedConsumer) → counts_of consumers ≡ counts (consumers_of consumers) old → counts_of (map f consumers) ≡ counts (consumers_of consumers) new
new_counts f old new step [] h = refl
new_counts f old new step (s ∷ ss) h =
    ap (λ (n : ℕ). n ∷ counts_of (map f ss)) (step s (head_is _ _ _ _ h))
    ∙ ap (λ (ns : List ℕ). count_to taker_of s.consumer.number new ∷ ns) (new_counts f old new step ss (tail_is _ _ _ _ h))

pub in_consumer : (by : Taker) (s : CountedConsumer) → (counted_in by s).consumer ≡ s.consumer
in_consumer by s = go (is_to s.consumer.number by)
  where
    go : (b : Bool) → (cond b (record s { held = s.held + 1 }) s).consumer ≡ s.consumer
    go true = refl
    go false = refl

pub in_held : (by : Taker) (s : CountedConsumer) → (counted_in by s).held ≡ s.held + cond (is_to s.consumer.number by) 1 0
in_held by s = go (is_to s.consumer.number by)
  where
    go : (b : Bool) → (cond b (record s { held = s.held + 1 }) s).held ≡ s.held + cond b 1 0
    go true = refl
    go false = omega arith

pub one_more : (p : Delivery → Bool) (os : List Delivery) (o : Delivery) → count_by p (os ++ o ∷ []) ≡ count_by p os + cond (p o) 1 0
one_more p os o = sum_by_push (λ x. cond (p x) 1 0) os o

pub step_in : (by : Taker) (os : List Delivery) (o : Delivery) → o.by ≡ by → (s : CountedConsumer) → s.held ≡ count_to taker_of s.consumer.number os → (counted_in by s).held ≡ count_to taker_of s.consumer.number (os ++ o ∷ [])
step_in by os o e s h =
    in_held by s
    ∙ ap (λ (n : ℕ). n + cond (is_to s.consumer.number by) 1 0) h
    ∙ ap (λ (t : Taker). count_to taker_of s.consumer.number os + cond (is_to s.consumer.number t) 1 0) (sym e)
    ∙ sym (one_more (λ x. is_to s.consumer.number (taker_of x)) os o)

pub step_out : (given gone left : List Delivery) → AreParts given gone left → (s : CountedConsumer) → s.held ≡ count_to taker_of s.consumer.number given → (counted_out gone s).held ≡ count_to taker_of s.consumer.number left
step_out given gone left parts s h = let p = parts (λ x. is_to s.consumer.number (taker_of x)) in omega arith

-- some are taken out
pub counts_filtered : (p : CountedConsumer → Bool) (consumers : List CountedConsumer) (given : List Delivery) → counts_of consumers ≡ counts (consumers_of consumers) given → counts_of (filter p consumers) ≡ counts (consumers_of (filter p consumers)) given
counts_filtered p [] given h = refl
counts_filtered p (s ∷ ss) given h = go (p s) (counts_filtered p ss given (tail_is _ _ _ _ h))
  where
    go : (b : Bool) → counts_of (filter p ss) ≡ counts (consumers_of (filter p ss)) given → counts_of (cond b (s ∷ filter p ss) (filter p ss)) ≡ counts (consumers_of (cond b (s ∷ filter p ss) (filter p ss))) given
    go true e = ap (λ (n : ℕ). n ∷ counts_of (filter p ss)) (head_is _ _ _ _ h) ∙ ap (λ (ns : List ℕ). count_to taker_of s.consumer.number given ∷ ns) e
    go false e = e

-- what is told of the consumer of a number is told by its kept count as by what is outstanding
same_of_found : {A : Type 0} (of_counted : Option CountedConsumer → A) (of_consumer : Option Consumer → A) (number : ℕ) (consumers : List CountedConsumer) (os : List Delivery) → of_counted None ≡ of_consumer None
    → ((s : CountedConsumer) → s.held ≡ count_to taker_of s.consumer.number os → of_counted (Some s) ≡ of_consumer (Some s.consumer)) → counts_of consumers ≡ counts (consumers_of consumers) os
    → of_counted (find (is_numbered number) consumers) ≡ of_consumer (find (λ (c : Consumer). c.number == number) (consumers_of consumers))
same_of_found of_counted of_consumer number [] os none some h = none
same_of_found of_counted of_consumer number (s ∷ ss) os none some h = go (s.consumer.number == number) (same_of_found of_counted of_consumer number ss os none some (tail_is _ _ _ _ h))
  where
    go : (b : Bool) → of_counted (find (is_numbered number) ss) ≡ of_consumer (find (λ (c : Consumer). c.number == number) (consumers_of ss))
        → of_counted (cond b (Some s) (find (is_numbered number) ss)) ≡ of_consumer (cond b (Some s.consumer) (find (λ (c : Consumer). c.number == number) (consumers_of ss)))
    go true e = some s (head_is _ _ _ _ h)
    go false e = e

-- by its kept counts a consumer may take what it may by what is outstanding
pub may_kept : (limit given number : ℕ) (consumers : List CountedConsumer) (os : List Delivery) → counts_of consumers ≡ counts (consumers_of consumers) os → given ≡ count_given taker_of os
    → may_held limit given (find (is_numbered number) consumers) ≡ may_of limit os (find (λ (c : Consumer). c.number == number) (consumers_of consumers))
may_kept limit given number consumers os h g = same_of_found (may_held limit given) (may_of limit os) number consumers os refl (λ s e. rw (e, g) refl) h

-- then it is returned if it may
pub taker_kept : (limit given number : ℕ) (consumers : List CountedConsumer) (os : List Delivery) → counts_of consumers ≡ counts (consumers_of consumers) os → given ≡ count_given taker_of os
    → taker_held limit given (find (is_numbered number) consumers) ≡ taker_among limit os (find (λ (c : Consumer). c.number == number) (consumers_of consumers))
taker_kept limit given number consumers os h g = same_of_found (taker_held limit given) (taker_among limit os) number consumers os refl (λ s e. rw (e, g) refl) h

-- no count is above what is outstanding
pub counts_small : (n : ℕ) (consumers : List Consumer) (os : List Delivery) → length os < n → All (λ k. k < n) (counts consumers os)
counts_small n [] os h k d lt = absurd (omega arith)
counts_small n (c ∷ cs) os h zero d lt = let m = count_by-le-length (λ x. is_to c.number (taker_of x)) os in omega arith
counts_small n (c ∷ cs) os h (suc k) d lt = counts_small n cs os h k d (omega arith)

pub held_small : (n : ℕ) (consumers : List CountedConsumer) → All (λ k. k < n) (counts_of consumers) → All (λ (s : CountedConsumer). s.held < n) consumers
held_small n consumers h k d lt =
    let long : length (counts_of consumers) ≡ length consumers = length-map consumers (λ (s : CountedConsumer). s.held) in
    let there : get_or (counts_of consumers) k d.held ≡ (get_or consumers k d).held = numbered.get_or-map (λ (s : CountedConsumer). s.held) consumers k d in
    let less = h k d.held (omega (arith, long, lt)) in
    omega (arith, less, there)

-- ---- who was given nothing

not_to : (number : ℕ) (by : Taker) → number_given by < number → is_to number by ≡ false
not_to number Get less = refl
not_to number (To_consumer n) less = ne_eqb n number (λ e. absurd (omega arith))

-- what was given to others counts for nobody of a greater number
pub none_above_give : (most : ℕ) (os : List Delivery) (o : Delivery) → NoneAbove most os → NoneAbove (max most (number_given o.by)) (os ++ o ∷ [])
none_above_give most os o none number more = go o.by refl
  where
    go : (by : Taker) → o.by ≡ by → count_to taker_of number (os ++ o ∷ []) ≡ 0
    go by e = let was = none number (omega arith) in let one = one_more (λ x. is_to number (taker_of x)) os o in let not_its = not_to number by (subst (λ (t : Taker). number_given t < number) e (omega arith)) in
        one ∙ ap (λ (t : Taker). count_to taker_of number os + cond (is_to number t) 1 0) e ∙ ap (λ (b : Bool). count_to taker_of number os + cond b 1 0) not_its ∙ (omega arith)

pub none_above_kept : (most : ℕ) (os : List Delivery) (tag : ℕ) (multiple : Bool) → NoneAbove most os → NoneAbove most (kept tag_of tag multiple os)
none_above_kept most os tag multiple none number more = let was = none number more in let parts = taken_parts os tag multiple (λ o. is_to number (taker_of o)) in omega arith
