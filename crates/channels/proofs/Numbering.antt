-- Consumers by their numbers, and what they may be given.
use Rattle.channels.proofs.Imports.{◌≡◌, inl, inr, ℕ, ◌+◌, ◌<◌, List, [], ◌∷◌, ◌++◌, map, find, Bool, true, false, cond, Option, Some, None, refl, sym, ap, subst, ◌∙◌, arith, ◌||◌, is_some, IfSome, IsSome, AllByRecursion, eqb-true, ne_eqb, false≢true, Text, IsIn, is_to, is_delivery, is_below, count_to, count_given, has_tag_left, taker_of, consumers_of, is_numbered, AreNumbered, Given, may_of, taker_among, may_be_given, consumer_at, taker_at, Open, consumer_in, open_in, IsOne, IsTaker, HasNoTaker, ReturnsTaker, outstanding_in, Delivery, Consumer, CountedConsumer}
use Rattle.std.proofs.Common.{filter, count_by}
use Rattle.std.specs.Prelude.{◌==◌, ◌&&◌, option_map, if◌then◌else◌}
use Rattle.std.proofs.lemmas.Bool.{eq-eqb}
use Rattle.model.specs.Broker as seen
use Rattle.model.specs.Consuming as said
use Rattle.channels.specs.Consumers.{AreBelow}
use Rattle.channels.proofs.Mapped.{count_by-map, find-map}

-- ---- numbers that rise

pub all_push : {X : Type 0} (P : X → Type 0) (xs : List X) (x : X) → AllByRecursion P xs → P x → AllByRecursion P (xs ++ x ∷ [])
all_push P [] x h p = (p, tt)
all_push P (y ∷ ys) x (q, h) p = (q, all_push P ys x h p)

pub all_filter : {X : Type 0} (P : X → Type 0) (p : X → Bool) (xs : List X) → AllByRecursion P xs → AllByRecursion P (filter p xs)
all_filter P p [] h = tt
all_filter {X = X} P p (x ∷ xs) (q, h) = go (p x) (all_filter P p xs h)
  where
    go : (b : Bool) → AllByRecursion P (filter p xs) → AllByRecursion P (cond b (x ∷ filter p xs) (filter p xs))
    go true a = (q, a)
    go false a = a

pub all_in : {X : Type 0} (P : X → Type 0) (x : X) (xs : List X) → AllByRecursion P xs → IsIn x xs → P x
all_in P x [] h i = absurd i
all_in P x (y ∷ ys) (q, h) (inl e) = subst P (sym e) q
all_in P x (y ∷ ys) (q, h) (inr i) = all_in P x ys h i

-- one more, of the next number
pub numbered_push : (next : ℕ) (cs : List Consumer) (c : Consumer) → c.number ≡ next → AreNumbered next cs → AreNumbered (next + 1) (cs ++ c ∷ [])
numbered_push next [] c e h = ((omega (arith, e)), (tt, tt))
numbered_push next (d ∷ ds) c e (lt, (above, rest)) =
    ((omega (arith, lt)), (all_push (λ (x : Consumer). d.number < x.number) ds c above (omega (arith, lt, e)), numbered_push next ds c e rest))

-- some taken out
pub numbered_filter : (next : ℕ) (p : Consumer → Bool) (cs : List Consumer) → AreNumbered next cs → AreNumbered next (filter p cs)
numbered_filter next p [] h = tt
numbered_filter next p (c ∷ cs) (lt, (above, rest)) = go (p c) (numbered_filter next p cs rest)
  where
    go : (b : Bool) → AreNumbered next (filter p cs) → AreNumbered next (cond b (c ∷ filter p cs) (filter p cs))
    go true a = (lt, (all_filter (λ (x : Consumer). c.number < x.number) p cs above, a))
    go false a = a

-- ---- the consumer of a number

-- the counted consumer with a number has the consumer with that number
pub counted_is : (number : ℕ) (consumers : List CountedConsumer) → option_map (λ (s : CountedConsumer). s.consumer) (find (is_numbered number) consumers) ≡ find (λ (c : Consumer). c.number == number) (consumers_of consumers)
counted_is number consumers = find-map (λ (s : CountedConsumer). s.consumer) (λ (c : Consumer). c.number == number) consumers

-- What is found of a number: it has the number, is one of the list, and no other of the list has it.
pub record IsAlone (number : ℕ) (cs : List Consumer) (k : Consumer) : Type 0 where
  pub numbered : k.number ≡ number
  pub listed : IsIn k cs
  pub only : (x : Consumer) → IsIn x cs → x.number ≡ number → x ≡ k

pub some_is : {X : Type 0} (x y : X) → Some x ≡ Some y → x ≡ y
some_is x y h = cc

pub not_none : {X : Type 0} (x : X) → Some x ≡ None → ⊥
not_none x h = false≢true (sym (ap is_some h))

pub found : (next number : ℕ) (cs : List Consumer) (k : Consumer) → AreNumbered next cs → find (λ (c : Consumer). c.number == number) cs ≡ Some k → IsAlone number cs k
found next number [] k h e = absurd (not_none k (sym e))
found next number (c ∷ cs) k (lt, (above, rest)) e = go (c.number == number) refl (found next number cs k rest) e
  where
    go : (b : Bool) → (c.number == number) ≡ b → (find (λ (d : Consumer). d.number == number) cs ≡ Some k → IsAlone number cs k) → cond b (Some c) (find (λ (d : Consumer). d.number == number) cs) ≡ Some k
        → IsAlone number (c ∷ cs) k
    go true t more f =
        let is : c ≡ k = some_is c k f in
        let n = eqb-true c.number number t in
        record {
          numbered = ap (λ (x : Consumer). x.number) (sym is) ∙ n;
          listed = inl (sym is);
          only = λ x i m. first x i m n ∙ is;
        }
      where
        first : (x : Consumer) → IsIn x (c ∷ cs) → x.number ≡ number → c.number ≡ number → x ≡ c
        first x (inl s) m n = s
        first x (inr i) m n = let greater = all_in (λ (d : Consumer). c.number < d.number) x cs above i in absurd (omega (arith, greater, m, n))
    go false t more f =
        let one = more f in
        record { numbered = one.numbered; listed = inr one.listed; only = λ x i m. later one x i m }
      where
        later : IsAlone number cs k → (x : Consumer) → IsIn x (c ∷ cs) → x.number ≡ number → x ≡ k
        later one x (inl s) m = absurd (false≢true (sym t ∙ eq-eqb c.number number (ap (λ (d : Consumer). d.number) (sym s) ∙ m)))
        later one x (inr i) m = one.only x i m

-- a consumer of the list is found by its number
pub found_at : (next : ℕ) (cs : List Consumer) (k : Consumer) → AreNumbered next cs → IsIn k cs → find (λ (c : Consumer). c.number == k.number) cs ≡ Some k
found_at next [] k h i = absurd i
found_at next (c ∷ cs) k h (inl is) =
    ap (λ (b : Bool). cond b (Some c) (find (λ (x : Consumer). x.number == k.number) cs)) (eq-eqb c.number k.number (ap (λ (x : Consumer). x.number) (sym is))) ∙ ap Some (sym is)
found_at next (c ∷ cs) k (lt, (above, rest)) (inr i) =
    let more = all_in (λ (x : Consumer). c.number < x.number) k cs above i in
    ap (λ (b : Bool). cond b (Some c) (find (λ (x : Consumer). x.number == k.number) cs)) (ne_eqb c.number k.number (λ same. omega (arith, more, same))) ∙ found_at next cs k rest i

found_below : (next number : ℕ) (cs : List Consumer) → AreNumbered next cs → IsSome (find (λ (c : Consumer). c.number == number) cs) → number < next
found_below next number [] h s = absurd (false≢true s)
found_below next number (c ∷ cs) (lt, (above, rest)) s = go (c.number == number) refl (found_below next number cs rest) s
  where
    go : (b : Bool) → (c.number == number) ≡ b → (IsSome (find (λ (d : Consumer). d.number == number) cs) → number < next) → IsSome (cond b (Some c) (find (λ (d : Consumer). d.number == number) cs)) → number < next
    go true t more f = subst (λ (n : ℕ). n < next) (eqb-true c.number number t) lt
    go false t more f = more f

-- so each that a channel has is below its next number
pub are_below : (ch : Open) (next : ℕ) → AreNumbered next ch.given.consumers → AreBelow (Some ch) next
are_below ch next rise number s = found_below next number ch.given.consumers rise s

none_found : (number : ℕ) (cs : List Consumer) (x : Consumer) → find (λ (c : Consumer). c.number == number) cs ≡ None → IsIn x cs → x.number ≡ number → ⊥
none_found number [] x e i m = i
none_found number (c ∷ cs) x e i m = go (c.number == number) refl (λ f j. none_found number cs x f j m) e i
  where
    go : (b : Bool) → (c.number == number) ≡ b → (find (λ (d : Consumer). d.number == number) cs ≡ None → IsIn x cs → ⊥) → cond b (Some c) (find (λ (d : Consumer). d.number == number) cs) ≡ None → IsIn x (c ∷ cs) → ⊥
    go true t more f j = not_none c f
    go false t more f (inl s) = false≢true (sym t ∙ eq-eqb c.number number (ap (λ (d : Consumer). d.number) (sym s) ∙ m))
    go false t more f (inr j) = more f j

-- ---- where queues have names

in_names : (names : List Text) (k : Consumer) (cs : List Consumer) → IsIn k cs → IsIn (consumer_in names k) (map (consumer_in names) cs)
in_names names k [] i = i
in_names names k (c ∷ cs) (inl e) = inl (ap (consumer_in names) e)
in_names names k (c ∷ cs) (inr i) = inr (in_names names k cs i)

pub record IsOf (names : List Text) (x : seen.Consumer) (cs : List Consumer) : Type 0 where
  pub consumer : Consumer
  pub listed : IsIn consumer cs
  pub same : x ≡ consumer_in names consumer

pub of_names : (names : List Text) (x : seen.Consumer) (cs : List Consumer) → IsIn x (map (consumer_in names) cs) → IsOf names x cs
of_names names x [] i = absurd i
of_names names x (c ∷ cs) (inl e) = record { consumer = c; listed = inl refl; same = e }
of_names names x (c ∷ cs) (inr i) = let o = of_names names x cs i in record { consumer = o.consumer; listed = inr o.listed; same = o.same }

counted_in_names : (names : List Text) (p : seen.Outstanding → Bool) (os : List Delivery) → count_by p (map (outstanding_in names) os) ≡ count_by (λ o. p (outstanding_in names o)) os
counted_in_names names p os = count_by-map (outstanding_in names) p os

-- a consumer may be given there what it may be given here
may_in : (names : List Text) (ch : Open) (k : Consumer) → said.may_take (open_in names ch) (consumer_in names k) ≡ (has_tag_left ch.given.next_tag && may_of ch.given.limit ch.given.outstanding (Some k))
may_in names ch k =
    ap (λ (n : ℕ). has_tag_left ch.given.next_tag && (k.no_ack || (is_below k.limit n && is_below ch.given.limit (count_given said.taker_of (map (outstanding_in names) ch.given.outstanding)))))
    (counted_in_names names (λ o. is_to k.number (said.taker_of o)) ch.given.outstanding)
    ∙ ap (λ (n : ℕ). has_tag_left ch.given.next_tag && (k.no_ack || (is_below k.limit (count_to taker_of k.number ch.given.outstanding) && is_below ch.given.limit n)))
    (counted_in_names names (λ o. is_delivery (said.taker_of o)) ch.given.outstanding)

-- ---- the taker

may_at : (g : Given) (number : ℕ) (k : Consumer) → consumer_at g number ≡ Some k → may_be_given g number ≡ (has_tag_left g.next_tag && may_of g.limit g.outstanding (Some k))
may_at g number k e = ap (λ (o : Option Consumer). has_tag_left g.next_tag && may_of g.limit g.outstanding o) e

-- where a tag is left it is the one that may be given one message more
pub taker_left : (g : Given) (number : ℕ) (r : Option Consumer) → has_tag_left g.next_tag ≡ true → r ≡ taker_among g.limit g.outstanding (consumer_at g number) → r ≡ taker_at g number
taker_left g number r left e = e ∙ sym (ap (λ (b : Bool). if (b && may_of g.limit g.outstanding (consumer_at g number)) then consumer_at g number else None) left)

-- where no tag is left none may
pub none_left : (g : Given) (number : ℕ) → has_tag_left g.next_tag ≡ false → None ≡ taker_at g number
none_left g number left = sym (ap (λ (b : Bool). if (b && may_of g.limit g.outstanding (consumer_at g number)) then consumer_at g number else None) left)

pub is_one : (ch : Open) (number : ℕ) (k : Consumer) → AreNumbered ch.given.next_number ch.given.consumers → consumer_at ch.given number ≡ Some k → IsOne ch number k
is_one ch number k rise e = let one = found ch.given.next_number number ch.given.consumers k rise e in record {
  numbered = one.numbered;
  listed = one.listed;
  its = λ names. in_names names k ch.given.consumers one.listed;
  only = λ names other i m. let o = of_names names other ch.given.consumers i in
      o.same ∙ ap (consumer_in names) (one.only o.consumer o.listed (ap (λ (x : seen.Consumer). x.number) (sym o.same) ∙ m));
}

-- where one is told it is the only one
pub tells_one : {B : Type 0} (f : B → Consumer) (ch : Open) (number : ℕ) (r : Option B) → AreNumbered ch.given.next_number ch.given.consumers → option_map f r ≡ consumer_at ch.given number → IfSome r (λ k. IsOne ch number (f k))
tells_one f ch number None rise e = tt
tells_one f ch number (Some k) rise e = is_one ch number (f k) rise (sym e)

is_taker : (ch : Open) (number : ℕ) (k : Consumer) → AreNumbered ch.given.next_number ch.given.consumers → consumer_at ch.given number ≡ Some k → may_be_given ch.given number ≡ true → IsTaker ch number k
is_taker ch number k rise e may = let one = found ch.given.next_number number ch.given.consumers k rise e in record {
  numbered = one.numbered;
  listed = one.listed;
  its = λ names. in_names names k ch.given.consumers one.listed;
  only = λ names other i m. let o = of_names names other ch.given.consumers i in
      o.same ∙ ap (consumer_in names) (one.only o.consumer o.listed (ap (λ (x : seen.Consumer). x.number) (sym o.same) ∙ m));
  may = λ names. may_in names ch k ∙ sym (may_at ch.given number k e) ∙ may;
}

pub cannot : (ch : Open) (number : ℕ) → AreNumbered ch.given.next_number ch.given.consumers → may_be_given ch.given number ≡ false → HasNoTaker ch number
cannot ch number rise may names x i m = go (consumer_at ch.given number) refl (of_names names x ch.given.consumers i)
  where
    go : (r : Option Consumer) → consumer_at ch.given number ≡ r → IsOf names x ch.given.consumers → said.may_take (open_in names ch) x ≡ false
    go (Some k) e o =
        let one = found ch.given.next_number number ch.given.consumers k rise e in
        let is : o.consumer ≡ k = one.only o.consumer o.listed (ap (λ (y : seen.Consumer). y.number) (sym o.same) ∙ m) in
        ap (said.may_take (open_in names ch)) (o.same ∙ ap (consumer_in names) is) ∙ may_in names ch k ∙ sym (may_at ch.given number k e) ∙ may
    go None e o = absurd (none_found number ch.given.consumers o.consumer e o.listed (ap (λ (y : seen.Consumer). y.number) (sym o.same) ∙ m))

pub tells : (ch : Open) (number : ℕ) (r : Option Consumer) → AreNumbered ch.given.next_number ch.given.consumers → r ≡ taker_at ch.given number → ReturnsTaker ch number r
tells ch number r rise is = go (may_be_given ch.given number) refl r is
  where
    go : (b : Bool) → may_be_given ch.given number ≡ b → (r : Option Consumer) → r ≡ (if b then consumer_at ch.given number else None) → ReturnsTaker ch number r
    go true e (Some k) f = is_taker ch number k rise (sym f) e
    go true e None f = λ names x i m. let o = of_names names x ch.given.consumers i in
        absurd (none_found number ch.given.consumers o.consumer (sym f) o.listed (ap (λ (y : seen.Consumer). y.number) (sym o.same) ∙ m))
    go false e (Some k) f = absurd (not_none k f)
    go false e None f = cannot ch number rise e
