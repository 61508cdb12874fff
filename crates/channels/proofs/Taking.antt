-- Consumers of a queue, counted and found.
use Rattle.channels.proofs.Imports.{◌≡◌, ◌≤◌, ◌<◌, ◌∷◌, [], ℕ, zero, suc, List, Bool, true, false, Option, Some, None, cond, inl, inr, refl, ap, arith, sum_by, Decides, IsDistinct, keys_of, eqb-true, lt-ltb, sum_by-cons, IsIn, ChannelName, takes_from, Open, Consumer, Running, channel_of, consumers_at, all_consumers, is_consumed, HasTaker}
use Rattle.std.proofs.Common.{nat_eq}
use Rattle.std.proofs.lemmas.Bool.{eq-eqb, ltb-true}
use Rattle.channels.proofs.ConnectionsCounting.{name, names_in, all_there, on, all_sum}

-- ---- sums

-- some part of a sum that is not 0 is not 0
pub record HasPart {A : Type 0} (f : A → ℕ) (xs : List A) : Type 0 where
  pub one : A
  pub among : IsIn one xs
  pub counts : 0 < f one

some_part : {A : Type 0} (f : A → ℕ) (xs : List A) → 0 < sum_by f xs → HasPart f xs
some_part f [] lt = absurd (omega (arith, lt))
some_part f (x ∷ xs) lt = go (f x) refl (some_part f xs)
  where
    go : (n : ℕ) → f x ≡ n → (0 < sum_by f xs → HasPart f xs) → HasPart f (x ∷ xs)
    go zero e rest =
        let sum = sum_by-cons f x xs in
        let more = rest (omega (arith, sum, lt, e)) in record { one = more.one; among = inr more.among; counts = more.counts }
    go (suc n) e rest = record { one = x; among = inl refl; counts = omega (arith, e) }

-- and no part is more than the sum
part_within : {A : Type 0} (f : A → ℕ) (x : A) (xs : List A) → IsIn x xs → f x ≤ sum_by f xs
part_within f x [] i = absurd i
part_within f x (y ∷ xs) (inl e) = let sum = sum_by-cons f y xs in let same = ap f e in omega (arith, sum, same)
part_within f x (y ∷ xs) (inr i) = let sum = sum_by-cons f y xs in let less = part_within f x xs i in omega (arith, sum, less)

-- ---- one channel

yes_counts : (b : Bool) → 0 < cond b 1 0 → b ≡ true
yes_counts true lt = refl
yes_counts false lt = absurd (omega (arith, lt))

-- ---- all of them

taker_at : (connections : List (ℕ × Running)) (queue : ℕ) (x : ChannelName) (o : Option Open) → channel_of connections x.connection x.number ≡ o → 0 < consumers_at queue o → HasTaker connections queue
taker_at connections queue x None is lt = absurd (omega (arith, lt))
taker_at connections queue x (Some ch) is lt =
    let part = some_part (λ (k : Consumer). cond (takes_from queue k) 1 0) ch.given.consumers lt in record {
      connection = x.connection;
      number = x.number;
      channel = ch;
      there = is;
      consumer = part.one;
      among = part.among;
      takes = eqb-true part.one.queue queue (yes_counts (takes_from queue part.one) part.counts);
    }

counted_taker : (queue : ℕ) (ch : Open) (k : Consumer) → IsIn k ch.given.consumers → k.queue ≡ queue → 0 < consumers_at queue (Some ch)
counted_taker queue ch k i e =
    let one : cond (takes_from queue k) 1 0 ≡ 1 = ap {B = ℕ} (λ (b : Bool). cond b 1 0) (eq-eqb k.queue queue e) in
    let less = part_within (λ (c : Consumer). cond (takes_from queue c) 1 0) k ch.given.consumers i in
    omega (arith, one, less)

pub takers_found : (connections : List (ℕ × Running)) → IsDistinct nat_eq (keys_of connections) → (queue : ℕ) → Decides (is_consumed connections queue) (HasTaker connections queue)
takers_found connections distinct queue = (found, counted)
  where
    same : sum_by (on queue connections) (names_in connections) ≡ all_consumers connections queue
    same = all_sum queue connections distinct

    found : is_consumed connections queue ≡ true → HasTaker connections queue
    found e =
        let lt = ltb-true 0 (all_consumers connections queue) e in
        let part = some_part (on queue connections) (names_in connections) (omega (arith, lt, same)) in
        taker_at connections queue part.one (channel_of connections part.one.connection part.one.number) refl part.counts

    counted : HasTaker connections queue → is_consumed connections queue ≡ true
    counted t =
        let here = all_there connections t.connection t.number t.channel t.there in
        let one = counted_taker queue t.channel t.consumer t.among t.takes in
        let its = ap (consumers_at queue) t.there in
        let less = part_within (on queue connections) (name t.connection t.number) (names_in connections) here in
        lt-ltb 0 (all_consumers connections queue) (omega (arith, same, one, its, less))
