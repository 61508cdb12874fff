-- A list of a queue's consumers that has each once is as long as there are such consumers.
use Rattle.channels.proofs.Imports.{◌≡◌, ◌+◌, ◌≤◌, ◌<◌, ◌∷◌, ◌++◌, [], ℕ, zero, suc, List, length, get_or, map, Bool, true, false, Option, Some, None, inl, inr, refl, sym, ap, subst, ◌∙◌, arith, cond, sum_by, AllPairs, ◌⊎◌, min, eqb-true, false≢true, sum_by-cons, length-append, length-map, length-filter, IsIn, greatest, ChannelName, takes_from, NumbersRise, AreNumbered, Open, Running, Consumer, channel_of, consumers_at, AllDistinct, CountsConsumers, HasChannels}
use Rattle.std.proofs.Common.{filter}
use Rattle.std.specs.Prelude.{◌==◌}
use Rattle.std.proofs.lemmas.Bool.{eq-eqb}
use Rattle.channels.proofs.Numbering.{all_in}
use Rattle.channels.proofs.ConnectionsCounting.{name, on, front_in, back_in, either_in, apart_both}

-- ---- lists with the same entries are equally long

record Without {X : Type 0} (x : X) (ys : List X) : Type 0 where
  rest : List X
  shorter : length ys ≡ suc (length rest)
  others : (y : X) → IsIn y ys → (y ≡ x → ⊥) → IsIn y rest

without : {X : Type 0} (x : X) (ys : List X) → IsIn x ys → Without x ys
without x [] i = absurd i
without {X} x (y ∷ ys) (inl e) = record { rest = ys; shorter = refl; others = left }
  where
    left : (z : X) → IsIn z (y ∷ ys) → (z ≡ x → ⊥) → IsIn z ys
    left z (inl f) other = absurd (other (f ∙ sym e))
    left z (inr j) other = j
without {X} x (y ∷ ys) (inr i) = with_head (without x ys i)
  where
    with_head : Without x ys → Without x (y ∷ ys)
    with_head w = record { rest = y ∷ w.rest; shorter = ap suc w.shorter; others = left }
      where
        left : (z : X) → IsIn z (y ∷ ys) → (z ≡ x → ⊥) → IsIn z (y ∷ w.rest)
        left z (inl f) other = inl f
        left z (inr j) other = inr (w.others z j other)

no_longer : {X : Type 0} (xs ys : List X) → AllDistinct xs → ((x : X) → IsIn x xs → IsIn x ys) → length xs ≤ length ys
no_longer [] ys apart among = omega arith
no_longer {X} (x ∷ xs) ys apart among =
    let w = without x ys (among x (inl refl)) in
    let less = no_longer xs w.rest apart.1 (λ z i. w.others z (among z (inr i)) (λ e. apart.0 (subst (λ (y : X). IsIn y xs) e i))) in
    let one = w.shorter in
    omega (arith, less, one)

-- ---- no two are the same

apart_mapped : {X Y : Type 0} (f : X → Y) → ((x y : X) → f x ≡ f y → x ≡ y) → (xs : List X) → AllDistinct xs → AllDistinct (map f xs)
apart_mapped f one [] apart = tt
apart_mapped {X} f one (x ∷ xs) apart = (λ i. apart.0 (back xs i), apart_mapped f one xs apart.1)
  where
    back : (ys : List X) → IsIn (f x) (map f ys) → IsIn x ys
    back [] i = i
    back (y ∷ ys) (inl e) = inl (one x y e)
    back (y ∷ ys) (inr i) = inr (back ys i)

mapped_in : {X Y : Type 0} (f : X → Y) (x : X) (xs : List X) → IsIn x xs → IsIn (f x) (map f xs)
mapped_in f x [] i = i
mapped_in f x (y ∷ ys) (inl e) = inl (ap f e)
mapped_in f x (y ∷ ys) (inr i) = inr (mapped_in f x ys i)

record IsOfMapped {X Y : Type 0} (f : X → Y) (y : Y) (xs : List X) : Type 0 where
  one : X
  listed : IsIn one xs
  same : y ≡ f one

of_mapped : {X Y : Type 0} (f : X → Y) (y : Y) (xs : List X) → IsIn y (map f xs) → IsOfMapped f y xs
of_mapped f y [] i = absurd i
of_mapped f y (x ∷ xs) (inl e) = record { one = x; listed = inl refl; same = e }
of_mapped f y (x ∷ xs) (inr i) = let o = of_mapped f y xs i in record { one = o.one; listed = inr o.listed; same = o.same }

record IsAt {X : Type 0} (x : X) (xs : List X) : Type 0 where
  place : ℕ
  within : place < length xs
  same : (d : X) → get_or xs place d ≡ x

place_in : {X : Type 0} (x : X) (xs : List X) → IsIn x xs → IsAt x xs
place_in x [] i = absurd i
place_in x (y ∷ ys) (inl e) = record { place = zero; within = omega arith; same = λ d. sym e }
place_in x (y ∷ ys) (inr i) = let o = place_in x ys i in record { place = suc o.place; within = (let lt = o.within in omega (arith, lt)); same = o.same }

pairs_apart : {X : Type 0} (xs : List X) → AllPairs (λ (x y : X). x ≡ y → ⊥) xs → AllDistinct xs
pairs_apart [] pairs = tt
pairs_apart (x ∷ xs) pairs = (
  λ i. (let o = place_in x xs i in let lt = o.within in pairs zero (suc o.place) x (omega arith) (omega (arith, lt)) (sym (o.same x))),
  pairs_apart xs (λ i j d less within. pairs (suc i) (suc j) d (omega (arith, less)) (omega (arith, within))),
)

-- ---- the consumers that take from a queue

-- a consumer, by its channel and its number there
record Key : Type 0 where
  channel : ChannelName
  number : ℕ

abbrev key : ChannelName → Consumer → Key
key x k = record { channel = x; number = k.number }

abbrev keys_at : ℕ → ChannelName → List Consumer → List Key
keys_at queue x ks = map (key x) (filter (takes_from queue) ks)

abbrev keys_on : ℕ → ChannelName → Option Open → List Key
keys_on queue x None = []
keys_on queue x (Some ch) = keys_at queue x ch.given.consumers

abbrev keys_over : List (ℕ × Running) → ℕ → List ChannelName → List Key
keys_over cs queue [] = []
keys_over cs queue (x ∷ xs) = keys_on queue x (channel_of cs x.connection x.number) ++ keys_over cs queue xs

counted_on : (queue : ℕ) (x : ChannelName) (o : Option Open) → length (keys_on queue x o) ≡ consumers_at queue o
counted_on queue x None = refl
counted_on queue x (Some ch) = length-map (filter (takes_from queue) ch.given.consumers) (key x) ∙ length-filter (takes_from queue) ch.given.consumers

counted_over : (cs : List (ℕ × Running)) (queue : ℕ) (xs : List ChannelName) → length (keys_over cs queue xs) ≡ sum_by (on queue cs) xs
counted_over cs queue [] = refl
counted_over cs queue (x ∷ xs) =
    let both = length-append (keys_on queue x (channel_of cs x.connection x.number)) (keys_over cs queue xs) in
    let one = counted_on queue x (channel_of cs x.connection x.number) in
    let more = counted_over cs queue xs in
    let sum = sum_by-cons (on queue cs) x xs in
    omega (arith, both, one, more, sum)

-- What is a key of a channel is that of one of its consumers.
record IsKeyOf (queue : ℕ) (x : ChannelName) (ks : List Consumer) (y : Key) : Type 0 where
  consumer : Consumer
  listed : IsIn consumer ks
  same : y ≡ key x consumer
  takes : consumer.queue ≡ queue

of_keys : (queue : ℕ) (x : ChannelName) (ks : List Consumer) (y : Key) → IsIn y (keys_at queue x ks) → IsKeyOf queue x ks y
of_keys queue x [] y i = absurd i
of_keys queue x (c ∷ cs) y i = go (takes_from queue c) refl (of_keys queue x cs y) i
  where
    later : IsKeyOf queue x cs y → IsKeyOf queue x (c ∷ cs) y
    later o = record { consumer = o.consumer; listed = inr o.listed; same = o.same; takes = o.takes }

    go : (b : Bool) → takes_from queue c ≡ b → (IsIn y (keys_at queue x cs) → IsKeyOf queue x cs y) → IsIn y (map (key x) (cond b (c ∷ filter (takes_from queue) cs) (filter (takes_from queue) cs))) → IsKeyOf queue x (c ∷ cs) y
    go true is more (inl e) = record { consumer = c; listed = inl refl; same = e; takes = eqb-true c.queue queue is }
    go true is more (inr j) = later (more j)
    go false is more j = later (more j)

in_keys : (queue : ℕ) (x : ChannelName) (ks : List Consumer) (k : Consumer) → IsIn k ks → k.queue ≡ queue → IsIn (key x k) (keys_at queue x ks)
in_keys queue x [] k i takes = i
in_keys queue x (c ∷ cs) k i takes = go (takes_from queue c) refl (λ j. in_keys queue x cs k j takes) i
  where
    go : (b : Bool) → takes_from queue c ≡ b → (IsIn k cs → IsIn (key x k) (keys_at queue x cs)) → IsIn k (c ∷ cs) → IsIn (key x k) (map (key x) (cond b (c ∷ filter (takes_from queue) cs) (filter (takes_from queue) cs)))
    go true is more (inl e) = inl (ap (key x) e)
    go true is more (inr j) = inr (more j)
    go false is more (inl e) = absurd (false≢true (sym is ∙ eq-eqb c.queue queue (ap (λ (z : Consumer). z.queue) (sym e) ∙ takes)))
    go false is more (inr j) = more j

-- no two of a channel, since numbers ascend
keys_apart : (queue : ℕ) (x : ChannelName) (next : ℕ) (ks : List Consumer) → AreNumbered next ks → AllDistinct (keys_at queue x ks)
keys_apart queue x next [] rise = tt
keys_apart queue x next (c ∷ cs) (lt, (above, rest)) = go (takes_from queue c) (keys_apart queue x next cs rest)
  where
    other : IsIn (key x c) (keys_at queue x cs) → ⊥
    other i =
        let o = of_keys queue x cs (key x c) i in
        let more = all_in (λ (d : Consumer). c.number < d.number) o.consumer cs above o.listed in
        let same = ap (λ (y : Key). y.number) o.same in
        absurd (omega (arith, more, same))

    go : (b : Bool) → AllDistinct (keys_at queue x cs) → AllDistinct (map (key x) (cond b (c ∷ filter (takes_from queue) cs) (filter (takes_from queue) cs)))
    go true apart = (other, apart)
    go false apart = apart

-- the keys of a channel are of its name
its_name : (queue : ℕ) (x : ChannelName) (o : Option Open) (y : Key) → IsIn y (keys_on queue x o) → y.channel ≡ x
its_name queue x None y i = absurd i
its_name queue x (Some ch) y i = ap (λ (z : Key). z.channel) (of_keys queue x ch.given.consumers y i).same

record IsOver (cs : List (ℕ × Running)) (queue : ℕ) (xs : List ChannelName) (y : Key) : Type 0 where
  channel : ChannelName
  listed : IsIn channel xs
  among : IsIn y (keys_on queue channel (channel_of cs channel.connection channel.number))

over : (cs : List (ℕ × Running)) (queue : ℕ) (xs : List ChannelName) (y : Key) → IsIn y (keys_over cs queue xs) → IsOver cs queue xs y
over cs queue [] y i = absurd i
over cs queue (x ∷ xs) y i = elim (either_in y (keys_on queue x (channel_of cs x.connection x.number)) (keys_over cs queue xs) i) [
  | inl h ↦ record { channel = x; listed = inl refl; among = h }
  | inr h ↦ let o = over cs queue xs y h in record { channel = o.channel; listed = inr o.listed; among = o.among }
]

in_over : (cs : List (ℕ × Running)) (queue : ℕ) (xs : List ChannelName) (x : ChannelName) (y : Key) → IsIn x xs → IsIn y (keys_on queue x (channel_of cs x.connection x.number)) → IsIn y (keys_over cs queue xs)
in_over cs queue [] x y i h = absurd i
in_over cs queue (z ∷ zs) x y (inl e) h =
    front_in y (keys_on queue z (channel_of cs z.connection z.number)) (keys_over cs queue zs) (subst (λ (w : ChannelName). IsIn y (keys_on queue w (channel_of cs w.connection w.number))) e h)
in_over cs queue (z ∷ zs) x y (inr i) h = back_in y (keys_on queue z (channel_of cs z.connection z.number)) (keys_over cs queue zs) (in_over cs queue zs x y i h)

abbrev pub AllRise : List (ℕ × Running) → Type 0
AllRise cs = (c h : ℕ) (ch : Open) → channel_of cs c h ≡ Some ch → NumbersRise ch.given.consumers

over_apart : (cs : List (ℕ × Running)) (queue : ℕ) (xs : List ChannelName) → AllRise cs → AllDistinct xs → AllDistinct (keys_over cs queue xs)
over_apart cs queue [] rise apart = tt
over_apart cs queue (x ∷ xs) rise apart =
    apart_both (keys_on queue x (channel_of cs x.connection x.number)) (keys_over cs queue xs) (of_channel (channel_of cs x.connection x.number) refl) (over_apart cs queue xs rise apart.1)
    (λ y i j. let o = over cs queue xs y j in
    apart.0 (subst (λ (z : ChannelName). IsIn z xs) (sym (its_name queue o.channel (channel_of cs o.channel.connection o.channel.number) y o.among) ∙ its_name queue x (channel_of cs x.connection x.number) y i) o.listed))
  where
    of_channel : (o : Option Open) → channel_of cs x.connection x.number ≡ o → AllDistinct (keys_on queue x o)
    of_channel None is = tt
    of_channel (Some ch) is = let r = rise x.connection x.number ch is in keys_apart queue x r.0 ch.given.consumers r.1

-- ---- the count

-- The consumer `x`, by its connection, channel and number, takes from the queue.
pub record IsTakerOf {X : Type 0} (c h n : X → ℕ) (cs : List (ℕ × Running)) (queue : ℕ) (x : X) : Type 0 where
  pub channel : Open
  pub there : channel_of cs (c x) (h x) ≡ Some channel
  pub consumer : Consumer
  pub listed : IsIn consumer channel.given.consumers
  pub numbered : consumer.number ≡ n x
  pub takes : consumer.queue ≡ queue

-- Consumer `number` of channel `h` of connection `c` is in the line.
pub record IsInLineAs {X : Type 0} (c h n : X → ℕ) (line : List X) (d l number : ℕ) : Type 0 where
  pub one : X
  pub listed : IsIn one line
  pub connection : c one ≡ d
  pub channel : h one ≡ l
  pub numbered : n one ≡ number

module _ {X : Type 0} (c h n : X → ℕ) (same : (x y : X) → c x ≡ c y → h x ≡ h y → n x ≡ n y → x ≡ y) (cs : List (ℕ × Running)) (queue : ℕ) (line : List X) where
  abbrev key_of : X → Key
  key_of x = record { channel = name (c x) (h x); number = n x }

  key_one : (x y : X) → key_of x ≡ key_of y → x ≡ y
  key_one x y e = same x y (ap (λ (z : Key). z.channel.connection) e) (ap (λ (z : Key). z.channel.number) e) (ap (λ (z : Key). z.number) e)

  module _ (listed : HasChannels cs) (rise : AllRise cs) (once : AllDistinct line) (own : (x : X) → IsIn x line → IsTakerOf c h n cs queue x)
      (all : (d l : ℕ) (ch : Open) (k : Consumer) → channel_of cs d l ≡ Some ch → IsIn k ch.given.consumers → k.queue ≡ queue → IsInLineAs c h n line d l k.number) where
    in_line : (y : Key) → IsIn y (map key_of line) → IsIn y (keys_over cs queue listed.channels)
    in_line y i =
        let o = of_mapped key_of y line i in
        let t = own o.one o.listed in
        subst (λ (z : Key). IsIn z (keys_over cs queue listed.channels)) (sym o.same)
        (in_over cs queue listed.channels (name (c o.one) (h o.one)) (key_of o.one) (listed.all (c o.one) (h o.one) t.channel t.there)
        (subst (λ (p : Option Open). IsIn (key_of o.one) (keys_on queue (name (c o.one) (h o.one)) p)) (sym t.there)
        (subst (λ (m : ℕ). IsIn (record { channel = name (c o.one) (h o.one); number = m }) (keys_at queue (name (c o.one) (h o.one)) t.channel.given.consumers)) t.numbered
        (in_keys queue (name (c o.one) (h o.one)) t.channel.given.consumers t.consumer t.listed t.takes))))

    of_channel : (y : Key) (x : ChannelName) (p : Option Open) → channel_of cs x.connection x.number ≡ p → IsIn y (keys_on queue x p) → IsIn y (map key_of line)
    of_channel y x None is i = absurd i
    of_channel y x (Some ch) is i =
        let o = of_keys queue x ch.given.consumers y i in
        let t = all x.connection x.number ch o.consumer is o.listed o.takes in
        let its : key_of t.one ≡ y = ap (λ (d : ℕ). record { channel = name d (h t.one); number = n t.one }) t.connection
        ∙ ap (λ (l : ℕ). record { channel = name x.connection l; number = n t.one }) t.channel
        ∙ ap (λ (m : ℕ). record { channel = x; number = m }) t.numbered ∙ sym o.same in
        subst (λ (z : Key). IsIn z (map key_of line)) its (mapped_in key_of t.one line t.listed)

    of_line : (y : Key) → IsIn y (keys_over cs queue listed.channels) → IsIn y (map key_of line)
    of_line y i = let o = over cs queue listed.channels y i in of_channel y o.channel (channel_of cs o.channel.connection o.channel.number) refl o.among

    -- a line that has each of the queue's consumers once is as long as there are such consumers
    pub listed_counted : CountsConsumers cs queue (min (length line) greatest)
    listed_counted = record {
      channels = listed.channels;
      all = listed.all;
      distinct = listed.distinct;
      counted =
          let less = no_longer (map key_of line) (keys_over cs queue listed.channels) (apart_mapped key_of key_one line once) in_line in
          let more = no_longer (keys_over cs queue listed.channels) (map key_of line) (over_apart cs queue listed.channels rise (pairs_apart listed.channels listed.distinct)) of_line in
          let long = length-map line key_of in
          let sum = counted_over cs queue listed.channels in
          let e : length line ≡ sum_by (on queue cs) listed.channels = omega (arith, less, more, long, sum) in
          ap (λ (m : ℕ). min m greatest) e;
    }
