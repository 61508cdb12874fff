-- The channels of all connections, each once, and the consumers that are counted on them.
use Rattle.channels.proofs.Imports.{◌≡◌, ◌+◌, ◌≤◌, ◌<◌, ◌∷◌, ◌++◌, [], ℕ, zero, suc, List, length, get_or, Bool, true, false, Option, Some, None, inl, inr, refl, sym, ap, subst, ◌∙◌, arith, cond, sum_by, AllPairs, ◌⊎◌, min, IsDistinct, AllByRecursion, lookup, keys_of, values_of, eqb-true, false≢true, sum_by-cons, sum_by-append, IsIn, greatest, ChannelName, Open, Running, channel_at, channel_of, consumers_at, consumers_counted, AllDistinct, CountsConsumers, HasChannels}
use Rattle.std.proofs.Common.{nat_eq}
use Rattle.std.proofs.lemmas.Bool.{eq-eqb}
use Rattle.std.proofs.lemmas.Map.Keys.{IsDistinct-head, IsDistinct-tail}

-- ---- one of a list

pub front_in : {A : Type 0} (x : A) (xs ys : List A) → IsIn x xs → IsIn x (xs ++ ys)
front_in x [] ys i = absurd i
front_in x (y ∷ xs) ys (inl e) = inl e
front_in x (y ∷ xs) ys (inr i) = inr (front_in x xs ys i)

pub back_in : {A : Type 0} (x : A) (xs ys : List A) → IsIn x ys → IsIn x (xs ++ ys)
back_in x [] ys i = i
back_in x (y ∷ xs) ys i = inr (back_in x xs ys i)

pub either_in : {A : Type 0} (x : A) (xs ys : List A) → IsIn x (xs ++ ys) → IsIn x xs ⊎ IsIn x ys
either_in x [] ys i = inr i
either_in x (y ∷ xs) ys (inl e) = inl (inl e)
either_in x (y ∷ xs) ys (inr i) = elim (either_in x xs ys i) [
  | inl h ↦ inl (inr h)
  | inr h ↦ inr h
]

at_in : {A : Type 0} (xs : List A) (i : ℕ) (d : A) → i < length xs → IsIn (get_or xs i d) xs
at_in [] i d lt = absurd (omega (arith, lt))
at_in (x ∷ xs) zero d lt = inl refl
at_in (x ∷ xs) (suc i) d lt = inr (at_in xs i d (omega (arith, lt)))

-- ---- no two are the same

apart_pairs : {A : Type 0} (xs : List A) → AllDistinct xs → AllPairs (λ (x y : A). x ≡ y → ⊥) xs
apart_pairs [] distinct i j d l m = absurd (omega (arith, m))
apart_pairs (x ∷ xs) distinct zero zero d l m = absurd (omega (arith, l))
apart_pairs {A} (x ∷ xs) distinct zero (suc j) d l m = λ e. distinct.0 (subst (λ (y : A). IsIn y xs) (sym e) (at_in xs j d (omega (arith, m))))
apart_pairs (x ∷ xs) distinct (suc i) zero d l m = absurd (omega (arith, l))
apart_pairs (x ∷ xs) distinct (suc i) (suc j) d l m = apart_pairs xs distinct.1 i j d (omega (arith, l)) (omega (arith, m))

pub apart_both : {A : Type 0} (xs ys : List A) → AllDistinct xs → AllDistinct ys → ((x : A) → IsIn x xs → IsIn x ys → ⊥) → AllDistinct (xs ++ ys)
apart_both [] ys a b none = b
apart_both (x ∷ xs) ys a b none = (
  λ i. elim (either_in x xs ys i) [
    | inl h ↦ a.0 h
    | inr h ↦ none x (inl refl) h
  ],
  apart_both xs ys a.1 b (λ y i. none y (inr i)),
)

-- ---- the channels of a connection, from this number on, and those of all connections

abbrev pub name : ℕ → ℕ → ChannelName
name c h = record { connection = c; number = h }

abbrev names_at : ℕ → ℕ → List (Option Open) → List ChannelName
names_at c h [] = []
names_at c h (o ∷ os) = name c h ∷ names_at c (h + 1) os

abbrev pub names_in : List (ℕ × Running) → List ChannelName
names_in [] = []
names_in (e ∷ es) = names_at e.0 0 e.1.channels ++ names_in es

at_there : (c h k : ℕ) (os : List (Option Open)) (ch : Open) → get_or os k None ≡ Some ch → IsIn (name c (h + k)) (names_at c h os)
at_there c h k [] ch e = absurd (let none : None ≡ Some ch = e in cc)
at_there c h zero (o ∷ os) ch e = let same : h + 0 ≡ h = omega arith in inl (ap (name c) same)
at_there c h (suc k) (o ∷ os) ch e =
    let same : (h + 1) + k ≡ h + suc k = omega arith in
    inr (subst (λ (n : ℕ). IsIn (name c n) (names_at c (h + 1) os)) same (at_there c (h + 1) k os ch e))

pub all_there : (es : List (ℕ × Running)) (c h : ℕ) (ch : Open) → channel_of es c h ≡ Some ch → IsIn (name c h) (names_in es)
all_there [] c h ch e = absurd (let none : None ≡ Some ch = e in cc)
all_there (e ∷ es) c h ch is = go (nat_eq c e.0) refl is (all_there es c h ch)
  where
    at_zero : nat_eq c e.0 ≡ true → IsIn (name e.0 (0 + h)) (names_at e.0 0 e.1.channels) → IsIn (name c h) (names_at e.0 0 e.1.channels)
    at_zero same i =
        let zero : 0 + h ≡ h = omega arith in
        subst (λ (d : ℕ). IsIn (name d h) (names_at e.0 0 e.1.channels)) (sym (eqb-true c e.0 same)) (subst (λ (k : ℕ). IsIn (name e.0 k) (names_at e.0 0 e.1.channels)) zero i)

    go : (b : Bool) → nat_eq c e.0 ≡ b → channel_at (cond b (Some e.1) (lookup (nat_eq c) es)) h ≡ Some ch → (channel_of es c h ≡ Some ch → IsIn (name c h) (names_in es)) → IsIn (name c h) (names_at e.0 0 e.1.channels ++ names_in es)
    go true same f more = front_in (name c h) (names_at e.0 0 e.1.channels) (names_in es) (at_zero same (at_there e.0 0 h e.1.channels ch f))
    go false same f more = back_in (name c h) (names_at e.0 0 e.1.channels) (names_in es) (more f)

-- those of a connection are of its number, and from this number on
its : (x : ChannelName) (c h : ℕ) (os : List (Option Open)) → IsIn x (names_at c h os) → (x.connection ≡ c) × (h ≤ x.number)
its x c h [] i = absurd i
its x c h (o ∷ os) (inl e) = let number = ap (λ (y : ChannelName). y.number) e in (ap (λ (y : ChannelName). y.connection) e, omega (arith, number))
its x c h (o ∷ os) (inr i) = let later = its x c (h + 1) os i in let number = later.1 in (later.0, omega (arith, number))

apart_at : (c h : ℕ) (os : List (Option Open)) → AllDistinct (names_at c h os)
apart_at c h [] = tt
apart_at c h (o ∷ os) = (λ i. let number = (its (name c h) c (h + 1) os i).1 in absurd (omega (arith, number)), apart_at c (h + 1) os)

-- a number that no connection has is that of no channel
none_of : (x : ChannelName) (c : ℕ) (es : List (ℕ × Running)) → AllByRecursion (λ (d : ℕ). nat_eq c d ≡ false) (keys_of es) → IsIn x (names_in es) → x.connection ≡ c → ⊥
none_of x c [] none i e = i
none_of x c (l ∷ es) none i e = elim (either_in x (names_at l.0 0 l.1.channels) (names_in es) i) [
  | inl h ↦ false≢true (sym none.0 ∙ eq-eqb c l.0 (sym e ∙ (its x l.0 0 l.1.channels h).0))
  | inr h ↦ none_of x c es none.1 h e
]

apart_in : (es : List (ℕ × Running)) → IsDistinct nat_eq (keys_of es) → AllDistinct (names_in es)
apart_in [] distinct = tt
apart_in (e ∷ es) distinct =
    apart_both (names_at e.0 0 e.1.channels) (names_in es) (apart_at e.0 0 e.1.channels) (apart_in es (IsDistinct-tail nat_eq e.0 (keys_of es) distinct))
    (λ x i j. none_of x e.0 es (IsDistinct-head nat_eq e.0 (keys_of es) distinct) j (its x e.0 0 e.1.channels i).0)

-- ---- what is counted on them

same_sum : {A : Type 0} (f g : A → ℕ) (xs : List A) → ((x : A) → IsIn x xs → f x ≡ g x) → sum_by f xs ≡ sum_by g xs
same_sum f g [] same = refl
same_sum f g (x ∷ xs) same =
    sum_by-cons f x xs
    ∙ ap (λ (n : ℕ). n + sum_by f xs) (same x (inl refl))
    ∙ ap (λ (n : ℕ). g x + n) (same_sum f g xs (λ y i. same y (inr i)))
    ∙ sym (sum_by-cons g x xs)

sum_at : (f : ChannelName → ℕ) (g : Option Open → ℕ) (c h : ℕ) (os : List (Option Open)) → ((k : ℕ) → f (name c (h + k)) ≡ g (get_or os k None)) → sum_by f (names_at c h os) ≡ sum_by g os
sum_at f g c h [] same = refl
sum_at f g c h (o ∷ os) same =
    let here : h + 0 ≡ h = omega arith in
    sum_by-cons f (name c h) (names_at c (h + 1) os)
    ∙ ap (λ (n : ℕ). n + sum_by f (names_at c (h + 1) os)) (ap (λ (n : ℕ). f (name c n)) (sym here) ∙ same 0)
    ∙ ap (λ (n : ℕ). g o + n) (sum_at f g c (h + 1) os (λ k. let next : (h + 1) + k ≡ h + suc k = omega arith in ap (λ (n : ℕ). f (name c n)) next ∙ same (suc k)))
    ∙ sym (sum_by-cons g o os)

abbrev pub on : ℕ → List (ℕ × Running) → ChannelName → ℕ
on queue es x = consumers_at queue (channel_of es x.connection x.number)

found : (l : Running) (es : List (ℕ × Running)) (c : ℕ) → lookup (nat_eq c) ((c, l) ∷ es) ≡ Some l
found l es c = ap (λ (b : Bool). cond b (Some l) (lookup (nat_eq c) es)) (eq-eqb c c refl)

missed : (e : ℕ × Running) (es : List (ℕ × Running)) (c : ℕ) → (c ≡ e.0 → ⊥) → lookup (nat_eq c) (e ∷ es) ≡ lookup (nat_eq c) es
missed e es c other = go (nat_eq c e.0) refl
  where
    go : (b : Bool) → nat_eq c e.0 ≡ b → cond b (Some e.1) (lookup (nat_eq c) es) ≡ lookup (nat_eq c) es
    go true same = absurd (other (eqb-true c e.0 same))
    go false same = refl

-- a channel of the first connection
on_head : (queue : ℕ) (e : ℕ × Running) (es : List (ℕ × Running)) (k : ℕ) → on queue (e ∷ es) (name e.0 (0 + k)) ≡ consumers_at queue (get_or e.1.channels k None)
on_head queue e es k =
    let zero : 0 + k ≡ k = omega arith in
    ap (λ (h : ℕ). on queue (e ∷ es) (name e.0 h)) zero ∙ ap (λ (o : Option Running). consumers_at queue (channel_at o k)) (found e.1 es e.0)

pub all_sum : (queue : ℕ) (es : List (ℕ × Running)) → IsDistinct nat_eq (keys_of es) → sum_by (on queue es) (names_in es) ≡ sum_by (consumers_counted queue) (values_of es)
all_sum queue [] distinct = refl
all_sum queue (e ∷ es) distinct =
    let head = names_at e.0 0 e.1.channels in
    sum_by-append (on queue (e ∷ es)) head (names_in es)
    ∙ ap (λ (n : ℕ). n + sum_by (on queue (e ∷ es)) (names_in es)) (sum_at (on queue (e ∷ es)) (consumers_at queue) e.0 0 e.1.channels (on_head queue e es))
    ∙ ap (λ (n : ℕ). consumers_counted queue e.1 + n)
    (same_sum (on queue (e ∷ es)) (on queue es) (names_in es) (λ x i. ap (λ (o : Option Running). consumers_at queue (channel_at o x.number)) (missed e es x.connection (none_of x e.0 es (IsDistinct-head nat_eq e.0 (keys_of es) distinct) i)))
    ∙ all_sum queue es (IsDistinct-tail nat_eq e.0 (keys_of es) distinct))
    ∙ sym (sum_by-cons (consumers_counted queue) e.1 (values_of es))

-- where nothing is left to be counted, the count is the whole
pub no_more : (count left : ℕ) → left ≡ 0 → count ≤ greatest → count ≡ min (count + left) greatest
no_more count left none most = omega (arith, none, most)

-- each open channel is one of the list, and none is there twice
pub all_channels : (es : List (ℕ × Running)) → IsDistinct nat_eq (keys_of es) → HasChannels es
all_channels es distinct = record { channels = names_in es; all = all_there es; distinct = apart_pairs (names_in es) (apart_in es distinct) }

-- the sum over all connections is the count of all channels
pub counts_all : (es : List (ℕ × Running)) (queue count : ℕ) → IsDistinct nat_eq (keys_of es) → count ≡ min (sum_by (consumers_counted queue) (values_of es)) greatest → CountsConsumers es queue count
counts_all es queue count distinct is = record {
  channels = names_in es;
  all = all_there es;
  distinct = apart_pairs (names_in es) (apart_in es distinct);
  counted = is ∙ ap (λ (n : ℕ). min n greatest) (sym (all_sum queue es distinct));
}
