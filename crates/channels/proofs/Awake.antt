-- Which consumers are awake once some were woken.
use Rattle.channels.proofs.Imports.{◌≡◌, ℕ, zero, suc, ◌+◌, ◌<◌, ◌≤◌, List, [], ◌∷◌, length, get_or, map, Bool, true, false, Option, Some, None, inl, inr, refl, sym, ap, subst, ◌∙◌, arith, ◌⊎◌, ◌||◌, All, leb_tells, eqb-true, IsIn, is_below, count_to, count_given, taker_of, has_tag_left, consumers_of, counts_of, AreNumbered, IsWoken, may_held, may_of, Open, HasNoTaker, Delivery, Consumer, CountedConsumer}
use Rattle.std.specs.Prelude.{◌&&◌}
use Rattle.std.proofs.Math.ListN as numbered
use Rattle.std.proofs.lemmas.List.{get_or_default}
use Rattle.channels.specs.Waking.{AreWoken, AreWokenOn}
use Rattle.channels.proofs.Counting.{head_is, tail_is}
use Rattle.channels.proofs.Numbering.{cannot, found_at}

-- ---- one after another

same_may : (limit given : ℕ) (s x : CountedConsumer) → s.consumer ≡ x.consumer → s.held ≡ x.held → may_held limit given (Some s) ≡ may_held limit given (Some x)
same_may limit given s x e f =
    ap (λ (k : Consumer). k.no_ack || (is_below k.limit s.held && is_below limit given)) e
    ∙ ap (λ (n : ℕ). x.consumer.no_ack || (is_below x.consumer.limit n && is_below limit given)) f

-- those before index `i` are awake, if they may be given one more message
abbrev pub AreWokenBelow : ℕ → ℕ → (ℕ → ℕ → Type 0) → List CountedConsumer → ℕ → Type 0
AreWokenBelow limit given Awake xs i = (k : ℕ) (d : CountedConsumer) → k < i → k < length xs → IsWoken limit given Awake (get_or xs k d)

-- one more of them
pub woken_next : (limit given : ℕ) (A B : ℕ → ℕ → Type 0) (first now : List CountedConsumer) (i : ℕ) (x : CountedConsumer) → consumers_of now ≡ consumers_of first → counts_of now ≡ counts_of first
    → i < length now → ((q n : ℕ) → A q n → B q n) → IsWoken limit given B (get_or now i x) → AreWokenBelow limit given A first i → AreWokenBelow limit given B first (i + 1)
woken_next limit given A B first now i x same_consumers same_counts lt stay woken before k d less within = elim (leb_tells (k + 1) i) [
  | inl a ↦ let lower = a.1 in λ may. stay _ _ (before k d (omega (arith, lower)) within may)
  | inr a ↦ let upper = a.1 in subst (λ (j : ℕ). IsWoken limit given B (get_or first j d)) (omega (arith, less, upper)) here
]
  where
    there : get_or now i d ≡ get_or now i x
    there = get_or_default now i d x lt

    its_consumer : (get_or first i d).consumer ≡ (get_or now i x).consumer
    its_consumer =
        sym (numbered.get_or-map (λ (s : CountedConsumer). s.consumer) first i d) ∙ ap (λ (ks : List Consumer). get_or ks i d.consumer) (sym same_consumers)
        ∙ numbered.get_or-map (λ (s : CountedConsumer). s.consumer) now i d ∙ ap (λ (s : CountedConsumer). s.consumer) there

    its_count : (get_or first i d).held ≡ (get_or now i x).held
    its_count =
        sym (numbered.get_or-map (λ (s : CountedConsumer). s.held) first i d) ∙ ap (λ (ns : List ℕ). get_or ns i d.held) (sym same_counts)
        ∙ numbered.get_or-map (λ (s : CountedConsumer). s.held) now i d ∙ ap (λ (s : CountedConsumer). s.held) there

    here : IsWoken limit given B (get_or first i d)
    here may = subst (λ (k : Consumer). B k.queue k.number) (sym its_consumer) (woken (sym (same_may limit given (get_or first i d) (get_or now i x) its_consumer its_count) ∙ may))

-- ---- all of a channel

-- whoever may be given one more message by the counts may be by what is outstanding
pub woken_in : (limit given : ℕ) (A : ℕ → ℕ → Type 0) (os : List Delivery) (xs : List CountedConsumer) → counts_of xs ≡ map (λ (c : Consumer). count_to taker_of c.number os) (consumers_of xs) → given ≡ count_given taker_of os
    → All (IsWoken limit given A) xs → (k : Consumer) → IsIn k (consumers_of xs) → may_of limit os (Some k) ≡ true → A k.queue k.number
woken_in limit given A os [] h g all k i may = absurd i
woken_in limit given A os (x ∷ xs) h g all k (inl is) may =
    subst (λ (c : Consumer). A c.queue c.number) (sym is) (all zero x (omega arith) (told ∙ ap (λ (c : Consumer). may_of limit os (Some c)) (sym is) ∙ may))
  where
    told : may_held limit given (Some x) ≡ may_of limit os (Some x.consumer)
    told =
        ap (λ (n : ℕ). x.consumer.no_ack || (is_below x.consumer.limit n && is_below limit given)) (head_is _ _ _ _ h)
        ∙ ap (λ (n : ℕ). x.consumer.no_ack || (is_below x.consumer.limit (count_to taker_of x.consumer.number os) && is_below limit n)) g
woken_in limit given A os (x ∷ xs) h g all k (inr i) may = woken_in limit given A os xs (tail_is _ _ _ _ h) g (λ j d lt. all (suc j) d (omega (arith, lt))) k i may

and_false : (b : Bool) → (b && false) ≡ false
and_false true = refl
and_false false = refl

pub all_woken : (A : ℕ → ℕ → Type 0) (ch : Open) → AreNumbered ch.given.next_number ch.given.consumers
    → ((k : Consumer) → IsIn k ch.given.consumers → may_of ch.given.limit ch.given.outstanding (Some k) ≡ true → A k.queue k.number) → AreWoken A ch
all_woken A ch rise woken k i = go (may_of ch.given.limit ch.given.outstanding (Some k)) refl
  where
    go : (b : Bool) → may_of ch.given.limit ch.given.outstanding (Some k) ≡ b → A k.queue k.number ⊎ HasNoTaker ch k.number
    go true may = inl (woken k i may)
    go false may = inr (cannot ch k.number rise
        (ap (λ (o : Option Consumer). has_tag_left ch.given.next_tag && may_of ch.given.limit ch.given.outstanding o) (found_at ch.given.next_number ch.given.consumers k rise i)
        ∙ ap (λ (b : Bool). has_tag_left ch.given.next_tag && b) may ∙ and_false (has_tag_left ch.given.next_tag)))

-- ---- all channels of a connection

woken_stay : (A B : ℕ → ℕ → Type 0) (ch : Open) → ((q n : ℕ) → A q n → B q n) → AreWoken A ch → AreWoken B ch
woken_stay A B ch stay woken k i = elim (woken k i) [
  | inl awake ↦ inl (stay k.queue k.number awake)
  | inr cannot_take ↦ inr cannot_take
]

-- one more of them
pub woken_channels : (A B : ℕ → ℕ → ℕ → Type 0) (cs : List (Option Open)) (at : ℕ) (d : Option Open) → at < length cs → ((q h n : ℕ) → A q h n → B q h n)
    → ((ch : Open) → get_or cs at d ≡ Some ch → AreWoken (λ q. B q at) ch) → ((h : ℕ) (ch : Open) → h < at → get_or cs h None ≡ Some ch → AreWoken (λ q. A q h) ch)
    → (h : ℕ) (ch : Open) → h < at + 1 → get_or cs h None ≡ Some ch → AreWoken (λ q. B q h) ch
woken_channels A B cs at d lt stay one before h ch less is = elim (leb_tells (h + 1) at) [
  | inl a ↦ let lower = a.1 in woken_stay (λ q. A q h) (λ q. B q h) ch (λ q n. stay q h n) (before h ch (omega (arith, lower)) is)
  | inr a ↦ let upper = a.1 in here (omega (arith, less, upper))
]
  where
    here : h ≡ at → AreWoken (λ q. B q h) ch
    here e = subst (λ (j : ℕ). AreWoken (λ q. B q j) ch) (sym e) (one ch (get_or_default cs at d None lt ∙ ap (λ (j : ℕ). get_or cs j None) (sym e) ∙ is))

-- the one with this number
pub woken_at : (A : ℕ → ℕ → ℕ → Type 0) (channels : ℕ → Option Open) (number : ℕ) → ((ch : Open) → channels number ≡ Some ch → AreWoken (λ q. A q number) ch) → AreWokenOn A channels (Some number)
woken_at A channels number one h ch its is = let e = eqb-true h number its in subst (λ (j : ℕ). AreWoken (λ q. A q j) ch) (sym e) (one ch (ap channels (sym e) ∙ is))
