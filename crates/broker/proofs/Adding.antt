-- Those who leave are found, one after another.
use Rattle.broker.proofs.Names.{◌∙◌, ◌<◌, ◌≤◌, ◌+◌, ℕ, zero, suc, List, [], ◌∷◌, Option, Some, None, length, inl, inr, refl, sym, ap, subst, arith, is_some, false≢true, leb_tells, same_Some, get_or, get_or_past, IsIn, channel_in, Pick, Gone, IsAmong, consumer_at, AddsLeaver, AreAdded, IsConsumerIn}
use Rattle.std.proofs.Common.{◌≡◌, ◌⊎◌}
use Rattle.channels.specs.Open.{Open}
use Rattle.channels.specs.RunningConnections.{Running}
use Rattle.channels.specs.declared.consumers.Consumer.{Consumer}
use Rattle.channels.specs.declared.consumers.Seat.{Seat}
use Rattle.channels.specs.Seats.{IsSeatAt}
use Rattle.broker.proofs.Lists.{place_of_in}

-- the consumer is one of the first `n` of a channel
pub record IsFirstOf (n : ℕ) (ks : List Consumer) (k : Consumer) : Type 0 where
  pub at : ℕ
  pub less : at < n
  pub within : at < length ks
  pub there : (d : Consumer) → get_or ks at d ≡ k

module _ (c count : ℕ) where
  -- one more is
  pub one_added : (those more : ℕ → Consumer → Type 0) (p : Pick) (queue : ℕ) (old mid new : Gone) (before between after : List ℕ)
      → ((h : ℕ) (k : Consumer) → those h k → more h k) → ((h : ℕ) (k : Consumer) → more h k → those h k ⊎ ((k.queue ≡ queue) × (consumer_at c h k.number ≡ p)))
      → ((h : ℕ) × (k : Consumer) × more h k × (p ≡ consumer_at c h k.number))
      → AreAdded c those count old before mid between → AddsLeaver p queue count mid between new after → AreAdded c more count old before new after
  one_added those more p queue old mid new before between after wider either its added adds = record {
    size = adds.size ∙ added.size;
    stay = λ n q i. adds.stay n q (added.stay n q i);
    come = λ h k m. elim (either h k m) [
      | inl was ↦ adds.stay k.queue (consumer_at c h k.number) (added.come h k was)
      | inr here ↦ subst (λ (n : ℕ). IsAmong count new after n (consumer_at c h k.number)) (sym here.0) (subst (IsAmong count new after queue) (sym here.1) adds.come)
    ];
    one = λ q s e. elim (adds.one q s e) [
      | inl was ↦ elim (added.one q s was) [ inl first ↦ inl first | inr t ↦ inr (t.0, t.1, wider t.0 t.1 t.2, t.3) ]
      | inr same ↦ inr (its.0, its.1, its.2, same ∙ its.3)
    ];
  }

  -- and those of one channel more
  pub both_added : (those more all : ℕ → Consumer → Type 0) (old mid new : Gone) (before between after : List ℕ)
      → ((h : ℕ) (k : Consumer) → all h k → those h k ⊎ more h k) → ((h : ℕ) (k : Consumer) → those h k → all h k) → ((h : ℕ) (k : Consumer) → more h k → all h k)
      → AreAdded c those count old before mid between → AreAdded c more count mid between new after → AreAdded c all count old before new after
  both_added those more all old mid new before between after either left right first second = record {
    size = second.size ∙ first.size;
    stay = λ n q i. second.stay n q (first.stay n q i);
    come = λ h k its. elim (either h k its) [ inl was ↦ second.stay k.queue (consumer_at c h k.number) (first.come h k was) | inr here ↦ second.come h k here ];
    one = λ q s e. elim (second.one q s e) [
      | inl was ↦ elim (first.one q s was) [ inl same ↦ inl same | inr t ↦ inr (t.0, t.1, left t.0 t.1 t.2, t.3) ]
      | inr t ↦ inr (t.0, t.1, right t.0 t.1 t.2, t.3)
    ];
  }

  -- the same consumers, told otherwise
  pub same_added : (those all : ℕ → Consumer → Type 0) (old new : Gone) (before after : List ℕ) → ((h : ℕ) (k : Consumer) → all h k → those h k) → ((h : ℕ) (k : Consumer) → those h k → all h k)
      → AreAdded c those count old before new after → AreAdded c all count old before new after
  same_added those all old new before after into out added = record {
    size = added.size;
    stay = added.stay;
    come = λ h k its. added.come h k (into h k its);
    one = λ q s e. elim (added.one q s e) [ inl first ↦ inl first | inr t ↦ inr (t.0, t.1, out t.0 t.1 t.2, t.3) ];
  }

-- no channel is behind the last slot
pub none_behind : (l : Running) (h : ℕ) (k : Consumer) → IsConsumerIn (channel_in l h) k → length l.channels ≤ h → ⊥
none_behind l h k (ch, is, i) past = false≢true (ap is_some (sym (get_or_past l.channels h None past) ∙ is))

-- ---- the consumers of a channel

-- there is a consumer at each index
at_index : (ks : List Consumer) (n : ℕ) → n < length ks → (k : Consumer) × ((d : Consumer) → get_or ks n d ≡ k)
at_index [] n lt = absurd (omega (arith, lt))
at_index (x ∷ xs) zero lt = (x, λ d. refl)
at_index (x ∷ xs) (suc n) lt = at_index xs n (omega (arith, lt))

in_at : (ks : List Consumer) (n : ℕ) (k : Consumer) → n < length ks → get_or ks n k ≡ k → IsIn k ks
in_at [] n k lt e = absurd (omega (arith, lt))
in_at (x ∷ xs) zero k lt e = inl (sym e)
in_at (x ∷ xs) (suc n) k lt e = inr (in_at xs n k (omega (arith, lt)) e)

module _ (c count number : ℕ) where
  -- of one more
  pub first_more : (index : ℕ) (ks : List Consumer) (s : Seat) (p : Pick) (old mid new : Gone) (before between after : List ℕ) → index < length ks → IsSeatAt ks index s → p ≡ consumer_at c number s.number
      → AreAdded c (λ h k. (h ≡ number) × IsFirstOf index ks k) count old before mid between → AddsLeaver p s.queue count mid between new after
      → AreAdded c (λ h k. (h ≡ number) × IsFirstOf (index + 1) ks k) count old before new after
  first_more index ks s p old mid new before between after lt seat is added adds =
      one_added c count (λ h k. (h ≡ number) × IsFirstOf index ks k) (λ h k. (h ≡ number) × IsFirstOf (index + 1) ks k) p s.queue old mid new before between after wider either its added adds
    where
      wider : (h : ℕ) (k : Consumer) → (h ≡ number) × IsFirstOf index ks k → (h ≡ number) × IsFirstOf (index + 1) ks k
      wider h k t = let less = t.1.less in (t.0, record { at = t.1.at; less = omega (arith, less); within = t.1.within; there = t.1.there })

      here : (k : Consumer) → get_or ks index k ≡ k → (k.queue ≡ s.queue) × (k.number ≡ s.number)
      here k e = (sym (seat.queue k ∙ ap (λ (x : Consumer). x.queue) e), sym (seat.number k ∙ ap (λ (x : Consumer). x.number) e))

      either : (h : ℕ) (k : Consumer) → (h ≡ number) × IsFirstOf (index + 1) ks k → ((h ≡ number) × IsFirstOf index ks k) ⊎ ((k.queue ≡ s.queue) × (consumer_at c h k.number ≡ p))
      either h k t = elim (leb_tells (t.1.at + 1) index) [
        | inl a ↦ let less = a.1 in inl (t.0, record { at = t.1.at; less = omega (arith, less); within = t.1.within; there = t.1.there })
        | inr a ↦
            let more = a.1 in
            let less = t.1.less in
            let same : t.1.at ≡ index = omega (arith, more, less) in
            let one = here k (ap (λ (n : ℕ). get_or ks n k) (sym same) ∙ t.1.there k) in
            inr (one.0, ap (λ (n : ℕ). consumer_at c n k.number) t.0 ∙ ap (consumer_at c number) one.1 ∙ sym is)
      ]

      its : (h : ℕ) × (k : Consumer) × ((h ≡ number) × IsFirstOf (index + 1) ks k) × (p ≡ consumer_at c h k.number)
      its =
          let k = at_index ks index lt in
          let one = here k.0 (k.1 k.0) in
          (number, k.0, (refl, record { at = index; less = omega arith; within = lt; there = k.1 }), is ∙ ap (consumer_at c number) (sym one.1))

  -- of all of them
  pub first_all : (o : Option Open) (ch : Open) (old new : Gone) (before after : List ℕ) → o ≡ Some ch → AreAdded c (λ h k. (h ≡ number) × IsFirstOf (length ch.given.consumers) ch.given.consumers k) count old before new after
      → AreAdded c (λ h k. (h ≡ number) × IsConsumerIn o k) count old before new after
  first_all o ch old new before after is added =
      same_added c count (λ h k. (h ≡ number) × IsFirstOf (length ch.given.consumers) ch.given.consumers k) (λ h k. (h ≡ number) × IsConsumerIn o k) old new before after
      (λ h k t. (t.0, first k (subst (λ (x : Open). IsIn k x.given.consumers) (same_Some t.1.0 ch (sym t.1.1 ∙ is)) t.1.2)))
      (λ h k t. (t.0, (ch, is, in_at ch.given.consumers t.1.at k t.1.within (t.1.there k))))
      added
    where
      first : (k : Consumer) → IsIn k ch.given.consumers → IsFirstOf (length ch.given.consumers) ch.given.consumers k
      first k i = let at = place_of_in k ch.given.consumers i in record { at = at.0; less = at.1; within = at.1; there = at.2 }

-- ---- the consumers of a connection

module _ (c count : ℕ) (l : Running) where
  -- of one more
  pub slot_more : (place : ℕ) (o : Option Open) (old mid new : Gone) (before between after : List ℕ) → o ≡ channel_in l place
      → AreAdded c (λ h k. (h < place) × IsConsumerIn (channel_in l h) k) count old before mid between → AreAdded c (λ h k. (h ≡ place) × IsConsumerIn o k) count mid between new after
      → AreAdded c (λ h k. (h < place + 1) × IsConsumerIn (channel_in l h) k) count old before new after
  slot_more place o old mid new before between after is first second =
      both_added c count (λ h k. (h < place) × IsConsumerIn (channel_in l h) k) (λ h k. (h ≡ place) × IsConsumerIn o k) (λ h k. (h < place + 1) × IsConsumerIn (channel_in l h) k) old mid new before between after
      either (λ h k t. let less = t.0 in (omega (arith, less), t.1)) (λ h k t. let same = t.0 in (omega (arith, same), subst (λ (x : Option Open). IsConsumerIn x k) (is ∙ ap (channel_in l) (sym t.0)) t.1)) first second
    where
      either : (h : ℕ) (k : Consumer) → (h < place + 1) × IsConsumerIn (channel_in l h) k → ((h < place) × IsConsumerIn (channel_in l h) k) ⊎ ((h ≡ place) × IsConsumerIn o k)
      either h k t = elim (leb_tells (h + 1) place) [
        | inl a ↦ let less = a.1 in inl (omega (arith, less), t.1)
        | inr a ↦
            let more = a.1 in
            let less = t.0 in
            let same : h ≡ place = omega (arith, more, less) in
            inr (same, subst (λ (x : Option Open). IsConsumerIn x k) (ap (channel_in l) same ∙ sym is) t.1)
      ]

  -- of all of them
  pub slot_all : (slots : ℕ) (old new : Gone) (before after : List ℕ) → slots ≡ length l.channels → AreAdded c (λ h k. (h < slots) × IsConsumerIn (channel_in l h) k) count old before new after
      → AreAdded c (λ h k. IsConsumerIn (channel_in l h) k) count old before new after
  slot_all slots old new before after long added =
      same_added c count (λ h k. (h < slots) × IsConsumerIn (channel_in l h) k) (λ h k. IsConsumerIn (channel_in l h) k) old new before after
      (λ h k i. (inside h k i, i)) (λ h k t. t.1) added
    where
      inside : (h : ℕ) (k : Consumer) → IsConsumerIn (channel_in l h) k → h < slots
      inside h k i = elim (leb_tells (h + 1) slots) [
        | inl a ↦ let less = a.1 in omega (arith, less)
        | inr a ↦ let more = a.1 in absurd (none_behind l h k i (omega (arith, more, long)))
      ]
