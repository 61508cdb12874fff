-- Consumers in a line: what becomes of the order, and of those who sleep.
use Rattle.broker.proofs.Names.{◌∙◌, ◌++◌, ℕ, Option, Some, None, is_some, length, arith, List, [], ◌∷◌, Bool, true, false, cond, filter, drop, inl, inr, refl, sym, ap, subst, not, ◌==◌, ◌&&◌, eqb-true, eq-eqb, false≢true, IsIn, Kept, IsPickFrom, Pick, AllDistinct, Member, items_of, all_awake, Loses, NonePass, Wakes, AllAsleep, Rest, PicksOne, is_consumer, is_other, awake_member, asleep_member, GoesLast}
use Rattle.std.proofs.Common.{◌≡◌, ◌⊎◌}
use Rattle.std.specs.Prelude.{IfNone}
use Rattle.waiting_lines.proofs.Swept.{items_append, items_awake}
use Rattle.broker.proofs.Lists.{in_either, in_left, in_right, filter_all}
use Rattle.broker.proofs.Waking.{both}

-- ---- one consumer and another

pub one_consumer : (p : Pick) → is_consumer p p ≡ true
one_consumer p = go (p.connection == p.connection) (p.channel == p.channel) (p.number == p.number) (eq-eqb p.connection p.connection refl) (eq-eqb p.channel p.channel refl) (eq-eqb p.number p.number refl)
  where
    go : (u v w : Bool) → u ≡ true → v ≡ true → w ≡ true → (u && (v && w)) ≡ true
    go true true true a b c = refl
    go true true false a b c = absurd (false≢true c)
    go true false w a b c = absurd (false≢true b)
    go false v w a b c = absurd (false≢true a)

pub same_consumer : (p q : Pick) → is_consumer p q ≡ true → p ≡ q
same_consumer p q e =
    let parts = both (p.connection == q.connection) ((p.channel == q.channel) && (p.number == q.number)) e in
    let rest = both (p.channel == q.channel) (p.number == q.number) parts.1 in
    ap (λ (c : ℕ). one c p.channel p.number) (eqb-true p.connection q.connection parts.0) ∙ ap (λ (h : ℕ). one q.connection h p.number) (eqb-true p.channel q.channel rest.0) ∙ ap (one q.connection q.channel) (eqb-true p.number q.number rest.1)
  where
    one : ℕ → ℕ → ℕ → Pick
    one c h n = record { connection = c; channel = h; number = n }

pub other : (p q : Pick) → (p ≡ q → ⊥) → is_other p q ≡ true
other p q far = go (is_consumer p q) refl
  where
    go : (v : Bool) → is_consumer p q ≡ v → not v ≡ true
    go true e = absurd (far (same_consumer p q e))
    go false e = refl

is_self : (p q : Pick) → p ≡ q → is_other p q ≡ false
is_self p q e = ap not (ap (is_consumer p) (sym e) ∙ one_consumer p)

-- ---- who is in a line

pub items_in : (m : Member Pick) (ms : List (Member Pick)) → IsIn m ms → IsIn m.item (items_of ms)
items_in m [] i = absurd i
items_in m (x ∷ ms) (inl e) = inl (ap (λ (y : Member Pick). y.item) e)
items_in m (x ∷ ms) (inr i) = inr (items_in m ms i)

-- awake or asleep
pub in_items : (p : Pick) (ms : List (Member Pick)) → IsIn p (items_of ms) → IsIn (awake_member p) ms ⊎ IsIn (asleep_member p) ms
in_items p [] i = absurd i
in_items p (m ∷ ms) (inl e) = go m.awake refl
  where
    go : (v : Bool) → m.awake ≡ v → IsIn (awake_member p) (m ∷ ms) ⊎ IsIn (asleep_member p) (m ∷ ms)
    go true up = inl (inl (ap (λ (q : Pick). awake_member q) e ∙ ap (λ (v : Bool). record { item = m.item; awake = v }) (sym up)))
    go false up = inr (inl (ap (λ (q : Pick). asleep_member q) e ∙ ap (λ (v : Bool). record { item = m.item; awake = v }) (sym up)))
in_items p (m ∷ ms) (inr i) = elim (in_items p ms i) [ inl a ↦ inl (inr a) | inr a ↦ inr (inr a) ]

-- one that is once in a list is in no other part of it
apart : {X : Type 0} (front : List X) (x : X) (back : List X) → AllDistinct (front ++ x ∷ back) → IsIn x front ⊎ IsIn x back → ⊥
apart [] x back d (inl i) = i
apart [] x back d (inr i) = d.0 i
apart {X} (y ∷ front) x back d (inl (inl e)) = d.0 (subst (λ (z : X). IsIn z (front ++ x ∷ back)) e (in_right x front (x ∷ back) (inl refl)))
apart (y ∷ front) x back d (inl (inr i)) = apart front x back d.1 (inl i)
apart (y ∷ front) x back d (inr i) = apart front x back d.1 (inr i)

-- ---- one leaves

-- the others are left
others_left : (q : Pick) (front : List Pick) (p : Pick) (back : List Pick) → p ≡ q → AllDistinct (front ++ p ∷ back) → filter (λ x. is_other x q) (front ++ p ∷ back) ≡ front ++ back
others_left q [] p back e d =
    subst (λ (v : Bool). cond v (p ∷ filter (λ x. is_other x q) back) (filter (λ x. is_other x q) back) ≡ back) (sym (is_self p q e))
    (filter_all (λ x. is_other x q) back (λ x i. other x q (λ same. d.0 (subst (λ (z : Pick). IsIn z back) (same ∙ sym e) i))))
others_left q (x ∷ front) p back e d =
    subst (λ (v : Bool). cond v (x ∷ filter (λ y. is_other y q) (front ++ p ∷ back)) (filter (λ y. is_other y q) (front ++ p ∷ back)) ≡ x ∷ front ++ back)
    (sym (other x q (λ same. d.0 (subst (λ (z : Pick). IsIn z (front ++ p ∷ back)) (e ∙ sym same) (in_right p front (p ∷ back) (inl refl))))))
    (ap (λ (ys : List Pick). x ∷ ys) (others_left q front p back e d.1))

none_items : (test : Pick → Bool) (ms : List (Member Pick)) → NonePass test ms → (x : Pick) → IsIn x (items_of ms) → test x ≡ false
none_items test [] none x i = absurd i
none_items test (m ∷ ms) none x (inl e) = ap test e ∙ none.0
none_items test (m ∷ ms) none x (inr i) = none_items test ms none.1 x i

pub line_lost : (q : Pick) (old new : List (Member Pick)) → AllDistinct (items_of old) → Loses (λ p. is_consumer p q) old new → items_of new ≡ filter (λ p. is_other p q) (items_of old)
line_lost q old new once (inl l) =
    let whole : items_of old ≡ items_of l.front ++ l.gone.item ∷ items_of l.back = ap (λ (ms : List (Member Pick)). items_of ms) l.was ∙ items_append l.front (l.gone ∷ l.back) in
    ap (λ (ms : List (Member Pick)). items_of ms) l.now ∙ items_append l.front l.back
    ∙ sym (ap (filter (λ p. is_other p q)) whole ∙ others_left q (items_of l.front) l.gone.item (items_of l.back) (same_consumer l.gone.item q l.passes) (subst (λ (ps : List Pick). AllDistinct ps) whole once))
line_lost q old new once (inr l) =
    ap (λ (ms : List (Member Pick)). items_of ms) l.1 ∙ sym (filter_all (λ p. is_other p q) (items_of old) (λ x i. ap not (none_items (λ p. is_consumer p q) old l.0 x i)))

pub lost_in : (test : Pick → Bool) (old new : List (Member Pick)) → Loses test old new → (m : Member Pick) → IsIn m new → IsIn m old
lost_in test old new (inl l) m i =
    subst (IsIn m) (sym l.was)
    (elim (in_either m l.front l.back (subst (IsIn m) l.now i)) [ inl j ↦ in_left m l.front (l.gone ∷ l.back) j | inr j ↦ in_right m l.front (l.gone ∷ l.back) (inr j) ])
lost_in test old new (inr l) m i = subst (IsIn m) l.1 i

-- ---- one is woken

pub line_woken : (test : Pick → Bool) (old new : List (Member Pick)) → Wakes test old new → items_of new ≡ items_of old
line_woken test old new (inl w) =
    ap (λ (ms : List (Member Pick)). items_of ms) w.now ∙ items_append w.front (awake_member w.woken.item ∷ w.back)
    ∙ sym (ap (λ (ms : List (Member Pick)). items_of ms) w.was ∙ items_append w.front (w.woken ∷ w.back))
line_woken test old new (inr w) = ap (λ (ms : List (Member Pick)). items_of ms) w.1

pub up_down : (p q : Pick) → asleep_member p ≡ awake_member q → ⊥
up_down p q e = false≢true (ap (λ (m : Member Pick). m.awake) e)

pub woken_in : (test : Pick → Bool) (old new : List (Member Pick)) → Wakes test old new → (p : Pick) → IsIn (asleep_member p) new → IsIn (asleep_member p) old
woken_in test old new (inl w) p i = subst (IsIn (asleep_member p)) (sym w.was) (go (in_either (asleep_member p) w.front (awake_member w.woken.item ∷ w.back) (subst (IsIn (asleep_member p)) w.now i)))
  where
    go : IsIn (asleep_member p) w.front ⊎ IsIn (asleep_member p) (awake_member w.woken.item ∷ w.back) → IsIn (asleep_member p) (w.front ++ w.woken ∷ w.back)
    go (inl j) = in_left (asleep_member p) w.front (w.woken ∷ w.back) j
    go (inr (inl e)) = absurd (up_down p w.woken.item e)
    go (inr (inr j)) = in_right (asleep_member p) w.front (w.woken ∷ w.back) (inr j)
woken_in test old new (inr w) p i = subst (IsIn (asleep_member p)) w.1 i

-- it sleeps no longer
pub woken_up : (q : Pick) (old new : List (Member Pick)) → Wakes (λ p. is_consumer p q) old new → AllDistinct (items_of new) → IsIn (asleep_member q) new → ⊥
woken_up q old new (inl w) once i = go (in_either (asleep_member q) w.front (awake_member w.woken.item ∷ w.back) (subst (IsIn (asleep_member q)) w.now i))
  where
    same : w.woken.item ≡ q
    same = same_consumer w.woken.item q w.passes

    distinct : AllDistinct (items_of w.front ++ q ∷ items_of w.back)
    distinct = subst (λ (x : Pick). AllDistinct (items_of w.front ++ x ∷ items_of w.back)) same
        (subst (λ (ps : List Pick). AllDistinct ps) (ap (λ (ms : List (Member Pick)). items_of ms) w.now ∙ items_append w.front (awake_member w.woken.item ∷ w.back)) once)

    go : IsIn (asleep_member q) w.front ⊎ IsIn (asleep_member q) (awake_member w.woken.item ∷ w.back) → ⊥
    go (inl j) = apart (items_of w.front) q (items_of w.back) distinct (inl (items_in (asleep_member q) w.front j))
    go (inr (inl e)) = up_down q w.woken.item e
    go (inr (inr j)) = apart (items_of w.front) q (items_of w.back) distinct (inr (items_in (asleep_member q) w.back j))
woken_up q old new (inr w) once i =
    false≢true (sym (none_items (λ p. is_consumer p q) old w.0 q (items_in (asleep_member q) old (subst (IsIn (asleep_member q)) w.1 i))) ∙ one_consumer q)

-- ---- all are awake

pub none_sleeps : (xs : List Pick) (p : Pick) → IsIn (asleep_member p) (all_awake xs) → ⊥
none_sleeps [] p i = i
none_sleeps (x ∷ xs) p (inl e) = up_down p x e
none_sleeps (x ∷ xs) p (inr i) = none_sleeps xs p i

pub line_swept : (test : Pick → Bool) (old new : List (Member Pick)) → new ≡ all_awake (filter test (items_of old)) → items_of new ≡ filter test (items_of old)
line_swept test old new e = ap (λ (ms : List (Member Pick)). items_of ms) e ∙ items_awake (filter test (items_of old))

-- ---- some fall asleep

pub none_up : (ms : List (Member Pick)) (p : Pick) → AllAsleep ms → IsIn (awake_member p) ms → ⊥
none_up [] p all i = i
none_up (m ∷ ms) p all (inl e) = false≢true (sym all.0 ∙ sym (ap (λ (x : Member Pick). x.awake) e))
none_up (m ∷ ms) p all (inr i) = none_up ms p all.1 i

-- nobody is awake where no turn is next
pub none_next : (o : Option ℕ) (ms : List (Member Pick)) (p : Pick) → is_some o ≡ false → IfNone o (AllAsleep (drop 0 ms)) → IsIn (awake_member p) ms → ⊥
none_next None ms p e all i = none_up ms p all i
none_next (Some n) ms p e all i = false≢true (sym e)

-- there are as many consumers as members
pub items_length : (ms : List (Member Pick)) → length (items_of ms) ≡ length ms
items_length [] = refl
items_length (m ∷ ms) = let rest = items_length ms in omega (arith, rest)

module _ (cannot : Pick → Type 0) where
  pub line_rested : (old new : List (Member Pick)) → Rest cannot old new → items_of new ≡ items_of old
  line_rested [] [] r = refl
  line_rested [] (n ∷ ns) r = absurd r
  line_rested (m ∷ ms) [] r = absurd r
  line_rested (m ∷ ms) (n ∷ ns) r = ap (λ (p : Pick). p ∷ items_of ns) r.0 ∙ ap (λ (ps : List Pick). m.item ∷ ps) (line_rested ms ns r.2)

  -- whoever sleeps now slept, or can't take
  pub rested_in : (old new : List (Member Pick)) → Rest cannot old new → (p : Pick) → IsIn (asleep_member p) new → IsIn (asleep_member p) old ⊎ cannot p
  rested_in [] [] r p i = absurd i
  rested_in [] (n ∷ ns) r p i = absurd r
  rested_in (m ∷ ms) [] r p i = absurd r
  rested_in (m ∷ ms) (n ∷ ns) r p (inl e) = elim r.1 [
    | inl same ↦ inl (inl (e ∙ ap (λ (q : Pick). record { item = q; awake = n.awake }) r.0 ∙ ap (λ (v : Bool). record { item = m.item; awake = v }) same))
    | inr rests ↦ inr (subst cannot (sym (ap (λ (x : Member Pick). x.item) e ∙ r.0)) rests.1)
  ]
  rested_in (m ∷ ms) (n ∷ ns) r p (inr i) = elim (rested_in ms ns r.2 p i) [ inl j ↦ inl (inr j) | inr c ↦ inr c ]

-- ---- one is picked

module _ (can cannot : Pick → Type 0) (old new : List (Member Pick)) (x : Pick) (picks : PicksOne can cannot old x new) where
  abbrev front : List (Member Pick)
  front = picks.first.front

  abbrev back : List (Member Pick)
  back = picks.first.back

  abbrev served : Member Pick
  served = awake_member picks.first.item

  now_is : new ≡ back ++ front ++ served ∷ []
  now_is = picks.last served front back picks.first.here

  -- whoever is in the line now was in it while others fell asleep
  in_middle : (m : Member Pick) → IsIn m new → IsIn m picks.middle
  in_middle m i = subst (IsIn m) (sym picks.first.here.was) (go (in_either m (back ++ front) (served ∷ []) (subst (IsIn m) now_is i)))
    where
      go : IsIn m (back ++ front) ⊎ IsIn m (served ∷ []) → IsIn m (front ++ served ∷ back)
      go (inl j) = elim (in_either m back front j) [ inl k ↦ in_right m front (served ∷ back) (inr k) | inr k ↦ in_left m front (served ∷ back) k ]
      go (inr (inl e)) = in_right m front (served ∷ back) (inl e)
      go (inr (inr none)) = absurd none

  pub picked_in : (p : Pick) → IsIn (asleep_member p) new → IsIn (asleep_member p) old ⊎ cannot p
  picked_in p i = rested_in cannot old picks.middle picks.rest p (in_middle (asleep_member p) i)

  pub picked_last : (kept : Kept) (queue : ℕ) → ((p : Pick) → IsIn (asleep_member p) old ⊎ cannot p → IsPickFrom kept queue p → ⊥) → GoesLast kept queue (items_of old) (items_of new) x
  picked_last kept queue none = record {
    front = items_of front;
    back = items_of back;
    was = sym (line_rested cannot old picks.middle picks.rest) ∙ ap (λ (ms : List (Member Pick)). items_of ms) picks.first.here.was ∙ items_append front (served ∷ back)
        ∙ ap (λ (p : Pick). items_of front ++ p ∷ items_of back) (sym picks.its);
    now = ap (λ (ms : List (Member Pick)). items_of ms) now_is ∙ items_append (back ++ front) (served ∷ []) ∙ ap (λ (ps : List Pick). ps ++ picks.first.item ∷ []) (items_append back front)
        ∙ ap (λ (p : Pick). items_of back ++ items_of front ++ p ∷ []) (sym picks.its);
    passed = λ q i pick. elim (in_items q front i) [
      | inl up ↦ none_up front q picks.first.before up
      | inr down ↦ none q (rested_in cannot old picks.middle picks.rest q (subst (IsIn (asleep_member q)) (sym picks.first.here.was) (in_left (asleep_member q) front (served ∷ back) down))) pick
    ];
  }
