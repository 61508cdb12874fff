-- Those who are found leave their lines.
use Rattle.broker.proofs.Names.{◌∙◌, ◌<◌, ◌≤◌, ◌+◌, ℕ, List, [], ◌∷◌, Bool, true, false, cond, length, filter, set, inl, inr, refl, sym, ap, subst, arith, not, ◌==◌, eqb-true, eq-eqb, false≢true, leb_tells, get_or_past, IsIn, Ends, Pick, AllDistinct, Gone, Nobody, One, Several, Leavers, Queue, Loses, is_consumer, is_other, line_of, order, remains, leavers_of, IsAmong, IsNamed, FindsLeavers, LeaveLines, LeavesIfNamed, IsAwake, NobodyFallsAsleep, asleep_member, awake_member}
use Rattle.std.proofs.Common.{◌≡◌}
use Rattle.channels.specs.declared.consumers.Seat.{Seat}
use Rattle.broker.proofs.Lists.{filter_all}
use Rattle.broker.proofs.Marked.{no_line, set_here, set_there, each_set}
use Rattle.broker.proofs.Members.{line_lost, lost_in, other, one_consumer}

-- of those who pass the same tests
filter_alike : {X : Type 0} (f g : X → Bool) (xs : List X) → ((x : X) → IsIn x xs → f x ≡ g x) → filter f xs ≡ filter g xs
filter_alike f g [] same = refl
filter_alike f g (x ∷ xs) same =
    ap (λ (v : Bool). cond v (x ∷ filter f xs) (filter f xs)) (same x (inl refl)) ∙ ap (λ (ys : List _). cond (g x) (x ∷ ys) ys) (filter_alike f g xs (λ y i. same y (inr i)))

-- one line loses a member
module _ (lines : List (Queue Pick)) (queue : ℕ) (l : Queue Pick) (lt : queue < length lines) (q : Pick) (lost : Loses (λ p. is_consumer p q) (line_of lines queue).order l.order) where
  pub lost_asleep : NobodyFallsAsleep lines (set lines queue l)
  lost_asleep place p = each_set lines queue l lt (λ n x y. IsIn (asleep_member p) y.order → IsIn (asleep_member p) x.order) (λ i. lost_in (λ p. is_consumer p q) (line_of lines queue).order l.order lost (asleep_member p) i) (λ n x i. i) place

  pub lost_up : (p : Pick) → IsAwake l p → IsAwake (line_of lines queue) p
  lost_up p i = lost_in (λ p. is_consumer p q) (line_of lines queue).order l.order lost (awake_member p) i

module _ (c h : ℕ) (x : Ends) (count : ℕ) (gone : Gone) (before after : List ℕ) (finds : FindsLeavers c h x count gone before after) (lines : List (Queue Pick)) (long : count ≡ length lines)
    (named : (place : ℕ) (p : Pick) → IsIn p (order (line_of lines place)) → remains (leavers_of c h x) p ≡ false → IsNamed c h x place p) where
  abbrev who : Leavers
  who = leavers_of c h x

  -- a line in which a consumer is exists
  within : (place : ℕ) (p : Pick) → IsIn p (order (line_of lines place)) → place < count
  within place p i = elim (leb_tells (place + 1) (length lines)) [
    | inl a ↦ let lt = a.1 in omega (arith, lt, long)
    | inr a ↦ let past = a.1 in absurd (subst (λ (l : Queue Pick). IsIn p (order l)) (get_or_past lines place no_line (omega (arith, past))) i)
  ]

  -- where nobody of a line leaves it is as it was
  all_remain : (place : ℕ) → ((p : Pick) → IsIn p (order (line_of lines place)) → IsAmong count gone after place p → ⊥) → filter (remains who) (order (line_of lines place)) ≡ order (line_of lines place)
  all_remain place none = filter_all (remains who) (order (line_of lines place)) (λ p i. go p i (remains who p) refl)
    where
      go : (p : Pick) → IsIn p (order (line_of lines place)) → (v : Bool) → remains who p ≡ v → remains who p ≡ true
      go p i true e = e
      go p i false e = absurd (none p i (finds.named place p (named place p i e)))

  pub nobody_left : gone ≡ Nobody → LeaveLines who lines lines
  nobody_left is place = sym (all_remain place (λ p i a. subst (λ (g : Gone). IsAmong count g after place p) is a))

  pub several_left : gone ≡ Several → (new : List (Queue Pick)) → ((place : ℕ) → LeavesIfNamed who after lines new place) → LeaveLines who lines new
  several_left is new left place = elim (left place) [
    | inl e ↦ e
    | inr e ↦ e.1 ∙ sym (all_remain place (λ p i a. e.0 ((subst (λ (g : Gone). IsAmong count g after place p) is a) (within place p i))))
  ]

  -- one does
  module _ (q : Pick) (s : Seat) (is : gone ≡ One q s) where
    its : (place : ℕ) (p : Pick) → IsAmong count gone after place p → (place ≡ s.queue) × (p ≡ q)
    its place p a = subst (λ (g : Gone). IsAmong count g after place p) is a

    pub none_there : length lines ≤ s.queue → LeaveLines who lines lines
    none_there past place = sym (all_remain place (λ p i a.
        let e = (its place p a).0 in
        let lt = within place p i in
        omega (arith, e, lt, long, past)))

    pub one_left : (l : Queue Pick) → s.queue < length lines → AllDistinct (order (line_of lines s.queue)) → Loses (λ p. is_consumer p q) (line_of lines s.queue).order l.order → LeaveLines who lines (set lines s.queue l)
    one_left l lt once lost place = go (place == s.queue) refl
      where
        alike : (p : Pick) → IsIn p (order (line_of lines s.queue)) → is_other p q ≡ remains who p
        alike p i = by (remains who p) refl
          where
            by : (v : Bool) → remains who p ≡ v → is_other p q ≡ v
            by true e = other p q (λ same. false≢true (sym (finds.one q s is) ∙ ap (remains who) (sym same) ∙ e))
            by false e = ap (λ (x : Pick). is_other x q) (its s.queue p (finds.named s.queue p (named s.queue p i e))).1 ∙ ap not (one_consumer q)

        go : (v : Bool) → (place == s.queue) ≡ v → order (line_of (set lines s.queue l) place) ≡ filter (remains who) (order (line_of lines place))
        go true f =
            ap order (set_here lines s.queue l lt place f) ∙ line_lost q (line_of lines s.queue).order l.order once lost
            ∙ filter_alike (λ p. is_other p q) (remains who) (order (line_of lines s.queue)) alike
            ∙ ap (λ (n : ℕ). filter (remains who) (order (line_of lines n))) (sym (eqb-true place s.queue f))
        go false f =
            ap order (set_there lines s.queue l lt place f)
            ∙ sym (all_remain place (λ p i a. false≢true (sym f ∙ subst (λ (n : ℕ). (n == s.queue) ≡ true) (sym (its place p a).0) (eq-eqb s.queue s.queue refl))))
