-- A newcomer comes into a line, and one line gets room for it.
use Rattle.broker.proofs.Names.{◌∙◌, ◌<◌, ◌≤◌, ◌*◌, ◌++◌, ℕ, Some, arith, length-set, same_Some, Event, IsNewest, IsConsumed, IsExpected, consumer_to_make, List, [], ◌∷◌, true, length, set, inl, inr, refl, sym, ap, subst, eq-eqb, IsIn, Kept, Pick, Member, Queue, items_of, line_of, order, is_of, awake_member, asleep_member, AllAreConsumers, AllAddTheirOwn, ComesLast, SameLines, NobodyFallsAsleep, QueuesAreMarked}
use Rattle.std.proofs.Common.{◌≡◌, ◌⊎◌}
use Rattle.commands.specs.State.{topology_kept}
use Rattle.waiting_lines.proofs.Swept.{items_append}
use Rattle.broker.specs.declared.rounds.Newcomer.{Newcomer}
use Rattle.broker.proofs.Lists.{in_either, in_right}
use Rattle.broker.proofs.Marked.{set_here, each_set, marked_still}
use Rattle.broker.proofs.Members.{up_down}
use Rattle.broker.proofs.Takers.{newest_absent}

-- ---- the newcomer

module _ (lines : List (Queue Pick)) (queue : ℕ) (l : Queue Pick) (lt : queue < length lines) (p : Pick) (is : l.order ≡ (line_of lines queue).order ++ awake_member p ∷ []) where
  line_longer : order l ≡ order (line_of lines queue) ++ p ∷ []
  line_longer = ap (λ (ms : List (Member Pick)). items_of ms) is ∙ items_append (line_of lines queue).order (awake_member p ∷ [])

  pub comes_in : IsIn p (order (line_of (set lines queue l) queue))
  comes_in = subst (λ (x : Queue Pick). IsIn p (order x)) (sym (set_here lines queue l lt queue (eq-eqb queue queue refl))) (subst (IsIn p) (sym line_longer) (in_right p (order (line_of lines queue)) (p ∷ []) (inl refl)))

  pub comes_last : (kept : Kept) → is_of kept queue p ≡ true → (IsIn p (order (line_of lines queue)) → ⊥) → AllAddTheirOwn kept lines (set lines queue l)
  comes_last kept its absent =
      each_set lines queue l lt (λ n x y. (order y ≡ order x) ⊎ ComesLast kept n (order x) (order y)) (inr (record { newcomer = p; its = its; absent = absent; line = line_longer })) (λ n x. inl refl)

  pub comes_awake : NobodyFallsAsleep lines (set lines queue l)
  comes_awake place q = each_set lines queue l lt (λ n x y. IsIn (asleep_member q) y.order → IsIn (asleep_member q) x.order) (λ i. here (in_either (asleep_member q) (line_of lines queue).order (awake_member p ∷ []) (subst (IsIn (asleep_member q)) is i))) (λ n x i. i) place
    where
      here : IsIn (asleep_member q) (line_of lines queue).order ⊎ IsIn (asleep_member q) (awake_member p ∷ []) → IsIn (asleep_member q) (line_of lines queue).order
      here (inl i) = i
      here (inr (inl e)) = absurd (up_down q p e)
      here (inr (inr none)) = absurd none

-- ---- room for it

module _ (lines : List (Queue Pick)) (queue : ℕ) (l : Queue Pick) (lt : queue < length lines) (is : l.order ≡ (line_of lines queue).order) where
  pub room_same : SameLines lines (set lines queue l)
  room_same = each_set lines queue l lt (λ n x y. y.order ≡ x.order) is (λ n x. refl)

  pub room_marked : (marks : List ℕ) → QueuesAreMarked lines marks → QueuesAreMarked (set lines queue l) marks
  room_marked marks m = marked_still lines queue l lt marks (λ p up. subst (IsIn (awake_member p)) is up) m

  pub room_for : (marks named : List ℕ) → QueuesAreMarked lines marks → length lines ≤ length named * 64 → QueuesAreMarked (set lines queue l) marks × (length (set lines queue l) ≤ length named * 64)
  room_for marks named m room = let long = length-set lines queue l in (room_marked marks m, omega (arith, long, room))

  -- and it is expected
  pub expected : (kept : Kept) (e : Event) (p : Pick) → length l.order < l.capacity → IsNewest kept p → AllAreConsumers kept lines → ((place : ℕ) → IsConsumed (topology_kept kept) e place → Some queue ≡ Some place) → Some p ≡ consumer_to_make kept e
      → IsExpected kept e (set lines queue l) (Some (record { queue = queue; consumer = p }))
  expected kept e p room newest own reported numbers = record {
    room = record {
      within = let long = length-set lines queue l in omega (arith, long, lt);
      room = subst (λ (x : Queue Pick). length x.order < x.capacity) (sym (set_here lines queue l lt queue (eq-eqb queue queue refl))) room;
      absent = λ i. newest_absent kept lines queue p newest own (subst (λ (ms : List (Member Pick)). IsIn p (items_of ms)) (room_same queue) i);
    };
    reported = λ place q consumed made.
        let one = same_Some queue place (reported place consumed) in
        let who = same_Some p q (numbers ∙ made) in
        ap (λ (n : ℕ). Some (newcomer n p)) one ∙ ap (λ (x : Pick). Some (newcomer place x)) who;
  }
    where
      newcomer : ℕ → Pick → Newcomer
      newcomer n x = record { queue = n; consumer = x }
