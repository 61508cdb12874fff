-- What an event leaves.
use Rattle.broker.proofs.Names.{◌∙◌, ◌++◌, ℕ, List, [], ◌∷◌, Bool, true, false, Option, Some, length, filter, inl, inr, refl, sym, ap, subst, IfSome, false≢true, Topology, IsIn, Acts, Event, Send, Note, ConsumersAreMade, IsStoreWhole, ArePlaced, Kept, CannotTake, channel_of, ReportsEnds, Ends, Pick, AllDistinct, Queue, items_of, line_of, order, asleep_member, is_of, remains, leavers_of, wakes, HasConsumer, IsAsleep, AllAreInLines, AreItsConsumers, AllAreConsumers, AllAddTheirOwn, AreKept, ComesLast, IsExpected, IsNamed, LeaveLines, SameLines, SameOrders, NobodyFallsAsleep, IsNotAsleepAt}
use Rattle.std.proofs.Common.{◌≡◌, ◌⊎◌}
use Rattle.channels.specs.Open.{Open}
use Rattle.channels.specs.declared.consumers.Consumer.{Consumer}
use Rattle.commands.specs.State.{broker_of, topology_kept}
use Rattle.broker.specs.declared.rounds.Newcomer.{Newcomer}
use Rattle.commands.specs.declared.acted.Ends.TheVariants.{Nothing as nothing_ends}
use Rattle.broker.proofs.Joined.{is_command, was_there, came_there}
use Rattle.broker.proofs.Leaving.{has_index, there_remains, remains_there, leaver_named}
use Rattle.broker.proofs.Lists.{in_either, in_left, filter_in, filter_all, filter_distinct, distinct_end, passes, stays}
use Rattle.broker.proofs.Members.{items_in}
use Rattle.broker.proofs.Outcomes.{some_holds}
use Rattle.broker.proofs.Takers.{has_of, of_has}
use Rattle.broker.proofs.Turning.{GoRound, round_joined, round_left}
use Rattle.broker.proofs.Waking.{cannot_still}

-- ---- lines that are unchanged

pub orders_of : (old new : List (Queue Pick)) → SameLines old new → SameOrders old new
orders_of old new same at = ap (λ (ms : List _). items_of ms) (same at)

pub asleep_of : (old new : List (Queue Pick)) → SameLines old new → NobodyFallsAsleep old new
asleep_of old new same place p i = subst (λ (ms : List _). IsIn (asleep_member p) ms) (same place) i

pub kept_same : (kept : Kept) (old new : List (Queue Pick)) → SameLines old new → length new ≡ length old → AreKept kept old → AreKept kept new
kept_same kept old new same len k = record {
  lines_for = len ∙ k.lines_for;
  joined = λ place p has. subst (IsIn p) (sym (orders_of old new same place)) (k.joined place p has);
  own = λ place. subst (AreItsConsumers kept place) (sym (orders_of old new same place)) (k.own place);
  asleep = λ place p i. k.asleep place p (asleep_of old new same place p i);
}

-- nobody comes in
pub none_come : (kept : Kept) (lines : List (Queue Pick)) → AllAddTheirOwn kept lines lines
none_come kept lines place = inl refl

-- ---- an event

-- The lines went from `before` to `after` as a newcomer came in.
module _ (old new : Kept) (topology : topology_kept new ≡ topology_kept old) (c h : ℕ) (x : Ends) (reports : ReportsEnds c h x old new) (before after : List (Queue Pick)) (k : AreKept old before)
    (adds : AllAddTheirOwn new before after) where
  -- whoever is in a line was in it, or came in
  who_came : (place : ℕ) (p : Pick) → IsIn p (order (line_of after place)) → IsIn p (order (line_of before place)) ⊎ (is_of new place p ≡ true)
  who_came place p i = elim (adds place) [
    | inl same ↦ inl (subst (IsIn p) same i)
    | inr a ↦ elim (in_either p (order (line_of before place)) (a.newcomer ∷ []) (subst (IsIn p) a.line i)) [
      | inl was ↦ inl was
      | inr last ↦ elim last [ inl same ↦ inr (subst (λ (q : Pick). is_of new place q ≡ true) (sym same) a.its) | inr none ↦ absurd none ]
    ]
  ]

  pub came_once : (place : ℕ) → AllDistinct (order (line_of after place))
  came_once place = elim (adds place) [
    | inl same ↦ subst (λ (ps : List Pick). AllDistinct ps) (sym same) (k.own place).once
    | inr a ↦ subst (λ (ps : List Pick). AllDistinct ps) (sym a.line) (distinct_end a.newcomer (order (line_of before place)) (k.own place).once a.absent)
  ]

  -- and is there still, if it is none of those who leave
  still : (place : ℕ) (p : Pick) → IsIn p (order (line_of after place)) → remains (leavers_of c h x) p ≡ true → is_of new place p ≡ true
  still place p i stay = elim (who_came place p i) [
    | inl was ↦
        let has = of_has old place p ((k.own place).there p was) in
        has_of new place p
        (subst (λ (t : Topology). HasConsumer t (broker_of new) place p) (sym topology)
        (record {
          consumer = has.consumer;
          was = remains_there c h x old new reports p has.consumer stay has.numbered has.was;
          numbered = has.numbered;
          within = has.within;
          named = has.named;
        }))
    | inr its ↦ its
  ]

  there : (place : ℕ) (p : Pick) → is_of new place p ≡ true → remains (leavers_of c h x) p ≡ true
  there place p its = let has = of_has new place p its in there_remains c h x old new reports p has.consumer has.was has.numbered

  -- those who leave are named
  pub named_after : IsStoreWhole old.store → ArePlaced old → (place : ℕ) (p : Pick) → IsIn p (order (line_of after place)) → remains (leavers_of c h x) p ≡ false → IsNamed c h x place p
  named_after was_whole was_placed place p i leaver = elim (who_came place p i) [
    | inl was ↦ leaver_named c h x old new reports place p (has_index old was_whole was_placed place p (of_has old place p ((k.own place).there p was))) leaver
    | inr its ↦ absurd (false≢true (sym leaver ∙ there place p its))
  ]

  -- And they went to `left` as others left, and to `woken` as some were woken.
  module _ (e : Event) (sends : List Send) (notes : List Note) (acts : Acts (topology_kept old) (broker_of old) e sends notes (broker_of new)) (whole : IsStoreWhole new.store) (placed : ArePlaced new)
      (left woken : List (Queue Pick)) (comes : AllAreInLines (topology_kept new) (broker_of new) after) (leaves : LeaveLines (leavers_of c h x) after left) (wake : SameOrders left woken)
      (rest : NobodyFallsAsleep before woken) (len : length woken ≡ length before)
      (up : (p : Pick) (ch : Open) (one : Consumer) → wakes e p ≡ true → channel_of new.connections p.connection p.channel ≡ Some ch → IsIn one ch.given.consumers → one.number ≡ p.number
      → IsNotAsleepAt woken one.queue p ⊎ CannotTake (broker_of new) p) where
    line : (place : ℕ) → order (line_of woken place) ≡ filter (remains (leavers_of c h x)) (order (line_of after place))
    line place = wake place ∙ leaves place

    own : AllAreConsumers new woken
    own place = record {
      there = λ p i.
          let j = subst (IsIn p) (line place) i in
          still place p (filter_in (remains (leavers_of c h x)) p (order (line_of after place)) j) (passes (remains (leavers_of c h x)) p (order (line_of after place)) j);
      once = subst (λ (ps : List Pick). AllDistinct ps) (sym (line place)) (filter_distinct (remains (leavers_of c h x)) (order (line_of after place)) (came_once place));
    }

    pub kept_after : AreKept new woken
    kept_after = record {
      lines_for = len ∙ k.lines_for ∙ ap (λ (t : Topology). length t.queues) (sym topology);
      joined = λ place p has. subst (IsIn p) (sym (line place)) (stays (remains (leavers_of c h x)) p (order (line_of after place)) (comes place p has) (there place p (has_of new place p has)));
      own = own;
      asleep = λ place p i. go place p i (wakes e p) refl;
    }
      where
        go : (place : ℕ) (p : Pick) → IsAsleep (line_of woken place) p → (v : Bool) → wakes e p ≡ v → CannotTake (broker_of new) p
        go place p i false f = cannot_still (topology_kept old) (broker_of old) (broker_of new) e sends notes p acts f (k.asleep place p (rest place p i))
        go place p i true f =
            let has = of_has new place p ((own place).there p (items_in (asleep_member p) (line_of woken place).order i)) in
            let at = has_index new whole placed place p has in
            elim (up p at.channel at.one f at.there at.among at.numbered) [
              | inl awake ↦ absurd (subst (λ (n : ℕ). IsNotAsleepAt woken n p) at.queue awake (own place).once i)
              | inr cannot ↦ cannot
            ]

    -- those who were there are gone round as before
    pub round_after : GoRound new before woken
    round_after = round_left new _ before after woken there (round_joined new before after adds) (λ place. line place)

-- ---- who is there after an event

-- each was there, where the event is no command
pub nobody_new : ConsumersAreMade → (old new : Kept) (e : Event) (sends : List Send) (notes : List Note) (before : List (Queue Pick)) → Acts (topology_kept old) (broker_of old) e sends notes (broker_of new)
    → topology_kept new ≡ topology_kept old → is_command e ≡ false → AreKept old before → AllAreInLines (topology_kept new) (broker_of new) before
nobody_new law old new e sends notes before acts topology none k place p has =
    k.joined place p
    (was_there law (topology_kept old) (broker_of old) (broker_of new) e sends notes acts none place p (subst (λ (t : Topology). HasConsumer t (broker_of new) place p) topology has))

-- or is the newcomer
pub somebody_new : ConsumersAreMade → (old new : Kept) (e : Event) (sends : List Send) (notes : List Note) (before ready after : List (Queue Pick)) (n : Option Newcomer)
    → Acts (topology_kept old) (broker_of old) e sends notes (broker_of new) → topology_kept new ≡ topology_kept old → AreKept old before → SameOrders before ready → IsExpected old e ready n
    → AllAddTheirOwn new ready after → IfSome n (λ m. is_of new m.queue m.consumer ≡ true → IsIn m.consumer (order (line_of after m.queue))) → AllAreInLines (topology_kept new) (broker_of new) after
somebody_new law old new e sends notes before ready after n acts topology k same expected adds joined place p has =
    elim (came_there law old (broker_of new) e sends notes acts place p (subst (λ (t : Topology). HasConsumer t (broker_of new) place p) topology has)) [
      | inl was ↦ more (adds place) (subst (IsIn p) (sym (same place)) (k.joined place p was))
      | inr made ↦
          some_holds n (record { queue = place; consumer = p }) (λ m. is_of new m.queue m.consumer ≡ true → IsIn m.consumer (order (line_of after m.queue))) (expected.reported place p made.0 made.1) joined
          (has_of new place p has)
    ]
  where
    more : (order (line_of after place) ≡ order (line_of ready place)) ⊎ ComesLast new place (order (line_of ready place)) (order (line_of after place)) → IsIn p (order (line_of ready place)) → IsIn p (order (line_of after place))
    more (inl e) i = subst (IsIn p) (sym e) i
    more (inr a) i = subst (IsIn p) (sym a.line) (in_left p (order (line_of ready place)) (a.newcomer ∷ []) i)

-- one comes in behind those who were there before
pub adds_since : (kept : Kept) (before ready after : List (Queue Pick)) → SameOrders before ready → AllAddTheirOwn kept ready after → AllAddTheirOwn kept before after
adds_since kept before ready after same adds place = elim (adds place) [
  | inl e ↦ inl (e ∙ same place)
  | inr a ↦ inr (record {
    newcomer = a.newcomer;
    its = a.its;
    absent = λ i. a.absent (subst (IsIn a.newcomer) (sym (same place)) i);
    line = a.line ∙ ap (λ (ps : List Pick). ps ++ a.newcomer ∷ []) (same place);
  })
]

-- where nobody leaves
pub none_leave : (c h : ℕ) (lines : List (Queue Pick)) → LeaveLines (leavers_of c h nothing_ends) lines lines
none_leave c h lines place = sym (filter_all (λ p. true) (order (line_of lines place)) (λ p i. refl))
