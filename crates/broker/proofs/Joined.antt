-- Consumers that are there after an event: they were there, or it made them.
use Rattle.broker.proofs.Names.{◌∙◌, ℕ, List, [], ◌∷◌, ◌++◌, Bool, true, false, Option, Some, None, inl, inr, refl, sym, ap, subst, if◌then◌else◌, option_map, is_some, not, ◌==◌, ◌&&◌, eq-eqb, false≢true, same_Some, Text, Topology, IsIn, Broker, Channel, Connection, with_pair, with_row, Is, Acts, Refuses, Decides, OnConnection, Refusal, Ignored, Of_channel, Of_connection, refusal, channel_or_new, consumer_of, ids_of, Content, BasicConsume, Method, Send, Event, Command, Note, WasConsumer, IsMadeBy, ConsumersAreMade, open_in, running_in, channel_in, channel_at, connection_at, limits_of, Kept, names_of, HasConsumer, next_number, next_consumer, makes_consumer, consumer_to_make, consumed, IsConsumed, Pick}
use Rattle.std.proofs.Common.{◌≡◌, ◌⊎◌}
use Rattle.model.specs.Broker as seen
use Rattle.model.specs.declared.methods.Consume.{Consume}
use Rattle.channels.specs.Open.{Open}
use Rattle.channels.specs.RunningConnections.{Running}
use Rattle.commands.specs.State.{broker_of, topology_kept}
use Rattle.commands.specs.Judged.{IsIgnored}

-- the consumer of channel h of connection c
abbrev pick_of : ℕ → ℕ → seen.Consumer → Pick
pick_of c h k = record { connection = c; channel = h; number = k.number }

-- an event is a command
abbrev pub is_command : Event → Bool
is_command (Command c h m content) = true
is_command e = false

-- no other makes a consumer
pub was_there : ConsumersAreMade → (t : Topology) (old new : Broker) (e : Event) (sends : List Send) (notes : List Note) → Acts t old e sends notes new → is_command e ≡ false → (place : ℕ) (p : Pick) → HasConsumer t new place p → HasConsumer t old place p
was_there law t old new e sends notes acts none place p has = go (law t old new e sends notes acts p.connection p.channel has.consumer has.was)
  where
    go : WasConsumer old p.connection p.channel has.consumer ⊎ IsMadeBy old e p.connection p.channel has.consumer → HasConsumer t old place p
    go (inl was) = record { consumer = has.consumer; was = was; numbered = has.numbered; within = has.within; named = has.named }
    go (inr made) = absurd (false≢true (sym none ∙ ap is_command made.2))

-- ---- consumes

-- an ignored command leaves all as it is
ignored_stays : (t : Topology) (b : Broker) (c h : ℕ) (m : Method) (content : Option Content) (sends : List Send) (notes : List Note) (new : Broker) (o : Option Connection)
    → IsIgnored t b c h m o → OnConnection t b c h m content sends notes new o → Is b new
ignored_stays t b c h m content sends notes new None is does = does.left
ignored_stays t b c h m content sends notes new (Some conn) is does = (subst (λ (r : Option Refusal). Decides t b c h m content r sends notes new) is does).left

-- a consume is ignored where there is no next waiter for it
no_next : (t : Topology) (kept : Kept) (c h : ℕ) (m : Consume) → next_consumer c h (running_in kept.connections c) ≡ None → IsIgnored t (broker_of kept) c h (BasicConsume m) ((broker_of kept).connection c)
no_next t kept c h m none = go (running_in kept.connections c) refl none
  where
    b : Broker
    b = broker_of kept

    closing : (conn : Connection) (o : Option Open) → next_number o ≡ None → refusal t b conn h (BasicConsume m) (option_map (open_in (names_of kept)) o) ≡ Some Ignored
    closing conn None f = absurd (false≢true (sym (ap is_some f)))
    closing conn (Some ch) f = awaits ch.is_closing refl f
      where
        awaits : (v : Bool) → ch.is_closing ≡ v → (if v then None else Some ch.given.next_number) ≡ None → refusal t b conn h (BasicConsume m) (Some (open_in (names_of kept) ch)) ≡ Some Ignored
        awaits true is g = rw is refl
        awaits false is g = absurd (false≢true (sym (ap is_some g)))

    unmapped : {A B : Type 0} (f : A → B) (o : Option A) → option_map f o ≡ None → o ≡ None
    unmapped f None e = refl
    unmapped f (Some x) e = absurd (false≢true (sym (ap is_some e)))

    go : (o : Option Running) → running_in kept.connections c ≡ o → next_consumer c h o ≡ None → IsIgnored t b c h (BasicConsume m) (b.connection c)
    go None e f = subst (λ (x : Option Running). IsIgnored t b c h (BasicConsume m) (connection_at x)) (sym e) tt
    go (Some l) e f =
        subst (λ (x : Option Running). IsIgnored t b c h (BasicConsume m) (connection_at x)) (sym e)
        (ap (λ (x : Option Running). refusal t b (limits_of l) h (BasicConsume m) (option_map (open_in (names_of kept)) (channel_at x h))) e
        ∙ closing (limits_of l) (channel_in l h) (unmapped _ (next_number (channel_in l h)) f))

-- and where there is one it has the number of the next consumer
next_number_is : (names : List Text) (c h : ℕ) (o : Option Running) (p : Pick) → next_consumer c h o ≡ Some p → p ≡ record { connection = c; channel = h; number = (channel_or_new (option_map (open_in names) (channel_at o h))).next_number }
next_number_is names c h None p e = absurd (false≢true (ap is_some e))
next_number_is names c h (Some l) p e = go (channel_in l h) e
  where
    awaits : (v : Bool) (n : ℕ) → option_map (λ (i : ℕ). record { connection = c; channel = h; number = i }) (if v then None else Some n) ≡ Some p → p ≡ record { connection = c; channel = h; number = n }
    awaits true n f = absurd (false≢true (ap is_some f))
    awaits false n f = sym (same_Some _ p f)

    go : (x : Option Open) → option_map (λ (i : ℕ). record { connection = c; channel = h; number = i }) (next_number x) ≡ Some p → p ≡ record { connection = c; channel = h; number = (channel_or_new (option_map (open_in names) x)).next_number }
    go None f = sym (same_Some _ p f)
    go (Some ch) f = awaits ch.is_closing ch.given.next_number f

-- a consumer of a channel on which a consume came was there, or takes from the queue that the consume names
module _ (t : Topology) (old new : Broker) (c h : ℕ) (m : Consume) (content : Option Content) (sends : List Send) (notes : List Note) (k : seen.Consumer) where
  abbrev Came : Type 0
  Came = WasConsumer old c h k ⊎ (k.queue ≡ m.queue)

  mine : (o : Option Channel) → old.channel c h ≡ o → IsIn k (channel_or_new o).consumers → WasConsumer old c h k
  mine None is i = absurd i
  mine (Some ch) is i = (ch, is, i)

  paired : (x y : Option Channel) (v w : Bool) → v ≡ true → w ≡ true → (if v && w then x else y) ≡ x
  paired x y true true f g = refl
  paired x y true false f g = absurd (false≢true g)
  paired x y false w f g = absurd (false≢true f)

  in_row : (x y : Option Channel) (v : Bool) → v ≡ true → (if v then x else y) ≡ x
  in_row x y true f = refl
  in_row x y false f = absurd (false≢true f)

  same_there : new.channel c h ≡ old.channel c h → WasConsumer new c h k → WasConsumer old c h k
  same_there is (ch, at, i) = (ch, sym is ∙ at, i)

  of_this : {G : Type 0} (x : Channel) → new.channel c h ≡ with_pair old.channel c h (Some x) c h → (IsIn k x.consumers → G) → WasConsumer new c h k → G
  of_this x is good (ch, at, i) =
      let there : Some x ≡ Some ch = sym (paired (Some x) (old.channel c h) (c == c) (h == h) (eq-eqb c c refl) (eq-eqb h h refl)) ∙ sym is ∙ at in
      good (subst (λ (z : Channel). IsIn k z.consumers) (sym (same_Some x ch there)) i)

  none_there : new.channel c h ≡ with_row old.channel c (λ l. None) c h → WasConsumer new c h k → WasConsumer old c h k
  none_there is (ch, at, i) = absurd (false≢true (ap is_some (sym (in_row None (old.channel c h) (c == c) (eq-eqb c c refl)) ∙ sym is ∙ at)))

  made_last : (ks : List seen.Consumer) (x : seen.Consumer) → (IsIn k ks → WasConsumer old c h k) → x.queue ≡ m.queue → IsIn k (ks ++ x ∷ []) → Came
  made_last [] x was e (inl i) = inr (ap (λ (z : seen.Consumer). z.queue) i ∙ e)
  made_last [] x was e (inr i) = absurd i
  made_last (y ∷ ys) x was e (inl i) = inl (was (inl i))
  made_last (y ∷ ys) x was e (inr i) = made_last ys x (λ j. was (inr j)) e i

  -- one that is refused makes none
  refused : (r : Refusal) → Refuses old c h (ids_of (BasicConsume m)) r sends notes new → WasConsumer new c h k → WasConsumer old c h k
  refused Ignored p = same_there (p.left.channels c h)
  refused (Of_channel code) p = of_this _ (p.left.channels c h) (λ i. absurd i)
  refused (Of_connection code) p = none_there (p.left.channels c h)

  decided : (r : Option Refusal) → Decides t old c h (BasicConsume m) content r sends notes new → WasConsumer new c h k → Came
  decided None p has =
      of_this _ (p.left.channels c h)
      (λ i. made_last (channel_or_new (old.channel c h)).consumers (consumer_of (channel_or_new (old.channel c h)) m) (mine (old.channel c h) refl) refl i) has
  decided (Some r) p has = inl (refused r p has)

  stopped : (r : Option Refusal) → not (is_some r) ≡ false → Decides t old c h (BasicConsume m) content r sends notes new → WasConsumer new c h k → WasConsumer old c h k
  stopped None f p = absurd (false≢true (sym f))
  stopped (Some r) f p = refused r p

  came : (o : Option Connection) → OnConnection t old c h (BasicConsume m) content sends notes new o → WasConsumer new c h k → Came
  came None p has = inl (same_there (p.left.channels c h) has)
  came (Some conn) p has = decided (refusal t old conn h (BasicConsume m) (old.channel c h)) p has

-- a consume that makes no consumer leaves those of its channel
stays_unmade : (kept : Kept) (new : Broker) (c h : ℕ) (m : Consume) (content : Option Content) (sends : List Send) (notes : List Note) (k : seen.Consumer) (o : Option Running) → running_in kept.connections c ≡ o
    → makes_consumer kept h (BasicConsume m) o ≡ false → OnConnection (topology_kept kept) (broker_of kept) c h (BasicConsume m) content sends notes new (connection_at o)
    → WasConsumer new c h k → WasConsumer (broker_of kept) c h k
stays_unmade kept new c h m content sends notes k None e f p = same_there (topology_kept kept) (broker_of kept) new c h m content sends notes k (p.left.channels c h)
stays_unmade kept new c h m content sends notes k (Some l) e f p =
    let t = topology_kept kept in
    let b = broker_of kept in
    let reason = λ (x : Option Running). refusal t b (limits_of l) h (BasicConsume m) (option_map (open_in (names_of kept)) (channel_at x h)) in
    stopped t b new c h m content sends notes k (reason (running_in kept.connections c)) (ap (λ (x : Option Running). not (is_some (reason x))) e ∙ f) p

-- a consumer that is there after an event was there, or the event is the consume from its queue, whose waiter it has
pub came_there : ConsumersAreMade → (kept : Kept) (new : Broker) (e : Event) (sends : List Send) (notes : List Note) → Acts (topology_kept kept) (broker_of kept) e sends notes new
    → (place : ℕ) (p : Pick) → HasConsumer (topology_kept kept) new place p
    → HasConsumer (topology_kept kept) (broker_of kept) place p ⊎ (IsConsumed (topology_kept kept) e place × (consumer_to_make kept e ≡ Some p))
came_there law kept new e sends notes acts place p has = go (law t b new e sends notes acts c h k has.was)
  where
    t : Topology
    t = topology_kept kept

    b : Broker
    b = broker_of kept

    c : ℕ
    c = p.connection

    h : ℕ
    h = p.channel

    k : seen.Consumer
    k = has.consumer

    Came_here : Type 0
    Came_here = HasConsumer t b place p ⊎ (IsConsumed t e place × (consumer_to_make kept e ≡ Some p))

    before : WasConsumer b c h k → Came_here
    before was = inl (record { consumer = k; was = was; numbered = has.numbered; within = has.within; named = has.named })

    made : IsMadeBy b e c h k → Came_here
    made (m, content, is, numbered) = if_made (makes_consumer kept h (BasicConsume m) (running_in kept.connections c)) refl
      where
        same : OnConnection t b c h (BasicConsume m) content sends notes new (b.connection c)
        same = subst (λ (x : Event). Acts t b x sends notes new) is acts

        its : pick_of c h k ≡ p
        its = ap (λ (n : ℕ). record { connection = c; channel = h; number = n }) has.numbered

        here : k.queue ≡ m.queue → IsConsumed t e place
        here queue = record { within = has.within; named = ap consumed is ∙ ap (λ (q : Text). Some q) (sym queue ∙ sym has.named) }

        to_make : makes_consumer kept h (BasicConsume m) (running_in kept.connections c) ≡ true → consumer_to_make kept e ≡ next_consumer c h (running_in kept.connections c)
        to_make makes = ap (consumer_to_make kept) is ∙ ap (λ (v : Bool). if v then next_consumer c h (running_in kept.connections c) else None) makes

        next : k.queue ≡ m.queue → consumer_to_make kept e ≡ next_consumer c h (running_in kept.connections c) → (o : Option Pick) → next_consumer c h (running_in kept.connections c) ≡ o → Came_here
        next queue its_numbers None f =
            let stays = ignored_stays t b c h (BasicConsume m) content sends notes new (b.connection c) (no_next t kept c h m f) same in
            before (has.was.0, sym (stays.channels c h) ∙ has.was.1, has.was.2)
        next queue its_numbers (Some q) f =
            let one = next_number_is (names_of kept) c h (running_in kept.connections c) q f ∙ ap (λ (n : ℕ). record { connection = c; channel = h; number = n }) (sym numbered) ∙ its in
            inr (here queue, its_numbers ∙ f ∙ ap Some one)

        on : consumer_to_make kept e ≡ next_consumer c h (running_in kept.connections c) → WasConsumer b c h k ⊎ (k.queue ≡ m.queue) → Came_here
        on its_numbers (inl there) = before there
        on its_numbers (inr queue) = next queue its_numbers (next_consumer c h (running_in kept.connections c)) refl

        if_made : (v : Bool) → makes_consumer kept h (BasicConsume m) (running_in kept.connections c) ≡ v → Came_here
        if_made true makes = on (to_make makes) (came t b new c h m content sends notes k (b.connection c) same has.was)
        if_made false makes = before (stays_unmade kept new c h m content sends notes k (running_in kept.connections c) refl makes same has.was)

    go : WasConsumer b c h k ⊎ IsMadeBy b e c h k → Came_here
    go (inl was) = before was
    go (inr m) = made m
