-- What the broker sends at one event can be put out for its connection.
use Rattle.engine.proofs.Names.{◌≡◌, ℕ, List, subst, AllByRecursion, Topology, Broker, Acts, IsSaid, AreCarried, IsAddressed, AreOwn, Note, Send, Event, IsAskedBy}
use Rattle.model.specs.declared.events.Event.TheVariants as event
use Rattle.laws.proofs.Sent.{sends_are_own}
use Rattle.replies.specs.Sent.{connection_of_event}

-- what is asked is asked by its own connection
asked_by : (c : ℕ) (e : Event) → IsAskedBy c e → connection_of_event e ≡ c
asked_by c (event.First d bytes) is = is
asked_by c (event.Command d h m content) is = is
asked_by c (event.TooLarge d h) is = is
asked_by c (event.Fault d code) is = is
asked_by c (event.Open d) is = absurd is
asked_by c (event.Running d max k) is = absurd is
asked_by c (event.Lose d) is = absurd is
asked_by c (event.Pause d) is = absurd is
asked_by c (event.Resume d) is = absurd is
asked_by c (event.Deliver d) is = absurd is

pub broker_sends : (t : Topology) (old new : Broker) (c : ℕ) (e : Event) (sends : List Send) (notes : List Note)
    → IsAskedBy c e → IsSaid e → AreCarried old → Acts t old e sends notes new → AllByRecursion (IsAddressed (connection_of_event e)) sends → AreOwn c sends
broker_sends t old new c e sends notes is said carried acts at =
    sends_are_own t old new c e sends notes said carried acts (subst (λ (d : ℕ). AllByRecursion (IsAddressed d) sends) (asked_by c e is) at)

pub delivery_sends : (t : Topology) (old new : Broker) (c : ℕ) (sends : List Send) (notes : List Note) → AreCarried old → Acts t old (event.Deliver c) sends notes new → AllByRecursion (IsAddressed c) sends → AreOwn c sends
delivery_sends t old new c sends notes carried acts at = sends_are_own t old new c (event.Deliver c) sends notes tt carried acts at
