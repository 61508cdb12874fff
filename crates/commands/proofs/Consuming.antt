-- Consumers that are made and cancelled, as the model has them.
use Rattle.commands.proofs.Names.{◌≡◌, ◌∙◌, ◌<◌, ℕ, List, [], ◌∷◌, Bool, true, false, Option, None, Err, refl, sym, ap, is_some, ◌||◌, leb-false, false≢true, Text, Topology, queue_names, Channel, next_free, tag_for, has_no_tag_left, with_consumer, without_consumer, Of_connection, Consumes, Cancels, greatest, or_else, refusal_in, refusal_of_asking, refusal_of_consume, refusal_of_tag, refusal_of_many, refusal_of_numbers, refusal_of_consumer, consume_sends, cancel_sends, Send, Consume, Note, open_in, IsConsumerMade, MakesConsumer, Store, IsQueueIndex, stop_of, Step, Side, Turns, ComesTo, seen, state_of}
use Rattle.std.proofs.Common.{Some, length, if◌then◌else◌}
use Rattle.std.specs.Prelude.{◌==◌}
use Rattle.model.specs.Step.{Refusal}
use Rattle.model.specs.declared.methods.Cancel.{Cancel}
use Rattle.channels.specs.Open.{Open}
use Rattle.channels.specs.declared.consumers.ConsumeError.{ConsumeError}
use Rattle.channels.specs.declared.consumers.ConsumeError.TheVariants.{Refused, Memory as WantsMemory}
use Rattle.commands.proofs.Turning.{does_here}
use Rattle.laws.proofs.Named.{server_short}

-- ---- its tag

second_none : (a b : Option Refusal) → or_else a b ≡ None → b ≡ None
second_none None b e = e
second_none (Some r) b e = absurd (false≢true (sym (ap is_some e)))

none_wanting : (a b : Bool) → (if a || b then Some (Of_connection 541) else None) ≡ None → b ≡ false
none_wanting true b e = absurd (false≢true (sym (ap is_some e)))
none_wanting false true e = absurd (false≢true (sym (ap is_some e)))
none_wanting false false e = refl

-- the tag under which a consumer is made is short where the one that is given is
pub tag_short : (ch : Channel) (m : Consume) → refusal_of_consumer ch m ≡ None → length m.consumer_tag < 256 → length (tag_for ch m.consumer_tag) < 256
tag_short ch m free short = go m.consumer_tag (none_wanting (ch.next_number == greatest) (has_no_tag_left ch m.consumer_tag) (second_none (refusal_of_many ch) (refusal_of_numbers ch m.consumer_tag) (second_none (refusal_of_tag ch m.consumer_tag) (or_else (refusal_of_many ch) (refusal_of_numbers ch m.consumer_tag)) free))) short
  where
    go : (given : Text) → has_no_tag_left ch given ≡ false → length given < 256 → length (tag_for ch given) < 256
    go [] left lt = server_short (next_free ch) (leb-false 18446744073709551615 (next_free ch) left)
    go (b ∷ bs) left lt = lt

-- ---- the refusal

-- if a consume is not refused, its consumer is not
pub none_against : (t : Topology) (ch : Channel) (m : Consume) → refusal_of_consume t ch m ≡ None → refusal_of_consumer ch m ≡ None
none_against t ch m free = second_none (refusal_of_asking m) (refusal_of_consumer ch m) (second_none (refusal_in t m.queue) (or_else (refusal_of_asking m) (refusal_of_consumer ch m)) free)

-- and a consumer that was not made, though it was not refused, failed to allocate
pub not_made : (t : Topology) (names : List Text) (ch new : Open) (m : Consume) (place : ℕ) (why : ConsumeError) (Does : Step → Type 0) → refusal_of_consume t (open_in names ch) m ≡ None
    → MakesConsumer ch place m (Err why) new → ComesTo (refusal_of_consume t (open_in names ch) m) Does (Err (stop_of why))
not_made t names ch new m place (Refused r) Does free (is, same) = absurd (false≢true (ap is_some (sym (none_against t (open_in names ch) m free) ∙ is names)))
not_made t names ch new m place WantsMemory Does free is = free

-- ---- what is done

-- a consumer that was made on the channel, where no queue changed, is a consume
pub consumed : (c h place : ℕ) (s : Store) (ch made : Open) (m : Consume) (tag : Text) (sends : List Send) (notes : List Note) (old new : Side) → IsQueueIndex s.topology m.queue place → IsConsumerMade ch place m tag made
    → sends ≡ consume_sends c h m.no_wait tag → notes ≡ [] → Turns c h (seen s ch) (seen s made) old new → Consumes (state_of s old) c h (seen s ch) m sends notes (state_of s new)
consumed c h place s ch made m tag sends notes old new at is_made sent noted turns =
    let names = queue_names s.topology.queues in
    does_here c h s (seen s ch) (seen s made) (with_consumer (seen s ch) m) sends (consume_sends c h m.no_wait (tag_for (seen s ch) m.consumer_tag)) notes old new
    (sent ∙ ap (consume_sends c h m.no_wait) (is_made.named names)) noted (is_made.made names at.named) turns

-- and so is one that a cancel removes from the channel
pub cancelled : (c h : ℕ) (s : Store) (ch left : Open) (m : Cancel) (sends : List Send) (notes : List Note) (old new : Side) → sends ≡ cancel_sends c h m.no_wait m.consumer_tag → notes ≡ []
    → seen s left ≡ without_consumer (seen s ch) m.consumer_tag → Turns c h (seen s ch) (seen s left) old new → Cancels (state_of s old) c h (seen s ch) m sends notes (state_of s new)
cancelled c h s ch left m sends notes old new sent noted same turns =
    does_here c h s (seen s ch) (seen s left) (without_consumer (seen s ch) m.consumer_tag) sends (cancel_sends c h m.no_wait m.consumer_tag) notes old new sent noted same turns
