-- The refusal of a consume.
use Rattle.commands.proofs.Names.{◌≡◌, ◌∙◌, List, Option, None, ap, sym, Text, Topology, Channel, or_else, refusal_in, refusal_of_asking, refusal_of_consumer, refusal_of_consume, Consume, open_in, JudgesConsumer, refusal_by, refusal_seen}
use Rattle.std.specs.Prelude.{Some}
use Rattle.model.specs.Step.{Refusal}
use Rattle.channels.specs.Open.{Open}
use Rattle.channels.specs.declared.consumers.ConsumerRefusal.{ConsumerRefusal}
use Rattle.channels.specs.declared.consumers.ConsumerRefusal.TheVariants.{InUse, TooMany, Spent}

-- the refusal of its consumer, as the model has it
pub refusal_as_seen : (names : List Text) (ch : Open) (m : Consume) (why : ConsumerRefusal) → JudgesConsumer ch m (Some why) → Some (refusal_seen (refusal_by why)) ≡ refusal_of_consumer (open_in names ch) m
refusal_as_seen names ch m InUse is = sym (is names)
refusal_as_seen names ch m TooMany is = sym (is names)
refusal_as_seen names ch m Spent is = sym (is names)

-- if the queue exists and nothing is asked for that is not implemented, it is the refusal of the consume
pub consumers_refusal : (t : Topology) (ch : Channel) (m : Consume) → None ≡ refusal_in t m.queue → None ≡ refusal_of_asking m → refusal_of_consumer ch m ≡ refusal_of_consume t ch m
consumers_refusal t ch m there asked =
    sym (ap (λ (x : Option Refusal). or_else x (or_else (refusal_of_asking m) (refusal_of_consumer ch m))) (sym there) ∙ ap (λ (x : Option Refusal). or_else x (refusal_of_consumer ch m)) (sym asked))
