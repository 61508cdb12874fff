-- Consumers that stay where something is delivered.
use Rattle.broker.proofs.Names.{ℕ, List, Option, subst, Channel, Broker, IsDelivery, channel_or_new, IsIn, Send, Note, one_stays, AllConsumersStay}

pub delivery_stays : (old new : Broker) (c : ℕ) (sends : List Send) (notes : List Note) → IsDelivery old c sends notes new → AllConsumersStay old new
delivery_stays old new c sends notes p =
    one_stays old new c p.made.number _ p.makes.left.channels (λ k i. subst (λ (o : Option Channel). IsIn k (channel_or_new o).consumers) p.made.taker.there i)
