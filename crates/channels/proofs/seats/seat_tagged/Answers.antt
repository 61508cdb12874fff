use Rattle.channels.proofs.Imports.{◌≡◌, ◌∙◌, sym, ap, subst, find, Option, Some, None, is_named, Consumer, CountedConsumer}
use Rattle.std.specs.Prelude.{option_map}
use Rattle.channels.specs.Seats.{ReturnsSeat}
use Rattle.channels.proofs.Mapped.{find-map}
use Rattle.channels.proofs.seats.seat_tagged.Goals as goal

pub returns-in-Some : goal.returns-in-Some
returns-in-Some c = subst (λ (o : Option Consumer). ReturnsSeat o (Some c.seat_of.result))
    (ap (option_map (λ (s : CountedConsumer). s.consumer)) c.in-Some.ensures ∙ find-map (λ (s : CountedConsumer). s.consumer) (is_named c.args.tag.now) c.args.consumers.now) c.seat_of.ensures

pub returns-in-None : goal.returns-in-None
returns-in-None c = subst (λ (o : Option Consumer). ReturnsSeat o None)
    (ap (option_map (λ (s : CountedConsumer). s.consumer)) c.in-None.ensures ∙ find-map (λ (s : CountedConsumer). s.consumer) (is_named c.args.tag.now) c.args.consumers.now) tt
