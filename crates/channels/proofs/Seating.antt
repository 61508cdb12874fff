-- Consumers by their seats.
use Rattle.channels.proofs.Imports.{◌≡◌, ℕ, zero, suc, ◌<◌, List, [], ◌∷◌, length, get_or, set, refl, sym, ap, subst, ◌∙◌, arith, length-map, consumers_of, counts_of, Consumer, CountedConsumer}
use Rattle.std.proofs.Math.ListN as numbered
use Rattle.std.proofs.lemmas.List.{get_or_default}
use Rattle.channels.specs.declared.consumers.Seat.{Seat}
use Rattle.channels.specs.Seats.{IsSeatOf, IsSeatAt}

-- neither the consumers nor the counts change where both stay at an index
pub set_consumers : (xs : List CountedConsumer) (i : ℕ) (d y : CountedConsumer) → y.consumer ≡ (get_or xs i d).consumer → consumers_of (set xs i y) ≡ consumers_of xs
set_consumers [] i d y e = refl
set_consumers (x ∷ xs) zero d y e = ap (λ (c : Consumer). c ∷ consumers_of xs) e
set_consumers (x ∷ xs) (suc i) d y e = ap (λ (cs : List Consumer). x.consumer ∷ cs) (set_consumers xs i d y e)

pub set_counts : (xs : List CountedConsumer) (i : ℕ) (d y : CountedConsumer) → y.held ≡ (get_or xs i d).held → counts_of (set xs i y) ≡ counts_of xs
set_counts [] i d y e = refl
set_counts (x ∷ xs) zero d y e = ap (λ (n : ℕ). n ∷ counts_of xs) e
set_counts (x ∷ xs) (suc i) d y e = ap (λ (ns : List ℕ). x.held ∷ ns) (set_counts xs i d y e)

-- the consumer at an index is that of the counted one there
at_index : (xs : List CountedConsumer) (i : ℕ) (x : CountedConsumer) (d : Consumer) → i < length xs → x ≡ get_or xs i x → get_or (consumers_of xs) i d ≡ x.consumer
at_index xs i x d lt is =
    numbered.get_or-map (λ (s : CountedConsumer). s.consumer) xs i (record x { consumer = d })
    ∙ ap (λ (s : CountedConsumer). s.consumer) (get_or_default xs i (record x { consumer = d }) x lt ∙ sym is)

pub seat_there : (xs : List CountedConsumer) (i : ℕ) (x : CountedConsumer) (s : Seat) → i < length xs → x ≡ get_or xs i x → IsSeatOf x.consumer s → IsSeatAt (consumers_of xs) i s
seat_there xs i x s lt is of = record {
  number = λ d. sym (ap (λ (k : Consumer). k.number) (at_index xs i x d lt is) ∙ of.0);
  queue = λ d. sym (ap (λ (k : Consumer). k.queue) (at_index xs i x d lt is) ∙ of.1);
}
