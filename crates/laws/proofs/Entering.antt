-- What enters queues, by a publish or a dead letter, and what is noted of it.
use Rattle.laws.proofs.Names.{◌≡◌, ℕ, List, [], ◌∷◌, Bool, true, false, cond, eqb, length, refl, sym, ap, subst, ◌∙◌, inl, inr, count_by, ◌&&◌, bytes_eq, AllByRecursion, and-true, and-false, bytes_eq-Decides, Text, Topology, IsIn, Picks, pass, is_full, is_entered, has_number, Message, Ready, Entry, Note, Entered, Refused, Way}
use Rattle.std.proofs.Common.{◌+◌}
use Rattle.std.specs.Prelude.{not, if◌then◌else◌}
use Rattle.model.specs.Routing.{none, take}
use Rattle.model.specs.Entering.{entry_notes, comes_to}
use Rattle.laws.proofs.Counts.{count-cons, count-cons_no}

-- a name that was picked has what it was picked for
pub picked : {P : Text → Type 0} {xs ys : List Text} (q : Text) → Picks P xs ys → IsIn q ys → P q
picked q none i = absurd i
picked {P = P} q (take {x = x} p r) (inl e) = subst P (sym e) p
picked q (take p r) (inr i) = picked q r i
picked q (pass np r) i = picked q r i

-- what is true of the notes of a refusal and of an entering is true of all that is noted of the routed queues
pub entries_all : (P : Note → Type 0) (t : Topology) (entries : Text → List Entry) (size k : ℕ) (w : Way) (rs : List Text)
    → ((r : Text) → P (Refused k r)) → ((r : Text) → IsIn r rs → P (Entered k r w)) → AllByRecursion P (entry_notes t entries size k w rs)
entries_all P t entries size k w [] refused entered = tt
entries_all P t entries size k w (r ∷ rs) refused entered = (one (is_full t entries r size), entries_all P t entries size k w rs refused (λ q i. entered q (inr i)))
  where
    one : (full : Bool) → P (if full then Refused k r else Entered k r w)
    one true = refused r
    one false = entered r (inl refl)

-- what comes is what is noted as entered
comes_by_case : (same full : Bool) (m : Message) (n : ℕ) (q r : Text) (w : Way) (es : List Entry) (ns : List Note) → bytes_eq r q ≡ same
    → count_by (has_number n) es ≡ count_by (is_entered n q) ns
    → count_by (has_number n) (if same && not full then record { message = m; mark = Ready } ∷ es else es) ≡ count_by (is_entered n q) ((if full then Refused m.number r else Entered m.number r w) ∷ ns)
comes_by_case true true m n q r w es ns e ih = ih ∙ sym (count-cons_no (is_entered n q) (Refused m.number r) ns refl)
comes_by_case true false m n q r w es ns e ih =
    let one : is_entered n q (Entered m.number r w) ≡ eqb m.number n = ap (λ b. eqb m.number n && b) e ∙ and-true (eqb m.number n) in
    count-cons (has_number n) (record { message = m; mark = Ready }) es ∙ ap (λ z. cond (eqb m.number n) 1 0 + z) ih ∙ ap (λ b. cond b 1 0 + count_by (is_entered n q) ns) (sym one) ∙ sym (count-cons (is_entered n q) (Entered m.number r w) ns)
comes_by_case false true m n q r w es ns e ih = ih ∙ sym (count-cons_no (is_entered n q) (Refused m.number r) ns refl)
comes_by_case false false m n q r w es ns e ih =
    ih ∙ sym (count-cons_no (is_entered n q) (Entered m.number r w) ns (ap (λ b. eqb m.number n && b) e ∙ and-false (eqb m.number n)))

pub comes_as_noted : (t : Topology) (entries : Text → List Entry) (m : Message) (n : ℕ) (q : Text) (w : Way) (rs : List Text)
    → count_by (has_number n) (comes_to t entries m q rs) ≡ count_by (is_entered n q) (entry_notes t entries (length m.content.body) m.number w rs)
comes_as_noted t entries m n q w [] = refl
comes_as_noted t entries m n q w (r ∷ rs) =
    comes_by_case (bytes_eq r q) (is_full t entries r (length m.content.body)) m n q r w (comes_to t entries m q rs) (entry_notes t entries (length m.content.body) m.number w rs) refl (comes_as_noted t entries m n q w rs)

-- an entry that comes to a queue is the message, ready, and the queue is routed to
pub record Comes (m : Message) (q : Text) (rs : List Text) (e : Entry) : Type 0 where
  pub is : e ≡ record { message = m; mark = Ready }
  pub routed : IsIn q rs

pub in_comes : (t : Topology) (entries : Text → List Entry) (m : Message) (q : Text) (rs : List Text) (e : Entry) → IsIn e (comes_to t entries m q rs) → Comes m q rs e
in_comes t entries m q [] e i = absurd i
in_comes t entries m q (r ∷ rs) e i = go (bytes_eq r q) (not (is_full t entries r (length m.content.body))) (bytes_eq-Decides r q).0 (in_comes t entries m q rs e) i
  where
    later : Comes m q rs e → Comes m q (r ∷ rs) e
    later c = record { is = c.is; routed = inr c.routed }

    go : (same room : Bool) → (same ≡ true → r ≡ q) → (IsIn e (comes_to t entries m q rs) → Comes m q rs e)
        → IsIn e (if same && room then record { message = m; mark = Ready } ∷ comes_to t entries m q rs else comes_to t entries m q rs) → Comes m q (r ∷ rs) e
    go true true d ih (inl x) = record { is = x; routed = inl (sym (d refl)) }
    go true true d ih (inr j) = later (ih j)
    go true false d ih j = later (ih j)
    go false room d ih j = later (ih j)
