-- Each queue has what entered it and didn't leave it.
use Rattle.laws.proofs.Names.{◌≡◌, ◌≤◌, ℕ, List, [], ◌∷◌, ◌++◌, Bool, true, false, eqb, length, refl, sym, ap, subst, ◌∙◌, arith, append_assoc, None, inl, inr, count_by, nat_le, ◌&&◌, bytes_eq, AllByRecursion, ne_eqb, eq-eqb, leb-true, leb-false, Text, Topology, IsIn, Broker, content_or_none, message, returned_notes, confirm_notes, is_none, is_some_full, next_of, answer_of, State, Step, Happening, Run, Balances, Stays, AreCounted, notes_of, is_entered, is_left, has_number, Entry, Content, Send, Event, Note, Published, Entered, Refused, Returned, Confirmed, Answer}
use Rattle.std.proofs.Common.{◌<◌, ◌+◌, Option, Some}
use Rattle.model.specs.Step.{comes_to, entry_notes}
use Rattle.model.specs.declared.notes.Way.TheVariants as way
use Rattle.laws.proofs.Deeds.{Publishes}
use Rattle.laws.proofs.View.{Seen, seen_at, quiet_notes}
use Rattle.laws.proofs.Dying.{HasDied}
use Rattle.laws.proofs.Entering.{entries_all, comes_as_noted}
use Rattle.laws.proofs.Agreement.{counted_in}
use Rattle.laws.proofs.Counts.{count-append, count-cons_no, count_none, all-append}

-- ---- what a publish notes

pub returned_all : (P : Note → Type 0) (k : ℕ) (b : Bool) → P (Returned k) → AllByRecursion P (returned_notes k b)
returned_all P k true p = (p, tt)
returned_all P k false p = tt

confirmed_all : (P : Note → Type 0) (k : ℕ) (o : Option ℕ) (a : Answer) → P (Confirmed k a) → AllByRecursion P (confirm_notes k o a)
confirmed_all P k None a p = tt
confirmed_all P k (Some m) a p = (p, tt)

-- a publish by its parts: its numbers, its first note, those of its queues, and those that answer
module _ {t : Topology} {old new : Broker} {e : Event} {sends : List Send} {notes : List Note} (p : Publishes t old new e sends notes) where
  abbrev pub number : ℕ
  number = old.published + 1

  abbrev pub content : Content
  content = content_or_none p.given

  abbrev pub confirm : Option ℕ
  confirm = next_of p.ch.confirm

  abbrev pub some_full : Bool
  some_full = is_some_full t old.queue content p.is.targets

  abbrev pub is_returned : Bool
  is_returned = p.publish.mandatory && is_none p.is.targets

  abbrev pub first_note : Note
  first_note = Published number p.c p.h p.publish.exchange p.publish.routing_key confirm

  abbrev pub entry_part : List Note
  entry_part = entry_notes t old.queue (length content.body) number way.Publish p.is.targets

  abbrev pub answer_part : List Note
  answer_part = returned_notes number is_returned ++ confirm_notes number confirm (answer_of some_full)

  pub noted : notes ≡ first_note ∷ (entry_part ++ answer_part)
  noted = p.is.noted ∙ ap (λ (ns : List Note). first_note ∷ ns) (append_assoc entry_part (returned_notes number is_returned) (confirm_notes number confirm (answer_of some_full)))

  pub answers_all : (P : Note → Type 0) → P (Returned number) → ((a : Answer) → P (Confirmed number a)) → AllByRecursion P answer_part
  answers_all P returned confirmed = all-append P (returned_notes number is_returned) _ (returned_all P number is_returned returned) (confirmed_all P number confirm _ (confirmed (answer_of some_full)))

  pub entry_all : (P : Note → Type 0) → ((r : Text) → P (Refused number r)) → ((r : Text) → IsIn r p.is.targets → P (Entered number r way.Publish)) → AllByRecursion P entry_part
  entry_all P refused entered = entries_all P t old.queue (length content.body) number way.Publish p.is.targets refused entered

  pub others_all : (P : Note → Type 0) → ((r : Text) → P (Refused number r)) → ((r : Text) → IsIn r p.is.targets → P (Entered number r way.Publish)) → P (Returned number) → ((a : Answer) → P (Confirmed number a))
      → AllByRecursion P (entry_part ++ answer_part)
  others_all P refused entered returned confirmed = all-append P entry_part answer_part (entry_all P refused entered) (answers_all P returned confirmed)

-- ---- the balance

publish_balances : (t : Topology) (old new : Broker) (e : Event) (sends : List Send) (notes : List Note) → Publishes t old new e sends notes → Balances old notes new
publish_balances t old new e sends notes p n q =
    let m = message (number p) p.publish (content p) in
    let entered : count_by (is_entered n q) notes ≡ count_by (is_entered n q) (entry_part p) + 0 =
    ap (count_by (is_entered n q)) (noted p)
    ∙ count-cons_no (is_entered n q) (first_note p) (entry_part p ++ answer_part p) refl
    ∙ count-append (is_entered n q) (entry_part p) (answer_part p)
    ∙ ap (λ z. count_by (is_entered n q) (entry_part p) + z) (count_none (is_entered n q) (answer_part p) (answers_all p _ refl (λ a. refl))) in
    let left : count_by (is_left n q) notes ≡ 0 =
    ap (count_by (is_left n q)) (noted p) ∙ count_none (is_left n q) (first_note p ∷ (entry_part p ++ answer_part p)) (refl, others_all p _ (λ r. refl) (λ r i. refl) refl (λ a. refl)) in
    let came = comes_as_noted t old.queue m n q way.Publish p.is.targets in
    let there : count_by (has_number n) (new.queue q) ≡ count_by (has_number n) (old.queue q) + count_by (has_number n) (comes_to t old.queue m q p.is.targets) =
    ap (count_by (has_number n)) (p.is.left.queues q) ∙ count-append (has_number n) (old.queue q) _ in
    omega (arith, entered, left, came, there)

step_balances : (t : Topology) (old new : Broker) (e : Event) (sends : List Send) (notes : List Note) → Seen t old new e sends notes → Balances old notes new
step_balances t old new e sends notes (inl a) n q = a.balances n q
step_balances t old new e sends notes (inr p) n q = publish_balances t old new e sends notes p n q

-- In every run each event balances by its own notes.
pub run_stays : (hs : List Happening) (old new : State) → Run old hs new → Stays old.broker hs new.broker
run_stays [] old new r = ap (λ (z : State). z.broker) r
run_stays (h ∷ hs) old new (e, s, r) = (
  ap (λ (z : State). z.broker) e,
  step_balances h.config.topology h.before.broker h.after.broker h.event h.sends h.notes (seen_at h s),
  run_stays hs h.after new r,
)

-- What balances event by event balances as a whole.
pub stays_balances : (hs : List Happening) (old new : Broker) → Stays old hs new → Balances old (notes_of hs) new
stays_balances [] old new e n q = rw e (omega arith)
stays_balances (h ∷ hs) old new (e, one, rest) n q =
    let first = one n q in
    let after = stays_balances hs h.after.broker new rest n q in
    let from : count_by (has_number n) (h.before.broker.queue q) ≡ count_by (has_number n) (old.queue q) = ap (λ (b : Broker). count_by (has_number n) (b.queue q)) e in
    let entered = count-append (is_entered n q) h.notes (notes_of hs) in
    let left = count-append (is_left n q) h.notes (notes_of hs) in
    omega (arith, from, first, after, entered, left)

-- In every run, what stood in a queue and what entered it is what left it and what stands there.
pub run_balances : (hs : List Happening) (old new : State) → Run old hs new → Balances old.broker (notes_of hs) new.broker
run_balances hs old new r = stays_balances hs old.broker new.broker (run_stays hs old new r)

-- ---- no message stands in a queue that was not counted

counted_by_publish : (t : Topology) (old new : Broker) (e : Event) (sends : List Send) (notes : List Note) → Publishes t old new e sends notes → AreCounted old → AreCounted new
counted_by_publish t old new e sends notes p counted n q lt =
    let made : new.published ≡ old.published + 1 = p.is.left.counted in
    let ne : eqb (old.published + 1) n ≡ false = ne_eqb (old.published + 1) n (λ e. omega (arith, e, lt, made)) in
    let entered : count_by (is_entered n q) notes ≡ 0 =
    ap (count_by (is_entered n q)) (noted p)
    ∙ count_none (is_entered n q) (first_note p ∷ (entry_part p ++ answer_part p)) (refl, others_all p _ (λ r. refl) (λ r i. ap (λ b. b && bytes_eq r q) ne) refl (λ a. refl)) in
    let balance = publish_balances t old new e sends notes p n q in
    let none = counted n q (omega (arith, lt, made)) in
    omega (arith, entered, balance, none)

-- a message that stands in a queue has a number that was counted
pub stands_counted : (b : Broker) (q : Text) (e : Entry) → AreCounted b → IsIn e (b.queue q) → e.message.number ≤ b.published
stands_counted b q e counted i = go (nat_le e.message.number b.published) refl
  where
    go : (v : Bool) → nat_le e.message.number b.published ≡ v → e.message.number ≤ b.published
    go true is = leb-true e.message.number b.published is
    go false is =
        let lt = leb-false e.message.number b.published is in
        let one = counted_in (has_number e.message.number) e (b.queue q) i (eq-eqb e.message.number e.message.number refl) in
        let none = counted e.message.number q (omega (arith, lt)) in
        absurd (omega (arith, one, none))

not_counted : (old : Broker) (n : ℕ) (q : Text) (m : ℕ) (r : Text) {t : Topology} {notes : List Note} → AreCounted old → old.published < n → HasDied t old.queue notes m r → is_entered n q (Entered m r way.Dead) ≡ false
not_counted old n q m r counted lt d =
    let le = stands_counted old d.from d.entry counted d.there in
    let same = d.number in
    ap (λ b. b && bytes_eq r q) (ne_eqb m n (λ e. omega (arith, e, lt, le, same)))

counted_step : (t : Topology) (old new : Broker) (e : Event) (sends : List Send) (notes : List Note) → Seen t old new e sends notes → AreCounted old → AreCounted new
counted_step t old new e sends notes (inl a) counted = λ n q lt.
    let before : old.published < n = subst (λ (k : ℕ). k < n) a.same lt in
    let entered = count_none (is_entered n q) notes (quiet_notes (λ (note : Note). is_entered n q note ≡ false) (λ m r cause. refl) (λ m r. refl) (λ m r d. not_counted old n q m r counted before d) a) in
    let balance = a.balances n q in
    let none = counted n q before in
    omega (arith, entered, balance, none)
counted_step t old new e sends notes (inr p) counted = counted_by_publish t old new e sends notes p counted

pub counted_at : (h : Happening) → Step h.config h.before h.event h.sends h.notes h.after → AreCounted h.before.broker → AreCounted h.after.broker
counted_at h s = counted_step h.config.topology h.before.broker h.after.broker h.event h.sends h.notes (seen_at h s)

-- Every run keeps that.
pub run_counts : (hs : List Happening) (old new : State) → Run old hs new → AreCounted old.broker → AreCounted new.broker
run_counts [] old new r counted = subst (λ (z : State). AreCounted z.broker) (sym r) counted
run_counts (h ∷ hs) old new (e, s, r) counted = run_counts hs h.after new r (counted_at h s (subst (λ (z : State). AreCounted z.broker) (sym e) counted))
