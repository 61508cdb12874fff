-- What a publish enters: each queue to which it is routed, or that is full.
use Rattle.laws.proofs.Names.{filter_map-append, ◌≡◌, ℕ, List, [], ◌∷◌, ◌++◌, Bool, true, false, refl, sym, ap, subst, ◌∙◌, None, length, inl, inr, ◌||◌, filter_map, list_any, AllByRecursion, Text, IsIn, is_full, answer_of, State, Happening, Run, notes_of, is_full_after, EntersAsRouted, EnterAsRouted, number_in, CountUp, Note, Published}
use Rattle.model.specs.declared.notes.Answer.TheVariants as answered
use Rattle.model.specs.declared.notes.Way.TheVariants as way
use Rattle.laws.proofs.Counts.{all_each, all_in, filter_map_none}
use Rattle.laws.proofs.Letters.{full_same, same_notes, follows_itself}
use Rattle.laws.proofs.Deeds.{Publishes}
use Rattle.laws.proofs.View.{Seen, seen_at, quiet_notes}
use Rattle.laws.proofs.Balance.{number, content, confirm, some_full, is_returned, first_note, entry_part, answer_part, noted, others_all}

-- the note is of no publish that came
abbrev IsOther : Note → Type 0
IsOther (Published n c k x key o) = ⊥
IsOther note = Unit {0}

-- where no queue is full, none of them is
none_full : (p : Text → Bool) (xs : List Text) → list_any p xs ≡ false → AllByRecursion (λ (x : Text). p x ≡ false) xs
none_full p [] e = tt
none_full p (x ∷ xs) e = go (p x) refl (none_full p xs) e
  where
    go : (v : Bool) → p x ≡ v → (list_any p xs ≡ false → AllByRecursion (λ (y : Text). p y ≡ false) xs) → (v || list_any p xs) ≡ false → AllByRecursion (λ (y : Text). p y ≡ false) (x ∷ xs)
    go true is more e = absurd cc
    go false is more e = (is, more e)

-- an ack is the answer where none is full
acked_if_none : (full : Bool) → answered.Ack ≡ answer_of full → full ≡ false
acked_if_none true e = absurd cc
acked_if_none false e = refl

-- and a nack where some is
some_is_full : (full : Bool) → answer_of full ≡ answered.Nack → full ≡ true
some_is_full true e = refl
some_is_full false e = absurd cc

full_one : (p : Text → Bool) (xs : List Text) → list_any p xs ≡ true → (x : Text) × IsIn x xs × (p x ≡ true)
full_one p [] e = absurd cc
full_one p (x ∷ xs) e = go (p x) refl (full_one p xs) e
  where
    go : (v : Bool) → p x ≡ v → (list_any p xs ≡ true → (y : Text) × IsIn y xs × (p y ≡ true)) → (v || list_any p xs) ≡ true → (y : Text) × IsIn y (x ∷ xs) × (p y ≡ true)
    go true is more e = (x, inl refl, is)
    go false is more e = let r = more e in (r.0, inr r.1, r.2)

module _ (h : Happening) (p : Publishes h.config.topology h.before.broker h.after.broker h.event h.sends h.notes) where
  abbrev IsRoom : Text → Type 0
  IsRoom q = is_full_after h.config.topology h.before.broker.queue [] q (length (content p).body) ≡ false

  rooms : some_full p ≡ false → AllByRecursion IsRoom p.is.targets
  rooms e = all_each _ IsRoom (λ q no. sym (full_same h.config.topology h.before.broker.queue h.before.broker.queue [] (follows_itself h.before.broker.queue) (length (content p).body) q) ∙ no) p.is.targets
      (none_full (λ q. is_full h.config.topology h.before.broker.queue q (length (content p).body)) p.is.targets e)

  one_full : some_full p ≡ true → (q : Text) × IsIn q p.is.targets × (is_full_after h.config.topology h.before.broker.queue [] q (length (content p).body) ≡ true)
  one_full e =
      let r = full_one (λ q. is_full h.config.topology h.before.broker.queue q (length (content p).body)) p.is.targets e in
      (r.0, r.1, sym (full_same h.config.topology h.before.broker.queue h.before.broker.queue [] (follows_itself h.before.broker.queue) (length (content p).body) r.0) ∙ r.2)

  own : EntersAsRouted h (number p) p.c p.h p.publish.exchange p.publish.routing_key (confirm p)
  own = record {
    publish = p.publish;
    given = p.given;
    event = p.event;
    exchange = refl;
    routing_key = refl;
    targets = p.is.targets;
    routed = p.is.routed;
    goes_back = is_returned p;
    reply = answer_of (some_full p);
    noted = noted p ∙ ap (λ (ns : List Note). first_note p ∷ (ns ++ answer_part p)) (same_notes h.config.topology h.before.broker.queue h.before.broker.queue [] (length (content p).body) (number p) way.Publish (follows_itself h.before.broker.queue) p.is.targets);
    returned = refl;
    acked = λ e. rooms (acked_if_none (some_full p) (sym e));
    nacked = λ e. one_full (some_is_full (some_full p) e);
  }

  -- of a publish that came, what is noted is so
  abbrev IsSo : Note → Type 0
  IsSo (Published n c k x key o) = EntersAsRouted h n c k x key o
  IsSo note = Unit {0}

  routed_own : EnterAsRouted h
  routed_own n c k x key o i = by (subst (IsIn (Published n c k x key o)) (noted p) i)
    where
      by : IsIn (Published n c k x key o) (first_note p ∷ (entry_part p ++ answer_part p)) → EntersAsRouted h n c k x key o
      by (inl e) = subst IsSo (sym e) own
      by (inr j) = absurd (all_in IsOther (Published n c k x key o) (entry_part p ++ answer_part p) (others_all p IsOther (λ r. tt) (λ r s. tt) tt (λ a. tt)) j)

step_routed : (h : Happening) → Seen h.config.topology h.before.broker h.after.broker h.event h.sends h.notes → EnterAsRouted h
step_routed h (inl q) n c k x key o i = absurd (all_in IsOther (Published n c k x key o) h.notes (quiet_notes IsOther (λ m r cause. tt) (λ m r. tt) (λ m r d. tt) q) i)
step_routed h (inr p) n c k x key o i = routed_own h p n c k x key o i

-- In every run each publish entered each queue to which it was routed, or that was full, and was acked only where none was.
pub run_routed : (hs : List Happening) (old new : State) → Run old hs new → AllByRecursion EnterAsRouted hs
run_routed [] old new r = tt
run_routed (h ∷ hs) old new (e, s, r) = (step_routed h (seen_at h s), run_routed hs h.after new r)

-- ---- numbers

pub next_on : (first mid last : ℕ) (ns ms : List ℕ) → CountUp first ns mid → CountUp mid ms last → CountUp first (ns ++ ms) last
next_on first mid last [] ms e more = subst (λ (n : ℕ). CountUp n ms last) e more
next_on first mid last (n ∷ ns) ms (e, rest) more = (e, next_on n mid last ns ms rest more)

-- the note is of no number
abbrev HasNoNumber : Note → Type 0
HasNoNumber note = number_in note ≡ None

step_numbers : (h : Happening) → Seen h.config.topology h.before.broker h.after.broker h.event h.sends h.notes → CountUp h.before.broker.published (filter_map number_in h.notes) h.after.broker.published
step_numbers h (inl q) =
    subst (λ (ns : List ℕ). CountUp h.before.broker.published ns h.after.broker.published) (sym (filter_map_none number_in h.notes (quiet_notes HasNoNumber (λ m r cause. refl) (λ m r. refl) (λ m r d. refl) q))) q.same
step_numbers h (inr p) =
    subst (λ (ns : List ℕ). CountUp h.before.broker.published ns h.after.broker.published) (sym (ap (filter_map number_in) (noted p) ∙ ap (λ (ns : List ℕ). number p ∷ ns) (filter_map_none number_in (entry_part p ++ answer_part p) (others_all p HasNoNumber (λ r. refl) (λ r s. refl) refl (λ a. refl)))))
    (refl, p.is.left.counted)

-- In every run publishes are numbered one after another.
pub run_numbers : (hs : List Happening) (old new : State) → Run old hs new → CountUp old.broker.published (filter_map number_in (notes_of hs)) new.broker.published
run_numbers [] old new r = ap (λ (s : State). s.broker.published) r
run_numbers (h ∷ hs) old new (e, s, r) =
    subst (λ (ns : List ℕ). CountUp old.broker.published ns new.broker.published) (sym (filter_map-append number_in h.notes (notes_of hs)))
    (next_on old.broker.published h.after.broker.published new.broker.published _ _ (subst (λ (z : State). CountUp z.broker.published (filter_map number_in h.notes) h.after.broker.published) e (step_numbers h (seen_at h s))) (run_numbers hs h.after new r))
