-- The messages of a queue are first given out in the order in which they entered it.
use Rattle.laws.proofs.Names.{◌≡◌, ℕ, List, [], ◌∷◌, ◌++◌, Bool, true, false, cond, refl, sym, ap, subst, ◌∙◌, length, append_assoc, append-nil, None, is_some, ◌&&◌, bytes_eq, AllByRecursion, false≢true, same_Some, Text, Topology, Outstanding, Channel, Broker, is_ready, is_full, is_under, is_held_as, freed, held_as, change_first, without_first, Settlement, Leaves, Rejects, Returns, AreSettled, AreLeft, AreRejected, AreReturned, given_in, with_queue, first_ready, holder_of, without_given, with_returned, after_giving, after_delivery, Message, Is, message, State, Step, Happening, Run, notes_of, Entry, Holder, Taker, Mark, Ready, Held, Get, Send, Event, Cause, Way, Note, Entered, Refused, GivesOut, to_get, to_consumer, FirstGiven, ended, given, passed, IsPart, empty, skips, is_fresh, waiting, entered_by, entered, IsNext, GivenInOrder, GivenAfterThoseAhead, key_after, dead_letter, with_headers}
use Rattle.std.proofs.Common.{map, filter, not, Option, Some}
use Rattle.std.specs.Prelude.{if◌then◌else◌}
use Rattle.model.specs.Step.{comes_to, entry_notes}
use Rattle.model.specs.declared.messages.Taker.TheVariants as taker
use Rattle.model.specs.declared.notes.Way.TheVariants as way
use Rattle.model.specs.Order.{takes}
use Rattle.laws.proofs.Dying.{Goes, not_found, left_only, died, goes_by}
use Rattle.laws.proofs.Agreement.{at_own}
use Rattle.laws.proofs.Leaving.{at_queue}
use Rattle.laws.proofs.Parts.{itself, part_same, within, longer, front, onward}
use Rattle.laws.proofs.Deeds.{Deed, changes, enters, gives, settles, purges, Publishes, freed_by}
use Rattle.laws.proofs.View.{deed_at}
use Rattle.laws.proofs.Balance.{number, content, entry_part, answer_part, noted, answers_all}

-- ---- lists of entries

-- the number of this message, before these, where it waits
abbrev ahead_if : Bool → ℕ → List ℕ → List ℕ
ahead_if v n ns = if v then n ∷ ns else ns

waiting-append : (xs ys : List Entry) → waiting (xs ++ ys) ≡ waiting xs ++ waiting ys
waiting-append [] ys = refl
waiting-append (x ∷ xs) ys = go (is_fresh x) (waiting-append xs ys)
  where
    go : (v : Bool) → waiting (xs ++ ys) ≡ waiting xs ++ waiting ys → ahead_if v x.message.number (waiting (xs ++ ys)) ≡ ahead_if v x.message.number (waiting xs) ++ waiting ys
    go true e = ap (λ (ns : List ℕ). x.message.number ∷ ns) e
    go false e = e

pub entered-append : (q : Text) (xs ys : List Note) → entered q (xs ++ ys) ≡ entered q xs ++ entered q ys
entered-append q [] ys = refl
entered-append q (x ∷ xs) ys = ap (λ (ns : List ℕ). entered_by q x ++ ns) (entered-append q xs ys) ∙ sym (append_assoc (entered_by q x) (entered q xs) (entered q ys))

-- one more that waits before these, or doesn't
one_more : (v : Bool) (n : ℕ) (xs ys : List ℕ) → IsPart xs ys → IsPart xs (ahead_if v n ys)
one_more true n xs ys p = skips p
one_more false n xs ys p = p

both_more : (v : Bool) (n : ℕ) (xs ys : List ℕ) → IsPart xs ys → IsPart (ahead_if v n xs) (ahead_if v n ys)
both_more true n xs ys p = takes p
both_more false n xs ys p = p

-- one that is freed did not wait, and is redelivered
freed_fresh : (mine : Holder → Bool) (e : Entry) (ns : List ℕ) → ahead_if (is_fresh (freed mine e)) (freed mine e).message.number ns ≡ ahead_if (is_fresh e) e.message.number ns
freed_fresh mine e ns = go e.message e.mark
  where
    go : (m : Message) (k : Mark) → ahead_if (is_fresh (freed mine (record { message = m; mark = k }))) (freed mine (record { message = m; mark = k })).message.number ns ≡ ahead_if (is_fresh (record { message = m; mark = k })) m.number ns
    go m Ready = refl
    go m (Held g) = by (mine g)
      where
        made : Bool → Entry
        made v = if v then record { message = record m { redelivered = true }; mark = Ready } else record { message = m; mark = Held g }

        by : (v : Bool) → ahead_if (is_fresh (made v)) (made v).message.number ns ≡ ns
        by true = refl
        by false = refl

waiting-freed : (mine : Holder → Bool) (es : List Entry) → waiting (map (freed mine) es) ≡ waiting es
waiting-freed mine [] = refl
waiting-freed mine (e ∷ es) = freed_fresh mine e (waiting (map (freed mine) es)) ∙ ap (λ (ns : List ℕ). ahead_if (is_fresh e) e.message.number ns) (waiting-freed mine es)

without_waits : (p : Entry → Bool) (es : List Entry) → IsPart (waiting (without_first p es)) (waiting es)
without_waits p [] = empty
without_waits p (e ∷ es) = go (p e) (without_waits p es)
  where
    go : (v : Bool) → IsPart (waiting (without_first p es)) (waiting es) → IsPart (waiting (cond v es (e ∷ without_first p es))) (waiting (e ∷ es))
    go true rest = one_more (is_fresh e) e.message.number (waiting es) (waiting es) (itself (waiting es))
    go false rest = both_more (is_fresh e) e.message.number (waiting (without_first p es)) (waiting es) rest

filter_waits : (p : Entry → Bool) (es : List Entry) → IsPart (waiting (filter p es)) (waiting es)
filter_waits p [] = empty
filter_waits p (e ∷ es) = go (p e) (filter_waits p es)
  where
    go : (v : Bool) → IsPart (waiting (filter p es)) (waiting es) → IsPart (waiting (cond v (e ∷ filter p es) (filter p es))) (waiting (e ∷ es))
    go true rest = both_more (is_fresh e) e.message.number (waiting (filter p es)) (waiting es) rest
    go false rest = one_more (is_fresh e) e.message.number (waiting (filter p es)) (waiting es) rest

-- without the first that is ready, or with it held, the same wait but this one
first_waited : (no_ack : Bool) (holder : Holder) (e : Entry) (es : List Entry) → first_ready es ≡ Some e → ahead_if (not e.message.redelivered) e.message.number (waiting (after_giving no_ack holder es)) ≡ waiting es
first_waited no_ack holder e [] found = absurd (false≢true (ap is_some found))
first_waited no_ack holder e (x ∷ xs) found = go (is_ready x) refl found (first_waited no_ack holder e xs)
  where
    wanted : List ℕ → Type 0
    wanted ns = ahead_if (not e.message.redelivered) e.message.number ns ≡ waiting (x ∷ xs)

    -- the entries after it, by whether this one is ready
    after : Bool → Bool → List Entry
    after true v = cond v xs (x ∷ without_first is_ready xs)
    after false v = cond v (held_as holder x ∷ xs) (x ∷ change_first is_ready (held_as holder) xs)

    here : is_ready x ≡ true → e ≡ x → wanted (waiting xs)
    here ready same =
        ap (λ (z : Entry). ahead_if (not z.message.redelivered) z.message.number (waiting xs)) same
        ∙ sym (ap (λ (b : Bool). ahead_if (b && not x.message.redelivered) x.message.number (waiting xs)) ready)

    there : is_ready x ≡ false → (rest : List ℕ) → ahead_if (not e.message.redelivered) e.message.number rest ≡ waiting xs → wanted (ahead_if (is_fresh x) x.message.number rest)
    there idle rest same =
        ap (λ (b : Bool). ahead_if (not e.message.redelivered) e.message.number (ahead_if (b && not x.message.redelivered) x.message.number rest)) idle
        ∙ same
        ∙ sym (ap (λ (b : Bool). ahead_if (b && not x.message.redelivered) x.message.number (waiting xs)) idle)

    by : (no_ack v : Bool) → is_ready x ≡ v → cond v (Some x) (first_ready xs) ≡ Some e → (first_ready xs ≡ Some e → ahead_if (not e.message.redelivered) e.message.number (waiting (after_giving no_ack holder xs)) ≡ waiting xs) → wanted (waiting (after no_ack v))
    by true true is found rest = here is (sym (same_Some x e found))
    by false true is found rest = here is (sym (same_Some x e found))
    by true false is found rest = there is _ (rest found)
    by false false is found rest = there is _ (rest found)

    go : (v : Bool) → is_ready x ≡ v → cond v (Some x) (first_ready xs) ≡ Some e → (first_ready xs ≡ Some e → ahead_if (not e.message.redelivered) e.message.number (waiting (after_giving no_ack holder xs)) ≡ waiting xs)
        → wanted (waiting (after_giving no_ack holder (x ∷ xs)))
    go v is found rest = elim no_ack as (λ (b : Bool). (first_ready xs ≡ Some e → ahead_if (not e.message.redelivered) e.message.number (waiting (after_giving b holder xs)) ≡ waiting xs) → wanted (waiting (after_giving b holder (x ∷ xs)))) [
      | true ↦ λ r. subst (λ (w : Bool). wanted (waiting (after true w))) (sym is) (by true v is found r)
      | false ↦ λ r. subst (λ (w : Bool). wanted (waiting (after false w))) (sym is) (by false v is found r)
    ] rest

-- none ahead of the first that is ready can be given out
is_next : (e : Entry) (es : List Entry) → first_ready es ≡ Some e → IsNext es e
is_next e [] found = absurd (false≢true (ap is_some found))
is_next e (x ∷ xs) found = go (is_ready x) refl found (is_next e xs)
  where
    go : (v : Bool) → is_ready x ≡ v → cond v (Some x) (first_ready xs) ≡ Some e → (first_ready xs ≡ Some e → IsNext xs e) → IsNext (x ∷ xs) e
    go true is found rest = record { ahead = []; behind = xs; all = ap (λ (z : Entry). z ∷ xs) (same_Some x e found); given = tt }
    go false is found rest = let r = rest found in record { ahead = x ∷ r.ahead; behind = r.behind; all = ap (λ (zs : List Entry). x ∷ zs) r.all; given = (is, r.given) }

-- ---- queues

-- those that wait in each new queue waited in the old one, in this order
abbrev Follows : (Text → List Entry) → (Text → List Entry) → Type 0
Follows old new = (q : Text) → IsPart (waiting (new q)) (waiting (old q))

follows_same : (old new : Text → List Entry) → ((q : Text) → new q ≡ old q) → Follows old new
follows_same old new is q = part_same _ _ (ap waiting (is q))

follows_on : (old mid new : Text → List Entry) → Follows old mid → Follows mid new → Follows old new
follows_on old mid new a b q = within (waiting (old q)) (b q) (a q)

follows_freed : (mine : Holder → Bool) (old new : Text → List Entry) → ((q : Text) → new q ≡ map (freed mine) (old q)) → Follows old new
follows_freed mine old new is q = part_same _ _ (ap waiting (is q) ∙ waiting-freed mine (old q))

follows_one : (old : Text → List Entry) (name : Text) (entries : List Entry) → IsPart (waiting entries) (waiting (old name)) → Follows old (with_queue old name entries)
follows_one old name entries here = at_queue (λ (q : Text) (es : List Entry). IsPart (waiting es) (waiting (old q))) old name entries here (λ q other. itself (waiting (old q)))

left_follows : (cause : Cause) (c h : ℕ) (os : List Outstanding) (old : Text → List Entry) (notes : List Note) (new : Text → List Entry) → AreLeft cause c h os old notes new → Follows old new
left_follows cause c h [] old notes new l = follows_same old new l.1
left_follows cause c h (o ∷ os) old notes new (mid, rest, is, all, more) =
    follows_on old mid new (follows_on old (without_given c h old o) mid (follows_one old o.queue _ (without_waits (is_held_as (holder_of c h o)) (old o.queue))) (follows_same _ mid is)) (left_follows cause c h os mid rest new more)

returned_follows : (c h : ℕ) (os : List Outstanding) (old new : Text → List Entry) → AreReturned c h os old new → Follows old new
returned_follows c h [] old new r = follows_same old new r
returned_follows c h (o ∷ os) old new (mid, is, more) =
    follows_on old mid new (follows_on old (with_returned c h old o) mid (follows_one old o.queue _ (part_same _ _ (waiting-freed (is_under (holder_of c h o)) (old o.queue)))) (follows_same _ mid is)) (returned_follows c h os mid new more)

-- what is given out is the next that waits, or did not wait
given_waits : (no_ack : Bool) (holder : Holder) (e : Entry) (es : List Entry) → first_ready es ≡ Some e → IsPart (waiting (after_giving no_ack holder es)) (waiting es)
given_waits no_ack holder e es found = subst (IsPart (waiting (after_giving no_ack holder es))) (first_waited no_ack holder e es found) (one_more (not e.message.redelivered) e.message.number _ _ (itself (waiting (after_giving no_ack holder es))))

-- ---- a publish

-- what comes to a queue is what is noted as entered there
pub comes_as_entered : (t : Topology) (entries : Text → List Entry) (m : Message) (q : Text) (w : Way) → m.redelivered ≡ false → (rs : List Text) → waiting (comes_to t entries m q rs) ≡ entered q (entry_notes t entries (length m.content.body) m.number w rs)
comes_as_entered t entries m q w new [] = refl
comes_as_entered t entries m q w new (r ∷ rs) = go (is_full t entries r (length m.content.body)) (bytes_eq r q) refl (comes_as_entered t entries m q w new rs)
  where
    rest : List Entry
    rest = comes_to t entries m q rs

    notes : List Note
    notes = entry_notes t entries (length m.content.body) m.number w rs

    go : (full same : Bool) → bytes_eq r q ≡ same → waiting rest ≡ entered q notes
        → waiting (if same && not full then record { message = m; mark = Ready } ∷ rest else rest) ≡ entered_by q (if full then Refused m.number r else Entered m.number r w) ++ entered q notes
    go true true is e = e
    go true false is e = e
    go false true is e = ap (λ (b : Bool). ahead_if (not b) m.number (waiting rest)) new ∙ ap (λ (ns : List ℕ). m.number ∷ ns) e ∙ sym (ap (λ (b : Bool). (if b then m.number ∷ [] else []) ++ entered q notes) is)
    go false false is e = e ∙ sym (ap (λ (b : Bool). (if b then m.number ∷ [] else []) ++ entered q notes) is)

pub entered_none : (q : Text) (notes : List Note) → AllByRecursion (λ (note : Note). entered_by q note ≡ []) notes → entered q notes ≡ []
entered_none q [] a = refl
entered_none q (note ∷ notes) a = ap (λ (ns : List ℕ). ns ++ entered q notes) a.0 ∙ entered_none q notes a.1

publish_waits : {t : Topology} {old new : Broker} {e : Event} {sends : List Send} {notes : List Note} (p : Publishes t old new e sends notes) (q : Text) → waiting (new.queue q) ≡ waiting (old.queue q) ++ entered q notes
publish_waits {t = t} {old = old} p q =
    let m = message (number p) p.publish (content p) in
    let none = entered_none q (answer_part p) (answers_all p (λ (note : Note). entered_by q note ≡ []) refl (λ a. refl)) in
    ap waiting (p.is.left.queues q)
    ∙ waiting-append (old.queue q) (comes_to t old.queue m q p.is.targets)
    ∙ ap (λ (ns : List ℕ). waiting (old.queue q) ++ ns) (
    comes_as_entered t old.queue m q way.Publish refl p.is.targets
    ∙ sym (append-nil (entered q (entry_part p)))
    ∙ ap (λ (ns : List ℕ). entered q (entry_part p) ++ ns) (sym none)
    ∙ sym (entered-append q (entry_part p) (answer_part p))
    ∙ sym (ap (entered q) (noted p))
    )

-- ---- dead letters

-- those that wait in each new queue waited in the old one, or entered it, in this order
abbrev Goes_on : (Text → List Entry) → List Note → (Text → List Entry) → Type 0
Goes_on old notes new = (q : Text) → IsPart (waiting (new q)) (waiting (old q) ++ entered q notes)

of_follows : (old : Text → List Entry) (notes : List Note) (new : Text → List Entry) → Follows old new → Goes_on old notes new
of_follows old notes new f q = longer (waiting (old q)) (entered q notes) (f q)

-- one after another
on_and_on : (old mid new : Text → List Entry) (first rest : List Note) → Goes_on old first mid → Goes_on mid rest new → Goes_on old (first ++ rest) new
on_and_on old mid new first rest a b q =
    subst (λ (es : List ℕ). IsPart (waiting (new q)) (waiting (old q) ++ es)) (sym (entered-append q first rest))
    (onward [] [] (waiting (old q)) (waiting (mid q)) (waiting (new q)) (entered q first) (entered q rest) (a q) (b q))

-- a dead letter enters its queues behind all others, and the note that its message left adds nothing
one_goes_on : (t : Topology) (name : Text) (gone : Text → List Entry) (notes : List Note) (new : Text → List Entry) (found : Option Entry) → Goes t name gone notes new found → Goes_on gone notes new
one_goes_on t name gone notes new None (not_found none same) q = of_follows gone notes new (follows_same gone new same) q
one_goes_on t name gone notes new (Some e) (left_only is same) q = of_follows gone notes new (follows_same gone new same) q
one_goes_on t name gone notes new (Some e) (died p exchange rest dies is d) q =
    let letter = dead_letter e.message exchange (key_after p.dead_letter_key e.message.key) (with_headers e.message.content d.headers) in
    part_same _ _ (
    ap waiting (d.left q)
    ∙ waiting-append (gone q) (comes_to t gone letter q d.targets)
    ∙ ap (λ (ns : List ℕ). waiting (gone q) ++ ns) (comes_as_entered t gone letter q way.Dead refl d.targets ∙ sym (ap (entered q) d.noted) ∙ sym (ap (entered q) is))
    )

rejected_goes_on : (t : Topology) (c h : ℕ) (os : List Outstanding) (old : Text → List Entry) (notes : List Note) (new : Text → List Entry) → AreRejected t c h os old notes new → Goes_on old notes new
rejected_goes_on t c h [] old notes new a = of_follows old notes new (follows_same old new a.1)
rejected_goes_on t c h (o ∷ os) old notes new (mid, first, rest, dies, all, more) =
    let gone = without_given c h old o in
    let without : Follows old gone = follows_one old o.queue _ (without_waits (is_held_as (holder_of c h o)) (old o.queue)) in
    let step : Goes_on old first mid = on_and_on old gone mid [] first (of_follows old [] gone without) (one_goes_on t o.queue gone first mid (given_in c h old o) (goes_by t o.queue gone first mid (given_in c h old o) dies)) in
    subst (λ (ns : List Note). Goes_on old ns new) (sym all) (on_and_on old mid new first rest step (rejected_goes_on t c h os mid rest new more))

settled_goes_on : (t : Topology) (how : Settlement) (c h : ℕ) (os : List Outstanding) (old : Text → List Entry) (notes : List Note) (new : Text → List Entry) → AreSettled t how c h os old notes new → Goes_on old notes new
settled_goes_on t (Leaves cause) c h os old notes new s = of_follows old notes new (left_follows cause c h os old notes new s)
settled_goes_on t Rejects c h os old notes new s = rejected_goes_on t c h os old notes new s
settled_goes_on t Returns c h os old notes new s = of_follows old notes new (returned_follows c h os old new s.1)

-- ---- all cases

module _ (t : Topology) (old new : Broker) (sends : List Send) (notes : List Note) where
  -- those that wait in a queue waited there, or entered it
  abbrev AreKept : Type 0
  AreKept = (q : Text) → IsPart (waiting (new.queue q)) (waiting (old.queue q) ++ entered q notes)

  kept : Follows old.queue new.queue → AreKept
  kept f q = longer (waiting (old.queue q)) (entered q notes) (f q)

  -- one queue is another
  other : (name : Text) (entries : List Entry) → ((q : Text) → new.queue q ≡ with_queue old.queue name entries q) → IsPart (waiting entries) (waiting (old.queue name)) → AreKept
  other name entries is here = kept (follows_on old.queue (with_queue old.queue name entries) new.queue (follows_one old.queue name entries here) (follows_same (with_queue old.queue name entries) new.queue is))

  publishes : {e : Event} → Publishes t old new e sends notes → AreKept
  publishes p q = part_same _ _ (publish_waits p q)

  -- Each deed keeps the order.
  ordered : {e : Event} {c : ℕ} → Deed t old new e c sends notes → AreKept
  ordered (changes s change) = let f = freed_by change in kept (follows_freed f.0 old.queue new.queue f.1)
  ordered (enters h now p puts alike serves) = publishes p
  ordered (gives g) = other g.queue _ g.left.queues (given_waits g.no_ack _ g.entry (old.queue g.queue) g.first)
  ordered {c = c} (settles s) = settled_goes_on t s.how c s.h s.is.gone old.queue notes new.queue s.is.queues
  ordered (purges p) = other p.queue _ p.left.queues (filter_waits (λ e. not (is_ready e)) (old.queue p.queue))

-- and so each step
pub step_ordered : (h : Happening) → Step h.config h.before h.event h.sends h.notes h.after → (q : Text) → IsPart (waiting (h.after.broker.queue q)) (waiting (h.before.broker.queue q) ++ entered q h.notes)
step_ordered h s = ordered h.config.topology h.before.broker h.after.broker h.sends h.notes (deed_at h s)

-- ---- what is given out

-- the queue after a message of it was given out
after_one : (old new : Broker) (c h : ℕ) (ch : Channel) (no_ack : Bool) (queue : Text) (by : Taker) → Is (after_delivery old c h ch no_ack queue by) new
    → new.queue queue ≡ after_giving no_ack (record { connection = c; channel = h; tag = ch.next_tag; by = by }) (old.queue queue)
after_one old new c h ch no_ack queue by is = is.queues queue ∙ at_own old.queue queue _

-- one that was not given out since it entered is the next that waits
one_given : (no_ack : Bool) (holder : Holder) (e : Entry) (old now : List Entry) (entering : List ℕ) → first_ready old ≡ Some e → e.message.redelivered ≡ false → now ≡ after_giving no_ack holder old → IsPart (e.message.number ∷ waiting now) (waiting old ++ entering)
one_given no_ack holder e old now entering found fresh is =
    longer (waiting old) entering (part_same _ _ (
    ap (λ (es : List Entry). e.message.number ∷ waiting es) is
    ∙ sym (ap (λ (b : Bool). ahead_if (not b) e.message.number (waiting (after_giving no_ack holder old))) fresh)
    ∙ first_waited no_ack holder e old found
    ))

pub giving_ordered : (h : Happening) (q : Text) (e : Entry) → GivesOut h q e → e.message.redelivered ≡ false → IsPart (e.message.number ∷ waiting (h.after.broker.queue q)) (waiting (h.before.broker.queue q) ++ entered q h.notes)
giving_ordered h q e (to_get {c = c} {k = k} {m = m} ch is there found p) fresh = one_given m.no_ack _ e (h.before.broker.queue q) (h.after.broker.queue q) _ found fresh (after_one h.before.broker h.after.broker c k ch m.no_ack q taker.Get p.left)
giving_ordered h q e (to_consumer {c = c} is d) fresh =
    one_given d.made.consumer.no_ack _ e (h.before.broker.queue q) (h.after.broker.queue q) _ d.made.first fresh (after_one h.before.broker h.after.broker c d.made.number d.made.channel d.made.consumer.no_ack q (taker.Consumer d.made.consumer.number) d.makes.left)

-- Whatever is given out, all that stand ahead of it in its queue are given out already.
pub after_those_ahead : GivenAfterThoseAhead
after_those_ahead h q e (to_get ch is there found p) = is_next e (h.before.broker.queue q) found
after_those_ahead h q e (to_consumer is d) = is_next e (h.before.broker.queue q) d.made.first

-- ---- runs

run_ordered : (q : Text) (hs : List Happening) (old new : State) (ns : List ℕ) → Run old hs new → FirstGiven q hs ns → IsPart (ns ++ waiting (new.broker.queue q)) (waiting (old.broker.queue q) ++ entered q (notes_of hs))
run_ordered q [] old new ns r ended = part_same _ _ (ap (λ (z : State). waiting (z.broker.queue q)) r ∙ sym (append-nil (waiting (old.broker.queue q))))
run_ordered q (h ∷ hs) old new ns (e, s, r) (given {e = x} {ns = rest} g fresh more) =
    subst (λ (es : List ℕ). IsPart (ns ++ waiting (new.broker.queue q)) (waiting (old.broker.queue q) ++ es)) (sym (entered-append q h.notes (notes_of hs)))
    (onward (x.message.number ∷ []) rest (waiting (old.broker.queue q)) (waiting (h.after.broker.queue q)) (waiting (new.broker.queue q)) (entered q h.notes) (entered q (notes_of hs))
    (subst (λ (z : State). IsPart (x.message.number ∷ waiting (h.after.broker.queue q)) (waiting (z.broker.queue q) ++ entered q h.notes)) e (giving_ordered h q x g fresh))
    (run_ordered q hs h.after new rest r more))
run_ordered q (h ∷ hs) old new ns (e, s, r) (passed more) =
    subst (λ (es : List ℕ). IsPart (ns ++ waiting (new.broker.queue q)) (waiting (old.broker.queue q) ++ es)) (sym (entered-append q h.notes (notes_of hs)))
    (onward [] ns (waiting (old.broker.queue q)) (waiting (h.after.broker.queue q)) (waiting (new.broker.queue q)) (entered q h.notes) (entered q (notes_of hs))
    (subst (λ (z : State). IsPart (waiting (h.after.broker.queue q)) (waiting (z.broker.queue q) ++ entered q h.notes)) e (step_ordered h s q))
    (run_ordered q hs h.after new ns r more))

-- In every run messages are first given out of a queue in the order in which they stood there and then entered it.
pub given_in_order : GivenInOrder
given_in_order q hs old new ns r g = front ns (waiting (new.broker.queue q)) _ (run_ordered q hs old new ns r g)
