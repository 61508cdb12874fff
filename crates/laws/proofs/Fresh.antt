-- What enters a queue stands at its end, and is not marked as redelivered.
use Rattle.laws.proofs.Names.{◌≡◌, ℕ, List, [], ◌∷◌, ◌++◌, Bool, true, false, refl, sym, ap, subst, ◌∙◌, length, append_assoc, append-nil, None, ◌&&◌, bytes_eq, AllByRecursion, false≢true, map-append, Text, Topology, Outstanding, Broker, is_full, is_ready, is_held_as, without_first, number_of, Settlement, Leaves, Rejects, Returns, AreSettled, AreLeft, AreRejected, given_in, left_note, delivery_notes, purge_notes, holder_of, without_given, Message, message, State, Step, Happening, Run, Entry, Holder, Mark, Ready, Held, Send, Event, Cause, Note, is_fresh, waiting, entered_by, entered, EndsFresh, EnterFresh, key_after, dead_letter, with_headers}
use Rattle.std.proofs.Common.{map, filter, not, Option, Some}
use Rattle.std.specs.Prelude.{if◌then◌else◌}
use Rattle.model.specs.Step.{comes_to}
use Rattle.model.specs.declared.notes.Way.TheVariants as way
use Rattle.laws.proofs.Counts.{all-append}
use Rattle.laws.proofs.Dying.{Goes, not_found, left_only, died, goes_by}
use Rattle.laws.proofs.Leaving.{at_queue}
use Rattle.laws.proofs.Ordered.{comes_as_entered, entered-append, entered_none}
use Rattle.laws.proofs.Deeds.{Deed, changes, enters, gives, settles, purges, Publishes}
use Rattle.laws.proofs.View.{deed_at}
use Rattle.laws.proofs.Balance.{number, content, entry_part, answer_part, noted, answers_all}

-- ---- lists of entries

-- each of these was never given out
abbrev AreFresh : List Entry → Type 0
AreFresh es = AllByRecursion (λ (e : Entry). is_fresh e ≡ true) es

-- all of them wait
all_wait : (es : List Entry) → AreFresh es → waiting es ≡ map number_of es
all_wait [] a = refl
all_wait (e ∷ es) a = ap (λ (b : Bool). if b then e.message.number ∷ waiting es else waiting es) a.0 ∙ ap (λ (ns : List ℕ). e.message.number ∷ ns) (all_wait es a.1)

-- none of them is held
is_not_held : (holder : Holder) (e : Entry) → is_fresh e ≡ true → is_held_as holder e ≡ false
is_not_held holder e fresh = go e.message e.mark fresh
  where
    go : (m : Message) (k : Mark) → is_fresh (record { message = m; mark = k }) ≡ true → is_held_as holder (record { message = m; mark = k }) ≡ false
    go m Ready f = refl
    go m (Held g) f = absurd (false≢true f)

-- so that without a held one the same end stays
without_before : (holder : Holder) (xs ys : List Entry) → AreFresh ys → without_first (is_held_as holder) (xs ++ ys) ≡ without_first (is_held_as holder) xs ++ ys
without_before holder [] ys a = stay ys a
  where
    stay : (ys : List Entry) → AreFresh ys → without_first (is_held_as holder) ys ≡ ys
    stay [] a = refl
    stay (y ∷ ys) a = ap (λ (b : Bool). if b then ys else y ∷ without_first (is_held_as holder) ys) (is_not_held holder y a.0) ∙ ap (λ (zs : List Entry). y ∷ zs) (stay ys a.1)
without_before holder (x ∷ xs) ys a = go (is_held_as holder x) (without_before holder xs ys a)
  where
    go : (v : Bool) → without_first (is_held_as holder) (xs ++ ys) ≡ without_first (is_held_as holder) xs ++ ys
        → (if v then xs ++ ys else x ∷ without_first (is_held_as holder) (xs ++ ys)) ≡ (if v then xs else x ∷ without_first (is_held_as holder) xs) ++ ys
    go true e = refl
    go false e = ap (λ (zs : List Entry). x ∷ zs) e

-- ---- the end of a queue

-- nothing entered
ends_plain : (es : List Entry) (ns : List ℕ) → ns ≡ [] → EndsFresh es ns
ends_plain es ns none = record { stayed = es; came = []; all = sym (append-nil es); numbered = sym none; fresh = tt }

-- a held one is taken out
ends_without : (holder : Holder) (es : List Entry) (ns : List ℕ) → EndsFresh es ns → EndsFresh (without_first (is_held_as holder) es) ns
ends_without holder es ns d = record {
  stayed = without_first (is_held_as holder) d.stayed;
  came = d.came;
  all = ap (without_first (is_held_as holder)) d.all ∙ without_before holder d.stayed d.came d.fresh;
  numbered = d.numbered;
  fresh = d.fresh;
}

ends_same : (es fs : List Entry) (ns ms : List ℕ) → fs ≡ es → ms ≡ ns → EndsFresh es ns → EndsFresh fs ms
ends_same es fs ns ms e n d = record { stayed = d.stayed; came = d.came; all = e ∙ d.all; numbered = d.numbered ∙ sym n; fresh = d.fresh }

-- some more come
ends_more : (es fs more : List Entry) (ns ms : List ℕ) → AreFresh more → waiting more ≡ ms → fs ≡ es ++ more → EndsFresh es ns → EndsFresh fs (ns ++ ms)
ends_more es fs more ns ms fresh numbers e d = record {
  stayed = d.stayed;
  came = d.came ++ more;
  all = e ∙ ap (λ (zs : List Entry). zs ++ more) d.all ∙ append_assoc d.stayed d.came more;
  numbered = map-append number_of d.came more ∙ ap (λ (ks : List ℕ). ks ++ map number_of more) d.numbered ∙ ap (λ (ks : List ℕ). ns ++ ks) (sym (all_wait more fresh) ∙ numbers);
  fresh = all-append _ d.came more d.fresh fresh;
}

-- what comes to a queue was never given out
comes_fresh : (t : Topology) (entries : Text → List Entry) (m : Message) (q : Text) → m.redelivered ≡ false → (rs : List Text) → AreFresh (comes_to t entries m q rs)
comes_fresh t entries m q new [] = tt
comes_fresh t entries m q new (r ∷ rs) = go (bytes_eq r q && not (is_full t entries r (length m.content.body))) (comes_fresh t entries m q new rs)
  where
    go : (v : Bool) → AreFresh (comes_to t entries m q rs) → AreFresh (if v then record { message = m; mark = Ready } ∷ comes_to t entries m q rs else comes_to t entries m q rs)
    go true a = (ap not new, a)
    go false a = a

-- ---- dead letters

abbrev AllEndFresh : (Text → List Entry) → List Note → (Text → List Entry) → Type 0
AllEndFresh old notes new = (q : Text) (ns : List ℕ) → EndsFresh (old q) ns → EndsFresh (new q) (ns ++ entered q notes)

-- nothing entered by these notes
on_plain : (old : Text → List Entry) (notes : List Note) (new : Text → List Entry) → ((q : Text) → entered q notes ≡ []) → ((q : Text) → new q ≡ old q) → AllEndFresh old notes new
on_plain old notes new none same q ns d = ends_same (old q) (new q) ns _ (same q) (ap (λ (ks : List ℕ). ns ++ ks) (none q) ∙ append-nil ns) d

-- a dead letter enters its queues behind all others
one_ends : (t : Topology) (name : Text) (gone : Text → List Entry) (notes : List Note) (new : Text → List Entry) (found : Option Entry) → Goes t name gone notes new found → AllEndFresh gone notes new
one_ends t name gone notes new None (not_found none same) = on_plain gone notes new (λ q. ap (entered q) none) same
one_ends t name gone notes new (Some e) (left_only is same) = on_plain gone notes new (λ q. ap (entered q) is) same
one_ends t name gone notes new (Some e) (died p exchange rest dies is d) = λ q ns ends.
    let letter = dead_letter e.message exchange (key_after p.dead_letter_key e.message.key) (with_headers e.message.content d.headers) in
    ends_more (gone q) (new q) (comes_to t gone letter q d.targets) ns (entered q notes) (comes_fresh t gone letter q refl d.targets)
    (comes_as_entered t gone letter q way.Dead refl d.targets ∙ sym (ap (entered q) d.noted) ∙ sym (ap (entered q) is)) (d.left q) ends

without_ends : (c h : ℕ) (old : Text → List Entry) (o : Outstanding) (q : Text) (ns : List ℕ) → EndsFresh (old q) ns → EndsFresh (without_given c h old o q) ns
without_ends c h old o q ns =
    at_queue (λ (q : Text) (es : List Entry). EndsFresh (old q) ns → EndsFresh es ns) old o.queue _ (ends_without (holder_of c h o) (old o.queue) ns) (λ q other d. d) q

rejected_ends : (t : Topology) (c h : ℕ) (os : List Outstanding) (old : Text → List Entry) (notes : List Note) (new : Text → List Entry) → AreRejected t c h os old notes new → AllEndFresh old notes new
rejected_ends t c h [] old notes new a = on_plain old notes new (λ q. ap (entered q) a.0) a.1
rejected_ends t c h (o ∷ os) old notes new (mid, first, rest, dies, all, more) = λ q ns d.
    let gone = without_given c h old o in
    let once = one_ends t o.queue gone first mid (given_in c h old o) (goes_by t o.queue gone first mid (given_in c h old o) dies) q ns (without_ends c h old o q ns d) in
    ends_same (new q) (new q) _ _ refl (ap (λ (ks : List ℕ). ns ++ ks) (ap (entered q) all ∙ entered-append q first rest) ∙ sym (append_assoc ns (entered q first) (entered q rest)))
    (rejected_ends t c h os mid rest new more q (ns ++ entered q first) once)

-- ---- notes of no entry

-- nothing entered by any of these notes
abbrev NoneEntered : Text → List Note → Type 0
NoneEntered q notes = AllByRecursion (λ (note : Note). entered_by q note ≡ []) notes

left_none : (cause : Cause) (queue q : Text) (o : Option Entry) → NoneEntered q (left_note cause queue o)
left_none cause queue q None = tt
left_none cause queue q (Some e) = (refl, tt)

are_left_none : (cause : Cause) (c h : ℕ) (q : Text) (os : List Outstanding) (old : Text → List Entry) (notes : List Note) (new : Text → List Entry) → AreLeft cause c h os old notes new → NoneEntered q notes
are_left_none cause c h q [] old notes new l = subst (NoneEntered q) (sym l.0) tt
are_left_none cause c h q (o ∷ os) old notes new (mid, rest, is, all, more) =
    subst (NoneEntered q) (sym all) (all-append _ (left_note cause o.queue (given_in c h old o)) rest (left_none cause o.queue q (given_in c h old o)) (are_left_none cause c h q os mid rest new more))

given_none : (no_ack : Bool) (n : ℕ) (queue q : Text) → NoneEntered q (delivery_notes no_ack n queue)
given_none true n queue q = (refl, tt)
given_none false n queue q = tt

purged_none : (queue q : Text) (es : List Entry) → NoneEntered q (purge_notes queue es)
purged_none queue q [] = tt
purged_none queue q (e ∷ es) = (refl, purged_none queue q es)

-- ---- all cases

module _ (t : Topology) (old new : Broker) (sends : List Send) (notes : List Note) where
  -- each queue ends with what entered it
  abbrev AllEnd : Type 0
  AllEnd = (q : Text) → EndsFresh (new.queue q) (entered q notes)

  noted_none : ((q : Text) → NoneEntered q notes) → AllEnd
  noted_none none q = ends_plain (new.queue q) (entered q notes) (entered_none q notes (none q))

  quiet : notes ≡ [] → AllEnd
  quiet none = noted_none (λ q. subst (NoneEntered q) (sym none) tt)

  settled : (how : Settlement) (c h : ℕ) (os : List Outstanding) → AreSettled t how c h os old.queue notes new.queue → AllEnd
  settled (Leaves cause) c h os s = noted_none (λ q. are_left_none cause c h q os old.queue notes new.queue s)
  settled Rejects c h os s = λ q. rejected_ends t c h os old.queue notes new.queue s q [] (ends_plain (old.queue q) [] refl)
  settled Returns c h os s = quiet s.0

  publishes : {e : Event} → Publishes t old new e sends notes → AllEnd
  publishes p q =
      let m = message (number p) p.publish (content p) in
      let none = entered_none q (answer_part p) (answers_all p (λ (note : Note). entered_by q note ≡ []) refl (λ a. refl)) in
      ends_more (old.queue q) (new.queue q) (comes_to t old.queue m q p.is.targets) [] (entered q notes) (comes_fresh t old.queue m q refl p.is.targets)
      (
      comes_as_entered t old.queue m q way.Publish refl p.is.targets
      ∙ sym (append-nil (entered q (entry_part p)))
      ∙ ap (λ (ns : List ℕ). entered q (entry_part p) ++ ns) (sym none)
      ∙ sym (entered-append q (entry_part p) (answer_part p))
      ∙ sym (ap (entered q) (noted p))
      ) (p.is.left.queues q) (ends_plain (old.queue q) [] refl)

  -- After each deed each queue ends so.
  all_end : {e : Event} {c : ℕ} → Deed t old new e c sends notes → AllEnd
  all_end (changes s change) = quiet s.noted
  all_end (enters h now p puts alike serves) = publishes p
  all_end (gives g) = noted_none (λ q. subst (NoneEntered q) (sym g.noted) (given_none g.no_ack g.entry.message.number g.queue q))
  all_end {c = c} (settles s) = settled s.how c s.h s.is.gone s.is.queues
  all_end (purges p) = noted_none (λ q. subst (NoneEntered q) (sym p.noted) (purged_none p.queue q (filter is_ready (old.queue p.queue))))

pub step_fresh : (h : Happening) → Step h.config h.before h.event h.sends h.notes h.after → EnterFresh h
step_fresh h s = all_end h.config.topology h.before.broker h.after.broker h.sends h.notes (deed_at h s)

-- After each event of a run each queue ends with what entered it.
pub run_fresh : (hs : List Happening) (old new : State) → Run old hs new → AllByRecursion EnterFresh hs
run_fresh [] old new r = tt
run_fresh (h ∷ hs) old new (e, s, r) = (step_fresh h s, run_fresh hs h.after new r)
