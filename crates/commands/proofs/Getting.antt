-- What a get sends, and what it leaves.
use Rattle.commands.proofs.Names.{◌≡◌, ◌+◌, ◌-◌, ◌∷◌, [], ℕ, List, Bool, true, false, cond, Option, None, filter, refl, sym, ap, subst, ◌∙◌, arith, AllByRecursion, is_some, false≢true, bytes_eq-Decides, Text, Topology, Broker, Channel, is_ready, held_as, change_first, without_first, first_ready, ready_in, after_giving, after_delivery, delivery_notes, IsCarried, Is, Gets, or_else, refusal_in, refusal_of_tags, refusal_of_get, get_ok, Send, Note, Get, Entry, Holder, Store, IsQueueNamed, entries_named, queue_at, IsQueueIndex}
use Rattle.std.proofs.Common.{Some, length, if◌then◌else◌}
use Rattle.std.specs.Prelude.{find}
use Rattle.model.specs.Step.{Refusal}
use Rattle.model.specs.declared.messages.Taker.TheVariants as taker
use Rattle.commands.proofs.GivenOut.{find_in, all_in}

-- ---- what remains

-- without the first ready message one fewer is ready
ready_without : (es : List Entry) (e : Entry) → find is_ready es ≡ Some e → ready_in es ≡ ready_in (without_first is_ready es) + 1
ready_without [] e f = absurd (false≢true (ap is_some f))
ready_without (x ∷ xs) e f = go (is_ready x) refl (ready_without xs e) f
  where
    go : (v : Bool) → is_ready x ≡ v → (find is_ready xs ≡ Some e → ready_in xs ≡ ready_in (without_first is_ready xs) + 1) → cond v (Some x) (find is_ready xs) ≡ Some e
        → length (cond v (x ∷ filter is_ready xs) (filter is_ready xs)) ≡ ready_in (if v then xs else x ∷ without_first is_ready xs) + 1
    go true is more g = omega arith
    go false is more g = more g ∙ ap (λ (b : Bool). length (cond b (x ∷ filter is_ready (without_first is_ready xs)) (filter is_ready (without_first is_ready xs))) + 1) (sym is)

-- and so where it is held
ready_held : (holder : Holder) (es : List Entry) (e : Entry) → find is_ready es ≡ Some e → ready_in es ≡ ready_in (change_first is_ready (held_as holder) es) + 1
ready_held holder [] e f = absurd (false≢true (ap is_some f))
ready_held holder (x ∷ xs) e f = go (is_ready x) refl (ready_held holder xs e) f
  where
    go : (v : Bool) → is_ready x ≡ v → (find is_ready xs ≡ Some e → ready_in xs ≡ ready_in (change_first is_ready (held_as holder) xs) + 1) → cond v (Some x) (find is_ready xs) ≡ Some e
        → length (cond v (x ∷ filter is_ready xs) (filter is_ready xs)) ≡ ready_in (if v then held_as holder x ∷ xs else x ∷ change_first is_ready (held_as holder) xs) + 1
    go true is more g = omega arith
    go false is more g = more g ∙ ap (λ (b : Bool). length (cond b (x ∷ filter is_ready (change_first is_ready (held_as holder) xs)) (filter is_ready (change_first is_ready (held_as holder) xs))) + 1) (sym is)

remaining_in : (no_ack : Bool) (holder : Holder) (es : List Entry) (e : Entry) → find is_ready es ≡ Some e → ready_in (after_giving no_ack holder es) ≡ ready_in es - 1
remaining_in true holder es e f = let more = ready_without es e f in omega (arith, more)
remaining_in false holder es e f = let more = ready_held holder es e f in omega (arith, more)

-- as many messages remain in the queue as were ready behind the one that is given out
remaining_are : (b : Broker) (c h : ℕ) (ch : Channel) (no_ack : Bool) (q : Text) (e : Entry) → first_ready (b.queue q) ≡ Some e
    → ready_in ((after_delivery b c h ch no_ack q taker.Get).queue q) ≡ ready_in (b.queue q) - 1
remaining_are b c h ch no_ack q e f =
    let holder : Holder = record { connection = c; channel = h; tag = ch.next_tag; by = taker.Get } in
    ap (λ (v : Bool). ready_in (if v then after_giving no_ack holder (b.queue q) else b.queue q)) ((bytes_eq-Decides q q).1 refl)
    ∙ remaining_in no_ack holder (b.queue q) e f

-- ---- the refusal of a get

-- the refusal by the name of its queue
pub absent : (t : Topology) (b : Broker) (ch : Channel) (get : Get) (r : Refusal) → Some r ≡ refusal_in t get.queue → refusal_of_get t b ch get ≡ Some r
absent t b ch get r e = ap (λ (x : Option Refusal). or_else x (refusal_of_tags ch (first_ready (b.queue get.queue)))) (sym e)

-- and if that exists, the refusal to give out its first ready message
pub there : (t : Topology) (b : Broker) (ch : Channel) (get : Get) (o : Option Entry) → None ≡ refusal_in t get.queue → first_ready (b.queue get.queue) ≡ o → refusal_of_get t b ch get ≡ refusal_of_tags ch o
there t b ch get o is at = ap (λ (x : Option Refusal). or_else x (refusal_of_tags ch (first_ready (b.queue get.queue)))) (sym is) ∙ ap (refusal_of_tags ch) at

-- which is the first at its place
pub first_named : (s : Store) (place : ℕ) (q : Text) (o : Option Entry) → IsQueueIndex s.topology q place → IsQueueNamed s place → o ≡ find is_ready (queue_at s place) → first_ready (entries_named s q) ≡ o
first_named s place q o at named e = ap (λ (n : Text). first_ready (entries_named s n)) (sym at.named) ∙ ap first_ready named.entries_are ∙ sym e

-- ---- what a get does

-- a message was given out
pub gotten : (old new : Broker) (c h : ℕ) (ch : Channel) (get : Get) (q : Text) (e : Entry) (tag remaining : ℕ) (sends : List Send) (notes : List Note)
    → q ≡ get.queue → first_ready (old.queue q) ≡ Some e → tag ≡ ch.next_tag → remaining ≡ ready_in (old.queue q) - 1
    → sends ≡ get_ok c h tag e remaining ∷ [] → notes ≡ delivery_notes get.no_ack e.message.number get.queue
    → Is (after_delivery old c h ch get.no_ack q taker.Get) new
    → Gets old c h ch get (first_ready (old.queue get.queue)) sends notes new
gotten old new c h ch get q e tag remaining sends notes named found tagged count sent noted left =
    let here : first_ready (old.queue get.queue) ≡ Some e = subst (λ (z : Text). first_ready (old.queue z) ≡ Some e) named found in
    let rest : remaining ≡ ready_in ((after_delivery old c h ch get.no_ack get.queue taker.Get).queue get.queue) =
    count ∙ ap (λ (z : Text). ready_in (old.queue z) - 1) named ∙ sym (remaining_are old c h ch get.no_ack get.queue e here) in
    subst (λ (o : Option Entry). Gets old c h ch get o sends notes new) (sym here)
    (record {
      sent = sent ∙ ap (λ (t : ℕ). get_ok c h t e remaining ∷ []) tagged ∙ ap (λ (n : ℕ). get_ok c h ch.next_tag e n ∷ []) rest;
      noted = noted;
      left = subst (λ (z : Text). Is (after_delivery old c h ch get.no_ack z taker.Get) new) named left;
    })

-- the first message that is ready can be given out, where each can
pub first_carried : (es : List Entry) (e : Entry) → AllByRecursion (λ (x : Entry). IsCarried x.message) es → first_ready es ≡ Some e → IsCarried e.message
first_carried es e carried found = all_in (λ (x : Entry). IsCarried x.message) e es carried (find_in is_ready e es found).0
