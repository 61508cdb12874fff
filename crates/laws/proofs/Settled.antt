-- What a command settles leaves its queue or can be given out there again, as it asks.
use Rattle.laws.proofs.Names.{◌≡◌, ℕ, List, [], ◌∷◌, ◌++◌, Bool, true, false, refl, sym, ap, subst, ◌∙◌, None, inl, inr, find, is_some, ◌==◌, ◌&&◌, false≢true, eq-eqb, AllPairs-filter, same_Some, Text, Topology, IsIn, IsAgreed, Outstanding, Channel, Broker, is_under, is_held_as, is_refused, Settlement, Leaves, Rejects, Returns, AreSettled, AreLeft, AreRejected, holder_of, given_in, without_given, left_note, tag_of, Settles, Performs, channel_or_new, Step, Happening, Settling, settling_of, HasLeft, IsOutstandingOn, IsSettledSo, AreSettledSo, SettlesAsAsked, Content, Entry, Method, BasicAck, BasicReject, BasicNack, BasicRecover, Send, Cause, Rejected, Note, Left}
use Rattle.std.proofs.Common.{◌<◌, filter, not, Option, Some}
use Rattle.std.specs.Prelude.{if◌then◌else◌}
use Rattle.model.specs.Settling.{kept, takes}
use Rattle.laws.proofs.Counts.{in_front, in_back}
use Rattle.laws.proofs.Leaving.{find_in, in_rest, in_filter}
use Rattle.laws.proofs.Dying.{Goes, not_found, left_only, died, goes_by, HeldStay, idle_if_held, one_held}
use Rattle.laws.proofs.Agreement.{HeldIn, held_here}
use Rattle.laws.proofs.Agreed.{in_kept}
use Rattle.laws.proofs.Given.{Keeps, in_passing, without_keeps, keeps_on, keeps_same, one_keeps}
use Rattle.laws.proofs.Returned.{Rise, others_rise, under_another, place_of, returned_each}
use Rattle.laws.proofs.Unrefused.{is_performed}

-- ---- one after another

-- where something passes, something is found
found_where : {A : Type 0} (p : A → Bool) (x : A) (xs : List A) → IsIn x xs → p x ≡ true → (y : A) × (find p xs ≡ Some y)
found_where p x [] i is = absurd i
found_where {A} p x (y ∷ ys) i is = go (p y) refl i (λ j. found_where p x ys j is)
  where
    go : (v : Bool) → p y ≡ v → IsIn x (y ∷ ys) → (IsIn x ys → (z : A) × (find p ys ≡ Some z)) → (z : A) × ((if v then Some y else find p ys) ≡ Some z)
    go true e i more = (y, refl)
    go false e (inl same) more = absurd (false≢true (sym e ∙ ap p (sym same) ∙ is))
    go false e (inr j) more = more j

-- the message of one delivery leaves for this cause, and those of other tags stay held
record OneOut (cause : Cause) (c h : ℕ) (o : Outstanding) (old : Text → List Entry) (notes : List Note) (mid : Text → List Entry) : Type 0 where
  said : (e : Entry) → given_in c h old o ≡ Some e → IsIn (Left e.message.number o.queue cause) notes
  stay : HeldStay old mid
  keeps : Keeps (λ holder. is_under (holder_of c h o) holder ≡ false) old mid

-- so do those of these deliveries, one after another
abbrev AreOut : Cause → ℕ → ℕ → List Outstanding → (Text → List Entry) → List Note → Type 0
AreOut cause c h [] old notes = Unit {0}
AreOut cause c h (o ∷ os) old notes = (mid : Text → List Entry) × (first : List Note) × (rest : List Note) × OneOut cause c h o old first mid × (notes ≡ first ++ rest) × AreOut cause c h os mid rest

out_of_left : (cause : Cause) (c h : ℕ) (os : List Outstanding) (old : Text → List Entry) (notes : List Note) (new : Text → List Entry) → AreLeft cause c h os old notes new → AreOut cause c h os old notes
out_of_left cause c h [] old notes new a = tt
out_of_left cause c h (o ∷ os) old notes new (mid, rest, is, all, more) = (mid, left_note cause o.queue (given_in c h old o), rest, one, all, out_of_left cause c h os mid rest new more)
  where
    one : OneOut cause c h o old (left_note cause o.queue (given_in c h old o)) mid
    one = record {
      said = λ e f. subst (λ (x : Option Entry). IsIn (Left e.message.number o.queue cause) (left_note cause o.queue x)) (sym f) (inl refl);
      stay = λ q e i idle. in_rest c h old o e q (subst (IsIn e) (is q) i);
      keeps = keeps_on _ old (without_given c h old o) mid (without_keeps c h o old) (keeps_same _ (without_given c h old o) mid is);
    }

out_of_rejected : (t : Topology) (c h : ℕ) (os : List Outstanding) (old : Text → List Entry) (notes : List Note) (new : Text → List Entry) → AreRejected t c h os old notes new → AreOut Rejected c h os old notes
out_of_rejected t c h [] old notes new a = tt
out_of_rejected t c h (o ∷ os) old notes new (mid, first, rest, dies, all, more) = (mid, first, rest, one, all, out_of_rejected t c h os mid rest new more)
  where
    goes_so : Goes t o.queue (without_given c h old o) first mid (given_in c h old o)
    goes_so = goes_by t o.queue (without_given c h old o) first mid (given_in c h old o) dies

    noted : (found : Option Entry) → Goes t o.queue (without_given c h old o) first mid found → (e : Entry) → found ≡ Some e → IsIn (Left e.message.number o.queue Rejected) first
    noted None (not_found none same) e f = absurd (false≢true (ap is_some f))
    noted (Some x) (left_only is same) e f = subst (IsIn (Left e.message.number o.queue Rejected)) (sym is) (inl (ap (λ (z : Entry). Left z.message.number o.queue Rejected) (sym (same_Some x e f))))
    noted (Some x) (died p exchange others dies is d) e f = subst (IsIn (Left e.message.number o.queue Rejected)) (sym is) (inl (ap (λ (z : Entry). Left z.message.number o.queue Rejected) (sym (same_Some x e f))))

    one : OneOut Rejected c h o old first mid
    one = record {
      said = noted (given_in c h old o) goes_so;
      stay = one_held t c h old o first mid (given_in c h old o) refl goes_so;
      keeps = keeps_on _ old (without_given c h old o) mid (without_keeps c h o old) (λ q holder other was. one_keeps t o.queue (without_given c h old o) first mid (given_in c h old o) goes_so q holder tt was);
    }

-- a delivery whose message left, as these notes say
record LeavesOf (cause : Cause) (c h : ℕ) (first : Text → List Entry) (notes : List Note) (o : Outstanding) : Type 0 where
  entry : Entry
  stood : IsIn entry (first o.queue)
  held : is_held_as (holder_of c h o) entry ≡ true
  left : IsIn (Left entry.message.number o.queue cause) notes

-- each of these is held in its queue
abbrev AreThere : ℕ → ℕ → (Text → List Entry) → List Outstanding → Type 0
AreThere c h queues os = (o : Outstanding) → IsIn o os → HeldIn (queues o.queue) (holder_of c h o)

left_each : (cause : Cause) (c h : ℕ) (first : Text → List Entry) (os : List Outstanding) (old : Text → List Entry) (notes : List Note) → HeldStay first old → Rise os → AreThere c h old os → AreOut cause c h os old notes
    → (o : Outstanding) → IsIn o os → LeavesOf cause c h first notes o
left_each cause c h first [] old notes of rise there a o i = absurd i
left_each cause c h first (p ∷ ps) old notes of rise there (mid, own, rest, one, all, more) o i = go i (left_each cause c h first ps mid rest (λ q e j idle. of q e (one.stay q e j idle) idle) (others_rise p ps rise) there_mid more o)
  where
    there_mid : AreThere c h mid ps
    there_mid r j = one.keeps r.queue (holder_of c h r) (under_another c h p ps rise r j) (there r (inr j))

    here : LeavesOf cause c h first notes p
    here =
        let was = there p (inl refl) in
        let f = found_where (is_held_as (holder_of c h p)) was.entry (old p.queue) was.there (held_here was.entry (holder_of c h p) was.mark) in
        let at = find_in (is_held_as (holder_of c h p)) f.0 (old p.queue) f.1 in
        record {
          entry = f.0;
          stood = of p.queue f.0 at.0 (idle_if_held (holder_of c h p) f.0 at.1);
          held = at.1;
          left = subst (IsIn (Left f.0.message.number p.queue cause)) (sym all) (in_front _ own rest (one.said f.0 f.1));
        }

    go : IsIn o (p ∷ ps) → (IsIn o ps → LeavesOf cause c h first rest o) → LeavesOf cause c h first notes o
    go (inl e) later = subst (LeavesOf cause c h first notes) (sym e) here
    go (inr j) later =
        let l = later j in
        record { entry = l.entry; stood = l.stood; held = l.held; left = subst (IsIn (Left l.entry.message.number o.queue cause)) (sym all) (in_back _ own rest l.left) }

-- ---- what a tag settles

not_yes : (b : Bool) → not b ≡ true → b ≡ false
not_yes true e = absurd (false≢true e)
not_yes false e = refl

module _ (t : Topology) (how : Settlement) (old new : Broker) (sends wanted : List Send) (notes : List Note) (c h : ℕ) (ch : Channel) (tag : ℕ) (multiple : Bool) (agreed : IsAgreed old) (open_there : old.channel c h ≡ Some ch)
    (s : Settles t how old c h ch tag multiple wanted sends notes new) where
  abbrev takes_it : Outstanding → Bool
  takes_it = takes tag_of tag multiple

  abbrev stay : List Outstanding
  stay = filter (λ x. not (takes_it x)) ch.outstanding

  -- the tag is not refused
  accepted : is_refused tag_of tag multiple ch.outstanding ≡ false
  accepted = go (is_refused tag_of tag multiple ch.outstanding) refl s.settled_are
    where
      go : (v : Bool) → is_refused tag_of tag multiple ch.outstanding ≡ v → (if v then None else Some (filter takes_it ch.outstanding)) ≡ Some s.gone → is_refused tag_of tag multiple ch.outstanding ≡ false
      go true e f = absurd (false≢true (ap is_some f))
      go false e f = e

  settled_so : s.gone ≡ filter takes_it ch.outstanding
  settled_so = sym (same_Some _ s.gone (sym (ap (λ (v : Bool). if v then None else Some (filter takes_it ch.outstanding)) accepted) ∙ s.settled_are))

  kept_so : kept tag_of tag multiple ch.outstanding ≡ stay
  kept_so = ap (λ (v : Bool). if v then ch.outstanding else stay) accepted

  gone_rise : Rise s.gone
  gone_rise = subst Rise (sym settled_so) (AllPairs-filter (λ (a b : Outstanding). a.tag < b.tag) takes_it ch.outstanding (agreed.rising c h ch open_there))

  gone_there : AreThere c h old.queue s.gone
  gone_there o i = let is = agreed.given c h ch o open_there (in_filter takes_it o ch.outstanding (subst (IsIn o) settled_so i)).0 in record { entry = is.entry; there = is.there; mark = is.mark }

  -- what leaves, leaves
  leaves : (cause : Cause) → AreOut cause c h s.gone old.queue notes → (o : Outstanding) → IsIn o s.gone → HasLeft old notes c h o cause
  leaves cause a o i =
      let l = left_each cause c h old.queue s.gone old.queue notes (λ q e j idle. j) gone_rise gone_there a o i in
      record { entry = l.entry; stood = l.stood; held = l.held; left = l.left }

  becomes : (w : Settlement) → AreSettled t w c h s.gone old.queue notes new.queue → (o : Outstanding) → IsIn o s.gone → IsSettledSo old notes new c h w o
  becomes (Leaves cause) a o i = leaves cause (out_of_left cause c h s.gone old.queue notes new.queue a) o i
  becomes Rejects a o i = leaves Rejected (out_of_rejected t c h s.gone old.queue notes new.queue a) o i
  becomes Returns a o i =
      let was = gone_there o i in
      let at = place_of was.entry (old.queue o.queue) was.there in
      record { entry = was.entry; place = at.0; stood = at.1; held = held_here was.entry (holder_of c h o) was.mark; stands = returned_each c h s.gone old.queue new.queue gone_rise a.1 o i at.0 was.entry at.1 was.mark }

  -- the channel afterwards
  now : new.channel c h ≡ Some (record ch { outstanding = kept tag_of tag multiple ch.outstanding })
  now =
      s.channels c h
      ∙ ap (λ (b : Bool). if b && (h == h) then Some (record ch { outstanding = kept tag_of tag multiple ch.outstanding }) else old.channel c h) (eq-eqb c c refl)
      ∙ ap (λ (b : Bool). if b then Some (record ch { outstanding = kept tag_of tag multiple ch.outstanding }) else old.channel c h) (eq-eqb h h refl)

  not_there : (o : Outstanding) → takes_it o ≡ true → IsOutstandingOn new c h o → ⊥
  not_there o taken on =
      let is : on.channel ≡ record ch { outstanding = kept tag_of tag multiple ch.outstanding } = same_Some on.channel _ (sym on.there ∙ now) in
      let i : IsIn o stay = subst (IsIn o) kept_so (subst (λ (x : Channel). IsIn o x.outstanding) is on.outstanding) in
      false≢true (sym (not_yes (takes_it o) (in_filter (λ x. not (takes_it x)) o ch.outstanding i).1) ∙ taken)

  -- Each delivery that the tag takes is settled so, and each other is outstanding still.
  pub are_settled : AreSettledSo old notes new c h ch (record { tag = tag; multiple = multiple; how = how })
  are_settled = record {
    taken = λ o i taken. (becomes how s.queues o (subst (IsIn o) (sym settled_so) (in_passing takes_it o ch.outstanding i taken)), not_there o taken);
    others = λ o i spared. record { channel = record ch { outstanding = kept tag_of tag multiple ch.outstanding }; there = now; outstanding = subst (IsIn o) (sym kept_so) (in_kept takes_it o ch.outstanding i spared) };
  }

-- ---- events

-- a command that settles and is performed
performed_so : (t : Topology) (old new : Broker) (sends : List Send) (notes : List Note) (c h : ℕ) (ch : Channel) → IsAgreed old → old.channel c h ≡ Some ch → (m : Method) (content : Option Content) (s : Settling) → settling_of m ≡ Some s
    → Performs t old c h ch m content sends notes new → AreSettledSo old notes new c h ch s
performed_so t old new sends notes c h ch agreed there (BasicAck m) content s is p = subst (AreSettledSo old notes new c h ch) (same_Some _ s is) (are_settled t _ old new sends [] notes c h ch m.delivery_tag m.multiple agreed there p)
performed_so t old new sends notes c h ch agreed there (BasicReject m) content s is p = subst (AreSettledSo old notes new c h ch) (same_Some _ s is) (are_settled t _ old new sends [] notes c h ch m.delivery_tag false agreed there p)
performed_so t old new sends notes c h ch agreed there (BasicNack m) content s is p = subst (AreSettledSo old notes new c h ch) (same_Some _ s is) (are_settled t _ old new sends [] notes c h ch m.delivery_tag m.multiple agreed there p)
performed_so t old new sends notes c h ch agreed there (BasicRecover requeue) content s is p = subst (AreSettledSo old notes new c h ch) (same_Some _ s is) (are_settled t _ old new sends _ notes c h ch 0 true agreed there p)
performed_so t old new sends notes c h ch agreed there _ content s is p = absurd (false≢true (ap is_some is))

pub step_settles : (h : Happening) → IsAgreed h.before.broker → Step h.config h.before h.event h.sends h.notes h.after → SettlesAsAsked h
step_settles h agreed st c k m s ch u settles open_there =
    performed_so h.config.topology h.before.broker h.after.broker h.sends h.notes c k ch agreed open_there m u.content s settles
    (subst (λ (x : Option Channel). Performs h.config.topology h.before.broker c k (channel_or_new x) m u.content h.sends h.notes h.after.broker) open_there (is_performed h st c k m u))
