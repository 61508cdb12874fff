-- Which events leave more that a consumer may take.
use Rattle.broker.proofs.Names.{◌∙◌, ◌≤◌, ◌+◌, ℕ, List, ◌++◌, Bool, true, false, Option, Some, None, inl, inr, refl, sym, ap, subst, arith, if◌then◌else◌, is_some, nat_lt, ◌==◌, ◌&&◌, ◌||◌, eqb-true, eq-eqb, lt-ltb, false≢true, same_Some, count-append, Topology, IsIn, Text, Channel, Connection, Broker, Outstanding, with_one, with_pair, with_row, MayTake, may_take, taker_of, channel_after, outstanding_after, first_ready, by_channel, Ids, ids_of, Refusal, Ignored, Of_channel, Of_connection, Acts, Does, Gets, Performs, Refuses, Decides, OnConnection, OnLarge, channel_or_new, channels_up_to, empty_publish, refusal, refusal_of_large, with_freed, with_channel, paused, Entry, Content, Send, Event, First, Command, TooLarge, Fault, Lose, Pause, Resume, Deliver, Method, ConnectionClose, ChannelOpen, ChannelFlow, ChannelClose, ChannelCloseOk, ExchangeDeclare, QueueDeclare, QueuePurge, BasicQos, BasicConsume, BasicCancel, BasicPublish, BasicGet, BasicAck, BasicReject, BasicNack, BasicRecover, ConfirmSelect, Note, wakes, wakes_on, CannotTake, Pick}
use Rattle.std.proofs.Common.{◌≡◌, ◌⊎◌}
use Rattle.std.specs.Prelude.{count_by}
use Rattle.std.proofs.lemmas.Bool.{ltb-true}
use Rattle.laws.proofs.Made.{row_new}
use Rattle.broker.proofs.Lists.{filter_in}
use Rattle.model.specs.Broker.{Consumer}
use Rattle.model.specs.Prefetch.{is_below, may_hold, count_to, count_given, has_tag_left, is_to, is_delivery}
use Rattle.model.specs.declared.messages.Taker.{Taker}
use Rattle.model.specs.declared.messages.Taker.TheVariants as taker
use Rattle.model.specs.declared.events.Event.TheVariants.{Open, Running}
use Rattle.model.specs.declared.methods.Get.{Get}
use Rattle.model.specs.declared.methods.Qos.{Qos}

-- ---- one more message lets a consumer take nothing further

below_less : (limit n m : ℕ) → n ≤ m → is_below limit m ≡ true → is_below limit n ≡ true
below_less limit n m le e = go (limit == 0) (nat_lt m limit) refl e
  where
    go : (u v : Bool) → nat_lt m limit ≡ v → (u || v) ≡ true → (u || nat_lt n limit) ≡ true
    go true v a f = refl
    go false true a f = let lt = ltb-true m limit a in lt-ltb n limit (omega (arith, lt, le))
    go false false a f = absurd (false≢true f)

pub both : (u v : Bool) → (u && v) ≡ true → (u ≡ true) × (v ≡ true)
both true true e = (refl, refl)
both true false e = absurd (false≢true e)
both false v e = absurd (false≢true e)

pub and : (u v : Bool) → u ≡ true → v ≡ true → (u && v) ≡ true
and true true a b = refl
and true false a b = absurd (false≢true b)
and false v a b = absurd (false≢true a)

counted_less : (p : Outstanding → Bool) (xs ys : List Outstanding) → count_by p xs ≤ count_by p (xs ++ ys)
counted_less p xs ys = let e = count-append p xs ys in omega (arith, e)

held_less : (ch : Channel) (k : Consumer) (more : List Outstanding) → may_hold taker_of ch.limit k.no_ack k.limit k.number (ch.outstanding ++ more) ≡ true → may_hold taker_of ch.limit k.no_ack k.limit k.number ch.outstanding ≡ true
held_less ch k more e = go k.no_ack e
  where
    go : (v : Bool) → (v || (is_below k.limit (count_to taker_of k.number (ch.outstanding ++ more)) && is_below ch.limit (count_given taker_of (ch.outstanding ++ more)))) ≡ true
        → (v || (is_below k.limit (count_to taker_of k.number ch.outstanding) && is_below ch.limit (count_given taker_of ch.outstanding))) ≡ true
    go true f = refl
    go false f =
        let parts = both (is_below k.limit (count_to taker_of k.number (ch.outstanding ++ more))) (is_below ch.limit (count_given taker_of (ch.outstanding ++ more))) f in
        and (is_below k.limit (count_to taker_of k.number ch.outstanding)) (is_below ch.limit (count_given taker_of ch.outstanding))
        (below_less k.limit _ _ (counted_less (λ x. is_to k.number (taker_of x)) ch.outstanding more) parts.0)
        (below_less ch.limit _ _ (counted_less (λ x. is_delivery (taker_of x)) ch.outstanding more) parts.1)

tag_less : (n : ℕ) → has_tag_left (n + 1) ≡ true → has_tag_left n ≡ true
tag_less n e = let lt = ltb-true (n + 1) 18446744073709551615 e in lt-ltb n 18446744073709551615 (omega (arith, lt))

-- who may take one after a message was given out on the channel might before
may_before : (no_ack : Bool) (queue : Text) (by : Taker) (ch : Channel) (k : Consumer) → may_take (channel_after no_ack queue by ch) k ≡ true → may_take ch k ≡ true
may_before no_ack queue by ch k e =
    let parts = both (has_tag_left (ch.next_tag + 1)) (may_hold taker_of ch.limit k.no_ack k.limit k.number (outstanding_after no_ack ch.next_tag queue by ch.outstanding)) e in
    and (has_tag_left ch.next_tag) (may_hold taker_of ch.limit k.no_ack k.limit k.number ch.outstanding) (tag_less ch.next_tag parts.0) (by_ack no_ack parts.1)
  where
    by_ack : (v : Bool) → may_hold taker_of ch.limit k.no_ack k.limit k.number (outstanding_after v ch.next_tag queue by ch.outstanding) ≡ true → may_hold taker_of ch.limit k.no_ack k.limit k.number ch.outstanding ≡ true
    by_ack true f = f
    by_ack false f = held_less ch k _ f

-- ---- all cases

abbrev pick_numbered : ℕ → ℕ → ℕ → Pick
pick_numbered c h n = record { connection = c; channel = h; number = n }

module _ (t : Topology) (old new : Broker) (e : Event) (sends : List Send) (notes : List Note) where
  -- a consumer of this number on channel h of connection c might take a message before, or the event wakes its waiter
  abbrev Could : ℕ → ℕ → ℕ → Type 0
  Could c h n = ((ch : Channel) × (k : Consumer) × MayTake old c h ch k × (k.number ≡ n)) ⊎ (wakes e (pick_numbered c h n) ≡ true)

  -- each that may take one now could
  abbrev AllCould : Type 0
  AllCould = (c h : ℕ) (ch : Channel) (k : Consumer) → MayTake new c h ch k → Could c h k.number

  abbrev SameConnections : Type 0
  SameConnections = (c : ℕ) → new.connection c ≡ old.connection c

  abbrev mine : ℕ → ℕ → Channel
  mine c h = channel_or_new (old.channel c h)

  -- a consumer on an open channel that may
  before : (c h : ℕ) (ch : Channel) (k : Consumer) (conn : Connection) → old.connection c ≡ Some conn → conn.is_paused ≡ false → old.channel c h ≡ Some ch → ch.is_closing ≡ false → IsIn k ch.consumers → may_take ch k ≡ true → Could c h k.number
  before c h ch k conn runs awake there still its may = inl (ch, k, record { connection = conn; runs = runs; awake = awake; there = there; open_still = still; its = its; may = may }, refl)

  -- who may on the channel, or on a new one
  before_mine : (c h : ℕ) (k : Consumer) (conn : Connection) → old.connection c ≡ Some conn → conn.is_paused ≡ false → (mine c h).is_closing ≡ false → IsIn k (mine c h).consumers → may_take (mine c h) k ≡ true → Could c h k.number
  before_mine c h k conn runs awake still its may = go (old.channel c h) refl still its may
    where
      go : (o : Option Channel) → old.channel c h ≡ o → (channel_or_new o).is_closing ≡ false → IsIn k (channel_or_new o).consumers → may_take (channel_or_new o) k ≡ true → Could c h k.number
      go None is s i m = absurd i
      go (Some ch) is s i m = before c h ch k conn runs awake is s i m

  same : SameConnections → ((c h : ℕ) → new.channel c h ≡ old.channel c h) → AllCould
  same conns chans c h ch k may = before c h ch k may.connection (sym (conns c) ∙ may.runs) may.awake (sym (chans c h) ∙ may.there) may.open_still may.its may.may

  -- one channel is this now
  with_this : (c h : ℕ) (x : Option Channel) → SameConnections → ((d l : ℕ) → new.channel d l ≡ with_pair old.channel c h x d l)
      → ((ch : Channel) (k : Consumer) (conn : Connection) → x ≡ Some ch → old.connection c ≡ Some conn → conn.is_paused ≡ false → ch.is_closing ≡ false → IsIn k ch.consumers → may_take ch k ≡ true → Could c h k.number) → AllCould
  with_this c h x conns is good d l ch k may = go (d == c) (l == h) refl refl (sym (is d l) ∙ may.there)
    where
      go : (v w : Bool) → (d == c) ≡ v → (l == h) ≡ w → (if v && w then x else old.channel d l) ≡ Some ch → Could d l k.number
      go true true first second e =
          let one = eqb-true d c first in
          subst (λ (n : ℕ). Could n l k.number) (sym one)
          (subst (λ (n : ℕ). Could c n k.number) (sym (eqb-true l h second))
          (good ch k may.connection e (ap old.connection (sym one) ∙ sym (conns d) ∙ may.runs) may.awake may.open_still may.its may.may))
      go true false first second e = before d l ch k may.connection (sym (conns d) ∙ may.runs) may.awake e may.open_still may.its may.may
      go false w first second e = before d l ch k may.connection (sym (conns d) ∙ may.runs) may.awake e may.open_still may.its may.may

  -- and the event wakes the waiters of its consumers
  woken : (c h : ℕ) (x : Option Channel) → ((n : ℕ) → wakes e (pick_numbered c h n) ≡ true) → SameConnections → ((d l : ℕ) → new.channel d l ≡ with_pair old.channel c h x d l) → AllCould
  woken c h x wake conns is = with_this c h x conns is (λ ch k conn e runs awake still its may. inr (wake k.number))

  -- one that no consumer may take from on it
  closed : (c h : ℕ) (x : Channel) → SameConnections → ((d l : ℕ) → new.channel d l ≡ with_pair old.channel c h (Some x) d l) → x.is_closing ≡ true → AllCould
  closed c h x conns is closing = with_this c h (Some x) conns is (λ ch k conn e runs awake still its may. absurd (false≢true (sym still ∙ ap (λ (z : Channel). z.is_closing) (sym (same_Some x ch e)) ∙ closing)))

  -- one whose consumers might take before what they may now
  with_some : (c h : ℕ) (x : Channel) → SameConnections → ((d l : ℕ) → new.channel d l ≡ with_pair old.channel c h (Some x) d l)
      → ((k : Consumer) (conn : Connection) → old.connection c ≡ Some conn → conn.is_paused ≡ false → x.is_closing ≡ false → IsIn k x.consumers → may_take x k ≡ true → Could c h k.number) → AllCould
  with_some c h x conns is good = with_this c h (Some x) conns is (λ ch k conn e runs awake still its may.
      let at : ch ≡ x = sym (same_Some x ch e) in
      good k conn runs awake (ap (λ (z : Channel). z.is_closing) (sym at) ∙ still) (subst (λ (z : Channel). IsIn k z.consumers) at its) (ap (λ (z : Channel). may_take z k) (sym at) ∙ may))

  -- the connection is gone with its channels
  gone : (c : ℕ) → ((d : ℕ) → new.connection d ≡ with_one old.connection c None d) → ((d l : ℕ) → new.channel d l ≡ with_row old.channel c (λ h. None) d l) → AllCould
  gone c conns is d l ch k may = go (d == c) (sym (conns d) ∙ may.runs) (sym (is d l) ∙ may.there)
    where
      go : (v : Bool) → (if v then None else old.connection d) ≡ Some may.connection → (if v then None else old.channel d l) ≡ Some ch → Could d l k.number
      go true a b = absurd (false≢true (ap is_some b))
      go false a b = before d l ch k may.connection a may.awake b may.open_still may.its may.may

  -- it runs, with new channels
  opens : (c max n : ℕ) (conn : Connection) → ((d : ℕ) → new.connection d ≡ with_one old.connection c (Some conn) d) → ((d l : ℕ) → new.channel d l ≡ with_row old.channel c (channels_up_to n) d l) → AllCould
  opens c max n conn conns is d l ch k may = go (d == c) (sym (conns d) ∙ may.runs) (sym (is d l) ∙ may.there)
    where
      go : (v : Bool) → (if v then Some conn else old.connection d) ≡ Some may.connection → (if v then channels_up_to n l else old.channel d l) ≡ Some ch → Could d l k.number
      go true a b = absurd (subst (λ (ks : List Consumer). IsIn k ks) (row_new n l ch b) may.its)
      go false a b = before d l ch k may.connection a may.awake b may.open_still may.its may.may

  -- it is paused
  pauses : (c : ℕ) → ((d : ℕ) → new.connection d ≡ with_one old.connection c (paused true (old.connection c)) d) → ((d l : ℕ) → new.channel d l ≡ old.channel d l) → AllCould
  pauses c conns is d l ch k may = go (d == c) (sym (conns d) ∙ may.runs)
    where
      never : (o : Option Connection) → paused true o ≡ Some may.connection → ⊥
      never None a = false≢true (ap is_some a)
      never (Some conn) a = false≢true (sym may.awake ∙ ap (λ (z : Connection). z.is_paused) (sym (same_Some _ may.connection a)))

      go : (v : Bool) → (if v then paused true (old.connection c) else old.connection d) ≡ Some may.connection → Could d l k.number
      go true a = absurd (never (old.connection c) a)
      go false a = before d l ch k may.connection a may.awake (sym (is d l) ∙ may.there) may.open_still may.its may.may

  -- or is not
  resumes : (c : ℕ) → ((n h : ℕ) → wakes e (pick_numbered c h n) ≡ true) → ((d : ℕ) → new.connection d ≡ with_one old.connection c (paused false (old.connection c)) d) → ((d l : ℕ) → new.channel d l ≡ old.channel d l) → AllCould
  resumes c wake conns is d l ch k may = go (d == c) refl (sym (conns d) ∙ may.runs)
    where
      go : (v : Bool) → (d == c) ≡ v → (if v then paused false (old.connection c) else old.connection d) ≡ Some may.connection → Could d l k.number
      go true at a = inr (subst (λ (n : ℕ). wakes e (pick_numbered n l k.number) ≡ true) (sym (eqb-true d c at)) (wake k.number l))
      go false at a = before d l ch k may.connection a may.awake (sym (is d l) ∙ may.there) may.open_still may.its may.may

  -- it is gone
  removed : (c h : ℕ) → SameConnections → ((d l : ℕ) → new.channel d l ≡ with_pair old.channel c h None d l) → AllCould
  removed c h conns is = with_this c h None conns is (λ ch k conn e runs awake still its may. absurd (false≢true (ap is_some e)))

  closes : (wanted : List Send) (c h : ℕ) (v : Bool) → Does sends notes new wanted (if v then old else with_freed (with_channel old c h None) (by_channel c h)) → AllCould
  closes wanted c h true p = same p.left.connections p.left.channels
  closes wanted c h false p = removed c h p.left.connections p.left.channels

  limits : (wanted : List Send) (c h : ℕ) (m : Qos) (v : Bool) → ((n : ℕ) → wakes e (pick_numbered c h n) ≡ true) → Does sends notes new wanted (with_channel old c h (Some (if v then record (mine c h) { limit = m.prefetch_count } else record (mine c h) { each_limit = m.prefetch_count }))) → AllCould
  limits wanted c h m true wake p = woken c h _ wake p.left.connections p.left.channels
  limits wanted c h m false wake p = woken c h _ wake p.left.connections p.left.channels

  gives : (c h : ℕ) (no_ack : Bool) (queue : Text) (by : Taker) (k : Consumer) (conn : Connection) → old.connection c ≡ Some conn → conn.is_paused ≡ false → (mine c h).is_closing ≡ false → IsIn k (mine c h).consumers → may_take (channel_after no_ack queue by (mine c h)) k ≡ true → Could c h k.number
  gives c h no_ack queue by k conn runs awake still its may = before_mine c h k conn runs awake still its (may_before no_ack queue by (mine c h) k may)

  gets : (c h : ℕ) (m : Get) (o : Option Entry) → Gets old c h (mine c h) m o sends notes new → AllCould
  gets c h m None p = same p.left.connections p.left.channels
  gets c h m (Some x) p = with_some c h _ p.left.connections p.left.channels (gives c h m.no_ack m.queue taker.Get)

  performs : (c h : ℕ) (m : Method) (content : Option Content) → e ≡ Command c h m content → (wakes_on m ≡ true → (n : ℕ) → wakes e (pick_numbered c h n) ≡ true) → Performs t old c h (mine c h) m content sends notes new → AllCould
  performs c h (ConfirmSelect no_wait) content is wake p = with_some c h _ p.left.connections p.left.channels (before_mine c h)
  performs c h (BasicPublish publish) content is wake p = with_some c h _ p.left.connections p.left.channels (before_mine c h)
  performs c h (ChannelOpen reserved) content is wake p = with_some c h _ p.left.connections p.left.channels (λ k conn runs awake still its may. absurd its)
  performs c h (ChannelFlow active) content is wake p = same p.left.connections p.left.channels
  performs c h (ChannelClose m) content is wake p = closes _ c h (mine c h).is_closing p
  performs c h ChannelCloseOk content is wake p = removed c h p.left.connections p.left.channels
  performs c h (ConnectionClose m) content is wake p = gone c p.left.connections p.left.channels
  performs c h (ExchangeDeclare m) content is wake p = same p.left.connections p.left.channels
  performs c h (QueueDeclare m) content is wake p = same p.does.left.connections p.does.left.channels
  performs c h (BasicQos m) content is wake p = limits _ c h m m.global (wake refl) p
  performs c h (BasicConsume m) content is wake p = woken c h _ (wake refl) p.left.connections p.left.channels
  performs c h (BasicCancel m) content is wake p =
      with_some c h _ p.left.connections p.left.channels (λ k conn runs awake still its may. before_mine c h k conn runs awake still (filter_in _ k (mine c h).consumers its) may)
  performs c h (BasicGet m) content is wake p = gets c h m (first_ready (old.queue m.queue)) p
  performs c h (BasicAck m) content is wake p = woken c h _ (wake refl) p.connections p.channels
  performs c h (BasicReject m) content is wake p = woken c h _ (wake refl) p.connections p.channels
  performs c h (BasicNack m) content is wake p = woken c h _ (wake refl) p.connections p.channels
  performs c h (BasicRecover requeue) content is wake p = woken c h _ (wake refl) p.connections p.channels
  performs c h (QueuePurge m) content is wake p = same p.left.connections p.left.channels
  performs c h _ content is wake p = absurd p

  refuses : (c h : ℕ) (cause : Ids) (r : Refusal) → Refuses old c h cause r sends notes new → AllCould
  refuses c h cause Ignored p = same p.left.connections p.left.channels
  refuses c h cause (Of_channel code) p = closed c h _ p.left.connections p.left.channels refl
  refuses c h cause (Of_connection code) p = gone c p.left.connections p.left.channels

  wakes_its : (c h : ℕ) (m : Method) (content : Option Content) → e ≡ Command c h m content → wakes_on m ≡ true → (n : ℕ) → wakes e (pick_numbered c h n) ≡ true
  wakes_its c h m content is on n = ap (λ (x : Event). wakes x (pick_numbered c h n)) is ∙ and (wakes_on m) ((c == c) && (h == h)) on (and (c == c) (h == h) (eq-eqb c c refl) (eq-eqb h h refl))

  decides : (c h : ℕ) (m : Method) (content : Option Content) (r : Option Refusal) → e ≡ Command c h m content → Decides t old c h m content r sends notes new → AllCould
  decides c h m content None is p = performs c h m content is (wakes_its c h m content is) p
  decides c h m content (Some r) is p = refuses c h (ids_of m) r p

  commanded : (c h : ℕ) (m : Method) (content : Option Content) (o : Option Connection) → e ≡ Command c h m content → OnConnection t old c h m content sends notes new o → AllCould
  commanded c h m content None is p = same p.left.connections p.left.channels
  commanded c h m content (Some conn) is p = decides c h m content (refusal t old conn h m (old.channel c h)) is p

  too_large : (c h : ℕ) (o : Option Connection) → OnLarge old c h sends notes new o → AllCould
  too_large c h None p = same p.left.connections p.left.channels
  too_large c h (Some conn) p = refuses c h (ids_of empty_publish) (refusal_of_large conn h (old.channel c h)) p

  could : (x : Event) → e ≡ x → Acts t old x sends notes new → AllCould
  could (Open c) is p = same p.left.connections p.left.channels
  could (First c bytes) is p = same p.left.connections p.left.channels
  could (Running c max n) is p = opens c max n _ p.left.connections p.left.channels
  could (Command c h m content) is p = commanded c h m content (old.connection c) is p
  could (TooLarge c h) is p = too_large c h (old.connection c) p
  could (Fault c code) is p = gone c p.left.connections p.left.channels
  could (Lose c) is p = gone c p.left.connections p.left.channels
  could (Pause c) is p = pauses c p.left.connections p.left.channels
  could (Resume c) is p = resumes c (λ n h. ap (λ (x : Event). wakes x (pick_numbered c h n)) is ∙ eq-eqb c c refl) p.left.connections p.left.channels
  could (Deliver c) is p =
      with_some c p.made.number _ p.makes.left.connections p.makes.left.channels
      (λ k conn runs awake still its may. before c p.made.number p.made.channel k conn runs awake p.made.taker.there still its (may_before p.made.consumer.no_ack p.made.consumer.queue (taker.Consumer p.made.consumer.number) p.made.channel k may))

-- who could take nothing can take nothing after an event that does not wake its waiter
pub cannot_still : (t : Topology) (old new : Broker) (e : Event) (sends : List Send) (notes : List Note) (p : Pick) → Acts t old e sends notes new → wakes e p ≡ false → CannotTake old p → CannotTake new p
cannot_still t old new e sends notes p acts none cannot = λ ch k may numbered. go k numbered (could t old new e sends notes e refl acts p.connection p.channel ch k may)
  where
    go : (k : Consumer) → k.number ≡ p.number → Could t old new e sends notes p.connection p.channel k.number → ⊥
    go k numbered (inl (ch, was, may, same)) = cannot ch was may (same ∙ numbered)
    go k numbered (inr woken) = false≢true (sym none ∙ subst (λ (n : ℕ). wakes e (pick_numbered p.connection p.channel n) ≡ true) numbered woken)
