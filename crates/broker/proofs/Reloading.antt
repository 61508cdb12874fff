-- Another topology is in force: what every broker keeps.
use Rattle.broker.proofs.Names.{◌∙◌, ◌<◌, ◌+◌, ℕ, List, [], true, Option, None, length, get_or, inl, inr, refl, sym, ap, subst, arith, leb_tells, get_or_past, is_some, false≢true, Text, IsIn, AreDistinct, Broker, IsAgreed, is_held_as, survived_now, with_all_survived, Is, Entry, count-map, place_now, same_default, names-length, is_in, AreMoved, goes, IsStoreWhole, ArePlaced, queue_name, consumer_in, channel_of, seen_there, CannotTake, Kept, names_of, Pick, Queue, items_of, AllDistinct, Rounds, line_of, order, asleep_member, is_of, HasConsumer, AllAreEmpty, AreKept, IndicesDiffer, LinesAreMoved, LinesCome, with_turn, LinesMove}
use Rattle.std.proofs.Common.{◌≡◌}
use Rattle.std.specs.Prelude.{count_by}
use Rattle.model.specs.Broker as seen
use Rattle.depot.specs.Moving.{stays}
use Rattle.commands.specs.State.{broker_of, topology_kept}
use Rattle.commands.proofs.Placing.{takes_within}
use Rattle.commands.proofs.Reloading.{in_mapped, seen_of, one_place}
use Rattle.broker.proofs.Marked.{no_line}
use Rattle.broker.proofs.Takers.{has_of, of_has, order_at}

-- ---- what is held and what is outstanding

-- a mark is no holder
pub agreed_survived : (b new : Broker) → Is (with_all_survived b) new → IsAgreed b → IsAgreed new
agreed_survived b new is a = record {
  held = λ q e holder i m.
      let was = seen_of survived_now e (b.queue q) (subst (λ (es : List Entry). IsIn e es) (is.queues q) i) in
      let out = a.held q was.one holder was.among (ap (λ (x : Entry). x.mark) was.is ∙ m) in record {
        channel = out.channel;
        there = is.channels holder.connection holder.channel ∙ out.there;
        delivery = out.delivery;
        outstanding = out.outstanding;
        tag = out.tag;
        queue = out.queue;
        by = out.by;
      };
  given = λ c h ch o e i.
      let was = a.given c h ch o (sym (is.channels c h) ∙ e) i in record {
        entry = survived_now was.entry;
        there = subst (λ (es : List Entry). IsIn (survived_now was.entry) es) (sym (is.queues o.queue)) (in_mapped survived_now was.entry (b.queue o.queue) was.there);
        mark = was.mark;
      };
  distinct = λ q holder.
      let same = ap (count_by (is_held_as holder)) (is.queues q) ∙ count-map (is_held_as holder) survived_now (λ x. refl) (b.queue q) in
      let few = a.distinct q holder in
      omega (arith, same, few);
  rising = λ c h ch e. a.rising c h ch (sym (is.channels c h) ∙ e);
  before = λ c h ch e. a.before c h ch (sym (is.channels c h) ∙ e);
  closed = λ c h ch e. a.closed c h ch (sym (is.channels c h) ∙ e);
}

-- ---- places

-- two queues that stay don't come to one place
pub places_apart : (old new : List Text) (places : List ℕ) (count : ℕ) → AreDistinct old → AreMoved old new places → count ≡ length new → IndicesDiffer places count
places_apart old new places count distinct moved most i j l m there same =
    let len = moved.len in
    one_place old i j distinct (omega (arith, l, len)) (omega (arith, m, len)) (sym (at i l there) ∙ ap (λ (k : ℕ). get_or new k []) same ∙ at j m (omega (arith, there, same)))
  where
    at : (k : ℕ) → k < length places → place_now places k < count → get_or new (place_now places k) [] ≡ get_or old k []
    at k lt there =
        let len = moved.len in
        let here = same_default places k 0 k lt in
        elim (moved.each k (omega (arith, lt, len))) [
          | stays within named ↦ ap (λ (n : ℕ). get_or new n []) (sym here) ∙ named
          | goes gone behind ↦ absurd (omega (arith, behind, there, most, here))
        ]

-- A consumer that exists now existed before, of the queue that was at this index.
pub record Was (old : Kept) (places : List ℕ) (place : ℕ) (p : Pick) : Type 0 where
  pub from : ℕ
  pub within : from < length places
  pub now : place_now places from ≡ place
  pub has : HasConsumer (topology_kept old) (broker_of old) from p

pub kept_empty : (kept : Kept) (lines : List (Queue Pick)) → AllAreEmpty lines → length lines ≡ length (topology_kept kept).queues → ((c h : ℕ) → (broker_of kept).channel c h ≡ None) → AreKept kept lines
kept_empty kept lines empty len none = record {
  lines_for = len;
  joined = λ place p has. absurd (false≢true (ap is_some (sym (none p.connection p.channel) ∙ has.was.1)));
  own = λ place. record { there = λ p i. absurd (subst (IsIn p) (nobody place) i); once = subst (λ (ps : List Pick). AllDistinct ps) (sym (nobody place)) tt };
  asleep = λ place p i. absurd (subst (λ (ms : List _). IsIn (asleep_member p) ms) (empty place) i);
}
  where
    nobody : (place : ℕ) → order (line_of lines place) ≡ []
    nobody place = ap (λ (ms : List _). items_of ms) (empty place)

module _ (old new : Kept) (places : List ℕ) (after : IsStoreWhole new.store) (placed : ArePlaced old) (moved : AreMoved (names_of old) (names_of new) places)
    (survived : Is (with_all_survived (broker_of old)) (broker_of new)) where
  was_at : (place : ℕ) (p : Pick) → HasConsumer (topology_kept new) (broker_of new) place p → Was old places place p
  was_at place p has =
      let there = sym (survived.channels p.connection p.channel) ∙ has.was.1 in
      let its = seen_there (names_of old) (channel_of old.connections p.connection p.channel) has.was.0 there in
      let one = seen_of (consumer_in (names_of old)) has.consumer its.kept.given.consumers (subst (λ (ch : seen.Channel). IsIn has.consumer ch.consumers) (sym its.same) has.was.2) in
      let from = one.one.queue in
      let lt = takes_within (topology_kept old) one.one its.kept.given.consumers (placed p.connection p.channel its.kept its.there).consumers one.among in
      let long = names-length (topology_kept old).queues in
      let more = names-length (topology_kept new).queues in
      let len = moved.len in
      let within = has.within in
      let named : get_or (names_of old) from [] ≡ has.consumer.queue = ap (λ (k : seen.Consumer). k.queue) one.is in
      let at : get_or (names_of new) place [] ≡ get_or (names_of old) from [] = has.named ∙ sym named in
      let stays_at : get_or places from 0 ≡ place =
      elim (moved.each from (omega (arith, lt, long))) [
        | stays inside is ↦ one_place (names_of new) (get_or places from 0) place after.formed.queues_distinct inside (omega (arith, within, more)) (is ∙ sym at)
        | goes gone behind ↦ absurd (gone (subst (λ (q : Text). IsIn q (names_of new)) at (is_in (names_of new) place (omega (arith, within, more)))))
      ] in record {
        from = from;
        within = omega (arith, lt, long, len);
        now = same_default places from from 0 (omega (arith, lt, long, len)) ∙ stays_at;
        has = record { consumer = has.consumer; was = (has.was.0, there, has.was.2); numbered = has.numbered; within = lt; named = named };
      }

  -- whoever took from a queue that is there still takes from it at its new place
  of_moved : (from place : ℕ) (p : Pick) → from < length places → place_now places from ≡ place → place < length (topology_kept new).queues → is_of old from p ≡ true → is_of new place p ≡ true
  of_moved from place p lt now within its =
      let more = names-length (topology_kept new).queues in
      let len = moved.len in
      let here : get_or places from 0 ≡ place = same_default places from 0 from lt ∙ now in
      let has = of_has old from p its in
      let named : queue_name (topology_kept new) place ≡ queue_name (topology_kept old) from =
      elim (moved.each from (omega (arith, lt, len))) [
        | stays inside is ↦ ap (λ (n : ℕ). get_or (names_of new) n []) (sym here) ∙ is
        | goes gone behind ↦ absurd (omega (arith, behind, here, within, more))
      ] in
      has_of new place p
      (record { consumer = has.consumer; was = (has.was.0, survived.channels p.connection p.channel ∙ has.was.1, has.was.2); numbered = has.numbered; within = within; named = named ∙ has.named })

  -- who could take nothing still can't
  cannot_moved : (p : Pick) → CannotTake (broker_of old) p → CannotTake (broker_of new) p
  cannot_moved p cannot ch k may same = cannot ch k (record {
    connection = may.connection;
    runs = sym (survived.connections p.connection) ∙ may.runs;
    awake = may.awake;
    there = sym (survived.channels p.connection p.channel) ∙ may.there;
    open_still = may.open_still;
    its = may.its;
    may = may.may;
  }) same

  -- so each line has its consumers, each once, and whoever sleeps can't take
  pub kept_moved : (before empty left : List (Queue Pick)) → AreKept old before → LinesAreMoved places before left → LinesCome places before empty left → AllAreEmpty empty → length left ≡ length (topology_kept new).queues → AreKept new left
  kept_moved before empty left k moves came none len = record {
    lines_for = len;
    joined = λ place p has.
        let was = was_at place p has in
        let within = has.within in
        let now = was.now in
        subst (λ (n : ℕ). IsIn p (order (line_of left n))) was.now
        (subst (λ (ms : List _). IsIn p (items_of ms)) (sym (moves was.from was.within (omega (arith, within, now, len)))) (k.joined was.from p was.has));
    own = λ place. elim (came place) [
      | inl same ↦
          let nobody : order (line_of left place) ≡ [] = ap (λ (ms : List _). items_of ms) (same ∙ none place) in
          record { there = λ p i. absurd (subst (IsIn p) nobody i); once = subst (λ (ps : List Pick). AllDistinct ps) (sym nobody) tt }
      | inr its ↦
          let same : order (line_of left place) ≡ order (line_of before its.from) = ap (λ (ms : List _). items_of ms) its.same in
          record {
            there = λ p i. of_moved its.from place p its.within its.there (inside place p i) ((k.own its.from).there p (subst (IsIn p) same i));
            once = subst (λ (ps : List Pick). AllDistinct ps) (sym same) (k.own its.from).once;
          }
    ];
    asleep = λ place p i. elim (came place) [
      | inl same ↦ absurd (subst (λ (ms : List _). IsIn (asleep_member p) ms) (same ∙ none place) i)
      | inr its ↦ cannot_moved p (k.asleep its.from p (subst (λ (ms : List _). IsIn (asleep_member p) ms) its.same i))
    ];
  }
    where
      -- a line in which a consumer is exists
      inside : (at : ℕ) (p : Pick) → IsIn p (order (line_of left at)) → at < length (topology_kept new).queues
      inside at p i = elim (leb_tells (at + 1) (length left)) [
        | inl a ↦ let lt = a.1 in omega (arith, lt, len)
        | inr a ↦ let past = a.1 in absurd (subst (λ (l : Queue Pick). IsIn p (order l)) (get_or_past left at no_line (omega (arith, past))) i)
      ]

  -- the line of each queue that is still declared is at its new index
  line_moved : (before left : List (Queue Pick)) → LinesAreMoved places before left → length left ≡ length (topology_kept new).queues
      → (from to : ℕ) → from < length (topology_kept old).queues → to < length (topology_kept new).queues → queue_name (topology_kept old) from ≡ queue_name (topology_kept new) to
      → (line_of left to).order ≡ (line_of before from).order
  line_moved before left moves len from to lt within named =
      let long = names-length (topology_kept old).queues in
      let more = names-length (topology_kept new).queues in
      let size = moved.len in
      let stands_at : get_or places from 0 ≡ to =
      elim (moved.each from (omega (arith, lt, long))) [
        | stays inside is ↦ one_place (names_of new) (get_or places from 0) to after.formed.queues_distinct inside (omega (arith, within, more)) (is ∙ named)
        | goes gone behind ↦ absurd (gone (subst (λ (q : Text). IsIn q (names_of new)) (sym named) (is_in (names_of new) to (omega (arith, within, more)))))
      ] in
      let now : place_now places from ≡ to = same_default places from from 0 (omega (arith, lt, long, size)) ∙ stands_at in
      subst (λ (n : ℕ). (line_of left n).order ≡ (line_of before from).order) now (moves from (omega (arith, lt, long, size)) (omega (arith, now, within, len)))

  -- so each has its line
  pub lines_moved : (before left : Rounds) (x : Option Pick) → LinesAreMoved places before.lines left.lines → length left.lines ≡ length (topology_kept new).queues → left.next ≡ 0
      → LinesMove (with_turn old before x) (with_turn new left None)
  lines_moved before left x moves len next = record {
    next = next;
    lines = λ from to lt within named. order_at left.lines to ∙ ap (λ (ms : List _). items_of ms) (line_moved before.lines left.lines moves len from to lt within named) ∙ sym (order_at before.lines from);
  }
