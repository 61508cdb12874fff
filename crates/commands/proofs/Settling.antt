-- What a settlement leaves of a channel and of the queues.
use Rattle.commands.proofs.Names.{◌≡◌, ℕ, List, [], ◌++◌, Bool, sym, ap, subst, ◌∙◌, map, arith, option_map, length-map, Text, Topology, queue_names, Channel, with_pair, Rises, settled, kept, Settlement, AreSettled, Send, Note, tag_of, open_in, without_settled, settled_by, IsSpan, outstanding_in, AreWithin, Delivery, Store, entries_named, AreSettledBy, IsPlaced, CanCommand, SettlesHere, seen}
use Rattle.std.proofs.Common.{Some}
use Rattle.std.proofs.Math.ListN as numbered
use Rattle.model.specs.Broker as seen_as
use Rattle.model.specs.Step as step
use Rattle.channels.specs.Open.{Open}
use Rattle.channels.specs.declared.spans.Span.{Span}
use Rattle.commands.proofs.Settled.{settled_seen, kept_seen, gone_within, gone_rises, kept_within}

-- ---- the span of a tag

-- what its span lends is what the tag settles
lent_settled : (span : Span) (tag : ℕ) (multiple : Bool) (ds gone : List Delivery) → IsSpan span tag multiple ds → gone ≡ settled_by span ds → settled tag_of tag multiple ds ≡ Some gone
lent_settled span tag multiple ds gone is lent = is.settles ∙ ap Some (sym lent)

-- and what forgets the span forgets what the tag settles
forgotten : (span : Span) (tag room : ℕ) (multiple : Bool) (ch ch' : Open) → IsSpan span tag multiple ch.given.outstanding → ch' ≡ without_settled ch span.tag span.multiple room → ch' ≡ without_settled ch tag multiple room
forgotten span tag room multiple ch ch' is e = e ∙ ap (λ (t : ℕ). without_settled ch t span.multiple room) is.tagged ∙ ap (λ (m : Bool). without_settled ch tag m room) is.is_multiple

-- ---- the channel

-- tags that rise where queues have names rise where they have places
rises_kept : (names : List Text) (os : List Delivery) → Rises step.tag_of (map (outstanding_in names) os) → Rises tag_of os
rises_kept names os r i j d lt within =
    let e = ap step.tag_of (numbered.get_or-map (outstanding_in names) os i d) in
    let f = ap step.tag_of (numbered.get_or-map (outstanding_in names) os j d) in
    let long = length-map os (outstanding_in names) in
    let less = r i j (outstanding_in names d) lt (omega (arith, within, long)) in
    omega (arith, e, f, less)

-- what a span settles on a channel of an agreed state is in the order of its tags
pub all_rise : (c h tag : ℕ) (multiple : Bool) (span : Span) (s : Store) (ch : Open) (gone : List Delivery) → CanCommand c h s ch → IsSpan span tag multiple ch.given.outstanding → gone ≡ settled_by span ch.given.outstanding → Rises tag_of gone
all_rise c h tag multiple span s ch gone can is lent =
    gone_rises tag multiple ch.given.outstanding gone (lent_settled span tag multiple ch.given.outstanding gone is lent)
    (rises_kept (queue_names s.topology.queues) ch.given.outstanding (can.agreed.rising c h (seen s ch) can.there))

-- and was given out from queues that are there
pub all_within : (c h tag : ℕ) (multiple : Bool) (span : Span) (s : Store) (ch : Open) (gone : List Delivery) → CanCommand c h s ch → IsSpan span tag multiple ch.given.outstanding → gone ≡ settled_by span ch.given.outstanding
    → AreWithin s.topology gone
all_within c h tag multiple span s ch gone can is lent = gone_within s.topology tag multiple ch.given.outstanding gone (lent_settled span tag multiple ch.given.outstanding gone is lent) can.placed.outstanding

-- so was what stays outstanding
pub stays_placed : (c h tag room : ℕ) (multiple : Bool) (span : Span) (s : Store) (ch ch' : Open) → CanCommand c h s ch → IsSpan span tag multiple ch.given.outstanding → ch' ≡ without_settled ch span.tag span.multiple room → IsPlaced s.topology ch'
stays_placed c h tag room multiple span s ch ch' can is e =
    subst (IsPlaced s.topology) (sym (forgotten span tag room multiple ch ch' is e))
    (record { outstanding = kept_within s.topology tag multiple ch.given.outstanding can.placed.outstanding; consumers = can.placed.consumers; rise = can.placed.rise })

-- the channel without what was settled is seen so
without_seen : (tag room : ℕ) (multiple : Bool) (s s' : Store) (ch ch' : Open) → s'.topology ≡ s.topology → ch' ≡ without_settled ch tag multiple room
    → seen s' ch' ≡ record (seen s ch) { outstanding = kept step.tag_of tag multiple (seen s ch).outstanding }
without_seen tag room multiple s s' ch ch' same e =
    ap (λ (t : Topology). open_in (queue_names t.queues) ch') same
    ∙ ap (open_in (queue_names s.topology.queues)) e
    ∙ ap (λ (os : List seen_as.Outstanding). record (seen s ch) { outstanding = os }) (kept_seen (queue_names s.topology.queues) tag multiple ch.given.outstanding)

-- ---- settlements

-- what is settled in the queues, and then forgotten on the channel, is settled
pub settles : (how : Settlement) (c h tag room : ℕ) (multiple : Bool) (span : Span) (s s' : Store) (ch ch' : Open) (gone : List Delivery) (wanted sends : List Send) (before notes : List Note)
    → IsSpan span tag multiple ch.given.outstanding → gone ≡ settled_by span ch.given.outstanding → sends ≡ wanted → before ≡ [] → AreSettledBy how s c h gone before notes s' → ch' ≡ without_settled ch span.tag span.multiple room
    → SettlesHere how c h s ch tag multiple wanted sends notes s' ch'
settles how c h tag room multiple span s s' ch ch' gone wanted sends before notes is lent sent none are e old new turns =
    let names = queue_names s.topology.queues in
    let all = lent_settled span tag multiple ch.given.outstanding gone is lent in
    let noted : notes ≡ are.noted = are.appended ∙ ap (λ (ns : List Note). ns ++ are.noted) none in
    record {
      gone = map (outstanding_in names) gone;
      settled_are = settled_seen names tag multiple ch.given.outstanding ∙ ap (option_map (map (outstanding_in names))) all;
      queues = subst (λ (ns : List Note). AreSettled s.topology how c h (map (outstanding_in names) gone) (entries_named s) ns (entries_named s')) (sym noted) are.settled;
      sent = sent;
      counted = are.counted;
      connections = turns.connections;
      channels = λ d k. turns.channels d k ∙ ap (λ (x : Channel). with_pair old.channel c h (Some x) d k) (without_seen tag room multiple s s' ch ch' are.topology (forgotten span tag room multiple ch ch' is e));
    }
