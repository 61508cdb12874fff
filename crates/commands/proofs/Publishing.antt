-- What a publish leaves of its channel and of the queues.
use Rattle.commands.proofs.Names.{Bor, ◌≡◌, ◌+◌, ◌++◌, ◌∷◌, [], ◌∙◌, ℕ, List, Bool, true, false, Option, None, refl, ap, is_some, IfSome, unwrap_or, Topology, queue_names, Channel, with_pair, IsAddressed, IsPublish, content_or_none, next_of, confirm_sends, confirm_notes, answer_of, return_of, returned_notes, entry_notes, is_none, is_some_full, Content, Publish, Send, Note, open_in, Store, entries_named, Publishes, AreAddressed, return_if, sent_back, Side, Turns, seen, state_of}
use Rattle.std.proofs.Common.{length, ◌&&◌, Some, if◌then◌else◌}
use Rattle.std.specs.Prelude.{option_copied}
use Rattle.model.specs.declared.notes.Note.TheVariants.{Published}
use Rattle.model.specs.declared.notes.Way.TheVariants as way
use Rattle.channels.specs.Open.{Open}
use Rattle.depot.specs.declared.depots.Routed.{Routed}

-- the content that a publish uses: its own, or the empty one
pub content_used : (own : Option (Bor Content)) (empty used : Bor Content) (content : Option Content) → used ≡ unwrap_or own empty → option_copied own ≡ content → empty.now ≡ content_or_none None → used.now ≡ content_or_none content
content_used None empty used content is own none = ap (λ (x : Bor Content). x.now) is ∙ none ∙ ap content_or_none own
content_used (Some x) empty used content is own none = ap (λ (y : Bor Content). y.now) is ∙ ap content_or_none own

-- what goes back of a publish goes back where it is mandatory and routed nowhere
back_sent : (man none : Bool) (s : Send) → sent_back none (if man then Some s else None) ≡ (if man && none then s ∷ [] else [])
back_sent true true s = refl
back_sent true false s = refl
back_sent false true s = refl
back_sent false false s = refl

-- and that is noted
back_noted : (man none : Bool) (s : Send) → (none && is_some (if man then Some s else None)) ≡ (man && none)
back_noted true true s = refl
back_noted true false s = refl
back_noted false true s = refl
back_noted false false s = refl

-- a channel that counted a publish is seen so
counted_seen : (s s' : Store) (ch ch' : Open) → s'.topology ≡ s.topology → ch' ≡ record ch { confirm = next_of ch.confirm } → seen s' ch' ≡ record (seen s ch) { confirm = next_of ch.confirm }
counted_seen s s' ch ch' same e = ap (λ (t : Topology). open_in (queue_names t.queues) ch') same ∙ ap (open_in (queue_names s.topology.queues)) e

-- a publish of the depot, counted on the channel, sent back and confirmed, is one of the broker
pub publish_here : (c h : ℕ) (s s' : Store) (ch ch' : Open) (p : Publish) (content : Content) (noted : List Note) (routed : Routed) (old new : Side)
    → Publishes s c h p content (next_of ch.confirm) noted routed s' → ch' ≡ record ch { confirm = next_of ch.confirm } → Turns c h (seen s ch) (seen s' ch') old new
    → IsPublish s.topology (state_of s old) c h (seen s ch) p content
    (sent_back routed.is_none (return_if c h p content) ++ confirm_sends c h (next_of ch.confirm) (answer_of routed.is_some_full))
    ((noted ++ returned_notes (s.published + 1) (routed.is_none && is_some (return_if c h p content))) ++ confirm_notes (s.published + 1) (next_of ch.confirm) (answer_of routed.is_some_full)) (state_of s' new)
publish_here c h s s' ch ch' p content noted routed old new made e turns =
    let n = s.published + 1 in
    let entries = entries_named s in
    let back : Option Send = return_if c h p content in
    let full = is_some_full s.topology entries content made.targets in
    let none = is_none made.targets in
    let front : List Note = Published n c h p.exchange p.routing_key (next_of ch.confirm) ∷ entry_notes s.topology entries (length content.body) n way.Publish made.targets in
    record {
      targets = made.targets;
      routed = made.picked;
      noted = ap (λ (z : List Note). (z ++ returned_notes n (routed.is_none && is_some back)) ++ confirm_notes n (next_of ch.confirm) (answer_of routed.is_some_full)) made.notes
          ∙ ap (λ (f : Bool). (front ++ returned_notes n (routed.is_none && is_some back)) ++ confirm_notes n (next_of ch.confirm) (answer_of f)) made.full
          ∙ ap (λ (b : Bool). (front ++ returned_notes n (b && is_some back)) ++ confirm_notes n (next_of ch.confirm) (answer_of full)) made.none
          ∙ ap (λ (b : Bool). (front ++ returned_notes n b) ++ confirm_notes n (next_of ch.confirm) (answer_of full)) (back_noted p.mandatory none (return_of c h p content));
      sent = ap (λ (f : Bool). sent_back routed.is_none back ++ confirm_sends c h (next_of ch.confirm) (answer_of f)) made.full
          ∙ ap (λ (b : Bool). sent_back b back ++ confirm_sends c h (next_of ch.confirm) (answer_of full)) made.none
          ∙ ap (λ (z : List Send). z ++ confirm_sends c h (next_of ch.confirm) (answer_of full)) (back_sent p.mandatory none (return_of c h p content));
      left = record {
        counted = made.counted;
        queues = made.queues;
        connections = turns.connections;
        channels = λ d k. turns.channels d k ∙ ap (λ (x : Channel). with_pair old.channel c h (Some x) d k) (counted_seen s s' ch ch' made.topology e);
      };
    }

-- what goes back has an address where all of it has, and what follows it keeps its own
pub back_own : (c : ℕ) (none : Bool) (back : Option Send) (more : List Send) → IfSome back (λ s. IsAddressed c s) → AreAddressed c more → AreAddressed c (sent_back none back ++ more)
back_own c false back more own rest = rest
back_own c true None more own rest = rest
back_own c true (Some s) more own rest = (own, rest)
