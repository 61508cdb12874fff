-- How many bytes the sends of an event are spelled by: one method at most, unless a content may be among them.
use Rattle.engine.proofs.Names.{◌≡◌, ◌≤◌, ◌&&◌, if◌then◌else◌, spelling, ℕ, List, [], ◌∷◌, length, Bool, true, false, Option, None, Some, refl, sym, ap, subst, ◌∙◌, ◌⊎◌, inl, inr, arith, false≢true, with_one, AllByRecursion, Topology, Broker, Session, State, Config, Acts, AreOwn, Rules, IsAskedBy, DecidesByPhase, Note, Send, Event}
use Rattle.std.proofs.Common.{length-append}
use Rattle.std.specs.Prelude.{◌++◌, filter_map}
use Rattle.model.specs.Contents.{content_in}
use Rattle.model.specs.Order.{Gives, to_get, to_consumer}
use Rattle.model.specs.Sending.{IsOwn}
use Rattle.model.specs.Spelling.{eight_bytes, send_bytes}
use Rattle.model.specs.Step.{confirm_sends, returned_sends}
use Rattle.model.specs.declared.contents.Content.{Content}
use Rattle.model.specs.declared.events.Send.TheVariants as send
use Rattle.model.specs.declared.messages.Entry.{Entry}
use Rattle.model.specs.declared.methods.Publish.{Publish}
use Rattle.model.specs.declared.notes.Answer.{Answer}
use Rattle.model.specs.Words.{Text}
use Rattle.laws.proofs.Deeds.{Deed, Publishes, acted, changes, enters, gives, settles, purges}
use Rattle.laws.proofs.Replies.{IsReplyAtMost, IsAnswerAtMost}
use Rattle.laws.proofs.Sizes.{method_length}
use Rattle.laws.proofs.View.{goes}
use Rattle.outputs.specs.declared.room.Room.{Room}
use Rattle.outputs.specs.declared.room.Room.TheVariants as room
use Rattle.engine.specs.Allocating.{room_wanted, AreWithin}
use Rattle.engine.proofs.Lifted.{decided_steps}

-- ---- one send without a content

-- nothing, or one send
abbrev IsOneAtMost : List Send → Type 0
IsOneAtMost [] = Unit {0}
IsOneAtMost (s ∷ sends) = sends ≡ []

-- none has a content
abbrev AreBare : List Send → Type 0
AreBare sends = filter_map content_in sends ≡ []

reply_one : (sends : List Send) → IsReplyAtMost sends → IsOneAtMost sends
reply_one [] few = tt
reply_one (send.Greeting d ∷ sends) few = absurd few
reply_one (send.Command d h m content ∷ sends) few = few.1

answer_one : (sends : List Send) → IsAnswerAtMost sends → IsOneAtMost sends
answer_one [] few = tt
answer_one (send.Greeting d ∷ sends) few = few
answer_one (send.Command d h m content ∷ sends) few = few.1

one_size : (c max : ℕ) (sends : List Send) → IsOneAtMost sends → AreBare sends → AllByRecursion (IsOwn c) sends → length (spelling max sends) ≤ 4096
one_size c max [] one bare own = omega arith
one_size c max (send.Greeting d ∷ sends) one bare own =
    let rest = ap (λ (z : List Send). length (spelling max z)) one in
    let all = length-append eight_bytes (spelling max sends) in
    omega (arith, rest, all)
one_size c max (send.Command d h m None ∷ sends) one bare own =
    let short = own.0.1.0 in
    let size = method_length max d h m in
    let rest = ap (λ (z : List Send). length (spelling max z)) one in
    let all = length-append (send_bytes max (send.Command d h m None)) (spelling max sends) in
    omega (arith, short, size, rest, all)
one_size c max (send.Command d h m (Some content) ∷ sends) one bare own = absurd (omega (arith, ap length bare))

-- that fits any room
small_within : (c : ℕ) (wanted : Room) (sends : List Send) → IsOneAtMost sends → AreBare sends → AreOwn c sends → AreWithin wanted sends
small_within c room.Reply sends one bare own = λ max long. one_size c max sends one bare own.each
small_within c room.Content sends one bare own = λ max long. let le = one_size c max sends one bare own.each in omega (arith, le)

-- ---- what the broker sends

abbrev is_content : Room → Bool
is_content room.Reply = false
is_content room.Content = true

no_reply : room.Content ≡ room.Reply → ⊥
no_reply e = false≢true (sym (ap is_content e))

gives_content : {old new : Broker} {e : Event} {sends : List Send} {notes : List Note} {q : Text} {entry : Entry} → Gives old e sends notes new q entry → room_wanted e ≡ room.Content
gives_content (to_get ch is there first gets) = ap room_wanted is
gives_content (to_consumer is d) = ap room_wanted is

confirm_one : (c h : ℕ) (o : Option ℕ) (a : Answer) → IsOneAtMost (confirm_sends c h o a) × AreBare (confirm_sends c h o a)
confirm_one c h None a = (tt, refl)
confirm_one c h (Some n) a = (refl, refl)

-- a publish that may not be sent back is confirmed at most
publish_one : (c h : ℕ) (p : Publish) (content : Content) (mandatory none : Bool) (o : Option ℕ) (a : Answer) → (if mandatory then room.Content else room.Reply) ≡ room.Reply
    → IsOneAtMost (returned_sends c h p content (mandatory && none) ++ confirm_sends c h o a) × AreBare (returned_sends c h p content (mandatory && none) ++ confirm_sends c h o a)
publish_one c h p content true none o a is = absurd (no_reply is)
publish_one c h p content false none o a is = confirm_one c h o a

published_one : (t : Topology) (old new : Broker) (e : Event) (sends : List Send) (notes : List Note) → Publishes t old new e sends notes → room_wanted e ≡ room.Reply → IsOneAtMost sends × AreBare sends
published_one t old new e sends notes p is =
    subst (λ (z : List Send). IsOneAtMost z × AreBare z) (sym p.is.sent)
    (publish_one p.c p.h p.publish _ p.publish.mandatory _ _ _ (sym (ap room_wanted p.event) ∙ is))

-- an event that may send no content either publishes, or sends none
deed_bare : (t : Topology) (old new : Broker) (e : Event) (c : ℕ) (sends : List Send) (notes : List Note) → Deed t old new e c sends notes → room_wanted e ≡ room.Reply → AreBare sends ⊎ Publishes t old new e sends notes
deed_bare t old new e c sends notes (changes still change) is = inl still.bare
deed_bare t old new e c sends notes (enters h now publishes puts alike serves) is = inr publishes
deed_bare t old new e c sends notes (gives given) is = absurd (no_reply (sym (gives_content given.out) ∙ is))
deed_bare t old new e c sends notes (settles settled) is = inl settled.bare
deed_bare t old new e c sends notes (purges purged) is = inl purged.bare

reply_within : (t : Topology) (old new : Broker) (c : ℕ) (e : Event) (sends : List Send) (notes : List Note) → Acts t old e sends notes new → room_wanted e ≡ room.Reply → IsOneAtMost sends × AreBare sends
reply_within t old new c e sends notes acts is =
    let done = acted t old new sends notes e acts in
    let published : Publishes t old new e sends notes → IsOneAtMost sends × AreBare sends = λ p. published_one t old new e sends notes p is in
    elim (deed_bare t old new e _ sends notes done.deed is) [
      | inl bare ↦ elim done.few [ inl few ↦ (reply_one sends few, bare) | inr p ↦ published p ]
      | inr p ↦ published p
    ]

pub acts_within : (t : Topology) (old new : Broker) (c : ℕ) (e : Event) (sends : List Send) (notes : List Note) → Acts t old e sends notes new → AreOwn c sends → AreWithin (room_wanted e) sends
acts_within t old new c e sends notes acts own = go (room_wanted e) refl
  where
    go : (wanted : Room) → room_wanted e ≡ wanted → AreWithin wanted sends
    go room.Content is = own.size
    go room.Reply is = let few = reply_within t old new c e sends notes acts is in small_within c room.Reply sends few.0 few.1 own

-- ---- what a phase answers

pub decided_within : (c : ℕ) (e : Event) (r : Rules) (b new_b : Broker) (s new_s : Session) (sends : List Send) (notes : List Note) → IsAskedBy c e
    → DecidesByPhase c s.phase r b s e sends notes new_b new_s → AreOwn c sends → AreWithin (room_wanted e) sends
decided_within c e r b new_b s new_s sends notes asked by own =
    let f : Config = record { topology = r.topology; guarantees = []; users = r.users } in
    let old : State = record { broker = b; session = λ d. s } in
    let new : State = record { broker = new_b; session = with_one old.session c new_s } in
    elim (goes f old new sends notes e (decided_steps c e asked f old s new_s sends notes new_b refl by)) [
      | inl p ↦ acts_within r.topology b new_b c e sends notes p.acts own
      | inr a ↦ small_within c (room_wanted e) sends (subst IsOneAtMost (sym a.moves.sent) (answer_one a.move.sends a.few)) (ap (filter_map content_in) a.moves.sent ∙ a.bare) own
    ]
