-- What becomes of a command: it is performed on its channel alone, or left to be done.
use Rattle.commands.proofs.Names.{IfOk, ◌≡◌, ◌≢◌, ℕ, Option, None, false, Result, Ok, Err, refl, sym, subst, Topology, Broker, Channel, Performs, refusal_of, Content, Method, BasicNack, BasicReject, HasChannel, refusal_of_number, Stop, Memory, AreAddressed, Step, Side, Commands, ComesTo, Answers, Turns, AnswersHere, Asks, UnlessPerformed, IsAddressedBy, WantsNone, done_of, left_of, seen, state_of, Store, Done}
use Rattle.std.proofs.Common.{Some}
use Rattle.model.specs.Step as step
use Rattle.model.specs.declared.methods.Nack.{Nack}
use Rattle.model.specs.declared.methods.Reject.{Reject}
use Rattle.commands.specs.declared.refusals.Refusal.{Refusal}
use Rattle.commands.specs.declared.refusals.Refusal.TheVariants as refusal_is
use Rattle.commands.specs.declared.refusals.Stop.TheVariants.{Refused}
use Rattle.channels.specs.Open.{Open}
use Rattle.commands.specs.declared.commands.asking.Left as asked
use Rattle.commands.proofs.Judging.{number_passed}

-- what a command does on an open channel, by its refusal on the channel
abbrev pub AnswersOpen : ℕ → ℕ → Store → Open → Method → Option Content → Result Done Stop → Store → Open → Type 0
AnswersOpen c h s ch m content result s' ch' = (old new : Side) → Turns c h (seen s ch) (seen s' ch') old new
    → Answers (refusal_of s.topology (state_of s old) (seen s ch) m) s.topology (state_of s old) c h (Some (seen s ch)) m content result (state_of s' new)

-- any refusal can be made on an open channel
pub has_open : (r : Refusal) (ch : Channel) → HasChannel r (Some ch)
has_open refusal_is.Ignored ch = tt
has_open (refusal_is.Channel code) ch = refl
has_open (refusal_is.Connection code) ch = tt

performed_answers : (against : Option step.Refusal) (t : Topology) (old : Broker) (c h : ℕ) (ch : Channel) (m : Method) (content : Option Content) (new : Broker) (r : Result Step Stop) (d : Result Done Stop) → d ≡ done_of r
    → ComesTo against (λ s. Performs t old c h ch m content s.sends.items s.notes.items new) r → Answers against t old c h (Some ch) m content d new
performed_answers against t old c h ch m content new r d e comes = subst (λ (x : Result Done Stop). Answers against t old c h (Some ch) m content x new) (sym e) (go r comes)
  where
    go : (x : Result Step Stop) → ComesTo against (λ s. Performs t old c h ch m content s.sends.items s.notes.items new) x → Answers against t old c h (Some ch) m content (done_of x) new
    go (Ok s) p = p
    go (Err (Refused stop)) p = (p, has_open stop ch)
    go (Err Memory) p = p

-- what a command came to on an open channel it came to there
done_open : (c h : ℕ) (s s' : Store) (ch ch' : Open) (m : Method) (content : Option Content) (r : Result Step Stop) (d : Result Done Stop) → d ≡ done_of r
    → Commands c h s ch m content r s' ch' → AnswersOpen c h s ch m content d s' ch'
done_open c h s s' ch ch' m content r d e comes old new turns =
    performed_answers (refusal_of s.topology (state_of s old) (seen s ch) m) s.topology (state_of s old) c h (seen s ch) m content (state_of s' new) r d e (comes old new turns)

-- the same by the whole refusal, if the channel does not await close-ok and its number is allowed
pub open_here : (max c h : ℕ) (s s' : Store) (ch ch' : Open) (m : Method) (content : Option Content) (d : Result Done Stop) → ch.is_closing ≡ false → h ≢ 0 → refusal_of_number max h m ≡ None
    → AnswersOpen c h s ch m content d s' ch' → AnswersHere max c h s ch m content d s' ch'
open_here max c h s s' ch ch' m content d runs distinct passed answers old new conn same turns =
    subst (λ (r : Option step.Refusal). Answers r s.topology (state_of s old) c h (Some (seen s ch)) m content d (state_of s' new))
    (sym (number_passed s.topology (state_of s old) conn max h m (Some (seen s ch)) runs distinct same passed)) (answers old new turns)

-- and so for a command that is performed on its channel alone
pub done_here : (max c h : ℕ) (s s' : Store) (ch ch' : Open) (m : Method) (content : Option Content) (r : Result Step Stop) (d : Result Done Stop) → d ≡ done_of r
    → ch.is_closing ≡ false → h ≢ 0 → refusal_of_number max h m ≡ None → Commands c h s ch m content r s' ch' → AnswersHere max c h s ch m content d s' ch'
done_here max c h s s' ch ch' m content r d e runs distinct passed comes = open_here max c h s s' ch ch' m content d runs distinct passed (done_open c h s s' ch ch' m content r d e comes)

-- a rejection of one message comes to what a nack of it comes to
pub as_nack : (c h : ℕ) (s s' : Store) (ch ch' : Open) (m : Reject) (n : Nack) (content : Option Content) (r : Result Step Stop) → n ≡ record { delivery_tag = m.delivery_tag; multiple = false; requeue = m.requeue }
    → Commands c h s ch (BasicNack n) content r s' ch' → Commands c h s ch (BasicReject m) content r s' ch'
as_nack c h s s' ch ch' m n content r e comes = subst (λ (x : Nack). Commands c h s ch (BasicNack x) content r s' ch') e comes

pub performed_addressed : (c : ℕ) (X : Type 0) (r : Result Step Stop) (d : Result Done Stop) → d ≡ done_of r → X → IfOk r (λ s. X → AreAddressed c s.sends.items) → IsAddressedBy c d
performed_addressed c X r d e x own = subst (IsAddressedBy c) (sym e) (go r own)
  where
    go : (y : Result Step Stop) → IfOk y (λ s. X → AreAddressed c s.sends.items) → IsAddressedBy c (done_of y)
    go (Ok s) f = f x
    go (Err stop) f = tt

pub left_answers : (against : Option step.Refusal) (t : Topology) (old : Broker) (c h : ℕ) (ch : Option Channel) (m : Method) (content : Option Content) (new : Broker) (r : Result asked.Left Refusal) (d : Result Done Stop) → d ≡ left_of r
    → Asks t ch m against r → Answers against t old c h ch m content d new
left_answers against t old c h ch m content new r d e asks = subst (λ (x : Result Done Stop). Answers against t old c h ch m content x new) (sym e) (go r asks)
  where
    go : (x : Result asked.Left Refusal) → Asks t ch m against x → Answers against t old c h ch m content (left_of x) new
    go (Ok l) p = p
    go (Err refusal) p = p

pub left_kept : (X : Type 0) (r : Result asked.Left Refusal) (d : Result Done Stop) → d ≡ left_of r → X → UnlessPerformed d X
left_kept X r d e x = subst (λ (y : Result Done Stop). UnlessPerformed y X) (sym e) (go r)
  where
    go : (y : Result asked.Left Refusal) → UnlessPerformed (left_of y) X
    go (Ok l) = x
    go (Err refusal) = x

pub left_addressed : (c : ℕ) (r : Result asked.Left Refusal) (d : Result Done Stop) → d ≡ left_of r → IsAddressedBy c d
left_addressed c r d e = subst (IsAddressedBy c) (sym e) (go r)
  where
    go : (y : Result asked.Left Refusal) → IsAddressedBy c (left_of y)
    go (Ok l) = tt
    go (Err refusal) = tt

pub left_quiet : (r : Result asked.Left Refusal) (d : Result Done Stop) → d ≡ left_of r → WantsNone d
left_quiet r d e = subst (λ (y : Result Done Stop). WantsNone y) (sym e) (go r)
  where
    go : (y : Result asked.Left Refusal) → WantsNone (left_of y)
    go (Ok l) = tt
    go (Err refusal) = tt
