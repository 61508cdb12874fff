-- What an event that is no publish sends: one reply at most. A new reply is a new line here.
use Rattle.laws.proofs.Names.{◌≡◌, ℕ, List, [], ◌∷◌, Bool, true, false, refl, sym, subst, AllByRecursion, Content, Send, Method, ConnectionStart, ConnectionTune, ConnectionOpenOk, ConnectionClose, ConnectionCloseOk, ChannelOpenOk, ChannelFlowOk, ChannelClose, ChannelCloseOk, ExchangeDeclareOk, QueueDeclareOk, QueuePurgeOk, BasicQosOk, BasicGetOk, BasicGetEmpty, BasicRecoverOk, ConfirmSelectOk, BasicConsumeOk, BasicCancelOk, BasicDeliver}
use Rattle.std.proofs.Common.{Option}
use Rattle.model.specs.declared.events.Send.TheVariants as send

-- a close, an answer to a method other than a publish, or a delivery
abbrev pub is_reply : Method → Bool
is_reply (ConnectionTune m) = true
is_reply (ConnectionOpenOk reserved) = true
is_reply (ConnectionClose m) = true
is_reply ConnectionCloseOk = true
is_reply (ChannelOpenOk []) = true
is_reply (ChannelFlowOk active) = true
is_reply (ChannelClose m) = true
is_reply ChannelCloseOk = true
is_reply ConfirmSelectOk = true
is_reply BasicQosOk = true
is_reply ExchangeDeclareOk = true
is_reply (QueueDeclareOk m) = true
is_reply (QueuePurgeOk count) = true
is_reply (BasicGetEmpty reserved) = true
is_reply (BasicGetOk m) = true
is_reply (BasicConsumeOk tag) = true
is_reply (BasicCancelOk tag) = true
is_reply (BasicDeliver m) = true
is_reply BasicRecoverOk = true
is_reply m = false

-- nothing, or one reply
abbrev pub IsReplyAtMost : List Send → Type 0
IsReplyAtMost [] = Unit {0}
IsReplyAtMost (send.Greeting c ∷ sends) = ⊥
IsReplyAtMost (send.Command c h m content ∷ sends) = (is_reply m ≡ true) × (sends ≡ [])

-- what is true of replies is true of each of these sends
pub reply_all : (P : Send → Type 0) → ((c h : ℕ) (m : Method) (content : Option Content) → is_reply m ≡ true → P (send.Command c h m content)) → (sends : List Send) → IsReplyAtMost sends → AllByRecursion P sends
reply_all P each [] a = tt
reply_all P each (send.Greeting c ∷ sends) a = absurd a
reply_all P each (send.Command c h m content ∷ sends) a = (each c h m content a.0, subst (AllByRecursion P) (sym a.1) tt)

-- a reply, or start
abbrev pub is_answer : Method → Bool
is_answer (ConnectionStart m) = true
is_answer m = is_reply m

-- nothing, or one of these, or the protocol header
abbrev pub IsAnswerAtMost : List Send → Type 0
IsAnswerAtMost [] = Unit {0}
IsAnswerAtMost (send.Greeting c ∷ sends) = sends ≡ []
IsAnswerAtMost (send.Command c h m content ∷ sends) = (is_answer m ≡ true) × (sends ≡ [])

-- what is true of the protocol header and of these is true of each of these sends
pub answer_all : (P : Send → Type 0) → ((c : ℕ) → P (send.Greeting c)) → ((c h : ℕ) (m : Method) (content : Option Content) → is_answer m ≡ true → P (send.Command c h m content)) → (sends : List Send) → IsAnswerAtMost sends → AllByRecursion P sends
answer_all P greeted each [] a = tt
answer_all P greeted each (send.Greeting c ∷ sends) a = (greeted c, subst (AllByRecursion P) (sym a) tt)
answer_all P greeted each (send.Command c h m content ∷ sends) a = (each c h m content a.0, subst (AllByRecursion P) (sym a.1) tt)

reply_is_answer : (m : Method) → is_reply m ≡ true → is_answer m ≡ true
reply_is_answer (ConnectionStart m) is = refl
reply_is_answer _ is = is

pub reply_answers : (sends : List Send) → IsReplyAtMost sends → IsAnswerAtMost sends
reply_answers [] a = tt
reply_answers (send.Greeting c ∷ sends) a = absurd a
reply_answers (send.Command c h m content ∷ sends) a = (reply_is_answer m a.0, a.1)
