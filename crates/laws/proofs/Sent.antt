-- What the broker sends at one event can be put out, and is not too much.
use Rattle.laws.proofs.Names.{◌≡◌, ◌≤◌, ℕ, List, [], ◌∷◌, ◌++◌, length, Bool, true, false, None, sym, ap, subst, arith, length-append, inl, inr, AllByRecursion, false≢true, common_steps, IsMethod, method_bytes, spelling, send_bytes, IsAddressed, IsOwn, AreOwn, most_sent, returned_sends, confirm_sends, confirm_method, Content, Method, ConnectionTune, ConnectionOpenOk, ConnectionClose, ConnectionCloseOk, ChannelOpenOk, ChannelFlowOk, ChannelClose, ChannelCloseOk, ExchangeDeclareOk, QueueDeclareOk, QueuePurgeOk, BasicQosOk, BasicReturn, BasicGetOk, BasicGetEmpty, BasicRecoverOk, ConfirmSelectOk, BasicConsumeOk, BasicCancelOk, BasicDeliver, Answer, Send, SendsAreOwn}
use Rattle.std.proofs.Common.{Option, Some}
use Rattle.model.specs.Codes.{code_text}
use Rattle.model.specs.declared.methods.Publish.{Publish}
use Rattle.model.specs.declared.notes.Answer.TheVariants as answer
use Rattle.model.specs.declared.events.Send.TheVariants as send
use Rattle.laws.proofs.Carried.{AreLight, carries}
use Rattle.laws.proofs.Sizes.{method_length, send_length}
use Rattle.laws.proofs.Deeds.{acted}
use Rattle.laws.proofs.Replies.{is_reply, IsReplyAtMost}

-- ---- no method that is sent is long

short_reply : (m : Method) → is_reply m ≡ true → IsMethod m → length (method_bytes m) ≤ 4088
short_reply (ConnectionTune m) e is = grind (arith, common_steps, is)
short_reply (ConnectionOpenOk reserved) e is = grind (arith, common_steps, is)
short_reply (ConnectionClose m) e is = grind (arith, common_steps, is)
short_reply ConnectionCloseOk e is = omega arith
short_reply (ChannelOpenOk []) e is = omega arith
short_reply (ChannelFlowOk active) e is = grind (arith, common_steps, is)
short_reply (ChannelClose m) e is = grind (arith, common_steps, is)
short_reply ChannelCloseOk e is = omega arith
short_reply ExchangeDeclareOk e is = omega arith
short_reply (QueueDeclareOk m) e is = grind (arith, common_steps, is)
short_reply (QueuePurgeOk count) e is = grind (arith, common_steps, is)
short_reply BasicQosOk e is = omega arith
short_reply (BasicConsumeOk tag) e is = grind (arith, common_steps, is)
short_reply (BasicCancelOk tag) e is = grind (arith, common_steps, is)
short_reply (BasicDeliver m) e is = grind (arith, common_steps, is)
short_reply (BasicGetOk m) e is = grind (arith, common_steps, is)
short_reply (BasicGetEmpty reserved) e is = grind (arith, common_steps, is)
short_reply BasicRecoverOk e is = omega arith
short_reply ConfirmSelectOk e is = omega arith
short_reply _ e is = absurd (false≢true e)

short_confirm : (a : Answer) (n : ℕ) → length (method_bytes (confirm_method a n)) ≤ 13
short_confirm answer.Ack n = grind (arith, common_steps)
short_confirm answer.Nack n = grind (arith, common_steps)

-- ---- each of them fits

-- each is a reply, or belongs to a publish
abbrev IsShort : Send → Type 0
IsShort (send.Greeting c) = Unit {0}
IsShort (send.Command c h m content) = length (method_bytes m) ≤ 4088

each_own : (c : ℕ) (sends : List Send) → AllByRecursion (IsAddressed c) sends → AllByRecursion IsShort sends → AreLight sends → AllByRecursion (IsOwn c) sends
each_own c [] at short light = tt
each_own c (send.Greeting d ∷ sends) at short light = ((at.0, tt), each_own c sends at.1 short.1 light.1)
each_own c (send.Command d h m content ∷ sends) at short light = ((at.0, (short.0, light.0)), each_own c sends at.1 short.1 light.1)

-- ---- one reply at most

few_short : (c : ℕ) (sends : List Send) → IsReplyAtMost sends → AllByRecursion (IsAddressed c) sends → AllByRecursion IsShort sends
few_short c [] few at = tt
few_short c (send.Greeting d ∷ sends) few at = absurd few
few_short c (send.Command d h m content ∷ sends) few at = (short_reply m few.0 at.0.2, subst (AllByRecursion IsShort) (sym few.1) tt)

few_size : (c max : ℕ) (sends : List Send) → 4096 ≤ max → IsReplyAtMost sends → AllByRecursion (IsAddressed c) sends → AreLight sends → length (spelling max sends) ≤ most_sent
few_size c max [] long few at light = omega arith
few_size c max (send.Greeting d ∷ sends) long few at light = absurd few
few_size c max (send.Command d h m content ∷ sends) long few at light =
    let one = send_length max d h m content long light.0 in
    let short = short_reply m few.0 at.0.2 in
    let rest = ap (λ (z : List Send). length (spelling max z)) few.1 in
    let all = length-append (send_bytes max (send.Command d h m content)) (spelling max sends) in
    omega (arith, one, short, rest, all)

-- ---- a publish

confirm_short : (c h : ℕ) (o : Option ℕ) (a : Answer) → AllByRecursion IsShort (confirm_sends c h o a)
confirm_short c h None a = tt
confirm_short c h (Some n) a = (let le = short_confirm a n in omega (arith, le), tt)

confirm_size : (max c h : ℕ) (o : Option ℕ) (a : Answer) → length (spelling max (confirm_sends c h o a)) ≤ 21
confirm_size max c h None a = omega arith
confirm_size max c h (Some n) a =
    let le = short_confirm a n in
    let one = method_length max c h (confirm_method a n) in
    let all = length-append (send_bytes max (send.Command c h (confirm_method a n) None)) [] in
    omega (arith, le, one, all)

-- an unroutable publish, sent back
abbrev returned_method : Publish → Method
returned_method p = BasicReturn (record { reply_code = 312; reply_text = code_text 312; exchange = p.exchange; routing_key = p.routing_key })

publish_short : (d c h : ℕ) (p : Publish) (content : Content) (b : Bool) (o : Option ℕ) (a : Answer) → AllByRecursion (IsAddressed d) (returned_sends c h p content b ++ confirm_sends c h o a)
    → AllByRecursion IsShort (returned_sends c h p content b ++ confirm_sends c h o a)
publish_short d c h p content false o a at = confirm_short c h o a
publish_short d c h p content true o a at = (let is = at.0.2 in grind (arith, common_steps, is), confirm_short c h o a)

publish_size : (d max c h : ℕ) (p : Publish) (content : Content) (b : Bool) (o : Option ℕ) (a : Answer) → 4096 ≤ max → AllByRecursion (IsAddressed d) (returned_sends c h p content b ++ confirm_sends c h o a)
    → AreLight (returned_sends c h p content b ++ confirm_sends c h o a) → length (spelling max (returned_sends c h p content b ++ confirm_sends c h o a)) ≤ most_sent
publish_size d max c h p content false o a long at light = let le = confirm_size max c h o a in omega (arith, le)
publish_size d max c h p content true o a long at light =
    let le = confirm_size max c h o a in
    let one = send_length max c h (returned_method p) (Some content) long light.0 in
    let short = (publish_short d c h p content true o a at).0 in
    let all = length-append (send_bytes max (send.Command c h (returned_method p) (Some content))) (spelling max (confirm_sends c h o a)) in
    omega (arith, le, one, short, all)

-- ---- all cases

of_replies : (c : ℕ) (sends : List Send) → IsReplyAtMost sends → AllByRecursion (IsAddressed c) sends → AreLight sends → AreOwn c sends
of_replies c sends few at light = record { each = each_own c sends at (few_short c sends few at) light; size = λ max long. few_size c max sends long few at light }

of_publish : (d c h : ℕ) (p : Publish) (content : Content) (b : Bool) (o : Option ℕ) (a : Answer) (sends : List Send) → sends ≡ returned_sends c h p content b ++ confirm_sends c h o a
    → AllByRecursion (IsAddressed d) sends → AreLight sends → AreOwn d sends
of_publish d c h p content b o a sends is at light =
    let wanted = returned_sends c h p content b ++ confirm_sends c h o a in
    let at_wanted : AllByRecursion (IsAddressed d) wanted = subst (AllByRecursion (IsAddressed d)) is at in
    let light_wanted : AreLight wanted = subst AreLight is light in
    subst (AreOwn d) (sym is) (record { each = each_own d wanted at_wanted (publish_short d c h p content b o a at_wanted) light_wanted; size = λ max long. publish_size d max c h p content b o a long at_wanted light_wanted })

pub sends_are_own : SendsAreOwn
sends_are_own t old new c e sends notes said a acts at = elim (acted t old new sends notes e acts).few [
  | inl few ↦ of_replies c sends few at light
  | inr p ↦ of_publish c p.c p.h p.publish _ _ _ _ sends p.is.sent at light
]
  where
    light : AreLight sends
    light = (carries t old new sends notes a e said acts).light
