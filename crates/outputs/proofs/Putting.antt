-- What is sent, put out frame by frame.
use Rattle.std.proofs.Common.{eqb, false, ◌≡◌, ◌+◌, ◌-◌, ◌≤◌, ◌<◌, ◌^◌, ℕ, zero, suc, List, [], ◌∷◌, ◌++◌, length, take, drop, map, get_or, Option, Some, None, inl, inr, refl, sym, ap, subst, ◌∙◌, arith, append_assoc, length-append, append-nil}
use Rattle.std.specs.Prelude.{flat_map}
use Rattle.std.specs.List.{AllByRecursion}
use Rattle.std.proofs.lemmas.Bool.{false≢true}
use Rattle.std.proofs.lemmas.List.{length-drop, length-take, drop_more, drop_all}
use Rattle.model.specs.Frames.{Frame, frame_bytes, IsFrame}
use Rattle.model.specs.Spelling.{body_frame, content_frames, pieces_of, receiver, send_bytes, spelling, HasContent, IsSpelled}
use Rattle.model.specs.Sending.{HasStored, IsOwn}
use Rattle.model.specs.declared.contents.Content.{Content}
use Rattle.model.specs.declared.events.Send.{Send}
use Rattle.model.specs.declared.events.Send.TheVariants as send
use Rattle.laws.proofs.Sizes.{frame_length}
use Rattle.outputs.specs.Waiting.{WaitingBytes, PutsBytes}
use Rattle.outputs.specs.Sending.{body_bytes}

-- ---- one after another

pub puts_none : (w : WaitingBytes) → PutsBytes w [] w
puts_none w = record { bytes = sym (append-nil w.bytes); room = omega arith }

pub puts_then : (old mid new : WaitingBytes) (a b : List ℕ) → PutsBytes old a mid → PutsBytes mid b new → PutsBytes old (a ++ b) new
puts_then old mid new a b p q = record {
  bytes = q.bytes ∙ ap (λ (z : List ℕ). z ++ b) p.bytes ∙ append_assoc old.bytes a b;
  room = let x = p.room in let y = q.room in let all : length (a ++ b) ≡ length a + length b = length-append a b in omega (arith, x, y, all);
}

pub puts_same : (old new : WaitingBytes) (a b : List ℕ) → a ≡ b → PutsBytes old a new → PutsBytes old b new
puts_same old new a b e p = subst (λ (z : List ℕ). PutsBytes old z new) e p

-- a frame was put in
pub puts_frame : (old new : WaitingBytes) (f g : Frame) → g ≡ f → new.bytes ≡ old.bytes ++ frame_bytes g → old.room ≤ new.room + (length g.payload + 8) → PutsBytes old (frame_bytes f) new
puts_frame old new f g e bytes room = subst (λ (z : Frame). PutsBytes old (frame_bytes z) new) e (record { bytes = bytes; room = let n = frame_length g in omega (arith, room, n) })

-- the front fits, and what follows it after that
pub front_fits : (a b : List ℕ) (room : ℕ) → length (a ++ b) ≤ room → length a ≤ room
front_fits a b room le = let all : length (a ++ b) ≡ length a + length b = length-append a b in omega (arith, le, all)

pub rest_fits : (old new : WaitingBytes) (a b : List ℕ) → length (a ++ b) ≤ old.room → PutsBytes old a new → length b ≤ new.room
rest_fits old new a b le p = let all : length (a ++ b) ≡ length a + length b = length-append a b in let x = p.room in omega (arith, le, all, x)

pub frame_fits : (f : Frame) (room : ℕ) → length (frame_bytes f) ≤ room → length f.payload + 8 ≤ room
frame_fits f room le = let n = frame_length f in omega (arith, le, n)

-- ---- a body in pieces

same_pieces : (size n m : ℕ) (bytes : List ℕ) → 1 ≤ size → length bytes ≤ n → length bytes ≤ m → pieces_of size n bytes ≡ pieces_of size m bytes
same_pieces size zero zero [] one ln lm = refl
same_pieces size zero (suc m) [] one ln lm = refl
same_pieces size (suc n) zero [] one ln lm = refl
same_pieces size (suc n) (suc m) [] one ln lm = refl
same_pieces size zero m (b ∷ bytes) one ln lm = absurd (omega (arith, ln))
same_pieces size (suc n) zero (b ∷ bytes) one ln lm = absurd (omega (arith, lm))
same_pieces size (suc n) (suc m) (b ∷ bytes) one ln lm =
    let less = length-drop size (b ∷ bytes) in
    ap (λ (z : List (List ℕ)). take size (b ∷ bytes) ∷ z) (same_pieces size n m (drop size (b ∷ bytes)) one (omega (arith, one, ln, less)) (omega (arith, one, lm, less)))

-- the first frame of a body, and the frames of what follows
pub body_more : (max h : ℕ) (body : List ℕ) → 4096 ≤ max → 1 ≤ length body → body_bytes max h body ≡ frame_bytes (body_frame h (take (max - 8) body)) ++ body_bytes max h (drop (max - 8) body)
body_more max h [] long some = absurd (omega (arith, some))
body_more max h (b ∷ bytes) long some =
    let less = length-drop (max - 8) (b ∷ bytes) in
    ap (λ (z : List (List ℕ)). frame_bytes (body_frame h (take (max - 8) (b ∷ bytes))) ++ flat_map frame_bytes (map (body_frame h) z))
    (same_pieces (max - 8) (length bytes) (length (drop (max - 8) (b ∷ bytes))) (drop (max - 8) (b ∷ bytes)) (omega (arith, long)) (omega (arith, long, less)) (omega arith))

-- what was put in so far of a body, of which this is left
pub record Putting (max h : ℕ) (body : List ℕ) (old : WaitingBytes) (rest : List ℕ) (new : WaitingBytes) : Type 0 where
  pub done : List ℕ
  pub all : body_bytes max h body ≡ done ++ body_bytes max h rest
  pub puts : PutsBytes old done new

pub putting_none : (max h : ℕ) (body : List ℕ) (w : WaitingBytes) → Putting max h body w body w
putting_none max h body w = record { done = []; all = refl; puts = puts_none w }

-- the next piece has room
pub putting_fits : (max h : ℕ) (body rest : List ℕ) (old new : WaitingBytes) → 4096 ≤ max → 1 ≤ length rest → length (body_bytes max h body) ≤ old.room → Putting max h body old rest new → length (take (max - 8) rest) + 8 ≤ new.room
putting_fits max h body rest old new long some room p =
    let after : List ℕ = body_bytes max h (drop (max - 8) rest) in
    let here = rest_fits old new p.done (body_bytes max h rest) (subst (λ (z : List ℕ). length z ≤ old.room) p.all room) p.puts in
    frame_fits (body_frame h (take (max - 8) rest)) new.room (front_fits (frame_bytes (body_frame h (take (max - 8) rest))) after new.room (subst (λ (z : List ℕ). length z ≤ new.room) (body_more max h rest long some) here))

-- and was put in
pub putting_more : (max h : ℕ) (body rest : List ℕ) (old mid new : WaitingBytes) → 4096 ≤ max → 1 ≤ length rest → Putting max h body old rest mid → PutsBytes mid (frame_bytes (body_frame h (take (max - 8) rest))) new
    → Putting max h body old (drop (max - 8) rest) new
putting_more max h body rest old mid new long some p q =
    let first : List ℕ = frame_bytes (body_frame h (take (max - 8) rest)) in
    let after : List ℕ = body_bytes max h (drop (max - 8) rest) in
    record {
      done = p.done ++ first;
      all = p.all ∙ ap (λ (z : List ℕ). p.done ++ z) (body_more max h rest long some) ∙ sym (append_assoc p.done first after);
      puts = puts_then old mid new p.done first p.puts q;
    }

pub some_left : (rest : List ℕ) → eqb (length rest) 0 ≡ false → 1 ≤ length rest
some_left [] e = absurd (false≢true (sym e))
some_left (b ∷ rest) e = omega arith

-- nothing is left
pub putting_all : (max h : ℕ) (body rest : List ℕ) (old new : WaitingBytes) → length rest ≡ 0 → Putting max h body old rest new → PutsBytes old (body_bytes max h body) new
putting_all max h body [] old new none p = puts_same old new p.done (body_bytes max h body) (sym (p.all ∙ append-nil p.done)) p.puts
putting_all max h body (b ∷ rest) old new none p = absurd (omega (arith, none))

-- ---- a list of sends

-- of these sends those from i on are left
pub record Sending (max : ℕ) (sends : List Send) (i : ℕ) (old new : WaitingBytes) : Type 0 where
  pub done : List ℕ
  pub all : spelling max sends ≡ done ++ spelling max (drop i sends)
  pub puts : PutsBytes old done new

pub sending_none : (max : ℕ) (sends : List Send) (w : WaitingBytes) → Sending max sends 0 w w
sending_none max sends w = record { done = []; all = refl; puts = puts_none w }

one_more : (max i : ℕ) (sends : List Send) (s : Send) → i < length sends → s ≡ get_or sends i s → spelling max (drop i sends) ≡ send_bytes max s ++ spelling max (drop (i + 1) sends)
one_more max i sends s lt is = ap (spelling max) (drop_more sends i s lt) ∙ ap (λ (x : Send). send_bytes max x ++ spelling max (drop (i + 1) sends)) (sym is)

pub sending_fits : (max i : ℕ) (sends : List Send) (s : Send) (old new : WaitingBytes) → i < length sends → s ≡ get_or sends i s → length (spelling max sends) ≤ old.room → Sending max sends i old new → length (send_bytes max s) ≤ new.room
sending_fits max i sends s old new lt is room p =
    let here = rest_fits old new p.done (spelling max (drop i sends)) (subst (λ (z : List ℕ). length z ≤ old.room) p.all room) p.puts in
    front_fits (send_bytes max s) (spelling max (drop (i + 1) sends)) new.room (subst (λ (z : List ℕ). length z ≤ new.room) (one_more max i sends s lt is) here)

pub sending_more : (max i : ℕ) (sends : List Send) (s : Send) (old mid new : WaitingBytes) → i < length sends → s ≡ get_or sends i s → Sending max sends i old mid → PutsBytes mid (send_bytes max s) new → Sending max sends (i + 1) old new
sending_more max i sends s old mid new lt is p q = record {
  done = p.done ++ send_bytes max s;
  all = p.all ∙ ap (λ (z : List ℕ). p.done ++ z) (one_more max i sends s lt is) ∙ sym (append_assoc p.done (send_bytes max s) (spelling max (drop (i + 1) sends)));
  puts = puts_then old mid new p.done (send_bytes max s) p.puts q;
}

pub sending_all : (max i : ℕ) (sends : List Send) (old new : WaitingBytes) → length sends ≤ i → Sending max sends i old new → new.bytes ≡ old.bytes ++ spelling max sends
sending_all max i sends old new le p =
    let none : spelling max (drop i sends) ≡ [] = ap (spelling max) (drop_all i sends le) in
    p.puts.bytes ∙ ap (λ (z : List ℕ). old.bytes ++ z) (sym (p.all ∙ ap (λ (z : List ℕ). p.done ++ z) none ∙ append-nil p.done))

pub own_at : (c i : ℕ) (sends : List Send) (s : Send) → i < length sends → s ≡ get_or sends i s → AllByRecursion (IsOwn c) sends → IsOwn c s
own_at c i [] s lt is a = absurd (omega (arith, lt))
own_at c zero (x ∷ sends) s lt is a = subst (IsOwn c) (sym is) a.0
own_at c (suc i) (x ∷ sends) s lt is a = own_at c i sends s (omega (arith, lt)) is a.1

-- ---- what can be put out has a spelling, and each of its frames fits

piece_frames : (max h size steps : ℕ) (bytes : List ℕ) → h < 2 ^ 16 → size + 8 ≤ max → AllByRecursion (IsFrame max) (map (body_frame h) (pieces_of size steps bytes))
piece_frames max h size zero bytes below fits = tt
piece_frames max h size (suc steps) [] below fits = tt
piece_frames max h size (suc steps) (b ∷ bytes) below fits =
    let len = length-take size (b ∷ bytes) in (
      record { kind = inr (inr (inl refl)); channel = below; size = omega (arith, fits, len) },
      piece_frames max h size steps (drop size (b ∷ bytes)) below fits,
    )

content_spelled : (content : Option Content) → HasStored content → HasContent content
content_spelled None is = tt
content_spelled (Some content) is = record { properties = is.properties; size = let le = is.body in omega (arith, le) }

content_fits : (max h : ℕ) (content : Option Content) → 4096 ≤ max → h < 2 ^ 16 → HasStored content → AllByRecursion (IsFrame max) (content_frames max h content)
content_fits max h None long below is = tt
content_fits max h (Some content) long below is =
    let le = is.header in (
      record { kind = inr (inl refl); channel = below; size = omega (arith, le, long) },
      piece_frames max h (max - 8) (length content.body) content.body below (omega (arith, long)),
    )

own_spelled : (c max : ℕ) (s : Send) → 4096 ≤ max → IsOwn c s → IsSpelled max s
own_spelled c max (send.Greeting d) long own = record { spelled = tt; frames = tt }
own_spelled c max (send.Command d h m content) long own = record {
  spelled = (own.0.2, content_spelled content own.1.1);
  frames = (record { kind = inl refl; channel = own.0.1; size = let le = own.1.0 in omega (arith, le, long) }, content_fits max h content long own.0.1 own.1.1);
}

pub all_spelled : (c max : ℕ) (sends : List Send) → 4096 ≤ max → AllByRecursion (IsOwn c) sends → AllByRecursion (IsSpelled max) sends
all_spelled c max [] long own = tt
all_spelled c max (s ∷ sends) long own = (own_spelled c max s long own.0, all_spelled c max sends long own.1)

own_receiver : (c : ℕ) (s : Send) → IsOwn c s → receiver s ≡ c
own_receiver c (send.Greeting d) own = own.0
own_receiver c (send.Command d h m content) own = own.0.0

pub all_received : (c : ℕ) (sends : List Send) → AllByRecursion (IsOwn c) sends → AllByRecursion (λ s. receiver s ≡ c) sends
all_received c [] own = tt
all_received c (s ∷ sends) own = (own_receiver c s own.0, all_received c sends own.1)
