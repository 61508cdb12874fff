-- How many bytes spell what is sent: a method and a content that are no longer than what is stored.
use Rattle.laws.proofs.Names.{◌≡◌, ◌*◌, ◌-◌, ◌≤◌, ℕ, zero, suc, List, [], ◌∷◌, ◌++◌, length, Bool, true, false, None, refl, sym, ap, subst, arith, length-append, flat_map, nat_le, leb-true, leb-false, length-drop, length-take-le, take_all, drop_all, Frame, frame_bytes, method_bytes, header_bytes, IsStored, HasStored, method_frame, body_frame, pieces_of, send_bytes, Content, Method}
use Rattle.std.proofs.Common.{◌+◌, take, drop, map, Option, Some}
use Rattle.model.specs.declared.events.Send.TheVariants as send

-- a frame has eight bytes beside its payload
pub frame_length : (f : Frame) → length (frame_bytes f) ≡ length f.payload + 8
frame_length f = grind (arith, length-append)

-- the bytes of a body in frames with payloads of this size
abbrev body_bytes : ℕ → ℕ → ℕ → List ℕ → List ℕ
body_bytes h size steps bytes = flat_map frame_bytes (map (body_frame h) (pieces_of size steps bytes))

no_bytes : (h size steps : ℕ) (bytes : List ℕ) → bytes ≡ [] → length (body_bytes h size steps bytes) ≡ 0
no_bytes h size steps bytes e = subst (λ (z : List ℕ). length (body_bytes h size steps z) ≡ 0) (sym e) (go steps)
  where
    go : (n : ℕ) → length (body_bytes h size n []) ≡ 0
    go zero = refl
    go (suc n) = refl

-- each of its frames, but the last, has 4,088 bytes of the body or more
pub body_length : (h size steps : ℕ) (bytes : List ℕ) → 4088 ≤ size → 4088 * length (body_bytes h size steps bytes) ≤ 4096 * length bytes + 32696
body_length h size zero bytes long = omega arith
body_length h size (suc steps) [] long = omega arith
body_length h size (suc steps) (b ∷ bytes) long = go (nat_le size (length (b ∷ bytes))) refl (body_length h size steps (drop size (b ∷ bytes)) long)
  where
    here : List ℕ
    here = b ∷ bytes

    rest : List ℕ
    rest = body_bytes h size steps (drop size here)

    first : List ℕ
    first = frame_bytes (body_frame h (take size here))

    both : length (first ++ rest) ≡ length (take size here) + 8 + length rest
    both =
        let one = length-append first rest in
        let two = frame_length (body_frame h (take size here)) in
        omega (arith, one, two)

    go : (v : Bool) → nat_le size (length here) ≡ v → 4088 * length rest ≤ 4096 * length (drop size here) + 32696 → 4088 * length (first ++ rest) ≤ 4096 * length here + 32696
    go true e less =
        let le = leb-true size (length here) e in
        let piece = length-take-le size here le in
        let more = length-drop size here in
        let all = both in
        omega (arith, le, piece, more, less, all)
    go false e less =
        let lt = leb-false size (length here) e in
        let piece = ap length (take_all size here (omega (arith, lt))) in
        let none = no_bytes h size steps (drop size here) (drop_all size here (omega (arith, lt))) in
        let all = both in
        omega (arith, piece, none, all)

-- a method without a content
pub method_length : (max c h : ℕ) (m : Method) → length (send_bytes max (send.Command c h m None)) ≡ length (method_bytes m) + 8
method_length max c h m =
    let one = length-append (frame_bytes (method_frame h m)) [] in
    let two = frame_length (method_frame h m) in
    omega (arith, one, two)

three : (a b d : List ℕ) (x y z : ℕ) → length a ≡ x → length b ≤ y → length d ≤ z → length (a ++ (b ++ d)) ≤ x + y + z
three a b d x y z e f g =
    let all : length (a ++ (b ++ d)) ≡ length a + length (b ++ d) = length-append a (b ++ d) in
    let inner : length (b ++ d) ≡ length b + length d = length-append b d in
    omega (arith, e, f, g, all, inner)

-- and one with a content that is no larger than what is stored
pub content_length : (max c h : ℕ) (m : Method) (content : Content) → 4096 ≤ max → IsStored content → length (send_bytes max (send.Command c h m (Some content))) ≤ length (method_bytes m) + 1054653
content_length max c h m content long is =
    let header : Frame = record { kind = 2; channel = h; payload = header_bytes (length content.body) content.properties } in
    let below = is.body in
    let small = is.header in
    let title = frame_length header in
    let body = body_length h (max - 8) (length content.body) content.body (omega (arith, long)) in
    let all = three (frame_bytes (method_frame h m)) (frame_bytes header) (body_bytes h (max - 8) (length content.body) content.body) (length (method_bytes m) + 8) 4009 1050636
    (frame_length (method_frame h m)) (omega (arith, small, title)) (omega (arith, body, below)) in
    enough (length (send_bytes max (send.Command c h m (Some content)))) (length (method_bytes m)) all
  where
    enough : (n k : ℕ) → n ≤ k + 8 + 4009 + 1050636 → n ≤ k + 1054653
    enough n k le = omega (arith, le)

pub send_length : (max c h : ℕ) (m : Method) (content : Option Content) → 4096 ≤ max → HasStored content → length (send_bytes max (send.Command c h m content)) ≤ length (method_bytes m) + 1054653
send_length max c h m None long is = let e = method_length max c h m in omega (arith, e)
send_length max c h m (Some content) long is = content_length max c h m content long is
