-- An output is read back as the frames that it was made of.
use Rattle.laws.proofs.Names.{◌≡◌, ℕ, ◌≤◌, ◌^◌, List, [], ◌∷◌, ◌++◌, length, get_or, refl, sym, ap, ◌∙◌, arith, append_assoc, lit≤, ◌⊎◌, inl, inr, flat_map, AllByRecursion, take_at, drop_at, from_be_bytes-to_be_bytes_2, from_be_bytes-to_be_bytes_4, Frame, frame_bytes, IsFrame, frames_of, IsSpelled, eight_bytes, IsReading, Send}
use Rattle.std.proofs.Common.{◌<◌, take, drop}
use Rattle.std.specs.Int.{w16, w32, from_be_bytes}
use Rattle.laws.proofs.Counts.{all-append}

channel_at : List ℕ → ℕ
channel_at bs = from_be_bytes w16 (take 2 (drop 1 bs))

abbrev pub size_at : List ℕ → ℕ
size_at bs = from_be_bytes w32 (take 4 (drop 3 bs))

channel_is : (f : Frame) (x : List ℕ) → f.channel < 2 ^ 16 → channel_at (frame_bytes f ++ x) ≡ f.channel
unfolding channel_at
channel_is f x lt = from_be_bytes-to_be_bytes_2 f.channel lt

pub size_is : (f : Frame) (x : List ℕ) → length f.payload < 2 ^ 32 → size_at (frame_bytes f ++ x) ≡ length f.payload
size_is f x lt = from_be_bytes-to_be_bytes_4 (length f.payload) lt

payload_is : (f : Frame) (x : List ℕ) → take (length f.payload) (drop 7 (frame_bytes f ++ x)) ≡ f.payload
payload_is f x = ap (take (length f.payload)) (append_assoc f.payload (206 ∷ []) x) ∙ take_at f.payload (206 ∷ x) (length f.payload) refl

pub rest_is : (f : Frame) (x : List ℕ) → drop (length f.payload) (drop 7 (frame_bytes f ++ x)) ≡ 206 ∷ x
rest_is f x = ap (drop (length f.payload)) (append_assoc f.payload (206 ∷ []) x) ∙ drop_at f.payload (206 ∷ x) (length f.payload) refl

same_frame : (f g : Frame) → f.kind ≡ g.kind → f.channel ≡ g.channel → f.payload ≡ g.payload → f ≡ g
same_frame f g k c p =
    let a : f ≡ record { kind = g.kind; channel = f.channel; payload = f.payload } = ap (λ (n : ℕ). record { kind = n; channel = f.channel; payload = f.payload }) k in
    let b : record { kind = g.kind; channel = f.channel; payload = f.payload } ≡ record { kind = g.kind; channel = g.channel; payload = f.payload } = ap (λ (n : ℕ). record { kind = g.kind; channel = n; payload = f.payload }) c in
    let d : record { kind = g.kind; channel = g.channel; payload = f.payload } ≡ g = ap (λ (n : List ℕ). record { kind = g.kind; channel = g.channel; payload = n }) p in
    a ∙ b ∙ d

-- no frame begins another
pub one_frame : (max : ℕ) → max ≤ 2 ^ 32 → (f g : Frame) (x y : List ℕ) → IsFrame max f → IsFrame max g → frame_bytes f ++ x ≡ frame_bytes g ++ y → (f ≡ g) × (x ≡ y)
one_frame max small f g x y pf pg e =
    let kind : f.kind ≡ g.kind = ap (λ (bs : List ℕ). get_or bs 0 0) e in
    let fs = pf.size in
    let gs = pg.size in
    let channel : f.channel ≡ g.channel = sym (channel_is f x pf.channel) ∙ ap channel_at e ∙ channel_is g y pg.channel in
    let size : length f.payload ≡ length g.payload = sym (size_is f x (omega arith)) ∙ ap size_at e ∙ size_is g y (omega arith) in
    let payload : f.payload ≡ g.payload = sym (payload_is f x) ∙ ap (λ (bs : List ℕ). take (length f.payload) (drop 7 bs)) e ∙ ap (λ n. take n (drop 7 (frame_bytes g ++ y))) size ∙ payload_is g y in
    let rest : (206 ∷ x) ≡ (206 ∷ y) = sym (rest_is f x) ∙ ap (λ (bs : List ℕ). drop (length f.payload) (drop 7 bs)) e ∙ ap (λ n. drop n (drop 7 (frame_bytes g ++ y))) size ∙ rest_is g y in
    (same_frame f g kind channel payload, ap (drop 1) rest)

nothing_is_frame : (f : Frame) (x : List ℕ) → [] ≡ frame_bytes f ++ x → ⊥
nothing_is_frame f x e = cc

pub frames_apart : (max : ℕ) → max ≤ 2 ^ 32 → (fs gs : List Frame) → AllByRecursion (IsFrame max) fs → AllByRecursion (IsFrame max) gs → flat_map frame_bytes fs ≡ flat_map frame_bytes gs → fs ≡ gs
frames_apart max small [] [] a b e = refl
frames_apart max small [] (g ∷ gs) a b e = absurd (nothing_is_frame g (flat_map frame_bytes gs) e)
frames_apart max small (f ∷ fs) [] a b e = absurd (nothing_is_frame f (flat_map frame_bytes fs) (sym e))
frames_apart max small (f ∷ fs) (g ∷ gs) a b e =
    let r = one_frame max small f g (flat_map frame_bytes fs) (flat_map frame_bytes gs) a.0 b.0 e in
    let rest = frames_apart max small fs gs a.1 b.1 r.1 in
    ap (λ (z : Frame). z ∷ fs) r.0 ∙ ap (λ (zs : List Frame). g ∷ zs) rest

-- the eight bytes are no frames: no type of frame is 65
greeting_is_no_frames : (gs : List Frame) → AllByRecursion (IsFrame 131072) gs → eight_bytes ≡ flat_map frame_bytes gs → ⊥
greeting_is_no_frames [] a e = cc
greeting_is_no_frames (g ∷ gs) a e = is_no_kind (ap (λ (bs : List ℕ). get_or bs 0 0) e) a.0.kind
  where
    is_no_kind : 65 ≡ g.kind → (g.kind ≡ 1) ⊎ (g.kind ≡ 2) ⊎ (g.kind ≡ 3) ⊎ (g.kind ≡ 8) → ⊥
    is_no_kind k (inl h) = omega arith
    is_no_kind k (inr (inl h)) = omega arith
    is_no_kind k (inr (inr (inl h))) = omega arith
    is_no_kind k (inr (inr (inr h))) = omega arith

-- an output is read in one way
pub reading_apart : (output : List ℕ) (fs gs : List Frame) → IsReading output fs → IsReading output gs → fs ≡ gs
reading_apart output fs gs (inl a) (inl b) = frames_apart 131072 (lit≤ tt) fs gs a.each b.each (sym a.parts ∙ b.parts)
reading_apart output fs gs (inl a) (inr b) = absurd (greeting_is_no_frames fs a.each (sym b.0 ∙ a.parts))
reading_apart output fs gs (inr a) (inl b) = absurd (greeting_is_no_frames gs b.each (sym a.0 ∙ b.parts))
reading_apart output fs gs (inr a) (inr b) = a.1 ∙ sym b.1

-- ---- the frames of what was sent

pub frames_each : (max : ℕ) (sends : List Send) → AllByRecursion (IsSpelled max) sends → AllByRecursion (IsFrame max) (flat_map (frames_of max) sends)
frames_each max [] fits = tt
frames_each max (s ∷ sends) fits = all-append (IsFrame max) (frames_of max s) (flat_map (frames_of max) sends) fits.0.frames (frames_each max sends fits.1)
