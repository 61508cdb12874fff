-- The numbers at the front of a frame are the frame's, and bytes with such numbers begin with a frame.
use Rattle.std.proofs.Common.{◌≡◌, ◌⊎◌, ℕ, zero, suc, ◌+◌, ◌-◌, ◌^◌, ◌<◌, ◌≤◌, List, [], ◌∷◌, ◌++◌, length, get_or, take, drop, refl, sym, ap, subst, ◌∙◌, append_assoc, arith}
use Rattle.std.specs.Prelude.{replicate}
use Rattle.std.specs.Int.{w16, w32, from_be_bytes, to_be_bytes}
use Rattle.std.proofs.lemmas.List.{take-append-drop, length-append, length-take, get_or-drop, length-replicate, length-drop, drop-drop, drop_more, get_or-append-add}
use Rattle.std.proofs.lemmas.Nat.{be_bytes_2, be_bytes_4, from_be_bytes-to_be_bytes_2, from_be_bytes-to_be_bytes_4}
use Rattle.model.specs.Frames.{Frame, frame_bytes, Begins}

abbrev pub IsBytes : List ℕ → Type 0
IsBytes bytes = (i : ℕ) → get_or bytes i 0 < 256

-- the size that stands at the front
abbrev pub size_of : List ℕ → ℕ
size_of bytes = from_be_bytes w32 (get_or bytes 3 0 ∷ get_or bytes 4 0 ∷ get_or bytes 5 0 ∷ get_or bytes 6 0 ∷ [])

abbrev pub channel_of : List ℕ → ℕ
channel_of bytes = from_be_bytes w16 (get_or bytes 1 0 ∷ get_or bytes 2 0 ∷ [])

-- what the front of a frame shows
pub record Shows (bytes : List ℕ) (f : Frame) (rest : List ℕ) : Type 0 where
  pub kind : get_or bytes 0 0 ≡ f.kind
  pub channel : channel_of bytes ≡ f.channel
  pub size : size_of bytes ≡ length f.payload
  pub tail : drop 7 bytes ≡ f.payload ++ 206 ∷ rest

shows_frame : (f : Frame) (rest : List ℕ) → f.channel < 2 ^ 16 → length f.payload < 2 ^ 32 → Shows (frame_bytes f ++ rest) f rest
shows_frame f rest channel size = record {
  kind = refl;
  channel = from_be_bytes-to_be_bytes_2 f.channel channel;
  size = from_be_bytes-to_be_bytes_4 (length f.payload) size;
  tail = append_assoc f.payload (206 ∷ []) rest;
}

pub shows : (max : ℕ) (bytes : List ℕ) (f : Frame) (rest : List ℕ) → max < 2 ^ 32 → Begins max bytes f rest → Shows bytes f rest
shows max bytes f rest below b =
    let fits = b.fits in
    let size : length f.payload + 8 ≤ max = fits.size in
    subst (λ (z : List ℕ). Shows z f rest) (sym b.parts) (shows_frame f rest fits.channel (omega arith))

-- the first seven bytes, one by one
heads : (bytes : List ℕ) → 7 ≤ length bytes → bytes ≡ get_or bytes 0 0 ∷ get_or bytes 1 0 ∷ get_or bytes 2 0 ∷ get_or bytes 3 0 ∷ get_or bytes 4 0 ∷ get_or bytes 5 0 ∷ get_or bytes 6 0 ∷ drop 7 bytes
heads (a ∷ b ∷ c ∷ d ∷ e ∷ f ∷ g ∷ rest) long = refl
heads _ long = absurd (omega arith)

each_two : (x y : ℕ) → x < 256 → y < 256 → IsBytes (x ∷ y ∷ [])
each_two x y a b zero = a
each_two x y a b (suc zero) = b
each_two x y a b (suc (suc i)) = omega arith

each_four : (x y z w : ℕ) → x < 256 → y < 256 → z < 256 → w < 256 → IsBytes (x ∷ y ∷ z ∷ w ∷ [])
each_four x y z w a b c d zero = a
each_four x y z w a b c d (suc i) = each_three i
  where
    each_three : (i : ℕ) → get_or (y ∷ z ∷ w ∷ []) i 0 < 256
    each_three zero = b
    each_three (suc i) = each_two z w c d i

two : (x y : ℕ) → x < 256 → y < 256 → to_be_bytes w16 (from_be_bytes w16 (x ∷ y ∷ [])) ≡ x ∷ y ∷ []
two x y a b = be_bytes_2 (x ∷ y ∷ []) _ refl (each_two x y a b) refl

four : (x y z w : ℕ) → x < 256 → y < 256 → z < 256 → w < 256 → to_be_bytes w32 (from_be_bytes w32 (x ∷ y ∷ z ∷ w ∷ [])) ≡ x ∷ y ∷ z ∷ w ∷ []
four x y z w a b c d = be_bytes_4 (x ∷ y ∷ z ∷ w ∷ []) _ refl (each_four x y z w a b c d) refl

below_two : (x y : ℕ) → x < 256 → y < 256 → from_be_bytes w16 (x ∷ y ∷ []) < 2 ^ 16
below_two x y a b = omega arith

-- bytes with such numbers at their front begin with this frame
pub begins : (max : ℕ) (bytes payload rest : List ℕ) → IsBytes bytes → 7 ≤ length bytes
    → (get_or bytes 0 0 ≡ 1) ⊎ (get_or bytes 0 0 ≡ 2) ⊎ (get_or bytes 0 0 ≡ 3) ⊎ (get_or bytes 0 0 ≡ 8)
    → size_of bytes ≡ length payload → length payload + 8 ≤ max → drop 7 bytes ≡ payload ++ 206 ∷ rest
    → Begins max bytes (record { kind = get_or bytes 0 0; channel = channel_of bytes; payload = payload }) rest
begins max bytes payload rest are long kind size fits tail = record {
  parts =
      let b = λ (i : ℕ). get_or bytes i 0 in
      let channel : to_be_bytes w16 (channel_of bytes) ≡ b 1 ∷ b 2 ∷ [] = two (b 1) (b 2) (are 1) (are 2) in
      let number : to_be_bytes w32 (size_of bytes) ≡ b 3 ∷ b 4 ∷ b 5 ∷ b 6 ∷ [] = four (b 3) (b 4) (b 5) (b 6) (are 3) (are 4) (are 5) (are 6) in
      let whole : bytes ≡ b 0 ∷ (b 1 ∷ b 2 ∷ []) ++ (b 3 ∷ b 4 ∷ b 5 ∷ b 6 ∷ []) ++ payload ++ 206 ∷ rest = heads bytes long ∙ ap (λ (z : List ℕ). b 0 ∷ b 1 ∷ b 2 ∷ b 3 ∷ b 4 ∷ b 5 ∷ b 6 ∷ z) tail in
      whole
      ∙ ap (λ (z : List ℕ). b 0 ∷ z ++ (b 3 ∷ b 4 ∷ b 5 ∷ b 6 ∷ []) ++ payload ++ 206 ∷ rest) (sym channel)
      ∙ ap (λ (z : List ℕ). b 0 ∷ to_be_bytes w16 (channel_of bytes) ++ z ++ payload ++ 206 ∷ rest) (sym number)
      ∙ ap (λ (n : ℕ). b 0 ∷ to_be_bytes w16 (channel_of bytes) ++ to_be_bytes w32 n ++ payload ++ 206 ∷ rest) size
      ∙ ap (λ (z : List ℕ). b 0 ∷ to_be_bytes w16 (channel_of bytes) ++ to_be_bytes w32 (length payload) ++ z) (sym (append_assoc payload (206 ∷ []) rest));
  fits = record { kind = kind; channel = below_two (get_or bytes 1 0) (get_or bytes 2 0) (are 1) (are 2); size = fits };
}

-- at most one frame stands at the front
same_append : (a b c d : List ℕ) → length a ≡ length b → a ++ c ≡ b ++ d → (a ≡ b) × (c ≡ d)
same_append [] [] c d len e = (refl, e)
same_append [] (y ∷ b) c d len e = absurd (omega arith)
same_append (x ∷ a) [] c d len e = absurd (omega arith)
same_append (x ∷ a) (y ∷ b) c d len e =
    let r = same_append a b c d (omega arith) (ap (λ (z : List ℕ). drop 1 z) e) in
    let h : x ≡ y = ap (λ (z : List ℕ). get_or z 0 0) e in
    (ap (λ (n : ℕ). n ∷ a) h ∙ ap (λ (z : List ℕ). y ∷ z) r.0, r.1)

abbrev framed : ℕ → ℕ → List ℕ → Frame
framed k c p = record { kind = k; channel = c; payload = p }

same_frame : (f g : Frame) → f.kind ≡ g.kind → f.channel ≡ g.channel → f.payload ≡ g.payload → f ≡ g
same_frame f g k c p =
    ap (λ (x : ℕ). framed x f.channel f.payload) k ∙ ap (λ (x : ℕ). framed g.kind x f.payload) c ∙ ap (λ (x : List ℕ). framed g.kind g.channel x) p

pub one_front : (bytes more rest : List ℕ) (f g : Frame) → Shows bytes f more → Shows bytes g rest → (f ≡ g) × (more ≡ rest)
one_front bytes more rest f g a b =
    let tails = same_append f.payload g.payload (206 ∷ more) (206 ∷ rest) (sym a.size ∙ b.size) (sym a.tail ∙ b.tail) in
    (same_frame f g (sym a.kind ∙ b.kind) (sym a.channel ∙ b.channel) tails.0, ap (λ (z : List ℕ). drop 1 z) tails.1)

-- ---- what a reader finds

get_or_front : (xs ys : List ℕ) (i : ℕ) → i < length xs → get_or (xs ++ ys) i 0 ≡ get_or xs i 0
get_or_front [] ys i lt = absurd (omega arith)
get_or_front (x ∷ xs) ys zero lt = refl
get_or_front (x ∷ xs) ys (suc i) lt = get_or_front xs ys i (omega arith)

abbrev pub KindOf : List ℕ → Type 0
KindOf bytes = (get_or bytes 0 0 ≡ 1) ⊎ (get_or bytes 0 0 ≡ 2) ⊎ (get_or bytes 0 0 ≡ 3) ⊎ (get_or bytes 0 0 ≡ 8)

pub whole_front : (max : ℕ) (bytes : List ℕ) → IsBytes bytes → KindOf bytes → size_of bytes + 8 ≤ max → size_of bytes + 8 ≤ length bytes
    → get_or bytes (size_of bytes + 7) 0 ≡ 206
    → Begins max bytes (record { kind = get_or bytes 0 0; channel = channel_of bytes; payload = take (size_of bytes) (drop 7 bytes) }) (drop (size_of bytes + 8) bytes)
whole_front max bytes are kind fits long end =
    let n : ℕ = size_of bytes in
    let len : length (take n (drop 7 bytes)) ≡ n = omega (arith, length-take n (drop 7 bytes), length-drop 7 bytes) in
    let at_end : get_or (drop 7 bytes) n 0 ≡ 206 = get_or-drop 7 bytes n 0 ∙ ap (λ (i : ℕ). get_or bytes i 0) (omega arith) ∙ end in
    let behind : drop n (drop 7 bytes) ≡ 206 ∷ drop (n + 8) bytes =
    drop_more (drop 7 bytes) n 0 (omega (arith, length-drop 7 bytes))
    ∙ ap (λ (x : ℕ). x ∷ drop (n + 1) (drop 7 bytes)) at_end
    ∙ ap (λ (z : List ℕ). 206 ∷ z) (drop-drop (n + 1) 7 bytes ∙ ap (λ (i : ℕ). drop i bytes) (omega arith)) in
    begins max bytes (take n (drop 7 bytes)) (drop (n + 8) bytes) are (omega arith) kind (sym len) (omega arith)
    (sym (take-append-drop n (drop 7 bytes)) ∙ ap (λ (z : List ℕ). take n (drop 7 bytes) ++ z) behind)

-- the same, with the parts as a reader has them
pub whole_at : (max : ℕ) (bytes payload : List ℕ) (n channel : ℕ) → IsBytes bytes → KindOf bytes → n ≡ size_of bytes → channel ≡ channel_of bytes → payload ≡ take n (drop 7 bytes)
    → n + 8 ≤ max → n + 8 ≤ length bytes → get_or bytes (n + 7) 0 ≡ 206
    → Begins max bytes (record { kind = get_or bytes 0 0; channel = channel; payload = payload }) (drop (n + 7 + 1) bytes) × (length payload ≡ n)
whole_at max bytes payload n channel are kind n-is channel-is payload-is fits long end =
    let b = whole_front max bytes are kind (omega arith) (omega arith) (ap (λ (i : ℕ). get_or bytes (i + 7) 0) (sym n-is) ∙ end) in
    let p : take (size_of bytes) (drop 7 bytes) ≡ payload = ap (λ (i : ℕ). take i (drop 7 bytes)) (sym n-is) ∙ sym payload-is in
    let r : drop (size_of bytes + 8) bytes ≡ drop (n + 7 + 1) bytes = ap (λ (i : ℕ). drop i bytes) (omega arith) in
    let one = subst (λ (z : List ℕ). Begins max bytes (record { kind = get_or bytes 0 0; channel = channel_of bytes; payload = z }) (drop (size_of bytes + 8) bytes)) p b in
    let two = subst (λ (z : ℕ). Begins max bytes (record { kind = get_or bytes 0 0; channel = z; payload = payload }) (drop (size_of bytes + 8) bytes)) (sym channel-is) one in (
      subst (λ (z : List ℕ). Begins max bytes (record { kind = get_or bytes 0 0; channel = channel; payload = payload }) z) r two,
      rw payload-is (omega (arith, length-take n (drop 7 bytes), length-drop 7 bytes)),
    )

-- a frame at the front is all there
pub long_front : (max : ℕ) (bytes rest : List ℕ) (f : Frame) → Begins max bytes f rest → length f.payload + 8 ≤ length bytes
long_front max bytes rest f b =
    rw b.parts (omega (arith, length-append f.payload (206 ∷ []), length-append (f.payload ++ 206 ∷ []) rest))

zeros_fit : (n : ℕ) → IsBytes (replicate n 0 ++ 206 ∷ [])
zeros_fit zero zero = omega arith
zeros_fit zero (suc i) = omega arith
zeros_fit (suc n) zero = omega arith
zeros_fit (suc n) (suc i) = zeros_fit n i

both_fit : (a b : List ℕ) → IsBytes a → IsBytes b → IsBytes (a ++ b)
both_fit [] b fa fb i = fb i
both_fit (x ∷ a) b fa fb zero = fa 0
both_fit (x ∷ a) b fa fb (suc i) = both_fit a b (λ j. fa (suc j)) fb i

-- what stands in the first seven bytes stays when more come
pub record SameHead (old new : List ℕ) (more : List ℕ) : Type 0 where
  pub kind : get_or new 0 0 ≡ get_or old 0 0
  pub size : size_of new ≡ size_of old
  pub tail : drop 7 new ≡ drop 7 old ++ more

same_head : (bytes more : List ℕ) → 7 ≤ length bytes → SameHead bytes (bytes ++ more) more
same_head (a ∷ b ∷ c ∷ d ∷ e ∷ f ∷ g ∷ rest) more long = record { kind = refl; size = refl; tail = refl }
same_head _ more long = absurd (omega arith)

pub record More (max : ℕ) (bytes more : List ℕ) : Type 0 where
  pub fits : IsBytes more
  pub frame : Frame
  pub front : Begins max (bytes ++ more) frame []

-- a frame may still come
pub open_front : (max : ℕ) (bytes : List ℕ) → IsBytes bytes → 7 ≤ length bytes → KindOf bytes → size_of bytes + 8 ≤ max → length bytes ≤ size_of bytes + 7
    → More max bytes (replicate (size_of bytes + 7 - length bytes) 0 ++ 206 ∷ [])
open_front max bytes are long kind fits short =
    let n : ℕ = size_of bytes in
    let zeros : List ℕ = replicate (n + 7 - length bytes) 0 in
    let more : List ℕ = zeros ++ 206 ∷ [] in
    let head = same_head bytes more long in
    let payload : List ℕ = drop 7 bytes ++ zeros in
    let len : length payload ≡ n = omega (arith, length-append (drop 7 bytes) zeros, length-drop 7 bytes, length-replicate {A = ℕ} (n + 7 - length bytes) 0) in
    let size : size_of (bytes ++ more) ≡ length payload = head.size ∙ sym len in
    record {
      fits = zeros_fit (n + 7 - length bytes);
      frame = record { kind = get_or (bytes ++ more) 0 0; channel = channel_of (bytes ++ more); payload = payload };
      front = begins max (bytes ++ more) payload [] (both_fit bytes more are (zeros_fit (n + 7 - length bytes)))
          (omega (arith, length-append bytes more)) (subst (λ (k : ℕ). (k ≡ 1) ⊎ (k ≡ 2) ⊎ (k ≡ 3) ⊎ (k ≡ 8)) (sym head.kind) kind)
          size (omega arith) (head.tail ∙ sym (append_assoc (drop 7 bytes) zeros (206 ∷ [])));
    }

-- a frame that isn't all there does not stand at the front
pub short_front : (max : ℕ) (bytes rest : List ℕ) (f : Frame) → max < 2 ^ 32 → length bytes ≤ size_of bytes + 7 → Begins max bytes f rest → ⊥
short_front max bytes rest f below short b =
    let s = shows max bytes f rest below b in
    let size : size_of bytes ≡ length f.payload = s.size in
    omega (arith, long_front max bytes rest f b)

-- another end byte stands where the frame ends
pub wrong_end : (max : ℕ) (bytes more rest : List ℕ) (f : Frame) → max < 2 ^ 32 → size_of bytes + 8 ≤ length bytes
    → (get_or bytes (size_of bytes + 7) 0 ≡ 206 → ⊥) → Begins max (bytes ++ more) f rest → ⊥
wrong_end max bytes more rest f below long wrong b =
    let n : ℕ = size_of bytes in
    let head = same_head bytes more (omega arith) in
    let s = shows max (bytes ++ more) f rest below b in
    let size : length f.payload ≡ n = sym s.size ∙ head.size in
    let tail : drop 7 bytes ++ more ≡ f.payload ++ 206 ∷ rest = sym head.tail ∙ s.tail in
    let theirs : get_or (f.payload ++ 206 ∷ rest) n 0 ≡ 206 = ap (λ (i : ℕ). get_or (f.payload ++ 206 ∷ rest) i 0) (omega arith) ∙ get_or-append-add f.payload (206 ∷ rest) 0 0 in
    let ours : get_or (drop 7 bytes ++ more) n 0 ≡ get_or bytes (n + 7) 0 = get_or_front (drop 7 bytes) more n (omega (arith, length-drop 7 bytes)) ∙ get_or-drop 7 bytes n 0 ∙ ap (λ (i : ℕ). get_or bytes i 0) (omega arith) in
    wrong (sym ours ∙ ap (λ (z : List ℕ). get_or z n 0) tail ∙ theirs)
