-- The fixed fields of a payload are spelled so, and what is spelled so has these fields.
use Rattle.headers.proofs.Names.{◌≡◌, ℕ, ◌+◌, ◌^◌, ◌<◌, ◌≤◌, List, ◌++◌, length, take, drop, refl, sym, ap, ◌∙◌, arith, inl, inr, w16, w64, from_be_bytes, to_be_bytes, cases_lt, take-append-drop, length-take, length-drop, get_or-drop, get_or-take, get_or_past, drop-drop, be_bytes_2, be_bytes_8, from_be_bytes-to_be_bytes_2, from_be_bytes-to_be_bytes_8, class_at, weight_at, size_at, flags_at, IsNoHeader, IsBytes}
use Rattle.headers.specs.Reading.{Fields}

IsBytes-part : (n k : ℕ) (bytes : List ℕ) → IsBytes bytes → IsBytes (take n (drop k bytes))
IsBytes-part n k bytes h i =
    elim (cases_lt i n) [
      | inl lt ↦ rw (get_or-take n (drop k bytes) i 0 lt, get_or-drop k bytes i 0) (h (k + i))
      | inr le ↦ rw (get_or_past (take n (drop k bytes)) i 0 (omega (arith, length-take n (drop k bytes)))) (omega arith)
    ]

-- a number of two bytes that stands at a place
two_at : (k : ℕ) (bytes : List ℕ) → IsBytes bytes → k + 2 ≤ length bytes → to_be_bytes w16 (from_be_bytes w16 (take 2 (drop k bytes))) ≡ take 2 (drop k bytes)
two_at k bytes are long = be_bytes_2 (take 2 (drop k bytes)) _ (omega (arith, length-take 2 (drop k bytes), length-drop k bytes)) (IsBytes-part 2 k bytes are) refl

eight_at : (k : ℕ) (bytes : List ℕ) → IsBytes bytes → k + 8 ≤ length bytes → to_be_bytes w64 (from_be_bytes w64 (take 8 (drop k bytes))) ≡ take 8 (drop k bytes)
eight_at k bytes are long = be_bytes_8 (take 8 (drop k bytes)) _ (omega (arith, length-take 8 (drop k bytes), length-drop k bytes)) (IsBytes-part 8 k bytes are) refl

-- what stands from a place on
from_place : (n k : ℕ) (bytes front : List ℕ) → front ≡ take n (drop k bytes) → drop k bytes ≡ front ++ drop (k + n) bytes
from_place n k bytes front e = sym (take-append-drop n (drop k bytes)) ∙ ap (λ (z : List ℕ). take n (drop k bytes) ++ z) (drop-drop n k bytes) ∙ ap (λ (z : List ℕ). z ++ drop (k + n) bytes) (sym e)

-- class, weight, size, flags and what follows them
abbrev pub headed : ℕ → ℕ → List ℕ → List ℕ
headed size flags rest = to_be_bytes w16 60 ++ to_be_bytes w16 0 ++ to_be_bytes w64 size ++ to_be_bytes w16 flags ++ rest

-- flags and what follows them, behind the size
pub behind_size : (payload rest : List ℕ) (size flags : ℕ) → IsBytes payload → Fields payload size flags rest → drop 12 payload ≡ to_be_bytes w16 flags ++ rest
behind_size payload rest size flags are f =
    let long : 14 ≤ length payload = f.long in
    let bits : to_be_bytes w16 flags ≡ take 2 (drop 12 payload) = ap (λ (n : ℕ). to_be_bytes w16 n) (sym f.flags_are) ∙ two_at 12 payload are (omega arith) in
    from_place 2 12 payload (to_be_bytes w16 flags) bits ∙ ap (λ (z : List ℕ). to_be_bytes w16 flags ++ z) f.rest_is

pub spelled : (payload rest : List ℕ) (size flags : ℕ) → IsBytes payload → Fields payload size flags rest → payload ≡ headed size flags rest
spelled payload rest size flags are f =
    let long : 14 ≤ length payload = f.long in
    let class : to_be_bytes w16 60 ≡ take 2 (drop 0 payload) = ap (λ (n : ℕ). to_be_bytes w16 n) (sym f.class_is) ∙ two_at 0 payload are (omega arith) in
    let weight : to_be_bytes w16 0 ≡ take 2 (drop 2 payload) = ap (λ (n : ℕ). to_be_bytes w16 n) (sym f.weight_is) ∙ two_at 2 payload are (omega arith) in
    let number : to_be_bytes w64 size ≡ take 8 (drop 4 payload) = ap (λ (n : ℕ). to_be_bytes w64 n) (sym f.size_is) ∙ eight_at 4 payload are (omega arith) in
    let last : drop 12 payload ≡ to_be_bytes w16 flags ++ rest = behind_size payload rest size flags are f in
    let third : drop 4 payload ≡ to_be_bytes w64 size ++ to_be_bytes w16 flags ++ rest = from_place 8 4 payload (to_be_bytes w64 size) number ∙ ap (λ (z : List ℕ). to_be_bytes w64 size ++ z) last in
    let second : drop 2 payload ≡ to_be_bytes w16 0 ++ to_be_bytes w64 size ++ to_be_bytes w16 flags ++ rest = from_place 2 2 payload (to_be_bytes w16 0) weight ∙ ap (λ (z : List ℕ). to_be_bytes w16 0 ++ z) third in
    from_place 2 0 payload (to_be_bytes w16 60) class ∙ ap (λ (z : List ℕ). to_be_bytes w16 60 ++ z) second

-- the size is a number of eight bytes, the flags are one of two
pub size_below : (payload rest : List ℕ) (size flags : ℕ) → IsBytes payload → Fields payload size flags rest → size < 2 ^ 64
size_below payload rest size flags are f =
    let p = IsBytes-part 8 4 payload are in
    rw (← f.size_is) (omega (arith, p 0, p 1, p 2, p 3, p 4, p 5, p 6, p 7))

pub flags_below : (payload rest : List ℕ) (size flags : ℕ) → IsBytes payload → Fields payload size flags rest → flags < 2 ^ 16
flags_below payload rest size flags are f =
    let p = IsBytes-part 2 12 payload are in
    rw (← f.flags_are) (omega (arith, p 0, p 1))

pub rest_bytes : (payload rest : List ℕ) (size flags : ℕ) → IsBytes payload → Fields payload size flags rest → IsBytes rest
rest_bytes payload rest size flags are f i = rw (← f.rest_is, get_or-drop 14 payload i 0) (are (14 + i))

-- a payload that is spelled so has these fields
pub its_size : (payload rest more : List ℕ) (size flags n m : ℕ) → n < 2 ^ 64 → Fields payload size flags rest → payload ≡ headed n m more → size ≡ n
its_size payload rest more size flags n m lt f e = sym f.size_is ∙ ap (λ (z : List ℕ). size_at z) e ∙ from_be_bytes-to_be_bytes_8 n lt

pub its_flags : (payload rest more : List ℕ) (size flags n m : ℕ) → m < 2 ^ 16 → Fields payload size flags rest → payload ≡ headed n m more → flags ≡ m
its_flags payload rest more size flags n m lt f e = sym f.flags_are ∙ ap (λ (z : List ℕ). flags_at z) e ∙ from_be_bytes-to_be_bytes_2 m lt

pub its_rest : (payload rest more : List ℕ) (size flags n m : ℕ) → Fields payload size flags rest → payload ≡ headed n m more → rest ≡ more
its_rest payload rest more size flags n m f e = sym f.rest_is ∙ ap (λ (z : List ℕ). drop 14 z) e

pub not_header : (payload more : List ℕ) (n m : ℕ) → payload ≡ headed n m more → IsNoHeader payload → ⊥
not_header payload more n m e why =
    elim why [
      | inl short ↦ (let h : length payload ≡ length (headed n m more) = ap (λ (z : List ℕ). length z) e in omega arith)
      | inr others ↦ elim others [
        | inl class ↦ class (ap (λ (z : List ℕ). class_at z) e)
        | inr weight ↦ weight (ap (λ (z : List ℕ). weight_at z) e)
      ]
    ]

pub fields_of : (payload more : List ℕ) (n m : ℕ) → n < 2 ^ 64 → m < 2 ^ 16 → payload ≡ headed n m more → Fields payload n m more
fields_of payload more n m lt below e = record {
  long = (let h : length payload ≡ length (headed n m more) = ap (λ (z : List ℕ). length z) e in omega arith);
  class_is = ap (λ (z : List ℕ). class_at z) e;
  weight_is = ap (λ (z : List ℕ). weight_at z) e;
  size_is = ap (λ (z : List ℕ). size_at z) e ∙ from_be_bytes-to_be_bytes_8 n lt;
  flags_are = ap (λ (z : List ℕ). flags_at z) e ∙ from_be_bytes-to_be_bytes_2 m below;
  rest_is = ap (λ (z : List ℕ). drop 14 z) e;
}
