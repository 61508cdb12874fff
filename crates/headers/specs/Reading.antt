-- What `read_header` and `read_size` must return. Source: AMQP 0-9-1, section 4.2.6.1, "The Content Header".
use Rattle.std.specs.Prelude.{◌≡◌, ◌≤◌, ℕ, List, length, drop, Result, Ok, Err, ⊤}
use Rattle.model.specs.Grammar.{class_at}
use Rattle.model.specs.Headers
use Rattle.model.specs.Headers.{weight_at, size_at, flags_at, SaysSize, SaysHeader}
use Rattle.headers.specs.declared.contents.Header.{Header}
use Rattle.headers.specs.declared.contents.BadHeader.{BadHeader}
use Rattle.headers.specs.declared.contents.BadHeader.TheVariants.{FrameError, SyntaxError, Memory}

-- the header as `model` defines it
abbrev pub header_seen : Header → Headers.Header
header_seen h = record { size = h.size; properties = h.properties }

-- the payload has a header's fixed fields with this size and these flags, and `rest` is after them
pub record Fields (payload : List ℕ) (size flags : ℕ) (rest : List ℕ) : Type 0 where
  pub long : 14 ≤ length payload
  pub class_is : class_at payload ≡ 60
  pub weight_is : weight_at payload ≡ 0
  pub size_is : size_at payload ≡ size
  pub flags_are : flags_at payload ≡ flags
  pub rest_is : drop 14 payload ≡ rest

-- the result is the declared size, or the only refusal there is, 501
abbrev pub ReturnsSize : List ℕ → Result ℕ BadHeader → Type 0
ReturnsSize payload (Ok n) = SaysSize payload (Ok n)
ReturnsSize payload (Err FrameError) = SaysSize payload (Err 501)
ReturnsSize payload (Err SyntaxError) = ⊥
ReturnsSize payload (Err Memory) = ⊥

-- the payload is refused by the reply code of this error; an allocation failure needs no reason
abbrev pub HeaderIsRefused : List ℕ → BadHeader → Type 0
HeaderIsRefused payload FrameError = SaysHeader payload (Err 501)
HeaderIsRefused payload SyntaxError = SaysHeader payload (Err 502)
HeaderIsRefused payload Memory = ⊤

-- the result is correct for this payload
abbrev pub ReturnsHeader : List ℕ → Result Header BadHeader → Type 0
ReturnsHeader payload (Ok h) = SaysHeader payload (Ok (header_seen h))
ReturnsHeader payload (Err e) = HeaderIsRefused payload e

-- the result is the header `h`, or an allocation failed
abbrev pub IsHeaderOr : Headers.Header → Result Header BadHeader → Type 0
IsHeaderOr h (Ok g) = header_seen g ≡ h
IsHeaderOr h (Err FrameError) = ⊥
IsHeaderOr h (Err SyntaxError) = ⊥
IsHeaderOr h (Err Memory) = ⊤
