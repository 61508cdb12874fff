-- What the reader tests tells what stands at the front.
use Rattle.std.proofs.Common.{◌≡◌, ◌+◌, ◌-◌, List, ◌∙◌, get_or, take, drop, [], ◌∷◌, refl, ap, arith, inr, ℕ, length-append}
use Rattle.std.proofs.Common.{rules}
use Rattle.frame.proofs.Fronts.{whole_at, open_front, short_front, wrong_end}
use Rattle.frame.proofs.reading.front_of.Goals as goal

pub returns-then-input-end : goal.returns-then-input-end
returns-then-input-end c =
    let size = c.size_at-size.ensures in
    let below = c.ranges.max.fits in
    let more = open_front c.args.max c.args.input.now (λ i. (c.type_inv.input i).fits) (omega arith) (c.if-not-is_kind.ensures.only_types (search rules)) (omega arith) (omega arith) in
    record {
      none = λ rest f b. short_front c.args.max c.args.input.now rest f (omega arith) (omega arith) b;
      open_still = inr (record { more = _; are_bytes = more.fits; rest = _; frame = more.frame; front = more.front });
      unbroken = λ broken. broken.never _ _ more.frame more.front;
    }

pub returns-then-input-end-2 : goal.returns-then-input-end-2
returns-then-input-end-2 c =
    let size = c.size_at-size.ensures in
    let below = c.ranges.max.fits in (
      refl,
      record {
        long = omega arith;
        never = λ more rest f b. wrong_end c.args.max c.args.input.now more rest f (omega arith) (omega arith) (λ e. c.if-input-end-2.true (ap (λ (i : ℕ). get_or c.args.input.now (i + 7) 0) size ∙ e)) b;
      },
    )

pub returns : goal.returns
returns c =
    let n : ℕ = c.size_at-size.result in
    let bytes : List ℕ = c.args.input.now in
    let payload : List ℕ = take (n + 7 - 7) (drop 7 bytes) in
    let same : payload ≡ take n (drop 7 bytes) = ap (λ (i : ℕ). take i (drop 7 bytes)) (omega arith) in
    let both = whole_at c.args.max bytes payload n c.channel_at-channel.result (λ i. (c.type_inv.input i).fits) (c.if-not-is_kind.ensures.only_types (search rules))
    c.size_at-size.ensures c.channel_at-channel.ensures same (omega arith) (omega arith) c.if-input-end-2.false in
    record { front = both.0; whole = omega (arith, both.1, length-append payload (206 ∷ [])) }
