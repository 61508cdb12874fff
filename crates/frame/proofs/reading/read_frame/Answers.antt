-- A frame that stands at the front is the one that was read.
use Rattle.std.proofs.Common.{◌<◌, ◌^◌, [], ℕ, List, drop, arith, subst, sym, append-nil}
use Rattle.model.specs.Frames
use Rattle.model.specs.Frames.{Begins}
use Rattle.frame.specs.declared.frames.ReadFrame.{ReadFrame}
use Rattle.frame.specs.declared.frames.ReadFrame.TheVariants.{Whole, More, Fault}
use Rattle.frame.specs.Reading.{ReturnsFrame, IsWholeFrame, seen}
use Rattle.frame.proofs.Fronts.{shows, one_front}
use Rattle.frame.proofs.reading.read_frame.Goals as goal

told : (max : ℕ) (bytes rest : List ℕ) (f : Frames.Frame) (r : ReadFrame) → max < 2 ^ 32 → ReturnsFrame max bytes r → Begins max bytes f rest → IsWholeFrame bytes r f rest
told max bytes rest f (Whole g len) below t b = one_front bytes (drop len bytes) rest (seen g) f (shows max bytes (seen g) (drop len bytes) below t.front) (shows max bytes f rest below b)
told max bytes rest f More below t b = t.none rest f b
told max bytes rest f (Fault code) below t b = t.1.never [] rest f (subst (λ (z : List ℕ). Begins max z f rest) (sym (append-nil bytes)) b)

pub returns-clause-only : goal.returns-clause-only
returns-clause-only c = λ f rest b. told c.args.max c.args.input.now rest f c.front_of.result (omega (arith, c.ranges.max.fits)) c.front_of.ensures b
