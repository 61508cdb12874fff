-- A stream goes on frame by frame.
use Rattle.assembly.proofs.Imports.{◌≡◌, ◌+◌, ◌<◌, ◌≤◌, ℕ, List, Bool, ◌++◌, length, drop, true, false, Option, Some, None, Result, Ok, Err, is_err, sym, ap, subst, refl, arith, length-append, false≢true, with_one, Frame, frame_bytes, Begins, IsBroken, Stream, Pending, Taken, Goes_on, Makes, Breaks, TakesOn, Takes, pending_after, Yields, first, now, later, Ends, early, short, broken, faulty, beyond, GoesOn, stays, goes, Command, Head, IsUnfinished, Fault, Broken, Memory, whole, DoesAt, Stops, GivesCommand, YieldsNext, has_command}
use Rattle.model.specs.Commands.{Nothing}
use Rattle.assembly.proofs.Fronts.{goes_front}

-- what is still to come, in parts
abbrev pub of_parts : ℕ → Bool → (ℕ → Pending) → List ℕ → Stream
of_parts max keeps pending unread = record { is_new = false; max = max; keeps = keeps; pending = pending; unread = unread }

-- a frame at the front is taken
pub takes : (max : ℕ) (keeps : Bool) (old new : ℕ → Pending) (unread rest : List ℕ) (f : Frame) (t : Taken) → Begins max unread f rest → TakesOn keeps (old f.channel) f t
    → new ≡ with_one old f.channel (pending_after t) → Takes (of_parts max keeps old unread) t (of_parts max keeps new rest)
takes max keeps old new unread rest f t b e same = record {
  begun = refl;
  frame = f;
  rest = rest;
  front = b;
  effect = e;
  left = ap (λ (p : ℕ → Pending). of_parts max keeps p rest) same;
}

-- a frame has at least eight bytes
pub shorter : (max : ℕ) (bytes rest : List ℕ) (f : Frame) → Begins max bytes f rest → length rest + 8 ≤ length bytes
shorter max bytes rest f b =
    let e : length bytes ≡ length (frame_bytes f ++ rest) = ap length b.parts in
    let e2 : length (frame_bytes f ++ rest) ≡ 8 + length f.payload + length rest = grind (arith, length-append) in
    omega (arith, e, e2)

-- one more frame behind others
pub goes_then : {a b c : Stream} {p : Pending} → GoesOn a b → Takes b (Goes_on p) c → GoesOn a c
goes_then stays t = goes t stays
goes_then (goes t g) u = goes t (goes_then g u)

-- the command behind them is the next
pub yields_then : {a b n : Stream} {c : Command} → GoesOn a b → Yields b c n → Yields a c n
yields_then stays y = y
yields_then (goes t g) y = later t (yields_then g y)

-- and so is the end
pub ends_then : {a b : Stream} {o : Option ℕ} → GoesOn a b → Ends b o → Ends a o
ends_then stays e = e
ends_then (goes t g) e = beyond t (ends_then g e)

-- an equal stream is gone on to
pub goes_same : (a b c : Stream) → GoesOn a b → c ≡ b → GoesOn a c
goes_same a b c g e = subst (λ (s : Stream). GoesOn a s) (sym e) g

-- ---- up to a command

-- no whole frame stands there
pub ended : (old : Stream) (max : ℕ) (keeps : Bool) (pending : ℕ → Pending) (bytes unread : List ℕ) → GoesOn old (of_parts max keeps pending unread) → bytes ≡ unread → IsUnfinished max bytes
    → YieldsNext old (Ok None) (of_parts max keeps pending unread)
ended old max keeps pending bytes unread g e u =
    let there : IsUnfinished max unread = subst (IsUnfinished max) e u in
    let end : Ends (of_parts max keeps pending unread) None = short refl (λ f rest b. there.none rest f b) there.unbroken in
    record { same = g; ends = ends_then g end; still = end }

-- and none can
pub unframed : (old : Stream) (max : ℕ) (keeps : Bool) (pending : ℕ → Pending) (bytes unread : List ℕ) (code : ℕ) → GoesOn old (of_parts max keeps pending unread) → bytes ≡ unread → (code ≡ 501) × IsBroken max bytes
    → YieldsNext old (Err (Broken code)) (of_parts max keeps pending unread)
unframed old max keeps pending bytes unread code g e b =
    let end : Ends (of_parts max keeps pending unread) (Some code) = subst (λ (k : ℕ). Ends (of_parts max keeps pending unread) (Some k)) (sym b.0) (broken refl (subst (IsBroken max) e b.1)) in
    record { same = g; ends = ends_then g end; still = end }

-- a frame is a fault, or memory was refused
pub refused : (old : Stream) (max : ℕ) (keeps : Bool) (before after : ℕ → Pending) (bytes unread rest : List ℕ) (f : Frame) (r : Result (Option Command) Fault)
    → GoesOn old (of_parts max keeps before unread) → bytes ≡ unread → Begins max bytes f rest → is_err r ≡ true
    → DoesAt (TakesOn keeps (before f.channel) f) f.channel before r after → YieldsNext old r (of_parts max keeps after unread)
refused old max keeps before after bytes unread rest f (Ok made) g e b err d = absurd (false≢true err)
refused old max keeps before after bytes unread rest f (Err (Broken code)) g e b err d =
    let front : Begins max unread f rest = subst (λ (z : List ℕ). Begins max z f rest) e b in
    let end : Ends (of_parts max keeps before unread) (Some code) = faulty (takes max keeps before (with_one before f.channel Nothing) unread rest f (Breaks code) front d.0 refl) in
    let same : of_parts max keeps after unread ≡ of_parts max keeps before unread = ap (λ (p : ℕ → Pending). of_parts max keeps p unread) d.1 in
    record { same = goes_same old _ _ g same; ends = ends_then g end; still = subst (λ (t : Stream). Ends t (Some code)) (sym same) end }
refused old max keeps before after bytes unread rest f (Err Memory) g e b err d =
    (goes_same old _ _ g (ap (λ (p : ℕ → Pending). of_parts max keeps p unread) d.1), goes_front g (whole refl (subst (λ (z : List ℕ). Begins max z f rest) e b)))

front_of : (max : ℕ) (bytes unread rest : List ℕ) (f : Frame) (size : ℕ) → bytes ≡ unread → Begins max bytes f (drop size bytes) → rest ≡ drop size unread → Begins max unread f rest
front_of max bytes unread rest f size e b left =
    subst (Begins max unread f) (sym left) (subst (λ (z : List ℕ). Begins max z f (drop size z)) e b)

-- a frame ends a command
pub made : (old : Stream) (max : ℕ) (keeps : Bool) (before after : ℕ → Pending) (bytes unread rest : List ℕ) (f : Frame) (size : ℕ) (r : Result (Option Command) Fault)
    → GoesOn old (of_parts max keeps before unread) → length unread ≤ length old.unread → bytes ≡ unread → Begins max bytes f (drop size bytes) → rest ≡ drop size unread → has_command r ≡ true
    → DoesAt (TakesOn keeps (before f.channel) f) f.channel before r after → YieldsNext old r (of_parts max keeps after rest)
made old max keeps before after bytes unread rest f size (Ok None) g l e b left has d = absurd (false≢true has)
made old max keeps before after bytes unread rest f size (Ok (Some c)) g l e b left has d =
    let front = front_of max bytes unread rest f size e b left in
    let fewer = shorter max unread rest f front in
    record { next = yields_then g (now (takes max keeps before after unread rest f (Makes c) front d.0 d.2)); command = d.1; shorter = omega (arith, fewer, l) }
made old max keeps before after bytes unread rest f size (Err fault) g l e b left has d = absurd (false≢true has)

pub record Further (old mid new : Stream) : Type 0 where
  pub goes : GoesOn old new
  pub shorter : length new.unread ≤ length old.unread
  pub fewer : length new.unread < length mid.unread

-- a frame ends none
pub on : (old : Stream) (max : ℕ) (keeps : Bool) (before after : ℕ → Pending) (bytes unread rest : List ℕ) (f : Frame) (size : ℕ) (r : Result (Option Command) Fault)
    → GoesOn old (of_parts max keeps before unread) → length unread ≤ length old.unread → bytes ≡ unread → Begins max bytes f (drop size bytes) → rest ≡ drop size unread → is_err r ≡ false → has_command r ≡ false
    → DoesAt (TakesOn keeps (before f.channel) f) f.channel before r after → Further old (of_parts max keeps before unread) (of_parts max keeps after rest)
on old max keeps before after bytes unread rest f size (Ok None) g l e b left err has d =
    let front = front_of max bytes unread rest f size e b left in
    let less = shorter max unread rest f front in
    record { goes = goes_then g (takes max keeps before after unread rest f (Goes_on d.0) front d.1 d.2); shorter = omega (arith, less, l); fewer = omega (arith, less) }
on old max keeps before after bytes unread rest f size (Ok (Some c)) g l e b left err has d = absurd (false≢true (sym has))
on old max keeps before after bytes unread rest f size (Err fault) g l e b left err has d = absurd (false≢true (sym err))

-- ---- the first eight bytes

pub first_given : (s : Stream) (rest bytes : List ℕ) → s.is_new ≡ true → s.unread ≡ bytes ++ rest → length bytes ≡ 8 → GivesCommand s (Head bytes) (record s { is_new = false; unread = rest })
first_given s rest bytes awaited e n =
    let l : length s.unread ≡ length (bytes ++ rest) = ap length e in
    record {
      next = first (record { awaited = awaited; rest = rest; front = e; size = n; left = refl });
      command = tt;
      shorter = omega (arith, l, n, length-append bytes rest);
    }

pub first_missing : (s new : Stream) → s.is_new ≡ true → length s.unread < 8 → new ≡ s → Stops s None new
first_missing s new awaited few e =
    record { same = goes_same s s new stays e; ends = early awaited few; still = subst (λ (t : Stream). Ends t None) (sym e) (early awaited few) }
