-- The three frames of a publish are read at once.
use Rattle.assembly.proofs.Imports.{◌≡◌, ◌∙◌, ◌+◌, ◌<◌, ◌≤◌, ◌==◌, ℕ, List, [], length, drop, drop-drop, Bool, true, false, Ok, if◌then◌else◌, sym, ap, subst, refl, arith, rules, tests, eq-eqb, with_one, Frame, Begins, Stream, Pending, Wants_header, Wants_body, Taken, Goes_on, Makes, TakesOn, Takes, pending_after, taken_body, now, later, GoesOn, is_on_wrong_channel, most_body, most_header, header_bytes, IsCommand, Command, Full, Publish, Awaited, pending_at, GivesCommand}
use Rattle.std.proofs.Math.Path.{fun_ext}
use Rattle.laws.proofs.Linked.{with_here}
use Rattle.model.specs.Commands.{Nothing}
use Rattle.model.specs.declared.contents.Content.{Content}
use Rattle.model.specs.declared.contents.Fields.{Fields as Properties}
use Rattle.assembly.specs.Names.{SpellsPublish}
use Rattle.assembly.specs.Whole.{AreContentFrames, GivesWhole, IsWholeContent}
use Rattle.assembly.specs.declared.publishes.ContentFrames.{ContentFrames}
use Rattle.assembly.proofs.Codes.{takes_small}
use Rattle.assembly.proofs.Limits.{begun, small_at}
use Rattle.assembly.proofs.Onwards.{of_parts, takes, shorter, yields_then}
use Rattle.assembly.proofs.Places.{match_true, takes_other, with_one_same}

-- ---- one channel

over : {A : Type 0} (a b c : A) (t : Bool) → (if t then b else (if t then a else c)) ≡ (if t then b else c)
over a b c true = refl
over a b c false = refl

one_again : {A : Type 0} (f : ℕ → A) (h : ℕ) (a b : A) → with_one (with_one f h a) h b ≡ with_one f h b
one_again f h a b = fun_ext (λ m. over a b (f m) (m == h))

-- a frame is taken on the channel that awaits it
step : (max : ℕ) (keeps : Bool) (at : ℕ → Pending) (p : Pending) (unread rest : List ℕ) (f : Frame) (t : Taken) → Begins max unread f rest → TakesOn keeps p f t
    → Takes (of_parts max keeps (with_one at f.channel p) unread) t (of_parts max keeps (with_one at f.channel (pending_after t)) rest)
step max keeps at p unread rest f t b e =
    takes max keeps (with_one at f.channel p) (with_one at f.channel (pending_after t)) unread rest f t b
    (subst (λ (q : Pending). TakesOn keeps q f t) (sym (with_here at f.channel p)) e)
    (sym (one_again at f.channel p (pending_after t)))

-- ---- a body in one piece

awaits_body : (h : ℕ) (p : Publish) (properties : Properties) (n : ℕ) → 0 < n → Goes_on (Wants_body p properties n []) ≡ taken_body h p properties n []
awaits_body h p properties n some = search (tests, rules)

completes : (h : ℕ) (p : Publish) (properties : Properties) (body : List ℕ) → Makes (Full h p (record { properties = properties; body = body })) ≡ taken_body h p properties (length body) body
completes h p properties body = search (tests, rules)

-- ---- a publish

is_command : (header body : List ℕ) (h : ℕ) (p : Publish) (content : Content) (f : Frame) → SpellsPublish f.payload p → IsWholeContent header body content → IsCommand (Full h p content)
is_command header body h p content f s w =
    let b = begun header p (record { size = length body; properties = content.properties }) s.fits (small_at header (length body) w.size w.small) w.says in (
      b.method,
      record {
        properties = b.spelled;
        body = subst (λ (z : List ℕ). length z ≤ most_body) (sym w.same) b.body;
        header = subst (λ (z : List ℕ). length (header_bytes (length z) content.properties) ≤ most_header) (sym w.same) b.header;
      },
    )

three : (max : ℕ) (at : ℕ → Pending) (bytes rest : List ℕ) (f : Frame) (frames : ContentFrames) (p : Publish) (content : Content) → Begins max bytes f rest → f.kind ≡ 1 → is_on_wrong_channel f ≡ false → SpellsPublish f.payload p
    → AreContentFrames max f.channel rest frames → IsWholeContent frames.header.now frames.body.now content
    → GivesCommand (of_parts max true (with_one at f.channel Nothing) bytes) (Full f.channel p content) (of_parts max true (with_one at f.channel Nothing) (drop frames.length rest))
three max at bytes rest f frames p content b kind right spells c w =
    let h = f.channel in
    let header = frames.header.now in
    let body = frames.body.now in
    let n = length body in
    let header_frame : Frame = record { kind = 2; channel = h; payload = header } in
    let body_frame : Frame = record { kind = 3; channel = h; payload = body } in
    let wants : Taken = Goes_on (Wants_body p content.properties n []) in
    let made : Makes (Full h p content) ≡ taken_body h p content.properties n body = ap (λ (z : List ℕ). Makes (Full h p (record { properties = content.properties; body = z }))) w.same ∙ completes h p content.properties body in
    let one = step max true at Nothing bytes rest f (Goes_on (Wants_header p)) b
    (takes_other true Nothing f (Goes_on (Wants_header p)) (λ e. omega (arith, e, kind)) right (match_true (f.kind == 1) _ _ (eq-eqb f.kind 1 kind) (Ok _, spells.says, refl))) in
    let two = step max true at (Wants_header p) rest c.rest header_frame wants c.header
    (takes_other true (Wants_header p) header_frame wants (λ e. omega (arith, e)) c.header_right
    (takes_small true p header_frame n wants w.size w.small (Ok _, w.says, awaits_body h p content.properties n w.some))) in
    let last = step max true at (Wants_body p content.properties n []) c.rest (drop frames.length rest) body_frame (Makes (Full h p content)) c.body
    (takes_other true (Wants_body p content.properties n []) body_frame (Makes (Full h p content)) (λ e. omega (arith, e)) c.body_right made) in
    let first_length = shorter max bytes rest f b in
    let next_length = shorter max rest c.rest header_frame c.header in
    let last_length = shorter max c.rest (drop frames.length rest) body_frame c.body in
    record {
      next = later one (later two (now last));
      command = is_command header body h p content f spells w;
      shorter = omega (arith, first_length, next_length, last_length);
    }

-- the publish is the next command, and its channel awaits a method as before
pub whole : (max : ℕ) (keeps : Bool) (contents : List Awaited) (bytes rest : List ℕ) (f : Frame) (frames : ContentFrames) (p : Publish) (content : Content)
    → keeps ≡ true → pending_at contents f.channel ≡ Nothing → Begins max bytes f rest → f.kind ≡ 1 → is_on_wrong_channel f ≡ false → SpellsPublish f.payload p
    → AreContentFrames max f.channel rest frames → IsWholeContent frames.header.now frames.body.now content
    → GivesCommand (of_parts max keeps (pending_at contents) bytes) (Full f.channel p content) (of_parts max keeps (pending_at contents) (drop frames.length rest))
whole max keeps contents bytes rest f frames p content k nothing b kind right spells c w =
    let at = pending_at contents in
    let left = drop frames.length rest in
    let same : with_one at f.channel Nothing ≡ at = ap (with_one at f.channel) (sym nothing) ∙ sym (with_one_same at f.channel) in
    subst (λ (kept : Bool). GivesCommand (of_parts max kept at bytes) (Full f.channel p content) (of_parts max kept at left)) (sym k)
    (subst (λ (q : ℕ → Pending). GivesCommand (of_parts max true q bytes) (Full f.channel p content) (of_parts max true q left)) same
    (three max at bytes rest f frames p content b kind right spells c w))

-- and it is so behind the frames before it
pub given : (old : Stream) (max : ℕ) (keeps : Bool) (among contents : List Awaited) (bytes unread rest new : List ℕ) (f : Frame) (size more : ℕ) (c : Command)
    → among ≡ contents → bytes ≡ unread → rest ≡ drop size bytes → new ≡ drop (size + more) unread
    → GoesOn old (of_parts max keeps (pending_at contents) unread) → length unread ≤ length old.unread → Begins max bytes f (drop size bytes)
    → GivesWhole max keeps among f rest c more
    → GivesCommand old c (of_parts max keeps (pending_at contents) new)
given old max keeps among contents bytes unread rest new f size more c same e r n g l b give =
    let front : Begins max unread f rest = subst (Begins max unread f) (sym r) (subst (λ (z : List ℕ). Begins max z f (drop size bytes)) e b) in
    let left : drop more rest ≡ new = ap (drop more) (r ∙ ap (drop size) e) ∙ drop-drop more size unread ∙ sym n in
    let there : GivesCommand (of_parts max keeps (pending_at contents) unread) c (of_parts max keeps (pending_at contents) new) =
    subst (λ (z : List ℕ). GivesCommand (of_parts max keeps (pending_at contents) unread) c (of_parts max keeps (pending_at contents) z)) left
    (subst (λ (xs : List Awaited). GivesCommand (of_parts max keeps (pending_at xs) unread) c (of_parts max keeps (pending_at xs) (drop more rest))) same (give unread front)) in
    let fewer = there.shorter in
    record { next = yields_then g there.next; command = there.command; shorter = omega (arith, fewer, l) }
