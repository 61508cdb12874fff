-- What a stream has yielded doesn't change when more bytes come, and its first eight bytes come first.
use Rattle.laws.proofs.Names.{◌≡◌, ℕ, List, [], ◌∷◌, ◌++◌, length, Bool, true, false, refl, sym, ap, subst, ◌∙◌, append_assoc, length-append, arith, None, Result, Ok, Err, nat_lt, ◌==◌, ◌&&◌, false≢true, Text, Frame, frame_bytes, Begins, IsBroken, Header, Pending, Nothing, Wants_header, Wants_body, Drops, Taken, Goes_on, Stream, TakesFirst, Takes, TakesOn, TakesPayload, TakesSized, Yields, first, now, later, Ends, early, short, broken, faulty, beyond, Commands, heard, with_max, keeping, awaited, is_on_wrong_channel, is_too_large, begun_body, taken_body, taken_dropped, taken_header, taken_heartbeat, taken_method, taken_piece, GoesOn, stays, goes, Method, BasicPublish, Full, YieldsAll, CommandUnder, YieldsTuned, is_head, ReadsHead, ReadsFrames, FirstBytesComeFirst}
use Rattle.std.proofs.Common.{Option, Some}
use Rattle.std.specs.Prelude.{◌<◌, ◌+◌, if◌then◌else◌}
use Rattle.model.specs.Commands.{Makes, Breaks}
use Rattle.model.specs.declared.contents.Fields.{Fields as Properties}
use Rattle.model.specs.declared.methods.Publish.{Publish}
use Rattle.model.specs.declared.events.Command.TheVariants.{TooLarge}
use Rattle.model.specs.declared.events.Command.{Command}
use Rattle.laws.proofs.Counts.{from_either}

begins_more : (max : ℕ) (bytes rest more : List ℕ) (f : Frame) → Begins max bytes f rest → Begins max (bytes ++ more) f (rest ++ more)
begins_more max bytes rest more f b = record { parts = ap (λ (z : List ℕ). z ++ more) b.parts ∙ append_assoc (frame_bytes f) rest more; fits = b.fits }

pub takes_more : (s next : Stream) (taken : Taken) (more : List ℕ) → Takes s taken next → Takes (heard s more) taken (heard next more)
takes_more s next taken more t = record {
  begun = t.begun;
  frame = t.frame;
  rest = t.rest ++ more;
  front = begins_more s.max s.unread t.rest more t.frame t.front;
  effect = t.effect;
  left = ap (λ (z : Stream). heard z more) t.left;
}

first_more : (s next : Stream) (bytes : Text) (more : List ℕ) → TakesFirst s bytes next → TakesFirst (heard s more) bytes (heard next more)
first_more s next bytes more t = record {
  awaited = t.awaited;
  rest = t.rest ++ more;
  front = ap (λ (z : List ℕ). z ++ more) t.front ∙ append_assoc bytes t.rest more;
  size = t.size;
  left = ap (λ (z : Stream). heard z more) t.left;
}

pub yields_more : {s next : Stream} {c : Command} (more : List ℕ) → Yields s c next → Yields (heard s more) c (heard next more)
yields_more more (first {s = s} {next = next} {bytes = bytes} t) = first (first_more s next bytes more t)
yields_more more (now {s = s} {next = next} {c = c} t) = now (takes_more s next (Makes c) more t)
yields_more more (later {s = s} {mid = mid} {p = p} t y) = later (takes_more s mid (Goes_on p) more t) (yields_more more y)

pub goes_more : (s next : Stream) (more : List ℕ) → GoesOn s next → GoesOn (heard s more) (heard next more)
goes_more s next more stays = stays
goes_more s next more (goes {mid = mid} {p = p} t g) = goes (takes_more s mid (Goes_on p) more t) (goes_more mid next more g)

broken_more : (max : ℕ) (bytes more : List ℕ) → IsBroken max bytes → IsBroken max (bytes ++ more)
broken_more max bytes more b = record {
  long = let l = b.long in omega (arith, length-append bytes more);
  never = λ more' rest f g. b.never (more ++ more') rest f (subst (λ (z : List ℕ). Begins max z f rest) (append_assoc bytes more more') g);
}

-- a fault stays
fault_stays_at : {s : Stream} {o : Option ℕ} (code : ℕ) (more : List ℕ) → Ends s o → o ≡ Some code → Ends (heard s more) (Some code)
fault_stays_at code more (early n few) e = absurd (let h : None ≡ Some code = e in cc)
fault_stays_at code more (short n a b) e = absurd (let h : None ≡ Some code = e in cc)
fault_stays_at code more (broken {s = s} n b) e = subst (λ (o : Option ℕ). Ends (heard s more) o) e (broken n (broken_more s.max s.unread more b))
fault_stays_at code more (faulty {s = s} {next = next} {code = k} t) e = subst (λ (o : Option ℕ). Ends (heard s more) o) e (faulty (takes_more s next (Breaks k) more t))
fault_stays_at code more (beyond {s = s} {mid = mid} {p = p} t r) e = beyond (takes_more s mid (Goes_on p) more t) (fault_stays_at code more r e)

pub fault_stays : (s : Stream) (code : ℕ) (more : List ℕ) → Ends s (Some code) → Ends (heard s more) (Some code)
fault_stays s code more e = fault_stays_at code more e refl

pub cutting : (s last : Stream) (done rest : List Command) (more : List ℕ) (end : Option ℕ) → YieldsAll s done last → Commands (heard last more) rest end → Commands (heard s more) (done ++ rest) end
cutting s last [] rest more end e c = subst (λ (z : Stream). Commands (heard z more) rest end) e c
cutting s last (d ∷ done) rest more end (next, y, r) c = (heard next more, yields_more more y, cutting next last done rest more end r c)

pub tuning : (s last : Stream) (done : List CommandUnder) (more : List ℕ) → YieldsTuned s done last → YieldsTuned (heard s more) done (heard last more)
tuning s last [] more e = ap (λ (z : Stream). heard z more) e
tuning s last (d ∷ done) more (next, y, r) = (heard next more, yields_more more y, tuning (keeping d.keeps (with_max d.frame_max next)) last done more r)

-- ---- the first eight bytes

-- a frame makes no first eight bytes
abbrev is_head_made : Taken → Bool
is_head_made (Makes c) = is_head c
is_head_made taken = false

framed_body : (h : ℕ) (p : Publish) (properties : Properties) (size : ℕ) (body : Text) → is_head_made (taken_body h p properties size body) ≡ false
framed_body h p properties size body = by (nat_lt size (length body)) (length body == size)
  where
    by : (u v : Bool) → is_head_made (if u then Breaks 501 else if v then Makes (Full h p (record { properties = properties; body = body })) else Goes_on (Wants_body p properties size body)) ≡ false
    by true v = refl
    by false true = refl
    by false false = refl

framed_dropped : (h size count : ℕ) → is_head_made (taken_dropped h size count) ≡ false
framed_dropped h size count = by (nat_lt size count) (count == size)
  where
    by : (u v : Bool) → is_head_made (if u then Breaks 501 else if v then Makes (TooLarge h) else Goes_on (Drops size count)) ≡ false
    by true v = refl
    by false true = refl
    by false false = refl

framed_heartbeat : (p : Pending) (f : Frame) → is_head_made (taken_heartbeat p f) ≡ false
framed_heartbeat p f = by (f.channel == 0 && length f.payload == 0)
  where
    by : (v : Bool) → is_head_made (if v then Goes_on p else Breaks 501) ≡ false
    by true = refl
    by false = refl

framed_method : (keeps : Bool) (h : ℕ) (r : Result Method ℕ) → is_head_made (taken_method keeps h r) ≡ false
framed_method keeps h (Ok (BasicPublish p)) = refl
framed_method keeps h (Ok m) = refl
framed_method keeps h (Err code) = refl

framed_begun : (keeps : Bool) (h : ℕ) (p : Publish) (header : Header) → is_head_made (begun_body keeps h p header) ≡ false
framed_begun true h p header = framed_body h p header.properties header.size []
framed_begun false h p header = framed_dropped h header.size 0

framed_header : (keeps : Bool) (h : ℕ) (p : Publish) (r : Result Header ℕ) → is_head_made (taken_header keeps h p r) ≡ false
framed_header keeps h p (Ok header) = framed_begun keeps h p header
framed_header keeps h p (Err code) = refl

framed_piece : (keeps : Bool) (h : ℕ) (p : Publish) (properties : Properties) (size : ℕ) (body : Text) (piece : List ℕ) → is_head_made (taken_piece keeps h p properties size body piece) ≡ false
framed_piece true h p properties size body piece = framed_body h p properties size (body ++ piece)
framed_piece false h p properties size body piece = framed_dropped h size (length body + length piece)

framed_sized : (keeps : Bool) (p : Publish) (f : Frame) (r : Result ℕ ℕ) (taken : Taken) → TakesSized keeps p f r taken → is_head_made taken ≡ false
framed_sized keeps p f (Ok size) taken t = from_either (is_too_large f.payload size) (λ e. ap is_head_made e ∙ framed_dropped f.channel size 0) (λ e. ap is_head_made e.2 ∙ framed_header keeps f.channel p e.0) t
framed_sized keeps p f (Err code) taken t = ap is_head_made t

framed_payload : (keeps : Bool) (p : Pending) (f : Frame) (taken : Taken) → TakesPayload keeps p f taken → is_head_made taken ≡ false
framed_payload keeps Nothing f taken t = ap is_head_made t.2 ∙ framed_method keeps f.channel t.0
framed_payload keeps (Wants_header p) f taken t = framed_sized keeps p f t.0 taken t.2
framed_payload keeps (Wants_body p properties size body) f taken t = ap is_head_made t ∙ framed_piece keeps f.channel p properties size body f.payload
framed_payload keeps (Drops size count) f taken t = ap is_head_made t ∙ framed_dropped f.channel size (count + length f.payload)

framed : (keeps : Bool) (p : Pending) (f : Frame) (taken : Taken) → TakesOn keeps p f taken → is_head_made taken ≡ false
framed keeps p f taken = from_either (f.kind == 8) (λ e. ap is_head_made e ∙ framed_heartbeat p f)
    (from_either (is_on_wrong_channel f) (λ e. ap is_head_made e) (from_either (f.kind == awaited p) (framed_payload keeps p f taken) (λ e. ap is_head_made e)))

pub frames_read : {s next : Stream} {c : Command} → s.is_new ≡ false → Yields s c next → ReadsFrames c next
frames_read n (first t) = absurd (false≢true (sym n ∙ t.awaited))
frames_read n (now {s = s} {next = next} {c = c} t) = record { framed = framed s.keeps (s.pending t.frame.channel) t.frame (Makes c) t.effect; begun = ap (λ (z : Stream). z.is_new) t.left ∙ n }
frames_read n (later t y) = frames_read (ap (λ (z : Stream). z.is_new) t.left ∙ n) y

pub head_read : {s next : Stream} {c : Command} → s.is_new ≡ true → Yields s c next → ReadsHead s c next
head_read n (first {bytes = bytes} t) = record { bytes = bytes; is = refl; takes = t }
head_read n (now t) = absurd (false≢true (sym t.begun ∙ n))
head_read n (later t y) = absurd (false≢true (sym t.begun ∙ n))

pub head_awaited : {s : Stream} {end : Option ℕ} → s.is_new ≡ true → Ends s end → (end ≡ None) × (length s.unread < 8)
head_awaited n (early is few) = (refl, few)
head_awaited n (short is a b) = absurd (false≢true (sym is ∙ n))
head_awaited n (broken is b) = absurd (false≢true (sym is ∙ n))
head_awaited n (faulty t) = absurd (false≢true (sym t.begun ∙ n))
head_awaited n (beyond t e) = absurd (false≢true (sym t.begun ∙ n))

pub first_bytes : FirstBytesComeFirst
first_bytes = record { head = λ s next c n y. head_read n y; awaits = λ s end n e. head_awaited n e; frames = λ s next c n y. frames_read n y }
