-- What each happening adds to what is written down.
use Rattle.runs.proofs.Names.{◌≡◌, ◌≢◌, ℕ, ◌+◌, ◌≤◌, List, [], ◌∷◌, ◌++◌, Bool, true, false, cond, not, eqb, length, map, take, drop, refl, sym, ap, subst, ◌∙◌, arith, append-nil, append_assoc, eq-eqb, ne_eqb, inl, inr, is_some, Config, State, Session, no_session, is_running, with_one, Happening, notes_of, put_out, Occurrence, Of_event, events_of, noted_at, notes_over, Stream, World, Wire, Shown, Seen, is_over, is_paused, is_ended, Pauses, Happens, Puts, Turns, Waits, Same, with_heard, TakesOutput, Opens, Delivers, delivers, Loses, Reloads, IsSound, consistent_same, turns_consistent, takes_consistent, pumps_consistent, loses_consistent, reloads_consistent, Note, taken_at, gathered, with_opened, AreUnopened, Records, RecordsEvents}
use Rattle.std.specs.List.{AllByRecursion}
use Rattle.std.proofs.lemmas.Bool.{and_parts, eqb-true, eqb-false, false≢true, not-true}
use Rattle.std.proofs.lemmas.List.{take-append-drop}
use Rattle.std.proofs.lemmas.List.Concat.{flat_map-append}
use Rattle.model.specs.Spelling.{receiver, sends_to, spelling}
use Rattle.model.specs.Consistent.{IsConsistent}
use Rattle.laws.proofs.Histories.{events-append, events-mapped}
use Rattle.laws.proofs.Reloading.{all_marked, state_left}
use Rattle.model.specs.declared.events.Phase.{Phase}
use Rattle.model.specs.declared.events.Phase.TheVariants as phase
use Rattle.model.specs.declared.events.Send.{Send}
use Rattle.model.specs.declared.events.Event.{Event}
use Rattle.model.specs.declared.events.Event.TheVariants as event
use Rattle.runs.proofs.Worlds.{world_same}
use Rattle.runs.proofs.Places.{with_here, with_other, length-gathered, taken_here, taken_other, taken_opened, take_nothing, drop_nothing}

notes-append : (os ps : List Occurrence) → notes_over (os ++ ps) ≡ notes_over os ++ notes_over ps
notes-append [] ps = refl
notes-append (o ∷ os) ps = ap (λ (ns : List Note). noted_at o ++ ns) (notes-append os ps) ∙ sym (append_assoc (noted_at o) (notes_over os) (notes_over ps))

notes-mapped : (hs : List Happening) → notes_over (map Of_event hs) ≡ notes_of hs
notes-mapped [] = refl
notes-mapped (h ∷ hs) = ap (λ (ns : List Note). h.notes ++ ns) (notes-mapped hs)

pub put_out-append : (c : ℕ) (hs ks : List Happening) → put_out c (hs ++ ks) ≡ put_out c hs ++ put_out c ks
put_out-append c hs ks = flat_map-append (λ (h : Happening). spelling h.frame_max (sends_to c h.sends)) hs ks

-- ---- Tells

pub tells_then : (a b d : World) (s t u : Seen) (os ps : List Occurrence) → RecordsEvents a s os b t → RecordsEvents b t ps d u → RecordsEvents a s (os ++ ps) d u
tells_then a b d s t u os ps p q = record {
  keeps = λ done r. subst (λ (z : List Occurrence). Records z d u) (append_assoc done os ps) (q.keeps (done ++ os) (p.keeps done r));
}

pub tells_not : (a : World) (s : Seen) → RecordsEvents a s [] a s
tells_not a s = record { keeps = λ done r. subst (λ (z : List Occurrence). Records z a s) (sym (append-nil done)) r }

tells_by : (old new : World) (seen after : Seen) (hs : List Happening)
    → after.notes ≡ seen.notes ++ notes_of hs
    → (length seen.connections ≡ old.given → length after.connections ≡ new.given)
    → (IsConsistent old → IsConsistent new)
    → (IsConsistent old → AreUnopened old → AreUnopened new)
    → ((i : ℕ) → length seen.connections ≡ old.given → AreUnopened old
    → taken_at after.connections i ++ (new.wire (i + 1)).output ≡ (taken_at seen.connections i ++ (old.wire (i + 1)).output) ++ put_out (i + 1) hs)
    → RecordsEvents old seen (map Of_event hs) new after
tells_by old new seen after hs noted counted consistent unopened local = record {
  keeps = λ done r. record {
    noted = noted ∙ ap (λ (z : List Note). z ++ notes_of hs) r.noted ∙ ap (λ (z : List Note). notes_over done ++ z) (sym (notes-mapped hs)) ∙ sym (notes-append done (map Of_event hs));
    counted = counted r.counted;
    each = λ i.
        local i r.counted r.unopened
        ∙ ap (λ (z : List ℕ). z ++ put_out (i + 1) hs) (r.each i)
        ∙ sym (put_out-append (i + 1) (events_of done) hs)
        ∙ ap (put_out (i + 1)) (sym (events-append done (map Of_event hs) ∙ ap (λ (z : List Happening). events_of done ++ z) (events-mapped hs)));
    unopened = unopened r.consistent r.unopened;
    consistent = consistent r.consistent;
  };
}

pub tells_same : (a b : World) (s : Seen) → Same a b → RecordsEvents a s [] b s
tells_same a b s same = subst (λ (w : World). RecordsEvents a s [] w s) (sym (world_same a b same)) (tells_not a s)

-- ---- what puts nothing out

pub record IsQuiet (hs : List Happening) : Type 0 where
  pub noted : notes_of hs ≡ []
  pub silent : (d : ℕ) → put_out d hs ≡ []

pub quiet_none : (hs : List Happening) → hs ≡ [] → IsQuiet hs
quiet_none hs e = record { noted = ap notes_of e; silent = λ d. ap (put_out d) e }

pub quiet_one : (h : Happening) (hs : List Happening) → hs ≡ h ∷ [] → h.notes ≡ [] → h.sends ≡ [] → IsQuiet hs
quiet_one h hs e noted silent = record {
  noted = ap notes_of e ∙ append-nil h.notes ∙ noted;
  silent = λ d. ap (put_out d) e ∙ append-nil (spelling h.frame_max (sends_to d h.sends)) ∙ ap (λ (z : List Send). spelling h.frame_max (sends_to d z)) silent;
}

-- a pause or a resumption puts nothing out, and each session stays
pub record Settled (mid : State) (hs : List Happening) (new : State) : Type 0 where
  pub quiet : IsQuiet hs
  pub sessions : (d : ℕ) → new.session d ≡ mid.session d

settled_none : (mid new : State) (hs : List Happening) → (hs ≡ []) × (new ≡ mid) → Settled mid hs new
settled_none mid new hs p = record { quiet = quiet_none hs p.0; sessions = λ d. ap (λ (z : State). z.session d) p.1 }

pauses : (f : Config) (mid new : State) (c : ℕ) (h : Happening) (hs : List Happening) → hs ≡ h ∷ [] → Happens f mid (event.Pause c) h new → Settled mid hs new
pauses f mid new c h hs e p = record { quiet = quiet_one h hs e p.stepped.acts.noted p.stepped.acts.sent; sessions = p.stepped.session }

resumes : (f : Config) (mid new : State) (c : ℕ) (h : Happening) (hs : List Happening) → hs ≡ h ∷ [] → Happens f mid (event.Resume c) h new → Settled mid hs new
resumes f mid new c h hs e p = record { quiet = quiet_one h hs e p.stepped.acts.noted p.stepped.acts.sent; sessions = p.stepped.session }

pub settled : (f : Config) (mid new : State) (c : ℕ) (was is : Bool) (hs : List Happening) → Pauses f mid c was is hs new → Settled mid hs new
settled f mid new c false true hs (h, e, p) = pauses f mid new c h hs e p
settled f mid new c true false hs (h, e, p) = resumes f mid new c h hs e p
settled f mid new c true true hs p = settled_none mid new hs p
settled f mid new c false false hs p = settled_none mid new hs p

-- ---- a turn

own_sends : (c : ℕ) (sends : List Send) → AllByRecursion (λ s. receiver s ≡ c) sends → sends_to c sends ≡ sends
own_sends c [] a = refl
own_sends c (s ∷ sends) a =
    ap (λ (b : Bool). cond b (s ∷ sends_to c sends) (sends_to c sends)) (eq-eqb (receiver s) c a.0) ∙ ap (λ (z : List Send). s ∷ z) (own_sends c sends a.1)

other_sends : (c d : ℕ) (sends : List Send) → d ≢ c → AllByRecursion (λ s. receiver s ≡ c) sends → sends_to d sends ≡ []
other_sends c d [] ne a = refl
other_sends c d (s ∷ sends) ne a =
    ap (λ (b : Bool). cond b (s ∷ sends_to d sends) (sends_to d sends)) (ne_eqb (receiver s) d (λ e. ne (sym e ∙ a.0))) ∙ other_sends c d sends ne a.1

puts_all : (a b : World) (e : Event) (c : ℕ) (hs : List Happening) (d : ℕ) (p : Puts a e c hs b) → put_out d hs ≡ spelling p.h.frame_max (sends_to d p.h.sends)
puts_all a b e c hs d p =
    ap (put_out d) p.all ∙ ap (λ (z : List ℕ). spelling p.h.frame_max (sends_to d p.h.sends) ++ z) ((settled a.config p.mid b.state c _ _ p.rest p.pauses).quiet.silent d)
    ∙ append-nil (spelling p.h.frame_max (sends_to d p.h.sends))

puts_here : (a b : World) (e : Event) (c : ℕ) (hs : List Happening) → Puts a e c hs b → (b.wire c).output ≡ (a.wire c).output ++ put_out c hs
puts_here a b e c hs p =
    p.output ∙ ap (λ (z : List ℕ). (a.wire c).output ++ z) (ap (spelling p.h.frame_max) (sym (own_sends c p.h.sends p.own)) ∙ sym (puts_all a b e c hs c p))

puts_there : (a b : World) (e : Event) (c : ℕ) (hs : List Happening) (d : ℕ) → d ≢ c → Puts a e c hs b → (b.wire d).output ≡ (a.wire d).output ++ put_out d hs
puts_there a b e c hs d ne p =
    ap (λ (w : Wire). w.output) (p.others d ne) ∙ sym (append-nil (a.wire d).output)
    ∙ ap (λ (z : List ℕ). (a.wire d).output ++ z) (sym (puts_all a b e c hs d p ∙ ap (spelling p.h.frame_max) (other_sends c d p.h.sends ne p.own)))

pub puts_each : (a b : World) (e : Event) (c : ℕ) (hs : List Happening) (d : ℕ) → Puts a e c hs b → (b.wire d).output ≡ (a.wire d).output ++ put_out d hs
puts_each a b e c hs d p = go (eqb d c) refl
  where
    go : (x : Bool) → eqb d c ≡ x → (b.wire d).output ≡ (a.wire d).output ++ put_out d hs
    go true q = subst (λ (n : ℕ). (b.wire n).output ≡ (a.wire n).output ++ put_out n hs) (sym (eqb-true d c q)) (puts_here a b e c hs p)
    go false q = puts_there a b e c hs d (eqb-false d c q) p

-- of one that is over nothing is performed
pub turns_apart : (a b : World) (c : ℕ) (hs : List Happening) (d : ℕ) → Turns a c hs b → is_over a d ≡ true → d ≢ c
turns_apart a b c hs d t over e = false≢true (sym (not-true (is_over a c) (and_parts (not (is_over a c)) (not (is_paused a c)) t.awake).0) ∙ ap (is_over a) (sym e) ∙ over)

-- what is put out is told, where nothing is put out for one that is over
tells_puts : (a b : World) (e : Event) (c : ℕ) (hs : List Happening) (s : Seen) (notes : List Note) → notes ≡ notes_of hs → Puts a e c hs b → b.given ≡ a.given → (IsConsistent a → IsConsistent b)
    → (IsConsistent a → (d : ℕ) → is_over a d ≡ true → d ≢ c) → RecordsEvents a s (map Of_event hs) b (record s { notes = s.notes ++ notes })
tells_puts a b e c hs s notes noted p given consistent apart =
    tells_by a b s (record s { notes = s.notes ++ notes }) hs
    (ap (λ (z : List Note). s.notes ++ z) noted)
    (λ n. n ∙ sym given)
    consistent
    (λ k none i le.
    let was = none i (subst (λ (n : ℕ). n ≤ i) given le) in
    let ne = apart k (i + 1) was.1 in
    (ap (λ (w : Wire). w.output) (p.others (i + 1) ne) ∙ was.0, ap (λ (z : Session). is_ended z.phase) (p.rests (i + 1) ne) ∙ was.1))
    (λ i n none. ap (λ (z : List ℕ). taken_at s.connections i ++ z) (puts_each a b e c hs (i + 1) p) ∙ sym (append_assoc (taken_at s.connections i) (a.wire (i + 1)).output (put_out (i + 1) hs)))

pub tells_turns : (a b : World) (c : ℕ) (hs : List Happening) (s : Seen) (notes : List Note) → notes ≡ notes_of hs → Turns a c hs b → RecordsEvents a s (map Of_event hs) b (record s { notes = s.notes ++ notes })
tells_turns a b c hs s notes noted t = tells_puts a b t.event c hs s notes noted t.puts t.given (λ k. turns_consistent a b c hs k t) (λ k d. turns_apart a b c hs d t)

-- ---- a delivery

-- a connection of the broker is not over
runs_apart : (b : Bool) (p : Phase) → b ≡ is_running p → b ≡ true → is_ended p ≡ true → ⊥
runs_apart b phase.Header is e over = false≢true over
runs_apart b phase.Start is e over = false≢true over
runs_apart b phase.Tune is e over = false≢true over
runs_apart b phase.Open is e over = false≢true over
runs_apart b phase.Running is e over = false≢true over
runs_apart b phase.Closing is e over = false≢true over
runs_apart b phase.Over is e over = false≢true (sym is ∙ e)

-- to one that is over nothing is delivered
pub delivers_apart : (a b : World) (c : ℕ) (hs : List Happening) (d : ℕ) → IsConsistent a → Delivers a c hs b → is_over a d ≡ true → d ≢ c
delivers_apart a b c hs d k v over e = runs_apart _ (a.state.session c).phase (k.running c) (ap is_some v.puts.happens.stepped.acts.made.taker.runs) (ap (is_over a) (sym e) ∙ over)

pub tells_delivers : (a b : World) (c : ℕ) (hs : List Happening) (s : Seen) (notes : List Note) → notes ≡ notes_of hs → Delivers a c hs b → RecordsEvents a s (map Of_event hs) b (record s { notes = s.notes ++ notes })
tells_delivers a b c hs s notes noted v = tells_puts a b (event.Deliver c) c hs s notes noted v.puts v.given (λ k. pumps_consistent a b hs k (delivers v)) (λ k d. delivers_apart a b c hs d k v)

-- ---- nothing happens, and no output changes

tells_idle : (a b : World) (s : Seen) → b.given ≡ a.given → b.config ≡ a.config → b.state ≡ a.state → ((d : ℕ) → (b.wire d).output ≡ (a.wire d).output) → RecordsEvents a s [] b s
tells_idle a b s given config state outputs =
    tells_by a b s s []
    (sym (append-nil s.notes))
    (λ n. n ∙ sym given)
    (λ k. consistent_same a b k config state outputs)
    (λ k none i le. let was = none i (subst (λ (n : ℕ). n ≤ i) given le) in (outputs (i + 1) ∙ was.0, ap (λ (z : State). is_ended (z.session (i + 1)).phase) state ∙ was.1))
    (λ i n none. ap (λ (z : List ℕ). taken_at s.connections i ++ z) (outputs (i + 1)) ∙ sym (append-nil (taken_at s.connections i ++ (a.wire (i + 1)).output)))

pub tells_waits : (a b : World) (c : ℕ) (s : Seen) → Waits a c b → RecordsEvents a s [] b s
tells_waits a b c s v = tells_idle a b s v.given v.config v.state (λ d. go d (eqb d c) refl)
  where
    go : (d : ℕ) (x : Bool) → eqb d c ≡ x → (b.wire d).output ≡ (a.wire d).output
    go d true q = subst (λ (n : ℕ). (b.wire n).output ≡ (a.wire n).output) (sym (eqb-true d c q)) v.output
    go d false q = ap (λ (w : Wire). w.output) (v.others d (eqb-false d c q))

pub tells_heard : (a : World) (c : ℕ) (bytes : List ℕ) (s : Seen) → RecordsEvents a s [] (with_heard a c bytes) s
tells_heard a c bytes s = tells_idle a (with_heard a c bytes) s refl refl refl (λ d. go d (eqb d c) refl)
  where
    go : (d : ℕ) (x : Bool) → eqb d c ≡ x → ((with_heard a c bytes).wire d).output ≡ (a.wire d).output
    go d true q = ap (λ (w : Wire). w.output) (with_here a.wire c d _ (eqb-true d c q)) ∙ ap (λ (n : ℕ). (a.wire n).output) (sym (eqb-true d c q))
    go d false q = ap (λ (w : Wire). w.output) (with_other a.wire c d _ (eqb-false d c q))

-- ---- output is taken, connections are opened and lost

-- a quiet happening adds no note
quiet_notes : (hs : List Happening) (notes : List Note) → IsQuiet hs → notes ≡ notes ++ notes_of hs
quiet_notes hs notes q = sym (append-nil notes) ∙ ap (λ (z : List Note). notes ++ z) (sym q.noted)

-- nor bytes
quiet_bytes : (hs : List Happening) (d : ℕ) (bytes out : List ℕ) → IsQuiet hs → bytes ≡ out → bytes ≡ out ++ put_out d hs
quiet_bytes hs d bytes out q e = e ∙ sym (append-nil out) ∙ ap (λ (z : List ℕ). out ++ z) (sym (q.silent d))

-- what was gathered of c is what left its output
gathered_each : (a b : World) (c : ℕ) (bytes left : List ℕ) (ss : List Shown) (hs : List Happening) → IsQuiet hs → bytes ++ left ≡ (a.wire c).output → ((a.wire c).output ≡ [] → bytes ≡ [])
    → (b.wire c).output ≡ left → ((d : ℕ) → d ≢ c → (b.wire d).output ≡ (a.wire d).output) → (i : ℕ) → length ss ≡ a.given → AreUnopened a
    → taken_at (gathered ss c bytes) i ++ (b.wire (i + 1)).output ≡ (taken_at ss i ++ (a.wire (i + 1)).output) ++ put_out (i + 1) hs
gathered_each a b c bytes left ss hs quiet parts nothing here there i counted none = quiet_bytes hs (i + 1) _ _ quiet (go (eqb (i + 1) c) refl)
  where
    go : (x : Bool) → eqb (i + 1) c ≡ x → taken_at (gathered ss c bytes) i ++ (b.wire (i + 1)).output ≡ taken_at ss i ++ (a.wire (i + 1)).output
    go true q =
        let e : i + 1 ≡ c = eqb-true (i + 1) c q in
        let fresh : length ss ≤ i → bytes ≡ [] = λ le. nothing (ap (λ (n : ℕ). (a.wire n).output) (sym e) ∙ (none i (subst (λ (n : ℕ). n ≤ i) counted le)).0) in
        ap (λ (z : List ℕ). z ++ (b.wire (i + 1)).output) (taken_here ss c i bytes e fresh) ∙ append_assoc (taken_at ss i) bytes (b.wire (i + 1)).output
        ∙ ap (λ (z : List ℕ). taken_at ss i ++ z) (ap (λ (z : List ℕ). bytes ++ z) (ap (λ (n : ℕ). (b.wire n).output) e ∙ here) ∙ parts ∙ ap (λ (n : ℕ). (a.wire n).output) (sym e))
    go false q =
        let ne : i + 1 ≢ c = eqb-false (i + 1) c q in
        ap (λ (z : List ℕ). z ++ (b.wire (i + 1)).output) (taken_other ss c i bytes ne) ∙ ap (λ (z : List ℕ). taken_at ss i ++ z) (there (i + 1) ne)

-- numbers that were not given stay so
unopened_still : (a b : World) (c : ℕ) → b.given ≡ a.given → ((a.wire c).output ≡ [] → (b.wire c).output ≡ []) → (is_over a c ≡ true → is_over b c ≡ true)
    → ((d : ℕ) → d ≢ c → (b.wire d).output ≡ (a.wire d).output) → ((d : ℕ) → d ≢ c → is_over b d ≡ is_over a d) → AreUnopened a → AreUnopened b
unopened_still a b c given here over there others none i le = go (eqb (i + 1) c) refl
  where
    was : ((a.wire (i + 1)).output ≡ []) × (is_over a (i + 1) ≡ true)
    was = none i (subst (λ (n : ℕ). n ≤ i) given le)

    go : (x : Bool) → eqb (i + 1) c ≡ x → ((b.wire (i + 1)).output ≡ []) × (is_over b (i + 1) ≡ true)
    go true q =
        let e : i + 1 ≡ c = eqb-true (i + 1) c q in
        (ap (λ (n : ℕ). (b.wire n).output) e ∙ here (ap (λ (n : ℕ). (a.wire n).output) (sym e) ∙ was.0), ap (is_over b) e ∙ over (ap (is_over a) (sym e) ∙ was.1))
    go false q = let ne : i + 1 ≢ c = eqb-false (i + 1) c q in (there (i + 1) ne ∙ was.0, others (i + 1) ne ∙ was.1)

pub tells_takes : (a b : World) (c n : ℕ) (hs : List Happening) (s : Seen) → TakesOutput a c n hs b → RecordsEvents a s (map Of_event hs) b (record s { connections = gathered s.connections c (take n (a.wire c).output) })
tells_takes a b c n hs s t =
    let out = (a.wire c).output in
    let after = settled a.config a.state b.state c _ _ hs t.pauses in
    let here : (b.wire c).output ≡ drop n out = ap (λ (w : Wire). w.output) (t.wires c ∙ with_here a.wire c c _ refl) in
    let there : (d : ℕ) → d ≢ c → (b.wire d).output ≡ (a.wire d).output = λ d ne. ap (λ (w : Wire). w.output) (t.wires d ∙ with_other a.wire c d _ ne) in
    let over : (d : ℕ) → is_over b d ≡ is_over a d = λ d. ap (λ (z : Session). is_ended z.phase) (after.sessions d) in
    tells_by a b s (record s { connections = gathered s.connections c (take n out) }) hs
    (quiet_notes hs s.notes after.quiet)
    (λ e. length-gathered s.connections c (take n out) ∙ e ∙ sym t.given)
    (λ k. takes_consistent a b c n hs k t)
    (λ k. unopened_still a b c t.given (λ e. here ∙ drop_nothing n out e) (λ e. over c ∙ e) there (λ d ne. over d))
    (gathered_each a b c (take n out) (drop n out) s.connections hs after.quiet (take-append-drop n out) (take_nothing n out) here there)

pub tells_loses : (a b : World) (c : ℕ) (hs : List Happening) (s : Seen) → Loses a c hs b → RecordsEvents a s (map Of_event hs) b (record s { connections = gathered s.connections c (a.wire c).output })
tells_loses a b c hs s l =
    let out = (a.wire c).output in
    let quiet : IsQuiet hs = quiet_one l.h hs l.all l.happens.stepped.acts.noted l.silent in
    let here : (b.wire c).output ≡ [] = ap (λ (w : Wire). w.output) (l.wires c ∙ with_here a.wire c c _ refl) in
    let there : (d : ℕ) → d ≢ c → (b.wire d).output ≡ (a.wire d).output = λ d ne. ap (λ (w : Wire). w.output) (l.wires d ∙ with_other a.wire c d _ ne) in
    let over : is_over b c ≡ true = ap (λ (z : Session). is_ended z.phase) (l.happens.stepped.session c ∙ with_here a.state.session c c no_session refl) in
    let others : (d : ℕ) → d ≢ c → is_over b d ≡ is_over a d = λ d ne. ap (λ (z : Session). is_ended z.phase) (l.happens.stepped.session d ∙ with_other a.state.session c d no_session ne) in
    tells_by a b s (record s { connections = gathered s.connections c out }) hs
    (quiet_notes hs s.notes quiet)
    (λ e. length-gathered s.connections c out ∙ e ∙ sym l.given)
    (λ k. loses_consistent a b c hs k l)
    (λ k. unopened_still a b c l.given (λ e. here) (λ e. over) there others)
    (gathered_each a b c out [] s.connections hs quiet (append-nil out) (λ e. e) here there)

-- an opening by an event that notes nothing, after which the new connection is in this session
pub tells_opens : (a b : World) (e : Event) (st : Stream) (after : Session) (hs : List Happening) (s : Seen) (o : Opens a e st hs b) → o.h.notes ≡ [] → (IsConsistent a → IsConsistent b) → ((d : ℕ) → b.state.session d ≡ with_one a.state.session (a.given + 1) after d)
    → RecordsEvents a s (map Of_event hs) b (record s { connections = with_opened s.connections })
tells_opens a b e st after hs s o noted consistent sessions =
    let quiet : IsQuiet hs = quiet_one o.h hs o.all noted o.silent in
    let here : (b.wire (a.given + 1)).output ≡ [] = ap (λ (w : Wire). w.output) (o.wires (a.given + 1) ∙ with_here a.wire (a.given + 1) (a.given + 1) _ refl) in
    let there : (d : ℕ) → d ≢ a.given + 1 → (b.wire d).output ≡ (a.wire d).output = λ d ne. ap (λ (w : Wire). w.output) (o.wires d ∙ with_other a.wire (a.given + 1) d _ ne) in
    let others : (d : ℕ) → d ≢ a.given + 1 → is_over b d ≡ is_over a d = λ d ne. ap (λ (z : Session). is_ended z.phase) (sessions d ∙ with_other a.state.session (a.given + 1) d after ne) in
    tells_by a b s (record s { connections = with_opened s.connections }) hs
    (quiet_notes hs s.notes quiet)
    (λ e. opened_length s.connections a.given e ∙ sym o.given)
    consistent
    (λ k none i le.
    let more : a.given + 1 ≤ i = subst (λ (n : ℕ). n ≤ i) o.given le in
    let ne : i + 1 ≢ a.given + 1 = λ e. omega arith in
    let was = none i (omega arith) in
    (there (i + 1) ne ∙ was.0, others (i + 1) ne ∙ was.1))
    (λ i e none. quiet_bytes hs (i + 1) _ _ quiet (ap (λ (z : List ℕ). z ++ (b.wire (i + 1)).output) (taken_opened s.connections i) ∙ ap (λ (z : List ℕ). taken_at s.connections i ++ z) (go i none (eqb (i + 1) (a.given + 1)) refl here there)))
  where
    opened_length : (ss : List Shown) (n : ℕ) → length ss ≡ n → length (with_opened ss) ≡ n + 1
    opened_length ss n e = Rattle.std.proofs.Common.length-append ss _ ∙ ap (λ (m : ℕ). m + 1) e

    go : (i : ℕ) → AreUnopened a → (x : Bool) → eqb (i + 1) (a.given + 1) ≡ x → (b.wire (a.given + 1)).output ≡ [] → ((d : ℕ) → d ≢ a.given + 1 → (b.wire d).output ≡ (a.wire d).output) → (b.wire (i + 1)).output ≡ (a.wire (i + 1)).output
    go i none true q here there =
        let e : i + 1 ≡ a.given + 1 = eqb-true (i + 1) (a.given + 1) q in
        let le : a.given ≤ i = omega arith in
        ap (λ (n : ℕ). (b.wire n).output) e ∙ here ∙ sym (none i le).0
    go i none false q here there = there (i + 1) (eqb-false (i + 1) (a.given + 1) q)

-- ---- a reload

-- it changes no session
reloads_sessions : (a b : World) (offered : Config) (os : List Occurrence) → Reloads a offered os b → (c : ℕ) → b.state.session c ≡ a.state.session c
reloads_sessions a b offered os p c = elim (state_left p.r p.decided) [
  | inl e ↦ ap (λ (z : State). z.session c) (sym p.after ∙ e ∙ ap all_marked p.before)
  | inr e ↦ ap (λ (z : State). z.session c) (sym p.after ∙ e ∙ p.before)
]

-- what is noted at it is told, and nothing is put out
pub tells_reloads : (a b : World) (offered : Config) (os : List Occurrence) (s : Seen) (notes : List Note) → IsSound offered → notes ≡ notes_over os → Reloads a offered os b → RecordsEvents a s os b (record s { notes = s.notes ++ notes })
tells_reloads a b offered os s notes sound noted p = record {
  keeps = λ done r. record {
    noted = ap (λ (z : List Note). s.notes ++ z) noted ∙ ap (λ (z : List Note). z ++ notes_over os) r.noted ∙ sym (notes-append done os);
    counted = r.counted ∙ sym p.given;
    each = λ i.
        ap (λ (w : Wire). taken_at s.connections i ++ w.output) (p.wires (i + 1)) ∙ r.each i
        ∙ ap (put_out (i + 1)) (sym (events-append done os ∙ ap (λ (z : List Occurrence). events_of done ++ events_of z) p.all ∙ append-nil (events_of done)));
    unopened = λ i le.
        let was = r.unopened i (subst (λ (n : ℕ). n ≤ i) p.given le) in
        (ap (λ (w : Wire). w.output) (p.wires (i + 1)) ∙ was.0, ap (λ (z : Session). is_ended z.phase) (reloads_sessions a b offered os p (i + 1)) ∙ was.1);
    consistent = reloads_consistent a b offered os sound r.consistent p;
  };
}
