-- An arrival of one connection leaves the others as they were, and so what is due of them.
use Rattle.serving.proofs.Names.{◌≡◌, ◌≢◌, ℕ, ◌+◌, List, [], ◌∷◌, ◌++◌, Bool, true, false, drop, suc, zero, slice_index_or, append_assoc, Option, Some, None, length, refl, sym, ap, subst, ◌∙◌, flat_map, inl, inr, arith, get_or-drop, nat_lt, MatchBool, ◌&&◌, if◌then◌else◌, Session, State, Happening, Occurrence, opened_stream, World, Wire, Works, none_more, one_more, Waits, WorksOff, Answers, TakesOutput, TakesAndWorks, Loses, Same, with_heard, is_over, is_gone, is_past_bound, is_ended, is_awake, has_output, Opens, Delivers, Ask, To_read, To_write, FallsShort, At, OthersStay, IsFit, read_of, write_of, Peer, Lacks}
use Rattle.std.proofs.Common.{not, drop-drop}
use Rattle.runs.proofs.Places.{with_other}
use Rattle.runs.proofs.Steps.{settled}
use Rattle.model.specs.declared.events.Arrival.TheVariants as arrival
use Rattle.model.specs.declared.events.Event.TheVariants as event

pub apart_not : (c : ℕ) (w : World) → OthersStay c w w
apart_not c w = record { wires = λ d ne. refl; sessions = λ d ne. refl }

pub apart_then : (c : ℕ) (a b d : World) → OthersStay c a b → OthersStay c b d → OthersStay c a d
apart_then c a b d p q = record { wires = λ x ne. q.wires x ne ∙ p.wires x ne; sessions = λ x ne. q.sessions x ne ∙ p.sessions x ne }

apart_waits : (c : ℕ) (a b : World) → Waits a c b → OthersStay c a b
apart_waits c a b w = record { wires = w.others; sessions = λ d ne. ap (λ (s : State). s.session d) w.state }

apart_works : (c : ℕ) (a b : World) (hs : List Happening) → Works c a hs b → OthersStay c a b
apart_works c a b hs none_more = apart_not c a
apart_works c a b hs (one_more {mid = m} {first = f} {rest = r} t rest e) = apart_then c a m b (record { wires = t.puts.others; sessions = t.puts.rests }) (apart_works c m b r rest)

apart_works_off : (c : ℕ) (a m b : World) (hs : List Happening) → Works c a hs m → Waits m c b → OthersStay c a b
apart_works_off c a m b hs w v = apart_then c a m b (apart_works c a m hs w) (apart_waits c m b v)

apart_same : (c : ℕ) (a b : World) → Same a b → OthersStay c a b
apart_same c a b s = record { wires = λ d ne. s.wires d; sessions = λ d ne. ap (λ (z : State). z.session d) s.state }

apart_heard : (c : ℕ) (a : World) (bytes : List ℕ) → OthersStay c a (with_heard a c bytes)
apart_heard c a bytes = record { wires = λ d ne. with_other a.wire c d _ ne; sessions = λ d ne. refl }

apart_takes : (c n : ℕ) (a b : World) (hs : List Happening) → TakesOutput a c n hs b → OthersStay c a b
apart_takes c n a b hs t = record { wires = λ d ne. t.wires d ∙ with_other a.wire c d _ ne; sessions = λ d ne. (settled a.config a.state b.state c _ _ hs t.pauses).sessions d }

-- an arrival does nothing, or this
either : (c : ℕ) (a b : World) (P : Type 0) (hs : List Happening) (x : Bool) → (P → OthersStay c a b) → MatchBool x ((hs ≡ []) × Same a b) P → OthersStay c a b
either c a b P hs true f p = apart_same c a b p.1
either c a b P hs false f p = f p

pub apart_lose : (c : ℕ) (a b : World) → (os : List Occurrence) × Answers a (arrival.Lose c) os b → OthersStay c a b
apart_lose c a b (os, (hs, e, p)) = either c a b _ hs (is_gone a c) (λ (l : Loses a c hs b). record { wires = λ d ne. l.wires d ∙ with_other a.wire c d _ ne; sessions = λ d ne. l.happens.stepped.session d ∙ with_other a.state.session c d _ ne }) p

pub apart_delivered : (c : ℕ) (a b : World) (hs : List Happening) → Delivers a c hs b → OthersStay c a b
apart_delivered c a b hs d = record { wires = d.puts.others; sessions = d.puts.rests }

pub apart_open : (a b : World) (hs : List Happening) → Opens a (event.Open (a.given + 1)) opened_stream hs b → OthersStay (a.given + 1) a b
apart_open a b hs o = record { wires = λ d ne. o.wires d ∙ with_other a.wire (a.given + 1) d _ ne; sessions = λ d ne. o.happens.stepped.steps.session d ∙ with_other a.state.session (a.given + 1) d _ ne }

pub apart_in : (c : ℕ) (a b : World) (bytes : List ℕ) → (os : List Occurrence) × Answers a (arrival.In c bytes) os b → OthersStay c a b
apart_in c a b bytes (os, (hs, e, p)) =
    either c a b _ hs (is_over a c) (λ (l : WorksOff (with_heard a c bytes) c hs b).
    apart_then c a (with_heard a c bytes) b (apart_heard c a bytes) (apart_works_off c (with_heard a c bytes) l.mid b hs l.works l.waits)) p

pub apart_in_part : (L : Lacks) (c : ℕ) (a b : World) (bytes : List ℕ) → (hs : List Happening) × FallsShort L a (arrival.In c bytes) hs b → OthersStay c a b
apart_in_part L c a b bytes (hs, inl p) = apart_same c a b p.1.1
apart_in_part L c a b bytes (hs, inr l) = apart_then c a (with_heard a c bytes) b (apart_heard c a bytes) (apart_works_off c (with_heard a c bytes) l.mid b hs l.works l.waits)

pub apart_sent : (c n : ℕ) (a b : World) → (os : List Occurrence) × Answers a (arrival.Sent c n) os b → OthersStay c a b
apart_sent c n a b (os, (hs, e, p)) =
    either c a b _ hs (is_gone a c) (λ (l : TakesAndWorks a c n hs b). apart_then c a l.mid b (apart_takes c n a l.mid l.first l.takes) (apart_works_off c l.mid l.works.mid b l.rest l.works.works l.works.waits)) p

pub apart_sent_part : (L : Lacks) (c n : ℕ) (a b : World) → (hs : List Happening) × FallsShort L a (arrival.Sent c n) hs b → OthersStay c a b
apart_sent_part L c n a b (hs, l) = apart_then c a l.mid b (apart_takes c n a l.mid l.first l.takes) (apart_works_off c l.mid l.works.mid b l.rest l.works.works l.works.waits)

-- ---- what is due

-- c has none of these slots
abbrev pub IsAbsent : ℕ → List (Option Peer) → Type 0
IsAbsent c ps = (i : ℕ) (q : Peer) → At ps i q → q.connection ≢ c

-- behind its own slot no connection has another
pub absent_behind : (w : World) (ps : List (Option Peer)) (i : ℕ) (p : Peer) → IsFit w ps → At ps i p → IsAbsent p.connection (drop (i + 1) ps)
absent_behind w ps i p fit at j q there e =
    let found : At ps (i + 1 + j) q = sym (get_or-drop (i + 1) ps j None) ∙ there in
    let same : i ≡ i + 1 + j = fit.distinct i (i + 1 + j) p q at found (sym e) in
    absurd (omega (arith, same))

-- of this connection the phase and the output stay
pub record StaysFor (c : ℕ) (old new : World) : Type 0 where
  pub wire : new.wire c ≡ old.wire c
  pub session : new.state.session c ≡ old.state.session c

pub others_stay : (c : ℕ) (a b : World) → OthersStay c a b → (d : ℕ) → d ≢ c → StaysFor d a b
others_stay c a b p d ne = record { wire = p.wires d ne; session = p.sessions d ne }

pub same_stays : (a b : World) → Same a b → (d : ℕ) → StaysFor d a b
same_stays a b s d = record { wire = s.wires d; session = ap (λ (z : State). z.session d) s.state }

pub output_stays : (a b : World) (d : ℕ) → StaysFor d a b → has_output b d ≡ has_output a d
output_stays a b d p = ap (λ (w : Wire). nat_lt 0 (length w.output)) p.wire

pub awake_stays : (a b : World) (d : ℕ) → StaysFor d a b → is_awake b d ≡ is_awake a d
awake_stays a b d p =
    ap (λ (s : Session). not (is_ended s.phase) && not (is_past_bound (b.wire d).output)) p.session
    ∙ ap (λ (w : Wire). not (is_ended (a.state.session d).phase) && not (is_past_bound w.output)) p.wire

pub gone_stays : (a b : World) (d : ℕ) → StaysFor d a b → is_gone b d ≡ is_gone a d
gone_stays a b d p =
    ap (λ (s : Session). is_ended s.phase && not (has_output b d)) p.session
    ∙ ap (λ (x : Bool). is_over a d && not x) (output_stays a b d p)

reads_as : (c : ℕ) (a b : World) → OthersStay c a b → (ps : List (Option Peer)) → IsAbsent c ps → flat_map (read_of b) ps ≡ flat_map (read_of a) ps
reads_as c a b p [] absent = refl
reads_as c a b p (None ∷ ps) absent = reads_as c a b p ps (λ i q at. absent (suc i) q at)
reads_as c a b p (Some q ∷ ps) absent =
    ap (λ (x : Bool). (if x then To_read q.socket ∷ [] else []) ++ flat_map (read_of b) ps) (awake_stays a b q.connection (others_stay c a b p q.connection (absent 0 q refl)))
    ∙ ap (λ (xs : List Ask). read_of a (Some q) ++ xs) (reads_as c a b p ps (λ i r at. absent (suc i) r at))

-- the same behind its own slot
pub reads_behind : (a b : World) (ps : List (Option Peer)) (i : ℕ) (p : Peer) → OthersStay p.connection a b → IsFit a ps → At ps i p → flat_map (read_of b) (drop (i + 1) ps) ≡ flat_map (read_of a) (drop (i + 1) ps)
reads_behind a b ps i p others fit at = reads_as p.connection a b others (drop (i + 1) ps) (absent_behind a ps i p fit at)

pub writes_as : (c : ℕ) (a b : World) → OthersStay c a b → (ps : List (Option Peer)) → IsAbsent c ps → flat_map (write_of b) ps ≡ flat_map (write_of a) ps
writes_as c a b p [] absent = refl
writes_as c a b p (None ∷ ps) absent = writes_as c a b p ps (λ i q at. absent (suc i) q at)
writes_as c a b p (Some q ∷ ps) absent =
    ap (λ (w : Wire). (if nat_lt 0 (length w.output) then To_write q.socket w.output ∷ [] else []) ++ flat_map (write_of b) ps) (others_stay c a b p q.connection (absent 0 q refl)).wire
    ∙ ap (λ (xs : List Ask). write_of a (Some q) ++ xs) (writes_as c a b p ps (λ i r at. absent (suc i) r at))

-- ---- slot by slot

-- what is due of the slots from i on is what is due of slot i, and of those behind it
pub due_at : (f : Option Peer → List Ask) → f None ≡ [] → (ps : List (Option Peer)) (i : ℕ) → flat_map f (drop i ps) ≡ f (slice_index_or ps i None) ++ flat_map f (drop (suc i) ps)
due_at f e [] zero = ap (λ (z : List Ask). z ++ []) (sym e)
due_at f e [] (suc i) = ap (λ (z : List Ask). z ++ []) (sym e)
due_at f e (p ∷ ps) zero = refl
due_at f e (p ∷ ps) (suc i) = due_at f e ps i

-- slots that agree from i on agree behind it
pub later_on : (start now : List (Option Peer)) (i : ℕ) → drop i now ≡ drop i start → drop (i + 1) now ≡ drop (i + 1) start
later_on start now i e = sym (drop-drop 1 i now) ∙ ap (drop 1) e ∙ drop-drop 1 i start

-- one more slot was looked at: what was asked, with what the rest are due, stays the same
pub due_on : (f g : Option Peer → List Ask) → f None ≡ [] → (start now : List (Option Peer)) (i : ℕ) (asked due : List Ask) → drop i now ≡ drop i start
    → flat_map g (drop (i + 1) now) ≡ flat_map f (drop (i + 1) now) → asked ++ flat_map f (drop i start) ≡ due
    → (asked ++ f (slice_index_or now i None)) ++ flat_map g (drop (i + 1) start) ≡ due
due_on f g e start now i asked due same stays all =
    let next : suc i ≡ i + 1 = omega arith in
    let rest : flat_map g (drop (i + 1) start) ≡ flat_map f (drop (i + 1) start) = subst (λ (ps : List (Option Peer)). flat_map g ps ≡ flat_map f ps) (later_on start now i same) stays in
    let first : i + 0 ≡ i = omega arith in
    let here : slice_index_or now i None ≡ slice_index_or start i None =
    subst (λ (k : ℕ). slice_index_or now k None ≡ slice_index_or start k None) first (sym (get_or-drop i now 0 None) ∙ ap (λ (ps : List (Option Peer)). slice_index_or ps 0 None) same ∙ get_or-drop i start 0 None) in
    let split : flat_map f (drop i start) ≡ f (slice_index_or start i None) ++ flat_map f (drop (i + 1) start) =
    due_at f e start i ∙ ap (λ (k : ℕ). f (slice_index_or start i None) ++ flat_map f (drop k start)) next in
    ap (λ (z : List Ask). (asked ++ f (slice_index_or now i None)) ++ z) rest
    ∙ ap (λ (o : Option Peer). (asked ++ f o) ++ flat_map f (drop (i + 1) start)) here
    ∙ append_assoc asked (f (slice_index_or start i None)) (flat_map f (drop (i + 1) start))
    ∙ ap (λ (z : List Ask). asked ++ z) (sym split) ∙ all
