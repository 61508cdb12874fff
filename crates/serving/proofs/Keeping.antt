-- What a server did is one story, in which the promises are kept.
use Rattle.serving.proofs.Names.{◌≡◌, ◌<◌, ℕ, zero, suc, ◌+◌, List, [], ◌∷◌, ◌++◌, Bool, true, false, Option, Some, length, slice_get, refl, sym, ap, subst, ◌∙◌, append_assoc, append-nil, flat_map, map, inl, inr, arith, MatchBool, AllByRecursion, Config, Happening, Occurrence, Of_event, events_of, notes_over, World, new_world, Answers, ByEvents, Same, Shows, shown, Plays, with_heard, IsConsistent, IsSound, Arrival, linked, new_is_consistent, IsOffered, ToldOver, over_told, over_at, over-append, over_plays, events-append, events-mapped, Ask, Traffic, AddsCalls, Attempt, WorksPartly, FallsShort, Attempts, IsWhole, Served, served, Deed, Paused, calls, attempts, DoesDeed, Story, Serves, PumpsUp, RestsUnless, IsRound, Rounds, arrived, arrivals_of, seen_after, seen_of, IsServed, Peer, Lacks}
use Rattle.model.specs.declared.events.Arrival.TheVariants as arrival
use Rattle.laws.proofs.Plays.{Told as ToldOf, told-append, told_at, told_same, told_works, told_waits, told_heard, told_taken}
use Rattle.laws.proofs.Spoken.{Speaks, speaks_same, speaks_append, speaks_at, works_speaks, waits_speaks, takes_speaks, answer_speaks, spoken_from_start}
use Rattle.laws.proofs.Whole.{promises_hold}
use Rattle.serving.proofs.Onward.{tells_none, tells_then, story-append, serves_not}
use Rattle.serving.proofs.Deeds.{same_not}
use Rattle.serving.proofs.Staying.{AllOffered, brings_stays, plays_one, story_offered}
use Rattle.serving.proofs.Joining.{are_joined}
use Rattle.serving.proofs.Flowing.{are_beginnings}
use Rattle.serving.proofs.Counting.{are_counted}

-- ---- what is performed of an arrival that failed to allocate

told_part : {L : Lacks} (c : ℕ) (a b : World) (hs : List Happening) → WorksPartly L a c hs b → ToldOf a hs b
told_part c a b hs l = told_waits c a l.mid b hs (told_works c a l.mid hs l.works) l.waits

told_short : (L : Lacks) (a b : World) (t : Arrival Config) (hs : List Happening) → FallsShort L a t hs b → ToldOf a hs b
told_short L a b arrival.Open hs p = told_same a b hs p
told_short L a b (arrival.Ready k) hs p = told_same a b hs p
told_short L a b (arrival.In c bytes) hs (inl p) = told_same a b hs p.1
told_short L a b (arrival.In c bytes) hs (inr l) = told_heard a b c bytes hs (told_part c (with_heard a c bytes) b hs l)
told_short L a b (arrival.Sent c n) hs l = told_at a b hs (l.first ++ l.rest) l.all (told-append a l.mid b l.first l.rest (told_taken c n a l.mid l.first l.takes) (told_part c l.mid b l.rest l.works))
told_short L a b arrival.Pump hs p = told_same a b hs p.1
told_short L a b (arrival.Lose c) hs p = absurd p
told_short L a b (arrival.Reload g) hs p = told_same a b hs p.1

speaks_part : {L : Lacks} (c : ℕ) (a b : World) (hs : List Happening) → WorksPartly L a c hs b → Speaks a hs b
speaks_part c a b hs l = waits_speaks c a l.mid b hs (works_speaks c a l.mid hs l.works) l.waits

short_speaks : (L : Lacks) (a b : World) (t : Arrival Config) (hs : List Happening) → FallsShort L a t hs b → Speaks a hs b
short_speaks L a b arrival.Open hs p = speaks_same a b hs p
short_speaks L a b (arrival.Ready k) hs p = speaks_same a b hs p
short_speaks L a b (arrival.In c bytes) hs (inl p) = speaks_same a b hs p.1
short_speaks L a b (arrival.In c bytes) hs (inr l) = speaks_part c (with_heard a c bytes) b hs l
short_speaks L a b (arrival.Sent c n) hs l = speaks_at a b hs (l.first ++ l.rest) l.all (speaks_append a l.mid b l.first l.rest (takes_speaks c n a l.mid l.first l.takes) (speaks_part c l.mid b l.rest l.works))
short_speaks L a b arrival.Pump hs p = speaks_same a b hs p.1
short_speaks L a b (arrival.Lose c) hs p = absurd p
short_speaks L a b (arrival.Reload g) hs p = speaks_same a b hs p.1

-- ---- all that arrives

told_brings : (L : Lacks) (a b : World) (t : Arrival Config) (x : Bool) (os : List Occurrence) → IsOffered t → MatchBool x (Answers a t os b) (ByEvents os (λ hs. FallsShort L a t hs b)) → ToldOver a os b
told_brings L a b t true os offered p = over_plays a b (t ∷ []) os (offered, tt) (plays_one a b t os p)
told_brings L a b t false os offered (hs, e, p) = over_at a b os (map Of_event hs) e (over_told a b hs (told_short L a b t hs p))

brings_speaks : (L : Lacks) (a b : World) (t : Arrival Config) (x : Bool) (os : List Occurrence) → IsConsistent a → MatchBool x (Answers a t os b) (ByEvents os (λ hs. FallsShort L a t hs b)) → Speaks a (events_of os) b
brings_speaks L a b t true os k p = answer_speaks a b t os (linked a k) p
brings_speaks L a b t false os k (hs, e, p) = speaks_at a b (events_of os) hs (ap events_of e ∙ events-mapped hs) (short_speaks L a b t hs p)

nothing : (a b : World) (os : List Occurrence) → (os ≡ []) × (b ≡ a) → (os ≡ []) × Same a b
nothing a b os p = (p.0, subst (λ (w : World). Same a w) (sym p.1) (same_not a))

told_nothing : (a b : World) (os : List Occurrence) → (os ≡ []) × (b ≡ a) → ToldOver a os b
told_nothing a b os p = over_at a b os [] p.0 (over_told a b [] (told_same a b [] (refl, (nothing a b os p).1)))

told_attempts : (L : Lacks) (as' : List Attempt) (a b : World) (os : List Occurrence) → AllOffered as' → Attempts L a as' os b → ToldOver a os b
told_attempts L [] a b os offered p = told_nothing a b os p
told_attempts L (t ∷ as') a b os offered (mid, first, rest, e, br, p) =
    over_at a b os (first ++ rest) e (over-append a mid b first rest (told_brings L a mid t.arrival t.is_whole first offered.0 br) (told_attempts L as' mid b rest offered.1 p))

attempts_speak : (L : Lacks) (as' : List Attempt) (a b : World) (os : List Occurrence) → AllOffered as' → IsConsistent a → Attempts L a as' os b → Speaks a (events_of os) b
attempts_speak L [] a b os offered k p = let n = nothing a b os p in speaks_same a b (events_of os) (ap events_of n.0, n.1)
attempts_speak L (t ∷ as') a b os offered k (mid, first, rest, e, br, p) =
    speaks_at a b (events_of os) (events_of first ++ events_of rest) (ap events_of e ∙ events-append first rest)
    (speaks_append a mid b (events_of first) (events_of rest) (brings_speaks L a mid t.arrival t.is_whole first k br) (attempts_speak L as' mid b rest offered.1 (brings_stays L a mid t.arrival t.is_whole first offered.0 k br) p))

-- where memory was never refused, these are the arrivals
plays_all : (L : Lacks) (as' : List Attempt) (a b : World) (os : List Occurrence) → AllByRecursion IsWhole as' → Attempts L a as' os b → Plays a (arrivals_of as') os b
plays_all L [] a b os all p = nothing a b os p
plays_all L (t ∷ as') a b os all (mid, first, rest, e, br, p) =
    (mid, first, rest, e, subst (λ (x : Bool). MatchBool x (Answers a t.arrival first mid) (ByEvents first (λ hs. FallsShort L a t.arrival hs mid))) all.0 br, plays_all L as' mid b rest all.1 p)

-- ---- what is seen

counted : (hs : List Happening) (w : World) (k n : ℕ) → length (seen_after hs w k n) ≡ n
counted hs w k zero = refl
counted hs w k (suc n) = ap (λ (m : ℕ). suc m) (counted hs w (k + 1) n)

seen_at : (hs : List Happening) (w : World) (k n i : ℕ) → i < n → slice_get (seen_after hs w k n) i ≡ Some (shown hs w (k + i + 1))
seen_at hs w k zero i lt = absurd (omega (arith, lt))
seen_at hs w k (suc n) zero lt = let e : k + 1 ≡ k + 0 + 1 = omega arith in ap (λ (c : ℕ). Some (shown hs w c)) e
seen_at hs w k (suc n) (suc i) lt =
    let e : k + 1 + i + 1 ≡ k + suc i + 1 = omega arith in
    seen_at hs w (k + 1) n i (omega (arith, lt)) ∙ ap (λ (c : ℕ). Some (shown hs w c)) e

shows_all : (os : List Occurrence) (w : World) → Shows os w (record { connections = seen_of (events_of os) w; notes = notes_over os })
shows_all os w = record {
  noted = refl;
  counted = counted (events_of os) w 0 w.given;
  each = λ i lt. let e : 0 + i + 1 ≡ i + 1 = omega arith in seen_at (events_of os) w 0 w.given i lt ∙ ap (λ (c : ℕ). Some (shown (events_of os) w c)) e;
}

-- ---- a story

attempts-append : (L : Lacks) (as' bs : List Attempt) (a b c : World) (os ps : List Occurrence) → Attempts L a as' os b → Attempts L b bs ps c → Attempts L a (as' ++ bs) (os ++ ps) c
attempts-append L [] bs a b c os ps s t = subst (λ (z : List Occurrence). Attempts L a bs (z ++ ps) c) (sym s.0) (subst (λ (z : World). Attempts L z bs ps c) s.1 t)
attempts-append L (x ∷ as') bs a b c os ps (mid, first, rest, e, br, s) t =
    (mid, first, rest ++ ps, ap (λ (z : List Occurrence). z ++ ps) e ∙ append_assoc first rest ps, br, attempts-append L as' bs mid b c rest ps s t)

pub story_arrives : (L : Lacks) (ds : List Deed) (v w : Served) (os : List Occurrence) → Story L v ds os w → Attempts L v.world (arrived ds) os w.world
story_arrives L [] v w os s = (s.0, ap (λ (z : Served). z.world) s.1)
story_arrives L (d ∷ ds) v w os (mid, first, rest, e, does, s) =
    subst (λ (z : List Occurrence). Attempts L v.world (attempts d ++ arrived ds) z w.world) (sym e) (attempts-append L (attempts d) (arrived ds) v.world mid.world w.world first rest does.brings (story_arrives L ds mid w rest s))

pub story_asked : (L : Lacks) (ds : List Deed) (v w : Served) (os : List Occurrence) → Story L v ds os w → AddsCalls v.traffic (flat_map calls ds) w.traffic
story_asked L [] v w os s = subst (λ (z : Served). AddsCalls v.traffic [] z.traffic) (sym s.1) (tells_none v.traffic)
story_asked L (d ∷ ds) v w os (mid, first, rest, e, does, s) = tells_then v.traffic mid.traffic w.traffic (calls d) (flat_map calls ds) does.traffic (story_asked L ds mid w rest s)

-- ---- rounds

-- a server went on by some story
abbrev pub Went : Lacks → Served → Served → Type 0
Went L old new = (ds : List Deed) × (os : List Occurrence) × Story L old ds os new

went_then : (L : Lacks) (a b c : Served) → Went L a b → Went L b c → Went L a c
went_then L a b c (ds, os, s) (es, ps, t) = (ds ++ es, os ++ ps, story-append L ds es a b c os ps s t)

pub went_one : {L : Lacks} (a b : Served) (d : Deed) (os : List Occurrence) → DoesDeed L a d os b → Went L a b
went_one a b d os does = (d ∷ [], os, (b, os, [], sym (append-nil os), does, (refl, refl)))

went : {L : Lacks} (a b : Served) (xs : List Ask) (p : Bool) → Serves L a xs p b → Went L a b
went a b xs p s = (s.deeds, s.occurrences, s.story)

went_pumps : {L : Lacks} (n enough : ℕ) (a b : Served) (p : Bool) → PumpsUp L n enough a p b → Went L a b
went_pumps n enough a b p s = (s.deeds, s.occurrences, s.story)

went_rests : (L : Lacks) (v w : Served) (acted : Bool) → RestsUnless v acted w → Went L v w
went_rests L v w true e = subst (λ (z : Served). Went L v z) (sym e) (went v v [] false (serves_not v))
went_rests L v w false (e, t) =
    went_one v w Paused [] (record { table = ap (λ (z : Served). z.peers) e; brings = (refl, ap (λ (z : Served). z.world) e); greets = tt; traffic = t })

went_round : {L : Lacks} (a b : Served) → IsRound L a b → Went L a b
went_round {L = L} a b r =
    let g = r.goes in
    went_then L a r.gone_round b (went_then L a g.given r.gone_round (went_then L a g.pumped g.given reads_and_pumps (went g.pumped g.given _ _ g.writes)) (went g.given r.gone_round _ _ g.closes)) (went_rests L r.gone_round b r.acted r.rests)
  where
    reads_and_pumps : Went L a r.goes.pumped
    reads_and_pumps =
        let g = r.goes in
        went_then L a g.heard g.pumped (went_then L a g.met g.heard (went a g.met _ _ g.accepts) (went g.met g.heard _ _ g.reads)) (went_pumps _ _ g.heard g.pumped _ g.pumps)

pub went_rounds : (L : Lacks) (n : ℕ) (a b : Served) → Rounds L n a b → Went L a b
went_rounds L zero a b e = subst (λ (z : Served). Went L a z) (sym e) (went a a [] false (serves_not a))
went_rounds L (suc n) a b (mid, rs, r) = went_then L a mid b (went_rounds L n a mid rs) (went_round mid b r)

is_served : {L : Lacks} (f : Config) (traffic : Traffic) (new : Served) → IsSound f → Went L (served (new_world f) [] traffic) new → IsServed L f traffic new
is_served {L = L} f traffic new sound (ds, os, s) =
    let start = served (new_world f) [] traffic in
    let arrives = story_arrives L ds start new os s in
    let offered = story_offered L ds start new os s in
    record {
      sound = sound;
      deeds = ds;
      occurrences = os;
      story = s;
      asked = story_asked L ds start new os s;
      arrives = arrives;
      plays = λ all. plays_all L (arrived ds) (new_world f) new.world os all arrives;
      promises = promises_hold f os new.world (record { connections = seen_of (events_of os) new.world; notes = notes_over os }) sound
          (told_attempts L (arrived ds) (new_world f) new.world os offered arrives)
          (spoken_from_start f (events_of os) new.world (attempts_speak L (arrived ds) (new_world f) new.world os offered (new_is_consistent f sound) arrives)) (shows_all os new.world);
      joined = are_joined L ds start new os refl s;
      written = are_beginnings L f ds traffic new os sound s;
      counted = are_counted L ds start new os refl s;
    }

-- one round more
pub rounds_more : {L : Lacks} (n : ℕ) (a b c : Served) → Rounds L n a b → IsRound L b c → Rounds L (n + 1) a c
rounds_more {L = L} n a b c rs r = let next : suc n ≡ n + 1 = omega arith in subst (λ (m : ℕ). Rounds L m a c) next (b, rs, r)

-- what was served before is served after
pub went_on : {L : Lacks} (f : Config) (traffic : Traffic) (old new : Served) → Went L old new → IsServed L f traffic old → IsServed L f traffic new
went_on {L = L} f traffic old new w was = is_served f traffic new was.sound (went_then L (served (new_world f) [] traffic) old new (was.deeds, was.occurrences, was.story) w)

pub served_on : {L : Lacks} (f : Config) (traffic : Traffic) (n : ℕ) (old new : Served) → Rounds L n old new → IsServed L f traffic old → IsServed L f traffic new
served_on {L = L} f traffic n old new rs was = went_on f traffic old new (went_rounds L n old new rs) was

-- a new server is served
pub new_served : {L : Lacks} (f : Config) (w : World) (ps : List (Option Peer)) (traffic : Traffic) → IsSound f → w ≡ new_world f → ps ≡ [] → IsServed L f traffic (served w ps traffic)
new_served {L = L} f w ps traffic sound fresh none =
    let start = served (new_world f) [] traffic in
    subst (λ (z : World). IsServed L f traffic (served z ps traffic)) (sym fresh)
    (subst (λ (z : List (Option Peer)). IsServed L f traffic (served (new_world f) z traffic)) (sym none) (is_served f traffic start sound (went start start [] false (serves_not start))))
