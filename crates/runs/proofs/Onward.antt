-- Turns, arrivals and lists of them, one after another.
use Rattle.runs.proofs.Names.{◌≡◌, ℕ, List, [], ◌∷◌, ◌++◌, Bool, true, false, map, take, refl, sym, ap, subst, ◌∙◌, append_assoc, append-nil, MatchBool, Result, Ok, Err, OnOk, map-append, running_session, Happening, Config, IsSound, IsObstacle, Occurrence, Of_event, Of_reload, World, Seen, Turns, Works, none_more, one_more, Same, with_heard, is_over, is_gone, can_open, Loses, TakesOutput, delivers, idles, Plays, Note, Reloaded, ReloadRefused, Obstacle, Arrival, opens_consistent, awaits_consistent, RecordsEvents, gathered, with_opened, OpensNew, OpensReady, Hears, Did, DidNothing, Idles, Pumped, TakesAway, IsLost, IsPutInForce, WorksAndRecords, AnswersAndRecords, PlaysAndRecords}
use Rattle.std.specs.Prelude.{Some, None}
use Rattle.model.specs.Opening.{new_session}
use Rattle.model.specs.declared.events.Arrival.TheVariants as arrival
use Rattle.laws.specs.Reloading.{IsOffered}
use Rattle.laws.proofs.Counts.{all-append}
use Rattle.runs.proofs.Worlds.{world_same}
use Rattle.runs.proofs.Reloads.{reload_of, put_reloads, refused_reloads}
use Rattle.runs.proofs.Steps.{tells_then, tells_same, tells_turns, tells_delivers, tells_waits, tells_heard, tells_takes, tells_loses, tells_opens, tells_reloads, tells_not}

-- ---- tests

match_true : (b : Bool) (P Q : Type 0) → b ≡ true → P → MatchBool b P Q
match_true b P Q e p = subst (λ (x : Bool). MatchBool x P Q) (sym e) p

match_false : (b : Bool) (P Q : Type 0) → b ≡ false → Q → MatchBool b P Q
match_false b P Q e q = subst (λ (x : Bool). MatchBool x P Q) (sym e) q

of_false : (b : Bool) (P Q : Type 0) → b ≡ false → MatchBool b P Q → Q
of_false b P Q e m = subst (λ (x : Bool). MatchBool x P Q) e m

pub on_ok : {T U : Type 0} (r : Result T U) (P Q : Type 0) → (P → Q) → OnOk r P → OnOk r Q
on_ok (Ok t) P Q f p = f p
on_ok (Err e) P Q f p = p

-- ---- turns

works_then : (c : ℕ) (a b d : World) (hs ks : List Happening) → Works c a hs b → Works c b ks d → Works c a (hs ++ ks) d
works_then c a b d hs ks none_more w = w
works_then c a b d hs ks (one_more {mid = m} {first = f} {rest = r} t rest e) w =
    one_more t (works_then c m b d r ks rest w) (ap (λ (z : List Happening). z ++ ks) e ∙ append_assoc f r ks)

pub works_one : (c : ℕ) (a b d : World) (hs ks : List Happening) → Works c a hs b → Turns b c ks d → Works c a (hs ++ ks) d
works_one c a b d hs ks w t = works_then c a b d hs ks w (one_more t none_more (sym (append-nil ks)))

-- what was performed and written down so far
abbrev pub SoFar : World → ℕ → Seen → World → Seen → Type 0
SoFar old c seen new after = (hs : List Happening) × Works c old hs new × RecordsEvents old seen (map Of_event hs) new after

pub so_far_not : (w : World) (c : ℕ) (s : Seen) → SoFar w c s w s
so_far_not w c s = ([], none_more, tells_not w s)

pub so_far_more : (a b d : World) (c : ℕ) (s t u : Seen) (notes : List Note) → SoFar a c s b t → Did b c notes d → u ≡ record t { notes = t.notes ++ notes } → SoFar a c s d u
so_far_more a b d c s t u notes f did e = (
  f.0 ++ did.0,
  works_one c a b d f.0 did.0 f.1 did.2,
  subst (λ (z : List Occurrence). RecordsEvents a s z d u) (sym (map-append Of_event f.0 did.0))
      (tells_then a b d s t u (map Of_event f.0) (map Of_event did.0) f.2 (subst (λ (z : Seen). RecordsEvents b t (map Of_event did.0) d z) (sym e) (tells_turns b d c did.0 t notes did.1 did.2))),
)

pub so_far_ends : (a b d : World) (c : ℕ) (s t : Seen) → SoFar a c s b t → DidNothing b c d → WorksAndRecords a c s d t
so_far_ends a b d c s t f nothing = (
  f.0,
  record { mid = b; works = f.1; rests = nothing.0; waits = nothing.1 },
  subst (λ (z : List Occurrence). RecordsEvents a s z d t) (append-nil (map Of_event f.0)) (tells_then a b d s t t (map Of_event f.0) [] f.2 (tells_waits b d c t nothing.1)),
)

-- ---- arrivals

-- a connection was opened, and the opening is told
pub opens_new : (a b : World) (n : ℕ) (s t : Seen) → OpensNew a (Some n) b → t ≡ record s { connections = with_opened s.connections } → AnswersAndRecords a arrival.Open s b t
opens_new a b n s t o e =
    let by = o.2.1 in
    (map Of_event o.2.0, tt, (o.2.0, refl, match_true (can_open a) _ _ o.0 by), subst (λ (z : Seen). RecordsEvents a s (map Of_event o.2.0) b z) (sym e) (tells_opens a b _ _ new_session o.2.0 s by by.happens.stepped.steps.acts.noted (λ k. awaits_consistent a b _ o.2.0 k by) by.happens.stepped.steps.session))

pub opens_new_not : (a b : World) (s : Seen) → OpensNew a None b → AnswersAndRecords a arrival.Open s b s
opens_new_not a b s o = ([], tt, ([], refl, match_false (can_open a) _ _ o.0 (refl, o.1)), tells_same a b s o.1)

pub opens_ready : (a b : World) (k n : ℕ) (s t : Seen) → OpensReady a k (Some n) b → t ≡ record s { connections = with_opened s.connections } → AnswersAndRecords a (arrival.Ready k) s b t
opens_ready a b k n s t o e =
    let by = o.2.1 in
    (map Of_event o.2.0, tt, (o.2.0, refl, match_true (can_open a) _ _ o.0 by), subst (λ (z : Seen). RecordsEvents a s (map Of_event o.2.0) b z) (sym e) (tells_opens a b _ _ running_session o.2.0 s by by.happens.stepped.acts.noted (λ is. opens_consistent a b k _ o.2.0 is by) by.happens.stepped.session))

pub opens_ready_not : (a b : World) (k : ℕ) (s : Seen) → OpensReady a k None b → AnswersAndRecords a (arrival.Ready k) s b s
opens_ready_not a b k s o = ([], tt, ([], refl, match_false (can_open a) _ _ o.0 (refl, o.1)), tells_same a b s o.1)

pub hears : (a m b : World) (c : ℕ) (bytes : List ℕ) (s t : Seen) → is_over a c ≡ false → Hears a c bytes m → WorksAndRecords m c s b t → AnswersAndRecords a (arrival.In c bytes) s b t
hears a m b c bytes s t e heard w =
    let is : m ≡ with_heard a c bytes = of_false (is_over a c) (Same a m) _ e heard in
    let works : WorksAndRecords (with_heard a c bytes) c s b t = subst (λ (z : World). WorksAndRecords z c s b t) is w in
    (map Of_event works.0, tt, (works.0, refl, match_false (is_over a c) _ _ e works.1), tells_then a (with_heard a c bytes) b s s t [] (map Of_event works.0) (tells_heard a c bytes s) works.2)

pub takes : (a m b : World) (c n : ℕ) (s t u : Seen) → is_gone a c ≡ false → t ≡ record s { connections = gathered s.connections c (take n (a.wire c).output) } → TakesAway a c n m → WorksAndRecords m c t b u
    → AnswersAndRecords a (arrival.Sent c n) s b u
takes a m b c n s t u e gathers took w =
    let off : (hs : List Happening) × TakesOutput a c n hs m = of_false (is_gone a c) (Same a m) _ e took in (
      map Of_event (off.0 ++ w.0),
      tt,
      (off.0 ++ w.0, refl, match_false (is_gone a c) _ _ e (record { first = off.0; rest = w.0; all = refl; mid = m; takes = off.1; works = w.1 })),
      subst (λ (z : List Occurrence). RecordsEvents a s z b u) (sym (map-append Of_event off.0 w.0))
          (tells_then a m b s t u (map Of_event off.0) (map Of_event w.0) (subst (λ (z : Seen). RecordsEvents a s (map Of_event off.0) m z) (sym gathers) (tells_takes a m c n off.0 s off.1)) w.2),
    )

pub loses : (a b : World) (c : ℕ) (s t : Seen) → is_gone a c ≡ false → t ≡ record s { connections = gathered s.connections c (a.wire c).output } → IsLost a c b → AnswersAndRecords a (arrival.Lose c) s b t
loses a b c s t e gathers lost =
    let loss : (hs : List Happening) × Loses a c hs b = of_false (is_gone a c) (Same a b) _ e lost in
    (map Of_event loss.0, tt, (loss.0, refl, match_false (is_gone a c) _ _ e loss.1), subst (λ (z : Seen). RecordsEvents a s (map Of_event loss.0) b z) (sym gathers) (tells_loses a b c loss.0 s loss.1))

-- a delivery was made, and what was noted is told
pub pumps : (a b : World) (s t : Seen) (c : ℕ) (notes : List Note) → Pumped a c notes b → t ≡ record s { notes = s.notes ++ notes } → AnswersAndRecords a arrival.Pump s b t
pumps a b s t c notes (hs, noted, made) e = (map Of_event hs, tt, (hs, refl, delivers made), subst (λ (z : Seen). RecordsEvents a s (map Of_event hs) b z) (sym e) (tells_delivers a b c hs s notes noted made))

pub pumps_not : (a b : World) (s : Seen) → Idles a b → AnswersAndRecords a arrival.Pump s b s
pumps_not a b s i = ([], tt, ([], refl, idles i.0 (refl, i.1)), tells_same a b s i.1)

-- what was offered is in force, and that is noted
pub reloads_done : (a b : World) (offered : Config) (s t : Seen) → IsSound offered → IsPutInForce a offered b → t ≡ record s { notes = s.notes ++ Reloaded ∷ [] } → AnswersAndRecords a (arrival.Reload offered) s b t
reloads_done a b offered s t sound p e =
    let os = Of_reload (reload_of a offered b (Reloaded ∷ [])) ∷ [] in
    let done = put_reloads a b offered p in
    (os, sound, done, subst (λ (z : Seen). RecordsEvents a s os b z) (sym e) (tells_reloads a b offered _ s (Reloaded ∷ []) sound refl done))

-- there is an obstacle, which is noted, and nothing has changed
pub reloads_refused : (a b : World) (offered : Config) (o : Obstacle) (s t : Seen) → IsSound offered → IsObstacle a.config.topology offered a.state.broker o → Same a b → t ≡ record s { notes = s.notes ++ ReloadRefused o ∷ [] }
    → AnswersAndRecords a (arrival.Reload offered) s b t
reloads_refused a b offered o s t sound stands same e =
    let os = Of_reload (reload_of a offered b (ReloadRefused o ∷ [])) ∷ [] in
    let refused = refused_reloads a b offered o stands same in
    (os, sound, refused, subst (λ (z : Seen). RecordsEvents a s os b z) (sym e) (tells_reloads a b offered _ s (ReloadRefused o ∷ []) sound refl refused))

-- ---- lists of arrivals

plays-append : (old mid new : World) (as' bs : List (Arrival Config)) (os ps : List Occurrence) → Plays old as' os mid → Plays mid bs ps new → Plays old (as' ++ bs) (os ++ ps) new
plays-append old mid new [] bs os ps p q = subst (λ (z : List Occurrence). Plays old bs (z ++ ps) new) (sym p.0) (subst (λ (w : World). Plays w bs ps new) (world_same old mid p.1) q)
plays-append old mid new (a ∷ as') bs os ps (between, first, rest, e, brings, p) q =
    (between, first, rest ++ ps, ap (λ (z : List Occurrence). z ++ ps) e ∙ append_assoc first rest ps, brings, plays-append between mid new as' bs rest ps p q)

itself : (w : World) → Same w w
itself w = record { config = refl; state = refl; given = refl; wires = λ c. refl }

-- one arrival behind others
pub plays_more : (old mid new : World) (as' : List (Arrival Config)) (a : Arrival Config) (s t u : Seen) → PlaysAndRecords old as' s mid t → AnswersAndRecords mid a t new u → PlaysAndRecords old (as' ++ a ∷ []) s new u
plays_more old mid new as' a s t u p q = (
  p.0 ++ q.0,
  all-append IsOffered as' (a ∷ []) p.1 (q.1, tt),
  plays-append old mid new as' (a ∷ []) p.0 q.0 p.2 (new, q.0, [], sym (append-nil q.0), q.2, (refl, itself new)),
  tells_then old mid new s t u p.0 q.0 p.3 q.3,
)

pub plays_none : (w : World) (s : Seen) → PlaysAndRecords w [] s w s
plays_none w s = ([], tt, (refl, itself w), tells_not w s)
