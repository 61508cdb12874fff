-- What was taken of an output, with what waits there, is what was put out; of one that is gone it is a beginning.
use Rattle.serving.proofs.Names.{◌≡◌, ◌≢◌, ◌<◌, ℕ, ◌+◌, List, [], ◌∷◌, ◌++◌, Bool, true, false, eqb, length, take, drop, map, refl, sym, ap, subst, ◌∙◌, append_assoc, append-nil, flat_map, ◌⊎◌, inl, inr, Some, arith, eqb-true, eqb-false, false≢true, lt-ltb, length-take-le, flat_map-append, ◌==◌, ◌&&◌, nat_lt, if◌then◌else◌, MatchBool, AllByRecursion, Session, no_session, running_session, with_one, Stream, IsSound, Config, State, Happening, put_out, Occurrence, Of_event, IsDecided, events_of, World, Wire, new_world, is_over, is_gone, is_ended, can_open, Turns, Works, none_more, one_more, Waits, WorksOff, Same, with_heard, TakesOutput, TakesAndWorks, Opens, Loses, Puts, Pumps, delivers, idles, Answers, ByEvents, Reloads, IsConsistent, Arrival, Traffic, Attempt, whole, short, FallsShort, Attempts, Served, served, Deed, Enters, Leaves, Stays, Met, Turned_away, Met_no_one, Heard, Heard_partly, Heard_nothing, Heard_end, Gave, Gave_partly, Gave_nothing, Gave_up, Pumped_nothing, Pump_refused, Closed_gone, Paused, Reload_decided, Reload_undecided, calls, IsFront, DoesDeed, Story, written_to, AreBeginnings, Peer, IsOffered, new_is_consistent, events-append, events-mapped, Lacks}
use Rattle.std.specs.Prelude.{not}
use Rattle.std.proofs.lemmas.List.{take-append-drop}
use Rattle.model.specs.Opening.{new_session}
use Rattle.model.specs.Spelling.{sends_to, spelling}
use Rattle.model.specs.History.{Reload as OneReload}
use Rattle.model.specs.declared.events.Event.{Event}
use Rattle.model.specs.declared.events.Event.TheVariants as event
use Rattle.model.specs.declared.events.Arrival.TheVariants as arrival
use Rattle.runs.proofs.Steps.{settled, put_out-append, puts_each, turns_apart, delivers_apart}
use Rattle.runs.proofs.Places.{with_here, with_other, take_nothing, drop_nothing}
use Rattle.serving.specs.Story.{Pumped}
use Rattle.serving.proofs.Staying.{brings_stays, deed_stays}
use Rattle.serving.proofs.Pairs.{peer_of, PairsWith, pairs_in}

-- of connection d these bytes were taken and those were put out
pub record Accounts (d : ℕ) (taken put : List ℕ) (w : World) : Type 0 where
  -- all that was put out is taken or waits; or it is gone, and the rest never comes
  pub fits : (taken ++ (w.wire d).output ≡ put) ⊎ ((is_over w d ≡ true) × ((w.wire d).output ≡ []) × ((rest : List ℕ) × (taken ++ rest ≡ put)))
  -- nothing of one that is not opened
  pub unopened : w.given < d → ((w.wire d).output ≡ []) × (is_over w d ≡ true) × (taken ≡ put)

-- from one world to another these bytes are taken of d's output
pub record Flows (d : ℕ) (old : World) (taken : List ℕ) (hs : List Happening) (new : World) : Type 0 where
  pub keeps : (bytes put : List ℕ) → Accounts d bytes put old → Accounts d (bytes ++ taken) (put ++ put_out d hs) new

flows_then : (d : ℕ) (a b c : World) (t u : List ℕ) (hs ks : List Happening) → Flows d a t hs b → Flows d b u ks c → Flows d a (t ++ u) (hs ++ ks) c
flows_then d a b c t u hs ks f g = record {
  keeps = λ bytes put acc.
      subst (λ (z : List ℕ). Accounts d z (put ++ put_out d (hs ++ ks)) c) (append_assoc bytes t u)
      (subst (λ (z : List ℕ). Accounts d ((bytes ++ t) ++ u) z c) (append_assoc put (put_out d hs) (put_out d ks) ∙ ap (λ (z : List ℕ). put ++ z) (sym (put_out-append d hs ks)))
      (g.keeps (bytes ++ t) (put ++ put_out d hs) (f.keeps bytes put acc)));
}

flows_at : (d : ℕ) (a b : World) (t : List ℕ) (hs ks : List Happening) → hs ≡ ks → Flows d a t ks b → Flows d a t hs b
flows_at d a b t hs ks e f = subst (λ (z : List Happening). Flows d a t z b) (sym e) f

-- nothing is taken and nothing put out
accounts_as : (d : ℕ) (a b : World) (hs : List Happening) (bytes put : List ℕ) → b.given ≡ a.given → put_out d hs ≡ [] → (b.wire d).output ≡ (a.wire d).output → is_over b d ≡ is_over a d
    → Accounts d bytes put a → Accounts d (bytes ++ []) (put ++ put_out d hs) b
accounts_as d a b hs bytes put given none output over acc =
    subst (λ (z : List ℕ). Accounts d z (put ++ put_out d hs) b) (sym (append-nil bytes)) (subst (λ (z : List ℕ). Accounts d bytes z b) (sym (append-nil put) ∙ ap (λ (z : List ℕ). put ++ z) (sym none)) same)
  where
    go : (bytes ++ (a.wire d).output ≡ put) ⊎ ((is_over a d ≡ true) × ((a.wire d).output ≡ []) × ((rest : List ℕ) × (bytes ++ rest ≡ put)))
        → (bytes ++ (b.wire d).output ≡ put) ⊎ ((is_over b d ≡ true) × ((b.wire d).output ≡ []) × ((rest : List ℕ) × (bytes ++ rest ≡ put)))
    go (inl e) = inl (ap (λ (z : List ℕ). bytes ++ z) output ∙ e)
    go (inr g) = inr (over ∙ g.0, output ∙ g.1, g.2)

    same : Accounts d bytes put b
    same = record {
      fits = go acc.fits;
      unopened = λ lt. let u = acc.unopened (subst (λ (n : ℕ). n < d) given lt) in (output ∙ u.0, over ∙ u.1, u.2);
    }

flows_not : (d : ℕ) (a b : World) (hs : List Happening) → b.given ≡ a.given → put_out d hs ≡ [] → (b.wire d).output ≡ (a.wire d).output → is_over b d ≡ is_over a d → Flows d a [] hs b
flows_not d a b hs given none output over = record { keeps = λ bytes put acc. accounts_as d a b hs bytes put given none output over acc }

flows_same : (d : ℕ) (a b : World) (hs : List Happening) → (hs ≡ []) × Same a b → Flows d a [] hs b
flows_same d a b hs p = flows_not d a b hs p.1.given (ap (put_out d) p.0) (ap (λ (w : Wire). w.output) (p.1.wires d)) (ap (λ (s : State). is_ended (s.session d).phase) p.1.state)

flows_nothing : (d : ℕ) (a b : World) (hs : List Happening) → (hs ≡ []) × (b ≡ a) → Flows d a [] hs b
flows_nothing d a b hs p = flows_not d a b hs (ap (λ (w : World). w.given) p.1) (ap (put_out d) p.0) (ap (λ (w : World). (w.wire d).output) p.1) (ap (λ (w : World). is_over w d) p.1)

-- ---- turns

nothing_left : (xs ys zs : List ℕ) → xs ≡ ys ++ zs → xs ≡ [] → ys ≡ [] → zs ≡ []
nothing_left xs ys zs e none nil = ap (λ (z : List ℕ). z ++ zs) (sym nil) ∙ sym e ∙ none

-- what is put out for c, where nothing is for one that is over
flows_puts : (d c : ℕ) (a b : World) (e : Event) (hs : List Happening) → Puts a e c hs b → b.given ≡ a.given → (is_over a d ≡ true → d ≢ c) → Flows d a [] hs b
flows_puts d c a b e hs p given distinct = record { keeps = λ bytes put acc. record { fits = fits bytes put acc.fits; unopened = λ lt. unopened bytes put lt (acc.unopened (subst (λ (n : ℕ). n < d) given lt)) } }
  where
    each : (b.wire d).output ≡ (a.wire d).output ++ put_out d hs
    each = puts_each a b e c hs d p

    -- one that is over is another
    stays : is_over a d ≡ true → (a.wire d).output ≡ [] → ((b.wire d).output ≡ []) × (is_over b d ≡ true) × (put_out d hs ≡ [])
    stays over none =
        let ne : d ≢ c = distinct over in
        let left : (b.wire d).output ≡ [] = ap (λ (w : Wire). w.output) (p.others d ne) ∙ none in
        (left, ap (λ (s : Session). is_ended s.phase) (p.rests d ne) ∙ over, nothing_left (b.wire d).output (a.wire d).output (put_out d hs) each left none)

    fits : (bytes put : List ℕ) → (bytes ++ (a.wire d).output ≡ put) ⊎ ((is_over a d ≡ true) × ((a.wire d).output ≡ []) × ((rest : List ℕ) × (bytes ++ rest ≡ put)))
        → ((bytes ++ []) ++ (b.wire d).output ≡ put ++ put_out d hs) ⊎ ((is_over b d ≡ true) × ((b.wire d).output ≡ []) × ((rest : List ℕ) × ((bytes ++ []) ++ rest ≡ put ++ put_out d hs)))
    fits bytes put (inl e) =
        inl (ap (λ (z : List ℕ). z ++ (b.wire d).output) (append-nil bytes) ∙ ap (λ (z : List ℕ). bytes ++ z) each ∙ sym (append_assoc bytes (a.wire d).output (put_out d hs)) ∙ ap (λ (z : List ℕ). z ++ put_out d hs) e)
    fits bytes put (inr g) =
        let s = stays g.0 g.1 in
        inr (s.1, s.0, (g.2.0, ap (λ (z : List ℕ). z ++ g.2.0) (append-nil bytes) ∙ g.2.1 ∙ sym (append-nil put) ∙ ap (λ (z : List ℕ). put ++ z) (sym s.2)))

    unopened : (bytes put : List ℕ) → b.given < d → ((a.wire d).output ≡ []) × (is_over a d ≡ true) × (bytes ≡ put) → ((b.wire d).output ≡ []) × (is_over b d ≡ true) × (bytes ++ [] ≡ put ++ put_out d hs)
    unopened bytes put lt u =
        let s = stays u.1 u.0 in
        (s.0, s.1, append-nil bytes ∙ u.2 ∙ sym (append-nil put) ∙ ap (λ (z : List ℕ). put ++ z) (sym s.2))

flows_turn : (d c : ℕ) (a b : World) (hs : List Happening) → Turns a c hs b → Flows d a [] hs b
flows_turn d c a b hs t = flows_puts d c a b t.event hs t.puts t.given (turns_apart a b c hs d t)

flows_works : (d c : ℕ) (a b : World) (hs : List Happening) → Works c a hs b → Flows d a [] hs b
flows_works d c a b hs none_more = flows_nothing d a a [] (refl, refl)
flows_works d c a b hs (one_more {mid = m} {first = f} {rest = r} t rest e) = flows_at d a b [] hs (f ++ r) e (flows_then d a m b [] [] f r (flows_turn d c a m f t) (flows_works d c m b r rest))

waits_output : (d c : ℕ) (a b : World) → Waits a c b → (x : Bool) → eqb d c ≡ x → (b.wire d).output ≡ (a.wire d).output
waits_output d c a b v true q = subst (λ (n : ℕ). (b.wire n).output ≡ (a.wire n).output) (sym (eqb-true d c q)) v.output
waits_output d c a b v false q = ap (λ (w : Wire). w.output) (v.others d (eqb-false d c q))

flows_waits : (d c : ℕ) (a b : World) → Waits a c b → Flows d a [] [] b
flows_waits d c a b v = flows_not d a b [] v.given refl (waits_output d c a b v (eqb d c) refl) (ap (λ (s : State). is_ended (s.session d).phase) v.state)

flows_worked : (d c : ℕ) (a m b : World) (hs : List Happening) → Works c a hs m → Waits m c b → Flows d a [] hs b
flows_worked d c a m b hs w v = flows_at d a b [] hs (hs ++ []) (sym (append-nil hs)) (flows_then d a m b [] [] hs [] (flows_works d c a m hs w) (flows_waits d c m b v))

heard_output : (d c : ℕ) (a : World) (bytes : List ℕ) (x : Bool) → eqb d c ≡ x → ((with_heard a c bytes).wire d).output ≡ (a.wire d).output
heard_output d c a bytes true q = ap (λ (w : Wire). w.output) (with_here a.wire c d _ (eqb-true d c q)) ∙ ap (λ (n : ℕ). (a.wire n).output) (sym (eqb-true d c q))
heard_output d c a bytes false q = ap (λ (w : Wire). w.output) (with_other a.wire c d _ (eqb-false d c q))

flows_heard : (d c : ℕ) (a b : World) (bytes : List ℕ) (hs : List Happening) → Flows d (with_heard a c bytes) [] hs b → Flows d a [] hs b
flows_heard d c a b bytes hs f = flows_then d a (with_heard a c bytes) b [] [] [] hs (flows_not d a (with_heard a c bytes) [] refl refl (heard_output d c a bytes (eqb d c) refl) refl) f

-- ---- openings and losses

flows_opens : (d : ℕ) (a b : World) (e : Event) (st : Stream) (after : Session) (hs : List Happening) → Opens a e st hs b → ((n : ℕ) → b.state.session n ≡ with_one a.state.session (a.given + 1) after n) → Flows d a [] hs b
flows_opens d a b e st after hs o sessions = go (eqb d (a.given + 1)) refl
  where
    none : put_out d hs ≡ []
    none = ap (put_out d) o.all ∙ append-nil (spelling o.h.frame_max (sends_to d o.h.sends)) ∙ ap (λ z. spelling o.h.frame_max (sends_to d z)) o.silent

    go : (x : Bool) → eqb d (a.given + 1) ≡ x → Flows d a [] hs b
    go true q =
        let is : d ≡ a.given + 1 = eqb-true d (a.given + 1) q in
        let left : (b.wire d).output ≡ [] = ap (λ (w : Wire). w.output) (o.wires d ∙ with_here a.wire (a.given + 1) d _ is) in
        let more = o.given in
        record {
          keeps = λ bytes put acc.
              let u = acc.unopened (omega (arith, is)) in
              let same : bytes ++ [] ≡ put ++ put_out d hs = append-nil bytes ∙ u.2 ∙ sym (append-nil put) ∙ ap (λ (z : List ℕ). put ++ z) (sym none) in
              record { fits = inl (ap (λ (z : List ℕ). (bytes ++ []) ++ z) left ∙ append-nil (bytes ++ []) ∙ same); unopened = λ lt. absurd (omega (arith, lt, is, more)) };
        }
    go false q =
        let ne : d ≢ a.given + 1 = eqb-false d (a.given + 1) q in
        let output : (b.wire d).output ≡ (a.wire d).output = ap (λ (w : Wire). w.output) (o.wires d ∙ with_other a.wire (a.given + 1) d _ ne) in
        let over : is_over b d ≡ is_over a d = ap (λ (s : Session). is_ended s.phase) (sessions d ∙ with_other a.state.session (a.given + 1) d after ne) in
        let more = o.given in
        record {
          keeps = λ bytes put acc.
              let as' = accounts_as d a (record b { given = a.given }) hs bytes put refl none output over acc in
              record { fits = as'.fits; unopened = λ lt. as'.unopened (omega (arith, lt, more)) };
        }

flows_loses : (d c : ℕ) (a b : World) (hs : List Happening) → Loses a c hs b → Flows d a [] hs b
flows_loses d c a b hs l = go (eqb d c) refl
  where
    none : put_out d hs ≡ []
    none = ap (put_out d) l.all ∙ append-nil (spelling l.h.frame_max (sends_to d l.h.sends)) ∙ ap (λ z. spelling l.h.frame_max (sends_to d z)) l.silent

    go : (x : Bool) → eqb d c ≡ x → Flows d a [] hs b
    go true q =
        let is : d ≡ c = eqb-true d c q in
        let left : (b.wire d).output ≡ [] = ap (λ (w : Wire). w.output) (l.wires d ∙ with_here a.wire c d _ is) in
        let over : is_over b d ≡ true = ap (λ (s : Session). is_ended s.phase) (l.happens.stepped.session d ∙ with_here a.state.session c d no_session is) in
        record {
          keeps = λ bytes put acc.
              let all : put ++ put_out d hs ≡ put = ap (λ (z : List ℕ). put ++ z) none ∙ append-nil put in
              record {
                fits = inr (over, left, lost bytes put acc.fits all);
                unopened = λ lt. let u = acc.unopened (subst (λ (n : ℕ). n < d) l.given lt) in (left, over, append-nil bytes ∙ u.2 ∙ sym all);
              };
        }
      where
        lost : (bytes put : List ℕ) → (bytes ++ (a.wire d).output ≡ put) ⊎ ((is_over a d ≡ true) × ((a.wire d).output ≡ []) × ((rest : List ℕ) × (bytes ++ rest ≡ put))) → put ++ put_out d hs ≡ put → (rest : List ℕ) × ((bytes ++ []) ++ rest ≡ put ++ put_out d hs)
        lost bytes put (inl e) all = ((a.wire d).output, ap (λ (z : List ℕ). z ++ (a.wire d).output) (append-nil bytes) ∙ e ∙ sym all)
        lost bytes put (inr g) all = (g.2.0, ap (λ (z : List ℕ). z ++ g.2.0) (append-nil bytes) ∙ g.2.1 ∙ sym all)
    go false q =
        let ne : d ≢ c = eqb-false d c q in
        flows_not d a b hs l.given none (ap (λ (w : Wire). w.output) (l.wires d ∙ with_other a.wire c d _ ne)) (ap (λ (s : Session). is_ended s.phase) (l.happens.stepped.session d ∙ with_other a.state.session c d no_session ne))

-- ---- output that is taken

flows_takes : (d c n : ℕ) (a b : World) (hs : List Happening) → TakesOutput a c n hs b → Flows d a (if c == d then take n (a.wire c).output else []) hs b
flows_takes d c n a b hs t = go (c == d) refl
  where
    quiet : put_out d hs ≡ []
    quiet = (settled a.config a.state b.state c _ _ hs t.pauses).quiet.silent d

    over : is_over b d ≡ is_over a d
    over = ap (λ (s : Session). is_ended s.phase) ((settled a.config a.state b.state c _ _ hs t.pauses).sessions d)

    go : (x : Bool) → eqb c d ≡ x → Flows d a (if x then take n (a.wire c).output else []) hs b
    go false q = flows_not d a b hs t.given quiet (ap (λ (w : Wire). w.output) (t.wires d ∙ with_other a.wire c d _ (λ e. eqb-false c d q (sym e)))) over
    go true q = record {
      keeps = λ bytes put acc.
          let all : put ++ put_out d hs ≡ put = ap (λ (z : List ℕ). put ++ z) quiet ∙ append-nil put in
          record {
            fits = fits bytes put acc.fits all;
            unopened = λ lt. let u = acc.unopened (subst (λ (m : ℕ). m < d) t.given lt) in (empty u.0, over ∙ u.1, ap (λ (z : List ℕ). bytes ++ z) (nothing u.0) ∙ append-nil bytes ∙ u.2 ∙ sym all);
          };
    }
      where
        is : d ≡ c
        is = sym (eqb-true c d q)

        out : (b.wire d).output ≡ drop n (a.wire c).output
        out = ap (λ (w : Wire). w.output) (t.wires d ∙ with_here a.wire c d _ is)

        mine : (a.wire d).output ≡ (a.wire c).output
        mine = ap (λ (m : ℕ). (a.wire m).output) is

        nothing : (a.wire d).output ≡ [] → take n (a.wire c).output ≡ []
        nothing e = take_nothing n (a.wire c).output (sym mine ∙ e)

        empty : (a.wire d).output ≡ [] → (b.wire d).output ≡ []
        empty e = out ∙ drop_nothing n (a.wire c).output (sym mine ∙ e)

        fits : (bytes put : List ℕ) → (bytes ++ (a.wire d).output ≡ put) ⊎ ((is_over a d ≡ true) × ((a.wire d).output ≡ []) × ((rest : List ℕ) × (bytes ++ rest ≡ put))) → put ++ put_out d hs ≡ put
            → ((bytes ++ take n (a.wire c).output) ++ (b.wire d).output ≡ put ++ put_out d hs) ⊎ ((is_over b d ≡ true) × ((b.wire d).output ≡ []) × ((rest : List ℕ) × ((bytes ++ take n (a.wire c).output) ++ rest ≡ put ++ put_out d hs)))
        fits bytes put (inl e) all =
            inl (append_assoc bytes (take n (a.wire c).output) (b.wire d).output ∙ ap (λ (z : List ℕ). bytes ++ (take n (a.wire c).output ++ z)) out
            ∙ ap (λ (z : List ℕ). bytes ++ z) (take-append-drop n (a.wire c).output ∙ sym mine) ∙ e ∙ sym all)
        fits bytes put (inr g) all =
            inr (over ∙ g.0, empty g.1, (g.2.0, ap (λ (z : List ℕ). z ++ g.2.0) (ap (λ (z : List ℕ). bytes ++ z) (nothing g.1) ∙ append-nil bytes) ∙ g.2.1 ∙ sym all))

-- ---- arrivals

-- what an arrival takes of d's output
abbrev taken_by : ℕ → World → Arrival Config → List ℕ
taken_by d w (arrival.Sent c n) = if c == d then take n (w.wire c).output else []
taken_by d w arrival.Open = []
taken_by d w (arrival.Ready k) = []
taken_by d w (arrival.In c bytes) = []
taken_by d w arrival.Pump = []
taken_by d w (arrival.Lose c) = []
taken_by d w (arrival.Reload g) = []

gone_empty : (over : Bool) (out : List ℕ) → over && not (nat_lt 0 (length out)) ≡ true → out ≡ []
gone_empty over [] e = refl
gone_empty true (x ∷ xs) e = absurd (false≢true (ap not (sym (lt-ltb 0 (length (x ∷ xs)) (omega arith))) ∙ e))
gone_empty false (x ∷ xs) e = absurd (false≢true e)

-- of one that is gone nothing can be taken
gone_taken : (d c n : ℕ) (a : World) → is_gone a c ≡ true → [] ≡ (if c == d then take n (a.wire c).output else [])
gone_taken d c n a e = go (c == d)
  where
    go : (x : Bool) → [] ≡ (if x then take n (a.wire c).output else [])
    go true = sym (take_nothing n (a.wire c).output (gone_empty (is_over a c) (a.wire c).output e))
    go false = refl

flows_by : (d : ℕ) (a b : World) (P : Type 0) (hs : List Happening) (x : Bool) → (P → Flows d a [] hs b) → MatchBool x ((hs ≡ []) × Same a b) P → Flows d a [] hs b
flows_by d a b P hs true f p = flows_same d a b hs p
flows_by d a b P hs false f p = f p

flows_opening : (d : ℕ) (a b : World) (P : Type 0) (hs : List Happening) (x : Bool) → (P → Flows d a [] hs b) → MatchBool x P ((hs ≡ []) × Same a b) → Flows d a [] hs b
flows_opening d a b P hs true f p = f p
flows_opening d a b P hs false f p = flows_same d a b hs p

flows_taken : (d c n : ℕ) (a m k b : World) (hs first rest : List Happening) → hs ≡ first ++ rest → TakesOutput a c n first m → Works c m rest k → Waits k c b → Flows d a (if c == d then take n (a.wire c).output else []) hs b
flows_taken d c n a m k b hs first rest e t w v =
    let taken = if c == d then take n (a.wire c).output else [] in
    flows_at d a b taken hs (first ++ rest) e (subst (λ (z : List ℕ). Flows d a z (first ++ rest) b) (append-nil taken) (flows_then d a m b taken [] first rest (flows_takes d c n a m first t) (flows_worked d c m k b rest w v)))

flows_sent : (d c n : ℕ) (a b : World) (hs : List Happening) (x : Bool) → is_gone a c ≡ x → MatchBool x ((hs ≡ []) × Same a b) (TakesAndWorks a c n hs b) → Flows d a (if c == d then take n (a.wire c).output else []) hs b
flows_sent d c n a b hs true e p = subst (λ (z : List ℕ). Flows d a z hs b) (gone_taken d c n a e) (flows_same d a b hs p)
flows_sent d c n a b hs false e l = flows_taken d c n a l.mid l.works.mid b hs l.first l.rest l.all l.takes l.works.works l.works.waits

flows_pumps : (d : ℕ) (a b : World) (hs : List Happening) → IsConsistent a → Pumps a hs b → Flows d a [] hs b
flows_pumps d a b hs k (delivers {c = c} v) = flows_puts d c a b (event.Deliver c) hs v.puts v.given (delivers_apart a b c hs d k v)
flows_pumps d a b hs k (idles n p) = flows_same d a b hs p

-- events alone happened
flows_events : (d : ℕ) (a b : World) (t : List ℕ) (os : List Occurrence) (hs : List Happening) → os ≡ map Of_event hs → Flows d a t hs b → Flows d a t (events_of os) b
flows_events d a b t os hs e f = flows_at d a b t (events_of os) hs (ap events_of e ∙ events-mapped hs) f

reload_session : (r : OneReload) → IsDecided r → (c : ℕ) → r.after.session c ≡ r.before.session c
reload_session r (inl done) c = done.session c
reload_session r (inr refused) c = ap (λ (s : State). s.session c) refused.after

-- a reload takes nothing and puts nothing out
flows_reloads : (d : ℕ) (a b : World) (offered : Config) (os : List Occurrence) → Reloads a offered os b → Flows d a [] (events_of os) b
flows_reloads d a b offered os p =
    flows_not d a b (events_of os) p.given (ap (λ (z : List Occurrence). put_out d (events_of z)) p.all) (ap (λ (w : Wire). w.output) (p.wires d))
    (ap (λ (s : Session). is_ended s.phase) (ap (λ (s : State). s.session d) (sym p.after) ∙ reload_session p.r p.decided d ∙ ap (λ (s : State). s.session d) p.before))

flows_answers : (d : ℕ) (a b : World) (t : Arrival Config) (os : List Occurrence) → IsConsistent a → Answers a t os b → Flows d a (taken_by d a t) (events_of os) b
flows_answers d a b arrival.Open os k (hs, e, p) = flows_events d a b [] os hs e (flows_opening d a b _ hs (can_open a) (λ (o : Opens a _ _ hs b). flows_opens d a b _ _ new_session hs o o.happens.stepped.steps.session) p)
flows_answers d a b (arrival.Ready n) os k (hs, e, p) =
    flows_events d a b [] os hs e (flows_opening d a b _ hs (can_open a) (λ (o : Opens a _ _ hs b). flows_opens d a b _ _ (record running_session { channel_max = 255 }) hs o o.happens.stepped.session) p)
flows_answers d a b (arrival.In c bytes) os k (hs, e, p) =
    flows_events d a b [] os hs e (flows_by d a b _ hs (is_over a c) (λ (l : WorksOff (with_heard a c bytes) c hs b). flows_heard d c a b bytes hs (flows_worked d c (with_heard a c bytes) l.mid b hs l.works l.waits)) p)
flows_answers d a b (arrival.Sent c n) os k (hs, e, p) = flows_events d a b _ os hs e (flows_sent d c n a b hs (is_gone a c) refl p)
flows_answers d a b arrival.Pump os k (hs, e, p) = flows_events d a b [] os hs e (flows_pumps d a b hs k p)
flows_answers d a b (arrival.Lose c) os k (hs, e, p) = flows_events d a b [] os hs e (flows_by d a b _ hs (is_gone a c) (λ (l : Loses a c hs b). flows_loses d c a b hs l) p)
flows_answers d a b (arrival.Reload g) os k p = flows_reloads d a b g os p

flows_short : (L : Lacks) (d : ℕ) (a b : World) (t : Arrival Config) (hs : List Happening) → FallsShort L a t hs b → Flows d a (taken_by d a t) hs b
flows_short L d a b arrival.Open hs p = flows_same d a b hs p
flows_short L d a b (arrival.Ready k) hs p = flows_same d a b hs p
flows_short L d a b (arrival.In c bytes) hs (inl p) = flows_same d a b hs p.1
flows_short L d a b (arrival.In c bytes) hs (inr l) = flows_heard d c a b bytes hs (flows_worked d c (with_heard a c bytes) l.mid b hs l.works l.waits)
flows_short L d a b (arrival.Sent c n) hs l = flows_taken d c n a l.mid l.works.mid b hs l.first l.rest l.all l.takes l.works.works l.works.waits
flows_short L d a b arrival.Pump hs p = flows_same d a b hs p.1
flows_short L d a b (arrival.Lose c) hs p = absurd p
flows_short L d a b (arrival.Reload g) hs p = flows_same d a b hs p.1

flows_brings : (L : Lacks) (d : ℕ) (a b : World) (t : Arrival Config) (x : Bool) (os : List Occurrence) → IsConsistent a → MatchBool x (Answers a t os b) (ByEvents os (λ hs. FallsShort L a t hs b)) → Flows d a (taken_by d a t) (events_of os) b
flows_brings L d a b t true os k p = flows_answers d a b t os k p
flows_brings L d a b t false os k (hs, e, p) = flows_events d a b (taken_by d a t) os hs e (flows_short L d a b t hs p)

-- what happened one after the other
flows_both : (d : ℕ) (a m b : World) (t u : List ℕ) (os first rest : List Occurrence) → os ≡ first ++ rest → Flows d a t (events_of first) m → Flows d m u (events_of rest) b → Flows d a (t ++ u) (events_of os) b
flows_both d a m b t u os first rest e f g =
    flows_at d a b (t ++ u) (events_of os) (events_of first ++ events_of rest) (ap events_of e ∙ events-append first rest) (flows_then d a m b t u (events_of first) (events_of rest) f g)

-- what is taken by the first alone
flows_first : (d : ℕ) (a m b : World) (t : List ℕ) (os first rest : List Occurrence) → os ≡ first ++ rest → Flows d a t (events_of first) m → Flows d m [] (events_of rest) b → Flows d a t (events_of os) b
flows_first d a m b t os first rest e f g = subst (λ (z : List ℕ). Flows d a z (events_of os) b) (append-nil t) (flows_both d a m b t [] os first rest e f g)

flows_none : (d : ℕ) (a b : World) (os : List Occurrence) → (os ≡ []) × (b ≡ a) → Flows d a [] (events_of os) b
flows_none d a b os p = flows_nothing d a b (events_of os) (ap events_of p.0, p.1)

flows_one : (L : Lacks) (d : ℕ) (a b : World) (t : Attempt) (os : List Occurrence) → IsConsistent a → Attempts L a (t ∷ []) os b → Flows d a (taken_by d a t.arrival) (events_of os) b
flows_one L d a b t os k (mid, first, rest, e, br, p) = flows_first d a mid b (taken_by d a t.arrival) os first rest e (flows_brings L d a mid t.arrival t.is_whole first k br) (flows_none d mid b rest p)

flows_lost : (L : Lacks) (d : ℕ) (a b : World) (t : Attempt) (c : ℕ) (os : List Occurrence) → IsOffered t.arrival → IsConsistent a → Attempts L a (t ∷ whole (arrival.Lose c) ∷ []) os b → Flows d a (taken_by d a t.arrival) (events_of os) b
flows_lost L d a b t c os offered k (mid, first, rest, e, br, p) =
    flows_first d a mid b (taken_by d a t.arrival) os first rest e (flows_brings L d a mid t.arrival t.is_whole first k br) (flows_one L d mid b (whole (arrival.Lose c)) rest (brings_stays L a mid t.arrival t.is_whole first offered k br) p)

-- ---- deeds

front_again : (w : World) (c : ℕ) (bytes : List ℕ) → IsFront w c bytes → take (length bytes) (w.wire c).output ≡ bytes
front_again w c bytes (n, le, e) = ap (λ (k : ℕ). take k (w.wire c).output) (ap (λ (z : List ℕ). length z) e ∙ length-take-le n (w.wire c).output le) ∙ sym e

-- what a write took of the output is what the socket took
taken_written : (p q : Peer) (w : World) (bytes : List ℕ) → IsFront w q.connection bytes → PairsWith p (Some q) → taken_by p.connection w (arrival.Sent q.connection (length bytes)) ≡ (if q.socket == p.socket then bytes else []) ++ []
taken_written p q w bytes front pair =
    ap (λ (z : List ℕ). if q.connection == p.connection then z else []) (front_again w q.connection bytes front)
    ∙ ap (λ (x : Bool). if x then bytes else []) pair
    ∙ sym (append-nil (if q.socket == p.socket then bytes else []))

flows_deed : {L : Lacks} (p : Peer) (v w : Served) (d : Deed) (os : List Occurrence) → IsConsistent v.world → DoesDeed L v d os w → PairsWith p (peer_of d) → Flows p.connection v.world (flat_map (written_to p.socket) (calls d)) (events_of os) w.world
flows_deed {L = L} p v w (Met i q) os k does pair = flows_one L p.connection v.world w.world (whole arrival.Open) os k does.brings
flows_deed {L = L} p v w (Turned_away s o) os k does pair = subst (λ (t : Arrival Config). Flows p.connection v.world (taken_by p.connection v.world t) (events_of os) w.world) does.table.0 (flows_one L p.connection v.world w.world o os k does.brings)
flows_deed {L = L} p v w (Met_no_one true) os k does pair = flows_none p.connection v.world w.world os does.brings
flows_deed {L = L} p v w (Met_no_one false) os k does pair = flows_none p.connection v.world w.world os does.brings
flows_deed {L = L} p v w (Heard i q room bytes Enters) os k does pair = flows_one L p.connection v.world w.world (whole (arrival.In q.connection bytes)) os k does.brings
flows_deed {L = L} p v w (Heard i q room bytes Leaves) os k does pair = flows_one L p.connection v.world w.world (whole (arrival.In q.connection bytes)) os k does.brings
flows_deed {L = L} p v w (Heard i q room bytes Stays) os k does pair = flows_one L p.connection v.world w.world (whole (arrival.In q.connection bytes)) os k does.brings
flows_deed {L = L} p v w (Heard_partly i q room bytes) os k does pair = flows_lost L p.connection v.world w.world (short (arrival.In q.connection bytes)) q.connection os tt k does.brings
flows_deed {L = L} p v w (Heard_nothing i q room) os k does pair = flows_none p.connection v.world w.world os does.brings
flows_deed {L = L} p v w (Heard_end i q room true) os k does pair = flows_one L p.connection v.world w.world (whole (arrival.Lose q.connection)) os k does.brings
flows_deed {L = L} p v w (Heard_end i q room false) os k does pair = flows_one L p.connection v.world w.world (whole (arrival.Lose q.connection)) os k does.brings
flows_deed {L = L} p v w (Gave i q offered taken Enters) os k does pair =
    subst (λ (z : List ℕ). Flows p.connection v.world z (events_of os) w.world) (taken_written p q v.world taken does.table.1 pair) (flows_one L p.connection v.world w.world (whole (arrival.Sent q.connection (length taken))) os k does.brings)
flows_deed {L = L} p v w (Gave i q offered taken Leaves) os k does pair =
    subst (λ (z : List ℕ). Flows p.connection v.world z (events_of os) w.world) (taken_written p q v.world taken does.table.1 pair) (flows_one L p.connection v.world w.world (whole (arrival.Sent q.connection (length taken))) os k does.brings)
flows_deed {L = L} p v w (Gave i q offered taken Stays) os k does pair =
    subst (λ (z : List ℕ). Flows p.connection v.world z (events_of os) w.world) (taken_written p q v.world taken does.table.1 pair) (flows_one L p.connection v.world w.world (whole (arrival.Sent q.connection (length taken))) os k does.brings)
flows_deed {L = L} p v w (Gave_partly i q offered taken) os k does pair =
    subst (λ (z : List ℕ). Flows p.connection v.world z (events_of os) w.world) (taken_written p q v.world taken does.table.1 pair) (flows_lost L p.connection v.world w.world (short (arrival.Sent q.connection (length taken))) q.connection os tt k does.brings)
flows_deed {L = L} p v w (Gave_nothing i q offered) os k does pair = flows_none p.connection v.world w.world os does.brings
flows_deed {L = L} p v w (Gave_up i q offered) os k does pair = flows_one L p.connection v.world w.world (whole (arrival.Lose q.connection)) os k does.brings
flows_deed {L = L} p v w Pumped os k does pair = flows_one L p.connection v.world w.world (whole arrival.Pump) os k does.brings
flows_deed {L = L} p v w Pumped_nothing os k does pair = flows_one L p.connection v.world w.world (whole arrival.Pump) os k does.brings
flows_deed {L = L} p v w Pump_refused os k does pair = flows_one L p.connection v.world w.world (short arrival.Pump) os k does.brings
flows_deed {L = L} p v w (Closed_gone i q) os k does pair = flows_none p.connection v.world w.world os does.brings
flows_deed {L = L} p v w Paused os k does pair = flows_none p.connection v.world w.world os does.brings
flows_deed {L = L} p v w (Reload_decided g) os k does pair = flows_one L p.connection v.world w.world (whole (arrival.Reload g)) os k does.brings
flows_deed {L = L} p v w (Reload_undecided g) os k does pair = flows_one L p.connection v.world w.world (short (arrival.Reload g)) os k does.brings

pub flows_story : (L : Lacks) (p : Peer) (ds : List Deed) (v w : Served) (os : List Occurrence) → IsConsistent v.world → Story L v ds os w → AllByRecursion (λ d. PairsWith p (peer_of d)) ds → Flows p.connection v.world (flat_map (written_to p.socket) (flat_map calls ds)) (events_of os) w.world
flows_story L p [] v w os k s a = flows_none p.connection v.world w.world os (s.0, ap (λ (z : Served). z.world) s.1)
flows_story L p (d ∷ ds) v w os k (mid, first, rest, e, does, s) a =
    subst (λ (z : List ℕ). Flows p.connection v.world z (events_of os) w.world) (sym (flat_map-append (written_to p.socket) (calls d) (flat_map calls ds)))
    (flows_both p.connection v.world mid.world w.world _ _ os first rest e (flows_deed p v mid d first k does a.0) (flows_story L p ds mid w rest (deed_stays v mid d first k does) s a.1))

-- what was taken so far is a beginning of what was put out
pub beginning : (d : ℕ) (taken put : List ℕ) (w : World) → Accounts d taken put w → (rest : List ℕ) × (taken ++ rest ≡ put)
beginning d taken put w acc = go acc.fits
  where
    go : (taken ++ (w.wire d).output ≡ put) ⊎ ((is_over w d ≡ true) × ((w.wire d).output ≡ []) × ((rest : List ℕ) × (taken ++ rest ≡ put))) → (rest : List ℕ) × (taken ++ rest ≡ put)
    go (inl e) = ((w.wire d).output, e)
    go (inr g) = g.2

-- in a world with no connection nothing was taken or put out
new_accounts : (f : Config) (d : ℕ) → Accounts d [] [] (new_world f)
new_accounts f d = record { fits = inl refl; unopened = λ lt. (refl, refl, refl) }

-- of all that a server did after that
pub story_accounts : (L : Lacks) (f : Config) (p : Peer) (ds : List Deed) (traffic : Traffic) (new : Served) (os : List Occurrence) → IsSound f → Story L (served (new_world f) [] traffic) ds os new → AllByRecursion (λ d. PairsWith p (peer_of d)) ds
    → Accounts p.connection (flat_map (written_to p.socket) (flat_map calls ds)) (put_out p.connection (events_of os)) new.world
story_accounts L f p ds traffic new os sound s pairs = (flows_story L p ds (served (new_world f) [] traffic) new os (new_is_consistent f sound) s pairs).keeps [] [] (new_accounts f p.connection)

pub are_beginnings : (L : Lacks) (f : Config) (ds : List Deed) (traffic : Traffic) (new : Served) (os : List Occurrence) → IsSound f → Story L (served (new_world f) [] traffic) ds os new → AreBeginnings ds os
are_beginnings L f ds traffic new os sound s p i =
    beginning p.connection _ (put_out p.connection (events_of os)) new.world (story_accounts L f p ds traffic new os sound s (pairs_in L ds (served (new_world f) [] traffic) new os refl s p i))
