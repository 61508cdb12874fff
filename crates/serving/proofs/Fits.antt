-- However a server goes on, each slot has a connection of its own.
use Rattle.serving.proofs.Names.{◌≡◌, ◌≢◌, ◌≤◌, ◌<◌, ℕ, suc, zero, ◌+◌, List, [], ◌∷◌, Bool, true, false, Option, None, length, refl, sym, ap, subst, ◌∙◌, ◌⊎◌, inl, inr, slice_set, slice_index_or, arith, false≢true, cases_eq, same_Some, MatchBool, Config, Happening, Occurrence, World, Works, none_more, one_more, Waits, WorksOff, Answers, ByEvents, Same, with_heard, is_over, is_gone, can_open, Opens, Loses, TakesAndWorks, Pumps, delivers, idles, Arrival, Ask, Attempt, whole, FallsShort, Attempts, Served, At, Filled, Deed, Met, Turned_away, Met_no_one, Heard, Heard_partly, Heard_nothing, Heard_end, Gave, Gave_partly, Gave_nothing, Gave_up, Pumped_nothing, Pump_refused, Closed_gone, Paused, Reload_decided, Reload_undecided, attempts, Table, DoesDeed, Story, Serves, IsFit, AreInSlots, AreQuiet, Peer, Lacks}
use Rattle.model.specs.declared.events.Arrival.TheVariants as arrival
use Rattle.serving.specs.Story.{Pumped}

-- ---- numbers of connections are only given

works_given : (c : ℕ) (a b : World) (hs : List Happening) → Works c a hs b → b.given ≡ a.given
works_given c a b hs none_more = refl
works_given c a b hs (one_more {mid = m} {first = f} {rest = r} t rest e) = works_given c m b r rest ∙ t.given

worked_given : (c : ℕ) (a m b : World) (hs : List Happening) → Works c a hs m → Waits m c b → b.given ≡ a.given
worked_given c a m b hs w v = v.given ∙ works_given c a m hs w

either : (a b : World) (P : Type 0) (hs : List Happening) (x : Bool) → (P → a.given ≤ b.given) → MatchBool x ((hs ≡ []) × Same a b) P → a.given ≤ b.given
either a b P hs true f p = let g = p.1.given in omega (arith, g)
either a b P hs false f p = f p

either_opens : (a b : World) (P : Type 0) (hs : List Happening) (x : Bool) → (P → b.given ≡ a.given + 1) → MatchBool x P ((hs ≡ []) × Same a b) → a.given ≤ b.given
either_opens a b P hs true f p = let g = f p in omega (arith, g)
either_opens a b P hs false f p = let g = p.1.given in omega (arith, g)

pumps_le : (a b : World) (hs : List Happening) → Pumps a hs b → a.given ≤ b.given
pumps_le a b hs (delivers d) = let g = d.given in omega (arith, g)
pumps_le a b hs (idles n p) = let g = p.1.given in omega (arith, g)

answers_le : (a b : World) (t : Arrival Config) (os : List Occurrence) → Answers a t os b → a.given ≤ b.given
answers_le a b arrival.Open os (hs, e, p) = either_opens a b _ hs (can_open a) (λ (o : Opens a _ _ hs b). o.given) p
answers_le a b (arrival.Ready k) os (hs, e, p) = either_opens a b _ hs (can_open a) (λ (o : Opens a _ _ hs b). o.given) p
answers_le a b (arrival.In c bytes) os (hs, e, p) = either a b _ hs (is_over a c) (λ (l : WorksOff (with_heard a c bytes) c hs b). let g = worked_given c (with_heard a c bytes) l.mid b hs l.works l.waits in omega (arith, g)) p
answers_le a b (arrival.Sent c n) os (hs, e, p) =
    either a b _ hs (is_gone a c) (λ (l : TakesAndWorks a c n hs b). let g = worked_given c l.mid l.works.mid b l.rest l.works.works l.works.waits in let h = l.takes.given in omega (arith, g, h)) p
answers_le a b arrival.Pump os (hs, e, p) = pumps_le a b hs p
answers_le a b (arrival.Lose c) os (hs, e, p) = either a b _ hs (is_gone a c) (λ (l : Loses a c hs b). let g = l.given in omega (arith, g)) p
answers_le a b (arrival.Reload offered) os p = let g = p.given in omega (arith, g)

short_le : (L : Lacks) (a b : World) (t : Arrival Config) (hs : List Happening) → FallsShort L a t hs b → a.given ≤ b.given
short_le L a b arrival.Open hs p = let g = p.1.given in omega (arith, g)
short_le L a b (arrival.Ready k) hs p = let g = p.1.given in omega (arith, g)
short_le L a b (arrival.In c bytes) hs (inl p) = let g = p.1.1.given in omega (arith, g)
short_le L a b (arrival.In c bytes) hs (inr l) = let g = worked_given c (with_heard a c bytes) l.mid b hs l.works l.waits in omega (arith, g)
short_le L a b (arrival.Sent c n) hs l = let g = worked_given c l.mid l.works.mid b l.rest l.works.works l.works.waits in let h = l.takes.given in omega (arith, g, h)
short_le L a b arrival.Pump hs p = let g = p.1.1.given in omega (arith, g)
short_le L a b (arrival.Lose c) hs p = absurd p
short_le L a b (arrival.Reload g) hs p = let g = p.1.1.given in omega (arith, g)

brings_le : (L : Lacks) (a b : World) (t : Arrival Config) (x : Bool) (os : List Occurrence) → MatchBool x (Answers a t os b) (ByEvents os (λ hs. FallsShort L a t hs b)) → a.given ≤ b.given
brings_le L a b t true os p = answers_le a b t os p
brings_le L a b t false os (hs, e, p) = short_le L a b t hs p

pub attempts_le : (L : Lacks) (as' : List Attempt) (a b : World) (os : List Occurrence) → Attempts L a as' os b → a.given ≤ b.given
attempts_le L [] a b os p = let g = ap (λ (w : World). w.given) p.1 in omega (arith, g)
attempts_le L (t ∷ as') a b os (mid, first, rest, e, br, p) = let g = brings_le L a mid t.arrival t.is_whole first br in let h = attempts_le L as' mid b rest p in omega (arith, g, h)

opened_given : (a b : World) (hs : List Happening) (x : Bool) (P : Type 0) → x ≡ true → (P → b.given ≡ a.given + 1) → MatchBool x P ((hs ≡ []) × Same a b) → b.given ≡ a.given + 1
opened_given a b hs true P e f p = f p
opened_given a b hs false P e f p = absurd (false≢true e)

pub met_given : (L : Lacks) (a b : World) (os : List Occurrence) → can_open a ≡ true → Attempts L a (whole arrival.Open ∷ []) os b → b.given ≡ a.given + 1
met_given L a b os can (mid, first, rest, e, (hs, f, br), p) =
    ap (λ (w : World). w.given) p.1 ∙ opened_given a mid hs (can_open a) _ can (λ (o : Opens a _ _ hs mid). o.given) br

-- ---- the slots

-- what a slot holds after one of them was freed, it held before
pub freed_at : (ps : List (Option Peer)) (i j : ℕ) (p : Peer) → At (slice_set ps i None) j p → At ps j p
freed_at [] i j p at = at
freed_at (q ∷ ps) zero zero p at = absurd (cc at)
freed_at (q ∷ ps) zero (suc j) p at = at
freed_at (q ∷ ps) (suc i) zero p at = at
freed_at (q ∷ ps) (suc i) (suc j) p at = freed_at ps i j p at

-- a slot that holds a peer is one of them
pub slot_within : (ps : List (Option Peer)) (i : ℕ) (p : Peer) → At ps i p → i < length ps
slot_within [] i p at = absurd (cc at)
slot_within (q ∷ ps) zero p at = omega arith
slot_within (q ∷ ps) (suc i) p at = let lt = slot_within ps i p at in omega (arith, lt)

pub fit_within : (a b : World) (ps qs : List (Option Peer)) → a.given ≤ b.given → ((j : ℕ) (p : Peer) → At qs j p → At ps j p) → IsFit a ps → IsFit b qs
fit_within a b ps qs le sub f = record {
  distinct = λ i j p q x y e. f.distinct i j p q (sub i p x) (sub j q y) e;
  numbered = λ i p x. f.numbered i p (sub i p x);
  given = λ i p x. let g = f.given i p (sub i p x) in omega (arith, g, le);
}

fit_same : (a b : Served) → a.world.given ≤ b.world.given → b.peers ≡ a.peers → IsFit a.world a.peers → IsFit b.world b.peers
fit_same a b le e f = fit_within a.world b.world a.peers b.peers le (λ j p at. subst (λ (z : List (Option Peer)). At z j p) e at) f

fit_freed : (a b : Served) (i : ℕ) → a.world.given ≤ b.world.given → b.peers ≡ slice_set a.peers i None → IsFit a.world a.peers → IsFit b.world b.peers
fit_freed a b i le e f = fit_within a.world b.world a.peers b.peers le (λ j p at. freed_at a.peers i j p (subst (λ (z : List (Option Peer)). At z j p) e at)) f

-- what a slot holds after one of them was filled is what it was filled with, or it held it before
pub filled_at : (ps qs : List (Option Peer)) (i : ℕ) (p : Peer) → Filled ps i p qs → (j : ℕ) (q : Peer) → At qs j q → ((j ≡ i) × (q ≡ p)) ⊎ At ps j q
filled_at ps qs i p f j q at = go (cases_eq j i)
  where
    go : (j ≡ i) ⊎ (j ≢ i) → ((j ≡ i) × (q ≡ p)) ⊎ At ps j q
    go (inl e) = inl (e, same_Some q p (sym at ∙ ap (λ (k : ℕ). slice_index_or qs k None) e ∙ f.here))
    go (inr ne) = inr (sym (f.others j ne) ∙ at)

fit_filled : (a b : World) (ps qs : List (Option Peer)) (i : ℕ) (p : Peer) → p.connection ≡ a.given + 1 → b.given ≡ a.given + 1 → Filled ps i p qs → IsFit a ps → IsFit b qs
fit_filled a b ps qs i p is more filled f = record {
  distinct = λ j k q r x y e. distinct j k q r (filled_at ps qs i p filled j q x) (filled_at ps qs i p filled k r y) e;
  numbered = λ j q x. numbered j q (filled_at ps qs i p filled j q x);
  given = λ j q x. given j q (filled_at ps qs i p filled j q x);
}
  where
    distinct : (j k : ℕ) (q r : Peer) → ((j ≡ i) × (q ≡ p)) ⊎ At ps j q → ((k ≡ i) × (r ≡ p)) ⊎ At ps k r → q.connection ≡ r.connection → j ≡ k
    distinct j k q r (inl x) (inl y) e = x.0 ∙ sym y.0
    distinct j k q r (inl x) (inr y) e = let g = f.given k r y in let n = ap (λ (z : Peer). z.connection) x.1 in absurd (omega (arith, g, n, is, e))
    distinct j k q r (inr x) (inl y) e = let g = f.given j q x in let n = ap (λ (z : Peer). z.connection) y.1 in absurd (omega (arith, g, n, is, e))
    distinct j k q r (inr x) (inr y) e = f.distinct j k q r x y e

    numbered : (j : ℕ) (q : Peer) → ((j ≡ i) × (q ≡ p)) ⊎ At ps j q → 0 < q.connection
    numbered j q (inl x) = let n = ap (λ (z : Peer). z.connection) x.1 in omega (arith, n, is)
    numbered j q (inr x) = f.numbered j q x

    given : (j : ℕ) (q : Peer) → ((j ≡ i) × (q ≡ p)) ⊎ At ps j q → q.connection ≤ b.given
    given j q (inl x) = let n = ap (λ (z : Peer). z.connection) x.1 in omega (arith, n, is, more)
    given j q (inr x) = let g = f.given j q x in omega (arith, g, more)

fit_does : {L : Lacks} (a b : Served) (d : Deed) (os : List Occurrence) → DoesDeed L a d os b → IsFit a.world a.peers → IsFit b.world b.peers
fit_does {L = L} a b d os does f = go d does.table (attempts_le L (attempts d) a.world b.world os does.brings) does.brings
  where
    go : (d : Deed) → Table L a d b.peers → a.world.given ≤ b.world.given → Attempts L a.world (attempts d) os b.world → IsFit b.world b.peers
    go (Met i p) t le br = fit_filled a.world b.world a.peers b.peers i p t.1 (met_given L a.world b.world os t.0 br) t.3 f
    go (Turned_away s o) t le br = fit_same a b le t.3 f
    go (Met_no_one x) t le br = fit_same a b le t f
    go (Heard i p room bytes passage) t le br = fit_same a b le t.1.1 f
    go (Heard_partly i p room bytes) t le br = fit_freed a b i le t.1.1 f
    go (Heard_nothing i p room) t le br = fit_same a b le t.1.1 f
    go (Heard_end i p room x) t le br = fit_freed a b i le t.1.1 f
    go (Gave i p offered taken passage) t le br = fit_same a b le t.2.1 f
    go (Gave_partly i p offered taken) t le br = fit_freed a b i le t.2.1 f
    go (Gave_nothing i p offered) t le br = fit_same a b le t.1.1 f
    go (Gave_up i p offered) t le br = fit_freed a b i le t.1.1 f
    go Pumped t le br = fit_same a b le t.1 f
    go Pumped_nothing t le br = fit_same a b le t.1 f
    go Pump_refused t le br = fit_same a b le t f
    go (Closed_gone i p) t le br = fit_freed a b i le t.1.1 f
    go Paused t le br = fit_same a b le t f
    go (Reload_decided g) t le br = fit_same a b le t.1 f
    go (Reload_undecided g) t le br = fit_same a b le t.1 f

fit_story : (L : Lacks) (ds : List Deed) (a b : Served) (os : List Occurrence) → Story L a ds os b → IsFit a.world a.peers → IsFit b.world b.peers
fit_story L [] a b os s f = subst (λ (z : Served). IsFit z.world z.peers) (sym s.1) f
fit_story L (d ∷ ds) a b os (mid, first, rest, e, does, s) f = fit_story L ds mid b rest s (fit_does a mid d first does f)

pub serves_fit : {L : Lacks} (a b : Served) (xs : List Ask) (p : Bool) → Serves L a xs p b → IsFit a.world a.peers → IsFit b.world b.peers
serves_fit {L = L} a b xs p s f = fit_story L s.deeds a b s.occurrences s.story f

-- what was in its slots stays so, where the marks are still of what is quiet
pub in_slots_on : {L : Lacks} (a b : Served) (xs : List Ask) (p : Bool) (ms ns : List Bool) → Serves L a xs p b → AreInSlots a.world a.peers ms → AreQuiet b.world b.peers ns → AreInSlots b.world b.peers ns
in_slots_on a b xs p ms ns s k quiet = record { fit = serves_fit a b xs p s k.fit; quiet = quiet }

-- if no further number is given the slots fit as they did
pub fit_on : (a b : World) (ps : List (Option Peer)) → b.given ≡ a.given → IsFit a ps → IsFit b ps
fit_on a b ps e fit = record { distinct = fit.distinct; numbered = fit.numbered; given = λ i p at. let le = fit.given i p at in omega (arith, le, e) }

-- with no slot every server fits
pub fit_none : (w : World) → IsFit w []
fit_none w = record { distinct = λ i j p q at. absurd (cc at); numbered = λ i p at. absurd (cc at); given = λ i p at. absurd (cc at) }
