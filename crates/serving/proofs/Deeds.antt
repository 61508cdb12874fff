-- Each deed, as a server goes on by it.
use Rattle.serving.proofs.Names.{true, false, ◌≡◌, ◌≤◌, ℕ, ◌+◌, List, [], ◌∷◌, ◌++◌, Option, None, Some, length, map, take, refl, sym, subst, ◌∙◌, slice_set, length-take-le, Happening, Occurrence, Of_event, World, Same, can_open, is_gone, Answers, Delivers, NoneCanDeliver, delivers, idles, Accepted, Not_accepted, Accept_failed, Got, Nothing_got, Read_ended, Read_failed, Took, Nothing_taken, Write_failed, Closed, asks, To_accept, To_read, To_write, Traffic, AddsCalls, IsFresh, Attempt, whole, short, Brings, FallsShort, served, At, Filled, MayTurnAway, TakesIn, IsOffer, Passage, Enters, Leaves, Stays, greeting, passage_between, Met, Turned_away, Met_no_one, Heard, Heard_partly, Heard_nothing, Heard_end, Gave, Gave_partly, Gave_nothing, Gave_up, Pumped_nothing, Pump_refused, Closed_gone, Served, Serves, PumpsOnce, Deed, DoesDeed, is_pump, is_done, Peer, Lacks, To_open, To_pump, OpensNew}
use Rattle.model.specs.declared.events.Arrival.TheVariants as arrival
use Rattle.serving.specs.Story.{Pumped}
use Rattle.serving.proofs.Turning.{match_false, opens_one}
use Rattle.serving.proofs.Onward.{tells_none, tells_then, serves_one, attempt_one, attempt_two}

-- ---- accepts

pub met : {L : Lacks} (a b : World) (ps qs : List (Option Peer)) (s : ℕ) (traffic now : Traffic) → TakesIn L a ps s true b qs → IsFresh s traffic → AddsCalls traffic (Accepted s ∷ []) now → Serves L (served a ps traffic) (To_accept ∷ []) true (served b qs now)
met {L = L} a b ps qs s traffic now (can, answers, filled) fresh e =
    let p : Peer = record { connection = a.given + 1; socket = s } in
    serves_one (served a ps traffic) (served b qs now) _ _ (Met filled.0 p) answers.0
    (record { table = (can, refl, fresh, filled.1); brings = attempt_one L a b (whole arrival.Open) answers.0 answers.1; greets = tt; traffic = e }) refl refl refl

pub turned_away : {L : Lacks} (a b : World) (ps qs : List (Option Peer)) (s : ℕ) (traffic mid now : Traffic) → TakesIn L a ps s false b qs → IsFresh s traffic → AddsCalls traffic (Accepted s ∷ []) mid → AddsCalls mid (Closed s ∷ []) now → Serves L (served a ps traffic) (To_accept ∷ []) true (served b qs now)
turned_away {L = L} a b ps qs s traffic mid now t fresh e f =
    serves_one (served a ps traffic) (served b qs now) _ _ (Turned_away s t.0.0) []
    (record { table = (t.0.1, t.0.2, fresh, t.1); brings = attempt_one L a b t.0.0 [] t.0.3; greets = tt; traffic = tells_then traffic mid now _ _ e f }) refl refl refl

pub met_nothing : {L : Lacks} (a : World) (ps : List (Option Peer)) (traffic now : Traffic) → AddsCalls traffic (Not_accepted ∷ []) now → Serves L (served a ps traffic) (To_accept ∷ []) false (served a ps now)
met_nothing a ps traffic now e = serves_one (served a ps traffic) (served a ps now) _ _ (Met_no_one false) [] (record { table = refl; brings = (refl, refl); greets = tt; traffic = e }) refl refl refl

pub met_failure : {L : Lacks} (a : World) (ps : List (Option Peer)) (traffic now : Traffic) → AddsCalls traffic (Accept_failed ∷ []) now → Serves L (served a ps traffic) (To_accept ∷ []) false (served a ps now)
met_failure a ps traffic now e = serves_one (served a ps traffic) (served a ps now) _ _ (Met_no_one true) [] (record { table = refl; brings = (refl, refl); greets = tt; traffic = e }) refl refl refl

-- ---- reads

asks_heard : (s room : ℕ) (bytes : List ℕ) (x : Passage) → asks (Got s room bytes ∷ greeting s x) ≡ To_read s ∷ []
asks_heard s room bytes Enters = refl
asks_heard s room bytes Leaves = refl
asks_heard s room bytes Stays = refl

pub heard : {L : Lacks} (a b : World) (ps : List (Option Peer)) (i : ℕ) (p : Peer) (room : ℕ) (bytes : List ℕ) (x : Passage) (traffic mid now : Traffic) → IsOffer room → At ps i p → (os : List Occurrence) × Answers a (arrival.In p.connection bytes) os b
    → x ≡ passage_between a b p.connection → AddsCalls traffic (Got p.socket room bytes ∷ []) mid → AddsCalls mid (greeting p.socket x) now → Serves L (served a ps traffic) (To_read p.socket ∷ []) true (served b ps now)
heard {L = L} a b ps i p room bytes x traffic mid now offer at ans passes e f =
    serves_one (served a ps traffic) (served b ps now) _ _ (Heard i p room bytes x) ans.0
    (record { table = (offer, (at, refl)); brings = attempt_one L a b (whole (arrival.In p.connection bytes)) ans.0 ans.1; greets = passes; traffic = tells_then traffic mid now _ _ e f })
    (asks_heard p.socket room bytes x) refl refl

pub heard_partly : {L : Lacks} (a m b : World) (ps : List (Option Peer)) (i : ℕ) (p : Peer) (room : ℕ) (bytes : List ℕ) (traffic mid now : Traffic) → IsOffer room → At ps i p → (hs : List Happening) × FallsShort L a (arrival.In p.connection bytes) hs m
    → (os : List Occurrence) × Answers m (arrival.Lose p.connection) os b → AddsCalls traffic (Got p.socket room bytes ∷ []) mid → AddsCalls mid (Closed p.socket ∷ []) now
    → Serves L (served a ps traffic) (To_read p.socket ∷ []) true (served b (slice_set ps i None) now)
heard_partly {L = L} a m b ps i p room bytes traffic mid now offer at falls lost e f =
    serves_one (served a ps traffic) (served b (slice_set ps i None) now) _ _ (Heard_partly i p room bytes) (map Of_event falls.0 ++ lost.0)
    (record {
      table = (offer, (at, refl));
      brings = attempt_two L a m b (short (arrival.In p.connection bytes)) (whole (arrival.Lose p.connection)) (map Of_event falls.0) lost.0 (falls.0, refl, falls.1) lost.1;
      greets = tt;
      traffic = tells_then traffic mid now _ _ e f;
    }) refl refl refl

pub heard_nothing : {L : Lacks} (a : World) (ps : List (Option Peer)) (i : ℕ) (p : Peer) (room : ℕ) (traffic now : Traffic) → IsOffer room → At ps i p → AddsCalls traffic (Nothing_got p.socket room ∷ []) now → Serves L (served a ps traffic) (To_read p.socket ∷ []) false (served a ps now)
heard_nothing a ps i p room traffic now offer at e = serves_one (served a ps traffic) (served a ps now) _ _ (Heard_nothing i p room) [] (record { table = (offer, (at, refl)); brings = (refl, refl); greets = tt; traffic = e }) refl refl refl

pub heard_end : {L : Lacks} (a b : World) (ps : List (Option Peer)) (i : ℕ) (p : Peer) (room : ℕ) (traffic mid now : Traffic) → IsOffer room → At ps i p → (os : List Occurrence) × Answers a (arrival.Lose p.connection) os b
    → AddsCalls traffic (Read_ended p.socket room ∷ []) mid → AddsCalls mid (Closed p.socket ∷ []) now → Serves L (served a ps traffic) (To_read p.socket ∷ []) true (served b (slice_set ps i None) now)
heard_end {L = L} a b ps i p room traffic mid now offer at lost e f =
    serves_one (served a ps traffic) (served b (slice_set ps i None) now) _ _ (Heard_end i p room false) lost.0
    (record { table = (offer, (at, refl)); brings = attempt_one L a b (whole (arrival.Lose p.connection)) lost.0 lost.1; greets = tt; traffic = tells_then traffic mid now _ _ e f }) refl refl refl

pub heard_failure : {L : Lacks} (a b : World) (ps : List (Option Peer)) (i : ℕ) (p : Peer) (room : ℕ) (traffic mid now : Traffic) → IsOffer room → At ps i p → (os : List Occurrence) × Answers a (arrival.Lose p.connection) os b
    → AddsCalls traffic (Read_failed p.socket room ∷ []) mid → AddsCalls mid (Closed p.socket ∷ []) now → Serves L (served a ps traffic) (To_read p.socket ∷ []) true (served b (slice_set ps i None) now)
heard_failure {L = L} a b ps i p room traffic mid now offer at lost e f =
    serves_one (served a ps traffic) (served b (slice_set ps i None) now) _ _ (Heard_end i p room true) lost.0
    (record { table = (offer, (at, refl)); brings = attempt_one L a b (whole (arrival.Lose p.connection)) lost.0 lost.1; greets = tt; traffic = tells_then traffic mid now _ _ e f }) refl refl refl

-- ---- writes

asks_gave : (s : ℕ) (offered taken : List ℕ) (x : Passage) → asks (Took s offered taken ∷ greeting s x) ≡ To_write s offered ∷ []
asks_gave s offered taken Enters = refl
asks_gave s offered taken Leaves = refl
asks_gave s offered taken Stays = refl

pub gave : {L : Lacks} (a b : World) (ps : List (Option Peer)) (i : ℕ) (p : Peer) (n : ℕ) (x : Passage) (traffic mid now : Traffic) → At ps i p → n ≤ length (a.wire p.connection).output → (os : List Occurrence) × Answers a (arrival.Sent p.connection n) os b
    → x ≡ passage_between a b p.connection → AddsCalls traffic (Took p.socket (a.wire p.connection).output (take n (a.wire p.connection).output) ∷ []) mid → AddsCalls mid (greeting p.socket x) now
    → Serves L (served a ps traffic) (To_write p.socket (a.wire p.connection).output ∷ []) true (served b ps now)
gave {L = L} a b ps i p n x traffic mid now at le ans passes e f =
    let out = (a.wire p.connection).output in
    let is : length (take n out) ≡ n = length-take-le n out le in
    let brings : Answers a (arrival.Sent p.connection (length (take n out))) ans.0 b = subst (λ (k : ℕ). Answers a (arrival.Sent p.connection k) ans.0 b) (sym is) ans.1 in
    serves_one (served a ps traffic) (served b ps now) _ _ (Gave i p out (take n out) x) ans.0
    (record { table = (refl, (n, le, refl), (at, refl)); brings = attempt_one L a b (whole (arrival.Sent p.connection (length (take n out)))) ans.0 brings; greets = passes; traffic = tells_then traffic mid now _ _ e f })
    (asks_gave p.socket out (take n out) x) refl refl

pub gave_partly : {L : Lacks} (a m b : World) (ps : List (Option Peer)) (i : ℕ) (p : Peer) (n : ℕ) (traffic mid now : Traffic) → At ps i p → n ≤ length (a.wire p.connection).output → (hs : List Happening) × FallsShort L a (arrival.Sent p.connection n) hs m
    → (os : List Occurrence) × Answers m (arrival.Lose p.connection) os b → AddsCalls traffic (Took p.socket (a.wire p.connection).output (take n (a.wire p.connection).output) ∷ []) mid → AddsCalls mid (Closed p.socket ∷ []) now
    → Serves L (served a ps traffic) (To_write p.socket (a.wire p.connection).output ∷ []) true (served b (slice_set ps i None) now)
gave_partly {L = L} a m b ps i p n traffic mid now at le falls lost e f =
    let out = (a.wire p.connection).output in
    let is : length (take n out) ≡ n = length-take-le n out le in
    let brings : FallsShort L a (arrival.Sent p.connection (length (take n out))) falls.0 m = subst (λ (k : ℕ). FallsShort L a (arrival.Sent p.connection k) falls.0 m) (sym is) falls.1 in
    serves_one (served a ps traffic) (served b (slice_set ps i None) now) _ _ (Gave_partly i p out (take n out)) (map Of_event falls.0 ++ lost.0)
    (record {
      table = (refl, (n, le, refl), (at, refl));
      brings = attempt_two L a m b (short (arrival.Sent p.connection (length (take n out)))) (whole (arrival.Lose p.connection)) (map Of_event falls.0) lost.0 (falls.0, refl, brings) lost.1;
      greets = tt;
      traffic = tells_then traffic mid now _ _ e f;
    }) refl refl refl

pub gave_nothing : {L : Lacks} (a : World) (ps : List (Option Peer)) (i : ℕ) (p : Peer) (traffic now : Traffic) → At ps i p → AddsCalls traffic (Nothing_taken p.socket (a.wire p.connection).output ∷ []) now → Serves L (served a ps traffic) (To_write p.socket (a.wire p.connection).output ∷ []) false (served a ps now)
gave_nothing a ps i p traffic now at e = serves_one (served a ps traffic) (served a ps now) _ _ (Gave_nothing i p (a.wire p.connection).output) [] (record { table = (refl, (at, refl)); brings = (refl, refl); greets = tt; traffic = e }) refl refl refl

pub gave_up : {L : Lacks} (a b : World) (ps : List (Option Peer)) (i : ℕ) (p : Peer) (traffic mid now : Traffic) → At ps i p → (os : List Occurrence) × Answers a (arrival.Lose p.connection) os b
    → AddsCalls traffic (Write_failed p.socket (a.wire p.connection).output ∷ []) mid → AddsCalls mid (Closed p.socket ∷ []) now → Serves L (served a ps traffic) (To_write p.socket (a.wire p.connection).output ∷ []) true (served b (slice_set ps i None) now)
gave_up {L = L} a b ps i p traffic mid now at lost e f =
    serves_one (served a ps traffic) (served b (slice_set ps i None) now) _ _ (Gave_up i p (a.wire p.connection).output) lost.0
    (record { table = (refl, (at, refl)); brings = attempt_one L a b (whole (arrival.Lose p.connection)) lost.0 lost.1; greets = tt; traffic = tells_then traffic mid now _ _ e f }) refl refl refl

-- ---- pumps

pump_one : {L : Lacks} (a b : Served) (d : Deed) (os : List Occurrence) → DoesDeed L a d os b → is_pump d ≡ true → PumpsOnce L a (is_done d) b
pump_one a b d os does pump = record { deed = d; occurrences = os; does = does; pump = pump; done = refl }

pub pumped : {L : Lacks} (a b : World) (ps : List (Option Peer)) (traffic : Traffic) (c : ℕ) (hs : List Happening) → Delivers a c hs b → PumpsOnce L (served a ps traffic) true (served b ps traffic)
pumped {L = L} a b ps traffic c hs d = pump_one (served a ps traffic) (served b ps traffic) Pumped (map Of_event hs)
    (record { table = ((c, d.puts.happens.stepped.acts.made), refl); brings = attempt_one L a b (whole arrival.Pump) (map Of_event hs) (hs, refl, delivers d); greets = tt; traffic = tells_none traffic }) refl

pub pumped_nothing : {L : Lacks} (a b : World) (ps : List (Option Peer)) (traffic : Traffic) → NoneCanDeliver a → Same a b → PumpsOnce L (served a ps traffic) false (served b ps traffic)
pumped_nothing {L = L} a b ps traffic none same = pump_one (served a ps traffic) (served b ps traffic) Pumped_nothing []
    (record { table = (none, refl); brings = attempt_one L a b (whole arrival.Pump) [] ([], refl, idles none (refl, same)); greets = tt; traffic = tells_none traffic }) refl

pub pump_refused : {L : Lacks} (a b : World) (ps : List (Option Peer)) (traffic : Traffic) → L a To_pump → Same a b → PumpsOnce L (served a ps traffic) false (served b ps traffic)
pump_refused {L = L} a b ps traffic wants same = pump_one (served a ps traffic) (served b ps traffic) Pump_refused []
    (record { table = refl; brings = attempt_one L a b (short arrival.Pump) [] ([], refl, (wants, (refl, same))); greets = tt; traffic = tells_none traffic }) refl

-- ---- ends and rests

pub closed_gone : {L : Lacks} (a : World) (ps : List (Option Peer)) (i : ℕ) (p : Peer) (traffic now : Traffic) → At ps i p → is_gone a p.connection ≡ true → AddsCalls traffic (Closed p.socket ∷ []) now → Serves L (served a ps traffic) [] true (served a (slice_set ps i None) now)
closed_gone a ps i p traffic now at gone e = serves_one (served a ps traffic) (served a (slice_set ps i None) now) _ _ (Closed_gone i p) [] (record { table = (gone, (at, refl)); brings = (refl, refl); greets = tt; traffic = e }) refl refl refl

-- ---- what is taken in, and what is not

pub takes_in : (L : Lacks) (a b : World) (ps qs new : List (Option Peer)) (s n i : ℕ) → qs ≡ ps → OpensNew a (Some n) b → Filled qs i (record { connection = n; socket = s }) new → TakesIn L a ps s true b new
takes_in L a b ps qs new s n i same o filled =
    let number : n ≡ a.given + 1 = o.1 ∙ o.2.1.given in
    (o.0, opens_one a b o.2.0 o.0 o.2.1, (i, subst (λ (m : ℕ). Filled ps i (record { connection = m; socket = s }) new) number (subst (λ (z : List (Option Peer)). Filled z i (record { connection = n; socket = s }) new) same filled)))

pub kept_out : (L : Lacks) (a b : World) (ps qs : List (Option Peer)) (s : ℕ) (o : Attempt) → o.arrival ≡ arrival.Open → MayTurnAway L a o.is_whole → Brings L a o [] b → qs ≡ ps → TakesIn L a ps s false b qs
kept_out L a b ps qs s o is may brings e = ((o, is, may, brings), e)

pub is_full : (L : Lacks) (a b : World) (ps qs : List (Option Peer)) (s : ℕ) → can_open a ≡ false → Same a b → qs ≡ ps → TakesIn L a ps s false b qs
is_full L a b ps qs s full same e = kept_out L a b ps qs s (whole arrival.Open) refl full ([], refl, match_false (can_open a) _ _ full (refl, same)) e

pub no_memory : (L : Lacks) (a b : World) (ps qs : List (Option Peer)) (s : ℕ) → L a To_open → Same a b → qs ≡ ps → TakesIn L a ps s false b qs
no_memory L a b ps qs s wants same e = kept_out L a b ps qs s (short arrival.Open) refl wants ([], refl, (refl, same)) e

pub same_not : (a : World) → Same a a
same_not a = record { config = refl; state = refl; given = refl; wires = λ d. refl }
