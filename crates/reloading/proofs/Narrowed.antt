-- The first guarantee about which anything is reported, narrowed message by message and queue by queue.
use Rattle.reloading.proofs.Names.{◌≡◌, ℕ, zero, suc, ◌+◌, ◌<◌, ◌≤◌, List, [], ◌∷◌, ◌++◌, length, length-append, Option, Some, None, ◌⊎◌, inl, inr, refl, sym, subst, ◌∙◌, arith, slice_get, Bool, Text, Topology, IsIn, Guarantee, Message, Entry, Obstacle, Danger, ReportsNoneBelow, ReportsFirst, ReportsEntries, ReportsQueues, AreForbidding, IsForbidding, NoneForbids, NoneMay, EndangersBelow, EndsAt, EntriesReport, ReportsMessage, QueuesReport, ReportsBelow, bound_of, joined, obstacle_of}
use Rattle.std.proofs.lemmas.Option.{slice_get_within}
use Rattle.std.specs.Borrow.{Bor}
use Rattle.std.specs.Prelude.{IfSome}
use Rattle.exchange_graph.specs.Dying.{EndsHere}
use Rattle.reloading.proofs.First.{Passed, none_of_all, one_more, passed_all, passed_more, passed_none, told_at}
use Rattle.reloading.proofs.Entries.{IsEndangered, entry_told}

-- ---- one more was looked at

module _ (T S N : ℕ → Guarantee → Option Obstacle → Type 0) (gs : List Guarantee)
    (none : (i : ℕ) (g : Guarantee) → T i g None → S i g None → N i g None)
    (next : (i : ℕ) (g : Guarantee) (o : Obstacle) → T i g None → S i g (Some o) → N i g (Some o))
    (kept : (i : ℕ) (g : Guarantee) (o : Obstacle) → T i g (Some o) → N i g (Some o)) where
  pub narrow : (bound : ℕ) (found more : Option Danger) → ReportsBelow T gs bound found → ReportsBelow S gs (bound_of found bound) more → ReportsBelow N gs bound (joined more found)
  narrow bound None None a b = λ i g lt at. none i g (a i g lt at) (b i g lt at)
  narrow bound None (Some d) a b = record {
    within = b.within;
    guarantee = b.guarantee;
    there = b.there;
    reports = next d.guarantee b.guarantee d.obstacle (a d.guarantee b.guarantee b.within b.there) b.reports;
    none_before = λ i g lt at. none i g (a i g (let w = b.within in omega (arith, w, lt)) at) (b.none_before i g lt at);
  }
  narrow bound (Some f) None a b = record {
    within = a.within;
    guarantee = a.guarantee;
    there = a.there;
    reports = kept f.guarantee a.guarantee f.obstacle a.reports;
    none_before = λ i g lt at. none i g (a.none_before i g lt at) (b i g lt at);
  }
  narrow bound (Some f) (Some d) a b = record {
    within = (let w = b.within in let v = a.within in omega (arith, w, v));
    guarantee = b.guarantee;
    there = b.there;
    reports = next d.guarantee b.guarantee d.obstacle (a.none_before d.guarantee b.guarantee b.within b.there) b.reports;
    none_before = λ i g lt at. none i g (a.none_before i g (let w = b.within in omega (arith, w, lt)) at) (b.none_before i g lt at);
  }

-- the same, told otherwise
module _ (T N : ℕ → Guarantee → Option Obstacle → Type 0) (gs : List Guarantee) (bound : ℕ) where
  pub retold : (found : Option Danger) → ((i : ℕ) (g : Guarantee) → i < bound_of found bound → slice_get gs i ≡ Some g → T i g None → N i g None)
      → ((i : ℕ) (g : Guarantee) (o : Obstacle) → T i g (Some o) → N i g (Some o)) → ReportsBelow T gs bound found → ReportsBelow N gs bound found
  retold None none some a = λ i g lt at. none i g lt at (a i g lt at)
  retold (Some d) none some a = record { within = a.within; guarantee = a.guarantee; there = a.there; reports = some d.guarantee a.guarantee d.obstacle a.reports; none_before = λ i g lt at. none i g lt at (a.none_before i g lt at) }

pub bound_within : (T : ℕ → Guarantee → Option Obstacle → Type 0) (gs : List Guarantee) (bound : ℕ) (found : Option Danger) → bound ≤ length gs → ReportsBelow T gs bound found → bound_of found bound ≤ length gs
bound_within T gs bound None le a = le
bound_within T gs bound (Some d) le a = let w = a.within in omega (arith, w, le)

-- the bound only falls
bound_falls : (T : ℕ → Guarantee → Option Obstacle → Type 0) (gs : List Guarantee) (bound : ℕ) (found more : Option Danger) → ReportsBelow T gs (bound_of found bound) more → bound_of (joined more found) bound ≤ bound_of found bound
bound_falls T gs bound found None b = omega arith
bound_falls T gs bound found (Some d) b = let w = b.within in omega (arith, w)

-- ---- messages of a queue

module _ (t : Topology) (gs : List Guarantee) (bound : ℕ) (entries : ℕ → List Entry) (p : ℕ) (q : Text) where
  -- what is reported while the entries from here on are still to be looked at
  abbrev pub SoFar : List Entry → ℕ → Guarantee → Option Obstacle → Type 0
  SoFar now i g (Some o) = ReportsEntries t g (i + 1) entries p q (Some o)
  SoFar now i g None = Passed (IsEndangered t g q) (entries p) now

  pub entries_begin : ReportsBelow (SoFar (entries p)) gs bound None
  entries_begin i g lt at = passed_none (IsEndangered t g q) (entries p)

  pub entries_more : (e : Entry) (now then' : List Entry) (found more : Option Danger) → now ≡ e ∷ then' → ReportsBelow (SoFar now) gs bound found → ReportsBelow (ReportsMessage t q e.message) gs (bound_of found bound) more
      → ReportsBelow (SoFar then') gs bound (joined more found)
  entries_more e now then' found more is a b = narrow (SoFar now) (ReportsMessage t q e.message) (SoFar then') gs
      (λ i g was not. passed_more (IsEndangered t g q) (entries p) e now then' is not was)
      (λ i g o was reported. entry_told t g (i + 1) q (entries p) e now then' o is was reported.0 reported.1)
      (λ i g o reported. reported) bound found more a b

  pub entries_all : (now : List Entry) (found : Option Danger) → now ≡ [] → ReportsBelow (SoFar now) gs bound found → ReportsBelow (EntriesReport t entries p q) gs bound found
  entries_all now found is a = retold (SoFar now) (EntriesReport t entries p q) gs bound found (λ i g lt at was. passed_all (IsEndangered t g q) (entries p) now is was) (λ i g o reported. reported) a

  -- those before it endanger no message of the queue
  pub entries_end : (least : ℕ) (now : List Entry) (found : Option Danger) → NoneMay t gs least q → EndsAt found least → ReportsBelow (SoFar now) gs bound found → ReportsBelow (EntriesReport t entries p q) gs bound found
  entries_end least now None may end a = absurd end
  entries_end least now (Some d) may end a = retold (SoFar now) (EntriesReport t entries p q) gs bound (Some d) (λ i g lt at was j e there. may i g (omega (arith, lt, end)) at e.message) (λ i g o reported. reported) a

  pub entries_none : NoneMay t gs bound q → ReportsBelow (EntriesReport t entries p q) gs bound None
  entries_none may i g lt at = λ j e there. may i g lt at e.message

  -- ---- messages that were judged

  pub spared_still : (m : Message) (found more : Option Danger) (T : ℕ → Guarantee → Option Obstacle → Type 0) → ReportsBelow T gs (bound_of found bound) more → EndangersBelow t gs (bound_of found bound) q m
      → EndangersBelow t gs (bound_of (joined more found) bound) q m
  spared_still m found more T b s i g lt at = s i g (let f = bound_falls T gs bound found more b in omega (arith, f, lt)) at

  pub spared_now : (m : Message) (found more : Option Danger) → ReportsBelow (ReportsMessage t q m) gs (bound_of found bound) more → EndangersBelow t gs (bound_of (joined more found) bound) q m
  spared_now m found None b = b
  spared_now m found (Some d) b = b.none_before

-- where a message goes nowhere from, none is endangered
pub nowhere_none : (t : Topology) (gs : List Guarantee) (bound : ℕ) (q : Text) → EndsHere t q → NoneMay t gs bound q
nowhere_none t gs bound q ends i g lt at m danger = ends danger.later.exchange danger.later.last danger.later.dies

-- ---- queues

module _ (t : Topology) (gs : List Guarantee) (names : List Text) (entries : ℕ → List Entry) where
  -- what is reported while the queues from this index on are still to be looked at
  abbrev pub QueuesSoFar : ℕ → ℕ → Guarantee → Option Obstacle → Type 0
  QueuesSoFar p i g (Some o) = ReportsQueues t names entries i g (Some o)
  QueuesSoFar p i g None = ReportsNoneBelow (ReportsEntries t g (i + 1) entries) names p

  pub queues_begin : ReportsBelow (QueuesSoFar 0) gs (length gs) None
  queues_begin i g lt at = λ j x below there. absurd (omega (arith, below))

  pub queues_more : (p : ℕ) (q : Text) (found more : Option Danger) → slice_get names p ≡ Some q → ReportsBelow (QueuesSoFar p) gs (length gs) found → ReportsBelow (EntriesReport t entries p q) gs (bound_of found (length gs)) more
      → ReportsBelow (QueuesSoFar (p + 1)) gs (length gs) (joined more found)
  queues_more p q found more there a b = narrow (QueuesSoFar p) (EntriesReport t entries p q) (QueuesSoFar (p + 1)) gs
      (λ i g was not. one_more (ReportsEntries t g (i + 1) entries) names p q there was not)
      (λ i g o was reported. told_at (ReportsEntries t g (i + 1) entries) names p q o there was reported)
      (λ i g o reported. reported) (length gs) found more a b

  pub queues_all : (p : ℕ) (found : Option Danger) → length names ≤ p → ReportsBelow (QueuesSoFar p) gs (length gs) found → ReportsBelow (QueuesReport t names entries) gs (length gs) found
  queues_all p found le a = retold (QueuesSoFar p) (QueuesReport t names entries) gs (length gs) found (λ i g lt at was. none_of_all (ReportsEntries t g (i + 1) entries) names p le was) (λ i g o reported. reported) a

  pub all_told : (found : Option Danger) → ReportsBelow (QueuesReport t names entries) gs (length gs) found → ReportsFirst (ReportsQueues t names entries) gs (obstacle_of found)
  all_told None a = λ i g at. a i g (slice_get_within gs i g at) at
  all_told (Some d) a = record { place = d.guarantee; one = a.guarantee; there = a.there; reports = a.reports; none_before = a.none_before }

  -- where none forbids a queue, nothing is reported
  pub none_forbids : NoneForbids gs (length gs) → ReportsFirst (ReportsQueues t names entries) gs None
  none_forbids none = λ i g at p q named j e there danger. none i g (slice_get_within gs i g at) at danger.never

-- ---- guarantee by guarantee

last_or : {A : Type 0} (xs : List A) (x y : A) (i : ℕ) → slice_get (xs ++ x ∷ []) i ≡ Some y → (slice_get xs i ≡ Some y) ⊎ ((i ≡ length xs) × (y ≡ x))
last_or [] x y zero e = inr (refl, (let h : Some x ≡ Some y = e in cc))
last_or [] x y (suc i) e = absurd (let h : None ≡ Some y = e in cc)
last_or (z ∷ zs) x y zero e = inl e
last_or (z ∷ zs) x y (suc i) e = elim (last_or zs x y i e) [ inl h ↦ inl h | inr h ↦ inr ((let g = h.0 in omega (arith, g)), h.1) ]

pub forbidding_none : (t : Topology) (gs : List Guarantee) → AreForbidding t gs 0 []
forbidding_none t gs = record { size = refl; each = λ i g one at e. absurd (let h : None ≡ Some one = e in cc) }

pub forbidding_more : (t : Topology) (gs : List Guarantee) (at : ℕ) (g : Guarantee) (found : List (Option (List Bool))) (one : Option (List Bool)) → slice_get gs at ≡ Some g → AreForbidding t gs at found → IsForbidding t g one → AreForbidding t gs (at + 1) (found ++ one ∷ [])
forbidding_more t gs at g found one there a f = record {
  size = (let n = length-append found (one ∷ []) in let m = a.size in omega (arith, n, m));
  each = λ i h other gets e. (elim (last_or found one other i e) [
    | inl k ↦ a.each i h other gets k
    | inr k ↦ (
        let same : slice_get gs at ≡ Some h = subst (λ (n : ℕ). slice_get gs n ≡ Some h) (k.0 ∙ a.size) gets in
        let is : Some g ≡ Some h = sym there ∙ same in
        let of : g ≡ h = cc in
        subst (λ (z : Option (List Bool)). IsForbidding t h z) (sym k.1) (subst (λ (z : Guarantee). IsForbidding t z one) of f))
  ]);
}

below_or : (i n : ℕ) → i < n + 1 → (i < n) ⊎ (i ≡ n)
below_or zero zero lt = inr refl
below_or zero (suc n) lt = inl (omega arith)
below_or (suc i) zero lt = absurd (omega (arith, lt))
below_or (suc i) (suc n) lt = elim (below_or i n (omega (arith, lt))) [ inl h ↦ inl (omega (arith, h)) | inr h ↦ inr (omega (arith, h)) ]

-- what none of the first so many guarantees does
pub none_next : (gs : List Guarantee) (P : Guarantee → Type 0) (at : ℕ) (g : Guarantee) → slice_get gs at ≡ Some g → ((i : ℕ) (h : Guarantee) → i < at → slice_get gs i ≡ Some h → P h) → P g
    → (i : ℕ) (h : Guarantee) → i < at + 1 → slice_get gs i ≡ Some h → P h
none_next gs P at g there a f i h lt gets = elim (below_or i at lt) [
  | inl k ↦ a i h k gets
  | inr k ↦ (
      let same : slice_get gs at ≡ Some h = subst (λ (n : ℕ). slice_get gs n ≡ Some h) k gets in
      let is : Some g ≡ Some h = sym there ∙ same in
      let of : g ≡ h = cc in
      subst P of f)
]

-- what is known of each message that is kept is known of the one that was found
pub some_spared : (ms : List Message) (P : Message → Type 0) (like : Option (Bor Message)) → IfSome like (λ m. IsIn m.now ms) → ((m : Message) → IsIn m ms → P m) → IfSome like (λ m. P m.now)
some_spared ms P None i f = tt
some_spared ms P (Some m) i f = f m.now i
