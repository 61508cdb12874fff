-- What queues will hold, turn by turn.
use Rattle.depot.proofs.Names.{◌≡◌, ℕ, zero, suc, ◌+◌, ◌<◌, List, [], ◌∷◌, ◌++◌, Bool, true, false, cond, length, get_or, set, filter, refl, sym, ap, subst, ◌∙◌, arith, append-nil, inl, inr, ◌||◌, Option, Some, None, eqb_tells, length-set, get_or-set_other, get_or-set_same, slice_get, is_ready, ready_bytes, refuses, Message, is_held_as, Entry, Holder, Ready, DeclaredQueue, ready_count, arriving, is_full_at, Tally, AreTallied, DecidesTurn, is_limited, tally_at, tally_of}
use Rattle.std.proofs.Common.{not}
use Rattle.std.proofs.lemmas.Option.{slice_get_read}
use Rattle.std.proofs.lemmas.List.Sums.{sum_by-cons}
use Rattle.std.specs.List.{sum_by}
use Rattle.std.specs.Map.{lookup}
use Rattle.std.specs.Prelude.{nat_eq}
use Rattle.model.specs.Broker.{body_bytes, is_at, is_past}
use Rattle.model.specs.declared.messages.Mark.{Mark}
use Rattle.model.specs.declared.messages.Mark.TheVariants.{Held}

-- ---- the tally of entries

abbrev tally : ℕ → ℕ → Tally
tally n b = record { ready = n; bytes = b }

tally_eq : (a b : Tally) → a.ready ≡ b.ready → a.bytes ≡ b.bytes → a ≡ b
tally_eq a b r s = ap (λ (n : ℕ). tally n a.bytes) r ∙ ap (λ (n : ℕ). tally b.ready n) s

-- what is held is not ready
ready_only : (a : Holder) (es : List Entry) → filter is_ready (filter (λ (e : Entry). not (is_held_as a e)) es) ≡ filter is_ready es
ready_only a [] = refl
ready_only a (e ∷ es) = go e.mark (ready_only a es)
  where
    rest : List Entry
    rest = filter (λ (x : Entry). not (is_held_as a x)) es

    go : (m : Mark) → filter is_ready rest ≡ filter is_ready es
        → filter is_ready (cond (not (is_held_as a (record { message = e.message; mark = m }))) (record { message = e.message; mark = m } ∷ rest) rest) ≡ filter is_ready (record { message = e.message; mark = m } ∷ es)
    go Ready more = ap (λ (xs : List Entry). record { message = e.message; mark = Ready } ∷ xs) more
    go (Held h) more = other (is_held_as a (record { message = e.message; mark = Held h }))
      where
        other : (b : Bool) → filter is_ready (cond (not b) (record { message = e.message; mark = Held h } ∷ rest) rest) ≡ filter is_ready es
        other true = more
        other false = more

pub tally_left : (a : Holder) (es : List Entry) → tally_of (filter (λ (e : Entry). not (is_held_as a e)) es) ≡ tally_of es
tally_left a es = ap (λ (xs : List Entry). tally (length xs) (sum_by body_bytes xs)) (ready_only a es)

bytes_arriving : (es : List Entry) (m : Message) → ready_bytes (es ++ record { message = m; mark = Ready } ∷ []) ≡ ready_bytes es + length m.content.body
bytes_arriving [] m = let one = sum_by-cons body_bytes (record { message = m; mark = Ready }) [] in omega (arith, one)
bytes_arriving (e ∷ es) m = go (is_ready e) (bytes_arriving es m)
  where
    last : List Entry
    last = record { message = m; mark = Ready } ∷ []

    go : (b : Bool) → ready_bytes (es ++ last) ≡ ready_bytes es + length m.content.body
        → sum_by body_bytes (cond b (e ∷ filter is_ready (es ++ last)) (filter is_ready (es ++ last))) ≡ sum_by body_bytes (cond b (e ∷ filter is_ready es) (filter is_ready es)) + length m.content.body
    go true more = let x = sum_by-cons body_bytes e (filter is_ready (es ++ last)) in let y = sum_by-cons body_bytes e (filter is_ready es) in omega (arith, x, y, more)
    go false more = more

suc_first : (a b : ℕ) → suc (a + b) ≡ suc a + b
suc_first a b = omega arith

ready_arriving : (es : List Entry) (o : Option Message) → ready_count (es ++ arriving o) ≡ ready_count es + length (arriving o)
ready_arriving [] None = refl
ready_arriving [] (Some m) = refl
ready_arriving (e ∷ es) o = go (is_ready e) (ready_arriving es o)
  where
    go : (b : Bool) → ready_count (es ++ arriving o) ≡ ready_count es + length (arriving o)
        → length (cond b (e ∷ filter is_ready (es ++ arriving o)) (filter is_ready (es ++ arriving o))) ≡ length (cond b (e ∷ filter is_ready es) (filter is_ready es)) + length (arriving o)
    go true more = ap suc more ∙ suc_first (ready_count es) (length (arriving o))
    go false more = more

tally_more : (es : List Entry) (m : Message) (t : Tally) → t.ready ≡ ready_count es + 1 → t.bytes ≡ ready_bytes es + length m.content.body → t ≡ tally_of (es ++ arriving (Some m))
tally_more es m t r b =
    let n = ready_arriving es (Some m) in
    let s = bytes_arriving es m in
    tally_eq t (tally_of (es ++ arriving (Some m))) (omega (arith, r, n)) (omega (arith, b, s))

-- ---- a turn

found_there : (qs : List DeclaredQueue) (i : ℕ) (q : DeclaredQueue) → i < length qs → q ≡ get_or qs i q → slice_get qs i ≡ Some q
found_there qs i q lt at = slice_get_read qs (length qs) i q refl lt at

-- what the tally says is what the queue's entries say
judged : (qs : List DeclaredQueue) (old entries : List (List Entry)) (tl : List (ℕ × Tally)) (place size : ℕ) (q : DeclaredQueue) (t : Tally) → slice_get qs place ≡ Some q → is_limited q ≡ true → t ≡ tally_at old tl place
    → AreTallied qs old tl entries → (is_at q.limit t.ready || is_past q.byte_limit (t.bytes + size)) ≡ is_full_at qs entries place size
judged qs old entries tl place size q t found limited is are =
    let same : t ≡ tally_of (get_or entries place []) = is ∙ are.tallied place q found limited in
    subst (λ (o : Option DeclaredQueue). (is_at q.limit t.ready || is_past q.byte_limit (t.bytes + size)) ≡ refuses o (ready_count (get_or entries place [])) (ready_bytes (get_or entries place [])) size) (sym found)
    (ap (λ (x : Tally). is_at q.limit x.ready || is_past q.byte_limit (x.bytes + size)) same)

pub nothing_arrives : (lists : List (List Entry)) (i : ℕ) → set lists i (get_or lists i [] ++ []) ≡ lists
nothing_arrives [] i = refl
nothing_arrives (x ∷ xs) zero = ap (λ (y : List Entry). y ∷ xs) (append-nil x)
nothing_arrives (x ∷ xs) (suc i) = ap (λ (ys : List (List Entry)). x ∷ ys) (nothing_arrives xs i)

-- a queue that is full refuses it
pub refuses_full : (qs : List DeclaredQueue) (old : List (List Entry)) (tl : List (ℕ × Tally)) (place size : ℕ) (q : DeclaredQueue) (t : Tally) → place < length qs → q ≡ get_or qs place q → is_limited q ≡ true → t ≡ tally_at old tl place
    → (is_at q.limit t.ready || is_past q.byte_limit (t.bytes + size)) ≡ true → (entries : List (List Entry)) → DecidesTurn qs old tl tl place size true entries
refuses_full qs old tl place size q t lt at limited is full entries = record {
  reported = λ are. sym full ∙ judged qs old entries tl place size q t (found_there qs place q lt at) limited is are;
  tallied = λ are m long. subst (AreTallied qs old tl) (sym (nothing_arrives entries place)) are;
}

-- one that isn't takes it, and is tallied with it
pub takes_more : (qs : List DeclaredQueue) (old : List (List Entry)) (tl tl' : List (ℕ × Tally)) (place size : ℕ) (q : DeclaredQueue) (t t' : Tally) → place < length qs → q ≡ get_or qs place q → is_limited q ≡ true → t ≡ tally_at old tl place
    → (is_at q.limit t.ready || is_past q.byte_limit (t.bytes + size)) ≡ false → t'.ready ≡ t.ready + 1 → t'.bytes ≡ t.bytes + size
    → ((k : ℕ) → lookup (nat_eq k) tl' ≡ cond (nat_eq place k) (Some t') (lookup (nat_eq k) tl)) → (entries : List (List Entry)) → DecidesTurn qs old tl tl' place size false entries
takes_more qs old tl tl' place size q t t' lt at limited is takes more long updates entries =
    let found = found_there qs place q lt at in
    record {
      reported = λ are. sym takes ∙ judged qs old entries tl place size q t found limited is are;
      tallied = λ are m body. record {
        len = length-set entries place (get_or entries place [] ++ arriving (Some m)) ∙ are.len;
        tallied = λ k x there lim. elim (eqb_tells place k) [
          | inl e ↦
              (let here = updates k ∙ ap (λ (b : Bool). cond b (Some t') (lookup (nat_eq k) tl)) e.0 in
              let had : t ≡ tally_of (get_or entries place []) = is ∙ are.tallied place q found limited in
              let n = ap (λ (u : Tally). u.ready) had in
              let b = ap (λ (u : Tally). u.bytes) had in
              let len = are.len in
              ap (λ (o : Option Tally). elim o [ Some u ↦ u | None ↦ tally_of (get_or old k []) ]) here
              ∙ tally_more (get_or entries place []) m t' (omega (arith, n, more)) (omega (arith, b, long, body))
              ∙ ap tally_of (sym (get_or-set_same entries place (get_or entries place [] ++ arriving (Some m)) [] (omega (arith, len, lt))))
              ∙ ap (λ (j : ℕ). tally_of (get_or (set entries place (get_or entries place [] ++ arriving (Some m))) j [])) e.1)
          | inr e ↦
              (let other = updates k ∙ ap (λ (b : Bool). cond b (Some t') (lookup (nat_eq k) tl)) e.0 in
              ap (λ (o : Option Tally). elim o [ Some u ↦ u | None ↦ tally_of (get_or old k []) ]) other
              ∙ are.tallied k x there lim
              ∙ ap tally_of (sym (get_or-set_other entries place k (get_or entries place [] ++ arriving (Some m)) [] (λ (z : k ≡ place). e.1 (sym z)))))
        ];
      };
    }
