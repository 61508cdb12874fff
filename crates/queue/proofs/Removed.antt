-- A block goes, and what stood in it stands in the one before it.
use Rattle.queue.proofs.Names.{◌≡◌, ℕ, zero, suc, ◌+◌, ◌<◌, ◌≤◌, List, [], ◌∷◌, ◌++◌, length, get_or, refl, sym, ap, ◌∙◌, subst, arith, append_assoc, Bool, remove, is_held_as, Entry, Holder, tally, Stretch, parts, joined, no_stretch, block_at, room_after, last_room, AreHeldOnce}
use Rattle.std.proofs.Math.ListN.{set}
use Rattle.std.proofs.lemmas.List.Edits.{length-remove, get_or-remove_below}
use Rattle.queue.proofs.Joined.{tally-both}
use Rattle.queue.proofs.Signed.{parts-at}
use Rattle.queue.proofs.Filled.{at_block}

-- the block at this place, once the next is gone
pub still_there : (bs : List Stretch) (i : ℕ) (d : Stretch) → i + 1 < length bs → d ≡ get_or (remove bs (i + 1)) i d → d ≡ block_at bs i
still_there bs i d lt at =
    let n = length-remove bs (i + 1) lt in
    at_block (remove bs (i + 1)) i d (omega (arith, n, lt)) at ∙ get_or-remove_below bs (i + 1) no_stretch i (omega arith) lt

pub next_there : (bs : List Stretch) (i : ℕ) (b : Stretch) → i + 1 < length bs → b ≡ get_or bs (i + 1) b → b ≡ block_at bs (i + 1)
next_there bs i b lt at = at_block bs (i + 1) b lt at

entries-joined : (bs : List Stretch) (i : ℕ) (b : Stretch) → suc i < length bs → b.entries ≡ (block_at bs i).entries ++ (block_at bs (suc i)).entries
    → joined (parts (set (remove bs (suc i)) i b)) ≡ joined (parts bs)
entries-joined [] i b lt e = absurd (omega (arith, lt))
entries-joined (x ∷ []) i b lt e = absurd (omega (arith, lt))
entries-joined (x ∷ y ∷ ys) zero b lt e = ap (λ (es : List Entry). es ++ joined (parts ys)) e ∙ append_assoc x.entries y.entries (joined (parts ys))
entries-joined (x ∷ y ∷ ys) (suc i) b lt e = ap (λ (es : List Entry). x.entries ++ es) (entries-joined (y ∷ ys) i b (omega (arith, lt)) e)

one_on : (i : ℕ) → suc i ≡ i + 1
one_on i = omega arith

pub entries_joined : (bs : List Stretch) (i : ℕ) (d b next : Stretch) → i + 1 < length bs → d ≡ get_or (remove bs (i + 1)) i d → next ≡ get_or bs (i + 1) next
    → b.entries ≡ d.entries ++ next.entries → joined (parts (set (remove bs (i + 1)) i b)) ≡ joined (parts bs)
entries_joined bs i d b next lt at behind es =
    let is : b.entries ≡ (block_at bs i).entries ++ (block_at bs (i + 1)).entries = es ∙ ap (λ (x : Stretch). x.entries ++ next.entries) (still_there bs i d lt at)
    ∙ ap (λ (x : Stretch). (block_at bs i).entries ++ x.entries) (next_there bs i next lt behind) in
    subst (λ (k : ℕ). joined (parts (set (remove bs k) i b)) ≡ joined (parts bs)) (one_on i)
    (entries-joined bs i b (omega (arith, lt)) (is ∙ ap (λ (k : ℕ). (block_at bs i).entries ++ (block_at bs k).entries) (sym (one_on i))))

room-joined : (r : ℕ) (bs : List Stretch) (i : ℕ) (b : Stretch) → suc (suc i) < length bs → room_after r (set (remove bs (suc i)) i b) ≡ room_after r bs
room-joined r [] i b lt = absurd (omega (arith, lt))
room-joined r (x ∷ []) i b lt = absurd (omega (arith, lt))
room-joined r (x ∷ y ∷ []) i b lt = absurd (omega (arith, lt))
room-joined r (x ∷ y ∷ z ∷ zs) zero b lt = refl
room-joined r (x ∷ y ∷ z ∷ zs) (suc i) b lt = room-joined x.room (y ∷ z ∷ zs) i b (omega (arith, lt))

pub room_joined : (bs : List Stretch) (i : ℕ) (b : Stretch) → i + 2 < length bs → last_room (set (remove bs (i + 1)) i b) ≡ last_room bs
room_joined bs i b lt = subst (λ (k : ℕ). last_room (set (remove bs k) i b) ≡ last_room bs) (one_on i) (room-joined 0 bs i b (omega (arith, lt)))

-- no two are held under one tag in two neighbours
pair-once : {X : Type 0} (p : X → Bool) (xss : List (List X)) (i : ℕ) → tally p (joined xss) ≤ 1 → tally p (get_or xss i [] ++ get_or xss (suc i) []) ≤ 1
pair-once p [] i le = omega arith
pair-once p (xs ∷ []) zero le = le
pair-once p (xs ∷ ys ∷ yss) zero le =
    let a = tally-both p xs ys in let b = tally-both p xs (ys ++ joined yss) in let c = tally-both p ys (joined yss) in omega (arith, a, b, c, le)
pair-once p (xs ∷ xss) (suc i) le = let a = tally-both p xs (joined xss) in pair-once p xss i (omega (arith, a, le))

pair_once : {X : Type 0} (p : X → Bool) (xss : List (List X)) (i : ℕ) → tally p (joined xss) ≤ 1 → tally p (get_or xss i [] ++ get_or xss (i + 1) []) ≤ 1
pair_once p xss i le = subst (λ (k : ℕ). tally p (get_or xss i [] ++ get_or xss k []) ≤ 1) (one_on i) (pair-once p xss i le)

pub apart_there : (bs : List Stretch) (i : ℕ) (d next : Stretch) (holder : Holder) → i + 1 < length bs → d ≡ get_or (remove bs (i + 1)) i d → next ≡ get_or bs (i + 1) next → AreHeldOnce bs
    → tally (is_held_as holder) (d.entries ++ next.entries) ≤ 1
apart_there bs i d next holder lt at behind distinct =
    subst (λ (es : List Entry). tally (is_held_as holder) es ≤ 1)
    (sym (ap (λ (x : Stretch). x.entries ++ next.entries) (still_there bs i d lt at) ∙ ap (λ (x : Stretch). (block_at bs i).entries ++ x.entries) (next_there bs i next lt behind)
    ∙ ap (λ (es : List Entry). es ++ (block_at bs (i + 1)).entries) (parts-at bs i no_stretch (omega (arith, lt))) ∙ ap (λ (es : List Entry). get_or (parts bs) i [] ++ es) (parts-at bs (i + 1) no_stretch lt)))
    (pair_once (is_held_as holder) (parts bs) i (distinct holder))
