-- At most one storage comes back after the reserve was freed.
use Rattle.engine.proofs.Names.{◌≡◌, ◌≢◌, ◌+◌, ℕ, List, [], ◌∷◌, length, Bool, true, false, refl, sym, ap, ◌∙◌, arith, eqb, eqb-true, eq-eqb, false≢true, WaitingBytes}
use Rattle.outputs.specs.Storages.{AreAtMost, IsReleased, SpareCounts, TakesIn, storage_of}
use Rattle.outputs.specs.declared.room.Room.TheVariants as room

distinct : (a b : ℕ) → eqb a b ≡ false → a ≢ b
distinct a b e is = false≢true (sym e ∙ eq-eqb a b is)

takes_few : (bytes small large : ℕ) (old new : SpareCounts) → TakesIn bytes old new → AreAtMost small large old → AreAtMost (small + 1) (large + 1) new
takes_few bytes small large old new takes few = go (eqb bytes (storage_of room.Reply)) (eqb bytes (storage_of room.Content)) refl refl
  where
    go : (is_small is_large : Bool) → eqb bytes (storage_of room.Reply) ≡ is_small → eqb bytes (storage_of room.Content) ≡ is_large → AreAtMost (small + 1) (large + 1) new
    go true large s l =
        let came = takes.reply (eqb-true bytes (storage_of room.Reply) s) in
        let most = came.0.most in
        let same = came.1 in
        let replies = few.replies_most in
        let contents = few.contents_most in
        record { replies_most = omega (arith, most, replies); contents_most = omega (arith, same, contents) }
    go false true s l =
        let came = takes.content (eqb-true bytes (storage_of room.Content) l) in
        let most = came.0.most in
        let same = came.1 in
        let replies = few.replies_most in
        let contents = few.contents_most in
        record { replies_most = omega (arith, same, replies); contents_most = omega (arith, most, contents) }
    go false false s l =
        let same = takes.other (distinct bytes (storage_of room.Reply) s) (distinct bytes (storage_of room.Content) l) in
        let replies = few.replies_most in
        let contents = few.contents_most in
        rw same (record { replies_most = omega (arith, replies); contents_most = omega (arith, contents) })

-- the storage of an output was taken back, if nothing waited in it
pub taken_few : (output : WaitingBytes) (small large : ℕ) (old new : SpareCounts) → (output.bytes ≡ [] → TakesIn output.storage old new) → (output.bytes ≢ [] → new ≡ old) → AreAtMost small large old → AreAtMost (small + 1) (large + 1) new
taken_few output small large old new back same few = go output.bytes refl
  where
    go : (bytes : List ℕ) → output.bytes ≡ bytes → AreAtMost (small + 1) (large + 1) new
    go [] e = takes_few output.storage small large old new (back e) few
    go (b ∷ bytes) e =
        let waits : output.bytes ≢ [] = λ none. absurd (omega (arith, ap length (sym e ∙ none))) in
        let replies = few.replies_most in
        let contents = few.contents_most in
        rw (same waits) (record { replies_most = omega (arith, replies); contents_most = omega (arith, contents) })
