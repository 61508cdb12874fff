-- Blocks, the bits that say which of them have a ready message, and the room of the last.
use Rattle.queue.proofs.Names.{◌≡◌, ℕ, zero, suc, ◌+◌, ◌-◌, ◌<◌, ◌≤◌, List, [], ◌∷◌, ◌++◌, length, get_or, map, filter, refl, sym, ap, ◌∙◌, subst, arith, Bool, true, false, cond, Some, find, is_some, nat_lt, ◌==◌, ◌||◌, false≢true, ltb-false, get_or-set_same, map-set, is_ready, survived_now, Entry, Message, Ready, IsNextMark, bit_of, num, SlotBits, BitTurned, Stretch, parts, joined, room_after, last_room, some_pass, is_in_use, survived_block, AreBlocksSigned, get_or-map, get_or_default, get_or_past, length-map, set-get_or, Vec, vec_len, rules}
use Rattle.std.proofs.Math.ListN.{set}
use Rattle.queue.proofs.Places.{num-some, num-none}
use Rattle.queue.proofs.Slotted.{set_turned}
use Rattle.queue.proofs.Joined.{FirstIn, joined_mapped}

-- ---- blocks and what stands in them

pub parts-length : (bs : List Stretch) → length (parts bs) ≡ length bs
parts-length bs = length-map bs (λ (b : Stretch). b.entries)

pub parts-past : (bs : List Stretch) (k : ℕ) → length bs ≤ k → get_or (parts bs) k [] ≡ []
parts-past bs k h = get_or_past (parts bs) k [] (let n = parts-length bs in omega (arith, n, h))

pub parts-at : (bs : List Stretch) (i : ℕ) (d : Stretch) → i < length bs → (get_or bs i d).entries ≡ get_or (parts bs) i []
parts-at bs i d lt = sym (get_or-map (λ (b : Stretch). b.entries) bs i d [] lt)

-- what stands in this one
pub part_of : (bs : List Stretch) (i : ℕ) (d : Stretch) → i < length bs → d ≡ get_or bs i d → d.entries ≡ get_or (parts bs) i []
part_of bs i d lt e = ap (λ (b : Stretch). b.entries) e ∙ parts-at bs i d lt

-- a block is changed, where this one stood
pub parts-written : (bs : List Stretch) (i : ℕ) (d b : Stretch) (f : List Entry → List Entry) → i < length bs → d ≡ get_or bs i d → b.entries ≡ f d.entries
    → parts (set bs i b) ≡ set (parts bs) i (f (get_or (parts bs) i []))
parts-written bs i d b f lt e w =
    map-set (λ (x : Stretch). x.entries) bs i b
    ∙ ap (λ (v : List Entry). set (parts bs) i v) (w ∙ ap f (part_of bs i d lt e))

-- it has the same entries as before
pub parts-kept : (bs : List Stretch) (i : ℕ) (d b : Stretch) → i < length bs → d ≡ get_or bs i d → b.entries ≡ d.entries → parts (set bs i b) ≡ parts bs
parts-kept bs i d b lt e w = parts-written bs i d b (λ es. es) lt e w ∙ set-get_or (parts bs) i []

pub parts-end : (bs : List Stretch) (b : Stretch) → b.entries ≡ [] → parts (bs ++ b ∷ []) ≡ parts bs ++ [] ∷ []
parts-end [] b e = ap (λ (es : List Entry). es ∷ []) e
parts-end (x ∷ xs) b e = ap (λ (ps : List (List Entry)). x.entries ∷ ps) (parts-end xs b e)

-- ---- the room of the last

room-written : (r : ℕ) (bs : List Stretch) (i : ℕ) (b : Stretch) → i < length bs → b.room ≡ (get_or bs i b).room → room_after r (set bs i b) ≡ room_after r bs
room-written r [] i b lt e = refl
room-written r (x ∷ xs) zero b lt e = ap (λ (n : ℕ). room_after n xs) e
room-written r (x ∷ xs) (suc i) b lt e = room-written x.room xs i b (omega arith) e

-- a block is changed, with the same room
pub room_kept : (bs : List Stretch) (i : ℕ) (d b : Stretch) → i < length bs → d ≡ get_or bs i d → b.room ≡ d.room → last_room (set bs i b) ≡ last_room bs
room_kept bs i d b lt e w = room-written 0 bs i b lt (w ∙ ap (λ (x : Stretch). x.room) (e ∙ get_or_default bs i d b lt))

-- a block that isn't the last is changed: with 0 this is `last_room`, here and below
pub room-inner : (r : ℕ) (bs : List Stretch) (i : ℕ) (b : Stretch) → i + 1 < length bs → room_after r (set bs i b) ≡ room_after r bs
room-inner r [] i b lt = refl
room-inner r (x ∷ []) zero b lt = absurd (omega arith)
room-inner r (x ∷ y ∷ ys) zero b lt = refl
room-inner r (x ∷ xs) (suc i) b lt = room-inner x.room xs i b (omega arith)

-- the last one is changed
pub room-last : (r : ℕ) (bs : List Stretch) (i : ℕ) (b : Stretch) → i + 1 ≡ length bs → room_after r (set bs i b) ≡ b.room
room-last r [] i b e = absurd (omega arith)
room-last r (x ∷ []) zero b e = refl
room-last r (x ∷ y ∷ ys) zero b e = absurd (omega arith)
room-last r (x ∷ xs) (suc i) b e = room-last x.room xs i b (omega arith)

room-is : (r : ℕ) (bs : List Stretch) (i : ℕ) (d : Stretch) → i + 1 ≡ length bs → room_after r bs ≡ (get_or bs i d).room
room-is r [] i d e = absurd (omega arith)
room-is r (x ∷ []) zero d e = refl
room-is r (x ∷ y ∷ ys) zero d e = absurd (omega arith)
room-is r (x ∷ xs) (suc i) d e = room-is x.room xs i d (omega arith)

-- the room is that of the one at the last place
pub room_is : (bs : List Stretch) (i : ℕ) (d : Stretch) → i + 1 ≡ length bs → d ≡ get_or bs i d → last_room bs ≡ d.room
room_is bs i d e at = room-is 0 bs i d e ∙ ap (λ (x : Stretch). x.room) (sym at)

pub room-end : (r : ℕ) (bs : List Stretch) (b : Stretch) → room_after r (bs ++ b ∷ []) ≡ b.room
room-end r [] b = refl
room-end r (x ∷ xs) b = room-end x.room xs b

-- where there is room there is a block
pub room_somewhere : (bs : List Stretch) → 0 < last_room bs → 0 < length bs
room_somewhere [] h = absurd (omega arith)
room_somewhere (b ∷ bs) h = omega arith

-- there are some
pub some_there : (n : ℕ) → (n == 0) ≡ false → 0 < n
some_there zero h = absurd (false≢true (sym h))
some_there (suc n) h = omega arith

-- where there is room the last block is at the index before the length
pub last_index : (bs : Vec Stretch) (len : ℕ) → 0 < last_room bs.items → len ≡ vec_len bs → (len - 1) + 1 ≡ length bs.items
last_index bs len some is =
    let there = room_somewhere bs.items some in
    let l : vec_len bs ≡ length bs.items = search rules in
    omega (arith, there, l, is)

-- where there are some the last has a place
pub last_place : (n len k : ℕ) → n ≡ k → (n == 0) ≡ false → len ≡ n → (len - 1) + 1 ≡ k
last_place n len k same filled is = let some = some_there n filled in omega arith

-- ---- blocks that were given back go

neither : (a b : Bool) → (a || b) ≡ false → (a ≡ false) × (b ≡ false)
neither false b e = (refl, e)
neither true b e = absurd (false≢true (sym e))

no_entries : (es : List Entry) (room : ℕ) → (nat_lt 0 (length es) || nat_lt 0 room) ≡ false → (es ≡ []) × (room ≡ 0)
no_entries es room e =
    let n = neither (nat_lt 0 (length es)) (nat_lt 0 room) e in
    let z = ltb-false 0 room n.1 in
    (empty es (ltb-false 0 (length es) n.0), omega (arith, z))
  where
    empty : (xs : List Entry) → length xs ≤ 0 → xs ≡ []
    empty [] h = refl
    empty (x ∷ xs) h = absurd (omega arith)

pub joined_in_use : (bs : List Stretch) → joined (parts (filter is_in_use bs)) ≡ joined (parts bs)
joined_in_use [] = refl
joined_in_use (b ∷ bs) = go (is_in_use b) refl (joined_in_use bs)
  where
    go : (u : Bool) → is_in_use b ≡ u → joined (parts (filter is_in_use bs)) ≡ joined (parts bs) → joined (parts (cond u (b ∷ filter is_in_use bs) (filter is_in_use bs))) ≡ b.entries ++ joined (parts bs)
    go true h r = ap (λ (es : List Entry). b.entries ++ es) r
    go false h r = r ∙ ap (λ (es : List Entry). es ++ joined (parts bs)) (sym (no_entries b.entries b.room h).0)

room-in_use : (r r' : ℕ) (bs : List Stretch) → r ≤ r' → room_after r bs ≤ room_after r' (filter is_in_use bs)
room-in_use r r' [] le = le
room-in_use r r' (b ∷ bs) le = go (is_in_use b) refl (room-in_use b.room b.room bs (omega arith)) (room-in_use b.room r' bs)
  where
    go : (u : Bool) → is_in_use b ≡ u → room_after b.room bs ≤ room_after b.room (filter is_in_use bs) → (b.room ≤ r' → room_after b.room bs ≤ room_after r' (filter is_in_use bs))
        → room_after b.room bs ≤ room_after r' (cond u (b ∷ filter is_in_use bs) (filter is_in_use bs))
    go true h k d = k
    go false h k d = d (let z = (no_entries b.entries b.room h).1 in omega (arith, z))

pub room_in_use : (bs : List Stretch) → last_room bs ≤ last_room (filter is_in_use bs)
room_in_use bs = room-in_use 0 0 bs (omega arith)

-- ---- all marked as what stood

parts-stood : (bs : List Stretch) → parts (map survived_block bs) ≡ map (λ (es : List Entry). map survived_now es) (parts bs)
parts-stood [] = refl
parts-stood (b ∷ bs) = ap (λ (ps : List (List Entry)). map survived_now b.entries ∷ ps) (parts-stood bs)

pub joined_stood : (bs : List Stretch) → joined (parts (map survived_block bs)) ≡ map survived_now (joined (parts bs))
joined_stood bs = ap (λ (ps : List (List Entry)). joined ps) (parts-stood bs) ∙ joined_mapped survived_now (parts bs)

pub room-stood : (r : ℕ) (bs : List Stretch) → room_after r (map survived_block bs) ≡ room_after r bs
room-stood r [] = refl
room-stood r (b ∷ bs) = room-stood b.room bs

part-stood : (ps : List (List Entry)) (i : ℕ) → get_or (map (λ (es : List Entry). map survived_now es) ps) i [] ≡ map survived_now (get_or ps i [])
part-stood [] i = refl
part-stood (p ∷ ps) zero = refl
part-stood (p ∷ ps) (suc i) = part-stood ps i

ready-stood : (es : List Entry) → some_pass is_ready (map survived_now es) ≡ some_pass is_ready es
ready-stood [] = refl
ready-stood (e ∷ es) = go (is_ready e) (ready-stood es)
  where
    go : (b : Bool) → some_pass is_ready (map survived_now es) ≡ some_pass is_ready es → is_some (cond b (Some (survived_now e)) (find is_ready (map survived_now es))) ≡ is_some (cond b (Some e) (find is_ready es))
    go true r = refl
    go false r = r

pub signed_stood : (bs : List Stretch) (bits : SlotBits) → AreBlocksSigned (parts bs) bits → AreBlocksSigned (parts (map survived_block bs)) bits
signed_stood bs bits s i = s i ∙ ap num (sym (ready-stood (get_or (parts bs) i [])) ∙ ap (some_pass is_ready) (sym (part-stood (parts bs) i) ∙ ap (λ (ps : List (List Entry)). get_or ps i []) (sym (parts-stood bs))))

-- ---- the bits

pub first_signed : (ps : List (List Entry)) (bits : SlotBits) (i : ℕ) → AreBlocksSigned ps bits → IsNextMark (bit_of bits.ready) 0 i → FirstIn is_ready ps i
first_signed ps bits i s n = record { there = num-some _ (sym (s i) ∙ n.there); before = λ k lt. num-none _ (sym (s k) ∙ n.before k (omega arith) lt) }

pub none_signed : (ps : List (List Entry)) (bits : SlotBits) → AreBlocksSigned ps bits → ((k : ℕ) → bit_of bits.ready k ≡ 0) → (k : ℕ) → some_pass is_ready (get_or ps k []) ≡ false
none_signed ps bits s z k = num-none _ (sym (s k) ∙ z k)

-- a block is changed, and its bit with it
pub signed_now : (ps now : List (List Entry)) (v : List Entry) (bits bits' : SlotBits) (i : ℕ) → i < length ps → AreBlocksSigned ps bits → now ≡ set ps i v
    → BitTurned bits bits' i (num (some_pass is_ready (get_or now i []))) → AreBlocksSigned now bits'
signed_now ps now v bits bits' i lt s e t =
    subst (λ (xs : List (List Entry)). AreBlocksSigned xs bits') (sym e)
    (set_turned (some_pass is_ready) [] ps v bits bits' i lt s (subst (λ (es : List Entry). BitTurned bits bits' i (num (some_pass is_ready es))) (ap (λ (xs : List (List Entry)). get_or xs i []) e ∙ get_or-set_same ps i v [] lt) t))

pub ready_at_end : (es : List Entry) (m : Message) → some_pass is_ready (es ++ record { message = m; mark = Ready } ∷ []) ≡ true
ready_at_end [] m = refl
ready_at_end (e ∷ es) m = go (is_ready e) (ready_at_end es m)
  where
    v : Entry
    v = record { message = m; mark = Ready }

    go : (b : Bool) → some_pass is_ready (es ++ v ∷ []) ≡ true → is_some (cond b (Some e) (find is_ready (es ++ v ∷ []))) ≡ true
    go true r = refl
    go false r = r

empty-end : (ps : List (List Entry)) (i : ℕ) → get_or (ps ++ [] ∷ []) i [] ≡ get_or ps i []
empty-end [] zero = refl
empty-end [] (suc i) = refl
empty-end (p ∷ ps) zero = refl
empty-end (p ∷ ps) (suc i) = empty-end ps i

-- an empty block comes
pub signed_end : (ps : List (List Entry)) (bits : SlotBits) → AreBlocksSigned ps bits → AreBlocksSigned (ps ++ [] ∷ []) bits
signed_end ps bits s i = s i ∙ ap (λ (es : List Entry). num (some_pass is_ready es)) (sym (empty-end ps i))
