-- The bits, the room and the spare blocks of a queue.
use Rattle.queue.proofs.Names.{◌≡◌, ℕ, ◌+◌, ◌-◌, ◌*◌, ◌<◌, ◌≤◌, List, [], length, get_or, arith, sym, subst, refl, inl, inr, leb_tells, vec_len, is_ready, Entry, num, SlotBits, BitTurned, KeepsSize, Stretch, parts, last_room, some_pass, AreBlocksSigned, AreKept, AreMarked, HasRoom, LastIsShort, Vec}
use Rattle.std.proofs.Math.ListN.{set}
use Rattle.queue.proofs.Signed.{signed_now}
use Rattle.queue.proofs.Slotted.{same_places}

-- the last block has as much room as before, where any is promised
pub room_same : (room : ℕ) (bs cs : List Stretch) (spares : ℕ) → (0 < room → last_room cs ≡ last_room bs) → (room ≡ 0 → LastIsShort cs) → HasRoom room bs spares → HasRoom room cs spares
room_same room bs cs spares same short h = record {
  there = elim (leb_tells 1 room) [
    | inl p ↦ let q = p.1 in let e = same (omega (arith, q)) in let t = h.there in omega (arith, e, t)
    | inr p ↦ let q = p.1 in omega (arith, q)
  ];
  needed = λ s. elim (leb_tells 1 room) [
    | inl p ↦ let q = p.1 in let e = same (omega (arith, q)) in let n = h.needed s in omega (arith, e, n)
    | inr p ↦ absurd (let q = p.1 in let n = h.needed s in omega (arith, q, n, s))
  ];
  short = short;
}

-- one push is done
pub room_spent : (room : ℕ) (bs cs : List Stretch) (spares spares' : ℕ) → 0 < room → (last_room cs + 1) + spares' * 1024 ≡ last_room bs + spares * 1024 → spares' ≤ spares → LastIsShort cs
    → HasRoom room bs spares → HasRoom (room - 1) cs spares'
room_spent room bs cs spares spares' some sum fewer short h = record {
  there = let t = h.there in omega (arith, t, sum, some);
  needed = λ s. let n = h.needed (omega (arith, s, fewer)) in omega (arith, n, sum, some);
  short = λ z. short;
}

-- the same messages are in as many blocks
pub marked_same : (bs cs : Vec Stretch) (bits : SlotBits) → KeepsSize bs cs → parts cs.items ≡ parts bs.items → AreMarked bs bits → AreMarked cs bits
marked_same bs cs bits size same m = record {
  signed = subst (λ (ps : List (List Entry)). AreBlocksSigned ps bits) (sym same) m.signed;
  places = same_places _ _ _ _ _ _ m.places size.0 size.1 refl;
}

-- there are no more blocks, and as many bits
pub kept_still : (bs cs : Vec Stretch) (bits bits' : SlotBits) (spares : Vec Stretch) → AreMarked cs bits' → vec_len cs ≤ vec_len bs → bits'.places ≡ bits.places → AreKept bs bits spares → AreKept cs bits' spares
kept_still bs cs bits bits' spares marked fewer same k = record { marked = marked; held = (let h = k.held in omega (arith, h, fewer, same)); whole = k.whole }

-- a block is changed, and its bit with it
pub kept_turned : (bs cs : Vec Stretch) (v : List Entry) (bits bits' : SlotBits) (spares : Vec Stretch) (i : ℕ) → i < length (parts bs.items) → KeepsSize bs cs → parts cs.items ≡ set (parts bs.items) i v
    → BitTurned bits bits' i (num (some_pass is_ready (get_or (parts cs.items) i []))) → AreKept bs bits spares → AreKept cs bits' spares
kept_turned bs cs v bits bits' spares i lt size is turned k =
    let signed = signed_now (parts bs.items) (parts cs.items) v bits bits' i lt k.marked.signed is turned in
    let len = size.0 in
    kept_still bs cs bits bits' spares (record { signed = signed; places = same_places _ _ _ _ _ _ k.marked.places size.0 size.1 turned.places }) (omega (arith, len)) turned.places k
