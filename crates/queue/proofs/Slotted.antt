-- What is kept beside the slots of a queue, at each change.
use Rattle.queue.proofs.Names.{◌≡◌, ℕ, zero, suc, ◌+◌, ◌<◌, ◌≤◌, List, [], ◌∷◌, ◌++◌, length, get_or, map, filter, refl, sym, ap, ◌∙◌, subst, arith, Bool, true, false, cond, Option, Some, None, find, is_some, inl, inr, eqb, append_assoc, ◌&&◌, ◌==◌, IfSome, IfNone, false≢true, eqb_tells, leb_tells, get_or-set_same, get_or-set_other, map-set, is_ready, freed, is_under, is_held_by, is_held_as, held_as, freed_now, without_first, number_of, Entry, Message, Holder, Ready, Held, IsNextMark, bit_of, ready_count, Slot, somes, slot_has, changed, num, tally, SlotBits, BitTurned, AreSetBy, AreSigned, BitsShow, HasPlaces, contents, get_or-map, get_or_past, get_or_push, length-map, map-append}
use Rattle.std.proofs.Common.{not}
use Rattle.std.proofs.Math.ListN.{set}
use Rattle.model.specs.declared.messages.Mark.{Mark}
use Rattle.queue.proofs.Joined.{not_found}
use Rattle.queue.proofs.Places.{num-some, num-none, within, FirstAt, NonePasses, counted, tally-most, somes-most, count-set, length-set, OnlyAt, only_first, somes-append, some_at, none_found}

-- ---- one entry

pub ready_not_held : (mine : Holder → Bool) (o : Option Entry) → slot_has is_ready o ≡ true → slot_has (is_held_by mine) o ≡ false
ready_not_held mine None r = refl
ready_not_held mine (Some e) r = go e.mark r
  where
    go : (m : Mark) → elim m [ Ready ↦ true | Held g ↦ false ] ≡ true → elim m [ Ready ↦ false | Held g ↦ mine g ] ≡ false
    go Ready r = refl
    go (Held g) r = absurd (false≢true r)

pub held_not_ready : (mine : Holder → Bool) (o : Option Entry) → slot_has (is_held_by mine) o ≡ true → slot_has is_ready o ≡ false
held_not_ready mine None r = refl
held_not_ready mine (Some e) r = go e.mark r
  where
    go : (m : Mark) → elim m [ Ready ↦ false | Held g ↦ mine g ] ≡ true → elim m [ Ready ↦ true | Held g ↦ false ] ≡ false
    go Ready r = absurd (false≢true r)
    go (Held g) r = refl

some_of : {X : Type 0} (p : X → Bool) (o : Option X) → slot_has p o ≡ true → is_some o ≡ true
some_of p None h = absurd (false≢true h)
some_of p (Some x) h = refl

still_some : {X : Type 0} (f : X → X) (o : Option X) → is_some (changed f o) ≡ is_some o
still_some f None = refl
still_some f (Some x) = refl

held_is : (h holder : Holder) (o : Option Entry) → slot_has is_ready o ≡ true → slot_has (is_held_as h) (changed (held_as holder) o) ≡ is_under h holder
held_is h holder None r = absurd (false≢true r)
held_is h holder (Some e) r = refl

held_not_free : (holder : Holder) (o : Option Entry) → slot_has is_ready (changed (held_as holder) o) ≡ false
held_not_free holder None = refl
held_not_free holder (Some e) = refl

pub now_free : (p : Entry → Bool) (o : Option Entry) → slot_has p o ≡ true → slot_has is_ready (changed freed_now o) ≡ true
now_free p None h = absurd (false≢true h)
now_free p (Some e) h = refl

pub freed_there : (mine : Holder → Bool) (e : Entry) → is_held_by mine e ≡ true → freed mine e ≡ freed_now e
freed_there mine e h = go e.mark h
  where
    go : (m : Mark) → elim m [ Ready ↦ false | Held g ↦ mine g ] ≡ true → elim m [ Ready ↦ e | Held g ↦ cond (mine g) (freed_now e) e ] ≡ freed_now e
    go Ready h = absurd (false≢true h)
    go (Held g) h = rw h refl

pub freed_same : (mine : Holder → Bool) (e : Entry) → is_held_by mine e ≡ false → freed mine e ≡ e
freed_same mine e h = go e.mark h
  where
    go : (m : Mark) → elim m [ Ready ↦ false | Held g ↦ mine g ] ≡ false → elim m [ Ready ↦ e | Held g ↦ cond (mine g) (freed_now e) e ] ≡ e
    go Ready h = refl
    go (Held g) h = rw h refl

-- what stands in a slot is freed, or stays
pub slot_freed : (mine : Holder → Bool) (o : Option Entry) → slot_has (is_held_by mine) o ≡ true → changed (freed mine) o ≡ changed freed_now o
slot_freed mine None h = absurd (false≢true h)
slot_freed mine (Some e) h = ap Some (freed_there mine e h)

-- ---- one tag

both : (a b : Bool) → (a && b) ≡ true → (a ≡ true) × (b ≡ true)
both true true e = (refl, refl)
both true false e = absurd (false≢true e)
both false b e = absurd (false≢true e)

equal : (a b : ℕ) → eqb a b ≡ true → a ≡ b
equal a b e = elim (eqb_tells a b) [ inl p ↦ p.1 | inr p ↦ absurd (false≢true (sym p.0 ∙ e)) ]

same_under : (h holder g : Holder) → is_under h holder ≡ true → is_under h g ≡ is_under holder g
same_under h holder g e =
    let two : ((((holder.connection == h.connection) && (holder.channel == h.channel)) ≡ true) × ((holder.tag == h.tag) ≡ true)) = both ((holder.connection == h.connection) && (holder.channel == h.channel)) (holder.tag == h.tag) e in
    let one : (((holder.connection == h.connection) ≡ true) × ((holder.channel == h.channel) ≡ true)) = both (holder.connection == h.connection) (holder.channel == h.channel) two.0 in
    ap (λ (n : ℕ). ((g.connection == n) && (g.channel == h.channel)) && (g.tag == h.tag)) (sym (equal holder.connection h.connection one.0))
    ∙ ap (λ (n : ℕ). ((g.connection == holder.connection) && (g.channel == n)) && (g.tag == h.tag)) (sym (equal holder.channel h.channel one.1))
    ∙ ap (λ (n : ℕ). ((g.connection == holder.connection) && (g.channel == holder.channel)) && (g.tag == n)) (sym (equal holder.tag h.tag two.1))

pub same_held : (h holder : Holder) (e : Entry) → is_under h holder ≡ true → is_held_as h e ≡ is_held_as holder e
same_held h holder e u = go e.mark
  where
    go : (m : Mark) → ◌≡◌ {A = Bool} (elim m [ Ready ↦ false | Held g ↦ is_under h g ]) (elim m [ Ready ↦ false | Held g ↦ is_under holder g ])
    go Ready = refl
    go (Held g) = same_under h holder g u

pub same_count : {X : Type 0} (p q : X → Bool) → ((x : X) → p x ≡ q x) → (xs : List X) → tally p xs ≡ tally q xs
same_count p q s [] = refl
same_count p q s (x ∷ xs) = let a = ap num (s x) in let b = same_count p q s xs in omega arith

-- ---- the marks

pub first_by_marks : (p : Entry → Bool) (slots : List (Option Entry)) (bit : ℕ → ℕ) (i : ℕ) → ((k : ℕ) → bit k ≡ num (slot_has p (get_or slots k None))) → IsNextMark bit 0 i → FirstAt p slots i
first_by_marks p slots bit i m n = record { there = num-some _ (sym (m i) ∙ n.there); before = λ k lt. num-none _ (sym (m k) ∙ n.before k (omega arith) lt) }

pub none_by_marks : (p : Entry → Bool) (slots : List (Option Entry)) (bit : ℕ → ℕ) → ((k : ℕ) → bit k ≡ num (slot_has p (get_or slots k None))) → ((k : ℕ) → bit k ≡ 0) → NonePasses p slots
none_by_marks p slots bit m z = record { no = λ k. num-none _ (sym (m k) ∙ z k) }

-- an element is changed, and its bit with it
pub set_turned : {X : Type 0} (p : X → Bool) (none : X) (xs : List X) (v : X) (bits bits' : SlotBits) (i : ℕ) → i < length xs → AreSetBy p none xs bits
    → BitTurned bits bits' i (num (p v)) → AreSetBy p none (set xs i v) bits'
set_turned {X = X} p none xs v bits bits' i lt s t j = elim (eqb_tells j i) [
  | inl q ↦ ap (bit_of bits'.ready) q.1 ∙ t.turned.there ∙ ap (λ (x : X). num (p x)) (sym (get_or-set_same xs i v none lt) ∙ ap (λ (k : ℕ). get_or (set xs i v) k none) (sym q.1))
  | inr q ↦ t.turned.others j q.1 ∙ s j ∙ ap (λ (x : X). num (p x)) (sym (get_or-set_other xs i j v none q.1))
]

not_end : (xs : List (Option Entry)) (v : Option Entry) (j : ℕ) → ((j ≡ length xs) → ⊥) → get_or (xs ++ v ∷ []) j None ≡ get_or xs j None
not_end [] v zero h = absurd (h refl)
not_end [] v (suc j) h = refl
not_end (x ∷ xs) v zero h = refl
not_end (x ∷ xs) v (suc j) h = not_end xs v j (λ e. h (ap suc e))

signed_push : (slots : List (Option Entry)) (v : Option Entry) (bits bits' : SlotBits) → AreSigned slots bits → BitTurned bits bits' (length slots) (num (slot_has is_ready v)) → AreSigned (slots ++ v ∷ []) bits'
signed_push slots v bits bits' s t j = elim (eqb_tells j (length slots)) [
  | inl q ↦ ap (bit_of bits'.ready) q.1 ∙ t.turned.there ∙ ap (λ (o : Option Entry). num (slot_has is_ready o)) (sym (get_or_push slots v None (length slots) refl) ∙ ap (λ (k : ℕ). get_or (slots ++ v ∷ []) k None) (sym q.1))
  | inr q ↦ t.turned.others j q.1 ∙ s j ∙ ap (λ (o : Option Entry). num (slot_has is_ready o)) (sym (not_end slots v j q.1))
]

-- ---- one slot is written

-- What was written, and how the counts changed.
record Written (slots : List (Option Entry)) (v : Option Entry) (bits bits' : SlotBits) (live live' i : ℕ) : Type 0 where
  there : i < length slots
  turned : BitTurned bits bits' i (num (slot_has is_ready v))
  live_count : live' + num (is_some (get_or slots i None)) ≡ live + num (is_some v)
  distinct : (h : Holder) → tally (is_held_as h) (somes (set slots i v)) ≤ 1

shows_set : (slots : List (Option Entry)) (v : Option Entry) (bits bits' : SlotBits) (live live' i : ℕ) → BitsShow slots bits live
    → Written slots v bits bits' live live' i → BitsShow (set slots i v) bits' live'
shows_set slots v bits bits' live live' i s w = record {
  signed = set_turned (slot_has is_ready) None slots v bits bits' i w.there s.signed w.turned;
  live_count = (let a = s.live_count in let b = w.live_count in let c = length-set slots i v w.there in omega arith);
  distinct = w.distinct;
}

-- no more are held so than before
apart_less : (slots : List (Option Entry)) (v : Option Entry) (i : ℕ) (h : Holder) → i < length slots → tally (is_held_as h) (somes slots) ≤ 1
    → slot_has (is_held_as h) v ≡ false → tally (is_held_as h) (somes (set slots i v)) ≤ 1
apart_less slots v i h lt le e = let a = count-set (is_held_as h) slots i v lt in let n = ap num e in omega arith

-- one more is held, under a tag under which none was
apart_held : (slots : List (Option Entry)) (i : ℕ) (holder h : Holder) (b : Bool) → is_under h holder ≡ b → i < length slots → slot_has is_ready (get_or slots i None) ≡ true
    → find (is_held_as holder) (somes slots) ≡ None → tally (is_held_as h) (somes slots) ≤ 1
    → tally (is_held_as h) (somes (set slots i (changed (held_as holder) (get_or slots i None)))) ≤ 1
apart_held slots i holder h false e lt r f le = apart_less slots (changed (held_as holder) (get_or slots i None)) i h lt le (held_is h holder (get_or slots i None) r ∙ e)
apart_held slots i holder h true e lt r f le =
    let z : tally (is_held_as h) (somes slots) ≡ 0 = same_count (is_held_as h) (is_held_as holder) (λ x. same_held h holder x e) (somes slots) ∙ not_found (is_held_as holder) (somes slots) f in
    let a = count-set (is_held_as h) slots i (changed (held_as holder) (get_or slots i None)) lt in
    let n = ap num (held_is h holder (get_or slots i None) r ∙ e) in
    omega arith

-- ---- the calls

pub hold_shows : (slots now : List (Option Entry)) (bits bits' : SlotBits) (live i : ℕ) (holder : Holder) → BitsShow slots bits live → IsNextMark (bit_of bits.ready) 0 i
    → BitTurned bits bits' i 0 → now ≡ set slots i (changed (held_as holder) (get_or slots i None)) → find (is_held_as holder) (somes slots) ≡ None
    → BitsShow now bits' live
hold_shows slots now bits bits' live i holder s n t e f =
    let o : Option Entry = get_or slots i None in
    let v : Option Entry = changed (held_as holder) o in
    let p : FirstAt is_ready slots i = first_by_marks is_ready slots (bit_of bits.ready) i s.signed n in
    let lt : i < length slots = within is_ready slots i p.there in
    subst (λ (xs : List (Option Entry)). BitsShow xs bits' live) (sym e) (shows_set slots v bits bits' live live i s (record {
      there = lt;
      turned = subst (λ (b : Bool). BitTurned bits bits' i (num b)) (sym (held_not_free holder o)) t;
      live_count = ap (λ (b : Bool). live + num b) (sym (still_some (held_as holder) o));
      distinct = λ h. apart_held slots i holder h (is_under h holder) refl lt p.there f (s.distinct h);
    }))

pub take_shows : (slots now : List (Option Entry)) (bits bits' : SlotBits) (live live' i : ℕ) → BitsShow slots bits live → IsNextMark (bit_of bits.ready) 0 i
    → BitTurned bits bits' i 0 → now ≡ set slots i None → live' + 1 ≡ live → BitsShow now bits' live'
take_shows slots now bits bits' live live' i s n t e l =
    let p : FirstAt is_ready slots i = first_by_marks is_ready slots (bit_of bits.ready) i s.signed n in
    let lt : i < length slots = within is_ready slots i p.there in
    subst (λ (xs : List (Option Entry)). BitsShow xs bits' live') (sym e) (shows_set slots None bits bits' live live' i s (record {
      there = lt;
      turned = t;
      live_count = (let a = ap num (some_of is_ready (get_or slots i None) p.there) in omega arith);
      distinct = λ h. apart_less slots None i h lt (s.distinct h) refl;
    }))

pub release_shows : (slots now : List (Option Entry)) (bits bits' : SlotBits) (live i : ℕ) (holder : Holder) → BitsShow slots bits live
    → slot_has (is_held_as holder) (get_or slots i None) ≡ true → BitTurned bits bits' i 1 → now ≡ set slots i (changed freed_now (get_or slots i None))
    → BitsShow now bits' live
release_shows slots now bits bits' live i holder s h t e =
    let o : Option Entry = get_or slots i None in
    let v : Option Entry = changed freed_now o in
    let lt : i < length slots = within (is_held_as holder) slots i h in
    let f : slot_has is_ready v ≡ true = now_free (is_held_as holder) o h in
    subst (λ (xs : List (Option Entry)). BitsShow xs bits' live) (sym e) (shows_set slots v bits bits' live live i s (record {
      there = lt;
      turned = subst (λ (b : Bool). BitTurned bits bits' i (num b)) (sym f) t;
      live_count = ap (λ (b : Bool). live + num b) (sym (still_some freed_now o));
      distinct = λ g. apart_less slots v i g lt (s.distinct g) (ready_not_held (is_under g) v f);
    }))

pub remove_shows : (slots now : List (Option Entry)) (bits bits' : SlotBits) (live live' i : ℕ) (holder : Holder) → BitsShow slots bits live
    → slot_has (is_held_as holder) (get_or slots i None) ≡ true → BitTurned bits bits' i 0 → now ≡ set slots i None → live' + 1 ≡ live → BitsShow now bits' live'
remove_shows slots now bits bits' live live' i holder s h t e l =
    let lt : i < length slots = within (is_held_as holder) slots i h in
    subst (λ (xs : List (Option Entry)). BitsShow xs bits' live') (sym e) (shows_set slots None bits bits' live live' i s (record {
      there = lt;
      turned = t;
      live_count = (let a = ap num (some_of (is_held_as holder) (get_or slots i None) h) in omega arith);
      distinct = λ g. apart_less slots None i g lt (s.distinct g) refl;
    }))

pub push_shows : (slots now : List (Option Entry)) (bits bits' : SlotBits) (live live' : ℕ) (m : Message) → BitsShow slots bits live
    → BitTurned bits bits' (length slots) 1 → now ≡ slots ++ Some (record { message = m; mark = Ready }) ∷ [] → live' ≡ live + 1 → BitsShow now bits' live'
push_shows slots now bits bits' live live' m s t e l =
    let v : Entry = record { message = m; mark = Ready } in
    subst (λ (xs : List (Option Entry)). BitsShow xs bits' live') (sym e) (record {
      signed = signed_push slots (Some v) _ _ s.signed t;
      live_count = (let a = s.live_count in let b = length_end slots v in omega arith);
      distinct = λ h. (let a = s.distinct h in let b = counted_end (is_held_as h) slots v in omega arith);
    })
  where
    counted_end : (p : Entry → Bool) (xs : List (Option Entry)) (x : Entry) → tally p (somes (xs ++ Some x ∷ [])) ≡ tally p (somes xs) + num (p x)
    counted_end p [] x = omega arith
    counted_end p (None ∷ xs) x = counted_end p xs x
    counted_end p (Some y ∷ xs) x = let r = counted_end p xs x in omega arith

    length_end : (xs : List (Option Entry)) (x : Entry) → length (somes (xs ++ Some x ∷ [])) ≡ length (somes xs) + 1
    length_end [] x = refl
    length_end (None ∷ xs) x = length_end xs x
    length_end (Some y ∷ xs) x = let r = length_end xs x in omega arith

-- the count has room for a step
pub ready_least : (slots : List (Option Entry)) (bits : SlotBits) (live i : ℕ) → BitsShow slots bits live → IsNextMark (bit_of bits.ready) 0 i → 1 ≤ live
ready_least slots bits live i s n =
    let p : FirstAt is_ready slots i = first_by_marks is_ready slots (bit_of bits.ready) i s.signed n in
    let c = counted is_ready slots i p.there in
    let m = tally-most is_ready (somes slots) in
    let b = s.live_count in
    omega arith

pub held_least : (slots : List (Option Entry)) (bits : SlotBits) (live i : ℕ) (holder : Holder) → BitsShow slots bits live
    → slot_has (is_held_as holder) (get_or slots i None) ≡ true → 1 ≤ live
held_least slots bits live i holder s t =
    let c = counted (is_held_as holder) slots i t in
    let m = tally-most (is_held_as holder) (somes slots) in
    let b = s.live_count in
    omega arith

-- what is held under a tag is the only such entry
pub only_held : (slots : List (Option Entry)) (bits : SlotBits) (live i : ℕ) (holder : Holder) → BitsShow slots bits live
    → slot_has (is_held_as holder) (get_or slots i None) ≡ true → OnlyAt (is_held_as holder) slots i
only_held slots bits live i holder s t = record { there = t; only = s.distinct holder }

-- a slot is told where an entry is held so
pub held_told : (p : Entry → Bool) (slots : List (Option Entry)) (o : Option ℕ) → IfSome o (λ i. slot_has p (get_or slots i None) ≡ true)
    → IfNone o ((k : ℕ) → slot_has p (get_or slots k None) ≡ false) → tally p (somes slots) ≤ 1 → is_some o ≡ is_some (find p (somes slots))
held_told p slots (Some i) s n le = sym (some_at p slots i (only_first p slots i (record { there = s; only = le })))
held_told p slots None s n le = sym (ap is_some (none_found p slots (record { no = n })))

-- the count is at most what there is
pub live_most : (slots : List (Option Entry)) (bits : SlotBits) (live : ℕ) → BitsShow slots bits live → live ≤ length slots
live_most slots bits live s = let n = somes-most slots in let b = s.live_count in omega arith

pub same_places : (slots slots' capacity capacity' places places' : ℕ) → HasPlaces slots capacity places → slots' ≡ slots → capacity' ≡ capacity → places' ≡ places → HasPlaces slots' capacity' places'
same_places slots slots' capacity capacity' places places' h a b c = record { used = (let u = h.used in omega arith); kept = (let k = h.kept in omega arith) }

-- each slot that a vector can have has its bit
pub same_bits : (capacity capacity' places places' : ℕ) → capacity ≤ places → capacity' ≡ capacity → places' ≡ places → capacity' ≤ places'
same_bits capacity capacity' places places' h a b = omega arith

-- ---- slots and what stands in them

pub contents-length : (slots : List Slot) → length (contents slots) ≡ length slots
contents-length slots = length-map slots (λ (s : Slot). s.entry)

pub contents-past : (p : Entry → Bool) (slots : List Slot) (k : ℕ) → length slots ≤ k → slot_has p (get_or (contents slots) k None) ≡ false
contents-past p slots k h = ap (λ (o : Option Entry). slot_has p o) (get_or_past (contents slots) k None (let n = contents-length slots in omega (arith, n, h)))

pub contents-at : (slots : List Slot) (i : ℕ) (d : Slot) → i < length slots → (get_or slots i d).entry ≡ get_or (contents slots) i None
contents-at slots i d lt = sym (get_or-map (λ (s : Slot). s.entry) slots i d None lt)

-- a slot is written, where this one stood
pub contents-written : (slots : List Slot) (i : ℕ) (d s : Slot) (o : Option Entry) (f : Option Entry → Option Entry) → i < length slots → d ≡ get_or slots i d → s.entry ≡ f d.entry
    → contents (set slots i s) ≡ set (contents slots) i (f (get_or (contents slots) i None))
contents-written slots i d s o f lt e w =
    map-set (λ (x : Slot). x.entry) slots i s
    ∙ ap (λ (v : Option Entry). set (contents slots) i v) (w ∙ ap f (ap (λ (x : Slot). x.entry) e ∙ contents-at slots i d lt))

somes-cons : {X : Type 0} (o : Option X) (xs ys : List (Option X)) → somes xs ≡ somes ys → somes (o ∷ xs) ≡ somes (o ∷ ys)
somes-cons None xs ys e = e
somes-cons (Some x) xs ys e = ap (λ (zs : List _). x ∷ zs) e

somes-skip : {X : Type 0} (o : Option X) (xs ys : List (Option X)) → is_some o ≡ false → somes xs ≡ somes ys → somes xs ≡ somes (o ∷ ys)
somes-skip None xs ys h e = e
somes-skip (Some x) xs ys h e = absurd (false≢true (sym h))

-- one list of slots behind the other
pub entries-both : (xs ys : List Slot) → somes (contents (xs ++ ys)) ≡ somes (contents xs) ++ somes (contents ys)
entries-both xs ys = ap somes (map-append (λ (s : Slot). s.entry) xs ys) ∙ somes-append (contents xs) (contents ys)

-- the empty slots are taken out
pub somes-dropped : (slots : List Slot) → somes (contents (filter (λ (s : Slot). is_some s.entry) slots)) ≡ somes (contents slots)
somes-dropped [] = refl
somes-dropped (s ∷ ss) = go (is_some s.entry) refl (somes-dropped ss)
  where
    kept : List Slot
    kept = filter (λ (s : Slot). is_some s.entry) ss

    go : (b : Bool) → is_some s.entry ≡ b → somes (contents kept) ≡ somes (contents ss) → somes (contents (cond b (s ∷ kept) kept)) ≡ somes (contents (s ∷ ss))
    go true h e = somes-cons s.entry (contents kept) (contents ss) e
    go false h e = somes-skip s.entry (contents kept) (contents ss) h e

-- as many slots are left as were not empty
pub length-dropped : (slots : List Slot) → length (filter (λ (s : Slot). is_some s.entry) slots) ≡ length (somes (contents slots))
length-dropped [] = refl
length-dropped (s ∷ ss) = go s.entry (length-dropped ss)
  where
    kept : List Slot
    kept = filter (λ (s : Slot). is_some s.entry) ss

    go : (o : Option Entry) → length kept ≡ length (somes (contents ss)) → length (cond (is_some o) (s ∷ kept) kept) ≡ length (somes (o ∷ contents ss))
    go None e = e
    go (Some x) e = ap suc e

-- ---- bits set one after another

-- The bits below `place` are as their elements are, and those from `places` on are 0.
pub record SignedBelow {X : Type 0} (p : X → Bool) (none : X) (xs : List X) (bits : SlotBits) (place places : ℕ) : Type 0 where
  pub below : (k : ℕ) → k < place → bit_of bits.ready k ≡ num (p (get_or xs k none))
  pub above : (k : ℕ) → places ≤ k → bit_of bits.ready k ≡ 0

pub signed_more : {X : Type 0} (p : X → Bool) (none : X) (xs : List X) (bits bits' : SlotBits) (place places : ℕ) → place < places → SignedBelow p none xs bits place places
    → BitTurned bits bits' place (num (p (get_or xs place none))) → SignedBelow p none xs bits' (place + 1) places
signed_more p none xs bits bits' place places lt s t = record {
  below = λ k l. elim (eqb_tells k place) [
    | inl q ↦ ap (bit_of bits'.ready) q.1 ∙ t.turned.there ∙ ap (λ (j : ℕ). num (p (get_or xs j none))) (sym q.1)
    | inr q ↦ let ne = q.1 in t.turned.others k q.1 ∙ s.below k (omega arith)
  ];
  above = λ k ge. t.turned.others k (λ e. absurd (omega arith)) ∙ s.above k ge;
}

pub signed_done : {X : Type 0} (p : X → Bool) (none : X) (xs : List X) (bits : SlotBits) (place places len : ℕ) → places ≤ place → len ≤ places
    → ((k : ℕ) → len ≤ k → p (get_or xs k none) ≡ false) → SignedBelow p none xs bits place places → AreSetBy p none xs bits
signed_done p none xs bits place places len le few past s k = elim (leb_tells places k) [
  | inl q ↦ s.above k q.1 ∙ sym (ap num (past k (let h = q.1 in omega arith)))
  | inr q ↦ let h = q.1 in s.below k (omega arith)
]

-- ---- the ready ones taken out one by one

pub first_filtered : (es : List Entry) (e : Entry) → find is_ready es ≡ Some e → filter is_ready es ≡ e ∷ filter is_ready (without_first is_ready es)
first_filtered [] e h = absurd (cc)
first_filtered (x ∷ xs) e h = go (is_ready x) refl (first_filtered xs e) h
  where
    go : (b : Bool) → is_ready x ≡ b → (find is_ready xs ≡ Some e → filter is_ready xs ≡ e ∷ filter is_ready (without_first is_ready xs)) → cond b (Some x) (find is_ready xs) ≡ Some e
        → cond b (x ∷ filter is_ready xs) (filter is_ready xs) ≡ e ∷ filter is_ready (cond b xs (x ∷ without_first is_ready xs))
    go true i r h = ap (λ (y : Entry). y ∷ filter is_ready xs) (some_is x e h)
      where
        some_is : (x e : Entry) → Some x ≡ Some e → x ≡ e
        some_is x e h = cc
    go false i r h = rw i (r h)

pub none_filtered : (es : List Entry) → find is_ready es ≡ None → filter is_ready es ≡ []
none_filtered [] h = refl
none_filtered (x ∷ xs) h = go (is_ready x) refl (none_filtered xs) h
  where
    go : (b : Bool) → is_ready x ≡ b → (find is_ready xs ≡ None → filter is_ready xs ≡ []) → cond b (Some x) (find is_ready xs) ≡ None → cond b (x ∷ filter is_ready xs) (filter is_ready xs) ≡ []
    go true i r h = absurd (cc)
    go false i r h = r h

pub purged_more : (numbers : List ℕ) (es : List Entry) (e : Entry) → Some e ≡ find is_ready es
    → (numbers ++ number_of e ∷ []) ++ map number_of (filter is_ready (without_first is_ready es)) ≡ numbers ++ map number_of (filter is_ready es)
purged_more numbers es e h = append_assoc numbers (number_of e ∷ []) _ ∙ ap (λ (ys : List Entry). numbers ++ map number_of ys) (sym (first_filtered es e (sym h)))

pub ready_less : (es : List Entry) (e : Entry) → Some e ≡ find is_ready es → ready_count es ≡ ready_count (without_first is_ready es) + 1
ready_less es e h = let l = ap length (first_filtered es e (sym h)) in omega arith

pub none_left : (es : List Entry) → find is_ready es ≡ None → without_first is_ready es ≡ filter (λ e. not (is_ready e)) es
none_left [] h = refl
none_left (x ∷ xs) h = go (is_ready x) refl (none_left xs) h
  where
    go : (b : Bool) → is_ready x ≡ b → (find is_ready xs ≡ None → without_first is_ready xs ≡ filter (λ e. not (is_ready e)) xs) → cond b (Some x) (find is_ready xs) ≡ None
        → cond b xs (x ∷ without_first is_ready xs) ≡ cond (not b) (x ∷ filter (λ e. not (is_ready e)) xs) (filter (λ e. not (is_ready e)) xs)
    go true i r h = absurd (cc)
    go false i r h = ap (λ (ys : List Entry). x ∷ ys) (r h)
