-- What is kept beside the slots stays as it is where each message is marked as one that stood.
use Rattle.queue.proofs.Names.{◌≡◌, ℕ, zero, suc, ◌<◌, ◌≤◌, List, [], ◌∷◌, ◌++◌, length, get_or, take, drop, map, refl, sym, ap, ◌∙◌, subst, arith, Bool, Option, Some, None, survived_now, is_ready, is_held_as, Entry, Slot, contents, somes, slot_has, changed, num, tally, SlotBits, BitsShow, total, ready_size, is_long, IsCounted, get_or_default, length-map}
use Rattle.std.proofs.Common.{set}
use Rattle.queue.proofs.Slotted.{contents-length, contents-written}
use Rattle.queue.proofs.Changing.{changed_next}

-- ---- each that stands in a slot is changed

pub somes-changed : {X : Type 0} (f : X → X) (os : List (Option X)) → somes (map (changed f) os) ≡ map f (somes os)
somes-changed f [] = refl
somes-changed f (None ∷ os) = somes-changed f os
somes-changed {X = X} f (Some x ∷ os) = ap (λ (xs : List X). f x ∷ xs) (somes-changed f os)

there_changed : {X : Type 0} (f : X → X) (os : List (Option X)) (i : ℕ) → get_or (map (changed f) os) i None ≡ changed f (get_or os i None)
there_changed f [] i = refl
there_changed f (o ∷ os) zero = refl
there_changed f (o ∷ os) (suc i) = there_changed f os i

has_changed : {X : Type 0} (p : X → Bool) (f : X → X) → ((x : X) → p (f x) ≡ p x) → (o : Option X) → slot_has p (changed f o) ≡ slot_has p o
has_changed p f same None = refl
has_changed p f same (Some x) = same x

tally-mapped : {X : Type 0} (p : X → Bool) (f : X → X) → ((x : X) → p (f x) ≡ p x) → (xs : List X) → tally p (map f xs) ≡ tally p xs
tally-mapped p f same [] = refl
tally-mapped p f same (x ∷ xs) = let a = ap num (same x) in let b = tally-mapped p f same xs in omega arith

total-mapped : {X : Type 0} (g : X → ℕ) (f : X → X) → ((x : X) → g (f x) ≡ g x) → (xs : List X) → total g (map f xs) ≡ total g xs
total-mapped g f same [] = refl
total-mapped g f same (x ∷ xs) = let a = same x in let b = total-mapped g f same xs in omega arith

-- ---- the marks, the counts and the bytes

pub stood_shows : (os : List (Option Entry)) (bits : SlotBits) (live : ℕ) → BitsShow os bits live → BitsShow (map (changed survived_now) os) bits live
stood_shows os bits live s =
    let same = somes-changed survived_now os in record {
      signed = λ i. s.signed i ∙ ap num (sym (has_changed is_ready survived_now (λ e. refl) (get_or os i None)) ∙ ap (slot_has is_ready) (sym (there_changed survived_now os i)));
      live_count = s.live_count ∙ sym (length-map (somes os) survived_now) ∙ ap length (sym same);
      distinct = λ holder. subst (λ (n : ℕ). n ≤ 1) (sym (tally-mapped (is_held_as holder) survived_now (λ e. refl) (somes os)) ∙ ap (tally (is_held_as holder)) (sym same)) (s.distinct holder);
    }

-- so it is with the entries of a queue
pub stood_counted : (es : List Entry) (ready live bytes : ℕ) → IsCounted es ready live bytes → IsCounted (map survived_now es) ready live bytes
stood_counted es ready live bytes c = record {
  ready_count = c.ready_count ∙ sym (tally-mapped is_ready survived_now (λ e. refl) es);
  live_count = c.live_count ∙ sym (length-map es survived_now);
  sum = c.sum ∙ sym (total-mapped ready_size survived_now (λ e. refl) es);
  distinct = λ holder. subst (λ (n : ℕ). n ≤ 1) (sym (tally-mapped (is_held_as holder) survived_now (λ e. refl) es)) (c.distinct holder);
  short = tally-mapped is_long survived_now (λ e. refl) es ∙ c.short;
}

-- ---- slot by slot

-- the next slot is changed
pub slot_next : (f : Entry → Entry) (slots start : List Slot) (i j : ℕ) (s d : Slot) → j ≡ suc i → i < length slots → d ≡ get_or slots i d
    → contents slots ≡ map (changed f) (take i (contents start)) ++ drop i (contents start) → s.entry ≡ changed f d.entry
    → contents (set slots i s) ≡ map (changed f) (take j (contents start)) ++ drop j (contents start)
slot_next f slots start i j s d step lt at is new =
    let n = contents-length slots in
    let within : i < length (contents slots) = omega arith in
    contents-written slots i d s None (changed f) lt at new
    ∙ changed_next (changed f) (contents slots) (contents start) i j (changed f (get_or (contents slots) i None)) (get_or (contents slots) i None) step within (get_or_default (contents slots) i None (get_or (contents slots) i None) within) is (ap (changed f) (get_or_default (contents slots) i None (get_or (contents slots) i None) within))
