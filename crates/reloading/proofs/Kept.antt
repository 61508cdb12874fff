-- Messages that are kept in slots.
use Rattle.reloading.proofs.Names.{◌≡◌, ℕ, zero, suc, ◌<◌, List, [], ◌∷◌, length, get_or, set, Option, Some, None, ◌⊎◌, inl, inr, sym, ap, arith, Message, IsIn, kept}
use Rattle.std.specs.Borrow.{Bor}

-- what is in a slot is remembered
pub found_kept : (slots : List (Option (Bor Message))) (i : ℕ) (d : Option (Bor Message)) (m : Bor Message) → i < length slots → get_or slots i d ≡ Some m → IsIn m.now (kept slots)
found_kept [] i d m lt e = absurd (omega (arith, lt))
found_kept (None ∷ slots) zero d m lt e = absurd (let f : None ≡ Some m = e in cc)
found_kept (Some k ∷ slots) zero d m lt e = inl (let f : Some k ≡ Some m = e in let g : k ≡ m = cc in ap (λ (b : Bor Message). b.now) (sym g))
found_kept (None ∷ slots) (suc i) d m lt e = found_kept slots i d m (let l : suc i < suc (length slots) = lt in omega (arith, l)) e
found_kept (Some k ∷ slots) (suc i) d m lt e = inr (found_kept slots i d m (let l : suc i < suc (length slots) = lt in omega (arith, l)) e)

-- one more is kept, in the place of another one or of none
pub kept_put : (slots : List (Option (Bor Message))) (i : ℕ) (b : Bor Message) (m : Message) → IsIn m (kept (set slots i (Some b))) → IsIn m (kept slots) ⊎ (m ≡ b.now)
kept_put [] i b m k = inl k
kept_put (None ∷ slots) zero b m (inl e) = inr e
kept_put (None ∷ slots) zero b m (inr k) = inl k
kept_put (Some x ∷ slots) zero b m (inl e) = inr e
kept_put (Some x ∷ slots) zero b m (inr k) = inl (inr k)
kept_put (None ∷ slots) (suc i) b m k = kept_put slots i b m k
kept_put (Some x ∷ slots) (suc i) b m (inl e) = inl (inl e)
kept_put (Some x ∷ slots) (suc i) b m (inr k) = elim (kept_put slots i b m k) [ inl h ↦ inl (inr h) | inr h ↦ inr h ]
