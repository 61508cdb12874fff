-- What dead letters reach, queue by queue.
use Rattle.paths.proofs.Names.{◌≡◌, ℕ, zero, suc, ◌+◌, List, [], ◌∷◌, ◌++◌, Option, Some, None, refl, sym, subst, ◌∙◌, length, length-append, inl, inr, arith, slice_get, Topology, Visit, AreFronts, IsFrontAt}
use Rattle.std.specs.Prelude.{◌⊎◌}

last_or : {A : Type 0} (xs : List A) (x y : A) (i : ℕ) → slice_get (xs ++ x ∷ []) i ≡ Some y → (slice_get xs i ≡ Some y) ⊎ ((i ≡ length xs) × (y ≡ x))
last_or [] x y zero e = inr (refl, (let h : Some x ≡ Some y = e in cc))
last_or [] x y (suc i) e = absurd (let h : None ≡ Some y = e in cc)
last_or (z ∷ zs) x y zero e = inl e
last_or (z ∷ zs) x y (suc i) e = elim (last_or zs x y i e) [ inl h ↦ inl h | inr h ↦ inr ((let g = h.0 in omega (arith, g)), h.1) ]

pub fronts_none : (t : Topology) → AreFronts t 0 []
fronts_none t = record { size = refl; each = λ i f e. absurd (let h : None ≡ Some f = e in cc) }

pub fronts_more : (t : Topology) (at : ℕ) (fronts : List (Option (List Visit))) (front : Option (List Visit)) → AreFronts t at fronts → IsFrontAt t at front → AreFronts t (at + 1) (fronts ++ front ∷ [])
fronts_more t at fronts front a f = record {
  size = (let n = length-append fronts (front ∷ []) in let m = a.size in omega (arith, n, m));
  each = λ i g e. (elim (last_or fronts front g i e) [
    | inl h ↦ a.each i g h
    | inr h ↦ subst (λ (z : Option (List Visit)). IsFrontAt t i z) (sym h.1) (subst (λ (n : ℕ). IsFrontAt t n front) (sym (h.0 ∙ a.size)) f)
  ]);
}
