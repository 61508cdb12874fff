-- A header declares one size, or is refused.
use Rattle.assembly.proofs.Imports.{◌≡◌, ◌≤◌, ℕ, List, length, Result, inl, inr, refl, arith, class_at, SaysSize, IsNoHeader, weight_at, size, no_header}

-- never both
size_or : (payload : List ℕ) → 14 ≤ length payload → class_at payload ≡ 60 → weight_at payload ≡ 0 → IsNoHeader payload → ⊥
size_or payload l c w (inl short) = omega arith
size_or payload l c w (inr (inl other)) = other c
size_or payload l c w (inr (inr heavy)) = heavy w

pub size_once : (payload : List ℕ) (r q : Result ℕ ℕ) → SaysSize payload r → SaysSize payload q → r ≡ q
size_once payload r q (size l c w) (size k d v) = refl
size_once payload r q (size l c w) (no_header n) = absurd (size_or payload l c w n)
size_once payload r q (no_header n) (size l c w) = absurd (size_or payload l c w n)
size_once payload r q (no_header n) (no_header m) = refl
