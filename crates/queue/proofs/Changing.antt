-- Entries of a list changed one after another.
use Rattle.queue.proofs.Names.{◌≡◌, ℕ, zero, suc, ◌<◌, List, [], ◌∷◌, ◌++◌, length, get_or, take, drop, map, refl, sym, ap, ◌∙◌, arith}
use Rattle.std.proofs.Common.{set}

-- ---- the first i of a list changed, the others as they were

pub changed_at : {X : Type 0} (f : X → X) (xs : List X) (i : ℕ) (d : X) → i < length xs → get_or (map f (take i xs) ++ drop i xs) i d ≡ get_or xs i d
changed_at f [] i d h = absurd (omega arith)
changed_at f (x ∷ xs) zero d h = refl
changed_at f (x ∷ xs) (suc i) d h = changed_at f xs i d (omega arith)

pub changed_more : {X : Type 0} (f : X → X) (xs : List X) (i : ℕ) (d : X) → i < length xs
    → set (map f (take i xs) ++ drop i xs) i (f (get_or xs i d)) ≡ map f (take (suc i) xs) ++ drop (suc i) xs
changed_more f [] i d h = absurd (omega arith)
changed_more f (x ∷ xs) zero d h = refl
changed_more {X = X} f (x ∷ xs) (suc i) d h = ap (λ (ys : List X). f x ∷ ys) (changed_more f xs i d (omega arith))

changed-length : {X : Type 0} (f : X → X) (xs : List X) (i : ℕ) → length (map f (take i xs) ++ drop i xs) ≡ length xs
changed-length f [] zero = refl
changed-length f [] (suc i) = refl
changed-length f (x ∷ xs) zero = refl
changed-length f (x ∷ xs) (suc i) = ap suc (changed-length f xs i)

-- the next one is changed
pub changed_next : {X : Type 0} (f : X → X) (xs start : List X) (i j : ℕ) (e d : X) → j ≡ suc i → i < length xs → d ≡ get_or xs i d → xs ≡ map f (take i start) ++ drop i start → e ≡ f (get_or xs i d)
    → set xs i e ≡ map f (take j start) ++ drop j start
changed_next {X = X} f xs start i j e d step lt at is new =
    let long : length xs ≡ length start = ap length is ∙ changed-length f start i in
    let before : i < length start = omega arith in
    let was : d ≡ get_or start i d = at ∙ ap (λ (ys : List X). get_or ys i d) is ∙ changed_at f start i d before in
    ap (λ (ys : List X). set ys i e) is
    ∙ ap (set (map f (take i start) ++ drop i start) i) (new ∙ ap f (sym at ∙ was))
    ∙ changed_more f start i d before
    ∙ ap (λ (k : ℕ). map f (take k start) ++ drop k start) (sym step)
