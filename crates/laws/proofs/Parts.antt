-- Parts of lists in order.
use Rattle.laws.proofs.Names.{◌≡◌, ℕ, List, [], ◌∷◌, ◌++◌, sym, subst, append_assoc, append-nil, IsPart, empty, skips}
use Rattle.model.specs.Order.{takes}

pub itself : (xs : List ℕ) → IsPart xs xs
itself [] = empty
itself (x ∷ xs) = takes (itself xs)

pub part_same : (xs ys : List ℕ) → xs ≡ ys → IsPart xs ys
part_same xs ys e = subst (IsPart xs) e (itself xs)

pub joined : {as' bs : List ℕ} (xs ys : List ℕ) → IsPart as' bs → IsPart xs ys → IsPart (as' ++ xs) (bs ++ ys)
joined xs ys empty q = q
joined xs ys (skips p) q = skips (joined xs ys p q)
joined xs ys (takes p) q = takes (joined xs ys p q)

pub nothing : (ys : List ℕ) → IsPart [] ys
nothing [] = empty
nothing (y ∷ ys) = skips (nothing ys)

-- a part of a part
pub within : {xs ys : List ℕ} (zs : List ℕ) → IsPart xs ys → IsPart ys zs → IsPart xs zs
within [] p empty = p
within (z ∷ zs) p (skips q) = skips (within zs p q)
within (z ∷ zs) (skips p) (takes q) = skips (within zs p q)
within (z ∷ zs) (takes p) (takes q) = takes (within zs p q)

-- a part of a list is one of a longer list
pub longer : {xs : List ℕ} (ys zs : List ℕ) → IsPart xs ys → IsPart xs (ys ++ zs)
longer {xs = xs} ys zs p = subst (λ (ws : List ℕ). IsPart ws (ys ++ zs)) (append-nil xs) (joined [] zs p (nothing zs))

-- without the end
pub front : (xs ys zs : List ℕ) → IsPart (xs ++ ys) zs → IsPart xs zs
front xs ys zs p = within zs (longer xs ys (itself xs)) p

-- one step after another: what was given first and what waits after it, then the same of the rest
pub onward : (f g old mid new e d : List ℕ) → IsPart (f ++ mid) (old ++ e) → IsPart (g ++ new) (mid ++ d) → IsPart ((f ++ g) ++ new) (old ++ (e ++ d))
onward f g old mid new e d p q =
    subst (λ (ws : List ℕ). IsPart ws (old ++ (e ++ d))) (sym (append_assoc f g new))
    (subst (λ (ws : List ℕ). IsPart (f ++ (g ++ new)) ws) (append_assoc old e d)
    (within ((old ++ e) ++ d) (joined (g ++ new) (mid ++ d) (itself f) q)
    (subst (λ (ws : List ℕ). IsPart ws ((old ++ e) ++ d)) (append_assoc f mid d) (joined d d p (itself d)))))
