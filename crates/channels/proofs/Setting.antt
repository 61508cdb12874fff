-- One value of a list is set.
use Rattle.channels.proofs.Imports.{◌≡◌, ◌<◌, ℕ, zero, suc, List, [], ◌∷◌, length, get_or, set, Bool, true, false, Option, Some, None, cond, refl, sym, ap, ◌∙◌, arith, eqb-true, false≢true, get_or-set_same, get_or-set_other, same_Some, lookup, set_value, Open, Running, IsChannelSet, running_in, channel_in, channel_at, channel_of, with_channel_in, with_channel_at, with_channel}
use Rattle.std.proofs.Common.{◌==◌, if◌then◌else◌, nat_eq}
use Rattle.std.proofs.lemmas.Bool.{eq-eqb}

-- within a list it is the same whatever is past its end
pub same_default : {A : Type 0} (xs : List A) (i : ℕ) (a b : A) → i < length xs → get_or xs i a ≡ get_or xs i b
same_default [] i a b lt = absurd (omega (arith, lt))
same_default (x ∷ xs) zero a b lt = refl
same_default (x ∷ xs) (suc i) a b lt = same_default xs i a b (omega (arith, lt))

-- a channel is set at its number
pub set_is : (xs : List (Option Open)) (n : ℕ) (x : Option Open) → n < length xs → IsChannelSet xs n x (set xs n x)
set_is xs n x lt k = go (k == n) refl
  where
    go : (b : Bool) → (k == n) ≡ b → get_or (set xs n x) k None ≡ (if b then x else get_or xs k None)
    go true e = ap (λ (j : ℕ). get_or (set xs n x) j None) (eqb-true k n e) ∙ get_or-set_same xs n x None lt
    go false e = get_or-set_other xs n k x None (λ same. false≢true (sym e ∙ eq-eqb k n same))

-- a value that is set to what it was
pub set_same : {K X : Type 0} (test : K → Bool) (es : List (K × X)) (x : X) → lookup test es ≡ Some x → set_value test es x ≡ es
set_same test [] x e = refl
set_same {K} {X} test (y ∷ ys) x e = go (test y.0) e (set_same test ys x)
  where
    go : (b : Bool) → cond b (Some y.1) (lookup test ys) ≡ Some x → (lookup test ys ≡ Some x → set_value test ys x ≡ ys) → cond b ((y.0, x) ∷ ys) (y ∷ set_value test ys x) ≡ y ∷ ys
    go true f more = ap (λ (z : X). (y.0, z) ∷ ys) (sym (same_Some y.1 x f))
    go false f more = ap (λ (zs : List (K × X)). y ∷ zs) (more f)

-- where the connection is found, its channel is the one asked for
pub found_channel : (es : List (ℕ × Running)) (c h : ℕ) (l : Running) → running_in es c ≡ Some l → channel_in l h ≡ channel_of es c h
found_channel es c h l found = ap (λ (o : Option Running). channel_at o h) (sym found)

-- and writing it writes that connection
pub found_written : (es : List (ℕ × Running)) (c h : ℕ) (l : Running) (w : Open) → running_in es c ≡ Some l → set_value (nat_eq c) es (with_channel_in l h w) ≡ with_channel es c h w
found_written es c h l w found = ap (λ (o : Option Running). with_channel_at es c h o w) (sym found)
