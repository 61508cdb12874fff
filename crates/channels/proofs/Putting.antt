-- A channel that was lent and written is put at its number, and everything else stays.
use Rattle.channels.proofs.Imports.{◌≡◌, ◌<◌, ℕ, zero, suc, List, [], ◌∷◌, length, get_or, set, Bool, true, false, Option, Some, None, cond, refl, sym, ap, ◌∙◌, arith, eqb-true, none-some, lookup, set_value, Open, Running, running_in, channel_at, channel_of, connection_at, connection_of, with_channel_in, with_channel_at, with_channel, PutsChannel}
use Rattle.std.proofs.Common.{◌==◌, nat_eq, if◌then◌else◌, ◌&&◌}
use Rattle.channels.proofs.Setting.{set_is, set_same}

-- what is written at a key is found there
pub found_here : {K X : Type 0} (test : K → Bool) (es : List (K × X)) (w x : X) → lookup test es ≡ Some x → lookup test (set_value test es w) ≡ Some w
found_here test [] w x e = absurd (none-some x e)
found_here {K} {X} test (y ∷ ys) w x e = go (test y.0) refl e (found_here test ys w x)
  where
    go : (b : Bool) → test y.0 ≡ b → cond b (Some y.1) (lookup test ys) ≡ Some x → (lookup test ys ≡ Some x → lookup test (set_value test ys w) ≡ Some w) → lookup test (cond b ((y.0, w) ∷ ys) (y ∷ set_value test ys w)) ≡ Some w
    go true t f more = ap (λ (b : Bool). cond b (Some w) (lookup test ys)) t
    go false t f more = ap (λ (b : Bool). cond b (Some y.1) (lookup test (set_value test ys w))) t ∙ more f

-- and at another key nothing changes
found_apart : {X : Type 0} (c d : ℕ) (es : List (ℕ × X)) (w : X) → (d == c) ≡ false → lookup (nat_eq d) (set_value (nat_eq c) es w) ≡ lookup (nat_eq d) es
found_apart c d [] w n = refl
found_apart {X} c d (y ∷ ys) w n = go (nat_eq c y.0) refl (found_apart c d ys w n)
  where
    go : (b : Bool) → nat_eq c y.0 ≡ b → lookup (nat_eq d) (set_value (nat_eq c) ys w) ≡ lookup (nat_eq d) ys → lookup (nat_eq d) (cond b ((y.0, w) ∷ ys) (y ∷ set_value (nat_eq c) ys w)) ≡ cond (nat_eq d y.0) (Some y.1) (lookup (nat_eq d) ys)
    go true t more =
        let distinct : nat_eq d y.0 ≡ false = ap (λ (k : ℕ). nat_eq d k) (sym (eqb-true c y.0 t)) ∙ n in
        ap (λ (b : Bool). cond b (Some w) (lookup (nat_eq d) ys)) distinct ∙ sym (ap (λ (b : Bool). cond b (Some y.1) (lookup (nat_eq d) ys)) distinct)
    go false t more = ap (λ (o : Option X). cond (nat_eq d y.0) (Some y.1) o) more

-- an open channel is within the list
pub within : (xs : List (Option Open)) (i : ℕ) (x : Open) → get_or xs i None ≡ Some x → i < length xs
within [] i x e = absurd (none-some x e)
within (y ∷ ys) zero x e = omega arith
within (y ∷ ys) (suc i) x e = let lt = within ys i x e in omega (arith, lt)

-- a channel that was there, and is written, is put at its number
pub puts_written : (es : List (ℕ × Running)) (c h : ℕ) (old ch : Open) → channel_of es c h ≡ Some old → PutsChannel es c h (Some ch) (with_channel es c h ch)
puts_written es c h old ch is = at (running_in es c) refl is
  where
    at : (o : Option Running) → running_in es c ≡ o → channel_at o h ≡ Some old → PutsChannel es c h (Some ch) (with_channel_at es c h o ch)
    at None e there = absurd (none-some old there)
    at (Some l) e there = record {
      connections = λ d. limits d (d == c) refl;
      channels = λ d k. channels d k (d == c) refl;
    }
      where
        new : List (ℕ × Running)
        new = set_value (nat_eq c) es (with_channel_in l h ch)

        here : running_in new c ≡ Some (with_channel_in l h ch)
        here = found_here (nat_eq c) es (with_channel_in l h ch) l e

        limits : (d : ℕ) (b : Bool) → (d == c) ≡ b → connection_of new d ≡ connection_of es d
        limits d true t = ap (λ (j : ℕ). connection_of new j) (eqb-true d c t) ∙ ap connection_at here ∙ sym (ap connection_at e) ∙ sym (ap (λ (j : ℕ). connection_of es j) (eqb-true d c t))
        limits d false t = ap connection_at (found_apart c d es (with_channel_in l h ch) t)

        channels : (d k : ℕ) (b : Bool) → (d == c) ≡ b → channel_of new d k ≡ (if (d == c) && (k == h) then Some ch else channel_of es d k)
        channels d k true t =
            ap (λ (j : ℕ). channel_of new j k) (eqb-true d c t)
            ∙ ap (λ (o : Option Running). channel_at o k) here
            ∙ set_is l.channels h (Some ch) (within l.channels h old there) k
            ∙ ap (λ (o : Option Open). if k == h then Some ch else o) (sym (ap (λ (o : Option Running). channel_at o k) e) ∙ sym (ap (λ (j : ℕ). channel_of es j k) (eqb-true d c t)))
            ∙ sym (ap (λ (b : Bool). if b && (k == h) then Some ch else channel_of es d k) t)
        channels d k false t =
            ap (λ (o : Option Running). channel_at o k) (found_apart c d es (with_channel_in l h ch) t)
            ∙ sym (ap (λ (b : Bool). if b && (k == h) then Some ch else channel_of es d k) t)

-- what is at a number is put there again
set_there : (xs : List (Option Open)) (i : ℕ) (x : Open) → get_or xs i None ≡ Some x → set xs i (Some x) ≡ xs
set_there [] i x e = absurd (none-some x e)
set_there (y ∷ ys) zero x e = ap (λ (z : Option Open). z ∷ ys) (sym e)
set_there (y ∷ ys) (suc i) x e = ap (λ (zs : List (Option Open)). y ∷ zs) (set_there ys i x e)

-- a channel that comes back as it was leaves all as it was
pub put_same : (es : List (ℕ × Running)) (c h : ℕ) (ch : Open) → channel_of es c h ≡ Some ch → with_channel es c h ch ≡ es
put_same es c h ch is = at (running_in es c) refl is
  where
    at : (o : Option Running) → running_in es c ≡ o → channel_at o h ≡ Some ch → with_channel_at es c h o ch ≡ es
    at None e there = absurd (none-some ch there)
    at (Some l) e there = ap (λ (xs : List (Option Open)). set_value (nat_eq c) es (record l { channels = xs })) (set_there l.channels h ch there) ∙ set_same (nat_eq c) es l e
