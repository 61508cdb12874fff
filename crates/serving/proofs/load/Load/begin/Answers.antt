use Rattle.serving.proofs.Names.{◌≡◌, ◌∙◌, ◌++◌, ◌≤◌, ℕ, zero, suc, List, [], ◌∷◌, length, refl, sym, ap, arith, replicate, slice_index_or, take, drop}
use Rattle.std.proofs.lemmas.List.{take-append-le, take_all}
use Rattle.serving.proofs.load.Load.begin.Goals as goal

zero_at : (n i : ℕ) → ◌≡◌ {A = ℕ} (slice_index_or (replicate n 0 ++ []) i 0) 0
zero_at zero i = refl
zero_at (suc n) zero = refl
zero_at (suc n) (suc i) = zero_at n i

zero_behind : (n : ℕ) (xs : List ℕ) → ((j : ℕ) → n ≤ j → slice_index_or xs j 0 ≡ 0) → (i : ℕ) → ◌≡◌ {A = ℕ} (slice_index_or (replicate n 0 ++ drop n xs) i 0) 0
zero_behind zero xs none i = none i (omega arith)
zero_behind (suc n) [] none i = zero_at (suc n) i
zero_behind (suc n) (x ∷ xs) none zero = refl
zero_behind (suc n) (x ∷ xs) none (suc i) = zero_behind n xs (λ j le. none (suc j) (omega (arith, le))) i

long : (n : ℕ) (xs : List ℕ) → n ≤ length xs → length (replicate {A = ℕ} n 0 ++ drop n xs) ≡ length xs
long zero xs le = refl
long (suc n) [] le = omega (arith, le)
long (suc n) (x ∷ xs) le = ap suc (long n xs (omega (arith, le)))

front : (n : ℕ) (xs ys : List ℕ) → n ≡ length xs → take n (xs ++ ys) ≡ xs
front n xs ys is = take-append-le n xs ys (omega (arith, is)) ∙ take_all n xs (omega (arith, is))

cleared : (len n : ℕ) (new xs rest : List ℕ) → len ≡ length xs → n ≤ length xs → new ≡ replicate n 0 ++ drop n xs → ((j : ℕ) → n ≤ j → slice_index_or xs j 0 ≡ 0) → (i : ℕ) → slice_index_or (take len (new ++ rest)) i 0 ≡ 0
cleared len n new xs rest is le made none i =
    ap (λ (ns : List ℕ). slice_index_or (take len (ns ++ rest)) i 0) made
    ∙ ap (λ (ns : List ℕ). slice_index_or ns i 0) (front len (replicate n 0 ++ drop n xs) rest (is ∙ sym (long n xs le)))
    ∙ zero_behind n xs none i

pub invariant_of-self : goal.invariant_of-self
invariant_of-self c =
    let items = c.as_mut_slice.ensures.value in
    let within = c.self.invariant.within in
    let same = c.self.inside.waiting.ok.0 in
    let len : c.self.inside.waiting.len ≡ length c.as_mut_slice.result.now = same ∙ sym (ap length items) in
    record {
      least = omega arith;
      within = omega arith;
      none = λ i least. cleared c.self.inside.waiting.len c.self.inside.end c.clear.new.numbers c.as_mut_slice.result.now _ len (omega (arith, within, len, same)) c.clear.ensures
          (λ j le. ap (λ (ns : List ℕ). slice_index_or ns j 0) items ∙ c.self.invariant.none j le) i;
    }

pub returns : goal.returns
returns c = λ i. (invariant_of-self c).none i (omega arith)
