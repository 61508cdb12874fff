-- A text is cut at its first NUL, and in one way only.
use Rattle.session.proofs.Names.{◌≡◌, ℕ, suc, ◌+◌, ◌<◌, ◌≤◌, List, [], ◌∷◌, ◌++◌, Bool, true, false, cond, not, ltb, length, take, drop, get_or, refl, sym, ap, ◌∙◌, subst, inl, inr, arith, Option, Some, None, position, ◌==◌, true≢false, Bor, MatchOption, is_some, position_or_len, eqb-true, ltb-true, ltb-false, take_all, Text, IsIn, HasNoNul, IsPlain, IsCut}
use Rattle.std.proofs.lemmas.List.Sums.{split_at_first, passes_at_first}

-- the test for NUL
abbrev pub is_nul : ℕ → Bool
is_nul b = b == 0

-- the place of the first NUL, or the length
abbrev pub nul_place : Text → ℕ
nul_place t = position_or_len is_nul t

other_byte : (b : ℕ) → is_nul b ≡ false → b ≡ 0 → ⊥
other_byte b e z = true≢false (subst (λ (n : ℕ). is_nul n ≡ false) z e)

before_at : (b : ℕ) (t : Text) (n : ℕ) (v : Bool) → (v ≡ false → b ≡ 0 → ⊥) → HasNoNul (take n t) → HasNoNul (take (cond (not v) (1 + n) 0) (b ∷ t))
before_at b t n true d ih = λ h. h
before_at b t n false d ih =
    let s : 1 + n ≡ suc n = omega arith in
    rw s (λ h. elim h [ inl e ↦ d refl (sym e) | inr r ↦ ih r ])

-- before the first NUL there is none
no_nul_before : (t : Text) → HasNoNul (take (nul_place t) t)
no_nul_before [] = λ h. h
no_nul_before (b ∷ t) = before_at b t (nul_place t) (is_nul b) (other_byte b) (no_nul_before t)

-- a text with a NUL is cut there
cut_there : (t : Text) → nul_place t < length t → IsCut t (take (nul_place t) t) (drop (nul_place t + 1) t)
cut_there t l = record {
  form =
      split_at_first is_nul t 0 l
      ∙ ap (λ (b : ℕ). take (nul_place t) t ++ b ∷ drop (nul_place t + 1) t) (eqb-true (get_or t (nul_place t) 0) 0 (passes_at_first is_nul t 0 l));
  whole = no_nul_before t;
}

some_at : (b : Bool) (n i : ℕ) → Some i ≡ cond b (Some n) None → n ≡ i
some_at true n i e = cc
some_at false n i e = absurd (cc)

some_within : (b : Bool) (n m i : ℕ) → ltb n m ≡ b → Some i ≡ cond b (Some n) None → n < m
some_within true n m i q e = ltb-true n m q
some_within false n m i q e = absurd (cc)

none_beyond : (b : Bool) (n m : ℕ) → ltb n m ≡ b → None ≡ cond b (Some n) None → m ≤ n
none_beyond true n m q e = absurd (cc)
none_beyond false n m q e = ltb-false n m q

pub cut_at_place : (t : Text) (i : ℕ) → Some i ≡ position is_nul t → IsCut t (take i t) (drop (i + 1) t)
cut_at_place t i e =
    subst (λ (n : ℕ). IsCut t (take n t) (drop (n + 1) t)) (some_at (ltb (nul_place t) (length t)) (nul_place t) i e)
    (cut_there t (some_within (ltb (nul_place t) (length t)) (nul_place t) (length t) i refl e))

pub no_nul : (t : Text) → None ≡ position is_nul t → HasNoNul t
no_nul t e = subst HasNoNul (take_all (nul_place t) t (none_beyond (ltb (nul_place t) (length t)) (nul_place t) (length t) refl e)) (no_nul_before t)

-- ---- one way only

head_is : (a b : ℕ) (s t : Text) → a ∷ s ≡ b ∷ t → a ≡ b
head_is a b s t e = cc

tail_is : (a b : ℕ) (s t : Text) → a ∷ s ≡ b ∷ t → s ≡ t
tail_is a b s t e = cc

-- what stands before the first NUL, and what stands after it
pub record AreSame (front other back more : Text) : Type 0 where
  pub fronts : front ≡ other
  pub backs : back ≡ more

pub one_cut : (front other back more : Text) → HasNoNul front → HasNoNul other → front ++ 0 ∷ back ≡ other ++ 0 ∷ more → AreSame front other back more
one_cut [] [] back more n m e = record { fronts = refl; backs = tail_is 0 0 back more e }
one_cut [] (b ∷ other) back more n m e = absurd (m (inl (head_is 0 b back (other ++ 0 ∷ more) e)))
one_cut (a ∷ front) [] back more n m e = absurd (n (inl (sym (head_is a 0 (front ++ 0 ∷ back) more e))))
one_cut (a ∷ front) (b ∷ other) back more n m e =
    let ih = one_cut front other back more (λ h. n (inr h)) (λ h. m (inr h)) (tail_is a b (front ++ 0 ∷ back) (other ++ 0 ∷ more) e) in
    let h = head_is a b (front ++ 0 ∷ back) (other ++ 0 ∷ more) e in
    let f = ih.fronts in
    record { fronts = cc; backs = ih.backs }

pub nul_stands : (text front back : Text) → IsCut text front back → IsIn 0 text
nul_stands text front back c = subst (λ (t : Text). IsIn 0 t) (sym c.form) (in_middle front back)
  where
    in_middle : (front back : Text) → IsIn 0 (front ++ 0 ∷ back)
    in_middle [] back = inl refl
    in_middle (a ∷ front) back = inr (in_middle front back)

-- ---- responses that are no PLAIN ones

-- the user and the password of a response are those of the cut behind its first NUL
pub parts_are : (response rest front back user password : Text) → response ≡ 0 ∷ rest → IsCut rest front back → IsPlain response user password → AreSame user front password back
parts_are response rest front back user password e c p =
    one_cut user front password back p.user_whole c.whole (tail_is 0 0 (user ++ 0 ∷ password) rest (sym p.form ∙ e) ∙ c.form)

pub no_user : (response rest front back : Text) → response ≡ 0 ∷ rest → IsCut rest front back → length front ≡ 0 → (user password : Text) → IsPlain response user password → ⊥
no_user response rest front back e c z user password p =
    let s : length user ≡ length front = ap (λ (t : Text). length t) (parts_are response rest front back user password e c p).fronts in
    omega (arith, s, z, p.named)

pub nul_in_password : (response rest front back : Text) → response ≡ 0 ∷ rest → IsCut rest front back → IsIn 0 back → (user password : Text) → IsPlain response user password → ⊥
nul_in_password response rest front back e c i user password p =
    p.password_whole (subst (λ (t : Text). IsIn 0 t) (sym (parts_are response rest front back user password e c p).backs) i)

pub no_second_nul : (response rest : Text) → response ≡ 0 ∷ rest → HasNoNul rest → (user password : Text) → IsPlain response user password → ⊥
no_second_nul response rest e n user password p =
    n (nul_stands rest user password (record { form = sym (tail_is 0 0 (user ++ 0 ∷ password) rest (sym p.form ∙ e)); whole = p.user_whole }))

-- a PLAIN response has one user and one password
pub one_plain : (response user password other more : Text) → IsPlain response user password → IsPlain response other more → AreSame user other password more
one_plain response user password other more p q =
    one_cut user other password more p.user_whole q.user_whole (tail_is 0 0 (user ++ 0 ∷ password) (other ++ 0 ∷ more) (sym p.form ∙ q.form))

pub cut_some : (t : Text) (o : Option (Bor (List ℕ) × Bor (List ℕ))) → MatchOption o (HasNoNul t) (λ parts. IsCut t parts.0.now parts.1.now) → is_some o ≡ true → IsIn 0 t
cut_some t None m e = absurd (true≢false (sym e))
cut_some t (Some p) m e = nul_stands t p.0.now p.1.now m
