-- A socket whose voice changes stays in the set of its voice.
use Rattle.std.proofs.Common.{◌≡◌, ◌<◌, ◌∙◌, ◌⊎◌, inl, inr, arith, not, ℕ, zero, suc, List, Bool, true, false, cond, length, replicate, refl, sym, ap}
use Rattle.std.specs.Prelude.{slice_set}
use Rattle.std.proofs.lemmas.Bool.{cases_eq, false≢true}
use Rattle.std.proofs.lemmas.List.{get_or-set_same, get_or-set_other}
use Rattle.marks.specs.Sets.{Differs, bit_of}
use Rattle.turns.specs.Turns.{HasAll, HasMore, IsDue, voice_at}
use Rattle.turns.specs.Voices.{is_asked, is_greedy, is_stranger, is_content}
use Rattle.turns.specs.declared.voices.Voice.{Voice}
use Rattle.turns.specs.declared.voices.Voice.TheVariants as voice

-- the set of the voices that pass the test, after the socket at index `i` got voice `v`
pub has_all_after : (old new : List ℕ) (test : Voice → Bool) (voices : List Voice) (i : ℕ) (v : Voice) (is_in : Bool)
    → i < length voices → is_in ≡ test v → Differs (bit_of old) (bit_of new) i (cond is_in 1 0) → HasAll old test voices → HasAll new test (slice_set voices i v)
has_all_after old new test voices i v is_in lt is put all = λ k e. go k (cases_eq k i) e
  where
    go : (k : ℕ) → (k ≡ i) ⊎ (k ≡ i → ⊥) → test (voice_at (slice_set voices i v) k) ≡ true → bit_of new k ≡ 1
    go k (inl same) e =
        let here : voice_at (slice_set voices i v) k ≡ v = ap (voice_at (slice_set voices i v)) same ∙ get_or-set_same voices i v voice.Gone lt in
        let yes : is_in ≡ true = is ∙ ap test (sym here) ∙ e in
        ap (bit_of new) same ∙ put.there ∙ ap (λ (b : Bool). cond b 1 0) yes
    go k (inr other) e = put.others k other ∙ all k (ap test (sym (get_or-set_other voices i k v voice.Gone other)) ∙ e)

gone_at : (n i : ℕ) → voice_at (replicate n voice.Gone) i ≡ voice.Gone
gone_at zero i = refl
gone_at (suc n) zero = refl
gone_at (suc n) (suc i) = gone_at n i

-- where no socket came any set will do
pub has_none : (set : List ℕ) (test : Voice → Bool) (voices : List Voice) (n : ℕ) → voices ≡ replicate n voice.Gone → test voice.Gone ≡ false → HasAll set test voices
has_none set test voices n is none = λ i e. absurd (false≢true (sym none ∙ sym (ap test (ap (λ (vs : List Voice). voice_at vs i) is ∙ gone_at n i)) ∙ e))

-- no socket is due at an index that is in neither set
pub none_due : (speaking picked : List ℕ) (voices : List Voice) (i : ℕ) → HasAll speaking is_asked voices
    → (bit_of speaking i ≡ 1 → ⊥) → (bit_of picked i ≡ 1 → ⊥) → IsDue (record { voices = voices; picked = picked }) i → ⊥
none_due speaking picked voices i all silent passed (inl asked) = silent (all i asked)
none_due speaking picked voices i all silent passed (inr has) = passed has

none_of : (set : List ℕ) (test : Voice → Bool) (voices : List Voice) (i : ℕ) → HasAll set test voices → ((k : ℕ) → bit_of set k ≡ 0) → test (voice_at voices i) ≡ true → ⊥
none_of set test voices i all empty e = let one = all i e in let zero = empty i in omega (arith, one, zero)

-- no socket has more where the three sets are empty
pub none_has_more : (greedy strangers contents : List ℕ) (voices : List Voice) (i : ℕ)
    → HasAll greedy is_greedy voices → HasAll strangers is_stranger voices → HasAll contents is_content voices
    → ((k : ℕ) → bit_of greedy k ≡ 0) → ((k : ℕ) → bit_of strangers k ≡ 0) → ((k : ℕ) → bit_of contents k ≡ 0) → HasMore (voice_at voices i) → ⊥
none_has_more greedy strangers contents voices i g s c no_g no_s no_c (inl e) = none_of greedy is_greedy voices i g no_g e
none_has_more greedy strangers contents voices i g s c no_g no_s no_c (inr (inl e)) = none_of strangers is_stranger voices i s no_s e
none_has_more greedy strangers contents voices i g s c no_g no_s no_c (inr (inr e)) = none_of contents is_content voices i c no_c e

pub not_false : (b : Bool) → not b ≡ false → b ≡ true
not_false true e = refl
not_false false e = absurd (false≢true (sym e))
