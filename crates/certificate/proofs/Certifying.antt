-- Guarantees with a certificate each hold.
use Rattle.certificate.proofs.Names.{◌≡◌, ◌⊎◌, ℕ, zero, suc, ◌+◌, ◌<◌, ◌≤◌, List, [], ◌∷◌, length, refl, sym, ap, subst, inl, inr, Some, None, Result, Ok, Err, arith, get_or, slice_get_within, Topology, IsIn, Guarantee, AllHold, Certificate, contained, Checks, CertFault, IsCertifiedAt, IsUncertified, ChecksAt, AreCertifiedBelow, AreCertified, FailsFirst}
use Rattle.std.specs.Prelude.{slice_get}
use Rattle.certificate_laws.proofs.Certificates.{certificate_sound}

place_in : (gs : List Guarantee) (g : Guarantee) → IsIn g gs → (n : ℕ) × (slice_get gs n ≡ Some g)
place_in [] g i = absurd i
place_in (h ∷ hs) g (inl e) = (zero, (let f : h ≡ g = sym e in cc))
place_in (h ∷ hs) g (inr i) = let r = place_in hs g i in (suc r.0, r.1)

pub certified_hold : (t : Topology) (gs : List Guarantee) (cs : List Certificate) → AreCertified t gs cs → AllHold t gs
certified_hold t gs cs a g c =
    let i = place_in gs g (contained gs g c) in
    let k = a.all i.0 g i.1 in
    certificate_sound t g k.certificate k.accepted

found_there : {A : Type 0} (xs : List A) (i : ℕ) (h : A) → i < length xs → h ≡ get_or xs i h → slice_get xs i ≡ Some h
found_there [] i h l e = absurd (omega (arith, l))
found_there {A} (x ∷ xs) zero h l e = ap (λ (z : A). Some z) (sym e)
found_there (x ∷ xs) (suc i) h l e = found_there xs i h (let k : suc i < suc (length xs) = l in omega (arith, k)) e

pub checked_at : (t : Topology) (g : Guarantee) (cs : List Certificate) (place : ℕ) (c : Certificate) (res : Result Unit CertFault) → place < length cs → c ≡ get_or cs place c → Checks t g c res → ChecksAt t g cs place res
checked_at t g cs place c (Ok u) l e k = record { certificate = c; is = found_there cs place c l e; accepted = k }
checked_at t g cs place c (Err f) l e k = inr (record { certificate = c; is = found_there cs place c l e; fault = k })

same_there : (gs : List Guarantee) (i : ℕ) (g h : Guarantee) → h ≡ get_or gs i h → slice_get gs i ≡ Some g → h ≡ g
same_there [] i g h e s = let n : None ≡ Some g = s in cc
same_there (x ∷ xs) zero g h e s = let n : Some x ≡ Some g = s in cc
same_there (x ∷ xs) (suc i) g h e s = same_there xs i g h e s

below_or : (i n : ℕ) → (i < n) ⊎ (n ≤ i)
below_or i zero = inr (omega arith)
below_or zero (suc n) = inl (omega arith)
below_or (suc i) (suc n) = elim (below_or i n) [ inl h ↦ inl (omega arith) | inr h ↦ inr (omega arith) ]

pub one_certified : (t : Topology) (gs : List Guarantee) (cs : List Certificate) (place : ℕ) (h : Guarantee) → h ≡ get_or gs place h → AreCertifiedBelow t gs cs place → IsCertifiedAt t h cs place → AreCertifiedBelow t gs cs (place + 1)
one_certified t gs cs place h e b c i g l s = elim (below_or i place) [
  | inl k ↦ b i g k s
  | inr k ↦
      let same : i ≡ place = omega arith in
      let is : h ≡ g = same_there gs place g h e (subst (λ (n : ℕ). slice_get gs n ≡ Some g) same s) in
      subst (λ (n : ℕ). IsCertifiedAt t g cs n) (sym same) (subst (λ (z : Guarantee). IsCertifiedAt t z cs place) is c)
]

pub refused_at : (t : Topology) (gs : List Guarantee) (cs : List Certificate) (place : ℕ) (h : Guarantee) (f : CertFault) → place < length gs → h ≡ get_or gs place h → AreCertifiedBelow t gs cs place → IsUncertified t h cs place f → FailsFirst t gs cs place f
refused_at t gs cs place h f l e b u = record { before = b; fails = inl (record { guarantee = h; is = found_there gs place h l e; fault = u }) }

pub certified_all : (t : Topology) (gs : List Guarantee) (cs : List Certificate) (place : ℕ) → length gs ≤ place → length cs ≤ length gs → AreCertifiedBelow t gs cs place → AreCertified t gs cs
certified_all t gs cs place l m b = record {
  count = counted gs cs m (λ i g s. (let k = b i g (let w = slice_get_within gs i g s in omega (arith, w, l)) s in slice_get_within cs i k.certificate k.is));
  all = λ i g s. b i g (let w = slice_get_within gs i g s in omega (arith, w, l)) s;
}
  where
    last : (gs : List Guarantee) → 0 < length gs → (g : Guarantee) × (n : ℕ) × (slice_get gs n ≡ Some g) × (suc n ≡ length gs)
    last [] h = absurd (omega (arith, h))
    last (g ∷ []) h = (g, zero, refl, refl)
    last (g ∷ x ∷ xs) h = let r = last (x ∷ xs) (omega arith) in (r.0, suc r.1, r.2, (let k = r.3 in omega (arith, k)))

    counted : (gs : List Guarantee) (cs : List Certificate) → length cs ≤ length gs → ((i : ℕ) (g : Guarantee) → slice_get gs i ≡ Some g → i < length cs) → length gs ≡ length cs
    counted [] cs m f = omega (arith, m)
    counted (g ∷ gs) cs m f = let r = last (g ∷ gs) (omega arith) in let w = f r.1 r.0 r.2 in let k = r.3 in omega (arith, m, w, k)
