-- What the statuses of verdicts and of outcomes mean.
use Rattle.server.proofs.Names.{◌≡◌, ℕ, zero, suc, ◌+◌, ◌≤◌, List, [], ◌∷◌, ◌++◌, Bool, true, false, ltb, length, refl, sym, ◌∙◌, subst, inl, inr, Some, None, arith, slice_get, if◌then◌else◌, list_any, Topology, IsIn, Guarantee, Holds, AllHold, IsCertifiedAt, AreCertifiedBelow, AreCertified, FindsVerdict, Verdict, Yes, No, Undecided, EachWith, FindsVerdicts, IsMeant, is_no, is_undecided, status_by, status_of_verdicts, Outcome, ReturnsOutcome, AreOutcomes, of_too_many, is_fault, status_of_outcomes}
use Rattle.std.proofs.Common.{Ok, Err}
use Rattle.std.proofs.lemmas.Bool.{ltb-false}
use Rattle.model.specs.Certificates.{Certificate}
use Rattle.certificate_laws.proofs.Certificates.{certificate_sound}
use Rattle.certificate_laws.proofs.Refutations.{refutation_sound}
use Rattle.certificate_laws.proofs.Trackings.{contained}
use Rattle.certificate.proofs.Certifying.{certified_all, certified_hold}
use Rattle.certificate.specs.declared.faults.CertFault.TheVariants.{Form}
use Rattle.topology_drafts.proofs.Members.{contains_in}

-- ---- verdicts

all_yes : (t : Topology) (n : ℕ) (gs : List Guarantee) (vs : List Verdict) → EachWith (λ (place : ℕ) (g : Guarantee) (v : Verdict). FindsVerdict t g v) n gs vs
    → list_any is_no vs ≡ false → list_any is_undecided vs ≡ false → (g : Guarantee) → IsIn g gs → Holds t g
all_yes t n [] vs f a b g i = absurd i
all_yes t n (h ∷ gs) [] f a b g i = absurd f
all_yes t n (h ∷ gs) (Yes c ∷ vs) f a b g (inl e) = subst (λ (z : Guarantee). Holds t z) (sym e) (certificate_sound t h c f.0)
all_yes t n (h ∷ gs) (Yes c ∷ vs) f a b g (inr i) = all_yes t (n + 1) gs vs f.1 a b g i
all_yes t n (h ∷ gs) (No r ∷ vs) f a b g i = absurd (cc)
all_yes t n (h ∷ gs) (Undecided why ∷ vs) f a b g i = absurd (cc)

some_no : (t : Topology) (n : ℕ) (gs : List Guarantee) (vs : List Verdict) → EachWith (λ (place : ℕ) (g : Guarantee) (v : Verdict). FindsVerdict t g v) n gs vs
    → list_any is_no vs ≡ true → (g : Guarantee) × IsIn g gs × (Holds t g → ⊥)
some_no t n [] [] f a = absurd (cc)
some_no t n [] (v ∷ vs) f a = absurd f
some_no t n (h ∷ gs) [] f a = absurd f
some_no t n (h ∷ gs) (Yes c ∷ vs) f a = let s = some_no t (n + 1) gs vs f.1 a in (s.0, inr s.1, s.2)
some_no t n (h ∷ gs) (No r ∷ vs) f a = (h, inl refl, refutation_sound t h r f.0)
some_no t n (h ∷ gs) (Undecided why ∷ vs) f a = let s = some_no t (n + 1) gs vs f.1 a in (s.0, inr s.1, s.2)

is_zero : (a b : Bool) → status_by a b ≡ 0 → (a ≡ false) × (b ≡ false)
is_zero true b e = absurd (cc)
is_zero false true e = absurd (cc)
is_zero false false e = (refl, refl)

is_one : (a b : Bool) → status_by a b ≡ 1 → a ≡ true
is_one true b e = refl
is_one false true e = absurd (cc)
is_one false false e = absurd (cc)

pub verdicts_mean : (t : Topology) (gs : List Guarantee) (vs : List Verdict) (status : ℕ) → FindsVerdicts t gs vs → status ≡ status_of_verdicts vs → IsMeant t gs status
verdicts_mean t gs vs status f e = record {
  hold = λ z g c. (let both = is_zero (list_any is_no vs) (list_any is_undecided vs) (sym e ∙ z) in all_yes t 0 gs vs f both.0 both.1 g (contained gs g c));
  fails = λ z. (let s = some_no t 0 gs vs f (is_one (list_any is_no vs) (list_any is_undecided vs) (sym e ∙ z)) in (s.0, contains_in gs s.0 s.1, s.2));
}

-- ---- outcomes

any_left : (xs ys : List Outcome) → list_any is_fault (xs ++ ys) ≡ false → list_any is_fault xs ≡ false
any_left [] ys e = refl
any_left (Ok u ∷ xs) ys e = any_left xs ys e
any_left (Err f ∷ xs) ys e = absurd (cc)

any_right : (xs ys : List Outcome) → list_any is_fault (xs ++ ys) ≡ false → list_any is_fault ys ≡ false
any_right [] ys e = e
any_right (Ok u ∷ xs) ys e = any_right xs ys e
any_right (Err f ∷ xs) ys e = absurd (cc)

fewer : (gs : List Guarantee) (cs : List Certificate) (b : Bool) → ltb (length gs) (length cs) ≡ b → list_any is_fault (if b then Err Form ∷ [] else []) ≡ false → length cs ≤ length gs
fewer gs cs true q h = absurd (cc)
fewer gs cs false q h = let k = ltb-false (length gs) (length cs) q in omega (arith, k)

none_too_many : (gs : List Guarantee) (cs : List Certificate) → list_any is_fault (of_too_many gs cs) ≡ false → length cs ≤ length gs
none_too_many gs cs e = fewer gs cs (ltb (length gs) (length cs)) refl e

all_accepted : (t : Topology) (cs : List Certificate) (n : ℕ) (gs : List Guarantee) (os : List Outcome) → EachWith (ReturnsOutcome t cs) n gs os → list_any is_fault os ≡ false
    → (i : ℕ) (g : Guarantee) → slice_get gs i ≡ Some g → IsCertifiedAt t g cs (n + i)
all_accepted t cs n [] os f a i g s = let z : None ≡ Some g = s in absurd (cc)
all_accepted t cs n (h ∷ gs) [] f a i g s = absurd f
all_accepted t cs n (h ∷ gs) (Err e ∷ os) f a i g s = absurd (cc)
all_accepted t cs n (h ∷ gs) (Ok u ∷ os) f a zero g s =
    let same : h ≡ g = (let z : Some h ≡ Some g = s in cc) in
    let here : n ≡ n + zero = omega arith in
    subst (λ (k : ℕ). IsCertifiedAt t g cs k) here (subst (λ (z : Guarantee). IsCertifiedAt t z cs n) same f.0.0)
all_accepted t cs n (h ∷ gs) (Ok u ∷ os) f a (suc i) g s =
    let there : (n + 1) + i ≡ n + suc i = omega arith in
    subst (λ (k : ℕ). IsCertifiedAt t g cs k) there (all_accepted t cs (n + 1) gs os f.1 a i g s)

-- the status by whether some certificate has a fault
abbrev status_if : Bool → ℕ
status_if a = if a then 1 else 0

is_clear : (a : Bool) → status_if a ≡ 0 → a ≡ false
is_clear true e = absurd (cc)
is_clear false e = refl

outcomes_certify : (t : Topology) (gs : List Guarantee) (cs : List Certificate) (os : List Outcome) → AreOutcomes t gs cs os → list_any is_fault os ≡ false → AreCertified t gs cs
outcomes_certify t gs cs os o a =
    let whole : list_any is_fault (o.own ++ of_too_many gs cs) ≡ false = subst (λ (z : List Outcome). list_any is_fault z ≡ false) o.all a in
    let few : length cs ≤ length gs = none_too_many gs cs (any_right o.own (of_too_many gs cs) whole) in
    let below : AreCertifiedBelow t gs cs (length gs) = λ i g l s. (let none : 0 + i ≡ i = omega arith in subst (λ (k : ℕ). IsCertifiedAt t g cs k) none (all_accepted t cs 0 gs o.own o.each (any_left o.own (of_too_many gs cs) whole) i g s)) in
    certified_all t gs cs (length gs) (omega arith) few below

pub outcomes_mean : (t : Topology) (gs : List Guarantee) (cs : List Certificate) (os : List Outcome) (status : ℕ) → AreOutcomes t gs cs os → status ≡ status_of_outcomes os
    → status ≡ 0 → AreCertified t gs cs × AllHold t gs
outcomes_mean t gs cs os status o e z =
    let c = outcomes_certify t gs cs os o (is_clear (list_any is_fault os) (sym e ∙ z)) in
    (c, certified_hold t gs cs c)
