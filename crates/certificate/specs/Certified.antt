-- Admission by certificates, one for each guarantee (own).
use Rattle.std.specs.Prelude.{◌≡◌, ◌<◌, ◌⊎◌, ℕ, List, Bool, true, false, length, slice_get, Option, Some, None, Result, Ok, Err}
use Rattle.std.specs.List.{list_any}
use Rattle.model.specs.Topology.{Topology}
use Rattle.model.specs.declared.topologies.Mode.{Mode}
use Rattle.model.specs.declared.topologies.Mode.TheVariants.{Reaches, Never}
use Rattle.model.specs.Guarantee.{Guarantee, AllHold}
use Rattle.model.specs.Certificates.{Certificate, Accepts}
use Rattle.paths.specs.Deaths.{AreDeaths}
use Rattle.paths.specs.declared.visits.Visit.{Visit}
use Rattle.certificate.specs.Checks.{Faults}
use Rattle.certificate.specs.declared.faults.CertFault.{CertFault}
use Rattle.certificate.specs.declared.faults.CertFault.TheVariants.{Form}
use Rattle.certificate.specs.Admitted.{Admitted}

-- the certificate at index `place` is accepted for guarantee `g`
pub record IsCertifiedAt (t : Topology) (g : Guarantee) (cs : List Certificate) (place : ℕ) : Type 0 where
  pub certificate : Certificate
  pub is : slice_get cs place ≡ Some certificate
  pub accepted : Accepts t g certificate

-- the certificate at index `place` has fault `f`
pub record HasFault (t : Topology) (g : Guarantee) (cs : List Certificate) (place : ℕ) (f : CertFault) : Type 0 where
  pub certificate : Certificate
  pub is : slice_get cs place ≡ Some certificate
  pub fault : Faults t g certificate f

-- guarantee `g` has no accepted certificate at index `place`: there is none, and `f` is `Form`; or the one there has fault `f`
abbrev pub IsUncertified : Topology → Guarantee → List Certificate → ℕ → CertFault → Type 0
IsUncertified t g cs place f = ((slice_get cs place ≡ None) × (f ≡ Form)) ⊎ HasFault t g cs place f

-- the result of checking the certificate at index `place`: it is accepted for the guarantee, or why it isn't
abbrev pub ChecksAt : Topology → Guarantee → List Certificate → ℕ → Result Unit CertFault → Type 0
ChecksAt t g cs place (Ok u) = IsCertifiedAt t g cs place
ChecksAt t g cs place (Err f) = IsUncertified t g cs place f

-- each guarantee before index `n` has an accepted certificate
abbrev pub AreCertifiedBelow : Topology → List Guarantee → List Certificate → ℕ → Type 0
AreCertifiedBelow t gs cs n = (i : ℕ) (g : Guarantee) → i < n → slice_get gs i ≡ Some g → IsCertifiedAt t g cs i

-- each guarantee has an accepted certificate, and no certificate is left over
pub record AreCertified (t : Topology) (gs : List Guarantee) (cs : List Certificate) : Type 0 where
  pub count : length gs ≡ length cs
  pub all : (i : ℕ) (g : Guarantee) → slice_get gs i ≡ Some g → IsCertifiedAt t g cs i

-- the guarantee at index `place` has no accepted certificate, and `f` is the fault
pub record FailsAt (t : Topology) (gs : List Guarantee) (cs : List Certificate) (place : ℕ) (f : CertFault) : Type 0 where
  pub guarantee : Guarantee
  pub is : slice_get gs place ≡ Some guarantee
  pub fault : IsUncertified t guarantee cs place f

-- there are more certificates than guarantees, and `place` is the index of the first one left over
pub record IsOneTooMany (gs : List Guarantee) (cs : List Certificate) (place : ℕ) (f : CertFault) : Type 0 where
  pub place_is : place ≡ length gs
  pub more : length gs < length cs
  pub fault : f ≡ Form

-- `place` is the least index at fault. `Memory` occurs only for a certificate that fits its guarantee.
pub record FailsFirst (t : Topology) (gs : List Guarantee) (cs : List Certificate) (place : ℕ) (f : CertFault) : Type 0 where
  pub before : AreCertifiedBelow t gs cs place
  pub fails : FailsAt t gs cs place f ⊎ IsOneTooMany gs cs place f

-- each guarantee has an accepted certificate and none is left over; or the error is the least index at fault, and its fault
abbrev pub Certifies : Topology → List Guarantee → List Certificate → Result Unit (ℕ × CertFault) → Type 0
Certifies t gs cs (Ok u) = AreCertified t gs cs
Certifies t gs cs (Err e) = FailsFirst t gs cs e.0 e.1

-- topology and guarantees are admitted as they are, and the guarantees hold; or they are refused at the least index at fault
abbrev pub Admits : Topology → List Guarantee → List Certificate → Result Admitted (ℕ × CertFault) → Type 0
Admits t gs cs (Ok k) = (k ≡ record { topology = t; guarantees = gs }) × AllHold t gs × AreCertified t gs cs
Admits t gs cs (Err e) = FailsFirst t gs cs e.0 e.1

-- the mode is `never`
abbrev pub is_never : Mode → Bool
is_never Reaches = false
is_never Never = true

-- `Some`: what dead letters of the topology's queues reach; `None`: none of the guarantees is a `never`
abbrev pub ExploresFor : Topology → List Guarantee → Option (List (Option (List Visit))) → Type 0
ExploresFor t gs (Some deaths) = AreDeaths t deaths
ExploresFor t gs None = list_any (λ (g : Guarantee). is_never g.mode) gs ≡ false
