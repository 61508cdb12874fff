-- What a refutation has to show.
use Rattle.certificate.proofs.Names.{◌≡◌, ◌<◌, ℕ, zero, suc, Bool, List, [], ◌∷◌, length, sym, subst, arith, get_or, Fits, w8, leb, leb-true, le-leb, Text, Decides, AllByRecursion, Topology, Guarantee, CoversKey, Mode, Never}
use Rattle.model.specs.Refutations.{Refutation, Breaks, Refutes}
use Rattle.paths.specs.Keyed.{IsPath}
use Rattle.certificate.specs.Disproved.{IsSendable, MayRefute}

-- ---- keys that can be sent

pub bytes_of : (key : Text) → ((k : ℕ) → Fits w8 (get_or key k 0)) → AllByRecursion (λ b. b < 256) key
bytes_of [] f = tt
bytes_of (b ∷ bs) f = ((let q = f zero in omega (arith, q)), bytes_of bs (λ k. f (suc k)))

pub sendable : (key : Text) → AllByRecursion (λ b. b < 256) key → Decides (leb (length key) 255) (IsSendable key)
sendable key bytes = (λ e. (bytes, leb-true (length key) 255 e), λ s. le-leb (length key) 255 s.1)

-- ---- what breaks the promise

pub broken_never : (t : Topology) (g : Guarantee) (r : Refutation) (yes' : Bool) → g.mode ≡ Never → Decides yes' (IsPath t g.exchange r.key g.queue r.path) → Decides yes' (Breaks g.mode t g.exchange g.queue r)
broken_never t g r yes' m d = subst (λ (z : Mode). Decides yes' (Breaks z t g.exchange g.queue r)) (sym m) d

-- ---- what refutes

pub refuted : (t : Topology) (g : Guarantee) (r : Refutation) (yes' : Bool) → MayRefute g r → CoversKey g r.key → Decides yes' (Breaks g.mode t g.exchange g.queue r) → Decides yes' (Refutes t g r)
refuted t g r yes' may covered d = (
  λ h. record { bytes = may.key.0; short = may.key.1; covered = covered; breaks = d.0 h },
  λ s. d.1 s.breaks,
)

-- the path that is looked at is the refutation's
pub its_own : (t : Topology) (g : Guarantee) (r : Refutation) (yes' : Bool) (x k q : Text) (p : List Text) → x ≡ g.exchange → k ≡ r.key → q ≡ g.queue → p ≡ r.path → Decides yes' (IsPath t x k q p)
    → Decides yes' (IsPath t g.exchange r.key g.queue r.path)
its_own t g r yes' x k q p a b c d h =
    subst (λ (z : Text). Decides yes' (IsPath t z r.key g.queue r.path)) a
    (subst (λ (z : Text). Decides yes' (IsPath t x z g.queue r.path)) b
    (subst (λ (z : Text). Decides yes' (IsPath t x k z r.path)) c
    (subst (λ (z : List Text). Decides yes' (IsPath t x k q z)) d h)))
