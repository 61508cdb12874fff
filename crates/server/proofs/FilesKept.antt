-- What is known of files that are kept stays known, and what their texts are.
use Rattle.server.proofs.Names.{◌≤◌, List, Option, Some, None, length, ◌∙◌, subst, inl, inr, arith, Text, Topology, Guarantee, TooMany, FileRefusal, Known, AreKept, AreKeptBut, PromisesAt, HoldsCertificates, CertifiesAt, IsWhyNone}
use Rattle.model.specs.Certificates.{Certificate}

-- ---- files

-- what is kept by two steps is kept
pub kept_then : (a b c : Text → Known) → AreKept a b → AreKept b c → AreKept a c
kept_then a b c p q name = q name ∙ p name

-- the same but for one file
pub kept_but_then : (file : Text) (a b c : Text → Known) → AreKept a b → AreKeptBut file b c → AreKeptBut file a c
kept_but_then file a b c p q name other = q name other ∙ p name

-- ---- what files state

pub certifies_kept : (a b : Text → Known) (named : Option Text) (cs : List Certificate) → AreKept a b → CertifiesAt b named cs → CertifiesAt a named cs
certifies_kept a b None cs k h = h
certifies_kept a b (Some file) cs k h = subst (λ (x : Known). HoldsCertificates x cs) (k file) h

pub why_kept : (a b : Text → Known) (IsReason : FileRefusal → Known → Type 0) (named : Option Text) (file : Text) (why : FileRefusal) → AreKept a b
    → IsWhyNone b IsReason named file why → IsWhyNone a IsReason named file why
why_kept a b IsReason named file why k h = elim h [ inl p ↦ inl (p.0, subst (λ (x : Known). IsReason why x) (k file) p.1) | inr m ↦ inr m ]

-- ---- guarantees

-- a file has at most 64 guarantees
pub few_promised : (holds : Text → Known) (named : Option Text) (t : Topology) (gs : List Guarantee) → PromisesAt holds named t gs → length gs ≤ 64
few_promised holds None t gs h = rw h (omega arith)
few_promised holds (Some file) t gs h = ((h.2.free TooMany).few gs h.2.is_file).guarantees
