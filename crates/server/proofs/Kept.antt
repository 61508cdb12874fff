-- What is known of files that are kept stays known.
use Rattle.server.proofs.Names.{◌≡◌, ◌≤◌, ℕ, List, [], Option, Some, None, length, sym, subst, inl, inr, arith, slice_get_within, Text, Topology, Guarantee, FailsFirst, Verdict, CommandRefusal, Line, Refused, TooLong, Unread, NoDescriptor, Unwritten, NoExchange, NotListening, Adds, Draft, Wanted, Known, AreKept, SetsUp, FailsToSetUp, FailsToCertify, IsWhyUncertified, JudgesAll, FileRefusal, of_refused, IsOfFile, Drafts, IsJudgedUnfiled, IsNotAnswered, FilesAreLeft, IsUnfiled, IsFiled, WritesOut, unnamed, doubtful, filed}
use Rattle.std.proofs.Math.Path.{fun_ext}
use Rattle.model.specs.Certificates.{Certificate}
use Rattle.certificate.specs.declared.faults.CertFault.{CertFault}
use Rattle.definitions.specs.Reads.{Stated}
use Rattle.server.specs.declared.refusals.CommandRefusal.TheVariants.{Certificate as OfCertificate, Memory}
use Rattle.server.proofs.FilesKept.{kept_then, kept_but_then, why_kept}
use Rattle.server.specs.Program.{wanting}

-- ---- files

-- where all files are kept, they are left so for any reason
pub left_of_kept : (before after : Text → Known) (file : Text) (why : CommandRefusal) → AreKept before after → FilesAreLeft before after file why
left_of_kept before after file (Line n) h = h
left_of_kept before after file (Refused n) h = h
left_of_kept before after file TooLong h = h
left_of_kept before after file Unread h = h
left_of_kept before after file NoDescriptor h = h
left_of_kept before after file Unwritten h = λ name other. h name
left_of_kept before after file NoExchange h = h
left_of_kept before after file (OfCertificate n fault) h = h
left_of_kept before after file NotListening h = h
left_of_kept before after file Memory h = h

-- the refusal of a file, as the command reports it
pub refused_as : (IsRefused : Text → FileRefusal → Type 0) (file reported : Text) (cause : FileRefusal) (why : CommandRefusal)
    → reported ≡ file → why ≡ of_refused cause → IsRefused file cause → IsOfFile IsRefused reported why
refused_as IsRefused file reported cause why same is h = (cause, is, subst (λ (name : Text). IsRefused name cause) (sym same) h)

-- the same of a certificates file, which is read after files that were kept
pub refused_uncertified : (a b : Text → Known) (named : Option Text) (file reported : Text) (cause : FileRefusal) (why : CommandRefusal) → AreKept a b
    → reported ≡ file → why ≡ of_refused cause → FailsToCertify b named file cause → IsOfFile (FailsToCertify a named) reported why
refused_uncertified a b named file reported cause why k same is h = refused_as (FailsToCertify a named) file reported cause why same is (why_kept a b IsWhyUncertified named file cause k h)

-- what is known of files that are kept is the same
pub same_known : (a b : Text → Known) → AreKept a b → b ≡ a
same_known a b k = fun_ext k

-- ---- guarantees

-- the least place at fault is that of a guarantee, or behind the last
pub place_few : (t : Topology) (gs : List Guarantee) (cs : List Certificate) (place : ℕ) (fault : CertFault) → FailsFirst t gs cs place fault → place ≤ length gs
place_few t gs cs place fault h = elim h.fails [
  | inl a ↦ (let w = slice_get_within gs place a.guarantee a.is in omega (arith, w))
  | inr b ↦ omega (arith, b.place_is)
]

-- ---- certificates that are written

pub filed_then : (a b c : Text → Known) (file : Text) (cs : List Certificate) → AreKept a b → IsFiled b c file cs → IsFiled a c file cs
filed_then a b c file cs k h = record { text = h.text; has = h.has; read_back = h.read_back; others = kept_but_then file a b c k h.others }

pub writes_then : (a b c : Text → Known) (out : Option Text) (vs : List Verdict) → AreKept a b → WritesOut b c out vs → WritesOut a c out vs
writes_then a b c out vs k (unnamed h) = unnamed (kept_then a b c k h)
writes_then a b c out vs k (doubtful n h) = doubtful n (kept_then a b c k h)
writes_then a b c out vs k (filed z h) = filed z (filed_then a b c _ _ k h)

unfiled_then : (a b c : Text → Known) (file : Text) (why : CommandRefusal) → AreKept a b → IsUnfiled b c file why → IsUnfiled a c file why
unfiled_then a b c file (Line n) k h = absurd h.0
unfiled_then a b c file (Refused n) k h = absurd h.0
unfiled_then a b c file TooLong k h = absurd h.0
unfiled_then a b c file Unread k h = absurd h.0
unfiled_then a b c file NoDescriptor k h = absurd h.0
unfiled_then a b c file Unwritten k h = (h.0, kept_but_then file a b c k h.1)
unfiled_then a b c file NoExchange k h = absurd h.0
unfiled_then a b c file (OfCertificate n fault) k h = absurd h.0
unfiled_then a b c file NotListening k h = absurd h.0
unfiled_then a b c file Memory k h = (h.0, kept_then a b c k h.1)

-- all guarantees hold, and their certificates are not written
pub unfiled : (a b c : Text → Known) (definitions guarantees : Text) (out : Option Text) (file text : Text) (why : CommandRefusal) (status : ℕ) (stated : Stated) (gs : List Guarantee) (vs : List Verdict)
    → SetsUp a (Some definitions) (Some guarantees) stated gs → JudgesAll stated.topology gs vs text status → out ≡ Some file → status ≡ 0
    → AreKept a b → IsUnfiled b c file why → (out ≡ Some file) × IsJudgedUnfiled a c definitions guarantees file text why
unfiled a b c d g out file text why status stated gs vs s j o z k h = (
  o,
  record {
    stated = stated;
    promised = gs;
    set_up = s;
    verdicts = vs;
    judged = subst (λ (n : ℕ). JudgesAll stated.topology gs vs text n) z j;
    unfiled = unfiled_then a b c file why k h;
  },
)

-- the draft of a named file, with what was added
pub drafted : (out : Option Text) (before after : Option Draft) (cs : List Certificate) → Drafts out before [] → Adds before after cs → Drafts out after cs
drafted None before after cs d a = tt
drafted (Some file) None after cs d a = absurd d
drafted (Some file) (Some e) None cs d a = absurd a
drafted (Some file) (Some e) (Some f) cs d a = a [] d

-- memory was wanting
pub wants : (a b : Text → Known) (wanted : Wanted) (file : Text) (why : CommandRefusal) → why ≡ Memory → AreKept a b → IsNotAnswered a b wanted file why
wants a b wanted file why e k = (rw e wanting, left_of_kept a b file why k)
