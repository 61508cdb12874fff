-- Entries that are clear of all causes set up a topology that is built.
use Rattle.definitions.proofs.Imports.{◌≡◌, zero, suc, List, [], ◌∷◌, Option, Some, None, Vec, Global, map, subst, arith, All, MatchOption, Topology, User, IsBuildable, KeyHasExchange, Repeated, Absent, Unsupported, Worded, TooMany, NoExchange, OtherHash, Memory, UserEntry, File, HasAllJoin, HasAllWorded, HasFew, HasDistinctNames, HasNamesLead, IsClearBelow, IsPlainQueue, IsSupported, queue_of, topology_of, AreHashed, IsSettled, below_next}
use Rattle.definitions.specs.declared.document.QueueEntry.{QueueEntry}
use Rattle.definitions.proofs.Order.{IsClearOf}

all_map : {A B : Type 0} (P : B → Type 0) (f : A → B) (xs : List A) → All (λ (x : A). P (f x)) xs → All P (map f xs)
all_map P f [] a k d h = absurd (omega (arith, h))
all_map P f (x ∷ xs) a zero d h = a zero x (omega arith)
all_map P f (x ∷ xs) a (suc k) d h = all_map P f xs (λ j e g. a (suc j) e (omega (arith, g))) k d (omega (arith, h))

all_as : {A : Type 0} (P Q : A → Type 0) (xs : List A) → ((x : A) → P x → Q x) → All P xs → All Q xs
all_as P Q xs f a = λ k d h. f _ (a k d h)

pub buildable : (f : File) → IsClearBelow 13 f → IsBuildable (topology_of f)
buildable f c =
    let distinct : HasDistinctNames f = c Repeated (omega arith) in
    let join : HasAllJoin f = c Absent (omega arith) in
    let plain : IsSupported f = c Unsupported (omega arith) in
    let worded : HasAllWorded f = c Worded (omega arith) in
    let few : HasFew f = c TooMany (omega arith) in
    let lead : HasNamesLead f = c NoExchange (omega arith) in
    record {
      distinct = distinct.topology;
      join = join;
      keys = all_map KeyHasExchange queue_of f.queues (all_as IsPlainQueue (λ (q : QueueEntry). KeyHasExchange (queue_of q)) f.queues (λ q p. p.key) plain.queues);
      worded = worded.topology;
      small = few.topology;
      lead = lead;
    }

-- users that are given are those of the entries
pub hashed_some : (P : Type 0) (es : List UserEntry) (o : Option (Vec User Global)) (us : Vec User Global) → MatchOption o P (λ made. AreHashed es made.items) → o ≡ Some us → AreHashed es us.items
hashed_some P es None us m e = absurd (cc)
hashed_some P es (Some vs) us m e = let q : vs ≡ us = cc in subst (λ (z : Vec User Global). AreHashed es z.items) q m

-- what they set up, where no cause stands in them
pub settled : (f : File) (t : Topology) (us : List User) → IsClearBelow 13 f → AreHashed f.users us → t ≡ topology_of f → IsSettled (record { topology = t; users = us }) f
settled f t us c h e = record { clear = below_next (IsClearOf f) Memory (below_next (IsClearOf f) OtherHash c h.hashed) tt; topology = e; users = h.are }
