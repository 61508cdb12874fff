-- A queue that is not there has no entries, and nothing that is done to it changes any other.
use Rattle.depot.proofs.Names.{◌≡◌, List, [], ◌∷◌, ◌++◌, refl, sym, ap, subst, ◌∙◌, Bool, true, false, cond, None, inl, inr, filter, bytes_eq, append-nil, bytes_eq-Decides, Text, Topology, queue_names, IsIn, listed, is_ready, with_queue, ready_in, purge_notes, Entry, Note, Store, entries_named, IsTakenFrom, ReturnsArrival, given_so, given_notes, IsPurgedBy}
use Rattle.std.proofs.Common.{find, not}
use Rattle.depot.specs.declared.givings.Giving.{Giving}
use Rattle.depot.specs.declared.givings.Giving.TheVariants.{Held, Out}

-- no name but those that are there has entries
listed_absent : (names : List Text) (lists : List (List Entry)) (q : Text) → (IsIn q names → ⊥) → listed names lists q ≡ []
listed_absent [] lists q absent = refl
listed_absent (n ∷ ns) [] q absent = refl
listed_absent (n ∷ ns) (es ∷ ess) q absent = go (bytes_eq n q) refl (listed_absent ns ess q (λ i. absent (inr i)))
  where
    go : (b : Bool) → bytes_eq n q ≡ b → listed ns ess q ≡ [] → cond b es (listed ns ess q) ≡ []
    go true is rest = absurd (absent (inl (sym ((bytes_eq-Decides n q).0 is))))
    go false is rest = rest

-- the topology that was asked is the store's
pub absent : (s : Store) (t : Topology) (name : Text) → t ≡ s.topology → (IsIn name (queue_names t.queues) → ⊥) → entries_named s name ≡ []
absent s t name same gone = listed_absent (queue_names s.topology.queues) s.queues name (λ i. gone (subst (λ (u : Topology). IsIn name (queue_names u.queues)) (sym same) i))

-- what has none of that name stays as it is
stays : (s : Store) (name q : Text) → entries_named s name ≡ [] → entries_named s q ≡ with_queue (entries_named s) name [] q
stays s name q none = go (bytes_eq name q) refl
  where
    go : (b : Bool) → bytes_eq name q ≡ b → entries_named s q ≡ cond b [] (entries_named s q)
    go true is = ap (λ (n : Text). entries_named s n) (sym ((bytes_eq-Decides name q).0 is)) ∙ none
    go false is = refl

left_of_none : (how : Giving) → given_so how [] ≡ []
left_of_none (Held holder) = refl
left_of_none (Out queue) = refl

-- nothing is given out there
pub taken_absent : (s : Store) (name : Text) (how : Giving) → entries_named s name ≡ [] → IsTakenFrom s name how s
taken_absent s name how none = record {
  queues = λ q. stays s name q none ∙ ap (λ (es : List Entry). with_queue (entries_named s) name es q) (sym (ap (given_so how) none ∙ left_of_none how));
  counted = refl;
  topology = refl;
}

-- nothing is told of it, and nothing noted
tells_none : (how : Giving) → ReturnsArrival how None None
tells_none (Held holder) = refl
tells_none (Out queue) = refl

pub told_absent : (s : Store) (name : Text) (how : Giving) → entries_named s name ≡ [] → ReturnsArrival how (find is_ready (entries_named s name)) None
told_absent s name how none = subst (λ (es : List Entry). ReturnsArrival how (find is_ready es) None) (sym none) (tells_none how)

no_note : (how : Giving) → given_notes how None ≡ []
no_note (Held holder) = refl
no_note (Out queue) = refl

pub noted_absent : (s : Store) (name : Text) (how : Giving) (notes : List Note) → entries_named s name ≡ [] → notes ≡ notes ++ given_notes how (find is_ready (entries_named s name))
noted_absent s name how notes none =
    sym (append-nil notes) ∙ ap (λ (ns : List Note). notes ++ ns) (sym (ap (λ (es : List Entry). given_notes how (find is_ready es)) none ∙ no_note how))

-- and nothing is purged
pub purged_absent : (s : Store) (name : Text) (notes : List Note) → entries_named s name ≡ [] → IsPurgedBy s name notes notes 0 s
purged_absent s name notes none = record {
  reported = sym (ap ready_in none);
  noted = sym (append-nil notes) ∙ ap (λ (es : List Entry). notes ++ purge_notes name (filter is_ready es)) (sym none);
  queues = λ q. stays s name q none ∙ ap (λ (es : List Entry). with_queue (entries_named s) name (filter (λ (e : Entry). not (is_ready e)) es) q) (sym none);
  counted = refl;
  topology = refl;
}
