-- What a tag settles, where queues have names.
use Rattle.commands.proofs.Names.{◌≡◌, ℕ, ◌<◌, List, [], ◌∷◌, Bool, true, false, cond, refl, sym, ap, subst, map, filter, not, None, option_map, is_some, ◌||◌, list_any, false≢true, same_Some, All-filter, Text, Topology, Rises, has_tag, takes, is_refused, settled, kept, tag_of, outstanding_in, AreWithin, Delivery}
use Rattle.std.proofs.Common.{length, Some}
use Rattle.std.specs.Prelude.{◌==◌, ◌&&◌, if◌then◌else◌}
use Rattle.std.proofs.lemmas.List.Kept.{AllPairs-filter}
use Rattle.model.specs.Broker as seen
use Rattle.model.specs.Step as step

any_seen : (names : List Text) (tag : ℕ) (os : List Delivery) → list_any (has_tag step.tag_of tag) (map (outstanding_in names) os) ≡ list_any (has_tag tag_of tag) os
any_seen names tag [] = refl
any_seen names tag (o ∷ os) = ap (λ (b : Bool). (o.tag == tag) || b) (any_seen names tag os)

filter_seen : (names : List Text) (p : seen.Outstanding → Bool) (q : Delivery → Bool) → ((o : Delivery) → p (outstanding_in names o) ≡ q o) → (os : List Delivery)
    → filter p (map (outstanding_in names) os) ≡ map (outstanding_in names) (filter q os)
filter_seen names p q same [] = refl
filter_seen names p q same (o ∷ os) = go (p (outstanding_in names o)) (q o) (same o) (filter_seen names p q same os)
  where
    go : (v w : Bool) → v ≡ w → filter p (map (outstanding_in names) os) ≡ map (outstanding_in names) (filter q os)
        → cond v (outstanding_in names o ∷ filter p (map (outstanding_in names) os)) (filter p (map (outstanding_in names) os)) ≡ map (outstanding_in names) (cond w (o ∷ filter q os) (filter q os))
    go true true e rest = ap (λ (xs : List seen.Outstanding). outstanding_in names o ∷ xs) rest
    go false false e rest = rest
    go true false e rest = absurd (false≢true (sym e))
    go false true e rest = absurd (false≢true e)

pub refused_seen : (names : List Text) (tag : ℕ) (multiple : Bool) (os : List Delivery) → is_refused step.tag_of tag multiple (map (outstanding_in names) os) ≡ is_refused tag_of tag multiple os
refused_seen names tag multiple os = ap (λ (b : Bool). if multiple && (tag == 0) then false else not b) (any_seen names tag os)

pub settled_seen : (names : List Text) (tag : ℕ) (multiple : Bool) (os : List Delivery) → settled step.tag_of tag multiple (map (outstanding_in names) os) ≡ option_map (map (outstanding_in names)) (settled tag_of tag multiple os)
settled_seen names tag multiple os = go (is_refused step.tag_of tag multiple (map (outstanding_in names) os)) (is_refused tag_of tag multiple os) (refused_seen names tag multiple os)
  where
    go : (v w : Bool) → v ≡ w → (if v then None else Some (filter (takes step.tag_of tag multiple) (map (outstanding_in names) os))) ≡ option_map (map (outstanding_in names)) (if w then None else Some (filter (takes tag_of tag multiple) os))
    go true true e = refl
    go false false e = ap Some (filter_seen names (takes step.tag_of tag multiple) (takes tag_of tag multiple) (λ o. refl) os)
    go true false e = absurd (false≢true (sym e))
    go false true e = absurd (false≢true e)

pub kept_seen : (names : List Text) (tag : ℕ) (multiple : Bool) (os : List Delivery) → map (outstanding_in names) (kept tag_of tag multiple os) ≡ kept step.tag_of tag multiple (map (outstanding_in names) os)
kept_seen names tag multiple os = go (is_refused step.tag_of tag multiple (map (outstanding_in names) os)) (is_refused tag_of tag multiple os) (refused_seen names tag multiple os)
  where
    go : (v w : Bool) → v ≡ w → map (outstanding_in names) (if w then os else filter (λ o. not (takes tag_of tag multiple o)) os) ≡ (if v then map (outstanding_in names) os else filter (λ o. not (takes step.tag_of tag multiple o)) (map (outstanding_in names) os))
    go true true e = refl
    go false false e = sym (filter_seen names (λ o. not (takes step.tag_of tag multiple o)) (λ o. not (takes tag_of tag multiple o)) (λ o. refl) os)
    go true false e = absurd (false≢true (sym e))
    go false true e = absurd (false≢true e)

-- what is settled is some of what was outstanding
pub gone_is : (tag : ℕ) (multiple : Bool) (os gone : List Delivery) → settled tag_of tag multiple os ≡ Some gone → gone ≡ filter (takes tag_of tag multiple) os
gone_is tag multiple os gone e = go (is_refused tag_of tag multiple os) e
  where
    go : (v : Bool) → (if v then None else Some (filter (takes tag_of tag multiple) os)) ≡ Some gone → gone ≡ filter (takes tag_of tag multiple) os
    go true f = absurd (false≢true (ap is_some f))
    go false f = sym (same_Some _ gone f)

pub gone_within : (t : Topology) (tag : ℕ) (multiple : Bool) (os gone : List Delivery) → settled tag_of tag multiple os ≡ Some gone → AreWithin t os → AreWithin t gone
gone_within t tag multiple os gone e within = subst (AreWithin t) (sym (gone_is tag multiple os gone e)) (All-filter (takes tag_of tag multiple) (λ (o : Delivery). o.queue < length t.queues) os within)

pub gone_rises : (tag : ℕ) (multiple : Bool) (os gone : List Delivery) → settled tag_of tag multiple os ≡ Some gone → Rises tag_of os → Rises tag_of gone
gone_rises tag multiple os gone e rises = subst (Rises tag_of) (sym (gone_is tag multiple os gone e)) (AllPairs-filter (λ (a b : Delivery). a.tag < b.tag) (takes tag_of tag multiple) os rises)

pub kept_within : (t : Topology) (tag : ℕ) (multiple : Bool) (os : List Delivery) → AreWithin t os → AreWithin t (kept tag_of tag multiple os)
kept_within t tag multiple os within = go (is_refused tag_of tag multiple os)
  where
    go : (v : Bool) → AreWithin t (if v then os else filter (λ o. not (takes tag_of tag multiple o)) os)
    go true = within
    go false = All-filter (λ o. not (takes tag_of tag multiple o)) (λ (o : Delivery). o.queue < length t.queues) os within
