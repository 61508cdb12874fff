-- How a message goes along a path of names.
use Rattle.paths.proofs.Names.{◌≡◌, ℕ, ◌+◌, ◌<◌, List, [], ◌∷◌, Bool, true, refl, sym, ap, ◌∙◌, subst, length, drop, get_or, inl, inr, Option, Some, None, ◌↔◌, Decides, ◌||◌, ◌&&◌, list_any, drop_more, Text, Topology, IsIn, of_key, Edge, reading_after, fixed_after, key_after, Walk, ends, name_of, Destination, KeyedPlace, Queue, WalksOn, SomeGoesOn, NextLocation, into, AreOneOn, is_queue}
use Rattle.std.proofs.Common.{false}
use Rattle.model.specs.Refutations.{edge, dies}
use Rattle.model.specs.declared.topologies.Destination.TheVariants as destination
use Rattle.paths.specs.declared.keyed.KeyedPlace.TheVariants.{Exchange}
use Rattle.paths.specs.Keyed.{on, dies as dead}

-- ---- a walk goes by the key alone

same_reading : (t : Topology) (f f' : Option Text) (k k' x : Text) (to : Destination) → key_after f k ≡ key_after f' k' → Edge t (reading_after f (of_key k)) x to → Edge t (reading_after f' (of_key k')) x to
same_reading t None None k k' x to e s = subst (λ (z : Text). Edge t (of_key z) x to) e s
same_reading t None (Some c) k k' x to e s = subst (λ (z : Text). Edge t (of_key z) x to) e s
same_reading t (Some c) None k k' x to e s = subst (λ (z : Text). Edge t (of_key z) x to) e s
same_reading t (Some c) (Some d) k k' x to e s = subst (λ (z : Text). Edge t (of_key z) x to) e s

same_fixed : (g f f' : Option Text) (k k' : Text) → key_after f k ≡ key_after f' k' → key_after (fixed_after g f) k ≡ key_after (fixed_after g f') k'
same_fixed None f f' k k' e = e
same_fixed (Some c) f f' k k' e = refl

pub by_key : {t : Topology} {q : Text} (k : Text) {f : Option Text} {p : Destination} {ns : List Text} (k' : Text) (f' : Option Text) → key_after f k ≡ key_after f' k' → Walk t (of_key k) q f p ns → Walk t (of_key k') q f' p ns
by_key k k' f' e ends = ends
by_key {t} k k' f' e (edge {fixed = f} {x = x} to s w name n) = edge to (same_reading t f f' k k' x to e s) (by_key k k' f' e w) name n
by_key k k' f' e (dies {fixed = f} last d w) = dies last d (by_key k k' (fixed_after last.dead_letter_key f') (same_fixed last.dead_letter_key f f' k k' e) w)

same_key : (g : Option Text) (k : Text) → key_after (fixed_after g None) k ≡ key_after None (key_after g k)
same_key None k = refl
same_key (Some c) k = refl

-- ---- one step

pub step_on : (t : Topology) (q name next : Text) (rest : List Text) (s s' : KeyedPlace) → NextLocation t name next s s' → WalksOn t q next rest s' → WalksOn t q name (next ∷ rest) s
step_on t q name next rest s s' (on l) w = edge (destination.Exchange next) l w next refl
step_on t q name next rest s s' (into l) w = edge (destination.Queue next) l w next refl
step_on t q name next rest s s' (dead {key} last d) w = dies last d (by_key (key_after last.dead_letter_key key) key (fixed_after last.dead_letter_key None) (sym (same_key last.dead_letter_key key)) w)

-- what a walk does first
pub record Goes (t : Topology) (q name next : Text) (rest : List Text) (s : KeyedPlace) : Type 0 where
  pub to : KeyedPlace
  pub is_next : NextLocation t name next s to
  pub goes : WalksOn t q next rest to

from_exchange : (t : Topology) (q name next key : Text) (rest : List Text) (to : Destination) → next ≡ name_of to → Edge t (of_key key) name to → Walk t (of_key key) q None to rest → Goes t q name next rest (Exchange key)
from_exchange t q name next key rest (destination.Exchange y) n s w =
    record { to = Exchange key; is_next = on (subst (λ (z : Text). Edge t (of_key key) name (destination.Exchange z)) (sym n) s); goes = subst (λ (z : Text). Walk t (of_key key) q None (destination.Exchange z) rest) (sym n) w }
from_exchange t q name next key rest (destination.Queue y) n s w =
    record { to = Queue key; is_next = into (subst (λ (z : Text). Edge t (of_key key) name (destination.Queue z)) (sym n) s); goes = subst (λ (z : Text). Walk t (of_key key) q None (destination.Queue z) rest) (sym n) w }

pub first_step : (t : Topology) (q name next : Text) (rest : List Text) (s : KeyedPlace) → WalksOn t q name (next ∷ rest) s → Goes t q name next rest s
first_step t q name next rest (Exchange key) (edge to s w n e) = from_exchange t q name next key rest to e s w
first_step t q name next rest (Queue key) (dies last d w) = record {
  to = Exchange (key_after last.dead_letter_key key);
  is_next = dead last d;
  goes = by_key key (key_after last.dead_letter_key key) None (same_key last.dead_letter_key key) w;
}

-- ---- all at once

pub all_on : (t : Topology) (q name next : Text) (rest : List Text) (old new : List KeyedPlace) → AreOneOn t name next old new → SomeGoesOn t q name (next ∷ rest) old ↔ SomeGoesOn t q next rest new
all_on t q name next rest old new a = (
  λ m. (let g = first_step t q name next rest m.0 m.2 in (g.to, (a g.to).1 (m.0, m.1, g.is_next), g.goes)),
  λ m. (let f = (a m.0).0 m.1 in (f.0, f.1, step_on t q name next rest f.0 m.0 f.2 m.2)),
)

-- ---- the end of a path

last_place : {t : Topology} {k q : Text} {f : Option Text} {p : Destination} {ns : List Text} → Walk t (of_key k) q f p ns → ns ≡ [] → p ≡ destination.Queue q
last_place ends e = refl
last_place (edge to s w name n) e = absurd (cc)
last_place (dies last d w) e = absurd (cc)

-- one that is in the queue of that name
pub ends_here : (t : Topology) (q name : Text) (s : KeyedPlace) → WalksOn t q name [] s → (name ≡ q) × (is_queue s ≡ true)
ends_here t q name (Exchange key) w = absurd (let e = last_place w refl in cc)
ends_here t q name (Queue key) w = let e = last_place w refl in (cc, refl)

pub here_ends : (t : Topology) (q name : Text) (s : KeyedPlace) → name ≡ q → is_queue s ≡ true → WalksOn t q name [] s
here_ends t q name (Exchange key) e h = absurd (cc)
here_ends t q name (Queue key) e h = subst (λ (z : Text). Walk t (of_key key) q None (destination.Queue z) []) (sym e) ends

any_queued : (s : KeyedPlace) (ss : List KeyedPlace) (v w : Bool) → (v || w) ≡ true → (v ≡ true → is_queue s ≡ true) → (w ≡ true → (x : KeyedPlace) × IsIn x ss × (is_queue x ≡ true)) → (x : KeyedPlace) × IsIn x (s ∷ ss) × (is_queue x ≡ true)
any_queued s ss true w h a b = (s, inl refl, a refl)
any_queued s ss false w h a b = let m = b h in (m.0, inr m.1, m.2)

pub some_queued : (ss : List KeyedPlace) → list_any is_queue ss ≡ true → (x : KeyedPlace) × IsIn x ss × (is_queue x ≡ true)
some_queued [] h = absurd (cc)
some_queued (s ∷ ss) h = any_queued s ss (is_queue s) (list_any is_queue ss) h (λ e. e) (some_queued ss)

or_right : (v w : Bool) → w ≡ true → (v || w) ≡ true
or_right true w h = refl
or_right false w h = h

or_left : (v w : Bool) → v ≡ true → (v || w) ≡ true
or_left true w h = refl
or_left false w h = absurd (cc)

pub queued_some : (x : KeyedPlace) (ss : List KeyedPlace) → IsIn x ss → is_queue x ≡ true → list_any is_queue ss ≡ true
queued_some x [] m h = absurd m
queued_some x (s ∷ ss) m h = elim m [
  | inl e ↦ or_left (is_queue s) (list_any is_queue ss) (subst (λ (z : KeyedPlace). is_queue z ≡ true) e h)
  | inr r ↦ or_right (is_queue s) (list_any is_queue ss) (queued_some x ss r h)
]

-- ---- the rest of the path

pub goes_more : (t : Topology) (q name : Text) (rest : List Text) (i : ℕ) (x : Text) (old new : List KeyedPlace) (G : Type 0) → i < length rest → x ≡ get_or rest i x → AreOneOn t name x old new
    → SomeGoesOn t q name (drop i rest) old ↔ G → SomeGoesOn t q x (drop (i + 1) rest) new ↔ G
goes_more t q name rest i x old new G h e a inv =
    let d : drop i rest ≡ x ∷ drop (i + 1) rest = drop_more rest i x h ∙ ap (λ (z : Text). z ∷ drop (i + 1) rest) (sym e) in (
      λ m. inv.0 (subst (λ (ns : List Text). SomeGoesOn t q name ns old) (sym d) ((all_on t q name x (drop (i + 1) rest) old new a).1 m)),
      λ g. (all_on t q name x (drop (i + 1) rest) old new a).0 (subst (λ (ns : List Text). SomeGoesOn t q name ns old) d (inv.1 g)),
    )

pub goes_to_end : (t : Topology) (q name : Text) (ss : List KeyedPlace) (v : Bool) (G : Type 0) → Decides v (name ≡ q) → SomeGoesOn t q name [] ss ↔ G → Decides (v && list_any is_queue ss) G
goes_to_end t q name ss true G d inv = (
  λ h. (let m = some_queued ss h in inv.0 (m.0, m.1, here_ends t q name m.0 (d.0 refl) m.2)),
  λ g. (let m = inv.1 g in queued_some m.0 ss m.1 (ends_here t q name m.0 m.2).1),
)
goes_to_end t q name ss false G d inv = (
  λ h. absurd (cc),
  λ g. (let m = inv.1 g in absurd (let z : false ≡ true = d.1 (ends_here t q name m.0 m.2).0 in cc)),
)
