-- Where a message came by a route and by deaths, no guarantee forbids it to be, nor to come by further deaths.
use Rattle.laws.proofs.Names.{◌≡◌, ◌≤◌, length, refl, sym, subst, None, Text, Topology, Reading, of_key, RoutesBy, Routes, reading_after, fixed_after, key_after, Comes, routed, dead, Later, Guarantee, Covers, Keeps, Holds, HasCome, by_publish, by_death, Mode, Never, TracedAreSafe}
use Rattle.std.proofs.Common.{Option, Some}

-- a key that was fixed is read as it is
pub same_reading : (h f : Option Text) (key : Text) → reading_after h (of_key (key_after f key)) ≡ reading_after (fixed_after h f) (of_key key)
same_reading None None key = refl
same_reading None (Some k) key = refl
same_reading (Some j) None key = refl
same_reading (Some j) (Some k) key = refl

-- what was fixed first stays fixed
pub refixed : (a h f : Option Text) → fixed_after a (fixed_after h f) ≡ fixed_after (fixed_after a h) f
refixed None h f = refl
refixed (Some k) h f = refl

-- where a message comes under the key that a queue fixed, it comes that was there under its own
pub comes_fixed : (t : Topology) (f : Option Text) (key : Text) {h : Option Text} {x q : Text} → Comes t (of_key (key_after f key)) h x q → Comes t (of_key key) (fixed_after h f) x q
comes_fixed t f key {h = h} {x = x} {q = q} (routed ro) = routed (subst (λ (r : Reading). RoutesBy t r x q) (same_reading h f key) ro)
comes_fixed t f key {h = h} {x = x} {q = q} (dead {p = p} {exchange = y} last ro d c) =
    dead last (subst (λ (r : Reading). RoutesBy t r x p) (same_reading h f key) ro) d (subst (λ (o : Option Text). Comes t (of_key key) o y q) (sym (refixed last.dead_letter_key h f)) (comes_fixed t f key c))

pub routes_after : (t : Topology) (f : Option Text) (key x q : Text) → Routes t x (key_after f key) q → RoutesBy t (reading_after f (of_key key)) x q
routes_after t None key x q r = r
routes_after t (Some k) key x q r = r

-- the places to which a message may come that was published to x under this key
record IsAmong (t : Topology) (x key p k : Text) : Type 0 where
  here : Comes t (of_key key) None x p
  later : (r : Text) → Later t p k r → Comes t (of_key key) None x r

none_fixed : (o : Option Text) → o ≡ fixed_after o None
none_fixed None = refl
none_fixed (Some k) = refl

come_among : {t : Topology} {x key y k p : Text} → HasCome t x key y k p → IsAmong t x key p k
come_among {t = t} {x = x} {key = key} (by_publish ro) = record {
  here = routed ro;
  later = λ r l. dead l.last ro l.dies (subst (λ (o : Option Text). Comes t (of_key key) o l.exchange r) (none_fixed l.last.dead_letter_key) l.comes);
}
come_among {t = t} (by_death {k = k} {p = p} {exchange = y} {q = q} last come dies ro) =
    let before = come_among come in
    let after = routes_after t last.dead_letter_key k y q ro in
    record {
      here = before.later q (record { last = last; exchange = y; dies = dies; comes = routed after });
      later = λ r l. before.later r (record { last = last; exchange = y; dies = dies; comes = dead l.last after l.dies (comes_fixed t last.dead_letter_key k l.comes) });
    }

-- what a guarantee forbids is no such place
pub forbidden : (t : Topology) (g : Guarantee) (x key q : Text) → Holds t g → g.mode ≡ Never → Covers g x key → length key ≤ 255 → Comes t (of_key key) None x q → q ≡ g.queue → ⊥
forbidden t g x key q holds m covers short comes e =
    let k : Keeps g.mode t g.exchange key g.queue = holds key short covers.1 in
    let never : Keeps Never t g.exchange key g.queue = subst (λ (m : Mode). Keeps m t g.exchange key g.queue) m k in
    never (subst (λ (z : Text). Comes t (of_key key) None z g.queue) covers.0 (subst (λ (z : Text). Comes t (of_key key) None x z) e comes))

-- so it is where a message is, and where it may come by deaths
pub come_here : (t : Topology) (g : Guarantee) {x key y k p : Text} → Holds t g → g.mode ≡ Never → Covers g x key → length key ≤ 255 → HasCome t x key y k p → p ≡ g.queue → ⊥
come_here t g {x = x} {key = key} {p = p} holds m covers short come = forbidden t g x key p holds m covers short (come_among come).here

pub come_later : (t : Topology) (g : Guarantee) {x key y k p : Text} → Holds t g → g.mode ≡ Never → Covers g x key → length key ≤ 255 → HasCome t x key y k p → Later t p k g.queue → ⊥
come_later t g {x = x} {key = key} holds m covers short come l = forbidden t g x key g.queue holds m covers short ((come_among come).later g.queue l) refl

pub traced_are_safe : TracedAreSafe
traced_are_safe f b sound traced q e i g is_in m covers =
    let at = traced.each q e i in
    (come_here f.topology g (sound.hold g is_in) m covers at.short at.come, come_later f.topology g (sound.hold g is_in) m covers at.short at.come)
