-- Tags of consumers: no two of a channel are the same, so at most one consumer has a tag.
use Rattle.channels.proofs.Imports.{◌≡◌, ℕ, ◌+◌, ◌<◌, List, [], ◌∷◌, ◌++◌, map, find, Bool, true, false, cond, Option, Some, None, inl, inr, refl, sym, ap, subst, ◌∙◌, arith, ◌||◌, IfSome, AllByRecursion, list_any, false≢true, eqb-true, Text, IsIn, is_named, TagsDiffer, AreNumbered, consumer_moved, Open, open_in, Consumer}
use Rattle.std.proofs.Common.{filter}
use Rattle.std.specs.Prelude.{◌==◌, IfNone}
use Rattle.std.proofs.lemmas.Bool.{eq-eqb}
use Rattle.std.proofs.lemmas.Slice.Eq.{bytes_eq-Decides}
use Rattle.model.specs.Broker as seen
use Rattle.model.specs.Consuming.{is_tagged, is_in_use}
use Rattle.channels.specs.declared.consumers.Seat.{Seat}
use Rattle.channels.specs.Seats.{IsTagged, ReturnsSeat}
use Rattle.channels.proofs.Making.{any_tagged}
use Rattle.channels.proofs.Numbering.{all_push, all_filter, all_in, found, found_at, of_names, some_is, not_none}

-- ---- no two are the same

-- one more, whose tag is not in use
pub differ_push : (cs : List Consumer) (c : Consumer) → list_any (is_named c.tag) cs ≡ false → TagsDiffer cs → TagsDiffer (cs ++ c ∷ [])
differ_push [] c free h = (tt, tt)
differ_push (d ∷ ds) c free (above, rest) = go (is_named c.tag d) refl (λ f. differ_push ds c f rest) free
  where
    go : (b : Bool) → is_named c.tag d ≡ b → (list_any (is_named c.tag) ds ≡ false → TagsDiffer (ds ++ c ∷ [])) → (b || list_any (is_named c.tag) ds) ≡ false → TagsDiffer ((d ∷ ds) ++ c ∷ [])
    go true is more f = absurd (false≢true (sym f))
    go false is more f = (all_push (λ (x : Consumer). d.tag ≡ x.tag → ⊥) ds c above (λ same. false≢true (sym is ∙ (bytes_eq-Decides d.tag c.tag).1 same)), more f)

-- some taken out
pub differ_filter : (p : Consumer → Bool) (cs : List Consumer) → TagsDiffer cs → TagsDiffer (filter p cs)
differ_filter p [] h = tt
differ_filter p (c ∷ cs) (above, rest) = go (p c) (differ_filter p cs rest)
  where
    go : (b : Bool) → TagsDiffer (filter p cs) → TagsDiffer (cond b (c ∷ filter p cs) (filter p cs))
    go true h = (all_filter (λ (x : Consumer). c.tag ≡ x.tag → ⊥) p cs above, h)
    go false h = h

-- their queues at other indices
pub differ_moved : (places : List ℕ) (cs : List Consumer) → TagsDiffer cs → TagsDiffer (map (consumer_moved places) cs)
differ_moved places [] h = tt
differ_moved places (c ∷ cs) (above, rest) = (each cs above, differ_moved places cs rest)
  where
    each : (ds : List Consumer) → AllByRecursion (λ (d : Consumer). c.tag ≡ d.tag → ⊥) ds → AllByRecursion (λ (d : Consumer). c.tag ≡ d.tag → ⊥) (map (consumer_moved places) ds)
    each [] a = tt
    each (d ∷ ds) (l, a) = (l, each ds a)

-- ---- the one that has a tag

tag_only : (cs : List Consumer) (a b : Consumer) → TagsDiffer cs → IsIn a cs → IsIn b cs → a.tag ≡ b.tag → a ≡ b
tag_only [] a b h i j e = absurd i
tag_only (c ∷ cs) a b h (inl is) (inl its) e = is ∙ sym its
tag_only (c ∷ cs) a b h (inl is) (inr j) e = absurd (all_in (λ (x : Consumer). c.tag ≡ x.tag → ⊥) b cs h.0 j (ap (λ (x : Consumer). x.tag) (sym is) ∙ e))
tag_only (c ∷ cs) a b h (inr i) (inl its) e = absurd (all_in (λ (x : Consumer). c.tag ≡ x.tag → ⊥) a cs h.0 i (ap (λ (x : Consumer). x.tag) (sym its) ∙ sym e))
tag_only (c ∷ cs) a b h (inr i) (inr j) e = tag_only cs a b h.1 i j e

-- What is found by a test is one of the list, and passes.
record IsFound (p : Consumer → Bool) (cs : List Consumer) (k : Consumer) : Type 0 where
  listed : IsIn k cs
  passes : p k ≡ true

find_in : (p : Consumer → Bool) (cs : List Consumer) (k : Consumer) → find p cs ≡ Some k → IsFound p cs k
find_in p [] k e = absurd (not_none k (sym e))
find_in p (c ∷ cs) k e = go (p c) refl (find_in p cs k) e
  where
    go : (b : Bool) → p c ≡ b → (find p cs ≡ Some k → IsFound p cs k) → cond b (Some c) (find p cs) ≡ Some k → IsFound p (c ∷ cs) k
    go true is more f = let same = some_is c k f in record { listed = inl (sym same); passes = ap p (sym same) ∙ is }
    go false is more f = let one = more f in record { listed = inr one.listed; passes = one.passes }

none_in : (p : Consumer → Bool) (cs : List Consumer) → find p cs ≡ None → list_any p cs ≡ false
none_in p [] e = refl
none_in p (c ∷ cs) e = go (p c) e (none_in p cs)
  where
    go : (b : Bool) → cond b (Some c) (find p cs) ≡ None → (find p cs ≡ None → list_any p cs ≡ false) → (b || list_any p cs) ≡ false
    go true f more = absurd (not_none c f)
    go false f more = more f

-- the one with the tag is the one with its number
named_is_numbered : (next : ℕ) (cs : List Consumer) (tag : Text) (k c : Consumer) → AreNumbered next cs → TagsDiffer cs → IsFound (is_named tag) cs k → IsIn c cs → is_named tag c ≡ (c.number == k.number)
named_is_numbered next cs tag k c rise differ one i = go (is_named tag c) refl (c.number == k.number) refl
  where
    go : (b : Bool) → is_named tag c ≡ b → (d : Bool) → (c.number == k.number) ≡ d → b ≡ d
    go true is true its = refl
    go true is false its =
        let same = tag_only cs c k differ i one.listed ((bytes_eq-Decides c.tag tag).0 is ∙ sym ((bytes_eq-Decides k.tag tag).0 one.passes)) in
        absurd (false≢true (sym its ∙ eq-eqb c.number k.number (ap (λ (x : Consumer). x.number) same)))
    go false is true its =
        let same = (found next k.number cs k rise (found_at next cs k rise one.listed)).only c i (eqb-true c.number k.number its) in
        absurd (false≢true (sym is ∙ ap (is_named tag) same ∙ one.passes))
    go false is false its = refl

named_in : (names : List Text) (old : Open) (tag : Text) (k : Consumer) (x : seen.Consumer) → AreNumbered old.given.next_number old.given.consumers → TagsDiffer old.given.consumers
    → IsFound (is_named tag) old.given.consumers k → IsIn x (open_in names old).consumers → is_tagged tag x ≡ (x.number == k.number)
named_in names old tag k x rise differ one i =
    let o = of_names names x old.given.consumers i in
    ap (is_tagged tag) o.same ∙ named_is_numbered old.given.next_number old.given.consumers tag k o.consumer rise differ one o.listed
    ∙ ap (λ (z : seen.Consumer). z.number == k.number) (sym o.same)

-- the one that is found by a tag is the only one with it
pub tagged : (ch : Open) (tag : Text) (r : Option Seat) → AreNumbered ch.given.next_number ch.given.consumers → TagsDiffer ch.given.consumers
    → ReturnsSeat (find (is_named tag) ch.given.consumers) r → IfSome r (λ s. IsTagged ch tag s)
tagged ch tag None rise differ is = tt
tagged ch tag (Some s) rise differ is = go (find (is_named tag) ch.given.consumers) refl is
  where
    go : (o : Option Consumer) → find (is_named tag) ch.given.consumers ≡ o → ReturnsSeat o (Some s) → IsTagged ch tag s
    go None none its = absurd its
    go (Some k) one its = let there = find_in (is_named tag) ch.given.consumers k one in record {
      queue = λ x i numbered.
          let alone = found ch.given.next_number k.number ch.given.consumers k rise (found_at ch.given.next_number ch.given.consumers k rise there.listed) in
          ap (λ (z : Consumer). z.queue) (alone.only x i (numbered ∙ sym its.0)) ∙ its.1;
      alone = λ names x i. named_in names ch tag k x rise differ there i ∙ ap (λ (n : ℕ). x.number == n) its.0;
    }

pub untagged : (ch : Open) (tag : Text) (r : Option Seat) → ReturnsSeat (find (is_named tag) ch.given.consumers) r → IfNone r ((names : List Text) → is_in_use tag (open_in names ch).consumers ≡ false)
untagged ch tag (Some s) is = tt
untagged ch tag None is = go (find (is_named tag) ch.given.consumers) refl is
  where
    go : (o : Option Consumer) → find (is_named tag) ch.given.consumers ≡ o → ReturnsSeat o None → (names : List Text) → is_in_use tag (open_in names ch).consumers ≡ false
    go None none its names = any_tagged names tag ch.given.consumers ∙ none_in (is_named tag) ch.given.consumers none
    go (Some k) one its names = absurd its
