-- What a tag takes of outstanding deliveries whose tags rise, with the places between of what was settled before.
use Rattle.channels.proofs.Imports.{◌≡◌, ℕ, ◌+◌, ◌-◌, ◌<◌, ◌≤◌, List, [], ◌∷◌, ◌++◌, length, length-drop, get_or, take, drop, refl, sym, ap, ◌∙◌, arith, Bool, true, false, cond, not, Option, Some, None, leb, eqb, inl, inr, ◌⊎◌, ◌||◌, list_any, eqb_tells, leb_tells, filter-append, has_tag, takes, is_refused, settled, kept, Rises, tag_of, given_tag, IsTagAt, is_waiting, waiting, Delivery}
use Rattle.std.proofs.Common.{eq-eqb}
use Rattle.std.specs.Prelude.{filter, ◌==◌, ◌&&◌, nat_le, if◌then◌else◌}
use Rattle.std.specs.List.Sorted.{IsNonDecreasingBy}
use Rattle.std.proofs.lemmas.List.{drop_all, get_or_default, take_all}
use Rattle.channels.proofs.Runs.{none_any, none_pass, one_any, all_pass, PassWithin, passed, failed}

not_equal : (a b : ℕ) → ((a ≡ b) → ⊥) → eqb a b ≡ false
not_equal a b h = elim (eqb_tells a b) [ inl p ↦ absurd (h p.1) | inr p ↦ p.0 ]

not_le : (a b : ℕ) → b < a → leb a b ≡ false
not_le a b h = elim (leb_tells a b) [ inl p ↦ absurd (let q = p.1 in omega arith) | inr p ↦ p.0 ]

is_le : (a b : ℕ) → a ≤ b → leb a b ≡ true
is_le a b h = elim (leb_tells a b) [ inl p ↦ p.0 | inr p ↦ absurd (let q = p.1 in omega arith) ]

-- ---- places and what waits

-- what waits has the tag under which it was given out
pub waits_is : (o : Delivery) → is_waiting o ≡ true → given_tag o ≡ o.tag
waits_is o w = go (o.tag == 0) w
  where
    go : (b : Bool) → not b ≡ true → cond b o.arrival o.tag ≡ o.tag
    go true h = absurd (cc)
    go false h = refl

pub waits_by : (o : Delivery) → (o.tag ≡ 0 → ⊥) → is_waiting o ≡ true
waits_by o ne = ap not (not_equal o.tag 0 ne)

pub waits_not : (o : Delivery) → is_waiting o ≡ true → o.tag ≡ 0 → ⊥
waits_not o w e = let z : is_waiting o ≡ false = ap not (eq-eqb o.tag 0 e) in let f : false ≡ true = sym z ∙ w in absurd (cc)

pub at_given : (os : List Delivery) (i tag : ℕ) → IsTagAt os i tag → (d : Delivery) → given_tag (get_or os i d) ≡ tag
at_given os i tag h d = waits_is (get_or os i d) (waits_by (get_or os i d) (λ z. h.waits (sym (h.there d) ∙ z))) ∙ h.there d

pub at_waits : (os : List Delivery) (i tag : ℕ) → IsTagAt os i tag → (d : Delivery) → is_waiting (get_or os i d) ≡ true
at_waits os i tag h d = waits_by (get_or os i d) (λ z. h.waits (sym (h.there d) ∙ z))

-- of what waits, those pass that pass as places
both : (p q : Delivery → Bool) → ((o : Delivery) → is_waiting o ≡ true → p o ≡ q o) → (xs : List Delivery) → filter p (waiting xs) ≡ waiting (filter q xs)
both p q same [] = refl
both p q same (x ∷ xs) = go (is_waiting x) (q x) refl (same x) (both p q same xs)
  where
    go : (w b : Bool) → is_waiting x ≡ w → (is_waiting x ≡ true → p x ≡ b) → filter p (waiting xs) ≡ waiting (filter q xs)
        → filter p (cond w (x ∷ waiting xs) (waiting xs)) ≡ waiting (cond b (x ∷ filter q xs) (filter q xs))
    go true true w e rest = ap (λ (t : Bool). cond t (x ∷ filter p (waiting xs)) (filter p (waiting xs))) (e w) ∙ ap (λ (ys : List Delivery). x ∷ ys) rest ∙ ap (λ (t : Bool). cond t (x ∷ waiting (filter q xs)) (waiting (filter q xs))) (sym w)
    go true false w e rest = ap (λ (t : Bool). cond t (x ∷ filter p (waiting xs)) (filter p (waiting xs))) (e w) ∙ rest
    go false true w e rest = rest ∙ ap (λ (t : Bool). cond t (x ∷ waiting (filter q xs)) (waiting (filter q xs))) (sym w)
    go false false w e rest = rest

any_in : (p : Delivery → Bool) (xs : List Delivery) → list_any p (waiting xs) ≡ list_any (λ o. is_waiting o && p o) xs
any_in p [] = refl
any_in p (x ∷ xs) = go (is_waiting x) (any_in p xs)
  where
    go : (w : Bool) → list_any p (waiting xs) ≡ list_any (λ o. is_waiting o && p o) xs → list_any p (cond w (x ∷ waiting xs) (waiting xs)) ≡ ((w && p x) || list_any (λ o. is_waiting o && p o) xs)
    go true e = ap (λ (b : Bool). p x || b) e
    go false e = e

takes_same : (tag : ℕ) (multiple : Bool) (o : Delivery) → is_waiting o ≡ true → takes tag_of tag multiple o ≡ takes given_tag tag multiple o
takes_same tag multiple o w = ap (λ (k : ℕ). if multiple then (if tag == 0 then true else nat_le k tag) else (k == tag)) (sym (waits_is o w))

-- what is behind n of them has n fewer
pub rest_is : (n : ℕ) (xs : List Delivery) → take (length xs - n) (drop n xs) ≡ drop n xs
rest_is n xs = take_all (length xs - n) (drop n xs) (let long = length-drop n xs in omega (arith, long))

-- ---- the run of places that a tag takes

one_passes : (os : List Delivery) (i tag : ℕ) → Rises given_tag os → IsTagAt os i tag → PassWithin (takes given_tag tag false) os i (i + 1)
one_passes os i tag r h = record {
  order = omega arith;
  within = let w = h.within in omega arith;
  before = λ k d lt. not_equal _ _ (let a = r k i d lt h.within in let b = at_given os i tag h d in omega arith);
  inside = λ k d ge lt. let e : k ≡ i = omega arith in eq-eqb _ _ (ap (λ (z : ℕ). given_tag (get_or os z d)) e ∙ at_given os i tag h d);
  after = λ k d ge lt. not_equal _ _ (let a = r i k d (omega arith) lt in let b = at_given os i tag h d in omega arith);
}

many_pass : (os : List Delivery) (i tag : ℕ) → Rises given_tag os → IsTagAt os i tag → PassWithin (takes given_tag tag true) os 0 (i + 1)
many_pass os i tag r h = record {
  order = omega arith;
  within = let w = h.within in omega arith;
  before = λ k d lt. absurd (omega arith);
  inside = λ k d ge lt. rw (not_equal tag 0 h.waits) (is_le _ _ (up k d (omega arith)));
  after = λ k d ge lt. rw (not_equal tag 0 h.waits) (not_le _ _ (let a = r i k d (omega arith) lt in let b = at_given os i tag h d in omega arith));
}
  where
    up : (k : ℕ) (d : Delivery) → k ≤ i → given_tag (get_or os k d) ≤ tag
    up k d le = elim (eqb_tells k i) [
      | inl p ↦ let e = ap (λ (z : ℕ). given_tag (get_or os z d)) p.1 in let b = at_given os i tag h d in omega arith
      | inr p ↦ let lt : k < i = (let q = p.1 in omega arith) in let a = r k i d lt h.within in let b = at_given os i tag h d in omega arith
    ]

-- a tag that waits is not refused
not_refused : (os : List Delivery) (i tag : ℕ) (multiple : Bool) → IsTagAt os i tag → is_refused tag_of tag multiple (waiting os) ≡ false
not_refused os i tag multiple h = rw (any_in (has_tag tag_of tag) os ∙ one_any (λ o. is_waiting o && has_tag tag_of tag o) os i h.within (λ d. here d)) (same (multiple && (tag == 0)))
  where
    same : (b : Bool) → cond b false false ≡ false
    same true = refl
    same false = refl

    here : (d : Delivery) → (is_waiting (get_or os i d) && has_tag tag_of tag (get_or os i d)) ≡ true
    here d = ap (λ (b : Bool). b && has_tag tag_of tag (get_or os i d)) (at_waits os i tag h d) ∙ eq-eqb _ _ (h.there d)

unrefused : (tag : ℕ) (multiple : Bool) (os : List Delivery) → is_refused tag_of tag multiple os ≡ false → settled tag_of tag multiple os ≡ Some (filter (takes tag_of tag multiple) os)
unrefused tag multiple os e = rw e refl

unkept : (tag : ℕ) (multiple : Bool) (os : List Delivery) → is_refused tag_of tag multiple os ≡ false → kept tag_of tag multiple os ≡ filter (λ o. not (takes tag_of tag multiple o)) os
unkept tag multiple os e = rw e refl

pub settle_all : (os : List Delivery) (tag : ℕ) (multiple : Bool) → tag ≡ 0 → multiple ≡ true
    → (Some (waiting (take (length os) os)) ≡ settled tag_of tag multiple (waiting os)) × (waiting (drop (length os) os) ≡ kept tag_of tag multiple (waiting os))
settle_all os tag multiple t m = rw (t, m) (
  ap Some (ap waiting (take_all (length os) os (omega arith)) ∙ sym (all_pass (λ (o : Delivery). true) (waiting os) (λ k d lt. refl))),
  ap waiting (drop_all (length os) os (omega arith)) ∙ sym (none_pass (λ (o : Delivery). false) (waiting os) (λ k d lt. refl)),
)

pub settle_many : (os : List Delivery) (i tag : ℕ) (multiple : Bool) → multiple ≡ true → Rises given_tag os → IsTagAt os i tag
    → (Some (waiting (take (i + 1) os)) ≡ settled tag_of tag multiple (waiting os)) × (waiting (drop (i + 1) os) ≡ kept tag_of tag multiple (waiting os))
settle_many os i tag multiple m r h = rw m (
  sym (unrefused tag true (waiting os) (not_refused os i tag true h) ∙ ap Some (both (takes tag_of tag true) (takes given_tag tag true) (takes_same tag true) os ∙ ap waiting (passed (takes given_tag tag true) os 0 (i + 1) (many_pass os i tag r h)))),
  sym (unkept tag true (waiting os) (not_refused os i tag true h) ∙ both (λ o. not (takes tag_of tag true o)) (λ o. not (takes given_tag tag true o)) (λ o w. ap not (takes_same tag true o w)) os
      ∙ ap waiting (failed (takes given_tag tag true) os 0 (i + 1) (many_pass os i tag r h))),
)

pub settle_one : (os : List Delivery) (i tag : ℕ) (multiple : Bool) → multiple ≡ false → Rises given_tag os → IsTagAt os i tag
    → (Some (waiting (drop i (take (i + 1) os))) ≡ settled tag_of tag multiple (waiting os)) × (waiting (take i os) ++ waiting (drop (i + 1) os) ≡ kept tag_of tag multiple (waiting os))
settle_one os i tag multiple m r h = rw m (
  sym (unrefused tag false (waiting os) (not_refused os i tag false h) ∙ ap Some (both (takes tag_of tag false) (takes given_tag tag false) (takes_same tag false) os ∙ ap waiting (passed (takes given_tag tag false) os i (i + 1) (one_passes os i tag r h)))),
  sym (unkept tag false (waiting os) (not_refused os i tag false h) ∙ both (λ o. not (takes tag_of tag false o)) (λ o. not (takes given_tag tag false o)) (λ o w. ap not (takes_same tag false o w)) os
      ∙ ap waiting (failed (takes given_tag tag false) os i (i + 1) (one_passes os i tag r h)) ∙ filter-append is_waiting (take i os) (drop (i + 1) os)),
)

-- what a tag settles of these; nothing where it is refused
abbrev pub taken_by : ℕ → Bool → List Delivery → List Delivery
taken_by tag multiple os = if is_refused tag_of tag multiple os then [] else filter (takes tag_of tag multiple) os

-- where something is settled it is that
pub taken_some : (os gone : List Delivery) (tag : ℕ) (multiple : Bool) → Some gone ≡ settled tag_of tag multiple os → gone ≡ taken_by tag multiple os
taken_some os gone tag multiple e = go (is_refused tag_of tag multiple os) e
  where
    some_is : (xs ys : List Delivery) → Some xs ≡ Some ys → xs ≡ ys
    some_is xs ys h = cc

    go : (b : Bool) → Some gone ≡ cond b None (Some (filter (takes tag_of tag multiple) os)) → gone ≡ cond b [] (filter (takes tag_of tag multiple) os)
    go true h = absurd (cc)
    go false h = some_is gone (filter (takes tag_of tag multiple) os) h

-- and else nothing
pub taken_none : (os : List Delivery) (tag : ℕ) (multiple : Bool) → ◌≡◌ {A = Option (List Delivery)} None (settled tag_of tag multiple os) → [] ≡ taken_by tag multiple os
taken_none os tag multiple e = go (is_refused tag_of tag multiple os) e
  where
    go : (b : Bool) → ◌≡◌ {A = Option (List Delivery)} None (cond b None (Some (filter (takes tag_of tag multiple) os))) → [] ≡ cond b [] (filter (takes tag_of tag multiple) os)
    go true h = refl
    go false h = absurd (cc)

-- a tag that is not refused settles it
settles_it : (os : List Delivery) (tag : ℕ) (multiple : Bool) → is_refused tag_of tag multiple os ≡ false → settled tag_of tag multiple os ≡ Some (taken_by tag multiple os)
settles_it os tag multiple e = rw e refl

-- so does a tag that waits
pub here_settles : (os : List Delivery) (i tag : ℕ) (multiple : Bool) → IsTagAt os i tag → settled tag_of tag multiple (waiting os) ≡ Some (taken_by tag multiple (waiting os))
here_settles os i tag multiple h = settles_it (waiting os) tag multiple (not_refused os i tag multiple h)

pub absent_by : (os : List Delivery) (i tag : ℕ) → Rises given_tag os → ((k : ℕ) (d : Delivery) → k < i → given_tag (get_or os k d) < tag) → ((k : ℕ) (d : Delivery) → i ≤ k → k < length os → tag ≤ given_tag (get_or os k d))
    → (IsTagAt os i tag → ⊥) → list_any (has_tag tag_of tag) (waiting os) ≡ false
absent_by os i tag r below above here = any_in (has_tag tag_of tag) os ∙ none_any (λ o. is_waiting o && has_tag tag_of tag o) os (λ k d lt. each k d lt (is_waiting (get_or os k d)) refl)
  where
    stray : (k : ℕ) (d : Delivery) → k < length os → is_waiting (get_or os k d) ≡ true → (get_or os k d).tag ≡ tag → ((eqb k i ≡ true) × (k ≡ i)) ⊎ ((eqb k i ≡ false) × ((k ≡ i) → ⊥)) → ⊥
    stray k d lt w e (inl p) = here (record {
      within = let q = p.1 in omega arith;
      there = λ x. ap (λ (o : Delivery). o.tag) (ap (λ (z : ℕ). get_or os z x) (sym p.1) ∙ get_or_default os k x d lt) ∙ e;
      waits = λ z. waits_not (get_or os k d) w (e ∙ z);
    })
    stray k d lt w e (inr p) =
        let g = waits_is (get_or os k d) w in
        let ne = p.1 in
        elim (leb_tells i k) [
          | inl q ↦ (let ge = q.1 in let l : i < length os = omega arith in let a = above i d (omega arith) l in let b = r i k d (omega arith) lt in omega arith)
          | inr q ↦ (let small = q.1 in let a = below k d (omega arith) in omega arith)
        ]

    each : (k : ℕ) (d : Delivery) → k < length os → (b : Bool) → is_waiting (get_or os k d) ≡ b → (b && has_tag tag_of tag (get_or os k d)) ≡ false
    each k d lt true w = not_equal _ _ (λ e. stray k d lt w e (eqb_tells k i))
    each k d lt false w = refl

-- no tag is less than one before it
pub never_less : (os : List Delivery) → Rises given_tag os → IsNonDecreasingBy given_tag os
never_less os r i j d le lt = elim (eqb_tells i j) [
  | inl p ↦ let e = ap (λ (z : ℕ). given_tag (get_or os z d)) p.1 in omega arith
  | inr p ↦ let ne = p.1 in let a = r i j d (omega arith) lt in omega arith
]
