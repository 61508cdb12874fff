-- What is settled has its place marked; what is kept is closed up, and counted.
use Rattle.channels.proofs.Imports.{◌≡◌, ℕ, length-drop, length-append, zero, suc, ◌+◌, ◌*◌, ◌<◌, ◌≤◌, List, [], ◌∷◌, ◌++◌, length, get_or, set, take, drop, refl, sym, ap, subst, ◌∙◌, arith, Bool, true, false, cond, not, OnOk, drop-set-add, set_split, get_or-drop, length-set, All-filter, filter-append, filter_passes, length-filter, count_by-le-length, AllPairs-filter, takes, is_refused, kept, Rises, tag_of, given_tag, marked, IsTagAt, AreInOrder, AreKept, is_waiting, waiting, Get, Delivery}
use Rattle.std.specs.Prelude.{filter, count_by, ◌&&◌, Result, Ok, Err}
use Rattle.std.specs.Result.{is_err}
use Rattle.std.proofs.lemmas.List.Quantifiers.{all_pairs_push}
use Rattle.channels.proofs.Runs.{all_pass}
use Rattle.std.proofs.lemmas.List.{drop-append-le, drop-drop}
use Rattle.std.proofs.lemmas.List.Elements.{All-push}
use Rattle.std.proofs.lemmas.List.Filters.{length-filter_both}
use Rattle.channels.proofs.Settlement.{at_given, waits_is, waits_by, taken_by}

-- ---- a marked place

-- it is no longer one that waits
marked_gone : (os : List Delivery) (i : ℕ) (o : Delivery) → i < length os → waiting (set os i (marked o)) ≡ waiting (take i os) ++ waiting (drop (i + 1) os)
marked_gone os i o lt =
    let e : suc i ≡ i + 1 = omega arith in
    ap waiting (set_split os i (marked o) lt) ∙ filter-append is_waiting (take i os) (marked o ∷ drop (suc i) os) ∙ ap (λ (n : ℕ). waiting (take i os) ++ waiting (drop n os)) e

-- its tag stays
tag_stays : (os : List Delivery) (i : ℕ) (o : Delivery) → ((d : Delivery) → given_tag o ≡ given_tag (get_or os i d)) → (k : ℕ) (d : Delivery) → given_tag (get_or (set os i o) k d) ≡ given_tag (get_or os k d)
tag_stays [] i o e k d = refl
tag_stays (x ∷ xs) zero o e zero d = e d
tag_stays (x ∷ xs) zero o e (suc k) d = refl
tag_stays (x ∷ xs) (suc i) o e zero d = refl
tag_stays (x ∷ xs) (suc i) o e (suc k) d = tag_stays xs i o e k d

pub marked_rises : (os : List Delivery) (i tag : ℕ) (o : Delivery) → IsTagAt os i tag → o.tag ≡ tag → Rises given_tag os → Rises given_tag (set os i (marked o))
marked_rises os i tag o at e rises j k d lt within =
    let same : (x : Delivery) → given_tag (marked o) ≡ given_tag (get_or os i x) = λ x. e ∙ sym (at_given os i tag at x) in
    let l = length-set os i (marked o) in
    let a = tag_stays os i (marked o) same j d in
    let b = tag_stays os i (marked o) same k d in
    let r = rises j k d lt (omega arith) in
    omega arith

-- ---- closed up

pub closed_order : (os : List Delivery) (last : ℕ) → AreInOrder last os → AreInOrder last (waiting os)
closed_order os last order = record {
  rises = AllPairs-filter (λ (a b : Delivery). given_tag a < given_tag b) is_waiting os order.rises;
  most = All-filter is_waiting (λ (o : Delivery). given_tag o ≤ last) os order.most;
}

-- behind what the front passed
pub behind_order : (os : List Delivery) (n last : ℕ) → AreInOrder last os → AreInOrder last (drop n os)
behind_order os n last order = record {
  rises = λ i j d lt within.
      let l = length-drop n os in
      let a = ap given_tag (get_or-drop n os i d) in
      let b = ap given_tag (get_or-drop n os j d) in
      let r = order.rises (n + i) (n + j) d (omega arith) (omega arith) in
      omega arith;
  most = λ k d within. let l = length-drop n os in let a = ap given_tag (get_or-drop n os k d) in let m = order.most (n + k) d (omega arith) in omega arith;
}

pub passed_order : (xs : List Delivery) (start n last : ℕ) → AreInOrder last (drop start xs) → AreInOrder last (drop (start + n) xs)
passed_order xs start n last order = subst (AreInOrder last) (drop-drop n start xs) (behind_order (drop start xs) n last order)

marked_order : (os : List Delivery) (i tag last : ℕ) (o : Delivery) → IsTagAt os i tag → o.tag ≡ tag → AreInOrder last os → AreInOrder last (set os i (marked o))
marked_order os i tag last o at e order = record {
  rises = marked_rises os i tag o at e order.rises;
  most = λ k d within.
      let l = length-set os i (marked o) in
      let a = tag_stays os i (marked o) (λ x. e ∙ sym (at_given os i tag at x)) k d in
      let m = order.most k d (omega arith) in
      omega arith;
}

-- behind the start, once the one that waits at this place is marked
pub marked_behind : (xs new : List Delivery) (start i tag : ℕ) → ((d : Delivery) → new ≡ set xs (start + i) (marked (get_or xs (start + i) d))) → IsTagAt (drop start xs) i tag
    → (waiting (drop start new) ≡ waiting (take i (drop start xs)) ++ waiting (drop (i + 1) (drop start xs))) × ((last : ℕ) → AreInOrder last (drop start xs) → AreInOrder last (drop start new))
marked_behind xs new start i tag is at =
    let live : List Delivery = drop start xs in
    let none : Delivery = record { tag = 0; queue = 0; arrival = 0; by = Get } in
    let o : Delivery = get_or xs (start + i) none in
    let tagged : o.tag ≡ tag = ap tag_of (sym (get_or-drop start xs i none)) ∙ at.there none in
    let moved : drop start new ≡ set live i (marked o) = ap (λ (ys : List Delivery). drop start ys) (is none) ∙ drop-set-add start xs i (marked o) in
    (ap waiting moved ∙ marked_gone live i o at.within, λ last order. subst (AreInOrder last) (sym moved) (marked_order live i tag last o at tagged order))

pub closed_again : (os : List Delivery) → waiting (waiting os) ≡ waiting os
closed_again os = all_pass is_waiting (waiting os) (filter_passes is_waiting os)

pub fewer_wait : (os : List Delivery) → length (waiting os) ≤ length os
fewer_wait os = let a = length-filter is_waiting os in let b = count_by-le-length is_waiting os in omega arith

-- ---- counts

pub counted_waiting : (p : Delivery → Bool) (xs : List Delivery) → count_by (λ o. is_waiting o && p o) xs ≡ count_by p (waiting xs)
counted_waiting p xs = sym (length-filter (λ o. is_waiting o && p o) xs) ∙ lengths xs ∙ length-filter p (waiting xs)
  where
    lengths : (ys : List Delivery) → length (filter (λ o. is_waiting o && p o) ys) ≡ length (filter p (waiting ys))
    lengths [] = refl
    lengths (y ∷ ys) = go (is_waiting y) (p y) refl (lengths ys)
      where
        go : (w b : Bool) → p y ≡ b → length (filter (λ o. is_waiting o && p o) ys) ≡ length (filter p (waiting ys))
            → length (cond (w && b) (y ∷ filter (λ o. is_waiting o && p o) ys) (filter (λ o. is_waiting o && p o) ys)) ≡ length (filter p (cond w (y ∷ waiting ys) (waiting ys)))
        go true true e rest = ap suc rest ∙ ap (λ (t : Bool). length (cond t (y ∷ filter p (waiting ys)) (filter p (waiting ys)))) (sym e)
        go true false e rest = rest ∙ ap (λ (t : Bool). length (cond t (y ∷ filter p (waiting ys)) (filter p (waiting ys)))) (sym e)
        go false b e rest = rest

-- what is taken and what is kept are all
pub taken_count : (os : List Delivery) (tag : ℕ) (multiple : Bool) → length (taken_by tag multiple os) + length (kept tag_of tag multiple os) ≡ length os
taken_count os tag multiple = go (is_refused tag_of tag multiple os)
  where
    t : Delivery → Bool
    t = takes tag_of tag multiple

    go : (b : Bool) → length (cond b [] (filter t os)) + length (cond b os (filter (λ o. not (t o)) os)) ≡ length os
    go true = omega arith
    go false = length-filter_both t (λ o. not (t o)) (λ o. refl) os

-- ---- what is kept

given_end : (o : Delivery) (last : ℕ) → last < o.tag → given_tag o ≡ o.tag
given_end o last lt = waits_is o (waits_by o (λ z. omega arith))

pub order_pushed : (os : List Delivery) (last : ℕ) (o : Delivery) → AreInOrder last os → last < o.tag → AreInOrder o.tag (os ++ o ∷ [])
order_pushed os last o order lt =
    let e = given_end o last lt in record {
      rises = all_pairs_push (λ (a b : Delivery). given_tag a < given_tag b) os o order.rises (λ k d l. let m = order.most k d l in omega arith);
      most = All-push (λ (x : Delivery). given_tag x ≤ o.tag) os o (λ k d l. let m = order.most k d l in omega arith) (omega arith);
    }

pub waiting_pushed : (os : List Delivery) (last : ℕ) (o : Delivery) → last < o.tag → waiting (os ++ o ∷ []) ≡ waiting os ++ o ∷ []
waiting_pushed os last o lt = filter-append is_waiting os (o ∷ []) ∙ ap (λ (b : Bool). waiting os ++ cond b (o ∷ []) []) (waits_by o (λ z. omega arith))

pub kept_pushed : (xs new pushed : List Delivery) (start front count last : ℕ) (o : Delivery) → AreKept xs start count last → front ≤ length new → AreInOrder last (drop front new)
    → waiting (drop front new) ≡ waiting (drop start xs) → length new ≤ length xs → last < o.tag → pushed ≡ new ++ o ∷ [] → AreKept pushed front (count + 1) o.tag
kept_pushed xs new pushed start front count last o kept within order same fewer lt is =
    let d : drop front pushed ≡ drop front new ++ o ∷ [] = ap (λ (ys : List Delivery). drop front ys) is ∙ drop-append-le front new (o ∷ []) within in
    let w : waiting (drop front pushed) ≡ waiting (drop start xs) ++ o ∷ [] = ap waiting d ∙ waiting_pushed (drop front new) last o lt ∙ ap (λ (ys : List Delivery). ys ++ o ∷ []) same in
    let n = ap (λ (ys : List Delivery). length ys) w in
    let a = length-append (waiting (drop start xs)) (o ∷ []) in
    let b = ap (λ (ys : List Delivery). length ys) is in
    let c = length-append new (o ∷ []) in
    let counted = kept.counted in
    let few = kept.few in record {
      within = omega arith;
      order = subst (AreInOrder o.tag) (sym d) (order_pushed (drop front new) last o order lt);
      counted = omega arith;
      few = omega arith;
    }

-- closed up, or as it was
pub kept_closed : (xs new : List Delivery) (start front count last : ℕ) → AreInOrder last (drop start xs) → count ≡ length (waiting (drop start xs)) → front ≤ length new
    → (AreInOrder last (drop start xs) → AreInOrder last (drop front new)) → waiting (drop front new) ≡ waiting (drop start xs) → length new ≤ 2 * count + 32 → AreKept new front count last
kept_closed xs new start front count last order counted within ordered same few = record {
  within = within;
  order = ordered order;
  counted = counted ∙ sym (ap (λ (ys : List Delivery). length ys) same);
  few = few;
}

pub few_closed : (b : Bool) (places new count waits : ℕ) → (b ≡ true → new ≡ waits) → (b ≡ false → places ≤ 2 * count + 32) → new ≤ places → count ≡ waits → new ≤ 2 * count + 32
few_closed true places new count waits closed sparse fewer is = let e = closed refl in omega arith
few_closed false places new count waits closed sparse fewer is = let e = sparse refl in omega arith

-- it is no error
pub on_ok : {T E : Type 0} (r : Result T E) (P : Type 0) → is_err r ≡ false → OnOk r P → P
on_ok (Ok x) P e h = h
on_ok (Err x) P e h = absurd (cc)
