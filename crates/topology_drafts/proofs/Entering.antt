-- Names are put behind one another.
use Rattle.std.proofs.Common.{◌≡◌, ℕ, zero, suc, ◌+◌, ◌<◌, List, [], ◌∷◌, ◌++◌, Bool, true, false, cond, not, ◌||◌, length, map, take, drop, get_or, Vec, Global, refl, sym, ap, ◌∙◌, subst, inl, inr}
use Rattle.std.proofs.lemmas.List.{take_more, drop_more, map-append, length-map}
use Rattle.std.proofs.lemmas.Slice.Eq.{bytes_eq-Decides}
use Rattle.std.specs.List.{list_any, position_or_len}
use Rattle.std.specs.Str.{bytes_eq}
use Rattle.std.specs.Prelude.{◌⊎◌, Decides, position, if◌then◌else◌}
use Rattle.model.specs.Words.{Text}
use Rattle.model.specs.Topology.{AreDistinct, IsIn}
use Rattle.topology_drafts.proofs.Members.{in_append, in_right}
use Rattle.topology_drafts.specs.Naming.{AreNames, EntersName}

abbrev pub Key : Type 0
Key = Vec ℕ Global

-- the names that a set holds
abbrev pub held : List Key → List Text
held ks = map (λ (k : Key). k.items) ks

-- ---- looking one up

decides_or : (a b : Bool) (P Q : Type 0) → Decides a P → Decides b Q → Decides (a || b) (P ⊎ Q)
decides_or true b P Q d e = (λ h. inl (d.0 refl), λ h. refl)
decides_or false b P Q d e = (λ h. inr (e.0 h), λ h. (elim h [ inl p ↦ absurd (let z = d.1 p in cc) | inr q ↦ e.1 q ]))

pub is_held : (q : Text) (ks : List Key) → Decides (list_any (λ (k : Key). bytes_eq q k.items) ks) (IsIn q (held ks))
is_held q [] = (λ e. absurd (cc), λ h. absurd h)
is_held q (k ∷ ks) = decides_or (bytes_eq q k.items) (list_any (λ (j : Key). bytes_eq q j.items) ks) (q ≡ k.items) (IsIn q (held ks)) (bytes_eq-Decides q k.items) (is_held q ks)

place_map : {A B : Type 0} (p : B → Bool) (f : A → B) (xs : List A) → position_or_len p (map f xs) ≡ position_or_len (λ (x : A). p (f x)) xs
place_map p f [] = refl
place_map p f (x ∷ xs) = ap (λ (n : ℕ). cond (not (p (f x))) (1 + n) 0) (place_map p f xs)

pub position_map : {A B : Type 0} (p : B → Bool) (f : A → B) (xs : List A) → position p (map f xs) ≡ position (λ (x : A). p (f x)) xs
position_map p f xs = rw (place_map p f xs, length-map xs f) refl

bools_same : (a b : Bool) (P Q : Type 0) → Decides a P → Decides b Q → (P → Q) → (Q → P) → a ≡ b
bools_same true b P Q d e f g = sym (e.1 (f (d.0 refl)))
bools_same false true P Q d e f g = let z = d.1 (g (e.0 refl)) in absurd (cc)
bools_same false false P Q d e f g = refl

turned : (x y : Text) → bytes_eq x y ≡ bytes_eq y x
turned x y = bools_same (bytes_eq x y) (bytes_eq y x) (x ≡ y) (y ≡ x) (bytes_eq-Decides x y) (bytes_eq-Decides y x) (λ e. sym e) (λ e. sym e)

place_turned : {A : Type 0} (name_of : A → Text) (xs : List A) (name : Text) → position_or_len (λ (x : A). bytes_eq name (name_of x)) xs ≡ position_or_len (λ (x : A). bytes_eq (name_of x) name) xs
place_turned name_of [] name = refl
place_turned name_of (x ∷ xs) name = rw (turned name (name_of x), place_turned name_of xs name) refl

-- a name stands where what has it does
pub same_place : {A : Type 0} (name_of : A → Text) (xs : List A) (name : Text) → position (λ (k : Text). bytes_eq name k) (map name_of xs) ≡ position (λ (x : A). bytes_eq (name_of x) name) xs
same_place {A} name_of xs name = position_map (λ (k : Text). bytes_eq name k) name_of xs ∙ rw (place_turned name_of xs name) refl

-- ---- putting one in

enters_at : (k : Key) (old new : List Key) (b added : Bool) → Decides b (IsIn k.items (held old)) → added ≡ not b → new ≡ (if b then old else old ++ k ∷ []) → EntersName k.items (held old) (held new) added
enters_at k old new true added d a e = record { is_new = λ t h. absurd (cc); behind = λ t. absurd (cc); was_there = λ t. d.0 refl }
enters_at k old new false added d a e = record {
  is_new = λ t h. (let z = d.1 h in absurd (cc));
  behind = λ t. ap held e ∙ map-append (λ (j : Key). j.items) old (k ∷ []);
  was_there = λ t. absurd (cc);
}

pub enters : (k : Key) (old new : List Key) (added : Bool) → added ≡ not (list_any (λ (j : Key). bytes_eq k.items j.items) old)
    → new ≡ (if list_any (λ (j : Key). bytes_eq k.items j.items) old then old else old ++ k ∷ []) → EntersName k.items (held old) (held new) added
enters k old new added a e = enters_at k old new (list_any (λ (j : Key). bytes_eq k.items j.items) old) added (is_held k.items old) a e

-- ---- a list of names, one by one

apart_more : (xs : List Text) (x : Text) → AreDistinct xs → (IsIn x xs → ⊥) → AreDistinct (xs ++ x ∷ [])
apart_more [] x a n = (λ h. h, tt)
apart_more (y ∷ ys) x a n = (
  λ h. (elim (in_append ys (x ∷ []) y h) [ inl p ↦ a.0 p | inr q ↦ (elim q [ inl e ↦ n (inl (sym e)) | inr r ↦ r ]) ]),
  apart_more ys x a.1 (λ h. n (inr h)),
)

apart_not : (xs ys : List Text) (x : Text) → IsIn x xs → AreDistinct (xs ++ x ∷ ys) → ⊥
apart_not [] ys x h a = h
apart_not (z ∷ zs) ys x h a = elim h [
  | inl e ↦ a.0 (in_right zs (x ∷ ys) z (inl (sym e)))
  | inr r ↦ apart_not zs ys x r a.1
]

names_at : {A : Type 0} (name_of : A → Text) (xs : List A) (i : ℕ) (x : A) → i < length xs → x ≡ get_or xs i x → map name_of (take (i + 1) xs) ≡ map name_of (take i xs) ++ name_of x ∷ []
names_at {A} name_of xs i x h e =
    ap (map name_of) (take_more xs i x h) ∙ map-append name_of (take i xs) (get_or xs i x ∷ []) ∙ ap (λ (y : A). map name_of (take i xs) ++ name_of y ∷ []) (sym e)

pub names_more : {A : Type 0} (name_of : A → Text) (xs : List A) (i : ℕ) (x : A) (old new : List Text) → i < length xs → x ≡ get_or xs i x → EntersName (name_of x) old new true
    → AreNames old (map name_of (take i xs)) → AreNames new (map name_of (take (i + 1) xs))
names_more name_of xs i x old new h e n a = rw (names_at name_of xs i x h e) (record {
  same = n.behind refl ∙ ap (λ (ns : List Text). ns ++ name_of x ∷ []) a.same;
  distinct = apart_more (map name_of (take i xs)) (name_of x) a.distinct (λ p. n.is_new refl (subst (λ (ns : List Text). IsIn (name_of x) ns) (sym a.same) p));
})

split_at : {A : Type 0} (xs : List A) (i : ℕ) → take i xs ++ drop i xs ≡ xs
split_at xs zero = refl
split_at [] (suc i) = refl
split_at (x ∷ xs) (suc i) = ap (λ ys. x ∷ ys) (split_at xs i)

pub names_repeated : {A : Type 0} (name_of : A → Text) (xs : List A) (i : ℕ) (x : A) (old new : List Text) → i < length xs → x ≡ get_or xs i x → EntersName (name_of x) old new false
    → AreNames old (map name_of (take i xs)) → AreDistinct (map name_of xs) → ⊥
names_repeated {A} name_of xs i x old new h e n a whole =
    let s : drop i xs ≡ x ∷ drop (i + 1) xs = drop_more xs i x h ∙ ap (λ (y : A). y ∷ drop (i + 1) xs) (sym e) in
    let w : map name_of xs ≡ map name_of (take i xs) ++ name_of x ∷ map name_of (drop (i + 1) xs) =
    ap (map name_of) (sym (split_at xs i)) ∙ map-append name_of (take i xs) (drop i xs) ∙ ap (λ (ys : List A). map name_of (take i xs) ++ map name_of ys) s in
    apart_not (map name_of (take i xs)) (map name_of (drop (i + 1) xs)) (name_of x) (subst (λ (ns : List Text). IsIn (name_of x) ns) a.same (n.was_there refl)) (subst AreDistinct w whole)
