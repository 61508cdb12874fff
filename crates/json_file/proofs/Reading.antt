-- Members and elements, one by one.
use Rattle.json_file.proofs.Names.{◌≡◌, ℕ, ◌+◌, ◌<◌, ◌≤◌, List, [], ◌∷◌, ◌++◌, not, ◌==◌, Vec, vec_len, Option, Some, None, option_map, length, map, drop, get_or, String, Global, Bor, string_bytes, refl, sym, ap, ◌∙◌, subst, arith, append_assoc, append-nil, Data, null, boolean, number, string, array, object, view, items_view, members_view, FailsJson, FileCause, Malformed, fills, has_only, named_among}
use Rattle.std.proofs.lemmas.List.{drop_more, at_drop_all}
use Rattle.std.proofs.Math.Dec.{eqb-suc-zero}
use Rattle.std.specs.List.{list_all, list_any}
use Rattle.std.specs.Map.{keys_of}
use Rattle.std.specs.Str.{bytes_eq}
use Rattle.serde_json.specs.Find.{as_object}
use Rattle.serde_json.specs.declared.value.Value.{Value}
use Rattle.json_file.specs.Members.{each}

-- a reason that follows from another
pub fails_then : (e : FileCause) (P Q : Type 0) → (P → Q) → FailsJson e P → FailsJson e Q
fails_then Malformed P Q f h = f h
fails_then _ P Q f h = h

-- ---- the names of an object's members

any_of : (names : List (Bor (List ℕ))) (k : List ℕ) → list_any (λ n. bytes_eq n.now k) names ≡ list_any (λ n. bytes_eq n k) (map (λ n. n.now) names)
any_of [] k = refl
any_of (n ∷ names) k = rw (any_of names k)

among : (names : List (Bor (List ℕ))) (es : List (String Global × Value)) → list_all (λ k. list_any (λ n. bytes_eq n.now (string_bytes k)) names) (keys_of es) ≡ named_among (map (λ n. n.now) names) (members_view es)
among names [] = refl
among names (e ∷ es) = rw (any_of names (string_bytes e.0), among names es)

pub only_of : (names : List (Bor (List ℕ))) (d : Data) (es : List (String Global × Value)) → Some (members_view es) ≡ as_object d
    → list_all (λ k. list_any (λ n. bytes_eq n.now (string_bytes k)) names) (keys_of es) ≡ has_only (map (λ n. n.now) names) d
only_of names null es e = absurd (cc)
only_of names (boolean b) es e = absurd (cc)
only_of names (number n) es e = absurd (cc)
only_of names (string s) es e = absurd (cc)
only_of names (array ds) es e = absurd (cc)
only_of names (object ms) es e = let q : members_view es ≡ ms = cc in among names es ∙ ap (named_among (map (λ n. n.now) names)) q

-- ---- the elements of an array

fills_if : (vs : List Value) (n : ℕ) → n ≡ length vs → fills (items_view vs) ≡ not (n == 0)
fills_if [] n e = rw e refl
fills_if (v ∷ vs) n e = rw (e, eqb-suc-zero (length vs)) refl

pub fills_of : (v : Vec Value Global) → fills (items_view v.items) ≡ not (vec_len v == 0)
fills_of v = fills_if v.items (vec_len v) (omega (arith, v.ok.0))

-- what was read, before what is read of the rest
abbrev pub with_front : {A : Type 0} → List A → Option (List A) → Option (List A)
with_front front o = option_map (λ xs. front ++ xs) o

front_more : {A : Type 0} (front : List A) (x : A) (o : Option (List A)) → with_front front (option_map (λ xs. x ∷ xs) o) ≡ with_front (front ++ x ∷ []) o
front_more front x None = refl
front_more front x (Some xs) = ap (λ ys. Some ys) (sym (append_assoc front (x ∷ []) xs))

pub each_none : {A : Type 0} (reads : Data → Option A) (front : List A) (vs : List Value) (i : ℕ) (v : Value) → i < length vs → v ≡ get_or vs i v → reads (view v) ≡ None
    → with_front front (each reads (items_view (drop i vs))) ≡ None
unfolding each
each_none reads front vs i v h e n =
    let n' : reads (view (get_or vs i v)) ≡ None = subst (λ (w : Value). reads (view w) ≡ None) e n in
    rw (drop_more vs i v h, n') refl

pub each_more : {A : Type 0} (reads : Data → Option A) (front : List A) (vs : List Value) (i : ℕ) (v : Value) (x : A) → i < length vs → v ≡ get_or vs i v → reads (view v) ≡ Some x
    → with_front front (each reads (items_view (drop i vs))) ≡ with_front (front ++ x ∷ []) (each reads (items_view (drop (i + 1) vs)))
unfolding each
each_more reads front vs i v x h e n =
    let n' : reads (view (get_or vs i v)) ≡ Some x = subst (λ (w : Value). reads (view w) ≡ Some x) e n in
    rw (drop_more vs i v h, n') (front_more front x (each reads (items_view (drop (i + 1) vs))))

pub each_done : {A : Type 0} (reads : Data → Option A) (front : List A) (vs : List Value) (i : ℕ) → length vs ≤ i → with_front front (each reads (items_view (drop i vs))) ≡ Some front
unfolding each
each_done reads front vs i h =
    let e : drop i vs ≡ [] = at_drop_all (λ (xs : List Value). xs) vs i h in
    rw (e, append-nil front) refl
