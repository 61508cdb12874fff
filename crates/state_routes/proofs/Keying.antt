-- The texts of patterns tell which patterns there are.
use Rattle.state_routes.proofs.Names.{◌≡◌, ◌⊎◌, Bool, true, false, cond, List, [], ◌∷◌, ◌++◌, refl, sym, ap, subst, inl, inr, Decides, ◌||◌, list_any, false≢true, Text, IsIn, Tracked, appended_if_new, same_tracked, ExchangeKind, Direct, Fanout, Topic, same_tracked_tells, ByKind, AreKeysOf, texts_by, with_text, in_front, in_back, in-append}

abbrev pub pattern : ExchangeKind → Text → Tracked
pattern kind text = record { kind = kind; text = text }

-- ---- whether a pattern is there

there : (p : Tracked) (ps : List Tracked) → IsIn p ps → list_any (same_tracked p) ps ≡ true
there p [] i = absurd i
there p (q ∷ qs) i = go (same_tracked p q) (same_tracked_tells p q) i (λ j. there p qs j)
  where
    go : (v : Bool) → Decides v (p ≡ q) → (p ≡ q) ⊎ IsIn p qs → (IsIn p qs → list_any (same_tracked p) qs ≡ true) → (v || list_any (same_tracked p) qs) ≡ true
    go true d j f = refl
    go false d (inl s) f = absurd (false≢true (d.1 s))
    go false d (inr j) f = f j

not_there : (p : Tracked) (ps : List Tracked) → (IsIn p ps → ⊥) → list_any (same_tracked p) ps ≡ false
not_there p [] n = refl
not_there p (q ∷ qs) n = go (same_tracked p q) (same_tracked_tells p q) (not_there p qs (λ j. n (inr j)))
  where
    go : (v : Bool) → Decides v (p ≡ q) → list_any (same_tracked p) qs ≡ false → (v || list_any (same_tracked p) qs) ≡ false
    go true d e = absurd (n (inl (d.0 refl)))
    go false d e = e

-- a pattern that is there is not added
pub stays : (keys : ByKind) (ps : List Tracked) (kind : ExchangeKind) (text : Text) → AreKeysOf keys ps → IsIn text (texts_by keys kind) → ps ≡ appended_if_new same_tracked ps (pattern kind text)
stays keys ps kind text k i = subst (λ (v : Bool). ps ≡ cond v ps (ps ++ pattern kind text ∷ [])) (sym (there (pattern kind text) ps ((k kind text).0 i))) refl

-- one that is not there is
pub grows : (keys : ByKind) (ps : List Tracked) (kind : ExchangeKind) (text : Text) → AreKeysOf keys ps → (IsIn text (texts_by keys kind) → ⊥) → ps ++ pattern kind text ∷ [] ≡ appended_if_new same_tracked ps (pattern kind text)
grows keys ps kind text k n = subst (λ (v : Bool). ps ++ pattern kind text ∷ [] ≡ cond v ps (ps ++ pattern kind text ∷ [])) (sym (not_there (pattern kind text) ps (λ j. n ((k kind text).1 j)))) refl

-- ---- one more

no_keys : (kind : ExchangeKind) (text : Text) → IsIn text (texts_by (record { direct = []; fanout = []; topic = [] }) kind) → ⊥
no_keys Direct text i = i
no_keys Fanout text i = i
no_keys Topic text i = i

pub none_known : (keys : ByKind) (ps : List Tracked) → keys ≡ record { direct = []; fanout = []; topic = [] } → ps ≡ [] → AreKeysOf keys ps
none_known keys ps e f kind text = (
  (λ i. absurd (no_keys kind text (subst (λ (z : ByKind). IsIn text (texts_by z kind)) e i))),
  (λ i. absurd (subst (λ (z : List Tracked). IsIn (pattern kind text) z) f i)),
)

-- a text among those of a kind that has one more
one_with : (kind : ExchangeKind) (text t : Text) (texts : List Text) → IsIn t (texts ++ text ∷ []) → IsIn t texts ⊎ (pattern kind t ≡ pattern kind text)
one_with kind text t texts i = elim (in-append t texts (text ∷ []) i) [
  | inl j ↦ inl j
  | inr j ↦ elim j [ inl e ↦ inr (ap (pattern kind) e) | inr n ↦ absurd n ]
]

-- the texts of each kind, where one has one more
from_with : (keys : ByKind) (kind other : ExchangeKind) (text t : Text) → IsIn t (texts_by (with_text keys kind text) other) → IsIn t (texts_by keys other) ⊎ (pattern other t ≡ pattern kind text)
from_with keys Direct Direct text t i = one_with Direct text t keys.direct i
from_with keys Direct Fanout text t i = inl i
from_with keys Direct Topic text t i = inl i
from_with keys Fanout Direct text t i = inl i
from_with keys Fanout Fanout text t i = one_with Fanout text t keys.fanout i
from_with keys Fanout Topic text t i = inl i
from_with keys Topic Direct text t i = inl i
from_with keys Topic Fanout text t i = inl i
from_with keys Topic Topic text t i = one_with Topic text t keys.topic i

still_with : (keys : ByKind) (kind other : ExchangeKind) (text t : Text) → IsIn t (texts_by keys other) → IsIn t (texts_by (with_text keys kind text) other)
still_with keys Direct Direct text t i = in_front t keys.direct (text ∷ []) i
still_with keys Direct Fanout text t i = i
still_with keys Direct Topic text t i = i
still_with keys Fanout Direct text t i = i
still_with keys Fanout Fanout text t i = in_front t keys.fanout (text ∷ []) i
still_with keys Fanout Topic text t i = i
still_with keys Topic Direct text t i = i
still_with keys Topic Fanout text t i = i
still_with keys Topic Topic text t i = in_front t keys.topic (text ∷ []) i

new_with : (keys : ByKind) (kind : ExchangeKind) (text : Text) → IsIn text (texts_by (with_text keys kind text) kind)
new_with keys Direct text = in_back text keys.direct (text ∷ []) (inl refl)
new_with keys Fanout text = in_back text keys.fanout (text ∷ []) (inl refl)
new_with keys Topic text = in_back text keys.topic (text ∷ []) (inl refl)

pub one_known : (keys new : ByKind) (ps more : List Tracked) (kind : ExchangeKind) (text : Text) → AreKeysOf keys ps → new ≡ with_text keys kind text → more ≡ ps ++ pattern kind text ∷ [] → AreKeysOf new more
one_known keys new ps more kind text k e f = subst (λ (z : ByKind). AreKeysOf z more) (sym e) (subst (λ (z : List Tracked). AreKeysOf (with_text keys kind text) z) (sym f) both)
  where
    back : (other : ExchangeKind) (t : Text) → IsIn (pattern other t) (ps ++ pattern kind text ∷ []) → IsIn t (texts_by (with_text keys kind text) other)
    back other t i = elim (in-append (pattern other t) ps (pattern kind text ∷ []) i) [
      | inl j ↦ still_with keys kind other text t ((k other t).1 j)
      | inr j ↦ elim j [
        | inl s ↦ subst (λ (z : Tracked). IsIn z.text (texts_by (with_text keys kind text) z.kind)) (sym s) (new_with keys kind text)
        | inr n ↦ absurd n
      ]
    ]

    both : AreKeysOf (with_text keys kind text) (ps ++ pattern kind text ∷ [])
    both other t = (
      (λ i. elim (from_with keys kind other text t i) [
        | inl j ↦ in_front (pattern other t) ps (pattern kind text ∷ []) ((k other t).0 j)
        | inr s ↦ in_back (pattern other t) ps (pattern kind text ∷ []) (inl s)
      ]),
      back other t,
    )

pub is_among : (keys : ByKind) (kind : ExchangeKind) (text : Text) (new : ByKind) → new ≡ with_text keys kind text → IsIn text (texts_by new kind)
is_among keys kind text new e = subst (λ (z : ByKind). IsIn text (texts_by z kind)) (sym e) (new_with keys kind text)
