-- A key is covered where the pattern matches it and none takes it out.
use Rattle.guarantees.proofs.Names.{◌≡◌, ℕ, Bool, true, false, List, [], ◌∷◌, refl, inl, inr, subst, sym, ◌∙◌, drop, Decides, not, bytes_eq, bytes_eq-Decides, AllByRecursion, Text, words, tokens, Matches, IsIn, Guarantee, Covers, KeepsIn}
use Rattle.std.specs.Prelude.{◌&&◌}
use Rattle.std.proofs.lemmas.Bool.{false≢true}

-- all keep the key in exactly where those from this place on do
pub record AllKeepFrom (excepts : List Text) (key : Text) (i : ℕ) : Type 0 where
  pub whole : AllByRecursion (KeepsIn key) (drop i excepts) → AllByRecursion (KeepsIn key) excepts
  pub part : AllByRecursion (KeepsIn key) excepts → AllByRecursion (KeepsIn key) (drop i excepts)

each_keeps : (es : List Text) (key e : Text) → AllByRecursion (KeepsIn key) es → IsIn e es → KeepsIn key e
each_keeps [] key e a i = absurd i
each_keeps (d ∷ es) key e a (inl s) = subst (KeepsIn key) (sym s) a.0
each_keeps (d ∷ es) key e a (inr i) = each_keeps es key e a.1 i

all_keep : (es : List Text) (key : Text) → ((e : Text) → IsIn e es → KeepsIn key e) → AllByRecursion (KeepsIn key) es
all_keep [] key f = tt
all_keep (e ∷ es) key f = (f e (inl refl), all_keep es key (λ d i. f d (inr i)))

pub covers_by : (g : Guarantee) (x key : Text) (a b : Bool) → x ≡ g.exchange → Decides a (Matches (tokens (words g.pattern)) (words key)) → Decides b (AllByRecursion (KeepsIn key) g.excepts) → Decides (a && b) (Covers g x key)
covers_by g x key true true e d f = (λ h. (e, record { pattern = d.0 refl; kept_in = λ y i. each_keeps g.excepts key y (f.0 refl) i }), λ h. refl)
covers_by g x key true false e d f = (λ h. absurd (false≢true h), λ c. f.1 (all_keep g.excepts key c.1.kept_in))
covers_by g x key false b e d f = (λ h. absurd (false≢true h), λ c. d.1 c.1.pattern)

-- two texts that do not differ
pub same_by : (a b : Text) (v : Bool) → v ≡ not (bytes_eq a b) → v ≡ false → a ≡ b
same_by a b v e f = go (bytes_eq a b) (bytes_eq-Decides a b) e
  where
    go : (w : Bool) → Decides w (a ≡ b) → v ≡ not w → a ≡ b
    go true d h = d.0 refl
    go false d h = absurd (false≢true (sym f ∙ h))
