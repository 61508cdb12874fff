-- Users, one by one.
use Rattle.definitions.proofs.Imports.{◌≡◌, ℕ, ◌+◌, ◌<◌, ◌≤◌, List, [], ◌∷◌, ◌++◌, Option, Some, length, map, take, drop, get_or, refl, sym, ap, ◌∙◌, subst, append_assoc, append-nil, All, IsSome, Text, User, UserEntry, hash_of, user_of, AreHashed}
use Rattle.std.proofs.lemmas.List.{drop_more, at_drop_all}
use Rattle.definitions.proofs.Alls.{all_more, all_taken}

is_hashed : (e : UserEntry) (o : Option Text) (h : Text) → o ≡ hash_of e → o ≡ Some h → IsSome (hash_of e)
is_hashed e o h p q = subst (λ (z : Option Text). IsSome z) (sym q ∙ p) refl

is_user : (e : UserEntry) (o : Option Text) (name h : Text) → o ≡ hash_of e → o ≡ Some h → name ≡ e.name → user_of e ≡ record { name = name; hash = h }
is_user e o name h p q n = rw (n, ← p, q) refl

-- what is so far read of some entries
pub record AreSoFar (entries : List UserEntry) (i : ℕ) (made : List User) : Type 0 where
  pub hashed : All (λ (u : UserEntry). IsSome (hash_of u)) (take i entries)
  pub are : made ++ map user_of (drop i entries) ≡ map user_of entries

pub one_more : (entries : List UserEntry) (i : ℕ) (e : UserEntry) (made : List User) (o : Option Text) (name h : Text) → i < length entries → e ≡ get_or entries i e
    → o ≡ hash_of e → o ≡ Some h → name ≡ e.name → AreSoFar entries i made → AreSoFar entries (i + 1) (made ++ record { name = name; hash = h } ∷ [])
one_more entries i e made o name h l g p q n s = record {
  hashed = all_more (λ (u : UserEntry). IsSome (hash_of u)) entries i e l g (is_hashed e o h p q) s.hashed;
  are =
      append_assoc made (record { name = name; hash = h } ∷ []) (map user_of (drop (i + 1) entries))
      ∙ ap (λ (u : User). made ++ u ∷ map user_of (drop (i + 1) entries)) (sym (is_user e o name h p q n))
      ∙ ap (λ (x : UserEntry). made ++ user_of x ∷ map user_of (drop (i + 1) entries)) g
      ∙ ap (λ (xs : List UserEntry). made ++ map user_of xs) (sym (drop_more entries i e l))
      ∙ s.are;
}

pub all_read : (entries : List UserEntry) (i : ℕ) (made : List User) → length entries ≤ i → AreSoFar entries i made → AreHashed entries made
all_read entries i made l s = record {
  hashed = all_taken (λ (u : UserEntry). IsSome (hash_of u)) entries i l s.hashed;
  are =
      sym (append-nil made)
      ∙ ap (λ (xs : List UserEntry). made ++ map user_of xs) (sym (at_drop_all (λ (xs : List UserEntry). xs) entries i l))
      ∙ s.are;
}
