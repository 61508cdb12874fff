-- The numbers of exchanges tell their names.
use Rattle.state_routes.proofs.Names.{◌≡◌, ◌⊎◌, suc, ◌+◌, ◌<◌, ◌≤◌, Bool, true, false, cond, List, [], ◌∷◌, length, refl, sym, ap, subst, ◌∙◌, inl, inr, Some, arith, Decides, not, find, bytes_eq, false≢true, bytes_eq-Decides, Text, IsIn, AreDistinct, exchange_names, Exchange, in_map, node}
use Rattle.exchange_graph.specs.Fans.{exchange_index}

place_same : (xs : List Exchange) (x y : Text) → IsIn x (exchange_names xs) → exchange_index xs x ≡ exchange_index xs y → x ≡ y
place_same [] x y i e = absurd i
place_same (z ∷ zs) x y i e = go (bytes_eq z.name x) (bytes_eq z.name y) (bytes_eq-Decides z.name x) (bytes_eq-Decides z.name y) i e (λ j f. place_same zs x y j f)
  where
    go : (a b : Bool) → Decides a (z.name ≡ x) → Decides b (z.name ≡ y) → (x ≡ z.name) ⊎ IsIn x (exchange_names zs) → cond (not a) (1 + exchange_index zs x) 0 ≡ cond (not b) (1 + exchange_index zs y) 0 → (IsIn x (exchange_names zs) → exchange_index zs x ≡ exchange_index zs y → x ≡ y) → x ≡ y
    go true true d f i e r = sym (d.0 refl) ∙ f.0 refl
    go true false d f i e r = absurd (let h : 0 ≡ 1 + exchange_index zs y = e in omega arith)
    go false true d f i e r = absurd (let h : 1 + exchange_index zs x ≡ 0 = e in omega arith)
    go false false d f (inl s) e r = absurd (false≢true (d.1 (sym s)))
    go false false d f (inr j) e r = r j (let h : 1 + exchange_index zs x ≡ 1 + exchange_index zs y = e in omega arith)

place_within : (xs : List Exchange) (x : Text) → exchange_index xs x ≤ length xs
place_within [] x = omega arith
place_within (z ∷ zs) x = go (bytes_eq z.name x) (place_within zs x)
  where
    go : (a : Bool) → exchange_index zs x ≤ length zs → cond (not a) (1 + exchange_index zs x) 0 ≤ suc (length zs)
    go true h = omega arith
    go false h = omega arith

pub node_within : (xs : List Exchange) (x : Text) → node xs x < length xs + 4
node_within xs [] = omega arith
node_within xs (b ∷ bs) = let h = place_within xs (b ∷ bs) in omega arith

pub node_above : (xs : List Exchange) (x : Text) → 2 ≤ node xs x
node_above xs [] = omega arith
node_above xs (b ∷ bs) = omega arith

-- the number of the default exchange is its own
pub node_default : (xs : List Exchange) (x : Text) → node xs x ≡ 2 → x ≡ []
node_default xs [] e = refl
node_default xs (b ∷ bs) e = absurd (let h : exchange_index xs (b ∷ bs) + 3 ≡ 2 = e in omega arith)

-- the number of an exchange that is there is its own
pub node_same : (xs : List Exchange) (x y : Text) → (IsIn [] (exchange_names xs) → ⊥) → IsIn x (exchange_names xs) → node xs x ≡ node xs y → x ≡ y
node_same xs [] y n i e = absurd (n i)
node_same xs (b ∷ bs) [] n i e = absurd (let h : exchange_index xs (b ∷ bs) + 3 ≡ 2 = e in omega arith)
node_same xs (b ∷ bs) (c ∷ cs) n i e = place_same xs (b ∷ bs) (c ∷ cs) i (let h : exchange_index xs (b ∷ bs) + 3 ≡ exchange_index xs (c ∷ cs) + 3 = e in omega arith)

-- what is found under an exchange's name is the exchange
pub found_same : (xs : List Exchange) (e : Exchange) → AreDistinct (exchange_names xs) → IsIn e xs → find (λ (x : Exchange). bytes_eq x.name e.name) xs ≡ Some e
found_same [] e a i = absurd i
found_same (z ∷ zs) e a i = go (bytes_eq z.name e.name) (bytes_eq-Decides z.name e.name) i (λ j. found_same zs e a.1 j)
  where
    go : (b : Bool) → Decides b (z.name ≡ e.name) → (e ≡ z) ⊎ IsIn e zs → (IsIn e zs → find (λ (x : Exchange). bytes_eq x.name e.name) zs ≡ Some e) → cond b (Some z) (find (λ (x : Exchange). bytes_eq x.name e.name) zs) ≡ Some e
    go true d (inl s) f = ap (λ (v : Exchange). Some v) (sym s)
    go true d (inr j) f = absurd (a.0 (subst (λ (v : Text). IsIn v (exchange_names zs)) (sym (d.0 refl)) (in_map (λ (v : Exchange). v.name) e zs j)))
    go false d (inl s) f = absurd (false≢true (d.1 (ap (λ (v : Exchange). v.name) (sym s))))
    go false d (inr j) f = f j
