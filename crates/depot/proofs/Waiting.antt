-- Between what is settled are the places of what was settled before: a loop passes them.
use Rattle.depot.proofs.Names.{◌≡◌, ℕ, zero, suc, ◌+◌, ◌<◌, List, [], ◌∷◌, ◌++◌, Bool, true, false, cond, ap, subst, ◌∙◌, length, get_or, take, drop, arith, drop_more, take_more, is_waiting, waiting, AreOf, Delivery}
use Rattle.std.proofs.lemmas.List.Elements.{filter-append}
use Rattle.model.specs.declared.messages.Taker.TheVariants as taker

-- what is told of a place behind the last
abbrev pub nothing : Delivery
nothing = record { tag = 0; queue = 0; arrival = 0; by = taker.Get }

-- what waits from this one on
pub next_waiting : (gone : List Delivery) (i : ℕ) (d : Delivery) (b : Bool) → i < length gone → is_waiting (get_or gone i d) ≡ b
    → waiting (drop i gone) ≡ cond b (get_or gone i d ∷ waiting (drop (i + 1) gone)) (waiting (drop (i + 1) gone))
next_waiting gone i d b lt w = ap waiting (drop_more gone i d lt) ∙ ap (λ (t : Bool). cond t (get_or gone i d ∷ waiting (drop (i + 1) gone)) (waiting (drop (i + 1) gone))) w

-- what waits up to this one
pub waiting_more : (gone : List Delivery) (i : ℕ) (d : Delivery) (b : Bool) → i < length gone → is_waiting (get_or gone i d) ≡ b
    → waiting (take (i + 1) gone) ≡ waiting (take i gone) ++ cond b (get_or gone i d ∷ []) []
waiting_more gone i d b lt w =
    ap waiting (take_more gone i d lt) ∙ filter-append is_waiting (take i gone) (get_or gone i d ∷ [])
    ∙ ap (λ (t : Bool). waiting (take i gone) ++ cond t (get_or gone i d ∷ []) []) w

-- one that waits was given out from one of `count` queues, if all that wait were
pub of_next : (first count : ℕ) (gone : List Delivery) (i : ℕ) (d : Delivery) → AreOf first (waiting gone) → count ≡ first → i < length gone → is_waiting (get_or gone i d) ≡ true → (get_or gone i d).queue < count
of_next first count [] i d within same lt w = absurd (omega arith)
of_next first count (x ∷ xs) zero d within same lt w = let at = subst (λ (ys : List Delivery). AreOf first ys) (ap (λ (b : Bool). cond b (x ∷ waiting xs) (waiting xs)) w) within zero d (omega arith) in omega (arith, at, same)
of_next first count (x ∷ xs) (suc i) d within same lt w = of_next first count xs i d (rest (is_waiting x) within) same (omega arith) w
  where
    rest : (b : Bool) → AreOf first (cond b (x ∷ waiting xs) (waiting xs)) → AreOf first (waiting xs)
    rest true all = λ k e l. all (suc k) e (omega arith)
    rest false all = all
