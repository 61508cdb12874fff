-- Nodes that are added.
use Rattle.topic_match.proofs.Names.{◌≡◌, ℕ, zero, suc, ◌+◌, ◌-◌, ◌<◌, List, [], ◌∷◌, ◌++◌, Bool, true, false, refl, sym, ap, ◌∙◌, subst, length, take, get_or, set, inl, inr, ltb, arith, replicate, ltb-true, ltb-false, Token, Any, Node, no_node, node_at, beginning, beginning_at, last_token, heads_of, IsDeep, IsFoundBy, IsNode, AreLinked, IsSlotOf, KeepNodes, mark_of, first_slot, bits_of, AreGrown, EndAt}
use Rattle.std.specs.Prelude.{◌⊎◌}
use Rattle.topic_match.proofs.Lists.{take_push}
use Rattle.topic_match.proofs.Slots.{found_more}
use Rattle.topic_match.proofs.Walking.{is_child}

pub front_at : {A : Type 0} (xs ys : List A) (i : ℕ) (d : A) → i < length xs → get_or (xs ++ ys) i d ≡ get_or xs i d
front_at [] ys i d h = absurd (omega (arith, h))
front_at (x ∷ xs) ys zero d h = refl
front_at (x ∷ xs) ys (suc i) d h = front_at xs ys i d (omega (arith, h))

pub last_at : {A : Type 0} (xs : List A) (y : A) (i : ℕ) (d : A) → i ≡ length xs → get_or (xs ++ y ∷ []) i d ≡ y
last_at [] y zero d h = refl
last_at [] y (suc i) d h = absurd (omega (arith, h))
last_at (x ∷ xs) y zero d h = absurd (omega (arith, h))
last_at (x ∷ xs) y (suc i) d h = last_at xs y i d (omega (arith, h))

pub length_push : {A : Type 0} (xs : List A) (y : A) → length (xs ++ y ∷ []) ≡ length xs + 1
length_push [] y = refl
length_push (x ∷ xs) y = let h = length_push xs y in omega (arith, h)

pub below_or : (n i : ℕ) → i < n + 1 → (i < n) ⊎ (i ≡ n)
below_or n i h = at n i h (ltb i n) refl
  where
    at : (n i : ℕ) → i < n + 1 → (v : Bool) → ltb i n ≡ v → (i < n) ⊎ (i ≡ n)
    at n i h true q = inl (ltb-true i n q)
    at n i h false q = inr (let k = ltb-false i n q in omega (arith, h, k))

pub set_here : {A : Type 0} (xs : List A) (i : ℕ) (y d : A) → i < length xs → get_or (set xs i y) i d ≡ y
set_here [] i y d h = absurd (omega (arith, h))
set_here (x ∷ xs) zero y d h = refl
set_here (x ∷ xs) (suc i) y d h = set_here xs i y d (omega (arith, h))

pub set_there : {A : Type 0} (xs : List A) (i j : ℕ) (y d : A) → (i ≡ j → ⊥) → get_or (set xs i y) j d ≡ get_or xs j d
set_there [] i j y d n = refl
set_there (x ∷ xs) zero zero y d n = absurd (n refl)
set_there (x ∷ xs) zero (suc j) y d n = refl
set_there (x ∷ xs) (suc i) zero y d n = refl
set_there (x ∷ xs) (suc i) (suc j) y d n = set_there xs i j y d (λ e. n (ap suc e))

pub set_length : {A : Type 0} (xs : List A) (i : ℕ) (y : A) → length (set xs i y) ≡ length xs
set_length [] i y = refl
set_length (x ∷ xs) zero y = refl
set_length (x ∷ xs) (suc i) y = let h = set_length xs i y in omega (arith, h)

pub same_or : (i j : ℕ) → (i ≡ j) ⊎ (i ≡ j → ⊥)
same_or zero zero = inl refl
same_or zero (suc j) = inr (λ e. omega (arith, e))
same_or (suc i) zero = inr (λ e. omega (arith, e))
same_or (suc i) (suc j) = elim (same_or i j) [ inl e ↦ inl (ap suc e) | inr n ↦ inr (λ e. n (omega (arith, e))) ]

-- one empty slot more
push_zero : (xs : List ℕ) (i : ℕ) → get_or (xs ++ 0 ∷ []) i 0 ≡ get_or xs i 0
push_zero [] zero = refl
push_zero [] (suc i) = refl
push_zero (x ∷ xs) zero = refl
push_zero (x ∷ xs) (suc i) = push_zero xs i

pub record IsAdded (patterns : List (List Token)) (nodes : List Node) (slots : List ℕ) (slot parent pattern depth : ℕ) (more : List Node) (changed : List ℕ) : Type 0 where
  pub nodes_are : more ≡ nodes ++ record { parent = parent; pattern = pattern; depth = depth + 1 } ∷ []
  pub slots_are : changed ≡ set ((slots ++ 0 ∷ []) ++ 0 ∷ []) slot (length nodes)

pub added_grown : (patterns : List (List Token)) (nodes : List Node) (x : Node) → AreGrown patterns nodes (nodes ++ x ∷ [])
added_grown patterns nodes x = record {
  kept = λ c h. let k = length_push nodes x in omega (arith, h, k);
  same = λ c h. ap (λ (z : Node). beginning patterns z) (front_at nodes (x ∷ []) c no_node h);
}

at_default : {A : Type 0} (xs : List A) (i : ℕ) (d : A) → i < length xs → (x : A) → x ≡ get_or xs i d → x ≡ get_or xs i x
at_default [] i d h x e = absurd (omega (arith, h))
at_default (y ∷ xs) zero d h x e = e
at_default (y ∷ xs) (suc i) d h x e = at_default xs i d (omega (arith, h)) x e

pub added_begins : (patterns : List (List Token)) (nodes : List Node) (parent pattern depth : ℕ) → depth < length (get_or patterns pattern [])
    → beginning_at patterns nodes parent ≡ take depth (get_or patterns pattern [])
    → beginning_at patterns (nodes ++ record { parent = parent; pattern = pattern; depth = depth + 1 } ∷ []) (length nodes) ≡ take (depth + 1) (get_or patterns pattern [])
added_begins patterns nodes parent pattern depth h b =
    ap (λ (z : Node). beginning patterns z) (last_at nodes (record { parent = parent; pattern = pattern; depth = depth + 1 }) (length nodes) no_node refl)

pub added_linked : (patterns : List (List Token)) (nodes : List Node) (slots : List ℕ) (slot parent pattern depth : ℕ) (more : List Node) (changed : List ℕ) → AreLinked patterns nodes slots
    → parent < length nodes → pattern < length patterns → depth < length (get_or patterns pattern []) → beginning_at patterns nodes parent ≡ take depth (get_or patterns pattern [])
    → IsSlotOf patterns nodes slots parent (get_or (get_or patterns pattern []) depth Any) slot → get_or slots slot 0 ≡ 0
    → IsAdded patterns nodes slots slot parent pattern depth more changed → AreLinked patterns more changed
added_linked patterns nodes slots slot parent pattern depth more changed l hp hq hd before p empty a =
    subst (λ (zs : List ℕ). AreLinked patterns more zs) (sym a.slots_are) (subst (λ (zs : List Node). AreLinked patterns zs (set ((slots ++ 0 ∷ []) ++ 0 ∷ []) slot (length nodes))) (sym a.nodes_are) (record {
      some = omega (arith, size);
      root = ap (λ (z : Node). z.depth) (old 0 l.some) ∙ l.root;
      heads = let k = l.heads in omega (arith, k, size, wide);
      within = λ s. elim (same_or slot s) [
        | inl e ↦ (let g : get_or filled s 0 ≡ length nodes = subst (λ (j : ℕ). get_or filled j 0 ≡ length nodes) e here_is in omega (arith, g, size))
        | inr n ↦ (let g = there s n in let k = l.within s in omega (arith, g, k, size))
      ];
      later = λ s g. elim (same_or slot s) [
        | inl e ↦ (let q : get_or filled s 0 ≡ length nodes = subst (λ (j : ℕ). get_or filled j 0 ≡ length nodes) e here_is in let w = p.within in let k = l.heads in omega (arith, q, e, w, k, size, wide))
        | inr n ↦ (let q = there s n in let k = l.later s (omega (arith, g, q)) in omega (arith, q, k, size, wide))
      ];
      each = λ c h k. elim (below_or (length nodes) c (omega (arith, k, size))) [ inl m ↦ older c h m | inr e ↦ subst (λ (j : ℕ). IsNode patterns all filled j) (sym e) newer ];
      distinct = λ c d h k e. elim (below_or (length nodes) c (omega (arith, h, size))) [
        | inl m ↦ (elim (below_or (length nodes) d (omega (arith, k, size))) [
          | inl n ↦ l.distinct c d m n (sym (begins c m) ∙ e ∙ begins d n)
          | inr f ↦ absurd (clash c m (sym (begins c m) ∙ e ∙ ap (λ (j : ℕ). beginning_at patterns all j) f ∙ newest))
        ])
        | inr g ↦ (elim (below_or (length nodes) d (omega (arith, k, size))) [
          | inl n ↦ absurd (clash d n (sym (begins d n) ∙ sym e ∙ ap (λ (j : ℕ). beginning_at patterns all j) g ∙ newest))
          | inr f ↦ g ∙ sym f
        ])
      ];
    }))
  where
    pat : List Token
    pat = get_or patterns pattern []

    x : Node
    x = record { parent = parent; pattern = pattern; depth = depth + 1 }

    all : List Node
    all = nodes ++ x ∷ []

    filled : List ℕ
    filled = set ((slots ++ 0 ∷ []) ++ 0 ∷ []) slot (length nodes)

    size : length all ≡ length nodes + 1
    size = length_push nodes x

    wide : length filled ≡ length slots + 2
    wide = let e = set_length ((slots ++ 0 ∷ []) ++ 0 ∷ []) slot (length nodes) in let f = length_push (slots ++ 0 ∷ []) 0 in let g = length_push slots 0 in omega (arith, e, f, g)

    heads_are : heads_of nodes slots ≡ heads_of all filled
    heads_are = let k = l.heads in omega (arith, k, size, wide)

    here_is : get_or filled slot 0 ≡ length nodes
    here_is = set_here ((slots ++ 0 ∷ []) ++ 0 ∷ []) slot (length nodes) 0 (let f = length_push (slots ++ 0 ∷ []) 0 in let g = length_push slots 0 in let w = p.within in omega (arith, f, g, w))

    there : (s : ℕ) → (slot ≡ s → ⊥) → get_or filled s 0 ≡ get_or slots s 0
    there s n = set_there ((slots ++ 0 ∷ []) ++ 0 ∷ []) slot s (length nodes) 0 n ∙ push_zero (slots ++ 0 ∷ []) s ∙ push_zero slots s

    keep : KeepNodes slots filled
    keep s h = there s (λ e. let g : get_or slots s 0 ≡ 0 = subst (λ (j : ℕ). get_or slots j 0 ≡ 0) e empty in omega (arith, g, h))

    old : (c : ℕ) → c < length nodes → node_at all c ≡ node_at nodes c
    old c h = front_at nodes (x ∷ []) c no_node h

    new : node_at all (length nodes) ≡ x
    new = last_at nodes x (length nodes) no_node refl

    begins : (c : ℕ) → c < length nodes → beginning_at patterns all c ≡ beginning_at patterns nodes c
    begins c h = ap (λ (z : Node). beginning patterns z) (old c h)

    tok : Token
    tok = get_or pat depth Any

    last_is : last_token patterns x ≡ tok
    last_is = ap (λ (z : ℕ). get_or pat z Any) (let e : depth + 1 - 1 ≡ depth = omega arith in e)

    grown : take (depth + 1) pat ≡ take depth pat ++ tok ∷ []
    grown = take_push pat depth tok hd (at_default pat depth Any hd tok refl)

    newest : beginning_at patterns all (length nodes) ≡ beginning_at patterns nodes parent ++ tok ∷ []
    newest = ap (λ (z : Node). beginning patterns z) new ∙ grown ∙ ap (λ (z : List Token). z ++ tok ∷ []) (sym before)

    clash : (c : ℕ) → c < length nodes → beginning_at patterns nodes c ≡ beginning_at patterns nodes parent ++ tok ∷ [] → ⊥
    clash c h e = p.none empty c (is_child patterns nodes slots parent c tok l hp h e)

    older : (c : ℕ) → 0 < c → c < length nodes → IsNode patterns all filled c
    older c h m =
        let n = l.each c h m in
        let q = n.parent in
        let o : node_at nodes c ≡ node_at all c = sym (old c m) in
        record {
          deep = subst (λ (z : Node). IsDeep patterns z) o n.deep;
          parent = subst (λ (z : Node). z.parent < c) o n.parent;
          behind = begins c m ∙ n.behind ∙ ap (λ (z : List Token). z ++ last_token patterns (node_at nodes c) ∷ []) (sym (begins (node_at nodes c).parent (omega (arith, q, m))))
              ∙ ap (λ (z : Node). beginning_at patterns all z.parent ++ last_token patterns z ∷ []) o;
          is_found = subst (λ (z : Node). IsFoundBy (heads_of all filled) filled z.parent (last_token patterns z) c) o
              (subst (λ (z : ℕ). IsFoundBy z filled (node_at nodes c).parent (last_token patterns (node_at nodes c)) c) heads_are
              (found_more (heads_of nodes slots) slots filled (first_slot (heads_of nodes slots) (node_at nodes c).parent (mark_of (last_token patterns (node_at nodes c))))
              (bits_of (node_at nodes c).parent (mark_of (last_token patterns (node_at nodes c)))) c keep h n.is_found));
        }

    newer : IsNode patterns all filled (length nodes)
    newer =
        let o : x ≡ node_at all (length nodes) = sym new in
        record {
          deep = subst (λ (z : Node). IsDeep patterns z) o (record { pattern = hq; some = omega arith; within = omega (arith, hd) });
          parent = subst (λ (z : Node). z.parent < length nodes) o hp;
          behind = newest ∙ ap (λ (z : List Token). z ++ tok ∷ []) (sym (begins parent hp)) ∙ ap (λ (z : Token). beginning_at patterns all parent ++ z ∷ []) (sym last_is)
              ∙ ap (λ (z : Node). beginning_at patterns all z.parent ++ last_token patterns z ∷ []) o;
          is_found = subst (λ (z : Node). IsFoundBy (heads_of all filled) filled z.parent (last_token patterns z) (length nodes)) o
              (subst (λ (z : Token). IsFoundBy (heads_of all filled) filled parent z (length nodes)) (sym last_is)
              (subst (λ (z : ℕ). IsFoundBy z filled parent tok (length nodes)) heads_are
              (subst (λ (z : ℕ). IsFoundBy (heads_of nodes slots) filled parent tok z) here_is (p.put filled keep))));
        }

pub grown_twice : (patterns : List (List Token)) (old mid new : List Node) → AreGrown patterns old mid → AreGrown patterns mid new → AreGrown patterns old new
grown_twice patterns old mid new a b = record { kept = λ c h. b.kept c (a.kept c h); same = λ c h. b.same c (a.kept c h) ∙ a.same c h }

-- one pattern more ends
pub ends_more : (patterns : List (List Token)) (old new : List Node) (n node : ℕ) (ends more : List ℕ) → AreGrown patterns old new → node < length new
    → beginning_at patterns new node ≡ get_or patterns n [] → more ≡ ends ++ node ∷ [] → EndAt patterns old n ends → EndAt patterns new (n + 1) more
ends_more patterns old new n node ends more g h e f a = subst (λ (z : List ℕ). EndAt patterns new (n + 1) z) (sym f) (record {
  size = let k = length_push ends node in let s = a.size in omega (arith, k, s);
  within = λ p k. elim (below_or n p k) [
    | inl m ↦ subst (λ (z : ℕ). z < length new) (sym (front_at ends (node ∷ []) p 0 (let s = a.size in omega (arith, m, s)))) (g.kept (get_or ends p 0) (a.within p m))
    | inr q ↦ subst (λ (z : ℕ). z < length new) (sym (last_at ends node p 0 (let s = a.size in omega (arith, q, s)))) h
  ];
  are = λ p k. elim (below_or n p k) [
    | inl m ↦ ap (λ (z : ℕ). beginning_at patterns new z) (front_at ends (node ∷ []) p 0 (let s = a.size in omega (arith, m, s))) ∙ g.same (get_or ends p 0) (a.within p m) ∙ a.are p m
    | inr q ↦ ap (λ (z : ℕ). beginning_at patterns new z) (last_at ends node p 0 (let s = a.size in omega (arith, q, s))) ∙ e ∙ ap (λ (z : ℕ). get_or patterns z []) (sym q)
  ];
})

rep_length : {A : Type 0} (n : ℕ) (x : A) → length (replicate n x) ≡ n
rep_length zero x = refl
rep_length (suc n) x = let h = rep_length n x in omega (arith, h)

rep_at : (n i : ℕ) → ◌≡◌ {A = ℕ} (get_or (replicate n 0) i 0) 0
rep_at zero i = refl
rep_at (suc n) zero = refl
rep_at (suc n) (suc i) = rep_at n i

-- the root alone
pub root_linked : (patterns : List (List Token)) (nodes : List Node) (slots : List ℕ) (n : ℕ) → 2 < n → nodes ≡ no_node ∷ [] → slots ≡ replicate n 0 → AreLinked patterns nodes slots
root_linked patterns nodes slots n h e f =
    subst (λ (z : List ℕ). AreLinked patterns nodes z) (sym f) (subst (λ (z : List Node). AreLinked patterns z (replicate n 0)) (sym e) (record {
      some = omega arith;
      root = refl;
      heads = let k = rep_length {A = ℕ} n 0 in omega (arith, k, h);
      within = λ i. (let k = rep_at n i in omega (arith, k));
      later = λ i g. absurd (let k = rep_at n i in omega (arith, k, g));
      each = λ c i k. absurd (omega (arith, i, k));
      distinct = λ c d i k g. omega (arith, i, k);
    }))

pub no_ends : (patterns : List (List Token)) (nodes : List Node) → EndAt patterns nodes 0 []
no_ends patterns nodes = record { size = refl; within = λ p h. absurd (omega (arith, h)); are = λ p h. absurd (omega (arith, h)) }

pub same_default : {A : Type 0} (xs : List A) (n : ℕ) (d e : A) → n < length xs → get_or xs n d ≡ get_or xs n e
same_default [] n d e h = absurd (omega (arith, h))
same_default (x ∷ xs) zero d e h = refl
same_default (x ∷ xs) (suc n) d e h = same_default xs n d e (omega (arith, h))
