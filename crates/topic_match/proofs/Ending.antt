-- The places at nodes, and those that are found.
use Rattle.topic_match.proofs.Names.{◌≡◌, ℕ, zero, suc, ◌+◌, ◌<◌, List, [], ◌∷◌, ◌++◌, Bool, true, false, cond, refl, sym, ap, ◌∙◌, subst, length, take, get_or, set, inl, inr, arith, append-nil, false≢true, IsIn, Met, AreEnding, AreSound, IsFound, AreFound, AllDistinct, nodes_of}
use Rattle.std.specs.Prelude.{◌⊎◌}
use Rattle.topic_match.proofs.Lists.{in_front, in_back, in_two, in_push, apart_two, in_at, take_push}
use Rattle.topic_match.proofs.Grown.{set_here, set_there, set_length, same_or, below_or}

pub ending_more : (ends : List ℕ) (count n node : ℕ) (lists new : List (List ℕ)) → node ≡ get_or ends n 0 → node < count → new ≡ set lists node (get_or lists node [] ++ n ∷ [])
    → AreEnding ends count n lists → AreEnding ends count (n + 1) new
ending_more ends count n node lists new e h f a =
    let more = get_or lists node [] ++ n ∷ [] in
    let within : node < length lists = (let s = a.size in omega (arith, s, h)) in
    let at_node : get_or (set lists node more) node [] ≡ more = set_here lists node more [] within in
    let in_more : (c p : ℕ) → IsIn p (get_or (set lists node more) c []) → IsIn p (get_or lists c []) ⊎ ((p ≡ n) × (node ≡ c)) = λ c p i. elim (same_or node c) [
      | inl q ↦ (elim (in_push (get_or lists node []) n p (subst (λ (z : List ℕ). IsIn p z) (ap (λ (z : ℕ). get_or (set lists node more) z []) (sym q) ∙ at_node) i)) [
        | inl k ↦ inl (subst (λ (z : ℕ). IsIn p (get_or lists z [])) q k)
        | inr k ↦ inr (k, q)
      ])
      | inr m ↦ inl (subst (λ (z : List ℕ). IsIn p z) (set_there lists node c more [] m) i)
    ] in
    let stays : (c p : ℕ) → IsIn p (get_or lists c []) → IsIn p (get_or (set lists node more) c []) = λ c p i. elim (same_or node c) [
      | inl q ↦ subst (λ (z : List ℕ). IsIn p z) (sym (ap (λ (z : ℕ). get_or (set lists node more) z []) (sym q) ∙ at_node))
          (in_front (get_or lists node []) (n ∷ []) p (subst (λ (z : ℕ). IsIn p (get_or lists z [])) (sym q) i))
      | inr m ↦ subst (λ (z : List ℕ). IsIn p z) (sym (set_there lists node c more [] m)) i
    ] in
    subst (λ (z : List (List ℕ)). AreEnding ends count (n + 1) z) (sym f) (record {
      size = set_length lists node more ∙ a.size;
      distinct = λ c. elim (same_or node c) [
        | inl q ↦ subst (λ (z : List ℕ). AllDistinct z) (sym (ap (λ (z : ℕ). get_or (set lists node more) z []) (sym q) ∙ at_node))
            (apart_two (get_or lists node []) (n ∷ []) (a.distinct node) ((λ i. i), tt)
            (λ p i j. elim j [ inl k ↦ (let b = (a.only node p i).0 in omega (arith, b, k)) | inr k ↦ k ]))
        | inr m ↦ subst (λ (z : List ℕ). AllDistinct z) (sym (set_there lists node c more [] m)) (a.distinct c)
      ];
      only = λ c p i. elim (in_more c p i) [
        | inl k ↦ (let b = a.only c p k in let d = b.0 in (omega (arith, d), b.1))
        | inr k ↦ (let d = k.0 in omega (arith, d), ap (λ (z : ℕ). get_or ends z 0) k.0 ∙ sym e ∙ k.1)
      ];
      all = λ p h'. elim (below_or n p h') [
        | inl k ↦ stays (get_or ends p 0) p (a.all p k)
        | inr k ↦ subst (λ (z : ℕ). IsIn z (get_or (set lists node more) (get_or ends z 0) [])) (sym k)
            (subst (λ (z : ℕ). IsIn n (get_or (set lists node more) z [])) e (subst (λ (z : List ℕ). IsIn n z) (sym at_node) (in_back (get_or lists node []) (n ∷ []) n (inl refl))))
      ];
    })

pub met_node : (xs : List Met) (m : Met) → IsIn m xs → IsIn m.node (nodes_of xs)
met_node [] m h = absurd h
met_node (x ∷ xs) m h = elim h [ inl e ↦ inl (ap (λ (z : Met). z.node) e) | inr r ↦ inr (met_node xs m r) ]

new_node : (xs : List Met) (n : ℕ) (x y : Met) → AllDistinct (nodes_of xs) → n < length xs → x ≡ get_or xs n x → IsIn y (take n xs) → y.node ≡ x.node → ⊥
new_node [] n x y a h e i f = omega (arith, h)
new_node (z ∷ xs) zero x y a h e i f = i
new_node (z ∷ xs) (suc n) x y a h e i f = elim i [
  | inl g ↦ a.0 (subst (λ (k : ℕ). IsIn k (nodes_of xs)) (sym f ∙ ap (λ (k : Met). k.node) g) (met_node xs x (in_at xs n x (omega (arith, h)) e)))
  | inr r ↦ new_node xs n x y a.1 (omega (arith, h)) e r f
]

pub found_more : (lists : List (List ℕ)) (met : List Met) (n at : ℕ) (m : Met) (found new : List ℕ) → AreSound lists met n → at < length met → m ≡ get_or met at m
    → new ≡ found ++ cond (get_or m.counts.items n false) (get_or lists m.node []) [] → AreFound lists (take at met) n found → AreFound lists (take (at + 1) met) n new
found_more lists met n at m found new s h e f a =
    subst (λ (z : List Met). AreFound lists z n new) (sym (take_push met at m h e)) (go (get_or m.counts.items n false) refl f)
  where
    front : (p : ℕ) → IsFound lists (take at met) n p → IsFound lists (take at met ++ m ∷ []) n p
    front p i = record { at = i.at; is_met = in_front (take at met) (m ∷ []) i.at i.is_met; matches = i.matches; ends = i.ends }

    go : (v : Bool) → get_or m.counts.items n false ≡ v → new ≡ found ++ cond v (get_or lists m.node []) [] → AreFound lists (take at met ++ m ∷ []) n new
    go true g k = subst (λ (z : List ℕ). AreFound lists (take at met ++ m ∷ []) n z) (sym k) (record {
      distinct = apart_two found (get_or lists m.node []) a.distinct (s.each m.node)
          (λ p i j. let q = a.only p i in new_node met at m q.at s.distinct h e q.is_met (s.own q.at.node m.node p q.ends j));
      only = λ p i. elim (in_two found (get_or lists m.node []) p i) [
        | inl j ↦ front p (a.only p j)
        | inr j ↦ record { at = m; is_met = in_back (take at met) (m ∷ []) m (inl refl); matches = g; ends = j }
      ];
      all = λ p i. elim (in_push (take at met) m i.at i.is_met) [
        | inl j ↦ in_front found (get_or lists m.node []) p (a.all p (record { at = i.at; is_met = j; matches = i.matches; ends = i.ends }))
        | inr j ↦ in_back found (get_or lists m.node []) p (subst (λ (z : Met). IsIn p (get_or lists z.node [])) j i.ends)
      ];
    })
    go false g k = subst (λ (z : List ℕ). AreFound lists (take at met ++ m ∷ []) n z) (sym (k ∙ append-nil found)) (record {
      distinct = a.distinct;
      only = λ p i. front p (a.only p i);
      all = λ p i. elim (in_push (take at met) m i.at i.is_met) [
        | inl j ↦ a.all p (record { at = i.at; is_met = j; matches = i.matches; ends = i.ends })
        | inr j ↦ absurd (false≢true (sym g ∙ subst (λ (z : Met). get_or z.counts.items n false ≡ true) j i.matches))
      ];
    })
