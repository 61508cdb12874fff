-- By which tokens nodes go on.
use Rattle.topic_match.proofs.Names.{◌≡◌, ℕ, ◌+◌, ◌<◌, List, true, false, refl, sym, ◌∙◌, subst, length, get_or, set, inl, inr, arith, false≢true, Token, Word, One, Any, Node, AreLinked, IsChild, node_at, last_token, no_node, AreDeep, AreExits, has_exit, no_exit, with_exit}
use Rattle.topic_match.specs.declared.nodes.Exits.{Exits}
use Rattle.topic_match.proofs.Grown.{set_here, set_there, set_length, same_or, below_or, same_default}

pub linked_deep : (patterns : List (List Token)) (nodes : List Node) (slots : List ℕ) → AreLinked patterns nodes slots → AreDeep patterns nodes
linked_deep patterns nodes slots l = record { deep = λ c a b. (l.each c a b).deep; parent = λ c a b. (l.each c a b).parent }

has_new : (exits : Exits) (t : Token) → has_exit (with_exit exits t) t ≡ true
has_new exits (Word w) = refl
has_new exits One = refl
has_new exits Any = refl

has_kept : (exits : Exits) (t u : Token) → has_exit exits u ≡ true → has_exit (with_exit exits t) u ≡ true
has_kept exits (Word w) (Word v) h = refl
has_kept exits (Word w) One h = h
has_kept exits (Word w) Any h = h
has_kept exits One (Word v) h = h
has_kept exits One One h = refl
has_kept exits One Any h = h
has_kept exits Any (Word v) h = h
has_kept exits Any One h = h
has_kept exits Any Any h = refl

-- no node comes from the first one alone
pub exits_none : (patterns : List (List Token)) (nodes : List Node) (exits : List Exits) → length exits ≡ length nodes → AreExits patterns nodes 1 exits
exits_none patterns nodes exits h = record { size = h; each = λ c a b. absurd (omega (arith, a, b)) }

pub exits_more : (patterns : List (List Token)) (nodes : List Node) (n : ℕ) (x : Node) (old new : List Exits) → n < length nodes → x ≡ get_or nodes n x → x.parent < length old
    → new ≡ set old x.parent (with_exit (get_or old x.parent no_exit) (last_token patterns x)) → AreExits patterns nodes n old → AreExits patterns nodes (n + 1) new
exits_more patterns nodes n x old new h e w f a =
    let more = with_exit (get_or old x.parent no_exit) (last_token patterns x) in
    let here : get_or (set old x.parent more) x.parent no_exit ≡ more = set_here old x.parent more no_exit w in
    let is : node_at nodes n ≡ x = same_default nodes n no_node x h ∙ sym e in
    subst (λ (z : List Exits). AreExits patterns nodes (n + 1) z) (sym f) (record {
      size = set_length old x.parent more ∙ a.size;
      each = λ c p q. elim (below_or n c q) [
        | inl b ↦
            let was = a.each c p b in
            elim (same_or x.parent (node_at nodes c).parent) [
              | inl s ↦ subst (λ (z : ℕ). has_exit (get_or (set old x.parent more) z no_exit) (last_token patterns (node_at nodes c)) ≡ true) s
                  (subst (λ (z : Exits). has_exit z (last_token patterns (node_at nodes c)) ≡ true) (sym here)
                  (has_kept (get_or old x.parent no_exit) (last_token patterns x) (last_token patterns (node_at nodes c))
                  (subst (λ (z : ℕ). has_exit (get_or old z no_exit) (last_token patterns (node_at nodes c)) ≡ true) (sym s) was)))
              | inr k ↦ subst (λ (z : Exits). has_exit z (last_token patterns (node_at nodes c)) ≡ true) (sym (set_there old x.parent (node_at nodes c).parent more no_exit k)) was
            ]
        | inr s ↦ subst (λ (z : ℕ). has_exit (get_or (set old x.parent more) (node_at nodes z).parent no_exit) (last_token patterns (node_at nodes z)) ≡ true) (sym s)
            (subst (λ (z : Node). has_exit (get_or (set old x.parent more) z.parent no_exit) (last_token patterns z) ≡ true) (sym is)
            (subst (λ (z : Exits). has_exit z (last_token patterns x) ≡ true) (sym here) (has_new (get_or old x.parent no_exit) (last_token patterns x))))
      ];
    })

-- by a token that is no exit no node is behind
pub none_out : (patterns : List (List Token)) (nodes : List Node) (exits : List Exits) (at : ℕ) (d : Exits) (t : Token) → AreExits patterns nodes (length nodes) exits
    → at < length nodes → has_exit (get_or exits at d) t ≡ false → (c : ℕ) → IsChild patterns nodes at t c → ⊥
none_out patterns nodes exits at d t a h f c i =
    let long = a.size in
    let is : get_or exits at d ≡ get_or exits at no_exit = same_default exits at d no_exit (omega (arith, h, long)) in
    let was = a.each c i.some i.within in
    let at_here : has_exit (get_or exits at no_exit) (last_token patterns (node_at nodes c)) ≡ true = subst (λ (z : ℕ). has_exit (get_or exits z no_exit) (last_token patterns (node_at nodes c)) ≡ true) i.last.origin was in
    let by : has_exit (get_or exits at no_exit) t ≡ true = subst (λ (z : Token). has_exit (get_or exits at no_exit) z ≡ true) i.last.token_is at_here in
    false≢true (sym f ∙ subst (λ (z : Exits). has_exit z t ≡ true) (sym is) by)
