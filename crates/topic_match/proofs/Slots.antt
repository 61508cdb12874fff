-- Nodes in their slots.
use Rattle.topic_match.proofs.Names.{◌≡◌, ℕ, ◌/◌, ◌<◌, List, Bool, false, refl, sym, ap, ◌∙◌, subst, length, get_or, arith, Decides, false≢true, Token, Node, node_at, Found, here, further, IsLast, AreLinked, IsChild, IsFoundBy, IsSlotOf, KeepNodes, heads_of, slot_behind}

-- an empty slot finds nothing but the root
pub none_found : (heads : ℕ) (slots : List ℕ) (s bits c : ℕ) → get_or slots s 0 ≡ 0 → Found heads slots s bits c → 0 < c → ⊥
none_found heads slots s bits c e (here f) h = omega (arith, e, f, h)
none_found heads slots s bits c e (further g f) h = omega (arith, e, g)

on : (patterns : List (List Token)) (nodes : List Node) (heads : ℕ) (slots : List ℕ) (k : ℕ) (t : Token) (s bits c : ℕ) → (IsLast patterns (node_at nodes (get_or slots s 0)) k t → ⊥)
    → Found heads slots s bits c → IsLast patterns (node_at nodes c) k t → Found heads slots (slot_behind heads (get_or slots s 0) bits) (bits / 2) c
on patterns nodes heads slots k t s bits c n (here e) i = absurd (n (subst (λ (z : ℕ). IsLast patterns (node_at nodes z) k t) (sym e) i))
on patterns nodes heads slots k t s bits c n (further g h) i = h

-- what is no child leads on to one
pub found_on : (patterns : List (List Token)) (nodes : List Node) (heads : ℕ) (slots : List ℕ) (k : ℕ) (t : Token) (s bits : ℕ) (told : Bool)
    → Decides told (IsLast patterns (node_at nodes (get_or slots s 0)) k t) → told ≡ false → ((c : ℕ) → IsChild patterns nodes k t c → Found heads slots s bits c)
    → (c : ℕ) → IsChild patterns nodes k t c → Found heads slots (slot_behind heads (get_or slots s 0) bits) (bits / 2) c
found_on patterns nodes heads slots k t s bits told d e all c i = on patterns nodes heads slots k t s bits c (λ h. false≢true (sym e ∙ d.1 h)) (all c i) i.last

further_in : (heads : ℕ) (slots : List ℕ) (s node bits c : ℕ) → 0 < node → get_or slots s 0 ≡ node → Found heads slots (slot_behind heads node bits) (bits / 2) c → Found heads slots s bits c
further_in heads slots s node bits c g e f = further (omega (arith, g, e)) (subst (λ (z : ℕ). Found heads slots (slot_behind heads z bits) (bits / 2) c) (sym e) f)

-- a node is found as before once more slots have nodes
pub found_more : (heads : ℕ) (slots new : List ℕ) (s bits c : ℕ) → KeepNodes slots new → 0 < c → Found heads slots s bits c → Found heads new s bits c
found_more heads slots new s bits c a h (here e) = here (a s (omega (arith, h, e)) ∙ e)
found_more heads slots new s bits c a h (further g f) = further_in heads new s (get_or slots s 0) bits c g (a s g) (found_more heads slots new (slot_behind heads (get_or slots s 0) bits) (bits / 2) c a h f)

-- ---- the way from slot to slot

pub within_on : (patterns : List (List Token)) (nodes : List Node) (heads : ℕ) (slots : List ℕ) (s bits node next : ℕ) → AreLinked patterns nodes slots → heads ≡ heads_of nodes slots
    → node ≡ get_or slots s 0 → next ≡ slot_behind heads node bits → next < length slots
within_on patterns nodes heads slots s bits node next l j e r = let h = l.heads in let w = l.within s in omega (arith, h, w, j, e, r)

pub all_on : (patterns : List (List Token)) (nodes : List Node) (heads : ℕ) (slots : List ℕ) (k : ℕ) (t : Token) (s bits node next : ℕ) (told : Bool) → node ≡ get_or slots s 0
    → next ≡ slot_behind heads node bits → Decides told (IsLast patterns (node_at nodes node) k t) → told ≡ false → ((c : ℕ) → IsChild patterns nodes k t c → Found heads slots s bits c)
    → (c : ℕ) → IsChild patterns nodes k t c → Found heads slots next (bits / 2) c
all_on patterns nodes heads slots k t s bits node next told e r d f all c i =
    subst (λ (z : ℕ). Found heads slots z (bits / 2) c) (ap (λ (z : ℕ). slot_behind heads z bits) (sym e) ∙ sym r)
    (found_on patterns nodes heads slots k t s bits told (subst (λ (z : ℕ). Decides told (IsLast patterns (node_at nodes z) k t)) e d) f all c i)

pub put_on : (heads : ℕ) (slots : List ℕ) (k : ℕ) (t : Token) (s bits node next : ℕ) → 0 < node → node ≡ get_or slots s 0 → next ≡ slot_behind heads node bits
    → ((new : List ℕ) (c : ℕ) → KeepNodes slots new → Found heads new s bits c → IsFoundBy heads new k t c)
    → (new : List ℕ) (c : ℕ) → KeepNodes slots new → Found heads new next (bits / 2) c → IsFoundBy heads new k t c
put_on heads slots k t s bits node next h e r put new c keep f =
    put new c keep (further_in heads new s node bits c h (keep s (omega (arith, h, e)) ∙ sym e) (subst (λ (z : ℕ). Found heads new z (bits / 2) c) r f))

-- ---- where it ends

pub child_in : (patterns : List (List Token)) (nodes : List Node) (slots : List ℕ) (k : ℕ) (t : Token) (s node : ℕ) → AreLinked patterns nodes slots → 0 < node → node ≡ get_or slots s 0
    → IsLast patterns (node_at nodes node) k t → IsChild patterns nodes k t (get_or slots s 0)
child_in patterns nodes slots k t s node l h e i = record {
  some = omega (arith, h, e);
  within = l.within s;
  last = subst (λ (z : ℕ). IsLast patterns (node_at nodes z) k t) e i;
}

pub slot_is : (patterns : List (List Token)) (nodes : List Node) (heads : ℕ) (slots : List ℕ) (k : ℕ) (t : Token) (s bits : ℕ) → heads ≡ heads_of nodes slots → s < length slots
    → ((new : List ℕ) (c : ℕ) → KeepNodes slots new → Found heads new s bits c → IsFoundBy heads new k t c)
    → (0 < get_or slots s 0 → IsChild patterns nodes k t (get_or slots s 0)) → (get_or slots s 0 ≡ 0 → (c : ℕ) → IsChild patterns nodes k t c → ⊥)
    → IsSlotOf patterns nodes slots k t s
slot_is patterns nodes heads slots k t s bits e h put child none = record {
  within = h;
  child = child;
  none = none;
  put = λ new keep. subst (λ (z : ℕ). IsFoundBy z new k t (get_or new s 0)) e (put new (get_or new s 0) keep (here refl));
}
