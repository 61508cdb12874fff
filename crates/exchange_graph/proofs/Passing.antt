-- The ways that let a key pass, by the kind of their exchange.
use Rattle.exchange_graph.proofs.Names.{◌≡◌, ℕ, zero, suc, ◌<◌, List, [], ◌∷◌, Bool, true, false, cond, refl, sym, ap, ◌∙◌, subst, length, get_or, inl, inr, arith, bytes_eq, bytes_eq-Decides, length-map, Text, words, tokens, Matches, IsIn, Direct, Fanout, Topic, End, Onward, Branch, ArePassing, ends_by_key, ends_of, ends_at, patterns_of, in_map, map_in, in_get}
use Rattle.model.specs.declared.texts.Token.{Token}
use Rattle.topic_match.specs.Indices.{AreMatches}

-- ---- direct

key_only_at : (key : Text) (w : Branch) (ws : List Branch) (e : End) (v : Bool) → (v ≡ true → w.key ≡ key)
    → (IsIn e (ends_by_key key ws) → (u : Branch) × IsIn u ws × (u.end ≡ e) × (u.key ≡ key))
    → IsIn e (cond v (w.end ∷ ends_by_key key ws) (ends_by_key key ws)) → (u : Branch) × IsIn u (w ∷ ws) × (u.end ≡ e) × (u.key ≡ key)
key_only_at key w ws e true d ih h = elim h [ inl q ↦ (w, inl refl, sym q, d refl) | inr r ↦ (let m = ih r in (m.0, inr m.1, m.2, m.3)) ]
key_only_at key w ws e false d ih h = let m = ih h in (m.0, inr m.1, m.2, m.3)

key_only : (key : Text) (ws : List Branch) (e : End) → IsIn e (ends_by_key key ws) → (u : Branch) × IsIn u ws × (u.end ≡ e) × (u.key ≡ key)
key_only key [] e h = absurd h
key_only key (w ∷ ws) e h = key_only_at key w ws e (bytes_eq w.key key) (bytes_eq-Decides w.key key).0 (key_only key ws e) h

key_kept : (key : Text) (w : Branch) (ws : List Branch) (e : End) (v : Bool) → IsIn e (ends_by_key key ws) → IsIn e (cond v (w.end ∷ ends_by_key key ws) (ends_by_key key ws))
key_kept key w ws e true h = inr h
key_kept key w ws e false h = h

key_all : (key : Text) (ws : List Branch) (w : Branch) → IsIn w ws → w.key ≡ key → IsIn w.end (ends_by_key key ws)
key_all key [] w h q = absurd h
key_all key (u ∷ ws) w h q = elim h [
  | inl e ↦ (
      let same : bytes_eq u.key key ≡ true = (bytes_eq-Decides u.key key).1 (ap (λ (x : Branch). x.key) (sym e) ∙ q) in
      rw same (inl (ap (λ (x : Branch). x.end) e)))
  | inr r ↦ key_kept key u ws w.end (bytes_eq u.key key) (key_all key ws w r q)
]

pub passing_direct : (key : Text) (ws : List Branch) → ArePassing Direct key ws (ends_by_key key ws)
passing_direct key ws = record { only = key_only key ws; all = key_all key ws }

-- ---- fanout

pub passing_fanout : (key : Text) (ws : List Branch) → ArePassing Fanout key ws (ends_of ws)
passing_fanout key ws = record {
  only = λ e h. (let m = map_in (λ (w : Branch). w.end) ws e h in (m.0, m.1, m.2, tt));
  all = λ w h p. in_map (λ (x : Branch). x.end) ws w h;
}

-- ---- topic

-- the way at a place, with its end and its pattern
record WayAt (ws : List Branch) (i : ℕ) (w : Branch) : Type 0 where
  is_way : IsIn w ws
  ends : get_or (ends_of ws) i (Onward 0) ≡ w.end
  pattern : get_or (patterns_of ws) i [] ≡ tokens (words w.key)

way_at : (ws : List Branch) (i : ℕ) → i < length (patterns_of ws) → (w : Branch) × WayAt ws i w
way_at [] i h = absurd (omega (arith, h))
way_at (w ∷ ws) zero h = (w, record { is_way = inl refl; ends = refl; pattern = refl })
way_at (w ∷ ws) (suc i) h = let m = way_at ws i (omega (arith, h)) in (m.0, record { is_way = inr m.1.is_way; ends = m.1.ends; pattern = m.1.pattern })

place_of_way : (ws : List Branch) (w : Branch) → IsIn w ws → (i : ℕ) × (i < length (patterns_of ws)) × WayAt ws i w
place_of_way [] w h = absurd h
place_of_way (u ∷ ws) w h = elim h [
  | inl e ↦ (zero, omega arith, record { is_way = inl e; ends = ap (λ (x : Branch). x.end) (sym e); pattern = ap (λ (x : Branch). tokens (words x.key)) (sym e) })
  | inr r ↦ (let m = place_of_way ws w r in (suc m.0, omega (arith, m.1), record { is_way = inr m.2.is_way; ends = m.2.ends; pattern = m.2.pattern }))
]

topic_only : (key : Text) (ws : List Branch) (places : List ℕ) → AreMatches (patterns_of ws) key places → (e : End) → IsIn e (ends_at ws places)
    → (w : Branch) × IsIn w ws × (w.end ≡ e) × Matches (tokens (words w.key)) (words key)
topic_only key ws places a e h =
    let m = map_in (λ (i : ℕ). get_or (ends_of ws) i (Onward 0)) places e h in
    let w = way_at ws m.0 (a.within m.0 m.1) in
    (w.0, w.1.is_way, sym w.1.ends ∙ m.2, subst (λ p. Matches p (words key)) w.1.pattern (a.only m.0 m.1))

topic_all : (key : Text) (ws : List Branch) (places : List ℕ) → AreMatches (patterns_of ws) key places → (w : Branch) → IsIn w ws
    → Matches (tokens (words w.key)) (words key) → IsIn w.end (ends_at ws places)
topic_all key ws places a w h p =
    let m = place_of_way ws w h in
    let q = a.all m.0 m.1 (subst (λ t. Matches t (words key)) (sym m.2.pattern) p) in
    subst (λ e. IsIn e (ends_at ws places)) m.2.ends (in_map (λ (i : ℕ). get_or (ends_of ws) i (Onward 0)) places m.0 q)

pub passing_topic : (key : Text) (ws : List Branch) (places : List ℕ) → AreMatches (patterns_of ws) key places → ArePassing Topic key ws (ends_at ws places)
passing_topic key ws places a = record { only = topic_only key ws places a; all = topic_all key ws places a }

pub topic_within : (ws : List Branch) (key : Text) (topics : List (List Token)) (places : List ℕ) → topics ≡ patterns_of ws → AreMatches topics key places
    → (k : ℕ) (d : ℕ) → k < length places → get_or places k d < length ws
topic_within ws key topics places e a k d h =
    let b : get_or places k d < length topics = a.within (get_or places k d) (in_get places k d h) in
    let l : length topics ≡ length ws = ap (λ (ts : List (List Token)). length ts) e ∙ length-map ws (λ (w : Branch). tokens (words w.key)) in
    omega (arith, b, l)

pub topic_passes : (key : Text) (ws : List Branch) (topics : List (List Token)) (places given : List ℕ) → topics ≡ patterns_of ws → given ≡ places → AreMatches topics key places
    → (ends : List End) → ends ≡ ends_at ws given → ArePassing Topic key ws ends
topic_passes key ws topics places given e g a ends q =
    subst (λ (es : List End). ArePassing Topic key ws es) (sym (q ∙ ap (λ (ps : List ℕ). ends_at ws ps) g))
    (passing_topic key ws places (subst (λ (ts : List (List Token)). AreMatches ts key places) e a))
