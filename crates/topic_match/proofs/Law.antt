-- What is found are the places of the patterns that match.
use Rattle.topic_match.proofs.Names.{ℕ, ◌<◌, List, [], Bool, refl, sym, ap, ◌∙◌, subst, length, take, get_or, arith, Text, Matches, IsIn, Token, Node, Met, AreCounts, AreSound, IsFound, AreLinked, beginning_at, IsTrie, Begins, AreMet, AreAdded}
use Rattle.topic_match.proofs.Lists.{take_all}
use Rattle.topic_match.proofs.Walking.{node_in, root_is}

pub sound : (patterns : List (List Token)) (nodes : List Node) (slots ends : List ℕ) (indices : List (List ℕ)) (ws : List Text) (met : List Met) → IsTrie patterns nodes slots ends indices
    → AreMet patterns nodes ws (Begins []) met → AreSound indices met (length ws)
sound patterns nodes slots ends indices ws met t a = record {
  distinct = a.distinct;
  each = t.ending.distinct;
  own = λ c d p i j. sym (t.ending.only c p i).1 ∙ (t.ending.only d p j).1;
  within = λ m i. (let h = a.within m i in let s = t.ending.size in omega (arith, h, s));
  told = λ m i. (let s = (a.counts m i).size in omega (arith, s));
}

pub only_matching : (patterns : List (List Token)) (nodes : List Node) (slots ends : List ℕ) (indices : List (List ℕ)) (ws : List Text) (met : List Met) (p : ℕ) → IsTrie patterns nodes slots ends indices
    → AreMet patterns nodes ws (Begins []) met → IsFound indices met (length ws) p → (p < length patterns) × Matches (get_or patterns p []) ws
only_matching patterns nodes slots ends indices ws met p t a f =
    let e = t.ending.only f.at.node p f.ends in
    let h : p < length patterns = (let k = e.0 in let s = t.ended.size in omega (arith, k, s)) in
    let m : Matches (beginning_at patterns nodes f.at.node) (take (length ws) ws) = ((a.counts f.at f.is_met).each (length ws) (omega arith)).0 f.matches in
    (h, subst (λ (z : List Token). Matches z ws) (ap (λ (z : ℕ). beginning_at patterns nodes z) (sym e.1) ∙ t.ended.are p h) (subst (λ (z : List Text). Matches (beginning_at patterns nodes f.at.node) z) (take_all ws) m))

pub all_matching : (patterns : List (List Token)) (nodes : List Node) (slots ends : List ℕ) (indices : List (List ℕ)) (ws : List Text) (met : List Met) (p : ℕ) → IsTrie patterns nodes slots ends indices
    → AreMet patterns nodes ws (Begins []) met → p < length patterns → Matches (get_or patterns p []) ws → IsFound indices met (length ws) p
all_matching patterns nodes slots ends indices ws met p t a h m =
    let c = get_or ends p 0 in
    let k : Matches (beginning_at patterns nodes c) (take (length ws) ws) =
    subst (λ (z : List Text). Matches (beginning_at patterns nodes c) z) (sym (take_all ws)) (subst (λ (z : List Token). Matches z ws) (sym (t.ended.are p h)) m) in
    let x = node_in met c (a.all c (length ws) (t.ended.within p h) (omega arith) k (beginning_at patterns nodes c, refl)) in
    record {
      at = x.0;
      is_met = x.1;
      matches = ((a.counts x.0 x.1).each (length ws) (omega arith)).1 (subst (λ (z : ℕ). Matches (beginning_at patterns nodes z) (take (length ws) ws)) x.2 k);
      ends = subst (λ (z : ℕ). IsIn p (get_or indices z [])) x.2 (t.ending.all p (let s = t.ended.size in omega (arith, h, s)));
    }

-- what is added from the root on, to nothing, is all
pub met_all : (patterns : List (List Token)) (nodes : List Node) (slots : List ℕ) (ws : List Text) (met : List Met) → AreLinked patterns nodes slots
    → AreAdded patterns nodes ws (Begins (beginning_at patterns nodes 0)) [] met → AreMet patterns nodes ws (Begins []) met
met_all patterns nodes slots ws met l a =
    subst (λ (z : List Met). AreMet patterns nodes ws (Begins []) z) (sym a.is_added)
    (subst (λ (b : List Token). AreMet patterns nodes ws (Begins b) a.more) (root_is patterns nodes slots l) a.are)

pub root_counts : (patterns : List (List Token)) (nodes : List Node) (slots : List ℕ) (ws : List Text) (counts : List Bool) → AreLinked patterns nodes slots → AreCounts [] ws counts
    → AreCounts (beginning_at patterns nodes 0) ws counts
root_counts patterns nodes slots ws counts l a = subst (λ (b : List Token). AreCounts b ws counts) (sym (root_is patterns nodes slots l)) a
