-- Functions that the definitions give step by step, said of the whole.
use Rattle.laws.proofs.Names.{◌≡◌, ℕ, zero, suc, ◌≤◌, List, [], ◌∷◌, ◌++◌, Bool, true, false, cond, length, refl, sym, ap, ◌∙◌, arith, slice_get, take-append-drop, length-take, length-take-le, length-drop, Text, Message, pieces_of, Entry, ConnectionClose, ConnectionCloseOk}
use Rattle.std.proofs.Common.{◌+◌, ◌<◌, take, drop, map, filter, Some}
use Rattle.model.specs.declared.events.Send.TheVariants.{Greeting, Command}
use Rattle.laws.specs.Forms.{takes_there, MessagesCome, ArePieces, BodiesAreCut, FirstDecides}

-- ---- what comes to a queue

come_more : (m : Message) (q : Text) (takes : Text → Bool) (r : Text) (rs : List Text) (es : List Entry) (e : Entry) (b : Bool)
    → es ≡ map (λ (s : Text). e) (filter takes rs) → cond b (e ∷ es) es ≡ map (λ (s : Text). e) (cond b (r ∷ filter takes rs) (filter takes rs))
come_more m q takes r rs es e true same = ap (λ (xs : List Entry). e ∷ xs) same
come_more m q takes r rs es e false same = same

pub messages_come : MessagesCome
messages_come t entries m q [] = refl
messages_come t entries m q (r ∷ rs) =
    come_more m q (takes_there t entries (length m.content.body) q) r rs _ _ (takes_there t entries (length m.content.body) q r) (messages_come t entries m q rs)

-- ---- the pieces of a body

-- where there is a piece there is a byte
some_bytes : (size steps : ℕ) (bytes : List ℕ) → 1 ≤ length (pieces_of size steps bytes) → 1 ≤ length bytes
some_bytes size zero [] le = le
some_bytes size (suc steps) [] le = le
some_bytes size steps (b ∷ bytes) le = omega arith

-- one piece in front of the others
one_more : (size steps : ℕ) (all : List ℕ) → 1 ≤ size → 1 ≤ length all → ArePieces size (drop size all) (pieces_of size steps (drop size all))
    → ArePieces size all (take size all ∷ pieces_of size steps (drop size all))
one_more size steps all le has rest = record {
  whole = ap (λ (ys : List ℕ). take size all ++ ys) rest.whole ∙ take-append-drop size all;
  some = some;
  most = most;
  full = full;
}
  where
    some : (i : ℕ) (p : List ℕ) → slice_get (take size all ∷ pieces_of size steps (drop size all)) i ≡ Some p → 1 ≤ length p
    some zero p e = let same : take size all ≡ p = cc in let l = ap length same in let t = length-take size all in omega arith
    some (suc i) p e = rest.some i p e

    most : (i : ℕ) (p : List ℕ) → slice_get (take size all ∷ pieces_of size steps (drop size all)) i ≡ Some p → length p ≤ size
    most zero p e = let same : take size all ≡ p = cc in let l = ap length same in let t = length-take size all in omega arith
    most (suc i) p e = rest.most i p e

    full : (i : ℕ) (p : List ℕ) → slice_get (take size all ∷ pieces_of size steps (drop size all)) i ≡ Some p → i + 1 < length (take size all ∷ pieces_of size steps (drop size all)) → length p ≡ size
    full zero p e lt =
        let same : take size all ≡ p = cc in
        let d = length-drop size all in
        let more = some_bytes size steps (drop size all) (omega arith) in
        ap length (sym same) ∙ length-take-le size all (omega arith)
    full (suc i) p e lt = rest.full i p e (omega arith)

pieces_are : (size steps : ℕ) (bytes : List ℕ) → 1 ≤ size → length bytes ≤ steps → ArePieces size bytes (pieces_of size steps bytes)
pieces_are size zero [] le fits = record { whole = refl; some = λ i p e. absurd (cc); most = λ i p e. absurd (cc); full = λ i p e lt. absurd (cc) }
pieces_are size zero (b ∷ bytes) le fits = absurd (omega arith)
pieces_are size (suc steps) [] le fits = record { whole = refl; some = λ i p e. absurd (cc); most = λ i p e. absurd (cc); full = λ i p e lt. absurd (cc) }
pieces_are size (suc steps) (b ∷ bytes) le fits =
    one_more size steps (b ∷ bytes) le (omega arith) (pieces_are size steps (drop size (b ∷ bytes)) le (let d = length-drop size (b ∷ bytes) in omega arith))

pub bodies_are_cut : BodiesAreCut
bodies_are_cut size bytes le = pieces_are size (length bytes) bytes le (omega arith)

-- ---- the phase after what was sent

pub first_decides : FirstDecides
first_decides [] = refl
first_decides (Greeting c ∷ sends) = first_decides sends
first_decides (Command c h (ConnectionClose m) content ∷ sends) = refl
first_decides (Command c h ConnectionCloseOk content ∷ sends) = refl
first_decides (Command c h m content ∷ sends) = first_decides sends
