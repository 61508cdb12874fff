-- What is left of a script while its lines are taken.
use Rattle.std.proofs.Common.{◌≡◌, ℕ, ◌+◌, ◌≤◌, ◌<◌, ◌++◌, List, [], ◌∷◌, Option, Some, None, Result, Ok, Err, Bool, true, false, cond, eqb, Bor, refl, length, arith, append_assoc, sym}
use Rattle.std.specs.Prelude.{option_copied, IfSome, option_to_list, option_map, option_and_then, nat_lt, nat_le, ◌&&◌, codes}
use Rattle.std.specs.Str.{bytes_eq}
use Rattle.std.proofs.lemmas.List.{append-nil}
use Rattle.std.proofs.lemmas.Bool.Decides.{nat_tests}
use Rattle.model.specs.Words.{Text}
use Rattle.model.proofs.Left.{left}
use Rattle.model.specs.declared.events.Arrival.TheVariants.{Open, Ready, In, Sent, Pump, Lose, Reload}
use Rattle.scripts.specs.FileNames.{FileNames}
use Rattle.scripts.specs.Script.{ScriptArrival, cut, piece, number, connection, opening, ready, bytes_in, sent, lost, three_names, reload, by_word, arrival_of, line_of, arrivals_from, opened_after, onto_arrivals, with_line}

-- what was found, put before what a line brings and the rest
onto_line : (found : List ScriptArrival) (number : ℕ) (a : Option ScriptArrival) (rest : Result (List ScriptArrival) ℕ)
    → onto_arrivals found (with_line number (Some a) rest) ≡ onto_arrivals (found ++ option_to_list a) rest
onto_line found number None (Ok rest) = rw append-nil refl
onto_line found number None (Err n) = refl
onto_line found number (Some a) (Ok rest) = rw append_assoc refl
onto_line found number (Some a) (Err n) = refl

-- one line more was taken
pub taken : (number opened after : ℕ) (found new : List ScriptArrival) (line : Text) (rest : List Text) (a : Option ScriptArrival)
    → line_of opened line ≡ Some a → new ≡ found ++ option_to_list a → after ≡ opened_after opened (line_of opened line)
    → onto_arrivals new (arrivals_from (number + 1) after rest) ≡ onto_arrivals found (arrivals_from number opened (line ∷ rest))
taken number opened after found new line rest a said n o =
    let h : onto_arrivals found (with_line number (line_of opened line) (arrivals_from (number + 1) after rest)) ≡ onto_arrivals (found ++ option_to_list a) (arrivals_from (number + 1) after rest)
    = rw said (onto_line found number a (arrivals_from (number + 1) after rest)) in
    rw (n, ← o) (sym h)

-- ---- at most 1,024 are opened

-- at most 1,024 are opened with what is said
abbrev IsFew : ℕ → Option ScriptArrival → Type 0
IsFew opened said = opened_after opened (option_map (λ (x : ScriptArrival). Some x) said) ≤ 1024

-- where a part is not read, nothing is said
then_few : {A : Type 0} (opened : ℕ) (say : A → Option ScriptArrival) (part : Option A) → ((a : A) → IsFew opened (say a)) → opened ≤ 1024 → IsFew opened (option_and_then say part)
then_few opened say None f h = h
then_few opened say (Some a) f h = f a

made_few : {A : Type 0} (opened : ℕ) (make : A → ScriptArrival) (part : Option A) → ((a : A) → IsFew opened (Some (make a))) → opened ≤ 1024 → IsFew opened (option_map make part)
made_few opened make None f h = h
made_few opened make (Some a) f h = f a

opening_at : (opened : ℕ) (v : Bool) → nat_lt opened 1024 ≡ v → opened ≤ 1024 → IsFew opened (cond v (Some Open) None)
opening_at opened false e h = h
opening_at opened true e h = grind (arith, nat_tests)

ready_at : (opened n : ℕ) (v : Bool) → (nat_le 1 n && nat_le n 255 && nat_lt opened 1024) ≡ v → opened ≤ 1024 → IsFew opened (cond v (Some (Ready n)) None)
ready_at opened n false e h = h
ready_at opened n true e h = grind (arith, nat_tests)

ready_few : (opened : ℕ) (n : Option ℕ) → opened ≤ 1024 → IsFew opened (option_and_then (λ k. cond (nat_le 1 k && nat_le k 255 && nat_lt opened 1024) (Some (Ready k)) None) n)
ready_few opened n h = then_few opened (λ (k : ℕ). cond (nat_le 1 k && nat_le k 255 && nat_lt opened 1024) (Some (Ready k)) None) n
    (λ k. ready_at opened k (nat_le 1 k && nat_le k 255 && nat_lt opened 1024) refl h) h

in_few : (opened : ℕ) (f : Text × Text) → opened ≤ 1024 → IsFew opened (bytes_in opened f)
in_few opened f h = then_few opened (λ (n : ℕ). option_map (λ (bytes : Text). In n bytes) (piece f.1)) (connection opened f.0)
    (λ n. made_few opened (λ (bytes : Text). In n bytes) (piece f.1) (λ bytes. h) h) h

sent_few : (opened : ℕ) (f : Text × Text) → opened ≤ 1024 → IsFew opened (sent opened f)
sent_few opened f h = then_few opened (λ (k : ℕ). option_map (λ (count : ℕ). Sent k count) (number f.1)) (connection opened f.0)
    (λ k. made_few opened (λ (count : ℕ). Sent k count) (number f.1) (λ count. h) h) h

word_at : (opened : ℕ) (f : Text × Text) (v w y z u : Bool) → opened ≤ 1024
    → IsFew opened (cond v (ready opened f.1) (cond w (option_and_then (bytes_in opened) (cut f.1)) (cond y (option_and_then (sent opened) (cut f.1)) (cond z (lost opened f.1) (cond u (reload f.1) None)))))
word_at opened f true w y z u h = ready_few opened (number f.1) h
word_at opened f false true y z u h = then_few opened (bytes_in opened) (cut f.1) (λ p. in_few opened p h) h
word_at opened f false false true z u h = then_few opened (sent opened) (cut f.1) (λ p. sent_few opened p h) h
word_at opened f false false false true u h = made_few opened (λ (n : ℕ). Lose n) (connection opened f.1) (λ n. h) h
word_at opened f false false false false true h = made_few opened (λ (names : FileNames). Reload names) (three_names f.1) (λ names. h) h
word_at opened f false false false false false h = h

word_few : (opened : ℕ) (f : Text × Text) → opened ≤ 1024 → IsFew opened (by_word opened f)
word_few opened f h = word_at opened f (bytes_eq f.0 (codes "ready")) (bytes_eq f.0 (codes "in")) (bytes_eq f.0 (codes "sent")) (bytes_eq f.0 (codes "lose")) (bytes_eq f.0 (codes "reload")) h

arrival_at : (opened : ℕ) (l : Text) (v w : Bool) → opened ≤ 1024 → IsFew opened (cond v (opening opened) (cond w (Some Pump) (option_and_then (by_word opened) (cut l))))
arrival_at opened l true w h = opening_at opened (nat_lt opened 1024) refl h
arrival_at opened l false true h = h
arrival_at opened l false false h = then_few opened (by_word opened) (cut l) (λ f. word_few opened f h) h

line_at : (opened b : ℕ) (bs : Text) (v : Bool) → opened ≤ 1024 → opened_after opened (cond v (Some None) (option_map (λ (x : ScriptArrival). Some x) (arrival_of opened (b ∷ bs)))) ≤ 1024
line_at opened b bs true h = h
line_at opened b bs false h = arrival_at opened (b ∷ bs) (bytes_eq (b ∷ bs) (codes "open")) (bytes_eq (b ∷ bs) (codes "pump")) h

pub line_few : (opened : ℕ) (line : Text) → opened ≤ 1024 → opened_after opened (line_of opened line) ≤ 1024
line_few opened [] h = h
line_few opened (b ∷ bs) h = line_at opened b bs (eqb b 35) h

-- what is left after a line is shorter than the line with its rest
pub left_less : (rest : Option (Bor (List ℕ))) (text : Text) → IfSome rest (λ r. length r.now < length text) → left (option_copied rest) ≤ length text
left_less None text h = omega arith
left_less (Some r) text h = omega (arith, h)
