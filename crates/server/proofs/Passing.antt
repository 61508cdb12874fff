-- What is left of a file that is compared in parts.
use Rattle.server.proofs.Names.{◌≡◌, ◌++◌, [], ◌∷◌, false, Option, Some, None, ap, refl, sym, ◌∙◌, append_assoc, Consumes, Keeps, Text, ReturnsSameRest}

-- Of what was left to read, and of the text, the same front is passed, where what is left is known.
pub record IsPassed (whole left text rest : Text) : Type 0 where
  pub front : Text
  pub read : whole ≡ front ++ left
  pub skipped : text ≡ front ++ rest

abbrev pub ArePassed : Option Text → Option Text → Text → Text → Type 0
ArePassed None left text rest = Unit {0}
ArePassed (Some whole) None text rest = ⊥
ArePassed (Some whole) (Some left) text rest = IsPassed whole left text rest

pub none_passed : (whole : Option Text) (text : Text) → ArePassed whole whole text text
none_passed None text = tt
none_passed (Some whole) text = record { front = []; read = refl; skipped = refl }

-- one part more
pub part_passed : (whole a b : Option Text) (text rest part behind : Text) → ArePassed whole a text rest → Consumes a b part → rest ≡ part ++ behind → ArePassed whole b text behind
part_passed None a b text rest part behind p r is = tt
part_passed (Some whole) None b text rest part behind p r is = absurd p
part_passed (Some whole) (Some left) None text rest part behind p r is = absurd r
part_passed (Some whole) (Some left) (Some next) text rest part behind p r is = record {
  front = p.front ++ part;
  read = p.read ∙ ap (λ (l : Text). p.front ++ l) r ∙ sym (append_assoc p.front part next);
  skipped = p.skipped ∙ ap (λ (l : Text). p.front ++ l) is ∙ sym (append_assoc p.front part behind);
}

-- a read that failed passed nothing
pub no_part_passed : (whole a b : Option Text) (text rest : Text) → ArePassed whole a text rest → Keeps a b → ArePassed whole b text rest
no_part_passed None a b text rest p k = tt
no_part_passed (Some whole) None b text rest p k = absurd p
no_part_passed (Some whole) (Some left) None text rest p k = absurd k
no_part_passed (Some whole) (Some left) (Some next) text rest p k = record { front = p.front; read = p.read ∙ ap (λ (l : Text). p.front ++ l) (sym k); skipped = p.skipped }

-- what stands behind a front stands behind no other way
behind_same : (front a b : Text) → front ++ a ≡ front ++ b → a ≡ b
behind_same [] a b e = e
behind_same (x ∷ front) a b e = behind_same front a b (let h : front ++ a ≡ front ++ b = cc in h)

-- what does not begin with the part that was read is another text
pub other_part : (whole a b : Option Text) (text rest part : Text) → ArePassed whole a text rest → Consumes a b part → ((behind : Text) → rest ≡ part ++ behind → ⊥) → ReturnsSameRest whole text false
other_part None a b text rest part p r not = tt
other_part (Some whole) None b text rest part p r not = absurd p
other_part (Some whole) (Some left) None text rest part p r not = absurd r
other_part (Some whole) (Some left) (Some next) text rest part p r not = λ same. not next (behind_same p.front rest left (sym p.skipped ∙ same ∙ p.read) ∙ r)
