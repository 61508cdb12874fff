-- Fields put one behind another are the pairs of a table.
use Rattle.depot.proofs.Names.{◌≡◌, subst, Option, Some, None, Result, Ok, Err, IfOk, ℕ, List, ◌∷◌, ◌++◌, length, sym, ap, ◌∙◌, append_assoc, append-nil, Text, DescribesDeath, AreMarked, alone, added, marked_before, death_queue, first_death, text_field, ArePropertiesMarked}
use Rattle.model.specs.Tables.{Pairs, no_pairs, pair, Long_string, pairs_bytes, with_length}
use Rattle.model.specs.declared.contents.Fields.{Fields as Properties}
use Rattle.field_table.specs.Lookups.{HasField}

-- one field before others
before : (n t : Text) (ps : Pairs) → text_field n t ++ pairs_bytes ps ≡ pairs_bytes (pair n (Long_string t) ps)
before n t ps = append_assoc (length n ∷ n) (83 ∷ with_length t) (pairs_bytes ps)

-- three fields behind other bytes
pub three_behind : (bytes n t m u o v : List ℕ)
    → ((bytes ++ text_field n t) ++ text_field m u) ++ text_field o v
    ≡ bytes ++ pairs_bytes (pair n (Long_string t) (pair m (Long_string u) (pair o (Long_string v) no_pairs)))
three_behind bytes n t m u o v =
    let last : text_field o v ≡ pairs_bytes (pair o (Long_string v) no_pairs) = sym (append-nil (text_field o v)) ∙ before o v no_pairs in
    append_assoc (bytes ++ text_field n t) (text_field m u) (text_field o v)
    ∙ append_assoc bytes (text_field n t) (text_field m u ++ text_field o v)
    ∙ ap (λ (z : List ℕ). bytes ++ (text_field n t ++ (text_field m u ++ z))) last
    ∙ ap (λ (z : List ℕ). bytes ++ (text_field n t ++ z)) (before m u (pair o (Long_string v) no_pairs))
    ∙ ap (λ (z : List ℕ). bytes ++ z) (before n t (pair m (Long_string u) (pair o (Long_string v) no_pairs)))

-- ---- the headers

pub tells : (headers : Text) → HasField death_queue headers → DescribesDeath headers
tells headers h = record { pairs = h.pairs; fits = h.fits; spelled = h.spelled; field = h.field }

pub has : (headers : Text) → DescribesDeath headers → HasField death_queue headers
has headers t = record { pairs = t.pairs; fits = t.fits; spelled = t.spelled; field = t.field }

-- there were none
pub none_before : (queue exchange : Text) (old : Option Text) → None ≡ old → AreMarked queue exchange old (Some (first_death queue exchange))
none_before queue exchange old e = subst (λ (o : Option Text). AreMarked queue exchange o (Some (first_death queue exchange))) e alone

-- they tell of no death
pub no_death : (queue exchange headers : Text) (old : Option Text) → Some headers ≡ old
    → (HasField death_queue headers → ⊥) → AreMarked queue exchange old (Some (headers ++ first_death queue exchange))
no_death queue exchange headers old e none =
    subst (λ (o : Option Text). AreMarked queue exchange o (Some (headers ++ first_death queue exchange))) e (added (λ t. none (has headers t)))

-- they tell of one
pub some_death : (queue exchange headers : Text) (old : Option Text) → Some headers ≡ old → HasField death_queue headers → AreMarked queue exchange old old
some_death queue exchange headers old e h = subst (λ (o : Option Text). AreMarked queue exchange o o) e (marked_before (tells headers h))

-- the properties that are made have them
pub made_so : {E : Type 0} (r : Result Properties E) (queue exchange : Text) (old : Properties) (headers : Option Text)
    → AreMarked queue exchange old.headers headers
    → IfOk r (λ p. p ≡ record old { headers = headers }) → IfOk r (ArePropertiesMarked queue exchange old)
made_so (Ok p) queue exchange old headers m e = record { headers = headers; marked = m; made = e }
made_so (Err e) queue exchange old headers m h = h
