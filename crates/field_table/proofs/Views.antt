-- What was read, one more value or pair at a time; and tables with their lengths.
use Rattle.field_table.proofs.Names.{◌≡◌, ℕ, ◌^◌, ◌<◌, List, [], ◌∷◌, ◌++◌, length, Option, Some, Result, Ok, Err, refl, sym, ap, subst, ◌∙◌, append-nil, Argument, Long_text, Value, Values, Pairs, value, pair, letter, content, pairs_bytes, with_length, table_bytes, a_long_text, argument_at, IsFirstValue, IsFirstPair, SpellsValues, SpellsPairs, HasPairs, Named, field_view, entry_view, table_view, fields_view, entries_view, values_then, pairs_then, Field, TableEntry, FieldTable}
use Rattle.field_table.specs.Answers.{TableRefused, AnswersOr, SpellsTable, IsOr}
use Rattle.field_table.specs.declared.refusals.BadTable.{BadTable}
use Rattle.field_table.specs.declared.refusals.BadTable.TheVariants.{SyntaxError, Memory}
use Rattle.field_table.proofs.Exactly.{IsBytes, argument_takes, argument_again}
use Rattle.field_table.proofs.Alone.{one_pairs}

-- ---- one more

pub one_more_value : (fs : List Field) (f : Field) (vs : Values) → values_then (fields_view (fs ++ f ∷ [])) vs ≡ values_then (fields_view fs) (value (field_view f) vs)
one_more_value [] f vs = refl
one_more_value (g ∷ fs) f vs = ap (value (field_view g)) (one_more_value fs f vs)

abbrev pub named : List ℕ → Value → Named
named n v = record { name = n; value = v }

pub one_more_pair : (es : List TableEntry) (e : TableEntry) (n : List ℕ) (v : Value) (ps : Pairs) → entry_view e ≡ named n v → pairs_then (entries_view (es ++ e ∷ [])) ps ≡ pairs_then (entries_view es) (pair n v ps)
one_more_pair [] e n v ps is = ap (λ (x : Named). pair x.name x.value ps) is
one_more_pair (g ∷ es) e n v ps is = ap (pair (entry_view g).name (entry_view g).value) (one_more_pair es e n v ps is)

pub then_values : (depth : ℕ) (bytes : List ℕ) (v : Value) (rest : List ℕ) (vs : Values) → IsFirstValue depth bytes v rest → SpellsValues depth rest vs → SpellsValues depth bytes (value v vs)
then_values depth bytes v rest vs f s = record { fits = (f.fits, s.fits); parts = f.parts ∙ ap (λ (z : List ℕ). letter v ∷ content v ++ z) s.parts }

pub then_pairs : (depth : ℕ) (bytes name : List ℕ) (v : Value) (rest : List ℕ) (ps : Pairs) → IsFirstPair depth bytes name v rest → SpellsPairs depth rest ps → SpellsPairs depth bytes (pair name v ps)
then_pairs depth bytes name v rest ps f s = record { fits = (f.short, f.fits, s.fits); parts = f.parts ∙ ap (λ (z : List ℕ). (length name ∷ name) ++ (letter v ∷ content v ++ z)) s.parts }

-- ---- answers

pub refused_so : (e : BadTable) (P Q : Type 0) → (P → Q) → TableRefused e P → TableRefused e Q
refused_so SyntaxError P Q f p = f p
refused_so Memory P Q f p = tt

pub answers_so : {X : Type 0} (r : Result X BadTable) (F G : X → Type 0) (P Q : Type 0) → ((x : X) → F x → G x) → (P → Q) → AnswersOr r F P → AnswersOr r G Q
answers_so (Ok x) F G P Q f g a = f x a
answers_so (Err e) F G P Q f g a = refused_so e P Q g a

-- ---- a table with its length

abbrev sized_front : List ℕ → List ℕ → Argument × List ℕ
sized_front body rest = (Long_text body, rest)

same_some : (r : Option (Argument × List ℕ)) (x y : Argument × List ℕ) → r ≡ Some x → r ≡ Some y → x ≡ y
same_some r x y e f = cc

text_in : Argument → List ℕ
text_in (Long_text t) = t
text_in _ = []

-- the pairs behind the length are those of the table
its_pairs : (bytes pairs rest : List ℕ) (ps : Pairs) → argument_at a_long_text bytes ≡ Some (Long_text pairs, rest) → SpellsTable bytes ps → pairs ≡ pairs_bytes ps
unfolding text_in
its_pairs bytes pairs rest ps e s =
    let again : argument_at a_long_text bytes ≡ Some (sized_front (pairs_bytes ps) []) = ap (argument_at a_long_text) (s.parts ∙ sym (append-nil (table_bytes ps))) ∙ argument_again (Long_text (pairs_bytes ps)) [] s.fits.size in
    let same : sized_front pairs rest ≡ sized_front (pairs_bytes ps) [] = same_some (argument_at a_long_text bytes) (sized_front pairs rest) (sized_front (pairs_bytes ps) []) e again in
    ap (λ (x : Argument × List ℕ). text_in x.0) same

spells : (bytes pairs : List ℕ) (ps : Pairs) → IsBytes bytes → argument_at a_long_text bytes ≡ Some (Long_text pairs, []) → SpellsPairs 15 pairs ps → SpellsTable bytes ps
spells bytes pairs ps are e s =
    let t = argument_takes a_long_text bytes (Long_text pairs, []) tt are e in
    record {
      fits = record { size = subst (λ (z : List ℕ). length z < 2 ^ 32) s.parts t.fits; fits = s.fits };
      parts = t.parts ∙ append-nil (with_length pairs) ∙ ap with_length s.parts;
    }

pub table_read : (bytes pairs rest : List ℕ) (r : Result FieldTable BadTable) → IsBytes bytes → argument_at a_long_text bytes ≡ Some (Long_text pairs, rest) → rest ≡ []
    → AnswersOr r (λ t. SpellsPairs 15 pairs (table_view t)) (HasPairs 15 pairs → ⊥)
    → AnswersOr r (λ t. SpellsTable bytes (table_view t)) ((ps : Pairs) → SpellsTable bytes ps → ⊥)
table_read bytes pairs rest r are e nil a =
    let whole : argument_at a_long_text bytes ≡ Some (Long_text pairs, []) = e ∙ ap (λ (z : List ℕ). Some (sized_front pairs z)) nil in
    answers_so r _ _ _ _ (λ t s. spells bytes pairs (table_view t) are whole s)
    (λ none ps s. none (ps, record { fits = s.fits.fits; parts = its_pairs bytes pairs rest ps e s })) a

same_spelling : (bytes : List ℕ) (ps qs : Pairs) → SpellsTable bytes ps → SpellsTable bytes qs → ps ≡ qs
same_spelling bytes ps qs s r =
    let e : argument_at a_long_text bytes ≡ Some (Long_text (pairs_bytes ps), []) = ap (argument_at a_long_text) (s.parts ∙ sym (append-nil (table_bytes ps))) ∙ argument_again (Long_text (pairs_bytes ps)) [] s.fits.size in
    one_pairs ps 15 15 qs s.fits.fits r.fits.fits (its_pairs bytes (pairs_bytes ps) [] qs e r)

pub only_table : (bytes : List ℕ) (r : Result FieldTable BadTable) → AnswersOr r (λ t. SpellsTable bytes (table_view t)) ((ps : Pairs) → SpellsTable bytes ps → ⊥)
    → (ps : Pairs) → SpellsTable bytes ps → IsOr r (λ t. table_view t ≡ ps)
only_table bytes (Ok t) a ps s = same_spelling bytes (table_view t) ps a s
only_table bytes (Err SyntaxError) a ps s = a ps s
only_table bytes (Err Memory) a ps s = tt
