-- What is put for one value or pair more, and what is left to put.
use Rattle.field_table.proofs.Names.{◌≡◌, ℕ, ◌+◌, ◌<◌, List, [], ◌∷◌, ◌++◌, length, get_or, drop, sym, ap, ◌∙◌, append_assoc, drop_more, Value, Values, Pairs, value, pair, letter, content, values_bytes, pairs_bytes, Named, field_view, entry_view, array_view, pairs_view, Field, TableEntry}
use Rattle.std.proofs.Common.{length-append}
use Rattle.field_table.specs.Writing.{entry_bytes}
use Rattle.field_table.proofs.Views.{named}

-- ---- what is left

pub value_left : (xs : List Field) (i : ℕ) (x : Field) → i < length xs → x ≡ get_or xs i x → array_view (drop i xs) ≡ value (field_view x) (array_view (drop (i + 1) xs))
value_left xs i x lt is = ap array_view (drop_more xs i x lt) ∙ ap (λ (y : Field). value (field_view y) (array_view (drop (i + 1) xs))) (sym is)

pub pair_left : (xs : List TableEntry) (i : ℕ) (x : TableEntry) → i < length xs → x ≡ get_or xs i x
    → pairs_view (drop i xs) ≡ pair (entry_view x).name (entry_view x).value (pairs_view (drop (i + 1) xs))
pair_left xs i x lt is = ap pairs_view (drop_more xs i x lt) ∙ ap (λ (y : TableEntry). pair (entry_view y).name (entry_view y).value (pairs_view (drop (i + 1) xs))) (sym is)

-- ---- one more

pub value_put : (out new all : List ℕ) (v : Value) (vs ws : Values) → ws ≡ value v vs → new ≡ out ++ letter v ∷ content v → out ++ values_bytes ws ≡ all → new ++ values_bytes vs ≡ all
value_put out new all v vs ws e put before =
    ap (λ (z : List ℕ). z ++ values_bytes vs) put ∙ append_assoc out (letter v ∷ content v) (values_bytes vs) ∙ ap (λ (w : Values). out ++ values_bytes w) (sym e) ∙ before

pub pair_put : (out new all : List ℕ) (x : Named) (ps qs : Pairs) → qs ≡ pair x.name x.value ps → new ≡ out ++ entry_bytes x → out ++ pairs_bytes qs ≡ all → new ++ pairs_bytes ps ≡ all
pair_put out new all x ps qs e put before =
    ap (λ (z : List ℕ). z ++ pairs_bytes ps) put ∙ append_assoc out (entry_bytes x) (pairs_bytes ps)
    ∙ ap (λ (z : List ℕ). out ++ z) (append_assoc (length x.name ∷ x.name) (letter x.value ∷ content x.value) (pairs_bytes ps))
    ∙ ap (λ (q : Pairs). out ++ pairs_bytes q) (sym e) ∙ before

pub pair_len : (x : Named) (ps qs : Pairs) → qs ≡ pair x.name x.value ps → length (pairs_bytes qs) ≡ length (entry_bytes x) + length (pairs_bytes ps)
pair_len x ps qs e =
    ap (λ (q : Pairs). length (pairs_bytes q)) e
    ∙ ap (λ (z : List ℕ). length z) (sym (append_assoc (length x.name ∷ x.name) (letter x.value ∷ content x.value) (pairs_bytes ps)))
    ∙ length-append (entry_bytes x) (pairs_bytes ps)

-- a name and its value
pub entry_put : (old one two new text name : List ℕ) (n : ℕ) (v : Value) (x : Named) → x ≡ named name v → n ≡ length name → text ≡ name
    → one ≡ old ++ n ∷ [] → two ≡ one ++ text → new ≡ two ++ letter v ∷ content v → new ≡ old ++ entry_bytes x
entry_put old one two new text name n v x is len same a b d =
    let front : two ≡ old ++ (length name ∷ name) =
    b ∙ ap (λ (z : List ℕ). z ++ text) a ∙ append_assoc old (n ∷ []) text ∙ ap (λ (k : ℕ). old ++ (k ∷ text)) len ∙ ap (λ (z : List ℕ). old ++ (length name ∷ z)) same in
    d ∙ ap (λ (z : List ℕ). z ++ (letter v ∷ content v)) front ∙ append_assoc old (length name ∷ name) (letter v ∷ content v) ∙ ap (λ (y : Named). old ++ entry_bytes y) (sym is)
