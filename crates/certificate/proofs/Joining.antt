-- Texts of values that are joined to that of an array are read back as that array.
use Rattle.certificate.proofs.Names.{◌≡◌, ◌≤◌, ℕ, suc, max, Bool, true, false, List, [], ◌∷◌, ◌++◌, fold, Some, Option, refl, sym, ap, ap₂, ◌∙◌, arith, append-nil, append_assoc, option_and_then, AllByRecursion, tokens, print, ends, Data, array, Items, Members, read, of_json, of_items, items_of, compact_text, items_text, comma_if, outline, items_outline, members_outline, ReadsBackWithin}
use Rattle.std.specs.Prelude.{option_map}
use Rattle.json.specs.Token.{Token}
use Rattle.json.specs.Print.{print_from}
use Rattle.json.specs.Json as json
use Rattle.json.specs.Tree as tree
use Rattle.json.specs.Tree.{json_tokens, items_tokens, members_tokens, HasNumbers, ItemsHaveNumbers}
use Rattle.json.proofs.Printed.Tokens.{tokens-print, print_from-append}
use Rattle.json.proofs.Printed.Trees.{value-json_tokens, ArePrintable-json_tokens}
use Rattle.serde_json.proofs.Texts.{print-outline}
use Rattle.serde_json.specs.Data as shape

-- ---- depth

mutual
  outline_depth : (d : Data) → tree.depth (outline d) ≡ shape.depth d
  outline_depth shape.null = refl
  outline_depth (shape.boolean b) = refl
  outline_depth (shape.number n) = refl
  outline_depth (shape.string s) = refl
  outline_depth (shape.array ds) = ap suc (items_outline_depth ds)
  outline_depth (shape.object ms) = ap suc (members_outline_depth ms)

  items_outline_depth : (ds : Items) → tree.items_depth (items_outline ds) ≡ shape.items_depth ds
  items_outline_depth shape.no_items = refl
  items_outline_depth (shape.item d ds) = ap₂ max (outline_depth d) (items_outline_depth ds)

  members_outline_depth : (ms : Members) → tree.members_depth (members_outline ms) ≡ shape.members_depth ms
  members_outline_depth shape.no_members = refl
  members_outline_depth (shape.member k d ms) = ap₂ max (outline_depth d) (members_outline_depth ms)

-- ---- one value

-- what a text of these tokens is read as
abbrev last_of : Option (json.Json × List Token) → Option json.Json
last_of o = option_and_then (λ p. json.if_last p.0 p.1) o

pub within : (d : Data) → of_json (outline d) ≡ Some d → HasNumbers (outline d) → shape.depth d ≤ 126 → ReadsBackWithin d
within d value numbers shallow = record {
  json = outline d;
  text = sym (print-outline d);
  value = value;
  numbers = numbers;
  shallow = (let e = outline_depth d in omega (arith, e, shallow));
}

-- ---- what is printed of some values

abbrev ends_after : Bool → List Token → Bool
ends_after b ts = fold (λ _ t. ends t) b ts

ends-append : (b : Bool) (ts us : List Token) → ends_after b (ts ++ us) ≡ ends_after (ends_after b ts) us
ends-append b [] us = refl
ends-append b (t ∷ ts) us = ends-append (ends t) ts us

mutual
  value_ends : (b : Bool) (j : json.Json) → ends_after b (json_tokens j) ≡ true
  value_ends b json.null = refl
  value_ends b (json.boolean v) = refl
  value_ends b (json.number s) = refl
  value_ends b (json.string s) = refl
  value_ends b (json.array js) = items_end false js
  value_ends b (json.object ms) = members_end false ms

  items_end : (b : Bool) (js : json.Items) → ends_after b (items_tokens js) ≡ true
  items_end b json.no_items = refl
  items_end b (json.item j js) = ends-append b (json_tokens j) (items_tokens js) ∙ items_end (ends_after b (json_tokens j)) js

  members_end : (b : Bool) (ms : json.Members) → ends_after b (members_tokens ms) ≡ true
  members_end b json.no_members = refl
  members_end b (json.member k j ms) = ends-append false (json_tokens j) (members_tokens ms) ∙ members_end (ends_after false (json_tokens j)) ms

-- behind a value stands a comma first
behind : (b : Bool) (j : json.Json) → print_from b (json_tokens j) ≡ comma_if b ++ print (json_tokens j)
unfolding print_from
behind true json.null = refl
behind true (json.boolean v) = refl
behind true (json.number s) = refl
behind true (json.string s) = refl
behind true (json.array js) = refl
behind true (json.object ms) = refl
behind false j = refl

-- ---- some values

abbrev items_from : (ds : List Data) → AllByRecursion ReadsBackWithin ds → json.Items
items_from [] h = json.no_items
items_from (d ∷ ds) h = json.item h.0.json (items_from ds h.1)

items_value : (ds : List Data) (h : AllByRecursion ReadsBackWithin ds) → of_items (items_from ds h) ≡ Some (items_of ds)
items_value [] h = refl
items_value (d ∷ ds) h =
    ap (λ (o : Option Data). option_and_then (λ e. option_map (shape.item e) (of_items (items_from ds h.1))) o) h.0.value
    ∙ ap (option_map (shape.item d)) (items_value ds h.1)

items_numbers : (ds : List Data) (h : AllByRecursion ReadsBackWithin ds) → ItemsHaveNumbers (items_from ds h)
items_numbers [] h = tt
items_numbers (d ∷ ds) h = (h.0.numbers, items_numbers ds h.1)

items_shallow : (ds : List Data) (h : AllByRecursion ReadsBackWithin ds) → tree.items_depth (items_from ds h) ≤ 126
items_shallow [] h = omega arith
items_shallow (d ∷ ds) h = let a = h.0.shallow in let b = items_shallow ds h.1 in omega (arith, a, b)

items_print : (b : Bool) (ds : List Data) (h : AllByRecursion ReadsBackWithin ds) → print_from b (items_tokens (items_from ds h)) ≡ items_text b (items_of ds)
unfolding print_from
items_print true [] h = refl
items_print false [] h = refl
items_print b (d ∷ ds) h =
    let first = json_tokens h.0.json in
    let rest = items_tokens (items_from ds h.1) in
    print_from-append b first rest
    ∙ ap (λ (c : Bool). print_from b first ++ print_from c rest) (value_ends b h.0.json)
    ∙ ap (λ (s : List ℕ). print_from b first ++ s) (items_print true ds h.1)
    ∙ ap (λ (s : List ℕ). s ++ items_text true (items_of ds)) (behind b h.0.json ∙ ap (λ (s : List ℕ). comma_if b ++ s) (sym h.0.text))
    ∙ append_assoc (comma_if b) (compact_text d) (items_text true (items_of ds))

array_print : (ds : List Data) (h : AllByRecursion ReadsBackWithin ds) → print (json_tokens (json.array (items_from ds h))) ≡ compact_text (array (items_of ds))
unfolding print_from
array_print ds h = ap (λ (s : List ℕ). 91 ∷ s) (items_print false ds h)

pub joins : (ds : List Data) → AllByRecursion ReadsBackWithin ds → read (compact_text (array (items_of ds))) ≡ Some (array (items_of ds))
joins ds h =
    let j = json.array (items_from ds h) in
    let few : tree.depth j ≤ 127 = (let a = items_shallow ds h in omega (arith, a)) in
    let said : tokens (compact_text (array (items_of ds))) ≡ json_tokens j = ap tokens (sym (array_print ds h)) ∙ tokens-print (json_tokens j) (ArePrintable-json_tokens j (items_numbers ds h)) in
    ap (λ (o : Option (json.Json × List Token)). option_and_then of_json (last_of o)) (ap (json.value 127) (said ∙ sym (append-nil (json_tokens j))) ∙ value-json_tokens j 127 [] few)
    ∙ ap (option_map array) (items_value ds h)
