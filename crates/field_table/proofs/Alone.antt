-- Values, arrays and tables are told apart by their bytes alone.
use Rattle.field_table.proofs.Names.{◌≡◌, ℕ, ◌-◌, Bool, true, false, List, [], ◌∷◌, ◌++◌, length, take, drop, Some, refl, sym, ap, subst, ◌∙◌, arith, ◌==◌, ◌||◌, if◌then◌else◌, take_at, drop_at, Argument, Octet, Long_text, Bits, Value, Values, Pairs, Truth, Byte, Float, Double, Decimal, Long_string, Field_array, Timestamp, Inner_table, Byte_array, Void, no_values, value, no_pairs, pair, letter, content, values_bytes, pairs_bytes, IsValue, AreValues, ArePairs, Unread, unread, read_leaf, unread_of}
use Rattle.model.specs.Grammar as arguments
use Rattle.model.specs.Tables.{Short, Long, Long_long}
use Rattle.field_table.proofs.Letters.{value_again}

-- what is read of two values that are spelled alike, and what follows them, is the same
pub record Alike (v w : Value) (r s : List ℕ) : Type 0 where
  pub values : unread_of v ≡ unread_of w
  pub rests : r ≡ s

abbrev found_in : Value → List ℕ → Unread × List ℕ
found_in v r = (unread_of v, r)

some_is : (x y : Unread × List ℕ) → Some x ≡ Some y → x ≡ y
some_is x y e = cc

pub alike : (d e : ℕ) (v w : Value) (r s : List ℕ) → IsValue d v → IsValue e w → letter v ∷ content v ++ r ≡ letter w ∷ content w ++ s → Alike v w r s
alike d e v w r s fits also same =
    let both : Some (unread_of v, r) ≡ Some (unread_of w, s) = sym (value_again d v r fits) ∙ ap read_leaf same ∙ value_again e w s also in
    let pairs : found_in v r ≡ found_in w s = some_is (found_in v r) (found_in w s) both in
    record { values = ap (λ (p : Unread × List ℕ). p.0) pairs; rests = ap (λ (p : Unread × List ℕ). p.1) pairs }

-- ---- values without an array or a table inside

-- the one argument
number_in : List Argument → ℕ
number_in (Octet n ∷ []) = n
number_in (arguments.Short n ∷ []) = n
number_in (arguments.Long n ∷ []) = n
number_in (arguments.Long_long n ∷ []) = n
number_in _ = 0

text_in : List Argument → List ℕ
text_in (Long_text t ∷ []) = t
text_in _ = []

truth_in : List Argument → Value
truth_in (Bits (b ∷ []) ∷ []) = Truth b
truth_in _ = Void

decimal_in : List Argument → Value
decimal_in (Octet scale ∷ arguments.Long digits ∷ []) = Decimal scale digits
decimal_in _ = Void

rebuilt : Unread → Value
rebuilt u =
    if u.letter == 116 then truth_in u.contents
    else if u.letter == 98 then Byte (number_in u.contents)
    else if u.letter == 115 then Short (number_in u.contents)
    else if u.letter == 73 then Long (number_in u.contents)
    else if u.letter == 108 then Long_long (number_in u.contents)
    else if u.letter == 102 then Float (number_in u.contents)
    else if u.letter == 100 then Double (number_in u.contents)
    else if u.letter == 68 then decimal_in u.contents
    else if u.letter == 83 then Long_string (text_in u.contents)
    else if u.letter == 84 then Timestamp (number_in u.contents)
    else if u.letter == 120 then Byte_array (text_in u.contents)
    else Void

-- an array or a table
abbrev is_deep : ℕ → Bool
is_deep letter = (letter == 65) || (letter == 70)

rebuilt_same : (v : Value) → is_deep (letter v) ≡ false → rebuilt (unread_of v) ≡ v
unfolding rebuilt number_in text_in truth_in decimal_in
rebuilt_same (Field_array vs) e = absurd (let h : true ≡ false = e in cc)
rebuilt_same (Inner_table ps) e = absurd (let h : true ≡ false = e in cc)
rebuilt_same _ e = refl

pub array_of : (w : Value) → 65 ≡ letter w → (ws : Values) × (Field_array ws ≡ w)
array_of (Field_array ws) e = (ws, refl)
array_of _ e = absurd (omega arith)

pub table_of : (w : Value) → 70 ≡ letter w → (ps : Pairs) × (Inner_table ps ≡ w)
table_of (Inner_table ps) e = (ps, refl)
table_of _ e = absurd (omega arith)

-- the text among the arguments of two arrays, or two tables
pub same_body : (a b : List ℕ) (l m : ℕ) → unread l (Long_text a ∷ []) ≡ unread m (Long_text b ∷ []) → a ≡ b
unfolding text_in
same_body a b l m e = ap (λ (u : Unread). text_in u.contents) e

-- ---- names

pub same_name : (a b r s : List ℕ) → (length a ∷ a) ++ r ≡ (length b ∷ b) ++ s → (a ≡ b) × (r ≡ s)
same_name a b r s e =
    let len : length a ≡ length b = cc in
    let whole : a ++ r ≡ b ++ s = cc in (
      sym (take_at a r (length a) refl) ∙ ap (λ (z : List ℕ). take (length a) z) whole ∙ take_at b s (length a) (sym len),
      sym (drop_at a r (length a) refl) ∙ ap (λ (z : List ℕ). drop (length a) z) whole ∙ drop_at b s (length a) (sym len),
    )

-- ---- all of them

mutual
  pub same_value : (v : Value) (d e : ℕ) (w : Value) → IsValue d v → IsValue e w → unread_of v ≡ unread_of w → v ≡ w
  same_value (Field_array vs) d e w fits also same =
      let found = array_of w (ap (λ (u : Unread). u.letter) same) in
      let theirs : IsValue e (Field_array found.0) = subst (IsValue e) (sym found.1) also in
      let bodies : unread_of (Field_array vs) ≡ unread_of (Field_array found.0) = same ∙ ap unread_of (sym found.1) in
      ap Field_array (one_values vs (d - 1) (e - 1) found.0 fits.2 theirs.2 (same_body (values_bytes vs) (values_bytes found.0) 65 65 bodies)) ∙ found.1
  same_value (Inner_table ps) d e w fits also same =
      let found = table_of w (ap (λ (u : Unread). u.letter) same) in
      let theirs : IsValue e (Inner_table found.0) = subst (IsValue e) (sym found.1) also in
      let bodies : unread_of (Inner_table ps) ≡ unread_of (Inner_table found.0) = same ∙ ap unread_of (sym found.1) in
      ap Inner_table (one_pairs ps (d - 1) (e - 1) found.0 fits.2 theirs.2 (same_body (pairs_bytes ps) (pairs_bytes found.0) 70 70 bodies)) ∙ found.1
  same_value v d e w fits also same =
      let shallow : is_deep (letter v) ≡ false = refl in
      sym (rebuilt_same v shallow) ∙ ap rebuilt same ∙ rebuilt_same w (subst (λ (u : Unread). is_deep u.letter ≡ false) same shallow)

  pub one_values : (vs : Values) (d e : ℕ) (ws : Values) → AreValues d vs → AreValues e ws → values_bytes vs ≡ values_bytes ws → vs ≡ ws
  one_values no_values d e no_values fits also same = refl
  one_values no_values d e (value w ws) fits also same = absurd (cc)
  one_values (value v vs) d e no_values fits also same = absurd (cc)
  one_values (value v vs) d e (value w ws) fits also same =
      let both = alike d e v w (values_bytes vs) (values_bytes ws) fits.0 also.0 same in
      let first : v ≡ w = same_value v d e w fits.0 also.0 both.values in
      let others : vs ≡ ws = one_values vs d e ws fits.1 also.1 both.rests in
      ap (λ (x : Value). value x vs) first ∙ ap (λ (x : Values). value w x) others

  pub one_pairs : (ps : Pairs) (d e : ℕ) (qs : Pairs) → ArePairs d ps → ArePairs e qs → pairs_bytes ps ≡ pairs_bytes qs → ps ≡ qs
  one_pairs no_pairs d e no_pairs fits also same = refl
  one_pairs no_pairs d e (pair m w qs) fits also same = absurd (cc)
  one_pairs (pair n v ps) d e no_pairs fits also same = absurd (cc)
  one_pairs (pair n v ps) d e (pair m w qs) fits also same =
      let names = same_name n m (letter v ∷ content v ++ pairs_bytes ps) (letter w ∷ content w ++ pairs_bytes qs) same in
      let both = alike d e v w (pairs_bytes ps) (pairs_bytes qs) fits.1 also.1 names.1 in
      let first : v ≡ w = same_value v d e w fits.1 also.1 both.values in
      let others : ps ≡ qs = one_pairs ps d e qs fits.2 also.2 both.rests in
      ap (λ (x : List ℕ). pair x v ps) names.0 ∙ ap (λ (x : Value). pair m x ps) first ∙ ap (λ (x : Pairs). pair m w x) others
