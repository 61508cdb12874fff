-- The text of a certificate, piece by piece.
use Rattle.certificate.proofs.Names.{◌≡◌, ◌<◌, ◌^◌, AreTexts, ℕ, Bool, true, false, List, [], ◌∷◌, ◌++◌, map, refl, sym, ap, ◌∙◌, arith, append_assoc, Option, Some, option_and_then, AllByRecursion, begin_array, Data, Items, Members, array, string, items_of, of_json, of_items, outline, items_outline, compact_text, comma_if, items_text, Text, Certificate, Whole, Sliced, Excepting, Texts, texts_of, number_data, state_data, states_data, indices_data, excepts_data, form_data, certificate_data, ReadsBackWithin}
use Rattle.std.specs.Prelude.{codes, option_map, IsUtf8}
use Rattle.std.proofs.lemmas.Str.{IsUtf8-append, IsUtf8-from_ascii}
use Rattle.std.proofs.lemmas.Fmt.{IsAscii-decimal}
use Rattle.json.specs.Print.{quoted, escape_byte}
use Rattle.json.specs.Tree.{HasNumbers, ItemsHaveNumbers}
use Rattle.json.proofs.Printed.Decimals.{IsNumber-decimal}
use Rattle.json.proofs.Printed.Utf8.{IsUtf8-are_ascii, IsUtf8-quoted, IsUtf8-separator}
use Rattle.serde_json.specs.Data.{number, object, item, member, no_members, put}
use Rattle.serde_json.specs.Written.{members_text}
use Rattle.serde_json.proofs.Numbers.{number_of-decimal}
use Rattle.model.specs.Certificates.{Form}
use Rattle.certificate.specs.Spelled.{plain_head, excepting_head, members_front, head_text, tail_text}
use Rattle.certificate.specs.Writes.{AreNarrow, HasNarrow, HasTexts}
use Rattle.certificate.proofs.Joining.{within}
use Rattle.certificate.proofs.Spelling.{certificate_depth}

-- ---- what is read of them

each_value : {A : Type 0} (f : A → Data) (P : A → Type 0) → ((x : A) → P x → of_json (outline (f x)) ≡ Some (f x)) → (xs : List A) → AllByRecursion P xs → of_items (items_outline (items_of (map f xs))) ≡ Some (items_of (map f xs))
each_value f P value [] h = refl
each_value f P value (x ∷ xs) h =
    ap (λ (o : Option Data). option_and_then (λ (d : Data). option_map (item d) (of_items (items_outline (items_of (map f xs))))) o) (value x h.0)
    ∙ ap (λ (o : Option Items). option_map (item (f x)) o) (each_value f P value xs h.1)

number_value : (n : ℕ) → n < 2 ^ 64 → of_json (outline (number_data n)) ≡ Some (number_data n)
number_value n h = ap (option_map number) (number_of-decimal n h)

state_value : (s : List ℕ) → AreNarrow s → of_json (outline (state_data s)) ≡ Some (state_data s)
state_value s h = ap (option_map array) (each_value number_data (λ n. n < 2 ^ 64) number_value s h)

states_value : (ss : List (List ℕ)) → AllByRecursion AreNarrow ss → of_json (outline (states_data ss)) ≡ Some (states_data ss)
states_value ss h = ap (option_map array) (each_value state_data AreNarrow state_value ss h)

excepts_value : (excepts : List Text) → AllByRecursion IsUtf8 excepts → of_json (outline (excepts_data excepts)) ≡ Some (excepts_data excepts)
excepts_value excepts h = ap (option_map array) (each_value string IsUtf8 (λ t u. refl) excepts h)

-- the members before `states` of a certificate without `except`, with this as the form
abbrev formed : Texts → Data → Members
formed t form =
    member (codes "exchange") (string t.exchange) (member (codes "form") form (member (codes "mode") (string t.mode)
    (member (codes "pattern") (string t.pattern) (member (codes "queue") (string t.queue) no_members))))

-- what is read of a certificate without `except`, by what is read of its form, its states and its tracked indices
abbrev whole_read : Texts → Option Data → Option Data → Option Data
whole_read t form states = option_map object (option_and_then (λ (n : Data). option_and_then (λ (d : Data). Some (put (codes "states") d (formed t n))) states) form)

abbrev sliced_read : Texts → Option Data → Option Data → Option Data → Option Data
sliced_read t form states tracked =
    option_map object (option_and_then (λ (n : Data). option_and_then (λ (d : Data). option_and_then (λ (e : Data). Some (put (codes "tracked") e (put (codes "states") d (formed t n)))) tracked) states) form)

-- what is read of a certificate with `except`, by what is read of its parts
abbrev excepting_read : Texts → Option Data → Option Data → Option Data → Option Data → Option Data
excepting_read t excepts form states tracked =
    option_map object (option_and_then (λ (x : Data). option_and_then (λ (n : Data). option_and_then (λ (d : Data). option_and_then (λ (e : Data).
    Some (put (codes "tracked") e (put (codes "states") d (member (codes "except") x (formed t n))))) tracked) states) form) excepts)

form_value : (form : Form) (t : Texts) (states : Data) → HasNarrow form → HasTexts form → of_json (outline states) ≡ Some states → of_json (outline (form_data form t states)) ≡ Some (form_data form t states)
form_value Whole t states p e v = λ k. whole_read t (number_value 1 (omega arith) k) (v k)
form_value (Sliced indices) t states p e v = λ k. sliced_read t (number_value 2 (omega arith) k) (v k) (state_value indices p k)
form_value (Excepting excepts indices) t states p e v = λ k. excepting_read t (excepts_value excepts e k) (number_value 3 (omega arith) k) (v k) (state_value indices p k)

-- ---- their numbers

each_numbers : {A : Type 0} (f : A → Data) (P : A → Type 0) → ((x : A) → P x → HasNumbers (outline (f x))) → (xs : List A) → AllByRecursion P xs → ItemsHaveNumbers (items_outline (items_of (map f xs)))
each_numbers f P numbers [] h = tt
each_numbers f P numbers (x ∷ xs) h = (numbers x h.0, each_numbers f P numbers xs h.1)

state_numbers : (s : List ℕ) → AreNarrow s → HasNumbers (outline (state_data s))
state_numbers s h = each_numbers number_data (λ n. n < 2 ^ 64) (λ n l. IsNumber-decimal n l) s h

states_numbers : (ss : List (List ℕ)) → AllByRecursion AreNarrow ss → HasNumbers (outline (states_data ss))
states_numbers ss h = each_numbers state_data AreNarrow state_numbers ss h

excepts_numbers : (excepts : List Text) → AllByRecursion IsUtf8 excepts → HasNumbers (outline (excepts_data excepts))
excepts_numbers excepts h = each_numbers string IsUtf8 (λ t u. tt) excepts h

form_numbers : (form : Form) (t : Texts) (states : Data) → HasNarrow form → HasTexts form → HasNumbers (outline states) → HasNumbers (outline (form_data form t states))
form_numbers Whole t states p e v = (tt, (IsNumber-decimal 1 (omega arith), (tt, (tt, (tt, (v, tt))))))
form_numbers (Sliced indices) t states p e v = (tt, (IsNumber-decimal 2 (omega arith), (tt, (tt, (tt, (v, (state_numbers indices p, tt)))))))
form_numbers (Excepting excepts indices) t states p e v =
    (excepts_numbers excepts e, (tt, (IsNumber-decimal 3 (omega arith), (tt, (tt, (tt, (v, (state_numbers indices p, tt))))))))

pub certificate_reads_back : (c : Certificate) → AreTexts c → AllByRecursion AreNarrow c.states → HasNarrow c.form → ReadsBackWithin (certificate_data c)
certificate_reads_back c texts states indices =
    let few = certificate_depth c in
    within (certificate_data c)
    (form_value c.form (texts_of c) (states_data c.states) indices texts.excepts (states_value c.states states))
    (form_numbers c.form (texts_of c) (states_data c.states) indices texts.excepts (states_numbers c.states states))
    (omega (arith, few))

-- ---- UTF-8

pub comma_utf8 : (b : Bool) → IsUtf8 (comma_if b)
comma_utf8 true = IsUtf8-separator true begin_array
comma_utf8 false = IsUtf8-separator false begin_array

each_utf8 : {A : Type 0} (f : A → Data) (P : A → Type 0) → ((x : A) → P x → IsUtf8 (compact_text (f x))) → (later : Bool) (xs : List A) → AllByRecursion P xs → IsUtf8 (items_text later (items_of (map f xs)))
each_utf8 f P utf8 later [] h = IsUtf8-are_ascii (93 ∷ []) refl
each_utf8 f P utf8 later (x ∷ xs) h = IsUtf8-append (comma_if later) _ (comma_utf8 later) (IsUtf8-append (compact_text (f x)) _ (utf8 x h.0) (each_utf8 f P utf8 true xs h.1))

array_utf8 : {A : Type 0} (f : A → Data) (P : A → Type 0) → ((x : A) → P x → IsUtf8 (compact_text (f x))) → (xs : List A) → AllByRecursion P xs → IsUtf8 (compact_text (array (items_of (map f xs))))
array_utf8 f P utf8 xs h = IsUtf8-append (91 ∷ []) _ (IsUtf8-are_ascii (91 ∷ []) refl) (each_utf8 f P utf8 false xs h)

state_utf8 : (s : List ℕ) → AreNarrow s → IsUtf8 (compact_text (state_data s))
state_utf8 s h = array_utf8 number_data (λ n. n < 2 ^ 64) (λ n l. IsUtf8-from_ascii _ (IsAscii-decimal n l)) s h

states_utf8 : (ss : List (List ℕ)) → AllByRecursion AreNarrow ss → IsUtf8 (compact_text (states_data ss))
states_utf8 ss h = array_utf8 state_data AreNarrow state_utf8 ss h

excepts_utf8 : (excepts : List Text) → AllByRecursion IsUtf8 excepts → IsUtf8 (compact_text (excepts_data excepts))
excepts_utf8 excepts h = array_utf8 string IsUtf8 (λ t u. IsUtf8-quoted t u) excepts h

member_utf8 : (later : Bool) (k : List ℕ) (d : Data) (ms : Members) → IsUtf8 k → IsUtf8 (compact_text d) → IsUtf8 (members_text true ms) → IsUtf8 (members_text later (member k d ms))
member_utf8 later k d ms key value rest =
    IsUtf8-append (comma_if later) _ (comma_utf8 later)
    (IsUtf8-append (quoted k) _ (IsUtf8-quoted k key)
    (IsUtf8-append (58 ∷ []) _ (IsUtf8-are_ascii (58 ∷ []) refl) (IsUtf8-append (compact_text d) _ value rest)))

no_members_utf8 : IsUtf8 (members_text true no_members)
no_members_utf8 = IsUtf8-are_ascii (125 ∷ []) refl

states_member_utf8 : (states : Data) (ms : Members) → IsUtf8 (compact_text states) → IsUtf8 (members_text true ms) → IsUtf8 (members_text true (member (codes "states") states ms))
states_member_utf8 states ms value rest = member_utf8 true (codes "states") states ms (IsUtf8-are_ascii (codes "states") refl) value rest

tracked_member_utf8 : (indices : List ℕ) → AreNarrow indices → IsUtf8 (members_text true (member (codes "tracked") (indices_data indices) no_members))
tracked_member_utf8 indices h = member_utf8 true (codes "tracked") (indices_data indices) no_members (IsUtf8-are_ascii (codes "tracked") refl) (state_utf8 indices h) no_members_utf8

-- the members of a certificate without `except`, with these behind the queue
abbrev plain_with : Texts → ℕ → Members → Members
plain_with t form ms =
    member (codes "exchange") (string t.exchange) (member (codes "form") (number_data form) (member (codes "mode") (string t.mode)
    (member (codes "pattern") (string t.pattern) (member (codes "queue") (string t.queue) ms))))

plain_utf8 : (later : Bool) (c : Certificate) (form : ℕ) (ms : Members) → form < 2 ^ 64 → AreTexts c → IsUtf8 (members_text true ms)
    → IsUtf8 (members_text later (plain_with (texts_of c) form ms))
plain_utf8 later c form ms small t rest =
    let queue = member (codes "queue") (string c.queue) ms in
    let pattern = member (codes "pattern") (string c.pattern) queue in
    let mode = member (codes "mode") (string c.mode) pattern in
    let number = member (codes "form") (number_data form) mode in
    member_utf8 later (codes "exchange") (string c.exchange) number (IsUtf8-are_ascii (codes "exchange") refl) (IsUtf8-quoted c.exchange t.exchange)
    (member_utf8 true (codes "form") (number_data form) mode (IsUtf8-are_ascii (codes "form") refl) (IsUtf8-from_ascii _ (IsAscii-decimal form small))
    (member_utf8 true (codes "mode") (string c.mode) pattern (IsUtf8-are_ascii (codes "mode") refl) (IsUtf8-quoted c.mode t.mode)
    (member_utf8 true (codes "pattern") (string c.pattern) queue (IsUtf8-are_ascii (codes "pattern") refl) (IsUtf8-quoted c.pattern t.pattern)
    (member_utf8 true (codes "queue") (string c.queue) ms (IsUtf8-are_ascii (codes "queue") refl) (IsUtf8-quoted c.queue t.queue) rest))))

object_utf8 : (ms : Members) → IsUtf8 (members_text false ms) → IsUtf8 (compact_text (object ms))
object_utf8 ms h = IsUtf8-append (123 ∷ []) (members_text false ms) (IsUtf8-are_ascii (123 ∷ []) refl) h

form_utf8 : (c : Certificate) (form : Form) (states : Data) → AreTexts c → HasNarrow form → HasTexts form → IsUtf8 (compact_text states) → IsUtf8 (compact_text (form_data form (texts_of c) states))
form_utf8 c Whole states t p e v =
    let rest = member (codes "states") states no_members in
    object_utf8 (plain_with (texts_of c) 1 rest) (plain_utf8 false c 1 rest (omega arith) t (states_member_utf8 states no_members v no_members_utf8))
form_utf8 c (Sliced indices) states t p e v =
    let tracked = member (codes "tracked") (indices_data indices) no_members in
    let rest = member (codes "states") states tracked in
    object_utf8 (plain_with (texts_of c) 2 rest) (plain_utf8 false c 2 rest (omega arith) t (states_member_utf8 states tracked v (tracked_member_utf8 indices p)))
form_utf8 c (Excepting excepts indices) states t p e v =
    let tracked = member (codes "tracked") (indices_data indices) no_members in
    let rest = member (codes "states") states tracked in
    let plain = plain_with (texts_of c) 3 rest in
    object_utf8 (member (codes "except") (excepts_data excepts) plain)
    (member_utf8 false (codes "except") (excepts_data excepts) plain (IsUtf8-are_ascii (codes "except") refl) (excepts_utf8 excepts e)
    (plain_utf8 true c 3 rest (omega arith) t (states_member_utf8 states tracked v (tracked_member_utf8 indices p))))

pub certificate_utf8 : (c : Certificate) → AreTexts c → AllByRecursion AreNarrow c.states → HasNarrow c.form → IsUtf8 (compact_text (certificate_data c))
certificate_utf8 c texts states indices = form_utf8 c c.form (states_data c.states) texts indices texts.excepts (states_utf8 c.states states)

-- ---- the text up to the states, the states, and what follows

abbrev joined : Members → Members → Members
joined no_members ns = ns
joined (member k d ms) ns = member k d (joined ms ns)

-- whether there is a member before what follows these
abbrev later_by : Bool → Members → Bool
later_by later no_members = later
later_by later (member k d ms) = true

later_still : (ms : Members) → later_by true ms ≡ true
later_still no_members = refl
later_still (member k d ms) = refl

front_joined : (later : Bool) (ms ns : Members) → members_text later (joined ms ns) ≡ members_front later ms ++ members_text (later_by later ms) ns
front_joined later no_members ns = refl
front_joined later (member k d ms) ns =
    let comma = comma_if later in
    let value = compact_text d in
    let front = members_front true ms in
    let rest = members_text true ns in
    let more : members_text true (joined ms ns) ≡ front ++ rest = front_joined true ms ns ∙ ap (λ (b : Bool). front ++ members_text b ns) (later_still ms) in
    ap (λ (z : List ℕ). comma ++ (quoted k ++ 58 ∷ (value ++ z))) more
    ∙ sym (append_assoc comma (quoted k ++ 58 ∷ (value ++ front)) rest
    ∙ ap (λ (z : List ℕ). comma ++ z) (append_assoc (quoted k) (58 ∷ (value ++ front)) rest ∙ ap (λ (z : List ℕ). quoted k ++ 58 ∷ z) (append_assoc value front rest)))

front_closed : (later : Bool) (ms : Members) → members_text later ms ≡ members_front later ms ++ 125 ∷ []
front_closed later no_members = refl
front_closed later (member k d ms) =
    let comma = comma_if later in
    let value = compact_text d in
    let front = members_front true ms in
    ap (λ (z : List ℕ). comma ++ (quoted k ++ 58 ∷ (value ++ z))) (front_closed true ms)
    ∙ sym (append_assoc comma (quoted k ++ 58 ∷ (value ++ front)) (125 ∷ [])
    ∙ ap (λ (z : List ℕ). comma ++ z) (append_assoc (quoted k) (58 ∷ (value ++ front)) (125 ∷ []) ∙ ap (λ (z : List ℕ). quoted k ++ 58 ∷ z) (append_assoc value front (125 ∷ []))))

pub form_text : (form : Form) (t : Texts) (states : Data) → compact_text (form_data form t states) ≡ head_text form t ++ (compact_text states ++ tail_text form)
unfolding escape_byte
form_text Whole t states =
    ap (λ (z : List ℕ). 123 ∷ z) (front_joined false (plain_head t 1) (member (codes "states") states no_members))
    ∙ sym (append_assoc (123 ∷ members_front false (plain_head t 1)) (codes ",\"states\":") (compact_text states ++ tail_text Whole))
form_text (Sliced indices) t states =
    ap (λ (z : List ℕ). 123 ∷ z) (front_joined false (plain_head t 2) (member (codes "states") states (member (codes "tracked") (indices_data indices) no_members)))
    ∙ sym (append_assoc (123 ∷ members_front false (plain_head t 2)) (codes ",\"states\":") (compact_text states ++ tail_text (Sliced indices)))
form_text (Excepting excepts indices) t states =
    ap (λ (z : List ℕ). 123 ∷ z) (front_joined false (excepting_head t (excepts_data excepts)) (member (codes "states") states (member (codes "tracked") (indices_data indices) no_members)))
    ∙ sym (append_assoc (123 ∷ members_front false (excepting_head t (excepts_data excepts))) (codes ",\"states\":") (compact_text states ++ tail_text (Excepting excepts indices)))

-- an object's text is its members without the brace, and the brace
pub object_closed : (ms : Members) → compact_text (object ms) ≡ (123 ∷ members_front false ms) ++ 125 ∷ []
object_closed ms = ap (λ (z : List ℕ). 123 ∷ z) (front_closed false ms)
