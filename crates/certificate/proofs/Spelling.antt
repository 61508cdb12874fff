-- What is written is read back.
use Rattle.certificate.proofs.Names.{◌≡◌, ◌≤◌, ℕ, List, [], ◌∷◌, map, false, refl, ap, ◌∙◌, Option, Some, arith, option_and_then, Data, string, depth, items_depth, items_of, has_float, items_have_float, whole_number, Text, Certificate, Whole, Sliced, Excepting, number_data, state_data, states_data, indices_data, excepts_data, Texts, texts_of, form_data, certificate_data, file_data}
use Rattle.std.proofs.Common.{option_map}
use Rattle.serde_json.specs.Find.{as_str}
use Rattle.serde_json.proofs.OnLiterals.{serde_json_on_literals}
use Rattle.json_file.specs.Members.{array_member, each, text_member}
use Rattle.model.specs.Certificates.{Form}
use Rattle.certificate.specs.Stated.{state_in, states_at, tracked_at, excepts_at, whole_at, sliced_at, excepting_of, excepting_at, form_of, form_at, certificate_at, certificates_stated}

-- each is read back
each_back : {A : Type 0} (f : A → Data) (reads : Data → Option A) → ((x : A) → reads (f x) ≡ Some x) → (xs : List A) → each reads (items_of (map f xs)) ≡ Some xs
unfolding each
each_back f reads back [] = refl
each_back {A} f reads back (x ∷ xs) = ap (λ (o : Option A). option_and_then (λ (y : A). option_map (λ (ys : List A). y ∷ ys) (each reads (items_of (map f xs)))) o) (back x) ∙ ap (λ (o : Option (List A)). option_map (λ (ys : List A). x ∷ ys) o) (each_back f reads back xs)

state_back : (s : List ℕ) → state_in (state_data s) ≡ Some s
unfolding state_in
state_back s = each_back number_data whole_number (λ n. refl) s

states_back : (ss : List (List ℕ)) → each state_in (items_of (map state_data ss)) ≡ Some ss
states_back ss = each_back state_data state_in state_back ss

numbers_back : (ns : List ℕ) → each whole_number (items_of (map number_data ns)) ≡ Some ns
numbers_back ns = each_back number_data whole_number (λ n. refl) ns

texts_back : (texts : List Text) → each as_str (items_of (map string texts)) ≡ Some texts
texts_back texts = each_back string as_str (λ t. refl) texts

-- the certificate of these parts
abbrev made : Texts → Form → List (List ℕ) → Certificate
made t form ss = record { form = form; exchange = t.exchange; mode = t.mode; pattern = t.pattern; queue = t.queue; states = ss }

-- what is read behind the form
abbrev behind : Texts → List (List ℕ) → Form → Option Certificate
behind t ss form = option_and_then (λ (read : List (List ℕ)). Some (made t form read)) (each state_in (items_of (map state_data ss)))

behind_back : (t : Texts) (form : Form) (ss : List (List ℕ)) → behind t ss form ≡ Some (made t form ss)
behind_back t form ss = ap (λ (o : Option (List (List ℕ))). option_and_then (λ (read : List (List ℕ)). Some (made t form read)) o) (states_back ss)

form_back : (form : Form) (t : Texts) (ss : List (List ℕ)) → certificate_at (form_data form t (states_data ss)) ≡ Some (made t form ss)
unfolding certificate_at form_at form_of whole_at sliced_at excepting_at excepting_of tracked_at excepts_at states_at array_member text_member serde_json_on_literals
form_back Whole t ss = behind_back t Whole ss
form_back (Sliced indices) t ss = ap (λ (o : Option (List ℕ)). option_and_then (behind t ss) (option_map Sliced o)) (numbers_back indices) ∙ behind_back t (Sliced indices) ss
form_back (Excepting excepts indices) t ss =
    ap (λ (o : Option (List Text)). option_and_then (behind t ss) (option_and_then (λ (es : List Text). option_and_then (λ (ns : List ℕ). Some (Excepting es ns)) (each whole_number (items_of (map number_data indices)))) o)) (texts_back excepts)
    ∙ ap (λ (o : Option (List ℕ)). option_and_then (behind t ss) (option_and_then (λ (ns : List ℕ). Some (Excepting excepts ns)) o)) (numbers_back indices)
    ∙ behind_back t (Excepting excepts indices) ss

certificate_back : (c : Certificate) → certificate_at (certificate_data c) ≡ Some c
certificate_back c = form_back c.form (texts_of c) c.states

pub file_back : (cs : List Certificate) → certificates_stated (file_data cs) ≡ Some cs
unfolding certificates_stated
file_back cs = each_back certificate_data certificate_at certificate_back cs

-- ---- depth

each_depth : {A : Type 0} (f : A → Data) (n : ℕ) → ((x : A) → depth (f x) ≤ n) → (xs : List A) → items_depth (items_of (map f xs)) ≤ n
each_depth f n h [] = omega arith
each_depth f n h (x ∷ xs) = let a = h x in let b = each_depth f n h xs in omega (arith, a, b)

state_depth : (s : List ℕ) → depth (state_data s) ≤ 1
state_depth s = let a = each_depth number_data 0 (λ n. omega arith) s in omega (arith, a)

states_depth : (ss : List (List ℕ)) → depth (states_data ss) ≤ 2
states_depth ss = let a = each_depth state_data 1 state_depth ss in omega (arith, a)

indices_depth : (indices : List ℕ) → depth (indices_data indices) ≤ 1
indices_depth indices = state_depth indices

excepts_depth : (excepts : List Text) → depth (excepts_data excepts) ≤ 1
excepts_depth excepts = let a = each_depth string 0 (λ t. omega arith) excepts in omega (arith, a)

form_depth : (form : Form) (t : Texts) (ss : List (List ℕ)) → depth (form_data form t (states_data ss)) ≤ 3
form_depth Whole t ss = let a = states_depth ss in omega (arith, a)
form_depth (Sliced indices) t ss = let a = states_depth ss in let b = indices_depth indices in omega (arith, a, b)
form_depth (Excepting excepts indices) t ss = let a = states_depth ss in let b = indices_depth indices in let d = excepts_depth excepts in omega (arith, a, b, d)

pub certificate_depth : (c : Certificate) → depth (certificate_data c) ≤ 3
certificate_depth c = form_depth c.form (texts_of c) c.states

-- ---- no floats

each_whole : {A : Type 0} (f : A → Data) → ((x : A) → has_float (f x) ≡ false) → (xs : List A) → items_have_float (items_of (map f xs)) ≡ false
each_whole f h [] = refl
each_whole f h (x ∷ xs) = rw (h x) (each_whole f h xs)

pub excepts_whole : (excepts : List Text) → has_float (excepts_data excepts) ≡ false
excepts_whole excepts = each_whole string (λ t. refl) excepts
