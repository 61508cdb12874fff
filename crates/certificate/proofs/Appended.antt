-- The pieces that are appended to a text make a certificate.
use Rattle.certificate.proofs.Names.{◌≡◌, ◌≤◌, ◌-◌, AreTexts, ℕ, true, false, List, [], ◌∷◌, ◌++◌, length, take, Option, None, Some, refl, sym, ap, subst, ◌∙◌, arith, append_assoc, length-append, le-leb, leb-true, Data, compact_text, has_float, Certificate, Whole, Sliced, Excepting, Texts, texts_of, indices_data, states_data, certificate_data}
use Rattle.std.specs.Prelude.{codes, IsUtf8}
use Rattle.std.proofs.lemmas.List.{take_at}
use Rattle.serde_json.specs.Data.{object}
use Rattle.model.specs.Certificates.{Form}
use Rattle.certificate.specs.Spelled.{head_members, head_text, members_front, tail_text}
use Rattle.certificate.specs.Writes.{FailsToPut, HasCertificate, HasHead, HasNarrow, HasState, HasStates, HasTail, HasTracked, is_full}
use Rattle.certificate.specs.declared.unwritten.Unwritten.{Unwritten}
use Rattle.certificate.specs.declared.unwritten.Unwritten.TheVariants.{NotText, TooLong, Memory}
use Rattle.certificate.proofs.Pieces.{form_text, object_closed}
use Rattle.certificate.proofs.Spelling.{excepts_whole}

-- ---- up to the states

head_whole : (form : Form) (t : Texts) → has_float (object (head_members form t)) ≡ false
head_whole Whole t = refl
head_whole (Sliced indices) t = refl
head_whole (Excepting excepts indices) t = rw (excepts_whole excepts) refl

-- the text of the members before the states: their object without its brace, and the brace
pub head_written : (form : Form) (t : Texts) (d : Data) (text : List ℕ) → d ≡ object (head_members form t) → (has_float d ≡ false → text ≡ compact_text d)
    → text ≡ (123 ∷ members_front false (head_members form t)) ++ 125 ∷ []
head_written form t d text is compact = compact (ap has_float is ∙ head_whole form t) ∙ ap compact_text is ∙ object_closed (head_members form t)

pub head_long : (form : Form) (t : Texts) (text : List ℕ) → text ≡ (123 ∷ members_front false (head_members form t)) ++ 125 ∷ [] → 1 ≤ length text
head_long form t text is = let a = ap (λ (z : List ℕ). length z) is in omega (arith, a)

-- all of the text but its last byte
without_last : (front text : List ℕ) → text ≡ front ++ 125 ∷ [] → take (length text - 1) text ≡ front
without_last front text is =
    let a = ap (λ (z : List ℕ). length z) is in
    let b = length-append front (125 ∷ []) in
    ap (λ (z : List ℕ). take (length text - 1) z) is ∙ take_at front (125 ∷ []) (length text - 1) (omega (arith, a, b))

pub head_appended : (form : Form) (t : Texts) (old one new text : List ℕ) → text ≡ (123 ∷ members_front false (head_members form t)) ++ 125 ∷ []
    → one ≡ old ++ take (length text - 1) text → new ≡ one ++ codes ",\"states\":" → new ≡ old ++ head_text form t
head_appended form t old one new text is a b =
    let front = 123 ∷ members_front false (head_members form t) in
    let states = codes ",\"states\":" in
    b ∙ ap (λ (z : List ℕ). z ++ states) (a ∙ ap (λ (z : List ℕ). old ++ z) (without_last front text is)) ∙ append_assoc old front states

-- ---- behind the states

pub tracked_appended : (indices old one two new : List ℕ) → one ≡ old ++ codes ",\"tracked\":" → HasState one two indices → new ≡ two ++ 125 ∷ [] → HasTracked old new indices
tracked_appended indices old one two new a s n =
    let tracked = codes ",\"tracked\":" in
    let text = compact_text (indices_data indices) in
    record {
      text =
          n ∙ ap (λ (z : List ℕ). z ++ 125 ∷ []) (s.text ∙ ap (λ (z : List ℕ). z ++ text) a)
          ∙ append_assoc (old ++ tracked) text (125 ∷ []) ∙ append_assoc old tracked (text ++ 125 ∷ []);
      narrow = s.narrow;
    }

tail_appended : (form : Form) (old new : List ℕ) → HasTail old new form → new ≡ old ++ tail_text form
tail_appended Whole old new h = h
tail_appended (Sliced indices) old new h = h.text
tail_appended (Excepting excepts indices) old new h = h.text

tail_narrow : (form : Form) (old new : List ℕ) → HasTail old new form → HasNarrow form
tail_narrow Whole old new h = tt
tail_narrow (Sliced indices) old new h = h.narrow
tail_narrow (Excepting excepts indices) old new h = h.narrow

-- ---- a certificate

-- these texts
abbrev made : List ℕ → List ℕ → List ℕ → List ℕ → Texts
made exchange mode pattern queue = record { exchange = exchange; mode = mode; pattern = pattern; queue = queue }

-- a text that has reached the limit has reached it when it is longer, too
full_more : (most : Option ℕ) (n m : ℕ) → n ≤ m → is_full most n ≡ true → is_full most m ≡ true
full_more None n m l h = h
full_more (Some k) n m l h = let a = leb-true _ _ h in le-leb _ _ (omega (arith, l, a))

-- what follows the text so far makes the whole longer
full_before : (most : Option ℕ) (front rest whole : List ℕ) → front ++ rest ≡ whole → is_full most (length front) ≡ true → is_full most (length whole) ≡ true
full_before most front rest whole is h =
    let a = ap (λ (z : List ℕ). length z) is in
    let e = length-append front rest in
    full_more most (length front) (length whole) (omega (arith, a, e)) h

-- the states of a certificate are too long, so the certificate is
pub fails_by_states : (c : Certificate) (most : Option ℕ) (old mid : List ℕ) (why : Unwritten) → mid ≡ old ++ head_text c.form (texts_of c)
    → FailsToPut why most (length (mid ++ compact_text (states_data c.states))) (Unit {0}) → FailsToPut why most (length (old ++ compact_text (certificate_data c))) (AreTexts c)
fails_by_states c most old mid NotText m f = λ texts. f tt
fails_by_states c most old mid TooLong m f =
    let head = head_text c.form (texts_of c) in
    let states = compact_text (states_data c.states) in
    let tail = tail_text c.form in
    let whole : (mid ++ states) ++ tail ≡ old ++ compact_text (certificate_data c) =
    append_assoc mid states tail ∙ ap (λ (z : List ℕ). z ++ (states ++ tail)) m ∙ append_assoc old head (states ++ tail)
    ∙ ap (λ (z : List ℕ). old ++ z) (sym (form_text c.form (texts_of c) (states_data c.states))) in
    full_before most (mid ++ states) tail (old ++ compact_text (certificate_data c)) whole f
fails_by_states c most old mid Memory m f = tt

-- the text up to the states, of a form and texts that are the certificate's
pub head_of_certificate : (c : Certificate) (form : Form) (exchange mode pattern queue old one : List ℕ) → form ≡ c.form → exchange ≡ c.exchange → mode ≡ c.mode → pattern ≡ c.pattern → queue ≡ c.queue
    → HasHead old one form (made exchange mode pattern queue) → HasHead old one c.form (texts_of c)
head_of_certificate c form exchange mode pattern queue old one f e m p q h =
    let texts : made exchange mode pattern queue ≡ texts_of c = λ k. made (e k) (m k) (p k) (q k) in
    subst (λ (t : Texts). HasHead old one c.form t) texts (subst (λ (g : Form). HasHead old one g (made exchange mode pattern queue)) f h)

-- the text up to the states, the states and what follows are the certificate
pub has_certificate : (c : Certificate) (old one two new : List ℕ) → HasHead old one c.form (texts_of c) → HasStates one two c.states → HasTail two new c.form
    → IsUtf8 c.exchange → IsUtf8 c.mode → IsUtf8 c.pattern → IsUtf8 c.queue → HasCertificate old new c
has_certificate c old one two new h s t exchange mode pattern queue =
    let head = head_text c.form (texts_of c) in
    let states = compact_text (states_data c.states) in
    let tail = tail_text c.form in
    record {
      text =
          tail_appended c.form two new t ∙ ap (λ (z : List ℕ). z ++ tail) (s.text ∙ ap (λ (z : List ℕ). z ++ states) h.text)
          ∙ append_assoc (old ++ head) states tail ∙ append_assoc old head (states ++ tail)
          ∙ ap (λ (z : List ℕ). old ++ z) (sym (form_text c.form (texts_of c) (states_data c.states)));
      texts = record { exchange = exchange; mode = mode; pattern = pattern; queue = queue; excepts = h.utf8 };
      states = s.narrow;
      indices = tail_narrow c.form two new t;
    }
