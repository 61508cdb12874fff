-- Files of certificates that are found one by one.
use Rattle.certificate.proofs.Names.{◌≡◌, ◌<◌, ◌≤◌, ◌+◌, ℕ, Bool, true, false, List, [], ◌∷◌, ◌++◌, length, map, Some, refl, sym, ap, subst, ◌∙◌, arith, append-nil, append_assoc, length-append, lt-ltb, nat_lt, AllByRecursion, Data, Option, None, Result, Ok, Err, leb-true, false≢true, suc, zero, take, get_or, read, items_of, comma_if, compact_text, items_text, Certificate, Whole, Sliced, Excepting, ReadsBackWithin, Texts, certificate_data, file_data, form_data, AreTexts, FailsToWrite, HasNoFile, HasPut, IsBegun, IsFile, IsWritten, begun, listed}
use Rattle.std.specs.Prelude.{IsUtf8}
use Rattle.std.proofs.lemmas.List.{take_all, take_more}
use Rattle.std.proofs.lemmas.Str.{IsUtf8-append}
use Rattle.json.proofs.Printed.Utf8.{IsUtf8-are_ascii}
use Rattle.model.specs.Certificates.{Form}
use Rattle.certificate.specs.declared.unwritten.Unwritten.{Unwritten}
use Rattle.certificate.specs.declared.unwritten.Unwritten.TheVariants.{NotText, TooLong, Memory}
use Rattle.certificate.specs.Drafts.{IsListed, Puts, with_put}
use Rattle.certificate.specs.Writes.{FailsToPut, HasCertificate, PutsCertificate}
use Rattle.certificate.proofs.Joining.{joins}
use Rattle.certificate.proofs.Pieces.{certificate_reads_back, certificate_utf8, comma_utf8}
use Rattle.certificate.proofs.Spelling.{file_back}

-- ---- lists

all_more : {A : Type 0} (P : A → Type 0) (xs : List A) (x : A) → AllByRecursion P xs → P x → AllByRecursion P (xs ++ x ∷ [])
all_more P [] x h p = (p, tt)
all_more P (y ∷ xs) x h p = (h.0, all_more P xs x h.1 p)

all_front : {A : Type 0} (P : A → Type 0) (xs : List A) (x : A) → AllByRecursion P (xs ++ x ∷ []) → AllByRecursion P xs
all_front P [] x h = tt
all_front P (y ∷ xs) x h = (h.0, all_front P xs x h.1)

all_last : {A : Type 0} (P : A → Type 0) (xs : List A) (x : A) → AllByRecursion P (xs ++ x ∷ []) → P x
all_last P [] x h = h.0
all_last P (y ∷ xs) x h = all_last P xs x h.1

all_mapped : (cs : List Certificate) → AllByRecursion (λ c. ReadsBackWithin (certificate_data c)) cs → AllByRecursion ReadsBackWithin (map certificate_data cs)
all_mapped [] h = tt
all_mapped (c ∷ cs) h = (h.0, all_mapped cs h.1)

-- ---- bytes

closing_utf8 : IsUtf8 (93 ∷ [])
closing_utf8 = IsUtf8-are_ascii (93 ∷ []) refl

-- ---- certificates one behind the other

-- whether something stands before what follows these
abbrev later_after : Bool → List Certificate → Bool
later_after b [] = b
later_after b (c ∷ cs) = true

later_true : (cs : List Certificate) → later_after true cs ≡ true
later_true [] = refl
later_true (c ∷ cs) = refl

listed_more : (b : Bool) (cs : List Certificate) (c : Certificate) → listed b (cs ++ c ∷ []) ≡ listed b cs ++ (comma_if (later_after b cs) ++ compact_text (certificate_data c))
listed_more b [] c = ap (λ (s : List ℕ). comma_if b ++ s) (append-nil (compact_text (certificate_data c)))
listed_more b (d ∷ cs) c =
    let last = compact_text (certificate_data c) in
    let first = compact_text (certificate_data d) in
    let rest : listed true (cs ++ c ∷ []) ≡ listed true cs ++ (comma_if true ++ last) =
    listed_more true cs c ∙ ap (λ (v : Bool). listed true cs ++ (comma_if v ++ last)) (later_true cs) in
    ap (λ (s : List ℕ). comma_if b ++ (first ++ s)) rest
    ∙ ap (λ (s : List ℕ). comma_if b ++ s) (sym (append_assoc first (listed true cs) (comma_if true ++ last)))
    ∙ sym (append_assoc (comma_if b) (first ++ listed true cs) (comma_if true ++ last))

closes : (b : Bool) (cs : List Certificate) → items_text b (items_of (map certificate_data cs)) ≡ listed b cs ++ 93 ∷ []
closes b [] = refl
closes b (c ∷ cs) =
    let first = compact_text (certificate_data c) in
    ap (λ (s : List ℕ). comma_if b ++ (first ++ s)) (closes true cs)
    ∙ ap (λ (s : List ℕ). comma_if b ++ s) (sym (append_assoc first (listed true cs) (93 ∷ [])))
    ∙ sym (append_assoc (comma_if b) (first ++ listed true cs) (93 ∷ []))

file_closed : (cs : List Certificate) → compact_text (file_data cs) ≡ begun cs ++ 93 ∷ []
file_closed cs = ap (λ (s : List ℕ). 91 ∷ s) (closes false cs)

some_text : (form : Form) (t : Texts) (states : Data) → 0 < length (compact_text (form_data form t states))
some_text Whole t states = omega arith
some_text (Sliced indices) t states = omega arith
some_text (Excepting excepts indices) t states = omega arith

-- something stands behind the first bracket where there is a certificate
some_before : (cs : List Certificate) → nat_lt 1 (length (begun cs)) ≡ later_after false cs
some_before [] = refl
some_before (c ∷ cs) =
    let first = compact_text (certificate_data c) in
    let a : 0 < length first = some_text c.form _ _ in
    let b : length (first ++ listed true cs) ≡ length first + length (listed true cs) = length-append first (listed true cs) in
    lt-ltb 1 (length (begun (c ∷ cs))) (omega (arith, a, b))

begun_more : (cs : List Certificate) (c : Certificate) (old new : List ℕ) → old ≡ begun cs → new ≡ old ++ (comma_if (nat_lt 1 (length old)) ++ compact_text (certificate_data c)) → new ≡ begun (cs ++ c ∷ [])
begun_more cs c old new is appends =
    let last = compact_text (certificate_data c) in
    appends ∙ ap (λ (z : List ℕ). z ++ (comma_if (nat_lt 1 (length z)) ++ last)) is
    ∙ ap (λ (v : Bool). begun cs ++ (comma_if v ++ last)) (some_before cs)
    ∙ ap (λ (s : List ℕ). 91 ∷ s) (sym (listed_more false cs c))

-- ---- one more

has_put : (c : Certificate) (old mid new : List ℕ) → mid ≡ old ++ comma_if (nat_lt 1 (length old)) → HasCertificate mid new c → HasPut old new c
has_put c old mid new m h =
    let comma = comma_if (nat_lt 1 (length old)) in
    let text = compact_text (certificate_data c) in
    let whole : new ≡ (old ++ comma) ++ text = h.text ∙ ap (λ (z : List ℕ). z ++ text) m in
    record {
      appends = whole ∙ append_assoc old comma text;
      utf8 = λ u. subst IsUtf8 (sym whole) (IsUtf8-append (old ++ comma) text (IsUtf8-append old comma u (comma_utf8 (nat_lt 1 (length old)))) (certificate_utf8 c h.texts h.states h.indices));
      back = certificate_reads_back c h.texts h.states h.indices;
    }

-- a failure behind the comma is one of the text with the comma
fails_to_put : (c : Certificate) (most : Option ℕ) (old mid : List ℕ) (why : Unwritten) → mid ≡ old ++ comma_if (nat_lt 1 (length old))
    → FailsToPut why most (length (mid ++ compact_text (certificate_data c))) (AreTexts c) → FailsToPut why most (length (with_put old c)) (AreTexts c)
fails_to_put c most old mid why m f =
    let text = compact_text (certificate_data c) in
    subst (λ (z : List ℕ). FailsToPut why most (length z) (AreTexts c)) (ap (λ (z : List ℕ). z ++ text) m ∙ append_assoc old (comma_if (nat_lt 1 (length old))) text) f

pub puts : (c : Certificate) (result : Result (Unit {0}) Unwritten) (most : Option ℕ) (old mid new : List ℕ) → mid ≡ old ++ comma_if (nat_lt 1 (length old)) → PutsCertificate result most mid new c
    → Puts result most old new c
puts c (Ok u) most old mid new m h = has_put c old mid new m h
puts c (Err why) most old mid new m h = fails_to_put c most old mid why m h

listed_with : (cs : List Certificate) (c : Certificate) (old new : List ℕ) → IsListed old cs → HasPut old new c → IsListed new (cs ++ c ∷ [])
listed_with cs c old new b p = record {
  text = begun_more cs c old new b.text p.appends;
  utf8 = p.utf8 b.utf8;
  back = all_more (λ (d : Certificate). ReadsBackWithin (certificate_data d)) cs c b.back p.back;
}

pub begun_with : (cs : List Certificate) (c : Certificate) (old new : List ℕ) → IsBegun old cs → HasPut old new c → length new < 16777216 → IsBegun new (cs ++ c ∷ [])
begun_with cs c old new b p short = record {
  text = begun_more cs c old new b.text p.appends;
  short = short;
  utf8 = p.utf8 b.utf8;
  back = all_more (λ (d : Certificate). ReadsBackWithin (certificate_data d)) cs c b.back p.back;
}

pub grown_past : (cs : List Certificate) (c : Certificate) (old new : List ℕ) → IsBegun old cs → HasPut old new c → 16777216 ≤ length new → 16777216 < length (compact_text (file_data (cs ++ c ∷ [])))
grown_past cs c old new b p long =
    let text : new ≡ begun (cs ++ c ∷ []) = begun_more cs c old new b.text p.appends in
    let closed : compact_text (file_data (cs ++ c ∷ [])) ≡ new ++ 93 ∷ [] = file_closed (cs ++ c ∷ []) ∙ ap (λ (z : List ℕ). z ++ 93 ∷ []) (sym text) in
    let a = ap (λ (z : List ℕ). length z) closed in
    let e = length-append new (93 ∷ []) in
    omega (arith, a, e, long)

pub fails_with : (cs : List Certificate) (c : Certificate) (old : List ℕ) (why : Unwritten) → IsBegun old cs → FailsToPut why (Some 16777216) (length (with_put old c)) (AreTexts c)
    → HasNoFile why (cs ++ c ∷ [])
fails_with cs c old NotText b f = λ all. f (all_last AreTexts cs c all)
fails_with cs c old TooLong b f =
    let text : with_put old c ≡ begun (cs ++ c ∷ []) = begun_more cs c old (with_put old c) b.text refl in
    let closed : compact_text (file_data (cs ++ c ∷ [])) ≡ with_put old c ++ 93 ∷ [] = file_closed (cs ++ c ∷ []) ∙ ap (λ (z : List ℕ). z ++ 93 ∷ []) (sym text) in
    let a = ap (λ (z : List ℕ). length z) closed in
    let e = length-append (with_put old c) (93 ∷ []) in
    let long : 16777216 ≤ length (with_put old c) = leb-true _ _ f in
    omega (arith, a, e, long)
fails_with cs c old Memory b f = tt

pub fails_still : (cs : List Certificate) (c : Certificate) (why : Unwritten) → HasNoFile why cs → HasNoFile why (cs ++ c ∷ [])
fails_still cs c NotText f = λ all. f (all_front AreTexts cs c all)
fails_still cs c TooLong f =
    let last = comma_if (later_after false cs) ++ compact_text (certificate_data c) in
    let now = ap (λ (z : List ℕ). length z) (file_closed cs) in
    let then' = ap (λ (z : List ℕ). length z) (file_closed (cs ++ c ∷ []) ∙ ap (λ (s : List ℕ). (91 ∷ s) ++ 93 ∷ []) (listed_more false cs c)) in
    let a = length-append (begun cs) (93 ∷ []) in
    let b = length-append (91 ∷ (listed false cs ++ last)) (93 ∷ []) in
    let e = length-append (listed false cs) last in
    omega (arith, f, now, then', a, b, e)
fails_still cs c Memory f = tt

-- ---- the whole file

pub file_of : (cs : List Certificate) (old new : List ℕ) → IsBegun old cs → new ≡ old ++ 93 ∷ [] → IsFile new cs
file_of cs old new b is =
    let compact : new ≡ compact_text (file_data cs) = is ∙ ap (λ (z : List ℕ). z ++ 93 ∷ []) b.text ∙ sym (file_closed cs) in
    let short : length new ≤ 16777216 = (let a = ap (λ (z : List ℕ). length z) is in let e = length-append old (93 ∷ []) in let s = b.short in omega (arith, a, e, s)) in
    record {
      compact = compact;
      short = short;
      states = record {
        value = file_data cs;
        json = record {
          short = short;
          text = subst IsUtf8 (sym is) (IsUtf8-append old (93 ∷ []) b.utf8 closing_utf8);
          value = ap read compact ∙ joins (map certificate_data cs) (all_mapped cs b.back);
        };
        states = file_back cs;
      };
    }

written : (cs : List Certificate) (old new : List ℕ) → IsListed old cs → new ≡ old ++ 93 ∷ [] → IsWritten new cs
written cs old new b is =
    let compact : new ≡ compact_text (file_data cs) = is ∙ ap (λ (z : List ℕ). z ++ 93 ∷ []) b.text ∙ sym (file_closed cs) in
    record {
      compact = compact;
      reads_back = λ short. record {
        value = file_data cs;
        json = record {
          short = short;
          text = subst IsUtf8 (sym is) (IsUtf8-append old (93 ∷ []) b.utf8 closing_utf8);
          value = ap read compact ∙ joins (map certificate_data cs) (all_mapped cs b.back);
        };
        states = file_back cs;
      };
    }

-- of the texts of all certificates so are those of each
texts_at : (cs : List Certificate) (i : ℕ) (c : Certificate) → AllByRecursion AreTexts cs → i < length cs → c ≡ get_or cs i c → AreTexts c
texts_at [] i c all lt is = absurd (omega (arith, lt))
texts_at (d ∷ cs) zero c all lt is = subst AreTexts (sym is) all.0
texts_at (d ∷ cs) (suc i) c all lt is = texts_at cs i c all.1 (omega (arith, lt)) is

-- one certificate isn't written, so all are not
pub fails_at : (cs : List Certificate) (i : ℕ) (c : Certificate) (why : Unwritten) (n : ℕ) → i < length cs → c ≡ get_or cs i c → FailsToPut why None n (AreTexts c)
    → FailsToWrite why (AllByRecursion AreTexts cs)
fails_at cs i c NotText n lt is f = λ all. f (texts_at cs i c all lt is)
fails_at cs i c TooLong n lt is f = false≢true f
fails_at cs i c Memory n lt is f = tt

pub listed_next : (cs : List Certificate) (i : ℕ) (c : Certificate) (old new : List ℕ) → i < length cs → c ≡ get_or cs i c → IsListed old (take i cs) → HasPut old new c
    → IsListed new (take (i + 1) cs)
listed_next cs i c old new lt is b p =
    let more : take (i + 1) cs ≡ take i cs ++ c ∷ [] = take_more cs i c lt ∙ ap (λ (d : Certificate). take i cs ++ d ∷ []) (sym is) in
    subst (λ (ds : List Certificate). IsListed new ds) (sym more) (listed_with (take i cs) c old new b p)

pub written_whole : (cs : List Certificate) (i : ℕ) (old new : List ℕ) → length cs ≤ i → IsListed old (take i cs) → new ≡ old ++ 93 ∷ [] → IsWritten new cs
written_whole cs i old new le b is = written cs old new (subst (λ (ds : List Certificate). IsListed old ds) (take_all i cs le) b) is
