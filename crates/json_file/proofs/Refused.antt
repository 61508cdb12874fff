-- From what a file states to the whole of it, over what a value states and what each cause asks of that.
use Rattle.json_file.proofs.Names.{◌≡◌, ℕ, ◌<◌, List, Option, Some, None, length, sym, ap, ◌∙◌, subst, arith, Data, IsJson, FailsJson, FileCause, NotJson, Malformed, TooMany, Memory, cause_number, IsFreeOf, IsLeastCause, IsFileOf, IsCauseReported, IsUnreadFile}

-- a file is one value, and states one thing
one_value : (bytes : List ℕ) (d e : Data) → IsJson bytes d → IsJson bytes e → d ≡ e
one_value bytes d e a b = let s : Some d ≡ Some e = sym a.value ∙ b.value in cc

one_stated : {X : Type 0} (at : Data → Option X) (bytes : List ℕ) (x y : X) → IsFileOf at bytes x → IsFileOf at bytes y → x ≡ y
one_stated at bytes x y a b =
    let v : a.value ≡ b.value = one_value bytes a.value b.value a.json b.json in
    let s : Some x ≡ Some y = sym a.states ∙ ap at v ∙ b.states in
    cc

-- a value that states nothing
pub unread : {X : Type 0} (at : Data → Option X) (bytes : List ℕ) (d : Data) (e : FileCause) → IsJson bytes d → FailsJson e (at d ≡ None) → IsUnreadFile at e bytes
unread at bytes d Malformed j h = record { value = d; json = j; states = h }
unread at bytes d Memory j h = tt
unread at bytes d _ j h = absurd h

-- ---- a file that gives nothing is refused so, whatever the causes ask

none_before : {X : Type 0} (at : Data → Option X) (Clear : FileCause → X → Type 0) (bytes : List ℕ) (lower : FileCause) → cause_number lower < 1 → IsFreeOf at Clear bytes lower
none_before at Clear bytes NotJson h = absurd (omega (arith, h))
none_before at Clear bytes _ h = absurd (omega (arith, h))

before_malformed : {X : Type 0} (at : Data → Option X) (Clear : FileCause → X → Type 0) (bytes : List ℕ) (d : Data) → IsJson bytes d
    → (lower : FileCause) → cause_number lower < 2 → IsFreeOf at Clear bytes lower
before_malformed at Clear bytes d j NotJson h = λ s. (d, j)
before_malformed at Clear bytes d j _ h = absurd (omega (arith, h))

-- no other cause stands in a file that is too long
too_long : {X : Type 0} (at : Data → Option X) (Clear : FileCause → X → Type 0) (bytes : List ℕ) → 16777216 < length bytes
    → (lower : FileCause) → cause_number lower < 10 → IsFreeOf at Clear bytes lower
too_long at Clear bytes l NotJson h = λ s. absurd (omega (arith, l, s))
too_long at Clear bytes l Malformed h = λ d j. (let s = j.short in absurd (omega (arith, l, s)))
too_long at Clear bytes l TooMany h = absurd (omega (arith, h))
too_long at Clear bytes l _ h = λ x w. (let s = w.json.short in absurd (omega (arith, l, s)))

pub refused_unread : {X : Type 0} (at : Data → Option X) (Clear : FileCause → X → Type 0) (bytes : List ℕ) (bad : FileCause) → IsUnreadFile at bad bytes → IsCauseReported (IsFreeOf at Clear bytes) bad
refused_unread at Clear bytes NotJson h = record {
  below = none_before at Clear bytes;
  stands = λ f. (let p = f h.0 in h.1 p.0 p.1);
}
refused_unread at Clear bytes Malformed h = record {
  below = before_malformed at Clear bytes h.value h.json;
  stands = λ w. (let p = w h.value h.json in let s : Some p.0 ≡ None = sym p.1 ∙ h.states in cc);
}
refused_unread at Clear bytes TooMany h = record {
  below = too_long at Clear bytes h;
  stands = λ f. (let s = f.short in omega (arith, h, s));
}
refused_unread at Clear bytes Memory h = tt
refused_unread at Clear bytes _ h = absurd h

-- ---- the causes of what is stated

pub free_of : {X : Type 0} (at : Data → Option X) (Clear : FileCause → X → Type 0) (bytes : List ℕ) (x : X) (bad : FileCause) → IsFileOf at bytes x → Clear bad x → IsFreeOf at Clear bytes bad
free_of at Clear bytes x NotJson w c = λ s. (w.value, w.json)
free_of at Clear bytes x Malformed w c = λ d j. (x, ap at (one_value bytes d w.value j w.json) ∙ w.states)
free_of at Clear bytes x TooMany w c = record { short = w.json.short; few = λ y v. subst (Clear TooMany) (one_stated at bytes x y w v) c }
free_of at Clear bytes x bad w c = λ y v. subst (Clear bad) (one_stated at bytes x y w v) c

-- the first two causes ask nothing of what is stated
pub record AskNothing {X : Type 0} (Clear : FileCause → X → Type 0) (x : X) : Type 0 where
  pub json : Clear NotJson x
  pub shape : Clear Malformed x

clear_of : {X : Type 0} (at : Data → Option X) (Clear : FileCause → X → Type 0) (bytes : List ℕ) (x : X) (bad : FileCause) → AskNothing Clear x
    → IsFileOf at bytes x → IsFreeOf at Clear bytes bad → Clear bad x
clear_of at Clear bytes x NotJson n w h = n.json
clear_of at Clear bytes x Malformed n w h = n.shape
clear_of at Clear bytes x TooMany n w h = h.few x w
clear_of at Clear bytes x bad n w h = h x w

first_of : {X : Type 0} (at : Data → Option X) (Clear : FileCause → X → Type 0) (bytes : List ℕ) (x : X) (bad : FileCause) → AskNothing Clear x
    → IsFileOf at bytes x → IsLeastCause (λ (b : FileCause). Clear b x) bad → IsLeastCause (IsFreeOf at Clear bytes) bad
first_of at Clear bytes x bad n w l = record {
  below = λ lower h. free_of at Clear bytes x lower w (l.below lower h);
  stands = λ h. l.stands (clear_of at Clear bytes x bad n w h);
}

pub refused : {X : Type 0} (at : Data → Option X) (Clear : FileCause → X → Type 0) (bytes : List ℕ) (x : X) (bad : FileCause) → AskNothing Clear x
    → IsFileOf at bytes x → IsCauseReported (λ (b : FileCause). Clear b x) bad → IsCauseReported (IsFreeOf at Clear bytes) bad
refused at Clear bytes x Memory n w h = tt
refused at Clear bytes x bad n w h = first_of at Clear bytes x bad n w h
