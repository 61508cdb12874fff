-- Verdicts and outcomes, one for each guarantee.
use Rattle.server.proofs.Names.{◌≡◌, ℕ, zero, suc, ◌+◌, ◌++◌, ◌<◌, ◌≤◌, Bool, true, false, List, [], ◌∷◌, length, take, Option, Some, None, refl, sym, ap, ◌∙◌, subst, arith, get_or, append_assoc, append-nil, length-append, list_any, take_more, length-take-le, Text, Topology, Guarantee, Adds, IsDraft, Draft, FindsVerdict, Verdict, Yes, No, Undecided, EachWith, FindsVerdicts, Judges, certificates_in, is_no, is_undecided, status_by, status_of_verdicts, verdict_line, verdict_lines}
use Rattle.std.proofs.Common.{◌||◌}
use Rattle.model.specs.Certificates.{Certificate}
use Rattle.server.proofs.Meaning.{verdicts_mean}

-- one more at the end of both
pub each_more : {A B : Type 0} (P : ℕ → A → B → Type 0) (n m : ℕ) (xs : List A) (ys : List B) (x : A) (y : B)
    → EachWith P n xs ys → m ≡ n + length xs → P m x y → EachWith P n (xs ++ x ∷ []) (ys ++ y ∷ [])
each_more P n m [] [] x y h e p = (subst (λ (k : ℕ). P k x y) (omega (arith, e)) p, tt)
each_more P n m [] (z ∷ ys) x y h e p = absurd h
each_more P n m (z ∷ xs) [] x y h e p = absurd h
each_more P n m (z ∷ xs) (w ∷ ys) x y h e p = (h.0, each_more P (n + 1) m xs ys x y h.1 (omega (arith, e)) p)

-- the next of the first list, with what was found of it
pub found_next : {A B : Type 0} (P : ℕ → A → B → Type 0) (xs : List A) (i : ℕ) (x : A) (ys new : List B) (y : B)
    → i < length xs → x ≡ get_or xs i x → EachWith P 0 (take i xs) ys → P i x y → new ≡ ys ++ y ∷ [] → EachWith P 0 (take (i + 1) xs) new
found_next {A = A} P xs i x ys new y lt is h p e =
    let more : take (i + 1) xs ≡ take i xs ++ x ∷ [] = take_more xs i x lt ∙ ap (λ (z : A). take i xs ++ z ∷ []) (sym is) in
    let n : i ≡ 0 + length (take i xs) = (let h : length (take i xs) ≡ i = length-take-le i xs (omega (arith, lt)) in omega (arith, h)) in
    rw (more, e) (each_more P 0 i (take i xs) ys x y h n p)

-- ---- what is reported of verdicts

lines_more : (n : ℕ) (vs : List Verdict) (v : Verdict) → verdict_lines n (vs ++ v ∷ []) ≡ verdict_lines n vs ++ verdict_line (n + length vs) v
lines_more n [] v = append-nil (verdict_line n v) ∙ ap (λ (k : ℕ). verdict_line k v) (omega arith)
lines_more n (w ∷ vs) v =
    let there : (n + 1) + length vs ≡ n + length (w ∷ vs) = omega arith in
    ap (λ (z : Text). verdict_line n w ++ z) (lines_more (n + 1) vs v ∙ ap (λ (k : ℕ). verdict_lines (n + 1) vs ++ verdict_line k v) there)
    ∙ sym (append_assoc (verdict_line n w) (verdict_lines (n + 1) vs) (verdict_line (n + length (w ∷ vs)) v))

or_false : (b : Bool) → b || false ≡ b
or_false true = refl
or_false false = refl

or_assoc : (a b c : Bool) → a || (b || c) ≡ (a || b) || c
or_assoc true b c = refl
or_assoc false b c = refl

any_more : (p : Verdict → Bool) (vs : List Verdict) (v : Verdict) → list_any p (vs ++ v ∷ []) ≡ list_any p vs || p v
any_more p [] v = or_false (p v)
any_more p (w ∷ vs) v = ap (λ (b : Bool). p w || b) (any_more p vs v) ∙ or_assoc (p w) (list_any p vs) (p v)

certificates_more : (vs : List Verdict) (v : Verdict) → certificates_in (vs ++ v ∷ []) ≡ certificates_in vs ++ certificates_in (v ∷ [])
certificates_more [] v = refl
certificates_more (Yes c ∷ vs) v = ap (λ (cs : List Certificate). c ∷ cs) (certificates_more vs v)
certificates_more (No r ∷ vs) v = certificates_more vs v
certificates_more (Undecided why ∷ vs) v = certificates_more vs v

-- ---- drafts

adds_none : (o : Option Draft) → Adds o o []
adds_none None = refl
adds_none (Some d) = λ done h. subst (λ (cs : List Certificate). IsDraft d cs) (sym (append-nil done)) h

adds_then : (a b c : Option Draft) (xs ys : List Certificate) → Adds a b xs → Adds b c ys → Adds a c (xs ++ ys)
adds_then None None c xs ys h k = k
adds_then None (Some e) c xs ys h k = let none : Some e ≡ None = h in absurd (cc)
adds_then (Some d) None c xs ys h k = absurd h
adds_then (Some d) (Some e) None xs ys h k = absurd k
adds_then (Some d) (Some e) (Some f) xs ys h k = λ done is. subst (λ (cs : List Certificate). IsDraft f cs) (append_assoc done xs ys) (k (done ++ xs) (h done is))

-- ---- all of it

-- what is kept of the verdicts so far: their lines, whether some is a no and some undecided, and the draft
pub record IsReported (t : Topology) (gs : List Guarantee) (before : Option Draft) (text : Text) (broken undecided : Bool) (after : Option Draft) (vs : List Verdict) : Type 0 where
  pub found : FindsVerdicts t gs vs
  pub many : length vs ≡ length gs
  pub shown : text ≡ verdict_lines 1 vs
  pub broken_is : broken ≡ list_any is_no vs
  pub undecided_is : undecided ≡ list_any is_undecided vs
  pub adds : Adds before after (certificates_in vs)

abbrev pub VerdictsReported : (t : Topology) (gs : List Guarantee) (before : Option Draft) (text : Text) (broken undecided : Bool) (after : Option Draft) → Type 0
VerdictsReported t gs before text broken undecided after = (vs : List Verdict) × IsReported t gs before text broken undecided after vs

pub reported_nothing : (t : Topology) (gs : List Guarantee) (draft : Option Draft) (text : Text) → text ≡ [] → VerdictsReported t (take 0 gs) draft text false false draft
reported_nothing t gs draft text e = ([], record { found = tt; many = refl; shown = e; broken_is = refl; undecided_is = refl; adds = adds_none draft })

pub reported_more : (t : Topology) (gs : List Guarantee) (i : ℕ) (g : Guarantee) (before after last : Option Draft) (text new : Text) (broken undecided breaks doubt : Bool) (number : ℕ) (v : Verdict)
    → i < length gs → g ≡ get_or gs i g → VerdictsReported t (take i gs) before text broken undecided after → FindsVerdict t g v → number ≡ i + 1
    → new ≡ text ++ verdict_line number v → breaks ≡ is_no v → doubt ≡ is_undecided v → Adds after last (certificates_in (v ∷ []))
    → VerdictsReported t (take (i + 1) gs) before new (broken || breaks) (undecided || doubt) last
reported_more t gs i g before after last text new broken undecided breaks doubt number v lt is (vs, h) finds at shows fails doubts adds =
    let few : length (take i gs) ≡ i = length-take-le i gs (omega (arith, lt)) in
    let more : length (take (i + 1) gs) ≡ i + 1 = length-take-le (i + 1) gs (omega (arith, lt)) in
    let count : length (vs ++ v ∷ []) ≡ length vs + 1 = length-append vs (v ∷ []) in
    let here : number ≡ 1 + length vs = (let a = h.many in omega (arith, a, few, at)) in (
      vs ++ v ∷ [],
      record {
        found = found_next (λ (place : ℕ) (x : Guarantee) (y : Verdict). FindsVerdict t x y) gs i g vs (vs ++ v ∷ []) v lt is h.found finds refl;
        many = (let a = h.many in omega (arith, a, few, more, count));
        shown = shows ∙ ap (λ (z : Text). z ++ verdict_line number v) h.shown ∙ ap (λ (k : ℕ). verdict_lines 1 vs ++ verdict_line k v) here ∙ sym (lines_more 1 vs v);
        broken_is = ap (λ (b : Bool). broken || b) fails ∙ ap (λ (b : Bool). b || is_no v) h.broken_is ∙ sym (any_more is_no vs v);
        undecided_is = ap (λ (b : Bool). undecided || b) doubts ∙ ap (λ (b : Bool). b || is_undecided v) h.undecided_is ∙ sym (any_more is_undecided vs v);
        adds = subst (λ (cs : List Certificate). Adds before last cs) (sym (certificates_more vs v)) (adds_then before after last (certificates_in vs) (certificates_in (v ∷ [])) h.adds adds);
      },
    )

take_past : (gs : List Guarantee) (i : ℕ) → length gs ≤ i → take i gs ≡ gs
take_past [] zero h = refl
take_past [] (suc i) h = refl
take_past (g ∷ gs) zero h = absurd (omega (arith, h))
take_past (g ∷ gs) (suc i) h = ap (λ (z : List Guarantee). g ∷ z) (take_past gs i (omega (arith, h)))

pub reported_all : (t : Topology) (gs : List Guarantee) (i : ℕ) (before after : Option Draft) (text : Text) (broken undecided : Bool) (status : ℕ)
    → length gs ≤ i → VerdictsReported t (take i gs) before text broken undecided after → status ≡ status_by broken undecided → Judges t gs before after text status
reported_all t gs i before after text broken undecided status past (vs, h) is =
    let found : FindsVerdicts t gs vs = subst (λ (z : List Guarantee). FindsVerdicts t z vs) (take_past gs i past) h.found in
    let status_is : status ≡ status_of_verdicts vs = is ∙ ap (λ (b : Bool). status_by b undecided) h.broken_is ∙ ap (λ (b : Bool). status_by (list_any is_no vs) b) h.undecided_is in
    record {
      verdicts = vs;
      judged = record { found = found; shown = h.shown; status_is = status_is; means = verdicts_mean t gs vs status found status_is };
      adds = h.adds;
    }
