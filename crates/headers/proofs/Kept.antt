-- All fourteen properties: what is read is spelled so, and what is spelled so is read.
use Rattle.headers.proofs.Names.{◌≡◌, ℕ, ◌+◌, ◌%◌, ◌^◌, ◌<◌, Bool, true, false, cond, eqb, List, [], ◌∷◌, ◌++◌, length, Option, Some, None, refl, sym, ap, subst, ◌∙◌, append-nil, arith, ◌==◌, if◌then◌else◌, AllByRecursion, flat_map, eqb-true, eq-eqb, mod-eq_of_lt, Text, Argument, text_of, octet_of, time_of, table_of, properties_of, flags, value_of, IsValue, AreProperties, as_text, as_octet, as_time, as_table, an_octet, a_short_text, a_long_long, a_field_table, IsArgumentWhole, ◌>>=◌, IsBytes, bind_some, whole, sized_of, Row, front_rows, back_rows, has_flag, option_at, options_at, properties_at, HeadersAreWhole, headers_in}
use Rattle.model.specs.Properties.{properties_from}
use Rattle.model.specs.declared.contents.Fields.{Fields as Properties}
use Rattle.headers.proofs.Flags.{IsSizedOption, HasKind, HaveKinds, Descend, AreKinds, TakesOptions, options_take, options_again, flags-below, flags-fours}

abbrev rows : List Row
rows = front_rows ++ back_rows

-- ---- in two steps

abbrev Found : Type 0
Found = List (Option Argument) × List ℕ

abbrev Read : Type 0
Read = Option Found

-- one more property before those that were read
abbrev onto : Option Argument → Found → Read
onto x y = Some (x ∷ y.0, y.1)

-- what is read further, behind what was read
abbrev on : (List ℕ → Read) → Found → Read
on s x = s x.1 >>= λ y. Some (x.0 ++ y.0, y.1)

swap : (x : Option Argument) (y : Found) (r : Read) → (r >>= λ z. Some (x ∷ y.0 ++ z.0, z.1)) ≡ (r >>= λ z. Some (y.0 ++ z.0, z.1)) >>= onto x
swap x y None = refl
swap x y (Some z) = refl

then_more : (x : Option Argument) (r : Read) (s : List ℕ → Read) → (r >>= onto x) >>= on s ≡ (r >>= on s) >>= onto x
then_more x None s = refl
then_more x (Some y) s = swap x y (s y.1)

itself : (r : Read) → r ≡ (r >>= λ y. Some ([] ++ y.0, y.1))
itself None = refl
itself (Some y) = refl

step : (r : Option (Option Argument × List ℕ)) (whole part more : List ℕ → Read) → ((bytes : List ℕ) → whole bytes ≡ part bytes >>= on more)
    → (r >>= λ x. whole x.1 >>= onto x.0) ≡ (r >>= λ x. part x.1 >>= onto x.0) >>= on more
step None whole part more same = refl
step (Some x) whole part more same = ap (λ (z : Read). z >>= onto x.0) (same x.1) ∙ sym (then_more x.0 (part x.1) more)

options_append : (f : ℕ) (rs qs : List Row) (bytes : List ℕ) → options_at f (rs ++ qs) bytes ≡ options_at f rs bytes >>= on (options_at f qs)
options_append f [] qs bytes = itself (options_at f qs bytes)
options_append f (r ∷ rs) qs bytes = step (option_at (has_flag f r.bit) r.kind bytes) (options_at f (rs ++ qs)) (options_at f rs) (options_at f qs) (options_append f rs qs)

-- all of the bytes
abbrev end : Found → Option (List (Option Argument))
end y = if length y.1 == 0 then Some y.0 else None

ends : (r : Read) (s : List ℕ → Read) → (r >>= λ x. s x.1 >>= λ y. if length y.1 == 0 then Some (x.0 ++ y.0) else None) ≡ (r >>= on s) >>= end
ends None s = refl
ends (Some x) s = go (s x.1)
  where
    go : (q : Read) → (q >>= λ y. if length y.1 == 0 then Some (x.0 ++ y.0) else None) ≡ (q >>= λ y. Some (x.0 ++ y.0, y.1)) >>= end
    go None = refl
    go (Some y) = refl

at_once : (f : ℕ) (bytes : List ℕ) → properties_at f bytes ≡ (if f % 4 == 0 then (options_at f rows bytes >>= end) else None)
at_once f bytes =
    ap (λ (z : Option (List (Option Argument))). if f % 4 == 0 then z else None)
    (ends (options_at f front_rows bytes) (options_at f back_rows) ∙ ap (λ (z : Read). z >>= end) (sym (options_append f front_rows back_rows bytes)))

-- ---- the table

descend : Descend rows
descend = (refl, (refl, (refl, (refl, (refl, (refl, (refl, (refl, (refl, (refl, (refl, (refl, (refl, (refl, tt))))))))))))))

kinds_fit : AreKinds rows
kinds_fit = (tt, (tt, (tt, (tt, (tt, (tt, (tt, (tt, (tt, (tt, (tt, (tt, (tt, (tt, tt))))))))))))))

-- ---- what is read

pass : {A : Type 0} (b : Bool) (r : Option A) (y : A) → cond b r None ≡ Some y → (b ≡ true) × (r ≡ Some y)
pass true r y e = (refl, e)
pass false r y e = absurd cc

some_is : {A : Type 0} (x y : A) → Some x ≡ Some y → x ≡ y
some_is x y e = cc

-- the bytes are these properties, which are flagged so
pub record Kept (f : ℕ) (bytes : List ℕ) (os : List (Option Argument)) : Type 0 where
  pub parts : bytes ≡ flat_map value_of os
  pub fits : AllByRecursion IsSizedOption os
  pub flagged : flags os ≡ f

nil : (bytes : List ℕ) → eqb (length bytes) 0 ≡ true → bytes ≡ []
nil [] e = refl
nil (b ∷ bytes) e = absurd (let h : length (b ∷ bytes) ≡ 0 = eqb-true _ _ e in omega arith)

pub kept : (f : ℕ) (bytes : List ℕ) (os : List (Option Argument)) → f < 2 ^ 16 → IsBytes bytes → properties_at f bytes ≡ Some os → Kept f bytes os
kept f bytes os small are e =
    let whole : cond (eqb (f % 4) 0) (options_at f rows bytes >>= end) None ≡ Some os = sym (at_once f bytes) ∙ e in
    let p = pass (eqb (f % 4) 0) (options_at f rows bytes >>= end) os whole in
    let b = bind_some (options_at f rows bytes) end os p.1 in
    let t : TakesOptions f rows bytes b.0 = options_take f rows bytes b.0 descend kinds_fit are b.1 in
    let q = pass (eqb (length b.0.1) 0) (Some b.0.0) os b.2 in
    let same : b.0.0 ≡ os = some_is b.0.0 os q.1 in
    let fours : f % 4 ≡ 0 = eqb-true _ _ p.0 in
    let all : f % 2 ^ 16 ≡ f = mod-eq_of_lt small in
    subst (λ (z : List (Option Argument)). Kept f bytes z) same (record {
      parts = t.parts ∙ ap (λ (z : List ℕ). flat_map value_of b.0.0 ++ z) (nil b.0.1 q.0) ∙ append-nil (flat_map value_of b.0.0);
      fits = t.fits;
      flagged = let h : flags b.0.0 + f % 4 ≡ f % 2 ^ 16 = t.flagged in omega (arith, h, fours, all);
    })

pub kept_again : (os : List (Option Argument)) → length os ≡ 14 → HaveKinds rows os → AllByRecursion IsSizedOption os → properties_at (flags os) (flat_map value_of os) ≡ Some os
kept_again os len kinds fits =
    let small : flags os < 2 ^ 16 = let h = flags-below os in let p : 2 ^ (length os + 2) ≡ 2 ^ 16 = ap (λ (i : ℕ). 2 ^ (i + 2)) len in omega (arith, h, p) in
    let all : flags os % 2 ^ 16 ≡ flags os = mod-eq_of_lt small in
    let one : options_at (flags os) rows (flat_map value_of os) ≡ Some (os, []) =
    ap (λ (z : List ℕ). options_at (flags os) rows z) (sym (append-nil (flat_map value_of os))) ∙ options_again (flags os) rows os [] descend kinds fits all in
    let fours : eqb (flags os % 4) 0 ≡ true = eq-eqb _ _ (flags-fours os) in
    at_once (flags os) (flat_map value_of os)
    ∙ ap (λ (b : Bool). cond b (options_at (flags os) rows (flat_map value_of os) >>= end) None) fours
    ∙ ap (λ (z : Read). z >>= end) one

-- ---- a record of properties

text_kind : (t : Option Text) → HasKind a_short_text (text_of t)
text_kind None = tt
text_kind (Some t) = refl

octet_kind : (n : Option ℕ) → HasKind an_octet (octet_of n)
octet_kind None = tt
octet_kind (Some n) = refl

time_kind : (n : Option ℕ) → HasKind a_long_long (time_of n)
time_kind None = tt
time_kind (Some n) = refl

table_kind : (t : Option (List ℕ)) → HasKind a_field_table (table_of t)
table_kind None = tt
table_kind (Some t) = refl

have_kinds : (p : Properties) → HaveKinds rows (properties_of p)
have_kinds p = (
  text_kind p.content_type,
  (
    text_kind p.content_encoding,
    (
      table_kind p.headers,
      (
        octet_kind p.delivery_mode,
        (
          octet_kind p.priority,
          (
            text_kind p.correlation_id,
            (
              text_kind p.reply_to,
              (
                text_kind p.expiration,
                (
                  text_kind p.message_id,
                  (
                    time_kind p.timestamp,
                    (text_kind p.kind, (text_kind p.user_id, (text_kind p.app_id, (text_kind p.reserved, tt)))),
                  ),
                ),
              ),
            ),
          ),
        ),
      ),
    ),
  ),
)

-- the bytes of a table are pairs
abbrev IsWholeOption : Option Argument → Type 0
IsWholeOption None = Unit {0}
IsWholeOption (Some a) = IsArgumentWhole a

text_whole : (t : Option Text) → IsWholeOption (text_of t)
text_whole None = tt
text_whole (Some t) = tt

octet_whole : (n : Option ℕ) → IsWholeOption (octet_of n)
octet_whole None = tt
octet_whole (Some n) = tt

time_whole : (n : Option ℕ) → IsWholeOption (time_of n)
time_whole None = tt
time_whole (Some n) = tt

table_whole : (t : Option (List ℕ)) → HeadersAreWhole t → IsWholeOption (table_of t)
table_whole None h = tt
table_whole (Some t) h = h

all_whole : (p : Properties) → HeadersAreWhole p.headers → AllByRecursion IsWholeOption (properties_of p)
all_whole p h = (
  text_whole p.content_type,
  (
    text_whole p.content_encoding,
    (
      table_whole p.headers h,
      (
        octet_whole p.delivery_mode,
        (
          octet_whole p.priority,
          (
            text_whole p.correlation_id,
            (
              text_whole p.reply_to,
              (
                text_whole p.expiration,
                (
                  text_whole p.message_id,
                  (
                    time_whole p.timestamp,
                    (text_whole p.kind, (text_whole p.user_id, (text_whole p.app_id, (text_whole p.reserved, tt)))),
                  ),
                ),
              ),
            ),
          ),
        ),
      ),
    ),
  ),
)

all_values : (os : List (Option Argument)) → AllByRecursion IsSizedOption os → AllByRecursion IsWholeOption os → AllByRecursion IsValue os
all_values [] sized wholes = tt
all_values (None ∷ os) sized wholes = (tt, all_values os sized.1 wholes.1)
all_values (Some a ∷ os) sized wholes = (whole a sized.0 wholes.0, all_values os sized.1 wholes.1)

all_sized : (os : List (Option Argument)) → AllByRecursion IsValue os → AllByRecursion IsSizedOption os
all_sized [] fits = tt
all_sized (None ∷ os) fits = (tt, all_sized os fits.1)
all_sized (Some a ∷ os) fits = (sized_of a fits.0, all_sized os fits.1)

pub its_table : (p : Properties) → AreProperties p → HeadersAreWhole p.headers
its_table p fits = go p.headers fits.1.1.0
  where
    go : (t : Option (List ℕ)) → IsValue (table_of t) → HeadersAreWhole t
    go None h = tt
    go (Some t) h = h

pub its_headers : (p : Properties) → headers_in (properties_of p) ≡ p.headers
its_headers p = go p.headers _
  where
    go : (t : Option (List ℕ)) (os : List (Option Argument)) → headers_in (text_of p.content_type ∷ text_of p.content_encoding ∷ table_of t ∷ os) ≡ t
    go None os = refl
    go (Some t) os = refl

-- what was read is these properties
pub properties_are : (f : ℕ) (bytes : List ℕ) (p : Properties) → f < 2 ^ 16 → IsBytes bytes → properties_at f bytes ≡ Some (properties_of p) → HeadersAreWhole p.headers
    → AreProperties p × (flags (properties_of p) ≡ f) × (bytes ≡ flat_map value_of (properties_of p))
properties_are f bytes p small are e table =
    let k = kept f bytes (properties_of p) small are e in
    (all_values (properties_of p) k.fits (all_whole p table), k.flagged, k.parts)

pub properties_again : (p : Properties) → AreProperties p → properties_at (flags (properties_of p)) (flat_map value_of (properties_of p)) ≡ Some (properties_of p)
properties_again p fits = kept_again (properties_of p) refl (have_kinds p) (all_sized (properties_of p) fits)

-- the same, whatever bytes stand behind them
read_behind : (p : Properties) (more : List ℕ) → AreProperties p → options_at (flags (properties_of p)) rows (flat_map value_of (properties_of p) ++ more) ≡ Some (properties_of p, more)
read_behind p more fits =
    let h = flags-below (properties_of p) in
    let small : flags (properties_of p) < 2 ^ 16 = omega (arith, h) in
    options_again (flags (properties_of p)) rows (properties_of p) more descend (have_kinds p) (all_sized (properties_of p) fits) (mod-eq_of_lt small)

abbrev with_rest : List (Option Argument) → List ℕ → Found
with_rest os rest = (os, rest)

pub no_more : (p q : Properties) (more : List ℕ) → AreProperties p → AreProperties q → flags (properties_of p) ≡ flags (properties_of q) → flat_map value_of (properties_of p) ++ more ≡ flat_map value_of (properties_of q) → more ≡ []
no_more p q more fits also same e =
    let both : Some (with_rest (properties_of p) more) ≡ Some (with_rest (properties_of q) []) =
    sym (read_behind p more fits)
    ∙ ap (λ (n : ℕ). options_at n rows (flat_map value_of (properties_of p) ++ more)) same
    ∙ ap (λ (z : List ℕ). options_at (flags (properties_of q)) rows z) (e ∙ sym (append-nil (flat_map value_of (properties_of q))))
    ∙ read_behind q [] also in
    ap (λ (x : Found). x.1) (some_is (with_rest (properties_of p) more) (with_rest (properties_of q) []) both)

-- bytes that stand where a table should are read too
pub sized_again : (p : Properties) (pairs : List ℕ) → AreProperties (record p { headers = None }) → p.headers ≡ Some pairs → length pairs < 2 ^ 32 → properties_at (flags (properties_of p)) (flat_map value_of (properties_of p)) ≡ Some (properties_of p)
sized_again p pairs fits is lt =
    let s = all_sized (properties_of (record p { headers = None })) fits in
    let t : IsSizedOption (table_of p.headers) = subst (λ (x : Option (List ℕ)). IsSizedOption (table_of x)) (sym is) lt in
    kept_again (properties_of p) refl (have_kinds p) (s.0, (s.1.0, (t, s.1.1.1)))

-- ---- told apart

text_same : (t : Option Text) → as_text (text_of t) ≡ t
text_same None = refl
text_same (Some t) = refl

octet_same : (n : Option ℕ) → as_octet (octet_of n) ≡ n
octet_same None = refl
octet_same (Some n) = refl

time_same : (n : Option ℕ) → as_time (time_of n) ≡ n
time_same None = refl
time_same (Some n) = refl

table_same : (t : Option (List ℕ)) → as_table (table_of t) ≡ t
table_same None = refl
table_same (Some t) = refl

pub told_same : (p : Properties) → properties_from (properties_of p) ≡ p
unfolding properties_from
told_same p =
    rw (
      text_same p.content_type,
      text_same p.content_encoding,
      table_same p.headers,
      octet_same p.delivery_mode,
      octet_same p.priority,
      text_same p.correlation_id,
      text_same p.reply_to,
      text_same p.expiration,
      text_same p.message_id,
      time_same p.timestamp,
      text_same p.kind,
      text_same p.user_id,
      text_same p.app_id,
      text_same p.reserved,
    ) refl

pub same_properties : (p q : Properties) → properties_of p ≡ properties_of q → p ≡ q
same_properties p q e = sym (told_same p) ∙ ap properties_from e ∙ told_same q
