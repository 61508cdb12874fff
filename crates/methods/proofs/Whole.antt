-- What was read of the arguments tells what the payload says.
use Rattle.methods.proofs.Names.{◌≡◌, ℕ, ◌^◌, ◌<◌, ◌≤◌, Bool, true, false, List, [], ◌∷◌, ◌++◌, map, length, drop, Result, Ok, Err, ◌⊎◌, inl, inr, append_assoc, refl, sym, ap, subst, ◌∙◌, append-nil, arith, ◌==◌, ◌||◌, ◌&&◌, w16, to_be_bytes, AllByRecursion, flat_map, Argument, argument, IsArgument, Ids, ids, ids_of, arguments, method_bytes, IsMethod, class_at, method_at, is_known, is_left_out, is_unread, Spells, exact, any_rest, SaysMethod, said, too_short, unknown, left_out, bad_arguments, Method, ConnectionCloseOk, ExchangeDelete, ExchangeBind, ExchangeUnbind, QueueBind, QueueDelete, QueueUnbind, kind_of, arguments_at}
use Rattle.std.proofs.Common.{Option, Some}
use Rattle.std.proofs.lemmas.Bool.{eqb-true, leb-true}
use Rattle.std.specs.Prelude.{leb}
use Rattle.methods.specs.Laws.{OneMethod}
use Rattle.std.proofs.lemmas.Nat.{from_be_bytes-to_be_bytes_2}
use Rattle.field_table.specs.Arguments.{Kind, some_bits}
use Rattle.field_table.proofs.Exactly.{IsBytes, IsBytes-drop, IsKind, arguments_take, arguments_again, all_fit, all_sized, all_whole}
use Rattle.methods.specs.declared.refusals.BadMethod.{BadMethod}
use Rattle.methods.specs.declared.refusals.BadMethod.TheVariants.{FrameError, SyntaxError, CommandInvalid, NotImplemented, Memory}
use Rattle.methods.specs.Kinds.{kinds_of}
use Rattle.methods.specs.Reading.{MethodIsRefused, ReturnsMethod, IsMethodOr, BeginsMethod, IsRead, FailsToRead, ReadsArguments}
use Rattle.methods.proofs.Rebuilt.{same_method}

-- ---- the table

abbrev AreKinds : List Kind → Type 0
AreKinds ks = AllByRecursion IsKind ks

-- whether at most eight bits share an octet
abbrev pub is_kind : Kind → Bool
is_kind (some_bits n) = leb n 8
is_kind _ = true

abbrev pub are_kinds : List Kind → Bool
are_kinds [] = true
are_kinds (k ∷ ks) = is_kind k && are_kinds ks

both_true : (a b : Bool) → a && b ≡ true → (a ≡ true) × (b ≡ true)
both_true true b e = (refl, e)
both_true false b e = absurd (let h : false ≡ true = e in cc)

kind_fits : (k : Kind) → is_kind k ≡ true → IsKind k
kind_fits (some_bits n) e = leb-true n 8 e
kind_fits _ e = tt

kinds_fit : (ks : List Kind) → are_kinds ks ≡ true → AreKinds ks
kinds_fit [] e = tt
kinds_fit (k ∷ ks) e = let b = both_true (is_kind k) (are_kinds ks) e in (kind_fits k b.0, kinds_fit ks b.1)

-- the row of a method in the table
pub record Row (x : Method) : Type 0 where
  pub kinds : kinds_of (ids_of x).class (ids_of x).method ≡ map kind_of (arguments x)
  pub known : is_known (ids_of x).class (ids_of x).method ≡ true
  pub built : is_left_out (ids_of x).class (ids_of x).method ≡ false
  pub fit : are_kinds (kinds_of (ids_of x).class (ids_of x).method) ≡ true

row : (x : Method) → Row x
row ConnectionCloseOk = record { kinds = refl; known = refl; built = refl; fit = refl }
row _ = record { kinds = refl; known = refl; built = refl; fit = refl }

-- what is not read of a method is nothing
bare : (x : Method) → is_unread (ids_of x).class (ids_of x).method ≡ true → arguments x ≡ []
bare ExchangeDelete e = refl
bare ExchangeBind e = refl
bare ExchangeUnbind e = refl
bare QueueBind e = refl
bare QueueDelete e = refl
bare QueueUnbind e = refl
bare _ e = absurd (let h : false ≡ true = e in cc)

record AreSmall (i : Ids) : Type 0 where
  class : i.class < 2 ^ 16
  method : i.method < 2 ^ 16

ids_fit : (x : Method) → AreSmall (ids_of x)
ids_fit ConnectionCloseOk = record { class = omega arith; method = omega arith }
ids_fit _ = record { class = omega arith; method = omega arith }

-- ---- what a payload says

-- a method that is spelled so has these ids and arguments
pub record Found (x : Method) (c m : ℕ) (rest : List ℕ) : Type 0 where
  pub ids_are : ids_of x ≡ ids c m
  pub read : is_unread c m ≡ false → arguments_at (kinds_of c m) rest ≡ Some (arguments x)

not_both : (b : Bool) → b ≡ true → b ≡ false → ⊥
not_both b e f = let h : false ≡ true = sym f ∙ e in cc

-- the ids at the front are those of the method
front : (payload rest tail : List ℕ) (c m : ℕ) (x : Method) → BeginsMethod payload c m rest → payload ≡ method_bytes x ++ tail
    → (c ≡ (ids_of x).class) × (m ≡ (ids_of x).method) × (rest ≡ flat_map argument (arguments x) ++ tail)
front payload rest tail c m x starts e =
    let small = ids_fit x in (
      sym starts.class_is ∙ ap (λ (z : List ℕ). class_at z) e ∙ from_be_bytes-to_be_bytes_2 (ids_of x).class small.class,
      sym starts.method_is ∙ ap (λ (z : List ℕ). method_at z) e ∙ from_be_bytes-to_be_bytes_2 (ids_of x).method small.method,
      sym (ap (λ (z : List ℕ). drop 4 z) starts.parts) ∙ ap (λ (z : List ℕ). drop 4 z) e,
    )

found : (payload rest : List ℕ) (c m : ℕ) (x : Method) → BeginsMethod payload c m rest → IsMethod x → Spells payload x → Found x c m rest
found payload rest c m x starts fits (exact e) =
    let f = front payload rest [] c m x starts (e ∙ sym (append-nil (method_bytes x))) in
    let same : rest ≡ flat_map argument (arguments x) = f.2 ∙ append-nil (flat_map argument (arguments x)) in
    record {
      ids_are = sym (ap (λ (i : ℕ). ids i m) f.0 ∙ ap (λ (i : ℕ). ids (ids_of x).class i) f.1);
      read = λ r.
          ap (λ (i : ℕ). arguments_at (kinds_of i m) rest) f.0
          ∙ ap (λ (i : ℕ). arguments_at (kinds_of (ids_of x).class i) rest) f.1
          ∙ ap (λ (ks : List Kind). arguments_at ks rest) (row x).kinds
          ∙ ap (λ (z : List ℕ). arguments_at (map kind_of (arguments x)) z) same
          ∙ arguments_again (arguments x) (all_sized (arguments x) fits);
    }
found payload rest c m x starts fits (any_rest tail u e) =
    let f = front payload rest tail c m x starts e in
    record {
      ids_are = sym (ap (λ (i : ℕ). ids i m) f.0 ∙ ap (λ (i : ℕ). ids (ids_of x).class i) f.1);
      read = λ r. absurd (not_both (is_unread c m) (ap (λ (i : ℕ). is_unread i m) f.0 ∙ ap (λ (i : ℕ). is_unread (ids_of x).class i) f.1 ∙ u) r);
    }

-- the facts of the ids of a payload are those of its class and method
at_ids : (payload rest : List ℕ) (c m : ℕ) (F : ℕ → ℕ → Bool) (b : Bool) → BeginsMethod payload c m rest → F c m ≡ b → F (class_at payload) (method_at payload) ≡ b
at_ids payload rest c m F b starts e = ap (λ (i : ℕ). F i (method_at payload)) starts.class_is ∙ ap (λ (i : ℕ). F c i) starts.method_is ∙ e

refuses : (payload rest : List ℕ) (c m : ℕ) (r : BadMethod) → BeginsMethod payload c m rest → FailsToRead c m rest r → MethodIsRefused payload r
refuses payload rest c m FrameError starts f = absurd f
refuses payload rest c m SyntaxError starts f =
    bad_arguments starts.long (at_ids payload rest c m is_known true starts f.known)
    (λ x fits s. f.lacks (arguments x) ((found payload rest c m x starts fits s).read f.read) (all_whole (arguments x) fits))
refuses payload rest c m CommandInvalid starts f = unknown starts.long (at_ids payload rest c m is_known false starts f.0) (at_ids payload rest c m is_left_out false starts f.1)
refuses payload rest c m NotImplemented starts f = left_out starts.long (at_ids payload rest c m is_left_out true starts f)
refuses payload rest c m Memory starts f = tt

-- the front of a payload, by the ids of a method
its_front : (payload rest : List ℕ) (c m : ℕ) (x : Method) → BeginsMethod payload c m rest → ids_of x ≡ ids c m
    → payload ≡ to_be_bytes w16 (ids_of x).class ++ to_be_bytes w16 (ids_of x).method ++ rest
its_front payload rest c m x starts e =
    starts.parts
    ∙ ap (λ (i : ℕ). to_be_bytes w16 i ++ to_be_bytes w16 m ++ rest) (sym (ap (λ (i : Ids). i.class) e))
    ∙ ap (λ (i : ℕ). to_be_bytes w16 (ids_of x).class ++ to_be_bytes w16 i ++ rest) (sym (ap (λ (i : Ids). i.method) e))

-- a method whose arguments were read, or are not read
said_read : (payload rest : List ℕ) (c m : ℕ) (x : Method) (b : Bool) → is_unread c m ≡ b → IsBytes payload → BeginsMethod payload c m rest → IsRead c m rest x → SaysMethod payload (Ok x)
said_read payload rest c m x false u are starts reads =
    let given = reads.given u in
    let rest_fits : IsBytes rest = subst (λ (z : List ℕ). IsBytes z) (ap (λ (z : List ℕ). drop 4 z) starts.parts) (IsBytes-drop 4 payload are) in
    let kinds : AreKinds (kinds_of c m) = subst (λ (i : Ids). AreKinds (kinds_of i.class i.method)) reads.ids_are (kinds_fit _ (row x).fit) in
    let a = arguments_take (kinds_of c m) rest (arguments x) kinds rest_fits given.0 in
    said {m = x} (all_fit (arguments x) a.fit given.1)
    (exact (its_front payload rest c m x starts reads.ids_are ∙ ap (λ (z : List ℕ). to_be_bytes w16 (ids_of x).class ++ to_be_bytes w16 (ids_of x).method ++ z) a.parts))
said_read payload rest c m x true u are starts reads =
    let mine : is_unread (ids_of x).class (ids_of x).method ≡ true = ap (λ (i : Ids). is_unread i.class i.method) reads.ids_are ∙ u in
    let none : arguments x ≡ [] = bare x mine in
    let fits : IsMethod x = subst (λ (z : List Argument). AllByRecursion IsArgument z) (sym none) tt in
    let head : List ℕ = to_be_bytes w16 (ids_of x).class ++ to_be_bytes w16 (ids_of x).method in
    let ends : method_bytes x ≡ head = ap (λ (z : List Argument). to_be_bytes w16 (ids_of x).class ++ to_be_bytes w16 (ids_of x).method ++ flat_map argument z) none ∙ append-nil head in
    said {m = x} fits (any_rest rest mine (its_front payload rest c m x starts reads.ids_are ∙ ap (λ (z : List ℕ). z ++ rest) (sym ends)))

pub tells : (payload rest : List ℕ) (c m : ℕ) (r : Result Method BadMethod) → IsBytes payload → BeginsMethod payload c m rest → ReadsArguments c m rest r → ReturnsMethod payload r
tells payload rest c m (Err e) are starts reads = refuses payload rest c m e starts reads
tells payload rest c m (Ok x) are starts reads = said_read payload rest c m x (is_unread c m) refl are starts reads

same_some : {A : Type 0} (r : Option A) (x y : A) → r ≡ Some x → r ≡ Some y → x ≡ y
same_some r x y e f = cc

-- two methods of the same ids, with the same arguments or none that are read
same_found : (rest : List ℕ) (c m : ℕ) (n x : Method) (b : Bool) → is_unread c m ≡ b → Found n c m rest → Found x c m rest → n ≡ x
same_found rest c m n x false u g f =
    same_method n x (g.ids_are ∙ sym f.ids_are) (same_some (arguments_at (kinds_of c m) rest) (arguments n) (arguments x) (g.read u) (f.read u))
same_found rest c m n x true u g f =
    let theirs : is_unread (ids_of n).class (ids_of n).method ≡ true = ap (λ (i : Ids). is_unread i.class i.method) g.ids_are ∙ u in
    let mine : is_unread (ids_of x).class (ids_of x).method ≡ true = ap (λ (i : Ids). is_unread i.class i.method) f.ids_are ∙ u in
    same_method n x (g.ids_are ∙ sym f.ids_are) (bare n theirs ∙ sym (bare x mine))

same_read : (rest : List ℕ) (c m : ℕ) (n x : Method) → IsRead c m rest n → Found x c m rest → n ≡ x
same_read rest c m n x reads f = same_found rest c m n x (is_unread c m) refl (record { ids_are = reads.ids_are; read = λ u. (reads.given u).0 }) f

pub only : (payload rest : List ℕ) (c m : ℕ) (r : Result Method BadMethod) (x : Method) → BeginsMethod payload c m rest → ReadsArguments c m rest r → IsMethod x → Spells payload x → IsMethodOr x r
only payload rest c m r x starts reads fits s = go r reads
  where
    f : Found x c m rest
    f = found payload rest c m x starts fits s

    go : (r : Result Method BadMethod) → ReadsArguments c m rest r → IsMethodOr x r
    go (Ok n) reads = same_read rest c m n x reads f
    go (Err FrameError) reads = reads
    go (Err SyntaxError) reads = reads.lacks (arguments x) (f.read reads.read) (all_whole (arguments x) fits)
    go (Err CommandInvalid) reads = not_both _ (sym (ap (λ (i : Ids). is_known i.class i.method) f.ids_are) ∙ (row x).known) reads.0
    go (Err NotImplemented) reads = not_both _ reads (sym (ap (λ (i : Ids). is_left_out i.class i.method) f.ids_are) ∙ (row x).built)
    go (Err Memory) reads = tt

-- ---- a payload says one thing

-- the ids at the front, and what follows them
begins : (payload tail : List ℕ) (x : Method) → payload ≡ method_bytes x ++ tail → BeginsMethod payload (ids_of x).class (ids_of x).method (flat_map argument (arguments x) ++ tail)
begins payload tail x e =
    let small = ids_fit x in
    let c : ℕ = (ids_of x).class in
    let m : ℕ = (ids_of x).method in
    let parts : payload ≡ to_be_bytes w16 c ++ to_be_bytes w16 m ++ (flat_map argument (arguments x) ++ tail) = e ∙ append_assoc (to_be_bytes w16 c ++ to_be_bytes w16 m) (flat_map argument (arguments x)) tail in
    record {
      long = (let h : length payload ≡ length (to_be_bytes w16 c ++ to_be_bytes w16 m ++ (flat_map argument (arguments x) ++ tail)) = ap (λ (z : List ℕ). length z) parts in omega arith);
      class_is = ap (λ (z : List ℕ). class_at z) parts ∙ from_be_bytes-to_be_bytes_2 c small.class;
      method_is = ap (λ (z : List ℕ). method_at z) parts ∙ from_be_bytes-to_be_bytes_2 m small.method;
      parts = parts;
    }

-- a method that is spelled, with what follows its ids
record Spelled (payload : List ℕ) (x : Method) : Type 0 where
  rest : List ℕ
  starts : BeginsMethod payload (ids_of x).class (ids_of x).method rest

spelled_so : (payload : List ℕ) (x : Method) → Spells payload x → Spelled payload x
spelled_so payload x (exact e) = record { rest = flat_map argument (arguments x) ++ []; starts = begins payload [] x (e ∙ sym (append-nil (method_bytes x))) }
spelled_so payload x (any_rest tail u e) = record { rest = flat_map argument (arguments x) ++ tail; starts = begins payload tail x e }

same_said : (payload : List ℕ) (x y : Method) → IsMethod x → Spells payload x → IsMethod y → Spells payload y → x ≡ y
same_said payload x y fits s also t =
    let k = spelled_so payload x s in
    let c : ℕ = (ids_of x).class in
    let m : ℕ = (ids_of x).method in
    same_found k.rest c m x y (is_unread c m) refl (found payload k.rest c m x k.starts fits s) (found payload k.rest c m y k.starts also t)

either_true : (a b : Bool) → a || b ≡ true → (a ≡ true) ⊎ (b ≡ true)
either_true true b e = inl refl
either_true false b e = inr e

-- what is left out is not in the table
not_both_known : (c m : ℕ) → is_left_out c m ≡ true → is_known c m ≡ true → ⊥
not_both_known c m out known =
    elim (either_true (c == 90) ((c == 60) && (m == 100)) out) [
      | inl tx ↦ (let e : c ≡ 90 = eqb-true _ _ tx in not_both (is_known 90 m) (ap (λ (i : ℕ). is_known i m) (sym e) ∙ known) refl)
      | inr both ↦ (
          let b = both_true (c == 60) (m == 100) both in
          let e : c ≡ 60 = eqb-true _ _ b.0 in
          let f : m ≡ 100 = eqb-true _ _ b.1 in
          not_both (is_known 60 100) (sym (ap (λ (i : ℕ). is_known i m) e ∙ ap (λ (i : ℕ). is_known 60 i) f) ∙ known) refl)
    ]

-- what a spelled method's payload is not
its_known : (payload : List ℕ) (x : Method) → Spells payload x → is_known (class_at payload) (method_at payload) ≡ true
its_known payload x s = let k = spelled_so payload x s in at_ids payload k.rest _ _ is_known true k.starts (row x).known

its_built : (payload : List ℕ) (x : Method) → Spells payload x → is_left_out (class_at payload) (method_at payload) ≡ false
its_built payload x s = let k = spelled_so payload x s in at_ids payload k.rest _ _ is_left_out false k.starts (row x).built

its_long : (payload : List ℕ) (x : Method) → Spells payload x → 4 ≤ length payload
its_long payload x s = (spelled_so payload x s).starts.long

pub one_method : OneMethod
one_method payload r q (said {m = x} f s) (said {m = y} g t) = ap (λ (z : Method). Ok z) (same_said payload x y f s g t)
one_method payload r q (said {m = x} f s) (too_short h) = absurd (let k = its_long payload x s in omega (arith, h, k))
one_method payload r q (said {m = x} f s) (unknown h u v) = absurd (not_both _ (its_known payload x s) u)
one_method payload r q (said {m = x} f s) (left_out h u) = absurd (not_both _ u (its_built payload x s))
one_method payload r q (said {m = x} f s) (bad_arguments h u never) = absurd (never x f s)
one_method payload r q (too_short h) (said {m = x} f s) = absurd (let k = its_long payload x s in omega (arith, h, k))
one_method payload r q (too_short h) (too_short k) = refl
one_method payload r q (too_short h) (unknown k u v) = absurd (omega (arith, h, k))
one_method payload r q (too_short h) (left_out k u) = absurd (omega (arith, h, k))
one_method payload r q (too_short h) (bad_arguments k u never) = absurd (omega (arith, h, k))
one_method payload r q (unknown h u v) (said {m = x} f s) = absurd (not_both _ (its_known payload x s) u)
one_method payload r q (unknown h u v) (too_short k) = absurd (omega (arith, h, k))
one_method payload r q (unknown h u v) (unknown k w z) = refl
one_method payload r q (unknown h u v) (left_out k w) = absurd (not_both _ w v)
one_method payload r q (unknown h u v) (bad_arguments k w never) = absurd (not_both _ w u)
one_method payload r q (left_out h u) (said {m = x} f s) = absurd (not_both _ u (its_built payload x s))
one_method payload r q (left_out h u) (too_short k) = absurd (omega (arith, h, k))
one_method payload r q (left_out h u) (unknown k w z) = absurd (not_both _ u z)
one_method payload r q (left_out h u) (left_out k w) = refl
one_method payload r q (left_out h u) (bad_arguments k w never) = absurd (not_both_known (class_at payload) (method_at payload) u w)
one_method payload r q (bad_arguments h u never) (said {m = x} f s) = absurd (never x f s)
one_method payload r q (bad_arguments h u never) (too_short k) = absurd (omega (arith, h, k))
one_method payload r q (bad_arguments h u never) (unknown k w z) = absurd (not_both _ u w)
one_method payload r q (bad_arguments h u never) (left_out k w) = absurd (not_both_known (class_at payload) (method_at payload) w u)
one_method payload r q (bad_arguments h u never) (bad_arguments k w other) = refl
