-- A stream has one next command, or one end.
use Rattle.assembly.proofs.Imports.{◌≡◌, ◌==◌, ◌<◌, ◌^◌, ℕ, Bool, true, false, List, [], MatchBool, Option, Some, None, Result, Ok, Err, sym, ap, subst, refl, ◌∙◌, ◌++◌, length, take, append-nil, arith, length-append, append_cancel_left, Text, Frame, Begins, IsBroken, Stream, Pending, Wants_header, Wants_body, Taken, Goes_on, Makes, Breaks, TakesOn, TakesPayload, TakesSized, is_too_large, taken_method, taken_header, taken_dropped, taken_heartbeat, is_on_wrong_channel, awaited, after_frame, TakesFirst, Takes, Yields, first, now, later, Ends, early, short, broken, faulty, beyond, Header, SaysHeader, Command, Head, Publish}
use Rattle.std.proofs.Math.Seq.{take-append_seam}
use Rattle.model.specs.Commands.{Nothing, Drops}
use Rattle.frame.proofs.Fronts.{shows, one_front}
use Rattle.methods.proofs.Whole.{one_method}
use Rattle.headers.proofs.Told.{one_header}
use Rattle.assembly.proofs.Sizes.{size_once}

-- ---- one frame

match_once : (b : Bool) (P Q : Taken → Type 0) (t u : Taken) → (P t → P u → t ≡ u) → (Q t → Q u → t ≡ u) → MatchBool b (P t) (Q t) → MatchBool b (P u) (Q u) → t ≡ u
match_once true P Q t u f g x y = f x y
match_once false P Q t u f g x y = g x y

same : (t u v : Taken) → t ≡ v → u ≡ v → t ≡ u
same t u v e f = e ∙ sym f

-- and what it does is one thing
sized_once : (keeps : Bool) (p : Publish) (f : Frame) (r : Result ℕ ℕ) (t u : Taken) → TakesSized keeps p f r t → TakesSized keeps p f r u → t ≡ u
sized_once keeps p f (Err code) t u x y = x ∙ sym y
sized_once keeps p f (Ok n) t u x y =
    match_once (is_too_large f.payload n) (λ v. v ≡ taken_dropped f.channel n 0) (λ v. (r : Result Header ℕ) × SaysHeader f.payload r × (v ≡ taken_header keeps f.channel p r)) t u
    (same t u (taken_dropped f.channel n 0))
    (λ a b. a.2 ∙ ap (taken_header keeps f.channel p) (one_header f.payload a.0 b.0 a.1 b.1) ∙ sym b.2)
    x y

payload_once : (keeps : Bool) (p : Pending) (f : Frame) (t u : Taken) → TakesPayload keeps p f t → TakesPayload keeps p f u → t ≡ u
payload_once keeps Nothing f t u x y = x.2 ∙ ap (taken_method keeps f.channel) (one_method f.payload x.0 y.0 x.1 y.1) ∙ sym y.2
payload_once keeps (Wants_header p) f t u x y = sized_once keeps p f x.0 t u x.2 (subst (λ (r : Result ℕ ℕ). TakesSized keeps p f r u) (sym (size_once f.payload x.0 y.0 x.1 y.1)) y.2)
payload_once keeps (Wants_body p properties size body) f t u x y = x ∙ sym y
payload_once keeps (Drops size count) f t u x y = x ∙ sym y

on_once : (keeps : Bool) (p : Pending) (f : Frame) (t u : Taken) → TakesOn keeps p f t → TakesOn keeps p f u → t ≡ u
on_once keeps p f t u x y =
    match_once (f.kind == 8) (λ v. v ≡ taken_heartbeat p f) (λ v. MatchBool (is_on_wrong_channel f) (v ≡ Breaks 504) (MatchBool (f.kind == awaited p) (TakesPayload keeps p f v) (v ≡ Breaks 505))) t u
    (same t u (taken_heartbeat p f))
    (match_once (is_on_wrong_channel f) (λ v. v ≡ Breaks 504) (λ v. MatchBool (f.kind == awaited p) (TakesPayload keeps p f v) (v ≡ Breaks 505)) t u
    (same t u (Breaks 504))
    (match_once (f.kind == awaited p) (TakesPayload keeps p f) (λ v. v ≡ Breaks 505) t u (payload_once keeps p f t u) (same t u (Breaks 505))))
    x y

record Both (t u : Taken) (a b : Stream) : Type 0 where
  effect : t ≡ u
  left : a ≡ b

takes_once : (s a b : Stream) (t u : Taken) → s.max < 2 ^ 32 → Takes s t a → Takes s u b → Both t u a b
takes_once s a b t u below x y =
    let front = one_front s.unread x.rest y.rest x.frame y.frame (shows s.max s.unread x.frame x.rest below x.front) (shows s.max s.unread y.frame y.rest below y.front) in
    let there : TakesOn s.keeps (s.pending x.frame.channel) x.frame u = subst (λ (f : Frame). TakesOn s.keeps (s.pending f.channel) f u) (sym front.0) y.effect in
    let one : t ≡ u = on_once s.keeps (s.pending x.frame.channel) x.frame t u x.effect there in
    record {
      effect = one;
      left = x.left
          ∙ ap (λ (f : Frame). after_frame s f.channel t x.rest) front.0
          ∙ ap (λ (v : Taken). after_frame s y.frame.channel v x.rest) one
          ∙ ap (λ (z : List ℕ). after_frame s y.frame.channel u z) front.1
          ∙ sym y.left;
    }

whole_or : (s a : Stream) (t : Taken) → Takes s t a → IsBroken s.max s.unread → ⊥
whole_or s a t x b = b.never [] x.rest x.frame (subst (λ (z : List ℕ). Begins s.max z x.frame x.rest) (sym (append-nil s.unread)) x.front)

-- ---- the first eight bytes

front_of : (unread bytes rest : List ℕ) → unread ≡ bytes ++ rest → length bytes ≡ 8 → take 8 unread ≡ bytes
front_of unread bytes rest e n = ap (λ (z : List ℕ). take 8 z) e ∙ ap (λ (k : ℕ). take k (bytes ++ rest)) (sym n) ∙ take-append_seam bytes rest

record SameFirst (a b : Text) (x y : Stream) : Type 0 where
  bytes : a ≡ b
  left : x ≡ y

first_once : (s x y : Stream) (a b : Text) → TakesFirst s a x → TakesFirst s b y → SameFirst a b x y
first_once s x y a b t u =
    let one : a ≡ b = sym (front_of s.unread a t.rest t.front t.size) ∙ front_of s.unread b u.rest u.front u.size in
    let there : a ++ t.rest ≡ a ++ u.rest = sym t.front ∙ u.front ∙ ap (λ (z : List ℕ). z ++ u.rest) (sym one) in
    let rest : t.rest ≡ u.rest = append_cancel_left a t.rest u.rest there in
    record {
      bytes = one;
      left = t.left ∙ ap (λ (z : List ℕ). record s { is_new = false; unread = z }) rest ∙ sym u.left;
    }

enough : (unread bytes rest : List ℕ) → unread ≡ bytes ++ rest → length bytes ≡ 8 → length unread < 8 → ⊥
enough unread bytes rest e n few = let l : length unread ≡ length (bytes ++ rest) = ap length e in omega (arith, l, n, few, length-append bytes rest)

-- ---- a taken frame decides

abbrev EndsBy : Taken → Stream → Option ℕ → Type 0
EndsBy (Goes_on p) next o = Ends next o
EndsBy (Makes c) next o = ⊥
EndsBy (Breaks code) next o = o ≡ Some code

-- a stream whose first frame is taken ends only as that frame has it
ends_by : (s next : Stream) (t : Taken) (o : Option ℕ) → s.max < 2 ^ 32 → Takes s t next → Ends s o → EndsBy t next o
ends_by s next t o below k (early n few) = absurd (cc (n, k.begun))
ends_by s next t o below k (short m n b) = absurd (n k.frame k.rest k.front)
ends_by s next t o below k (broken m b) = absurd (whole_or s next t k b)
ends_by s next t o below k (faulty {next = other} {code = code} u) = subst (λ (v : Taken). EndsBy v next (Some code)) (sym (takes_once s next other t (Breaks code) below k u).effect) refl
ends_by s next t o below k (beyond {mid = mid} {p = p} u e) =
    let same = takes_once s next mid t (Goes_on p) below k u in
    subst (λ (v : Taken). EndsBy v next o) (sym same.effect) (subst (λ (z : Stream). Ends z o) (sym same.left) e)

-- and one that awaits its first eight bytes ends if there are fewer
ends_new : (s : Stream) (o : Option ℕ) → Ends s o → s.is_new ≡ true → (length s.unread < 8) × (o ≡ None)
ends_new s o (early n few) awaited = (few, refl)
ends_new s o (short m n b) awaited = absurd (cc (m, awaited))
ends_new s o (broken m b) awaited = absurd (cc (m, awaited))
ends_new s o (faulty u) awaited = absurd (cc (u.begun, awaited))
ends_new s o (beyond u e) awaited = absurd (cc (u.begun, awaited))

max_still : (s next : Stream) (t : Taken) → s.max < 2 ^ 32 → Takes s t next → next.max < 2 ^ 32
max_still s next t below k = subst (λ (z : Stream). z.max < 2 ^ 32) (sym k.left) below

-- ---- one next

pub one_command : (s a b : Stream) (c d : Command) → s.max < 2 ^ 32 → Yields s c a → Yields s d b → (c ≡ d) × (a ≡ b)
one_command s a b c d below (first {bytes = m} t) (first {bytes = n} u) = let k = first_once s a b m n t u in (ap (λ (z : Text). Head z) k.bytes, k.left)
one_command s a b c d below (first t) (now u) = absurd (cc (t.awaited, u.begun))
one_command s a b c d below (first t) (later u y) = absurd (cc (t.awaited, u.begun))
one_command s a b c d below (now t) (first u) = absurd (cc (u.awaited, t.begun))
one_command s a b c d below (later t x) (first u) = absurd (cc (u.awaited, t.begun))
one_command s a b c d below (now t) (now u) = let k = takes_once s a b (Makes c) (Makes d) below t u in (cc (k.effect), k.left)
one_command s a b c d below (now t) (later {mid = mid} {p = p} u y) = absurd (cc ((takes_once s a mid (Makes c) (Goes_on p) below t u).effect))
one_command s a b c d below (later {mid = mid} {p = p} t x) (now u) = absurd (cc ((takes_once s mid b (Goes_on p) (Makes d) below t u).effect))
one_command s a b c d below (later {mid = mid} {p = p} t x) (later {mid = other} {p = q} u y) =
    let k = takes_once s mid other (Goes_on p) (Goes_on q) below t u in
    one_command mid a b c d (max_still s mid _ below t) x (subst (λ (z : Stream). Yields z d b) (sym k.left) y)

pub one_of_them : (s a : Stream) (c : Command) (o : Option ℕ) → s.max < 2 ^ 32 → Yields s c a → Ends s o → ⊥
one_of_them s a c o below (first {bytes = m} t) e = enough s.unread m t.rest t.front t.size (ends_new s o e t.awaited).0
one_of_them s a c o below (now t) e = ends_by s a (Makes c) o below t e
one_of_them s a c o below (later {mid = mid} {p = p} t x) e = one_of_them mid a c o (max_still s mid _ below t) x (ends_by s mid (Goes_on p) o below t e)

pub one_end : (s : Stream) (o q : Option ℕ) → s.max < 2 ^ 32 → Ends s o → Ends s q → o ≡ q
one_end s o q below (early n few) e = sym (ends_new s q e n).1
one_end s o q below (faulty {next = next} {code = code} t) e = sym (ends_by s next (Breaks code) q below t e)
one_end s o q below (beyond {mid = mid} {p = p} t e) f = one_end mid o q (max_still s mid _ below t) e (ends_by s mid (Goes_on p) q below t f)
one_end s o q below (short w n k) (early m few) = refl
one_end s o q below (short w n k) (short v m b) = refl
one_end s o q below (short w n k) (broken v b) = absurd (k b)
one_end s o q below (short w n k) (faulty u) = absurd (n u.frame u.rest u.front)
one_end s o q below (short w n k) (beyond u e) = absurd (n u.frame u.rest u.front)
one_end s o q below (broken w b) (early n few) = absurd (cc (w, n))
one_end s o q below (broken w b) (short v n k) = absurd (k b)
one_end s o q below (broken w b) (broken v c) = refl
one_end s o q below (broken w b) (faulty {next = next} u) = absurd (whole_or s next _ u b)
one_end s o q below (broken w b) (beyond {mid = mid} u e) = absurd (whole_or s mid _ u b)
