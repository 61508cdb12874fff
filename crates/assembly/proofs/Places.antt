-- What channels await, when one of them is changed.
use Rattle.assembly.proofs.Imports.{◌≡◌, ◌<◌, ℕ, zero, suc, ◌==◌, Bool, true, false, List, [], ◌∷◌, ◌++◌, length, get_or, set, if◌then◌else◌, Option, Some, None, Result, Ok, Err, sym, ap, subst, refl, ◌∙◌, rules, tests, MatchBool, get_or-set_other, get_or-set_same, eqb-false, eqb-true, eq-eqb, false≢true, get_or_default, with_one, Frame, Taken, Goes_on, Makes, Breaks, TakesOn, TakesPayload, awaited, taken_heartbeat, is_on_wrong_channel, Command, Awaited, Fault, Broken, Memory, IsFault, pending_of, pending_at, content_at, AreSpelledSoFar, IsSpelledSoFar, TakesEffect, DoesAt}
use Rattle.std.proofs.Math.Path.{fun_ext}
use Rattle.model.specs.Commands
use Rattle.assembly.specs.declared.contents.Awaited.TheVariants.{Nothing}

-- a choice by a test of numbers, where the second is what the first says at equal ones
choice : {A : Type 0} (a b : A) (m n : ℕ) (t : Bool) → (m == n) ≡ t → (t ≡ true → a ≡ b) → b ≡ (if t then a else b)
choice a b m n true e f = sym (f refl)
choice a b m n false e f = refl

-- a function with the value that it has
pub with_one_same : {A : Type 0} (f : ℕ → A) (n : ℕ) → f ≡ with_one f n (f n)
with_one_same f n = fun_ext (λ m. choice (f n) (f m) m n (m == n) refl (λ e. ap f (sym (eqb-true m n e))))

-- what one channel awaits is changed
place : (xs : List Awaited) (h m : ℕ) (p : Awaited) → h < length xs → (t : Bool) → (m == h) ≡ t → pending_at (set xs h p) m ≡ (if t then pending_of p else pending_at xs m)
place xs h m p lt true e = ap pending_of (subst (λ k. get_or (set xs h p) k Nothing ≡ p) (sym (eqb-true m h e)) (get_or-set_same xs h p Nothing lt))
place xs h m p lt false e = ap pending_of (get_or-set_other xs h m p Nothing (eqb-false m h e))

pub pending_at-set : (xs : List Awaited) (h : ℕ) (p : Awaited) → h < length xs → pending_at (set xs h p) ≡ with_one (pending_at xs) h (pending_of p)
pending_at-set xs h p lt = fun_ext (λ m. place xs h m p lt (m == h) refl)

past : (xs : List Awaited) (h : ℕ) → content_at (xs ++ Nothing ∷ []) h ≡ content_at xs h
past [] zero = refl
past [] (suc h) = refl
past (x ∷ xs) zero = refl
past (x ∷ xs) (suc h) = past xs h

-- nothing is awaited past the end
pub content_at-push : (xs : List Awaited) → content_at (xs ++ Nothing ∷ []) ≡ content_at xs
content_at-push xs = fun_ext (past xs)

pub does_at : (E : Taken → Type 0) (h : ℕ) (old new : ℕ → Commands.Pending) (r : Result (Option Command) Fault) (p : Commands.Pending) → TakesEffect E (old h) r p → new ≡ with_one old h p → DoesAt E h old r new
does_at E h old new (Ok None) p d e = (p, d, e)
does_at E h old new (Ok (Some c)) p d e = (d.0, d.1, e ∙ ap (with_one old h) d.2)
does_at E h old new (Err f) p d e = (d.0, e ∙ ap (with_one old h) d.1 ∙ sym (with_one_same old h))

-- of the contents as a whole
pub pending_same : (xs ys : List Awaited) → content_at xs ≡ content_at ys → pending_at xs ≡ pending_at ys
pending_same xs ys e = ap (λ (f : ℕ → Awaited). λ h. pending_of (f h)) e

pub spelled_same : (xs ys : List Awaited) → content_at xs ≡ content_at ys → AreSpelledSoFar ys → AreSpelledSoFar xs
spelled_same xs ys e s = subst (λ (f : ℕ → Awaited). (h : ℕ) → IsSpelledSoFar (f h)) (sym e) s

-- a frame is taken for one content where it stands
pub does_there : (E : Commands.Pending → Taken → Type 0) (xs : List Awaited) (h : ℕ) (was now : Awaited) (r : Result (Option Command) Fault)
    → h < length xs → was ≡ get_or xs h was → TakesEffect (E (pending_of was)) (pending_of was) r (pending_of now)
    → DoesAt (E (pending_at xs h)) h (pending_at xs) r (pending_at (set xs h now))
does_there E xs h was now r lt e d =
    let same : was ≡ content_at xs h = e ∙ get_or_default xs h was Nothing lt in
    does_at (E (pending_at xs h)) h (pending_at xs) (pending_at (set xs h now)) r (pending_of now)
    (subst (λ (p : Awaited). TakesEffect (E (pending_of p)) (pending_of p) r (pending_of now)) same d)
    (pending_at-set xs h now lt)

-- what follows for each effect follows for what was done
pub does_so : (E F : Taken → Type 0) (h : ℕ) (old new : ℕ → Commands.Pending) (r : Result (Option Command) Fault) → ((t : Taken) → E t → F t) → DoesAt E h old r new → DoesAt F h old r new
does_so E F h old new (Ok None) f d = (d.0, f (Goes_on d.0) d.1, d.2)
does_so E F h old new (Ok (Some c)) f d = (f (Makes c) d.0, d.1, d.2)
does_so E F h old new (Err (Broken code)) f d = (f (Breaks code) d.0, d.1)
does_so E F h old new (Err Memory) f d = (tt, d.1)

-- want of memory
pub does_not : (E : Taken → Type 0) (h : ℕ) (old new : ℕ → Commands.Pending) (e : Fault) → e ≡ Memory → new ≡ old → DoesAt E h old (Err e) new
does_not E h old new e m same = (subst (λ (x : Fault). IsFault (λ code. E (Breaks code)) x) (sym m) tt, same)

pub match_true : (b : Bool) (P Q : Type 0) → b ≡ true → P → MatchBool b P Q
match_true true P Q e p = p
match_true false P Q e p = absurd (false≢true e)

pub match_false : (b : Bool) (P Q : Type 0) → b ≡ false → Q → MatchBool b P Q
match_false true P Q e q = absurd (false≢true (sym e))
match_false false P Q e q = q

apart : (a b : ℕ) → (a ≡ b → ⊥) → (a == b) ≡ false
apart a b e = search (tests, rules)

-- a heartbeat
pub takes_heartbeat : (keeps : Bool) (p : Commands.Pending) (f : Frame) (t : Taken) → f.kind ≡ 8 → t ≡ taken_heartbeat p f → TakesOn keeps p f t
takes_heartbeat keeps p f t e d = match_true (f.kind == 8) _ _ (eq-eqb f.kind 8 e) d

-- any other frame
pub takes_other : (keeps : Bool) (p : Commands.Pending) (f : Frame) (t : Taken) → (f.kind ≡ 8 → ⊥) → is_on_wrong_channel f ≡ false
    → MatchBool (f.kind == awaited p) (TakesPayload keeps p f t) (t ≡ Breaks 505) → TakesOn keeps p f t
takes_other keeps p f t e w d = match_false (f.kind == 8) _ _ (apart f.kind 8 e) (match_false (is_on_wrong_channel f) _ _ w d)

abbrev Awaits : Bool → Frame → (ℕ → Commands.Pending) → ℕ → Taken → Type 0
Awaits keeps f old h t = MatchBool (f.kind == awaited (old h)) (TakesPayload keeps (old h) f t) (t ≡ Breaks 505)

-- any other frame, on its channel
pub does_other : (keeps : Bool) (old mid new : ℕ → Commands.Pending) (f : Frame) (h : ℕ) (r : Result (Option Command) Fault)
    → h ≡ f.channel → mid ≡ old → (f.kind ≡ 8 → ⊥) → is_on_wrong_channel f ≡ false
    → DoesAt (λ t. MatchBool (f.kind == awaited (mid h)) (TakesPayload keeps (mid h) f t) (t ≡ Breaks 505)) h mid r new
    → DoesAt (TakesOn keeps (old f.channel) f) f.channel old r new
does_other keeps old mid new f h r e same k w d =
    let a : DoesAt (Awaits keeps f mid f.channel) f.channel mid r new = subst (λ (n : ℕ). DoesAt (Awaits keeps f mid n) n mid r new) e d in
    let b : DoesAt (Awaits keeps f old f.channel) f.channel old r new = subst (λ (p : ℕ → Commands.Pending). DoesAt (Awaits keeps f p f.channel) f.channel p r new) same a in
    does_so (Awaits keeps f old f.channel) (TakesOn keeps (old f.channel) f) f.channel old new r (λ t x. takes_other keeps (old f.channel) f t k w x) b
