-- Faults carry facts, a method is a publish or a command, and a header may be of a content that is too large.
use Rattle.assembly.proofs.Imports.{◌≡◌, ◌∙◌, ℕ, List, Bool, true, false, Option, Some, None, ap, subst, sym, refl, Result, Ok, Err, Taken, Goes_on, Makes, Breaks, Wants_header, TakesPayload, is_too_large, taken_method, taken_dropped, taken_header, IsMethod, SaysMethod, split, Frame, Header, SaysSize, SaysHeader, Command, Publish, BasicPublish, Plain, Awaited, WantsHeader, WantsBody, Fault, Broken, Memory, IsFault, TakesEffect, pending_of, HasPublish}
use Rattle.model.specs.Commands
use Rattle.model.specs.Grammar.{said}
use Rattle.model.specs.declared.methods.Method.{Method}
use Rattle.assembly.specs.declared.contents.Awaited.TheVariants.{Nothing, Drops}
use Rattle.assembly.proofs.Places.{match_true, match_false}

-- what follows for each code follows for the fault
pub map_fault : (P Q : ℕ → Type 0) (e : Fault) → ((code : ℕ) → P code → Q code) → IsFault P e → IsFault Q e
map_fault P Q (Broken code) f p = f code p
map_fault P Q Memory f p = tt

-- a method that is no publish is a command
pub plain : (keeps : Bool) (h : ℕ) (m n : Method) → split m ≡ Err n → (n ≡ m) × (Makes (Plain h n) ≡ taken_method keeps h (Ok m))
plain keeps h (BasicPublish p) n e = absurd cc
plain keeps h m n e = let same : n ≡ m = cc in (same, ap (λ x. Makes (Plain h x)) same)

-- a method that is read has a spelling
pub fits : {payload : List ℕ} {m : Method} → SaysMethod payload (Ok m) → IsMethod m
fits (said i s) = i

-- what follows for each effect follows for what was done
pub does_wider : (E F : Taken → Type 0) (old new : Commands.Pending) (r : Result (Option Command) Fault) → ((t : Taken) → E t → F t) → TakesEffect E old r new → TakesEffect F old r new
does_wider E F old new (Ok None) f d = f (Goes_on new) d
does_wider E F old new (Ok (Some c)) f d = (f (Makes c) d.0, d.1, d.2)
does_wider E F old new (Err e) f d = (map_fault _ _ e (λ code x. f (Breaks code) x) d.0, d.1)

-- ---- a header

-- the publish whose header is awaited
pub the_publish : (q : Awaited) → HasPublish q → (p : Publish) × (q ≡ WantsHeader p)
the_publish Nothing h = absurd h
the_publish (WantsHeader p) h = (p, refl)
the_publish (WantsBody g) h = absurd h
the_publish (Drops d) h = absurd h

-- it is one
pub one_publish : (q : Awaited) (a b : Publish) → q ≡ WantsHeader a → q ≡ WantsHeader b → a ≡ b
one_publish q a b e f = cc

-- of a content that is too large
pub takes_large : (keeps : Bool) (q : Awaited) (f : Frame) (size : ℕ) (t : Taken) → HasPublish q → SaysSize f.payload (Ok size) → is_too_large f.payload size ≡ true → t ≡ taken_dropped f.channel size 0 → TakesPayload keeps (pending_of q) f t
takes_large keeps q f size t h s e d =
    let was = the_publish q h in
    subst (λ (r : Awaited). TakesPayload keeps (pending_of r) f t) (sym was.1) (Ok size, s, match_true (is_too_large f.payload size) _ _ e d)

-- of any other
pub takes_small : (keeps : Bool) (p : Publish) (f : Frame) (size : ℕ) (t : Taken) → SaysSize f.payload (Ok size) → is_too_large f.payload size ≡ false → (r : Result Header ℕ) × SaysHeader f.payload r × (t ≡ taken_header keeps f.channel p r) → TakesPayload keeps (Wants_header p) f t
takes_small keeps p f size t s e d = (Ok size, s, match_false (is_too_large f.payload size) _ _ e d)

-- one that declares no size
pub takes_unsized : (keeps : Bool) (q : Awaited) (f : Frame) (code : ℕ) → HasPublish q → SaysSize f.payload (Err code) → TakesPayload keeps (pending_of q) f (Breaks code)
takes_unsized keeps q f code h s = subst (λ (r : Awaited). TakesPayload keeps (pending_of r) f (Breaks code)) (sym (the_publish q h).1) (Err code, s, refl)
