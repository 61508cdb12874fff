-- Whether a line about files is due, and what is remembered of it.
use Rattle.reload_loop.proofs.Imports.{◌≡◌, ◌<◌, ◌≤◌, ◌+◌, ◌∙◌, ℕ, Bool, Option, Some, None, IfNone, IfSome, option_map, ap, refl, sym, subst, inl, inr, Known, OutputStream, Found, Snap, Carries, IsCarried, IsDue, IsSilent, Tells, Told, last_line, told_at, told_before, told_now, told_of}
use Rattle.std.proofs.Common.{true}
use Rattle.server.specs.Files.{Unknown, Absent, Holds}
use Rattle.reload_loop.specs.Snapshots.{AreSame, IsOther, IsSameText}
use Rattle.reload_loop.specs.declared.found.Found.TheVariants.{Nothing, Refused, Admitted, Wanting}

-- a text that was read twice is known alike
same_text : (a b : Known) → IsSameText a b → a ≡ b
same_text (Holds s) (Holds t) e = ap Holds e
same_text (Holds s) Absent e = absurd e
same_text (Holds s) Unknown e = absurd e
same_text Absent b e = absurd e
same_text Unknown b e = absurd e

-- files that were read twice with the same texts are known alike
read_alike : (a b : Snap) → AreSame a b → a ≡ b
read_alike a b same =
    ap (λ (k : Known). record a { definitions = k }) (same_text a.definitions b.definitions same.definitions)
    ∙ ap (λ (k : Known). record a { definitions = b.definitions; guarantees = k }) (same_text a.guarantees b.guarantees same.guarantees)
    ∙ ap (λ (k : Known). record b { certificates = k }) (same_text a.certificates b.certificates same.certificates)

-- what is remembered of files stays so if the same were read again
pub carried_same : (read before : Snap) (at : Option ℕ) → AreSame read before → IsCarried (option_map (told_at before) at) read at
carried_same read before None same = λ t is other. cc
carried_same read before (Some at) same = ap (λ (s : Snap). Some (told_at s at)) (sym (read_alike read before same))

-- and is about others if others were read
pub carried_other : (read before : Snap) (at : Option ℕ) → IsOther read before → IsCarried (option_map (told_at before) at) read None
carried_other read before None other = λ t is same. cc
carried_other read before (Some at) other = λ t is. let e : told_at before at ≡ t = cc in subst (λ (b : Told). IsOther read b.read) e other

-- nothing is remembered if nothing was found
pub carried_none : (read : Snap) → IsCarried None read None
carried_none read = λ t is same. cc

again : (read : Snap) (at : Option ℕ) → IsCarried (option_map (told_at read) at) read at
again read None = λ t is same. cc
again read (Some at) = refl

-- what was found carries what is remembered of it
pub carried_again : (found : Found) → Carries (told_of found) found
carried_again Nothing = tt
carried_again (Refused read report at) = again read at
carried_again (Admitted read force at) = again read at
carried_again (Wanting read at) = again read at

due : (told : Option Told) (now : ℕ) (read : Snap) (at : Option ℕ) → IsCarried told read at → ((s : ℕ) → at ≡ Some s → s + 60 ≤ now) → IsDue told now read
due told now read None new past = λ t is. inr (new t is)
due told now read (Some s) was past = λ t is. let e : told_at read s ≡ t = cc in inl (subst (λ (b : Told). b.at + 60 ≤ now) e (past s refl))

-- what is written about files, by whether a line about them was written recently
pub tells : (told : Option Told) (now : ℕ) (read : Snap) (at last : Option ℕ) (err : OutputStream) (writes : Bool → Type 0) (whole : Bool) → IsCarried told read at
    → IfSome last (λ s. (at ≡ Some s) × (now < s + 60)) → IfNone last ((s : ℕ) → at ≡ Some s → s + 60 ≤ now)
    → IfSome last (λ s. IsSilent err whole) → IfNone last (writes whole) → Tells told now read err writes (last_line last now) whole
tells told now read at None err writes whole carried some none silent line = told_now (due told now read at carried none) line
tells told now read at (Some s) err writes whole carried some none silent line =
    let was : told ≡ Some (told_at read s) = subst (λ (o : Option ℕ). IsCarried told read o) some.0 carried in
    subst (λ (w : Bool). Tells told now read err writes s w) (sym silent.whole_is) (told_before was some.1 silent.nothing)
