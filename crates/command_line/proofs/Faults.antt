-- What clap says of the faults of words, at the command line of warren.
use Rattle.std.proofs.Common.{◌≡◌, ◌∙◌, sym, ap, List, [], true, refl, inl, inr}
use Rattle.clap.specs.Words.{App, Text, is_simple, is_simple_and_free, fault_of, HasKind}
use Rattle.clap.specs.declared.error.Error.{Error}
use Rattle.clap.proofs.OnLiterals.{clap_on_literals}
use Rattle.command_line.specs.CommandLine.{warren, AreWordsRefused}

pub simple : is_simple warren ≡ true
unfolding clap_on_literals
simple = refl

free : is_simple_and_free warren ≡ true
unfolding clap_on_literals
free = refl

-- words that are taken have no fault
pub faultless : (words : List Text) (a : App) → a ≡ warren → (is_simple_and_free a ≡ true → fault_of a words ≡ []) → fault_of warren words ≡ []
faultless words a is h = ap (λ (b : App). fault_of b words) (sym is) ∙ h (ap is_simple_and_free is ∙ free)

-- and others are refused for memory, or ask for nothing
pub refused : (words : List Text) (a : App) (e : Error) → a ≡ warren → (is_simple_and_free a ≡ true → HasKind (fault_of a words) e) → AreWordsRefused words e
refused words a e is h =
    let kinds : HasKind (fault_of warren words) e = rw is at (h (ap is_simple_and_free is ∙ free)) in
    elim kinds [ inl memory ↦ inl memory | inr among ↦ inr (λ script asks. rw asks.faultless at among) ]
