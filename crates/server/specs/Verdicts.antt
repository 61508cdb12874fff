-- What `check` prints (own): the verdict on each guarantee, a line each, and the exit status.
use Rattle.std.specs.Prelude.{◌≡◌, ◌+◌, ◌++◌, ℕ, Bool, true, false, List, [], ◌∷◌, codes, decimal, length, map, if◌then◌else◌, Contains, Option}
use Rattle.std.specs.List.{list_any}
use Rattle.model.specs.Words.{Text}
use Rattle.model.specs.Topology.{Topology}
use Rattle.model.specs.Guarantee.{Guarantee, Holds, AllHold}
use Rattle.model.specs.Certificates.{Certificate}
use Rattle.certificate.specs.Drafts.{Adds}
use Rattle.certificate.specs.declared.drafts.Draft.{Draft}
use Rattle.guarantee_search.specs.Verdicts.{FindsVerdict}
use Rattle.guarantee_search.specs.declared.verdicts.UndecidedCause.{UndecidedCause}
use Rattle.guarantee_search.specs.declared.verdicts.UndecidedCause.TheVariants.{TooManyStates, KeyTooLong}
use Rattle.guarantee_search.specs.declared.verdicts.Verdict.{Verdict}
use Rattle.guarantee_search.specs.declared.verdicts.Verdict.TheVariants.{Yes, No, Undecided}
use Rattle.scripts.specs.Transcript.{line, name_word}

-- two lists of one length, with `P` for each pair of elements and its index, which counts from `n`
abbrev pub EachWith : {A B : Type 0} → (ℕ → A → B → Type 0) → ℕ → List A → List B → Type 0
EachWith P n [] [] = Unit {0}
EachWith P n [] (y ∷ ys) = ⊥
EachWith P n (x ∷ xs) [] = ⊥
EachWith P n (x ∷ xs) (y ∷ ys) = P n x y × EachWith P (n + 1) xs ys

-- ---- verdicts

-- a verdict on each guarantee: an accepted certificate, a key that breaks it, or why there is neither
abbrev pub FindsVerdicts : Topology → List Guarantee → List Verdict → Type 0
FindsVerdicts t gs vs = EachWith (λ place g v. FindsVerdict t g v) 0 gs vs

-- whether the verdict is that the guarantee is broken
abbrev pub is_no : Verdict → Bool
is_no (Yes c) = false
is_no (No r) = true
is_no (Undecided why) = false

-- whether the verdict is that the guarantee is undecided
abbrev pub is_undecided : Verdict → Bool
is_undecided (Yes c) = false
is_undecided (No r) = false
is_undecided (Undecided why) = true

-- the exit status: 1 if some guarantee is broken, 2 if none is and some is undecided, 0 if all hold
abbrev pub status_by : Bool → Bool → ℕ
status_by broken undecided = if broken then 1 else if undecided then 2 else 0

-- the exit status of these verdicts
abbrev pub status_of_verdicts : List Verdict → ℕ
status_of_verdicts vs = status_by (list_any is_no vs) (list_any is_undecided vs)

-- the certificates among the verdicts
abbrev pub certificates_in : List Verdict → List Certificate
certificates_in [] = []
certificates_in (Yes c ∷ vs) = c ∷ certificates_in vs
certificates_in (No r ∷ vs) = certificates_in vs
certificates_in (Undecided why ∷ vs) = certificates_in vs

-- ---- lines

-- the word for why a guarantee is undecided
abbrev pub undecided_word : UndecidedCause → Text
undecided_word TooManyStates = codes "states"
undecided_word KeyTooLong = codes "key"

-- the names of a path, each after a space
abbrev pub names_text : List Text → Text
names_text [] = []
names_text (n ∷ ns) = 32 ∷ (name_word n ++ names_text ns)

-- the text of a path, which follows a key; empty if there is no path
abbrev pub path_text : List Text → Text
path_text [] = []
path_text (n ∷ ns) = 32 ∷ (codes "path" ++ names_text (n ∷ ns))

-- the words of a path; none if there is no path
abbrev pub path_words : List Text → List Text
path_words [] = []
path_words (n ∷ ns) = codes "path" ∷ name_word n ∷ map name_word ns

-- the line of a verdict on guarantee `number`; a broken `reaches` has no path
abbrev pub verdict_line : ℕ → Verdict → Text
verdict_line number (Yes c) = line (decimal number ∷ codes "yes states" ∷ decimal (length c.states) ∷ [])
verdict_line number (No r) = line (decimal number ∷ codes "no key" ∷ name_word r.key ∷ path_words r.path)
verdict_line number (Undecided why) = line (decimal number ∷ codes "undecided" ∷ undecided_word why ∷ [])

-- the lines of verdicts, numbered from `number`
abbrev pub verdict_lines : ℕ → List Verdict → Text
verdict_lines number [] = []
verdict_lines number (v ∷ vs) = verdict_line number v ++ verdict_lines (number + 1) vs

-- What the exit status means, for every key of at most 255 bytes: 0 that all guarantees hold, 1 that one of them fails.
pub record IsMeant (t : Topology) (gs : List Guarantee) (status : ℕ) : Type 0 where
  pub hold : status ≡ 0 → AllHold t gs
  pub fails : status ≡ 1 → (g : Guarantee) × Contains gs g × (Holds t g → ⊥)

-- The text and the exit status say for each guarantee that it holds, by a certificate, that it fails, by a key, or why neither was found.
pub record JudgesAll (t : Topology) (gs : List Guarantee) (verdicts : List Verdict) (text : Text) (status : ℕ) : Type 0 where
  pub found : FindsVerdicts t gs verdicts
  pub shown : text ≡ verdict_lines 1 verdicts
  pub status_is : status ≡ status_of_verdicts verdicts
  pub means : IsMeant t gs status

-- `JudgesAll` for some verdicts. A draft, if one is given, gains exactly their certificates, in their order.
pub record Judges (t : Topology) (gs : List Guarantee) (before after : Option Draft) (text : Text) (status : ℕ) : Type 0 where
  pub verdicts : List Verdict
  pub judged : JudgesAll t gs verdicts text status
  pub adds : Adds before after (certificates_in verdicts)
