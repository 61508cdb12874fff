-- Which sockets are due (own).
use Rattle.std.specs.Prelude.{◌≡◌, ◌⊎◌, ℕ, List, Bool, true, get_or}
use Rattle.marks.specs.Sets.{bit_of}
use Rattle.turns.specs.Voices.{is_asked, is_greedy, is_stranger, is_content, is_recent, is_silent}
use Rattle.turns.specs.declared.voices.Voice.{Voice}
use Rattle.turns.specs.declared.voices.Voice.TheVariants as voice

-- What is known of each socket, and the set of those that have their turn in this round.
pub record Seats : Type 0 where
  pub voices : List Voice
  pub picked : List ℕ

-- what is known of the socket with this index
abbrev pub voice_at : List Voice → ℕ → Voice
voice_at voices i = get_or voices i voice.Gone

-- the socket is asked in this round: it is asked in each, or has its turn
abbrev pub IsDue : Seats → ℕ → Type 0
IsDue seats i = (is_asked (voice_at seats.voices i) ≡ true) ⊎ (bit_of seats.picked i ≡ 1)

-- a socket with this voice may have more than its last read got
abbrev pub HasMore : Voice → Type 0
HasMore v = (is_greedy v ≡ true) ⊎ ((is_stranger v ≡ true) ⊎ (is_content v ≡ true))

-- the set has each socket whose voice is one of these
abbrev pub HasAll : List ℕ → (Voice → Bool) → List Voice → Type 0
HasAll set test voices = (i : ℕ) → test (voice_at voices i) ≡ true → bit_of set i ≡ 1

-- A set for each voice.
pub record Sets : Type 0 where
  pub speaking : List ℕ
  pub greedy : List ℕ
  pub strangers : List ℕ
  pub contents : List ℕ
  pub recent : List ℕ
  pub silent : List ℕ

-- Each socket is in the set of its voice.
pub record AreSeated (sets : Sets) (voices : List Voice) : Type 0 where
  pub asked : HasAll sets.speaking is_asked voices
  pub greedy : HasAll sets.greedy is_greedy voices
  pub strangers : HasAll sets.strangers is_stranger voices
  pub contents : HasAll sets.contents is_content voices
  pub recent : HasAll sets.recent is_recent voices
  pub silent : HasAll sets.silent is_silent voices

-- each socket is in the set of its voice, the sets given one by one
abbrev pub AreIn : List ℕ → List ℕ → List ℕ → List ℕ → List ℕ → List ℕ → List Voice → Type 0
AreIn speaking greedy strangers contents recent silent voices =
    AreSeated (record { speaking = speaking; greedy = greedy; strangers = strangers; contents = contents; recent = recent; silent = silent }) voices
