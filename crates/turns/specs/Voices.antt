-- What is known of a socket, as tests (own).
use Rattle.std.specs.Prelude.{Bool, true, false}
use Rattle.turns.specs.declared.voices.Voice.{Voice}
use Rattle.turns.specs.declared.voices.Voice.TheVariants as voice

-- it is asked in each round
abbrev pub is_asked : Voice → Bool
is_asked voice.Speaking = true
is_asked voice.Ending = true
is_asked v = false

abbrev pub is_greedy : Voice → Bool
is_greedy voice.Greedy = true
is_greedy v = false

abbrev pub is_stranger : Voice → Bool
is_stranger voice.Stranger = true
is_stranger v = false

abbrev pub is_content : Voice → Bool
is_content voice.Content = true
is_content v = false

abbrev pub is_recent : Voice → Bool
is_recent voice.Recent = true
is_recent v = false

abbrev pub is_silent : Voice → Bool
is_silent voice.Silent = true
is_silent v = false
