-- The byte counts of sockets (own).
use Rattle.std.specs.Prelude.{◌≡◌, ◌≤◌, ◌*◌, ◌%◌, ℕ, List, [], ◌∷◌, Option, Some, None, ◌==◌, nat_lt, length, count_by, if◌then◌else◌, slice_index_or}
use Rattle.serving.specs.Wire.{Call, Totals, Traffic, is_failed, total_after}
use Rattle.serving.specs.Answered.{read_call, write_call}
use Rattle.serving.specs.declared.wire.Read.{Read}
use Rattle.serving.specs.declared.wire.Read.TheVariants as read
use Rattle.serving.specs.declared.wire.Write.{Write}
use Rattle.serving.specs.declared.wire.Write.TheVariants as write
use Rattle.sockets.specs.declared.counts.Count.{Count}

-- the totals in a count, if it is that of socket `s`
abbrev pub totals_of : ℕ → Option Count → Option Totals
totals_of s None = None
totals_of s (Some c) = if c.name == s then Some (record { got = c.got; taken = c.taken }) else None

-- the totals of socket `s`, whose count is at the index that its name has: `s` modulo 4,096
abbrev pub totals_in : List (Option Count) → ℕ → Option Totals
totals_in counts s = totals_of s (slice_index_or counts (s % 4096) None)

-- any totals known after `call` are those known before, plus the bytes that it gave or took; a socket that it accepts begins at 0
abbrev pub Counts : List (Option Count) → Call → List (Option Count) → Type 0
Counts old call new = (s : ℕ) (t : Totals) → totals_in new s ≡ Some t → total_after s (totals_in old s) call ≡ Some t

-- the counts after a read of the socket with this answer, whatever buffer it filled
abbrev pub CountsRead : List (Option Count) → ℕ → Read → List (Option Count) → Type 0
CountsRead old socket answer new = (room : ℕ) (buffer : List ℕ) → ((n : ℕ) → answer ≡ read.Got n → n ≤ length buffer)
    → Counts old (read_call socket room answer buffer) new

-- the counts after a write to the socket with this answer, whatever bytes were offered
abbrev pub CountsWrite : List (Option Count) → ℕ → Write → List (Option Count) → Type 0
CountsWrite old socket answer new = (offered : List ℕ) → ((n : ℕ) → answer ≡ write.Took n → n ≤ length offered)
    → Counts old (write_call socket answer offered) new

-- what the sockets know: how many calls failed, which names count as given (those below `given` * 4,096), and the totals; they know no calls
abbrev pub traffic_with : ℕ → ℕ → List (Option Count) → Traffic
traffic_with failures given counts = record { calls = None; failures = failures; is_given = λ s. nat_lt s (given * 4096); totals = totals_in counts }

-- 1 if `call` failed, otherwise 0
abbrev pub fails : Call → ℕ
fails call = count_by is_failed (call ∷ [])
