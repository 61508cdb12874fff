-- The entries of a queue, gone over from slot to slot.
use Rattle.reloading.proofs.Names.{◌≡◌, ℕ, List, [], ◌∷◌, length, Text, Topology, Guarantee, Endangers, Entry, Obstacle, Breaks, Some, None, ReportsFirst, ReportsEntry}
use Rattle.reloading.proofs.First.{Passed, passed_front, passed_before, passed_all}

-- the entry is endangered
abbrev pub IsEndangered : Topology → Guarantee → Text → Entry → Type 0
IsEndangered t g q e = Endangers t g q e.message

module _ (t : Topology) (g : Guarantee) (number : ℕ) (q : Text) (es : List Entry) where
  pub entry_told : (e : Entry) (now then' : List Entry) (o : Obstacle) → now ≡ e ∷ then' → Passed (IsEndangered t g q) es now → Endangers t g q e.message → o ≡ Breaks q e.message.first_key number → ReportsFirst (ReportsEntry t g number q) es (Some o)
  entry_told e now then' o is p endangers reported = record {
    place = length p.passed;
    one = e;
    there = passed_front (IsEndangered t g q) es e now then' is p;
    reports = (endangers, reported);
    none_before = passed_before (IsEndangered t g q) es now p;
  }

  pub none_told : (now : List Entry) → now ≡ [] → Passed (IsEndangered t g q) es now → ReportsFirst (ReportsEntry t g number q) es None
  none_told now is p = passed_all (IsEndangered t g q) es now is p
