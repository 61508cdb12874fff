-- What a parser of one line returns, compared with what the line says (own).
use Rattle.std.specs.Prelude.{◌≡◌, ◌++◌, ℕ, List, Option, Some, None, Result, Ok, Err, option_to_list}
use Rattle.scripts.specs.declared.lines.BadLine.{BadLine}
use Rattle.scripts.specs.declared.lines.BadLine.TheVariants.{Malformed, Memory}
use Rattle.scripts.specs.Script.{ScriptArrival, opened_after}

-- `why` holds if the line was refused as malformed; an allocation failure promises nothing
abbrev pub LineRefused : BadLine → Type 0 → Type 0
LineRefused Malformed why = why
LineRefused Memory why = Unit {0}

-- the parser returns what `said` has, and calls a line malformed only if `said` is `None`
abbrev pub ReturnsIfThere : {X : Type 0} → Result X BadLine → Option X → Type 0
ReturnsIfThere (Ok x) said = said ≡ Some x
ReturnsIfThere (Err e) said = LineRefused e (said ≡ None)

-- `new` is `old` and the event of the line, if it has one, and `after` connections have been opened after the line
abbrev pub TakesLine : Result ℕ BadLine → List ScriptArrival → List ScriptArrival → ℕ → Option (Option ScriptArrival) → Type 0
TakesLine (Ok after) old new opened said = (a : Option ScriptArrival) × (said ≡ Some a) × (new ≡ old ++ option_to_list a) × (after ≡ opened_after opened said)
TakesLine (Err e) old new opened said = LineRefused e (said ≡ None)
