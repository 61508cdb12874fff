-- Which causes ask nothing of the entries of a file.
use Rattle.definitions.proofs.Imports.{arith, FileCause, NotJson, Malformed, Memory, AskNothing, File, IsClear, IsClearBelow}

-- what each cause asks of these entries
abbrev pub IsClearOf : File → FileCause → Type 0
IsClearOf f bad = IsClear bad f

pub ask_nothing : (f : File) → AskNothing IsClear f
ask_nothing f = record { json = tt; shape = tt }

-- no cause of an entry has a number below 3
pub none_below : (f : File) → IsClearBelow 3 f
none_below f NotJson h = tt
none_below f Malformed h = tt
none_below f Memory h = tt
none_below f _ h = absurd (omega (arith, h))
