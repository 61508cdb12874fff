use Rattle.json_file.proofs.Names.{◌∙◌, sym, ap, Some, not, Bool}
use Rattle.json_file.specs.Members.{is_filled}
use Rattle.json_file.proofs.Reading.{fills_of}
use Rattle.json_file.proofs.members.is_filled.Goals as goal

pub returns-in-Some-as_array : goal.returns-in-Some-as_array
unfolding is_filled
returns-in-Some-as_array c =
    rw (← c.in-Some.ensures, ← c.in-Some-as_array.ensures) (ap (λ (b : Bool). Some b) (fills_of c.in-Some-as_array.array.now ∙ ap not (sym c.is_empty.ensures)))
