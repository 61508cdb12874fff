-- What both outcomes of a call give.
use Rattle.channels.proofs.Imports.{OnOk, OnErr}
use Rattle.std.proofs.Common.{Result, Ok, Err}

-- what success gives, and what follows from it
pub on_ok : {A E : Type 0} {X Y : Type 0} (r : Result A E) → OnOk r X → (X → Y) → OnOk r Y
on_ok (Ok x) ok f = f ok
on_ok (Err e) ok f = ok

-- what follows from failure
pub on_err : {A E : Type 0} {X Y : Type 0} (r : Result A E) → OnErr r X → (X → Y) → OnErr r Y
on_err (Ok x) failed f = failed
on_err (Err e) failed f = f failed
