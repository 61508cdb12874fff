-- What holds after an allocation failure.
use Rattle.reloading.proofs.Names.{Result, Ok, Err, OnErr}

pub on_err : {T E : Type 0} (r : Result T E) (P : Type 0) → P → OnErr r P
on_err (Ok x) P p = tt
on_err (Err e) P p = p

pub on_err_too : {T E : Type 0} (r : Result T E) (P Q : Type 0) → (P → Q) → OnErr r P → OnErr r Q
on_err_too (Ok x) P Q f p = tt
on_err_too (Err e) P Q f p = f p
