-- What a call gives, and what is there where something is.
use Rattle.commands.proofs.Names.{◌≡◌, refl, true, Option, None, Result, Ok, Err, IfOk, is_some, false≢true}
use Rattle.std.proofs.Common.{Some}

-- two facts of what a call gives are both so, and what follows from them
pub both_ok : {A E : Type 0} (r : Result A E) (P Q R : A → Type 0) → IfOk r P → IfOk r Q → ((x : A) → P x → Q x → R x) → IfOk r R
both_ok (Ok x) P Q R p q f = f x p q
both_ok (Err e) P Q R p q f = p

-- what is there, where something is
pub some_of : {A : Type 0} (o : Option A) → is_some o ≡ true → (x : A) × (o ≡ Some x)
some_of None e = absurd (false≢true e)
some_of (Some x) e = (x, refl)
