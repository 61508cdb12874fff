-- What both outcomes of a call give.
use Rattle.broker.proofs.Names.{Option, Some, None, Result, Ok, Err, sym, subst, IfSome, OnOk, OnErr}
use Rattle.std.proofs.Common.{◌≡◌}

-- what holds holds where it fails
pub on_err : {A E : Type 0} {X : Type 0} (r : Result A E) → X → OnErr r X
on_err (Ok x) holds = tt
on_err (Err e) holds = holds

-- what follows from success follows where it succeeds
pub on_ok : {A E : Type 0} {X Y : Type 0} (r : Result A E) → (X → Y) → OnOk r X → OnOk r Y
on_ok (Ok x) f ok = f ok
on_ok (Err e) f ok = ok

-- what follows from two facts follows where it succeeds
pub on_both : {A E : Type 0} {X Y Z : Type 0} (r : Result A E) → (X → Y → Z) → OnOk r X → OnOk r Y → OnOk r Z
on_both (Ok x) f one two = f one two
on_both (Err e) f one two = one

-- what follows of whatever is there follows
pub if_some : {A : Type 0} (o : Option A) (P Q : A → Type 0) → ((x : A) → P x → Q x) → IfSome o P → IfSome o Q
if_some None P Q f p = p
if_some (Some x) P Q f p = f x p

-- what is there is as it is told
pub some_holds : {A : Type 0} (o : Option A) (x : A) (P : A → Type 0) → o ≡ Some x → IfSome o P → P x
some_holds o x P is p = subst (λ (z : Option _). IfSome z P) is p

-- what follows of it from two facts follows
pub if_both : {A : Type 0} (o : Option A) (P Q R : A → Type 0) → ((x : A) → P x → Q x → R x) → IfSome o P → IfSome o Q → IfSome o R
if_both None P Q R f p q = p
if_both (Some x) P Q R f p q = f x p q

-- what holds of what is there holds
pub if_holds : {A : Type 0} (o : Option A) (x : A) (P : A → Type 0) → o ≡ Some x → P x → IfSome o P
if_holds o x P is p = subst (λ (z : Option _). IfSome z P) (sym is) p
