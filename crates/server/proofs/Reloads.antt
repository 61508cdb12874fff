-- Scripts whose reloads are set up, one after another.
use Rattle.server.proofs.Names.{◌≡◌, ℕ, ◌+◌, ◌<◌, ◌++◌, List, [], ◌∷◌, Option, Some, length, get_or, take, refl, subst, slice_get, take_more, slice_get_read, Text, Config, Known, AreKept, CommandRefusal, AreSetUp, IsSetUp, IsWhyNotSetUp, FailsToReload, at, no_room}
use Rattle.model.specs.declared.events.Arrival.{Arrival}
use Rattle.model.specs.declared.events.Arrival.TheVariants as arrival
use Rattle.scripts.specs.Script.{ScriptArrival}
use Rattle.server.proofs.Kept.{same_known}

set_up_more : (holds : Text → Known) (ss : List ScriptArrival) (s : ScriptArrival) (as' : List (Arrival Config)) (a : Arrival Config)
    → AreSetUp holds ss as' → IsSetUp holds s a → AreSetUp holds (ss ++ s ∷ []) (as' ++ a ∷ [])
set_up_more holds [] s as' a h is = (a, [], rw h refl, is, refl)
set_up_more holds (x ∷ xs) s as' a h is = (h.0, h.1 ++ a ∷ [], rw h.2 refl, h.3, set_up_more holds xs s h.1 a h.4 is)

-- one arrival more is set up, by files that were kept so far
pub one_more : (a b : Text → Known) (said : List ScriptArrival) (i : ℕ) (s : ScriptArrival) (done : List (Arrival Config)) (one : Arrival Config) → AreKept a b
    → i < length said → s ≡ get_or said i s → AreSetUp a (take i said) done → IsSetUp b s one → AreSetUp a (take (i + 1) said) (done ++ one ∷ [])
one_more a b said i s done one k within is h h' =
    let same : IsSetUp a s one = subst (λ (x : Text → Known). IsSetUp x s one) (same_known a b k) h' in
    rw (take_more said i s within, ← is) (set_up_more a (take i said) s done one h same)

fails_at : (holds : Text → Known) (said : List ScriptArrival) (place : ℕ) (s : ScriptArrival) (before : List (Arrival Config)) (file : Text) (why : CommandRefusal)
    → slice_get said place ≡ Some s → AreSetUp holds (take place said) before → IsWhyNotSetUp holds s file why → FailsToReload holds said file why
fails_at holds said place arrival.Open before file why is h fails = rw fails no_room
fails_at holds said place (arrival.Ready k) before file why is h fails = rw fails no_room
fails_at holds said place (arrival.In c bytes) before file why is h fails = rw fails no_room
fails_at holds said place (arrival.Sent c n) before file why is h fails = rw fails no_room
fails_at holds said place arrival.Pump before file why is h fails = rw fails no_room
fails_at holds said place (arrival.Lose c) before file why is h fails = rw fails no_room
fails_at holds said place (arrival.Reload names) before file why is h fails = at place names before is h fails

-- or this one is not
pub not_this : (a b : Text → Known) (said : List ScriptArrival) (i : ℕ) (s : ScriptArrival) (done : List (Arrival Config)) (file : Text) (why : CommandRefusal) → AreKept a b
    → i < length said → s ≡ get_or said i s → AreSetUp a (take i said) done → IsWhyNotSetUp b s file why → FailsToReload a said file why
not_this a b said i s done file why k within is h fails =
    let same : IsWhyNotSetUp a s file why = subst (λ (x : Text → Known). IsWhyNotSetUp x s file why) (same_known a b k) fails in
    fails_at a said i s done file why (slice_get_read said (length said) i s refl within is) h same
