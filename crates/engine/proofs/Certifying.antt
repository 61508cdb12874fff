-- A run of an engine over what was admitted is certified.
use Rattle.engine.proofs.Names.{◌≡◌, List, [], ◌∷◌, ap, map, refl, subst, Config, World, Seen, new_world, with_setup, CertifiedDelivery}
use Rattle.model.specs.declared.events.Arrival.{Arrival}
use Rattle.model.specs.declared.events.Arrival.TheVariants as arrival
use Rattle.runs.specs.Runs.{IsRunOf}

-- the world that an engine represents is reported as it is
told_same : (a : Arrival Config) → with_setup (λ f. f) a ≡ a
told_same arrival.Open = refl
told_same (arrival.Ready k) = refl
told_same (arrival.In c bytes) = refl
told_same (arrival.Sent c n) = refl
told_same arrival.Pump = refl
told_same (arrival.Lose c) = refl
told_same (arrival.Reload offered) = refl

all_told : (arrivals : List (Arrival Config)) → map (with_setup (λ f. f)) arrivals ≡ arrivals
all_told [] = refl
all_told (a ∷ arrivals) = let first = told_same a in let rest = all_told arrivals in cc

pub certified : (f : Config) (start last : World) (arrivals : List (Arrival Config)) (seen : Seen) → start ≡ new_world f → IsRunOf start.config (map (with_setup (λ g. g)) arrivals) last seen
    → CertifiedDelivery f arrivals seen
certified f start last arrivals seen fresh run =
    let r : IsRunOf f arrivals last seen = subst (λ (as' : List (Arrival Config)). IsRunOf f as' last seen) (all_told arrivals)
    (subst (λ (g : Config). IsRunOf g (map (with_setup (λ h. h)) arrivals) last seen) (ap (λ (w : World). w.config) fresh) run) in
    record { occurrences = r.occurrences; last = last; plays = r.plays; shows = r.shows; promises = r.promises }
