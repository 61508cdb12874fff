use Rattle.channels.proofs.Imports.{◌∙◌, refl, sym, ap, map, Taker, Get, counted_in}
use Rattle.std.proofs.lemmas.List.Folds.{map_fixed}
use Rattle.channels.proofs.consumers.count_in.Goals as goal

pub returns-in-Get-clause-consumers : goal.returns-in-Get-clause-consumers
returns-in-Get-clause-consumers c = sym (ap (λ (by : Taker). map (counted_in by) c.args.consumers.now.items) c.in-Get.is ∙ map_fixed (counted_in Get) c.args.consumers.now.items (λ k d lt. refl))
