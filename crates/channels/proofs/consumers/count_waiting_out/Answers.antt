use Rattle.channels.proofs.Imports.{◌∙◌, refl, sym, ap, map, Taker, Get, uncounted}
use Rattle.std.proofs.lemmas.List.Folds.{map_fixed}
use Rattle.channels.proofs.consumers.count_waiting_out.Goals as goal

pub returns-in-Get-clause-counted : goal.returns-in-Get-clause-counted
returns-in-Get-clause-counted c = λ w. sym (ap (λ (by : Taker). map (uncounted by) c.args.consumers.now) c.in-Get.is ∙ map_fixed (uncounted Get) c.args.consumers.now (λ k d lt. refl))
