use Rattle.reloading.proofs.Names.{◌<◌, length, Message, IsIn, EndangersBelow, ReportsBelow, bound_of, kept}
use Rattle.reloading.proofs.Narrowed.{SoFar}
use Rattle.reloading.proofs.breaches.first_of_entries.Given as goal

abbrev pub invariant-entries : goal.invariant-entries
invariant-entries g l =
    ReportsBelow (SoFar l.topology l.guarantees l.bound (g.S.LiveQueues.entries l.live) l.place l.queue l.entry-iterator) l.guarantees l.bound l.found
    × ((m : Message) → IsIn m (kept l.passed) → EndangersBelow l.topology l.guarantees (bound_of l.found l.bound) l.queue m)
    × (l.slot < 2048)

abbrev pub decreases-entries : goal.decreases-entries
decreases-entries g l = length l.entry-iterator
