use Rattle.channels.proofs.Imports.{List, set, get_or, ap, ◌∙◌, arith, Option, Open, open_moved}
use Rattle.std.specs.Prelude.{option_map}
use Rattle.channels.proofs.Moving.{one_changed}
use Rattle.channels.proofs.slots.renumber_each.Goals as goal

pub loop-slot-preserved : goal.loop-slot-preserved
loop-slot-preserved c =
    let i = c.loop-slot.slot-index in
    let d : Option Open = c.slot-item.result in
    let f = option_map (open_moved c.args.places.now) in
    ap (λ (o : Option Open). set c.loop-slot.channels i o) c.renumber_in.ensures
    ∙ ap (λ (ys : List (Option Open)). set ys i (f (get_or ys i d))) c.loop-slot.invariant
    ∙ one_changed f c.args.channels.now i d (let t = c.loop-slot-test.true in omega arith)
