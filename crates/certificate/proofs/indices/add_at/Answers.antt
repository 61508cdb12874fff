use Rattle.certificate.proofs.Names.{◌≡◌, ◌∙◌, ◌++◌, [], Option, None, sym, ap, append-nil, slice_get_past, MatchOption-at_none, cons_option, Tracked}
use Rattle.std.specs.List.{slice_get}
use Rattle.certificate.proofs.indices.add_at.Goals as goal

pub returns-in-None : goal.returns-in-None
returns-in-None c =
    let found = c.args.found.now.items in
    let e : slice_get c.args.list.now c.args.index ≡ None = slice_get_past c.args.list.now c.args.index (MatchOption-at_none _ _ c.in-None.is c.get.ensures.lookup.3) in
    sym (ap (λ (o : Option Tracked). found ++ cons_option o []) e ∙ append-nil found)
