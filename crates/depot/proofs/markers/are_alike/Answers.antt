use Rattle.depot.proofs.Names.{◌∙◌, sym, bytes_eq-Decides}
use Rattle.depot.proofs.Alike.{alike}
use Rattle.depot.proofs.markers.are_alike.Goals as goal

pub returns-in-Spelled-Spelled : goal.returns-in-Spelled-Spelled
returns-in-Spelled-Spelled c = λ is.
    let both = c.in-Spelled-Spelled in
    let s = both.ensures in
    let o = both.ensures' in
    let same = (bytes_eq-Decides both.some.now both.others.now).0 (sym c.eq.ensures ∙ is) in
    alike c.ghost_one_header.ensures c.args.some.now c.args.others.now both.some.now s.0 s.1 o.0 (same ∙ o.1)
