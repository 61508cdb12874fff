use Rattle.guarantees.proofs.Names.{◌∙◌, List, false, refl, subst, Decides, AllByRecursion, Text, words, tokens, Matches, KeepsIn}
use Rattle.guarantees.proofs.Coverings.{covers_by, same_by}
use Rattle.guarantees.proofs.promises.Guarantee.covers.Goals as goal

pub returns : goal.returns
returns c =
    covers_by c.args.self.now c.args.exchange.now c.args.key.now c.in_ok-matched.matched c.in_ok-kept_in.kept_in
    (same_by c.args.exchange.now c.as_bytes.result.now false c.if-ne.ensures refl ∙ c.as_bytes.ensures ∙ c.exchange.ensures)
    (subst (λ (z : Text). Decides c.in_ok-matched.matched (Matches (tokens (words z)) (words c.args.key.now))) (c.as_bytes-2.ensures ∙ c.pattern.ensures) c.in_ok-matched.ensures)
    (subst (λ (z : List Text). Decides c.in_ok-kept_in.kept_in (AllByRecursion (KeepsIn c.args.key.now) z)) c.excepts.ensures c.in_ok-kept_in.ensures)
