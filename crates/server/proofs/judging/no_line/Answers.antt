use Rattle.server.proofs.Names.{◌∙◌, ◌∷◌, ◌++◌, ap, sym, codes, decimal, Text, name_word}
use Rattle.std.proofs.lemmas.Result.{IfOk-weaker}
use Rattle.server.proofs.Paths.{path_end}
use Rattle.server.proofs.judging.no_line.Goals as goal

pub returns : goal.returns
returns c =
    IfOk-weaker c.no_line_with.result _ _
    (λ v e. rw (c.deref.ensures, c.in_ok-shown.ensures) at e
    ∙ ap (λ (z : Text). decimal c.args.number ++ 32 ∷ (codes "no key" ++ 32 ∷ (name_word c.args.key.now ++ z))) (sym (path_end c.args.path.now)))
    c.no_line_with.ensures
