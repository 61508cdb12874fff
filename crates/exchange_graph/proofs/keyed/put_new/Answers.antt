use Rattle.exchange_graph.proofs.Names.{List, [], ◌∷◌, ◌++◌, ap, ◌∙◌, End}
use Rattle.exchange_graph.proofs.Keying.{entered, puts_new}
use Rattle.exchange_graph.proofs.keyed.put_new.Goals as goal

pub returns : goal.returns
returns c =
    puts_new c.args.key.now c.args.end c.args.keyed.now _ c.requires.even c.requires.is_new
    (entered c.args.key.now c.args.keyed.now.keys c.enter.new.self c.in_ok-enter.field-0 c.requires.is_new c.in_ok-enter.ensures.entered)
    (c.in_ok-push.ensures.items ∙ ap (λ (es : List End). c.args.keyed.now.lists.items ++ es ∷ []) c.in_ok-ends.ensures)
