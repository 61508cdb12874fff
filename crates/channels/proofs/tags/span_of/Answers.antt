use Rattle.channels.proofs.Imports.{refl}
use Rattle.channels.proofs.Settlement.{here_settles}
use Rattle.channels.proofs.tags.span_of.Goals as goal

pub returns-in-Some : goal.returns-in-Some
returns-in-Some c = record {
  tagged = refl;
  is_multiple = refl;
  settles = here_settles c.args.given.now c.in-Some.place c.args.tag c.args.multiple c.in-Some.ensures.there;
}
