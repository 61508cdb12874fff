use Rattle.json_file.proofs.Names.{◌∙◌, view}
use Rattle.json_file.proofs.Reading.{only_of}
use Rattle.json_file.proofs.members.has_only.Goals as goal

pub returns-in-Some : goal.returns-in-Some
returns-in-Some c =
    c.are_among.ensures ∙ only_of c.args.names.now (view c.args.value.now) c.in-Some.members.now.entries c.in-Some.ensures
