use Rattle.field_table.proofs.Names.{Field_table}
use Rattle.field_table.proofs.takes.pairs_at.Goals as goal

pub returns : goal.returns
returns c = c.sized_at.ensures Field_table
