use Rattle.field_table.proofs.Names.{Long_text}
use Rattle.field_table.proofs.takes.long_text_at.Goals as goal

pub returns : goal.returns
returns c = c.sized_at.ensures Long_text
