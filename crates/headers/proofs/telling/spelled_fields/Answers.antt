use Rattle.model.specs.Properties.{spelled_by}
use Rattle.headers.proofs.Parted.{same_fields}
use Rattle.headers.proofs.telling.spelled_fields.Goals as goal

pub returns : goal.returns
returns c = same_fields c.copied.result c.spelled_parts.result (spelled_by c.args.bytes.now) c.spelled_parts.ensures c.copied.ensures
