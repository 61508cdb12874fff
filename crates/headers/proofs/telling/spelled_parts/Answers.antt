-- What spells properties is read.
use Rattle.headers.proofs.Names.{◌∙◌}
use Rattle.headers.proofs.Parted.{no_some, some_is, parts_read}
use Rattle.headers.proofs.telling.spelled_parts.Goals as goal

pub unreachable-requires : goal.unreachable-requires
unreachable-requires c =
    let s = c.split_at.ensures in
    no_some _ (c.in-None.ensures ∙ parts_read c.args.bytes.now c.split_at.result.0.now c.split_at.result.1.now c.read_u16.result c.requires s.front s.back c.read_u16.ensures)

pub returns : goal.returns
returns c =
    let s = c.split_at.ensures in
    some_is _ _ (c.in-Some.ensures ∙ parts_read c.args.bytes.now c.split_at.result.0.now c.split_at.result.1.now c.read_u16.result c.requires s.front s.back c.read_u16.ensures)
