use Rattle.headers.proofs.Names.{◌∙◌, ap, properties_of}
use Rattle.headers.proofs.Spelled.{is_spelling, told}
use Rattle.headers.proofs.Parted.{its_pairs}
use Rattle.headers.proofs.telling.headers_of.Goals as goal

pub spelled_parts-requires : goal.spelled_parts-requires
spelled_parts-requires c = let s = c.in-Spelled.ensures in is_spelling c.args.properties.now c.in-Spelled.bytes.now s.0 s.1

pub returns-in-Spelled : goal.returns-in-Spelled
returns-in-Spelled c =
    let s = c.in-Spelled.ensures in
    its_pairs c.spelled_parts.result c.args.properties.now (c.spelled_parts.ensures ∙ ap properties_of (told c.args.properties.now c.in-Spelled.bytes.now s.0 s.1))
