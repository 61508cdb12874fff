use Rattle.headers.proofs.Names.{◌≡◌, subst, IfOk}
use Rattle.model.specs.declared.contents.Fields.{Fields}
use Rattle.headers.proofs.Spelled.{is_spelling, told}
use Rattle.headers.proofs.telling.fields_of.Goals as goal

pub spelled_fields-requires : goal.spelled_fields-requires
spelled_fields-requires c = let s = c.in-Spelled.ensures in is_spelling c.args.properties.now c.in-Spelled.bytes.now s.0 s.1

pub returns-in-Spelled : goal.returns-in-Spelled
returns-in-Spelled c =
    let s = c.in-Spelled.ensures in
    subst (λ (p : Fields). IfOk c.spelled_fields.result (λ (q : Fields). q ≡ p)) (told c.args.properties.now c.in-Spelled.bytes.now s.0 s.1) c.spelled_fields.ensures
