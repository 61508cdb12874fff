use Rattle.definitions.proofs.Imports.{file_of}
use Rattle.definitions.proofs.Deciding.{permissions_known}
use Rattle.definitions.proofs.causes.permissions_fit.Goals as goal

pub returns : goal.returns
returns c =
    permissions_known (file_of c.args.document.now) c.args.users.now c.args.permitted.now c.all_permit_all-whole.result c.is_distinct-distinct.result c.are_permitted-each.result c.are_of_users-known.result c.requires.users c.requires.permitted
    (rw (← c.as_slice.ensures.value) c.all_permit_all-whole.ensures)
    c.is_distinct-distinct.ensures
    (rw (← c.as_slice-2.ensures.value) c.are_permitted-each.ensures)
    (rw (← c.as_slice-3.ensures.value) c.are_of_users-known.ensures)
