-- The bytes spell what was read from them.
use Rattle.headers.proofs.Spelled.{is_spelling}
use Rattle.headers.proofs.Parted.{made, is_read, gives}
use Rattle.headers.proofs.properties.flagged_in.Goals as goal

pub spelled-requires : goal.spelled-requires
spelled-requires c =
    let r = is_read c.args.flags c.args.bytes.now c.args.spelled.now c.in-Some.parts c.ranges.flags.fits (λ i. (c.type_inv.bytes i).fits) c.requires c.in-Some.ensures c.if-not-is_whole.ensures in
    is_spelling (made c.in-Some.parts) c.args.spelled.now r.fits r.bytes_are

pub returns-in-Ok : goal.returns-in-Ok
returns-in-Ok c =
    let r = is_read c.args.flags c.args.bytes.now c.args.spelled.now c.in-Some.parts c.ranges.flags.fits (λ i. (c.type_inv.bytes i).fits) c.requires c.in-Some.ensures c.if-not-is_whole.ensures in
    let s = c.in-Ok.ensures in
    gives c.args.flags c.args.bytes.now c.args.spelled.now (made c.in-Some.parts) c.in-Ok.properties r s.0 s.1
