use Rattle.assembly.proofs.Imports.{◌≡◌, true, ap, subst, sym, arith, Ok, Err, refl, Makes, taken_header, IsMethod, BasicPublish, header_seen, pending_of, IsSpelledSoFar}
use Rattle.assembly.specs.Coming.{GrowsAsItComes}
use Rattle.assembly.proofs.Codes.{map_fault, one_publish}
use Rattle.assembly.proofs.Limits.{begun, empty_body}
use Rattle.assembly.proofs.taking.gather_content.Goals as goal

pub returns-then-header-eq0-clause-does : goal.returns-then-header-eq0-clause-does
returns-then-header-eq0-clause-does c = λ p e.
    let h = c.in-Ok.header in
    let channel = c.args.frame.now.channel in
    let taken = c.begun_publish-publish in
    let method : IsMethod (BasicPublish taken.result) = subst IsSpelledSoFar taken.ensures.publish c.requires.spelled in
    let b = begun c.args.frame.now.payload.now taken.result (header_seen h) method c.requires.small c.in-Ok.ensures.read in
    let whole = empty_body channel taken.result (header_seen h) c.full-whole.result c.empty.result c.full-whole.ensures c.empty.ensures c.if-header-eq0.true b in
    let same = one_publish c.args.pending.now taken.result p taken.ensures.publish e in
    ((Ok (header_seen h), c.in-Ok.ensures.read, subst (λ q. Makes c.full-whole.result ≡ taken_header true channel q (Ok (header_seen h))) same whole.0), whole.1, ap pending_of taken.ensures.nothing)

pub returns-else-header-eq0-clause-spelled : goal.returns-else-header-eq0-clause-spelled
returns-else-header-eq0-clause-spelled c =
    let taken = c.begun_publish-publish in
    let made = begun c.args.frame.now.payload.now taken.result (header_seen c.in-Ok.header) (subst IsSpelledSoFar taken.ensures.publish c.requires.spelled) c.requires.small c.in-Ok.ensures.read in
    (made, subst GrowsAsItComes (sym c.new.ensures) (omega arith))

pub returns-in-Err-clause-does : goal.returns-in-Err-clause-does
returns-in-Err-clause-does c = λ p e.
    (map_fault _ _ c.of_header.result (λ code s. (Err code, s, refl)) (c.of_header.ensures _ c.in-Err.ensures.read), ap pending_of e)
