use Rattle.certificate.proofs.Names.{arith, err_from_is_err_and, length}
use Rattle.certificate.specs.Drafts.{with_put}
use Rattle.certificate.proofs.Drafting.{fails_at, listed_next, written_whole}
use Rattle.certificate.proofs.certificates.Certificate.write.Goals as goal

pub returns-in_err-put_listed : goal.returns-in_err-put_listed
returns-in_err-put_listed c =
    let p = err_from_is_err_and c.from_residual-in_err-put_listed.result c.from_residual-in_err-put_listed.ensures.1 in
    let i = c.loop-certificate.certificate-index in
    let item = c.certificate-item.result in
    let most = length (with_put c.loop-certificate.text.items item) in
    rw (p.1, p.2) (fails_at c.args.certificates.now i item c.in_err-put_listed.field-0.0 most (omega arith) c.certificate-item.is c.in_err-put_listed.ensures)

pub loop-certificate-preserved : goal.loop-certificate-preserved
loop-certificate-preserved c =
    listed_next c.args.certificates.now c.loop-certificate.certificate-index c.certificate-item.result c.loop-certificate.text.items c.put_listed.new.text.items (omega arith)
    c.certificate-item.is c.loop-certificate.invariant c.in_ok-put_listed.ensures

pub returns : goal.returns
returns c =
    written_whole c.args.certificates.now c.loop-certificate.certificate-index c.loop-certificate.text.items c.push-2.new.self.items (omega arith) c.loop-certificate.invariant
    c.in_ok-push-2.ensures.items
