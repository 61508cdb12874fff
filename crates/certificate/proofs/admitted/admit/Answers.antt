use Rattle.certificate.proofs.Names.{List, refl, subst, Guarantee, AreCertified}
use Rattle.certificate.proofs.Certifying.{certified_hold}
use Rattle.certificate.proofs.admitted.admit.Goals as goal

pub invariant_of-result : goal.invariant_of-result
invariant_of-result c = certified_hold c.args.topology c.args.guarantees.items c.args.certificates.now (subst (λ (gs : List Guarantee). AreCertified c.args.topology gs c.args.certificates.now) c.as_slice.ensures.value c.in-Ok.ensures)

pub returns-in-Ok : goal.returns-in-Ok
returns-in-Ok c =
    let all = subst (λ (gs : List Guarantee). AreCertified c.args.topology gs c.args.certificates.now) c.as_slice.ensures.value c.in-Ok.ensures in
    (refl, certified_hold c.args.topology c.args.guarantees.items c.args.certificates.now all, all)
