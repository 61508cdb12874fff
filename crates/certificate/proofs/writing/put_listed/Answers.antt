use Rattle.certificate.proofs.Drafting.{puts}
use Rattle.certificate.proofs.writing.put_listed.Goals as goal

pub returns : goal.returns
returns c =
    puts c.args.certificate.now c.put_certificate.result c.args.most c.args.text.now.items c.put_separator.new.text.items c.put_certificate.new.text.items c.in_ok-put_separator.ensures
    c.put_certificate.ensures
