use Rattle.certificate.proofs.Appended.{tracked_appended}
use Rattle.certificate.proofs.writing.put_tracked.Goals as goal

pub returns : goal.returns
returns c =
    tracked_appended c.args.indices.now c.args.text.now.items c.extend_from_slice.new.self.items c.put_state.new.text.items c.push.new.self.items
    c.in_ok-extend_from_slice.ensures.items c.in_ok-put_state.ensures c.in_ok-push.ensures.items
