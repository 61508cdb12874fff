use Rattle.std.proofs.Common.{sym, subst}
use Rattle.std.specs.Prelude.{flat_map}
use Rattle.model.specs.Frames.{frame_bytes}
use Rattle.model.specs.Spelling.{method_frame, content_frames, send_bytes}
use Rattle.model.specs.declared.events.Send.{Send}
use Rattle.outputs.specs.Waiting.{PutsBytes}
use Rattle.outputs.proofs.Putting.{puts_then}
use Rattle.outputs.proofs.sending.put_send.Goals as goal

pub returns-in-Command : goal.returns-in-Command
returns-in-Command c =
    let m = c.in-Command in
    subst (λ (s : Send). PutsBytes c.args.output.now (send_bytes c.args.max s) c.put_content.new.output) (sym m.is)
    (puts_then c.args.output.now c.put_method_frame.new.output c.put_content.new.output (frame_bytes (method_frame m.channel m.method)) (flat_map frame_bytes (content_frames c.args.max m.channel m.content)) c.put_method_frame.ensures c.put_content.ensures)
