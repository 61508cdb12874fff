use Rattle.std.proofs.Common.{ℕ, List, Option, sym, subst}
use Rattle.std.specs.Prelude.{flat_map}
use Rattle.model.specs.Frames.{frame_bytes}
use Rattle.model.specs.Spelling.{content_frames}
use Rattle.model.specs.declared.contents.Content.{Content}
use Rattle.outputs.specs.Waiting.{PutsBytes}
use Rattle.outputs.specs.Sending.{header_frame, body_bytes}
use Rattle.outputs.proofs.Putting.{puts_then}
use Rattle.outputs.proofs.sending.put_content.Goals as goal

pub returns-in-Some : goal.returns-in-Some
returns-in-Some c =
    let mid = c.put_header_frame.new.output in
    let body : PutsBytes mid (body_bytes c.args.max c.args.channel c.in-Some.content.body) c.put_body.new.output =
    subst (λ (z : List ℕ). PutsBytes mid (body_bytes c.args.max c.args.channel z) c.put_body.new.output) c.as_bytes.ensures c.put_body.ensures in
    subst (λ (o : Option Content). PutsBytes c.args.output.now (flat_map frame_bytes (content_frames c.args.max c.args.channel o)) c.put_body.new.output) (sym c.in-Some.is)
    (puts_then c.args.output.now mid c.put_body.new.output (frame_bytes (header_frame c.args.channel c.in-Some.content)) (body_bytes c.args.max c.args.channel c.in-Some.content.body) c.put_header_frame.ensures body)
