use Rattle.session.proofs.Rows.{start_payload, opening_frames, opening_refusals}
use Rattle.session.proofs.examples.ghost_worked_examples.Goals as goal

pub returns : goal.returns
returns c = record { start = start_payload; frames = opening_frames; refusals = opening_refusals }
