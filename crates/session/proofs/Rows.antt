-- The worked examples.
use Rattle.session.proofs.Names.{refl}
use Rattle.session.specs.Rows.{StartPayload, OpeningFrames, OpeningRefusals}

pub start_payload : StartPayload
start_payload = record { inner = refl; outer = refl; payload = refl; front = refl; back = refl }

pub opening_frames : OpeningFrames
opening_frames = record { tune = refl; tuned = refl; lower = refl; opened = refl }

pub opening_refusals : OpeningRefusals
opening_refusals = record { small_frame = refl; large_frame = refl; large_channel = refl; heartbeat = refl; vhost = refl; early = refl; channel = refl; other_header = refl }
