use Rattle.laws.proofs.Keeping.{no_event_marks}
use Rattle.laws.proofs.events_mark_no_message.Goals as goal

pub returns : goal.returns
returns c = no_event_marks
