use Rattle.assembly.proofs.Imports.{◌≤◌, length, false, GoesOn, AreSpelledSoFar, stream}
use Rattle.assembly.proofs.reading.next_command.Given as goal

abbrev pub invariant-frames : goal.invariant-frames
invariant-frames l = record {
  spelled : AreSpelledSoFar l.contents.items;
  goes : GoesOn (stream false l.max l.keeps l.fn.contents.items l.fn.unread.bytes) (stream false l.max l.keeps l.contents.items l.unread.bytes);
  shorter : length l.unread.bytes ≤ length l.fn.unread.bytes;
}

abbrev pub decreases-frames : goal.decreases-frames
decreases-frames l = length l.unread.bytes
