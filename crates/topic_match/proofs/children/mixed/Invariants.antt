use Rattle.topic_match.proofs.Names.{◌≡◌, ◌<◌, drop, mixed}
use Rattle.topic_match.proofs.children.mixed.Given as goal

abbrev pub invariant-loop-byte : goal.invariant-loop-byte
invariant-loop-byte l = record {
  small : l.number < 4294967296;
  same : mixed l.number (drop l.byte-index l.bytes) ≡ mixed 0 l.bytes;
}
