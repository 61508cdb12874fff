-- Bytes that wait to be taken from an output.
pub use Rattle.frame.specs.Waiting.{WaitingBytes, PutsBytes, HoldsNone}
