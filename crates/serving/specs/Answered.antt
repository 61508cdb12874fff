-- The answers of a wire as calls.
use Rattle.std.specs.Prelude.{ℕ, List, take}
use Rattle.serving.specs.Wire.{Call, Accepted, Not_accepted, Accept_failed, Got, Nothing_got, Read_ended, Read_failed, Took, Nothing_taken, Write_failed}
use Rattle.serving.specs.declared.wire.Accept.{Accept}
use Rattle.serving.specs.declared.wire.Accept.TheVariants as accept
use Rattle.serving.specs.declared.wire.Read.{Read}
use Rattle.serving.specs.declared.wire.Read.TheVariants as read
use Rattle.serving.specs.declared.wire.Write.{Write}
use Rattle.serving.specs.declared.wire.Write.TheVariants as write

-- the call of an accept with this answer
abbrev pub accept_call : Accept → Call
accept_call (accept.Socket s) = Accepted s
accept_call accept.Nothing = Not_accepted
accept_call accept.Failed = Accept_failed

-- the call of a read of socket `s` with this answer; it was offered `room` bytes, and the bytes that it got are the first of `buffer`
abbrev pub read_call : ℕ → ℕ → Read → List ℕ → Call
read_call s room (read.Got n) buffer = Got s room (take n buffer)
read_call s room read.Wait buffer = Nothing_got s room
read_call s room read.End buffer = Read_ended s room
read_call s room read.Failed buffer = Read_failed s room

-- the call of a write to socket `s` with this answer; the bytes that it took are the first of `offered`
abbrev pub write_call : ℕ → Write → List ℕ → Call
write_call s (write.Took n) offered = Took s offered (take n offered)
write_call s write.Wait offered = Nothing_taken s offered
write_call s write.Failed offered = Write_failed s offered
