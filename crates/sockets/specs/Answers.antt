-- What the system's answers mean (POSIX, `read` and `write` of a socket that does not block).
use Rattle.std.specs.Prelude.{◌≡◌, ◌⊎◌}
use Rattle.std.specs.declared.io.ErrorKind.{ErrorKind}
use Rattle.std.specs.declared.io.ErrorKind.TheVariants as kind

-- the error only asks to try later: the call would have blocked, or a signal interrupted it
abbrev pub IsLater : ErrorKind → Type 0
IsLater k = (k ≡ kind.WouldBlock) ⊎ (k ≡ kind.Interrupted)
