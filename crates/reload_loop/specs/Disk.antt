-- The meaning of the system's error for a file (Linux, `open`).
use Rattle.std.specs.Prelude.{◌≡◌, ◌⊎◌, ℤ, pos, Option, Some}

-- no file descriptor is free: the process has as many as it may have (24, EMFILE), or the machine as many open files as it may have (23, ENFILE)
abbrev pub IsNoneFree : Option ℤ → Type 0
IsNoneFree code = (code ≡ Some (pos 24)) ⊎ (code ≡ Some (pos 23))
