-- The causes for which a file is refused, by number, in the order in which they are checked (own).
use Rattle.std.specs.Prelude.{ℕ}
use Rattle.json_file.specs.declared.causes.FileCause.{FileCause}
use Rattle.json_file.specs.declared.causes.FileCause.TheVariants.{NotJson, Malformed, OtherVhost, Repeated, Absent, OtherType, Unsupported}
use Rattle.json_file.specs.declared.causes.FileCause.TheVariants.{NoOverflow, Worded, TooMany, NoExchange, OtherPermission, OtherHash, Memory}

-- a cause's number, as docs/FORMATS.md lists them; of several causes in a file the lowest-numbered one is reported
abbrev pub cause_number : FileCause → ℕ
cause_number NotJson = 1
cause_number Malformed = 2
cause_number OtherVhost = 3
cause_number Repeated = 4
cause_number Absent = 5
cause_number OtherType = 6
cause_number Unsupported = 7
cause_number NoOverflow = 8
cause_number Worded = 9
cause_number TooMany = 10
cause_number NoExchange = 11
cause_number OtherPermission = 12
cause_number OtherHash = 13
cause_number Memory = 14
