use Rattle.headers.proofs.Told.{low_flags, end_early, left_over, bad_table}
use Rattle.headers.proofs.laws.ghost_syntax_errors.Goals as goal

pub returns : goal.returns
returns c = record { low_flags = low_flags; end_early = end_early; left_over = left_over; bad_table = bad_table }
