use Rattle.std.proofs.Common.{◌≡◌, ◌+◌, ◌≤◌, length}
use Rattle.std.specs.Prelude.{option_copied}
use Rattle.scripts.specs.Script.{arrivals_from, onto_arrivals, script}
use Rattle.model.specs.Parts.{parts_left}
use Rattle.model.proofs.Left.{left}
use Rattle.scripts.proofs.script.read_script.Given as goal

abbrev pub invariant-lines : goal.invariant-lines
invariant-lines l = record {
  said : onto_arrivals l.found.items (arrivals_from (l.number + 1) l.opened (parts_left 10 (option_copied l.rest))) ≡ script l.fn.text;
  few : l.number + left (option_copied l.rest) ≤ length l.fn.text + 1;
  opened : l.opened ≤ 1024;
}

abbrev pub decreases-lines : goal.decreases-lines
decreases-lines l = left (option_copied l.rest)
