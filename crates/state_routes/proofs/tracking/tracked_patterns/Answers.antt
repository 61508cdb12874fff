use Rattle.state_routes.proofs.Names.{◌∙◌}
use Rattle.state_routes.proofs.Collecting.{tracked_from, some_tracked}
use Rattle.state_routes.proofs.Fitting.{patterns_from}
use Rattle.state_routes.proofs.tracking.tracked_patterns.Goals as goal

pub returns-clause-tracked : goal.returns-clause-tracked
returns-clause-tracked c =
    tracked_from c.args.topology.now c.args.guarantee.now c.mode-mode.result c.as_bytes-exchange.result.now c.as_bytes.result.now c.pattern.result.now c.excepts.result.now c.in_ok-marks.marks.items c.as_slice.result.now c.in_ok-list.list.items
    c.ghost_is_well_formed.ensures c.mode-mode.ensures (c.as_bytes-exchange.ensures ∙ c.exchange.ensures) c.pattern.ensures c.excepts.ensures c.as_slice.ensures.value c.in_ok-marks.ensures c.in_ok-list.ensures

pub returns-clause-patterns : goal.returns-clause-patterns
returns-clause-patterns c = patterns_from c.args.topology.now c.args.guarantee.now c.pattern.result.now c.excepts.result.now c.as_slice.result.now c.in_ok-list.list.items c.ghost_is_buildable.ensures c.ghost_are_patterns.ensures c.pattern.ensures c.excepts.ensures c.in_ok-list.ensures

pub returns-clause-some : goal.returns-clause-some
returns-clause-some c = some_tracked c.args.topology.now c.args.guarantee.now c.in_ok-list.list.items
    (tracked_from c.args.topology.now c.args.guarantee.now c.mode-mode.result c.as_bytes-exchange.result.now c.as_bytes.result.now c.pattern.result.now c.excepts.result.now c.in_ok-marks.marks.items c.as_slice.result.now c.in_ok-list.list.items
    c.ghost_is_well_formed.ensures c.mode-mode.ensures (c.as_bytes-exchange.ensures ∙ c.exchange.ensures) c.pattern.ensures c.excepts.ensures c.as_slice.ensures.value c.in_ok-marks.ensures c.in_ok-list.ensures)
