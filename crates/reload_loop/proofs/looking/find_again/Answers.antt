use Rattle.server.proofs.FilesKept.{kept_then}
use Rattle.reload_loop.proofs.Outcomes.{found_again, found_before, held_before}
use Rattle.reload_loop.proofs.Telling.{carried_again}
use Rattle.reload_loop.proofs.looking.find_again.Goals as goal

pub returns-then-is_found_again-clause-found : goal.returns-then-is_found_again-clause-found
returns-then-is_found_again-clause-found g c = found_again _ _ _ _ c.requires (c.is_found_again.ensures.again c.if-is_found_again.true)

pub returns-then-is_found_again-clause-told : goal.returns-then-is_found_again-clause-told
returns-then-is_found_again-clause-told g c = carried_again c.args.found.now

pub returns-then-is_held-clause-found : goal.returns-then-is_held-clause-found
returns-then-is_held-clause-found g c = held_before _ _ _ _ c.is_found_again.ensures.files (c.is_held.ensures.held c.if-is_held.true)

pub returns-clause-found : goal.returns-clause-found
returns-clause-found g c = found_before _ _ _ _ _ (kept_then _ _ _ c.is_found_again.ensures.files c.is_held.ensures.files) c.find.ensures.found
