use Rattle.engine.proofs.Names.{◌≡◌, ◌++◌, drop}
use Rattle.engine.proofs.setups.copied_users.Given as goal

abbrev pub invariant-loop-user : goal.invariant-loop-user
invariant-loop-user l = l.copies.items ++ drop l.user-index l.users ≡ l.users
