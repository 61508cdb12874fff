use Rattle.session.proofs.Names.{◌≡◌, drop, ◌||◌, list_any, is_user}
use Rattle.session.proofs.logins.is_known.Given as goal

-- one of all is such where one so far is, or one of those that are left
abbrev pub invariant-users : goal.invariant-users
invariant-users l = (l.is_right || list_any (is_user l.name l.password) (drop l.user-index l.users)) ≡ list_any (is_user l.name l.password) l.users
