use Rattle.channels.proofs.Imports.{◌∙◌, Some, sym, ap, option_copied_mut}
use Rattle.channels.proofs.Setting.{set_same}
use Rattle.channels.proofs.connections.RunningConnections.wake.Goals.{in-Some, in_default}
use Rattle.channels.proofs.connections.RunningConnections.wake.Goals as goal

pub returns-clause-same : goal.returns-clause-same
returns-clause-same g c = elim c.match-get_mut.branch [
  | in-Some w ↦ rw w.self-inside-is (
      (c.get_mut.follows.holds w.wake.new.self).0
      ∙ set_same _ c.self.inside.connections.entries w.wake.new.self (sym c.get_mut.ensures.value ∙ ap option_copied_mut w.in-Some.is ∙ ap Some (sym w.wake.ensures.same))
      ∙ c.self.view_is)
  | in_default w ↦ rw (w.self-inside-is, c.get_mut.follows.holds-at-none) c.self.view_is
]
