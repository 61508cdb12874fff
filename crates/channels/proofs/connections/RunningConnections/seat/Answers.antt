use Rattle.channels.proofs.Imports.{◌∙◌, Some, sym, ap, option_copied_mut}
use Rattle.channels.proofs.Setting.{set_same}
use Rattle.channels.proofs.connections.RunningConnections.seat.Goals.{in-Some, in_default}
use Rattle.channels.proofs.connections.RunningConnections.seat.Goals as goal

pub returns : goal.returns
returns c = elim c.match-get_mut.branch [
  | in-Some w ↦ rw w.self-inside-is (
      (c.get_mut.follows.holds w.seat.new.self).0
      ∙ set_same _ c.self.inside.connections.entries w.seat.new.self (sym c.get_mut.ensures.value ∙ ap option_copied_mut w.in-Some.is ∙ ap Some (sym w.seat.ensures))
      ∙ c.self.view_is)
  | in_default w ↦ rw (w.self-inside-is, c.get_mut.follows.holds-at-none) c.self.view_is
]
