use Rattle.channels.proofs.Imports.{◌∙◌, ℕ, List, Option, ap, sym, subst, Some, IsSome, false≢true, option_copied_mut, Running, running_in, HasPlacesBelow}
use Rattle.channels.proofs.Outcomes.{on_err}
use Rattle.channels.proofs.Setting.{set_same}
use Rattle.channels.proofs.Places.{places_found, places_written}
use Rattle.channels.proofs.connections.RunningConnections.open_channel.Goals.{in-Some, in-None}
use Rattle.channels.proofs.connections.RunningConnections.open_channel.Goals as goal

pub returns-clause-err : goal.returns-clause-err
returns-clause-err c = elim c.match-get_mut.branch [
  | in-Some w ↦ rw (w.result-is, w.self-inside-is) (on_err w.open_channel.result w.open_channel.ensures.err (λ same.
      (c.get_mut.follows.holds w.open_channel.new.self).0
      ∙ set_same _ c.self.inside.connections.entries w.open_channel.new.self (sym c.get_mut.ensures.value ∙ ap option_copied_mut w.in-Some.is ∙ ap Some (sym same))
      ∙ c.self.view_is))
  | in-None w ↦ rw w.result-is tt
]

pub returns-clause-full : goal.returns-clause-full
returns-clause-full c = elim c.match-get_mut.branch [
  | in-Some w ↦ rw w.result-is (on_err w.open_channel.result w.open_channel.ensures.full (λ few.
      subst (λ (es : List (ℕ × Running)). HasPlacesBelow es c.args.connection c.args.number) c.self.view_is
      (places_found c.self.inside.connections.entries c.args.connection c.args.number w.in-Some.running.now (sym c.get_mut.ensures.value ∙ ap option_copied_mut w.in-Some.is) few)))
  | in-None w ↦ rw w.result-is tt
]

pub returns-clause-few : goal.returns-clause-few
returns-clause-few c = elim c.match-get_mut.branch [
  | in-Some w ↦ rw w.self-inside-is (λ n few lt.
      let es = c.self.inside.connections.entries in
      let was = w.in-Some.running.now in
      let found = sym c.get_mut.ensures.value ∙ ap option_copied_mut w.in-Some.is in
      let there = subst (λ (xs : List (ℕ × Running)). HasPlacesBelow xs c.args.connection n) (sym c.self.view_is) few in
      places_written es _ c.args.connection n was w.open_channel.new.self found (c.get_mut.follows.holds w.open_channel.new.self).0 (w.open_channel.ensures.few n (there was found) lt))
  | in-None w ↦
      let there = subst (λ (es : List (ℕ × Running)). IsSome (running_in es c.args.connection)) (sym c.self.view_is) c.requires in
      absurd (false≢true (subst (λ (o : Option Running). IsSome o) (sym c.get_mut.ensures.value ∙ ap option_copied_mut w.in-None.is) there))
]
