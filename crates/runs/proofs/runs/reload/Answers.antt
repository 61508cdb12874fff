use Rattle.runs.proofs.Names.{◌≡◌, ◌++◌, ◌∷◌, [], Option, sym, subst, ◌∙◌, ReportsWhyNot, AnswersAndRecords, Obstacle, Reloaded, ReloadRefused}
use Rattle.model.specs.declared.events.Arrival.TheVariants as arrival
use Rattle.runs.proofs.Onward.{on_ok, reloads_done, reloads_refused}
use Rattle.runs.proofs.runs.reload.Goals as goal

pub returns-in-Ok : goal.returns-in-Ok
returns-in-Ok g c =
    let world = g.M.Machine.world in
    let old = c.args.transcript.now in
    let offered = g.M.Machine.config c.args.setup in
    on_ok c.note_one.result (c.note_one.new.self ≡ record old { notes = old.notes ++ Reloaded ∷ [] })
    (AnswersAndRecords (world c.args.machine.now) (arrival.Reload offered) old (world c.reload.new.self) c.note_one.new.self)
    (λ e. reloads_done (world c.args.machine.now) (world c.reload.new.self) offered old c.note_one.new.self c.ghost_offers_sound.ensures c.in-Ok.ensures.reported e)
    c.note_one.ensures.ok

pub returns-in-Some : goal.returns-in-Some
returns-in-Some g c =
    let world = g.M.Machine.world in
    let old = c.args.transcript.now in
    let offered = g.M.Machine.config c.args.setup in
    let reported = subst (λ (o : Option Obstacle). ReportsWhyNot (world c.args.machine.now) offered o (world c.reload.new.self)) (sym c.obstacle.ensures ∙ c.in-Some.is) c.in-Err.ensures.reported in
    on_ok c.note_one-in-Some.result (c.note_one-in-Some.new.self ≡ record old { notes = old.notes ++ ReloadRefused c.in-Some.obstacle ∷ [] })
    (AnswersAndRecords (world c.args.machine.now) (arrival.Reload offered) old (world c.reload.new.self) c.note_one-in-Some.new.self)
    (λ e. reloads_refused (world c.args.machine.now) (world c.reload.new.self) offered c.in-Some.obstacle old c.note_one-in-Some.new.self c.ghost_offers_sound.ensures reported.0 reported.1 e)
    c.note_one-in-Some.ensures.ok
