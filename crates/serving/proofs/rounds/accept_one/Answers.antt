use Rattle.serving.proofs.Names.{[], ◌∷◌, false, true, Not_accepted, Accept_failed, AddsCalls, TakesIn}
use Rattle.serving.proofs.Deeds.{met, turned_away, met_nothing, met_failure}
use Rattle.serving.proofs.rounds.accept_one.Goals as goal

pub returns-then-not-take_in-clause-serves : goal.returns-then-not-take_in-clause-serves
returns-then-not-take_in-clause-serves g c =
    let world = g.M.Machine.world in
    let traffic = g.W.Wire.past in
    let out : TakesIn g.M.Machine.lacks (world c.args.machine.now) c.args.peers.now.slots c.in-Socket.socket false (world c.take_in.new.machine) c.take_in.new.peers.slots = rw c.if-not-take_in.true at c.take_in.ensures.takes in
    turned_away (world c.args.machine.now) (world c.take_in.new.machine) c.args.peers.now.slots c.take_in.new.peers.slots c.in-Socket.socket (traffic c.args.wire.now) (traffic c.accept.new.self) (traffic c.close.new.self)
    out (c.accept.ensures.fresh c.in-Socket.socket c.in-Socket.is) c.in-Socket.ensures.traffic c.close.ensures

pub returns-else-not-take_in-clause-serves : goal.returns-else-not-take_in-clause-serves
returns-else-not-take_in-clause-serves g c =
    let world = g.M.Machine.world in
    let traffic = g.W.Wire.past in
    let taken : TakesIn g.M.Machine.lacks (world c.args.machine.now) c.args.peers.now.slots c.in-Socket.socket true (world c.take_in.new.machine) c.take_in.new.peers.slots = rw c.if-not-take_in.false at c.take_in.ensures.takes in
    met (world c.args.machine.now) (world c.take_in.new.machine) c.args.peers.now.slots c.take_in.new.peers.slots c.in-Socket.socket (traffic c.args.wire.now) (traffic c.accept.new.self)
    taken (c.accept.ensures.fresh c.in-Socket.socket c.in-Socket.is) c.in-Socket.ensures.traffic

pub returns-in-Nothing-clause-serves : goal.returns-in-Nothing-clause-serves
returns-in-Nothing-clause-serves g c =
    let traffic = g.W.Wire.past in
    let e : AddsCalls (traffic c.args.wire.now) (Not_accepted ∷ []) (traffic c.accept.new.self) = rw c.in-Nothing.is at c.accept.ensures.traffic in
    met_nothing (g.M.Machine.world c.args.machine.now) c.args.peers.now.slots (traffic c.args.wire.now) (traffic c.accept.new.self) e

pub returns-in-Failed-clause-serves : goal.returns-in-Failed-clause-serves
returns-in-Failed-clause-serves g c =
    let traffic = g.W.Wire.past in
    let e : AddsCalls (traffic c.args.wire.now) (Accept_failed ∷ []) (traffic c.accept.new.self) = rw c.in-Failed.is at c.accept.ensures.traffic in
    met_failure (g.M.Machine.world c.args.machine.now) c.args.peers.now.slots (traffic c.args.wire.now) (traffic c.accept.new.self) e
