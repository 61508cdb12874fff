use Rattle.engine.proofs.Names.{world_of}
use Rattle.engine.proofs.Putting.{kept_same, may_allocate}
use Rattle.engine.proofs.machines.EngineMachine.put_in_force.Goals as goal

pub returns-clause-err : goal.returns-clause-err
returns-clause-err c = kept_same c.put_in_force.result c.args.self.now c.put_in_force.new.self c.put_in_force.ensures.kept

pub returns-clause-wants : goal.returns-clause-wants
returns-clause-wants c = may_allocate c.put_in_force.result (world_of c.args.self.now) c.args.setup c.requires.nothing
