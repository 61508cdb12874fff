use Rattle.engine.proofs.Names.{sym, subst, Config, ReloadMayAllocate, world_of}
use Rattle.engine.proofs.machines.EngineMachine.reload.Goals as goal

pub returns-clause-wants : goal.returns-clause-wants
returns-clause-wants c = λ memory.
    subst (λ (s : Config). ReloadMayAllocate (world_of c.args.self.now) s) (sym c.into_parts-checked.ensures) (c.reload.ensures.wants memory)
