use Rattle.engine.proofs.Names.{subst, IsSound, Parts, world_of}
use Rattle.engine.proofs.Tooks.{sound}
use Rattle.engine.proofs.engines.Engine.ghost_is_sound.Goals as goal

pub returns : goal.returns
returns c = subst (λ (p : Parts). IsSound (world_of p).config) c.self.view_is (sound _ c.self.invariant)
