use Rattle.std.proofs.Common.{List, subst}
use Rattle.std.specs.Prelude.{All, Decides}
use Rattle.model.specs.Words.{Text}
use Rattle.topology_drafts.specs.Causes.{DeadLettersLead}
use Rattle.topology_drafts.proofs.drafts.Draft.has_dead_letter_exchanges.Goals as goal

pub returns : goal.returns
returns c =
    rw (← c.self.view_is)
    (subst (λ (names : List Text). Decides c.all_dead_letters_lead.result (All (DeadLettersLead names) c.self.inside.queues.now)) c.self.invariant.of_exchanges_is c.all_dead_letters_lead.ensures)
