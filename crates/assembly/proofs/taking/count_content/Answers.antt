use Rattle.assembly.proofs.Imports.{◌≡◌, ◌∙◌, ℕ, false, ap, subst, Result, Ok, Err, refl, Taken, taken_dropped, taken_header, Header, SaysHeader, pending_of, TakesEffect}
use Rattle.model.specs.Commands
use Rattle.assembly.proofs.Codes.{map_fault, does_wider}
use Rattle.assembly.proofs.taking.count_content.Goals as goal

pub returns-in-Ok-clause-does : goal.returns-in-Ok-clause-does
returns-in-Ok-clause-does c = λ p e.
    let payload = c.args.frame.now.payload.now in
    let channel = c.args.frame.now.channel in
    let h = c.in-Ok.ensures in
    let now = pending_of c.drop_begun.new.pending in
    let effect : Taken → Type 0 = λ t. (r : Result Header ℕ) × SaysHeader payload r × (t ≡ taken_header false channel p r) in
    subst (λ (q : Commands.Pending). TakesEffect effect q c.drop_begun.result now) (ap pending_of e)
    (does_wider (λ t. t ≡ taken_dropped channel c.in-Ok.size 0) effect (pending_of c.args.pending.now) now c.drop_begun.result
    (λ t x. (Ok h.0, h.1, x ∙ ap (λ (n : ℕ). taken_dropped channel n 0) h.2)) c.drop_begun.ensures.does)

pub returns-in-Err-clause-does : goal.returns-in-Err-clause-does
returns-in-Err-clause-does c = λ p e. (map_fault _ _ c.in-Err.fault (λ code s. (Err code, s, refl)) c.in-Err.ensures, ap pending_of e)
