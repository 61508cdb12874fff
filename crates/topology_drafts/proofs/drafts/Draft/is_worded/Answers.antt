use Rattle.std.proofs.Common.{◌≡◌, ◌∙◌, true, sym}
use Rattle.topology_drafts.proofs.drafts.Draft.is_worded.Goals as goal
use Rattle.topology_drafts.proofs.drafts.Draft.is_worded.Goals.{then-all_named, else-all_named}

pub returns-then-all_worded : goal.returns-then-all_worded
returns-then-all_worded c =
    rw (← c.self.view_is)
    elim c.if-all_named.branch [
      | then-all_named w ↦ (λ e. record { exchanges = c.all_named.ensures.0 w.if-all_named.true; queues = w.all_worded.ensures.0 (sym w.value-is ∙ c.if-all_worded.true); bindings = c.all_keyed.ensures.0 e }, λ a. c.all_keyed.ensures.1 a.bindings)
      | else-all_named w ↦ absurd (let e = w.value-is in let f = c.if-all_worded.true in cc)
    ]

pub returns-else-all_worded : goal.returns-else-all_worded
returns-else-all_worded c =
    rw (← c.self.view_is)
    elim c.if-all_named.branch [
      | then-all_named w ↦ (λ e. absurd (let f = c.if-all_worded.false in cc), λ a. w.value-is ∙ w.all_worded.ensures.1 a.queues)
      | else-all_named w ↦ (λ e. absurd (let f = c.if-all_worded.false in cc), λ a. (let f = w.if-all_named.false in let z : c.all_named.result ≡ true = c.all_named.ensures.1 a.exchanges in absurd (cc)))
    ]
