use Rattle.commands.proofs.Names.{◌≡◌, ◌+◌, ◌++◌, ◌∙◌, ap, refl, sym, subst, ℕ, List, [], Option, is_some, err_from_is_err_and, IsPublish, content_or_none, next_of, answer_of, confirm_sends, confirm_notes, returned_notes, Content, Send, Note, Publishes, IsPlaced, AreAddressed, return_if, sent_back, seen, state_of}
use Rattle.std.specs.Prelude.{◌&&◌}
use Rattle.commands.proofs.Publishing.{publish_here, back_own, content_used}
use Rattle.commands.proofs.commands.publishing.publish.Goals as goal

pub returns-in_err-known-clause-commands : goal.returns-in_err-known-clause-commands
returns-in_err-known-clause-commands c = λ old new turns.
    let p = err_from_is_err_and c.from_residual.result c.from_residual.ensures.1 in
    rw (p.1, p.2) (sym (c.in_err-known.ensures.refusal (state_of c.args.depot.now old) refl))

pub returns-in_err-route-clause-commands : goal.returns-in_err-route-clause-commands
returns-in_err-route-clause-commands c = λ old new turns.
    let p = err_from_is_err_and c.from_residual-in_err-route.result c.from_residual-in_err-route.ensures.1 in
    rw (p.1, p.2) (sym (c.in_ok-known.ensures.refusal (state_of c.args.depot.now old) refl))

pub returns-in_err-returned-clause-commands : goal.returns-in_err-returned-clause-commands
returns-in_err-returned-clause-commands c = λ old new turns.
    let p = err_from_is_err_and c.from_residual-in_err-returned.result c.from_residual-in_err-returned.ensures.1 in
    rw (p.1, p.2) (sym (c.in_ok-known.ensures.refusal (state_of c.args.depot.now old) refl))

pub returns-in_err-reserve_exact-clause-commands : goal.returns-in_err-reserve_exact-clause-commands
returns-in_err-reserve_exact-clause-commands c = λ old new turns.
    let p = err_from_is_err_and c.from_residual-in_err-reserve_exact.result c.from_residual-in_err-reserve_exact.ensures.1 in
    rw (p.1, p.2) (sym (c.in_ok-known.ensures.refusal (state_of c.args.depot.now old) refl))

pub returns-in_err-routed-clause-commands : goal.returns-in_err-routed-clause-commands
returns-in_err-routed-clause-commands c = λ old new turns.
    let p = err_from_is_err_and c.from_residual-in_err-routed.result c.from_residual-in_err-routed.ensures.1 in
    rw (p.1, p.2) (sym (c.in_ok-known.ensures.refusal (state_of c.args.depot.now old) refl))

pub returns-clause-commands : goal.returns-clause-commands
returns-clause-commands c = λ old new turns.
    let connection = c.args.id.connection in
    let number = c.args.id.number in
    let s = c.args.depot.now in
    let ch = c.args.channel.now in
    let p = c.args.publish.now in
    let content = c.unwrap_or-content.result.now in
    let used : content ≡ content_or_none c.args.content.now = content_used c.as_ref.result _ c.unwrap_or-content.result c.args.content.now c.unwrap_or-content.ensures c.as_ref.ensures.value (cc (c.none.ensures, c.empty.ensures)) in
    let none = c.in_ok-routed.routed.is_none in
    let full = c.in_ok-routed.routed.is_some_full in
    let back : Option Send = return_if connection number p content in
    let done = c.in_ok-routed.ensures.ok in
    let confirm : c.next_confirm-confirm.result ≡ next_of ch.confirm = c.next_confirm-confirm.ensures in
    let made : Publishes s connection number p content (next_of ch.confirm) done.noted c.in_ok-routed.routed c.publish.new.self =
    subst (λ (o : Option ℕ). Publishes s connection number p content o done.noted c.in_ok-routed.routed c.publish.new.self) confirm done.publishes in
    let sends : c.confirm.new.self.sends.items ≡ sent_back none back ++ confirm_sends connection number (next_of ch.confirm) (answer_of full) =
    c.confirm.ensures.sends
    ∙ ap (λ (z : List Send). z ++ confirm_sends connection number c.next_confirm-confirm.result (answer_of full))
    (c.send_back.ensures.sends ∙ ap (λ (z : List Send). z ++ sent_back none c.in_ok-returned.returned) (c.in_ok-reserve_exact.ensures.items ∙ c.noting-step.ensures.sends) ∙ ap (sent_back none) c.in_ok-returned.ensures.send)
    ∙ ap (λ (o : Option ℕ). sent_back none back ++ confirm_sends connection number o (answer_of full)) confirm in
    let empty : c.noting-step.result.notes.items ≡ [] = cc (c.noting-step.ensures.notes, c.notes.ensures) in
    let noted : c.send_back.new.self.notes.items ≡ done.noted ++ returned_notes (s.published + 1) (none && is_some back) =
    c.send_back.ensures.notes
    ∙ ap (λ (z : List Note). z ++ returned_notes (c.published-number.result + 1) (none && is_some c.in_ok-returned.returned)) (done.appended ∙ ap (λ (z : List Note). z ++ done.noted) empty)
    ∙ ap (λ (n : ℕ). done.noted ++ returned_notes (n + 1) (none && is_some c.in_ok-returned.returned)) c.published-number.ensures
    ∙ ap (λ (o : Option Send). done.noted ++ returned_notes (s.published + 1) (none && is_some o)) c.in_ok-returned.ensures.send in
    let notes : c.confirm.new.self.notes.items ≡ (done.noted ++ returned_notes (s.published + 1) (none && is_some back)) ++ confirm_notes (s.published + 1) (next_of ch.confirm) (answer_of full) =
    c.confirm.ensures.notes
    ∙ ap (λ (z : List Note). z ++ confirm_notes (c.published-number.result + 1) c.next_confirm-confirm.result (answer_of full)) noted
    ∙ ap (λ (n : ℕ). (done.noted ++ returned_notes (s.published + 1) (none && is_some back)) ++ confirm_notes (n + 1) c.next_confirm-confirm.result (answer_of full)) c.published-number.ensures
    ∙ ap (λ (o : Option ℕ). (done.noted ++ returned_notes (s.published + 1) (none && is_some back)) ++ confirm_notes (s.published + 1) o (answer_of full)) confirm in (
      sym (c.in_ok-known.ensures.refusal (state_of s old) refl),
      subst (λ (x : Content). IsPublish s.topology (state_of s old) connection number (seen s ch) p x c.confirm.new.self.sends.items c.confirm.new.self.notes.items (state_of c.publish.new.self new)) used
          (rw (sends, notes) (publish_here connection number s c.publish.new.self ch c.count_publish.new.self p content done.noted c.in_ok-routed.routed old new made c.count_publish.ensures turns)),
    )

pub returns-clause-addressed : goal.returns-clause-addressed
returns-clause-addressed c = λ said.
    let none = c.in_ok-routed.routed.is_none in
    let confirmed : List Send = confirm_sends c.args.id.connection c.args.id.number c.next_confirm-confirm.result (answer_of c.in_ok-routed.routed.is_some_full) in
    let sends : c.send_back.new.self.sends.items ≡ sent_back none c.in_ok-returned.returned =
    c.send_back.ensures.sends ∙ ap (λ (z : List Send). z ++ sent_back none c.in_ok-returned.returned) (c.in_ok-reserve_exact.ensures.items ∙ c.noting-step.ensures.sends) in
    subst (AreAddressed c.args.id.connection) (sym (c.confirm.ensures.sends ∙ ap (λ (z : List Send). z ++ confirmed) sends))
    (back_own c.args.id.connection none c.in_ok-returned.returned confirmed (c.in_ok-returned.ensures.addressed said) c.confirm.ensures.addressed)

pub returns-clause-topology : goal.returns-clause-topology
returns-clause-topology c = c.in_ok-routed.ensures.ok.publishes.topology

pub returns-clause-in_range : goal.returns-clause-in_range
returns-clause-in_range c = subst (IsPlaced c.args.depot.now.topology) (sym c.count_publish.ensures) (record { outstanding = c.requires.placed.outstanding; consumers = c.requires.placed.consumers; rise = c.requires.placed.rise })
