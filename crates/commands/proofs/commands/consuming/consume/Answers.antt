use Rattle.commands.proofs.Names.{◌≡◌, ◌<◌, ◌∙◌, None, sym, subst, err_from_is_err_and, Text, Topology, queue_names, Performs, refusal_of_consume, BasicConsume, IsQueueIndex, refusal_seen, seen, state_of}
use Rattle.std.proofs.Common.{Some, length}
use Rattle.commands.proofs.Placing.{placed_made}
use Rattle.commands.proofs.Consuming.{consumed, none_against, tag_short, not_made}
use Rattle.commands.proofs.commands.consuming.consume.Goals as goal

pub returns-in_err-place-clause-commands : goal.returns-in_err-place-clause-commands
returns-in_err-place-clause-commands c = λ content old new turns.
    let s = c.args.depot.now in
    let ch = seen s c.args.channel.now in
    let m = c.args.consume.now in
    let p = err_from_is_err_and c.from_residual.result c.from_residual.ensures.1 in
    rw (p.1, p.2) (sym (subst (λ (t : Topology). Some (refusal_seen c.in_err-place.field-0.0) ≡ refusal_of_consume t ch m) c.topology.ensures (c.in_err-place.ensures.refusal (queue_names s.topology.queues))))

pub returns-in_err-reserve_exact-clause-commands : goal.returns-in_err-reserve_exact-clause-commands
returns-in_err-reserve_exact-clause-commands c = λ content old new turns.
    let s = c.args.depot.now in
    let ch = seen s c.args.channel.now in
    let m = c.args.consume.now in
    let p = err_from_is_err_and c.from_residual-in_err-reserve_exact.result c.from_residual-in_err-reserve_exact.ensures.1 in
    rw (p.1, p.2) (sym (subst (λ (t : Topology). None ≡ refusal_of_consume t ch m) c.topology.ensures (c.in_ok-place.ensures.refusal (queue_names s.topology.queues))))

pub returns-in_err-tag-clause-commands : goal.returns-in_err-tag-clause-commands
returns-in_err-tag-clause-commands c = λ content old new turns.
    let s = c.args.depot.now in
    let ch = seen s c.args.channel.now in
    let m = c.args.consume.now in
    let names = queue_names s.topology.queues in
    let free : refusal_of_consume s.topology ch m ≡ None = sym (subst (λ (t : Topology). None ≡ refusal_of_consume t ch m) c.topology.ensures (c.in_ok-place.ensures.refusal names)) in
    let p = err_from_is_err_and c.from_residual-in_err-tag.result c.from_residual-in_err-tag.ensures.1 in
    rw (p.1, p.2)
    (not_made s.topology names c.args.channel.now c.consume.new.self m c.in_ok-place.place c.in_err-tag.field-0.0 (λ x. Performs s.topology (state_of s old) c.args.id.connection c.args.id.number ch (BasicConsume m) content x.sends.items x.notes.items (state_of s new)) free c.in_err-tag.ensures)

pub returns : goal.returns
returns c =
    let s = c.args.depot.now in
    let ch = c.args.channel.now in
    let m = c.args.consume.now in
    let names = queue_names s.topology.queues in
    let at : IsQueueIndex s.topology m.queue c.in_ok-place.place = subst (λ (t : Topology). IsQueueIndex t m.queue c.in_ok-place.place) c.topology.ensures c.in_ok-place.ensures.index in
    let free : refusal_of_consume s.topology (seen s ch) m ≡ None = sym (subst (λ (t : Topology). None ≡ refusal_of_consume t (seen s ch) m) c.topology.ensures (c.in_ok-place.ensures.refusal names)) in
    record {
      commands = λ content old new turns. (
        free,
        consumed c.args.id.connection c.args.id.number c.in_ok-place.place s ch c.consume.new.self m c.in_ok-tag.tag c.answer_consume.new.step.sends.items c.answer_consume.new.step.notes.items old new at c.in_ok-tag.ensures
            c.answer_consume.ensures.sends (c.answer_consume.ensures.notes ∙ c.nothing-step.ensures.notes) turns,
      );
      addressed = λ said.
          c.answer_consume.ensures.addressed
          (subst (λ (tag : Text). length tag < 256) (sym (c.in_ok-tag.ensures.named names)) (tag_short (seen s ch) m (none_against s.topology (seen s ch) m free) said.1.1.0));
      in_range = placed_made s.topology ch c.consume.new.self c.in_ok-place.place m c.in_ok-tag.tag at.within c.in_ok-tag.ensures c.ghost_numbers_rise.ensures c.requires;
      err = tt;
    }
