use Rattle.broker.proofs.Names.{◌∙◌, ◌++◌, [], ◌∷◌, set, sym, ap, subst, Pick, Queue, Rounds, line_of, awake_member, AllAddTheirOwn, CanJoin, NobodyFallsAsleep}
use Rattle.std.proofs.Common.{◌≡◌}
use Rattle.broker.proofs.Coming.{comes_in, comes_last, comes_awake}
use Rattle.broker.proofs.Marked.{borrowed, marked_set}
use Rattle.broker.proofs.Outcomes.{some_holds, if_holds}
use Rattle.broker.proofs.rounds.ConsumerRounds.join.Goals as goal

pub invariant_of-self : goal.invariant_of-self
invariant_of-self c =
    let lines = c.self.inside.lines.items in
    let queue = c.in-Some.field-0.queue in
    let can : CanJoin lines c.in-Some.field-0 = subst (λ (r : Rounds). CanJoin r.lines c.in-Some.field-0) (sym c.self.view_is) (some_holds c.args.newcomer c.in-Some.field-0 (CanJoin c.args.self.now.lines) c.in-Some.is c.requires) in
    marked_set lines queue c.join-place.new.self can.within c.self.inside.awake c.set.new.self c.self.inside.named c.set.ensures.size c.set.ensures.set c.self.invariant.0 c.self.invariant.1

pub returns-then-is_of-clause-joined : goal.returns-then-is_of-clause-joined
returns-then-is_of-clause-joined c =
    let lines = c.self.inside.lines.items in
    let queue = c.in-Some.field-0.queue in
    let p = c.in-Some.field-0.consumer in
    let can : CanJoin lines c.in-Some.field-0 = subst (λ (r : Rounds). CanJoin r.lines c.in-Some.field-0) (sym c.self.view_is) (some_holds c.args.newcomer c.in-Some.field-0 (CanJoin c.args.self.now.lines) c.in-Some.is c.requires) in
    let is : c.join-place.new.self.order ≡ (line_of lines queue).order ++ awake_member p ∷ [] =
    ap (λ (l : Queue Pick). l.order) c.join-place.ensures ∙ ap (λ (l : Queue Pick). l.order ++ awake_member p ∷ []) (sym (borrowed lines queue c.index_mut.result.now can.within c.index_mut.ensures.value)) in
    if_holds c.args.newcomer c.in-Some.field-0 _ c.in-Some.is (λ its. comes_in lines queue c.join-place.new.self can.within p is)

pub returns-then-is_of-clause-adds : goal.returns-then-is_of-clause-adds
returns-then-is_of-clause-adds c =
    let lines = c.self.inside.lines.items in
    let queue = c.in-Some.field-0.queue in
    let p = c.in-Some.field-0.consumer in
    let can : CanJoin lines c.in-Some.field-0 = subst (λ (r : Rounds). CanJoin r.lines c.in-Some.field-0) (sym c.self.view_is) (some_holds c.args.newcomer c.in-Some.field-0 (CanJoin c.args.self.now.lines) c.in-Some.is c.requires) in
    let is : c.join-place.new.self.order ≡ (line_of lines queue).order ++ awake_member p ∷ [] =
    ap (λ (l : Queue Pick). l.order) c.join-place.ensures ∙ ap (λ (l : Queue Pick). l.order ++ awake_member p ∷ []) (sym (borrowed lines queue c.index_mut.result.now can.within c.index_mut.ensures.value)) in
    subst (λ (r : Rounds). AllAddTheirOwn c.args.core.now r.lines (set lines queue c.join-place.new.self)) c.self.view_is
    (comes_last lines queue c.join-place.new.self can.within p is c.args.core.now (sym c.is_of.ensures ∙ c.if-is_of.true) can.absent)

pub returns-then-is_of-clause-asleep : goal.returns-then-is_of-clause-asleep
returns-then-is_of-clause-asleep c =
    let lines = c.self.inside.lines.items in
    let queue = c.in-Some.field-0.queue in
    let p = c.in-Some.field-0.consumer in
    let can : CanJoin lines c.in-Some.field-0 = subst (λ (r : Rounds). CanJoin r.lines c.in-Some.field-0) (sym c.self.view_is) (some_holds c.args.newcomer c.in-Some.field-0 (CanJoin c.args.self.now.lines) c.in-Some.is c.requires) in
    let is : c.join-place.new.self.order ≡ (line_of lines queue).order ++ awake_member p ∷ [] =
    ap (λ (l : Queue Pick). l.order) c.join-place.ensures ∙ ap (λ (l : Queue Pick). l.order ++ awake_member p ∷ []) (sym (borrowed lines queue c.index_mut.result.now can.within c.index_mut.ensures.value)) in
    subst (λ (r : Rounds). NobodyFallsAsleep r.lines (set lines queue c.join-place.new.self)) c.self.view_is (comes_awake lines queue c.join-place.new.self can.within p is)
