use Rattle.reloading.proofs.Names.{ℕ, Option, sym, subst, inl, inr, Message, EndangersBelow, ReportsMessage, ReportsBelow, Danger, bound_of, joined, kept}
use Rattle.reloading.proofs.Narrowed.{SoFar, bound_within, entries_all, entries_end, entries_more, some_spared, spared_now, spared_still}
use Rattle.reloading.proofs.breaches.first_of_entries.Goals as goal

pub endangered_next-requires-clause-bound : goal.endangered_next-requires-clause-bound
endangered_next-requires-clause-bound g c =
    rw c.bound_of-left.ensures
    (bound_within (SoFar c.args.topology.now c.args.guarantees.now c.args.bound (g.S.LiveQueues.entries c.args.live.now) c.args.place c.args.queue.now c.entries.entry-iterator) c.args.guarantees.now c.args.bound c.entries.found c.requires.bound c.entries.invariant.0)

pub endangered_next-requires-clause-passed : goal.endangered_next-requires-clause-passed
endangered_next-requires-clause-passed g c =
    rw c.bound_of-left.ensures
    (some_spared (kept c.entries.passed) (λ (m : Message). EndangersBelow c.args.topology.now c.args.guarantees.now (bound_of c.entries.found c.args.bound) c.args.queue.now m) c.like_at-like.result c.like_at-like.ensures.kept c.entries.invariant.1)

pub returns-then-ends_at : goal.returns-then-ends_at
returns-then-ends_at g c =
    let t = c.args.topology.now in
    let gs = c.args.guarantees.now in
    let es = g.S.LiveQueues.entries c.args.live.now in
    let e = c.in-Some.entry.now in
    let more = subst (λ (n : ℕ). ReportsBelow (ReportsMessage t c.args.queue.now e.message) gs n c.in_ok-more.more) c.bound_of-left.ensures c.in_ok-more.ensures in
    let now = entries_more t gs c.args.bound es c.args.place c.args.queue.now e c.entries.entry-iterator c.next.new.self c.entries.found c.in_ok-more.more c.in-Some.ensures.steps c.entries.invariant.0 more in
    entries_end t gs c.args.bound es c.args.place c.args.queue.now c.args.least c.next.new.self c.joined-found.result c.requires.least (c.ends_at.ensures c.if-ends_at.true)
    (subst (λ (z : Option Danger). ReportsBelow (SoFar t gs c.args.bound es c.args.place c.args.queue.now c.next.new.self) gs c.args.bound z) (sym c.joined-found.ensures) now)

pub entries-preserved : goal.entries-preserved
entries-preserved g c =
    let t = c.args.topology.now in
    let gs = c.args.guarantees.now in
    let es = g.S.LiveQueues.entries c.args.live.now in
    let q = c.args.queue.now in
    let e = c.in-Some.entry.now in
    let more = subst (λ (n : ℕ). ReportsBelow (ReportsMessage t q e.message) gs n c.in_ok-more.more) c.bound_of-left.ensures c.in_ok-more.ensures in
    let now = entries_more t gs c.args.bound es c.args.place q e c.entries.entry-iterator c.next.new.self c.entries.found c.in_ok-more.more c.in-Some.ensures.steps c.entries.invariant.0 more in (
      subst (λ (z : Option Danger). ReportsBelow (SoFar t gs c.args.bound es c.args.place q c.next.new.self) gs c.args.bound z) (sym c.joined-found.ensures) now,
      λ m i. subst (λ (z : Option Danger). EndangersBelow t gs (bound_of z c.args.bound) q m) (sym c.joined-found.ensures) (elim (c.keep.ensures m i) [
        | inl was ↦ spared_still t gs c.args.bound es c.args.place q m c.entries.found c.in_ok-more.more (ReportsMessage t q e.message) more (c.entries.invariant.1 m was)
        | inr is ↦ subst (λ (z : Message). EndangersBelow t gs (bound_of (joined c.in_ok-more.more c.entries.found) c.args.bound) q z) (sym is) (spared_now t gs c.args.bound es c.args.place q e.message c.entries.found c.in_ok-more.more more)
      ]),
      c.slot_of-slot.ensures,
    )

pub returns : goal.returns
returns g c = entries_all c.args.topology.now c.args.guarantees.now c.args.bound (g.S.LiveQueues.entries c.args.live.now) c.args.place c.args.queue.now c.entries.entry-iterator c.entries.found c.in-None.ensures.steps.0 c.entries.invariant.0
