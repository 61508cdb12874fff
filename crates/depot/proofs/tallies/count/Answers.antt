use Rattle.depot.proofs.Names.{◌≡◌, ◌∙◌, ◌<◌, ◌+◌, length, Option, sym, subst, arith, entries_of, Tally}
use Rattle.std.specs.Prelude.{IfSome}
use Rattle.depot.proofs.Tallying.{refuses_full, takes_more}
use Rattle.depot.proofs.tallies.count.Goals as goal

pub returns-then-refuses : goal.returns-then-refuses
returns-then-refuses c =
    let lt : c.args.place < length c.args.declared.now = omega (arith, c.requires.within, c.requires.len) in
    refuses_full c.args.declared.now (entries_of c.args.queues.now) c.args.tallies.now.entries c.args.place c.args.size c.index-declared-place.result c.tally_of-tally.result lt c.index-declared-place.is
    (sym c.has_limit.ensures ∙ c.if-not-has_limit.false) c.tally_of-tally.ensures (sym c.refuses.ensures ∙ c.if-refuses.true)

pub returns-in-Ok : goal.returns-in-Ok
returns-in-Ok c =
    let lt : c.args.place < length c.args.declared.now = omega (arith, c.requires.within, c.requires.len) in
    takes_more c.args.declared.now (entries_of c.args.queues.now) c.args.tallies.now.entries c.insert.new.self.entries c.args.place c.args.size c.index-declared-place.result c.tally_of-tally.result c.in_ok-more.more lt
    c.index-declared-place.is (sym c.has_limit.ensures ∙ c.if-not-has_limit.false) c.tally_of-tally.ensures (sym c.refuses.ensures ∙ c.if-refuses.false)
    (subst (λ (o : Option Tally). IfSome o (λ (t : Tally). t.ready ≡ c.tally_of-tally.result.ready + 1)) c.in_ok-more.ensures.ok_part c.with_one.ensures.ready)
    (subst (λ (o : Option Tally). IfSome o (λ (t : Tally). t.bytes ≡ c.tally_of-tally.result.bytes + c.args.size)) c.in_ok-more.ensures.ok_part c.with_one.ensures.bytes)
    c.in-Ok.ensures.updates.0
