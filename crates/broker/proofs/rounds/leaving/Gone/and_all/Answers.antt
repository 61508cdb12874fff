use Rattle.broker.proofs.Names.{◌<◌, ℕ, length, subst, ap, arith, option_copied, AreAdded}
use Rattle.std.proofs.Common.{◌≡◌}
use Rattle.broker.proofs.Adding.{IsFirstOf, first_more, first_all}
use Rattle.broker.proofs.rounds.leaving.Gone.and_all.Goals as goal

pub loop-index-preserved : goal.loop-index-preserved
loop-index-preserved c =
    let ks = c.in-Some.channel.now.given.consumers in
    let lt : c.loop-index.index < length ks = omega arith in
    record {
      added = first_more c.args.id.connection c.args.count c.args.id.number c.loop-index.index ks c.seat_at-seat.result c.pick_at.result c.args.self c.loop-index.gone c.and-gone.result c.args.named.now c.loop-index.named c.and-gone.new.named lt c.seat_at-seat.ensures c.pick_at.ensures
          c.loop-index.invariant.added c.and-gone.ensures;
    }

pub returns : goal.returns
returns c =
    let ks = c.in-Some.channel.now.given.consumers in
    let all : c.loop-index.index ≡ length ks = omega arith in
    first_all c.args.id.connection c.args.count c.args.id.number (option_copied c.args.channel) c.in-Some.channel.now c.args.self c.loop-index.gone c.args.named.now c.loop-index.named (ap option_copied c.in-Some.is)
    (subst (λ (n : ℕ). AreAdded c.args.id.connection (λ h k. (h ≡ c.args.id.number) × IsFirstOf n ks k) c.args.count c.args.self c.args.named.now c.loop-index.gone c.loop-index.named) all c.loop-index.invariant.added)
