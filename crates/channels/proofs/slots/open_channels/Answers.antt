use Rattle.channels.proofs.Imports.{◌≡◌, ◌∙◌, ap, arith, ℕ, None, Some, ◌∷◌, replicate, new_channel, open_in}
use Rattle.channels.proofs.Opening.{opened_next}
use Rattle.channels.proofs.slots.open_channels.Goals as goal

pub push_reserved-requires-in-loop-number : goal.push_reserved-requires-in-loop-number
push_reserved-requires-in-loop-number c = let i = c.loop-number.invariant in let len = i.len in let room = i.room in let t = c.loop-number-test.true in omega arith

pub loop-number-preserved : goal.loop-number-preserved
loop-number-preserved c =
    let i = c.loop-number.invariant in
    let len = i.len in
    let room = i.room in
    let pushed = c.push_reserved-in-loop-number.ensures.len in
    let capacity = c.push_reserved-in-loop-number.ensures.capacity in
    record {
      items = λ names. opened_next names c.loop-number.channels.items c.push_reserved-in-loop-number.new.self.items c.new.result c.loop-number.number c.push_reserved-in-loop-number.ensures.items (ap (open_in names) c.new.ensures) (i.items names);
      len = omega arith;
      room = omega arith;
    }

pub returns : goal.returns
returns c = λ names.
    let low = c.loop-number-test.false in
    let high = c.loop-number.auto.number-end in
    let end : c.loop-number.number ≡ c.args.count = omega arith in
    c.loop-number.invariant.items names ∙ ap (λ (n : ℕ). None ∷ replicate n (Some new_channel)) end
