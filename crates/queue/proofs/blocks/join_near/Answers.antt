use Rattle.queue.proofs.Names.{◌≡◌, List, length, subst, arith, rules, inl, inr, vec_len, Stretch, IsPair, AreNeeded}
use Rattle.queue.proofs.Filled.{filled_needed, filled_taken_in, filled_with_next}
use Rattle.queue.proofs.blocks.join_near.Goals as goal

pub join_at-requires-clause-within : goal.join_at-requires-clause-within
join_at-requires-clause-within c =
    let w = c.requires.within in
    let l : vec_len c.args.blocks.now ≡ length c.args.blocks.now.items = search rules in
    let pair = subst (λ (bs : List Stretch). IsPair c.args.place c.in-Some.first bs) c.deref.ensures.value c.in-Some.ensures.some in
    elim pair.near [
      | inl q ↦ let e = q.0 in let m = q.1 in omega (arith, e, m, l)
      | inr q ↦ omega (arith, q, w)
    ]

pub join_at-requires-clause-fit : goal.join_at-requires-clause-fit
join_at-requires-clause-fit c = (subst (λ (bs : List Stretch). IsPair c.args.place c.in-Some.first bs) c.deref.ensures.value c.in-Some.ensures.some).fit

pub returns-in-Some-clause-room : goal.returns-in-Some-clause-room
returns-in-Some-clause-room c =
    let w = c.requires.within in
    let l : vec_len c.args.blocks.now ≡ length c.args.blocks.now.items = search rules in
    let pair = subst (λ (bs : List Stretch). IsPair c.args.place c.in-Some.first bs) c.deref.ensures.value c.in-Some.ensures.some in
    c.join_at.ensures.room (elim pair.near [
      | inl q ↦ let e = q.0 in let m = q.1 in omega (arith, e, m, l)
      | inr q ↦ omega (arith, q, w)
    ])

pub returns-in-Some-clause-filled : goal.returns-in-Some-clause-filled
returns-in-Some-clause-filled c most f =
    let pair = subst (λ (bs : List Stretch). IsPair c.args.place c.in-Some.first bs) c.deref.ensures.value c.in-Some.ensures.some in
    elim pair.near [
      | inl q ↦ filled_with_next most c.args.blocks.now.items c.join_at.new.blocks.items c.args.place c.in-Some.first q.0 q.1 pair.fit.some c.join_at.ensures.joined f
      | inr q ↦ filled_taken_in most c.args.blocks.now.items c.join_at.new.blocks.items c.args.place c.in-Some.first q pair.fit.some c.join_at.ensures.joined f
    ]

pub returns-in-None-clause-filled : goal.returns-in-None-clause-filled
returns-in-None-clause-filled c most f =
    let w = c.requires.within in
    let l : vec_len c.args.blocks.now ≡ length c.args.blocks.now.items = search rules in
    filled_needed most c.args.blocks.now.items c.args.place (omega (arith, w, l)) c.requires.left
    (subst (λ (bs : List Stretch). AreNeeded c.args.place bs) c.deref.ensures.value c.in-None.ensures.none) f
