use Rattle.queue.proofs.Names.{◌≡◌, ◌∙◌, ◌+◌, ◌++◌, arith, ap, sym, Some, ℕ, take, drop, length, vec_len, rules, suc, is_ready}
use Rattle.queue.proofs.Firsts.{first_in, nowhere_in}
use Rattle.queue.proofs.lists.take_first.Goals as goal

pub take_at-requires : goal.take_at-requires
take_at-requires c =
    let w = (first_in is_ready c.deref.ensures.value c.in-Some.ensures).within in
    let l : vec_len c.args.entries.now ≡ length c.args.entries.now.items = search rules in
    omega arith

pub returns-in-Some-clause-taken : goal.returns-in-Some-clause-taken
returns-in-Some-clause-taken c = ap Some c.take_at.ensures.entry ∙ sym ((first_in is_ready c.deref.ensures.value c.in-Some.ensures).found c.take_at.result)

pub returns-in-Some-clause-entries : goal.returns-in-Some-clause-entries
returns-in-Some-clause-entries c =
    let next : c.in-Some.place + 1 ≡ suc c.in-Some.place = omega arith in
    c.take_at.ensures.entries ∙ ap (λ (n : ℕ). take c.in-Some.place c.args.entries.now.items ++ drop n c.args.entries.now.items) next ∙ sym (first_in is_ready c.deref.ensures.value c.in-Some.ensures).left

pub returns-in-None-clause-taken : goal.returns-in-None-clause-taken
returns-in-None-clause-taken c = sym (nowhere_in is_ready c.deref.ensures.value c.in-None.ensures).found

pub returns-in-None-clause-entries : goal.returns-in-None-clause-entries
returns-in-None-clause-entries c = sym (nowhere_in is_ready c.deref.ensures.value c.in-None.ensures).left
