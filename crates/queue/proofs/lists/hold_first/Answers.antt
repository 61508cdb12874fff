use Rattle.queue.proofs.Names.{◌≡◌, ◌∙◌, arith, ap, sym, is_some, length, vec_len, rules, is_ready, Entry, held_as}
use Rattle.std.proofs.Common.{set}
use Rattle.queue.proofs.Firsts.{first_in, nowhere_in}
use Rattle.queue.proofs.lists.hold_first.Goals as goal

pub index_mut-requires : goal.index_mut-requires
index_mut-requires c =
    let w = (first_in is_ready c.deref.ensures.value c.in-Some.ensures).within in
    let l : vec_len c.args.entries.now ≡ length c.args.entries.now.items = search rules in
    omega arith

pub returns-in-Some-clause-reported : goal.returns-in-Some-clause-reported
returns-in-Some-clause-reported c = sym (ap is_some ((first_in is_ready c.deref.ensures.value c.in-Some.ensures).found c.index_mut.result.now))

pub returns-in-Some-clause-entries : goal.returns-in-Some-clause-entries
returns-in-Some-clause-entries c =
    ap (λ (e : Entry). set c.args.entries.now.items c.in-Some.place e) (c.hold.ensures ∙ ap (held_as c.args.holder) c.index_mut.ensures.value)
    ∙ sym ((first_in is_ready c.deref.ensures.value c.in-Some.ensures).changed (held_as c.args.holder) c.index_mut.result.now)

pub returns-in-None-clause-reported : goal.returns-in-None-clause-reported
returns-in-None-clause-reported c = sym (ap is_some (nowhere_in is_ready c.deref.ensures.value c.in-None.ensures).found)

pub returns-in-None-clause-entries : goal.returns-in-None-clause-entries
returns-in-None-clause-entries c = sym ((nowhere_in is_ready c.deref.ensures.value c.in-None.ensures).changed (held_as c.args.holder))
