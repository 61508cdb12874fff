use Rattle.depot.proofs.Names.{◌≡◌, ◌<◌, ◌∙◌, ℕ, arith, refl, sym, ap, set, None, Some, is_ready, number_of, ready_count, Note}
use Rattle.std.specs.Prelude.{find}
use Rattle.notes.specs.Numbered.{numbered}
use Rattle.queue.proofs.Slotted.{ready_less, none_left}
use Rattle.depot.proofs.Purged.{numbered-numbered, purging_begins, purging_at, purging_within, purging_next, purging_ends}
use Rattle.depot.proofs.purging.take_ready.Goals as goal

pub taking-init : goal.taking-init
taking-init c = record {
  same = λ n. refl;
  purging = purging_begins c.args.note c.args.queue.now.entries c.args.first c.args.notes.now.items c.requires.within c.requires.blank;
}

pub set_number-requires : goal.set_number-requires
set_number-requires c =
    let i = c.taking.invariant in
    purging_at _ _ _ _ _ _ c.in-Some.entry i.purging (sym c.in-Some.ensures.taken) ∙ ap (λ (x : Note). Some x) (sym (i.same 0))

pub overflow_add-place : goal.overflow_add-place
overflow_add-place c =
    let within = purging_within _ _ _ _ _ _ c.in-Some.entry c.taking.invariant.purging (sym c.in-Some.ensures.taken) in
    let small = c.taking.notes.small in
    omega (arith, within, small)

pub taking-smaller : goal.taking-smaller
taking-smaller c =
    let r = ready_less c.taking.queue.entries c.in-Some.entry c.in-Some.ensures.taken in
    let q = ap ready_count c.in-Some.ensures.entries in
    let less : ready_count c.take_first.new.self.entries < ready_count c.taking.queue.entries = omega arith in
    less

pub taking-preserved : goal.taking-preserved
taking-preserved c =
    let i = c.taking.invariant in
    let reported = c.set_number.ensures in
    let number : numbered c.number.result c.taking.note ≡ numbered (number_of c.in-Some.entry) c.args.note = ap (λ (n : ℕ). numbered n c.taking.note) c.number.ensures ∙ i.same (number_of c.in-Some.entry) in
    record {
      same = λ n. ap (numbered n) reported.note ∙ numbered-numbered n _ _ ∙ i.same n;
      purging = purging_next _ _ _ _ _ _ c.in-Some.entry _ _ i.purging (sym c.in-Some.ensures.taken) (reported.items ∙ ap (λ (x : Note). set c.taking.notes.items c.taking.place x) number) c.in-Some.ensures.entries;
    }

pub returns-clause-noted : goal.returns-clause-noted
returns-clause-noted c =
    let none : find is_ready c.taking.queue.entries ≡ None = sym c.take_first.ensures.taken ∙ c.in_default.is in
    purging_ends _ _ _ _ _ _ c.taking.invariant.purging none

pub returns-clause-entries : goal.returns-clause-entries
returns-clause-entries c =
    let none : find is_ready c.taking.queue.entries ≡ None = sym c.take_first.ensures.taken ∙ c.in_default.is in
    c.take_first.ensures.entries ∙ none_left c.taking.queue.entries none ∙ c.taking.invariant.purging.rest
