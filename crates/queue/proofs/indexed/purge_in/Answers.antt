use Rattle.queue.proofs.Names.{◌≡◌, ℕ, ◌∙◌, ◌++◌, ◌∷◌, [], ◌<◌, sym, ap, arith, List, map, filter, None, find, is_ready, Entry, ready_count, number_of}
use Rattle.std.proofs.Common.{not}
use Rattle.queue.proofs.Firsts.{rest_filtered}
use Rattle.queue.proofs.Slotted.{purged_more, ready_less, none_left}
use Rattle.queue.proofs.Purging.{purged_all}
use Rattle.queue.proofs.indexed.purge_in.Goals as goal

pub push_reserved-requires : goal.push_reserved-requires
push_reserved-requires c = let r = ready_less c.loop-entry.queue.entries c.in-Some.entry c.in-Some.ensures.taken in let i = c.loop-entry.invariant.1.1.0 in omega arith

pub loop-entry-smaller : goal.loop-entry-smaller
loop-entry-smaller c =
    let r = ready_less c.loop-entry.queue.entries c.in-Some.entry c.in-Some.ensures.taken in
    let q = ap ready_count c.in-Some.ensures.entries in
    let less : ready_count c.take_first.new.self.entries < ready_count c.loop-entry.queue.entries = omega arith in
    less

pub loop-entry-preserved : goal.loop-entry-preserved
loop-entry-preserved c =
    let i = c.loop-entry.invariant in
    let q = c.in-Some.ensures.entries in
    let r = ready_less c.loop-entry.queue.entries c.in-Some.entry c.in-Some.ensures.taken in
    let n = ap ready_count q in
    let l = c.push_reserved.ensures.len in
    let k = c.push_reserved.ensures.capacity in
    let room = i.1.1.0 in
    let kept = i.1.1.1.1 in (
      ap (λ (ns : List ℕ). ns ++ map number_of (filter is_ready c.take_first.new.self.entries)) c.push_reserved.ensures.items
          ∙ ap (λ (n : ℕ). (c.loop-entry.numbers.items ++ n ∷ []) ++ map number_of (filter is_ready c.take_first.new.self.entries)) c.number.ensures
          ∙ ap (λ (es : List Entry). (c.loop-entry.numbers.items ++ number_of c.in-Some.entry ∷ []) ++ map number_of (filter is_ready es)) q
          ∙ purged_more c.loop-entry.numbers.items c.loop-entry.queue.entries c.in-Some.entry c.in-Some.ensures.taken ∙ i.0,
      (
        ap (filter (λ e. not (is_ready e))) q ∙ rest_filtered is_ready c.loop-entry.queue.entries ∙ i.1.0,
        (
          omega arith,
          (k ∙ i.1.1.1.0, c.in-Some.ensures.room ∙ kept),
        ),
      ),
    )

pub returns-clause-entries : goal.returns-clause-entries
returns-clause-entries c =
    let none : find is_ready c.loop-entry.queue.entries ≡ None = sym c.take_first.ensures.taken ∙ c.in_default.is in
    c.take_first.ensures.entries ∙ none_left c.loop-entry.queue.entries none ∙ c.loop-entry.invariant.1.0

pub returns-clause-numbers : goal.returns-clause-numbers
returns-clause-numbers c =
    let none : find is_ready c.loop-entry.queue.entries ≡ None = sym c.take_first.ensures.taken ∙ c.in_default.is in
    purged_all c.loop-entry.numbers.items c.loop-entry.queue.entries none ∙ c.loop-entry.invariant.0
