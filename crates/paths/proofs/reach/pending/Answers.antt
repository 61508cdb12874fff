use Rattle.paths.proofs.Names.{sym, ◌∙◌, refl, arith, ℕ, List, get_or, slice_index_or, Hop}
use Rattle.std.specs.Prelude.{false}
use Rattle.paths.proofs.Chains.{none_more, none_all, in_place, not_out, out, at_itself}
use Rattle.paths.proofs.reach.pending.Goals as goal

abbrev none : Hop
none = record { from = 0; to = 0 }

abbrev item : List Hop → ℕ → Hop
item links i = get_or links i none

pub leads_out-requires-clause-from : goal.leads_out-requires-clause-from
leads_out-requires-clause-from c = (c.requires (item c.args.links.now c.loop-link.link-index) (in_place c.args.links.now c.loop-link.link-index (item c.args.links.now c.loop-link.link-index) (omega arith) (at_itself c.args.links.now c.loop-link.link-index none (omega arith)))).0

pub leads_out-requires-clause-to : goal.leads_out-requires-clause-to
leads_out-requires-clause-to c = (c.requires (item c.args.links.now c.loop-link.link-index) (in_place c.args.links.now c.loop-link.link-index (item c.args.links.now c.loop-link.link-index) (omega arith) (at_itself c.args.links.now c.loop-link.link-index none (omega arith)))).1

pub returns-then-leads_out-clause-is : goal.returns-then-leads_out-clause-is
returns-then-leads_out-clause-is c =
    let o = out (slice_index_or c.args.marks.now (item c.args.links.now c.loop-link.link-index).from false) (slice_index_or c.args.marks.now (item c.args.links.now c.loop-link.link-index).to false) (sym c.leads_out.ensures ∙ c.if-leads_out.true) in
    (item c.args.links.now c.loop-link.link-index, in_place c.args.links.now c.loop-link.link-index (item c.args.links.now c.loop-link.link-index) (omega arith) (at_itself c.args.links.now c.loop-link.link-index none (omega arith)), refl, o.0, o.1)

pub returns-then-leads_out-clause-within : goal.returns-then-leads_out-clause-within
returns-then-leads_out-clause-within c = (c.requires (item c.args.links.now c.loop-link.link-index) (in_place c.args.links.now c.loop-link.link-index (item c.args.links.now c.loop-link.link-index) (omega arith) (at_itself c.args.links.now c.loop-link.link-index none (omega arith)))).1

pub loop-link-preserved : goal.loop-link-preserved
loop-link-preserved c =
    none_more c.args.links.now c.args.marks.now c.loop-link.link-index (item c.args.links.now c.loop-link.link-index) c.loop-link.invariant (at_itself c.args.links.now c.loop-link.link-index none (omega arith))
    (not_out (slice_index_or c.args.marks.now (item c.args.links.now c.loop-link.link-index).from false) (slice_index_or c.args.marks.now (item c.args.links.now c.loop-link.link-index).to false) (sym c.leads_out.ensures ∙ c.if-leads_out.false))

pub returns-clause-is : goal.returns-clause-is
returns-clause-is c = none_all c.args.links.now c.args.marks.now c.loop-link.link-index (omega arith) c.loop-link.invariant
