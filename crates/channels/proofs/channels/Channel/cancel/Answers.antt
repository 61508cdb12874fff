use Rattle.channels.proofs.Imports.{sym, subst, not, AreNumbered, TagsDiffer, is_named, Consumer, Open}
use Rattle.channels.proofs.Making.{named_out}
use Rattle.channels.proofs.Numbering.{numbered_filter}
use Rattle.channels.proofs.Tagging.{differ_filter}
use Rattle.channels.proofs.channels.Channel.cancel.Goals as goal

pub invariant_of-self : goal.invariant_of-self
invariant_of-self c = (
  c.self.invariant.0,
  c.remove_by_tag.ensures.counted _ c.self.invariant.1,
  subst (AreNumbered c.self.inside.next_number) (sym c.remove_by_tag.ensures.consumers) (numbered_filter c.self.inside.next_number (λ (x : Consumer). not (is_named c.args.tag.now x)) c.self.inside.consumers.consumers c.self.invariant.2),
  c.self.invariant.3,
  subst TagsDiffer (sym c.remove_by_tag.ensures.consumers) (differ_filter (λ (x : Consumer). not (is_named c.args.tag.now x)) c.self.inside.consumers.consumers c.self.invariant.4),
)

pub returns-clause-seen : goal.returns-clause-seen
returns-clause-seen c names =
    let i = c.self.inside in
    let old : Open = record {
      confirm = i.confirm;
      is_closing = i.is_closing;
      given = record {
        next_tag = i.next_tag;
        next_number = i.next_number;
        next_name = i.next_name;
        each_limit = i.each_limit;
        limit = i.limit;
        consumers = i.consumers.consumers;
        outstanding = i.pending.outstanding;
        room = i.pending.room;
        consumer_room = i.consumers.room;
      };
    } in
    rw (← c.self.view_is) (named_out names c.args.tag.now old c.remove_by_tag.new.self.consumers c.remove_by_tag.new.self.room c.remove_by_tag.ensures.consumers)
