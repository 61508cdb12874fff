use Rattle.std.proofs.Common.{◌≡◌, true}
use Rattle.topology_drafts.proofs.drafts.Draft.judge.Goals as goal

pub returns-then-not-is_worded : goal.returns-then-not-is_worded
returns-then-not-is_worded c =
    (c.is_distinct.ensures.0 c.if-not-is_distinct.false, c.joins.ensures.0 c.if-not-joins.false, c.has_exchanges_for_keys.ensures.0 c.if-not-has_exchanges_for_keys.false, λ h. (let z : c.is_worded.result ≡ true = c.is_worded.ensures.1 h in let w = c.if-not-is_worded.true in cc))

pub returns-then-not-is_small : goal.returns-then-not-is_small
returns-then-not-is_small c =
    (c.is_distinct.ensures.0 c.if-not-is_distinct.false, c.joins.ensures.0 c.if-not-joins.false, c.has_exchanges_for_keys.ensures.0 c.if-not-has_exchanges_for_keys.false, c.is_worded.ensures.0 c.if-not-is_worded.false, λ h. (let z : c.is_small.result ≡ true = c.is_small.ensures.1 h in let w = c.if-not-is_small.true in cc))

pub returns-then-not-leads : goal.returns-then-not-leads
returns-then-not-leads c =
    (c.is_distinct.ensures.0 c.if-not-is_distinct.false, c.joins.ensures.0 c.if-not-joins.false, c.has_exchanges_for_keys.ensures.0 c.if-not-has_exchanges_for_keys.false, c.is_worded.ensures.0 c.if-not-is_worded.false, c.is_small.ensures.0 c.if-not-is_small.false, λ h. (let z : c.leads.result ≡ true = c.leads.ensures.1 h in let w = c.if-not-leads.true in cc))

pub returns : goal.returns
returns c = record {
  distinct = c.is_distinct.ensures.0 c.if-not-is_distinct.false;
  join = c.joins.ensures.0 c.if-not-joins.false;
  keys = c.has_exchanges_for_keys.ensures.0 c.if-not-has_exchanges_for_keys.false;
  worded = c.is_worded.ensures.0 c.if-not-is_worded.false;
  small = c.is_small.ensures.0 c.if-not-is_small.false;
  lead = c.leads.ensures.0 c.if-not-leads.false;
}
