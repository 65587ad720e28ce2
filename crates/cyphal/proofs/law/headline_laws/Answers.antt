use Rattle.cyphal.proofs.law.headline_laws.Goals as goal

pub returns : goal.returns
returns c = record {
  records = c.steps_follow.ensures.records;
  plain = c.nothing_served.ensures;
  served = c.something_served.ensures;
  sessions = c.reported.ensures;
  all = c.emptying.ensures.reported;
  fields = c.wire_explains_fields.ensures;
  once = c.once_in_part.ensures;
  due = c.due_in_report.ensures;
  order = c.ordered.ensures.order;
  values = c.values.ensures;
  due_values = c.due_values.ensures;
  namespaces = c.namespaces_keep_rules.ensures;
  plans = c.plans_keep_type_rules.ensures;
}
