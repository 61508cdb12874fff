use Rattle.definitions.proofs.judging.Entries.is_clear.Goals as goal

pub returns-in-Absent : goal.returns-in-Absent
returns-in-Absent c = rw (c.in-Absent.is, ← c.self.view_is) c.has_all_join.ensures

pub returns-in-OtherType : goal.returns-in-OtherType
returns-in-OtherType c = rw (c.in-OtherType.is, ← c.self.view_is) c.has_types.ensures

pub returns-in-NoOverflow : goal.returns-in-NoOverflow
returns-in-NoOverflow c = rw (c.in-NoOverflow.is, ← c.self.view_is) c.has_overflows.ensures
