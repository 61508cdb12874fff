use Rattle.commands.proofs.Names.{Internal, Absent}
use Rattle.exchange_graph.specs.declared.routes.Access.TheVariants.{Open}
use Rattle.commands.proofs.Exchanges.{refused_by}
use Rattle.commands.proofs.refusals.publishes.check_access.Goals as goal

pub returns-in-Open : goal.returns-in-Open
returns-in-Open c = λ t exchange reported. refused_by t exchange c.args.access Open reported (cc)

pub returns-in-Internal : goal.returns-in-Internal
returns-in-Internal c = λ t exchange reported. refused_by t exchange c.args.access Internal reported (cc)

pub returns-in-Absent : goal.returns-in-Absent
returns-in-Absent c = λ t exchange reported. refused_by t exchange c.args.access Absent reported (cc)
