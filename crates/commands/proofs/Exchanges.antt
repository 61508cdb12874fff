-- A publish is refused for what is said of clients' access to its exchange.
use Rattle.commands.proofs.Names.{◌≡◌, [], ◌∷◌, Option, None, Bool, true, false, refl, sym, ap, ◌∙◌, Text, Topology, Of_channel, refusal_to, refusal_at, exchange_named, Internal, Absent, access_at, access_to}
use Rattle.std.proofs.Common.{Some, if◌then◌else◌}
use Rattle.model.specs.Step.{Refusal}
use Rattle.model.specs.declared.topologies.Exchange.{Exchange}
use Rattle.exchange_graph.specs.declared.routes.Access.{Access}
use Rattle.exchange_graph.specs.declared.routes.Access.TheVariants.{Open}

-- why clients may not publish to an exchange
abbrev pub refusal_by : Access → Option Refusal
refusal_by Open = None
refusal_by Internal = Some (Of_channel 403)
refusal_by Absent = Some (Of_channel 404)

internal_or_open : (b : Bool) → (if b then Some (Of_channel 403) else None) ≡ refusal_by (if b then Internal else Open)
internal_or_open true = refl
internal_or_open false = refl

refused_at : (x : Option Exchange) → refusal_at x ≡ refusal_by (access_at x)
refused_at None = refl
refused_at (Some x) = internal_or_open x.internal

refused_to : (t : Topology) (name : Text) → refusal_to t name ≡ refusal_by (access_to t name)
refused_to t [] = refl
refused_to t (b ∷ bs) = refused_at (exchange_named t.exchanges (b ∷ bs))

pub refused_by : (t : Topology) (name : Text) (a b : Access) → a ≡ access_to t name → a ≡ b → refusal_by b ≡ refusal_to t name
refused_by t name a b e f = ap refusal_by (sym f ∙ e) ∙ sym (refused_to t name)
