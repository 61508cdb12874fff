use Rattle.state_routes.proofs.Names.{◌∙◌, arith, length, exit_at, open_through, open_ways}
use Rattle.state_routes.proofs.Spreading.{all_reached, fewer_left, none_left, place_within, spreads_on}
use Rattle.state_routes.proofs.following.follow.Goals as goal

pub leave-requires-clause-place : goal.leave-requires-clause-place
leave-requires-clause-place c =
    place_within (open_through c.args.mode c.args.exits.now c.args.accepted.now) c.args.start (length c.args.exits.now) c.in-Some.place c.places.marks c.places.rest.items _ c.places.invariant.spread c.in-Some.ensures.items c.places.invariant.size

pub places-preserved : goal.places-preserved
places-preserved c = record {
  size = c.in_ok-leave.ensures.size ∙ c.places.invariant.size;
  spread =
      spreads_on c.args.mode c.args.exits.now c.args.accepted.now c.args.start c.in-Some.place c.places.marks _ c.places.rest.items _ _ c.requires.bounded
      (place_within (open_through c.args.mode c.args.exits.now c.args.accepted.now) c.args.start (length c.args.exits.now) c.in-Some.place c.places.marks c.places.rest.items _ c.places.invariant.spread c.in-Some.ensures.items c.places.invariant.size)
      c.places.invariant.spread c.in-Some.ensures.items c.in_ok-leave.ensures;
}

pub places-smaller : goal.places-smaller
places-smaller c =
    fewer_left (open_ways c.args.mode (exit_at c.args.exits.now c.in-Some.place).gates (exit_at c.args.exits.now c.in-Some.place).alternates c.args.accepted.now) c.in-Some.place c.places.marks _ c.places.rest.items _ _ c.in-Some.ensures.items c.in_ok-leave.ensures

pub returns : goal.returns
returns c =
    all_reached (open_through c.args.mode c.args.exits.now c.args.accepted.now) c.args.start (length c.args.exits.now) c.places.marks c.places.rest.items c.places.invariant.size
    (let e = c.in_default.ensures.cases.0 in none_left c.places.rest.items (omega (arith, e))) c.places.invariant.spread
