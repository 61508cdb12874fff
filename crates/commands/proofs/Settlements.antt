-- A tag is refused where it is not outstanding.
use Rattle.commands.proofs.Names.{◌≡◌, ◌∙◌, ℕ, List, Bool, true, false, None, map, filter, refl, sym, ap, option_map, is_some, false≢true, Text, takes, is_refused, settled, Of_channel, refusal_of_settling, tag_of, open_in, outstanding_in, Delivery}
use Rattle.std.proofs.Common.{Some}
use Rattle.std.specs.Prelude.{if◌then◌else◌}
use Rattle.model.specs.Broker as seen
use Rattle.model.specs.Step as step
use Rattle.channels.specs.Open.{Open}
use Rattle.commands.proofs.Settled.{settled_seen}

-- a tag that settles something is accepted
pub accepted : (names : List Text) (ch : Open) (tag : ℕ) (multiple : Bool) (gone : List Delivery) → settled tag_of tag multiple ch.given.outstanding ≡ Some gone → refusal_of_settling (open_in names ch) tag multiple ≡ None
accepted names ch tag multiple gone e = go (is_refused step.tag_of tag multiple (map (outstanding_in names) ch.given.outstanding)) (settled_seen names tag multiple ch.given.outstanding ∙ ap (option_map (map (outstanding_in names))) e)
  where
    all : List seen.Outstanding
    all = filter (takes step.tag_of tag multiple) (map (outstanding_in names) ch.given.outstanding)

    go : (v : Bool) → (if v then None else Some all) ≡ Some (map (outstanding_in names) gone) → (if v then Some (Of_channel 406) else None) ≡ None
    go true f = absurd (false≢true (ap is_some f))
    go false f = refl

-- and one that settles nothing is refused
pub refused : (names : List Text) (ch : Open) (tag : ℕ) (multiple : Bool) → settled tag_of tag multiple ch.given.outstanding ≡ None → refusal_of_settling (open_in names ch) tag multiple ≡ Some (Of_channel 406)
refused names ch tag multiple e = go (is_refused step.tag_of tag multiple (map (outstanding_in names) ch.given.outstanding)) (settled_seen names tag multiple ch.given.outstanding ∙ ap (option_map (map (outstanding_in names))) e)
  where
    all : List seen.Outstanding
    all = filter (takes step.tag_of tag multiple) (map (outstanding_in names) ch.given.outstanding)

    go : (v : Bool) → (if v then None else Some all) ≡ None → (if v then Some (Of_channel 406) else None) ≡ Some (Of_channel 406)
    go true f = refl
    go false f = absurd (false≢true (sym (ap is_some f)))
