use Rattle.channels.proofs.Imports.{◌∙◌, ◌+◌, ℕ, refl, sym, ap, get_or, set, List, counted_in, CountedConsumer}
use Rattle.model.specs.declared.messages.Taker.TheVariants as taker
use Rattle.std.proofs.lemmas.List.{get_or_default}
use Rattle.channels.proofs.Halving.{changed_once, changed_none, in_other, in_here}
use Rattle.channels.proofs.consumers.count_one_in.Goals as goal

pub returns-in-Some : goal.returns-in-Some
returns-in-Some c =
    let at = c.in-Some.ensures.some in
    let xs : List CountedConsumer = c.args.consumers.now in
    let place : ℕ = c.in-Some.place in
    let d : CountedConsumer = c.index-consumers-place-in-Some.result in
    ap (λ (h : ℕ). set xs place (record (get_or xs place d) { held = h })) (ap (λ (s : CountedConsumer). s.held + 1) (get_or_default xs place c.index-consumers-place.result d at.within))
    ∙ ap (set xs place) (sym (in_here c.args.number (get_or xs place d) (at.numbered d)))
    ∙ sym (changed_once (counted_in (taker.Consumer c.args.number)) c.args.number c.requires.rise.0 xs place d (in_other c.args.number) c.requires.rise.1 at.within (at.numbered d))

pub returns-in_default : goal.returns-in_default
returns-in_default c = sym (changed_none (counted_in (taker.Consumer c.args.number)) c.args.number c.args.consumers.now (in_other c.args.number) (c.in_default.ensures.none refl))
